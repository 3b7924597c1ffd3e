-- What is so of the number of too many tasks.
use Rattle.std.proofs.Common.{ℕ, List, Bool, true, false}
use Rattle.std.specs.Prelude.{[], ◌∷◌, bytes_eq, codes, if◌then◌else◌}
use Rattle.std.specs.Option.{option_map}
use Rattle.std.specs.declared.option.Option.{Option}
use Rattle.std.specs.Prelude.{Some, None}
use Rattle.outside_io.specs.Causes.{outcome_as}
use Rattle.run_session.specs.Asked.{IfTooMany}
use Rattle.run_session.specs.Ends.{session_outcome}
use Rattle.run_session.specs.declared.ends.SessionEnd.{SessionEnd}
use Rattle.run_session.specs.declared.ends.SessionEnd.TheVariants as session
use Rattle.lue_run.specs.declared.ended.Ended.{Ended}
use Rattle.lue_run.specs.declared.ended.Ended.TheVariants as top
use Rattle.lue_run.specs.Answers.{IfTooManyTold}
use Rattle.lue_run.specs.Course.{IsCountBy}
use Rattle.lue_run.specs.Ends.{OfScript, answer_for}
use Rattle.lue_run.specs.Words.{Make, Plain, last_model_number, number_named, plain_command, script_named}

-- what is so of the number that a run ends with is so of that of the answer
pub ended_so : (P : ℕ → Type 0) (end : SessionEnd) → IfTooMany end P → IfTooManyTold (answer_for (outcome_as OfScript (session_outcome end))) P
ended_so P (session.TooManyTasks count) so = so
ended_so P (session.Done files steps) so = tt
ended_so P (session.Missing name) so = tt
ended_so P (session.TooLong name) so = tt
ended_so P (session.Script fault) so = tt
ended_so P (session.Input name kind) so = tt
ended_so P (session.Overflow at) so = tt
ended_so P (session.FolderReadFault name) so = tt
ended_so P (session.FolderWriteFault name) so = tt
ended_so P session.Memory so = tt

-- the same of the number that a run ends with
pub too_many_less : (P Q : ℕ → Type 0) (end : SessionEnd) → ((count : ℕ) → P count → Q count) → IfTooMany end P → IfTooMany end Q
too_many_less P Q (session.TooManyTasks count) less so = less count so
too_many_less P Q (session.Done files steps) less so = tt
too_many_less P Q (session.Missing name) less so = tt
too_many_less P Q (session.TooLong name) less so = tt
too_many_less P Q (session.Script fault) less so = tt
too_many_less P Q (session.Input name kind) less so = tt
too_many_less P Q (session.Overflow at) less so = tt
too_many_less P Q (session.FolderReadFault name) less so = tt
too_many_less P Q (session.FolderWriteFault name) less so = tt
too_many_less P Q session.Memory less so = tt

-- what is so of each number for which something else is, is so of the number that is told
pub told_less : (P Q : ℕ → Type 0) (answer : Ended) → ((count : ℕ) → P count → Q count) → IfTooManyTold answer P → IfTooManyTold answer Q
told_less P Q (top.TooManyTasks count) less so = less count so
told_less P Q (top.OutFault instead) less so = λ same. let found = so same in (found.0, less found.0 found.1)
told_less P Q (top.Done files steps) less so = tt
told_less P Q (top.Made files) less so = tt
told_less P Q top.Usage less so = tt
told_less P Q (top.Missing name) less so = tt
told_less P Q (top.TooLong name) less so = tt
told_less P Q (top.Script fault) less so = tt
told_less P Q (top.Input name kind) less so = tt
told_less P Q (top.Overflow at) less so = tt
told_less P Q (top.FolderReadFault name) less so = tt
told_less P Q (top.FolderWriteFault name) less so = tt
told_less P Q top.Memory less so = tt

-- no command of two words counts tasks
no_count : (is_plain is_make : Bool) (script : Option (List ℕ)) (number : Option ℕ) (count : ℕ) →
    IsCountBy (if is_plain then option_map Plain script else if is_make then option_map Make number else None) count → ⊥
no_count true is_make (Some script) number count so = so
no_count true is_make None number count so = so
no_count false true script (Some number) count so = so
no_count false true script None count so = so
no_count false false script number count so = so

-- no command of `lue_plain` counts tasks
pub plain_uncounted : (words : List (List ℕ)) (count : ℕ) → IsCountBy (plain_command words) count → ⊥
plain_uncounted [] count so = so
plain_uncounted (word ∷ []) count so = so
plain_uncounted (word ∷ operand ∷ []) count so =
    no_count (bytes_eq word (codes "plain")) (bytes_eq word (codes "make")) (script_named operand) (number_named last_model_number operand) count so
plain_uncounted (word ∷ operand ∷ next ∷ more) count so = so
