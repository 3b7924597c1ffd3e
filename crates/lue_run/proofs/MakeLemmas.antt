-- The run of `make`, from that of its puts.
use Rattle.std.proofs.Common.{◌≡◌, ℕ, List, length, refl, subst}
use Rattle.std.specs.Prelude.{Result, Ok, Err}
use Rattle.outside_io.specs.State.{FolderState, PutPair}
use Rattle.outside_io.specs.Runs.{in_turn}
use Rattle.outside_io.specs.Causes.{RunOutcome, outcome_as, why_by}
use Rattle.outside_io.specs.Met.{Meets}
use Rattle.outside_io.specs.Puts.{no_error}
use Rattle.outside_io.proofs.Callers.{meets_end_as}
use Rattle.model_maker.specs.Files.{made_files}
use Rattle.lue_run.specs.Course.{made_put, make_run}
use Rattle.lue_run.specs.Ends.{CourseEnd, OfModel, why_of}

-- the end of the run
abbrev pub end_of_model : ℕ → Result (Unit {0}) ⊥ → CourseEnd
end_of_model number done = OfModel (length (made_files number))

same_why : (number : ℕ) (x : Result (Unit {0}) ⊥) → why_of (end_of_model number x) ≡ why_by no_error x
same_why number (Ok done) = refl
same_why number (Err e) = absurd e

-- what meets the puts of the files meets the run
pub puts_meet : (number : ℕ) (files : List PutPair) (old new : FolderState) (outcome : RunOutcome (Result (Unit {0}) ⊥)) → files ≡ made_files number
    → Meets (why_by no_error) (in_turn made_put tt files) old new outcome → Meets why_of (make_run number) old new (outcome_as (end_of_model number) outcome)
puts_meet number files old new outcome are m =
    meets_end_as (why_by no_error) why_of (end_of_model number) (same_why number) (in_turn made_put tt (made_files number)) old new outcome
    (subst (λ files. Meets (why_by no_error) (in_turn made_put tt files) old new outcome) are m)
