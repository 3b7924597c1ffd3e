-- What is said of a number of tasks that is too large, from the parts of a run to its answer.
use Rattle.std.proofs.Common.{◌≡◌, ℕ, sym, subst}
use Rattle.std.specs.Prelude.{Ok, Err, Result, IfErr, IsErrAnd}
use Rattle.run_session.specs.declared.ends.Halt.{Halt}
use Rattle.run_session.specs.declared.ends.Halt.TheVariants as halt
use Rattle.run_session.specs.declared.ends.SessionEnd.{SessionEnd}
use Rattle.run_session.specs.declared.ends.SessionEnd.TheVariants as session
use Rattle.run_session.specs.declared.ends.Stop.{Stop}
use Rattle.run_session.specs.Asked.{IfTooMany}
use Rattle.run_session.specs.inside.Parts.{IfHasMany}

-- a `?` hands the number on
pub many_out : {Y : Type 0} (P : ℕ → Type 0) (result : Result Y Halt) (h : Halt) → IsErrAnd result (λ e. e ≡ h) → IfHasMany h P → IfErr result (λ e. IfHasMany e P)
many_out P (Ok y) h is p = tt
many_out P (Err e) h is p = subst (λ e. IfHasMany e P) (sym is) p

-- what follows of each number follows of that one
pub many_weaker : {Y : Type 0} (P Q : ℕ → Type 0) → ((n : ℕ) → P n → Q n) → (result : Result Y Halt) → IfErr result (λ e. IfHasMany e P) → IfErr result (λ e. IfHasMany e Q)
many_weaker P Q f (Ok y) p = tt
many_weaker P Q f (Err (halt.TooManyTasks n)) p = f n p
many_weaker P Q f (Err (halt.Stopped at)) p = tt

-- an answer without such a number satisfies all that is said of it
pub few_told : (P : ℕ → Type 0) (end : SessionEnd) → IfTooMany end (λ n. ⊥) → IfTooMany end P
few_told P (session.Done files steps) few = tt
few_told P (session.Missing name) few = tt
few_told P (session.TooLong name) few = tt
few_told P (session.Script fault) few = tt
few_told P (session.Input name kind) few = tt
few_told P (session.TooManyTasks n) few = absurd few
few_told P (session.Overflow at) few = tt
few_told P (session.FolderReadFault name) few = tt
few_told P (session.FolderWriteFault name) few = tt
few_told P session.Memory few = tt

-- the number that is answered is the one at which the run was not begun
pub many_told : (P : ℕ → Type 0) (end : SessionEnd) (h : Halt) → IfTooMany end (λ n. h ≡ halt.TooManyTasks n) → IfHasMany h P → IfTooMany end P
many_told P (session.Done files steps) h is p = tt
many_told P (session.Missing name) h is p = tt
many_told P (session.TooLong name) h is p = tt
many_told P (session.Script fault) h is p = tt
many_told P (session.Input name kind) h is p = tt
many_told P (session.TooManyTasks n) h is p = subst (λ h. IfHasMany h P) is p
many_told P (session.Overflow at) h is p = tt
many_told P (session.FolderReadFault name) h is p = tt
many_told P (session.FolderWriteFault name) h is p = tt
many_told P session.Memory h is p = tt
