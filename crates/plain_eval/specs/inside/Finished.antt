-- What stands after an operation.
use Rattle.std.specs.Prelude.{◌≡◌, ◌==◌, ◌&&◌, ℕ, List, [], ◌∷◌, ◌++◌, length, Option, None, slice_index_or, if◌then◌else◌}
use Rattle.map_meaning.specs.declared.known.Span.{Span}
use Rattle.map_meaning.specs.declared.known.StepMap.{StepMap}
use Rattle.map_meaning.specs.declared.program.Operation.{Operation}
use Rattle.map_meaning.specs.Maps.{WholeMap}
use Rattle.plain_eval.specs.inside.Held.{held_at}
use Rattle.plain_eval.specs.inside.Readers.{reads}

-- the maps kept so far, and that of an operation at a step where it is to be kept
abbrev pub with_kept : ℕ → List StepMap → ℕ → Operation → WholeMap → List StepMap
with_kept step kept n o m = if o.kept then kept ++ record { step = step; operation = n; cells = m } ∷ [] else kept

-- The maps that the operation n was the last to read are let go, and all others are as they were.
pub record LetsGo (s : Span) (last : List ℕ) (n : ℕ) (o : Operation) (before after : List (Option WholeMap)) : Type 0 where
  pub count : length after ≡ length before
  pub each : (k : ℕ) → held_at after k ≡ (if slice_index_or last k 0 == n && reads s k o then None else held_at before k)
