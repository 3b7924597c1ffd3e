-- Chains of steps that may give nothing.
use Rattle.std.specs.Prelude.{Option, Some, None}

-- what the second step makes of what the first one gives: nothing where the first gives nothing
infixl 10 ◌>>=◌
abbrev pub ◌>>=◌ : {A B : Type 0} → Option A → (A → Option B) → Option B
None >>= next = None
(Some a) >>= next = next a
