-- Chains of steps that may fail.
use Rattle.std.specs.Prelude.{Result, Ok, Err}

-- what the second step makes of what the first one gives: the first one's fault where it fails
infixl 10 ◌>>=◌
abbrev pub ◌>>=◌ : {A B E : Type 0} → Result A E → (A → Result B E) → Result B E
(Ok a) >>= next = next a
(Err e) >>= next = Err e
