-- Ways along drain directions. Words of proofs and private contracts.
use Rattle.std.specs.Prelude.{◌≡◌, ℕ, List, [], ◌∷◌}
use Rattle.drain_meaning.specs.declared.next.Next.TheVariants as next
use Rattle.drain_meaning.specs.Drains.{DrainMap, next_at}

-- a walk from the first cell over these cells comes to the last one
abbrev pub IsWay : DrainMap → ℕ → List ℕ → ℕ → Type 0
IsWay m q [] at = next_at m q ≡ next.Cell at
IsWay m q (d ∷ via) at = (next_at m q ≡ next.Cell d) × IsWay m d via at

-- a walk of one step or more from one cell comes to the other
pub record Reaches (m : DrainMap) (q at : ℕ) : Type 0 where
  pub via : List ℕ
  pub way : IsWay m q via at
