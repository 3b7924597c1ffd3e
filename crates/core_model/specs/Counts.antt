-- Counts.
use Rattle.std.specs.Prelude.{ℕ, zero, suc, ◌+◌, Bool, List, [], ◌∷◌, if◌then◌else◌}
use Rattle.core_model.specs.declared.step.Step.{Step}

-- 1 where it is so, and else 0
abbrev pub flag : Bool → ℕ
flag b = if b then 1 else 0

-- the sum of a number of each step
abbrev pub tally : (Step → ℕ) → List Step → ℕ
tally f [] = 0
tally f (x ∷ xs) = f x + tally f xs

-- the sum of a number of each number below n
abbrev pub sum_below : ℕ → (ℕ → ℕ) → ℕ
sum_below zero f = 0
sum_below (suc n) f = sum_below n f + f n
