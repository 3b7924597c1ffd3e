-- How tightly operators bind, as numbers: `or` 1, `xor` 2, `and` 3, `not` 4, comparisons 5, sums 6, products 7, a sign 8.
use Rattle.std.specs.Prelude.{ℕ, ◌+◌}
use Rattle.script_syntax.specs.declared.token.Operator.{Operator}
use Rattle.script_syntax.specs.declared.token.Operator.TheVariants as operators

-- how tightly an operator binds
abbrev pub level_of : Operator → ℕ
level_of operators.Or = 1
level_of operators.Xor = 2
level_of operators.And = 3
level_of (operators.Compare c) = 5
level_of (operators.Sum g) = 6
level_of (operators.Product f) = 7

-- how tightly its left operand is bound at least
abbrev pub left_level : Operator → ℕ
left_level operators.Or = 1
left_level operators.Xor = 2
left_level operators.And = 3
left_level (operators.Compare c) = 6
left_level (operators.Sum g) = 6
left_level (operators.Product f) = 7

-- how tightly its right operand is bound at least
abbrev pub right_level : Operator → ℕ
right_level o = level_of o + 1
