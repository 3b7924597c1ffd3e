-- The cells of operands are in the range of scalars.
use Rattle.std.proofs.Common.{◌≡◌, ℕ, ◌<◌, Bool, true, false, refl, arith}
use Rattle.std.proofs.lemmas.Int.{ints}
use Rattle.cell_values.specs.declared.cell.Cell.{Cell}
use Rattle.cell_values.specs.declared.cell.Cell.TheVariants.{Mv, Val}
use Rattle.cell_values.specs.declared.kind.Kind.{Kind}
use Rattle.cell_values.specs.declared.kind.Kind.TheVariants.{Boolean, Nominal, Ordinal, Scalar, Directional, Ldd}
use Rattle.cell_values.specs.Kinds.{IsCell}
use Rattle.map_meaning.specs.declared.program.Operand.{Operand}
use Rattle.map_meaning.specs.declared.program.Operand.TheVariants as from
use Rattle.map_meaning.specs.declared.program.Program.{Program}
use Rattle.map_meaning.specs.Evaluation.{Done, operand_cell}
use Rattle.map_meaning.specs.Programs.{is_unused}
use Rattle.map_meaning.specs.Scenes.{Scene, place_count}
use Rattle.span_operands.specs.inside.Held.{HasItsCells}

-- the cells of every kind are in the range of scalars
in_scalars : (kind : Kind) (x : Cell) → IsCell kind x → IsCell Scalar x
in_scalars kind Mv is = tt
in_scalars Boolean (Val z) is = record { least = omega (arith, ints, is.least); greatest = omega (arith, ints, is.greatest) }
in_scalars Nominal (Val z) is = record { least = omega (arith, ints, is.least); greatest = omega (arith, ints, is.greatest) }
in_scalars Ordinal (Val z) is = record { least = omega (arith, ints, is.least); greatest = omega (arith, ints, is.greatest) }
in_scalars Scalar (Val z) is = is
in_scalars Directional (Val z) is = record { least = omega (arith, ints, is.least); greatest = omega (arith, ints, is.greatest) }
in_scalars Ldd (Val z) is = record { least = omega (arith, ints, is.least); greatest = omega (arith, ints, is.greatest) }

-- so are those of an operand
pub operand_scalars : (program : Program) (scene : Scene) (done : Done) (operand : Operand) → HasItsCells program scene done operand → (place : ℕ) → place < place_count scene → IsCell Scalar (operand_cell scene done operand place)
operand_scalars program scene done operand has place below = by_use (is_unused operand) refl
  where
    none : (operand : Operand) → is_unused operand ≡ true → IsCell Scalar (operand_cell scene done operand place)
    none from.Unused is = tt
    none operand is = absurd (cc)

    by_use : (b : Bool) → is_unused operand ≡ b → IsCell Scalar (operand_cell scene done operand place)
    by_use true is = none operand is
    by_use false is = let found = has.kind is in in_scalars found.0 (operand_cell scene done operand place) (has.cells place found.0 found.1 below)
