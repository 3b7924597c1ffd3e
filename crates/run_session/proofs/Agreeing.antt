-- An operation whose operands are the same gives the same.
use Rattle.std.proofs.Common.{◌≡◌, Bool, true, false, cond, [], ◌∷◌, map, refl, ap, ◌∙◌}
use Rattle.tile_map.specs.Parts.{part_of}
use Rattle.map_meaning.specs.declared.program.Operand.{Operand}
use Rattle.map_meaning.specs.declared.program.Operand.TheVariants.{Drain}
use Rattle.map_meaning.specs.declared.program.Operation.{Operation}
use Rattle.map_meaning.specs.declared.program.Program.{Program}
use Rattle.map_meaning.specs.Evaluation.{Done, operand_cell, operation_part}
use Rattle.map_meaning.specs.Maps.{CellAt}
use Rattle.map_meaning.specs.Programs.{IsOperationOf, kinds_of, operands_of}
use Rattle.map_meaning.specs.Rules.{outcome_of}
use Rattle.map_meaning.specs.Scenes.{Scene, place_count, setting_at}
use Rattle.map_meaning.specs.Table.{goes_along_drains}

module _ (program : Program) (scene : Scene) (x y : Done) (IsRead : Operand → Type 0)
    (agrees : (operand : Operand) → IsRead operand → operand_cell scene x operand ≡ operand_cell scene y operand) where
  abbrev cell_x : Operand → CellAt
  cell_x = operand_cell scene x

  abbrev cell_y : Operand → CellAt
  cell_y = operand_cell scene y

  -- the four operands
  four_same : (o : Operation) (keep : Bool) → IsOperationOf program IsRead keep o → map cell_x (operands_of o) ≡ map cell_y (operands_of o)
  four_same o keep is =
      let of = λ (a b c d : CellAt). a ∷ b ∷ c ∷ d ∷ [] in
      ap (λ z. of z (cell_x o.b) (cell_x o.c) (cell_x o.d)) (agrees o.a is.a)
      ∙ (ap (λ z. of (cell_y o.a) z (cell_x o.c) (cell_x o.d)) (agrees o.b is.b)
      ∙ (ap (λ z. of (cell_y o.a) (cell_y o.b) z (cell_x o.d)) (agrees o.c is.c)
      ∙ ap (λ z. of (cell_y o.a) (cell_y o.b) (cell_y o.c) z) (agrees o.d is.d)))

  -- with the drain map that an operation goes along
  all_same : (o : Operation) (along : Bool) → (along ≡ true → IsRead (Drain o.drain)) → map cell_x (operands_of o) ≡ map cell_y (operands_of o) →
      map cell_x (cond along (Drain o.drain ∷ operands_of o) (operands_of o)) ≡ map cell_y (cond along (Drain o.drain ∷ operands_of o) (operands_of o))
  all_same o true drain four = ap (λ z. z ∷ map cell_x (operands_of o)) (agrees (Drain o.drain) (drain refl)) ∙ ap (λ zs. cell_y (Drain o.drain) ∷ zs) four
  all_same o false drain four = four

  -- the map of an operation is the same where its operands are
  pub part_same : (o : Operation) (keep : Bool) → IsOperationOf program IsRead keep o → operation_part program scene x o ≡ operation_part program scene y o
  unfolding operation_part
  part_same o keep is =
      ap (λ cells. part_of (outcome_of o.op (setting_at scene o.file o.window (kinds_of program o)) cells) (place_count scene))
      (all_same o (goes_along_drains o.op) is.drain (four_same o keep is))
