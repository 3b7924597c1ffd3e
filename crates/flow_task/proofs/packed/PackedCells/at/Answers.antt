use Rattle.std.proofs.Common.{rules, ◌∙◌, List, ap, arith, length, w64, SFits}
use Rattle.std.proofs.lemmas.Int.{to_z-of_z}
use Rattle.std.proofs.lemmas.List.{length-map}
use Rattle.cell_values.specs.declared.cell.Cell.{Cell}
use Rattle.tile_map.specs.Cuts.{cell_at}
use Rattle.flow_task.specs.inside.Packed.{unpacked_cell}
use Rattle.flow_task.proofs.PackedLemmas.{packed_at}
use Rattle.flow_task.proofs.packed.PackedCells.at.Goals as goal

pub index-requires : goal.index-requires
index-requires c =
    let many = length-map c.self.inside.numbers.items unpacked_cell in
    let seen = ap length c.self.view_is in
    omega (arith, many, seen, c.requires)

pub returns : goal.returns
returns c =
    let many = length-map c.self.inside.numbers.items unpacked_cell in
    let seen = ap length c.self.view_is in
    let fits : SFits w64 c.index.result.now = search rules in
    c.unpacked_cell.ensures
    ∙ (ap unpacked_cell (to_z-of_z w64 c.index.result.now fits)
    ∙ (packed_at c.self.inside.numbers.items c.args.place c.index.result.now _ (omega (arith, many, seen, c.requires)) c.index.ensures
    ∙ ap (λ (y : List Cell). cell_at y c.args.place) c.self.view_is))
