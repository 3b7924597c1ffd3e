use Rattle.std.proofs.Common.{◌≡◌, ℕ, List, length, map, ap, ◌∙◌}
use Rattle.std.specs.Prelude.{codes}
use Rattle.std.specs.List.{range_with_len}
use Rattle.std.proofs.lemmas.Result.{IfOk-weaker}
use Rattle.cell_values.specs.declared.cell.Cell.{Cell}
use Rattle.cell_values.specs.declared.kind.Kind.TheVariants.{Nominal}
use Rattle.model_maker.specs.Cells.{zone_cell, zone_cells}
use Rattle.model_maker.specs.Files.{made_file_at, grid_file}
use Rattle.model_maker.specs.Made.{file_made}
use Rattle.model_maker.proofs.FileLemmas.{length-zones, zones_at}
use Rattle.model_maker.proofs.files.DrawnModel.zone_file.Goals as goal

pub map_file-requires : goal.map_file-requires
map_file-requires c =
    let zones : c.deref.result.now ≡ zone_cells =
    c.deref.ensures.value ∙ c.in_ok-zones.ensures ∙ ap (λ (n : ℕ). map zone_cell (range_with_len 0 n)) c.cells_in_all.ensures.all in
    ap length zones ∙ length-zones

pub returns : goal.returns
returns c =
    let zones : c.deref.result.now ≡ zone_cells =
    c.deref.ensures.value ∙ c.in_ok-zones.ensures ∙ ap (λ (n : ℕ). map zone_cell (range_with_len 0 n)) c.cells_in_all.ensures.all in
    IfOk-weaker c.map_file.result _ (λ made. file_made made ≡ made_file_at c.args.self.now 2)
    (λ made e. e ∙ ap (λ (cells : List Cell). (codes "made_zone.asc", grid_file Nominal cells)) zones ∙ zones_at c.args.self.now)
    c.map_file.ensures
