use Rattle.std.proofs.Common.{◌≡◌, ◌∙◌, List, ap, arith, length, refl}
use Rattle.std.proofs.Math.Seq.{take-append_seam}
use Rattle.cell_values.specs.declared.cell.Cell.{Cell}
use Rattle.tile_map.specs.declared.part.Part.{Part}
use Rattle.drain_ops.proofs.up.flow_up.Goals as goal

pub returns : goal.returns
returns g c =
    let cells : List Cell = c.pass_up.new.results in
    let many : c.in_ok-results.results.len ≡ length cells = omega arith in
    let same : c.from_vec.result ≡ cells = c.from_vec.ensures ∙ rw (many, take-append_seam) refl in
    let part : (List Cell → Part) = λ (cells : List Cell). record { cells = cells; over = c.in_ok-over.over } in
    ap part same ∙ c.in_ok-over.ensures
