use Rattle.std.proofs.Common.{List, ℕ, length, take, ◌++◌, ◌-◌, ◌+◌, ap, ◌∙◌, append_assoc}
use Rattle.std.specs.Prelude.{codes}
use Rattle.cell_values.specs.declared.cell.Cell.{Cell}
use Rattle.grid_text.specs.Written.{key_line, head_lines, row_line, row_lines, written_grid}
use Rattle.grid_text.proofs.RowLaws.{row_written, cells_left, rows_done}
use Rattle.grid_text.proofs.writer.write_grid.Goals as goal

pub loop-preserved : goal.loop-preserved
loop-preserved c =
    let e = c.split_at.ensures in
    record {
      whole =
          ap (λ (out : List ℕ). out ++ row_lines c.args.kind (c.args.rows - (c.loop.counter + 1)) c.args.cols c.split_at.result.1.now) c.in_ok-put_row.ensures
          ∙ ap (λ (row : List Cell). (c.loop.out.items ++ row_line c.args.kind row) ++ row_lines c.args.kind (c.args.rows - (c.loop.counter + 1)) c.args.cols c.split_at.result.1.now) e.front
          ∙ ap (λ (rest : List Cell). (c.loop.out.items ++ row_line c.args.kind (take c.args.cols c.loop.rest.now)) ++ row_lines c.args.kind (c.args.rows - (c.loop.counter + 1)) c.args.cols rest) e.back
          ∙ row_written c.args.kind c.args.rows c.loop.counter c.args.cols c.loop.rest.now c.loop.out.items _ c.loop-test.true c.loop.invariant.whole;
      left = ap length e.back ∙ cells_left c.args.rows c.loop.counter c.args.cols c.loop.rest.now c.loop-test.true c.loop.invariant.left;
    }

pub returns : goal.returns
unfolding written_grid
returns c =
    let head = head_lines c.args.rows c.args.cols c.args.head.now in
    let missing = key_line (codes "NODATA_value") (codes "1e31") in
    let rows = row_lines c.args.kind c.args.rows c.args.cols c.args.cells.now in
    rows_done c.args.kind c.args.rows c.loop.counter c.args.cols c.loop.rest.now c.loop.out.items _ c.loop-test.false c.loop.invariant.whole
    ∙ ap (λ (out : List ℕ). out ++ rows) (c.in_ok-put_line.ensures ∙ ap (λ (out : List ℕ). out ++ missing) (c.in_ok-put_head.ensures ∙ ap (λ (out : List ℕ). out ++ head) c.in_ok-out.ensures.items))
    ∙ append_assoc head missing rows
