use Rattle.std.proofs.Common.{◌+◌, ◌-◌, List, Ok, Err, refl, sym, ap, ◌∙◌}
use Rattle.cell_values.specs.declared.cell.Cell.{Cell}
use Rattle.grid_text.specs.declared.fault.GridFault.{GridFault}
use Rattle.text_base.specs.Tokens.{Token, tokens_left, token_view}
use Rattle.grid_text.specs.inside.Reading.{cells_from}
use Rattle.grid_text.proofs.CellLaws.{before, cell_read_on, cell_fails, cell_beyond, cells_done}
use Rattle.grid_text.proofs.cells.read_cells.Goals as goal

pub loop-preserved-in-Some : goal.loop-preserved-in-Some
loop-preserved-in-Some c =
    let left : List Token = tokens_left c.args.text_len c.loop.rest.now in
    let more : List Token = tokens_left c.args.text_len c.in-Some.behind.now in
    let on = cell_read_on c.args.kind c.args.nodata.now c.args.text_len c.loop.cells.items c.args.count c.loop.counter left _ c.loop.invariant.same c.in-Some.ensures.token more c.in-Some.cell c.loop-test.true c.in-Some.ensures.first c.in-Some.ensures.read in
    record {
      same = ap (λ (items : List Cell). before items (cells_from c.args.kind c.args.nodata.now c.args.text_len (c.args.count - (c.loop.counter + 1)) more)) c.in_ok-push.ensures.items ∙ on;
      within = c.in-Some.ensures.within;
    }

pub loop-preserved : goal.loop-preserved
loop-preserved c =
    let left : List Token = tokens_left c.args.text_len c.loop.rest.now in
    let more : List Token = tokens_left c.args.text_len c.in-Ok.behind.now in
    let on = cell_read_on c.args.kind c.args.nodata.now c.args.text_len c.loop.cells.items c.args.count c.loop.counter left _ c.loop.invariant.same c.in-Ok.ensures.token more c.in-Ok.cell c.loop-test.true c.in-Ok.ensures.first c.in-Ok.ensures.read in
    record {
      same = ap (λ (items : List Cell). before items (cells_from c.args.kind c.args.nodata.now c.args.text_len (c.args.count - (c.loop.counter + 1)) more)) c.in_ok-push-in-Ok.ensures.items ∙ on;
      within = c.in-Ok.ensures.within;
    }

pub returns-in-Err : goal.returns-in-Err
returns-in-Err c =
    let left : List Token = tokens_left c.args.text_len c.loop.rest.now in
    cell_fails c.args.kind c.args.nodata.now c.args.text_len c.loop.cells.items c.args.count c.loop.counter left _ c.loop.invariant.same c.loop.rest.now c.in-Err.fault c.loop-test.true refl c.in-Err.ensures

pub returns-in-Some-next_token : goal.returns-in-Some-next_token
returns-in-Some-next_token c =
    let left : List Token = tokens_left c.args.text_len c.loop.rest.now in
    cell_beyond c.args.kind c.args.nodata.now c.args.text_len c.loop.cells.items c.args.count c.loop.counter left _ c.loop.invariant.same (token_view c.in-Some-next_token.token) (tokens_left c.args.text_len c.in-Some-next_token.field-0-1.now) c.loop-test.false c.in-Some-next_token.ensures.tokens
    ∙ ap (λ (f : GridFault). Err f) (sym c.count_fault.ensures)

pub returns : goal.returns
returns c =
    let left : List Token = tokens_left c.args.text_len c.loop.rest.now in
    cells_done c.args.kind c.args.nodata.now c.args.text_len c.loop.cells.items c.args.count c.loop.counter left _ c.loop.invariant.same c.loop-test.false c.in_default-next_token.ensures.tokens
    ∙ ap (λ (cells : List Cell). Ok cells) (sym c.from_vec.ensures)
