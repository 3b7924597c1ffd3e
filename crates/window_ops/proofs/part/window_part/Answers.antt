use Rattle.std.proofs.Common.{ℕ, ◌∙◌}
use Rattle.tile_map.specs.Rects.{cell_count, place_in}
use Rattle.region_meaning.specs.Windows.{window_outcome}
use Rattle.tile_map.proofs.Callers.{part_of-same}
use Rattle.window_ops.proofs.AroundLemmas.{moved, moved-in, outcome-around}
use Rattle.window_ops.proofs.part.window_part.Goals as goal

pub local_part-requires-clause-inner : goal.local_part-requires-clause-inner
local_part-requires-clause-inner c = moved-in c.args.inner c.args.around c.requires.inside

pub returns : goal.returns
returns c = λ rows cols map are.
    let op = c.args.op in
    let k = c.args.k in
    let inner = c.args.inner in
    let around = c.args.around in
    let cells = c.args.cells.now in
    c.in_ok-part.ensures
    ∙ part_of-same (λ (i : ℕ). window_outcome op around.rows around.cols k cells (place_in around.cols (moved inner around) i)) (λ (i : ℕ). window_outcome op rows cols k map (place_in cols inner i)) (cell_count inner)
    (λ i below. outcome-around op rows cols k map cells inner around are c.requires.inside i below)
