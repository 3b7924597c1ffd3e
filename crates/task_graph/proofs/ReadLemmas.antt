-- What a task reads.
use Rattle.std.proofs.Common.{◌≡◌, ℕ, ◌<◌, arith}
use Rattle.std.specs.Prelude.{Some}
use Rattle.tile_map.specs.declared.rect.Rect.{Rect}
use Rattle.tile_map.specs.declared.tiling.Tiling.{Tiling}
use Rattle.tile_map.specs.Rects.{HasCells, IsInMap, grown}
use Rattle.tile_map.specs.Tiles.{rect_of, tile_count}
use Rattle.tile_map.proofs.TileLemmas.{rect_inside, rect_some}
use Rattle.tile_map.proofs.MetLemmas.{lists_tiles_met}
use Rattle.map_meaning.specs.declared.op.Op.{Op}
use Rattle.map_meaning.specs.declared.op.Op.TheVariants as op
use Rattle.map_meaning.specs.declared.known.Span.{Span}
use Rattle.map_meaning.specs.declared.known.Span.TheVariants as span
use Rattle.map_meaning.specs.declared.program.Operand.{Operand}
use Rattle.map_meaning.specs.declared.program.Operand.TheVariants.{Unused}
use Rattle.task_graph.specs.declared.layout.Laid.{Laid}
use Rattle.task_graph.specs.declared.layout.Layout.{Layout}
use Rattle.task_graph.specs.Classes.{classes_by, classes_of}
use Rattle.task_graph.specs.Layouts.{maker_of}
use Rattle.task_graph.specs.Needs.{halo_tiles}
use Rattle.task_graph.specs.inside.Reads.{AreTiles, CanRead, IsAmong}

-- a grown rectangle of a map lies in the map
grown_inside : (rows cols k : ℕ) (r : Rect) → IsInMap rows cols r → HasCells r → IsInMap rows cols (grown rows cols k r)
unfolding grown
grown_inside rows cols k r in_map some =
    let below = in_map.below in
    let right = in_map.right in
    record { below = omega arith; right = omega arith }

-- and has cells
grown_some : (rows cols k : ℕ) (r : Rect) → IsInMap rows cols r → HasCells r → HasCells (grown rows cols k r)
unfolding grown
grown_some rows cols k r in_map some =
    let below = in_map.below in
    let right = in_map.right in
    let rows_some = some.some_rows in
    let cols_some = some.some_cols in
    record { some_rows = omega arith; some_cols = omega arith }

-- the tiles that a halo meets are tiles
pub halo_are_tiles : (g : Tiling) (k tile : ℕ) → tile < tile_count g → AreTiles (tile_count g) (halo_tiles g k tile)
halo_are_tiles g k tile below =
    let inside = rect_inside g tile below in
    let some = rect_some g tile below in
    let halo = grown g.rows g.cols k (rect_of g tile) in
    let met = lists_tiles_met g halo (grown_inside g.rows g.cols k (rect_of g tile) inside some) (grown_some g.rows g.cols k (rect_of g tile) inside some) in
    λ i less. (met.only i less).0

-- no operation makes the value of an operand that is not there
pub unused : (s : Span) (many step place : ℕ) → maker_of s many step Unused ≡ Some place → ⊥
unused (span.Initial first end) many step place e = cc
unused (span.Steps first last) many step place e = cc

among_by : (y : Layout) (l : Laid) (o : Op) (a b : Operand) → IsAmong y l a → IsAmong y l b → IsAmong y l (classes_by o a b)
among_by y l op.AreaTotal a b ha hb = hb
among_by y l op.AreaAverage a b ha hb = hb
among_by y l op.AreaMinimum a b ha hb = hb
among_by y l op.AreaMaximum a b ha hb = hb
among_by y l op.AreaDiversity a b ha hb = hb
among_by y l op.AreaMajority a b ha hb = hb
among_by y l op.AreaArea a b ha hb = ha
among_by y l _ a b ha hb = λ place e. absurd (unused y.span y.many l.step place e)

-- the classes of areas have their tasks among those that a plan may have, where all operands have
pub classes_are_among : (y : Layout) (l : Laid) → CanRead y l → IsAmong y l (classes_of l.operation)
classes_are_among y l can = among_by y l l.operation.op l.operation.a l.operation.b can.a can.b
