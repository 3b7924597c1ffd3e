-- Worked examples: operations that look at other places, over maps of one row that were worked out by hand.
use Rattle.std.specs.Prelude.{◌≡◌, ℕ, true, List, [], ◌∷◌, pos, map, codes, None, Ok}
use Rattle.cell_values.specs.declared.kind.Kind.{Kind}
use Rattle.cell_values.specs.declared.kind.Kind.TheVariants.{Boolean, Nominal, Scalar, Ldd}
use Rattle.cell_values.specs.declared.cell.Cell.{Cell}
use Rattle.cell_values.specs.declared.cell.Cell.TheVariants.{Mv, Val}
use Rattle.tile_map.specs.Cuts.{cell_at}
use Rattle.tile_map.specs.Parts.{part_of}
use Rattle.drain_meaning.specs.declared.op.FlowOp.TheVariants as flow
use Rattle.drain_meaning.specs.declared.op.NearOp.TheVariants as near
use Rattle.drain_meaning.specs.Drains.{DrainMap}
use Rattle.drain_meaning.specs.Examples.{cells_of_numbers, whole_scalars}
use Rattle.map_meaning.specs.declared.op.Op.{Op}
use Rattle.map_meaning.specs.declared.op.Op.TheVariants as op
use Rattle.map_meaning.specs.declared.known.Known.{Known}
use Rattle.map_meaning.specs.declared.known.Span.TheVariants as span
use Rattle.map_meaning.specs.declared.program.DrainFrom.{DrainFrom}
use Rattle.map_meaning.specs.declared.program.DrainFrom.TheVariants as drain
use Rattle.map_meaning.specs.declared.program.Operand.{Operand}
use Rattle.map_meaning.specs.declared.program.Operand.TheVariants as from
use Rattle.map_meaning.specs.declared.program.Operation.{Operation}
use Rattle.map_meaning.specs.declared.program.Program.{Program}
use Rattle.map_meaning.specs.declared.program.Role.TheVariants.{Grid}
use Rattle.map_meaning.specs.declared.tree.Statement.{Statement}
use Rattle.map_meaning.specs.declared.tree.Tree.TheVariants as tree
use Rattle.map_meaning.specs.Evaluation.{Done, drain_codes, nothing_done, staged_values}
use Rattle.map_meaning.specs.Examples.{below_zero, map_named, told_cells, unassigned, whole_scalar}
use Rattle.map_meaning.specs.Programs.{stage_begin}
use Rattle.map_meaning.specs.Rules.{Setting, no_series, no_table, outcome_of}
use Rattle.map_meaning.specs.Scenes.{Scene, masked_map}
use Rattle.map_meaning.specs.Sections.{section_value}
use Rattle.map_meaning.specs.Spans.{initial_stages, stage_of, whole_span}

-- ---- windows, areas and whole maps

-- what an operation on these kinds is told over maps of one row of so many columns, where its window has this length
abbrev pub told_in_a_row : List Kind → ℕ → ℕ → Setting
told_in_a_row kinds window cols =
    record { kinds = kinds; rows = 1; cols = cols; step = 0; table = no_table; series = no_series; window = window }

-- the cells that an operation on these kinds gives over such maps
abbrev pub row_of_cells : Op → List Kind → ℕ → List (List Cell) → ℕ → List Cell
row_of_cells o kinds window maps cols = (part_of (outcome_of o (told_in_a_row kinds window cols) (map cell_at maps)) cols).cells

-- what an operation on these kinds is told over maps of two rows of three columns
abbrev pub told_in_two_rows : List Kind → ℕ → Setting
told_in_two_rows kinds window =
    record { kinds = kinds; rows = 2; cols = 3; step = 0; table = no_table; series = no_series; window = window }

-- the cells that an operation on these kinds gives over such maps
abbrev pub square_of_cells : Op → List Kind → ℕ → List (List Cell) → List Cell
square_of_cells o kinds window maps = (part_of (outcome_of o (told_in_two_rows kinds window) (map cell_at maps)) 6).cells

-- the scalars 1, 2, 3 and 4
abbrev pub one_to_four : List Cell
one_to_four = whole_scalars (1 ∷ 2 ∷ 3 ∷ 4 ∷ [])

-- two cells of class 1, and one without a class
abbrev pub two_of_three : List Cell
two_of_three = Val (pos 1) ∷ Val (pos 1) ∷ Mv ∷ []

-- 3000, in millionths beyond all classes, and before it two cells without a value
abbrev pub last_of_three : List Cell
last_of_three = Mv ∷ Mv ∷ whole_scalar 3000 ∷ []

-- no cell of three
abbrev pub none_of_three : List Cell
none_of_three = Mv ∷ Mv ∷ Mv ∷ []

-- 5, 2, missing and 4
abbrev pub with_a_gap : List Cell
with_a_gap = whole_scalar 5 ∷ whole_scalar 2 ∷ Mv ∷ whole_scalar 4 ∷ []

-- 1, 5, 4 and missing
abbrev pub last_missing : List Cell
last_missing = whole_scalar 1 ∷ whole_scalar 5 ∷ whole_scalar 4 ∷ Mv ∷ []

-- the classes 1, 2, 1 and 2
abbrev pub two_in_turn : List Cell
two_in_turn = cells_of_numbers (1 ∷ 2 ∷ 1 ∷ 2 ∷ [])

-- what operations over windows, areas and whole maps give
pub record RegionExamples : Type 0 where
  -- the windows of three cells in a row, as far as the row goes
  pub window_total : row_of_cells op.WindowTotal (Scalar ∷ []) 3 (one_to_four ∷ []) 4 ≡ whole_scalars (3 ∷ 6 ∷ 9 ∷ 7 ∷ [])
  -- over 1000 2000 3000 and, below them, 4000 5000 6000
  pub window_rows : square_of_cells op.WindowTotal (Scalar ∷ []) 3
      (whole_scalars (1000 ∷ 2000 ∷ 3000 ∷ 4000 ∷ 5000 ∷ 6000 ∷ []) ∷ [])
      ≡ whole_scalars (12000 ∷ 21000 ∷ 16000 ∷ 12000 ∷ 21000 ∷ 16000 ∷ [])
  -- values that are missing do not count, nor does it matter whether the one in the middle is
  pub window_average : row_of_cells op.WindowAverage (Scalar ∷ []) 3 (with_a_gap ∷ []) 4
      ≡ Val (pos 3500000) ∷ Val (pos 3500000) ∷ whole_scalar 3 ∷ whole_scalar 4 ∷ []
  -- of millionths -1, 0, 1 and 0: a half is rounded away from 0, and a third to 0
  pub window_rounded : row_of_cells op.WindowAverage (Scalar ∷ []) 3 ((below_zero 1 ∷ Val (pos 0) ∷ Val (pos 1) ∷ Val (pos 0) ∷ []) ∷ []) 4
      ≡ below_zero 1 ∷ Val (pos 0) ∷ Val (pos 0) ∷ Val (pos 1) ∷ []
  pub window_minimum : row_of_cells op.WindowMinimum (Scalar ∷ []) 3 (with_a_gap ∷ []) 4 ≡ whole_scalars (2 ∷ 2 ∷ 2 ∷ 4 ∷ [])
  pub window_maximum : row_of_cells op.WindowMaximum (Scalar ∷ []) 3 (with_a_gap ∷ []) 4 ≡ whole_scalars (5 ∷ 5 ∷ 4 ∷ 4 ∷ [])
  pub window_diversity : row_of_cells op.WindowDiversity (Nominal ∷ []) 3 (cells_of_numbers (1 ∷ 1 ∷ 2 ∷ 3 ∷ []) ∷ []) 4
      ≡ whole_scalars (1 ∷ 2 ∷ 3 ∷ 2 ∷ [])
  -- windows of five cells
  pub window_wide : row_of_cells op.WindowTotal (Scalar ∷ []) 5 (one_to_four ∷ []) 4 ≡ whole_scalars (6 ∷ 10 ∷ 10 ∷ 9 ∷ [])
  -- a window of one cell, and one without a value
  pub window_alone : row_of_cells op.WindowTotal (Scalar ∷ []) 1 (with_a_gap ∷ []) 4 ≡ with_a_gap
  -- of classes that are as frequent the least counts
  pub window_majority : row_of_cells op.WindowMajority (Nominal ∷ []) 3 (cells_of_numbers (2 ∷ 1 ∷ 2 ∷ 1 ∷ []) ∷ []) 4
      ≡ cells_of_numbers (1 ∷ 2 ∷ 1 ∷ 1 ∷ [])
  -- two thirds in the three cells of class 1, and 5 in that of class 2
  pub area_average : row_of_cells op.AreaAverage (Scalar ∷ Nominal ∷ []) 0
      (whole_scalars (1 ∷ 5 ∷ 0 ∷ 1 ∷ []) ∷ cells_of_numbers (1 ∷ 2 ∷ 1 ∷ 1 ∷ []) ∷ []) 4
      ≡ Val (pos 666667) ∷ whole_scalar 5 ∷ Val (pos 666667) ∷ Val (pos 666667) ∷ []
  -- a cell without a value has what its class has
  pub area_minimum : row_of_cells op.AreaMinimum (Scalar ∷ Nominal ∷ []) 0 (last_missing ∷ two_in_turn ∷ []) 4
      ≡ whole_scalars (1 ∷ 5 ∷ 1 ∷ 5 ∷ [])
  pub area_maximum : row_of_cells op.AreaMaximum (Scalar ∷ Nominal ∷ []) 0 (last_missing ∷ two_in_turn ∷ []) 4
      ≡ whole_scalars (4 ∷ 5 ∷ 4 ∷ 5 ∷ [])
  pub area_sums : row_of_cells op.AreaTotal (Scalar ∷ Nominal ∷ []) 0 (last_missing ∷ two_in_turn ∷ []) 4
      ≡ whole_scalars (5 ∷ 5 ∷ 5 ∷ 5 ∷ [])
  pub area_diversity : row_of_cells op.AreaDiversity (Nominal ∷ Nominal ∷ []) 0
      (cells_of_numbers (7 ∷ 7 ∷ 8 ∷ 7 ∷ []) ∷ cells_of_numbers (1 ∷ 2 ∷ 2 ∷ 2 ∷ []) ∷ []) 4 ≡ whole_scalars (1 ∷ 2 ∷ 2 ∷ 2 ∷ [])
  pub area_majority : row_of_cells op.AreaMajority (Nominal ∷ Nominal ∷ []) 0
      (cells_of_numbers (7 ∷ 8 ∷ 9 ∷ 8 ∷ 9 ∷ []) ∷ cells_of_numbers (1 ∷ 2 ∷ 2 ∷ 2 ∷ 2 ∷ []) ∷ []) 5
      ≡ cells_of_numbers (7 ∷ 8 ∷ 8 ∷ 8 ∷ 8 ∷ [])
  -- 1 2 3 and, below them, 4 5 6, of the classes 1 2 1 and 2 1 2
  pub area_rows : square_of_cells op.AreaTotal (Scalar ∷ Nominal ∷ []) 0
      (whole_scalars (1 ∷ 2 ∷ 3 ∷ 4 ∷ 5 ∷ 6 ∷ []) ∷ cells_of_numbers (1 ∷ 2 ∷ 1 ∷ 2 ∷ 1 ∷ 2 ∷ []) ∷ [])
      ≡ whole_scalars (9 ∷ 12 ∷ 9 ∷ 12 ∷ 9 ∷ 12 ∷ [])
  -- an area without a value has no total, and the cell without a class is in no area
  pub area_total : row_of_cells op.AreaTotal (Scalar ∷ Nominal ∷ []) 0 (last_of_three ∷ two_of_three ∷ []) 3 ≡ none_of_three
  pub area_size : row_of_cells op.AreaArea (Nominal ∷ []) 0 (two_of_three ∷ []) 3 ≡ whole_scalar 2 ∷ whole_scalar 2 ∷ Mv ∷ []
  -- a total of the map stands at each place
  pub map_total : row_of_cells op.MapTotal (Scalar ∷ []) 0 (last_of_three ∷ []) 3 ≡ whole_scalars (3000 ∷ 3000 ∷ 3000 ∷ [])
  -- the extreme stands last
  pub map_minimum : row_of_cells op.MapMinimum (Scalar ∷ []) 0 ((whole_scalar 5 ∷ whole_scalar 3 ∷ Mv ∷ whole_scalar 2 ∷ []) ∷ []) 4
      ≡ whole_scalars (2 ∷ 2 ∷ 2 ∷ 2 ∷ [])
  pub map_maximum : row_of_cells op.MapMaximum (Scalar ∷ []) 0 ((whole_scalar 2 ∷ Mv ∷ whole_scalar 4 ∷ whole_scalar 5 ∷ []) ∷ []) 4
      ≡ whole_scalars (5 ∷ 5 ∷ 5 ∷ 5 ∷ [])

-- ---- drain directions

-- to the east, over four cells
abbrev pub codes_eastward : List Cell
codes_eastward = cells_of_numbers (6 ∷ 6 ∷ 6 ∷ 5 ∷ [])

-- the scalar 1 at four cells
abbrev pub four_ones : List Cell
four_ones = whole_scalars (1 ∷ 1 ∷ 1 ∷ 1 ∷ [])

-- the scalar 3 at the first of four cells
abbrev pub three_at_first : List Cell
three_at_first = whole_scalars (3 ∷ 0 ∷ 0 ∷ 0 ∷ [])

-- what an operation gives that goes to the east, from such scalars
abbrev pub along_eastward : Op → List Kind → List (List Cell) → List Cell
along_eastward o kinds maps = row_of_cells o (Ldd ∷ kinds) 0 (codes_eastward ∷ maps) 4

-- an accumulation of this operand along the drain map with this number, in this statement
abbrev pub accumulation : Operand → ℕ → ℕ → Operation
accumulation a n statement = record {
  op = op.Flow flow.Accuflux;
  kind = Scalar;
  a = a;
  b = from.Unused;
  c = from.Unused;
  d = from.Unused;
  drain = n;
  file = 0;
  window = 0;
  statement = statement;
  number = 1;
  kept = true;
}

-- a program of two steps, along a drain map that is an input
abbrev pub flowing : Program
flowing = record {
  inputs = record { file = codes "ldd.asc"; role = Grid; kind = Ldd } ∷ [];
  initial = [];
  dynamic = accumulation from.Time 0 1 ∷ [];
  drains = record { from = drain.Input 0; after = 0 } ∷ [];
  outputs = [];
  area = 0;
  steps = 2;
}

-- the drain map of these codes in a row of four
abbrev pub drain_in_a_row : List Cell → DrainMap
drain_in_a_row cells = record { rows = 1; cols = 4; codes = cells }

-- what is known of it: the codes, and the drain map
abbrev pub known_eastward : Known
known_eastward = record {
  rows = 1;
  cols = 4;
  maps = codes_eastward ∷ [];
  tables = [];
  series = [];
  drains = drain_in_a_row codes_eastward ∷ [];
  stacks = [];
  initial = [];
  last = [];
}

-- what operations along drain directions give
pub record AlongExamples : Type 0 where
  pub accuflux : along_eastward (op.Flow flow.Accuflux) (Scalar ∷ []) (four_ones ∷ []) ≡ one_to_four
  -- the class farthest down the path
  pub catchment : along_eastward (op.Flow flow.Catchment) (Nominal ∷ []) (cells_of_numbers (1 ∷ 3 ∷ 0 ∷ 0 ∷ []) ∷ [])
      ≡ cells_of_numbers (3 ∷ 3 ∷ 0 ∷ 0 ∷ [])
  -- each cell keeps 1, and what is more flows on
  pub flux : along_eastward (op.Flow flow.ThresholdFlux) (Scalar ∷ Scalar ∷ []) (three_at_first ∷ four_ones ∷ [])
      ≡ whole_scalars (2 ∷ 1 ∷ 0 ∷ 0 ∷ [])
  pub state : along_eastward (op.Flow flow.ThresholdState) (Scalar ∷ Scalar ∷ []) (three_at_first ∷ four_ones ∷ [])
      ≡ whole_scalars (1 ∷ 1 ∷ 1 ∷ 0 ∷ [])
  pub upstream : along_eastward (op.Near near.Upstream) (Scalar ∷ []) (one_to_four ∷ []) ≡ whole_scalars (0 ∷ 1 ∷ 2 ∷ 3 ∷ [])
  pub downstream : along_eastward (op.Near near.Downstream) (Scalar ∷ []) (one_to_four ∷ []) ≡ whole_scalars (2 ∷ 3 ∷ 4 ∷ 4 ∷ [])
  -- 6 2 4 and, below them, 5 4 4: all comes together in the first cell of the second row
  pub rows : square_of_cells (op.Flow flow.Accuflux) (Ldd ∷ Scalar ∷ []) 0
      (cells_of_numbers (6 ∷ 2 ∷ 4 ∷ 5 ∷ 4 ∷ 4 ∷ []) ∷ whole_scalars (1 ∷ 1 ∷ 1 ∷ 1 ∷ 1 ∷ 1 ∷ []) ∷ [])
      ≡ whole_scalars (1 ∷ 3 ∷ 1 ∷ 6 ∷ 5 ∷ 1 ∷ [])
  -- `dynamic Q = accuflux(Ldd, time());`, at steps 1 and 2
  pub in_steps : told_cells 0 (stage_of flowing (span.Steps 1 2) known_eastward) ≡ one_to_four ∷ whole_scalars (2 ∷ 4 ∷ 6 ∷ 8 ∷ []) ∷ []

-- ---- a mask between two stages: `B = not N; K = lddmask(Ldd, B); Q = accuflux(K, 1);`

-- N: the third of four cells
abbrev pub third_alone : List Cell
third_alone = cells_of_numbers (0 ∷ 0 ∷ 1 ∷ 0 ∷ [])

-- B: all of them but the third
abbrev pub all_but_third : List Cell
all_but_third = cells_of_numbers (1 ∷ 1 ∷ 0 ∷ 1 ∷ [])

-- K: the second cell is a pit now
abbrev pub codes_masked : List Cell
codes_masked = Val (pos 6) ∷ Val (pos 5) ∷ Mv ∷ Val (pos 5) ∷ []

-- Q: what flows into the third cell is kept in the second
abbrev pub flows_masked : List Cell
flows_masked = whole_scalar 1 ∷ whole_scalar 2 ∷ Mv ∷ whole_scalar 1 ∷ []

-- `B = not N`, which the mask reads
abbrev pub masking : Operation
masking = record {
  op = op.Not;
  kind = Boolean;
  a = from.Input 1;
  b = from.Unused;
  c = from.Unused;
  d = from.Unused;
  drain = 0;
  file = 0;
  window = 0;
  statement = 1;
  number = 1;
  kept = true;
}

-- `Q = accuflux(K, 1)`, along the second drain map
abbrev pub accumulating : Operation
accumulating = accumulation (from.Literal Scalar (whole_scalar 1)) 1 3

-- the program of the three statements, where the second drain map comes from there
abbrev pub with_second : DrainFrom → Program
with_second second = record {
  inputs =
      record { file = codes "ldd.asc"; role = Grid; kind = Ldd } ∷ record { file = codes "n.asc"; role = Grid; kind = Boolean } ∷ [];
  initial = masking ∷ accumulating ∷ [];
  dynamic = [];
  drains = record { from = drain.Input 0; after = 0 } ∷ record { from = second; after = 1 } ∷ [];
  outputs = [];
  area = 0;
  steps = 0;
}

-- the program of the three statements
abbrev pub over_mask : Program
over_mask = with_second (drain.Mask 0 (from.Initial 0))

-- a row of four columns, with the two inputs
abbrev pub row_scene : Scene
row_scene =
    record { rows = 1; cols = 4; step = 0; inputs = codes_eastward ∷ third_alone ∷ []; tables = []; series = []; stacks = [] }

-- what is known before the second stage: the inputs, the map of B, and both drain maps
abbrev pub known_behind_mask : Known
known_behind_mask = record {
  rows = 1;
  cols = 4;
  maps = codes_eastward ∷ third_alone ∷ [];
  tables = [];
  series = [];
  drains = drain_in_a_row codes_eastward ∷ drain_in_a_row codes_masked ∷ [];
  stacks = [];
  initial = record { step = 0; operation = 0; cells = all_but_third } ∷ [];
  last = [];
}

-- the three statements
abbrev pub statements_over_mask : List Statement
statements_over_mask =
    record { target = codes "B"; value = tree.Call Boolean op.Not (tree.Input Boolean 1 ∷ []) }
    ∷ record { target = codes "K"; value = tree.Mask (tree.Input Ldd 0 ∷ tree.Name Boolean (codes "B") ∷ []) }
    ∷ record {
      target = codes "Q";
      value = tree.Call Scalar (op.Flow flow.Accuflux) (tree.Name Ldd (codes "K") ∷ tree.Number Scalar (whole_scalar 1) ∷ []);
    }
    ∷ []

-- what is done where both drain maps are computed
abbrev pub done_behind_mask : Done
done_behind_mask = record { initial = all_but_third ∷ []; dynamic = []; last = []; drains = codes_eastward ∷ codes_masked ∷ [] }

-- what a mask between two stages gives
pub record MaskExamples : Type 0 where
  -- the mask ends the first of two stages
  pub stages : initial_stages over_mask ≡ span.Initial 0 1 ∷ span.Initial 1 2 ∷ []
  -- the first operation stands in the stage that begins with it, and so does the second
  pub begins : map (stage_begin over_mask.drains) (0 ∷ 1 ∷ 2 ∷ []) ≡ 0 ∷ 1 ∷ 1 ∷ []
  -- all operations, with the drain maps between them
  pub staged : staged_values over_mask row_scene (whole_span over_mask) nothing_done over_mask.drains over_mask.initial
      ≡ Ok (record {
        initial = all_but_third ∷ flows_masked ∷ [];
        dynamic = [];
        last = [];
        drains = codes_eastward ∷ codes_masked ∷ [];
      })
  -- the second stage alone, from what is known before it
  pub second : stage_of over_mask (span.Initial 1 2) known_behind_mask
      ≡ record { maps = record { step = 0; operation = 1; cells = flows_masked } ∷ []; over = None }
  -- the codes of an input
  pub codes_read : drain_codes row_scene done_behind_mask (drain.Input 1) ≡ third_alone
  -- a drain map under another name
  pub same : drain_codes row_scene done_behind_mask (drain.Same 1) ≡ codes_masked
  -- a mask of the second drain map: the pit stays
  pub again : drain_codes row_scene done_behind_mask (drain.Mask 1 (from.Initial 0)) ≡ codes_masked
  -- masks that are an input and a number: the third cell alone, and all
  pub by_input : drain_codes row_scene done_behind_mask (drain.Mask 0 (from.Input 1)) ≡ Mv ∷ Mv ∷ Val (pos 5) ∷ Mv ∷ []
  pub by_number : drain_codes row_scene done_behind_mask (drain.Mask 0 (from.Literal Boolean (Val (pos 1)))) ≡ codes_eastward
  -- over two rows of one column: where the second is not kept, the first is a pit
  pub below : masked_map (record { rows = 2; cols = 1; step = 0; inputs = []; tables = []; series = []; stacks = [] })
      (cells_of_numbers (2 ∷ 5 ∷ [])) (cells_of_numbers (1 ∷ 0 ∷ [])) ≡ Val (pos 5) ∷ Mv ∷ []
  -- another name for a drain map ends a stage too
  pub renamed : initial_stages (with_second (drain.Same 0)) ≡ span.Initial 0 1 ∷ span.Initial 1 2 ∷ []
  -- the same by the statements
  pub drains : map_named (codes "K") (section_value row_scene 1 unassigned statements_over_mask) ≡ Ok codes_masked
  pub flows : map_named (codes "Q") (section_value row_scene 1 unassigned statements_over_mask) ≡ Ok flows_masked
