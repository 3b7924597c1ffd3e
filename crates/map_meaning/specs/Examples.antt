-- Worked examples: what the definitions give at cells, programs and statements that were worked out by hand.
use Rattle.std.specs.Prelude.{◌≡◌, ℕ, ◌*◌, ◌==◌, Bool, true, false, List, [], ◌∷◌, ℤ, pos, neg_ℤ, map, codes}
use Rattle.std.specs.Prelude.{Option, Some, None, Result, Ok, Err}
use Rattle.std.specs.List.{filter}
use Rattle.cell_values.specs.declared.kind.Kind.{Kind}
use Rattle.cell_values.specs.declared.kind.Kind.TheVariants.{Boolean, Nominal, Ordinal, Scalar, Directional, Ldd}
use Rattle.cell_values.specs.declared.cell.Cell.{Cell}
use Rattle.cell_values.specs.declared.cell.Cell.TheVariants.{Mv, Val}
use Rattle.lookup_table.specs.declared.key.KeyRange.{KeyRange}
use Rattle.lookup_table.specs.Form.{TableValue}
use Rattle.lookup_table.specs.Keys.{greatest_number, least_number}
use Rattle.time_series.specs.Form.{SeriesValue}
use Rattle.text_base.specs.Results.{◌>>=◌}
use Rattle.tile_map.specs.Cuts.{cell_at}
use Rattle.tile_map.specs.Parts.{part_of}
use Rattle.drain_meaning.specs.declared.op.FlowOp.TheVariants as flow
use Rattle.map_meaning.specs.declared.op.Op.{Op}
use Rattle.map_meaning.specs.declared.op.Op.TheVariants as op
use Rattle.map_meaning.specs.declared.known.Known.{Known}
use Rattle.map_meaning.specs.declared.known.OverAt.{OverAt}
use Rattle.map_meaning.specs.declared.known.Span.TheVariants as span
use Rattle.map_meaning.specs.declared.known.StageEnd.{StageEnd}
use Rattle.map_meaning.specs.declared.known.StepMap.{StepMap}
use Rattle.map_meaning.specs.declared.program.Operand.{Operand}
use Rattle.map_meaning.specs.declared.program.Operation.{Operation}
use Rattle.map_meaning.specs.declared.program.Operand.TheVariants as from
use Rattle.map_meaning.specs.declared.program.OutputKind.TheVariants.{InitialGrid}
use Rattle.map_meaning.specs.declared.program.Program.{Program}
use Rattle.map_meaning.specs.declared.program.Role.TheVariants.{Grid, Series, Stack, Table}
use Rattle.map_meaning.specs.declared.tree.Statement.{Statement}
use Rattle.map_meaning.specs.declared.tree.Tree.{Tree}
use Rattle.map_meaning.specs.declared.tree.Tree.TheVariants as tree
use Rattle.map_meaning.specs.Local.{truth}
use Rattle.map_meaning.specs.Rules.{Setting, no_series, no_table, of_kinds, outcome_of}
use Rattle.map_meaning.specs.Table.{HasKinds, map_row, row_of}
use Rattle.map_meaning.specs.Scenes.{Scene, setting_at, stack_map}
use Rattle.map_meaning.specs.Sections.{After, section_value}
use Rattle.map_meaning.specs.Spans.{stage_of, whole_span}
use Rattle.map_meaning.specs.StackNames.{stack_file}
use Rattle.map_meaning.specs.Trees.{value_of_tree}

-- ---- an operation at the places of maps

-- the cells that an operation on these kinds gives at the places of some maps
abbrev pub cells_of : Op → List Kind → List (List Cell) → ℕ → List Cell
cells_of o kinds maps places = (part_of (outcome_of o (of_kinds kinds) (map cell_at maps)) places).cells

-- the first place of these where it is Over
abbrev pub over_of : Op → List Kind → List (List Cell) → ℕ → Option ℕ
over_of o kinds maps places = (part_of (outcome_of o (of_kinds kinds) (map cell_at maps)) places).over

-- so many whole ones, as a scalar
abbrev pub whole_scalar : ℕ → Cell
whole_scalar n = Val (pos (n * 1000000))

-- so many millionths below zero, as a scalar
abbrev pub below_zero : ℕ → Cell
below_zero n = Val (neg_ℤ (pos n))

-- 1, missing, 3
abbrev pub first_map : List Cell
first_map = whole_scalar 1 ∷ Mv ∷ whole_scalar 3 ∷ []

-- missing, 5, 6
abbrev pub second_map : List Cell
second_map = Mv ∷ whole_scalar 5 ∷ whole_scalar 6 ∷ []

-- true, false, missing
abbrev pub condition : List Cell
condition = truth true ∷ truth false ∷ Mv ∷ []

-- -2.5, 2.5, -0.1 and 3
abbrev pub near_whole : List Cell
near_whole = below_zero 2500000 ∷ Val (pos 2500000) ∷ below_zero 100000 ∷ whole_scalar 3 ∷ []

-- false, false, true, true, false, true
abbrev pub firsts : List Cell
firsts = truth false ∷ truth false ∷ truth true ∷ truth true ∷ truth false ∷ truth true ∷ []

-- false, true, false, true, missing, missing
abbrev pub seconds : List Cell
seconds = truth false ∷ truth true ∷ truth false ∷ truth true ∷ Mv ∷ Mv ∷ []

-- what an operation on two booleans gives at the places of these maps
abbrev pub of_truths : Op → List Cell
of_truths o = cells_of o (Boolean ∷ Boolean ∷ []) (firsts ∷ seconds ∷ []) 6

-- four truths, and two missing values
abbrev pub truths : Bool → Bool → Bool → Bool → List Cell
truths a b c d = truth a ∷ truth b ∷ truth c ∷ truth d ∷ Mv ∷ Mv ∷ []

-- what a comparison of ordinal classes gives of 2, 2, 2 and 1, 2, 3
abbrev pub of_classes : Op → List Cell
of_classes o =
    cells_of o (Ordinal ∷ Ordinal ∷ [])
    ((Val (pos 2) ∷ Val (pos 2) ∷ Val (pos 2) ∷ []) ∷ (Val (pos 1) ∷ Val (pos 2) ∷ Val (pos 3) ∷ []) ∷ []) 3

-- what an operation on two scalars gives of 7, -7 and 2, 2
abbrev pub of_sevens : Op → List Cell
of_sevens o =
    cells_of o (Scalar ∷ Scalar ∷ [])
    ((whole_scalar 7 ∷ below_zero 7000000 ∷ []) ∷ (whole_scalar 2 ∷ whole_scalar 2 ∷ []) ∷ []) 2

-- what the conversion of a kind's cell gives
abbrev pub converted_cell : Op → Kind → Cell → List Cell
converted_cell o kind cell = cells_of o (kind ∷ []) ((cell ∷ []) ∷ []) 1

-- what the operations on cells give at the places of these maps
pub record CellExamples : Type 0 where
  -- `if(C then A else B)`, `if(C then A)`, `cover(A, B)`, `defined(A)`
  pub if_else : cells_of op.IfElse (Boolean ∷ Scalar ∷ Scalar ∷ []) (condition ∷ first_map ∷ second_map ∷ []) 3
      ≡ whole_scalar 1 ∷ whole_scalar 5 ∷ Mv ∷ []
  pub if_then : cells_of op.IfThen (Boolean ∷ Scalar ∷ []) (condition ∷ first_map ∷ []) 3 ≡ whole_scalar 1 ∷ Mv ∷ Mv ∷ []
  pub covered : cells_of op.Cover (Scalar ∷ Scalar ∷ []) (first_map ∷ second_map ∷ []) 3
      ≡ whole_scalar 1 ∷ whole_scalar 5 ∷ whole_scalar 3 ∷ []
  pub defined : cells_of op.Defined (Scalar ∷ []) (first_map ∷ []) 3 ≡ truth true ∷ truth false ∷ truth true ∷ []
  -- `1 / 0`, and a sum with a missing operand
  pub divided : cells_of op.Div (Scalar ∷ Scalar ∷ []) ((whole_scalar 1 ∷ []) ∷ (whole_scalar 0 ∷ []) ∷ []) 1 ≡ Mv ∷ []
  pub added : cells_of op.Add (Scalar ∷ Scalar ∷ []) ((Mv ∷ []) ∷ (whole_scalar 1 ∷ []) ∷ []) 1 ≡ Mv ∷ []
  -- whole numbers near -2.5, 2.5, -0.1 and 3
  pub down : cells_of op.RoundDown (Scalar ∷ []) (near_whole ∷ []) 4
      ≡ below_zero 3000000 ∷ whole_scalar 2 ∷ below_zero 1000000 ∷ whole_scalar 3 ∷ []
  pub up : cells_of op.RoundUp (Scalar ∷ []) (near_whole ∷ []) 4
      ≡ below_zero 2000000 ∷ whole_scalar 3 ∷ whole_scalar 0 ∷ whole_scalar 3 ∷ []
  pub off : cells_of op.RoundOff (Scalar ∷ []) (near_whole ∷ []) 4
      ≡ below_zero 3000000 ∷ whole_scalar 3 ∷ whole_scalar 0 ∷ whole_scalar 3 ∷ []
  -- truth tables, and the order of 0 and 1
  pub conjunction : of_truths op.And ≡ truths false false false true
  pub disjunction : of_truths op.Or ≡ truths false true true true
  pub exclusion : of_truths op.Xor ≡ truths false true true false
  pub less : cells_of op.Less (Ordinal ∷ Ordinal ∷ []) (firsts ∷ seconds ∷ []) 6 ≡ truths false true false false
  pub negation : cells_of op.Not (Boolean ∷ []) (condition ∷ []) 3 ≡ truth false ∷ truth true ∷ Mv ∷ []
  -- comparisons of 2, 2, 2 and 1, 2, 3
  pub equal : of_classes op.Equal ≡ truth false ∷ truth true ∷ truth false ∷ []
  pub unequal : of_classes op.NotEqual ≡ truth true ∷ truth false ∷ truth true ∷ []
  pub below : of_classes op.Less ≡ truth false ∷ truth false ∷ truth true ∷ []
  pub not_above : of_classes op.LessEqual ≡ truth false ∷ truth true ∷ truth true ∷ []
  pub above : of_classes op.Greater ≡ truth true ∷ truth false ∷ truth false ∷ []
  pub not_below : of_classes op.GreaterEqual ≡ truth true ∷ truth true ∷ truth false ∷ []
  pub least : of_classes op.Min ≡ Val (pos 1) ∷ Val (pos 2) ∷ Val (pos 2) ∷ []
  pub greatest : of_classes op.Max ≡ Val (pos 2) ∷ Val (pos 2) ∷ Val (pos 3) ∷ []
  -- arithmetic on 7, -7 and 2, 2; the negatives and sizes of -2.5, 2.5, -0.1 and 3; a map as it is
  pub sums : of_sevens op.Add ≡ whole_scalar 9 ∷ below_zero 5000000 ∷ []
  pub differences : of_sevens op.Sub ≡ whole_scalar 5 ∷ below_zero 9000000 ∷ []
  pub products : of_sevens op.Mul ≡ whole_scalar 14 ∷ below_zero 14000000 ∷ []
  pub quotients : of_sevens op.Div ≡ Val (pos 3500000) ∷ below_zero 3500000 ∷ []
  pub whole_quotients : of_sevens op.IntDiv ≡ whole_scalar 3 ∷ below_zero 3000000 ∷ []
  pub remainders : of_sevens op.IntMod ≡ whole_scalar 1 ∷ below_zero 1000000 ∷ []
  pub negatives : cells_of op.Neg (Scalar ∷ []) (near_whole ∷ []) 4
      ≡ Val (pos 2500000) ∷ below_zero 2500000 ∷ Val (pos 100000) ∷ below_zero 3000000 ∷ []
  pub sizes : cells_of op.Abs (Scalar ∷ []) (near_whole ∷ []) 4
      ≡ Val (pos 2500000) ∷ Val (pos 2500000) ∷ Val (pos 100000) ∷ whole_scalar 3 ∷ []
  pub same : cells_of op.CopyOf (Scalar ∷ []) (first_map ∷ []) 3 ≡ first_map
  -- 725.5 as a direction, -2.9 as a class, and a scalar that is no class
  pub turned : cells_of op.ToDirectional (Scalar ∷ []) ((Val (pos 725500000) ∷ []) ∷ []) 1 ≡ Val (pos 5500000) ∷ []
  pub cut : cells_of op.ToNominal (Scalar ∷ []) ((below_zero 2900000 ∷ []) ∷ []) 1 ≡ below_zero 2 ∷ []
  pub ordered : converted_cell op.ToOrdinal Scalar (below_zero 2900000) ≡ below_zero 2 ∷ []
  pub counted : converted_cell op.ToScalar Nominal (Val (pos 3)) ≡ whole_scalar 3 ∷ []
  pub untrue : converted_cell op.ToBoolean Scalar (whole_scalar 0) ≡ truth false ∷ []
  pub true_of_two : converted_cell op.ToBoolean Nominal (Val (pos 2)) ≡ truth true ∷ []
  pub too_large : over_of op.ToNominal (Scalar ∷ []) ((Val (pos 1) ∷ whole_scalar 2147483648 ∷ []) ∷ []) 2 ≡ Some 1

-- ---- a program of one sum, `report C = A + A;`, over a grid of two columns

-- the sum of an operand and the grid: an operation with this number in its statement, handed out or not
abbrev pub plus_grid : Operand → ℕ → Bool → Operation
plus_grid first number kept = record {
  op = op.Add;
  kind = Scalar;
  a = first;
  b = from.Input 0;
  c = from.Unused;
  d = from.Unused;
  drain = 0;
  file = 0;
  window = 0;
  statement = 1;
  number = number;
  kept = kept;
}

-- the program of these sums, of which the one with this number is C
abbrev pub sums_of : List Operation → ℕ → Program
sums_of sums n = record {
  inputs = record { file = codes "a.asc"; role = Grid; kind = Scalar } ∷ [];
  initial = sums;
  dynamic = [];
  drains = [];
  outputs = record { file = codes "C"; kind = InitialGrid; value = from.Initial n; cell_kind = Scalar; statement = 1 } ∷ [];
  area = 0;
  steps = 0;
}

-- the program
abbrev pub doubled : Program
doubled = sums_of (plus_grid (from.Input 0) 1 true ∷ []) 0

-- `report C = A + A + A;`, of which the second sum alone is handed out
abbrev pub tripled : Program
tripled = sums_of (plus_grid (from.Input 0) 1 false ∷ plus_grid (from.Initial 0) 2 true ∷ []) 1

-- what is known of a grid of two columns and so many rows, and of tables
abbrev pub of_grid : ℕ → List TableValue → List Cell → Known
of_grid rows tables cells = record {
  rows = rows;
  cols = 2;
  maps = cells ∷ [];
  tables = tables;
  series = [];
  drains = [];
  stacks = [];
  initial = [];
  last = [];
}

-- what is known of its grid
abbrev pub over_grid : List Cell → Known
over_grid cells = of_grid 1 [] cells

-- the Over of an operation of a statement at a step, in the second column
abbrev pub over_in_column_two : ℕ → ℕ → ℕ → OverAt
over_in_column_two step statement number = record { step = step; statement = statement; operation = number; row = 1; col = 2 }

-- a scalar whose double is out of range
abbrev pub too_much : Cell
too_much = whole_scalar 9000000000000

-- what is known of a grid of two rows
abbrev pub over_square : List Cell → Known
over_square cells = of_grid 2 [] cells

-- what its span gives
pub record ProgramExamples : Type 0 where
  -- 1 and 2 give 2 and 4
  pub within : stage_of doubled (whole_span doubled) (over_grid (whole_scalar 1 ∷ whole_scalar 2 ∷ []))
      ≡ record { maps = record { step = 0; operation = 0; cells = whole_scalar 2 ∷ whole_scalar 4 ∷ [] } ∷ []; over = None }
  -- 1 and 9,000,000,000,000 give an Over in the second column
  pub beyond : stage_of doubled (whole_span doubled) (over_grid (whole_scalar 1 ∷ whole_scalar 9000000000000 ∷ []))
      ≡ record { maps = []; over = Some (over_in_column_two 0 1 1) }
  -- of two Overs in the second row the first is told
  pub below : (stage_of doubled (whole_span doubled) (over_square (whole_scalar 1 ∷ whole_scalar 2 ∷ too_much ∷ too_much ∷ []))).over
      ≡ Some (record { step = 0; statement = 1; operation = 1; row = 2; col = 1 })
  -- 1 and 2 give 3 and 6: the map of the second sum, by its number, and of the first none
  pub handed_out : stage_of tripled (whole_span tripled) (over_grid (whole_scalar 1 ∷ whole_scalar 2 ∷ []))
      ≡ record { maps = record { step = 0; operation = 1; cells = whole_scalar 3 ∷ whole_scalar 6 ∷ [] } ∷ []; over = None }

-- ---- statements over whole maps

-- the statement `T = A op B`
abbrev pub statement : List ℕ → Op → Tree → Tree → Statement
statement target o first second = record { target = target; value = tree.Call Scalar o (first ∷ second ∷ []) }

-- the grid
abbrev pub grid : Tree
grid = tree.Input Scalar 0

-- a name
abbrev pub named : List ℕ → Tree
named name = tree.Name Scalar name

-- a grid of two columns at a step
abbrev pub scene_over : ℕ → Cell → Cell → Scene
scene_over step first second =
    record { rows = 1; cols = 2; step = step; inputs = (first ∷ second ∷ []) ∷ []; tables = []; series = []; stacks = [] }

-- no name has a map
abbrev pub unassigned : List ℕ → List Cell
unassigned name = []

-- the map of a name after a section
abbrev pub map_named : List ℕ → Result After OverAt → Result (List Cell) OverAt
map_named name (Ok after) = Ok (after.names name)
map_named name (Err at) = Err at

-- the maps of the statements of a section
abbrev pub maps_given : Result After OverAt → Result (List (List Cell)) OverAt
maps_given (Ok after) = Ok after.maps
maps_given (Err at) = Err at

-- `C = A + A; D = C; C = C - A;`
abbrev pub going_back : List Statement
going_back =
    statement (codes "C") op.Add grid grid
    ∷ record { target = codes "D"; value = named (codes "C") }
    ∷ statement (codes "C") op.Sub (named (codes "C")) grid
    ∷ []

-- `C = A - A; D = A * (A - C + A);`
abbrev pub going_over : List Statement
going_over =
    statement (codes "C") op.Sub grid grid
    ∷ statement (codes "D") op.Mul grid (tree.Call Scalar op.Add (tree.Call Scalar op.Sub (grid ∷ named (codes "C") ∷ []) ∷ grid ∷ []))
    ∷ []

-- `D = (A - A) * (A + A);`
abbrev pub over_behind : List Statement
over_behind =
    statement (codes "D") op.Mul (tree.Call Scalar op.Sub (grid ∷ grid ∷ [])) (tree.Call Scalar op.Add (grid ∷ grid ∷ [])) ∷ []

-- `W = windowtotal(A, 3);`
abbrev pub over_windows : List Statement
over_windows = record { target = codes "W"; value = tree.CallWith Scalar op.WindowTotal 0 3 (grid ∷ []) } ∷ []

-- what sections of statements give
pub record SectionExamples : Type 0 where
  -- C has the cells of A again, and D those that C had above
  pub last : map_named (codes "C") (section_value (scene_over 0 (whole_scalar 1) (whole_scalar 2)) 1 unassigned going_back)
      ≡ Ok (whole_scalar 1 ∷ whole_scalar 2 ∷ [])
  pub above : map_named (codes "D") (section_value (scene_over 0 (whole_scalar 1) (whole_scalar 2)) 1 unassigned going_back)
      ≡ Ok (whole_scalar 2 ∷ whole_scalar 4 ∷ [])
  -- each statement has its map
  pub each : maps_given (section_value (scene_over 0 (whole_scalar 1) (whole_scalar 2)) 1 unassigned going_back)
      ≡ Ok ((whole_scalar 2 ∷ whole_scalar 4 ∷ [])
      ∷ (whole_scalar 2 ∷ whole_scalar 4 ∷ [])
      ∷ (whole_scalar 1 ∷ whole_scalar 2 ∷ [])
      ∷ [])
  -- over 1 and 9,000,000,000,000 at step 3 the sum, which is the second operation of its statement, is Over before the product
  pub first : map_named (codes "D") (section_value (scene_over 3 (whole_scalar 1) (whole_scalar 9000000000000)) 1 unassigned going_over)
      ≡ Err (over_in_column_two 3 2 2)
  -- the operations of the first operand count before those of the second
  pub behind : map_named (codes "D") (section_value (scene_over 3 (whole_scalar 1) (whole_scalar 9000000000000)) 1 unassigned over_behind)
      ≡ Err (over_in_column_two 3 1 2)
  -- an operation that is told the length of its window: both cells have 1 and 2 in theirs
  pub told : map_named (codes "W") (section_value (scene_over 0 (whole_scalar 1) (whole_scalar 2)) 1 unassigned over_windows)
      ≡ Ok (whole_scalar 3 ∷ whole_scalar 3 ∷ [])

-- ---- statements at steps

-- a grid of one cell at a step
abbrev pub scene_at : ℕ → Scene
scene_at step = record { rows = 1; cols = 1; step = step; inputs = []; tables = []; series = []; stacks = [] }

-- the number 1
abbrev pub unit : Tree
unit = tree.Number Scalar (whole_scalar 1)

-- `initial A = 1; B = 1;`
abbrev pub beginning : List Statement
beginning = record { target = codes "A"; value = unit } ∷ record { target = codes "B"; value = unit } ∷ []

-- `dynamic X = B; B = A; A = A + B;`
abbrev pub each_step : List Statement
each_step =
    record { target = codes "X"; value = named (codes "B") }
    ∷ record { target = codes "B"; value = named (codes "A") }
    ∷ statement (codes "A") op.Add (named (codes "A")) (named (codes "B"))
    ∷ []

-- what stands after the section `initial`
abbrev pub after_beginning : Result After OverAt
after_beginning = section_value (scene_at 0) 1 unassigned beginning

-- what stands after one more step: the environment before it is what stood there
abbrev pub after_step : ℕ → Result After OverAt → Result After OverAt
after_step step before = before >>= λ after. section_value (scene_at step) 3 after.names each_step

-- A name that is read above its assignment has the map of the step before, and at step 1 that of `initial`: X is 1, 1 and 2.
pub record StepExamples : Type 0 where
  pub one : map_named (codes "X") (after_step 1 after_beginning) ≡ Ok (whole_scalar 1 ∷ [])
  pub two : map_named (codes "X") (after_step 2 (after_step 1 after_beginning)) ≡ Ok (whole_scalar 1 ∷ [])
  pub three : map_named (codes "X") (after_step 3 (after_step 2 (after_step 1 after_beginning))) ≡ Ok (whole_scalar 2 ∷ [])

-- ---- programs with steps

-- an operation on two scalars, which is kept
abbrev pub kept_operation : Op → Operand → Operand → ℕ → ℕ → Operation
kept_operation o a b statement number = record {
  op = o;
  kind = Scalar;
  a = a;
  b = b;
  c = from.Unused;
  d = from.Unused;
  drain = 0;
  file = 1;
  window = 0;
  statement = statement;
  number = number;
  kept = true;
}

-- a program of these sections over three steps, whose inputs are a map of ids, a series and a stack
abbrev pub over_steps : List Operation → List Operation → Program
over_steps initial dynamic = record {
  inputs =
      record { file = codes "id.asc"; role = Grid; kind = Nominal }
      ∷ record { file = codes "r.tss"; role = Series; kind = Scalar }
      ∷ record { file = codes "rain"; role = Stack; kind = Scalar }
      ∷ [];
  initial = initial;
  dynamic = dynamic;
  drains = [];
  outputs = [];
  area = 0;
  steps = 3;
}

-- the map of one cell of an operation at a step
abbrev pub cell_at_step : ℕ → ℕ → Cell → StepMap
cell_at_step step n cell = record { step = step; operation = n; cells = cell ∷ [] }

-- what is known: the id 1, a series of these values at steps 1 to 3, a stack of 5, missing and 7, and the maps of `initial` and
-- of the step before
abbrev pub over_cell_behind : Cell → Cell → Cell → List StepMap → List StepMap → Known
over_cell_behind first second third initial last = record {
  rows = 1;
  cols = 1;
  maps = (Val (pos 1) ∷ []) ∷ [];
  tables = [];
  series =
      record {
        kind = Scalar;
        rows =
            record { step = 1; cells = first ∷ [] }
            ∷ record { step = 2; cells = second ∷ [] }
            ∷ record { step = 3; cells = third ∷ [] }
            ∷ [];
      } ∷ [];
  drains = [];
  stacks = cell_at_step 1 2 (whole_scalar 5) ∷ cell_at_step 2 2 Mv ∷ cell_at_step 3 2 (whole_scalar 7) ∷ [];
  initial = initial;
  last = last;
}

-- the same before step 1
abbrev pub over_cell : Cell → Cell → Cell → List StepMap → Known
over_cell first second third initial = over_cell_behind first second third initial []

-- the map of one cell of an operation of `initial`
abbrev pub begun_with : ℕ → Cell → StepMap
begun_with n cell = cell_at_step 0 n cell

-- A and B are 1
abbrev pub begun_with_ones : List StepMap
begun_with_ones = begun_with 0 (whole_scalar 1) ∷ begun_with 1 (whole_scalar 1) ∷ []

-- A is 1, and B is 2
abbrev pub begun_apart : List StepMap
begun_apart = begun_with 0 (whole_scalar 1) ∷ begun_with 1 (whole_scalar 2) ∷ []

-- behind step 1 B is 1, and A is 2
abbrev pub behind_step_one : List StepMap
behind_step_one = cell_at_step 1 1 (whole_scalar 1) ∷ cell_at_step 1 2 (whole_scalar 2) ∷ []

-- S is 0
abbrev pub begun_with_none : List StepMap
begun_with_none = begun_with 0 (whole_scalar 0) ∷ []

-- the cells of the maps of one operation that are told, step by step
abbrev pub told_cells : ℕ → StageEnd → List (List Cell)
told_cells n end = map (λ m. m.cells) (filter (λ m. m.operation == n) end.maps)

-- `initial A = 1; B = 1; dynamic X = B; B = A; A = A + B;`
abbrev pub going_on : Program
going_on = over_steps
    (kept_operation op.CopyOf (from.Literal Scalar (whole_scalar 1)) from.Unused 1 1
    ∷ kept_operation op.CopyOf (from.Literal Scalar (whole_scalar 1)) from.Unused 2 1
    ∷ [])
    (kept_operation op.CopyOf (from.Last 1 1) from.Unused 3 1
    ∷ kept_operation op.CopyOf (from.Last 2 0) from.Unused 4 1
    ∷ kept_operation op.Add (from.Last 2 0) (from.Now 1) 5 1
    ∷ [])

-- `initial S = 0; dynamic S = S + timeinputscalar(R, Id);`
abbrev pub summing : Program
summing = over_steps (kept_operation op.CopyOf (from.Literal Scalar (whole_scalar 0)) from.Unused 1 1 ∷ [])
    (kept_operation op.TimeInputScalar (from.Input 0) from.Unused 2 1 ∷ kept_operation op.Add (from.Last 1 0) (from.Now 0) 2 2 ∷ [])

-- `dynamic O = timeinput(P); T = time();`
abbrev pub reading_steps : Program
reading_steps =
    over_steps [] (kept_operation op.CopyOf (from.Stack 2) from.Unused 1 1 ∷ kept_operation op.CopyOf from.Time from.Unused 2 1 ∷ [])

-- `initial S = 0; dynamic R = S;`
abbrev pub staying : Program
staying = over_steps (kept_operation op.CopyOf (from.Literal Scalar (whole_scalar 0)) from.Unused 1 1 ∷ [])
    (kept_operation op.CopyOf (from.Initial 0) from.Unused 2 1 ∷ [])

-- what the three steps give
abbrev pub three_steps : Program → Known → StageEnd
three_steps program known = stage_of program (span.Steps 1 3) known

-- what spans of steps give
pub record SpanExamples : Type 0 where
  -- X is 1, 1 and 2
  pub before : told_cells 0 (three_steps going_on (over_cell Mv Mv Mv begun_with_ones))
      ≡ (whole_scalar 1 ∷ []) ∷ (whole_scalar 1 ∷ []) ∷ (whole_scalar 2 ∷ []) ∷ []
  -- where B begins with 2, X is 2, 1 and 2
  pub apart : told_cells 0 (three_steps going_on (over_cell Mv Mv Mv begun_apart))
      ≡ (whole_scalar 2 ∷ []) ∷ (whole_scalar 1 ∷ []) ∷ (whole_scalar 2 ∷ []) ∷ []
  -- the last two of these steps, from what is known behind the first
  pub later : told_cells 0 (stage_of going_on (span.Steps 2 3) (over_cell_behind Mv Mv Mv begun_apart behind_step_one))
      ≡ (whole_scalar 1 ∷ []) ∷ (whole_scalar 2 ∷ []) ∷ []
  -- over a series of 1, 2 and 4 S is 1, 3 and 7
  pub summed : told_cells 1 (three_steps summing (over_cell (whole_scalar 1) (whole_scalar 2) (whole_scalar 4) begun_with_none))
      ≡ (whole_scalar 1 ∷ []) ∷ (whole_scalar 3 ∷ []) ∷ (whole_scalar 7 ∷ []) ∷ []
  -- over a series of 1 and 9,000,000,000,000 the sum is Over at step 2, and S is told of step 1 alone
  pub over_from : (three_steps summing (over_cell (whole_scalar 1) (whole_scalar 9000000000000) Mv begun_with_none)).over
      ≡ Some (record { step = 2; statement = 2; operation = 2; row = 1; col = 1 })
  pub told_before : told_cells 1 (three_steps summing (over_cell (whole_scalar 1) (whole_scalar 9000000000000) Mv begun_with_none))
      ≡ (whole_scalar 1 ∷ []) ∷ []
  -- a map of `initial` is there at each step
  pub stayed : told_cells 0 (three_steps staying (over_cell Mv Mv Mv begun_with_none))
      ≡ (whole_scalar 0 ∷ []) ∷ (whole_scalar 0 ∷ []) ∷ (whole_scalar 0 ∷ []) ∷ []
  -- each map is told with its step
  pub by_steps : map (λ m. m.step) (three_steps staying (over_cell Mv Mv Mv begun_with_none)).maps ≡ 1 ∷ 2 ∷ 3 ∷ []
  -- the grids of the stack, and the numbers of the steps
  pub stacked : told_cells 0 (three_steps reading_steps (over_cell Mv Mv Mv []))
      ≡ (whole_scalar 5 ∷ []) ∷ (Mv ∷ []) ∷ (whole_scalar 7 ∷ []) ∷ []
  pub counted : told_cells 1 (three_steps reading_steps (over_cell Mv Mv Mv []))
      ≡ (whole_scalar 1 ∷ []) ∷ (whole_scalar 2 ∷ []) ∷ (whole_scalar 3 ∷ []) ∷ []

-- ---- tables and series

-- the table of the lines `[0,10> 1` and `[10,> 2`
abbrev pub from_ten : TableValue
from_ten = record {
  keys = 1;
  kind = Scalar;
  rows =
      record { keys = record { first = pos 0; last = pos 9999999 } ∷ []; result = pos 1000000 }
      ∷ record { keys = record { first = pos 10000000; last = greatest_number } ∷ []; result = pos 2000000 }
      ∷ [];
}

-- the key that is a whole number
abbrev pub the_number : ℕ → KeyRange
the_number n = record { first = pos (n * 1000000); last = pos (n * 1000000) }

-- the table of the lines `1 2 5` and `1 <,> 6`
abbrev pub of_two_keys : TableValue
of_two_keys = record {
  keys = 2;
  kind = Nominal;
  rows =
      record { keys = the_number 1 ∷ the_number 2 ∷ []; result = pos 5 }
      ∷ record { keys = the_number 1 ∷ record { first = least_number; last = greatest_number } ∷ []; result = pos 6 }
      ∷ [];
}

-- the series of the lines `1 4 8` and `3 2 1e31`
abbrev pub of_two_rows : SeriesValue
of_two_rows = record {
  kind = Scalar;
  rows =
      record { step = 1; cells = whole_scalar 4 ∷ whole_scalar 8 ∷ [] } ∷ record { step = 3; cells = whole_scalar 2 ∷ Mv ∷ [] } ∷ [];
}

-- what a lookup on these kinds is told
abbrev pub told_table : TableValue → List Kind → Setting
told_table table kinds = record { kinds = kinds; rows = 0; cols = 0; step = 0; table = table; series = no_series; window = 0 }

-- the cells that a lookup on these kinds gives at the places of some maps
abbrev pub looked_up : Op → TableValue → List Kind → List (List Cell) → ℕ → List Cell
looked_up o table kinds maps places = (part_of (outcome_of o (told_table table kinds) (map cell_at maps)) places).cells

-- what an operation is told of the series at a step
abbrev pub told_series : ℕ → Setting
told_series step = record { kinds = Nominal ∷ []; rows = 0; cols = 0; step = step; table = no_table; series = of_two_rows; window = 0 }

-- the cells that the series gives of these ids at a step
abbrev pub cells_of_step : ℕ → List Cell → ℕ → List Cell
cells_of_step step ids places =
    (part_of (outcome_of op.TimeInputScalar (told_series step) (cell_at ids ∷ [])) places).cells

-- the table of the line `1 2 3 4 9`
abbrev pub of_four_keys : TableValue
of_four_keys = record {
  keys = 4;
  kind = Ordinal;
  rows = record { keys = the_number 1 ∷ the_number 2 ∷ the_number 3 ∷ the_number 4 ∷ []; result = pos 9 } ∷ [];
}

-- what a lookup with a key gives of 1 and 2, where the table has the line of 1 and this result
abbrev pub looked_up_once : Op → Kind → ℤ → List Cell
looked_up_once o kind result =
    looked_up o (record { keys = 1; kind = kind; rows = record { keys = the_number 1 ∷ []; result = result } ∷ [] }) (Scalar ∷ [])
    ((whole_scalar 1 ∷ whole_scalar 2 ∷ []) ∷ []) 2

-- what an operation gives of the ids 1 and 2 at step 7, where the series has the line of that step and this cell
abbrev pub read_once : Op → Kind → Cell → List Cell
read_once o kind cell =
    (part_of
    (outcome_of o
    (record {
      kinds = Nominal ∷ [];
      rows = 0;
      cols = 0;
      step = 7;
      table = no_table;
      series = record { kind = kind; rows = record { step = 7; cells = cell ∷ [] } ∷ [] };
      window = 0;
    })
    (cell_at (Val (pos 1) ∷ Val (pos 2) ∷ []) ∷ []))
    2).cells

-- a scene with two tables
abbrev pub scene_with_tables : Scene
scene_with_tables =
    record { rows = 1; cols = 1; step = 0; inputs = []; tables = no_table ∷ from_ten ∷ []; series = []; stacks = [] }

-- a scene with two stacks, at step 1
abbrev pub scene_with_stacks : Scene
scene_with_stacks = record {
  rows = 1;
  cols = 1;
  step = 1;
  inputs = [];
  tables = [];
  series = [];
  stacks = cell_at_step 1 2 (whole_scalar 5) ∷ cell_at_step 1 3 (whole_scalar 7) ∷ [];
}

-- `report L = lookupscalar(T, N);`, where N has classes
abbrev pub looking : Program
looking = record {
  inputs =
      record { file = codes "n.asc"; role = Grid; kind = Nominal } ∷ record { file = codes "t.tbl"; role = Table 1; kind = Scalar } ∷ [];
  initial = kept_operation op.LookupScalar (from.Input 0) from.Unused 1 1 ∷ [];
  dynamic = [];
  drains = [];
  outputs = [];
  area = 0;
  steps = 0;
}

-- what lookups and series give
pub record FileExamples : Type 0 where
  -- 10, 9.999999 and -1
  pub intervals : looked_up op.LookupScalar from_ten (Scalar ∷ []) ((whole_scalar 10 ∷ Val (pos 9999999) ∷ below_zero 1000000 ∷ []) ∷ []) 3
      ≡ whole_scalar 2 ∷ whole_scalar 1 ∷ Mv ∷ []
  -- a class is compared as the whole number that it is, the first row that fits counts, and a missing key gives a missing value
  pub classes : looked_up op.LookupNominal of_two_keys (Nominal ∷ Scalar ∷ [])
      ((Val (pos 1) ∷ Val (pos 1) ∷ Val (pos 2) ∷ Mv ∷ Val (pos 1) ∷ [])
      ∷ (whole_scalar 2 ∷ whole_scalar 3 ∷ whole_scalar 2 ∷ whole_scalar 2 ∷ Mv ∷ [])
      ∷ [])
      5 ≡ Val (pos 5) ∷ Val (pos 6) ∷ Mv ∷ Mv ∷ Mv ∷ []
  -- columns count from 1; there is no row for step 2
  pub columns : cells_of_step 1 (Val (pos 1) ∷ Val (pos 2) ∷ Val (pos 3) ∷ Val (pos 0) ∷ Val (neg_ℤ (pos 1)) ∷ Mv ∷ []) 6
      ≡ whole_scalar 4 ∷ whole_scalar 8 ∷ Mv ∷ Mv ∷ Mv ∷ Mv ∷ []
  pub no_row : cells_of_step 2 (Val (pos 1) ∷ []) 1 ≡ Mv ∷ []
  pub missing_cell : cells_of_step 3 (Val (pos 1) ∷ Val (pos 2) ∷ []) 2 ≡ whole_scalar 2 ∷ Mv ∷ []
  -- four keys: all of them count, each at its place
  pub four_keys : looked_up op.LookupOrdinal of_four_keys (Scalar ∷ Scalar ∷ Nominal ∷ Scalar ∷ [])
      ((whole_scalar 1 ∷ whole_scalar 1 ∷ whole_scalar 1 ∷ [])
      ∷ (whole_scalar 2 ∷ whole_scalar 2 ∷ whole_scalar 2 ∷ [])
      ∷ (Val (pos 3) ∷ Val (pos 4) ∷ Val (pos 3) ∷ [])
      ∷ (whole_scalar 4 ∷ whole_scalar 4 ∷ Mv ∷ [])
      ∷ [])
      3 ≡ Val (pos 9) ∷ Mv ∷ Mv ∷ []
  -- an operation is told the table with the number that it names
  pub second_table : (setting_at scene_with_tables 1 0 (Scalar ∷ [])).table ≡ from_ten
  -- so does an operation of a program, at the classes 10 and -1
  pub in_program : stage_of looking (whole_span looking) (of_grid 1 (from_ten ∷ []) (Val (pos 10) ∷ below_zero 1 ∷ []))
      ≡ record { maps = record { step = 0; operation = 0; cells = whole_scalar 2 ∷ Mv ∷ [] } ∷ []; over = None }
  -- the grid of the stack with the number that is named
  pub second_stack : stack_map scene_with_stacks 3 ≡ whole_scalar 7 ∷ []
  -- lookups and series of each kind
  pub found_boolean : looked_up_once op.LookupBoolean Boolean (pos 1) ≡ truth true ∷ Mv ∷ []
  pub found_nominal : looked_up_once op.LookupNominal Nominal (pos 5) ≡ Val (pos 5) ∷ Mv ∷ []
  pub found_ordinal : looked_up_once op.LookupOrdinal Ordinal (pos 6) ≡ Val (pos 6) ∷ Mv ∷ []
  pub found_scalar : looked_up_once op.LookupScalar Scalar (pos 1500000) ≡ Val (pos 1500000) ∷ Mv ∷ []
  pub found_directional : looked_up_once op.LookupDirectional Directional (pos 90000000) ≡ Val (pos 90000000) ∷ Mv ∷ []
  pub read_boolean : read_once op.TimeInputBoolean Boolean (truth true) ≡ truth true ∷ Mv ∷ []
  pub read_nominal : read_once op.TimeInputNominal Nominal (Val (pos 5)) ≡ Val (pos 5) ∷ Mv ∷ []
  pub read_ordinal : read_once op.TimeInputOrdinal Ordinal (Val (pos 6)) ≡ Val (pos 6) ∷ Mv ∷ []
  pub read_scalar : read_once op.TimeInputScalar Scalar (whole_scalar 2) ≡ whole_scalar 2 ∷ Mv ∷ []
  pub read_directional : read_once op.TimeInputDirectional Directional (Val (pos 90000000)) ≡ Val (pos 90000000) ∷ Mv ∷ []
  -- the files of stacks: prefixes of one, four and eight bytes
  pub first_file : stack_file (codes "rain") 1 ≡ codes "rain0000.001"
  pub later_file : stack_file (codes "q") 98765 ≡ codes "q0000098.765"
  pub short_file : stack_file (codes "abcdefgh") 12 ≡ codes "abcdefgh.012"

-- ---- expressions

-- the value of an expression in the first statement, where no name has a map
abbrev pub value_in : Scene → Tree → Result (List Cell) OverAt
value_in scene expression = value_of_tree (record { scene = scene; names = unassigned; statement = 1 }) expression

-- a number
abbrev pub written_number : Kind → Cell → Tree
written_number kind cell = tree.Number kind cell

-- the total of a window of this length
abbrev pub total_of_window : ℕ → Tree → Tree
total_of_window length operand = tree.CallWith Scalar op.WindowTotal 0 length (operand ∷ [])

-- what expressions give
pub record TreeExamples : Type 0 where
  -- `time()` at step 3, and the grid of a stack
  pub step : value_in (scene_at 3) tree.Time ≡ Ok (whole_scalar 3 ∷ [])
  pub stack : value_in scene_with_stacks (tree.Stack Scalar 3) ≡ Ok (whole_scalar 7 ∷ [])
  -- an operation is told the kinds of its operands: the scalar of the class 3
  pub kinds : value_in (scene_at 0) (tree.Call Scalar op.ToScalar (written_number Nominal (Val (pos 3)) ∷ [])) ≡ Ok (whole_scalar 3 ∷ [])
  -- and the table with the number that it names, at 10
  pub table : value_in scene_with_tables (tree.CallWith Scalar op.LookupScalar 1 0 (written_number Scalar (whole_scalar 10) ∷ []))
      ≡ Ok (whole_scalar 2 ∷ [])
  -- such an operation counts behind its operands: `windowtotal(abs(A), 3)` over 1 and 9,000,000,000,000
  pub behind : value_in (scene_over 0 (whole_scalar 1) too_much) (total_of_window 3 (tree.Call Scalar op.Abs (grid ∷ [])))
      ≡ Err (record { step = 0; statement = 1; operation = 2; row = 1; col = 1 })
  -- and before those that follow: `windowtotal(A, 1) * (A + A)`
  pub before : value_in (scene_over 0 (whole_scalar 1) too_much)
      (tree.Call Scalar op.Mul (total_of_window 1 grid ∷ tree.Call Scalar op.Add (grid ∷ grid ∷ []) ∷ []))
      ≡ Err (over_in_column_two 0 1 2)

-- ---- kinds

-- what the table of operations allows
pub record KindExamples : Type 0 where
  -- `if(c then a else b)` gives the kind of its branches
  pub chosen : HasKinds (row_of op.IfElse) (Boolean ∷ Nominal ∷ Nominal ∷ []) Nominal
  -- `min` takes what has an order
  pub least : HasKinds (row_of op.Min) (Ordinal ∷ Ordinal ∷ []) Ordinal
  -- `min` of three operands is two operations
  pub nested : HasKinds (row_of op.Min) (Ordinal ∷ Ordinal ∷ Ordinal ∷ []) Ordinal → ⊥
  -- a transport without a word takes no operands
  pub no_word : HasKinds (row_of (op.Flow flow.CapacityFlux)) (Nominal ∷ []) Nominal → ⊥
  -- the branches of `if` agree
  pub apart : HasKinds (row_of op.IfElse) (Boolean ∷ Nominal ∷ Ordinal ∷ []) Nominal → ⊥
  -- classes have no order
  pub unordered : HasKinds (row_of op.Min) (Nominal ∷ Nominal ∷ []) Nominal → ⊥
  -- a lookup has 1 to 4 operands behind its table
  pub two_keys : HasKinds (map_row (row_of op.LookupScalar)) (Nominal ∷ Scalar ∷ []) Scalar
  pub no_key : HasKinds (map_row (row_of op.LookupScalar)) [] Scalar → ⊥
  -- ids are classes
  pub no_ids : HasKinds (map_row (row_of op.TimeInputScalar)) (Scalar ∷ []) Scalar → ⊥
  -- the length of a window is no map
  pub one_map : HasKinds (map_row (row_of op.WindowTotal)) (Scalar ∷ []) Scalar
  -- areas are those of classes
  pub no_area : HasKinds (row_of op.AreaTotal) (Scalar ∷ Scalar ∷ []) Scalar → ⊥
  -- a catchment has the kind of its points
  pub of_points : HasKinds (row_of (op.Flow flow.Catchment)) (Ldd ∷ Nominal ∷ []) Nominal
  -- flows go along drain directions, and along nothing else
  pub no_directions : HasKinds (row_of (op.Flow flow.Accuflux)) (Nominal ∷ Scalar ∷ []) Scalar → ⊥
