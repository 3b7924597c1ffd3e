use Rattle.std.proofs.Common.{◌≡◌, ℕ, zero, suc, ◌<◌, List, [], ◌∷◌, refl, ap, ◌∙◌, true, false, arith}
use Rattle.std.specs.Prelude.{codes, pos, Ok, Err}
use Rattle.cell_values.specs.declared.kind.Kind.TheVariants.{Boolean, Ldd, Nominal, Ordinal, Scalar}
use Rattle.cell_values.specs.declared.cell.Cell.{Cell}
use Rattle.cell_values.specs.declared.cell.Cell.TheVariants.{Val}
use Rattle.cell_values.specs.Rounding.{nearest, nearest_size}
use Rattle.tile_map.specs.Rects.{grown, place_in, places_of}
use Rattle.region_meaning.specs.AreaResults.{area_result}
use Rattle.region_meaning.specs.Windows.{window_of, window_outcome}
use Rattle.region_meaning.specs.inside.MostFrequent.{most_frequent}
use Rattle.drain_meaning.specs.declared.op.FlowOp.TheVariants as flow
use Rattle.drain_meaning.specs.Drains.{next_at, next_of}
use Rattle.drain_meaning.specs.Equations.{equation_of}
use Rattle.drain_meaning.specs.Masks.{lddmask_of}
use Rattle.drain_meaning.specs.Near.{near_outcome}
use Rattle.drain_meaning.specs.Transports.{end_of, feeders}
use Rattle.map_meaning.specs.PlaceExamples.{all_but_third, codes_masked, flows_masked, row_scene, statements_over_mask}
use Rattle.map_meaning.specs.declared.op.Op.{Op}
use Rattle.map_meaning.specs.declared.op.Op.TheVariants as op
use Rattle.map_meaning.specs.declared.tree.Tree.{Tree}
use Rattle.map_meaning.specs.declared.tree.Tree.TheVariants as tree
use Rattle.map_meaning.specs.declared.tree.Tree.TheOpen.{Tree-F}
use Rattle.map_meaning.specs.Evaluation.{operation_part}
use Rattle.map_meaning.specs.Examples.{after_beginning, after_step, grid, map_named, maps_given, named, scene_at, scene_over, scene_with_stacks, scene_with_tables, statement, too_much, total_of_window, unassigned, unit, value_in, whole_scalar, written_number}
use Rattle.map_meaning.specs.declared.tree.Statement.{Statement}
use Rattle.map_meaning.specs.Scenes.{Scene}
use Rattle.map_meaning.specs.Sections.{After, after_statements, assigned}
use Rattle.map_meaning.specs.Rules.{rule_of, kind_at}
use Rattle.map_meaning.specs.Spans.{stage_of}
use Rattle.map_meaning.specs.Table.{HasKinds, table_rows, allows, ask_at, common_kind, map_row, row_of}
use Rattle.map_meaning.specs.Trees.{Environment, TreeMeaning, meaning_of, meaning_level}
use Rattle.map_meaning.proofs.Callers.{after_statements-map, after_statements-over, meaning_of-Call, meaning_of-CallWith, meaning_of-Input, meaning_of-Mask, meaning_of-Name, meaning_of-Number, meaning_of-Stack, meaning_of-Time}
use Rattle.map_meaning.proofs.laws.worked_examples_come_out.Goals as goal

pub returns-clause-cells : goal.returns-clause-cells
unfolding rule_of nearest nearest_size
returns-clause-cells c = record {
  if_else = refl;
  if_then = refl;
  covered = refl;
  defined = refl;
  divided = refl;
  added = refl;
  down = refl;
  up = refl;
  off = refl;
  conjunction = refl;
  disjunction = refl;
  exclusion = refl;
  less = refl;
  negation = refl;
  equal = refl;
  unequal = refl;
  below = refl;
  not_above = refl;
  above = refl;
  not_below = refl;
  least = refl;
  greatest = refl;
  sums = refl;
  differences = refl;
  products = refl;
  quotients = refl;
  whole_quotients = refl;
  remainders = refl;
  negatives = refl;
  sizes = refl;
  same = refl;
  turned = refl;
  cut = refl;
  ordered = refl;
  counted = refl;
  untrue = refl;
  true_of_two = refl;
  too_large = refl;
}

-- ---- kinds

three_places : (Q : ℕ → Type 0) → Q 0 → Q 1 → Q 2 → (i : ℕ) → i < 3 → Q i
three_places Q a b c zero below = a
three_places Q a b c (suc zero) below = b
three_places Q a b c (suc (suc zero)) below = c
three_places Q a b c (suc (suc (suc i))) below = absurd (omega arith)

two_places : (Q : ℕ → Type 0) → Q 0 → Q 1 → (i : ℕ) → i < 2 → Q i
two_places Q a b zero below = a
two_places Q a b (suc zero) below = b
two_places Q a b (suc (suc i)) below = absurd (omega arith)

one_place : (Q : ℕ → Type 0) → Q 0 → (i : ℕ) → i < 1 → Q i
one_place Q a zero below = a
one_place Q a (suc i) below = absurd (omega arith)

chosen : HasKinds (row_of op.IfElse) (Boolean ∷ Nominal ∷ Nominal ∷ []) Nominal
unfolding row_of
chosen = record {
  count = refl;
  each = let Q : ℕ → Type 0 = λ i. allows (common_kind (row_of op.IfElse) (Boolean ∷ Nominal ∷ Nominal ∷ [])) (ask_at (row_of op.IfElse) i) (kind_at (Boolean ∷ Nominal ∷ Nominal ∷ []) i) ≡ true in three_places Q refl refl refl;
  gives = refl;
}

least : HasKinds (row_of op.Min) (Ordinal ∷ Ordinal ∷ []) Ordinal
unfolding row_of
least = record {
  count = refl;
  each = let Q : ℕ → Type 0 = λ i. allows (common_kind (row_of op.Min) (Ordinal ∷ Ordinal ∷ [])) (ask_at (row_of op.Min) i) (kind_at (Ordinal ∷ Ordinal ∷ []) i) ≡ true in two_places Q refl refl;
  gives = refl;
}

apart : HasKinds (row_of op.IfElse) (Boolean ∷ Nominal ∷ Ordinal ∷ []) Nominal → ⊥
unfolding row_of
apart h = let e : false ≡ true = h.each 2 (omega arith) in cc

unordered : HasKinds (row_of op.Min) (Nominal ∷ Nominal ∷ []) Nominal → ⊥
unfolding row_of
unordered h = let e : false ≡ true = h.each 0 (omega arith) in cc

two_keys : HasKinds (map_row (row_of op.LookupScalar)) (Nominal ∷ Scalar ∷ []) Scalar
unfolding row_of
two_keys = record {
  count = refl;
  each = let Q : ℕ → Type 0 = λ i. allows (common_kind (map_row (row_of op.LookupScalar)) (Nominal ∷ Scalar ∷ [])) (ask_at (map_row (row_of op.LookupScalar)) i) (kind_at (Nominal ∷ Scalar ∷ []) i) ≡ true in two_places Q refl refl;
  gives = refl;
}

nested : HasKinds (row_of op.Min) (Ordinal ∷ Ordinal ∷ Ordinal ∷ []) Ordinal → ⊥
unfolding row_of
nested h = let e : false ≡ true = h.count in cc

no_word : HasKinds (row_of (op.Flow flow.CapacityFlux)) (Nominal ∷ []) Nominal → ⊥
unfolding row_of
no_word h = let e : false ≡ true = h.count in cc

no_key : HasKinds (map_row (row_of op.LookupScalar)) [] Scalar → ⊥
unfolding row_of
no_key h = let e : false ≡ true = h.count in cc

no_ids : HasKinds (map_row (row_of op.TimeInputScalar)) (Scalar ∷ []) Scalar → ⊥
unfolding row_of
no_ids h = let e : false ≡ true = h.each 0 (omega arith) in cc

one_map : HasKinds (map_row (row_of op.WindowTotal)) (Scalar ∷ []) Scalar
unfolding row_of
one_map = record {
  count = refl;
  each = let Q : ℕ → Type 0 = λ i. allows (common_kind (map_row (row_of op.WindowTotal)) (Scalar ∷ [])) (ask_at (map_row (row_of op.WindowTotal)) i) (kind_at (Scalar ∷ []) i) ≡ true in one_place Q refl;
  gives = refl;
}

no_area : HasKinds (row_of op.AreaTotal) (Scalar ∷ Scalar ∷ []) Scalar → ⊥
unfolding row_of
no_area h = let e : false ≡ true = h.each 1 (omega arith) in cc

of_points : HasKinds (row_of (op.Flow flow.Catchment)) (Ldd ∷ Nominal ∷ []) Nominal
unfolding row_of
of_points = record {
  count = refl;
  each = let Q : ℕ → Type 0 = λ i. allows (common_kind (row_of (op.Flow flow.Catchment)) (Ldd ∷ Nominal ∷ [])) (ask_at (row_of (op.Flow flow.Catchment)) i) (kind_at (Ldd ∷ Nominal ∷ []) i) ≡ true in two_places Q refl refl;
  gives = refl;
}

no_directions : HasKinds (row_of (op.Flow flow.Accuflux)) (Nominal ∷ Scalar ∷ []) Scalar → ⊥
unfolding row_of
no_directions h = let e : false ≡ true = h.each 0 (omega arith) in cc

pub returns-clause-kinds : goal.returns-clause-kinds
returns-clause-kinds c = record { chosen = chosen; least = least; nested = nested; no_word = no_word; apart = apart; unordered = unordered; two_keys = two_keys; no_key = no_key; no_ids = no_ids; one_map = one_map; no_area = no_area; of_points = of_points; no_directions = no_directions }

pub returns-clause-rows : goal.returns-clause-rows
unfolding row_of table_rows
returns-clause-rows c = record {
  rows = refl;
  first_missing = refl;
  second_missing = refl;
  third_missing = refl;
  out_of_range = refl;
  windows = refl;
  along_drains = refl;
  copy = refl;
  many = refl;
  lengths = refl;
}

pub returns-clause-overs : goal.returns-clause-overs
unfolding rule_of nearest nearest_size window_outcome window_of grown places_of place_in area_result next_at next_of near_outcome equation_of end_of feeders
returns-clause-overs c = record {
  sum = refl;
  difference = refl;
  product = refl;
  quotient = refl;
  whole_quotient = refl;
  nominal = refl;
  ordinal = refl;
  window_total = refl;
  area_total = refl;
  area_back = refl;
  map_total = refl;
  map_back = refl;
  upstream = refl;
  accuflux = refl;
  flux = refl;
}

pub returns-clause-programs : goal.returns-clause-programs
unfolding stage_of operation_part rule_of
returns-clause-programs c = record { within = refl; beyond = refl; below = refl; handed_out = refl }

-- ---- statements

-- the grid
grid_means : meaning_of grid ≡ meaning_level (Tree-F.Input Scalar 0)
grid_means = meaning_of-Input Scalar 0

-- a name
name_means : (name : List ℕ) → meaning_of (named name) ≡ meaning_level (Tree-F.Name Scalar name)
name_means name = meaning_of-Name Scalar name

-- an operation on two operands
pair_means : (o : Op) (x y : Tree) (mx my : TreeMeaning) → meaning_of x ≡ mx → meaning_of y ≡ my → meaning_of (tree.Call Scalar o (x ∷ y ∷ [])) ≡ meaning_level (Tree-F.Call Scalar o (mx ∷ my ∷ []))
pair_means o x y mx my hx hy =
    meaning_of-Call Scalar o (x ∷ y ∷ [])
    ∙ (ap (λ m. meaning_level (Tree-F.Call Scalar o (m ∷ meaning_of y ∷ []))) hx ∙ ap (λ m. meaning_level (Tree-F.Call Scalar o (mx ∷ m ∷ []))) hy)

-- the cells 1 and 2
abbrev scene : Scene
scene = scene_over 0 (Val (pos 1000000)) (Val (pos 2000000))

-- the cells 2 and 4
abbrev doubled_cells : List Cell
doubled_cells = Val (pos 2000000) ∷ Val (pos 4000000) ∷ []

abbrev start : After
start = record { names = unassigned; maps = [] }

abbrev first_sum : Statement
first_sum = statement (codes "C") op.Add grid grid

abbrev keeping : Statement
keeping = record { target = codes "D"; value = named (codes "C") }

abbrev going_back : Statement
going_back = statement (codes "C") op.Sub (named (codes "C")) grid

-- the three statements end with these maps
ended : after_statements scene 1 start (first_sum ∷ keeping ∷ going_back ∷ []) ≡ Ok (assigned (assigned (assigned start first_sum doubled_cells) keeping doubled_cells) going_back (Val (pos 1000000) ∷ Val (pos 2000000) ∷ []))
unfolding rule_of
ended =
    after_statements-map scene 1 start first_sum (keeping ∷ going_back ∷ []) _ doubled_cells (pair_means op.Add grid grid _ _ grid_means grid_means) refl
    ∙ (after_statements-map scene 2 (assigned start first_sum doubled_cells) keeping (going_back ∷ []) _ doubled_cells (name_means (codes "C")) refl
    ∙ after_statements-map scene 3 (assigned (assigned start first_sum doubled_cells) keeping doubled_cells) going_back [] _ (Val (pos 1000000) ∷ Val (pos 2000000) ∷ []) (pair_means op.Sub (named (codes "C")) grid _ _ (name_means (codes "C")) grid_means) refl)

-- the cells 1 and 9,000,000,000,000 at step 3
abbrev large : Scene
large = scene_over 3 (Val (pos 1000000)) (Val (pos 9000000000000000000))

abbrev emptied : Statement
emptied = statement (codes "C") op.Sub grid grid

abbrev difference : Tree
difference = tree.Call Scalar op.Sub (grid ∷ named (codes "C") ∷ [])

abbrev total : Tree
total = tree.Call Scalar op.Add (difference ∷ grid ∷ [])

abbrev multiplied : Statement
multiplied = statement (codes "D") op.Mul grid total

-- the sum is Over before the product
over : after_statements large 1 start (emptied ∷ multiplied ∷ []) ≡ Err (record { step = 3; statement = 2; operation = 2; row = 1; col = 2 })
unfolding rule_of
over =
    let inner = pair_means op.Sub grid (named (codes "C")) _ _ grid_means (name_means (codes "C")) in
    let outer = pair_means op.Add difference grid _ _ inner grid_means in
    after_statements-map large 1 start emptied (multiplied ∷ []) _ (Val (pos 0) ∷ Val (pos 0) ∷ []) (pair_means op.Sub grid grid _ _ grid_means grid_means) refl
    ∙ after_statements-over large 2 (assigned start emptied (Val (pos 0) ∷ Val (pos 0) ∷ [])) multiplied [] _ (record { step = 3; statement = 2; operation = 2; row = 1; col = 2 }) (pair_means op.Mul grid total _ _ grid_means outer) refl

-- the sum is Over, which is counted behind the difference
abbrev nothing_left : Tree
nothing_left = tree.Call Scalar op.Sub (grid ∷ grid ∷ [])

abbrev doubled_grid : Tree
doubled_grid = tree.Call Scalar op.Add (grid ∷ grid ∷ [])

abbrev both : Statement
both = statement (codes "D") op.Mul nothing_left doubled_grid

over_second : after_statements large 1 start (both ∷ []) ≡ Err (record { step = 3; statement = 1; operation = 2; row = 1; col = 2 })
unfolding rule_of
over_second =
    after_statements-over large 1 start both [] _ (record { step = 3; statement = 1; operation = 2; row = 1; col = 2 })
    (pair_means op.Mul nothing_left doubled_grid _ _ (pair_means op.Sub grid grid _ _ grid_means grid_means) (pair_means op.Add grid grid _ _ grid_means grid_means)) refl

-- the windows of both cells have both
abbrev totals : Statement
totals = record { target = codes "W"; value = tree.CallWith Scalar op.WindowTotal 0 3 (grid ∷ []) }

windowed : after_statements scene 1 start (totals ∷ []) ≡ Ok (assigned start totals (Val (pos 3000000) ∷ Val (pos 3000000) ∷ []))
unfolding rule_of window_outcome window_of grown places_of place_in
windowed =
    after_statements-map scene 1 start totals [] _ (Val (pos 3000000) ∷ Val (pos 3000000) ∷ []) (meaning_of-CallWith Scalar op.WindowTotal 0 3 (grid ∷ []) ∙ ap (λ m. meaning_level (Tree-F.CallWith Scalar op.WindowTotal 0 3 (m ∷ []))) grid_means) refl

pub returns-clause-sections : goal.returns-clause-sections
returns-clause-sections c = record { last = ap (map_named (codes "C")) ended; above = ap (map_named (codes "D")) ended; each = ap maps_given ended; first = ap (map_named (codes "D")) over; behind = ap (map_named (codes "D")) over_second; told = ap (map_named (codes "W")) windowed }

pub returns-clause-files : goal.returns-clause-files
unfolding stage_of operation_part rule_of
returns-clause-files c = record {
  intervals = refl;
  classes = refl;
  columns = refl;
  no_row = refl;
  missing_cell = refl;
  four_keys = refl;
  second_table = refl;
  in_program = refl;
  second_stack = refl;
  found_boolean = refl;
  found_nominal = refl;
  found_ordinal = refl;
  found_scalar = refl;
  found_directional = refl;
  read_boolean = refl;
  read_nominal = refl;
  read_ordinal = refl;
  read_scalar = refl;
  read_directional = refl;
  first_file = refl;
  later_file = refl;
  short_file = refl;
}

-- ---- expressions

-- an expression gives what it means
means : (scene : Scene) (expression : Tree) (m : TreeMeaning) → meaning_of expression ≡ m → value_in scene expression ≡ m.value (record { scene = scene; names = unassigned; statement = 1 }) 0
means scene expression m h = ap (λ x. x.value (record { scene = scene; names = unassigned; statement = 1 }) 0) h

-- an operation on one operand
one_means : (o : Op) (x : Tree) (mx : TreeMeaning) → meaning_of x ≡ mx → meaning_of (tree.Call Scalar o (x ∷ [])) ≡ meaning_level (Tree-F.Call Scalar o (mx ∷ []))
one_means o x mx hx = meaning_of-Call Scalar o (x ∷ []) ∙ ap (λ m. meaning_level (Tree-F.Call Scalar o (m ∷ []))) hx

-- one that is told a file and a length
told_means : (o : Op) (file window : ℕ) (x : Tree) (mx : TreeMeaning) → meaning_of x ≡ mx → meaning_of (tree.CallWith Scalar o file window (x ∷ [])) ≡ meaning_level (Tree-F.CallWith Scalar o file window (mx ∷ []))
told_means o file window x mx hx = meaning_of-CallWith Scalar o file window (x ∷ []) ∙ ap (λ m. meaning_level (Tree-F.CallWith Scalar o file window (m ∷ []))) hx

pub returns-clause-trees : goal.returns-clause-trees
unfolding rule_of window_outcome window_of grown places_of place_in
returns-clause-trees c = record {
  step = means (scene_at 3) tree.Time _ meaning_of-Time;
  stack = means scene_with_stacks (tree.Stack Scalar 3) _ (meaning_of-Stack Scalar 3);
  kinds = means (scene_at 0) _ _ (one_means op.ToScalar (written_number Nominal (Val (pos 3))) _ (meaning_of-Number Nominal (Val (pos 3))));
  table = means scene_with_tables _ _ (told_means op.LookupScalar 1 0 (written_number Scalar (whole_scalar 10)) _ (meaning_of-Number Scalar (whole_scalar 10)));
  behind = means (scene_over 0 (whole_scalar 1) too_much) _ _ (told_means op.WindowTotal 0 3 _ _ (one_means op.Abs grid _ grid_means));
  before = means (scene_over 0 (whole_scalar 1) too_much) _ _ (pair_means op.Mul (total_of_window 1 grid) doubled_grid _ _ (told_means op.WindowTotal 0 1 grid _ grid_means) (pair_means op.Add grid grid _ _ grid_means grid_means));
}

pub returns-clause-spans : goal.returns-clause-spans
unfolding stage_of operation_part rule_of
returns-clause-spans c = record { before = refl; apart = refl; later = refl; summed = refl; over_from = refl; told_before = refl; stayed = refl; by_steps = refl; stacked = refl; counted = refl }

-- ---- statements at steps

-- a number
number_means : meaning_of unit ≡ meaning_level (Tree-F.Number Scalar (whole_scalar 1))
number_means = meaning_of-Number Scalar (whole_scalar 1)

-- one map of one cell
abbrev one_cell : ℕ → List Cell
one_cell n = whole_scalar n ∷ []

-- what stands after the section `initial`
abbrev begun : After
begun = assigned (assigned (record { names = unassigned; maps = [] }) (record { target = codes "A"; value = unit }) (one_cell 1)) (record { target = codes "B"; value = unit }) (one_cell 1)

begun_is : after_beginning ≡ Ok begun
begun_is =
    after_statements-map (scene_at 0) 1 (record { names = unassigned; maps = [] }) (record { target = codes "A"; value = unit }) (record { target = codes "B"; value = unit } ∷ []) _ (one_cell 1) number_means refl
    ∙ after_statements-map (scene_at 0) 2 (assigned (record { names = unassigned; maps = [] }) (record { target = codes "A"; value = unit }) (one_cell 1)) (record { target = codes "B"; value = unit }) [] _ (one_cell 1) number_means refl

-- the statements of a step
abbrev kept_b : Statement
kept_b = record { target = codes "X"; value = named (codes "B") }

abbrev a_to_b : Statement
a_to_b = record { target = codes "B"; value = named (codes "A") }

abbrev a_and_b : Statement
a_and_b = statement (codes "A") op.Add (named (codes "A")) (named (codes "B"))

-- what stands after a step that begins with these values of B and A, where A and A are this together
abbrev stepped : Environment → ℕ → ℕ → ℕ → After
stepped names b a sum = assigned (assigned (assigned (record { names = names; maps = [] }) kept_b (one_cell b)) a_to_b (one_cell a)) a_and_b (one_cell sum)

-- a step where A and B are 1
first_step : after_step 1 (Ok begun) ≡ Ok (stepped begun.names 1 1 2)
unfolding rule_of
first_step =
    after_statements-map (scene_at 1) 3 (record { names = begun.names; maps = [] }) kept_b (a_to_b ∷ a_and_b ∷ []) _ (one_cell 1) (name_means (codes "B")) refl
    ∙ (after_statements-map (scene_at 1) 4 (assigned (record { names = begun.names; maps = [] }) kept_b (one_cell 1)) a_to_b (a_and_b ∷ []) _ (one_cell 1) (name_means (codes "A")) refl
    ∙ after_statements-map (scene_at 1) 5 (assigned (assigned (record { names = begun.names; maps = [] }) kept_b (one_cell 1)) a_to_b (one_cell 1)) a_and_b [] _ (one_cell 2) (pair_means op.Add (named (codes "A")) (named (codes "B")) _ _ (name_means (codes "A")) (name_means (codes "B"))) refl)

abbrev after_one : After
after_one = stepped begun.names 1 1 2

second_step : after_step 2 (Ok after_one) ≡ Ok (stepped after_one.names 1 2 4)
unfolding rule_of
second_step =
    after_statements-map (scene_at 2) 3 (record { names = after_one.names; maps = [] }) kept_b (a_to_b ∷ a_and_b ∷ []) _ (one_cell 1) (name_means (codes "B")) refl
    ∙ (after_statements-map (scene_at 2) 4 (assigned (record { names = after_one.names; maps = [] }) kept_b (one_cell 1)) a_to_b (a_and_b ∷ []) _ (one_cell 2) (name_means (codes "A")) refl
    ∙ after_statements-map (scene_at 2) 5 (assigned (assigned (record { names = after_one.names; maps = [] }) kept_b (one_cell 1)) a_to_b (one_cell 2)) a_and_b [] _ (one_cell 4) (pair_means op.Add (named (codes "A")) (named (codes "B")) _ _ (name_means (codes "A")) (name_means (codes "B"))) refl)

abbrev after_two : After
after_two = stepped after_one.names 1 2 4

third_step : after_step 3 (Ok after_two) ≡ Ok (stepped after_two.names 2 4 8)
unfolding rule_of
third_step =
    after_statements-map (scene_at 3) 3 (record { names = after_two.names; maps = [] }) kept_b (a_to_b ∷ a_and_b ∷ []) _ (one_cell 2) (name_means (codes "B")) refl
    ∙ (after_statements-map (scene_at 3) 4 (assigned (record { names = after_two.names; maps = [] }) kept_b (one_cell 2)) a_to_b (a_and_b ∷ []) _ (one_cell 4) (name_means (codes "A")) refl
    ∙ after_statements-map (scene_at 3) 5 (assigned (assigned (record { names = after_two.names; maps = [] }) kept_b (one_cell 2)) a_to_b (one_cell 4)) a_and_b [] _ (one_cell 8) (pair_means op.Add (named (codes "A")) (named (codes "B")) _ _ (name_means (codes "A")) (name_means (codes "B"))) refl)

-- the three steps, one after the other
one_is : after_step 1 after_beginning ≡ Ok after_one
one_is = ap (after_step 1) begun_is ∙ first_step

two_is : after_step 2 (after_step 1 after_beginning) ≡ Ok after_two
two_is = ap (after_step 2) one_is ∙ second_step

three_is : after_step 3 (after_step 2 (after_step 1 after_beginning)) ≡ Ok (stepped after_two.names 2 4 8)
three_is = ap (after_step 3) two_is ∙ third_step

pub returns-clause-steps : goal.returns-clause-steps
returns-clause-steps c = record { one = ap (map_named (codes "X")) one_is; two = ap (map_named (codes "X")) two_is; three = ap (map_named (codes "X")) three_is }

-- ---- windows, areas and whole maps

pub returns-clause-regions : goal.returns-clause-regions
unfolding rule_of window_outcome window_of grown places_of place_in area_result most_frequent nearest nearest_size
returns-clause-regions c = record {
  window_total = refl;
  window_rows = refl;
  window_average = refl;
  window_rounded = refl;
  window_minimum = refl;
  window_maximum = refl;
  window_diversity = refl;
  window_wide = refl;
  window_alone = refl;
  window_majority = refl;
  area_average = refl;
  area_minimum = refl;
  area_maximum = refl;
  area_sums = refl;
  area_diversity = refl;
  area_majority = refl;
  area_rows = refl;
  area_total = refl;
  area_size = refl;
  map_total = refl;
  map_minimum = refl;
  map_maximum = refl;
}

-- ---- drain directions

pub returns-clause-drains : goal.returns-clause-drains
unfolding stage_of operation_part rule_of next_at next_of near_outcome equation_of end_of feeders
returns-clause-drains c = record { accuflux = refl; catchment = refl; flux = refl; state = refl; upstream = refl; downstream = refl; rows = refl; in_steps = refl }

-- ---- a mask between two stages

-- B
abbrev as_condition : Statement
as_condition = record { target = codes "B"; value = tree.Call Boolean op.Not (tree.Input Boolean 1 ∷ []) }

condition_means : meaning_of as_condition.value ≡ meaning_level (Tree-F.Call Boolean op.Not (meaning_level (Tree-F.Input Boolean 1) ∷ []))
condition_means = meaning_of-Call Boolean op.Not (tree.Input Boolean 1 ∷ []) ∙ ap (λ m. meaning_level (Tree-F.Call Boolean op.Not (m ∷ []))) (meaning_of-Input Boolean 1)

-- K
abbrev as_mask : Statement
as_mask = record { target = codes "K"; value = tree.Mask (tree.Input Ldd 0 ∷ tree.Name Boolean (codes "B") ∷ []) }

mask_means : meaning_of as_mask.value ≡ meaning_level (Tree-F.Mask (meaning_level (Tree-F.Input Ldd 0) ∷ meaning_level (Tree-F.Name Boolean (codes "B")) ∷ []))
mask_means =
    meaning_of-Mask (tree.Input Ldd 0 ∷ tree.Name Boolean (codes "B") ∷ [])
    ∙ (ap (λ m. meaning_level (Tree-F.Mask (m ∷ meaning_of (tree.Name Boolean (codes "B")) ∷ []))) (meaning_of-Input Ldd 0)
    ∙ ap (λ m. meaning_level (Tree-F.Mask (meaning_level (Tree-F.Input Ldd 0) ∷ m ∷ []))) (meaning_of-Name Boolean (codes "B")))

-- Q
abbrev as_flows : Statement
as_flows = record { target = codes "Q"; value = tree.Call Scalar (op.Flow flow.Accuflux) (tree.Name Ldd (codes "K") ∷ tree.Number Scalar (whole_scalar 1) ∷ []) }

flows_mean : meaning_of as_flows.value ≡ meaning_level (Tree-F.Call Scalar (op.Flow flow.Accuflux) (meaning_level (Tree-F.Name Ldd (codes "K")) ∷ meaning_level (Tree-F.Number Scalar (whole_scalar 1)) ∷ []))
flows_mean =
    pair_means (op.Flow flow.Accuflux) (tree.Name Ldd (codes "K")) (tree.Number Scalar (whole_scalar 1)) _ _ (meaning_of-Name Ldd (codes "K")) (meaning_of-Number Scalar (whole_scalar 1))

masked_end : after_statements row_scene 1 start statements_over_mask ≡ Ok (assigned (assigned (assigned start as_condition all_but_third) as_mask codes_masked) as_flows flows_masked)
unfolding rule_of next_at next_of equation_of end_of feeders lddmask_of
masked_end =
    after_statements-map row_scene 1 start as_condition (as_mask ∷ as_flows ∷ []) _ all_but_third condition_means refl
    ∙ (after_statements-map row_scene 2 (assigned start as_condition all_but_third) as_mask (as_flows ∷ []) _ codes_masked mask_means refl
    ∙ after_statements-map row_scene 3 (assigned (assigned start as_condition all_but_third) as_mask codes_masked) as_flows [] _ flows_masked flows_mean refl)

pub returns-clause-masks : goal.returns-clause-masks
unfolding stage_of operation_part rule_of next_at next_of equation_of end_of feeders lddmask_of
returns-clause-masks c = record {
  stages = refl;
  begins = refl;
  staged = refl;
  second = refl;
  codes_read = refl;
  same = refl;
  again = refl;
  by_input = refl;
  by_number = refl;
  below = refl;
  renamed = refl;
  drains = ap (map_named (codes "K")) masked_end;
  flows = ap (map_named (codes "Q")) masked_end;
}
