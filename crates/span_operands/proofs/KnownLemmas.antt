-- What is known of the operands of a program: their maps are there, whole, and have cells of their kinds.
use Rattle.std.proofs.Common.{◌≡◌, ℕ, zero, suc, ◌+◌, ◌*◌, ◌<◌, ◌≤◌, ◌-◌, Bool, true, false, cond, ◌&&◌, ◌||◌, List, [], ◌∷◌, length, get_or, drop, refl, sym, ap, subst, ◌∙◌, arith}
use Rattle.std.specs.Prelude.{None, Some, Option, max, nat_le, option_map, slice_get, slice_range}
use Rattle.std.proofs.lemmas.List.{get_or-drop, get_or-take}
use Rattle.std.proofs.lemmas.Int.{ints}
use Rattle.cell_values.specs.declared.cell.Cell.{Cell}
use Rattle.cell_values.specs.declared.kind.Kind.{Kind}
use Rattle.cell_values.specs.declared.kind.Kind.TheVariants as kinds
use Rattle.cell_values.specs.Kinds.{IsCell}
use Rattle.tile_map.specs.Cuts.{cell_at}
use Rattle.map_meaning.specs.declared.known.Known.{Known}
use Rattle.map_meaning.specs.declared.known.Span.{Span}
use Rattle.map_meaning.specs.declared.known.StepMap.{StepMap}
use Rattle.map_meaning.specs.declared.program.DrainUse.{DrainUse}
use Rattle.map_meaning.specs.declared.program.InputUse.{InputUse}
use Rattle.map_meaning.specs.declared.program.Operand.{Operand}
use Rattle.map_meaning.specs.declared.program.Operand.TheVariants.{Unused, Literal, Time, Input, Drain}
use Rattle.map_meaning.specs.declared.program.Operation.{Operation}
use Rattle.map_meaning.specs.declared.program.Program.{Program}
use Rattle.map_meaning.specs.declared.program.Role.{Role}
use Rattle.map_meaning.specs.declared.program.Role.TheVariants.{Grid, Stack, Table, Series}
use Rattle.map_meaning.specs.Evaluation.{Done, operand_cell}
use Rattle.map_meaning.specs.Limits.{most_inputs, most_steps}
use Rattle.map_meaning.specs.Maps.{CellAt, IsMapOf, WholeMap, nth, step_cell}
use Rattle.map_meaning.specs.Programs.{IsFileOf, IsInput, IsOperation, IsOperationOf, IsStepOperation, IsWellFormed}
use Rattle.map_meaning.specs.Programs.{file_role, is_grid_role, is_kept_map, is_series_role, is_table_role, kinds_of, operand_kind, stage_begin}
use Rattle.map_meaning.specs.Rules.{no_series, no_table}
use Rattle.map_meaning.specs.Scenes.{Scene, place_count}
use Rattle.map_meaning.specs.Spans.{AreAscending, HasDrains, HasSeriesKind, IsInStage, IsTableOf, Knows, kept_map, known_codes, scene_of}
use Rattle.map_meaning.proofs.WholeMaps.{IsReadFirst, IsReadNow, cell_in, codes_known, input_item, input_there, operation_of, read_first, read_now, stage_length, step_operation_of}
use Rattle.span_operands.specs.inside.Held.{HasFile, HasGrid, HasItsCells, HasKept, HasSeries, HasSoundOperands, HasTable, IsOneOf}
use Rattle.span_operands.proofs.InputLemmas.{at_place}

-- ---- operations of a program

-- an item of a list is there
pub item_there : {X : Type 0} (xs : List X) (n : ℕ) (d : X) → n < length xs → slice_get xs n ≡ Some (get_or xs n d)
item_there [] n d below = absurd (omega arith)
item_there (x ∷ xs) zero d below = refl
item_there (x ∷ xs) (suc n) d below = item_there xs n d (omega arith)

-- an operation of a range of a list stands there in the list
pub staged : (xs : List Operation) (first end n : ℕ) (d : Operation) → n < end - first → get_or (slice_range xs first end) n d ≡ get_or xs (first + n) d
staged xs first end n d below = get_or-take (end - first) (drop first xs) n d below ∙ get_or-drop first xs n d

-- the operation with a number is one of `initial`
pub initial_operation : (program : Program) (n : ℕ) (d : Operation) → IsWellFormed program → n < length program.initial → IsOperationOf program (IsReadFirst program n) (get_or program.initial n d).kept (get_or program.initial n d)
initial_operation program n d formed below =
    let o = get_or program.initial n d in
    let here = item_there program.initial n d below in
    let same : 0 + n ≡ n = omega arith in
    read_first program n o here (subst (λ k. IsOperation program k o) same (operation_of program 0 n program.initial o formed.operations here))

-- the operation with a number is one of `dynamic`
pub step_operation : (program : Program) (n : ℕ) (d : Operation) → IsWellFormed program → n < length program.dynamic → IsOperationOf program (IsReadNow program n) (get_or program.dynamic n d).kept (get_or program.dynamic n d)
step_operation program n d formed below =
    let o = get_or program.dynamic n d in
    let here = item_there program.dynamic n d below in
    let same : 0 + n ≡ n = omega arith in
    read_now program n o here (subst (λ k. IsStepOperation program k o) same (step_operation_of program 0 n program.dynamic o formed.step_operations here))

-- a stage has operations as its numbers say
pub stage_within : (program : Program) (first end n : ℕ) → IsInStage program first end → n < length (slice_range program.initial first end) → (n < end - first) × (first + n < end) × (first + n < length program.initial)
stage_within program first end n is within =
    let size = stage_length program.initial first end is.order is.there in
    let there = is.there in
    (omega arith, omega arith, omega arith)

-- ---- operands

-- an operand whose map is whole has its cells
pub map_cells : (program : Program) (scene : Scene) (done : Done) (operand : Operand) (m : WholeMap) (found : Kind) → operand_kind program operand ≡ Some found → operand_cell scene done operand ≡ cell_at m → IsMapOf (place_count scene) found m → HasItsCells program scene done operand
map_cells program scene done operand m found named is whole = record {
  kind = λ used. (found, named);
  cells = λ place kind asked below.
      let same : found ≡ kind = (let both : Some found ≡ Some kind = sym named ∙ asked in cc) in
      subst (λ k. IsCell k (operand_cell scene done operand place)) same (subst (λ (f : CellAt). IsCell found (f place)) (sym is) (cell_in (place_count scene) place found m whole below));
}

-- one that is not used has none
pub unused_cells : (program : Program) (scene : Scene) (done : Done) → HasItsCells program scene done Unused
unused_cells program scene done = record { kind = λ used. absurd (cc); cells = λ place kind asked below. absurd (cc) }

-- a literal has its own
pub literal_cells : (program : Program) (scene : Scene) (done : Done) (kind : Kind) (cell : Cell) → IsCell kind cell → HasItsCells program scene done (Literal kind cell)
literal_cells program scene done kind cell is = record { kind = λ used. (kind, refl); cells = λ place k asked below. (let same : kind ≡ k = cc in subst (λ j. IsCell j cell) same is) }

-- the step is a scalar
pub time_cells : (program : Program) (scene : Scene) (done : Done) → scene.step ≤ most_steps → HasItsCells program scene done Time
time_cells program scene done few = record {
  kind = λ used. (kinds.Scalar, refl);
  cells = λ place k asked below. (let same : kinds.Scalar ≡ k = cc in subst (λ j. IsCell j (step_cell scene.step)) same (record { least = omega (arith, ints, few); greatest = omega (arith, ints, few) }));
}

-- two tests that both hold
pub both : (a b : Bool) → a ≡ true → b ≡ true → (a && b) ≡ true
both true b first second = second
both false b first second = absurd (cc)

-- a later stage begins no earlier
pub begins_later : (drains : List DrainUse) (m n : ℕ) → m ≤ n → stage_begin drains m ≤ stage_begin drains n
begins_later [] m n order = omega arith
begins_later (d ∷ ds) m n order = by_tests (nat_le d.after m) (nat_le d.after n) refl refl (begins_later ds m n order)
  where
    by_tests : (a b : Bool) → nat_le d.after m ≡ a → nat_le d.after n ≡ b → stage_begin ds m ≤ stage_begin ds n → cond a (max d.after (stage_begin ds m)) (stage_begin ds m) ≤ cond b (max d.after (stage_begin ds n)) (stage_begin ds n)
    by_tests true true before now rest = grind arith
    by_tests true false before now rest = grind arith
    by_tests false true before now rest = grind arith
    by_tests false false before now rest = rest

-- an operation is kept that a step or a later stage reads
pub kept_by_steps : (a b c d : Bool) → a ≡ true → (a || b || c || d) ≡ true
kept_by_steps true b c d h = refl
kept_by_steps false b c d h = absurd (cc)

pub kept_by_stages : (a b c d : Bool) → d ≡ true → (a || b || c || d) ≡ true
kept_by_stages true b c d h = refl
kept_by_stages false true c d h = refl
kept_by_stages false false true d h = refl
kept_by_stages false false false d h = h

module _ (program : Program) (s : Span) (known : Known) (formed : IsWellFormed program) (knows : Knows program s known) where
  abbrev pub places : ℕ
  places = known.rows * known.cols

  pub some_places : 0 < places
  some_places = positive known.rows known.cols knows.some_rows knows.some_cols
    where
      positive : (rows cols : ℕ) → 0 < rows → 0 < cols → 0 < rows * cols
      positive zero cols r c = absurd (omega arith)
      positive (suc rows) cols r c = grind arith

  -- the number of an input that is there is no larger than the limit
  pub few_inputs : (n : ℕ) → n < length program.inputs → n ≤ most_inputs
  few_inputs n within = omega (arith, formed.few_inputs)

  -- the grid of an input
  pub grid_there : (n : ℕ) → IsInput program Grid n → HasGrid program known n
  grid_there n is =
      let found = input_there program Grid n is in
      let of_role = ap is_grid_role found.2 in
      let at = at_place is_grid_role [] (λ input m. IsMapOf places input.kind m) program.inputs known.maps n found.0 knows.maps found.1 of_role in
      let whole = input_item is_grid_role [] (λ input m. IsMapOf places input.kind m) program.inputs known.maps n found.0 knows.maps found.1 of_role in
      record { within = is.within; few = few_inputs n is.within; there = at.within; is = at.is; size = ap length at.is ∙ whole.count }

  -- the table of an operation
  pub table_there : (keys n : ℕ) → IsInput program (Table keys) n → HasTable program known n
  table_there keys n is =
      let found = input_there program (Table keys) n is in
      let at = at_place is_table_role no_table IsTableOf program.inputs known.tables n found.0 knows.tables found.1 (ap is_table_role found.2) in
      record { within = is.within; few = few_inputs n is.within; there = at.within; is = at.is }

  -- the series of an operation
  pub series_there : (n : ℕ) → IsInput program Series n → HasSeries program known n
  series_there n is =
      let found = input_there program Series n is in
      let at = at_place is_series_role no_series (λ input series. HasSeriesKind input.kind series) program.inputs known.series n found.0 knows.series found.1 (ap is_series_role found.2) in
      record { within = is.within; few = few_inputs n is.within; there = at.within; is = at.is }

  -- what an operation looks its results up in
  pub file_there : (asked : Option Role) (kind : Kind) (n : ℕ) → IsFileOf program asked kind n → HasFile program known asked n
  file_there None kind n is = tt
  file_there (Some Grid) kind n is = tt
  file_there (Some Stack) kind n is = tt
  file_there (Some (Table keys)) kind n is = table_there keys n is.input
  file_there (Some Series) kind n is = series_there n is.input

  -- a kept map
  pub kept_there : (maps : List StepMap) (count k : ℕ) (kind : Kind) → k < count → IsMapOf places kind (kept_map maps k) → AreAscending maps → HasKept places maps count k
  kept_there maps count k kind within whole order = record { within = within; order = order; some = (let size : length (kept_map maps k) ≡ places = whole.count in omega (arith, some_places)); size = whole.count }

  -- an operation of `initial` is kept as its number says
  pub kept_as : (k : ℕ) (o : Operation) → slice_get program.initial k ≡ Some o → o.kept ≡ is_kept_map program k
  kept_as k o is =
      let same : 0 + k ≡ k = omega arith in
      let here : IsOperation program k o = subst (λ j. IsOperation program j o) same (operation_of program 0 k program.initial o formed.operations is) in
      here.kept

  -- the grid of an input has its cells
  pub grid_cells : (step : ℕ) (done : Done) (n : ℕ) → IsInput program Grid n → HasItsCells program (scene_of program.inputs known step) done (Input n)
  grid_cells step done n is =
      let found = input_there program Grid n is in
      let scene = scene_of program.inputs known step in
      map_cells program scene done (Input n) (nth scene.inputs n) found.0.kind (ap (option_map (λ (i : InputUse). i.kind)) found.1) refl
      (input_item is_grid_role [] (λ input m. IsMapOf places input.kind m) program.inputs known.maps n found.0 knows.maps found.1 (ap is_grid_role found.2))

  -- so has a drain map
  pub drain_cells : (step : ℕ) (done : Done) (k count : ℕ) (d : DrainUse) → done.drains ≡ known_codes known → slice_get program.drains k ≡ Some d → d.after ≤ count → HasDrains program count known → HasItsCells program (scene_of program.inputs known step) done (Drain k)
  drain_cells step done k count d is here due has =
      map_cells program (scene_of program.inputs known step) done (Drain k) (nth (known_codes known) k) kinds.Ldd (ap (option_map (λ (d : DrainUse). kinds.Ldd)) here) (ap (λ maps. cell_at (nth maps k)) is)
      (codes_known program count known has k d here due)

-- an operation whose operands have cells is one of the program's
pub one_of : (program : Program) (s : Span) (known : Known) (scene : Scene) (done : Done) (o : Operation) → IsWellFormed program → Knows program s known → HasSoundOperands program scene done o → IsOneOf program known o
one_of program s known scene done o formed knows is = record {
  used = is.used;
  a = is.a.kind;
  b = is.b.kind;
  c = is.c.kind;
  d = is.d.kind;
  drain = λ along. (is.drain along).kind;
  kinds = is.kinds;
  file = file_there program s known formed knows (file_role o.op (length (kinds_of program o))) o.kind o.file is.file;
}
