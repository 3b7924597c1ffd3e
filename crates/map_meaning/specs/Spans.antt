-- Spans of a program: what they read from outside themselves, and what they give.
use Rattle.std.specs.Prelude.{◌≡◌, ◌<◌, ◌≤◌, ◌⊎◌, ℕ, zero, suc, ◌+◌, ◌-◌, ◌*◌, ◌==◌, ◌&&◌, Bool, true, false, if◌then◌else◌}
use Rattle.std.specs.Prelude.{List, [], ◌∷◌, ◌++◌, length, map, slice_get, slice_range, nat_lt}
use Rattle.std.specs.Prelude.{All, AllPairs, Option, Some, None, Result, Ok, Err}
use Rattle.std.specs.List.{AllZip, filter}
use Rattle.text_base.specs.Limits.{most_cells}
use Rattle.cell_values.specs.declared.kind.Kind.{Kind}
use Rattle.cell_values.specs.Kinds.{IsCell, IsValue}
use Rattle.lookup_table.specs.Form.{TableValue}
use Rattle.time_series.specs.Form.{SeriesValue}
use Rattle.tile_map.specs.Parts.{tabulate}
use Rattle.map_meaning.specs.declared.known.Known.{Known}
use Rattle.map_meaning.specs.declared.known.OverAt.{OverAt}
use Rattle.map_meaning.specs.declared.known.StageEnd.{StageEnd}
use Rattle.map_meaning.specs.declared.known.StepMap.{StepMap}
use Rattle.map_meaning.specs.declared.known.Span.{Span}
use Rattle.map_meaning.specs.declared.known.Span.TheVariants as span
use Rattle.drain_meaning.specs.Drains.{DrainMap}
use Rattle.drain_meaning.specs.Sound.{IsDrain}
use Rattle.map_meaning.specs.declared.program.DrainFrom.{DrainFrom}
use Rattle.map_meaning.specs.declared.program.DrainFrom.TheVariants as from
use Rattle.map_meaning.specs.declared.program.DrainUse.{DrainUse}
use Rattle.map_meaning.specs.declared.program.InputUse.{InputUse}
use Rattle.map_meaning.specs.declared.program.Operation.{Operation}
use Rattle.map_meaning.specs.declared.program.Program.{Program}
use Rattle.map_meaning.specs.declared.program.Role.{Role}
use Rattle.map_meaning.specs.declared.program.Role.TheVariants.{Stack, Table}
use Rattle.map_meaning.specs.Maps.{WholeMap, IsMapOf, nth}
use Rattle.map_meaning.specs.Programs.{is_carried, is_grid_role, is_series_role, is_table_role, stage_begin}
use Rattle.map_meaning.specs.Rules.{no_series, no_table}
use Rattle.map_meaning.specs.Scenes.{Scene, map_at_step}
use Rattle.map_meaning.specs.Evaluation.{Done, section_maps, operation_values}

-- one run that a runner was asked for
pub record RunOf : Type 0 where
  pub program : Program
  pub span : Span
  pub known : Known

-- ---- spans

-- the span of all operations of `initial`
abbrev pub whole_span : Program → Span
whole_span program = span.Initial 0 (length program.initial)

-- the span of one step
abbrev pub step_span : ℕ → Span
step_span step = span.Steps step step

-- steps of a program, as many as a block has at most
pub record AreSteps (program : Program) (first last block : ℕ) : Type 0 where
  pub some : 1 ≤ first
  pub order : first ≤ last
  pub there : last ≤ program.steps
  pub few : last < first + block

-- operations of one stage of `initial`, from its begin on: no drain map is computed between them
pub record IsInStage (program : Program) (first end : ℕ) : Type 0 where
  pub begins : first ≡ stage_begin program.drains first
  pub order : first ≤ end
  pub there : end ≤ length program.initial
  pub whole : All (λ d. (d.after ≤ first) ⊎ (end ≤ d.after)) program.drains

-- The span is one that a runner of this block may be asked for: operations of one stage of `initial`, or steps.
abbrev pub IsSpan : Program → Span → ℕ → Type 0
IsSpan program (span.Initial first end) block = IsInStage program first end
IsSpan program (span.Steps first last) block = AreSteps program first last block

-- the drain map is computed by a statement, and is no input
abbrev pub is_computed : DrainFrom → Bool
is_computed (from.Input n) = false
is_computed _ = true

-- the stages from the operation with this number on, where these numbers of operations stand before the drain maps
abbrev pub stages_from : ℕ → List ℕ → ℕ → List Span
stages_from first [] end = span.Initial first end ∷ []
stages_from first (before ∷ more) end = span.Initial first before ∷ stages_from before more end

-- The stages of `initial`, in their order: each statement of a drain map ends one, and the last one ends with the section.
abbrev pub initial_stages : Program → List Span
initial_stages program =
    stages_from 0 (map (λ d. d.after) (filter (λ d. is_computed d.from) program.drains)) (length program.initial)

-- the operations of a span, at each of its steps
abbrev pub span_operations : Program → Span → List Operation
span_operations program (span.Initial first end) = slice_range program.initial first end
span_operations program (span.Steps first last) = program.dynamic

-- the number of a span's first operation
abbrev pub first_operation : Span → ℕ
first_operation (span.Initial first end) = first
first_operation (span.Steps first last) = 0

-- ---- inputs

-- the items are those of the inputs of a role: one for each, in their order, as it is asked
abbrev pub AreOfInputs : {X : Type 0} → (Role → Bool) → (InputUse → X → Type 0) → List InputUse → List X → Type 0
AreOfInputs has Suits inputs items = AllZip Suits (filter (λ input. has input.role) inputs) items

-- the maps are those of the inputs that are grids: of so many cells, and each of its input's kind
abbrev pub AreInputMaps : ℕ → List InputUse → List WholeMap → Type 0
AreInputMaps places inputs maps = AreOfInputs is_grid_role (λ input m. IsMapOf places input.kind m) inputs maps

-- the values of a table are of the kind
abbrev pub HasTableKind : Kind → TableValue → Type 0
HasTableKind kind table = All (λ row. IsValue kind row.result) table.rows

-- the values of a series are of the kind
abbrev pub HasSeriesKind : Kind → SeriesValue → Type 0
HasSeriesKind kind series = All (λ row. All (IsCell kind) row.cells) series.rows

-- the table has as many keys as the input is to have, and values of its kind
pub record IsTableOf (input : InputUse) (table : TableValue) : Type 0 where
  pub keys : input.role ≡ Table table.keys
  pub cells : HasTableKind input.kind table

-- the items of the inputs of a role at these inputs' numbers, and nothing at each other number
abbrev pub at_inputs : {X : Type 0} → (Role → Bool) → X → List InputUse → List X → List X
at_inputs has none [] items = []
at_inputs has none (input ∷ inputs) [] = none ∷ at_inputs has none inputs []
at_inputs has none (input ∷ inputs) (x ∷ items) =
    if has input.role then x ∷ at_inputs has none inputs items else none ∷ at_inputs has none inputs (x ∷ items)

-- the scene of a step, where these are the inputs
abbrev pub scene_of : List InputUse → Known → ℕ → Scene
scene_of inputs known step = record {
  rows = known.rows;
  cols = known.cols;
  step = step;
  inputs = at_inputs is_grid_role [] inputs known.maps;
  tables = at_inputs is_table_role no_table inputs known.tables;
  series = at_inputs is_series_role no_series inputs known.series;
  stacks = known.stacks;
}

-- ---- what is known

-- the kept map of the operation with this number; none counts as an empty one
abbrev pub kept_map : List StepMap → ℕ → WholeMap
kept_map [] n = []
kept_map (kept ∷ more) n = if kept.operation == n then kept.cells else kept_map more n

-- the maps stand by ascending numbers of operations
abbrev pub AreAscending : List StepMap → Type 0
AreAscending maps = AllPairs (λ x y. x.operation < y.operation) maps

-- the map of each of these operations that passes a test is there, with all its cells, of the operation's kind
abbrev pub HasMaps : ℕ → List Operation → (ℕ → Operation → Bool) → List StepMap → Type 0
HasMaps places operations test maps =
    (n : ℕ) (o : Operation) → slice_get operations n ≡ Some o → test n o ≡ true → IsMapOf places o.kind (kept_map maps n)

-- the grid of each stack is there at each of these steps, of so many cells, of its kind
abbrev pub HasStacks : ℕ → List InputUse → ℕ → ℕ → List StepMap → Type 0
HasStacks places inputs first last stacks =
    (n step : ℕ) (input : InputUse) → slice_get inputs n ≡ Some input → input.role ≡ Stack →
    first ≤ step → step ≤ last → IsMapOf places input.kind (map_at_step stacks step n)

-- it is a sound drain map of this size
abbrev pub IsDrainOf : ℕ → ℕ → Option DrainMap → Type 0
IsDrainOf rows cols None = ⊥
IsDrainOf rows cols (Some m) = IsDrain m × (m.rows ≡ rows) × (m.cols ≡ cols)

-- the drain maps that are computed once so many operations of `initial` are done are known
abbrev pub HasDrains : Program → ℕ → Known → Type 0
HasDrains program count known =
    (n : ℕ) (d : DrainUse) → slice_get program.drains n ≡ Some d → d.after ≤ count →
    IsDrainOf known.rows known.cols (slice_get known.drains n)

-- What a stage of `initial` reads of earlier ones is known: the maps that are kept of them, and the drain maps before it.
pub record KnowsEarlier (program : Program) (first : ℕ) (known : Known) : Type 0 where
  pub initial : HasMaps (known.rows * known.cols) program.initial (λ n o. o.kept && nat_lt n first) known.initial
  pub order : AreAscending known.initial
  pub drains : HasDrains program first known

-- What steps read from outside themselves is known: the kept maps of `initial`, the drain maps, the grids of stacks, and behind
-- step 1 the maps of the step before that the next one reads.
pub record KnowsBefore (program : Program) (first last : ℕ) (known : Known) : Type 0 where
  pub drains : HasDrains program (length program.initial) known
  pub initial : HasMaps (known.rows * known.cols) program.initial (λ n o. o.kept) known.initial
  pub order : AreAscending known.initial
  pub carried : 1 < first → HasMaps (known.rows * known.cols) program.dynamic (λ n o. is_carried program n) known.last
  pub carried_order : AreAscending known.last
  pub stacks : HasStacks (known.rows * known.cols) program.inputs first last known.stacks

-- what a span reads of operations outside itself, and of stacks, is known
abbrev pub KnowsOutside : Program → Span → Known → Type 0
KnowsOutside program (span.Initial first end) known = KnowsEarlier program first known
KnowsOutside program (span.Steps first last) known = KnowsBefore program first last known

-- What the span reads from outside itself is known: a map of the size for each grid, with cells of its kind, each table and
-- each series, and the maps of operations and of stacks.
pub record Knows (program : Program) (s : Span) (known : Known) : Type 0 where
  pub some_rows : 0 < known.rows
  pub some_cols : 0 < known.cols
  pub few : known.rows * known.cols ≤ most_cells
  pub maps : AreInputMaps (known.rows * known.cols) program.inputs known.maps
  pub tables : AreOfInputs is_table_role IsTableOf program.inputs known.tables
  pub series : AreOfInputs is_series_role (λ input series. HasSeriesKind input.kind series) program.inputs known.series
  pub outside : KnowsOutside program s known

-- the codes of the drain maps that are known
abbrev pub known_codes : Known → List WholeMap
known_codes known = map (λ m. m.codes) known.drains

-- what is done before a span
abbrev pub done_before : Program → Span → Known → Done
done_before program (span.Initial first end) known =
    record { initial = tabulate (kept_map known.initial) first; dynamic = []; last = []; drains = known_codes known }
done_before program (span.Steps first last) known = record {
  initial = tabulate (kept_map known.initial) (length program.initial);
  dynamic = [];
  last = tabulate (kept_map known.last) (length program.dynamic);
  drains = known_codes known;
}

-- ---- what a span gives

-- the maps that are kept of these operations, whose numbers count from n
abbrev pub kept_maps : ℕ → List WholeMap → ℕ → List Operation → List StepMap
kept_maps step maps n [] = []
kept_maps step maps n (o ∷ more) =
    if o.kept then record { step = step; operation = n; cells = nth maps n } ∷ kept_maps step maps (n + 1) more
    else kept_maps step maps (n + 1) more

-- what is told of a span of one step: its kept maps, or its first Over
abbrev pub told_of : Program → Span → ℕ → Result Done OverAt → StageEnd
told_of program s step (Ok done) =
    record { maps = kept_maps step (section_maps s done) (first_operation s) (span_operations program s); over = None }
told_of program s step (Err at) = record { maps = []; over = Some at }

-- what is told of a step and of the steps behind it, of which there are none behind an Over
abbrev pub told_then : Program → Span → ℕ → Result Done OverAt → (Done → StageEnd) → StageEnd
told_then program s step (Ok done) later =
    record { maps = (told_of program s step (Ok done)).maps ++ (later done).maps; over = (later done).over }
told_then program s step (Err at) later = told_of program s step (Err at)

-- what is done before the next step
abbrev pub done_next : Done → Done
done_next done = record { initial = done.initial; dynamic = []; last = done.dynamic; drains = done.drains }

-- what is told of so many steps, from this one on
abbrev pub told_steps : Program → Span → Known → Done → ℕ → ℕ → StageEnd
told_steps program s known done step zero = record { maps = []; over = None }
told_steps program s known done step (suc more) =
    told_then program s step (operation_values program (scene_of program.inputs known step) s done program.dynamic)
    (λ after. told_steps program s known (done_next after) (step + 1) more)

-- what a span gives
unfoldable pub stage_of : Program → Span → Known → StageEnd
stage_of program (span.Initial first end) known =
    told_of program (span.Initial first end) 0
    (operation_values program (scene_of program.inputs known 0) (span.Initial first end)
    (done_before program (span.Initial first end) known)
    (slice_range program.initial first end))
stage_of program (span.Steps first last) known =
    told_steps program (span.Steps first last) known (done_before program (span.Steps first last) known) first (last + 1 - first)
