-- What a session keeps between stages and steps, and what it stands for.
use Rattle.std.specs.Prelude.{◌≡◌, ◌==◌, ◌+◌, ◌<◌, ◌≤◌, ℕ, pos, List, [], ◌∷◌, ◌++◌, All, length, map}
use Rattle.std.specs.Prelude.{false, None, Some, Result, Ok, Err, if◌then◌else◌, ⊤}
use Rattle.std.specs.declared.option.Option.{Option}
use Rattle.std.specs.List.{AllZip, filter}
use Rattle.text_base.specs.Results.{◌>>=◌}
use Rattle.cell_values.specs.declared.cell.Cell.{Cell}
use Rattle.cell_values.specs.declared.cell.Cell.TheVariants.{Mv}
use Rattle.tile_map.specs.Cuts.{cell_at}
use Rattle.time_series.specs.declared.row.SeriesRow.{SeriesRow}
use Rattle.drain_meaning.specs.Drains.{DrainMap}
use Rattle.map_meaning.specs.declared.known.Known.{Known}
use Rattle.map_meaning.specs.declared.known.OverAt.{OverAt}
use Rattle.map_meaning.specs.declared.known.StageEnd.{StageEnd}
use Rattle.map_meaning.specs.declared.known.StepMap.{StepMap}
use Rattle.map_meaning.specs.declared.program.Operand.{Operand}
use Rattle.map_meaning.specs.declared.program.Operand.TheVariants.{Unused, Literal, Time, Input, Initial, Now, Last, Drain}
use Rattle.map_meaning.specs.declared.program.Operand.TheVariants as from
use Rattle.map_meaning.specs.declared.program.OutputUse.{OutputUse}
use Rattle.map_meaning.specs.declared.program.Program.{Program}
use Rattle.map_meaning.specs.Evaluation.{Done}
use Rattle.map_meaning.specs.Maps.{IsMapOf, WholeMap, nth, step_cell}
use Rattle.map_meaning.specs.Scenes.{Scene}
use Rattle.map_meaning.specs.Spans.{kept_map}
use Rattle.script_types.specs.Lowered.{as_shown}
use Rattle.script_types.specs.Values.{Written, done_steps, is_output_of, section_at, written}
use Rattle.run_session.specs.declared.inputs.Inputs.{Inputs}
use Rattle.run_session.specs.declared.samples.Sample.{Sample}
use Rattle.run_session.specs.declared.stacks.StackUse.{StackUse}
use Rattle.run_session.specs.declared.stages.StageMaps.{StageMaps}
use Rattle.run_session.specs.Ends.{ScriptEnd}
use Rattle.run_session.specs.Evaluation.{input_maps, scenes_over}
use Rattle.run_session.specs.Samples.{Sampled, all_begun, as_put, id_columns, place_of_id}
use Rattle.run_session.specs.Steps.{Plan, or_overflow, stacks_among}

-- ---- what is run

-- what an output writes at a step, where these operations are done: a time series the cells at the first places with its ids
abbrev pub put_by : List WholeMap → Scene → Done → OutputUse → Written
put_by maps scene done output = as_put false maps (written scene done output)

-- what the outputs of a program write at each step, by its operations
abbrev pub outputs_over : Program → Inputs → List (List StepMap) → ℕ → Result (List Written) OverAt
outputs_over program inputs grids n =
    let scenes = scenes_over program.inputs inputs grids in
    done_steps program scenes n >>= λ done.
    Ok (map (put_by (input_maps program.inputs inputs) (scenes n) done) (filter (is_output_of (section_at n)) program.outputs))

-- what is run of a program, by its operations
abbrev pub program_plan : Program → Inputs → Plan
program_plan program inputs = record {
  frame = inputs.frame;
  steps = program.steps;
  stacks = stacks_among 0 program.inputs;
  samples = all_begun (input_maps program.inputs inputs) (map as_shown program.outputs);
  reports = outputs_over program inputs;
}

-- what is known in a stage of `initial` or at a step, where these are the maps that stages left, the grids of the step's stacks
-- and the kept maps of the step before
abbrev pub known_at : Inputs → StageMaps → List StepMap → List StepMap → Known
known_at inputs left grids last = record {
  rows = inputs.frame.rows;
  cols = inputs.frame.cols;
  maps = inputs.maps;
  tables = inputs.tables;
  series = inputs.series;
  drains = left.drains;
  stacks = grids;
  initial = left.kept;
  last = last;
}

-- ---- spans

-- the kept maps of a span, or its first Over
abbrev pub kept_or_over : List StepMap → Option OverAt → Result (List StepMap) OverAt
kept_or_over maps None = Ok maps
kept_or_over maps (Some at) = Err at

-- what a span gives, as a part of the run
abbrev pub stage_result : StageEnd → Result (List StepMap) ScriptEnd
stage_result end = or_overflow (kept_or_over end.maps end.over)

-- the maps are of operations with numbers from n on, in ascending order
abbrev pub AscendFrom : ℕ → List StepMap → Type 0
AscendFrom n [] = ⊤
AscendFrom n (m ∷ maps) = (n ≤ m.operation) × AscendFrom (m.operation + 1) maps

-- the codes of drain maps
abbrev pub codes_of : List DrainMap → List WholeMap
codes_of drains = map (λ m. m.codes) drains

-- ---- what outputs write

-- a cell of an operand that an output names, by what is known at a step and the kept maps of the step itself; a map of an input
-- has this place among the maps
abbrev pub held_cell : Known → List StepMap → ℕ → ℕ → Operand → ℕ → Cell
held_cell known now step input Unused place = Mv
held_cell known now step input (Literal kind cell) place = cell
held_cell known now step input Time place = step_cell step
held_cell known now step input (Input n) place = cell_at (nth known.maps input) place
held_cell known now step input (from.Stack n) place = cell_at (kept_map known.stacks n) place
held_cell known now step input (Initial n) place = cell_at (kept_map known.initial n) place
held_cell known now step input (Now n) place = cell_at (kept_map now n) place
held_cell known now step input (Last d i) place =
    cell_at (if step == 1 then kept_map known.initial i else kept_map known.last d) place
held_cell known now step input (Drain n) place = cell_at (nth (codes_of known.drains) n) place

-- what is known at a step stands in the order in which it is searched
pub record IsOrdered (known : Known) : Type 0 where
  pub stacks : AscendFrom 0 known.stacks
  pub initial : AscendFrom 0 known.initial
  pub last : AscendFrom 0 known.last

-- the map of an operand that names an operation of the span or a drain map
abbrev pub kept_of : List StepMap → List DrainMap → Operand → WholeMap
kept_of maps drains (Initial n) = kept_map maps n
kept_of maps drains (Now n) = kept_map maps n
kept_of maps drains (Drain n) = nth (codes_of drains) n
kept_of maps drains _ = []

-- what an output writes, from the kept maps of its span and the drain maps
abbrev pub kept_report : List StepMap → List DrainMap → OutputUse → Written
kept_report maps drains output =
    record { file = output.file; form = output.kind; kind = output.cell_kind; cells = kept_of maps drains output.value }

-- ---- time series

-- a time series that is kept, as the course sees it
abbrev pub sampled_of : Sample → Sampled
sampled_of s = record { file = s.file; kind = s.kind; ids = s.ids; rows = s.rows }

-- the columns of a time series are those of the map of its ids, and each of its rows has a cell for each of them
pub record IsWritable (s : Sample) : Type 0 where
  pub names : s.names ≡ map pos (id_columns s.ids)
  pub rows : All (λ row. length row.cells ≡ length s.names) s.rows

-- a time series over so many places can be written, and its places are the first ones of its columns
pub record IsSample (places : ℕ) (s : Sample) : Type 0 where
  pub writable : IsWritable s
  pub places_are : s.places ≡ map (place_of_id s.ids) (id_columns s.ids)
  pub within : All (λ place. place < places) s.places

-- the row of a time series at a step
abbrev pub held_row : Known → List StepMap → ℕ → Sample → SeriesRow
held_row known now step s = record { step = step; cells = map (held_cell known now step s.input s.value) s.places }

-- a time series with one more row
abbrev pub with_held_row : Known → List StepMap → ℕ → Sample → Sample
with_held_row known now step s = record s { rows = s.rows ++ held_row known now step s ∷ [] }

-- ---- stacks

-- the grid of a stack at a step: of so many cells, of its kind
pub record IsGridOf (places step : ℕ) (stack : StackUse) (grid : StepMap) : Type 0 where
  pub step_is : grid.step ≡ step
  pub input : grid.operation ≡ stack.input
  pub cells : IsMapOf places stack.kind grid.cells

-- one more grid of a stack
abbrev pub AddsGrid : ℕ → ℕ → StackUse → List StepMap → List StepMap → Type 0
AddsGrid places step stack old new = (grid : StepMap) × (new ≡ old ++ grid ∷ []) × IsGridOf places step stack grid

-- the grids are those of these stacks at a step
abbrev pub AreGridsOf : ℕ → ℕ → List StackUse → List StepMap → Type 0
AreGridsOf places step stacks grids = AllZip (IsGridOf places step) stacks grids
