-- What the stages of `initial` leave, and the drain maps that are computed between them.
use Rattle.std.specs.Prelude.{◌≡◌, ◌⊎◌, ◌*◌, ◌<◌, ◌≤◌, ℕ, true, List, [], ◌∷◌, ◌++◌, All}
use Rattle.std.specs.Prelude.{IsSomeAnd, drop, length, map, take, filter, slice_get, slice_index_or, Some, None, Result, ⊤}
use Rattle.std.specs.Option.{unwrap_or}
use Rattle.drain_meaning.specs.Drains.{DrainMap}
use Rattle.drain_meaning.specs.Masks.{lddmask_of}
use Rattle.map_meaning.specs.declared.known.OverAt.{OverAt}
use Rattle.map_meaning.specs.declared.known.Span.{Span}
use Rattle.map_meaning.specs.declared.known.Span.TheVariants as span
use Rattle.map_meaning.specs.declared.known.StepMap.{StepMap}
use Rattle.map_meaning.specs.declared.program.DrainFrom.{DrainFrom}
use Rattle.map_meaning.specs.declared.program.DrainFrom.TheVariants as from
use Rattle.map_meaning.specs.declared.program.DrainUse.{DrainUse}
use Rattle.map_meaning.specs.declared.program.InputUse.{InputUse}
use Rattle.map_meaning.specs.declared.program.Operand.{Operand}
use Rattle.map_meaning.specs.declared.program.Operand.TheVariants.{Literal, Input, Initial}
use Rattle.map_meaning.specs.declared.program.Operation.{Operation}
use Rattle.map_meaning.specs.declared.program.Program.{Program}
use Rattle.map_meaning.specs.Evaluation.{Done, staged_values}
use Rattle.map_meaning.specs.Maps.{CellAt, IsMapOf, WholeMap, nowhere, nth}
use Rattle.map_meaning.specs.Programs.{is_grid_role}
use Rattle.map_meaning.specs.Scenes.{Scene}
use Rattle.tile_map.specs.Cuts.{cell_at}
use Rattle.map_meaning.specs.Spans.{RunOf, at_inputs, initial_stages, is_computed, kept_map, kept_maps, stages_from, whole_span}
use Rattle.script_types.specs.Values.{done_steps}
use Rattle.run_session.specs.declared.inputs.Inputs.{Inputs}
use Rattle.run_session.specs.declared.stages.StageMaps.{StageMaps}
use Rattle.run_session.specs.declared.work.Work.{Work}
use Rattle.run_session.specs.Asked.{AreRunsOf, HasDone, IsRunOf}
use Rattle.run_session.specs.Ends.{ScriptEnd}
use Rattle.run_session.specs.Evaluation.{scenes_over}
use Rattle.run_session.specs.Steps.{or_overflow}
use Rattle.run_session.specs.inside.Running.{IsDrainOver}
use Rattle.run_session.specs.inside.Standings.{codes_of}

-- ---- one drain map

-- the mask of a drain map, by its places: a number, the map of an input, or a kept map of an earlier stage
abbrev pub mask_cell : List InputUse → List WholeMap → List StepMap → Operand → CellAt
mask_cell uses maps kept (Literal kind cell) = λ place. cell
mask_cell uses maps kept (Input n) = cell_at (nth (at_inputs is_grid_role [] uses maps) n)
mask_cell uses maps kept (Initial n) = cell_at (kept_map kept n)
mask_cell uses maps kept _ = nowhere

-- the mask is there, over so many places
abbrev pub HasMask : ℕ → List InputUse → List WholeMap → List StepMap → Operand → Type 0
HasMask places uses maps kept (Input n) =
    IsSomeAnd (slice_get uses n) (λ input. is_grid_role input.role ≡ true)
    × (length (nth (at_inputs is_grid_role [] uses maps) n) ≡ places)
HasMask places uses maps kept (Initial n) = length (kept_map kept n) ≡ places
HasMask places uses maps kept _ = ⊤

-- no drain map
abbrev pub no_drain : DrainMap
no_drain = record { rows = 0; cols = 0; codes = [] }

-- the drain map with this number among those that are left
abbrev pub left_drain : StageMaps → ℕ → DrainMap
left_drain left n = slice_index_or left.drains n no_drain

-- what a drain map comes from is there: the input that it is, or a drain map before it, and the mask
abbrev pub HasSource : Work → StageMaps → DrainFrom → Type 0
HasSource work left (from.Input n) = (n < length work.drains) × (slice_index_or work.drains n None ≡ None → ⊥)
HasSource work left (from.Same n) = n < length left.drains
HasSource work left (from.Mask of by) =
    (of < length left.drains)
    × HasMask (length (left_drain left of).codes) work.program.value.inputs work.inputs.maps left.kept by

-- a drain map, from what is held
abbrev pub held_drain : Work → StageMaps → DrainFrom → DrainMap
held_drain work left (from.Input n) = unwrap_or (slice_index_or work.drains n None) no_drain
held_drain work left (from.Same n) = left_drain left n
held_drain work left (from.Mask of by) =
    lddmask_of (left_drain left of) (mask_cell work.program.value.inputs work.inputs.maps left.kept by)

-- ---- stages

-- where and when `initial` is evaluated
abbrev pub initial_scene : Program → Inputs → Scene
initial_scene program inputs = scenes_over program.inputs inputs [] 0

-- what is done once `initial` is, or its first Over
abbrev pub initial_values : Program → Inputs → Result Done OverAt
initial_values program inputs = done_steps program (scenes_over program.inputs inputs []) 0

-- the same, as a part of the run
abbrev pub initial_or_end : Program → Inputs → Result Done ScriptEnd
initial_or_end program inputs = or_overflow (initial_values program inputs)

-- What stages of `initial` left stands for what is done once they are, which are the first so many operations, and some drain
-- maps, all due by then: the rest of the section goes on from there. The maps are whole, those that are to be are kept, and the
-- drain maps are sound.
pub record IsLeft (program : Program) (inputs : Inputs) (first : ℕ) (done : Done) (left : StageMaps) : Type 0 where
  pub rest : initial_values program inputs
      ≡ staged_values program (initial_scene program inputs) (whole_span program) done
      (drop (length left.drains) program.drains) (drop first program.initial)
  pub there : first ≤ length program.initial
  pub count : length done.initial ≡ first
  pub whole : (k : ℕ) (o : Operation) → k < first → slice_get program.initial k ≡ Some o →
      IsMapOf (inputs.frame.rows * inputs.frame.cols) o.kind (nth done.initial k)
  pub kept : left.kept ≡ kept_maps 0 done.initial 0 (take first program.initial)
  pub codes : codes_of left.drains ≡ done.drains
  pub sound : All (IsDrainOver inputs.frame) left.drains
  pub few : length left.drains ≤ length program.drains
  pub due : (k : ℕ) (d : DrainUse) → slice_get program.drains k ≡ Some d → k < length left.drains → d.after ≤ first

-- something is left of the first so many operations
abbrev pub HasLeft : Program → Inputs → ℕ → StageMaps → Type 0
HasLeft program inputs first left = (done : Done) × IsLeft program inputs first done left

-- all drain maps that are due once so many operations are done are left
abbrev pub AreDue : Program → ℕ → StageMaps → Type 0
AreDue program first left = (k : ℕ) (d : DrainUse) → slice_get program.drains k ≡ Some d → d.after ≤ first → k < length left.drains

-- The runner was asked for the run of a stage, as is seen once `initial` is done.
abbrev pub AsksStage : (List RunOf → Type 0) → (List RunOf → Type 0) → Program → Inputs → ℕ → ℕ → Type 0
AsksStage old new program inputs first end =
    (runs : List RunOf) → old runs →
    (run : RunOf)
    × ((start : Done) → HasDone program inputs [] 0 start → IsRunOf program inputs [] (span.Initial first end) run)
    × new (runs ++ run ∷ [])

-- The same of some stages, where no run was asked for before.
abbrev pub AsksStages : (List RunOf → Type 0) → (List RunOf → Type 0) → Program → Inputs → List Span → Type 0
AsksStages old new program inputs spans =
    old [] →
    (runs : List RunOf) × ((start : Done) → HasDone program inputs [] 0 start → AreRunsOf program inputs [] spans runs) × new runs

-- these stages stand before one that begins at first, where so many drain maps stand before it
abbrev pub AreBefore : Program → ℕ → ℕ → List Span → Type 0
AreBefore program n first spans =
    initial_stages program
    ≡ spans ++ stages_from first (map (λ d. d.after) (filter (λ d. is_computed d.from) (drop n program.drains))) (length program.initial)

-- A stage begins here once so many drain maps are passed: behind each of them, at the section's begin or where one of them stands.
pub record BeginsBehind (program : Program) (n first : ℕ) : Type 0 where
  pub passed : (k : ℕ) (d : DrainUse) → k < n → slice_get program.drains k ≡ Some d → d.after ≤ first
  pub origin : (first ≡ 0) ⊎ ((k : ℕ) × (d : DrainUse) × (k < n) × (slice_get program.drains k ≡ Some d) × (d.after ≡ first))
