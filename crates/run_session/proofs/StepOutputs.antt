-- What the outputs of a program write at a step, by what the session holds.
use Rattle.std.proofs.Common.{◌≡◌, ℕ, suc, ◌+◌, ◌*◌, ◌<◌, ◌≤◌, Bool, true, false, cond, not, List, [], ◌∷◌, ◌++◌, length, map, refl, sym, ap, subst, ◌∙◌, Ok, arith}
use Rattle.std.specs.Prelude.{◌==◌, ◌&&◌, ◌||◌, All, Some, IsSomeAnd, pos, slice_get}
use Rattle.std.specs.List.{AllZip, filter}
use Rattle.std.proofs.lemmas.Bool.{eq-eqb, or_left, or_right}
use Rattle.cell_values.specs.declared.cell.Cell.{Cell}
use Rattle.cell_values.specs.declared.cell.Cell.TheVariants.{Mv}
use Rattle.tile_map.specs.Cuts.{cell_at}
use Rattle.tile_map.proofs.PartLemmas as parts
use Rattle.time_series.specs.declared.row.SeriesRow.{SeriesRow}
use Rattle.map_meaning.specs.declared.known.Known.{Known}
use Rattle.map_meaning.specs.declared.known.StepMap.{StepMap}
use Rattle.map_meaning.specs.declared.program.InputUse.{InputUse}
use Rattle.map_meaning.specs.declared.program.Operand.{Operand}
use Rattle.map_meaning.specs.declared.program.Operand.TheVariants.{Unused, Literal, Time, Input, Initial, Now, Last, Drain}
use Rattle.map_meaning.specs.declared.program.Operand.TheVariants as from
use Rattle.map_meaning.specs.declared.program.OutputKind.{OutputKind}
use Rattle.map_meaning.specs.declared.program.OutputKind.TheVariants.{InitialGrid, StackGrid, Sample as IsSampleKind}
use Rattle.map_meaning.specs.declared.program.OutputUse.{OutputUse}
use Rattle.map_meaning.specs.declared.program.Program.{Program}
use Rattle.map_meaning.specs.Evaluation.{Done, operand_map}
use Rattle.map_meaning.specs.Maps.{WholeMap, nth}
use Rattle.map_meaning.specs.Programs.{IsBelowNow, IsOperation, IsOutput, IsOutputValue, IsStepOperation, IsWellFormed, is_carried, is_grid_role, is_initial, is_initial_grid, is_last, is_now, is_output, is_stack_grid, is_written}
use Rattle.map_meaning.specs.Scenes.{map_at_step, place_count}
use Rattle.map_meaning.specs.Spans.{kept_map, kept_maps}
use Rattle.map_meaning.proofs.WholeMaps.{input_there, operation_of, step_operation_of, there}
use Rattle.script_types.specs.Values.{Scenes, Written, done_steps}
use Rattle.run_session.specs.declared.inputs.Inputs.{Inputs}
use Rattle.run_session.specs.declared.samples.Sample.{Sample}
use Rattle.run_session.specs.declared.stages.StageMaps.{StageMaps}
use Rattle.run_session.specs.Evaluation.{input_maps, scenes_over}
use Rattle.run_session.specs.Samples.{cells_put, id_columns, is_sample_form, place_of_id, row_cells, with_rows}
use Rattle.run_session.specs.Steps.{Standing, grids_among, rows_among, stacks_among}
use Rattle.run_session.specs.inside.Outputs.{IsKeptFor, grids_before, ids_of, operand_input}
use Rattle.run_session.specs.inside.Parts.{AreInputsOf}
use Rattle.run_session.specs.inside.Running.{IsStanding}
use Rattle.run_session.specs.inside.Standings.{AreGridsOf, IsSample, held_cell, held_row, kept_of, kept_report, known_at, put_by, sampled_of, with_held_row}
use Rattle.run_session.proofs.InputPlaces.{grid_at}
use Rattle.run_session.proofs.KeptMaps.{kept_written}
use Rattle.run_session.proofs.StepReports.{EachIs, any_at, each_all, each_passed, filter_forms, map_each, output_at}
use Rattle.run_session.proofs.StepStages.{at_is_kept, grids_last, step_drains, step_last, step_start, step_whole}
use Rattle.run_session.proofs.StepValues.{kept_is}
use Rattle.std.proofs.lemmas.List.{length-map}
use Rattle.std.proofs.lemmas.List.Elements.{All-cons, All-nil, All-push}
use Rattle.std.proofs.lemmas.Bool.Decides.{nat_tests}
use Rattle.map_meaning.specs.declared.program.Role.TheVariants.{Grid}

-- ---- the cells of a row

-- two lists of cells at the places of some columns
cells_same : (places : ℕ) (f h : ℕ → Cell) (place : ℕ → ℕ) (columns : List ℕ) → All (λ p. p < places) (map place columns) → ((p : ℕ) → p < places → f p ≡ h p) → map (λ n. f (place n)) columns ≡ map h (map place columns)
cells_same places f h place [] within same = refl
cells_same places f h place (n ∷ columns) within same =
    ap (λ c. c ∷ map (λ n. f (place n)) columns) (same (place n) (within 0 0 (omega arith))) ∙
    ap (λ cs. h (place n) ∷ cs) (cells_same places f h place columns (λ k d below. within (suc k) d (omega (arith, below))) same)

-- the row of a step
abbrev row_at : ℕ → List Cell → SeriesRow
row_at step cells = record { step = step; cells = cells }

-- the row of a time series, by what is held
sample_cells : (places : ℕ) (known : Known) (now : List StepMap) (step : ℕ) (uses : List InputUse) (o : OutputUse) (s : Sample) (cells : WholeMap) → IsSample places s → IsKeptFor uses o s →
    ((p : ℕ) → p < places → cell_at cells p ≡ held_cell known now step (grids_before uses (operand_input o.value)) o.value p) → row_at step (row_cells false s.ids cells) ≡ held_row known now step s
sample_cells places known now step uses o s cells is kept same =
    let place = place_of_id s.ids in
    let columns = id_columns s.ids in
    let within : All (λ p. p < places) (map place columns) = subst (All (λ p. p < places)) is.places_are is.within in
    let h = held_cell known now step s.input s.value in
    let held : (p : ℕ) → p < places → cell_at cells p ≡ h p = λ p below.
    same p below ∙ (ap (λ i. held_cell known now step i o.value p) (sym kept.input) ∙ ap (λ v. held_cell known now step s.input v p) (sym kept.value)) in
    ap (row_at step) (cells_same places (cell_at cells) h place columns within held ∙ ap (map h) (sym is.places_are))

-- an output that is a time series writes the row of a map of which the session holds the cells
record IsHeldRow (places : ℕ) (known : Known) (now : List StepMap) (step : ℕ) (uses : List InputUse) (ids : OutputUse → WholeMap) (cells : OutputUse → WholeMap) (w : OutputUse → Written) (o : OutputUse) : Type 0 where
  row : (w o).cells ≡ row_cells false (ids o) (cells o)
  held : (p : ℕ) → p < places → cell_at (cells o) p ≡ held_cell known now step (grids_before uses (operand_input o.value)) o.value p

-- the time series with one more row are those that are held with it
held_rows : (places : ℕ) (known : Known) (now : List StepMap) (step : ℕ) (uses : List InputUse) (ids : OutputUse → WholeMap) (cells : OutputUse → WholeMap) (w : OutputUse → Written) (outputs : List OutputUse) (samples : List Sample) → AllZip (IsKeptFor uses) outputs samples →
    map (λ (s : Sample). s.ids) samples ≡ map ids outputs → All (IsSample places) samples → EachIs (IsHeldRow places known now step uses ids cells w) outputs →
    with_rows step (map sampled_of samples) (map w outputs) ≡ map sampled_of (map (with_held_row known now step) samples)
held_rows places known now step uses ids cells w [] [] kept of are same = refl
held_rows places known now step uses ids cells w [] (s ∷ samples) kept of are same = absurd kept
held_rows places known now step uses ids cells w (o ∷ outputs) [] kept of are same = absurd kept
held_rows places known now step uses ids cells w (o ∷ outputs) (s ∷ samples) kept of are same =
    let rest = with_rows step (map sampled_of samples) (map w outputs) in
    let first : s.ids ≡ ids o = cc in
    let later : map (λ (s : Sample). s.ids) samples ≡ map ids outputs = cc in
    ap (λ (row : SeriesRow). record { file = s.file; kind = s.kind; ids = s.ids; rows = s.rows ++ row ∷ [] } ∷ rest)
    (ap (row_at step) (same.0.row ∙ ap (λ m. row_cells false m (cells o)) (sym first)) ∙ sample_cells places known now step uses o s (cells o) (are 0 s (omega arith)) kept.0 same.0.held) ∙
    ap (λ more. sampled_of (with_held_row known now step s) ∷ more) (held_rows places known now step uses ids cells w outputs samples kept.1 later (λ k d below. are (suc k) d (omega (arith, below))) same.1)

-- a time series with one more row is one
row_sample : (places : ℕ) (known : Known) (now : List StepMap) (step : ℕ) (s : Sample) → IsSample places s → IsSample places (with_held_row known now step s)
row_sample places known now step s is =
    let h = held_cell known now step s.input s.value in
    let names : length s.names ≡ length (id_columns s.ids) = ap length is.writable.names ∙ length-map (id_columns s.ids) pos in
    let count : length s.places ≡ length (id_columns s.ids) = ap length is.places_are ∙ length-map (id_columns s.ids) (place_of_id s.ids) in
    let whole : length (map h s.places) ≡ length s.names = length-map s.places h ∙ (count ∙ sym names) in
    record {
      writable = record { names = is.writable.names; rows = All-push (λ (row : SeriesRow). length row.cells ≡ length s.names) s.rows (held_row known now step s) is.writable.rows whole };
      places_are = is.places_are;
      within = is.within;
    }

-- so are all
pub row_samples : (places : ℕ) (known : Known) (now : List StepMap) (step : ℕ) (samples : List Sample) → All (IsSample places) samples → All (IsSample places) (map (with_held_row known now step) samples)
row_samples places known now step [] are = All-nil (IsSample places)
row_samples places known now step (s ∷ samples) are =
    All-cons (IsSample places) (with_held_row known now step s) (map (with_held_row known now step) samples) (row_sample places known now step s (are 0 s (omega arith)))
    (row_samples places known now step samples (λ k d below. are (suc k) d (omega (arith, below))))

-- they are kept for the same outputs
pub row_kept : (uses : List InputUse) (known : Known) (now : List StepMap) (step : ℕ) (outputs : List OutputUse) (samples : List Sample) → AllZip (IsKeptFor uses) outputs samples → AllZip (IsKeptFor uses) outputs (map (with_held_row known now step) samples)
row_kept uses known now step [] [] kept = tt
row_kept uses known now step [] (s ∷ samples) kept = absurd kept
row_kept uses known now step (o ∷ outputs) [] kept = absurd kept
row_kept uses known now step (o ∷ outputs) (s ∷ samples) kept = (record { value = kept.0.value; input = kept.0.input }, row_kept uses known now step outputs samples kept.1)

-- and have the same ids
pub row_ids : (known : Known) (now : List StepMap) (step : ℕ) (samples : List Sample) → map (λ (s : Sample). s.ids) (map (with_held_row known now step) samples) ≡ map (λ (s : Sample). s.ids) samples
row_ids known now step [] = refl
row_ids known now step (s ∷ samples) = ap (λ ids. s.ids ∷ ids) (row_ids known now step samples)

-- a stack is written as it is
stack_plain : (maps : List WholeMap) (k : OutputKind) (cells : WholeMap) → is_stack_grid k ≡ true → cells_put false maps k cells ≡ cells
stack_plain maps InitialGrid cells h = absurd (cc)
stack_plain maps StackGrid cells h = refl
stack_plain maps (IsSampleKind ids) cells h = absurd (cc)

-- a time series is written by rows
sample_row : (maps : List WholeMap) (k : OutputKind) (cells : WholeMap) → is_sample_form k ≡ true → cells_put false maps k cells ≡ row_cells false (ids_of maps k) cells
sample_row maps InitialGrid cells h = absurd (cc)
sample_row maps StackGrid cells h = absurd (cc)
sample_row maps (IsSampleKind ids) cells h = refl

-- ---- a step

module _ (program : Program) (formed : IsWellFormed program) (inputs : Inputs) (are : AreInputsOf program.inputs inputs)
    (step n : ℕ) (e : step ≡ suc n) (some : 1 ≤ step) (there_is : step ≤ program.steps) (s : Standing) (left : StageMaps) (last : List StepMap) (samples : List Sample) (is : IsStanding program inputs n s left last samples)
    (g : List StepMap) (grids : AreGridsOf (inputs.frame.rows * inputs.frame.cols) step (stacks_among 0 program.inputs) g)
    (y : Done) (done : done_steps program (scenes_over program.inputs inputs (s.grids ++ g ∷ [])) step ≡ Ok y) where
  abbrev places : ℕ
  places = inputs.frame.rows * inputs.frame.cols

  abbrev scenes : Scenes
  scenes = scenes_over program.inputs inputs (s.grids ++ g ∷ [])

  abbrev known : Known
  known = known_at inputs left g last

  abbrev maps : List StepMap
  maps = kept_maps step y.dynamic 0 program.dynamic

  abbrev inputs_here : List WholeMap
  inputs_here = input_maps program.inputs inputs

  -- the map of an output
  abbrev cells : OutputUse → WholeMap
  cells o = operand_map (scenes step) y o.value

  -- what an output writes
  abbrev writes : OutputUse → Written
  writes = put_by inputs_here (scenes step) y

  module _ (i : ℕ) (o : OutputUse) (at : slice_get program.outputs i ≡ Some o) where
    -- an operation of `initial` that the output names is kept
    initial_kept : (k : ℕ) → k < length program.initial → is_initial k o.value ≡ true → kept_map left.kept k ≡ nth y.initial k
    initial_kept k below names =
        let found = there program.initial k below in
        let zero_k : 0 + k ≡ k = omega arith in
        let op : IsOperation program k found.0 = subst (λ j. IsOperation program j found.0) zero_k (operation_of program 0 k program.initial found.0 formed.operations found.1) in
        let wanted : is_written program k ≡ true = any_at (λ (output : OutputUse). is_initial k output.value) program.outputs i o at names in
        let kept : found.0.kept ≡ true = op.kept ∙ kept_written program k wanted in
        ap (λ maps. kept_map maps k) is.first.kept ∙ (kept_is 0 is.start.initial program.initial k found.0 found.1 kept ∙
        ap (λ maps. nth maps k) (sym (step_start program formed inputs are step n e some there_is s left last samples is g grids y done)))

    -- an operation of `dynamic` that the output names is kept
    named_kept : (k : ℕ) → (below : k < length program.dynamic) → (is_now k o.value || is_last k o.value) ≡ true → (there program.dynamic k below).0.kept ≡ true
    named_kept k below names =
        let found = there program.dynamic k below in
        let zero_k : 0 + k ≡ k = omega arith in
        let op : IsStepOperation program k found.0 = subst (λ j. IsStepOperation program j found.0) zero_k (step_operation_of program 0 k program.dynamic found.0 formed.step_operations found.1) in
        let wanted : is_output program (λ operand. is_now k operand || is_last k operand) ≡ true = any_at (λ (output : OutputUse). is_now k output.value || is_last k output.value) program.outputs i o at names in
        op.kept ∙ or_right (is_carried program k) _ wanted

    now_kept : (k : ℕ) → k < length program.dynamic → is_now k o.value ≡ true → kept_map maps k ≡ nth y.dynamic k
    now_kept k below names =
        let found = there program.dynamic k below in
        kept_is step y.dynamic program.dynamic k found.0 found.1 (named_kept k below (or_left (is_now k o.value) _ names))

    last_kept : (k : ℕ) → k < length program.dynamic → 0 < n → is_last k o.value ≡ true → kept_map last k ≡ nth y.last k
    last_kept k below behind names =
        let found = there program.dynamic k below in
        ap (λ maps. kept_map maps k) (is.last_is behind) ∙ (kept_is n is.done.dynamic program.dynamic k found.0 found.1 (named_kept k below (or_right (is_now k o.value) (is_last k o.value) names)) ∙
        ap (λ maps. nth maps k) (sym (step_last program formed inputs are step n e some there_is s left last samples is g grids y done)))

    -- the cell that an output writes is held
    held : (p : ℕ) → p < places → (v : Operand) → o.value ≡ v → IsBelowNow program (length program.dynamic) v →
        cell_at (operand_map (scenes step) y v) p ≡ held_cell known maps step (grids_before program.inputs (operand_input v)) v p
    held p below Unused is_v read = refl
    held p below (Literal kind cell) is_v read = parts.get_or-tabulate (λ place. cell) (place_count (scenes step)) p Mv below
    held p below Time is_v read = parts.get_or-tabulate (λ place. _) (place_count (scenes step)) p Mv below
    held p below (Input k) is_v read = ap (λ m. cell_at m p) (grid_at program.inputs inputs.maps k
        (let found = input_there program Grid k read in subst (λ o. IsSomeAnd o (λ (input : InputUse). is_grid_role input.role ≡ true)) (sym found.1) (ap is_grid_role found.2)))
    held p below (from.Stack k) is_v read =
        ap (λ m. cell_at m p) (ap (λ gs. map_at_step gs step k) (grids_last s.grids g step n e is.count) ∙ at_is_kept places step (stacks_among 0 program.inputs) g k grids)
    held p below (Initial k) is_v read = ap (λ m. cell_at m p) (sym (initial_kept k read (ap (is_initial k) is_v ∙ eq-eqb k k refl)))
    held p below (Now k) is_v read = ap (λ m. cell_at m p) (sym (now_kept k read (ap (is_now k) is_v ∙ eq-eqb k k refl)))
    held p below (Drain k) is_v read =
        ap (λ maps. cell_at (nth maps k) p) (step_drains program formed inputs are step n e some there_is s left last samples is g grids y done ∙ sym is.first.codes)
    held p below (Last d j) is_v read = by (step == 1) refl
      where
        by : (b : Bool) → (step == 1) ≡ b → cell_at (cond (step == 1) (nth y.initial j) (nth y.last d)) p ≡ cell_at (cond (step == 1) (kept_map left.kept j) (kept_map last d)) p
        by true h =
            ap (λ b. cell_at (cond b (nth y.initial j) (nth y.last d)) p) h ∙
            (ap (λ m. cell_at m p) (sym (initial_kept j read.of_initial (ap (is_initial j) is_v ∙ eq-eqb j j refl))) ∙
            ap (λ b. cell_at (cond b (kept_map left.kept j) (kept_map last d)) p) (sym h))
        by false h =
            let behind : 0 < n = let other : (step == 1) ≡ false = h in grind (arith, nat_tests, other, e) in
            ap (λ b. cell_at (cond b (nth y.initial j) (nth y.last d)) p) h ∙
            (ap (λ m. cell_at m p) (sym (last_kept d read.of_dynamic behind (ap (is_last d) is_v ∙ eq-eqb d d refl))) ∙
            ap (λ b. cell_at (cond b (kept_map left.kept j) (kept_map last d)) p) (sym h))

    -- what a time series samples is held
    sample_held : is_sample_form o.kind ≡ true → (p : ℕ) → p < places → cell_at (cells o) p ≡ held_cell known maps step (grids_before program.inputs (operand_input o.value)) o.value p
    sample_held sample p below = by o.kind refl sample
      where
        output : IsOutput program o
        output = output_at program formed i o at

        by : (k : OutputKind) → o.kind ≡ k → is_sample_form k ≡ true → cell_at (cells o) p ≡ held_cell known maps step (grids_before program.inputs (operand_input o.value)) o.value p
        by InitialGrid is_k h = absurd (cc)
        by StackGrid is_k h = absurd (cc)
        by (IsSampleKind ids) is_k h =
            let value : IsOutputValue program (IsSampleKind ids) o.value = subst (λ k. IsOutputValue program k o.value) is_k output.value in
            held p below o.value refl value.1

    -- and it is written by rows
    row_held : is_sample_form o.kind ≡ true → IsHeldRow places known maps step program.inputs (λ (o : OutputUse). ids_of inputs_here o.kind) cells writes o
    row_held sample = record { row = sample_row inputs_here o.kind (cells o) sample; held = sample_held sample }

    -- a stack is written from the kept maps, which are whole
    stack_value : is_stack_grid o.kind ≡ true → (k : ℕ) × (o.value ≡ Now k) × (k < length program.dynamic)
    stack_value stack = by o.kind refl stack
      where
        output : IsOutput program o
        output = output_at program formed i o at

        by : (k : OutputKind) → o.kind ≡ k → is_stack_grid k ≡ true → (k : ℕ) × (o.value ≡ Now k) × (k < length program.dynamic)
        by InitialGrid is_k h = absurd (cc)
        by StackGrid is_k h = subst (λ k. IsOutputValue program k o.value) is_k output.value
        by (IsSampleKind ids) is_k h = absurd (cc)

    stack_written : is_stack_grid o.kind ≡ true → writes o ≡ kept_report maps left.drains o
    stack_written stack =
        let value = stack_value stack in
        let k = value.0 in
        let same : operand_map (scenes step) y o.value ≡ kept_of maps left.drains o.value =
        ap (operand_map (scenes step) y) value.1 ∙ (sym (now_kept k value.2 (ap (is_now k) value.1 ∙ eq-eqb k k refl)) ∙ ap (kept_of maps left.drains) (sym value.1)) in
        let P : WholeMap → Written = λ cells. record { file = o.file; form = o.kind; kind = o.cell_kind; cells = cells } in
        ap P (stack_plain inputs_here o.kind (cells o) stack ∙ same)

    stack_count : is_stack_grid o.kind ≡ true → length (kept_of maps left.drains o.value) ≡ places
    stack_count stack =
        let value = stack_value stack in
        let k = value.0 in
        let found = there program.dynamic k value.2 in
        let whole = step_whole program formed inputs are step n e some there_is s left last samples is g grids y done k found.0 found.1 in
        ap length (ap (kept_of maps left.drains) value.1 ∙ now_kept k value.2 (ap (is_now k) value.1 ∙ eq-eqb k k refl)) ∙ whole.count

  -- the outputs of a step, by their forms
  abbrev stack_outputs : List OutputUse
  stack_outputs = filter (λ (o : OutputUse). is_stack_grid o.kind) program.outputs

  abbrev sample_outputs : List OutputUse
  sample_outputs = filter (λ (o : OutputUse). is_sample_form o.kind) program.outputs

  abbrev pub step_reports : List Written
  step_reports = map writes (filter (λ (o : OutputUse). not (is_initial_grid o.kind)) program.outputs)

  stack_forms : (k : OutputKind) → is_stack_grid k ≡ (not (is_initial_grid k) && not (is_sample_form k))
  stack_forms InitialGrid = refl
  stack_forms StackGrid = refl
  stack_forms (IsSampleKind ids) = refl

  sample_forms : (k : OutputKind) → is_sample_form k ≡ (not (is_initial_grid k) && is_sample_form k)
  sample_forms InitialGrid = refl
  sample_forms StackGrid = refl
  sample_forms (IsSampleKind ids) = refl

  -- the grids that are put are those of the stacks, from the kept maps
  pub step_grids : grids_among step_reports ≡ map (kept_report maps left.drains) stack_outputs
  step_grids =
      filter_forms (λ k. not (is_initial_grid k)) (λ k. not (is_sample_form k)) is_stack_grid stack_forms writes (λ o. refl) program.outputs ∙
      map_each writes (kept_report maps left.drains) stack_outputs (each_passed (λ (o : OutputUse). writes o ≡ kept_report maps left.drains o) (λ (o : OutputUse). is_stack_grid o.kind) program.outputs stack_written)

  -- the maps that are put are whole
  pub step_counts : All (λ (o : OutputUse). length (kept_of maps left.drains o.value) ≡ places) stack_outputs
  step_counts = each_all (λ (o : OutputUse). length (kept_of maps left.drains o.value) ≡ places) stack_outputs (each_passed (λ (o : OutputUse). length (kept_of maps left.drains o.value) ≡ places) (λ (o : OutputUse). is_stack_grid o.kind) program.outputs stack_count)

  -- the rows that are noted are those of the step
  pub step_rows : with_rows step s.samples (rows_among step_reports) ≡ map sampled_of (map (with_held_row known maps step) samples)
  step_rows =
      ap (λ all. with_rows step all (rows_among step_reports)) is.samples_are ∙
      (ap (with_rows step (map sampled_of samples)) (filter_forms (λ k. not (is_initial_grid k)) is_sample_form is_sample_form sample_forms writes (λ o. refl) program.outputs) ∙
      held_rows places known maps step program.inputs (λ (o : OutputUse). ids_of inputs_here o.kind) cells writes sample_outputs samples is.kept_for is.ids_are is.each
      (each_passed (IsHeldRow places known maps step program.inputs (λ (o : OutputUse). ids_of inputs_here o.kind) cells writes) (λ (o : OutputUse). is_sample_form o.kind) program.outputs row_held))
