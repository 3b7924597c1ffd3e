use Rattle.std.proofs.Common.{◌≡◌, ℕ, zero, suc, ◌+◌, ◌-◌, ◌*◌, ◌<◌, ◌≤◌, List, length, refl, sym, ap, subst, Ok, Err, Result, arith, inl}
use Rattle.std.specs.Prelude.{All, Some, slice_get, slice_range}
use Rattle.std.proofs.lemmas.List.Elements.{All-append, All-nil}
use Rattle.std.proofs.lemmas.Option.{slice_get_within}
use Rattle.map_meaning.specs.declared.known.Known.{Known}
use Rattle.map_meaning.specs.declared.known.OverAt.{OverAt}
use Rattle.map_meaning.specs.declared.known.Span.{Span}
use Rattle.map_meaning.specs.declared.known.Span.TheVariants as span
use Rattle.map_meaning.specs.declared.program.Operation.{Operation}
use Rattle.map_meaning.specs.declared.program.Program.{Program}
use Rattle.map_meaning.specs.Evaluation.{Done, operation_part, operation_values, with_map}
use Rattle.map_meaning.specs.Laws.{IsWholeMap, operations_at}
use Rattle.map_meaning.specs.Maps.{IsMapOf, WholeMap}
use Rattle.map_meaning.specs.Programs.{IsStepOperation, IsWellFormed}
use Rattle.map_meaning.specs.Spans.{AreSteps, IsInStage, Knows, done_before, done_next, kept_map, kept_maps, scene_of, stage_of, told_of, told_steps, told_then}
use Rattle.map_meaning.proofs.WholeMaps.{AreFrom, HasInputs, HasStacksAt, IsDoneFirst, IsDoneNow, IsReadNow, begun_first, codes_known, from_list, initial_done, kept_whole, map_whole, none_done, of_all, one_more_done, read_now, scene_inputs, sound_now, stage_from, stage_length, step_operation_of, values_hold}
use Rattle.map_meaning.proofs.Tabulated.{nth_tabulate}
use Rattle.map_meaning.proofs.laws.spans_give_whole_maps.Goals as goal

-- all of a list
all_from : (operations : List Operation) → AreFrom operations 0 operations
all_from operations = from_list operations 0 operations (λ k. let same : 0 + k ≡ k = omega arith in ap (slice_get operations) same)

module _ (program : Program) (known : Known) (formed : IsWellFormed program) where
  abbrev places : ℕ
  places = known.rows * known.cols

  -- ---- `initial`

  module _ (first end : ℕ) (stage : IsInStage program first end) (knows : Knows program (span.Initial first end) known) where
    abbrev operations : List Operation
    operations = slice_range program.initial first end

    abbrev before : Done
    before = done_before program (span.Initial first end) known

    -- the maps that are told are whole
    told_whole : (r : Result Done OverAt) → operation_values program (scene_of program.inputs known 0) (span.Initial first end) before operations ≡ r → All (IsWholeMap program places) (told_of program (span.Initial first end) 0 r).maps
    told_whole (Err at) is = All-nil (IsWholeMap program places)
    told_whole (Ok done) is =
        let inputs = scene_inputs program known 0 knows.few knows.maps knows.tables knows.series in
        let all : IsDoneFirst program places first end done = initial_done program known formed inputs first end stage before done (begun_first program first end known knows.outside) is in
        let count = stage_length program.initial first end stage.order stage.there in
        kept_whole program places 0 first end done.initial operations (λ k o behind below is. all.each k o below is (inl behind)) (omega (arith, count))
        (of_all program.initial end first operations (stage_from program.initial first end stage.order))

    -- a stage of `initial`
    stage_whole : All (IsWholeMap program places) (stage_of program (span.Initial first end) known).maps
    unfolding stage_of
    stage_whole = told_whole (operation_values program (scene_of program.inputs known 0) (span.Initial first end) before operations) refl

  -- ---- steps

  module _ (first last : ℕ) (steps : AreSteps program first last (last + 1)) (knows : Knows program (span.Steps first last) known) where
    abbrev s : Span
    s = span.Steps first last

    -- the scene of one of the steps
    inputs_at : (step : ℕ) → HasInputs program (scene_of program.inputs known step)
    inputs_at step = scene_inputs program known step knows.few knows.maps knows.tables knows.series

    module _ (step : ℕ) (from : first ≤ step) (to : step ≤ last) where
      abbrev HoldsNow : ℕ → Done → Type 0
      HoldsNow n done = IsDoneNow program places step n done

      stacks_at : HasStacksAt program (scene_of program.inputs known step)
      stacks_at n input is role = knows.outside.stacks n step input is role from to

      step_whole : (n : ℕ) (done : Done) (o : Operation) → HoldsNow n done → slice_get program.dynamic n ≡ Some o → IsMapOf places o.kind (operation_part program (scene_of program.inputs known step) done o).cells
      step_whole n done o all is =
          let within : n < length program.dynamic = slice_get_within program.dynamic n o is in
          let here : 0 + n ≡ n = omega arith in
          let formed_o = subst (λ j. IsStepOperation program j o) here (step_operation_of program 0 n program.dynamic o formed.step_operations is) in
          let sound = sound_now program (scene_of program.inputs known step) done n (inputs_at step) stacks_at formed.operations formed.drains (omega (arith, steps.some, from)) (omega (arith, to, steps.there, formed.few_steps)) (omega arith) all in
          map_whole program (scene_of program.inputs known step) done (inputs_at step) (IsReadNow program n) sound o o.kept (read_now program n o is formed_o)

      step_next : (n : ℕ) (done : Done) (o : Operation) (m : WholeMap) → HoldsNow n done → slice_get program.dynamic n ≡ Some o → IsMapOf places o.kind m → HoldsNow (n + 1) (with_map s done m)
      step_next n done o m all is whole = record { now = one_more_done program.dynamic places n done.dynamic o m all.now is whole; initial = all.initial; carried = all.carried; drains = all.drains }

      step_done : (done after : Done) → HoldsNow 0 done → operation_values program (scene_of program.inputs known step) s done program.dynamic ≡ Ok after → HoldsNow (0 + length program.dynamic) after
      step_done done after all is = values_hold program (scene_of program.inputs known step) s program.dynamic HoldsNow step_whole step_next 0 done after program.dynamic all (all_from program.dynamic) is

      -- the operations of a step
      operations_now : operations_at program step ≡ program.dynamic
      operations_now = by_step step (omega (arith, steps.some, from))
        where
          by_step : (step : ℕ) → 1 ≤ step → operations_at program step ≡ program.dynamic
          by_step zero some = absurd (omega arith)
          by_step (suc k) some = refl

      step_kept : (after : Done) → HoldsNow (0 + length program.dynamic) after → All (IsWholeMap program places) (kept_maps step after.dynamic 0 program.dynamic)
      step_kept after all =
          kept_whole program places step 0 (0 + length program.dynamic) after.dynamic program.dynamic (λ k o behind below is. all.now.each k o below (subst (λ ops. slice_get ops k ≡ Some o) operations_now is)) (omega arith)
          (subst (λ ops. AreFrom ops 0 program.dynamic) (sym operations_now) (all_from program.dynamic))

    -- behind a step the next one may be done
    next_done : (step : ℕ) (after : Done) → IsDoneNow program places step (0 + length program.dynamic) after → IsDoneNow program places (step + 1) 0 (done_next after)
    next_done step after all = record {
      now = none_done program.dynamic places;
      initial = all.initial;
      carried = λ behind k o is carried. all.now.each k o (let within : k < length program.dynamic = slice_get_within program.dynamic k o is in omega arith) is;
      drains = all.drains;
    }

    -- the maps that steps tell are whole
    steps_whole : (more step : ℕ) (done : Done) → first ≤ step → step + more ≤ last + 1 → IsDoneNow program places step 0 done → All (IsWholeMap program places) (told_steps program s known done step more).maps
    steps_whole zero step done from to all = All-nil (IsWholeMap program places)
    steps_whole (suc more) step done from to all =
        by_value (operation_values program (scene_of program.inputs known step) s done program.dynamic) refl
        (λ after here. steps_whole more (step + 1) (done_next after) (omega arith) (omega arith) (next_done step after here))
      where
        by_value : (r : Result Done OverAt) → operation_values program (scene_of program.inputs known step) s done program.dynamic ≡ r →
            ((after : Done) → IsDoneNow program places step (0 + length program.dynamic) after → All (IsWholeMap program places) (told_steps program s known (done_next after) (step + 1) more).maps) →
            All (IsWholeMap program places) (told_then program s step r (λ after. told_steps program s known (done_next after) (step + 1) more)).maps
        by_value (Err at) is later = All-nil (IsWholeMap program places)
        by_value (Ok after) is later =
            let here = step_done step from (omega arith) done after all is in
            All-append (IsWholeMap program places) (kept_maps step after.dynamic 0 program.dynamic) (told_steps program s known (done_next after) (step + 1) more).maps (step_kept step from (omega arith) after here)
            (later after here)

    -- what is done before the first of them
    begun : IsDoneNow program places first 0 (done_before program s known)
    begun = record {
      now = none_done program.dynamic places;
      initial = λ k o is kept. subst (IsMapOf places o.kind) (sym (nth_tabulate (kept_map known.initial) (length program.initial) k (slice_get_within program.initial k o is))) (knows.outside.initial k o is kept);
      carried = λ behind k o is carried. subst (IsMapOf places o.kind) (sym (nth_tabulate (kept_map known.last) (length program.dynamic) k (slice_get_within program.dynamic k o is))) (knows.outside.carried behind k o is carried);
      drains = codes_known program (length program.initial) known knows.outside.drains;
    }

    span_whole : All (IsWholeMap program places) (stage_of program s known).maps
    unfolding stage_of
    span_whole = steps_whole (last + 1 - first) first (done_before program s known) (omega arith) (omega (arith, steps.order)) begun

pub returns : goal.returns
returns c program (span.Initial first end) known block formed is knows = stage_whole program known formed first end is knows
returns c program (span.Steps first last) known block formed is knows =
    span_whole program known formed first last (record { some = is.some; order = is.order; there = is.there; few = omega (arith, is.some) }) knows
