-- What is done at the end of a step of a span, where the evaluation goes on behind an Over.
use Rattle.std.proofs.Common.{◌≡◌, ℕ, zero, suc, ◌+◌, ◌-◌, ◌*◌, ◌<◌, ◌≤◌, List, [], ◌∷◌, length, take, sym, ap, subst, ◌∙◌, arith}
use Rattle.std.specs.Prelude.{Some, slice_get, slice_range}
use Rattle.std.proofs.lemmas.List.{get_or_append_left}
use Rattle.std.proofs.lemmas.Option.{slice_get_within}
use Rattle.std.proofs.lemmas.Bool.Decides.{nat_tests}
use Rattle.map_meaning.specs.Limits.{most_block}
use Rattle.tile_map.specs.Parts.{tabulate}
use Rattle.map_meaning.specs.Evaluation.{Done, operation_part, with_map}
use Rattle.map_meaning.specs.Maps.{IsMapOf, WholeMap, nth}
use Rattle.map_meaning.specs.Onward.{onward}
use Rattle.map_meaning.specs.Programs.{IsOperation, IsStepOperation, IsWellFormed}
use Rattle.map_meaning.specs.Scenes.{Scene, place_count}
use Rattle.map_meaning.specs.Spans.{AreSteps, IsInStage, Knows, done_before, done_next, kept_map, known_codes, scene_of}
use Rattle.map_meaning.specs.declared.known.Known.{Known}
use Rattle.map_meaning.specs.declared.known.Span.{Span}
use Rattle.map_meaning.specs.declared.known.Span.TheVariants as span
use Rattle.map_meaning.specs.declared.program.Operation.{Operation}
use Rattle.map_meaning.specs.declared.program.Program.{Program}
use Rattle.map_meaning.proofs.Tabulated.{nth_tabulate, tabulate_count}
use Rattle.map_meaning.proofs.WholeMaps.{AreFrom, HasInputs, HasStacksAt, IsDoneFirst, IsDoneNow, IsReadFirst, IsReadNow, begun_first, codes_known, from_list, map_whole, none_done, one_more_done, one_more_first, operation_of, read_first, read_now, scene_inputs, sound_first, sound_now, stage_from, stage_length, step_operation_of}
use Rattle.span_operands.specs.Made.{AgreesWith}
use Rattle.task_tiles.specs.TaskTiles.{onward_done}
use Rattle.task_tiles.proofs.Callers.{IsStepOf, done_first, done_later, onward_keeps}

-- ---- it has what is known

-- one of some steps has the drain maps and the maps of `initial` that were there before them
record HasOthers (program : Program) (known : Known) (done : Done) : Type 0 where
  drains : done.drains ≡ known_codes known
  initial : done.initial ≡ tabulate (kept_map known.initial) (length program.initial)

steps_have : (program : Program) (first last : ℕ) (known : Known) (i : ℕ) → first + i ≤ last → HasOthers program known (onward_done program (span.Steps first last) known (first + i))
steps_have program first last known zero few =
    let s : Span = span.Steps first last in
    let before = done_before program s known in
    let here : first + 0 ≡ first = omega arith in
    let goes = onward_keeps program (scene_of program.inputs known first) s before program.dynamic in
    let is = ap (onward_done program s known) here ∙ done_first program first last known (omega arith) in
    subst (HasOthers program known) (sym is) (record { drains = goes.drains; initial = goes.others })
steps_have program first last known (suc i) few =
    let s : Span = span.Steps first last in
    let on : first + suc i ≡ first + i + 1 = omega arith in
    let now = onward_done program s known (first + i) in
    let have = steps_have program first last known i (omega arith) in
    let goes = onward_keeps program (scene_of program.inputs known (first + i + 1)) s (done_next now) program.dynamic in
    let is = ap (onward_done program s known) on ∙ done_later program first last (first + i) known (omega arith) (omega arith) in
    subst (HasOthers program known) (sym is) (record { drains = goes.drains ∙ have.drains; initial = goes.others ∙ have.initial })

-- the maps that are carried into a step behind the first one
pub last_is : (program : Program) (first last : ℕ) (known : Known) (step : ℕ) → first < step → step ≤ last →
    (onward_done program (span.Steps first last) known step).last ≡ (onward_done program (span.Steps first last) known (step - 1)).dynamic
last_is program first last known step from to =
    let s : Span = span.Steps first last in
    let on : step ≡ step - 1 + 1 = omega (arith, from) in
    let now = onward_done program s known (step - 1) in
    let goes = onward_keeps program (scene_of program.inputs known (step - 1 + 1)) s (done_next now) program.dynamic in
    ap (λ (n : ℕ). (onward_done program s known n).last) on
    ∙ (ap (λ (d : Done). d.last) (done_later program first last (step - 1) known (omega (arith, from)) (omega (arith, from, to))) ∙ goes.last)

pub agrees : (program : Program) (s : Span) (known : Known) (step : ℕ) → IsStepOf s step → AgreesWith program s known step (onward_done program s known step)
agrees program (span.Initial first end) known step at =
    let s : Span = span.Initial first end in
    let before = done_before program s known in
    let goes = onward_keeps program (scene_of program.inputs known 0) s before (slice_range program.initial first end) in
    let count = tabulate_count (kept_map known.initial) first in
    record {
      drains = goes.drains;
      initial = λ n is.
          (let below : n < first = grind (arith, is, nat_tests) in
          ap (λ (maps : List WholeMap). nth maps n) goes.section
          ∙ (get_or_append_left before.initial goes.more [] n (omega (arith, count, below)) ∙ nth_tabulate (kept_map known.initial) first n below));
      last = tt;
    }
agrees program (span.Steps first last) known step at =
    let s : Span = span.Steps first last in
    let same : first + (step - first) ≡ step = omega (arith, at.0) in
    let have = subst (λ (n : ℕ). HasOthers program known (onward_done program s known n)) same (steps_have program first last known (step - first) (omega (arith, at.0, at.1))) in
    let before = done_before program s known in
    record {
      drains = have.drains;
      initial = λ n is.
          (let below : n < length program.initial = grind (arith, is, nat_tests) in
          ap (λ (maps : List WholeMap). nth maps n) have.initial ∙ nth_tabulate (kept_map known.initial) (length program.initial) n below);
      last = λ first_step n below.
          let goes = onward_keeps program (scene_of program.inputs known first) s before program.dynamic in
          ap (λ (k : ℕ). nth (onward_done program s known k).last n) first_step
          ∙ (ap (λ (d : Done). nth d.last n) (done_first program first last known (omega (arith, at.0, at.1)))
          ∙ (ap (λ (maps : List WholeMap). nth maps n) goes.last ∙ nth_tabulate (kept_map known.last) (length program.dynamic) n below));
    }

-- ---- its maps are whole, and of their operations' kinds

-- what holds behind n operations holds behind all, where the map of each is whole and one more keeps it
module _ (program : Program) (scene : Scene) (s : Span) (all : List Operation) (Holds : ℕ → Done → Type 0)
    (whole : (n : ℕ) (done : Done) (o : Operation) → Holds n done → slice_get all n ≡ Some o → IsMapOf (place_count scene) o.kind (operation_part program scene done o).cells)
    (next : (n : ℕ) (done : Done) (o : Operation) (m : WholeMap) → Holds n done → slice_get all n ≡ Some o → IsMapOf (place_count scene) o.kind m → Holds (n + 1) (with_map s done m)) where
  onward_holds : (n : ℕ) (done : Done) (os : List Operation) → Holds n done → AreFrom all n os → Holds (n + length os) (onward program scene s done os).done
  onward_holds n done [] holds from = let here : n ≡ n + 0 = omega arith in subst (λ (k : ℕ). Holds k done) here holds
  onward_holds n done (o ∷ more) holds from =
      let m = (operation_part program scene done o).cells in
      let on : n + 1 + length more ≡ n + suc (length more) = omega arith in
      subst (λ (k : ℕ). Holds k (onward program scene s (with_map s done m) more).done) on
      (onward_holds (n + 1) (with_map s done m) more (next n done o m holds from.0 (whole n done o holds from.0)) from.1)

-- what stands among the first operations of a list
taken_at : (os : List Operation) (end n : ℕ) (o : Operation) → slice_get (take end os) n ≡ Some o → (n < end) × (slice_get os n ≡ Some o)
taken_at [] zero n o is = absurd (cc)
taken_at [] (suc end) n o is = absurd (cc)
taken_at (p ∷ more) zero n o is = absurd (cc)
taken_at (p ∷ more) (suc end) zero o is = (omega arith, is)
taken_at (p ∷ more) (suc end) (suc n) o is = let rest = taken_at more end n o is in (omega (arith, rest.0), rest.1)

module _ (program : Program) (known : Known) (formed : IsWellFormed program) where
  abbrev places : ℕ
  places = known.rows * known.cols

  -- ---- a stage of `initial`

  module _ (first end : ℕ) (stage : IsInStage program first end) (knows : Knows program (span.Initial first end) known) where
    abbrev initial_scene : Scene
    initial_scene = scene_of program.inputs known 0

    initial_inputs : HasInputs program initial_scene
    initial_inputs = scene_inputs program known 0 knows.few knows.maps knows.tables knows.series

    abbrev HoldsFirst : ℕ → Done → Type 0
    HoldsFirst n done = (first ≤ n) × IsDoneFirst program places first n done

    stage_whole : (n : ℕ) (done : Done) (o : Operation) → HoldsFirst n done → slice_get (take end program.initial) n ≡ Some o → IsMapOf places o.kind (operation_part program initial_scene done o).cells
    stage_whole n done o all is =
        let at = taken_at program.initial end n o is in
        let here : 0 + n ≡ n = omega arith in
        let formed_o = subst (λ j. IsOperation program j o) here (operation_of program 0 n program.initial o formed.operations at.1) in
        map_whole program initial_scene done initial_inputs (IsReadFirst program n) (sound_first program initial_scene done first end n initial_inputs formed.operations stage all.0 at.0 all.1) o o.kept (read_first program n o at.1 formed_o)

    stage_next : (n : ℕ) (done : Done) (o : Operation) (m : WholeMap) → HoldsFirst n done → slice_get (take end program.initial) n ≡ Some o → IsMapOf places o.kind m → HoldsFirst (n + 1) (with_map (span.Initial first end) done m)
    stage_next n done o m all is whole = (omega (arith, all.0), one_more_first program places first n done o m all.1 (taken_at program.initial end n o is).1 whole)

    pub stage_done : IsDoneFirst program places first end (onward_done program (span.Initial first end) known 0)
    stage_done =
        let s = span.Initial first end in
        let os = slice_range program.initial first end in
        let all : HoldsFirst (first + length os) (onward_done program s known 0) =
        onward_holds program initial_scene s (take end program.initial) HoldsFirst stage_whole stage_next first (done_before program s known) os
        (omega arith, begun_first program first end known knows.outside) (stage_from program.initial first end stage.order) in
        subst (λ (n : ℕ). IsDoneFirst program places first n (onward_done program s known 0)) (stage_length program.initial first end stage.order stage.there) all.1

  -- ---- steps

  module _ (first last : ℕ) (steps : AreSteps program first last most_block) (knows : Knows program (span.Steps first last) known) where
    abbrev these : Span
    these = span.Steps first last

    inputs_at : (step : ℕ) → HasInputs program (scene_of program.inputs known step)
    inputs_at step = scene_inputs program known step knows.few knows.maps knows.tables knows.series

    module _ (step : ℕ) (from : first ≤ step) (to : step ≤ last) where
      abbrev now_scene : Scene
      now_scene = scene_of program.inputs known step

      step_whole : (n : ℕ) (done : Done) (o : Operation) → IsDoneNow program places step n done → slice_get program.dynamic n ≡ Some o → IsMapOf places o.kind (operation_part program now_scene done o).cells
      step_whole n done o all is =
          let within : n < length program.dynamic = slice_get_within program.dynamic n o is in
          let here : 0 + n ≡ n = omega arith in
          let formed_o = subst (λ j. IsStepOperation program j o) here (step_operation_of program 0 n program.dynamic o formed.step_operations is) in
          let stacks : HasStacksAt program now_scene = λ k input there role. knows.outside.stacks k step input there role from to in
          let sound = sound_now program now_scene done n (inputs_at step) stacks formed.operations formed.drains (omega (arith, steps.some, from)) (omega (arith, to, steps.there, formed.few_steps)) (omega arith) all in
          map_whole program now_scene done (inputs_at step) (IsReadNow program n) sound o o.kept (read_now program n o is formed_o)

      step_next : (n : ℕ) (done : Done) (o : Operation) (m : WholeMap) → IsDoneNow program places step n done → slice_get program.dynamic n ≡ Some o → IsMapOf places o.kind m → IsDoneNow program places step (n + 1) (with_map these done m)
      step_next n done o m all is whole = record { now = one_more_done program.dynamic places n done.dynamic o m all.now is whole; initial = all.initial; carried = all.carried; drains = all.drains }

      one_step : (done : Done) → IsDoneNow program places step 0 done → IsDoneNow program places step (0 + length program.dynamic) (onward program now_scene these done program.dynamic).done
      one_step done all =
          onward_holds program now_scene these program.dynamic (λ n d. IsDoneNow program places step n d) step_whole step_next 0 done program.dynamic all
          (from_list program.dynamic 0 program.dynamic (λ k. let same : 0 + k ≡ k = omega arith in ap (slice_get program.dynamic) same))

    -- behind a step the next one may be done
    next_begun : (step : ℕ) (after : Done) → IsDoneNow program places step (0 + length program.dynamic) after → IsDoneNow program places (step + 1) 0 (done_next after)
    next_begun step after all = record {
      now = none_done program.dynamic places;
      initial = all.initial;
      carried = λ behind k o is carried. all.now.each k o (let within : k < length program.dynamic = slice_get_within program.dynamic k o is in omega arith) is;
      drains = all.drains;
    }

    -- what is done before the first of them
    begun : IsDoneNow program places first 0 (done_before program these known)
    begun = record {
      now = none_done program.dynamic places;
      initial = λ k o is kept. subst (IsMapOf places o.kind) (sym (nth_tabulate (kept_map known.initial) (length program.initial) k (slice_get_within program.initial k o is))) (knows.outside.initial k o is kept);
      carried = λ behind k o is carried. subst (IsMapOf places o.kind) (sym (nth_tabulate (kept_map known.last) (length program.dynamic) k (slice_get_within program.dynamic k o is))) (knows.outside.carried behind k o is carried);
      drains = codes_known program (length program.initial) known knows.outside.drains;
    }

    from_first : (i : ℕ) → first + i ≤ last → IsDoneNow program places (first + i) (0 + length program.dynamic) (onward_done program these known (first + i))
    from_first zero few =
        let here : first ≡ first + 0 = omega arith in
        let now = one_step first (omega arith) (omega arith) (done_before program these known) begun in
        subst (λ (n : ℕ). IsDoneNow program places n (0 + length program.dynamic) (onward_done program these known n)) here
        (subst (IsDoneNow program places first (0 + length program.dynamic)) (sym (done_first program first last known (omega arith))) now)
    from_first (suc i) few =
        let on : first + i + 1 ≡ first + suc i = omega arith in
        let before = onward_done program these known (first + i) in
        let now = one_step (first + i + 1) (omega arith) (omega arith) (done_next before) (next_begun (first + i) before (from_first i (omega arith))) in
        subst (λ (n : ℕ). IsDoneNow program places n (0 + length program.dynamic) (onward_done program these known n)) on
        (subst (IsDoneNow program places (first + i + 1) (0 + length program.dynamic)) (sym (done_later program first last (first + i) known (omega arith) (omega arith))) now)

    pub steps_done : (step : ℕ) → first ≤ step → step ≤ last → IsDoneNow program places step (0 + length program.dynamic) (onward_done program these known step)
    steps_done step from to =
        let at : first + (step - first) ≡ step = omega (arith, from) in
        subst (λ (n : ℕ). IsDoneNow program places n (0 + length program.dynamic) (onward_done program these known n)) at (from_first (step - first) (omega (arith, from, to)))
