-- What a step gives to a runner that knows what is kept.
use Rattle.std.proofs.Common.{◌≡◌, ℕ, zero, suc, ◌+◌, ◌-◌, ◌*◌, ◌<◌, ◌≤◌, Bool, true, false, cond, List, [], ◌∷◌, ◌++◌, length, refl, sym, ap, subst, ◌∙◌, Ok, Err, Result, arith, append-nil}
use Rattle.std.specs.Prelude.{◌==◌, ◌&&◌, Some, slice_get}
use Rattle.std.proofs.lemmas.Bool.{eq-eqb, ne_eqb, or_left}
use Rattle.std.proofs.lemmas.Bool.Decides.{nat_tests}
use Rattle.std.proofs.lemmas.List.{get_or_append_left, get_or_push}
use Rattle.std.proofs.lemmas.Option.{slice_get_within}
use Rattle.text_base.specs.Results.{◌>>=◌}
use Rattle.map_meaning.specs.declared.known.Known.{Known}
use Rattle.map_meaning.specs.declared.known.OverAt.{OverAt}
use Rattle.map_meaning.specs.declared.known.Span.TheVariants as span
use Rattle.map_meaning.specs.declared.known.StageEnd.{StageEnd}
use Rattle.map_meaning.specs.declared.known.StepMap.{StepMap}
use Rattle.map_meaning.specs.declared.program.InputUse.{InputUse}
use Rattle.map_meaning.specs.declared.program.Operation.{Operation}
use Rattle.map_meaning.specs.declared.program.Program.{Program}
use Rattle.map_meaning.specs.declared.program.Role.TheVariants.{Stack}
use Rattle.map_meaning.specs.Evaluation.{Done, operation_part, operation_values, nothing_done, staged_values}
use Rattle.map_meaning.specs.Maps.{IsMapOf, WholeMap, nth}
use Rattle.map_meaning.specs.Programs.{IsOperation, IsStepOperation, IsWellFormed, is_carried, is_initial, is_read_in_steps, is_stack_role}
use Rattle.map_meaning.specs.Scenes.{map_at_step}
use Rattle.map_meaning.specs.Spans.{HasDrains, HasStacks, Knows, done_before, done_next, kept_map, kept_maps, scene_of, stage_of, step_span, told_steps, told_then, whole_span}
use Rattle.map_meaning.proofs.Tabulated.{nth_tabulate}
use Rattle.map_meaning.proofs.WholeMaps.{AreFrom, HasCodes, HasInputs, HasStacksAt, IsDoneNow, IsReadNow, codes_known, from_list, map_whole, none_done, one_more_done, operation_of, read_now, scene_inputs, sound_now, step_operation_of, there, values_hold}
use Rattle.script_types.specs.Values.{Scenes, done_steps}
use Rattle.run_session.specs.declared.inputs.Inputs.{Inputs}
use Rattle.run_session.specs.declared.samples.Sample.{Sample}
use Rattle.run_session.specs.declared.stacks.StackUse.{StackUse}
use Rattle.run_session.specs.declared.stages.StageMaps.{StageMaps}
use Rattle.run_session.specs.Ends.{ScriptEnd, Overflow}
use Rattle.run_session.specs.Evaluation.{grids_at, known_of, scenes_over}
use Rattle.run_session.specs.Steps.{Standing, stacks_among}
use Rattle.run_session.specs.inside.Parts.{AreInputsOf}
use Rattle.run_session.specs.inside.Running.{AreWhole, IsStanding}
use Rattle.run_session.specs.inside.Standings.{AreGridsOf, AscendFrom, IsGridOf, IsOrdered, known_at, stage_result}
use Rattle.run_session.proofs.DrainLists.{drain_known}
use Rattle.run_session.proofs.KeptMaps.{kept_read}
use Rattle.run_session.proofs.Search.{are_ascending, kept_ascend}
use Rattle.run_session.proofs.StepValues.{AgreeOn, SameDone, kept_is, values_agree, values_drains, values_last, values_leave}

-- ---- steps look at the scenes up to theirs alone

-- what is done after so many steps is the same where the scenes up to the last of them are
pub done_by : (program : Program) (a b : Scenes) (n : ℕ) → ((k : ℕ) → k ≤ n → a k ≡ b k) → done_steps program a n ≡ done_steps program b n
done_by program a b zero same = ap (λ scene. staged_values program scene (whole_span program) nothing_done program.drains program.initial) (same 0 (omega arith))
done_by program a b (suc n) same =
    ap (λ r. r >>= λ done. operation_values program (a (suc n)) (step_span (suc n)) (done_next done) program.dynamic) (done_by program a b n (λ k below. same k (omega (arith, below)))) ∙
    ap (λ scene. done_steps program b n >>= λ done. operation_values program scene (step_span (suc n)) (done_next done) program.dynamic) (same (suc n) (omega arith))

-- the grids of the steps before stay
pub grids_front : (grids : List (List StepMap)) (g : List StepMap) (k : ℕ) → k ≤ length grids → grids_at (grids ++ g ∷ []) k ≡ grids_at grids k
grids_front grids g zero below = refl
grids_front grids g (suc k) below = get_or_append_left grids (g ∷ []) [] k (omega (arith, below))

-- those of one more step stand behind them
pub grids_last : (grids : List (List StepMap)) (g : List StepMap) (step n : ℕ) → step ≡ suc n → length grids ≡ n → grids_at (grids ++ g ∷ []) step ≡ g
grids_last grids g step n e count = ap (grids_at (grids ++ g ∷ [])) e ∙ get_or_push grids g [] n count

-- what is done stays where the grids of one more step are read
pub done_front : (program : Program) (inputs : Inputs) (grids : List (List StepMap)) (g : List StepMap) (n : ℕ) → n ≤ length grids →
    done_steps program (scenes_over program.inputs inputs (grids ++ g ∷ [])) n ≡ done_steps program (scenes_over program.inputs inputs grids) n
done_front program inputs grids g n below =
    done_by program (scenes_over program.inputs inputs (grids ++ g ∷ [])) (scenes_over program.inputs inputs grids) n
    (λ k less. ap (λ gs. scene_of program.inputs (known_of inputs gs) k) (grids_front grids g k (omega (arith, less, below))))

-- ---- the grids of stacks

module _ (places step : ℕ) where
  -- grids that ascend from a later number on do so from an earlier one on
  ascend_later : (k : ℕ) (grids : List StepMap) → AscendFrom (k + 1) grids → AscendFrom k grids
  ascend_later k [] up = tt
  ascend_later k (g ∷ grids) up = (omega (arith, up.0), up.1)

  -- the grids of stacks stand by ascending inputs
  grids_from : (k : ℕ) (inputs : List InputUse) (grids : List StepMap) → AreGridsOf places step (stacks_among k inputs) grids → AscendFrom k grids
  grids_from k [] [] all = tt
  grids_from k [] (g ∷ grids) all = absurd all
  grids_from k (input ∷ inputs) grids all = by (is_stack_role input.role) grids all (λ grids all. grids_from (k + 1) inputs grids all)
    where
      by : (b : Bool) (grids : List StepMap) → AreGridsOf places step (cond b (record { input = k; prefix = input.file; kind = input.kind } ∷ stacks_among (k + 1) inputs) (stacks_among (k + 1) inputs)) grids →
          ((grids : List StepMap) → AreGridsOf places step (stacks_among (k + 1) inputs) grids → AscendFrom (k + 1) grids) → AscendFrom k grids
      by true [] all later = absurd all
      by true (g ∷ grids) all later =
          let is : g.operation ≡ k = all.0.input in
          let e : k + 1 ≡ g.operation + 1 = omega (arith, is) in
          (omega (arith, is), subst (λ m. AscendFrom m grids) e (later grids all.1))
      by false grids all later = ascend_later k grids (later grids all)

  -- the grid of a stack is there
  stack_at : (k : ℕ) (inputs : List InputUse) (grids : List StepMap) (n : ℕ) (input : InputUse) → slice_get inputs n ≡ Some input → input.role ≡ Stack →
      AreGridsOf places step (stacks_among k inputs) grids → IsMapOf places input.kind (map_at_step grids step (k + n))
  stack_at k [] grids n input is role all = absurd (cc)
  stack_at k (x ∷ inputs) grids zero input is role all =
      let same : x ≡ input = cc in
      let stack : is_stack_role x.role ≡ true = ap (λ (i : InputUse). is_stack_role i.role) same ∙ ap is_stack_role role in
      subst (λ (i : InputUse). IsMapOf places i.kind (map_at_step grids step (k + 0))) same (by (is_stack_role x.role) stack grids all)
    where
      here : (g : StepMap) (rest : List StepMap) → IsGridOf places step (record { input = k; prefix = x.file; kind = x.kind }) g → IsMapOf places x.kind (map_at_step (g ∷ rest) step (k + 0))
      here g rest one =
          let first : (g.step == step) ≡ true = eq-eqb g.step step one.step_is in
          let e : g.operation ≡ k + 0 = one.input ∙ omega arith in
          let second : (g.operation == (k + 0)) ≡ true = eq-eqb g.operation (k + 0) e in
          let cells : map_at_step (g ∷ rest) step (k + 0) ≡ g.cells =
          ap (λ b. cond (b && (g.operation == (k + 0))) g.cells (map_at_step rest step (k + 0))) first ∙ ap (λ b. cond b g.cells (map_at_step rest step (k + 0))) second in
          subst (IsMapOf places x.kind) (sym cells) one.cells

      by : (b : Bool) → b ≡ true → (grids : List StepMap) → AreGridsOf places step (cond b (record { input = k; prefix = x.file; kind = x.kind } ∷ stacks_among (k + 1) inputs) (stacks_among (k + 1) inputs)) grids →
          IsMapOf places x.kind (map_at_step grids step (k + 0))
      by true on [] all = absurd all
      by true on (g ∷ grids) all = here g grids all.0
      by false on grids all = absurd (cc)
  stack_at k (x ∷ inputs) grids (suc n) input is role all =
      by (is_stack_role x.role) grids all (λ grids all. let e : k + 1 + n ≡ k + suc n = omega arith in subst (λ m. IsMapOf places input.kind (map_at_step grids step m)) e (stack_at (k + 1) inputs grids n input is role all))
    where
      skip : (g : StepMap) (rest : List StepMap) → g.operation ≡ k → IsMapOf places input.kind (map_at_step rest step (k + suc n)) → IsMapOf places input.kind (map_at_step (g ∷ rest) step (k + suc n))
      skip g rest at later =
          let second : (g.operation == (k + suc n)) ≡ false = ne_eqb g.operation (k + suc n) (λ e. omega (arith, e, at)) in
          let cells : map_at_step (g ∷ rest) step (k + suc n) ≡ map_at_step rest step (k + suc n) = passed (g.step == step) g rest second in
          subst (IsMapOf places input.kind) (sym cells) later
        where
          passed : (b : Bool) (g : StepMap) (rest : List StepMap) → (g.operation == (k + suc n)) ≡ false → cond (b && (g.operation == (k + suc n))) g.cells (map_at_step rest step (k + suc n)) ≡ map_at_step rest step (k + suc n)
          passed true g rest other = ap (λ c. cond c g.cells (map_at_step rest step (k + suc n))) other
          passed false g rest other = refl

      by : (b : Bool) (grids : List StepMap) → AreGridsOf places step (cond b (record { input = k; prefix = x.file; kind = x.kind } ∷ stacks_among (k + 1) inputs) (stacks_among (k + 1) inputs)) grids →
          ((grids : List StepMap) → AreGridsOf places step (stacks_among (k + 1) inputs) grids → IsMapOf places input.kind (map_at_step grids step (k + suc n))) → IsMapOf places input.kind (map_at_step grids step (k + suc n))
      by true [] all later = absurd all
      by true (g ∷ grids) all later = skip g grids all.0.input (later grids all.1)
      by false grids all later = later grids all

  -- the grid at the step is the one with the number
  pub at_is_kept : (stacks : List StackUse) (grids : List StepMap) (n : ℕ) → AreGridsOf places step stacks grids → map_at_step grids step n ≡ kept_map grids n
  at_is_kept [] [] n all = refl
  at_is_kept [] (g ∷ grids) n all = absurd all
  at_is_kept (s ∷ stacks) [] n all = absurd all
  at_is_kept (s ∷ stacks) (g ∷ grids) n all =
      ap (λ b. cond (b && (g.operation == n)) g.cells (map_at_step grids step n)) (eq-eqb g.step step all.0.step_is) ∙
      ap (λ m. cond (g.operation == n) g.cells m) (at_is_kept stacks grids n all.1)

  -- the grids of a step are there
  pub grids_there : (inputs : List InputUse) (grids : List StepMap) → AreGridsOf places step (stacks_among 0 inputs) grids → HasStacks places inputs step step grids
  grids_there inputs grids all n other input is role from to =
      let same : step ≡ other = omega (arith, from, to) in
      let e : 0 + n ≡ n = omega arith in
      subst (λ k. IsMapOf places input.kind (map_at_step grids k n)) same (subst (λ k. IsMapOf places input.kind (map_at_step grids step k)) e (stack_at 0 inputs grids n input is role all))

  -- the grids of a step ascend
  pub grids_ascend : (inputs : List InputUse) (grids : List StepMap) → AreGridsOf places step (stacks_among 0 inputs) grids → AscendFrom 0 grids
  grids_ascend inputs grids all = grids_from 0 inputs grids all

-- ---- what a step gives

-- what is told of a step, as a part of the run
abbrev pub kept_result : Program → ℕ → Result Done OverAt → Result (List StepMap) ScriptEnd
kept_result program step (Ok done) = Ok (kept_maps step done.dynamic 0 program.dynamic)
kept_result program step (Err at) = Err (Overflow at)

module _ (program : Program) (formed : IsWellFormed program) (inputs : Inputs) (are : AreInputsOf program.inputs inputs)
    (step n : ℕ) (e : step ≡ suc n) (some : 1 ≤ step) (there_is : step ≤ program.steps) (s : Standing) (left : StageMaps) (last : List StepMap) (samples : List Sample) (is : IsStanding program inputs n s left last samples)
    (g : List StepMap) (grids : AreGridsOf (inputs.frame.rows * inputs.frame.cols) step (stacks_among 0 program.inputs) g) where
  abbrev places : ℕ
  places = inputs.frame.rows * inputs.frame.cols

  abbrev all_grids : List (List StepMap)
  all_grids = s.grids ++ g ∷ []

  abbrev scenes : Scenes
  scenes = scenes_over program.inputs inputs all_grids

  abbrev known : Known
  known = known_at inputs left g last

  abbrev values : Result Done OverAt
  values = operation_values program (scenes step) (step_span step) (done_next is.done) program.dynamic

  -- the scene of the step is what the runner knows
  scene_same : scene_of program.inputs known step ≡ scenes step
  scene_same = ap (λ gs. scene_of program.inputs (known_of inputs gs) step) (sym (grids_last s.grids g step n e is.count))

  -- what is done after the step begins with what was done before it
  pub done_step : done_steps program scenes step ≡ values
  done_step =
      let before : done_steps program scenes n ≡ Ok is.done = done_front program inputs s.grids g n (let c : length s.grids ≡ n = is.count in omega (arith, c)) ∙ is.is_done in
      let P : ℕ → Type 0 = λ k. done_steps program scenes k ≡ operation_values program (scenes k) (step_span k) (done_next is.done) program.dynamic in
      subst P (sym e) (ap (λ r. r >>= λ done. operation_values program (scenes (suc n)) (step_span (suc n)) (done_next done) program.dynamic) before)

  -- an operation of `initial` that is kept has its map among the kept ones
  initial_kept : (k : ℕ) (o : Operation) → slice_get program.initial k ≡ Some o → o.kept ≡ true → kept_map left.kept k ≡ nth is.start.initial k
  initial_kept k o here kept = ap (λ maps. kept_map maps k) is.first.kept ∙ kept_is 0 is.start.initial program.initial k o here kept

  -- so has one of `dynamic`, of the step before
  last_kept : (k : ℕ) (o : Operation) → 0 < n → slice_get program.dynamic k ≡ Some o → o.kept ≡ true → kept_map last k ≡ nth is.done.dynamic k
  last_kept k o behind here kept = ap (λ maps. kept_map maps k) (is.last_is behind) ∙ kept_is n is.done.dynamic program.dynamic k o here kept

  -- an operation of `initial` that steps read is kept
  read_is_kept : (k : ℕ) (o : Operation) → slice_get program.initial k ≡ Some o → is_read_in_steps program (is_initial k) ≡ true → o.kept ≡ true
  read_is_kept k o here read =
      let at : 0 + k ≡ k = omega arith in
      let op : IsOperation program k o = subst (λ j. IsOperation program j o) at (operation_of program 0 k program.initial o formed.operations here) in
      op.kept ∙ kept_read program k read

  -- an operation of `dynamic` that the next step reads is kept
  carried_is_kept : (k : ℕ) (o : Operation) → slice_get program.dynamic k ≡ Some o → is_carried program k ≡ true → o.kept ≡ true
  carried_is_kept k o here carried =
      let at : 0 + k ≡ k = omega arith in
      let op : IsStepOperation program k o = subst (λ j. IsStepOperation program j o) at (step_operation_of program 0 k program.dynamic o formed.step_operations here) in
      op.kept ∙ or_left (is_carried program k) _ carried

  -- what the runner knows agrees with what is done
  agree : AgreeOn program (scenes step) (done_before program (span.Steps step step) known) (done_next is.done)
  agree = record {
    now = refl;
    drains = is.first.codes ∙ sym is.same_drains;
    initial = λ k below read.
        let here = there program.initial k below in
        nth_tabulate (kept_map left.kept) (length program.initial) k below ∙ (initial_kept k here.0 here.1 (read_is_kept k here.0 here.1 read) ∙ ap (λ maps. nth maps k) (sym is.same_start));
    last = λ other k below carried.
        let here = there program.dynamic k below in
        let behind : 0 < n = let h : (step == 1) ≡ false = other in grind (arith, nat_tests, h, e) in
        nth_tabulate (kept_map last) (length program.dynamic) k below ∙ last_kept k here.0 behind here.1 (carried_is_kept k here.0 here.1 carried);
  }

  -- the operations of the section
  all_from : AreFrom program.dynamic 0 program.dynamic
  all_from = from_list program.dynamic 0 program.dynamic (λ k. let at : 0 + k ≡ k = omega arith in ap (slice_get program.dynamic) at)

  -- what is told of the step
  abbrev told : Result Done OverAt → StageEnd
  told r = told_then program (span.Steps step step) step r (λ after. told_steps program (span.Steps step step) known (done_next after) (step + 1) 0)

  told_same : (r v : Result Done OverAt) → SameDone program (scenes step) r v → stage_result (told r) ≡ kept_result program step v
  told_same (Ok x) (Ok y) same =
      let P : List StepMap → Result (List StepMap) ScriptEnd = λ maps. Ok maps in
      ap P (append-nil (kept_maps step x.dynamic 0 program.dynamic) ∙ ap (λ maps. kept_maps step maps 0 program.dynamic) same.now)
  told_same (Ok x) (Err at) same = absurd same
  told_same (Err at) (Ok y) same = absurd same
  told_same (Err a) (Err b) same = let P : OverAt → Result (List StepMap) ScriptEnd = λ at. Err (Overflow at) in ap P same

  -- what the runner gives
  pub step_gives : stage_result (stage_of program (span.Steps step step) known) ≡ kept_result program step (done_steps program scenes step)
  unfolding stage_of
  step_gives =
      let count : step + 1 - step ≡ 1 = omega arith in
      let before = done_before program (span.Steps step step) known in
      ap (λ k. stage_result (told_steps program (span.Steps step step) known before step k)) count
      ∙ (ap (λ scene. stage_result (told (operation_values program scene (span.Steps step step) before program.dynamic))) scene_same
      ∙ (told_same (operation_values program (scenes step) (span.Steps step step) before program.dynamic) values
      (values_agree program formed (scenes step) step step program.dynamic 0 before (done_next is.done) all_from agree)
      ∙ ap (kept_result program step) (sym done_step)))

  initial_ascends : AscendFrom 0 left.kept
  initial_ascends = subst (AscendFrom 0) (sym is.first.kept) (kept_ascend 0 is.start.initial 0 program.initial)

  last_ascends : AscendFrom 0 last
  last_ascends = by n refl
    where
      by : (k : ℕ) → n ≡ k → AscendFrom 0 last
      by zero none = subst (AscendFrom 0) (sym (is.none none)) tt
      by (suc k) more = subst (AscendFrom 0) (sym (is.last_is (omega (arith, more)))) (kept_ascend n is.done.dynamic 0 program.dynamic)

  -- what is known stands in order
  pub known_ordered : IsOrdered known
  known_ordered = record { stacks = grids_ascend places step program.inputs g grids; initial = initial_ascends; last = last_ascends }

  -- all drain maps are known
  drains_known : HasDrains program (length program.initial) known
  drains_known k d here due =
      drain_known inputs.frame left.drains k is.first.sound (let c : length left.drains ≡ length program.drains = is.first.count in let b : k < length program.drains = slice_get_within program.drains k d here in omega (arith, b, c))

  -- what the runner is to know is known
  pub step_knows : Knows program (step_span step) known
  step_knows = record {
    some_rows = are.size.some_rows;
    some_cols = are.size.some_cols;
    few = are.size.few;
    maps = are.maps;
    tables = are.tables;
    series = are.series;
    outside = record {
      drains = drains_known;
      initial = λ k o here kept. subst (IsMapOf places o.kind) (sym (initial_kept k o here kept)) (is.first.whole k o here);
      order = are_ascending left.kept initial_ascends;
      carried = λ behind k o here carried.
          let later : 0 < n = omega (arith, behind, e) in
          subst (IsMapOf places o.kind) (sym (last_kept k o later here (carried_is_kept k o here carried))) (is.whole later k o here);
      carried_order = are_ascending last last_ascends;
      stacks = grids_there places step program.inputs g grids;
    };
  }

  -- the inputs and the grids of the step
  inputs_here : HasInputs program (scenes step)
  inputs_here = scene_inputs program (known_of inputs (grids_at all_grids step)) step are.size.few are.maps are.tables are.series

  stacks_here : HasStacksAt program (scenes step)
  stacks_here k input here role =
      subst (λ gs. IsMapOf places input.kind (map_at_step gs step k)) (sym (grids_last s.grids g step n e is.count)) (grids_there places step program.inputs g grids k step input here role (omega arith) (omega arith))

  -- what holds behind some operations of the step
  abbrev HoldsNow : ℕ → Done → Type 0
  HoldsNow m done = IsDoneNow program places step m done

  map_here : (m : ℕ) (done : Done) (o : Operation) → HoldsNow m done → slice_get program.dynamic m ≡ Some o → IsMapOf places o.kind (operation_part program (scenes step) done o).cells
  map_here m done o all here =
      let within : m < length program.dynamic = slice_get_within program.dynamic m o here in
      let at : 0 + m ≡ m = omega arith in
      let formed_o = subst (λ j. IsStepOperation program j o) at (step_operation_of program 0 m program.dynamic o formed.step_operations here) in
      let sound = sound_now program (scenes step) done m inputs_here stacks_here formed.operations formed.drains some (omega (arith, there_is, formed.few_steps)) (omega (arith, within)) all in
      map_whole program (scenes step) done inputs_here (IsReadNow program m) sound o o.kept (read_now program m o here formed_o)

  map_next : (m : ℕ) (done : Done) (o : Operation) (cells : WholeMap) → HoldsNow m done → slice_get program.dynamic m ≡ Some o → IsMapOf places o.kind cells → HoldsNow (m + 1) (record { initial = done.initial; dynamic = done.dynamic ++ cells ∷ []; last = done.last; drains = done.drains })
  map_next m done o cells all here whole = record { now = one_more_done program.dynamic places m done.dynamic o cells all.now here whole; initial = all.initial; carried = all.carried; drains = all.drains }

  -- the maps of the step are whole
  pub step_whole : (y : Done) → done_steps program scenes step ≡ Ok y → AreWhole places program.dynamic y.dynamic
  step_whole y done k o here =
      let begun : HoldsNow 0 (done_next is.done) = record {
        now = none_done program.dynamic places;
        initial = λ j p at kept. subst (λ maps. IsMapOf places p.kind (nth maps j)) (sym is.same_start) (is.first.whole j p at);
        carried = λ behind j p at carried. is.whole (omega (arith, behind, e)) j p at;
        drains = subst (HasCodes program places (length program.initial)) (is.first.codes ∙ sym is.same_drains) (codes_known program (length program.initial) known drains_known);
      } in
      let all = values_hold program (scenes step) (step_span step) program.dynamic HoldsNow map_here map_next 0 (done_next is.done) y program.dynamic begun all_from (sym done_step ∙ done) in
      all.now.each k o (let within : k < length program.dynamic = slice_get_within program.dynamic k o here in omega (arith, within)) here

  -- the maps of `initial` stay
  pub step_start : (y : Done) → done_steps program scenes step ≡ Ok y → y.initial ≡ is.start.initial
  step_start y done = values_leave program formed (scenes step) step step program.dynamic (done_next is.done) y (sym done_step ∙ done) ∙ is.same_start

  -- so do the drain maps
  pub step_drains : (y : Done) → done_steps program scenes step ≡ Ok y → y.drains ≡ is.start.drains
  step_drains y done = values_drains program formed (scenes step) step step program.dynamic (done_next is.done) y (sym done_step ∙ done) ∙ is.same_drains

  -- those of the step before are the last ones
  pub step_last : (y : Done) → done_steps program scenes step ≡ Ok y → y.last ≡ is.done.dynamic
  step_last y done = values_last program formed (scenes step) step step program.dynamic (done_next is.done) y (sym done_step ∙ done)
