-- The operations of a span: what they read is known, and has cells of its kind.
use Rattle.std.proofs.Common.{◌≡◌, ℕ, ◌+◌, ◌*◌, ◌<◌, ◌≤◌, ◌&&◌, ◌⊎◌, Bool, true, false, cond, length, refl, sym, ap, subst, ◌∙◌, inl, inr, arith}
use Rattle.std.specs.Prelude.{◌==◌, IfSome, Option, Some, nat_lt, option_map, slice_get}
use Rattle.std.proofs.lemmas.Bool.{cases_lt, eq-eqb, lt-ltb}
use Rattle.std.proofs.lemmas.Option.{get_or_from_slice_get, slice_get_within}
use Rattle.tile_map.specs.Cuts.{cell_at}
use Rattle.map_meaning.specs.Evaluation.{Done}
use Rattle.map_meaning.specs.Limits.{most_block}
use Rattle.map_meaning.specs.Maps.{IsMapOf, nth}
use Rattle.map_meaning.specs.Programs.{AreOneName, IsDrainUse, IsDueBy, IsOperation, IsOperationOf, IsStepOperation, IsWellFormed, is_carried, is_initial, is_last, is_mask, is_read_in_steps, is_read_later, is_written, stage_begin}
use Rattle.map_meaning.specs.Scenes.{Scene, map_at_step}
use Rattle.map_meaning.specs.Spans.{AreSteps, IsInStage, IsSpan, Knows, kept_map, scene_of}
use Rattle.map_meaning.specs.Table.{goes_along_drains}
use Rattle.map_meaning.specs.declared.known.Known.{Known}
use Rattle.map_meaning.specs.declared.known.Span.{Span}
use Rattle.map_meaning.specs.declared.known.Span.TheVariants as span
use Rattle.map_meaning.specs.declared.program.DrainUse.{DrainUse}
use Rattle.map_meaning.specs.declared.program.InputUse.{InputUse}
use Rattle.map_meaning.specs.declared.program.Operand.{Operand}
use Rattle.map_meaning.specs.declared.program.Operand.TheVariants.{Unused, Literal, Time, Input, Initial, Now, Last, Drain}
use Rattle.map_meaning.specs.declared.program.Operand.TheVariants as from
use Rattle.map_meaning.specs.declared.program.Operation.{Operation}
use Rattle.map_meaning.specs.declared.program.Program.{Program}
use Rattle.map_meaning.specs.declared.program.Role.TheVariants.{Stack}
use Rattle.map_meaning.proofs.WholeMaps.{IsDoneNow, IsReadFirst, IsReadNow, drain_use_of, input_there, operation_of, read_first, read_now, step_operation_of, there}
use Rattle.span_operands.specs.Made.{IsKnown}
use Rattle.span_operands.specs.inside.Held.{HasDrainMap, HasItsCells, HasSoundOperands, IsOneOf}
use Rattle.span_operands.proofs.KnownLemmas.{begins_later, both, drain_cells, grid_cells, grid_there, kept_as, kept_by_stages, kept_by_steps, kept_there, literal_cells, map_cells, one_of, time_cells, unused_cells}
use Rattle.task_tiles.specs.TaskTiles.{onward_done, span_section}
use Rattle.task_tiles.proofs.Callers.{IsAmong, IsStepOf}
use Rattle.tile_tasks.proofs.DoneKnown.{agrees, stage_done, steps_done}

-- the kind of the operation with this number
named : (xs : Option Operation) (o : Operation) → xs ≡ Some o → option_map (λ (o : Operation). o.kind) xs ≡ Some o.kind
named xs o is = ap (option_map (λ (o : Operation). o.kind)) is

-- ---- a stage of `initial`

module _ (program : Program) (first end : ℕ) (known : Known) (formed : IsWellFormed program) (knows : Knows program (span.Initial first end) known) (is : IsInStage program first end) (n : ℕ) (from_first : first ≤ n) (to : n < end) where
  abbrev stage : Span
  stage = span.Initial first end

  abbrev first_done : Done
  first_done = onward_done program stage known 0

  abbrev first_scene : Scene
  first_scene = scene_of program.inputs known 0

  -- an operation of an earlier stage that is read is kept
  earlier_kept : (k : ℕ) (o : Operation) → slice_get program.initial k ≡ Some o → IsReadFirst program n (Initial k) → k < first → (o.kept && nat_lt k first) ≡ true
  earlier_kept k o here read before =
      let begins : first ≡ stage_begin program.drains first = is.begins in
      let later = read.later k (eq-eqb k k refl) (omega (arith, begins, begins_later program.drains first n from_first)) in
      both o.kept (nat_lt k first)
      (kept_as program stage known formed knows k o here ∙ kept_by_stages (is_read_in_steps program (is_initial k)) (is_written program k) (is_mask program k) (is_read_later program k) later)
      (lt-ltb k first before)

  -- a drain map that is due is computed before the stage
  due_before : (k : ℕ) (d : DrainUse) → slice_get program.drains k ≡ Some d → IsDueBy program n k → d.after ≤ first
  due_before k d here due =
      by_case (subst (λ (x : DrainUse). (x.after ≤ first) ⊎ (end ≤ x.after)) (get_or_from_slice_get program.drains k d d here) (is.whole k d (slice_get_within program.drains k d here)))
    where
      after : d.after ≤ n
      after = let P : Option DrainUse → Type 0 = λ found. IfSome found (λ d. d.after ≤ n) in subst P here due.after

      by_case : (d.after ≤ first) ⊎ (end ≤ d.after) → d.after ≤ first
      by_case (inl before) = before
      by_case (inr behind) = absurd (let a = after in omega (arith, a, behind, to))

  -- an operand is known, and has its cells
  abbrev ReadFirst : Operand → Type 0
  ReadFirst operand = IsKnown program stage known 0 operand × HasItsCells program first_scene first_done operand

  -- the map of an operation of `initial`
  map_read : (k : ℕ) (o : Operation) → slice_get program.initial k ≡ Some o → IsReadFirst program n (Initial k) → ReadFirst (Initial k)
  map_read k o here read = elim (cases_lt k first) as (λ x. ReadFirst (Initial k)) [
    | inl before ↦
        let whole = knows.outside.initial k o here (earlier_kept k o here read before) in
        let same = (agrees program stage known 0 refl).initial k (lt-ltb k first before) in (
          (refl, λ less. kept_there program stage known formed knows known.initial first k o.kind less whole knows.outside.order),
          map_cells program first_scene first_done (Initial k) (kept_map known.initial k) o.kind (named (slice_get program.initial k) o here) (ap cell_at same) whole,
        )
    | inr behind ↦
        let below : k < n = read.below in
        let whole = (stage_done program known formed first end is knows).each k o (omega (arith, below, to)) here (inl behind) in (
          (refl, λ less. absurd (omega (arith, less, behind))),
          map_cells program first_scene first_done (Initial k) (nth first_done.initial k) o.kind (named (slice_get program.initial k) o here) refl whole,
        )
  ]

  initial_read : (operand : Operand) → IsReadFirst program n operand → ReadFirst operand
  initial_read Unused read = ((refl, tt), unused_cells program first_scene first_done)
  initial_read (Literal kind cell) read = ((refl, tt), literal_cells program first_scene first_done kind cell read.below)
  initial_read Time read = absurd read.below
  initial_read (Input k) read = ((refl, grid_there program stage known formed knows k read.below), grid_cells program stage known formed knows 0 first_done k read.below)
  initial_read (from.Stack k) read = absurd read.below
  initial_read (Initial k) read =
      let here = there program.initial k (let below : k < n = read.below in let all = is.there in omega arith) in map_read k here.0 here.1 read
  initial_read (Now k) read = absurd read.below
  initial_read (Last k i) read = absurd read.below
  initial_read (Drain k) read =
      let here = there program.drains k read.below.within in
      let due = due_before k here.0 here.1 read.below in
      ((refl, knows.outside.drains k here.0 here.1 due), drain_cells program stage known formed knows 0 first_done k first here.0 (agrees program stage known 0 refl).drains here.1 due knows.outside.drains)

-- ---- steps

module _ (program : Program) (first last : ℕ) (known : Known) (formed : IsWellFormed program) (knows : Knows program (span.Steps first last) known) (is : AreSteps program first last most_block) (step : ℕ) (from_first : first ≤ step) (to : step ≤ last) (n : ℕ) (few : n ≤ length program.dynamic) where
  abbrev steps : Span
  steps = span.Steps first last

  abbrev now_done : Done
  now_done = onward_done program steps known step

  abbrev now_scene : Scene
  now_scene = scene_of program.inputs known step

  has : IsDoneNow program (known.rows * known.cols) step (0 + length program.dynamic) now_done
  has = steps_done program known formed first last is knows step from_first to

  -- an operand is known, and has its cells
  abbrev ReadNow : Operand → Type 0
  ReadNow operand = IsKnown program steps known step operand × HasItsCells program now_scene now_done operand

  -- an operation of `initial` that steps read is kept
  initial_kept : (k : ℕ) (o : Operation) → slice_get program.initial k ≡ Some o → is_read_in_steps program (is_initial k) ≡ true → o.kept ≡ true
  initial_kept k o here read = kept_as program steps known formed knows k o here ∙ kept_by_steps (is_read_in_steps program (is_initial k)) (is_written program k) (is_mask program k) (is_read_later program k) read

  -- the map of a name at the step before
  last_read : (d i : ℕ) (p o : Operation) → slice_get program.dynamic d ≡ Some p → slice_get program.initial i ≡ Some o → AreOneName program d i → is_read_in_steps program (is_initial i) ≡ true → is_carried program d ≡ true → ReadNow (Last d i)
  last_read d i p o here begun names read carried = (
    λ same. record {
      begun = λ one. kept_there program steps known formed knows known.initial (length program.initial) i o.kind names.of_initial (knows.outside.initial i o begun (initial_kept i o begun read)) knows.outside.order;
      carried = λ later. kept_there program steps known formed knows known.last (length program.dynamic) d p.kind names.of_dynamic (knows.outside.carried (let behind = later_step later in omega (arith, behind, same)) d p here carried) knows.outside.carried_order;
    },
    map_cells program now_scene now_done (Last d i) (cond (step == 1) (nth now_done.initial i) (nth now_done.last d)) p.kind (named (slice_get program.dynamic d) p here) refl (by_step (step == 1) refl),
  )
    where
      later_step : (step == 1) ≡ false → 1 < step
      later_step later = let some = is.some in grind (arith, later, some, from_first)

      same_kind : o.kind ≡ p.kind
      same_kind = let two : Some o.kind ≡ Some p.kind = sym (named (slice_get program.initial i) o begun) ∙ (sym names.kind ∙ named (slice_get program.dynamic d) p here) in cc

      by_step : (b : Bool) → (step == 1) ≡ b → IsMapOf (known.rows * known.cols) p.kind (cond b (nth now_done.initial i) (nth now_done.last d))
      by_step true one = subst (λ k. IsMapOf (known.rows * known.cols) k (nth now_done.initial i)) same_kind (has.initial i o begun (initial_kept i o begun read))
      by_step false later = has.carried (later_step later) d p here carried

  step_read : (operand : Operand) → IsReadNow program n operand → ReadNow operand
  step_read Unused read = (tt, unused_cells program now_scene now_done)
  step_read (Literal kind cell) read = (tt, literal_cells program now_scene now_done kind cell read.below)
  step_read Time read = (tt, time_cells program now_scene now_done (let b = is.there in let c = formed.few_steps in omega arith))
  step_read (Input k) read = (grid_there program steps known formed knows k read.below, grid_cells program steps known formed knows step now_done k read.below)
  step_read (from.Stack k) read =
      let found = input_there program Stack k read.below in
      let whole = knows.outside.stacks k step found.0 found.1 found.2 from_first to in
      (whole.count, map_cells program now_scene now_done (from.Stack k) (map_at_step known.stacks step k) found.0.kind (ap (option_map (λ (i : InputUse). i.kind)) found.1) refl whole)
  step_read (Initial k) read =
      let here = there program.initial k read.below in
      let kept = initial_kept k here.0 here.1 (read.seen (is_initial k) (λ j. refl) (eq-eqb k k refl)) in
      let whole = knows.outside.initial k here.0 here.1 kept in (
        kept_there program steps known formed knows known.initial (length program.initial) k here.0.kind read.below whole knows.outside.order,
        map_cells program now_scene now_done (Initial k) (nth now_done.initial k) here.0.kind (named (slice_get program.initial k) here.0 here.1) refl (has.initial k here.0 here.1 kept),
      )
  step_read (Now k) read =
      let below : k < n = read.below in
      let here = there program.dynamic k (omega arith) in
      (tt, map_cells program now_scene now_done (Now k) (nth now_done.dynamic k) here.0.kind (named (slice_get program.dynamic k) here.0 here.1) refl (has.now.each k here.0 (omega arith) here.1))
  step_read (Last d i) read =
      let here = there program.dynamic d read.below.of_dynamic in
      let begun = there program.initial i read.below.of_initial in
      last_read d i here.0 begun.0 here.1 begun.1 read.below (read.seen (is_initial i) (λ j. refl) (eq-eqb i i refl)) (read.seen (is_last d) (λ j. refl) (eq-eqb d d refl))
  step_read (Drain k) read =
      let here = there program.drains k read.below in
      let same : 0 + k ≡ k = omega arith in
      let formed_d : IsDrainUse program k here.0 = subst (λ j. IsDrainUse program j here.0) same (drain_use_of program 0 k program.drains here.0 formed.drains here.1) in
      (knows.outside.drains k here.0 here.1 formed_d.within, drain_cells program steps known formed knows step now_done k (length program.initial) here.0 (agrees program steps known step (from_first, to)).drains here.1 formed_d.within knows.outside.drains)

-- ---- operations

-- what an operation of the span reads is known and sound, and it is one of the program's
pub record OperationIs (program : Program) (s : Span) (known : Known) (step : ℕ) (o : Operation) : Type 0 where
  pub a : IsKnown program s known step o.a
  pub b : IsKnown program s known step o.b
  pub c : IsKnown program s known step o.c
  pub d : IsKnown program s known step o.d
  pub drain : goes_along_drains o.op ≡ true → IsKnown program s known step (Drain o.drain)
  pub sound : HasSoundOperands program (scene_of program.inputs known step) (onward_done program s known step) o
  pub one : IsOneOf program known o

-- where each operand that the operation reads is known and has its cells, all do
all_read : (program : Program) (s : Span) (known : Known) (step : ℕ) (o : Operation) (IsRead : Operand → Type 0) → IsWellFormed program → Knows program s known → IsOperationOf program IsRead o.kept o →
    ((operand : Operand) → IsRead operand → IsKnown program s known step operand × HasItsCells program (scene_of program.inputs known step) (onward_done program s known step) operand) → OperationIs program s known step o
all_read program s known step o IsRead formed knows is read =
    let scene = scene_of program.inputs known step in
    let done = onward_done program s known step in
    let sound : HasSoundOperands program scene done o = record {
      a = (read o.a is.a).1;
      b = (read o.b is.b).1;
      c = (read o.c is.c).1;
      d = (read o.d is.d).1;
      used = is.used;
      kinds = is.kinds;
      drain = λ along. (read (Drain o.drain) (is.drain along)).1;
      window = is.window;
      file = is.file;
      kept = is.kept;
    } in
    record {
      a = (read o.a is.a).0;
      b = (read o.b is.b).0;
      c = (read o.c is.c).0;
      d = (read o.d is.d).0;
      drain = λ along. (read (Drain o.drain) (is.drain along)).0;
      sound = sound;
      one = one_of program s known scene done o formed knows sound;
    }

-- the operation with a number of the span's section
pub operation_is : (program : Program) (s : Span) (known : Known) (step n : ℕ) (o : Operation) → IsWellFormed program → IsSpan program s most_block → Knows program s known → IsStepOf s step → IsAmong s n → slice_get (span_section program s) n ≡ Some o → OperationIs program s known step o
operation_is program (span.Initial first end) known step n o formed is_span knows at among here =
    let same : 0 + n ≡ n = omega arith in
    let is = read_first program n o here (subst (λ (k : ℕ). IsOperation program k o) same (operation_of program 0 n program.initial o formed.operations here)) in
    subst (λ (k : ℕ). OperationIs program (span.Initial first end) known k o) (sym at)
    (all_read program (span.Initial first end) known 0 o (IsReadFirst program n) formed knows is (λ operand r. initial_read program first end known formed knows is_span n among.0 among.1 operand r))
operation_is program (span.Steps first last) known step n o formed is_span knows at among here =
    let same : 0 + n ≡ n = omega arith in
    let few : n < length program.dynamic = slice_get_within program.dynamic n o here in
    let is = read_now program n o here (subst (λ (k : ℕ). IsStepOperation program k o) same (step_operation_of program 0 n program.dynamic o formed.step_operations here)) in
    all_read program (span.Steps first last) known step o (IsReadNow program n) formed knows is (λ operand r. step_read program first last known formed knows is_span step at.0 at.1 n (omega arith) operand r)

-- the drain map of one that goes along drains is known
pub drain_known : (program : Program) (s : Span) (known : Known) (step n : ℕ) → IsKnown program s known step (Drain n) → HasDrainMap known n
drain_known program (span.Initial first end) known step n is = is.1
drain_known program (span.Steps first last) known step n is = is
