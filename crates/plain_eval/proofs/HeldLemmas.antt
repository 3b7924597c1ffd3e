-- The maps that are held: those that are read later are there.
use Rattle.std.proofs.Common.{◌≡◌, ℕ, zero, suc, ◌+◌, ◌*◌, ◌<◌, ◌≤◌, ◌-◌, Bool, true, false, cond, ◌&&◌, ◌⊎◌, nat_eq, nat_lt, List, [], ◌∷◌, ◌++◌, length, get_or, drop, map, refl, sym, ap, subst, ◌∙◌, inl, inr, arith, append_assoc, length-append}
use Rattle.std.specs.Prelude.{None, Some, Option, All, IfSome, nat_le, option_map, slice_get, slice_range, ◌==◌}
use Rattle.std.specs.List.{list_any}
use Rattle.std.proofs.lemmas.Bool.{cases_eq, cases_lt, cases_order, eq-eqb, le-ltb, lt-ltb, ne_eqb, or_left, or_right}
use Rattle.std.proofs.lemmas.List.{drop_more, get_or-append_right, get_or_append_left, get_or_past, get_or_push, length-map, length_push}
use Rattle.std.proofs.lemmas.Option.{get_or_from_slice_get, slice_get_within}
use Rattle.cell_values.specs.declared.kind.Kind.{Kind}
use Rattle.tile_map.specs.Cuts.{cell_at}
use Rattle.tile_map.specs.Parts.{tabulate}
use Rattle.map_meaning.specs.declared.known.Known.{Known}
use Rattle.map_meaning.specs.declared.known.Span.{Span}
use Rattle.map_meaning.specs.declared.known.Span.TheVariants as span
use Rattle.map_meaning.specs.declared.program.DrainUse.{DrainUse}
use Rattle.map_meaning.specs.declared.program.InputUse.{InputUse}
use Rattle.map_meaning.specs.declared.program.Operand.{Operand}
use Rattle.map_meaning.specs.declared.program.Operand.TheVariants.{Unused, Literal, Time, Input, Initial, Now, Last, Drain}
use Rattle.map_meaning.specs.declared.program.Operand.TheVariants as from
use Rattle.map_meaning.specs.declared.program.Operation.{Operation}
use Rattle.map_meaning.specs.declared.program.Program.{Program}
use Rattle.map_meaning.specs.declared.program.Role.TheVariants.{Stack}
use Rattle.map_meaning.specs.Evaluation.{Done, operation_part, section_maps, with_map}
use Rattle.map_meaning.specs.Maps.{IsMapOf, WholeMap, nth}
use Rattle.map_meaning.specs.Programs.{AreOneName, IsBelow, IsDrainUse, IsDueBy, IsWellFormed}
use Rattle.map_meaning.specs.Programs.{is_carried, is_initial, is_last, is_mask, is_read_in_steps, is_read_later, is_written, operation_kind, stage_begin}
use Rattle.map_meaning.specs.Scenes.{Scene, map_at_step}
use Rattle.map_meaning.specs.Spans.{AreSteps, IsInStage, IsSpan, Knows, first_operation, kept_map, scene_of, span_operations}
use Rattle.map_meaning.specs.Table.{goes_along_drains}
use Rattle.map_meaning.proofs.WholeMaps.{IsReadFirst, IsReadNow, drain_use_of, input_there, map_whole, scene_inputs, stage_length, there}
use Rattle.map_meaning.proofs.Tabulated.{nth_tabulate, tabulate_count}
use Rattle.plain_eval.specs.inside.Finished.{LetsGo}
use Rattle.plain_eval.specs.inside.Held.{AreThere, IsHeld, IsThere, done_of, held_at, initial_done, or_empty, step_done}
use Rattle.span_operands.specs.inside.Held.{HasDrainMap, HasItsCells, IsOneOf, HasSoundOperands}
use Rattle.plain_eval.specs.inside.Readers.{AreLastReaders, IsNumberBelow, NamesBelow, ReadsBelow, reads}
use Rattle.plain_eval.specs.inside.Sections.{is_own, scene_in}
use Rattle.span_operands.specs.Made.{span_start}
use Rattle.span_operands.proofs.Callers.{begins_later, both, drain_cells, grid_cells, grid_there, initial_operation, item_there, kept_as, kept_by_stages, kept_by_steps, kept_there, literal_cells, map_cells, one_of, stage_within, staged, step_operation, time_cells, unused_cells}
use Rattle.plain_eval.proofs.ReaderLemmas.{read_later}
use Rattle.plain_eval.proofs.Stages.{SameOutside, SameRead, own_number_from}

-- ---- operations of a program

-- an operand of `initial` names no operation of the stage from the operation's own number on
initial_below : (program : Program) (first end n m : ℕ) (operand : Operand) → n ≤ m → IsBelow program (first + n) operand → NamesBelow (span.Initial first end) m operand
initial_below program first end n m Unused few below = tt
initial_below program first end n m (Literal kind cell) few below = tt
initial_below program first end n m Time few below = absurd below
initial_below program first end n m (Input k) few below = tt
initial_below program first end n m (from.Stack k) few below = absurd below
initial_below program first end n m (Initial k) few below = by_test (nat_le first k) refl
  where
    by_test : (b : Bool) → nat_le first k ≡ b → IsNumberBelow m (cond b (Some (k - first)) None)
    by_test true is = let behind : first ≤ k = grind (arith, is) in let less : k < first + n = below in omega arith
    by_test false is = tt
initial_below program first end n m (Now k) few below = absurd below
initial_below program first end n m (Last k i) few below = absurd below
initial_below program first end n m (Drain k) few below = tt

-- nor does one of `dynamic`
step_below : (program : Program) (first last n m : ℕ) (operand : Operand) → n ≤ m → IsReadNow program n operand → NamesBelow (span.Steps first last) m operand
step_below program first last n m Unused few read = tt
step_below program first last n m (Literal kind cell) few read = tt
step_below program first last n m Time few read = tt
step_below program first last n m (Input k) few read = tt
step_below program first last n m (from.Stack k) few read = tt
step_below program first last n m (Initial k) few read = tt
step_below program first last n m (Now k) few read = let less : k < n = read.below in omega arith
step_below program first last n m (Last k i) few read = tt
step_below program first last n m (Drain k) few read = tt

-- no operand of an operation does
pub reads_below : (program : Program) (s : Span) (n m : ℕ) (d : Operation) → IsWellFormed program → IsSpan program s 1 → n < length (span_operations program s) → n ≤ m → ReadsBelow s m (get_or (span_operations program s) n d)
reads_below program (span.Initial first end) n m d formed is_span within few =
    let at = stage_within program first end n is_span within in
    let is = initial_operation program (first + n) d formed at.2 in
    let o = get_or program.initial (first + n) d in
    let P : Operation → Type 0 = λ x. ReadsBelow (span.Initial first end) m x in
    subst P (sym (staged program.initial first end n d at.0))
    (record { a = initial_below program first end n m o.a few is.a.below; b = initial_below program first end n m o.b few is.b.below; c = initial_below program first end n m o.c few is.c.below; d = initial_below program first end n m o.d few is.d.below })
reads_below program (span.Steps first last) n m d formed is_span within few =
    let is = step_operation program n d formed within in
    let o = get_or program.dynamic n d in
    record { a = step_below program first last n m o.a few is.a; b = step_below program first last n m o.b few is.b; c = step_below program first last n m o.c few is.c; d = step_below program first last n m o.d few is.d }

-- each operation reads maps of operations of the span
pub all_read_below : (program : Program) (s : Span) → IsWellFormed program → IsSpan program s 1 → All (ReadsBelow s (length (span_operations program s))) (span_operations program s)
all_read_below program s formed is_span = λ k d below. reads_below program s k (length (span_operations program s)) d formed is_span below (omega arith)

-- there are not too many
pub few_operations : (program : Program) (s : Span) → IsWellFormed program → IsSpan program s 1 → first_operation s + length (span_operations program s) ≤ 8192
few_operations program (span.Initial first end) formed is =
    let size = stage_length program.initial first end is.order is.there in
    let there = is.there in
    let few = formed.few_operations in
    omega arith
few_operations program (span.Steps first last) formed is = let few = formed.few_step_operations in omega arith

-- ---- what an operation reads is there

-- it is a whole map of the kind
abbrev pub IsWhole : ℕ → Kind → Option WholeMap → Type 0
IsWhole places kind None = ⊥
IsWhole places kind (Some m) = IsMapOf places kind m

-- the maps of operations of a span that are read from the operation n on are held, whole
abbrev pub AreWhole : ℕ → List Operation → List ℕ → ℕ → List (Option WholeMap) → Type 0
AreWhole places operations last n held = (k : ℕ) (o : Operation) → slice_get operations k ≡ Some o → k < n → n ≤ get_or last k 0 → IsWhole places o.kind (held_at held k)

-- such a map has all its cells
held_whole : (places : ℕ) (kind : Kind) (m : Option WholeMap) → IsWhole places kind m → IsHeld places m
held_whole places kind None is = is
held_whole places kind (Some m) is = is.count

-- and is there
map_there : (places : ℕ) (kind : Kind) (m : Option WholeMap) → IsWhole places kind m → IsMapOf places kind (or_empty m)
map_there places kind None is = absurd is
map_there places kind (Some m) is = is

-- the map with a number, among those that are held
nth_held : (held : List (Option WholeMap)) (k : ℕ) → nth (map or_empty held) k ≡ or_empty (held_at held k)
nth_held [] k = refl
nth_held (x ∷ held) zero = refl
nth_held (x ∷ held) (suc k) = nth_held held k

-- ---- what a stage of `initial` reads

module _ (program : Program) (first end : ℕ) (known : Known) (formed : IsWellFormed program) (knows : Knows program (span.Initial first end) known) (is : IsInStage program first end) (n : ℕ) (to : first + n < end) (held : List (Option WholeMap)) (count : length held ≡ n) where
  abbrev stage : Span
  stage = span.Initial first end

  abbrev first_done : Done
  first_done = initial_done first known held

  abbrev first_scene : Scene
  first_scene = scene_of program.inputs known 0

  -- an operation of an earlier stage that is read is kept
  earlier_kept : (k : ℕ) (o : Operation) → slice_get program.initial k ≡ Some o → IsReadFirst program (first + n) (Initial k) → k < first → (o.kept && nat_lt k first) ≡ true
  earlier_kept k o here read before =
      let begins : first ≡ stage_begin program.drains first = is.begins in
      let later = read.later k (eq-eqb k k refl) (omega (arith, begins, begins_later program.drains first (first + n) (omega arith))) in
      both o.kept (nat_lt k first)
      (kept_as program stage known formed knows k o here ∙ kept_by_stages (is_read_in_steps program (is_initial k)) (is_written program k) (is_mask program k) (is_read_later program k) later)
      (lt-ltb k first before)

  -- a drain map that is due is computed before the stage
  due_before : (k : ℕ) (d : DrainUse) → slice_get program.drains k ≡ Some d → IsDueBy program (first + n) k → d.after ≤ first
  due_before k d here due =
      by_case (subst (λ (x : DrainUse). (x.after ≤ first) ⊎ (end ≤ x.after)) (get_or_from_slice_get program.drains k d d here) (is.whole k d (slice_get_within program.drains k d here)))
    where
      after : d.after ≤ first + n
      after = let P : Option DrainUse → Type 0 = λ found. IfSome found (λ d. d.after ≤ first + n) in subst P here due.after

      by_case : (d.after ≤ first) ⊎ (end ≤ d.after) → d.after ≤ first
      by_case (inl before) = before
      by_case (inr behind) = absurd (let a = after in omega (arith, a, behind, to))

  -- the map of an operand is there, and has its cells
  abbrev ReadFirst : Operand → Type 0
  ReadFirst operand = IsThere program stage known held operand × HasItsCells program first_scene first_done operand

  -- the maps that are held for it are whole
  abbrev HeldFirst : Operand → Type 0
  HeldFirst operand = (k : ℕ) (o : Operation) → is_own stage k operand ≡ true → k < n → slice_get program.initial (first + k) ≡ Some o → IsWhole (known.rows * known.cols) o.kind (held_at held k)

  -- the map of an operation of an earlier stage
  before_read : (k : ℕ) (o : Operation) → slice_get program.initial k ≡ Some o → IsReadFirst program (first + n) (Initial k) → k < first → ReadFirst (Initial k)
  before_read k o here read before =
      let whole = knows.outside.initial k o here (earlier_kept k o here read before) in
      let front = tabulate (kept_map known.initial) first in (
        ((refl, λ less. kept_there program stage known formed knows known.initial first k o.kind less whole knows.outside.order), λ behind. absurd (omega (arith, before, behind))),
        map_cells program first_scene first_done (Initial k) (kept_map known.initial k) o.kind (ap (option_map (λ (o : Operation). o.kind)) here)
            (ap cell_at (get_or_append_left front (map or_empty held) [] k (let size = tabulate_count (kept_map known.initial) first in omega (arith, size, before)) ∙ nth_tabulate (kept_map known.initial) first k before)) whole,
      )

  -- the map of an operation of the stage
  within_read : (k : ℕ) (o : Operation) → slice_get program.initial k ≡ Some o → k < first + n → HeldFirst (Initial k) → first ≤ k → ReadFirst (Initial k)
  within_read k o here below held_for behind =
      let j = k - first in
      let at : first + j ≡ k = omega arith in
      let there : slice_get program.initial (first + j) ≡ Some o = ap (slice_get program.initial) at ∙ here in
      let whole = held_for j o (own_number_from first k behind) (omega arith) there in
      let front = tabulate (kept_map known.initial) first in (
        ((refl, λ less. absurd (omega (arith, less, behind))), λ past. record { within = omega arith; is = held_whole (known.rows * known.cols) o.kind (held_at held j) whole }),
        map_cells program first_scene first_done (Initial k) (or_empty (held_at held j)) o.kind (ap (option_map (λ (o : Operation). o.kind)) here)
            (ap cell_at (get_or-append_right front (map or_empty held) first k [] (tabulate_count (kept_map known.initial) first) behind ∙ nth_held held j)) (map_there (known.rows * known.cols) o.kind (held_at held j) whole),
      )

  initial_read : (operand : Operand) → IsReadFirst program (first + n) operand → HeldFirst operand → ReadFirst operand
  initial_read Unused read held_for = (((refl, tt), tt), unused_cells program first_scene first_done)
  initial_read (Literal kind cell) read held_for = (((refl, tt), tt), literal_cells program first_scene first_done kind cell read.below)
  initial_read Time read held_for = absurd read.below
  initial_read (Input k) read held_for = (((refl, grid_there program stage known formed knows k read.below), tt), grid_cells program stage known formed knows 0 first_done k read.below)
  initial_read (from.Stack k) read held_for = absurd read.below
  initial_read (Initial k) read held_for =
      let below : k < first + n = read.below in
      let here = there program.initial k (let all = is.there in omega arith) in
      elim (cases_lt k first) as (λ x. ReadFirst (Initial k)) [
        | inl before ↦ before_read k here.0 here.1 read before
        | inr behind ↦ within_read k here.0 here.1 below held_for behind
      ]
  initial_read (Now k) read held_for = absurd read.below
  initial_read (Last k i) read held_for = absurd read.below
  initial_read (Drain k) read held_for =
      let here = there program.drains k read.below.within in
      let due = due_before k here.0 here.1 read.below in
      (((refl, knows.outside.drains k here.0 here.1 due), tt), drain_cells program stage known formed knows 0 first_done k first here.0 refl here.1 due knows.outside.drains)

-- ---- what a step reads

module _ (program : Program) (first last : ℕ) (known : Known) (formed : IsWellFormed program) (knows : Knows program (span.Steps first last) known) (is : AreSteps program first last 1) (n : ℕ) (held : List (Option WholeMap)) (count : length held ≡ n) where
  abbrev steps : Span
  steps = span.Steps first last

  abbrev now_done : Done
  now_done = step_done program known held

  abbrev now_scene : Scene
  now_scene = scene_of program.inputs known first

  -- the map of an operand is there, and has its cells
  abbrev ReadNow : Operand → Type 0
  ReadNow operand = IsThere program steps known held operand × HasItsCells program now_scene now_done operand

  -- the maps that are held for it are whole
  abbrev HeldNow : Operand → Type 0
  HeldNow operand = (k : ℕ) (o : Operation) → is_own steps k operand ≡ true → k < n → slice_get program.dynamic k ≡ Some o → IsWhole (known.rows * known.cols) o.kind (held_at held k)

  -- an operation of `initial` that steps read
  initial_kept : (k : ℕ) (o : Operation) → slice_get program.initial k ≡ Some o → is_read_in_steps program (is_initial k) ≡ true → IsMapOf (known.rows * known.cols) o.kind (kept_map known.initial k)
  initial_kept k o here read =
      knows.outside.initial k o here (kept_as program steps known formed knows k o here ∙ kept_by_steps (is_read_in_steps program (is_initial k)) (is_written program k) (is_mask program k) (is_read_later program k) read)

  -- the map of a name at the step before
  last_read : (d i : ℕ) (p o : Operation) → slice_get program.dynamic d ≡ Some p → slice_get program.initial i ≡ Some o → AreOneName program d i → is_read_in_steps program (is_initial i) ≡ true → is_carried program d ≡ true → ReadNow (Last d i)
  last_read d i p o here begun names read carried = (
    (
      λ same. record {
        begun = λ one. kept_there program steps known formed knows known.initial (length program.initial) i o.kind names.of_initial (initial_kept i o begun read) knows.outside.order;
        carried = λ later. kept_there program steps known formed knows known.last (length program.dynamic) d p.kind names.of_dynamic (knows.outside.carried (behind later) d p here carried) knows.outside.carried_order;
      },
      tt,
    ),
    map_cells program now_scene now_done (Last d i) (cond (first == 1) (kept_map known.initial i) (kept_map known.last d)) p.kind kind_is
        (ap (λ m. cell_at (cond (first == 1) m (nth (tabulate (kept_map known.last) (length program.dynamic)) d))) (nth_tabulate (kept_map known.initial) (length program.initial) i names.of_initial)
        ∙ ap (λ m. cell_at (cond (first == 1) (kept_map known.initial i) m)) (nth_tabulate (kept_map known.last) (length program.dynamic) d names.of_dynamic))
        (by_step (first == 1) refl),
  )
    where
      behind : (first == 1) ≡ false → 1 < first
      behind later = let some = is.some in grind (arith, some)

      kind_is : operation_kind program.dynamic d ≡ Some p.kind
      kind_is = ap (option_map (λ (o : Operation). o.kind)) here

      same_kind : o.kind ≡ p.kind
      same_kind = let both : Some o.kind ≡ Some p.kind = sym (ap (option_map (λ (o : Operation). o.kind)) begun) ∙ (sym names.kind ∙ kind_is) in cc

      by_step : (b : Bool) → (first == 1) ≡ b → IsMapOf (known.rows * known.cols) p.kind (cond b (kept_map known.initial i) (kept_map known.last d))
      by_step true one = subst (λ k. IsMapOf (known.rows * known.cols) k (kept_map known.initial i)) same_kind (initial_kept i o begun read)
      by_step false later = knows.outside.carried (behind later) d p here carried

  step_read : (operand : Operand) → IsReadNow program n operand → n ≤ length program.dynamic → HeldNow operand → ReadNow operand
  step_read Unused read few held_for = ((tt, tt), unused_cells program now_scene now_done)
  step_read (Literal kind cell) read few held_for = ((tt, tt), literal_cells program now_scene now_done kind cell read.below)
  step_read Time read few held_for = ((tt, tt), time_cells program now_scene now_done (let a = is.order in let b = is.there in let c = formed.few_steps in omega arith))
  step_read (Input k) read few held_for = ((grid_there program steps known formed knows k read.below, tt), grid_cells program steps known formed knows first now_done k read.below)
  step_read (from.Stack k) read few held_for =
      let found = input_there program Stack k read.below in
      let whole = knows.outside.stacks k first found.0 found.1 found.2 (omega arith) is.order in
      ((whole.count, tt), map_cells program now_scene now_done (from.Stack k) (map_at_step known.stacks first k) found.0.kind (ap (option_map (λ (i : InputUse). i.kind)) found.1) refl whole)
  step_read (Initial k) read few held_for =
      let here = there program.initial k read.below in
      let whole = initial_kept k here.0 here.1 (read.seen (is_initial k) (λ j. refl) (eq-eqb k k refl)) in (
        (kept_there program steps known formed knows known.initial (length program.initial) k here.0.kind read.below whole knows.outside.order, tt),
        map_cells program now_scene now_done (Initial k) (kept_map known.initial k) here.0.kind (ap (option_map (λ (o : Operation). o.kind)) here.1) (ap cell_at (nth_tabulate (kept_map known.initial) (length program.initial) k read.below)) whole,
      )
  step_read (Now k) read few held_for =
      let below : k < n = read.below in
      let here = there program.dynamic k (omega arith) in
      let whole = held_for k here.0 (eq-eqb k k refl) below here.1 in (
        (tt, record { within = omega arith; is = held_whole (known.rows * known.cols) here.0.kind (held_at held k) whole }),
        map_cells program now_scene now_done (Now k) (or_empty (held_at held k)) here.0.kind (ap (option_map (λ (o : Operation). o.kind)) here.1) (ap cell_at (nth_held held k)) (map_there (known.rows * known.cols) here.0.kind (held_at held k) whole),
      )
  step_read (Last d i) read few held_for =
      let here = there program.dynamic d read.below.of_dynamic in
      let begun = there program.initial i read.below.of_initial in
      last_read d i here.0 begun.0 here.1 begun.1 read.below (read.seen (is_initial i) (λ j. refl) (eq-eqb i i refl)) (read.seen (is_last d) (λ j. refl) (eq-eqb d d refl))
  step_read (Drain k) read few held_for =
      let here = there program.drains k read.below in
      let same : 0 + k ≡ k = omega arith in
      let formed_d : IsDrainUse program k here.0 = subst (λ j. IsDrainUse program j here.0) same (drain_use_of program 0 k program.drains here.0 formed.drains here.1) in
      ((knows.outside.drains k here.0 here.1 formed_d.within, tt), drain_cells program steps known formed knows first now_done k (length program.initial) here.0 refl here.1 formed_d.within knows.outside.drains)

-- where an operation reads a map, the map's last reader is not before it
last_not_before : (s : Span) (operations : List Operation) (last : List ℕ) (n k : ℕ) (d : Operation) → AreLastReaders s operations last → n < length operations → k < length operations → reads s k (get_or operations n d) ≡ true → n ≤ get_or last k 0
last_not_before s operations last n k d are within below is =
    let here : list_any (reads s k) (drop n operations) ≡ true = ap (list_any (reads s k)) (drop_more operations n d within) ∙ or_left (reads s k (get_or operations n d)) (list_any (reads s k) (drop (n + 1) operations)) is in
    let later : 0 + n ≤ get_or last k 0 = subst (λ r. 0 + n ≤ r) (sym (are.each k below)) (read_later s k k 0 n operations here) in
    omega arith

-- one of the operands of an operation reads a map
named_a : (s : Span) (k : ℕ) (o : Operation) → is_own s k o.a ≡ true → reads s k o ≡ true
named_a s k o named = or_left (is_own s k o.a) _ named

named_b : (s : Span) (k : ℕ) (o : Operation) → is_own s k o.b ≡ true → reads s k o ≡ true
named_b s k o named = or_right (is_own s k o.a) _ (or_left (is_own s k o.b) _ named)

named_c : (s : Span) (k : ℕ) (o : Operation) → is_own s k o.c ≡ true → reads s k o ≡ true
named_c s k o named = or_right (is_own s k o.a) _ (or_right (is_own s k o.b) _ (or_left (is_own s k o.c) _ named))

named_d : (s : Span) (k : ℕ) (o : Operation) → is_own s k o.d ≡ true → reads s k o ≡ true
named_d s k o named = or_right (is_own s k o.a) _ (or_right (is_own s k o.b) _ (or_right (is_own s k o.c) _ (or_left (is_own s k o.d) _ named)))

-- what an operation reads is there, it is one of the program's, and its operands have cells of their kinds
pub record OperationIs (program : Program) (s : Span) (known : Known) (held : List (Option WholeMap)) (o : Operation) : Type 0 where
  pub there : AreThere program s known held o
  pub sound : HasSoundOperands program (scene_in program s known) (done_of program s known held) o
  pub one : IsOneOf program known o

-- the operation with a number of a span
pub operation_is : (program : Program) (s : Span) (known : Known) (n : ℕ) (held : List (Option WholeMap)) (last : List ℕ) (d : Operation) → IsWellFormed program → IsSpan program s 1 → Knows program s known → n < length (span_operations program s) → length held ≡ n →
    AreLastReaders s (span_operations program s) last → AreWhole (known.rows * known.cols) (span_operations program s) last n held → OperationIs program s known held (get_or (span_operations program s) n d)
operation_is program (span.Initial first end) known n held last d formed is_span knows within count are whole =
    let s = span.Initial first end in
    let at = stage_within program first end n is_span within in
    let here = staged program.initial first end n d at.0 in
    let P : Operation → Type 0 = λ x. OperationIs program s known held x in
    subst P (sym here) (of_initial at here)
  where
    s : Span
    s = span.Initial first end

    operations : List Operation
    operations = slice_range program.initial first end

    o : Operation
    o = get_or program.initial (first + n) d

    held_for : get_or operations n d ≡ o → (k : ℕ) (p : Operation) → reads s k o ≡ true → k < n → slice_get program.initial (first + k) ≡ Some p → IsWhole (known.rows * known.cols) p.kind (held_at held k)
    held_for same k p reads_it below there =
        let read : reads s k (get_or operations n d) ≡ true = ap (reads s k) same ∙ reads_it in
        let in_stage : k < length operations = omega arith in
        let few = (stage_within program first end k is_span in_stage).0 in
        let stands : slice_get operations k ≡ Some p = item_there operations k p in_stage ∙ ap (λ (x : Operation). Some x) (staged program.initial first end k p few ∙ get_or_from_slice_get program.initial (first + k) p p there) in
        whole k p stands below (last_not_before s operations last n k d are within in_stage read)

    of_initial : (n < end - first) × (first + n < end) × (first + n < length program.initial) → get_or operations n d ≡ o → OperationIs program s known held o
    of_initial at same =
        let is = initial_operation program (first + n) d formed at.2 in
        let read = initial_read program first end known formed knows is_span n at.1 held count in
        let a = read o.a is.a (λ k p named. held_for same k p (named_a s k o named)) in
        let b = read o.b is.b (λ k p named. held_for same k p (named_b s k o named)) in
        let c = read o.c is.c (λ k p named. held_for same k p (named_c s k o named)) in
        let e = read o.d is.d (λ k p named. held_for same k p (named_d s k o named)) in
        let drain : goes_along_drains o.op ≡ true → HasDrainMap known o.drain × HasItsCells program (scene_of program.inputs known 0) (initial_done first known held) (Drain o.drain) = λ along. (let r = read (Drain o.drain) (is.drain along) (λ k p named. absurd (cc)) in (r.0.0.1, r.1)) in
        let sound : HasSoundOperands program (scene_of program.inputs known 0) (initial_done first known held) o = record { a = a.1; b = b.1; c = c.1; d = e.1; used = is.used; kinds = is.kinds; drain = λ along. (drain along).1; window = is.window; file = is.file; kept = is.kept } in
        record {
          there = record { a = a.0; b = b.0; c = c.0; d = e.0; drain = λ along. (drain along).0 };
          sound = sound;
          one = one_of program s known (scene_of program.inputs known 0) (initial_done first known held) o formed knows sound;
        }
operation_is program (span.Steps first end) known n held last d formed is_span knows within count are whole =
    let s = span.Steps first end in
    let o = get_or program.dynamic n d in
    let is = step_operation program n d formed within in
    let held_for : (k : ℕ) (p : Operation) → reads s k o ≡ true → k < n → slice_get program.dynamic k ≡ Some p → IsWhole (known.rows * known.cols) p.kind (held_at held k) =
    λ k p reads_it below there. whole k p there below (last_not_before s program.dynamic last n k d are within (omega arith) reads_it) in
    let read = λ (operand : Operand) (r : IsReadNow program n operand) (h : (k : ℕ) (p : Operation) → is_own s k operand ≡ true → k < n → slice_get program.dynamic k ≡ Some p → IsWhole (known.rows * known.cols) p.kind (held_at held k)).
    step_read program first end known formed knows is_span n held count operand r (omega arith) h in
    let a = read o.a is.a (λ k p named. held_for k p (named_a s k o named)) in
    let b = read o.b is.b (λ k p named. held_for k p (named_b s k o named)) in
    let c = read o.c is.c (λ k p named. held_for k p (named_c s k o named)) in
    let e = read o.d is.d (λ k p named. held_for k p (named_d s k o named)) in
    let drain : goes_along_drains o.op ≡ true → HasDrainMap known o.drain × HasItsCells program (scene_of program.inputs known first) (step_done program known held) (Drain o.drain) = λ along. (let r = read (Drain o.drain) (is.drain along) (λ k p named. absurd (cc)) in (r.0.0, r.1)) in
    let sound : HasSoundOperands program (scene_of program.inputs known first) (step_done program known held) o = record { a = a.1; b = b.1; c = c.1; d = e.1; used = is.used; kinds = is.kinds; drain = λ along. (drain along).1; window = is.window; file = is.file; kept = is.kept } in
    record {
      there = record { a = a.0; b = b.0; c = c.0; d = e.0; drain = λ along. (drain along).0 };
      sound = sound;
      one = one_of program s known (scene_of program.inputs known first) (step_done program known held) o formed knows sound;
    }

-- the map of such an operation is whole
pub whole_map : (program : Program) (s : Span) (known : Known) (held : List (Option WholeMap)) (o : Operation) → Knows program s known → HasSoundOperands program (scene_in program s known) (done_of program s known held) o →
    IsMapOf (known.rows * known.cols) o.kind (operation_part program (scene_in program s known) (done_of program s known held) o).cells
whole_map program s known held o knows is =
    map_whole program (scene_in program s known) (done_of program s known held) (scene_inputs program known (span_start s) knows.few knows.maps knows.tables knows.series) (HasItsCells program (scene_in program s known) (done_of program s known held))
    (record { kind = λ operand read used. read.kind used; cells = λ operand place kind read named below. read.cells place kind named below }) o o.kept is

-- ---- behind an operation

-- the maps before an operation, once its operands were let go, and with its own
pub record IsStep (s : Span) (last : List ℕ) (n : ℕ) (o : Operation) (m : WholeMap) (before between after : List (Option WholeMap)) : Type 0 where
  pub count : length before ≡ n
  pub let_go : LetsGo s last n o before between
  pub held : after ≡ between ++ cond (nat_lt n (get_or last n 0)) (Some m) None ∷ []

module _ (s : Span) (last : List ℕ) (n : ℕ) (o : Operation) (m : WholeMap) (before between after : List (Option WholeMap)) (step : IsStep s last n o m before between after) where
  -- there is one more
  pub step_count : length after ≡ n + 1
  step_count = ap length step.held ∙ (length_push between (cond (nat_lt n (get_or last n 0)) (Some m) None) ∙ ap (λ k. k + 1) (step.let_go.count ∙ step.count))

  -- an earlier map that is read later is there as it was
  step_before : (k : ℕ) → k < n → n < get_or last k 0 → held_at after k ≡ held_at before k
  step_before k below later =
      let within : k < length between = let a = step.let_go.count in let b = step.count in omega arith in
      let others : nat_eq (get_or last k 0) n ≡ false = ne_eqb (get_or last k 0) n (λ same. omega arith) in
      ap (λ (held : List (Option WholeMap)). held_at held k) step.held
      ∙ (get_or_append_left between (cond (nat_lt n (get_or last n 0)) (Some m) None ∷ []) None k within
      ∙ (step.let_go.each k ∙ ap (λ b. cond (b && reads s k o) None (held_at before k)) others))

  -- the last item
  step_last : held_at after n ≡ cond (nat_lt n (get_or last n 0)) (Some m) None
  step_last = ap (λ (held : List (Option WholeMap)). held_at held n) step.held ∙ get_or_push between (cond (nat_lt n (get_or last n 0)) (Some m) None) None n (step.let_go.count ∙ step.count)

  -- the map of the operation is there, where it is read later
  step_here : n < get_or last n 0 → held_at after n ≡ Some m
  step_here later = step_last ∙ ap (λ b. cond b (Some m) None) (lt-ltb n (get_or last n 0) later)

  -- and no map that is not read later
  pub step_only : ((k : ℕ) → k < n → get_or last k 0 ≡ n → reads s k o ≡ true) → ((k : ℕ) → k < n → get_or last k 0 < n → held_at before k ≡ None) → (k : ℕ) → k < n + 1 → get_or last k 0 < n + 1 → held_at after k ≡ None
  step_only read gone k below past = elim (cases_order k n) as (λ x. held_at after k ≡ None) [
    | inl same ↦
        let none : get_or last n 0 < n + 1 = subst (λ j. get_or last j 0 < n + 1) same past in
        subst (λ j. held_at after j ≡ None) (sym same) (step_last ∙ ap (λ b. cond b (Some m) None) (le-ltb n (get_or last n 0) (omega arith)))
    | inr (inl less) ↦ step_earlier k less ∙ earlier k less past
    | inr (inr more) ↦ absurd (omega arith)
  ]
    where
      step_earlier : (k : ℕ) → k < n → held_at after k ≡ held_at between k
      step_earlier k less =
          let within : k < length between = let a = step.let_go.count in let b = step.count in omega arith in
          ap (λ (held : List (Option WholeMap)). held_at held k) step.held ∙ get_or_append_left between (cond (nat_lt n (get_or last n 0)) (Some m) None ∷ []) None k within

      earlier : (k : ℕ) → k < n → get_or last k 0 < n + 1 → held_at between k ≡ None
      earlier k less past = elim (cases_eq (get_or last k 0) n) as (λ x. held_at between k ≡ None) [
        | inl same ↦ step.let_go.each k ∙ (ap (λ b. cond (b && reads s k o) None (held_at before k)) (eq-eqb (get_or last k 0) n same) ∙ ap (λ b. cond b None (held_at before k)) (read k less same))
        | inr other ↦ step.let_go.each k ∙ (ap (λ b. cond (b && reads s k o) None (held_at before k)) (ne_eqb (get_or last k 0) n other) ∙ gone k less (omega arith))
      ]

  -- so each map that is read later is there, whole
  pub step_held : (places : ℕ) (operations : List Operation) → slice_get operations n ≡ Some o → IsMapOf places o.kind m → AreWhole places operations last n before → AreWhole places operations last (n + 1) after
  step_held places operations here whole there k p stands below later = elim (cases_order k n) as (λ x. IsWhole places p.kind (held_at after k)) [
    | inl same ↦
        let op : o ≡ p = (let two : Some o ≡ Some p = sym here ∙ (ap (slice_get operations) (sym same) ∙ stands) in cc) in
        let held : held_at after k ≡ Some m = subst (λ j. held_at after j ≡ Some m) (sym same) (step_here (let l : n + 1 ≤ get_or last n 0 = subst (λ j. n + 1 ≤ get_or last j 0) same later in omega arith)) in
        let P : Operation → Type 0 = λ x. IsMapOf places x.kind m in
        subst (IsWhole places p.kind) (sym held) (subst P op whole)
    | inr (inl less) ↦ subst (IsWhole places p.kind) (sym (step_before k less (omega arith))) (there k p stands less (omega arith))
    | inr (inr more) ↦ absurd (omega arith)
  ]

  -- the maps of the span are those that are held
  own_at : (s : Span) (program : Program) (known : Known) (held : List (Option WholeMap)) (k : ℕ) → nth (section_maps s (done_of program s known held)) (first_operation s + k) ≡ nth (map or_empty held) k
  own_at (span.Initial first end) program known held k =
      let past : first + k - first ≡ k = omega arith in
      get_or-append_right (tabulate (kept_map known.initial) first) (map or_empty held) first (first + k) [] (tabulate_count (kept_map known.initial) first) (omega arith) ∙ ap (nth (map or_empty held)) past
  own_at (span.Steps first end) program known held k = let same : 0 + k ≡ k = omega arith in ap (nth (map or_empty held)) same

  -- with one more map
  more_at : (s : Span) (program : Program) (known : Known) (k : ℕ) → nth (section_maps s (with_map s (done_of program s known before) m)) (first_operation s + k) ≡ nth (map or_empty before ++ m ∷ []) k
  more_at (span.Initial first end) program known k =
      let front = tabulate (kept_map known.initial) first in
      let past : first + k - first ≡ k = omega arith in
      ap (λ maps. nth maps (first + k)) (append_assoc front (map or_empty before) (m ∷ []))
      ∙ (get_or-append_right front (map or_empty before ++ m ∷ []) first (first + k) [] (tabulate_count (kept_map known.initial) first) (omega arith) ∙ ap (nth (map or_empty before ++ m ∷ [])) past)
  more_at (span.Steps first end) program known k = let same : 0 + k ≡ k = omega arith in ap (nth (map or_empty before ++ m ∷ [])) same

  -- a map that is read later is the same as if all were held
  own_same : (operations : List Operation) → AreLastReaders s operations last → n < length operations → (k : ℕ) → list_any (reads s k) (drop (n + 1) operations) ≡ true → nth (map or_empty after) k ≡ nth (map or_empty before ++ m ∷ []) k
  own_same operations are within k is = elim (cases_order k n) as (λ x. nth (map or_empty after) k ≡ nth (map or_empty before ++ m ∷ []) k) [
    | inl same ↦
        nth_held after k
        ∙ (ap or_empty (subst (λ j. held_at after j ≡ Some m) (sym same) (step_here (let l : n + 1 ≤ get_or last n 0 = subst (λ j. n + 1 ≤ get_or last j 0) same (later (omega arith)) in omega arith)))
        ∙ sym (get_or_push (map or_empty before) m [] k (length-map before or_empty ∙ (step.count ∙ sym same))))
    | inr (inl less) ↦
        nth_held after k
        ∙ (ap or_empty (step_before k less (let l = later (omega arith) in omega arith))
        ∙ (sym (nth_held before k) ∙ sym (get_or_append_left (map or_empty before) (m ∷ []) [] k (let e = length-map before or_empty in let c = step.count in omega arith))))
    | inr (inr more) ↦
        get_or_past (map or_empty after) k [] (let e = length-map after or_empty in let c = step_count in omega arith)
        ∙ sym (get_or_past (map or_empty before ++ m ∷ []) k [] (let e = length-map before or_empty in let p = length_push (map or_empty before) m in let c = step.count in omega arith))
  ]
    where
      later : k < length operations → n + 1 ≤ get_or last k 0
      later below = let e = are.each k below in let l = read_later s k k 0 (n + 1) operations is in omega arith

  -- what is read later is the same as if all maps were held
  pub step_same : (program : Program) (known : Known) (operations : List Operation) → AreLastReaders s operations last → n < length operations → SameRead s (done_of program s known after) (with_map s (done_of program s known before) m) (drop (n + 1) operations)
  step_same program known operations are within = record {
    outside = outside s;
    own = λ k is. own_at s program known after k ∙ (own_same operations are within k is ∙ sym (more_at s program known k));
  }
    where
      outside : (s : Span) → SameOutside s (done_of program s known after) (with_map s (done_of program s known before) m)
      outside (span.Initial first end) =
          let front = tabulate (kept_map known.initial) first in
          let size = tabulate_count (kept_map known.initial) first in (
            λ k below.
                get_or_append_left front (map or_empty after) [] k (omega arith)
                ∙ sym (ap (λ maps. nth maps k) (append_assoc front (map or_empty before) (m ∷ [])) ∙ get_or_append_left front (map or_empty before ++ m ∷ []) [] k (omega arith)),
            refl,
            refl,
            refl,
          )
      outside (span.Steps first last) = (refl, refl, refl)

  -- there are as many
  pub step_length : (program : Program) (known : Known) → length (section_maps s (done_of program s known after)) ≡ length (section_maps s (with_map s (done_of program s known before) m))
  step_length program known = by_span s
    where
      sizes : length (map or_empty after) ≡ length (map or_empty before ++ m ∷ [])
      sizes = length-map after or_empty ∙ (step_count ∙ (ap (λ k. k + 1) (sym (length-map before or_empty ∙ step.count)) ∙ sym (length_push (map or_empty before) m)))

      by_span : (s : Span) → length (section_maps s (done_of program s known after)) ≡ length (section_maps s (with_map s (done_of program s known before) m))
      by_span (span.Initial first end) =
          let front = tabulate (kept_map known.initial) first in
          length-append front (map or_empty after) ∙ (ap (λ k. length front + k) sizes ∙ (sym (length-append front (map or_empty before ++ m ∷ [])) ∙ sym (ap length (append_assoc front (map or_empty before) (m ∷ [])))))
      by_span (span.Steps first end) = sizes
