-- A stage of `initial`, over what the stages before it left.
use Rattle.std.proofs.Common.{◌≡◌, ℕ, zero, suc, ◌+◌, ◌-◌, ◌*◌, ◌<◌, ◌≤◌, ◌⊎◌, inl, inr, Bool, true, false, cond, List, [], ◌∷◌, ◌++◌, length, take, drop, refl, sym, ap, subst, ◌∙◌, Ok, Err, Result, arith, length-append, length-drop, get_or}
use Rattle.std.specs.Prelude.{◌&&◌, All, Some, nat_le, nat_lt, slice_get, slice_index_or, slice_range}
use Rattle.std.specs.List.{filter}
use Rattle.std.proofs.lemmas.Bool.{cases_lt}
use Rattle.std.proofs.lemmas.List.{get_or_append_left, get_or_default, length-map}
use Rattle.std.proofs.lemmas.List.Elements.{All-push}
use Rattle.std.proofs.lemmas.Option.{get_or_from_slice_get, slice_get_within}
use Rattle.outside_io.specs.Causes.{CameTo, CutOff, NoMemory, ReadFault, WriteFault, RunOutcome, stopped_by, why_by}
use Rattle.outside_io.specs.inside.Parts.{Settles}
use Rattle.cell_values.specs.declared.kind.Kind.TheVariants.{Ldd}
use Rattle.drain_meaning.specs.Drains.{DrainMap}
use Rattle.map_meaning.specs.declared.known.Known.{Known}
use Rattle.map_meaning.specs.declared.known.OverAt.{OverAt}
use Rattle.map_meaning.specs.declared.known.Span.TheVariants as span
use Rattle.map_meaning.specs.declared.known.StepMap.{StepMap}
use Rattle.map_meaning.specs.declared.program.DrainUse.{DrainUse}
use Rattle.map_meaning.specs.declared.program.Operation.{Operation}
use Rattle.map_meaning.specs.declared.program.Program.{Program}
use Rattle.map_meaning.specs.Evaluation.{Done, drain_codes, operation_values, staged_values, with_drain}
use Rattle.map_meaning.specs.Maps.{IsMapOf, nth}
use Rattle.map_meaning.specs.Programs.{IsWellFormed}
use Rattle.map_meaning.specs.Scenes.{Scene}
use Rattle.map_meaning.specs.Spans.{HasDrains, IsInStage, Knows, done_before, kept_map, kept_maps, stage_of, told_of, whole_span}
use Rattle.map_meaning.proofs.Tabulated.{nth_tabulate, tabulate_count}
use Rattle.map_meaning.proofs.WholeMaps.{AreFrom, IsDoneFirst, codes_known, initial_done, scene_inputs, stage_from, stage_length, there}
use Rattle.run_session.specs.declared.inputs.Inputs.{Inputs}
use Rattle.run_session.specs.declared.stages.StageMaps.{StageMaps}
use Rattle.run_session.specs.declared.work.Work.{Work}
use Rattle.run_session.specs.Asked.{HasDone, IsRunOf, drains_due}
use Rattle.run_session.specs.Ends.{ScriptEnd, Overflow, why}
use Rattle.run_session.specs.Steps.{or_overflow}
use Rattle.run_session.specs.inside.Running.{IsDrainOver, IsPrepared}
use Rattle.run_session.specs.inside.Stages.{AreDue, IsLeft, held_drain, initial_or_end, initial_scene, initial_values}
use Rattle.run_session.specs.inside.Standings.{AscendFrom, codes_of, known_at, stage_result}
use Rattle.run_session.proofs.DrainLists.{drain_known}
use Rattle.run_session.proofs.HeldDrains.{IsHeld, held, stands_first}
use Rattle.run_session.proofs.Lists.{got}
use Rattle.run_session.proofs.Search.{are_ascending, kept_ascend}
use Rattle.run_session.proofs.StageValues.{AgreeFirst, SameFirst, kept_parts, kept_same, values_first}
use Rattle.run_session.proofs.Staged.{Extends, StandsBehind, drop_drop, length_take_of, span_same, staged_drain, staged_extend, staged_on, staged_over, take_none, values_extend}
use Rattle.run_session.proofs.StepValues.{kept_is}

-- ---- lists

-- what stands at a number is in front of the rest
pub drop_at : {A : Type 0} (xs : List A) (k : ℕ) (x : A) → slice_get xs k ≡ Some x → drop k xs ≡ x ∷ drop (k + 1) xs
drop_at [] k x is = absurd (cc)
drop_at (y ∷ xs) zero x is = let same : y ≡ x = cc in ap (λ z. z ∷ xs) same
drop_at (y ∷ xs) (suc k) x is = let e : suc (k + 1) ≡ suc k + 1 = omega arith in drop_at xs k x is ∙ ap (λ j. x ∷ drop j (y ∷ xs)) e

-- what a loop has at a number stands there
pub item_at : (program : Program) (uses : List DrainUse) (n : ℕ) (d : DrainUse) → uses ≡ program.drains → n < length uses → slice_get program.drains n ≡ Some (slice_index_or uses n d)
item_at program uses n d same below =
    let one = slice_index_or uses n d in
    subst (λ ds. slice_get ds n ≡ Some one) same (got uses n one below (get_or_default uses n d one below))

-- the first of what two lists have in common
take_front : {A : Type 0} (xs ys : List A) → take (length xs) (xs ++ ys) ≡ xs
take_front [] ys = refl
take_front (x ∷ xs) ys = ap (λ zs. x ∷ zs) (take_front xs ys)

-- a part of a list stands behind another one
take_parts : {A : Type 0} (a b : ℕ) (xs : List A) → a ≤ b → take a xs ++ take (b - a) (drop a xs) ≡ take b xs
take_parts zero b xs le = let e : b - 0 ≡ b = omega arith in ap (λ k. take k xs) e
take_parts (suc a) zero xs le = absurd (omega (arith, le))
take_parts {A} (suc a) (suc b) [] le = take_none A (suc b - suc a)
take_parts (suc a) (suc b) (x ∷ xs) le = let e : suc b - suc a ≡ b - a = omega arith in ap (λ k. x ∷ (take a xs ++ take k (drop a xs))) e ∙ ap (λ ys. x ∷ ys) (take_parts a b xs (omega (arith, le)))

-- how many drain maps are due
due_count : (drains : List DrainUse) (c first : ℕ) → c ≤ length drains → ((k : ℕ) (d : DrainUse) → slice_get drains k ≡ Some d → k < c → d.after ≤ first) → ((k : ℕ) (d : DrainUse) → slice_get drains k ≡ Some d → d.after ≤ first → k < c) →
    length (filter (λ (d : DrainUse). nat_le d.after first) drains) ≡ c
due_count [] zero first few due all = refl
due_count [] (suc c) first few due all = absurd (omega (arith, few))
due_count (d ∷ drains) zero first few due all = by (nat_le d.after first) refl (due_count drains zero first (omega arith) (λ k e at less. absurd (omega (arith, less))) (λ k e at is. absurd (let z : suc k < 0 = all (suc k) e at is in omega (arith, z))))
  where
    by : (b : Bool) → nat_le d.after first ≡ b → length (filter (λ (d : DrainUse). nat_le d.after first) drains) ≡ 0 → length (cond b (d ∷ filter (λ (d : DrainUse). nat_le d.after first) drains) (filter (λ (d : DrainUse). nat_le d.after first) drains)) ≡ 0
    by true is rest = absurd (let le : d.after ≤ first = grind (arith, is) in let z : 0 < 0 = all zero d refl le in omega (arith, z))
    by false is rest = rest
due_count (d ∷ drains) (suc c) first few due all = by (nat_le d.after first) refl (due_count drains c first (omega (arith, few)) (λ k e at less. due (suc k) e at (omega (arith, less))) (λ k e at is. let z : suc k < suc c = all (suc k) e at is in omega (arith, z)))
  where
    by : (b : Bool) → nat_le d.after first ≡ b → length (filter (λ (d : DrainUse). nat_le d.after first) drains) ≡ c → length (cond b (d ∷ filter (λ (d : DrainUse). nat_le d.after first) drains) (filter (λ (d : DrainUse). nat_le d.after first) drains)) ≡ suc c
    by true is rest = ap suc rest
    by false is rest = absurd (let le : d.after ≤ first = due zero d refl (omega arith) in grind (arith, is, le))

-- drain maps stand in the order in which they are due
pub after_order : (program : Program) (i j : ℕ) (a b : DrainUse) → IsWellFormed program → slice_get program.drains i ≡ Some a → slice_get program.drains j ≡ Some b → i ≤ j → a.after ≤ b.after
after_order program i j a b formed here there_is le = by (cases_lt i j)
  where
    by : (i < j) ⊎ (j ≤ i) → a.after ≤ b.after
    by (inl less) =
        let order = formed.drain_order i j a less (slice_get_within program.drains j b there_is) in
        let x = get_or_from_slice_get program.drains i a a here in
        let y = get_or_from_slice_get program.drains j b a there_is in
        subst (λ (d : DrainUse). a.after ≤ d.after) y (subst (λ (d : DrainUse). d.after ≤ (get_or program.drains j a).after) x order)
    by (inr not) =
        let e : i ≡ j = omega (arith, le, not) in
        let same : a ≡ b = (let two : Some a ≡ Some b = sym here ∙ (ap (slice_get program.drains) e ∙ there_is) in cc) in
        subst (λ (d : DrainUse). a.after ≤ d.after) same (omega arith)

-- an end of a stage is that of the section
pub stage_stops : (program : Program) (inputs : Inputs) (first : ℕ) (part : List Operation) (r : Result (List StepMap) ScriptEnd) (v : Result Done OverAt) (o : RunOutcome ScriptEnd) → ((at : OverAt) → v ≡ Err at → initial_values program inputs ≡ Err at) →
    ((at : OverAt) → v ≡ Err at → r ≡ Err (Overflow at)) → ((y : Done) → v ≡ Ok y → (maps : List StepMap) × (r ≡ Ok maps)) →
    Settles (why_by why) r (stopped_by o) → Settles (why_by why) (initial_or_end program inputs) (stopped_by o)
stage_stops program inputs first part r v (CutOff (ReadFault name)) over err ok settles = absurd settles
stage_stops program inputs first part r v (CutOff (WriteFault name)) over err ok settles = absurd settles
stage_stops program inputs first part r v (CutOff NoMemory) over err ok settles = tt
stage_stops program inputs first part r v (CameTo end) over err ok settles = by v refl
  where
    by : (w : Result Done OverAt) → v ≡ w → Settles (why_by why) (initial_or_end program inputs) (stopped_by (CameTo end))
    by (Ok y) is = let maps = ok y is in let two : Ok maps.0 ≡ Err end = sym maps.1 ∙ settles.0 in absurd (cc)
    by (Err at) is =
        let two : Err (Overflow at) ≡ Err end = sym (err at is) ∙ settles.0 in
        let same : Overflow at ≡ end = cc in
        (ap or_overflow (over at is) ∙ ap (λ (e : ScriptEnd). Err e) same, settles.1)

-- ---- one more drain map

module _ (work : Work) (prepared : IsPrepared work) (first : ℕ) (done : Done) (left : StageMaps) (is : IsLeft work.program.value work.inputs first done left) where
  abbrev program : Program
  program = work.program.value

  abbrev inputs : Inputs
  inputs = work.inputs

  abbrev places : ℕ
  places = work.inputs.frame.rows * work.inputs.frame.cols

  abbrev scene : Scene
  scene = initial_scene program inputs

  abbrev c : ℕ
  c = length left.drains

  -- the kept maps ascend
  pub left_ascends : AscendFrom 0 left.kept
  left_ascends = subst (AscendFrom 0) (sym is.kept) (kept_ascend 0 done.initial 0 (take first program.initial))

  -- a drain map that is due is left
  pub drain_added : (one : DrainUse) (d : DrainMap) → slice_get program.drains c ≡ Some one → one.after ≤ first → d ≡ held_drain work left one.from →
      IsLeft program inputs first (with_drain done (drain_codes scene done one.from)) (record { kept = left.kept; drains = left.drains ++ d ∷ [] })
  drain_added one d at due same =
      let h : IsHeld work prepared first done left is one = held work prepared first done left is c one at refl due in
      let count : length (left.drains ++ d ∷ []) ≡ c + 1 = omega (arith, length-append left.drains (d ∷ [])) in
      let n : length done.initial ≡ first = is.count in
      record {
        rest = is.rest ∙ (ap (λ ds. staged_values program scene (whole_span program) done ds (drop first program.initial)) (drop_at program.drains c one at) ∙
            (staged_drain program scene 0 (length program.initial) done one (drop (c + 1) program.drains) (drop first program.initial) (omega (arith, n, due)) ∙
            ap (λ k. staged_values program scene (whole_span program) (with_drain done (drain_codes scene done one.from)) (drop k program.drains) (drop first program.initial)) (sym count)));
        there = is.there;
        count = is.count;
        whole = is.whole;
        kept = is.kept;
        codes = codes_push left.drains d ∙ (ap (λ cs. cs ++ d.codes ∷ []) is.codes ∙ ap (λ m. done.drains ++ m ∷ []) (ap (λ (x : DrainMap). x.codes) same ∙ h.codes));
        sound = All-push (IsDrainOver inputs.frame) left.drains d is.sound (subst (IsDrainOver inputs.frame) (sym same) h.over);
        few = let below : c < length program.drains = slice_get_within program.drains c one at in omega (arith, count, below);
        due = λ k e here below. by_case k e here (cases_lt k c) (omega (arith, count, below));
      }
    where
      codes_push : (drains : List DrainMap) (d : DrainMap) → codes_of (drains ++ d ∷ []) ≡ codes_of drains ++ d.codes ∷ []
      codes_push [] d = refl
      codes_push (x ∷ drains) d = ap (λ cs. x.codes ∷ cs) (codes_push drains d)

      by_case : (k : ℕ) (e : DrainUse) → slice_get program.drains k ≡ Some e → (k < c) ⊎ (c ≤ k) → k < c + 1 → e.after ≤ first
      by_case k e here (inl less) below = is.due k e here less
      by_case k e here (inr not) below =
          let k_is : k ≡ c = omega (arith, not, below) in
          let same : one ≡ e = (let two : Some one ≡ Some e = sym at ∙ (ap (slice_get program.drains) (sym k_is) ∙ here) in cc) in
          subst (λ (x : DrainUse). x.after ≤ first) same due

  -- all that are due are left where the next one is not
  pub next_not_due : (one : DrainUse) → slice_get program.drains c ≡ Some one → first < one.after → AreDue program first left
  next_not_due one at later k d here due = by (cases_lt k c)
    where
      by : (k < c) ⊎ (c ≤ k) → k < c
      by (inl less) = less
      by (inr not) = absurd (let order = after_order program c k one d prepared.formed at here not in omega (arith, order, later, due))

  -- or where there is none
  pub none_not_due : length program.drains ≤ c → AreDue program first left
  none_not_due all k d here due = let below : k < length program.drains = slice_get_within program.drains k d here in omega (arith, below, all)

  -- ---- a stage

  module _ (end : ℕ) (stage : IsInStage work.program.value first end) (due : AreDue work.program.value first left) where
    abbrev pub known : Known
    known = known_at inputs left [] []

    abbrev m : ℕ
    m = end - first

    abbrev ops : List Operation
    ops = drop first program.initial

    abbrev part : List Operation
    part = slice_range program.initial first end

    abbrev pub values : Result Done OverAt
    values = operation_values program scene (whole_span program) done part

    -- an operation before the stage that is kept has its map among the kept ones
    before_kept : (k : ℕ) (o : Operation) → k < first → slice_get program.initial k ≡ Some o → o.kept ≡ true → kept_map left.kept k ≡ nth done.initial k
    before_kept k o below here kept = ap (λ maps. kept_map maps k) is.kept ∙ kept_is 0 done.initial (take first program.initial) k o (stands_first program.initial first k o below here) kept

    -- what the runner knows agrees with what is done
    agree : AgreeFirst program first first (done_before program (span.Initial first end) known) done
    agree = record {
      count_x = tabulate_count (kept_map left.kept) first;
      count_y = is.count;
      initial = λ k o below here held. nth_tabulate (kept_map left.kept) first k below ∙ before_kept k o below here (kept_one k o below held);
      drains = is.codes;
    }
      where
        kept_one : (k : ℕ) (o : Operation) → k < first → (first ≤ k) ⊎ (o.kept ≡ true) → o.kept ≡ true
        kept_one k o below (inl behind) = absurd (omega (arith, below, behind))
        kept_one k o below (inr kept) = kept

    -- the operations of the stage
    part_count : first + length part ≡ end
    part_count = stage_length program.initial first end stage.order stage.there

    part_from : AreFrom program.initial first part
    part_from = of_all program.initial end first part (stage_from program.initial first end stage.order)
      where
        taken_at : (operations : List Operation) (end n : ℕ) (o : Operation) → slice_get (take end operations) n ≡ Some o → slice_get operations n ≡ Some o
        taken_at [] zero n o is = absurd (cc)
        taken_at [] (suc end) n o is = absurd (cc)
        taken_at (p ∷ more) zero n o is = absurd (cc)
        taken_at (p ∷ more) (suc end) zero o is = is
        taken_at (p ∷ more) (suc end) (suc n) o is = taken_at more end n o is

        of_all : (operations : List Operation) (end n : ℕ) (rest : List Operation) → AreFrom (take end operations) n rest → AreFrom operations n rest
        of_all operations end n [] from = tt
        of_all operations end n (o ∷ more) from = (taken_at operations end n o from.0, of_all operations end (n + 1) more from.1)

    -- what is told of the stage, as a part of the run
    abbrev pub stage_kept : Result Done OverAt → Result (List StepMap) ScriptEnd
    stage_kept (Ok y) = Ok (kept_maps 0 y.initial first part)
    stage_kept (Err at) = Err (Overflow at)

    told_same : (r v : Result Done OverAt) → SameFirst program first (first + length part) r v → stage_result (told_of program (span.Initial first end) 0 r) ≡ stage_kept v
    told_same (Ok x) (Ok y) same =
        let P : List StepMap → Result (List StepMap) ScriptEnd = λ maps. Ok maps in
        ap P (kept_same 0 first x.initial y.initial part (λ k behind below.
        (let here = there_is k (omega (arith, below, part_count)) in same.initial k here.0 below here.1 (inl behind))))
      where
        there_is : (k : ℕ) → k < end → (o : Operation) × (slice_get program.initial k ≡ Some o)
        there_is k below = there program.initial k (let last : end ≤ length program.initial = stage.there in omega (arith, below, last))
    told_same (Ok x) (Err at) same = absurd same
    told_same (Err at) (Ok y) same = absurd same
    told_same (Err a) (Err b) same = let P : OverAt → Result (List StepMap) ScriptEnd = λ at. Err (Overflow at) in ap P same

    -- what the runner gives
    pub stage_gives : stage_result (stage_of program (span.Initial first end) known) ≡ stage_kept values
    unfolding stage_of
    stage_gives =
        told_same (operation_values program scene (span.Initial first end) (done_before program (span.Initial first end) known) part) values
        (values_first program prepared.formed scene first end stage first end 0 (length program.initial) part first (done_before program (span.Initial first end) known) done (omega arith) (omega (arith, part_count)) part_from agree)

    -- the drain maps that the stage knows
    drains_known : HasDrains program first known
    drains_known k d here is_due = drain_known inputs.frame left.drains k is.sound (due k d here is_due)

    -- what the runner is to know is known
    pub stage_knows : Knows program (span.Initial first end) known
    stage_knows = record {
      some_rows = prepared.inputs.size.some_rows;
      some_cols = prepared.inputs.size.some_cols;
      few = prepared.inputs.size.few;
      maps = prepared.inputs.maps;
      tables = prepared.inputs.tables;
      series = prepared.inputs.series;
      outside = record {
        initial = λ k o here held. (let two = kept_before o.kept (nat_lt k first) held in let below : k < first = grind (arith, two.1) in subst (IsMapOf places o.kind) (sym (before_kept k o below here two.0)) (is.whole k o below here));
        order = are_ascending left.kept left_ascends;
        drains = drains_known;
      };
    }
      where
        kept_before : (a b : Bool) → (a && b) ≡ true → (a ≡ true) × (b ≡ true)
        kept_before true b h = (refl, h)
        kept_before false b h = absurd (cc)

    -- ---- what the stage leaves

    behind : StandsBehind (length done.initial + m) (drop c program.drains)
    behind = by (drop c program.drains) refl
      where
        by : (ds : List DrainUse) → drop c program.drains ≡ ds → StandsBehind (length done.initial + m) ds
        by [] rest = tt
        by (d ∷ ds) rest =
            let here : slice_get program.drains c ≡ Some d = first_of program.drains c d ds rest in
            let n : length done.initial ≡ first = is.count in
            let order : first ≤ end = stage.order in
            by_stage d here (All_at (λ (d : DrainUse). (d.after ≤ first) ⊎ (end ≤ d.after)) program.drains c d stage.whole here) (omega (arith, n, order))
          where
            first_of : (xs : List DrainUse) (k : ℕ) (d : DrainUse) (ds : List DrainUse) → drop k xs ≡ d ∷ ds → slice_get xs k ≡ Some d
            first_of [] zero d ds is = absurd (cc)
            first_of [] (suc k) d ds is = absurd (cc)
            first_of (x ∷ xs) zero d ds is = cc
            first_of (x ∷ xs) (suc k) d ds is = first_of xs k d ds is

            All_at : (P : DrainUse → Type 0) (xs : List DrainUse) (k : ℕ) (x : DrainUse) → All P xs → slice_get xs k ≡ Some x → P x
            All_at P xs k x all is = subst P (get_or_from_slice_get xs k x x is) (all k x (slice_get_within xs k x is))

            by_stage : (d : DrainUse) → slice_get program.drains c ≡ Some d → (d.after ≤ first) ⊎ (end ≤ d.after) → length done.initial + m ≡ end → length done.initial + m ≤ d.after
            by_stage d here (inl before) e = absurd (let less : c < c = due c d here before in omega (arith, less))
            by_stage d here (inr after) e = omega (arith, e, after)

    part_few : m ≤ length ops
    part_few = let l = length-drop first program.initial in let last : end ≤ length program.initial = stage.there in omega (arith, l, last)

    -- an Over of the stage is that of the section
    pub stage_over : (at : OverAt) → values ≡ Err at → initial_values program inputs ≡ Err at
    stage_over at over = is.rest ∙ staged_over program scene 0 (length program.initial) done m at (drop c program.drains) ops behind over

    -- what is left behind the stage
    pub stage_left : (y : Done) → values ≡ Ok y → IsLeft program inputs end y (record { kept = left.kept ++ kept_maps 0 y.initial first part; drains = left.drains })
    stage_left y gives = record {
      rest = is.rest ∙ (staged_on program scene 0 (length program.initial) done y m (drop c program.drains) ops behind part_few gives ∙ ap (staged_values program scene (whole_span program) y (drop c program.drains)) rest_is);
      there = stage.there;
      count = count_y;
      whole = whole_y;
      kept = ap (λ ks. ks ++ kept_maps 0 y.initial first part) (is.kept ∙ kept_same 0 0 done.initial y.initial (take first program.initial) (λ k from below. sym (front k (omega (arith, below, first_count))))) ∙
          ((let none : first ≡ 0 + first = omega arith in ap (λ k. kept_maps 0 y.initial 0 (take first program.initial) ++ kept_maps 0 y.initial k part) none) ∙ sym (kept_parts 0 0 first y.initial (take first program.initial) part first_count) ∙ ap (kept_maps 0 y.initial 0) (take_parts first end program.initial stage.order));
      codes = is.codes ∙ sym extended.2;
      sound = is.sound;
      few = is.few;
      due = λ k d here below. (let before : d.after ≤ first = is.due k d here below in let order : first ≤ end = stage.order in omega (arith, before, order));
    }
      where
        extended : Extends done y × (length y.initial ≡ length done.initial + length part) × (y.drains ≡ done.drains)
        extended = values_extend program scene 0 (length program.initial) done y part gives

        count_y : length y.initial ≡ end
        count_y = let a : length y.initial ≡ length done.initial + length part = extended.1 in let b : length done.initial ≡ first = is.count in omega (arith, a, b, part_count)

        first_count : length (take first program.initial) ≡ first
        first_count = length_take_of first program.initial is.there

        rest_is : drop m ops ≡ drop end program.initial
        rest_is = drop_drop m first program.initial ∙ (let order : first ≤ end = stage.order in let e : first + m ≡ end = omega (arith, order) in ap (λ k. drop k program.initial) e)

        front : (k : ℕ) → k < first → nth y.initial k ≡ nth done.initial k
        front k below = ap (λ ms. nth ms k) extended.0.initial.1 ∙ get_or_append_left done.initial extended.0.initial.0 [] k (let n : length done.initial ≡ first = is.count in omega (arith, below, n))

        all_first : IsDoneFirst program places first end y
        all_first =
            initial_done program known prepared.formed (scene_inputs program known 0 prepared.inputs.size.few prepared.inputs.maps prepared.inputs.tables prepared.inputs.series) first end stage done y
            (record { count = is.count; each = λ k o below here held. is.whole k o below here; drains = subst (λ codes. (k : ℕ) (d : DrainUse) → slice_get program.drains k ≡ Some d → d.after ≤ first → IsMapOf places Ldd (nth codes k)) is.codes (codes_known program first known drains_known) })
            (span_same program scene first end 0 (length program.initial) done part ∙ gives)

        whole_y : (k : ℕ) (o : Operation) → k < end → slice_get program.initial k ≡ Some o → IsMapOf places o.kind (nth y.initial k)
        whole_y k o below here = by (cases_lt k first)
          where
            by : (k < first) ⊎ (first ≤ k) → IsMapOf places o.kind (nth y.initial k)
            by (inl less) = subst (IsMapOf places o.kind) (sym (front k less)) (is.whole k o less here)
            by (inr not) = all_first.each k o below here (inl not)

    -- ---- what the runner was asked for

    -- once the section is done the run is such
    pub stage_asked : (start : Done) → HasDone program inputs [] 0 start → IsRunOf program inputs [] (span.Initial first end) (record { program = program; span = span.Initial first end; known = known })
    stage_asked start all = record {
      program_same = refl;
      span_same = refl;
      knows = stage_knows;
      rows = refl;
      cols = refl;
      maps = refl;
      tables = refl;
      series = refl;
      stacks = refl;
      before = record {
        start = start;
        is_start = all;
        initial = is.kept ∙ kept_same 0 0 done.initial start.initial (take first program.initial) (λ k from below. sym (front k (let e = length_take_of first program.initial is.there in omega (arith, below, e))));
        drains = is.codes ∙ (sym (take_front done.drains more.drains.0) ∙ (ap (take (length done.drains)) (sym more.drains.1) ∙ ap (λ k. take k start.drains) count));
      };
    }
      where
        more : Extends done start
        more = staged_extend program scene 0 (length program.initial) done start (drop c program.drains) ops (sym is.rest ∙ all)

        front : (k : ℕ) → k < first → nth start.initial k ≡ nth done.initial k
        front k below = ap (λ ms. nth ms k) more.initial.1 ∙ get_or_append_left done.initial more.initial.0 [] k (let n : length done.initial ≡ first = is.count in omega (arith, below, n))

        count : length done.drains ≡ drains_due program first
        count = ap length (sym is.codes) ∙ (length-map left.drains (λ (m : DrainMap). m.codes) ∙ sym (due_count program.drains c first is.few is.due due))

    -- an end of the stage is that of the section
    pub stage_ends : (o : RunOutcome ScriptEnd) → Settles (why_by why) (stage_result (stage_of program (span.Initial first end) known)) (stopped_by o) → Settles (why_by why) (initial_or_end program inputs) (stopped_by o)
    stage_ends o settles =
        stage_stops program inputs first part (stage_result (stage_of program (span.Initial first end) known)) values o stage_over
        (λ at over. stage_gives ∙ ap stage_kept over) (λ y gives. (kept_maps 0 y.initial first part, stage_gives ∙ ap stage_kept gives)) settles

    -- what is done once the stage is, where it gives maps
    pub stage_done : (maps : List StepMap) → stage_result (stage_of program (span.Initial first end) known) ≡ Ok maps → (y : Done) × (values ≡ Ok y) × (maps ≡ kept_maps 0 y.initial first part)
    stage_done maps value = by values refl
      where
        by : (r : Result Done OverAt) → values ≡ r → (y : Done) × (values ≡ Ok y) × (maps ≡ kept_maps 0 y.initial first part)
        by (Ok y) is = (y, is, (let two : Ok (kept_maps 0 y.initial first part) ≡ Ok maps = sym (stage_gives ∙ ap stage_kept is) ∙ value in cc))
        by (Err at) is = let two : Err (Overflow at) ≡ Ok maps = sym (stage_gives ∙ ap stage_kept is) ∙ value in absurd (cc)
