-- The stages of `initial`, one by one.
use Rattle.std.proofs.Common.{◌≡◌, ℕ, zero, suc, ◌+◌, ◌<◌, ◌≤◌, ◌⊎◌, inl, inr, Bool, true, false, cond, List, [], ◌∷◌, ◌++◌, length, map, drop, refl, sym, ap, subst, ◌∙◌, arith, append_assoc, get_or}
use Rattle.std.specs.Prelude.{All, Some, max, nat_le, slice_get}
use Rattle.std.specs.List.{filter}
use Rattle.std.proofs.Math.Seq.{take-length}
use Rattle.std.proofs.lemmas.Bool.{cases_lt}
use Rattle.std.proofs.lemmas.List.{get_or_default}
use Rattle.map_meaning.specs.declared.known.Span.{Span}
use Rattle.map_meaning.specs.declared.known.Span.TheVariants as span
use Rattle.map_meaning.specs.declared.program.DrainFrom.{DrainFrom}
use Rattle.map_meaning.specs.declared.program.DrainFrom.TheVariants as from
use Rattle.map_meaning.specs.declared.program.DrainUse.{DrainUse}
use Rattle.map_meaning.specs.declared.program.Program.{Program}
use Rattle.map_meaning.specs.Evaluation.{staged_values}
use Rattle.map_meaning.specs.Programs.{IsDrainUse, IsFrom, IsWellFormed, stage_begin}
use Rattle.map_meaning.specs.Spans.{IsInStage, RunOf, initial_stages, is_computed, kept_maps, stages_from, whole_span}
use Rattle.map_meaning.proofs.WholeMaps.{drain_use_of, there}
use Rattle.run_session.specs.declared.inputs.Inputs.{Inputs}
use Rattle.run_session.specs.declared.stages.StageMaps.{StageMaps}
use Rattle.run_session.specs.Asked.{AreRunsOf, HasDone, IsRunOf}
use Rattle.run_session.specs.inside.Running.{IsStart}
use Rattle.run_session.specs.inside.Stages.{AreBefore, AreDue, AsksStage, AsksStages, BeginsBehind, HasLeft, initial_scene}
use Rattle.run_session.proofs.Lists.{got}
use Rattle.run_session.proofs.StageRuns.{after_order, drop_at}
use Rattle.std.proofs.lemmas.Option.{slice_get_within}

-- ---- where a stage begins

begins_at_most : (drains : List DrainUse) (n : ℕ) → stage_begin drains n ≤ n
begins_at_most [] n = omega arith
begins_at_most (d ∷ ds) n = by (nat_le d.after n) refl (begins_at_most ds n)
  where
    by : (b : Bool) → nat_le d.after n ≡ b → stage_begin ds n ≤ n → cond b (max d.after (stage_begin ds n)) (stage_begin ds n) ≤ n
    by true is rest = let le : d.after ≤ n = grind (arith, is) in omega (arith, le, rest)
    by false is rest = rest

begins_at_least : (drains : List DrainUse) (n k : ℕ) (d : DrainUse) → slice_get drains k ≡ Some d → d.after ≤ n → d.after ≤ stage_begin drains n
begins_at_least [] n k d at le = absurd (cc)
begins_at_least (e ∷ ds) n zero d at le =
    let same : e ≡ d = cc in by (nat_le e.after n) refl (ap (λ (x : DrainUse). x.after) same)
  where
    by : (b : Bool) → nat_le e.after n ≡ b → e.after ≡ d.after → d.after ≤ cond b (max e.after (stage_begin ds n)) (stage_begin ds n)
    by true is same = omega (arith, same)
    by false is same = absurd (let less : n < e.after = grind (arith, is) in omega (arith, less, same, le))
begins_at_least (e ∷ ds) n (suc k) d at le = by (nat_le e.after n) (begins_at_least ds n k d at le)
  where
    by : (b : Bool) → d.after ≤ stage_begin ds n → d.after ≤ cond b (max e.after (stage_begin ds n)) (stage_begin ds n)
    by true rest = omega (arith, rest)
    by false rest = rest

-- what holds of each item by its number holds of all
all_numbered : {A : Type 0} (P : A → Type 0) (xs : List A) → ((k : ℕ) (x : A) → slice_get xs k ≡ Some x → P x) → All P xs
all_numbered P xs each i d below = each i (get_or xs i d) (got xs i (get_or xs i d) below (get_or_default xs i d (get_or xs i d) below))

module _ (program : Program) (formed : IsWellFormed program) where
  -- a drain map of the program
  drain_of : (k : ℕ) (d : DrainUse) → slice_get program.drains k ≡ Some d → IsDrainUse program k d
  drain_of k d at = let same : 0 + k ≡ k = omega arith in subst (λ j. IsDrainUse program j d) same (drain_use_of program 0 k program.drains d formed.drains at)

  module _ (n first : ℕ) (begins : BeginsBehind program n first) where
    begins_is : first ≡ stage_begin program.drains first
    begins_is = by begins.origin
      where
        by : (first ≡ 0) ⊎ ((k : ℕ) × (d : DrainUse) × (k < n) × (slice_get program.drains k ≡ Some d) × (d.after ≡ first)) → first ≡ stage_begin program.drains first
        by (inl none) = let most = begins_at_most program.drains first in omega (arith, none, most)
        by (inr one) =
            let d : DrainUse = one.1 in
            let is : d.after ≡ first = one.4 in
            let most = begins_at_most program.drains first in
            let least : d.after ≤ stage_begin program.drains first = begins_at_least program.drains first one.0 d one.3 (omega (arith, is)) in
            omega (arith, most, least, is)

    begins_order : (k : ℕ) (d : DrainUse) → slice_get program.drains k ≡ Some d → n ≤ k → first ≤ d.after
    begins_order k d at behind = by begins.origin
      where
        by : (first ≡ 0) ⊎ ((j : ℕ) × (e : DrainUse) × (j < n) × (slice_get program.drains j ≡ Some e) × (e.after ≡ first)) → first ≤ d.after
        by (inl none) = omega (arith, none)
        by (inr one) =
            let e : DrainUse = one.1 in
            let is : e.after ≡ first = one.4 in
            let less : one.0 < n = one.2 in
            let order : e.after ≤ d.after = after_order program one.0 k e d formed one.3 at (omega (arith, less, behind)) in omega (arith, order, is)

    begins_there : first ≤ length program.initial
    begins_there = by begins.origin
      where
        by : (first ≡ 0) ⊎ ((j : ℕ) × (e : DrainUse) × (j < n) × (slice_get program.drains j ≡ Some e) × (e.after ≡ first)) → first ≤ length program.initial
        by (inl none) = omega (arith, none)
        by (inr one) =
            let e : DrainUse = one.1 in
            let is : e.after ≡ first = one.4 in
            let within : e.after ≤ length program.initial = (drain_of one.0 e one.3).within in omega (arith, is, within)

    -- the stage up to a drain map
    pub stage_to : (one : DrainUse) → slice_get program.drains n ≡ Some one → IsInStage program first one.after
    stage_to one at = record {
      begins = begins_is;
      order = begins_order n one at (omega arith);
      there = (drain_of n one at).within;
      whole = all_numbered (λ (d : DrainUse). (d.after ≤ first) ⊎ (one.after ≤ d.after)) program.drains each;
    }
      where
        each : (k : ℕ) (d : DrainUse) → slice_get program.drains k ≡ Some d → (d.after ≤ first) ⊎ (one.after ≤ d.after)
        each k d here = by (cases_lt k n)
          where
            by : (k < n) ⊎ (n ≤ k) → (d.after ≤ first) ⊎ (one.after ≤ d.after)
            by (inl less) = inl (begins.passed k d less here)
            by (inr not) = inr (after_order program n k one d formed at here not)

    -- the last stage
    pub stage_last : length program.drains ≤ n → IsInStage program first (length program.initial)
    stage_last all = record {
      begins = begins_is;
      order = begins_there;
      there = omega arith;
      whole = all_numbered (λ (d : DrainUse). (d.after ≤ first) ⊎ (length program.initial ≤ d.after)) program.drains each;
    }
      where
        each : (k : ℕ) (d : DrainUse) → slice_get program.drains k ≡ Some d → (d.after ≤ first) ⊎ (length program.initial ≤ d.after)
        each k d here = inl (begins.passed k d (let below : k < length program.drains = slice_get_within program.drains k d here in omega (arith, below, all)) here)

    -- the next stage begins behind a drain map that is computed
    pub begins_next : (one : DrainUse) → slice_get program.drains n ≡ Some one → BeginsBehind program (n + 1) one.after
    begins_next one at = record { passed = each; origin = inr (n, one, omega arith, at, refl) }
      where
        each : (k : ℕ) (d : DrainUse) → k < n + 1 → slice_get program.drains k ≡ Some d → d.after ≤ one.after
        each k d below here = after_order program k n d one formed here at (omega (arith, below))

    -- an input that is a drain map changes nothing
    pub begins_same : (one : DrainUse) → slice_get program.drains n ≡ Some one → is_computed one.from ≡ false → BeginsBehind program (n + 1) first
    begins_same one at input = record { passed = each; origin = by begins.origin }
      where
        at_begin : (f : DrainFrom) → is_computed f ≡ false → IsFrom program n one.after f → one.after ≡ 0
        at_begin (from.Input k) stays is = is.2
        at_begin (from.Same k) stays is = absurd (cc)
        at_begin (from.Mask k mask) stays is = absurd (cc)

        each : (k : ℕ) (d : DrainUse) → k < n + 1 → slice_get program.drains k ≡ Some d → d.after ≤ first
        each k d below here =
            let zero : one.after ≡ 0 = at_begin one.from input (drain_of n one at).from in
            by_case (cases_lt k n) (after_order program k n d one formed here at (omega (arith, below))) zero
          where
            by_case : (k < n) ⊎ (n ≤ k) → d.after ≤ one.after → one.after ≡ 0 → d.after ≤ first
            by_case (inl less) order none = begins.passed k d less here
            by_case (inr not) order none = omega (arith, order, none)

        by : (first ≡ 0) ⊎ ((k : ℕ) × (d : DrainUse) × (k < n) × (slice_get program.drains k ≡ Some d) × (d.after ≡ first)) →
            (first ≡ 0) ⊎ ((k : ℕ) × (d : DrainUse) × (k < n + 1) × (slice_get program.drains k ≡ Some d) × (d.after ≡ first))
        by (inl none) = inl none
        by (inr one) = let less : one.0 < n = one.2 in inr (one.0, one.1, omega (arith, less), one.3, one.4)

    -- ---- the list of the stages

    abbrev afters : List DrainUse → List ℕ
    afters drains = map (λ (d : DrainUse). d.after) (filter (λ (d : DrainUse). is_computed d.from) drains)

    abbrev behind : ℕ → List DrainUse → List Span
    behind begin drains = stages_from begin (afters drains) (length program.initial)

    pub before_next : (spans : List Span) (one : DrainUse) → slice_get program.drains n ≡ Some one → is_computed one.from ≡ true → AreBefore program n first spans →
        AreBefore program (n + 1) one.after (spans ++ span.Initial first one.after ∷ [])
    before_next spans one at computed before =
        let rest = drop (n + 1) program.drains in
        let first_on : behind first (drop n program.drains) ≡ span.Initial first one.after ∷ behind one.after rest =
        ap (behind first) (drop_at program.drains n one at) ∙
        ap (λ b. stages_from first (map (λ (d : DrainUse). d.after) (cond b (one ∷ filter (λ (d : DrainUse). is_computed d.from) rest) (filter (λ (d : DrainUse). is_computed d.from) rest))) (length program.initial)) computed in
        before ∙ (ap (λ more. spans ++ more) first_on ∙ sym (append_assoc spans (span.Initial first one.after ∷ []) (behind one.after rest)))

    pub before_same : (spans : List Span) (one : DrainUse) → slice_get program.drains n ≡ Some one → is_computed one.from ≡ false → AreBefore program n first spans → AreBefore program (n + 1) first spans
    before_same spans one at input before =
        let rest = drop (n + 1) program.drains in
        let first_on : behind first (drop n program.drains) ≡ behind first rest =
        ap (behind first) (drop_at program.drains n one at) ∙
        ap (λ b. stages_from first (map (λ (d : DrainUse). d.after) (cond b (one ∷ filter (λ (d : DrainUse). is_computed d.from) rest) (filter (λ (d : DrainUse). is_computed d.from) rest))) (length program.initial)) input in
        before ∙ ap (λ more. spans ++ more) first_on

    pub before_last : (spans : List Span) → length program.drains ≤ n → AreBefore program n first spans → initial_stages program ≡ spans ++ span.Initial first (length program.initial) ∷ []
    before_last spans all before = before ∙ ap (λ ds. spans ++ behind first ds) (none program.drains n all)
      where
        none : (xs : List DrainUse) (k : ℕ) → length xs ≤ k → drop k xs ≡ []
        none [] zero le = refl
        none [] (suc k) le = refl
        none (x ∷ xs) zero le = absurd (omega (arith, le))
        none (x ∷ xs) (suc k) le = none xs k (omega (arith, le))

-- ---- what the runner was asked for

-- one run more
runs_push : (program : Program) (inputs : Inputs) (spans : List Span) (s : Span) (runs : List RunOf) (run : RunOf) → AreRunsOf program inputs [] spans runs → IsRunOf program inputs [] s run → AreRunsOf program inputs [] (spans ++ s ∷ []) (runs ++ run ∷ [])
runs_push program inputs [] s [] run are one = (one, tt)
runs_push program inputs [] s (r ∷ runs) run are one = absurd are
runs_push program inputs (t ∷ spans) s [] run are one = absurd are
runs_push program inputs (t ∷ spans) s (r ∷ runs) run are one = (are.0, runs_push program inputs spans s runs run are.1 one)

-- one stage more was asked for
pub stages_more : (old mid new : List RunOf → Type 0) (program : Program) (inputs : Inputs) (spans : List Span) (first end : ℕ) → AsksStages old mid program inputs spans → AsksStage mid new program inputs first end →
    AsksStages old new program inputs (spans ++ span.Initial first end ∷ [])
stages_more old mid new program inputs spans first end so_far stage none =
    let before = so_far none in
    let one = stage before.0 before.2 in
    (before.0 ++ one.0 ∷ [], λ start is. runs_push program inputs spans (span.Initial first end) before.0 one.0 (before.1 start is) (one.1 start is), one.2)

-- ---- before and behind all stages

-- nothing is left before the first stage
pub none_left : (program : Program) (inputs : Inputs) → HasLeft program inputs 0 (record { kept = []; drains = [] })
none_left program inputs = (
  record { initial = []; dynamic = []; last = []; drains = [] },
  record {
    rest = refl;
    there = omega arith;
    count = refl;
    whole = λ k o below here. absurd (omega (arith, below));
    kept = refl;
    codes = refl;
    sound = λ i d below. absurd (omega (arith, below));
    few = omega arith;
    due = λ k d here below. absurd (omega (arith, below));
  },
)

-- all is left behind the last one
pub all_left : (old new : List RunOf → Type 0) (program : Program) (inputs : Inputs) (first : ℕ) (left : StageMaps) (spans : List Span) → BeginsBehind program (length program.drains) first → AreDue program first left → HasLeft program inputs (length program.initial) left →
    initial_stages program ≡ spans → AsksStages old new program inputs spans → IsStart old new program inputs left
all_left old new program inputs first left spans begins due has stages asks =
    let y = has.0 in
    let is = has.1 in
    let c = length left.drains in
    let all : c ≡ length program.drains = every in
    let done : HasDone program inputs [] 0 y = is.rest ∙ ap (λ ds. staged_values program (initial_scene program inputs) (whole_span program) y ds (drop (length program.initial) program.initial)) (ap (λ k. drop k program.drains) all ∙ none program.drains) ∙
    ap (λ ops. staged_values program (initial_scene program inputs) (whole_span program) y [] ops) (none program.initial) in
    record {
      start = y;
      is_start = done;
      first = record {
        whole = λ k o here. is.whole k o (slice_get_within program.initial k o here) here;
        kept = is.kept ∙ ap (kept_maps 0 y.initial 0) (take-length program.initial);
        codes = is.codes;
        count = all;
        sound = is.sound;
      };
      asks = λ nothing. (let got_all = asks nothing in (got_all.0, subst (λ ss. AreRunsOf program inputs [] ss got_all.0) (sym stages) (got_all.1 y done), got_all.2));
    }
  where
    none : {A : Type 0} (xs : List A) → drop (length xs) xs ≡ []
    none [] = refl
    none (x ∷ xs) = none xs

    every : length left.drains ≡ length program.drains
    every = by (cases_lt (length left.drains) (length program.drains))
      where
        by : (length left.drains < length program.drains) ⊎ (length program.drains ≤ length left.drains) → length left.drains ≡ length program.drains
        by (inl less) = absurd (let here = there program.drains (length left.drains) less in let again : length left.drains < length left.drains = due (length left.drains) here.0 here.1 (begins.passed (length left.drains) here.0 less here.1) in omega (arith, again))
        by (inr not) = let few : length left.drains ≤ length program.drains = has.1.few in omega (arith, few, not)
