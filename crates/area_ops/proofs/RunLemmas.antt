-- Runs of places of one class.
use Rattle.std.proofs.Common.{◌≡◌, ℕ, ◌+◌, ◌<◌, ◌≤◌, ℤ, pos, Bool, true, false, ◌⊎◌, inl, inr, List, set, refl, sym, ap, subst, ◌∙◌, arith}
use Rattle.std.specs.Prelude.{unsigned_abs}
use Rattle.std.specs.BTreeMap.{BTreeMap}
use Rattle.std.specs.Ordering.{int_eq}
use Rattle.std.proofs.lemmas.Bool.{cases_lt}
use Rattle.std.proofs.lemmas.Bool.Decides.{Decides-int_eq}
use Rattle.std.proofs.lemmas.List.{get_or-set_other, get_or-set_same, length-set}
use Rattle.std.proofs.lemmas.Nat.{mod_below}
use Rattle.area_ops.specs.declared.runs.Run.{Run}
use Rattle.area_ops.specs.declared.tally.Tally.{Tally}
use Rattle.area_ops.specs.inside.Runs.{AreRuns, run_at, class_slot, slots, tally_with, tally_with_runs}
use Rattle.area_ops.specs.inside.Tallies.{IsTally, no_tally, seen_from, tally_at, tally_join}
use Rattle.area_ops.proofs.MapLemmas.{seen-sound, seen_itself, seen_not}
use Rattle.area_ops.proofs.TallyLemmas.{count-tally_join, join_none, sound-tally_join, tally_regroup}

-- what a class sees of two tallies of another one, joined
seen_join_by : (class own : ℤ) (t u : Tally) (b : Bool) → int_eq own class ≡ b → seen_from class own (tally_join t u) ≡ tally_join (seen_from class own t) (seen_from class own u)
seen_join_by class own t u true e =
    seen_itself class own (tally_join t u) e
    ∙ (ap (λ (x : Tally). tally_join x u) (sym (seen_itself class own t e)) ∙ ap (tally_join (seen_from class own t)) (sym (seen_itself class own u e)))
seen_join_by class own t u false e =
    seen_not class own (tally_join t u) e
    ∙ (sym (join_none no_tally no_tally refl)
    ∙ (ap (λ (x : Tally). tally_join x no_tally) (sym (seen_not class own t e)) ∙ ap (tally_join (seen_from class own t)) (sym (seen_not class own u e))))

-- a run with one more tally of its class
pub run_more : (areas : BTreeMap ℤ Tally) (class : ℤ) (t u : Tally) (own : ℤ) →
    tally_join (tally_at areas own) (seen_from own class (tally_join t u)) ≡ tally_join (tally_join (tally_at areas own) (seen_from own class t)) (seen_from own class u)
run_more areas class t u own =
    ap (tally_join (tally_at areas own)) (seen_join_by own class t u (int_eq class own) refl)
    ∙ sym (tally_regroup (tally_at areas own) (seen_from own class t) (seen_from own class u))

run_none_by : (areas : BTreeMap ℤ Tally) (run : Run) (own : ℤ) (b : Bool) → int_eq run.class own ≡ b → tally_join (tally_at areas own) (seen_from own run.class no_tally) ≡ tally_at areas own
run_none_by areas run own true e = ap (tally_join (tally_at areas own)) (seen_itself own run.class no_tally e) ∙ join_none (tally_at areas own) no_tally refl
run_none_by areas run own false e = ap (tally_join (tally_at areas own)) (seen_not own run.class no_tally e) ∙ join_none (tally_at areas own) no_tally refl

-- a run without numbers
pub run_none : (areas : BTreeMap ℤ Tally) (run : Run) (own : ℤ) → run.tally ≡ no_tally → tally_with areas run own ≡ tally_at areas own
run_none areas run own e =
    ap (λ (t : Tally). tally_join (tally_at areas own) (seen_from own run.class t)) e
    ∙ run_none_by areas run own (int_eq run.class own) refl

-- the run has no more numbers than both together
pub run_few : (areas : BTreeMap ℤ Tally) (run : Run) (most : ℕ) → (tally_with areas run run.class).count ≤ most → (tally_at areas run.class).count + run.tally.count ≤ most
run_few areas run most h =
    let both = count-tally_join (tally_at areas run.class) (seen_from run.class run.class run.tally) in
    let own = ap (λ (t : Tally). t.count) (seen_itself run.class run.class run.tally ((Decides-int_eq run.class run.class).1 refl)) in
    omega (arith, h, both, own)

-- both together are sound
pub run_sound : (areas : BTreeMap ℤ Tally) (run : Run) → ((own : ℤ) → IsTally (tally_at areas own)) → IsTally run.tally → (own : ℤ) → IsTally (tally_with areas run own)
run_sound areas run sound here own = sound-tally_join (tally_at areas own) (seen_from own run.class run.tally) (sound own) (seen-sound own run.class run.tally here)

-- ---- runs at slots

-- classes of different slots are different ones
apart_by : (a b : ℤ) (t : Bool) → int_eq a b ≡ t → (class_slot a ≡ class_slot b → ⊥) → int_eq a b ≡ false
apart_by a b true e apart = absurd (apart (ap class_slot ((Decides-int_eq a b).0 e)))
apart_by a b false e apart = e

pub apart_slots : (a b : ℤ) → (class_slot a ≡ class_slot b → ⊥) → int_eq a b ≡ false
apart_slots a b apart = apart_by a b (int_eq a b) refl apart

-- a run of another slot has nothing of a class
pub other_slot : (areas : BTreeMap ℤ Tally) (run : Run) (own : ℤ) → (class_slot run.class ≡ class_slot own → ⊥) → tally_with areas run own ≡ tally_at areas own
other_slot areas run own apart =
    ap (tally_join (tally_at areas own)) (seen_not own run.class run.tally (apart_slots run.class own apart)) ∙ join_none (tally_at areas own) no_tally refl

-- a class is in the map no more often than in the map and the runs
pub few_at : (areas : BTreeMap ℤ Tally) (run : Run) (own : ℤ) → (tally_at areas own).count ≤ (tally_with areas run own).count
few_at areas run own =
    let both = count-tally_join (tally_at areas own) (seen_from own run.class run.tally) in
    omega (arith, both)

-- two numbers are equal or not
pub same_or_not : (m n : ℕ) → (m ≡ n) ⊎ (m ≡ n → ⊥)
same_or_not m n = grind arith

-- the run at any slot has no more of a class than the run at the class's slot
pub few_with : (areas : BTreeMap ℤ Tally) (runs : List Run) (slot most : ℕ) → AreRuns runs → slot < slots → ((own : ℤ) → (tally_with_runs areas runs own).count + 1 ≤ most) →
    (own : ℤ) → (tally_with areas (run_at runs slot) own).count + 1 ≤ most
few_with areas runs slot most are below few own = elim (same_or_not (class_slot own) slot) [
  | inl same ↦ subst (λ (s : ℕ). (tally_with areas (run_at runs s) own).count + 1 ≤ most) same (few own)
  | inr apart ↦
      let other = other_slot areas (run_at runs slot) own (λ e. apart (sym e ∙ are.own slot below)) in
      let count = ap (λ (t : Tally). t.count) other in
      let less = few_at areas (run_at runs (class_slot own)) own in
      let all = few own in
      omega (arith, count, less, all)
]

-- one more number of a class, in the run at its slot
pub runs_more : (old new : BTreeMap ℤ Tally) (runs : List Run) (run : Run) (class : ℤ) (one : Tally) → AreRuns runs → run.class ≡ class →
    ((own : ℤ) → tally_with new run own ≡ tally_join (tally_with old (run_at runs (class_slot class)) own) (seen_from own class one)) →
    (own : ℤ) → tally_with_runs new (set runs (class_slot class) run) own ≡ tally_join (tally_with_runs old runs own) (seen_from own class one)
runs_more old new runs run class one are is more own =
    let slot : ℕ = class_slot class in
    let none : Run = record { class = pos 0; tally = no_tally } in
    let below : slot < slots = mod_below (unsigned_abs class) slots (omega arith) in
    let size = are.size in
    elim (same_or_not (class_slot own) slot) [
      | inl same ↦
          ap (λ (s : ℕ). tally_with new (run_at (set runs slot run) s) own) same
          ∙ (ap (λ (r : Run). tally_with new r own) (get_or-set_same runs slot run none (omega arith))
          ∙ (more own ∙ ap (λ (s : ℕ). tally_join (tally_with old (run_at runs s) own) (seen_from own class one)) (sym same)))
      | inr apart ↦
          let new_apart : class_slot run.class ≡ class_slot own → ⊥ = λ e. apart (sym e ∙ ap class_slot is) in
          let old_apart : class_slot (run_at runs slot).class ≡ class_slot own → ⊥ = λ e. apart (sym e ∙ are.own slot below) in
          let unseen : seen_from own class one ≡ no_tally = seen_not own class one (apart_slots class own (λ e. apart (sym e))) in
          let at : tally_at new own ≡ tally_at old own =
          sym (other_slot new run own new_apart)
          ∙ (more own
          ∙ (ap (tally_join (tally_with old (run_at runs slot) own)) unseen
          ∙ (join_none (tally_with old (run_at runs slot) own) no_tally refl ∙ other_slot old (run_at runs slot) own old_apart))) in
          ap (λ (r : Run). tally_with new r own) (get_or-set_other runs slot (class_slot own) run none apart)
          ∙ (ap (λ (t : Tally). tally_join t (seen_from own (run_at runs (class_slot own)).class (run_at runs (class_slot own)).tally)) at
          ∙ (sym (join_none (tally_with_runs old runs own) no_tally refl) ∙ ap (tally_join (tally_with_runs old runs own)) (sym unseen)))
    ]

-- runs with another one of its slot
pub runs_set : (runs : List Run) (slot : ℕ) (run : Run) → AreRuns runs → slot < slots → class_slot run.class ≡ slot → IsTally run.tally → AreRuns (set runs slot run)
runs_set runs slot run are below own sound =
    let none : Run = record { class = pos 0; tally = no_tally } in
    let size = are.size in
    record {
      size = length-set runs slot run ∙ are.size;
      own = λ s less. elim (same_or_not s slot) as (λ _. class_slot (run_at (set runs slot run) s).class ≡ s) [
        | inl same ↦ ap (λ (n : ℕ). class_slot (run_at (set runs slot run) n).class) same ∙ (ap (λ (r : Run). class_slot r.class) (get_or-set_same runs slot run none (omega arith)) ∙ (own ∙ sym same))
        | inr apart ↦ ap (λ (r : Run). class_slot r.class) (get_or-set_other runs slot s run none apart) ∙ are.own s less
      ];
      sound = λ s less. elim (same_or_not s slot) as (λ _. IsTally (run_at (set runs slot run) s).tally) [
        | inl same ↦ subst (λ (n : ℕ). IsTally (run_at (set runs slot run) n).tally) (sym same) (subst (λ (r : Run). IsTally r.tally) (sym (get_or-set_same runs slot run none (omega arith))) sound)
        | inr apart ↦ subst (λ (r : Run). IsTally r.tally) (sym (get_or-set_other runs slot s run none apart)) (are.sound s less)
      ];
    }

-- both together are sound
pub runs_sound : (areas : BTreeMap ℤ Tally) (runs : List Run) → ((own : ℤ) → IsTally (tally_at areas own)) → AreRuns runs → (own : ℤ) → IsTally (tally_with_runs areas runs own)
runs_sound areas runs sound are own =
    run_sound areas (run_at runs (class_slot own)) sound (are.sound (class_slot own) (mod_below (unsigned_abs own) slots (omega arith))) own

-- ---- ending the runs, slot by slot

-- the runs of the slots before are in the map, and no other one
pub record AreEnded (start areas : BTreeMap ℤ Tally) (runs : List Run) (done : ℕ) : Type 0 where
  pub before : (own : ℤ) → class_slot own < done → tally_at areas own ≡ tally_with_runs start runs own
  pub behind : (own : ℤ) → done ≤ class_slot own → tally_at areas own ≡ tally_at start own

pub ended_more : (start old new : BTreeMap ℤ Tally) (runs : List Run) (done : ℕ) → AreRuns runs → done < slots → AreEnded start old runs done →
    ((own : ℤ) → tally_at new own ≡ tally_with old (run_at runs done) own) → AreEnded start new runs (done + 1)
ended_more start old new runs done are below ended more =
    let other : (own : ℤ) → (class_slot own ≡ done → ⊥) → tally_at new own ≡ tally_at old own =
    λ own apart. more own ∙ other_slot old (run_at runs done) own (λ e. apart (sym e ∙ are.own done below)) in
    record {
      before = λ own less. elim (same_or_not (class_slot own) done) [
        | inl same ↦
            more own
            ∙ (ap (λ (t : Tally). tally_join t (seen_from own (run_at runs done).class (run_at runs done).tally)) (ended.behind own (omega (arith, same)))
            ∙ ap (λ (s : ℕ). tally_with start (run_at runs s) own) (sym same))
        | inr apart ↦ other own apart ∙ ended.before own (let h : class_slot own < done = omega (arith, less, apart) in h)
      ];
      behind = λ own less. other own (λ e. omega (arith, less, e)) ∙ ended.behind own (omega (arith, less));
    }

pub ended_few : (start old : BTreeMap ℤ Tally) (runs : List Run) (done most : ℕ) → AreRuns runs → done < slots → AreEnded start old runs done → ((own : ℤ) → (tally_with_runs start runs own).count ≤ most) →
    (own : ℤ) → (tally_with old (run_at runs done) own).count ≤ most
ended_few start old runs done most are below ended few own = elim (same_or_not (class_slot own) done) [
  | inl same ↦
      let at = ended.behind own (omega (arith, same)) in
      let is : tally_with old (run_at runs done) own ≡ tally_with_runs start runs own =
      ap (λ (t : Tally). tally_join t (seen_from own (run_at runs done).class (run_at runs done).tally)) at ∙ ap (λ (s : ℕ). tally_with start (run_at runs s) own) (sym same) in
      let count = ap (λ (t : Tally). t.count) is in
      let all = few own in
      omega (arith, count, all)
  | inr apart ↦
      let other = ap (λ (t : Tally). t.count) (other_slot old (run_at runs done) own (λ e. apart (sym e ∙ are.own done below))) in
      elim (cases_lt (class_slot own) done) [
        | inl less ↦ let at = ap (λ (t : Tally). t.count) (ended.before own less) in let all = few own in omega (arith, other, at, all)
        | inr more ↦
            let at = ap (λ (t : Tally). t.count) (ended.behind own more) in
            let less = few_at start (run_at runs (class_slot own)) own in
            let all = few own in
            omega (arith, other, at, less, all)
      ]
]

pub ended_all : (start areas : BTreeMap ℤ Tally) (runs : List Run) (done : ℕ) → slots ≤ done → AreEnded start areas runs done → (own : ℤ) → tally_at areas own ≡ tally_with_runs start runs own
ended_all start areas runs done all ended own =
    let below : class_slot own < slots = mod_below (unsigned_abs own) slots (omega arith) in
    ended.before own (omega (arith, below, all))
