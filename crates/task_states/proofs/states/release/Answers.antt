use Rattle.std.proofs.Common.{◌≡◌, ℕ, ◌-◌, ◌<◌, List, [], ◌∷◌, ◌++◌, length, get_or, set, refl, ap, sym, ◌∙◌, subst, arith, Vec, Global, vec_capacity}
use Rattle.std.proofs.lemmas.List.{length-set}
use Rattle.core_model.specs.Graphs.{Each}
use Rattle.task_states.specs.declared.states.TaskState.TheVariants.{Ready}
use Rattle.number_lists.specs.Turned.{times}
use Rattle.task_states.specs.States.{state_at}
use Rattle.task_states.proofs.ListLemmas.{owed_here, unmet_more, each_get, each_snoc}
use Rattle.task_states.proofs.StateLemmas.{released_last, released_more, released_room}
use Rattle.task_states.proofs.states.release.Goals.{then-left-eq0, else-left-eq0}
use Rattle.task_states.proofs.states.release.Goals as goal

pub overflow_sub-left : goal.overflow_sub-left
overflow_sub-left c =
    let xs : List ℕ = c.args.readers.now in
    let r : ℕ = get_or xs c.loop-r.r-index 0 in
    owed_here xs c.loop-r.r-index r refl (omega arith) (get_or c.args.unmet.now r 0) (get_or c.loop-r.unmet r 0) (c.loop-r.invariant.unmet r) (c.requires.owed r)

pub push_reserved-requires : goal.push_reserved-requires
push_reserved-requires c =
    let xs : List ℕ = c.args.readers.now in
    let i : ℕ = c.loop-r.r-index in
    let r : ℕ = get_or xs i 0 in
    let us : List ℕ = c.loop-r.unmet in
    let i_lt : i < length xs = omega arith in
    let all = c.loop-r.auto.unmet in
    let here = each_get (λ k. (k < length c.args.unmet.now) × (state_at c.args.states.now k ≡ Ready)) xs i 0 c.requires.ready i_lt in
    let some = owed_here xs i r refl i_lt (get_or c.args.unmet.now r 0) (get_or us r 0) (c.loop-r.invariant.unmet r) (c.requires.owed r) in
    let room = released_room c.args.states.now us c.loop-r.claimable.items r here.1 (let a = here.0 in omega arith) some c.loop-r.invariant.due c.loop-r.invariant.within in
    let l = c.loop-r.claimable.ok.0 in let q = c.requires.room in let k = c.loop-r.invariant.capacity in omega arith

pub loop-r-preserved : goal.loop-r-preserved
loop-r-preserved c =
    let xs : List ℕ = c.args.readers.now in
    let i : ℕ = c.loop-r.r-index in
    let r : ℕ = get_or xs i 0 in
    let us : List ℕ = c.loop-r.unmet in
    let i_lt : i < length xs = omega arith in
    let all = c.loop-r.auto.unmet in
    let here = each_get (λ k. (k < length c.args.unmet.now) × (state_at c.args.states.now k ≡ Ready)) xs i 0 c.requires.ready i_lt in
    let lt : r < length us = (let a = here.0 in omega arith) in
    let some = owed_here xs i r refl i_lt (get_or c.args.unmet.now r 0) (get_or us r 0) (c.loop-r.invariant.unmet r) (c.requires.owed r) in
    let same = length-set us r (get_or us r 0 - 1) in
    record {
      unmet = λ t. unmet_more xs i r refl i_lt us (get_or c.args.unmet.now t 0) t lt some (c.loop-r.invariant.unmet t);
      due = λ t t_lt. elim c.if-left-eq0.branch [
        | then-left-eq0 w ↦ ap (λ (v : Vec ℕ Global). times t v.items) w.claimable-is ∙ ap (times t) w.push_reserved.ensures.items
            ∙ released_last c.args.states.now us c.loop-r.claimable.items r here.1 lt some c.loop-r.invariant.due w.if-left-eq0.true t (omega arith)
        | else-left-eq0 w ↦ ap (λ (v : Vec ℕ Global). times t v.items) w.claimable-is
            ∙ released_more c.args.states.now us c.loop-r.claimable.items r here.1 lt some c.loop-r.invariant.due w.if-left-eq0.false t (omega arith)
      ];
      within = elim c.if-left-eq0.branch [
        | then-left-eq0 w ↦ subst (λ (l : List ℕ). Each (λ t. t < length (set us r (get_or us r 0 - 1))) l) (sym (ap (λ (v : Vec ℕ Global). v.items) w.claimable-is ∙ w.push_reserved.ensures.items))
            (subst (λ n. Each (λ t. t < n) (c.loop-r.claimable.items ++ r ∷ [])) (sym same) (each_snoc (λ t. t < length us) c.loop-r.claimable.items r c.loop-r.invariant.within lt))
        | else-left-eq0 w ↦ subst (λ (l : List ℕ). Each (λ t. t < length (set us r (get_or us r 0 - 1))) l) (sym (ap (λ (v : Vec ℕ Global). v.items) w.claimable-is))
            (subst (λ n. Each (λ t. t < n) c.loop-r.claimable.items) (sym same) c.loop-r.invariant.within)
      ];
      capacity = elim c.if-left-eq0.branch [
        | then-left-eq0 w ↦ ap vec_capacity w.claimable-is ∙ w.push_reserved.ensures.capacity ∙ c.loop-r.invariant.capacity
        | else-left-eq0 w ↦ ap vec_capacity w.claimable-is ∙ c.loop-r.invariant.capacity
      ];
    }

pub returns-clause-within : goal.returns-clause-within
returns-clause-within c = subst (λ n. Each (λ t. t < n) c.loop-r.claimable.items) c.loop-r.auto.unmet c.loop-r.invariant.within
