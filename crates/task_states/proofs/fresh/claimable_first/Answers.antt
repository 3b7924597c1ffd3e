use Rattle.std.proofs.Common.{ℕ, ◌+◌, ◌-◌, ◌<◌, ◌≤◌, List, [], ◌∷◌, ◌++◌, length, get_or, ap, sym, ◌∙◌, subst, arith, eq-eqb, ne_eqb, Vec, Global, vec_capacity}
use mathlib.Core.Logic.{dite}
use native.Mathlib.Decide.{dec_le, ℕ_discrete}
use Rattle.core_model.specs.Counts.{flag}
use Rattle.core_model.specs.Graphs.{Each}
use Rattle.task_states.specs.declared.states.TaskState.TheVariants.{Ready}
use Rattle.number_lists.specs.Turned.{times}
use Rattle.task_states.specs.States.{due}
use Rattle.task_states.proofs.ListLemmas.{each_snoc, each_weaken, room_for, times_last_other, times_last_same, times_out}
use Rattle.task_states.proofs.StateLemmas.{due_most}
use Rattle.task_states.proofs.fresh.claimable_first.Goals.{then-unmet-task-eq0, else-unmet-task-eq0}
use Rattle.task_states.proofs.fresh.claimable_first.Goals as goal

pub push_reserved-requires : goal.push_reserved-requires
push_reserved-requires c =
    let us : List ℕ = c.args.unmet.now in let count : ℕ = length us in let back : ℕ = c.loop-back.back in let cs : List ℕ = c.loop-back.claimable.items in
    let i = c.loop-back.invariant in let t : ℕ = count - 1 - back in
    let none' = times_out (λ u. (count ≤ u + back) × (u < count)) t cs i.within (λ q. let a = q.0 in omega arith) in
    let l = room_for count cs t (each_weaken (λ u. (count ≤ u + back) × (u < count)) (λ u. u < count) cs (λ u q. q.1) i.within) (omega arith) none'
    (λ u u_lt. dite (dec_le count (u + back))
    (λ le. let d = i.due u u_lt le in let m = due_most Ready (get_or us u 0) in omega arith)
    (λ gt. let z = times_out (λ v. (count ≤ v + back) × (v < count)) u cs i.within (λ q. let a = q.0 in omega arith) in omega arith)) in
    let k = c.loop-back.claimable.ok.0 in let r = i.room in omega arith

pub loop-back-preserved : goal.loop-back-preserved
loop-back-preserved c =
    let us : List ℕ = c.args.unmet.now in let count : ℕ = length us in let back : ℕ = c.loop-back.back in let cs : List ℕ = c.loop-back.claimable.items in
    let i = c.loop-back.invariant in let t : ℕ = count - 1 - back in
    let none' = times_out (λ u. (count ≤ u + back) × (u < count)) t cs i.within (λ q. let a = q.0 in omega arith) in
    let wider = each_weaken (λ u. (count ≤ u + back) × (u < count)) (λ u. (count ≤ u + (back + 1)) × (u < count)) cs (λ u q. (let a = q.0 in omega arith, q.1)) i.within in
    record {
      within = elim c.if-unmet-task-eq0.branch [
        | then-unmet-task-eq0 w ↦ subst (λ (l : List ℕ). Each (λ u. (count ≤ u + (back + 1)) × (u < count)) l) (sym (ap (λ (v : Vec ℕ Global). v.items) w.claimable-is ∙ w.push_reserved.ensures.items))
            (each_snoc (λ u. (count ≤ u + (back + 1)) × (u < count)) cs t wider (omega arith, omega arith))
        | else-unmet-task-eq0 w ↦ subst (λ (l : List ℕ). Each (λ u. (count ≤ u + (back + 1)) × (u < count)) l) (sym (ap (λ (v : Vec ℕ Global). v.items) w.claimable-is)) wider
      ];
      due = λ u u_lt le. elim c.if-unmet-task-eq0.branch [
        | then-unmet-task-eq0 w ↦ ap (λ (v : Vec ℕ Global). times u v.items) w.claimable-is ∙ ap (times u) w.push_reserved.ensures.items ∙ dite (ℕ_discrete u t)
            (λ e. ap (λ k. times k (cs ++ t ∷ [])) e ∙ times_last_same t cs ∙ ap (λ k. k + 1) none' ∙ sym (ap (λ k. due Ready (get_or us k 0)) e ∙ ap flag (eq-eqb (get_or us t 0) 0 w.if-unmet-task-eq0.true)))
            (λ ne. times_last_other u t cs ne ∙ i.due u u_lt (omega arith))
        | else-unmet-task-eq0 w ↦ ap (λ (v : Vec ℕ Global). times u v.items) w.claimable-is ∙ dite (ℕ_discrete u t)
            (λ e. ap (λ k. times k cs) e ∙ none' ∙ sym (ap (λ k. due Ready (get_or us k 0)) e ∙ ap flag (ne_eqb (get_or us t 0) 0 w.if-unmet-task-eq0.false)))
            (λ ne. i.due u u_lt (omega arith))
      ];
      room = elim c.if-unmet-task-eq0.branch [
        | then-unmet-task-eq0 w ↦ (let a = ap vec_capacity w.claimable-is in let b = w.push_reserved.ensures.capacity in let r = i.room in omega arith)
        | else-unmet-task-eq0 w ↦ (let a = ap vec_capacity w.claimable-is in let r = i.room in omega arith)
      ];
    }

pub returns-clause-within : goal.returns-clause-within
returns-clause-within c =
    let us : List ℕ = c.args.unmet.now in let count : ℕ = length us in let back : ℕ = c.loop-back.back in
    each_weaken (λ u. (count ≤ u + back) × (u < count)) (λ u. u < count) c.loop-back.claimable.items (λ u q. q.1) c.loop-back.invariant.within
