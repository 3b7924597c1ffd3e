-- Joints that are made once for each drain map and orientation.
use Rattle.std.proofs.Common.{◌≡◌, ◌∙◌, ℕ, ◌<◌, List, length, get_or, sym, ap, subst, arith, inl, inr, Bool, true, false, set}
use Rattle.std.proofs.lemmas.Bool.Decides.{eqb_tells}
use Rattle.std.proofs.lemmas.List.{get_or-set_other, get_or-set_same, length-set}
use Rattle.tile_map.specs.declared.tiling.Tiling.{Tiling}
use Rattle.drain_meaning.specs.Drains.{DrainMap}
use Rattle.border_channel.specs.declared.edge.Edge.{Edge}
use Rattle.task_graph.specs.declared.flows.FlowTasks.{FlowTasks}
use Rattle.plan_graph.specs.Borders.{IsDrained, edges_for}
use Rattle.plan_graph.specs.declared.joints.Joints.{Joints}
use Rattle.plan_graph.specs.inside.Joined.{AreJoints}
use Rattle.plan_graph.specs.inside.Made.{slot_of}
use Rattle.plan_graph.specs.inside.Slots.{AreJoined, IsOneMade, joints_for, no_joints}
use Rattle.plan_graph.proofs.BorderLemmas.{slot_below, slot_same}

-- what was made stays so
pub made_stays : (g : Tiling) (edges : List Edge) (slot : ℕ) (lists new : List Joints) (made done : List Bool) → IsOneMade g edges slot lists new made done → slot < length made →
    (k : ℕ) → get_or made k false ≡ true → get_or done k false ≡ true
made_stays g edges slot lists new made done (inl h) below k e = ap (λ (ms : List Bool). get_or ms k false) h.2 ∙ e
made_stays g edges slot lists new made done (inr h) below k e = ap (λ (ms : List Bool). get_or ms k false) h.3 ∙ elim (eqb_tells k slot) as (λ _. get_or (set made slot true) k false ≡ true) [
  | inl same ↦ ap (λ (j : ℕ). get_or (set made slot true) j false) same.1 ∙ get_or-set_same made slot true false below
  | inr apart ↦ get_or-set_other made slot k true false apart.1 ∙ e
]

-- and the joints of these edges are made
pub made_there : (g : Tiling) (edges : List Edge) (slot : ℕ) (lists new : List Joints) (made done : List Bool) → IsOneMade g edges slot lists new made done → slot < length made →
    get_or done slot false ≡ true
made_there g edges slot lists new made done (inl h) below = ap (λ (ms : List Bool). get_or ms slot false) h.2 ∙ h.0
made_there g edges slot lists new made done (inr h) below = ap (λ (ms : List Bool). get_or ms slot false) h.3 ∙ get_or-set_same made slot true false below

-- the joints that were made, with those of one transport more
pub joined_more : (g : Tiling) (drains : List DrainMap) (flow : FlowTasks) (edges : List Edge) (lists new : List Joints) (made done : List Bool) → AreJoined g drains lists made → IsDrained g drains flow →
    edges ≡ edges_for g drains flow → IsOneMade g edges (slot_of flow) lists new made done → AreJoined g drains new done
joined_more g drains flow edges lists new made done are is e (inl h) = record {
  all_lists = ap length h.1 ∙ are.all_lists;
  all_made = ap length h.2 ∙ are.all_made;
  right = λ other m. subst (λ (ls : List Joints). AreJoints g (edges_for g drains other) (joints_for ls other)) (sym h.1)
      (are.right other (ap (λ (ms : List Bool). get_or ms (slot_of other) false) (sym h.2) ∙ m));
}
joined_more g drains flow edges lists new made done are is e (inr h) =
    let below = slot_below g drains flow is in
    let size = are.all_lists in
    record {
      all_lists = ap length h.2 ∙ (length-set lists (slot_of flow) h.0 ∙ are.all_lists);
      all_made = ap length h.3 ∙ (length-set made (slot_of flow) true ∙ are.all_made);
      right = λ other m. elim (eqb_tells (slot_of other) (slot_of flow)) as (λ _. AreJoints g (edges_for g drains other) (joints_for new other)) [
        | inl same ↦
            let there : joints_for new other ≡ h.0 =
            ap (λ (ls : List Joints). get_or ls (slot_of other) no_joints) h.2
            ∙ (ap (λ (k : ℕ). get_or (set lists (slot_of flow) h.0) k no_joints) same.1 ∙ get_or-set_same lists (slot_of flow) h.0 no_joints (omega arith)) in
            subst (λ (j : Joints). AreJoints g (edges_for g drains other) j) (sym there)
            (subst (λ (xs : List Edge). AreJoints g xs h.0) (e ∙ slot_same g drains flow other (sym same.1)) h.1)
        | inr apart ↦
            let there : joints_for new other ≡ joints_for lists other =
            ap (λ (ls : List Joints). get_or ls (slot_of other) no_joints) h.2 ∙ get_or-set_other lists (slot_of flow) (slot_of other) h.0 no_joints apart.1 in
            subst (λ (j : Joints). AreJoints g (edges_for g drains other) j) (sym there)
            (are.right other (sym (ap (λ (ms : List Bool). get_or ms (slot_of other) false) h.3 ∙ get_or-set_other made (slot_of flow) (slot_of other) true false apart.1) ∙ m))
      ];
    }
