use Rattle.std.proofs.Common.{arith, ◌≡◌, ◌∙◌, ℕ, ◌+◌, ◌<◌, ◌^◌, ◌++◌, ◌∷◌, [], List, ap, get_or, length, map, subst, sym, take, length-append}
use Rattle.std.specs.Prelude.{slice_index}
use Rattle.std.specs.List.{flat_map}
use Rattle.std.proofs.lemmas.List.{get_or_default}
use Rattle.task_graph.specs.declared.flows.FlowTasks.{FlowTasks}
use Rattle.plan_graph.specs.Borders.{no_flow}
use Rattle.plan_graph.specs.declared.joints.Joints.{Joints}
use Rattle.plan_graph.specs.inside.Channels.{channels_before, receivers_for, rooms_for}
use Rattle.plan_graph.specs.inside.Made.{slot_of}
use Rattle.plan_graph.specs.inside.Slots.{joints_for, no_joints}
use Rattle.plan_graph.proofs.ChannelLemmas.{flat_more, pushed_more}
use Rattle.plan_graph.proofs.channels.channels_of.Goals as goal

pub add_receivers-requires : goal.add_receivers-requires
add_receivers-requires c =
    let flows = c.args.flows.now in
    let lists = c.args.joints.now in
    let f = c.loop-flow.flow-index in
    let flow : FlowTasks = get_or flows f no_flow in
    let low : f < length flows = omega arith in
    let own = c.index-as_slice-slot.result in
    let is : own ≡ joints_for lists flow =
    c.index-as_slice-slot.is
    ∙ (ap (λ (js : List Joints). get_or js c.slot.result own) c.as_slice.ensures
    ∙ (ap (λ (k : ℕ). get_or lists k own) c.slot.ensures ∙ get_or_default lists (slot_of flow) own no_joints (c.requires.there f low))) in
    subst (λ (ts : List ℕ). (i : ℕ) → i < length ts → flow.first + slice_index ts i < 2 ^ 32) (sym (c.as_slice-in-loop-flow.ensures ∙ ap (λ (j : Joints). j.tiles) is)) (c.requires.fit f low)

pub loop-flow-preserved : goal.loop-flow-preserved
loop-flow-preserved c =
    let flows = c.args.flows.now in
    let lists = c.args.joints.now in
    let f = c.loop-flow.flow-index in
    let flow : FlowTasks = get_or flows f no_flow in
    let low : f < length flows = omega arith in
    let own = c.index-as_slice-slot.result in
    let is : own ≡ joints_for lists flow =
    c.index-as_slice-slot.is
    ∙ (ap (λ (js : List Joints). get_or js c.slot.result own) c.as_slice.ensures
    ∙ (ap (λ (k : ℕ). get_or lists k own) c.slot.ensures ∙ get_or_default lists (slot_of flow) own no_joints (c.requires.there f low))) in
    let tiles : c.as_slice-in-loop-flow.result.now ≡ (joints_for lists flow).tiles = c.as_slice-in-loop-flow.ensures ∙ ap (λ (j : Joints). j.tiles) is in
    let rooms : c.as_slice-in-loop-flow-2.result.now ≡ (joints_for lists flow).rooms = c.as_slice-in-loop-flow-2.ensures ∙ ap (λ (j : Joints). j.rooms) is in
    let before = c.loop-flow.invariant in
    let x = c.in_ok-number.field-0 in
    let number : x ≡ channels_before lists flows f = let size = ap length before.receivers in omega (arith, c.in_ok-number.ensures, c.loop-flow.receivers.ok.0) in
    let pushed : c.push.new.self.items ≡ c.loop-flow.firsts.items ++ x ∷ [] = c.in_ok-push.ensures.items in
    record {
      many = let e = ap length pushed ∙ length-append c.loop-flow.firsts.items (x ∷ []) in let m = before.many in omega arith;
      firsts = subst (λ (xs : List ℕ). (k : ℕ) → k < f + 1 → get_or xs k 0 ≡ channels_before lists flows k) (sym pushed)
          (pushed_more (channels_before lists flows) c.loop-flow.firsts.items f x before.many before.firsts number);
      receivers = c.in_ok-add_receivers.ensures
          ∙ (ap (λ (xs : List ℕ). xs ++ map (λ (tile : ℕ). flow.first + tile) c.as_slice-in-loop-flow.result.now) before.receivers
          ∙ (ap (λ (ts : List ℕ). flat_map (receivers_for lists) (take f flows) ++ map (λ (tile : ℕ). flow.first + tile) ts) tiles ∙ sym (flat_more (receivers_for lists) flows f no_flow low)));
      rooms = c.in_ok-extend_from_slice.ensures.items
          ∙ (ap (λ (xs : List ℕ). xs ++ c.as_slice-in-loop-flow-2.result.now) before.rooms
          ∙ (ap (λ (rs : List ℕ). flat_map (rooms_for lists) (take f flows) ++ rs) rooms ∙ sym (flat_more (rooms_for lists) flows f no_flow low)));
    }
