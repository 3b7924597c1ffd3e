use Rattle.std.proofs.Common.{arith, ◌≡◌, ◌∙◌, ℕ, ◌%◌, ◌<◌, List, ap, length, map, subst, sym}
use Rattle.std.specs.Prelude.{slice_index}
use Rattle.std.specs.List.{Contains}
use Rattle.task_graph.proofs.Callers.{some_tiles}
use Rattle.plan_graph.specs.Joints.{joints_of}
use Rattle.plan_graph.specs.inside.Distinct.{IsSortedSet}
use Rattle.plan_graph.specs.inside.Joined.{number_counts, edge_joints, joint_tiles, number_place}
use Rattle.plan_graph.specs.inside.Places.{places_by_number}
use Rattle.plan_graph.proofs.JoinedLemmas.{in_set, joints_below, joints_by_edge, set_of_joints, tiles_below}
use Rattle.plan_graph.proofs.joints.joints_of.Goals as goal

pub found_in-requires-clause-there : goal.found_in-requires-clause-there
found_in-requires-clause-there c =
    let pairs = c.in_ok-pairs.pairs.items in
    let found = c.in_ok-set.set.items in
    let is : IsSortedSet pairs found = subst (λ (xs : List ℕ). IsSortedSet xs found) c.deref.ensures.value c.in_ok-set.ensures in
    subst (λ (xs : List ℕ). (i : ℕ) → i < length xs → Contains c.deref-2.result.now (slice_index xs i)) (sym c.deref-3.ensures.value)
    (subst (λ (ys : List ℕ). (i : ℕ) → i < length pairs → Contains ys (slice_index pairs i)) (sym c.deref-2.ensures.value) (in_set pairs found is))

pub joint_tiles-requires : goal.joint_tiles-requires
joint_tiles-requires c = let some = some_tiles c.args.tiling.now in omega arith

pub number_counts-requires-clause-below : goal.number_counts-requires-clause-below
number_counts-requires-clause-below c =
    let pairs = c.in_ok-pairs.pairs.items in
    let found = c.in_ok-set.set.items in
    let is : IsSortedSet pairs found = subst (λ (xs : List ℕ). IsSortedSet xs found) c.deref.ensures.value c.in_ok-set.ensures in
    let same : c.deref-5.result.now ≡ map (number_place found) pairs =
    c.deref-5.ensures.value ∙ (c.in_ok-joints.ensures ∙ (ap (λ (xs : List ℕ). map (number_place xs) c.deref-3.result.now) c.deref-2.ensures.value ∙ ap (map (number_place found)) c.deref-3.ensures.value)) in
    subst (λ (xs : List ℕ). (i : ℕ) → i < length xs → slice_index xs i < c.len.result) (sym same)
    (λ i low. let h = joints_below pairs found is i low in omega (arith, c.in_ok-set.set.ok.0))

pub places_by_number-requires-clause-below : goal.places_by_number-requires-clause-below
places_by_number-requires-clause-below c =
    let some = some_tiles c.args.tiling.now in
    let same : c.deref-6.result.now ≡ map (λ p. p % c.count.result) c.deref-4.result.now = c.deref-6.ensures.value ∙ c.in_ok-tiles.ensures in
    subst (λ (xs : List ℕ). (i : ℕ) → i < length xs → slice_index xs i < c.count-2.result) (sym same)
    (λ i low. let h = tiles_below c.deref-4.result.now c.count.result (omega arith) i low in omega arith)

pub returns : goal.returns
returns c =
    let g = c.args.tiling.now in
    let edges = c.args.edges.now in
    let pairs = c.in_ok-pairs.pairs.items in
    let found = c.in_ok-set.set.items in
    let sorted : IsSortedSet pairs found = subst (λ (xs : List ℕ). IsSortedSet xs found) c.deref.ensures.value c.in_ok-set.ensures in
    let is : found ≡ joints_of g edges = set_of_joints g edges found c.requires.within (subst (λ (xs : List ℕ). IsSortedSet xs found) c.in_ok-pairs.ensures sorted) in
    let numbers : c.in_ok-joints.joints.items ≡ edge_joints g edges =
    c.in_ok-joints.ensures
    ∙ (ap (λ (xs : List ℕ). map (number_place xs) c.deref-3.result.now) c.deref-2.ensures.value
    ∙ (ap (map (number_place found)) (c.deref-3.ensures.value ∙ c.in_ok-pairs.ensures) ∙ joints_by_edge g edges found is)) in
    let tiles : c.in_ok-tiles.tiles.items ≡ joint_tiles g edges =
    c.in_ok-tiles.ensures
    ∙ (ap (map (λ p. p % c.count.result)) (c.deref-4.ensures.value ∙ is) ∙ ap (λ (n : ℕ). map (λ p. p % n) (joints_of g edges)) c.count.ensures) in
    let many : c.len.result ≡ length (joints_of g edges) = let size = ap length is in omega (arith, c.in_ok-set.set.ok.0) in
    record {
      outbound = c.in_ok-edges_out_of.ensures;
      inbound = c.in_ok-edges_into.ensures;
      joints = c.from_vec.ensures ∙ numbers;
      tiles = c.from_vec-2.ensures ∙ tiles;
      rooms = c.from_vec-3.ensures ∙ (c.in_ok-rooms.ensures ∙ (ap (λ (xs : List ℕ). number_counts xs c.len.result) (c.deref-5.ensures.value ∙ numbers) ∙ ap (number_counts (edge_joints g edges)) many));
      into = c.in_ok-into.ensures ∙ (ap (λ (xs : List ℕ). places_by_number xs c.count-2.result) (c.deref-6.ensures.value ∙ tiles) ∙ ap (places_by_number (joint_tiles g edges)) c.count-2.ensures);
    }
