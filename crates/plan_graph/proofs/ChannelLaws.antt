-- The channels of the graph of a plan, as they are kept.
use Rattle.std.proofs.Common.{◌≡◌, ◌∙◌, ℕ, ◌+◌, ◌%◌, ◌<◌, ◌≤◌, ◌^◌, List, [], ◌∷◌, length, get_or, map, take, refl, sym, ap, subst, arith, inl, inr, true}
use Rattle.std.specs.Prelude.{◌==◌, slice_index}
use Rattle.std.specs.List.{Contains, filter, flat_map, range_with_len}
use Rattle.std.proofs.lemmas.Bool.{eq-eqb}
use Rattle.std.proofs.Math.Nat.{mod-lt}
use Rattle.std.proofs.lemmas.List.{get_or-map, length-map}
use Rattle.std.proofs.lemmas.List.FromFn.{fill_by_all, get_or-map-range_with_len, length-map-range_with_len}
use Rattle.core_model.specs.Counts.{flag, sum_below}
use Rattle.number_lists.specs.Lists.{numbers_in}
use Rattle.number_lists.specs.Turned.{times}
use Rattle.tile_map.specs.Tiles.{tile_count}
use Rattle.drain_meaning.specs.Drains.{DrainMap}
use Rattle.drain_meaning.proofs.Callers.{contains_cases, contains_first, contains_later, kept_passes}
use Rattle.border_channel.specs.declared.edge.Edge.{Edge}
use Rattle.border_channel.specs.Edges.{edge, edge_at}
use Rattle.border_channel.proofs.Callers.{Rises, filter-keeps, filter_rises, range_rises}
use Rattle.map_meaning.specs.declared.known.Span.{Span}
use Rattle.task_graph.specs.declared.flows.FlowTasks.{FlowTasks}
use Rattle.task_graph.specs.Limits.{most_needs, most_tasks}
use Rattle.task_graph.specs.Plans.{PlanValue}
use Rattle.task_graph.proofs.Callers.{some_tiles}
use Rattle.plan_graph.specs.Borders.{borders_of, edges_for, no_flow, transport_at}
use Rattle.plan_graph.specs.Graphs.{core_graph, joints_in}
use Rattle.plan_graph.specs.Joints.{joint_into, joint_of, joints_of, pair_of}
use Rattle.plan_graph.specs.Numbered.{count_all, count_before, list_of_number, place_of_number}
use Rattle.plan_graph.specs.PlanGraphs.{edges_of, graph_of, with_drains}
use Rattle.plan_graph.specs.Transports.{task_transport}
use Rattle.plan_graph.specs.declared.channels.Channels.{Channels}
use Rattle.plan_graph.specs.declared.joints.Joints.{Joints}
use Rattle.plan_graph.specs.inside.Channels.{AreChannels, receivers_for, rooms_for}
use Rattle.plan_graph.specs.inside.Joined.{edge_joints, joint_tiles}
use Rattle.plan_graph.specs.inside.Kept.{CanKeep, IsFirstChannel, KeepsLists}
use Rattle.plan_graph.specs.inside.Numbers.{AreTold}
use Rattle.plan_graph.specs.inside.Places.{places_with}
use Rattle.plan_graph.specs.inside.Slots.{HaveJoints, joints_for}
use Rattle.plan_graph.proofs.EdgeLemmas.{border_is, goes_within, in_tiles, many_borders}
use Rattle.plan_graph.proofs.JoinedLemmas.{map_twice}
use Rattle.plan_graph.proofs.JointLemmas.{is_joint}
use Rattle.plan_graph.proofs.NumberedLemmas.{is_numbered, stands_in}
use Rattle.plan_graph.proofs.PlanLemmas.{fitting_keeps}
use Rattle.plan_graph.proofs.PointLemmas.{channel_number_is, channel_of_edge, channel_of_is, joints_at}
use Rattle.plan_graph.proofs.RiseLemmas.{range_below, range_has, rises_same, test_false}
use Rattle.plan_graph.proofs.SumLemmas.{flat_at, flat_before, flat_length, plus_test, sum_at_list, sum_times}
use Rattle.plan_graph.proofs.TaskNumbers.{Fits, of_transport}
use Rattle.plan_graph.proofs.TransportLaws.{are_drained}

-- numbers that rise do so after the same was added
plus_has : (a : ℕ) (xs : List ℕ) (y : ℕ) → Contains (map (λ j. a + j) xs) y → (x : ℕ) × Contains xs x × (a + x ≡ y)
plus_has a [] y h = absurd (omega (arith, h.1))
plus_has a (x ∷ xs) y h = elim (contains_cases (a + x) (map (λ j. a + j) xs) y h) as (λ _. (z : ℕ) × Contains (x ∷ xs) z × (a + z ≡ y)) [
  | inl same ↦ (x, contains_first x xs, sym same)
  | inr later ↦ let r = plus_has a xs y later in (r.0, contains_later x xs r.0 r.1, r.2)
]

has_plus : (a : ℕ) (xs : List ℕ) (x : ℕ) → Contains xs x → Contains (map (λ j. a + j) xs) (a + x)
has_plus a [] x h = absurd (omega (arith, h.1))
has_plus a (y ∷ xs) x h = elim (contains_cases y xs x h) as (λ _. Contains (map (λ j. a + j) (y ∷ xs)) (a + x)) [
  | inl same ↦ subst (λ (z : ℕ). Contains (map (λ j. a + j) (y ∷ xs)) (a + z)) (sym same) (contains_first (a + y) (map (λ j. a + j) xs))
  | inr later ↦ contains_later (a + y) (map (λ j. a + j) xs) (a + x) (has_plus a xs x later)
]

plus_rises : (a : ℕ) (xs : List ℕ) → Rises xs → Rises (map (λ j. a + j) xs)
plus_rises a [] r = tt
plus_rises a (x ∷ xs) r = ((λ y h. let e = plus_has a xs y h in let low = r.0 e.0 e.1 in let is = e.2 in omega arith), plus_rises a xs r.1)

module _ {plan : PlanValue} {drains : List DrainMap} (fits : Fits plan drains) (s : Span) where
  -- the joints of all transports
  joints_by_flow : joints_in plan.tiling (borders_of plan drains) ≡ map (λ x. joints_of plan.tiling (edges_for plan.tiling drains x)) plan.flows
  joints_by_flow = map_twice (joints_of plan.tiling) (edges_for plan.tiling drains) plan.flows

  tiles_alike : (joints : List Joints) → HaveJoints plan.tiling drains plan.flows joints → (k : ℕ) → k < length plan.flows →
      length (receivers_for joints (get_or plan.flows k no_flow)) ≡ length (joints_of plan.tiling (edges_for plan.tiling drains (get_or plan.flows k no_flow)))
  tiles_alike joints have k low =
      let x : FlowTasks = get_or plan.flows k no_flow in
      length-map (joints_for joints x).tiles (λ (tile : ℕ). x.first + tile)
      ∙ (ap length (have k low).are.tiles ∙ length-map (joints_of plan.tiling (edges_for plan.tiling drains x)) (λ (p : ℕ). p % tile_count plan.tiling))

  rooms_alike : (joints : List Joints) → HaveJoints plan.tiling drains plan.flows joints → (k : ℕ) → k < length plan.flows →
      length (rooms_for joints (get_or plan.flows k no_flow)) ≡ length (joints_of plan.tiling (edges_for plan.tiling drains (get_or plan.flows k no_flow)))
  rooms_alike joints have k low =
      let es = edges_for plan.tiling drains (get_or plan.flows k no_flow) in
      ap length (have k low).are.rooms ∙ length-map-range_with_len (λ (j : ℕ). times j (edge_joints plan.tiling es)) 0 (length (joints_of plan.tiling es))

  -- the first channel of a transport
  pub first_is : (joints : List Joints) → HaveJoints plan.tiling drains plan.flows joints → (f : ℕ) →
      length (flat_map (receivers_for joints) (take f plan.flows)) ≡ count_before (joints_in plan.tiling (borders_of plan drains)) f
  first_is joints have f =
      flat_before (receivers_for joints) (λ x. joints_of plan.tiling (edges_for plan.tiling drains x)) plan.flows no_flow f (tiles_alike joints have)
      ∙ sym (ap (λ (js : List (List ℕ)). count_before js f) joints_by_flow)

  pub many_channels : (joints : List Joints) → HaveJoints plan.tiling drains plan.flows joints → length (flat_map (receivers_for joints) plan.flows) ≡ count_all (joints_in plan.tiling (borders_of plan drains))
  many_channels joints have =
      flat_length (receivers_for joints) (λ x. joints_of plan.tiling (edges_for plan.tiling drains x)) plan.flows no_flow (tiles_alike joints have)
      ∙ sym (ap (λ (js : List (List ℕ)). count_all js) joints_by_flow)

  many_rooms : (joints : List Joints) → HaveJoints plan.tiling drains plan.flows joints → length (flat_map (rooms_for joints) plan.flows) ≡ count_all (joints_in plan.tiling (borders_of plan drains))
  many_rooms joints have =
      flat_length (rooms_for joints) (λ x. joints_of plan.tiling (edges_for plan.tiling drains x)) plan.flows no_flow (rooms_alike joints have)
      ∙ sym (ap (λ (js : List (List ℕ)). count_all js) joints_by_flow)

  -- where a channel's joint stands
  pub record ChannelAt (c : ℕ) : Type 0 where
    pub within : list_of_number (joints_in plan.tiling (borders_of plan drains)) c < length plan.flows
    pub below : place_of_number (joints_in plan.tiling (borders_of plan drains)) c
        < length (joints_of plan.tiling (get_or (borders_of plan drains) (list_of_number (joints_in plan.tiling (borders_of plan drains)) c) []))
    pub number : count_before (joints_in plan.tiling (borders_of plan drains)) (list_of_number (joints_in plan.tiling (borders_of plan drains)) c)
        + place_of_number (joints_in plan.tiling (borders_of plan drains)) c ≡ c

  pub channel_at : (c : ℕ) → c < count_all (joints_in plan.tiling (borders_of plan drains)) → ChannelAt c
  channel_at c low =
      let borders = borders_of plan drains in
      let joints = joints_in plan.tiling borders in
      let at = stands_in joints c low in
      let many = length-map borders (joints_of plan.tiling) in
      let flows = many_borders fits in
      let list = at.list in
      let within : list_of_number joints c < length plan.flows = omega arith in
      let size = ap length (joints_at fits (list_of_number joints c) within) in
      let place = at.place in
      record { within = within; below = omega arith; number = at.number }

  -- the task that a channel leads into
  receiver_is : (joints : List Joints) → HaveJoints plan.tiling drains plan.flows joints → (c : ℕ) → c < count_all (joints_in plan.tiling (borders_of plan drains)) →
      get_or (flat_map (receivers_for joints) plan.flows) c 0 ≡ (core_graph plan drains).into c
  receiver_is joints have c low =
      let g = plan.tiling in
      let all = joints_in g (borders_of plan drains) in
      let at = channel_at c low in
      let f = list_of_number all c in
      let j = place_of_number all c in
      let x : FlowTasks = transport_at plan f in
      let own = joints_of g (edges_for g drains x) in
      let same = border_is fits f at.within in
      let below : j < length own = subst (λ (es : List Edge). j < length (joints_of g es)) same at.below in
      let tiles = (have f at.within).are.tiles in
      let into = (channel_number_is fits f j at.within at.below).into in
      let many = ap length tiles ∙ length-map own (λ (p : ℕ). p % tile_count g) in
      flat_at (receivers_for joints) (λ y. joints_of g (edges_for g drains y)) plan.flows no_flow f j c (tiles_alike joints have) at.within below
      (sym (ap (λ (js : List (List ℕ)). count_before js f + j) joints_by_flow) ∙ at.number)
      ∙ (get_or-map (λ (tile : ℕ). x.first + tile) (joints_for joints x).tiles j 0 0 (omega arith)
      ∙ (ap (λ (ts : List ℕ). x.first + get_or ts j 0) tiles
      ∙ (ap (λ (n : ℕ). x.first + n) (get_or-map (λ (p : ℕ). p % tile_count g) own j 0 0 below)
      ∙ (ap (λ (es : List Edge). x.first + joint_into g (joints_of g es) j) (sym same) ∙ (sym into ∙ ap (core_graph plan drains).into at.number)))))

  -- how many edges a channel has
  edges_are : (c : ℕ) → c < count_all (joints_in plan.tiling (borders_of plan drains)) →
      sum_below (count_all (borders_of plan drains)) (λ e. flag ((core_graph plan drains).channel_of e == c))
      ≡ times (place_of_number (joints_in plan.tiling (borders_of plan drains)) c) (edge_joints plan.tiling (get_or (borders_of plan drains) (list_of_number (joints_in plan.tiling (borders_of plan drains)) c) []))
  edges_are c low =
      let g = plan.tiling in
      let borders = borders_of plan drains in
      let all = joints_in g borders in
      let at = channel_at c low in
      let f = list_of_number all c in
      let j = place_of_number all c in
      let es = get_or borders f [] in
      let flows = many_borders fits in
      let many = length-map borders (joints_of g) in
      let here = at.within in
      let size = length-map es (λ (e : Edge). joint_of g es (pair_of g e)) in
      sum_at_list borders (λ e. flag ((core_graph plan drains).channel_of e == c)) (λ k. flag (get_or (edge_joints g es) k 0 == j)) f (omega arith)
      (λ k below.
      ap (λ (n : ℕ). flag (n == c)) (channel_of_is fits f k at.within below)
      ∙ (ap (λ (n : ℕ). flag (count_before all f + joint_of g es (pair_of g (edge_at es k)) == n)) (sym at.number)
      ∙ (ap flag (plus_test (count_before all f) (joint_of g es (pair_of g (edge_at es k))) j)
      ∙ ap (λ (n : ℕ). flag (n == j)) (sym (get_or-map (λ (e : Edge). joint_of g es (pair_of g e)) es k (edge 0 0) 0 below)))))
      (λ i k less apart below.
      let within : i < length plan.flows = omega arith in
      let own = get_or borders i [] in
      let y = joint_of g own (pair_of g (edge_at own k)) in
      let joint = is_joint g own (in_tiles fits i within) k below in
      let there = ap length (joints_at fits i within) in
      let y_below = joint.below in
      let number = is_numbered all i y (omega arith) (omega arith) in
      ap (λ (n : ℕ). flag (n == c)) (channel_of_is fits i k within below)
      ∙ ap flag (test_false (count_before all i + y) c (λ e. apart (sym number.list ∙ ap (list_of_number all) e))))
      ∙ (ap (λ (n : ℕ). sum_below n (λ k. flag (get_or (edge_joints g es) k 0 == j))) (sym size) ∙ sum_times (edge_joints g es) j)

  room_is : (joints : List Joints) → HaveJoints plan.tiling drains plan.flows joints → (c : ℕ) → c < count_all (joints_in plan.tiling (borders_of plan drains)) →
      get_or (flat_map (rooms_for joints) plan.flows) c 0 ≡ sum_below (count_all (borders_of plan drains)) (λ e. flag ((core_graph plan drains).channel_of e == c))
  room_is joints have c low =
      let g = plan.tiling in
      let all = joints_in g (borders_of plan drains) in
      let at = channel_at c low in
      let f = list_of_number all c in
      let j = place_of_number all c in
      let x : FlowTasks = transport_at plan f in
      let own = joints_of g (edges_for g drains x) in
      let same = border_is fits f at.within in
      let below : j < length own = subst (λ (es : List Edge). j < length (joints_of g es)) same at.below in
      flat_at (rooms_for joints) (λ y. joints_of g (edges_for g drains y)) plan.flows no_flow f j c (rooms_alike joints have) at.within below
      (sym (ap (λ (js : List (List ℕ)). count_before js f + j) joints_by_flow) ∙ at.number)
      ∙ (ap (λ (rs : List ℕ). get_or rs j 0) (have f at.within).are.rooms
      ∙ (get_or-map-range_with_len (λ (k : ℕ). times k (edge_joints g (edges_for g drains x))) 0 (length own) j j 0 below (zero_plus j)
      ∙ (ap (λ (es : List Edge). times j (edge_joints g es)) (sym same) ∙ sym (edges_are c low))))
    where
      zero_plus : (n : ℕ) → 0 + n ≡ n
      zero_plus n = omega arith

  -- the channels into a task of a transport
  into_tile : (f tile : ℕ) → f < length plan.flows → tile < tile_count plan.tiling →
      map (λ j. count_before (joints_in plan.tiling (borders_of plan drains)) f + j) (places_with (joint_tiles plan.tiling (get_or (borders_of plan drains) f [])) tile)
      ≡ filter (λ c. (core_graph plan drains).into c == (transport_at plan f).first + tile) (range_with_len 0 (count_all (joints_in plan.tiling (borders_of plan drains))))
  into_tile f tile within below =
      let g = plan.tiling in
      let borders = borders_of plan drains in
      let all = joints_in g borders in
      let es = get_or borders f [] in
      let own = joints_of g es in
      let tiles = joint_tiles g es in
      let first = (transport_at plan f).first in
      let a = count_before all f in
      let many = count_all all in
      let into = (core_graph plan drains).into in
      let size : length tiles ≡ length own = length-map own (λ (p : ℕ). p % tile_count g) in
      let here = λ (i : ℕ). slice_index tiles i == tile in
      let there = λ (c : ℕ). into c == first + tile in
      let tile_at_joint : (j : ℕ) → j < length own → get_or tiles j 0 ≡ joint_into g own j = λ j low. get_or-map (λ (p : ℕ). p % tile_count g) own j 0 0 low in
      rises_same (map (λ j. a + j) (places_with tiles tile)) (filter there (range_with_len 0 many))
      (plus_rises a (places_with tiles tile) (filter_rises here (range_with_len 0 (length tiles)) (range_rises 0 (length tiles))))
      (filter_rises there (range_with_len 0 many) (range_rises 0 many))
      (λ u h.
      let e = plus_has a (places_with tiles tile) u h in
      let j = e.0 in
      let kept = kept_passes here (range_with_len 0 (length tiles)) j e.1 in
      let low : j < length own = let l = range_below (length tiles) j kept.1 in omega arith in
      let channel = channel_number_is fits f j within low in
      let tile_is : get_or tiles j 0 ≡ tile = eq_from (get_or tiles j 0) tile kept.0 in
      let leads : into (a + j) ≡ first + tile = channel.into ∙ ap (λ (n : ℕ). first + n) (sym (tile_at_joint j low) ∙ tile_is) in
      subst (λ (n : ℕ). Contains (filter there (range_with_len 0 many)) n) e.2
      (filter-keeps there (range_with_len 0 many) (a + j) (range_has many (a + j) (all_below f j within low)) (eq-eqb (into (a + j)) (first + tile) leads)))
      (λ u h.
      let kept = kept_passes there (range_with_len 0 many) u h in
      let low = range_below many u kept.1 in
      let at = channel_at u low in
      let i = list_of_number all u in
      let j = place_of_number all u in
      let channel = channel_number_is fits i j at.within at.below in
      let some = some_tiles g in
      let into_below : joint_into g (joints_of g (get_or borders i [])) j < tile_count g = mod-lt (get_or (joints_of g (get_or borders i [])) j 0) some in
      let leads : (transport_at plan i).first + joint_into g (joints_of g (get_or borders i [])) j ≡ first + tile =
      sym channel.into ∙ (ap into at.number ∙ eq_from (into u) (first + tile) kept.0) in
      let same : i ≡ f = sym (of_transport fits i (joint_into g (joints_of g (get_or borders i [])) j) at.within into_below).transport
      ∙ (ap (task_transport plan) leads ∙ (of_transport fits f tile within below).transport) in
      let low_own : j < length own = subst (λ (n : ℕ). j < length (joints_of g (get_or borders n []))) same at.below in
      let tile_is : get_or tiles j 0 ≡ tile =
      tile_at_joint j low_own
      ∙ (sym (ap (λ (n : ℕ). joint_into g (joints_of g (get_or borders n [])) j) same)
      ∙ plus_same (transport_at plan i).first first (joint_into g (joints_of g (get_or borders i [])) j) tile (ap (λ (n : ℕ). (transport_at plan n).first) same) leads) in
      let number : a + j ≡ u = ap (λ (n : ℕ). count_before all n + j) (sym same) ∙ at.number in
      subst (λ (n : ℕ). Contains (map (λ k. a + k) (places_with tiles tile)) n) number
      (has_plus a (places_with tiles tile) j (filter-keeps here (range_with_len 0 (length tiles)) j (range_has (length tiles) j (omega arith)) (eq-eqb (get_or tiles j 0) tile tile_is))))
    where
      eq_from : (x y : ℕ) → (x == y) ≡ true → x ≡ y
      eq_from x y e = Rattle.plan_graph.proofs.JointLemmas.eq_of x y e

      plus_same : (m n x y : ℕ) → m ≡ n → m + x ≡ n + y → x ≡ y
      plus_same m n x y e h = omega arith

      all_below : (i j : ℕ) → i < length plan.flows → j < length (joints_of plan.tiling (get_or (borders_of plan drains) i [])) →
          count_before (joints_in plan.tiling (borders_of plan drains)) i + j < count_all (joints_in plan.tiling (borders_of plan drains))
      all_below i j low less =
          let joints = joints_in plan.tiling (borders_of plan drains) in
          let size = ap length (joints_at fits i low) in
          let lists = length-map (borders_of plan drains) (joints_of plan.tiling) in
          let flows = many_borders fits in
          (is_numbered joints i j (omega arith) (omega arith)).below

  -- ---- what is kept

  first_channel : (f first : ℕ) → f < length plan.flows → first ≡ count_before (joints_in plan.tiling (borders_of plan drains)) f → count_all (joints_in plan.tiling (borders_of plan drains)) < 2 ^ 32 →
      IsFirstChannel (with_drains s plan drains) f first
  unfolding graph_of core_graph
  first_channel f first within is few =
      subst (IsFirstChannel (with_drains s plan drains) f) (sym is) record {
        channel = λ k below. channel_of_is fits f k within below;
        fits = λ k below. let own = channel_of_is fits f k within below in let low = (channel_of_edge fits f k within below).below in omega arith;
        inbound = λ tile below. into_tile f tile within below;
      }

  -- the lists that are made
  keeps_lists : (joints : List Joints) (channels : Channels) (told : List ℕ) → HaveJoints plan.tiling drains plan.flows joints → AreChannels joints plan.flows channels → AreTold plan (length plan.flows) told →
      KeepsLists (with_drains s plan drains) (borders_of plan drains) joints channels told
  unfolding graph_of core_graph
  keeps_lists joints channels told have are is =
      let many = many_channels joints have in
      let size = ap length are.receivers in
      let few = are.few in
      record {
        borders_are = refl;
        joints_are = have;
        all_firsts = are.all_firsts;
        firsts = λ f below. first_channel f (get_or channels.firsts f 0) below (are.firsts f below ∙ first_is joints have f) (omega arith);
        receivers = are.receivers ∙ fill_by_all (core_graph plan drains).into (flat_map (receivers_for joints) plan.flows) (count_all (joints_in plan.tiling (borders_of plan drains))) 0 many (receiver_is joints have);
        rooms = are.rooms ∙ fill_by_all (edges_of (core_graph plan drains)) (flat_map (rooms_for joints) plan.flows) (count_all (joints_in plan.tiling (borders_of plan drains))) 0 (many_rooms joints have) (room_is joints have);
        transports = is;
      }

  -- the graph of a plan that reads few can be kept
  pub can_keep : length plan.tasks ≤ most_tasks → numbers_in plan.needs ≤ most_needs → CanKeep s plan drains
  can_keep few few_needs = record {
    drained = are_drained plan drains fits.drains;
    within = λ f below. record { sources = λ k low. (goes_within fits f below k low).source; targets = λ k low. (goes_within fits f below k low).target };
    tasks = λ f tile below within. ((fits.stands f below).within tile within, (of_transport fits f tile below within).transport);
    numbers = λ joints have f j below low.
        let g = plan.tiling in
        let x : FlowTasks = get_or plan.flows f no_flow in
        let own = joints_of g (edges_for g drains x) in
        let tiles = (have f below).are.tiles in
        let size = ap length tiles ∙ length-map own (λ (p : ℕ). p % tile_count g) in
        let at = ap (λ (ts : List ℕ). get_or ts j 0) tiles ∙ get_or-map (λ (p : ℕ). p % tile_count g) own j 0 0 (omega arith) in
        let tile = mod-lt (get_or own j 0) (some_tiles g) in
        let h = (fits.stands f below).within (get_or own j 0 % tile_count g) tile in
        omega arith;
    keeps = λ joints channels told few_edges have are is. record {
      plan_is = fitting_keeps s plan drains fits few few_needs few_edges;
      lists = keeps_lists joints channels told have are is;
    };
  }
