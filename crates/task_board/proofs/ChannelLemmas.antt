-- What a send and a take make of the channels.
use Rattle.std.proofs.Common.{◌≡◌, ℕ, zero, suc, ◌+◌, ◌<◌, ◌≤◌, true, false, ◌==◌, eq-eqb, ne_eqb, ◌⊎◌, inl, inr, ⊎_elim, List, [], ◌∷◌, ◌++◌, length, get_or, set, map}
use Rattle.std.proofs.Common.{refl, ap, sym, ◌∙◌, subst, arith, length-append}
use Rattle.std.proofs.lemmas.List.{length-map, length-set}
use Rattle.std.proofs.lemmas.List.FromFn.{get_or-map-range_with_len, length-map-range_with_len}
use Rattle.std.specs.List.{Contains}
use mathlib.Core.Logic.{dite}
use native.Mathlib.Decide.{ℕ_discrete}
use Rattle.core_model.specs.Counts.{flag}
use Rattle.core_model.specs.Graphs.{Graph, Each, In}
use Rattle.core_model.specs.declared.step.Step.{Step}
use Rattle.core_model.specs.Runs.{after}
use Rattle.core_model.specs.Cores.{Core, upd}
use Rattle.core_model.specs.Steps.{NoneWaits, rest_of}
use Rattle.core_model.proofs.Callers.{Kept, NoDup, each_from, sum_le, upd_other, upd_same}
use Rattle.number_lists.specs.Turned.{times}
use Rattle.border_channel.specs.declared.edge.Message.{Message}
use Rattle.border_channel.specs.Channels.{Queue, empty_queue}
use Rattle.plan_graph.specs.PlanGraphs.{edges_of, graph_of, rooms_of}
use Rattle.task_states.proofs.Callers.{each_snoc, length_times, set_all, times_front, times_last_other, times_last_same}
use Rattle.task_board.specs.Boards.{BoardValue, state_of}
use Rattle.task_board.specs.Messages.{StandsOn}
use Rattle.task_board.specs.inside.Channels.{Carries, message_number, numbers_from, queue_at}

-- one item more of a list that is mapped
pub map_snoc : {A B : Type 0} (f : A → B) (xs : List A) (x : A) → map f (xs ++ x ∷ []) ≡ map f xs ++ f x ∷ []
map_snoc f [] x = refl
map_snoc f (y ∷ ys) x = ap (λ (l : List _). f y ∷ l) (map_snoc f ys x)

none_in : (k : ℕ) (xs : List ℕ) → (In k xs → ⊥) → times k xs ≡ 0
none_in k [] h = refl
none_in k (x ∷ xs) h = let r = none_in k xs (λ i. h (inr i)) in let o = times_front k x xs in let q : flag (x == k) ≡ 0 = ap flag (ne_eqb x k (λ e. h (inl (sym e)))) in omega arith

no_dup_times : (k : ℕ) (xs : List ℕ) → NoDup xs → times k xs ≤ 1
no_dup_times k [] n = omega arith
no_dup_times k (x ∷ xs) n = let o = times_front k x xs in dite (ℕ_discrete x k)
    (λ e. let z = none_in k xs (λ i. n.0 (subst (λ v. In v xs) (sym e) i)) in let q : flag (x == k) ≡ 1 = ap flag (eq-eqb x k e) in omega arith)
    (λ ne. let r = no_dup_times k xs n.1 in let q : flag (x == k) ≡ 0 = ap flag (ne_eqb x k ne) in omega arith)

-- the last of some messages, and those before
contains_snoc : {A : Type 0} (xs : List A) (x y : A) → Contains (xs ++ x ∷ []) y → (Contains xs y) ⊎ (y ≡ x)
contains_snoc [] x y (zero, lt, is) = inr (sym is)
contains_snoc [] x y (suc k, lt, is) = absurd (omega arith)
contains_snoc (z ∷ zs) x y (zero, lt, is) = inl (zero, omega arith, is)
contains_snoc (z ∷ zs) x y (suc k, lt, is) = ⊎_elim (λ (c : Contains zs y). inl (suc c.0, (let l = c.1 in omega arith), c.2)) (λ e. inr e) (contains_snoc zs x y (k, omega arith, is))

contains_rest : {A : Type 0} (x : A) (xs : List A) (y : A) → Contains xs y → Contains (x ∷ xs) y
contains_rest x xs y (k, lt, is) = (suc k, omega arith, is)

-- numbers counted from the first
pub length-numbers : (first : ℕ) (places : List ℕ) → length (numbers_from first places) ≡ length places
length-numbers first [] = refl
length-numbers first (p ∷ ps) = let r = length-numbers first ps in omega arith

pub number_at : (first : ℕ) (places : List ℕ) (k : ℕ) → k < length places → get_or (numbers_from first places) k 0 ≡ first + get_or places k 0
number_at first [] k lt = absurd (omega arith)
number_at first (p ∷ ps) zero lt = refl
number_at first (p ∷ ps) (suc k) lt = number_at first ps k (omega arith)

-- a channel has room for an edge that was not sent
pub room_to_send : (g : Graph) (n : ℕ) (s : Core) → Kept g n s → (e : ℕ) → e < g.edges → s.sent e ≡ false → length (s.waiting (g.channel_of e)) < edges_of g (g.channel_of e)
room_to_send g n s k e lt unsent =
    let c : ℕ = g.channel_of e in
    let xs : List ℕ = s.waiting c in
    let out : In e xs → ⊥ = λ i. let z : true ≡ false = sym (k.waits c e i).2 ∙ unsent in cc in
    let within : Each (λ x. x < g.edges) (xs ++ e ∷ []) = each_snoc (λ x. x < g.edges) xs e (each_from (λ x. x < g.edges) xs (λ x i. (k.waits c x i).0)) lt in
    let l = length_times g.edges (xs ++ e ∷ []) within in
    let most = sum_le g.edges (λ x. times x (xs ++ e ∷ [])) (λ x. flag (g.channel_of x == c)) (λ x x_lt. dite (ℕ_discrete x e)
    (λ q. let a : times x (xs ++ e ∷ []) ≡ 1 = ap (λ z. times z (xs ++ e ∷ [])) q ∙ times_last_same e xs ∙ ap (λ z. z + 1) (none_in e xs out) in
    let f : flag (g.channel_of x == c) ≡ 1 = ap flag (eq-eqb (g.channel_of x) c (ap g.channel_of q)) in omega arith)
    (λ ne. let a = times_last_other x e xs ne in
    dite (ℕ_discrete (g.channel_of x) c)
    (λ same. let f : flag (g.channel_of x == c) ≡ 1 = ap flag (eq-eqb (g.channel_of x) c same) in let o = no_dup_times x xs (k.once c) in omega arith)
    (λ other. let z = none_in x xs (λ i. other (k.waits c x i).1) in omega arith))) in
    let p = length-append xs (e ∷ []) in omega arith

module _ (b : BoardValue) (ys : List Step) (cs : List Queue) (h : Carries b cs) where
  abbrev g : Graph
  g = graph_of b.plan

  -- the same board, with another history
  abbrev d : BoardValue
  d = record b { history = ys }

  -- a message was sent over an edge
  pub sent_carries : (e : ℕ) (m : Message) (q : Queue) → g.channel_of e < g.channels → message_number b (g.channel_of e) m ≡ e → StandsOn b (g.into (g.channel_of e)) m
      → (state_of d).waiting ≡ upd (state_of b).waiting (g.channel_of e) ((state_of b).waiting (g.channel_of e) ++ e ∷ [])
      → q.messages ≡ (queue_at cs (g.channel_of e)).messages ++ m ∷ [] → q.capacity ≡ (queue_at cs (g.channel_of e)).capacity → Carries d (set cs (g.channel_of e) q)
  sent_carries e m q lt number stands waits items room =
      let c : ℕ = g.channel_of e in
      let old = queue_at cs c in
      let inside : c < length cs = (let a = h.all in omega arith) in
      let now : (u : ℕ) → upd (state_of b).waiting c ((state_of b).waiting c ++ e ∷ []) u ≡ (state_of d).waiting u = λ u. ap (λ (f : ℕ → List ℕ). f u) (sym waits) in
      record {
        all = length-set cs c q ∙ h.all;
        waiting = λ u lt'. set_all cs (empty_queue 0) g.channels c q (λ v (z : Queue). map (message_number b v) z.messages ≡ (state_of d).waiting v) inside
            (ap (map (message_number b c)) items ∙ map_snoc (message_number b c) old.messages m ∙ ap (λ (l : List ℕ). l ++ message_number b c m ∷ []) (h.waiting c lt) ∙ ap (λ (k : ℕ). (state_of b).waiting c ++ k ∷ []) number
            ∙ sym (upd_same (state_of b).waiting c ((state_of b).waiting c ++ e ∷ [])) ∙ now c)
            (λ v v_lt ne. h.waiting v v_lt ∙ sym (upd_other (state_of b).waiting c v ((state_of b).waiting c ++ e ∷ []) ne) ∙ now v) u lt';
        stand = λ u x lt' has. set_all cs (empty_queue 0) g.channels c q (λ v (z : Queue). (y : Message) → Contains z.messages y → StandsOn b (g.into v) y) inside
            (λ y has'. ⊎_elim (λ k. h.stand c y lt k) (λ same. subst (λ (z : Message). StandsOn b (g.into c) z) (sym same) stands)
            (contains_snoc old.messages m y (subst (λ (l : List Message). Contains l y) items has')))
            (λ v v_lt ne y has'. h.stand v y v_lt has') u lt' x has;
        room = λ u lt'. set_all cs (empty_queue 0) g.channels c q (λ v (z : Queue). edges_of g v ≤ z.capacity) inside (let a = h.room c lt in omega arith) (λ v v_lt ne. h.room v v_lt) u lt';
      }

  -- there is room in the channel
  pub room_in_channel : (n e : ℕ) → Kept g n (state_of b) → g.channel_of e < g.channels → e < g.edges → (state_of b).sent e ≡ false → length (queue_at cs (g.channel_of e)).messages < (queue_at cs (g.channel_of e)).capacity
  room_in_channel n e kept lt e_lt unsent =
      let c : ℕ = g.channel_of e in
      let a = room_to_send g n (state_of b) kept e e_lt unsent in let k = h.room c lt in
      let l = sym (length-map (queue_at cs c).messages (message_number b c)) ∙ ap length (h.waiting c lt) in omega arith

  -- the oldest message of a channel into a task is that of the edge at its front
  pub front_waits : (c : ℕ) (m : Message) (rest : List Message) → c < g.channels → (queue_at cs c).messages ≡ m ∷ rest
      → ((state_of b).waiting c ≡ message_number b c m ∷ map (message_number b c) rest) × StandsOn b (g.into c) m
  front_waits c m rest lt items = (
    sym (h.waiting c lt) ∙ ap (map (message_number b c)) items,
    h.stand c m lt (subst (λ (l : List Message). Contains l m) (sym items) (0, omega arith, refl)),
  )

  -- it was taken
  pub taken_carries : (c e : ℕ) (m : Message) (q : Queue) → c < g.channels → g.channel_of e ≡ c → (queue_at cs c).messages ≡ m ∷ q.messages
      → (state_of d).waiting ≡ upd (state_of b).waiting (g.channel_of e) (rest_of ((state_of b).waiting (g.channel_of e)))
      → q.capacity ≡ (queue_at cs c).capacity → Carries d (set cs c q)
  taken_carries c e m q lt of items waits room =
      let inside : c < length cs = (let a = h.all in omega arith) in
      let front = front_waits c m q.messages lt items in
      let now : (u : ℕ) → upd (state_of b).waiting c (rest_of ((state_of b).waiting c)) u ≡ (state_of d).waiting u =
      λ u. ap (λ (k : ℕ). upd (state_of b).waiting k (rest_of ((state_of b).waiting k)) u) (sym of) ∙ ap (λ (f : ℕ → List ℕ). f u) (sym waits) in
      record {
        all = length-set cs c q ∙ h.all;
        waiting = λ u lt'. set_all cs (empty_queue 0) g.channels c q (λ v (z : Queue). map (message_number b v) z.messages ≡ (state_of d).waiting v) inside
            (ap rest_of (sym front.0) ∙ sym (upd_same (state_of b).waiting c (rest_of ((state_of b).waiting c))) ∙ now c)
            (λ v v_lt ne. h.waiting v v_lt ∙ sym (upd_other (state_of b).waiting c v (rest_of ((state_of b).waiting c)) ne) ∙ now v) u lt';
        stand = λ u x lt' has. set_all cs (empty_queue 0) g.channels c q (λ v (z : Queue). (y : Message) → Contains z.messages y → StandsOn b (g.into v) y) inside
            (λ y has'. h.stand c y lt (subst (λ (l : List Message). Contains l y) (sym items) (contains_rest m q.messages y has')))
            (λ v v_lt ne y has'. h.stand v y v_lt has') u lt' x has;
        room = λ u lt'. set_all cs (empty_queue 0) g.channels c q (λ v (z : Queue). edges_of g v ≤ z.capacity) inside (let a = h.room c lt in omega arith) (λ v v_lt ne. h.room v v_lt) u lt';
      }

  -- where all channels into a task are empty, no message waits for it
  pub none_waits : (t : ℕ) → ((c : ℕ) → c < g.channels → g.into c ≡ t → (queue_at cs c).messages ≡ []) → NoneWaits g (state_of b) t
  none_waits t empty = λ c lt i. sym (h.waiting c lt) ∙ ap (map (message_number b c)) (empty c lt i)

-- the channels of a board on which nothing was done
pub opening_carries : (b : BoardValue) (cs : List Queue) → b.history ≡ [] → length cs ≡ length (rooms_of (graph_of b.plan))
    → ((c : ℕ) → c < length (rooms_of (graph_of b.plan)) → (queue_at cs c).messages ≡ [])
    → ((c : ℕ) → c < length (rooms_of (graph_of b.plan)) → get_or (rooms_of (graph_of b.plan)) c 0 ≤ (queue_at cs c).capacity) → Carries b cs
opening_carries b cs none' all empty rooms =
    let g = graph_of b.plan in
    let count : length (rooms_of g) ≡ g.channels = length-map-range_with_len (edges_of g) 0 g.channels in
    let back : (c : ℕ) → c < g.channels → c < length (rooms_of g) = λ c lt. omega arith in
    record {
      all = all ∙ count;
      waiting = λ c lt. ap (map (message_number b c)) (empty c (back c lt)) ∙ sym (ap (λ (l : List Step). (after g l).waiting c) none');
      stand = λ c x lt has. absurd (nothing x (subst (λ (l : List Message). Contains l x) (empty c (back c lt)) has));
      room = λ c lt. let r = rooms c (back c lt) in
          let e : get_or (rooms_of g) c 0 ≡ edges_of g c = get_or-map-range_with_len (edges_of g) 0 g.channels c c 0 lt (omega arith) in omega arith;
    }
  where
    nothing : (x : Message) → Contains [] x → ⊥
    nothing x (k, lt, is) = omega arith
