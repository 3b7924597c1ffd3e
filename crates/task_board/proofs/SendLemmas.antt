-- A board on which a message was sent, or taken.
use Rattle.std.proofs.Common.{◌≡◌, ℕ, ◌+◌, ◌<◌, ◌≤◌, true, ◌==◌, eq-eqb, eqb-true, inl, List, [], ◌∷◌, ◌++◌, length, drop, set, map, Option, Some, None}
use Rattle.std.specs.Prelude.{slice_get}
use Rattle.std.specs.Option.{IsSome, option_map}
use Rattle.drain_meaning.specs.declared.op.FlowOp.{FlowOp}
use Rattle.flow_task.specs.Works.{TileWork}
use Rattle.std.proofs.Common.{refl, ap, sym, ◌∙◌, subst, arith}
use Rattle.std.specs.List.{range_with_len}
use Rattle.core_model.specs.declared.step.Step.TheVariants.{Send, Take}
use Rattle.core_model.proofs.Callers.{each_from, each_in}
use Rattle.core_model.specs.Graphs.{Each, Graph, In, edge_at}
use Rattle.core_model.specs.Cores.{Core, held}
use Rattle.core_model.specs.Steps.{CanTake, NoneWaits, sent_on}
use Rattle.border_channel.specs.declared.edge.Message.{Message}
use Rattle.border_channel.specs.Channels.{Queue}
use Rattle.plan_graph.specs.PlanGraphs.{channels_into, graph_of}
use Rattle.task_states.specs.States.{Reflects}
use Rattle.task_states.specs.declared.states.TaskStates.{TaskStates}
use Rattle.task_board.specs.Messages.{StandsOn}
use Rattle.task_board.specs.inside.Channels.{message_number, queue_at}
use Rattle.task_board.specs.inside.Held.{IsBoard, IsLetGo, Parts, board_of, state_in}
use Rattle.task_board.proofs.BoardLemmas.{after_one, core_task, keeps_run, quiet_board}
use Rattle.task_board.proofs.ChannelLemmas.{front_waits, none_waits, sent_carries, taken_carries}
use Rattle.task_states.proofs.Callers.{taken_shown}
use Rattle.task_board.proofs.FlowLemmas.{Goes, alike_stands}
use Rattle.task_board.proofs.FoundLemmas.{below_in, in_below, in_kept, kept_in}

module _ {x : Parts} (b : IsBoard x) (w t : ℕ) (m : Message) (s : Goes x w t m) where
  abbrev e : ℕ
  e = edge_at (graph_of x.plan) t m.edge

  -- the channel that it goes through
  pub channel_there : (graph_of x.plan).channel_of e < (graph_of x.plan).channels
  channel_there = (b.plan.sound.edges_join e s.can.2).channel_in

  -- and the task that the channel leads into
  pub receiver_there : (graph_of x.plan).into ((graph_of x.plan).channel_of e) < (graph_of x.plan).tasks
  receiver_there = (b.plan.sound.channels_join ((graph_of x.plan).channel_of e) channel_there).into_in

  -- its edge has the same number for both tasks
  same_number : message_number (board_of x) ((graph_of x.plan).channel_of e) m ≡ e
  same_number =
      let j = b.plan.sound.channels_join ((graph_of x.plan).channel_of e) channel_there in
      ap (λ (k : ℕ). k + m.edge) (sym j.same_edges ∙ ap (graph_of x.plan).first_edge s.can.3)

  -- a message more
  pub sent_board : (ss : TaskStates) (q : Queue) → w ≤ x.workers → Reflects (graph_of x.plan) x.workers (sent_on (graph_of x.plan) (state_in x) e) ss
      → q.messages ≡ (queue_at x.channels ((graph_of x.plan).channel_of e)).messages ++ m ∷ [] → q.capacity ≡ (queue_at x.channels ((graph_of x.plan).channel_of e)).capacity
      → IsBoard (record x { history = x.history ++ Send w t m.edge ∷ []; states = ss; channels = set x.channels ((graph_of x.plan).channel_of e) q })
  sent_board ss q le r items room =
      let c : ℕ = (graph_of x.plan).channel_of e in
      quiet_board b (Send w t m.edge) ss x.works (set x.channels c q) refl (le, s.can) r refl (λ u ne. refl)
      (λ go. absurd (subst IsLetGo s.can.1.0 go))
      (sent_carries (board_of x) (x.history ++ Send w t m.edge ∷ []) x.channels b.carries e m q channel_there same_number
      (alike_stands b t c m (let k = s.can.0 in k) s.can.1.1 channel_there s.can.3 s.stands)
      (ap (λ (z : Core). z.waiting) (after_one b (Send w t m.edge))) items room)

module _ {x : Parts} (b : IsBoard x) where
  -- a channel into a task
  pub into_here : (t c : ℕ) → In c (channels_into (graph_of x.plan) t) → (c < (graph_of x.plan).channels) × ((graph_of x.plan).into c ≡ t)
  into_here t c i =
      let r = in_kept (λ k. (graph_of x.plan).into k == t) (range_with_len 0 (graph_of x.plan).channels) c i in
      (in_below (graph_of x.plan).channels c r.0, eqb-true ((graph_of x.plan).into c) t r.1)

  -- the channels into a task are there
  pub inbound_there : (t : ℕ) → Each (λ c. c < length x.channels) (channels_into (graph_of x.plan) t)
  inbound_there t = each_from (λ c. c < length x.channels) (channels_into (graph_of x.plan) t) (λ c i. let a = (into_here t c i).0 in let l = b.carries.all in omega arith)

  -- where they are empty, no message waits
  pub inbound_empty : (t : ℕ) → Each (λ c. (queue_at x.channels c).messages ≡ []) (channels_into (graph_of x.plan) t) → NoneWaits (graph_of x.plan) (state_in x) t
  inbound_empty t e = none_waits (board_of x) [] x.channels b.carries t
      (λ c lt into. each_in (λ k. (queue_at x.channels k).messages ≡ []) (channels_into (graph_of x.plan) t) c e
      (kept_in (λ k. (graph_of x.plan).into k == t) (range_with_len 0 (graph_of x.plan).channels) c (below_in (graph_of x.plan).channels c lt) (eq-eqb ((graph_of x.plan).into c) t into)))

  module _ (w t c : ℕ) (m : Message) (rest : List Message) (lt : t < x.plan.tasks) (is : (state_in x).status t ≡ held w) (flow : (graph_of x.plan).is_flow t ≡ true)
      (c_lt : c < (graph_of x.plan).channels) (into : (graph_of x.plan).into c ≡ t) (items : (queue_at x.channels c).messages ≡ m ∷ rest) where
    abbrev g : Graph
    g = graph_of x.plan

    abbrev n : ℕ
    n = edge_at g t m.edge

    front : ((state_in x).waiting c ≡ message_number (board_of x) c m ∷ map (message_number (board_of x) c) rest) × StandsOn (board_of x) (g.into c) m
    front = front_waits (board_of x) [] x.channels b.carries c m rest c_lt items

    here : message_number (board_of x) c m ≡ n
    here = ap (λ (k : ℕ). edge_at g k m.edge) into

    waits : (g.channel_of n ≡ c) × (n < g.edges)
    waits =
        let k = (keeps_run b).waits c (message_number (board_of x) c m) (subst (λ (l : List ℕ). In (message_number (board_of x) c m) l) (sym front.0) (inl refl)) in
        (ap g.channel_of (sym here) ∙ k.1, subst (λ (e : ℕ). e < g.edges) here k.0)

    pub can_take : CanTake g (state_in x) w t n
    can_take = (
      core_task b t lt,
      (is, flow),
      waits.1,
      ap g.into waits.0 ∙ into,
      (map (message_number (board_of x) c) rest, ap (state_in x).waiting waits.0 ∙ front.0 ∙ ap (λ (k : ℕ). k ∷ map (message_number (board_of x) c) rest) here),
    )

    pub front_stands : StandsOn (board_of x) t m
    front_stands = subst (λ (k : ℕ). StandsOn (board_of x) k m) into front.1

    pub taken_board : (q : Queue) → w ≤ x.workers → q.messages ≡ rest → q.capacity ≡ (queue_at x.channels c).capacity
        → IsBoard (record x { history = x.history ++ Take w t m.edge ∷ []; channels = set x.channels c q })
    taken_board q le left room =
        quiet_board b (Take w t m.edge) x.states x.works (set x.channels c q) refl (le, can_take)
        record { shown = taken_shown g x.workers (state_in x) _ _ _ _ _ b.shows.shown n w t (core_task b t lt) is (ap g.into waits.0 ∙ into); room = b.shows.room }
        refl (λ u ne. refl) (λ go. absurd (subst IsLetGo is go))
        (taken_carries (board_of x) (x.history ++ Take w t m.edge ∷ []) x.channels b.carries c n m q c_lt waits.0 (items ∙ ap (λ (l : List Message). m ∷ l) (sym left))
        (ap (λ (z : Core). z.waiting) (after_one b (Take w t m.edge))) room)

-- a list by its first
pub front_rest : (xs : List Message) (m : Message) → slice_get xs 0 ≡ Some m → xs ≡ m ∷ drop 1 xs
front_rest [] m e = absurd (cc)
front_rest (y ∷ ys) m e = ap (λ (z : Message). z ∷ ys) (let q : y ≡ m = cc in q)

-- a work that is there, by what it is
pub mapped_some : {W : Type 0} (f : W → TileWork FlowOp) (o : Option W) → IsSome o → IsSome (option_map f o)
mapped_some f None h = absurd (cc)
mapped_some f (Some w) h = refl
