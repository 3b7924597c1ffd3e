use Rattle.std.proofs.Common.{None, refl, ◌≡◌, ℕ, ◌<◌, ◌≤◌, List, [], length, map, get_or, ap, sym, ◌∙◌, subst, arith, vec_capacity}
use Rattle.std.specs.Arc.{arc_value}
use Rattle.std.specs.Option.{option_map}
use Rattle.plan_graph.specs.PlanGraphs.{rooms_of}
use Rattle.task_board.specs.Boards.{BoardValue}
use Rattle.task_board.specs.inside.Channels.{queue_at}
use Rattle.task_board.proofs.ChannelLemmas.{opening_carries}
use Rattle.task_board.proofs.WorkLemmas.{length-works, work_mapped}
use Rattle.plan_graph.specs.PlanGraphs.{graph_of, IsPlan, PlanGraphValue, list_at}
use Rattle.task_board.proofs.BoardLemmas.{opening_board}
use Rattle.plan_graph.specs.PlanGraphs.{graph_of}
use Rattle.map_meaning.specs.declared.program.Program.{Program}
use Rattle.task_board.specs.Tiles.{hands_out_at}
use Rattle.task_states.specs.States.{CountsNeeds}
use Rattle.task_board.proofs.board.Board.make.Goals as goal

pub invariant_of-result : goal.invariant_of-result
invariant_of-result g c =
    let p : PlanGraphValue = arc_value c.args.plan in
    let plan : IsPlan p = subst (λ (v : PlanGraphValue). IsPlan v) c.deref.ensures c.tasks-tasks.ensures.plan in
    let n : ℕ = c.args.workers in
    let tasks : c.tasks-tasks.result ≡ p.tasks = c.tasks-tasks.ensures.value ∙ ap (λ (v : PlanGraphValue). v.tasks) c.deref.ensures in
    let edges : c.all_edges.result ≡ p.edges = c.all_edges.ensures ∙ ap (λ (v : PlanGraphValue). v.edges) c.deref-2.ensures in
    let ns : List ℕ = c.in_ok-need_counts.field-0.items in
    let us : List ℕ = c.in_ok-unread.unread.items in
    let ks = c.in_ok-kept.kept.items in
    let needs = subst (λ (v : PlanGraphValue). (length ns ≡ v.tasks) × ((t : ℕ) → t < v.tasks → get_or ns t 0 ≡ length (list_at v.needs t))) c.deref-3.ensures (c.in_ok-need_counts.ensures.all, c.in_ok-need_counts.ensures.counts) in
    let reads = subst (λ (v : PlanGraphValue). (length us ≡ v.tasks) × ((t : ℕ) → t < v.tasks → get_or us t 0 ≡ length (list_at v.readers t))) c.deref-4.ensures (c.in_ok-unread.ensures.all, c.in_ok-unread.ensures.counts) in
    let keeps = subst (λ (v : PlanGraphValue). (length ks ≡ v.tasks) × ((t : ℕ) → t < v.tasks → get_or ks t mathlib.Core.Bool.false ≡ hands_out_at v.plan c.deref-6.result.now v.span t)) c.deref-5.ensures (c.in_ok-kept.ensures.all, c.in_ok-kept.ensures.kept) in
    let counts : CountsNeeds (graph_of p) ns = (needs.0 ∙ sym plan.all_tasks, λ t lt. let q : t < p.tasks = (let k = plan.all_tasks in omega arith) in needs.1 t q ∙ ap length (sym (plan.reads t q))) in
    let rooms : c.rooms.result.now ≡ rooms_of (graph_of p) = c.rooms.ensures.value ∙ ap (λ (v : PlanGraphValue). rooms_of (graph_of v)) c.deref-7.ensures in
    let cs = c.in_ok-channels.channels.items in
    let told = subst (λ (rs : List ℕ). (length cs ≡ length rs) × ((c : ℕ) → c < length rs → (queue_at cs c).messages ≡ []) × ((c : ℕ) → c < length rs → get_or rs c 0 ≤ (queue_at cs c).capacity)) rooms
    (c.in_ok-channels.ensures.all, c.in_ok-channels.ensures.empty, c.in_ok-channels.ensures.rooms) in
    let value : BoardValue = record { plan = p; program = arc_value c.args.program; known = arc_value c.args.known; workers = n; history = c.in_ok-history.history.items } in
    let carries = opening_carries value cs c.in_ok-history.ensures.items told.0 told.1 told.2 in
    opening_board record {
      plan = p;
      program = arc_value c.args.program;
      known = arc_value c.args.known;
      knows = g.K.FlowKit.known c.args.kit;
      workers = n;
      states = c.in_ok-states.states;
      tiles = c.in_ok-tiles.tiles.items;
      unread = us;
      kept = ks;
      works = map (option_map g.K.FlowKit.work_of) c.in_ok-works.works.items;
      channels = c.in_ok-channels.channels.items;
      history = c.in_ok-history.history.items;
      room = vec_capacity c.in_ok-history.history;
      over = None;
    }
    c.in_ok-history.ensures.items plan record { planned = c.requires.plan; drains = c.requires.drains } c.requires.kit c.requires.workers (c.in_ok-states.ensures (graph_of p) counts)
    (c.in_ok-tiles.ensures.all ∙ tasks) c.in_ok-tiles.ensures.none reads.0 reads.1 keeps.0
    (λ t lt. keeps.1 t lt ∙ ap (λ (z : Program). hands_out_at p.plan z p.span t) c.deref-6.ensures)
    (length-works g.K.FlowKit.work_of c.in_ok-works.works.items ∙ c.in_ok-works.ensures.all ∙ tasks)
    (λ t. work_mapped g.K.FlowKit.work_of c.in_ok-works.works.items t ∙ ap (option_map g.K.FlowKit.work_of) (c.in_ok-works.ensures.none t))
    carries (let k = c.in_ok-history.ensures.exact in omega arith) refl
