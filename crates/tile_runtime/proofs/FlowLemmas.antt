-- The work of a ticket between its holder's turns.
use Rattle.std.proofs.Common.{◌≡◌, ℕ, true, List, [], Option, Some, None, Result, Ok, Err, refl, ap, sym, ◌∙◌, subst}
use Rattle.std.specs.Prelude.{IfOk}
use Rattle.std.specs.Arc.{arc_value}
use Rattle.std.specs.Global.{Global}
use Rattle.std.specs.Option.{IsSome, IsSomeAnd, option_map}
use Rattle.std.specs.declared.alloc.AllocError.{AllocError}
use Rattle.std.specs.declared.sync.Arc.{Arc}
use Rattle.core_model.specs.declared.step.Step.{Step}
use Rattle.drain_meaning.specs.declared.op.FlowOp.{FlowOp}
use Rattle.drain_meaning.specs.Equations.{transport_of}
use Rattle.border_channel.specs.Locals.{local_part}
use Rattle.border_channel.specs.declared.edge.Message.{Message}
use Rattle.flow_task.specs.Works.{TileWork, accepted}
use Rattle.plan_graph.specs.PlanGraphs.{graph_of}
use Rattle.tile_tasks.specs.FlowLaws.{GiveTheirTiles}
use Rattle.task_tiles.specs.FlowTiles.{IsFlowBegun}
use Rattle.task_tiles.specs.declared.tile.Tile.{Tile}
use Rattle.task_tiles.specs.declared.tile.Tile.TheVariants as published
use Rattle.task_board.specs.declared.jobs.BoardPlan.{BoardPlan}
use Rattle.task_board.specs.declared.ticket.Ticket.{Ticket}
use Rattle.task_board.specs.Boards.{BoardValue, IsOfItsSpan, IsTileFor}
use Rattle.task_board.specs.Messages.{IsAtItsEnd}
use Rattle.task_board.specs.Tickets.{IsGood, work_in}
use Rattle.task_board.proofs.Callers.{begun_good, ends_or_waits, gives_tile}
use Rattle.tile_runtime.specs.declared.flow.Move.TheVariants.{Finish}
use Rattle.tile_runtime.specs.inside.Knowledge.{IsAtWork, IsBoardPlan, board_with}
use Rattle.tile_runtime.specs.inside.Moves.{ComesNext}
use Rattle.tile_runtime.specs.inside.Turns.{HasTicket}

-- the plan is that of its span, whatever was done
spans_at : (p : BoardPlan) (history : List Step) → IsBoardPlan p → IsOfItsSpan (board_with p history)
spans_at p history board = record { planned = board.of.planned; drains = board.of.drains }

module _ (p : BoardPlan) (board : IsBoardPlan p) (history : List Step) (w t : ℕ) where
  -- a work whose cells are all settled, and that has nothing to send, is at its end
  pub at_its_end : (o : Option (TileWork FlowOp)) → IsGood (board_with p history) w t o → IsSomeAnd o (λ k. ComesNext k Finish) → IsSomeAnd o IsAtItsEnd
  at_its_end None good next = absurd next
  at_its_end (Some k) good next = ends_or_waits board.plan (spans_at p history board) w t (Some k) true good next.1 (sym next.0)

  tile_of : GiveTheirTiles → (o : Option (TileWork FlowOp)) (tile : Tile) → IsGood (board_with p history) w t o → IsSomeAnd o IsAtItsEnd → IsSomeAnd o (λ k. tile ≡ published.Part (local_part (transport_of k.which) k.of)) → IsTileFor (board_with p []) t tile
  tile_of law None tile good end is = absurd end
  tile_of law (Some k) tile good end is = gives_tile board.plan (spans_at p history board) law w t (Some k) (local_part (transport_of k.which) k.of) tile good end refl is

  -- the tile that a work at its end gives is the task's
  pub finished_tile : GiveTheirTiles → (o : Option (TileWork FlowOp)) (made : Result (Arc Tile Global) AllocError) → IsGood (board_with p history) w t o → IsSomeAnd o IsAtItsEnd
      → IfOk made (λ tile. IsSomeAnd o (λ k. arc_value tile ≡ published.Part (local_part (transport_of k.which) k.of))) → IfOk made (λ tile. IsTileFor (board_with p []) t (arc_value tile))
  finished_tile law o (Ok tile) good end is = tile_of law o (arc_value tile) good end is
  finished_tile law o (Err refused) good end is = is

  -- a task that was begun
  pub begun_work : (o : Option (TileWork FlowOp)) (k : TileWork FlowOp) → o ≡ None → IsAtWork (board_with p history) w t o → (graph_of p.plan).is_flow t ≡ true → IsFlowBegun p.plan.plan p.plan.span p.program p.known t k → IsAtWork (board_with p history) w t (Some k)
  begun_work o k bare at flow begun = record {
    legal = at.legal;
    good = begun_good (board_with p history) w t k (subst (IsGood (board_with p history) w t) bare at.good) flow begun;
    can = at.can;
  }

some_mapped : {A B : Type 0} (f : A → B) (o : Option A) → IsSome o → IsSome (option_map f o)
some_mapped f None has = absurd (cc)
some_mapped f (Some x) has = refl

mapped_some : {A B : Type 0} (f : A → B) (o : Option A) → IsSome (option_map f o) → IsSome o
mapped_some f None has = absurd (cc)
mapped_some f (Some x) has = refl

module _ {K W : Type 0} (work_of : W → TileWork FlowOp) (b : BoardValue) (w : ℕ) where
  -- a ticket that is the same but for its work
  pub changed : (f : TileWork FlowOp → TileWork FlowOp) (ticket later : Ticket K W) → (ticket.worker ≡ w) × IsAtWork b w ticket.task (option_map f (work_in work_of ticket)) → later.worker ≡ ticket.worker → later.task ≡ ticket.task
      → work_in work_of later ≡ option_map f (work_in work_of ticket) → HasTicket work_of b w later
  changed f ticket later at worker task work = (
    worker ∙ at.0,
    subst (λ (o : Option (TileWork FlowOp)). IsAtWork b w later.task o) (sym work) (subst (λ (t : ℕ). IsAtWork b w t (option_map f (work_in work_of ticket))) (sym task) at.1),
  )

  -- so after a message was taken and accepted
  pub taken_again : (m : Message) (ticket same later : Ticket K W) → same ≡ ticket → (ticket.worker ≡ w) × IsAtWork b w ticket.task (option_map (λ k. accepted k m) (work_in work_of ticket)) → later.worker ≡ same.worker → later.task ≡ same.task
      → work_in work_of later ≡ option_map (λ k. accepted k m) (work_in work_of same) → HasTicket work_of b w later
  taken_again m ticket same later is at worker task work =
      changed (λ k. accepted k m) ticket later at (worker ∙ ap (λ (z : Ticket K W). z.worker) is) (task ∙ ap (λ (z : Ticket K W). z.task) is) (work ∙ ap (λ (z : Ticket K W). option_map (λ k. accepted k m) (work_in work_of z)) is)

module _ {K W : Type 0} (work_of : W → TileWork FlowOp) where
  -- and it still has one
  pub still_begun : (f : TileWork FlowOp → TileWork FlowOp) (ticket later : Ticket K W) → IsSome ticket.work → work_in work_of later ≡ option_map f (work_in work_of ticket) → IsSome later.work
  still_begun f ticket later begun work = mapped_some work_of later.work (subst IsSome (sym work) (some_mapped f (work_in work_of ticket) (some_mapped work_of ticket.work begun)))

  pub taken_begun : (m : Message) (ticket same later : Ticket K W) → same ≡ ticket → IsSome ticket.work → work_in work_of later ≡ option_map (λ k. accepted k m) (work_in work_of same) → IsSome later.work
  taken_begun m ticket same later is begun work = still_begun (λ k. accepted k m) same later (subst (λ (z : Ticket K W). IsSome z.work) (sym is) begun) work
