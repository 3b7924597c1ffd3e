-- What a job of a round is given, and what it gives. Words of private contracts.
use Rattle.std.specs.Prelude.{◌≡◌, ℕ, ◌<◌, List, length, slice_index_or, true, false, None, IfSome, Ok, Err, Result, ⊤}
use Rattle.std.specs.Option.{IsSome}
use Rattle.std.specs.Arc.{arc_value}
use Rattle.std.specs.List.{AllZip}
use Rattle.std.specs.declared.alloc.AllocError.{AllocError}
use Rattle.std.specs.declared.sync.Arc.{Arc}
use Rattle.std.specs.Global.{Global}
use Rattle.drain_meaning.specs.declared.op.FlowOp.{FlowOp}
use Rattle.flow_task.specs.Works.{TileWork}
use Rattle.map_meaning.specs.declared.known.Known.{Known}
use Rattle.map_meaning.specs.declared.program.Program.{Program}
use Rattle.plan_graph.specs.PlanGraphs.{IsPlan, PlanGraphValue, graph_of, list_at}
use Rattle.task_tiles.specs.FlowTiles.{IsFlowBegun}
use Rattle.task_tiles.specs.TaskTiles.{IsPlanned, IsTaskTile}
use Rattle.task_tiles.specs.declared.tile.Tile.{Tile}
use Rattle.task_board.specs.declared.ticket.Ticket.{Ticket}
use Rattle.task_board.specs.Boards.{BoardValue, IsTileFor}
use Rattle.round_runtime.specs.declared.compute.RoundJob.{RoundJob}
use Rattle.round_runtime.specs.declared.compute.Outcome.{Outcome}
use Rattle.round_runtime.specs.declared.compute.Outcome.TheVariants.{Made, Begun, Underway}

-- the plan, the program and what is known are of one span
pub record AreOfOneSpan (p : PlanGraphValue) (program : Program) (known : Known) : Type 0 where
  pub plan : IsPlan p
  pub planned : IsPlanned p.plan p.span program known
  pub drains : p.drains ≡ known.drains

-- the tiles are those that the task reads
abbrev pub AreNeeds : PlanGraphValue → Program → Known → ℕ → List (Arc Tile Global) → Type 0
AreNeeds plan program known task tiles =
    AllZip (λ a n. IsTaskTile plan.plan plan.span program known n (arc_value a)) tiles (list_at plan.needs task)

-- the job is of a task, and has the tiles that it reads, if it has some
pub record IsJob (plan : PlanGraphValue) (program : Program) (known : Known) (job : RoundJob) : Type 0 where
  pub task : job.task < plan.tasks
  pub needs : IfSome job.tiles (λ tiles. AreNeeds plan program known job.task tiles.items)

-- the tile of a task that is no transport's; the work of a transport's task, as it begins; nothing, where the job has no tiles
abbrev pub Computed : {W : Type 0} → (W → TileWork FlowOp) → PlanGraphValue → Program → Known → RoundJob
    → Result (Outcome W) AllocError → Type 0
Computed work_of plan program known job (Ok (Made tile)) =
    ((graph_of plan).is_flow job.task ≡ false) × IsTaskTile plan.plan plan.span program known job.task (arc_value tile)
Computed work_of plan program known job (Ok (Begun w)) =
    ((graph_of plan).is_flow job.task ≡ true) × IsSome job.tiles × IsFlowBegun plan.plan plan.span program known job.task (work_of w)
Computed work_of plan program known job (Ok Underway) = job.tiles ≡ None
Computed work_of plan program known job (Err e) = ⊤

-- each job gave what it computed, in the order of the jobs
abbrev pub EachComputed : {W : Type 0} → (W → TileWork FlowOp) → PlanGraphValue → Program → Known → List RoundJob
    → List (Result (Outcome W) AllocError) → Type 0
EachComputed {W} work_of plan program known jobs outcomes =
    (i : ℕ) (x : RoundJob) (y : Result (Outcome W) AllocError) → i < length jobs →
    Computed work_of plan program known (slice_index_or jobs i x) (slice_index_or outcomes i y)

-- the job is of the ticket's task, and has tiles exactly where the ticket has no work
pub record IsJobOf {K W : Type 0} (ticket : Ticket K W) (job : RoundJob) : Type 0 where
  pub task : job.task ≡ ticket.task
  pub fresh : IsSome job.tiles → ticket.work ≡ None
  pub begun : job.tiles ≡ None → IsSome ticket.work

-- what a thread gave for a ticket
abbrev pub IsOutcomeFor : {K W : Type 0} → (W → TileWork FlowOp) → BoardValue → Ticket K W → Outcome W → Type 0
IsOutcomeFor work_of b ticket (Made tile) = ((graph_of b.plan).is_flow ticket.task ≡ false) × IsTileFor b ticket.task (arc_value tile)
IsOutcomeFor work_of b ticket (Begun w) =
    ((graph_of b.plan).is_flow ticket.task ≡ true) × (ticket.work ≡ None)
    × IsFlowBegun b.plan.plan b.plan.span b.program b.known ticket.task (work_of w)
IsOutcomeFor work_of b ticket Underway = IsSome ticket.work
