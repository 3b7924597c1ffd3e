-- What the crates above cite.

-- the transport that a task is of
pub use Rattle.tile_tasks.proofs.FlowTasks.{transport_of_task}
