-- What the crates above cite.
-- what a work computes, and what an operation of a program means at each place
pub use Rattle.span_operands.proofs.Works.{carried_kind, first_kind, keys_are, part_means, plain_alone, work_is}
-- maps by their places
pub use Rattle.span_operands.proofs.Tables.{cell_at-tabulate, tabulate-cell_at, tabulate-scalars}
-- operations of a program, and what is known of their operands
pub use Rattle.span_operands.proofs.KnownLemmas.{begins_later, both, drain_cells, grid_cells, grid_there, initial_operation, item_there, kept_as, kept_by_stages, kept_by_steps, kept_there, literal_cells, map_cells, one_of, stage_within, staged, step_operation, time_cells, unused_cells}
