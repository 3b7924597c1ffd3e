-- What the crates above cite.
-- operations in their order, each of them to its end
pub use Rattle.task_tiles.proofs.OnwardLemmas.{AreReadBefore, GoesOn, IsOfSection, maps_of, notes_of, onward_keeps, onward_map, onward_notes, onward_section, operand_stays, other_maps, part_stays}
-- the steps of a span, and what is done at their ends
pub use Rattle.task_tiles.proofs.DoneLemmas.{ComesFrom, IsAmong, IsStepOf, before_step, comes_from, done_first, done_later, done_map, onward_count, onward_step, span_reads, step_notes, steps_notes}
