-- What the crates above cite.

-- lists with one item written over, and lists of numbers by how often each stands there
pub use Rattle.task_states.proofs.ListLemmas.{each_get, each_last, each_snoc, each_weaken, few_once, get_any, get_past, in_get, in_times, items_back, length_times, more_here, more_there, no_items, owed_here, set_all, times-append, times_front, times_in, times_last_other, times_last_same, times_out, unmet_more}
-- needs that are unpublished
pub use Rattle.task_states.proofs.StateLemmas.{none_unmet, taken_shown, unmet_none, unmet_published, unmet_same, unmet_ready}
