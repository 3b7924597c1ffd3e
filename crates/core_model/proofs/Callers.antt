-- What the crates above cite.

-- what every state that a run leads to keeps: of holders, messages, parked and published flow tasks
pub use Rattle.core_model.proofs.Kept.{Kept, opening_kept, run_kept}
-- that the needs of a begun task are published
pub use Rattle.core_model.proofs.Standing.{begun_step, run_begun, same_holder}
-- runs in two parts, and with one step more
pub use Rattle.core_model.proofs.RunLemmas.{after_rest, after_snoc, legal_rest, legal_snoc}
-- what others leave, and what stays whatever is done
pub use Rattle.core_model.proofs.Others.{finished_run, flag_run, held_run, none_run, published_run, sent_append, taken_append}
-- an enabled step of a holder, and a task that can be claimed where nobody holds one
pub use Rattle.core_model.proofs.Stuck.{holder_enabled, idle_enabled}
-- the laws of runs, for lemmas
pub use Rattle.core_model.proofs.Bound.{bounded, flag_most}
pub use Rattle.core_model.proofs.Puts.{puts_down_once}
pub use Rattle.core_model.proofs.Standing.{held_stays, holds_one, right}
pub use Rattle.core_model.proofs.Others.{left_by_others}
-- settled points
pub use Rattle.core_model.proofs.Settled.{settled_is, settled_least, settled_same, taken_into}
-- sums below a number, and functions changed at one place
pub use Rattle.core_model.proofs.Sums.{sum_add, sum_at, sum_change, sum_le, sum_ones, sum_same, sum_zero}
pub use Rattle.core_model.proofs.Find.{bool_cases, each_from, each_in, in_last, in_longer, in_snoc, NoDup, no_dup_snoc, upd_cases, upd_other, upd_same}
