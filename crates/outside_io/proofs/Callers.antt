-- The lemmas that other crates cite.
pub use Rattle.outside_io.proofs.MetLemmas.{read_keeps_all, if_told, meets_stop, meets_on, meets_settled, meets_no_memory, meets_read, meets_absent, meets_long, meets_read_failed, meets_put, meets_put_failed, meets_put_no_memory, meets_end_as, meets_afterwards, meets_cut_off, meets_last_stop}
pub use Rattle.outside_io.proofs.LoopLemmas.{leads_start, leads_no_memory, leads_done, leads_on, leads_stop, meets_out, next_number, no_number, turn_on, turn_stop, turn_done, item_on, item_stop, item_done}
