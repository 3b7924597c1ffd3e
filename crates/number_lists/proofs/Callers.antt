-- What other crates cite.
pub use Rattle.number_lists.proofs.ListLemmas.{list_few, numbers_more}
pub use Rattle.number_lists.proofs.HolderLemmas.{turned_are_turned, turned_below, turned_few}
