-- The lemmas that other crates cite.
pub use Rattle.script_tasks.proofs.CountLemmas.{same_tasks}
