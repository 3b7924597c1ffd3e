-- What the crates above cite: what holds of the settled statements of a script without a fault.
pub use Rattle.script_types.proofs.SettledFits.{lines-fit}
