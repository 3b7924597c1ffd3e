use Rattle.std.proofs.Common.{◌≡◌, ◌||◌, ℕ, List, drop}
use Rattle.std.specs.Option.{is_some}
use Rattle.script_types.specs.inside.Look.{look}
use Rattle.script_types.specs.Names.{is_sampled_in}
use Rattle.script_types.proofs.tables.note_samples.Given as goal

abbrev pub invariant-loop-statement : goal.invariant-loop-statement
invariant-loop-statement l = (name : List ℕ) → (is_some (look l.samples.values name) || is_sampled_in (drop l.statement-index l.statements) name) ≡ (is_some (look l.fn.samples.values name) || is_sampled_in l.statements name)
