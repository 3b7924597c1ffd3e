use Rattle.std.proofs.Common.{◌≡◌, ◌||◌, ℕ, List, drop}
use Rattle.std.specs.Option.{is_some}
use Rattle.script_types.specs.inside.Look.{look}
use Rattle.script_types.specs.Names.{is_assigned_in}
use Rattle.script_types.proofs.tables.note_targets.Given as goal

abbrev pub invariant-loop-statement : goal.invariant-loop-statement
invariant-loop-statement l = (name : List ℕ) → (is_some (look l.targets.values name) || is_assigned_in (drop l.statement-index l.statements) name) ≡ (is_some (look l.fn.targets.values name) || is_assigned_in l.statements name)
