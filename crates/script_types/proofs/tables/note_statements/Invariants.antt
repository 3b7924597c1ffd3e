use Rattle.std.proofs.Common.{◌≡◌, ℕ, List, drop}
use Rattle.script_types.specs.inside.Look.{look}
use Rattle.script_types.specs.Names.{role_of, statements_uses}
use Rattle.script_types.specs.Typing.{or_kind}
use Rattle.script_types.proofs.tables.note_statements.Given as goal

abbrev pub invariant-loop-statement : goal.invariant-loop-statement
invariant-loop-statement l = (name : List ℕ) → or_kind (look l.roles.values name) (role_of (statements_uses (drop l.statement-index l.statements)) name) ≡ or_kind (look l.fn.roles.values name) (role_of (statements_uses l.statements) name)
