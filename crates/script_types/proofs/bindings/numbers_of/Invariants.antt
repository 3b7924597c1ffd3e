use Rattle.std.proofs.Common.{◌≡◌, ◌+◌, ◌≤◌, ℕ, List, filter, drop}
use Rattle.script_types.specs.Names.{place_from}
use Rattle.script_types.specs.Typing.{or_kind}
use Rattle.script_types.specs.inside.Answers.{is_input_in}
use Rattle.script_types.specs.inside.Look.{look}
use Rattle.script_types.proofs.bindings.numbers_of.Given as goal

abbrev pub invariant-loop-binding : goal.invariant-loop-binding
invariant-loop-binding l = (l.number ≤ l.first + l.binding-index) × ((name : List ℕ) → or_kind (look l.inputs.values name) (place_from l.number (filter (is_input_in l.targets l.roles) (drop l.binding-index l.bindings)) name) ≡ place_from l.first (filter (is_input_in l.targets l.roles) l.bindings) name)
