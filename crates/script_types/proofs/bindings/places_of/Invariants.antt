use Rattle.std.proofs.Common.{◌≡◌, ℕ, List, [], take, drop}
use Rattle.script_types.specs.Names.{place_from}
use Rattle.script_types.specs.inside.Answers.{bindings_pass}
use Rattle.script_types.specs.inside.Look.{look}
use Rattle.script_types.proofs.bindings.places_of.Given as goal

abbrev pub invariant-loop-at : goal.invariant-loop-at
invariant-loop-at l = ((name : List ℕ) → look l.places.values name ≡ place_from 0 (take l.at l.bindings) name) × (bindings_pass (take l.at l.bindings) (drop l.at l.bindings) ≡ bindings_pass [] l.bindings)
