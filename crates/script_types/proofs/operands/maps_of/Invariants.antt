use Rattle.std.proofs.Common.{◌≡◌, ◌++◌}
use Rattle.std.specs.Vec.Iter.{into_iter_items}
use Rattle.script_types.specs.Typing.{maps_of}
use Rattle.script_types.proofs.operands.maps_of.Given as goal

abbrev pub invariant-loop-argument : goal.invariant-loop-argument
invariant-loop-argument l = l.maps.items ++ maps_of (into_iter_items l.argument-iterator) ≡ maps_of l.fn.arguments.items
