use Rattle.std.proofs.Common.{◌≡◌, map, drop}
use Rattle.script_types.specs.Checks.{all_of}
use Rattle.script_types.specs.Names.{in_roles}
use Rattle.script_types.specs.inside.Scopes.{scope_of}
use Rattle.script_types.proofs.Fronts.{with_front}
use Rattle.script_types.proofs.TypedCalls.{operand_as}
use Rattle.script_types.proofs.typing.+typed_as.Given as goal

abbrev pub invariant-loop-arg : goal.invariant-loop-arg
invariant-loop-arg l = with_front l.found.items (all_of (in_roles l.asked (map (operand_as (scope_of l.scope)) (drop l.arg-index l.arg-items)))) ≡ all_of (in_roles l.initial.asked (map (operand_as (scope_of l.scope)) l.arg-items))
