-- The arguments that are left have the same length among them.
use Rattle.std.proofs.Common.{◌≡◌, drop}
use Rattle.script_types.specs.Typing.{length_among}
use Rattle.script_types.proofs.operands.length_among.Given as goal

abbrev pub invariant-loop-argument : goal.invariant-loop-argument
invariant-loop-argument l = length_among (drop l.argument-index l.arguments) ≡ length_among l.arguments
