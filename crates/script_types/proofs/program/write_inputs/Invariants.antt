use Rattle.std.proofs.Common.{◌≡◌, ◌++◌, map, filter, drop}
use Rattle.script_types.specs.inside.Answers.{is_input_in}
use Rattle.script_types.specs.inside.Programs.{AllSuit, input_by}
use Rattle.script_types.proofs.program.write_inputs.Given as goal

abbrev pub invariant-loop-binding : goal.invariant-loop-binding
invariant-loop-binding l = record {
  suit : AllSuit (map (input_by l.roles) (filter (is_input_in l.targets l.roles) (drop l.binding-index l.bindings)));
  written : l.inputs ++ map (input_by l.roles) (filter (is_input_in l.targets l.roles) (drop l.binding-index l.bindings)) ≡ l.fn.inputs ++ map (input_by l.roles) (filter (is_input_in l.targets l.roles) l.bindings);
}
