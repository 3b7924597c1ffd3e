use Rattle.std.proofs.Common.{◌≡◌, ◌||◌, Bool, drop}
use Rattle.std.specs.List.{list_any}
use Rattle.script_types.specs.Reports.{Kept}
use Rattle.script_types.specs.inside.Taken.{HasFileTable, is_taken_by, kepts_in}
use Rattle.script_types.proofs.reports.take_inputs.Given as goal

abbrev pub invariant-loop-binding : goal.invariant-loop-binding
invariant-loop-binding l = record {
  table : HasFileTable l.fn.taken → HasFileTable l.taken;
  more : (test : Kept → Bool) → (list_any test (kepts_in l.targets l.roles (drop l.binding-index l.bindings)) || is_taken_by test l.taken) ≡ (list_any test (kepts_in l.targets l.roles l.bindings) || is_taken_by test l.fn.taken);
}
