use Rattle.std.proofs.Common.{◌≡◌, List, drop}
use Rattle.script_types.specs.Reports.{Kept}
use Rattle.script_types.specs.inside.Answers.{reports_pass}
use Rattle.script_types.specs.inside.Scopes.{binding_in}
use Rattle.script_types.specs.inside.Taken.{HasFileTable, HasTaken}
use Rattle.script_types.proofs.reports.check_reports.Given as goal

abbrev pub invariant-loop-at : goal.invariant-loop-at
invariant-loop-at l = record {
  table : HasFileTable l.taken;
  told : (kepts : List Kept) → HasTaken l.fn.taken kepts → (more : List Kept) × HasTaken l.taken more × (reports_pass l.scope.steps (binding_in l.scope) more l.at (drop l.at l.lines) ≡ reports_pass l.scope.steps (binding_in l.scope) kepts 0 l.lines);
}
