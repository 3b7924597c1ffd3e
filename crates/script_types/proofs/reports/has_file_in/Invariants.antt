use Rattle.std.proofs.Common.{◌≡◌, false, take}
use Rattle.std.specs.List.{list_any}
use Rattle.script_types.specs.Reports.{Stacked, share_a_name}
use Rattle.script_types.proofs.reports.has_file_in.Given as goal

abbrev pub invariant-loop-other : goal.invariant-loop-other
invariant-loop-other l = list_any (λ other. share_a_name l.steps (Stacked l.prefix) (Stacked other)) (take l.other-index l.stacks) ≡ false
