use Rattle.std.proofs.Common.{◌≡◌, false, take}
use Rattle.std.specs.List.{list_any}
use Rattle.script_types.specs.Reports.{Stacked, is_among, names_of}
use Rattle.script_types.proofs.reports.is_of_stacks.Given as goal

abbrev pub invariant-loop-prefix : goal.invariant-loop-prefix
invariant-loop-prefix l = list_any (λ prefix. is_among l.file (names_of l.steps (Stacked prefix))) (take l.prefix-index l.stacks) ≡ false
