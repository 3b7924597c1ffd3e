use Rattle.std.proofs.Common.{◌≡◌, false, take}
use Rattle.std.specs.List.{list_any}
use Rattle.script_types.specs.Reports.{Stacked, is_among, names_of}
use Rattle.script_types.proofs.reports.has_file_of.Given as goal

abbrev pub invariant-loop-file : goal.invariant-loop-file
invariant-loop-file l = list_any (λ file. is_among file (names_of l.steps (Stacked l.prefix))) (take l.file-index l.files) ≡ false
