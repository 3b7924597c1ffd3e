use Rattle.std.proofs.Common.{◌≡◌, ◌++◌, length}
use Rattle.time_series.specs.Written.{name_lines}
use Rattle.time_series.proofs.writer.put_names.Given as goal

-- what stands there and the lines of the names that are left make the whole
abbrev pub invariant-loop-name : goal.invariant-loop-name
invariant-loop-name l = l.out.items ++ name_lines l.rest ≡ l.initial.out.items ++ name_lines l.names

abbrev pub decreases-loop-name : goal.decreases-loop-name
decreases-loop-name l = length l.rest
