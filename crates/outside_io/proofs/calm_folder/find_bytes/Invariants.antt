use Rattle.std.proofs.Common.{◌≡◌}
use Rattle.std.specs.Ordering.{nat_cmp}
use Rattle.std.specs.Cmp.Lexicographic.{slice_cmp}
use Rattle.std.specs.FinMap.{get, find}
use Rattle.std.specs.VecDeque.Iter.{deque_iter_rest}
use Rattle.outside_io.specs.CalmFolder.{pairs, held_files}
use Rattle.outside_io.proofs.calm_folder.find_bytes.Given as goal

-- what is left of the writes gives the same answer
abbrev pub invariant-loop-held : goal.invariant-loop-held
invariant-loop-held l = get (held_files l.files.items) l.name ≡ find (slice_cmp nat_cmp) l.name (pairs (deque_iter_rest l.held-iterator))
