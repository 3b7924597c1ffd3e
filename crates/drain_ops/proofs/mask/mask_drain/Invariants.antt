use Rattle.std.proofs.Common.{◌≡◌, map}
use Rattle.std.specs.List.{range_with_len}
use Rattle.drain_meaning.specs.Masks.{masked_code}
use Rattle.tile_map.specs.Args.{arg_cell}
use Rattle.drain_ops.proofs.mask.mask_drain.Given as goal

-- the codes so far are those of the masked map
abbrev pub invariant-loop-place : goal.invariant-loop-place
invariant-loop-place l = l.cells.items ≡ map (masked_code l.drain (arg_cell l.mask)) (range_with_len 0 l.place)
