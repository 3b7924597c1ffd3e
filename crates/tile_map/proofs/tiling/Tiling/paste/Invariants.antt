use Rattle.std.proofs.Common.{take, ◌*◌}
use Rattle.tile_map.specs.Pastes.{IsPasted}
use Rattle.tile_map.proofs.tiling.Tiling.paste.Given as goal

-- the rows before are pasted
abbrev pub invariant-loop-row : goal.invariant-loop-row
invariant-loop-row l =
    IsPasted l.self.cols (record l.rect { rows = l.row }) (take (l.row * l.rect.cols) l.part) l.initial.into l.into
