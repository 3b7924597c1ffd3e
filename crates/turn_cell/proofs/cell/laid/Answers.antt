use Rattle.std.proofs.Common.{◌≡◌}
use Rattle.turn_cell.proofs.cell.laid.Goals as goal

pub returns-in-Ok-clause-made : goal.returns-in-Ok-clause-made
returns-in-Ok-clause-made g c = (c.in_ok-block.block, c.in-Ok.ensures.made, c.in_ok-block.ensures.made)
