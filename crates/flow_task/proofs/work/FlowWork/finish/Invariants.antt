use Rattle.std.proofs.Common.{◌≡◌}
use Rattle.tile_map.specs.Parts.{first_over, or_missing, tabulate}
use Rattle.border_channel.specs.Locals.{local_outcome}
use Rattle.flow_task.specs.inside.Abouts.{flow_of}
use Rattle.flow_task.specs.inside.Underway.{cell_place}
use Rattle.flow_task.proofs.work.FlowWork.finish.Given as goal

-- the results of the first cells are there, and the first place of these that is out of range
abbrev pub invariant-loop-i : goal.invariant-loop-i
invariant-loop-i g l =
    let t = g.R.FlowRule.transport l.self-inside.rule in
    let w = flow_of t.orient l.self-inside.about l.self-inside.a l.self-inside.b in
    record {
      cells : l.cells.items ≡ tabulate (λ i. or_missing (local_outcome t w (cell_place w i))) l.i;
      over : l.over ≡ first_over (λ i. local_outcome t w (cell_place w i)) l.i;
    }
