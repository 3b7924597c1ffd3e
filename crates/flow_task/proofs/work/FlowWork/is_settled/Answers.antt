use Rattle.std.proofs.Common.{◌≡◌, ◌∙◌, ℕ, ap, arith, length, nat_eq}
use Rattle.border_channel.specs.Settled.{all_settled}
use Rattle.flow_task.specs.Works.{TileWork}
use Rattle.flow_task.specs.inside.Abouts.{flow_of}
use Rattle.flow_task.specs.inside.States.{state}
use Rattle.flow_task.specs.inside.Underway.{tile_size}
use Rattle.flow_task.proofs.Settling.{settled_count}
use Rattle.flow_task.proofs.work.FlowWork.is_settled.Goals as goal

pub returns : goal.returns
returns g c =
    let w = flow_of (g.R.FlowRule.transport c.self.inside.rule).orient c.self.inside.about c.self.inside.a c.self.inside.b in
    let one : c.len.result ≡ length c.self.inside.queue.items = omega arith in
    let many : length c.self.inside.missing.items ≡ tile_size w = c.self.invariant.0.underway.counted.missing_many in
    let two : c.len-2.result ≡ tile_size w = omega (arith, many) in
    ap (λ (n : ℕ). nat_eq n c.len-2.result) one
    ∙ (ap (λ (n : ℕ). nat_eq (length c.self.inside.queue.items) n) two
    ∙ (settled_count (g.R.FlowRule.transport c.self.inside.rule) (g.R.FlowRule.rule c.self.inside.rule) w c.self.invariant.0.begun.tile (state c.self.inside.inflows.items c.self.inside.missing.items c.self.inside.queue.items) c.self.invariant.0.underway
    ∙ ap (λ (v : TileWork g.row.R.Denot). all_settled (g.R.FlowRule.transport v.which).orient v.of) c.self.view_is))
