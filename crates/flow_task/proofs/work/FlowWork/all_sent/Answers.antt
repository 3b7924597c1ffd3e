use Rattle.std.proofs.Common.{◌≡◌, ◌∙◌, ℕ, ap, arith, length, nat_eq}
use Rattle.border_channel.specs.Outbound.{all_sent}
use Rattle.flow_task.specs.Works.{TileWork}
use Rattle.flow_task.specs.inside.Abouts.{flow_of}
use Rattle.flow_task.specs.inside.States.{state}
use Rattle.flow_task.proofs.Marking.{sent_count}
use Rattle.flow_task.proofs.work.FlowWork.all_sent.Goals as goal

pub returns : goal.returns
returns g c =
    let w = flow_of (g.R.FlowRule.transport c.self.inside.rule).orient c.self.inside.about c.self.inside.a c.self.inside.b in
    let one : c.len.result ≡ length c.self.inside.sent.items = omega arith in
    let two : c.len-2.result ≡ length c.self.inside.outbound.items = omega arith in
    ap (λ (n : ℕ). nat_eq n c.len-2.result) one
    ∙ (ap (λ (n : ℕ). nat_eq (length c.self.inside.sent.items) n) two
    ∙ (sent_count (g.R.FlowRule.transport c.self.inside.rule) (g.R.FlowRule.rule c.self.inside.rule) w c.self.inside.fed (state c.self.inside.inflows.items c.self.inside.missing.items c.self.inside.queue.items) c.self.inside.inbound.items c.self.inside.outbound.items c.self.inside.unsent.items c.self.inside.sent.items _ _ _ c.self.invariant.0 c.self.invariant.1
    ∙ ap (λ (v : TileWork g.row.R.Denot). all_sent v.of v.sent) c.self.view_is))
