use Rattle.std.proofs.Common.{◌≡◌, ℕ, length, subst, arith}
use Rattle.tile_map.specs.Cuts.{cell_at}
use Rattle.drain_ops.specs.inside.Cutout.{cutout}
use Rattle.drain_ops.proofs.FedLemmas.{HasCome, come_all}
use Rattle.drain_ops.proofs.near.upstream_flows.Goals as goal

pub returns-clause-each : goal.returns-clause-each
returns-clause-each c =
    let m = cutout c.args.around c.args.codes.now in
    let values = cell_at c.args.cells.now in
    let flows = c.loop-number.flows.items in
    let all : c.loop-number.number ≡ length c.args.codes.now = omega arith in
    λ d low. come_all m values flows (subst (λ (n : ℕ). HasCome m values flows n) all c.loop-number.invariant) d
