use Rattle.std.proofs.Common.{◌≡◌, ◌∙◌, ℕ, ap, arith, sym}
use Rattle.std.specs.Prelude.{◌==◌}
use Rattle.std.proofs.lemmas.List.{get_or_default}
use Rattle.border_channel.specs.Edges.{edge, edge_at}
use Rattle.tile_map.specs.Tiles.{tile_at}
use Rattle.worked_tiles.specs.Runs.{looked_end}
use Rattle.flow_task.proofs.Within.{filter_off, filter_on}
use Rattle.worked_tiles.proofs.run.edges_of_tile.Goals as goal
use Rattle.worked_tiles.proofs.run.edges_of_tile.Goals.{then-branch+in_ok-push, else-branch}

pub loop-number-preserved : goal.loop-number-preserved
loop-number-preserved c =
    let g = c.args.tiling.now in
    let at : c.looked_end.result ≡ looked_end c.args.inward (edge_at c.args.edges.now c.loop-number.number) =
    c.looked_end.ensures ∙ ap (looked_end c.args.inward) (get_or_default c.args.edges.now c.loop-number.number _ (edge 0 0) (omega arith)) in
    let lies : c.in_ok-lies_in.field-0 ≡ (tile_at g (looked_end c.args.inward (edge_at c.args.edges.now c.loop-number.number)) == c.args.tile) =
    c.in_ok-lies_in.ensures ∙ ap (λ (place : ℕ). tile_at g place == c.args.tile) at in
    elim c.if-branch.branch [
      | then-branch+in_ok-push w ↦
          filter_on (λ e. tile_at g (looked_end c.args.inward (edge_at c.args.edges.now e)) == c.args.tile) c.loop-number.number c.loop-number.own.items c.if-branch.own.items c.loop-number.invariant
          (sym lies ∙ w.if-branch.true) (ap (λ q. q.items) w.own-is ∙ w.in_ok-push.ensures.items)
      | else-branch w ↦
          filter_off (λ e. tile_at g (looked_end c.args.inward (edge_at c.args.edges.now e)) == c.args.tile) c.loop-number.number c.loop-number.own.items c.if-branch.own.items c.loop-number.invariant
          (sym lies ∙ w.if-branch.false) (ap (λ q. q.items) w.own-is)
    ]
