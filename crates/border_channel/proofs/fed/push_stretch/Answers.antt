use Rattle.std.proofs.Common.{◌≡◌, ◌∙◌, ◌+◌, ◌*◌, ℕ, [], ◌++◌, ◌∷◌, arith, ap, sym}
use Rattle.std.proofs.lemmas.List.{append-nil}
use Rattle.tile_map.specs.Cuts.{cell_at}
use Rattle.drain_meaning.specs.Drains.{next_at}
use Rattle.drain_meaning.specs.Transports.{drains_into}
use Rattle.border_channel.specs.inside.Draining.{has_code}
use Rattle.border_channel.proofs.DrainingLemmas.{IsBeside, code_toward, draining_one, draining_other, drains_by, stretch_on}
use Rattle.border_channel.proofs.fed.push_stretch.Goals as goal
use Rattle.border_channel.proofs.fed.push_stretch.Goals.{then-has_code+in_ok-push, else-has_code}

pub loop-at-preserved : goal.loop-at-preserved
loop-at-preserved c =
    let m = c.args.drain.now in
    let place : ℕ = c.args.line * m.cols + c.loop-at.at in
    let beside : IsBeside m c.args.row c.args.col c.args.line c.loop-at.at = record {
      row_in = c.requires.row;
      col_in = c.requires.col;
      at_in = omega (arith, c.requires.within);
      above = c.requires.above;
      below = c.requires.below;
      left = omega (arith, c.requires.left);
      right = omega (arith, c.requires.right);
    } in
    let there : c.args.line * c.cols.result + c.loop-at.at ≡ place = ap (λ (n : ℕ). c.args.line * n + c.loop-at.at) c.cols.ensures in
    let code : c.code.result ≡ cell_at m.codes place = c.code.ensures ∙ ap (cell_at m.codes) there in
    let by : c.has_code.result ≡ drains_into c.args.cell (next_at m place) =
    c.has_code.ensures
    ∙ (ap (has_code (code_toward c.args.row c.args.col c.args.line c.loop-at.at)) code
    ∙ (drains_by m c.requires.drain c.args.row c.args.col c.args.line c.loop-at.at beside ∙ ap (λ (n : ℕ). drains_into n (next_at m place)) (sym c.requires.cell))) in
    elim c.if-has_code.branch [
      | then-has_code+in_ok-push w ↦
          let more : c.if-has_code.into.items ≡ c.loop-at.into.items ++ place ∷ [] = ap (λ q. q.items) w.into-is ∙ (w.in_ok-push.ensures.items ∙ ap (λ (n : ℕ). c.loop-at.into.items ++ n ∷ []) there) in
          stretch_on m c.args.cell (c.args.line * m.cols) c.args.left c.loop-at.at c.args.into.now.items c.loop-at.into.items c.if-has_code.into.items
          (place ∷ []) (omega arith) c.loop-at.invariant (draining_one m c.args.cell place (sym by ∙ w.if-has_code.true)) more
      | else-has_code w ↦
          let more : c.if-has_code.into.items ≡ c.loop-at.into.items ++ [] = ap (λ q. q.items) w.into-is ∙ sym (append-nil c.loop-at.into.items) in
          stretch_on m c.args.cell (c.args.line * m.cols) c.args.left c.loop-at.at c.args.into.now.items c.loop-at.into.items c.if-has_code.into.items
          [] (omega arith) c.loop-at.invariant (draining_other m c.args.cell place (sym by ∙ w.if-has_code.false)) more
    ]
