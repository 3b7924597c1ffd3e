use Rattle.std.proofs.Common.{arith, ◌≡◌, ◌∙◌, ℕ, ◌<◌, List, ◌++◌, length, take, ap, sym}
use Rattle.std.specs.Prelude.{replicate}
use Rattle.number_lists.specs.Turned.{holders_from, times}
use Rattle.number_lists.proofs.TurnedLemmas.{holders_next}
use Rattle.number_lists.proofs.turned.holders.Goals as goal

pub loop-i-preserved : goal.loop-i-preserved
loop-i-preserved c =
    let before = c.loop-i.invariant in
    let noted = c.in_ok-note.ensures in
    let size : length c.loop-i.got.items ≡ c.args.count = before.count in
    let lists = c.args.lists.now in
    let i = c.loop-i.i in
    let below : i < length lists = omega arith in
    record {
      count = noted.count ∙ before.count;
      each = λ k less.
          noted.each k (omega arith)
          ∙ (ap (λ (zs : List ℕ). zs ++ replicate (times k c.list.result.now) i) (before.each k less)
          ∙ (ap (λ (zs : List ℕ). holders_from k 0 (take i lists) ++ replicate (times k zs) i) c.list.ensures
          ∙ sym (holders_next k lists i below)));
    }
