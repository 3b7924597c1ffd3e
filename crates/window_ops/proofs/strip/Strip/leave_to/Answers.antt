use Rattle.std.proofs.Common.{◌≡◌, ℕ, ap, ◌∙◌, arith}
use Rattle.window_ops.specs.inside.Classes.{class_in_column}
use Rattle.window_ops.proofs.CountLemmas.{over-front}
use Rattle.window_ops.proofs.strip.Strip.leave_to.Goals as goal

pub leave_column-requires-clause-there : goal.leave_column-requires-clause-there
leave_column-requires-clause-there c = λ class.
    let self = c.args.self.now in
    let count : ℕ → ℕ → ℕ = λ top bottom. class_in_column c.args.cols c.args.cells.now class top bottom c.loop-col.col in
    let before = c.loop-col.invariant.counts class in
    let same : count c.loop-col.self.top c.loop-col.self.bottom ≡ count self.top self.bottom =
    ap (λ (n : ℕ). count n c.loop-col.self.bottom) c.loop-col.invariant.top ∙ ap (count self.top) c.loop-col.invariant.bottom in
    let order = c.requires.order in
    let front = over-front (class_in_column c.args.cols c.args.cells.now class self.top self.bottom) c.loop-col.col self.to (omega arith) in
    omega (arith, before, same, front)

pub loop-col-preserved : goal.loop-col-preserved
loop-col-preserved c =
    let self = c.args.self.now in
    record {
      top = c.loop-col.invariant.top;
      bottom = c.loop-col.invariant.bottom;
      to = c.loop-col.invariant.to;
      counts = λ class.
          let count : ℕ → ℕ → ℕ = λ top bottom. class_in_column c.args.cols c.args.cells.now class top bottom c.loop-col.col in
          let before = c.loop-col.invariant.counts class in
          let one = c.leave_column.ensures.counts class in
          let same : count c.loop-col.self.top c.loop-col.self.bottom ≡ count self.top self.bottom =
          ap (λ (n : ℕ). count n c.loop-col.self.bottom) c.loop-col.invariant.top ∙ ap (count self.top) c.loop-col.invariant.bottom in
          let order = c.requires.order in
          let front = over-front (class_in_column c.args.cols c.args.cells.now class self.top self.bottom) c.loop-col.col self.to (omega arith) in
          omega (arith, before, one, same, front);
      some = c.leave_column.ensures.some;
    }
