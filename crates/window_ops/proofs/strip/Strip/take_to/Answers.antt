use Rattle.std.proofs.Common.{◌≡◌, ℕ, ◌-◌, ◌≤◌, ap, ◌∙◌, arith}
use Rattle.window_ops.specs.inside.Classes.{class_in_column}
use Rattle.window_ops.specs.inside.Outcomes.{longest_window}
use Rattle.window_ops.proofs.CountLemmas.{few-columns, over-next}
use Rattle.window_ops.proofs.strip.Strip.take_to.Goals as goal

pub take_column-requires-clause-room : goal.take_column-requires-clause-room
take_column-requires-clause-room c = λ class.
    let self = c.args.self.now in
    let n = c.loop-col.col - self.from in
    let before = c.loop-col.invariant.counts class in
    let few = few-columns c.args.cols c.args.cells.now class self.top self.bottom self.from n longest_window c.requires.reach in
    let cols = c.requires.cols in
    let few_cols = c.requires.few_cols in
    omega (arith, before, few, cols, few_cols)

pub loop-col-preserved : goal.loop-col-preserved
loop-col-preserved c =
    let self = c.args.self.now in
    record {
      top = c.loop-col.invariant.top;
      bottom = c.loop-col.invariant.bottom;
      from = c.loop-col.invariant.from;
      counts = λ class.
          let count : ℕ → ℕ → ℕ = λ top bottom. class_in_column c.args.cols c.args.cells.now class top bottom c.loop-col.col in
          let before = c.loop-col.invariant.counts class in
          let one = c.in_ok-take_column.ensures.counts class in
          let same : count c.loop-col.self.top c.loop-col.self.bottom ≡ count self.top self.bottom =
          ap (λ (n : ℕ). count n c.loop-col.self.bottom) c.loop-col.invariant.top ∙ ap (count self.top) c.loop-col.invariant.bottom in
          let order : self.from ≤ c.loop-col.col = let o = c.requires.order in omega arith in
          let next = over-next (class_in_column c.args.cols c.args.cells.now class self.top self.bottom) self.from c.loop-col.col order in
          omega (arith, before, one, same, next);
      some = c.in_ok-take_column.ensures.some;
    }
