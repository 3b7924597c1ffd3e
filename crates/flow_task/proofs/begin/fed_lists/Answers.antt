use Rattle.std.proofs.Common.{◌≡◌, ◌∙◌, ◌+◌, ◌++◌, ◌∷◌, ℕ, List, [], ap, subst, sym, arith, length, length-append, refl}
use Rattle.number_lists.specs.inside.Joined.{EndsAt, lists_of}
use Rattle.number_lists.proofs.ListLemmas.{ends_more, lists_more}
use Rattle.flow_task.proofs.FedLemmas.{none_are, none_end}
use Rattle.flow_task.specs.inside.Begins.{fed_in_tile}
use Rattle.flow_task.proofs.Within.{fed_in_few, over_more}
use Rattle.flow_task.proofs.begin.fed_lists.Goals as goal

pub loop-cell-init : goal.loop-cell-init
loop-cell-init c =
    let none : length c.in_ok-cells.cells.items ≡ 0 = ap length c.in_ok-cells.ensures.items in
    record {
      ends = none_end c.in_ok-ends.ends.items c.in_ok-cells.cells.items c.in_ok-ends.ensures.items c.in_ok-cells.ensures.items;
      lists = none_are c.in_ok-ends.ends.items c.in_ok-cells.cells.items c.in_ok-ends.ensures.items;
      few = omega (arith, none);
    }

pub overflow_cast-len : goal.overflow_cast-len
overflow_cast-len c =
    let fed : List ℕ = fed_in_tile c.args.orient c.args.drain.now c.args.tiling.now c.args.tile c.loop-cell.cell in
    let old : List ℕ = c.loop-cell.cells.items in
    let grown : c.push_fed_cells.new.cells.items ≡ old ++ fed = c.in_ok-push_fed_cells.ensures in
    let many : length c.push_fed_cells.new.cells.items ≡ length old + length fed = ap length grown ∙ length-append old fed in
    let few = fed_in_few c.args.orient c.args.drain.now c.args.tiling.now c.args.tile c.loop-cell.cell c.requires.drain in
    omega (arith, many, few, c.loop-cell.invariant.few, c.count_of-count.ensures.few)

pub loop-cell-preserved : goal.loop-cell-preserved
loop-cell-preserved c =
    let fed : List ℕ = fed_in_tile c.args.orient c.args.drain.now c.args.tiling.now c.args.tile c.loop-cell.cell in
    let old : List ℕ = c.loop-cell.cells.items in
    let new : List ℕ = c.push_fed_cells.new.cells.items in
    let ends : List ℕ = c.loop-cell.ends.items in
    let grown : new ≡ old ++ fed = c.in_ok-push_fed_cells.ensures in
    let many : length new ≡ length old + length fed = ap length grown ∙ length-append old fed in
    let few = fed_in_few c.args.orient c.args.drain.now c.args.tiling.now c.args.tile c.loop-cell.cell c.requires.drain in
    let last : c.len.result ≡ length new = omega arith in
    let longer : c.push.new.self.items ≡ ends ++ length new ∷ [] = c.in_ok-push.ensures.items ∙ ap (λ (n : ℕ). ends ++ n ∷ []) last in
    record {
      ends = subst (λ (xs : List ℕ). EndsAt 0 xs (length new)) (sym longer) (ends_more 0 ends (length old) (length new) c.loop-cell.invariant.ends (omega (arith, many)));
      lists = over_more (fed_in_tile c.args.orient c.args.drain.now c.args.tiling.now c.args.tile) c.loop-cell.cell fed (lists_of 0 ends old) (lists_of 0 c.push.new.self.items new) c.loop-cell.invariant.lists refl
          (ap (λ (xs : List ℕ). lists_of 0 xs new) longer
          ∙ (ap (λ (ys : List ℕ). lists_of 0 (ends ++ length new ∷ []) ys) grown
          ∙ lists_more 0 ends old fed (length new) c.loop-cell.invariant.ends many));
      few = omega (arith, many, few, c.loop-cell.invariant.few);
    }
