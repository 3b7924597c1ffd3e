-- The drain maps that are due are computed one by one.
use Rattle.std.proofs.Common.{◌≡◌, ℕ, ◌+◌, ◌≤◌, List, [], ◌∷◌, ◌++◌, length, length-append, sym, ap, subst, ◌∙◌, arith}
use Rattle.std.specs.Prelude.{Some, slice_get, slice_index_or}
use Rattle.drain_meaning.specs.Drains.{DrainMap}
use Rattle.map_meaning.specs.declared.program.DrainFrom.TheVariants as from
use Rattle.map_meaning.specs.declared.program.DrainUse.{DrainUse}
use Rattle.map_meaning.specs.declared.program.Program.{Program}
use Rattle.run_session.specs.inside.Stages.{HasLeft}
use Rattle.run_session.proofs.HeldDrains.{held}
use Rattle.run_session.proofs.StageRuns.{drain_added, item_at, left_ascends, next_not_due, none_not_due}
use Rattle.run_session.proofs.stages.add_due.Goals as goal

abbrev default : DrainUse
default = record { from = from.Input 0; after = 0 }

pub returns-then-first-one-clause-due : goal.returns-then-first-one-clause-due
returns-then-first-one-clause-due c =
    let work = c.args.work.now in
    let same = c.as_slice-uses.ensures ∙ ap (λ (p : Program). p.drains) c.deref.ensures in
    let n = c.loop-n.n in
    let one : DrainUse = slice_index_or c.as_slice-uses.result.now c.loop-n.n default in
    let L = c.loop-n.invariant.left in
    let at = item_at work.program.value c.as_slice-uses.result.now n default same c.loop-n-test.true in
    next_not_due work c.requires.work c.args.first L.0 c.loop-n.left L.1 one (subst (λ j. slice_get work.program.value.drains j ≡ Some one) c.loop-n.invariant.count at) c.if-first-one.true

pub drain_map-requires-clause-ascend : goal.drain_map-requires-clause-ascend
drain_map-requires-clause-ascend c =
    let L = c.loop-n.invariant.left in left_ascends c.args.work.now c.requires.work c.args.first L.0 c.loop-n.left L.1

pub drain_map-requires-clause-source : goal.drain_map-requires-clause-source
drain_map-requires-clause-source c =
    let work = c.args.work.now in
    let same = c.as_slice-uses.ensures ∙ ap (λ (p : Program). p.drains) c.deref.ensures in
    let n = c.loop-n.n in
    let one : DrainUse = slice_index_or c.as_slice-uses.result.now c.loop-n.n default in
    let L = c.loop-n.invariant.left in
    let at = item_at work.program.value c.as_slice-uses.result.now n default same c.loop-n-test.true in
    (held work c.requires.work c.args.first L.0 c.loop-n.left L.1 n one at c.loop-n.invariant.count c.if-first-one.false).source

pub loop-n-preserved : goal.loop-n-preserved
loop-n-preserved c =
    let work = c.args.work.now in
    let same = c.as_slice-uses.ensures ∙ ap (λ (p : Program). p.drains) c.deref.ensures in
    let n = c.loop-n.n in
    let one : DrainUse = slice_index_or c.as_slice-uses.result.now c.loop-n.n default in
    let left = c.loop-n.left in
    let L = c.loop-n.invariant.left in
    let at = item_at work.program.value c.as_slice-uses.result.now n default same c.loop-n-test.true in
    let here = subst (λ j. slice_get work.program.value.drains j ≡ Some one) c.loop-n.invariant.count at in
    let added = drain_added work c.requires.work c.args.first L.0 left L.1 one c.in_ok-drain.drain here c.if-first-one.false c.in_ok-drain.ensures in
    let Q : List DrainMap → Type 0 = λ drains. HasLeft work.program.value work.inputs c.args.first (record { kept = left.kept; drains = drains }) in
    record {
      left = subst Q (sym c.in_ok-push.ensures.ok) (_, added);
      count = (let one : length (left.drains ++ c.in_ok-drain.drain ∷ []) ≡ length left.drains + 1 = omega (arith, length-append left.drains (c.in_ok-drain.drain ∷ [])) in let k : n ≡ length left.drains = c.loop-n.invariant.count in ap (λ (j : ℕ). j + 1) k ∙ (sym one ∙ ap length (sym c.in_ok-push.ensures.ok)));
    }

pub returns-clause-due : goal.returns-clause-due
returns-clause-due c =
    let work = c.args.work.now in
    let same : c.as_slice-uses.result.now ≡ work.program.value.drains = c.as_slice-uses.ensures ∙ ap (λ (p : Program). p.drains) c.deref.ensures in
    let L = c.loop-n.invariant.left in
    none_not_due work c.requires.work c.args.first L.0 c.loop-n.left L.1 (subst (λ ds. length ds ≤ length c.loop-n.left.drains) same (subst (λ j. length c.as_slice-uses.result.now ≤ j) c.loop-n.invariant.count c.loop-n-test.false))
