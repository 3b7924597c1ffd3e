use Rattle.std.proofs.Common.{arith, ◌≡◌, ◌∙◌, ℕ, ◌+◌, ◌<◌, ◌≤◌, drop, length, ap, sym, subst, ◌∷◌}
use Rattle.std.specs.Prelude.{AllPairs, max, slice_index_or, slice_range}
use Rattle.map_meaning.specs.Programs.{AreDrainUses}
use Rattle.map_meaning.specs.declared.program.DrainFrom.TheVariants.{Input}
use Rattle.task_graph.specs.Counts.{tasks_of}
use Rattle.map_meaning.specs.declared.program.DrainUse.{DrainUse}
use Rattle.task_graph.proofs.CountLemmas.{default_any, drain_there, drop_front, most_from, stages_front, stages_skip}
use Rattle.task_graph.proofs.count.most_of_stages.Goals as goal
use Rattle.task_graph.proofs.count.most_of_stages.Goals.{then-is_computed, else-is_computed}

pub stage_tasks-requires-clause-there : goal.stage_tasks-requires-clause-there
stage_tasks-requires-clause-there c =
    let ds = c.as_slice-drain-items.result.now in
    let e : ds ≡ c.args.program.now.drains = c.as_slice-drain-items.ensures in
    drain_there c.args.program.now 0 ds c.loop-drain.drain-index _ (subst (AreDrainUses c.args.program.now 0) (sym e) c.requires.program.drains) c.loop-drain-test.true

pub loop-drain-preserved : goal.loop-drain-preserved
loop-drain-preserved c =
    let ds = c.as_slice-drain-items.result.now in
    let e : ds ≡ c.args.program.now.drains = c.as_slice-drain-items.ensures in
    let i = c.loop-drain.drain-index in
    let before = c.loop-drain.invariant in
    let program = c.args.program.now in
    let d : DrainUse = slice_index_or ds i (record { from = Input 0; after = 0 }) in
    let front : drop i ds ≡ d ∷ drop (i + 1) ds = drop_front ds i (record { from = Input 0; after = 0 }) c.loop-drain-test.true in
    let rises : (k : ℕ) (x : DrainUse) → i < k → k < length ds → d.after ≤ (slice_index_or ds k x).after =
    λ k x more below. subst (λ (y : DrainUse). y.after ≤ (slice_index_or ds k x).after) (default_any ds i x (record { from = Input 0; after = 0 }) c.loop-drain-test.true)
    (subst (AllPairs (λ (a b : DrainUse). a.after ≤ b.after)) (sym e) c.requires.program.drain_order i k x more below) in
    elim c.if-is_computed.branch [
      | then-is_computed w ↦ record {
        all =
            ap (λ (n : ℕ). max n (most_from c.args.tiles program c.if-is_computed.first (drop (i + 1) ds))) (w.most-is ∙ (w.max-most.ensures ∙ ap (λ (n : ℕ). max c.loop-drain.most n) w.stage_tasks.ensures))
            ∙ (ap (λ (n : ℕ). max (max c.loop-drain.most (tasks_of c.args.tiles (slice_range program.initial c.loop-drain.first d.after))) (most_from c.args.tiles program n (drop (i + 1) ds))) w.first-is
            ∙ stages_front c.args.tiles program c.loop-drain.first c.loop-drain.most _ (drop i ds) (drop (i + 1) ds) d front (sym c.is_computed.ensures ∙ w.if-is_computed.true) before.all);
        there = subst (λ (n : ℕ). n ≤ length program.initial) (sym w.first-is) (drain_there program 0 ds i _ (subst (AreDrainUses program 0) (sym e) c.requires.program.drains) c.loop-drain-test.true);
        order = λ k x more below. subst (λ (n : ℕ). n ≤ (slice_index_or ds k x).after) (sym w.first-is) (rises k x (omega arith) below);
      }
      | else-is_computed w ↦ record {
        all =
            ap (λ (n : ℕ). max n (most_from c.args.tiles program c.if-is_computed.first (drop (i + 1) ds))) w.most-is
            ∙ (ap (λ (n : ℕ). max c.loop-drain.most (most_from c.args.tiles program n (drop (i + 1) ds))) w.first-is
            ∙ stages_skip c.args.tiles program c.loop-drain.first c.loop-drain.most _ (drop i ds) (drop (i + 1) ds) d front (sym c.is_computed.ensures ∙ w.if-is_computed.false) before.all);
        there = subst (λ (n : ℕ). n ≤ length program.initial) (sym w.first-is) before.there;
        order = λ k x more below. subst (λ (n : ℕ). n ≤ (slice_index_or ds k x).after) (sym w.first-is) (before.order k x (omega arith) below);
      }
    ]
