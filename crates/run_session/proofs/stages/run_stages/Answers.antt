-- The loop over drain maps, of which each that is computed ends a stage.
use Rattle.std.proofs.Common.{◌≡◌, ℕ, ◌+◌, ◌<◌, ◌≤◌, List, [], ◌∷◌, ◌++◌, length, refl, sym, ap, subst, ◌∙◌, arith, inl}
use Rattle.std.specs.Prelude.{slice_index_or}
use Rattle.drain_meaning.specs.Drains.{DrainMap}
use Rattle.map_meaning.specs.declared.known.Span.TheVariants as span
use Rattle.map_meaning.specs.declared.known.StepMap.{StepMap}
use Rattle.map_meaning.specs.declared.program.DrainFrom.TheVariants as from
use Rattle.map_meaning.specs.declared.program.DrainUse.{DrainUse}
use Rattle.map_meaning.specs.declared.program.Program.{Program}
use Rattle.map_meaning.specs.Spans.{IsInStage}
use Rattle.run_session.specs.inside.Stages.{AreBefore, AsksStages, BeginsBehind, HasLeft}
use Rattle.run_session.proofs.StageLoops.{all_left, before_last, before_next, before_same, begins_next, begins_same, none_left, stage_last, stage_to, stages_more}
use Rattle.run_session.proofs.StageRuns.{item_at}
use Rattle.run_session.proofs.stages.run_stages.Goals as goal
use Rattle.run_session.proofs.stages.run_stages.Goals.{then-is_computed+in_ok-run_stage, else-is_computed}

abbrev default : DrainUse
default = record { from = from.Input 0; after = 0 }

pub loop-n-init : goal.loop-n-init
loop-n-init g c =
    let program = c.args.work.now.program.value in
    let inputs = c.args.work.now.inputs in
    let P : List StepMap → List DrainMap → Type 0 = λ kept drains. HasLeft program inputs 0 (record { kept = kept; drains = drains }) in
    record {
      ready = c.requires.ready;
      block = refl;
      admits = λ p rows cols. refl;
      below = omega arith;
      left = subst (λ kept. P kept c.new-2.result) (sym c.new.ensures) (subst (P []) (sym c.new-2.ensures) (none_left program inputs));
      begins = record { passed = λ k d less here. absurd (omega (arith, less)); origin = inl refl };
      spans = [];
      before = refl;
      asks = λ none. ([], λ start is. tt, none);
    }

pub run_stage-requires-clause-stage : goal.run_stage-requires-clause-stage
run_stage-requires-clause-stage g c =
    let program = c.args.work.now.program.value in
    let n = c.loop-n.n in
    let one : DrainUse = slice_index_or c.as_slice-uses.result.now n default in
    let same = c.as_slice-uses.ensures ∙ ap (λ (p : Program). p.drains) c.deref.ensures in
    let at = item_at program c.as_slice-uses.result.now n default same c.loop-n-test.true in
    stage_to program c.requires.work.formed n c.loop-n.first c.loop-n.invariant.begins one at

pub loop-n-preserved : goal.loop-n-preserved
loop-n-preserved g c =
    let runner = g.R.BlockRunner in
    let program = c.args.work.now.program.value in
    let inputs = c.args.work.now.inputs in
    let formed = c.requires.work.formed in
    let n = c.loop-n.n in
    let first = c.loop-n.first in
    let inv = c.loop-n.invariant in
    let one : DrainUse = slice_index_or c.as_slice-uses.result.now n default in
    let same : c.as_slice-uses.result.now ≡ program.drains = c.as_slice-uses.ensures ∙ ap (λ (p : Program). p.drains) c.deref.ensures in
    let at = item_at program c.as_slice-uses.result.now n default same c.loop-n-test.true in
    let less : n < length program.drains = subst (λ ds. n < length ds) same c.loop-n-test.true in
    elim c.if-is_computed.branch [
      | then-is_computed+in_ok-run_stage w ↦
          let ok = w.in_ok-run_stage.ensures in
          let spans = inv.spans ++ span.Initial first one.after ∷ [] in
          record {
            ready = subst (λ r. runner.ready r) (sym w.runner-is) ok.ready;
            block = subst (λ r. runner.block_of r ≡ runner.block_of c.args.runner.now) (sym w.runner-is) (ok.block ∙ inv.block);
            admits = subst (λ r. (p : Program) (rows cols : ℕ) → runner.admits r p rows cols ≡ runner.admits c.args.runner.now p rows cols) (sym w.runner-is) (λ p rows cols. ok.admits p rows cols ∙ inv.admits p rows cols);
            below = omega (arith, less);
            left = subst (λ k. HasLeft program inputs k c.if-is_computed.left) (sym w.first-is) (subst (HasLeft program inputs one.after) (sym w.left-is) ok.left);
            begins = subst (BeginsBehind program (n + 1)) (sym w.first-is) (begins_next program formed n first inv.begins one at);
            spans = spans;
            before = subst (λ k. AreBefore program (n + 1) k spans) (sym w.first-is) (before_next program formed n first inv.begins inv.spans one at (sym w.if-is_computed.ensures) inv.before);
            asks = subst (λ r. AsksStages (runner.asked c.args.runner.now) (runner.asked r) program inputs spans) (sym w.runner-is)
                (stages_more (runner.asked c.args.runner.now) (runner.asked c.loop-n.runner) (runner.asked w.run_stage.new.runner) program inputs inv.spans first one.after inv.asks ok.asks);
          }
      | else-is_computed w ↦
          record {
            ready = subst (λ r. runner.ready r) (sym w.runner-is) inv.ready;
            block = subst (λ r. runner.block_of r ≡ runner.block_of c.args.runner.now) (sym w.runner-is) inv.block;
            admits = subst (λ r. (p : Program) (rows cols : ℕ) → runner.admits r p rows cols ≡ runner.admits c.args.runner.now p rows cols) (sym w.runner-is) inv.admits;
            below = omega (arith, less);
            left = subst (λ k. HasLeft program inputs k c.if-is_computed.left) (sym w.first-is) (subst (HasLeft program inputs first) (sym w.left-is) inv.left);
            begins = subst (BeginsBehind program (n + 1)) (sym w.first-is) (begins_same program formed n first inv.begins one at (sym w.if-is_computed.ensures));
            spans = inv.spans;
            before = subst (λ k. AreBefore program (n + 1) k inv.spans) (sym w.first-is) (before_same program formed n first inv.begins inv.spans one at (sym w.if-is_computed.ensures) inv.before);
            asks = subst (λ r. AsksStages (runner.asked c.args.runner.now) (runner.asked r) program inputs inv.spans) (sym w.runner-is) inv.asks;
          }
    ]

pub run_stage-requires-2-clause-stage : goal.run_stage-requires-2-clause-stage
run_stage-requires-2-clause-stage g c =
    let program = c.args.work.now.program.value in
    let n = c.loop-n.n in
    let same : c.as_slice-uses.result.now ≡ program.drains = c.as_slice-uses.ensures ∙ ap (λ (p : Program). p.drains) c.deref.ensures in
    let all : length program.drains ≤ n = subst (λ ds. length ds ≤ n) same c.loop-n-test.false in
    let end : c.len-end.result ≡ length program.initial = c.len-end.ensures ∙ ap (λ (p : Program). length p.initial) c.deref-2.ensures in
    subst (IsInStage program c.loop-n.first) (sym end) (stage_last program c.requires.work.formed n c.loop-n.first c.loop-n.invariant.begins all)

pub returns-clause-start : goal.returns-clause-start
returns-clause-start g c =
    let runner = g.R.BlockRunner in
    let program = c.args.work.now.program.value in
    let inputs = c.args.work.now.inputs in
    let formed = c.requires.work.formed in
    let n = c.loop-n.n in
    let first = c.loop-n.first in
    let inv = c.loop-n.invariant in
    let left = c.run_stage-2.new.left in
    let same : c.as_slice-uses.result.now ≡ program.drains = c.as_slice-uses.ensures ∙ ap (λ (p : Program). p.drains) c.deref.ensures in
    let all : length program.drains ≤ n = subst (λ ds. length ds ≤ n) same c.loop-n-test.false in
    let below : n ≤ length program.drains = inv.below in
    let e : n ≡ length program.drains = omega (arith, all, below) in
    let end : c.len-end.result ≡ length program.initial = c.len-end.ensures ∙ ap (λ (p : Program). length p.initial) c.deref-2.ensures in
    let ok = c.in_ok-run_stage-2.ensures in
    let asks = stages_more (runner.asked c.args.runner.now) (runner.asked c.loop-n.runner) (runner.asked c.run_stage-2.new.runner) program inputs inv.spans first c.len-end.result inv.asks ok.asks in
    all_left (runner.asked c.args.runner.now) (runner.asked c.run_stage-2.new.runner) program inputs first left (inv.spans ++ span.Initial first (length program.initial) ∷ [])
    (subst (λ k. BeginsBehind program k first) e inv.begins) ok.due (subst (λ k. HasLeft program inputs k left) end ok.left)
    (before_last program formed n first inv.begins inv.spans all inv.before)
    (subst (λ k. AsksStages (runner.asked c.args.runner.now) (runner.asked c.run_stage-2.new.runner) program inputs (inv.spans ++ span.Initial first k ∷ [])) end asks)
