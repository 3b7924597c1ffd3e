use Rattle.std.proofs.Common.{◌≡◌, ◌+◌, true, false, if◌then◌else◌, [], refl, sym, ◌∙◌, ap, subst, arith}
use Rattle.std.proofs.lemmas.List.{take_all}
use Rattle.map_meaning.specs.Programs.{is_read_behind, stage_begin}
use Rattle.script_types.specs.inside.Kept.{Marks, begins_stage}
use Rattle.script_types.proofs.KeptLemmas.{begin-carried, marks-none, marks-stage, stage-first, stage-next}
use Rattle.script_types.proofs.kept.mark_stages.Goals as goal
use Rattle.script_types.proofs.kept.mark_stages.Goals.{then-begins-at, else-begins-at}

pub loop-at-init : goal.loop-at-init
loop-at-init c = record { marks = marks-none c.args.marks.now (λ n. is_read_behind c.args.drains.now n 0 []) (λ n. refl); stage = stage-first c.args.drains.now }

pub loop-at-preserved : goal.loop-at-preserved
loop-at-preserved c =
    let ds = c.args.drains.now in
    let at = c.loop-at.at in
    let old = c.loop-at.begin in
    let begin = c.if-begins-at.begin in
    let marked = c.requires.begins at (omega arith) in
    let e : begin ≡ stage_begin ds at = elim c.if-begins-at.branch [
      | then-begins-at w ↦ begin-carried ds at old begin true (sym marked ∙ w.if-begins-at.true) c.loop-at.invariant.stage w.begin-is
      | else-begins-at w ↦ begin-carried ds at old begin false (sym marked ∙ w.if-begins-at.false) c.loop-at.invariant.stage w.begin-is
    ] in
    record {
      marks = marks-stage c.args.marks.now c.loop-at.marks c.mark_behind.new.marks ds c.args.operations.now at begin _ c.loop-at-test.true e c.loop-at.invariant.marks c.mark_behind.ensures;
      stage = stage-next ds at ∙ ap (λ s. if begins_stage (at + 1) ds then at + 1 else s) (sym e);
    }

pub returns : goal.returns
returns c = subst (λ ops. Marks c.args.marks.now c.loop-at.marks (λ n. is_read_behind c.args.drains.now n 0 ops)) (take_all c.loop-at.at c.args.operations.now (omega arith)) c.loop-at.invariant.marks
