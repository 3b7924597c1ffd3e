use Rattle.std.proofs.Common.{◌≡◌, false, length, List, Bool, refl, ◌∙◌, ap, arith, replicate}
use Rattle.std.proofs.lemmas.Grind.{common_steps}
use Rattle.script_types.specs.inside.Kept.{is_kept_by, is_kept_in_steps_by, is_marked, kept_where}
use Rattle.script_types.proofs.KeptLemmas.{marks-of-none}
use Rattle.script_types.proofs.kept.keep.Goals as goal

pub returns : goal.returns
returns c =
    let w = c.args.written.now in
    let m : List Bool = c.mark_all.new.marks in
    let s : List Bool = c.mark_all.new.step_marks in
    let none : c.deref_mut.result.now ≡ replicate (length w.initial) false = grind (arith, common_steps) in
    let step_none : c.deref_mut-2.result.now ≡ replicate (length w.dynamic) false = grind (arith, common_steps) in
    let all : c.deref.result.now ≡ m = grind (arith, common_steps) in
    let step_all : c.deref-2.result.now ≡ s = grind (arith, common_steps) in
    let initial : c.as_slice.result.now ≡ w.initial = c.as_slice.ensures in
    let dynamic : c.as_slice-2.result.now ≡ w.dynamic = c.as_slice-2.ensures in
    record {
      drains = refl;
      outputs = refl;
      keep = is_marked m;
      initial = c.in_ok-initial.ensures ∙ ap (λ ops. kept_where (is_marked c.deref.result.now) 0 ops) initial ∙ ap (λ marks. kept_where (is_marked marks) 0 w.initial) all;
      kept = marks-of-none (length w.initial) c.deref_mut.result.now m (is_kept_by w) none c.in_ok-mark_all.ensures.marks;
      step_keep = is_marked s;
      dynamic = c.in_ok-dynamic.ensures ∙ ap (λ ops. kept_where (is_marked c.deref-2.result.now) 0 ops) dynamic ∙ ap (λ marks. kept_where (is_marked marks) 0 w.dynamic) step_all;
      step_kept = marks-of-none (length w.dynamic) c.deref_mut-2.result.now s (is_kept_in_steps_by w) step_none c.in_ok-mark_all.ensures.step_marks;
    }
