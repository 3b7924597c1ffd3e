use Rattle.std.proofs.Common.{◌+◌, ◌∷◌, drop, Err, sym, ◌∙◌, ap, if◌then◌else◌, arith}
use Rattle.std.proofs.lemmas.List.{drop_all, drop_more}
use Rattle.script_types.specs.declared.fault.MeaningKind.TheVariants.{NameClash}
use Rattle.script_types.specs.declared.fault.Place.TheVariants as place
use Rattle.script_types.specs.Reports.{with_report}
use Rattle.script_types.specs.inside.Answers.{reports_pass}
use Rattle.script_types.specs.inside.Scopes.{binding_in}
use Rattle.script_types.proofs.reports.check_reports.Goals as goal

pub returns-then-was : goal.returns-then-was
returns-then-was c = λ kepts has.
    let steps = c.args.scope.now.steps in
    let bound = binding_in c.args.scope.now in
    let lines = c.args.lines.now in
    let at = c.loop-at.at in
    let l = c.index-lines-at.result in
    let inv = c.loop-at.invariant.told kepts has in
    let told = c.in_ok-was.ensures.taken inv.0 inv.1 in
    let left = drop_more lines at l (omega arith) ∙ ap (λ x. x ∷ drop (at + 1) lines) (sym c.index-lines-at.is) in
    sym inv.2 ∙ ap (reports_pass steps bound inv.0 at) left ∙ ap (λ b. if b then Err (record { at = place.Statement (at + 1); kind = NameClash }) else reports_pass steps bound (with_report bound inv.0 l) (at + 1) (drop (at + 1) lines)) (sym told.0 ∙ c.if-was.true)

pub loop-at-preserved : goal.loop-at-preserved
loop-at-preserved c = record {
  table = c.in_ok-was.ensures.table;
  told = λ kepts has.
      let steps = c.args.scope.now.steps in
      let bound = binding_in c.args.scope.now in
      let lines = c.args.lines.now in
      let at = c.loop-at.at in
      let l = c.index-lines-at.result in
      let inv = c.loop-at.invariant.told kepts has in
      let told = c.in_ok-was.ensures.taken inv.0 inv.1 in
      let left = drop_more lines at l (omega arith) ∙ ap (λ x. x ∷ drop (at + 1) lines) (sym c.index-lines-at.is) in (
        with_report bound inv.0 l,
        told.1 c.if-was.false,
        sym (ap (λ b. if b then Err (record { at = place.Statement (at + 1); kind = NameClash }) else reports_pass steps bound (with_report bound inv.0 l) (at + 1) (drop (at + 1) lines)) (sym told.0 ∙ c.if-was.false)) ∙ ap (reports_pass steps bound inv.0 at) (sym left) ∙ inv.2,
      );
}

pub returns : goal.returns
returns c = λ kepts has. let inv = c.loop-at.invariant.told kepts has in sym inv.2 ∙ ap (reports_pass c.args.scope.now.steps (binding_in c.args.scope.now) inv.0 c.loop-at.at) (drop_all c.loop-at.at c.args.lines.now (omega arith))
