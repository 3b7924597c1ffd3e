use Rattle.std.proofs.Common.{◌≡◌, ◌≤◌, List, Option, IfSome, ap, sym, ◌∙◌, subst, arith}
use Rattle.std.specs.Arc.{arc_value}
use Rattle.map_meaning.specs.declared.known.OverAt.{OverAt}
use Rattle.map_meaning.specs.declared.known.Span.{Span}
use Rattle.map_meaning.specs.declared.known.StepMap.{StepMap}
use Rattle.map_meaning.specs.Spans.{stage_of}
use Rattle.plan_graph.specs.PlanGraphs.{PlanGraphValue}
use Rattle.task_board.specs.Boards.{BoardValue, IsFinished}
use Rattle.task_board.specs.inside.Collected.{first_maps, span_begin, step_count, steps_told}
use Rattle.task_board.proofs.ToldLemmas.{board_tells}
use Rattle.task_board.proofs.board.Board.collect.Goals as goal

pub steps_before-steps-requires-clause-inside : goal.steps_before-steps-requires-clause-inside
steps_before-steps-requires-clause-inside g c =
    let i = c.self.inside in let b = c.self.invariant in
    let p : PlanGraphValue = arc_value i.plan in
    let finished = subst (λ (v : BoardValue). IsFinished v) (sym c.self.view_is) c.requires in
    let told = board_tells c.first_over_is_the_least_noted.ensures _ b finished in
    let span_is : c.span.result ≡ p.span = c.span.ensures ∙ ap (λ (v : PlanGraphValue). v.span) c.deref.ensures in
    subst (λ (s : Span). IfSome i.over (λ at. span_begin s ≤ at.step)) (sym span_is) told.begins

pub first_maps-requires-clause-steps : goal.first_maps-requires-clause-steps
first_maps-requires-clause-steps g c =
    let i = c.self.inside in let b = c.self.invariant in
    let p : PlanGraphValue = arc_value i.plan in
    let finished = subst (λ (v : BoardValue). IsFinished v) (sym c.self.view_is) c.requires in
    let told = board_tells c.first_over_is_the_least_noted.ensures _ b finished in
    let span_is : c.span.result ≡ p.span = c.span.ensures ∙ ap (λ (v : PlanGraphValue). v.span) c.deref.ensures in
    let steps : c.steps_before-steps.result ≡ steps_told p.span i.over = c.steps_before-steps.ensures ∙ ap (λ (s : Span). steps_told s i.over) span_is in
    let many = ap (λ (v : BoardValue). step_count v.plan.span) c.self.view_is in
    let few = told.few in omega arith

pub returns : goal.returns
returns g c =
    let i = c.self.inside in let b = c.self.invariant in
    let p : PlanGraphValue = arc_value i.plan in
    let finished = subst (λ (v : BoardValue). IsFinished v) (sym c.self.view_is) c.requires in
    let told = board_tells c.first_over_is_the_least_noted.ensures _ b finished in
    let span_is : c.span.result ≡ p.span = c.span.ensures ∙ ap (λ (v : PlanGraphValue). v.span) c.deref.ensures in
    let steps : c.steps_before-steps.result ≡ steps_told p.span i.over = c.steps_before-steps.ensures ∙ ap (λ (s : Span). steps_told s i.over) span_is in
    let maps : c.in_ok-maps.maps ≡ (stage_of (arc_value i.program) p.span (arc_value i.known)).maps =
    c.in_ok-maps.ensures
    ∙ ap (λ (v : BoardValue). first_maps v.program v.plan.span v.known c.steps_before-steps.result) (sym c.self.view_is)
    ∙ ap (first_maps (arc_value i.program) p.span (arc_value i.known)) steps
    ∙ sym told.maps_are in
    ap (λ (l : List StepMap). record { maps = l; over = i.over }) maps
    ∙ ap (λ (o : Option OverAt). record { maps = (stage_of (arc_value i.program) p.span (arc_value i.known)).maps; over = o }) (sym told.over_is)
    ∙ ap (λ (v : BoardValue). stage_of v.program v.plan.span v.known) c.self.view_is
