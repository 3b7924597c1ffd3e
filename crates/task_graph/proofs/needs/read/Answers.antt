use Rattle.std.proofs.Common.{◌∙◌, ◌<◌, ℕ, sym, subst, length, List}
use Rattle.task_graph.proofs.needs.read.Goals as goal

pub bounds-as_slice-place : goal.bounds-as_slice-place
bounds-as_slice-place c =
    let made = c.requires.among c.in-Some.place (sym c.maker.ensures ∙ c.in-Some.is) in
    subst (λ (xs : List ℕ). c.in-Some.place < length xs) (sym c.as_slice.ensures) made.0
