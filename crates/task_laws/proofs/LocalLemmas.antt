-- Operations on cells.
use Rattle.std.proofs.Common.{◌≡◌, ℕ, List, sym, ap, subst, ◌∙◌}
use Rattle.cell_values.specs.declared.cell.Cell.{Cell}
use Rattle.tile_map.specs.Rects.{cell_count, place_in}
use Rattle.tile_map.proofs.Callers.{part_of-same}
use Rattle.map_meaning.specs.Maps.{CellAt}
use Rattle.map_meaning.specs.Rules.{Rule, Local, Setting, by_rule, operand_at, outcome_of}
use Rattle.tile_cuts.specs.TileParts.{part_in}
use Rattle.task_laws.specs.Laws.{AreMadeOfTheirCells, HaveSameCells, LookAtTheirPlace, OnCells}

by_cells : (f : OnCells) (setting : Setting) (xs ys : List CellAt) (p q : ℕ) → HaveSameCells xs p ys q → by_rule (Local f) setting xs p ≡ by_rule (Local f) setting ys q
by_cells f setting xs ys p q same =
    ap (λ (a : Cell). f setting a (operand_at xs 1 p) (operand_at xs 2 p) (operand_at xs 3 p)) (same 0)
    ∙ (ap (λ (b : Cell). f setting (operand_at ys 0 q) b (operand_at xs 2 p) (operand_at xs 3 p)) (same 1)
    ∙ (ap (λ (c : Cell). f setting (operand_at ys 0 q) (operand_at ys 1 q) c (operand_at xs 3 p)) (same 2)
    ∙ ap (λ (d : Cell). f setting (operand_at ys 0 q) (operand_at ys 1 q) (operand_at ys 2 q) d) (same 3)))

pub look_at_their_place : LookAtTheirPlace
look_at_their_place o f setting xs ys p q is same =
    subst (λ (rule : Rule). by_rule rule setting xs p ≡ by_rule rule setting ys q) (sym is) (by_cells f setting xs ys p q same)

pub made_of_their_cells : AreMadeOfTheirCells
unfolding part_in
made_of_their_cells o f setting own whole cols r is same =
    part_of-same (outcome_of o setting own) (λ i. outcome_of o setting whole (place_in cols r i)) (cell_count r)
    (λ i below. look_at_their_place o f setting own whole i (place_in cols r i) is (same i below))
