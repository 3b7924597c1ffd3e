-- What is read can be written.
use Rattle.std.proofs.Common.{◌≡◌, ℕ, Bool, true, cond, List, [], ◌∷◌, map, Ok, sym, ap, subst, ◌∙◌}
use Rattle.std.specs.List.{AllByRecursion}
use Rattle.std.proofs.lemmas.List.Elements.{All-from_recursion}
use Rattle.cell_values.specs.declared.cell.Cell.{Cell}
use Rattle.cell_values.specs.declared.cell.Cell.TheVariants.{Mv, Val}
use Rattle.cell_values.specs.declared.kind.Kind.{Kind}
use Rattle.cell_values.specs.Kinds.{IsCell}
use Rattle.cell_values.specs.inside.Reading.{cell_read}
use Rattle.cell_values.proofs.Callers.{value-from_cell}
use Rattle.grid_text.specs.declared.key.Key.TheVariants.{X, Y, Size}
use Rattle.text_base.specs.Tokens.{Token}
use Rattle.grid_text.specs.Key.{is_coordinate, is_cell_size}
use Rattle.grid_text.specs.Form.{Pair, pairs_of, placed, is_missing, cell_of_token}
use Rattle.grid_text.specs.Written.{GridsCanBeWritten}
use Rattle.text_base.proofs.Callers.{bool_cases, head_is, tail_is}
use Rattle.grid_text.proofs.Tools.{one_of}
use Rattle.grid_text.proofs.Heads.{value_is}

-- a cell that a token writes is one of the kind
cell_is : (kind : Kind) (nodata token : List ℕ) (cell : Cell) → cell_of_token kind nodata token ≡ Ok cell → IsCell kind cell
unfolding cell_of_token
cell_is kind nodata token Mv e = tt
cell_is kind nodata token (Val z) e = bool_cases (is_missing nodata token)
    (λ missing. let bad : Ok Mv ≡ Ok (Val z) = sym (ap (λ b. cond b (Ok Mv) (cell_read kind token)) missing) ∙ e in absurd (cc))
    (λ there. let read : cell_read kind token ≡ Ok (Val z) = sym (ap (λ b. cond b (Ok Mv) (cell_read kind token)) there) ∙ e in
    (value-from_cell kind token z read).2.value)

cells_are : (kind : Kind) (nodata : List ℕ) (ts : List Token) (cells : List Cell) → map (λ (t : Token). cell_of_token kind nodata t.bytes) ts ≡ map (λ (c : Cell). Ok c) cells → AllByRecursion (IsCell kind) cells
cells_are kind nodata [] [] e = tt
cells_are kind nodata [] (c ∷ cs) e = absurd (cc)
cells_are kind nodata (t ∷ ts) [] e = absurd (cc)
cells_are kind nodata (t ∷ ts) (c ∷ cs) e = (cell_is kind nodata t.bytes c (head_is _ _ _ _ e), cells_are kind nodata ts cs (tail_is _ _ _ _ e))

pub grids_can_be_written : GridsCanBeWritten
grids_can_be_written kind text grid g =
    let x = one_of placed (pairs_of X g.pairs) (grid.head.x_center, grid.head.x) g.head.has_x in
    let y = one_of placed (pairs_of Y g.pairs) (grid.head.y_center, grid.head.y) g.head.has_y in
    let size = one_of (λ (p : Pair). p.value.bytes) (pairs_of Size g.pairs) grid.head.size g.head.has_size in
    record {
      within = g.head.within;
      x = subst (λ v. is_coordinate v ≡ true) (ap (λ (q : Bool × List ℕ). q.1) x.image) (value_is X g.pairs x.element [] g.head.valued x.alone);
      y = subst (λ v. is_coordinate v ≡ true) (ap (λ (q : Bool × List ℕ). q.1) y.image) (value_is Y g.pairs y.element [] g.head.valued y.alone);
      size = subst (λ v. is_cell_size v ≡ true) size.image (value_is Size g.pairs size.element [] g.head.valued size.alone);
      count = g.count;
      cells = All-from_recursion (IsCell kind) grid.cells (cells_are kind g.nodata g.cell_tokens grid.cells g.cells);
    }
