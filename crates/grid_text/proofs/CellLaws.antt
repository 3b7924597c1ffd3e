-- Cells that are read one after the other.
use Rattle.std.proofs.Common.{◌≡◌, ℕ, suc, ◌+◌, ◌-◌, ◌<◌, ◌≤◌, List, [], ◌∷◌, ◌++◌, Result, Ok, Err, refl, sym, ap, ◌∙◌, append_assoc, arith}
use Rattle.std.proofs.lemmas.List.{append-nil}
use Rattle.cell_values.specs.declared.kind.Kind.{Kind}
use Rattle.cell_values.specs.declared.cell.Cell.{Cell}
use Rattle.grid_text.specs.declared.fault.GridFault.{GridFault}
use Rattle.grid_text.specs.declared.fault.GridKind.TheVariants as kinds
use Rattle.text_base.specs.Tokens.{Token, tokens_left}
use Rattle.grid_text.specs.Form.{cell_of_token}
use Rattle.grid_text.specs.Faults.{fault_at}
use Rattle.text_base.specs.Results.{◌>>=◌}
use Rattle.grid_text.specs.inside.Reading.{cell_or_fault_at, cells_from}
use Rattle.grid_text.specs.inside.Steps.{BeginsWithFault, NoToken, NoCell}

-- cells that were read, before those that are still read
abbrev pub before : List Cell → Result (List Cell) GridFault → Result (List Cell) GridFault
before front read = read >>= λ cells. Ok (front ++ cells)

regroup : (front : List Cell) (cell : Cell) (read : Result (List Cell) GridFault) → before front (read >>= λ cells. Ok (cell ∷ cells)) ≡ before (front ++ cell ∷ []) read
regroup front cell (Ok cells) = ap (λ (cs : List Cell). Ok cs) (sym (append_assoc front (cell ∷ []) cells))
regroup front cell (Err f) = refl

left : (count i : ℕ) → i < count → count - i ≡ suc (count - (i + 1))
left count i lt = omega arith

none_left : (count i : ℕ) → count ≤ i → count - i ≡ 0
none_left count i le = omega arith

module _ (kind : Kind) (nodata : List ℕ) (text_len : ℕ) (front : List Cell) (count i : ℕ) (words : List Token) (total : Result (List Cell) GridFault) (so_far : before front (cells_from kind nodata text_len (count - i) words) ≡ total) where
  -- what is left to read
  so_far_at : (n : ℕ) (ts : List Token) → count - i ≡ n → words ≡ ts → before front (cells_from kind nodata text_len n ts) ≡ total
  so_far_at n ts many are = sym (ap (λ k. before front (cells_from kind nodata text_len k words)) many ∙ ap (λ us. before front (cells_from kind nodata text_len n us)) are) ∙ so_far

  pub cell_read_on : (token : Token) (more : List Token) (cell : Cell) → i < count → words ≡ token ∷ more → cell_or_fault_at token.at (cell_of_token kind nodata token.bytes) ≡ Ok cell → before (front ++ cell ∷ []) (cells_from kind nodata text_len (count - (i + 1)) more) ≡ total
  unfolding cells_from
  cell_read_on token more cell lt first told =
      sym (regroup front cell (cells_from kind nodata text_len (count - (i + 1)) more))
      ∙ sym (ap (λ r. before front (r >>= λ c. cells_from kind nodata text_len (count - (i + 1)) more >>= λ cells. Ok (c ∷ cells))) told)
      ∙ so_far_at (suc (count - (i + 1))) (token ∷ more) (left count i lt) first

  pub cell_refused : (token : Token) (more : List Token) (f : GridFault) → i < count → words ≡ token ∷ more → cell_or_fault_at token.at (cell_of_token kind nodata token.bytes) ≡ Err f → total ≡ Err f
  unfolding cells_from
  cell_refused token more f lt first told =
      sym (so_far_at (suc (count - (i + 1))) (token ∷ more) (left count i lt) first)
      ∙ ap (λ r. before front (r >>= λ c. cells_from kind nodata text_len (count - (i + 1)) more >>= λ cells. Ok (c ∷ cells))) told

  pub cell_missing : i < count → words ≡ [] → total ≡ Err (fault_at kinds.Count text_len)
  unfolding cells_from
  cell_missing lt none = sym (so_far_at (suc (count - (i + 1))) [] (left count i lt) none)

  -- a fault at the front of what is left is that of the text
  pub cell_fails : (bytes : List ℕ) (f : GridFault) → i < count → words ≡ tokens_left text_len bytes → BeginsWithFault kind nodata text_len bytes f → total ≡ Err f
  cell_fails bytes f lt are (NoToken none is) = cell_missing lt (are ∙ none) ∙ ap (λ (g : GridFault). Err g) (sym is)
  cell_fails bytes f lt are (NoCell token rest first read) = cell_refused token rest f lt (are ∙ first) read

  pub cell_beyond : (token : Token) (more : List Token) → count ≤ i → words ≡ token ∷ more → total ≡ Err (fault_at kinds.Count token.at)
  unfolding cells_from
  cell_beyond token more le first = sym (so_far_at 0 (token ∷ more) (none_left count i le) first)

  pub cells_done : count ≤ i → words ≡ [] → total ≡ Ok front
  unfolding cells_from
  cells_done le none = sym (so_far_at 0 [] (none_left count i le) none) ∙ ap (λ (cs : List Cell). Ok cs) (append-nil front)
