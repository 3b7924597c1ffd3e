-- The cells that tokens write, and the first fault of them.
use Rattle.std.proofs.Common.{◌≡◌, ℕ, zero, suc, ◌+◌, ◌≤◌, ◌<◌, List, [], ◌∷◌, ◌++◌, length, map, Result, Ok, Err, refl, sym, ap, subst, ◌∙◌, inl, inr, arith}
use Rattle.cell_values.specs.declared.kind.Kind.{Kind}
use Rattle.cell_values.specs.declared.cell.Cell.{Cell}
use Rattle.cell_values.specs.declared.cell.NumberFault.{NumberFault}
use Rattle.cell_values.specs.declared.cell.NumberFault.TheVariants as numbers
use Rattle.grid_text.specs.declared.fault.GridFault.{GridFault}
use Rattle.grid_text.specs.declared.fault.GridKind.TheVariants as kinds
use Rattle.text_base.specs.Tokens.{Token}
use Rattle.grid_text.specs.Form.{cell_of_token}
use Rattle.grid_text.specs.Faults.{fault_at, CellFault, NoDecimal, OutOfRange, Beyond, TooFew}
use Rattle.text_base.specs.Results.{◌>>=◌}
use Rattle.grid_text.specs.inside.Reading.{cell_or_fault_at, cells_from}
use Rattle.text_base.proofs.Callers.{InOrder, bind_fails, bind_gives, err_is, head_is, ok_is, order_behind, order_end, tail_is}
use Rattle.grid_text.proofs.HeadFaults.{Apart}

-- a cell that is told is one
told_ok : (at : ℕ) (r : Result Cell NumberFault) (cell : Cell) → cell_or_fault_at at r ≡ Ok cell → r ≡ Ok cell
told_ok at (Ok c) cell e = ap (λ (x : Cell). Ok x) (ok_is _ _ e)
told_ok at (Err numbers.BadNumber) cell e = absurd (cc)
told_ok at (Err numbers.Range) cell e = absurd (cc)

module _ (kind : Kind) (nodata : List ℕ) (text_len : ℕ) where
  -- ---- the cells

  pub cells_are : (count : ℕ) (tokens : List Token) (cells : List Cell) → cells_from kind nodata text_len count tokens ≡ Ok cells → (map (λ (token : Token). cell_of_token kind nodata token.bytes) tokens ≡ map (λ (c : Cell). Ok c) cells) × (length cells ≡ count)
  unfolding cells_from
  cells_are zero [] cells e = subst (λ (cs : List Cell). (map (λ (token : Token). cell_of_token kind nodata token.bytes) [] ≡ map (λ (c : Cell). Ok c) cs) × (length cs ≡ 0)) (ok_is _ _ e) (refl, refl)
  cells_are zero (t ∷ ts) cells e = absurd (cc)
  cells_are (suc n) [] cells e = absurd (cc)
  cells_are (suc n) (t ∷ ts) cells e =
      bind_gives (cell_or_fault_at t.at (cell_of_token kind nodata t.bytes)) _ cells e (λ cell here e1.
      bind_gives (cells_from kind nodata text_len n ts) _ cells e1 (λ more there e2.
      let others = cells_are n ts more there in
      let first : cell_of_token kind nodata t.bytes ≡ Ok cell = told_ok t.at (cell_of_token kind nodata t.bytes) cell here in
      subst (λ (cs : List Cell). (map (λ (token : Token). cell_of_token kind nodata token.bytes) (t ∷ ts) ≡ map (λ (c : Cell). Ok c) cs) × (length cs ≡ suc n)) (ok_is _ _ e2)
      (ap (λ r. r ∷ map (λ (token : Token). cell_of_token kind nodata token.bytes) ts) first ∙ ap (λ rs. Ok cell ∷ rs) others.0, ap suc others.1)))

  pub cells_run : (count : ℕ) (tokens : List Token) (cells : List Cell) → map (λ (token : Token). cell_of_token kind nodata token.bytes) tokens ≡ map (λ (c : Cell). Ok c) cells → length cells ≡ count → cells_from kind nodata text_len count tokens ≡ Ok cells
  unfolding cells_from
  cells_run zero [] [] e n = refl
  cells_run zero [] (c ∷ cs) e n = absurd (cc)
  cells_run zero (t ∷ ts) [] e n = absurd (cc)
  cells_run zero (t ∷ ts) (c ∷ cs) e n = absurd (omega arith)
  cells_run (suc m) [] [] e n = absurd (omega arith)
  cells_run (suc m) [] (c ∷ cs) e n = absurd (cc)
  cells_run (suc m) (t ∷ ts) [] e n = absurd (cc)
  cells_run (suc m) (t ∷ ts) (c ∷ cs) e n =
      let first : cell_of_token kind nodata t.bytes ≡ Ok c = head_is _ _ _ _ e in
      let others : cells_from kind nodata text_len m ts ≡ Ok cs = cells_run m ts cs (tail_is _ _ _ _ e) (omega arith) in
      ap (λ r. cell_or_fault_at t.at r >>= λ cell. cells_from kind nodata text_len m ts >>= λ cells. Ok (cell ∷ cells)) first
      ∙ ap (λ r. r >>= λ cells. Ok (c ∷ cells)) others

  -- ---- a fault that is told stands there

  told_fault : (n : ℕ) (t : Token) (ts : List Token) (r : Result Cell NumberFault) (f : GridFault) → cell_of_token kind nodata t.bytes ≡ r → cell_or_fault_at t.at r ≡ Err f → CellFault kind text_len (suc n) nodata (t ∷ ts) f
  told_fault n t ts (Ok c) f is e = absurd (cc)
  told_fault n t ts (Err numbers.BadNumber) f is e = NoDecimal [] ts t refl (omega arith) is (sym (err_is _ _ e))
  told_fault n t ts (Err numbers.Range) f is e = OutOfRange [] ts t refl (omega arith) is (sym (err_is _ _ e))

  fault_shift : (n : ℕ) (t : Token) (ts : List Token) (f : GridFault) → CellFault kind text_len n nodata ts f → CellFault kind text_len (suc n) nodata (t ∷ ts) f
  fault_shift n t ts f (NoDecimal before more token parts short is at) = NoDecimal (t ∷ before) more token (ap (λ us. t ∷ us) parts) (omega arith) is at
  fault_shift n t ts f (OutOfRange before more token parts short is at) = OutOfRange (t ∷ before) more token (ap (λ us. t ∷ us) parts) (omega arith) is at
  fault_shift n t ts f (Beyond before more token parts long at) = Beyond (t ∷ before) more token (ap (λ us. t ∷ us) parts) (omega arith) at
  fault_shift n t ts f (TooFew few at) = TooFew (omega arith) at

  pub cells_fail : (count : ℕ) (tokens : List Token) (f : GridFault) → cells_from kind nodata text_len count tokens ≡ Err f → CellFault kind text_len count nodata tokens f
  unfolding cells_from
  cells_fail zero [] f e = absurd (cc)
  cells_fail zero (t ∷ ts) f e = Beyond [] ts t refl (omega arith) (sym (err_is _ _ e))
  cells_fail (suc n) [] f e = TooFew (omega arith) (sym (err_is _ _ e))
  cells_fail (suc n) (t ∷ ts) f e =
      bind_fails (cell_or_fault_at t.at (cell_of_token kind nodata t.bytes)) _ f e
      (λ here. told_fault n t ts (cell_of_token kind nodata t.bytes) f refl here)
      (λ cell here e1. bind_fails (cells_from kind nodata text_len n ts) _ f e1
      (λ there. fault_shift n t ts f (cells_fail n ts f there))
      (λ more there e2. absurd (cc)))

  -- ---- no fault stands before it

  -- a fault behind a cell that is read
  fault_unshift : (n : ℕ) (t : Token) (ts : List Token) (cell : Cell) (g : GridFault) → cell_of_token kind nodata t.bytes ≡ Ok cell → CellFault kind text_len (suc n) nodata (t ∷ ts) g → CellFault kind text_len n nodata ts g
  fault_unshift n t ts cell g read (NoDecimal [] more token parts short is at) =
      let same : cell_of_token kind nodata t.bytes ≡ Err numbers.BadNumber = ap (λ (x : Token). cell_of_token kind nodata x.bytes) (head_is _ _ _ _ parts) ∙ is in absurd (cc)
  fault_unshift n t ts cell g read (NoDecimal (b ∷ before) more token parts short is at) = NoDecimal before more token (tail_is _ _ _ _ parts) (omega arith) is at
  fault_unshift n t ts cell g read (OutOfRange [] more token parts short is at) =
      let same : cell_of_token kind nodata t.bytes ≡ Err numbers.Range = ap (λ (x : Token). cell_of_token kind nodata x.bytes) (head_is _ _ _ _ parts) ∙ is in absurd (cc)
  fault_unshift n t ts cell g read (OutOfRange (b ∷ before) more token parts short is at) = OutOfRange before more token (tail_is _ _ _ _ parts) (omega arith) is at
  fault_unshift n t ts cell g read (Beyond [] more token parts long at) = absurd (omega arith)
  fault_unshift n t ts cell g read (Beyond (b ∷ before) more token parts long at) = Beyond before more token (tail_is _ _ _ _ parts) (omega arith) at
  fault_unshift n t ts cell g read (TooFew few at) = TooFew (omega arith) at

  pub cells_right : (count : ℕ) (tokens : List Token) (cells : List Cell) (g : GridFault) → cells_from kind nodata text_len count tokens ≡ Ok cells → CellFault kind text_len count nodata tokens g → ⊥
  unfolding cells_from
  cells_right zero [] cells g e (NoDecimal before more token parts short is at) = absurd (omega arith)
  cells_right zero [] cells g e (OutOfRange before more token parts short is at) = absurd (omega arith)
  cells_right zero [] cells g e (Beyond [] more token parts long at) = absurd (cc)
  cells_right zero [] cells g e (Beyond (b ∷ before) more token parts long at) = absurd (cc)
  cells_right zero [] cells g e (TooFew few at) = absurd (omega arith)
  cells_right zero (t ∷ ts) cells g e fault = absurd (cc)
  cells_right (suc n) [] cells g e fault = absurd (cc)
  cells_right (suc n) (t ∷ ts) cells g e fault =
      bind_gives (cell_or_fault_at t.at (cell_of_token kind nodata t.bytes)) _ cells e (λ cell here e1.
      bind_gives (cells_from kind nodata text_len n ts) _ cells e1 (λ more there e2.
      cells_right n ts more g there (fault_unshift n t ts cell g (told_ok t.at (cell_of_token kind nodata t.bytes) cell here) fault)))

  -- a token further on stands behind
  further : (at : ℕ) (ts before more : List Token) (token : Token) → InOrder at text_len ts → ts ≡ before ++ token ∷ more → at ≤ token.at
  further at ts before more token order parts = (order_behind at text_len before (token ∷ more) (subst (InOrder at text_len) parts order)).0

  -- the first fault is at this token, so any other stands there or behind
  here_apart : (count : ℕ) (t : Token) (ts : List Token) (f g : GridFault) → InOrder (t.at + 1) text_len ts → f.at ≡ t.at
      → (0 < count → cell_of_token kind nodata t.bytes ≡ Err numbers.BadNumber → g ≡ fault_at kinds.BadNumber t.at → f ≡ g)
      → (0 < count → cell_of_token kind nodata t.bytes ≡ Err numbers.Range → g ≡ fault_at kinds.Range t.at → f ≡ g)
      → (count ≤ 0 → g ≡ fault_at kinds.Count t.at → f ≡ g)
      → CellFault kind text_len count nodata (t ∷ ts) g → Apart f g
  here_apart count t ts f g order place bad range beyond (NoDecimal [] more token parts short is at) =
      let here : token ≡ t = sym (head_is _ _ _ _ parts) in
      inr (bad (omega arith) (ap (λ (x : Token). cell_of_token kind nodata x.bytes) (sym here) ∙ is) (at ∙ ap (λ (x : Token). fault_at kinds.BadNumber x.at) here))
  here_apart count t ts f g order place bad range beyond (NoDecimal (b ∷ before) more token parts short is at) =
      let there : g.at ≡ token.at = ap (λ (x : GridFault). x.at) at in
      let behind : t.at + 1 ≤ token.at = further (t.at + 1) ts before more token order (tail_is _ _ _ _ parts) in inl (omega arith)
  here_apart count t ts f g order place bad range beyond (OutOfRange [] more token parts short is at) =
      let here : token ≡ t = sym (head_is _ _ _ _ parts) in
      inr (range (omega arith) (ap (λ (x : Token). cell_of_token kind nodata x.bytes) (sym here) ∙ is) (at ∙ ap (λ (x : Token). fault_at kinds.Range x.at) here))
  here_apart count t ts f g order place bad range beyond (OutOfRange (b ∷ before) more token parts short is at) =
      let there : g.at ≡ token.at = ap (λ (x : GridFault). x.at) at in
      let behind : t.at + 1 ≤ token.at = further (t.at + 1) ts before more token order (tail_is _ _ _ _ parts) in inl (omega arith)
  here_apart count t ts f g order place bad range beyond (Beyond [] more token parts long at) =
      let here : token ≡ t = sym (head_is _ _ _ _ parts) in
      inr (beyond (omega arith) (at ∙ ap (λ (x : Token). fault_at kinds.Count x.at) here))
  here_apart count t ts f g order place bad range beyond (Beyond (b ∷ before) more token parts long at) =
      let there : g.at ≡ token.at = ap (λ (x : GridFault). x.at) at in
      let behind : t.at + 1 ≤ token.at = further (t.at + 1) ts before more token order (tail_is _ _ _ _ parts) in inl (omega arith)
  here_apart count t ts f g order place bad range beyond (TooFew few at) =
      let there : g.at ≡ text_len = ap (λ (x : GridFault). x.at) at in
      let last : t.at + 1 ≤ text_len = order_end (t.at + 1) text_len ts order in inl (omega arith)

  -- no token is left where cells lack
  end_apart : (count : ℕ) (f g : GridFault) → fault_at kinds.Count text_len ≡ f → CellFault kind text_len count nodata [] g → Apart f g
  end_apart count f g told (NoDecimal [] more token parts short is at) = absurd (cc)
  end_apart count f g told (NoDecimal (b ∷ before) more token parts short is at) = absurd (cc)
  end_apart count f g told (OutOfRange [] more token parts short is at) = absurd (cc)
  end_apart count f g told (OutOfRange (b ∷ before) more token parts short is at) = absurd (cc)
  end_apart count f g told (Beyond [] more token parts long at) = absurd (cc)
  end_apart count f g told (Beyond (b ∷ before) more token parts long at) = absurd (cc)
  end_apart count f g told (TooFew few at) = inr (sym told ∙ sym at)

  told_place : (at : ℕ) (r : Result Cell NumberFault) (f : GridFault) → cell_or_fault_at at r ≡ Err f → f.at ≡ at
  told_place at (Ok c) f e = absurd (cc)
  told_place at (Err numbers.BadNumber) f e = sym (ap (λ (x : GridFault). x.at) (err_is _ _ e))
  told_place at (Err numbers.Range) f e = sym (ap (λ (x : GridFault). x.at) (err_is _ _ e))

  pub cells_first : (from count : ℕ) (tokens : List Token) (f g : GridFault) → InOrder from text_len tokens → cells_from kind nodata text_len count tokens ≡ Err f → CellFault kind text_len count nodata tokens g → Apart f g
  unfolding cells_from
  cells_first from zero [] f g order e fault = absurd (cc)
  cells_first from zero (t ∷ ts) f g order e fault =
      let told : fault_at kinds.Count t.at ≡ f = err_is _ _ e in
      here_apart zero t ts f g order.1 (sym (ap (λ (x : GridFault). x.at) told)) (λ none is at. absurd (omega arith)) (λ none is at. absurd (omega arith)) (λ none at. sym told ∙ sym at) fault
  cells_first from (suc n) [] f g order e fault = end_apart (suc n) f g (err_is _ _ e) fault
  cells_first from (suc n) (t ∷ ts) f g order e fault =
      bind_fails (cell_or_fault_at t.at (cell_of_token kind nodata t.bytes)) _ f e
      (λ here. here_apart (suc n) t ts f g order.1 (told_place t.at (cell_of_token kind nodata t.bytes) f here)
      (λ some is at. sym (err_is _ _ (sym (ap (cell_or_fault_at t.at) is) ∙ here)) ∙ sym at)
      (λ some is at. sym (err_is _ _ (sym (ap (cell_or_fault_at t.at) is) ∙ here)) ∙ sym at)
      (λ none at. absurd (omega arith)) fault)
      (λ cell here e1. bind_fails (cells_from kind nodata text_len n ts) _ f e1
      (λ there. cells_first (t.at + 1) n ts f g order.1 there (fault_unshift n t ts cell g (told_ok t.at (cell_of_token kind nodata t.bytes) cell here) fault))
      (λ more there e2. absurd (cc)))
