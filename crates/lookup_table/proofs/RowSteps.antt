-- The columns of a row, as the reader goes over them.
use Rattle.std.proofs.Common.{◌≡◌, ℕ, suc, ◌+◌, ◌-◌, ◌≤◌, ◌<◌, List, [], ◌∷◌, ◌++◌, length, take, set, get_or, Ok, Err, Result, refl, sym, ap, ◌∙◌, arith, append_assoc}
use Rattle.std.specs.Prelude.{ℤ}
use Rattle.std.proofs.Common.{FitsSigned, to_z, of_z, w64}
use Rattle.std.proofs.lemmas.Int.{ints, to_z-of_z}
use Rattle.std.proofs.lemmas.List.{append-nil, take_more_set}
use Rattle.cell_values.specs.declared.kind.Kind.{Kind}
use Rattle.cell_values.specs.declared.kind.Kind.TheVariants.{Boolean, Nominal, Ordinal, Scalar, Directional, Ldd}
use Rattle.cell_values.specs.Kinds.{IsValue}
use Rattle.text_base.specs.Results.{◌>>=◌}
use Rattle.lookup_table.specs.declared.key.KeyRange.{KeyRange}
use Rattle.lookup_table.specs.declared.fault.TableKind.{TableKind}
use Rattle.lookup_table.specs.Form.{TableRow}
use Rattle.lookup_table.specs.inside.Reading.{key_at, result_at, row_at, last_row, with_key}
use Rattle.lookup_table.specs.inside.Steps.{behind_keys}

module _ (keys : ℕ) (kind : Kind) (ranges : List KeyRange) (i : ℕ) (rest : List ℕ) where
  one_left : i < keys → keys - i ≡ suc (keys - (i + 1))
  one_left below = omega arith

  none_left : keys ≤ i → keys - i ≡ 0
  none_left done = omega arith

  -- a key more
  pub key_more : (range : KeyRange) (behind : List ℕ) → i < keys → i < length ranges → key_at rest ≡ Ok (range, behind)
      → behind_keys (take (i + 1) (set ranges i range)) (row_at (keys - (i + 1)) kind behind) ≡ behind_keys (take i ranges) (row_at (keys - i) kind rest)
  unfolding row_at
  key_more range behind below within e =
      let front : take (i + 1) (set ranges i range) ≡ take i ranges ++ range ∷ [] = take_more_set ranges i range within in
      ap (λ (rs : List KeyRange). behind_keys rs (row_at (keys - (i + 1)) kind behind)) front
      ∙ moved (row_at (keys - (i + 1)) kind behind)
      ∙ ap (λ r. behind_keys (take i ranges) (r >>= λ found. row_at (keys - (i + 1)) kind found.1 >>= λ row. Ok (with_key found.0 row))) (sym e)
      ∙ ap (λ (n : ℕ). behind_keys (take i ranges) (row_at n kind rest)) (sym (one_left below))
    where
      moved : (r : Result TableRow TableKind) → behind_keys (take i ranges ++ range ∷ []) r ≡ behind_keys (take i ranges) (r >>= λ row. Ok (with_key range row))
      moved (Ok row) = ap (λ (rs : List KeyRange). Ok (record { keys = rs; result = row.result })) (append_assoc (take i ranges) (range ∷ []) row.keys)
      moved (Err f) = refl

  -- no key where one should be
  pub key_fails : (fault : TableKind) → i < keys → key_at rest ≡ Err fault → Err fault ≡ behind_keys (take i ranges) (row_at (keys - i) kind rest)
  unfolding row_at
  key_fails fault below e =
      ap (λ r. behind_keys (take i ranges) (r >>= λ found. row_at (keys - (i + 1)) kind found.1 >>= λ row. Ok (with_key found.0 row))) (sym e)
      ∙ ap (λ (n : ℕ). behind_keys (take i ranges) (row_at n kind rest)) (sym (one_left below))

  -- the result behind the keys
  pub result_more : (z : ℤ) → i ≤ keys → keys ≤ i → result_at kind rest ≡ Ok z → Ok (record { keys = take keys ranges; result = z }) ≡ behind_keys (take i ranges) (row_at (keys - i) kind rest)
  unfolding row_at
  result_more z within done e =
      let same : keys ≡ i = omega arith in
      ap (λ (n : ℕ). Ok (record { keys = take n ranges; result = z })) same
      ∙ ap (λ (rs : List KeyRange). Ok (record { keys = rs; result = z })) (sym (append-nil (take i ranges)))
      ∙ ap (λ r. behind_keys (take i ranges) (r >>= λ n. Ok (last_row n))) (sym e)
      ∙ ap (λ (n : ℕ). behind_keys (take i ranges) (row_at n kind rest)) (sym (none_left done))

  pub result_fails : (fault : TableKind) → keys ≤ i → result_at kind rest ≡ Err fault → Err fault ≡ behind_keys (take i ranges) (row_at (keys - i) kind rest)
  unfolding row_at
  result_fails fault done e =
      ap (λ r. behind_keys (take i ranges) (r >>= λ n. Ok (last_row n))) (sym e)
      ∙ ap (λ (n : ℕ). behind_keys (take i ranges) (row_at n kind rest)) (sym (none_left done))

-- a value of a kind has 64 bits
pub value_fits : (kind : Kind) (z : ℤ) → IsValue kind z → FitsSigned w64 z
value_fits Boolean z is = omega (arith, ints, is.least, is.greatest)
value_fits Nominal z is = omega (arith, ints, is.least, is.greatest)
value_fits Ordinal z is = omega (arith, ints, is.least, is.greatest)
value_fits Scalar z is = omega (arith, ints, is.least, is.greatest)
value_fits Directional z is = omega (arith, ints, is.least, is.greatest)
value_fits Ldd z is = omega (arith, ints, is.least, is.greatest)

-- and is the same behind a write to memory
pub value_kept : (kind : Kind) (z : ℤ) → IsValue kind z → to_z w64 (of_z w64 z) ≡ z
value_kept kind z is = to_z-of_z w64 z (value_fits kind z is)

-- a list of four by its places
pub four_are : (d : KeyRange) (xs : List KeyRange) → length xs ≡ 4 → get_or xs 0 d ∷ get_or xs 1 d ∷ get_or xs 2 d ∷ get_or xs 3 d ∷ [] ≡ xs
four_are d [] e = absurd (omega arith)
four_are d (x ∷ []) e = absurd (omega arith)
four_are d (x ∷ y ∷ []) e = absurd (omega arith)
four_are d (x ∷ y ∷ z ∷ []) e = absurd (omega arith)
four_are d (x ∷ y ∷ z ∷ w ∷ []) e = refl
four_are d (x ∷ y ∷ z ∷ w ∷ v ∷ vs) e = absurd (omega arith)
