-- A key column is read exactly where it is one, and its fault is told.
use Rattle.std.proofs.Common.{◌≡◌, ℕ, ◌+◌, ◌<◌, Bool, true, false, cond, not, List, [], ◌∷◌, ◌++◌, length, take, drop, Some, None, Ok, Err, Result, refl, sym, ap, subst, ◌∙◌, arith, ℤ, length-append}
use Rattle.std.specs.Prelude.{position, is_some, nat_lt}
use Rattle.std.specs.declared.option.Option.{Option}
use Rattle.std.specs.List.{list_any, prefix_len, position_or_len}
use Rattle.std.proofs.Math.Seq.{take-append_seam, drop-append_seam}
use Rattle.std.proofs.lemmas.Bool.{lt-ltb, le-ltb, not-false, eqb-true}
use Rattle.std.proofs.lemmas.List.{take-append-drop, append_assoc, append-nil}
use Rattle.cell_values.specs.declared.kind.Kind.{Kind}
use Rattle.cell_values.specs.declared.kind.Kind.TheVariants.{Scalar}
use Rattle.cell_values.specs.declared.cell.Cell.{Cell}
use Rattle.cell_values.specs.declared.cell.Cell.TheVariants.{Mv, Val}
use Rattle.cell_values.specs.declared.cell.NumberFault.{NumberFault}
use Rattle.cell_values.specs.declared.cell.NumberFault.TheVariants as numbers
use Rattle.cell_values.specs.Kinds.{is_value}
use Rattle.cell_values.specs.Decimal.{Decimal}
use Rattle.cell_values.specs.inside.Reading.{decimal_of}
use Rattle.cell_values.specs.inside.Reading.{cell_read, cell_of_decimal, cell_taken}
use Rattle.text_base.specs.Results.{◌>>=◌}
use Rattle.text_base.proofs.Callers.{bool_cases, ok_is, err_is, some_is, bind_gives, bind_fails}
use Rattle.lookup_table.specs.declared.fault.TableKind.{TableKind}
use Rattle.lookup_table.specs.declared.fault.TableKind.TheVariants as kinds
use Rattle.lookup_table.specs.Columns.{comma}
use Rattle.lookup_table.specs.Keys.{first_from, last_to, bound_of, bound_in, IsFirst, IsLast}
use Rattle.lookup_table.specs.Faults.{told, IsOutOfRange}
use Rattle.lookup_table.specs.inside.Reading.{number_of, number_read, bound_or, first_of, last_of, is_comma, halves_at, halves_of}
use Rattle.lookup_table.proofs.Prefix.{Stops, prefix_all, prefix_stops, prefix_is, none_pass, all_fail}

-- ---- numbers

-- what is read is never missing
taken_some : (kind : Kind) (n : Option ℤ) → cell_taken kind n ≡ Ok Mv → ⊥
taken_some kind None e = absurd (cc)
taken_some kind (Some z) e = by_test (is_value kind z) e
  where
    by_test : (b : Bool) → cond b (Ok (Val z)) (Err numbers.Range) ≡ Ok Mv → ⊥
    by_test true h = absurd (cc)
    by_test false h = absurd (cc)

read_some : (kind : Kind) (text : List ℕ) → cell_read kind text ≡ Ok Mv → ⊥
unfolding cell_read
read_some kind text e = by_decimal (decimal_of text) e
  where
    by_decimal : (d : Option Decimal) → cell_of_decimal kind d ≡ Ok Mv → ⊥
    by_decimal None h = absurd (cc)
    by_decimal (Some d) h = taken_some kind _ h

-- a decimal is not told to be none
decimal_told : (kind : Kind) (text : List ℕ) → is_some (decimal_of text) ≡ true → cell_read kind text ≡ Err numbers.BadNumber → ⊥
unfolding cell_read
decimal_told kind text some e = by_decimal (decimal_of text) some e
  where
    by_taken : (n : Option ℤ) → cell_taken kind n ≡ Err numbers.BadNumber → ⊥
    by_taken None h = absurd (cc)
    by_taken (Some z) h = by_test (is_value kind z) h
      where
        by_test : (b : Bool) → cond b (Ok (Val z)) (Err numbers.Range) ≡ Err numbers.BadNumber → ⊥
        by_test true g = absurd (cc)
        by_test false g = absurd (cc)

    by_decimal : (d : Option Decimal) → is_some d ≡ true → cell_of_decimal kind d ≡ Err numbers.BadNumber → ⊥
    by_decimal None s h = absurd (cc)
    by_decimal (Some d) s h = by_taken _ h

pub number_gives : (kind : Kind) (text : List ℕ) (z : ℤ) → number_read kind text ≡ Ok z → cell_read kind text ≡ Ok (Val z)
number_gives kind text z e = by_answer (cell_read kind text) e
  where
    by_answer : (r : Result Cell NumberFault) → number_of r ≡ Ok z → r ≡ Ok (Val z)
    by_answer (Ok (Val y)) h = ap (λ (x : ℤ). Ok (Val x)) (ok_is _ _ h)
    by_answer (Ok Mv) h = absurd (cc)
    by_answer (Err why) h = absurd (cc)

pub number_is : (kind : Kind) (text : List ℕ) (z : ℤ) → cell_read kind text ≡ Ok (Val z) → number_read kind text ≡ Ok z
number_is kind text z e = ap number_of e

-- why no number is read
pub record Why (kind : Kind) (text : List ℕ) (fault : TableKind) : Type 0 where
  pub why : NumberFault
  pub refused : cell_read kind text ≡ Err why
  pub is : fault ≡ told why

pub number_fails : (kind : Kind) (text : List ℕ) (fault : TableKind) → number_read kind text ≡ Err fault → Why kind text fault
number_fails kind text fault e = by_answer (cell_read kind text) refl e
  where
    by_answer : (r : Result Cell NumberFault) → cell_read kind text ≡ r → number_of r ≡ Err fault → Why kind text fault
    by_answer (Ok (Val y)) is h = absurd (cc)
    by_answer (Ok Mv) is h = absurd (read_some kind text is)
    by_answer (Err why) is h = record { why = why; refused = is; is = sym (err_is _ _ h) }

pub number_refused : (kind : Kind) (text : List ℕ) (why : NumberFault) → cell_read kind text ≡ Err why → number_read kind text ≡ Err (told why)
number_refused kind text why e = ap number_of e

-- ---- bounds

bound_decimal : (words : List (List ℕ)) (word : List ℕ) → bound_of words ≡ Some (Some word) → is_some (decimal_of word) ≡ true
bound_decimal [] word e = absurd (let inner : None ≡ Some word = some_is _ _ e in cc)
bound_decimal (other ∷ []) word e =
    bool_cases (is_some (decimal_of other))
    (λ yes.
    let inner : Some other ≡ Some word = some_is _ _ (sym (ap (λ b. cond b (Some (Some other)) None) yes) ∙ e) in
    subst (λ (w : List ℕ). is_some (decimal_of w) ≡ true) (some_is _ _ inner) yes)
    (λ fails. let none : None ≡ Some (Some word) = sym (ap (λ b. cond b (Some (Some other)) None) fails) ∙ e in absurd (cc))
bound_decimal (other ∷ more ∷ words) word e = absurd (cc)

pub bound_or_gives : (o : Option (Option (List ℕ))) (bound : Option (List ℕ)) → bound_or o ≡ Ok bound → o ≡ Some bound
bound_or_gives None bound e = absurd (cc)
bound_or_gives (Some b) bound e = ap (λ (x : Option (List ℕ)). Some x) (ok_is _ _ e)

pub bound_or_fails : (o : Option (Option (List ℕ))) (fault : TableKind) → bound_or o ≡ Err fault → (o ≡ None) × (fault ≡ kinds.BadInterval)
bound_or_fails None fault e = (refl, sym (err_is _ _ e))
bound_or_fails (Some b) fault e = absurd (cc)

-- the word at a bound is a decimal
abbrev pub IsWord : Option (List ℕ) → Type 0
IsWord None = Unit {0}
IsWord (Some word) = is_some (decimal_of word) ≡ true

pub word_at : (text : List ℕ) (bound : Option (List ℕ)) → bound_in text ≡ Some bound → IsWord bound
word_at text None e = tt
word_at text (Some word) e = bound_decimal _ word e

-- a decimal that is refused is out of range
out_of_range : (word : List ℕ) (fault : TableKind) → is_some (decimal_of word) ≡ true → number_read Scalar word ≡ Err fault → (fault ≡ kinds.Range) × (cell_read Scalar word ≡ Err numbers.Range)
out_of_range word fault some e = by_why (number_fails Scalar word fault e)
  where
    by_why : Why Scalar word fault → (fault ≡ kinds.Range) × (cell_read Scalar word ≡ Err numbers.Range)
    by_why w = by_fault w.why w.refused w.is
      where
        by_fault : (why : NumberFault) → cell_read Scalar word ≡ Err why → fault ≡ told why → (fault ≡ kinds.Range) × (cell_read Scalar word ≡ Err numbers.Range)
        by_fault numbers.BadNumber refused is = absurd (decimal_told Scalar word some refused)
        by_fault numbers.Range refused is = (is, refused)

pub first_gives : (opening : ℕ) (low : Option (List ℕ)) (z : ℤ) → first_of opening low ≡ Ok z → IsFirst opening low z
unfolding first_of
first_gives opening None z e = sym (ok_is _ _ e)
first_gives opening (Some word) z e = bind_gives (number_read Scalar word) _ z e (λ y is e1. (y, number_gives Scalar word y is, sym (ok_is _ _ e1)))

pub first_is : (opening : ℕ) (low : Option (List ℕ)) (z : ℤ) → IsFirst opening low z → first_of opening low ≡ Ok z
unfolding first_of
first_is opening None z e = ap (λ (x : ℤ). Ok x) (sym e)
first_is opening (Some word) z e = ap (λ r. r >>= λ y. Ok (first_from opening y)) (number_is Scalar word e.0 e.1) ∙ ap (λ (x : ℤ). Ok x) (sym e.2)

pub first_fails : (opening : ℕ) (low : Option (List ℕ)) (fault : TableKind) → IsWord low → first_of opening low ≡ Err fault → (fault ≡ kinds.Range) × IsOutOfRange low
unfolding first_of
first_fails opening None fault word e = absurd (cc)
first_fails opening (Some word) fault some e = bind_fails (number_read Scalar word) _ fault e (λ here. out_of_range word fault some here) (λ y is e1. absurd (cc))

pub first_out : (opening : ℕ) (low : Option (List ℕ)) → IsOutOfRange low → first_of opening low ≡ Err kinds.Range
unfolding first_of
first_out opening None out = absurd out
first_out opening (Some word) out = ap (λ r. r >>= λ y. Ok (first_from opening y)) (number_refused Scalar word _ out)

pub last_gives : (closing : ℕ) (high : Option (List ℕ)) (z : ℤ) → last_of closing high ≡ Ok z → IsLast closing high z
unfolding last_of
last_gives closing None z e = sym (ok_is _ _ e)
last_gives closing (Some word) z e = bind_gives (number_read Scalar word) _ z e (λ y is e1. (y, number_gives Scalar word y is, sym (ok_is _ _ e1)))

pub last_is : (closing : ℕ) (high : Option (List ℕ)) (z : ℤ) → IsLast closing high z → last_of closing high ≡ Ok z
unfolding last_of
last_is closing None z e = ap (λ (x : ℤ). Ok x) (sym e)
last_is closing (Some word) z e = ap (λ r. r >>= λ y. Ok (last_to closing y)) (number_is Scalar word e.0 e.1) ∙ ap (λ (x : ℤ). Ok x) (sym e.2)

pub last_fails : (closing : ℕ) (high : Option (List ℕ)) (fault : TableKind) → IsWord high → last_of closing high ≡ Err fault → (fault ≡ kinds.Range) × IsOutOfRange high
unfolding last_of
last_fails closing None fault word e = absurd (cc)
last_fails closing (Some word) fault some e = bind_fails (number_read Scalar word) _ fault e (λ here. out_of_range word fault some here) (λ y is e1. absurd (cc))

pub last_out : (closing : ℕ) (high : Option (List ℕ)) → IsOutOfRange high → last_of closing high ≡ Err kinds.Range
unfolding last_of
last_out closing None out = absurd out
last_out closing (Some word) out = ap (λ r. r >>= λ y. Ok (last_to closing y)) (number_refused Scalar word _ out)

-- ---- the halves of an interval

pub record Halves (inner low high : List ℕ) : Type 0 where
  pub parts : inner ≡ low ++ comma ∷ high
  pub first : list_any is_comma low ≡ false

comma_is : (b : ℕ) → is_comma b ≡ true → b ≡ comma
comma_is b h = eqb-true b comma h

-- the place of the first comma
pub halves_is : (inner low high : List ℕ) → Halves inner low high → halves_of inner ≡ Ok (low, high)
halves_is inner low high h =
    let place : position_or_len is_comma (low ++ comma ∷ high) ≡ length low = prefix_is (λ b. not (is_comma b)) low (comma ∷ high) (none_pass is_comma low h.first) refl in
    let within : length low < length (low ++ comma ∷ high) = omega (arith, length-append low (comma ∷ high)) in
    let at : position is_comma (low ++ comma ∷ high) ≡ Some (length low) = rw place (ap (λ (b : Bool). cond b (Some (length low)) None) (lt-ltb _ _ within)) in
    let back : drop (length low + 1) (low ++ comma ∷ high) ≡ high =
    ap (drop (length low + 1)) (sym (append_assoc low (comma ∷ []) high)) ∙ ap (λ n. drop n ((low ++ comma ∷ []) ++ high)) (sym (length-append low (comma ∷ []))) ∙ drop-append_seam (low ++ comma ∷ []) high in
    ap halves_of h.parts ∙ ap (λ o. halves_at o (low ++ comma ∷ high)) at
    ∙ ap (λ (x : List ℕ). Ok (x, drop (length low + 1) (low ++ comma ∷ high))) (take-append_seam low (comma ∷ high))
    ∙ ap (λ (x : List ℕ). Ok (low, x)) back

halves_none : (inner : List ℕ) → list_any is_comma inner ≡ false → halves_of inner ≡ Err kinds.BadInterval
halves_none inner none =
    let place : position_or_len is_comma inner ≡ length inner = ap (prefix_len (λ b. not (is_comma b))) (sym (append-nil inner)) ∙ prefix_is (λ b. not (is_comma b)) inner [] (none_pass is_comma inner none) tt in
    let not_less : nat_lt (length inner) (length inner) ≡ false = le-ltb _ _ (omega arith) in
    let at : position is_comma inner ≡ None = rw place (ap (λ (b : Bool). cond b (Some (length inner)) None) not_less) in
    ap (λ o. halves_at o inner) at

data HalvesOf (inner : List ℕ) : Type 0 where
  Cut : (low high : List ℕ) → Halves inner low high → HalvesOf inner
  Whole : list_any is_comma inner ≡ false → HalvesOf inner

halves_by : (inner front back : List ℕ) → inner ≡ front ++ back → list_any is_comma front ≡ false → Stops (λ b. not (is_comma b)) back → HalvesOf inner
halves_by inner front [] parts none stops = Whole (ap (list_any is_comma) (parts ∙ append-nil front) ∙ none)
halves_by inner front (b ∷ back) parts none stops =
    let is : b ≡ comma = comma_is b (not-false _ stops) in
    Cut front back (record { parts = parts ∙ ap (λ (x : ℕ). front ++ x ∷ back) is; first = none })

halves_view : (inner : List ℕ) → HalvesOf inner
halves_view inner =
    let n : ℕ = prefix_len (λ b. not (is_comma b)) inner in
    halves_by inner (take n inner) (drop n inner) (sym (take-append-drop n inner)) (all_fail is_comma (take n inner) (prefix_all (λ b. not (is_comma b)) inner)) (prefix_stops (λ b. not (is_comma b)) inner)

pub halves_give : (inner : List ℕ) (halves : List ℕ × List ℕ) → halves_of inner ≡ Ok halves → Halves inner halves.0 halves.1
halves_give inner halves e = by_view (halves_view inner)
  where
    by_view : HalvesOf inner → Halves inner halves.0 halves.1
    by_view (Cut low high h) = subst (λ (x : List ℕ × List ℕ). Halves inner x.0 x.1) (ok_is _ _ (sym (halves_is inner low high h) ∙ e)) h
    by_view (Whole none) = let fails = halves_none inner none in absurd (cc)

pub halves_fail : (inner : List ℕ) (fault : TableKind) → halves_of inner ≡ Err fault → (fault ≡ kinds.BadInterval) × (list_any is_comma inner ≡ false)
halves_fail inner fault e = by_view (halves_view inner)
  where
    by_view : HalvesOf inner → (fault ≡ kinds.BadInterval) × (list_any is_comma inner ≡ false)
    by_view (Cut low high h) = let gives = halves_is inner low high h in absurd (cc)
    by_view (Whole none) = (err_is _ _ (sym e ∙ halves_none inner none), none)
