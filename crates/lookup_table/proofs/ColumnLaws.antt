-- The columns of a line are found.
use Rattle.std.proofs.Common.{◌≡◌, ℕ, suc, ◌+◌, ◌<◌, Bool, true, false, cond, not, ◌||◌, List, [], ◌∷◌, ◌++◌, length, take, drop, Some, None, Ok, Err, refl, sym, ap, subst, ◌∙◌, inl, inr, arith, ◌⊎◌, length-append}
use Rattle.std.specs.Prelude.{position, ◌==◌, nat_lt}
use Rattle.std.specs.List.{list_all, list_any, position_or_len, prefix_len}
use Rattle.std.proofs.Math.Seq.{take-append_seam, drop-append_seam}
use Rattle.std.proofs.lemmas.Bool.{and_parts, and_from, not-true, not-false, eqb-true, lt-ltb, le-ltb}
use Rattle.std.proofs.lemmas.List.{take-append-drop, append_assoc, append-nil}
use Rattle.text_base.specs.Bytes.{is_blank}
use Rattle.text_base.proofs.Callers.{bool_cases, ok_is, some_is}
use Rattle.lookup_table.specs.declared.fault.TableKind.{TableKind}
use Rattle.lookup_table.specs.declared.fault.TableKind.TheVariants as kinds
use Rattle.lookup_table.specs.Columns.{is_opening, is_closing, is_run_byte, ends_run, IsInterval, IsColumnRun, BeginsWith}
use Rattle.lookup_table.specs.inside.Reading.{cut_at, cut_behind, column_cut, first_column}
use Rattle.lookup_table.proofs.Prefix.{Stops, prefix_yes, prefix_all, prefix_stops, prefix_is, none_pass, all_fail}

-- one of two tests passes
or_cases : {P : Type 0} (a b : Bool) → (a || b) ≡ true → (a ≡ true → P) → (b ≡ true → P) → P
or_cases true b e left right = left refl
or_cases false b e left right = right e

-- a byte that begins an interval
opening_is : {P : Type 0} (b : ℕ) → is_opening b ≡ true → (b ≡ 91 → P) → (b ≡ 60 → P) → P
opening_is b opens bracket sign = or_cases (b == 91) (b == 60) opens (λ h. bracket (eqb-true b 91 h)) (λ h. sign (eqb-true b 60 h))

opening_no_closing : (b : ℕ) → is_opening b ≡ true → is_closing b ≡ false
opening_no_closing b opens =
    let family : ℕ → Type 0 = λ n. is_closing n ≡ false in
    opening_is b opens (λ e. subst family (sym e) refl) (λ e. subst family (sym e) refl)

opening_no_blank : (b : ℕ) → is_opening b ≡ true → is_blank b ≡ false
opening_no_blank b opens =
    let family : ℕ → Type 0 = λ n. is_blank n ≡ false in
    opening_is b opens (λ e. subst family (sym e) refl) (λ e. subst family (sym e) refl)

-- ---- what is cut off, by its form

-- the place of the byte that closes an interval
closing_at : (front : List ℕ) (c : ℕ) (tail : List ℕ) → list_any is_closing front ≡ false → is_closing c ≡ true → position is_closing (front ++ c ∷ tail) ≡ Some (length front)
closing_at front c tail none closes =
    let place : position_or_len is_closing (front ++ c ∷ tail) ≡ length front = prefix_is (λ b. not (is_closing b)) front (c ∷ tail) (none_pass is_closing front none) (ap not closes) in
    let within : length front < length (front ++ c ∷ tail) = omega (arith, length-append front (c ∷ tail)) in
    rw place (ap (λ (b : Bool). cond b (Some (length front)) None) (lt-ltb _ _ within))

closing_none : (bytes : List ℕ) → list_any is_closing bytes ≡ false → position is_closing bytes ≡ None
closing_none bytes none =
    let place : position_or_len is_closing bytes ≡ length bytes = ap (prefix_len (λ b. not (is_closing b))) (sym (append-nil bytes)) ∙ prefix_is (λ b. not (is_closing b)) bytes [] (none_pass is_closing bytes none) tt in
    let not_less : nat_lt (length bytes) (length bytes) ≡ false = le-ltb _ _ (omega arith) in
    rw place (ap (λ (b : Bool). cond b (Some (length bytes)) None) not_less)

-- an interval is cut off up to the byte that closes it
interval_cut : (opening : ℕ) (inner : List ℕ) (closing : ℕ) (tail : List ℕ) → is_opening opening ≡ true → list_any is_closing inner ≡ false → is_closing closing ≡ true
    → column_cut (opening ∷ (inner ++ closing ∷ tail)) ≡ Ok (Some (opening ∷ (inner ++ closing ∷ []), tail))
interval_cut opening inner closing tail opens none closes =
    let bytes : List ℕ = opening ∷ (inner ++ closing ∷ tail) in
    let column : List ℕ = opening ∷ (inner ++ closing ∷ []) in
    let none_yet : list_any is_closing (opening ∷ inner) ≡ false = ap (λ b. b || list_any is_closing inner) (opening_no_closing opening opens) ∙ none in
    let place : position is_closing bytes ≡ Some (suc (length inner)) = closing_at (opening ∷ inner) closing tail none_yet closes in
    let whole : bytes ≡ column ++ tail = ap (λ xs. opening ∷ xs) (sym (append_assoc inner (closing ∷ []) tail)) in
    let len : suc (length inner) + 1 ≡ length column = omega (arith, length-append inner (closing ∷ [])) in
    let front : take (suc (length inner) + 1) bytes ≡ column = ap (λ n. take n bytes) len ∙ ap (take (length column)) whole ∙ take-append_seam column tail in
    let back : drop (suc (length inner) + 1) bytes ≡ tail = ap (λ n. drop n bytes) len ∙ ap (drop (length column)) whole ∙ drop-append_seam column tail in
    ap (λ (b : Bool). cond b (cut_behind (position is_closing bytes) bytes) (Ok (cut_at (prefix_len is_run_byte bytes) bytes))) opens
    ∙ ap (λ o. cut_behind o bytes) place
    ∙ ap (λ (x : List ℕ). Ok (Some (x, drop (suc (length inner) + 1) bytes))) front
    ∙ ap (λ (x : List ℕ). Ok (Some (column, x))) back

-- an interval that is never closed is the fault
unclosed_cut : (opening : ℕ) (inner : List ℕ) → is_opening opening ≡ true → list_any is_closing inner ≡ false → column_cut (opening ∷ inner) ≡ Err kinds.BadInterval
unclosed_cut opening inner opens none =
    let bytes : List ℕ = opening ∷ inner in
    let none_yet : list_any is_closing bytes ≡ false = ap (λ b. b || list_any is_closing inner) (opening_no_closing opening opens) ∙ none in
    ap (λ (b : Bool). cond b (cut_behind (position is_closing bytes) bytes) (Ok (cut_at (prefix_len is_run_byte bytes) bytes))) opens
    ∙ ap (λ o. cut_behind o bytes) (closing_none bytes none_yet)

run_byte : (b : ℕ) → is_run_byte b ≡ true → (is_blank b ≡ false) × (is_opening b ≡ false)
run_byte b h = let parts = and_parts (not (is_blank b)) (not (is_opening b)) h in (not-true _ parts.0, not-true _ parts.1)

stops_run : (rest : List ℕ) → ends_run rest ≡ true → Stops is_run_byte rest
stops_run [] h = tt
stops_run (b ∷ rest) h = not-true _ h

run_ends : (rest : List ℕ) → Stops is_run_byte rest → ends_run rest ≡ true
run_ends [] h = refl
run_ends (b ∷ rest) h = ap not h

-- a run is cut off as long as it is
run_cut : (column rest : List ℕ) → IsColumnRun column rest → column_cut (column ++ rest) ≡ Ok (Some (column, rest))
run_cut [] rest run = absurd (let some : 0 < length {A = ℕ} [] = run.some in omega arith)
run_cut (b ∷ bytes) rest run =
    let all : List ℕ = b ∷ bytes ++ rest in
    let first = run_byte b (and_parts (is_run_byte b) _ run.run).0 in
    let len : prefix_len is_run_byte all ≡ length (b ∷ bytes) = prefix_is is_run_byte (b ∷ bytes) rest run.run (stops_run rest run.whole) in
    ap (λ (t : Bool). cond t (cut_behind (position is_closing all) all) (Ok (cut_at (prefix_len is_run_byte all) all))) first.1
    ∙ ap (λ (n : ℕ). Ok (Some (take n all, drop n all))) len
    ∙ ap (λ (x : List ℕ). Ok (Some (x, drop (length (b ∷ bytes)) all))) (take-append_seam (b ∷ bytes) rest)
    ∙ ap (λ (x : List ℕ). Ok (Some (b ∷ bytes, x))) (drop-append_seam (b ∷ bytes) rest)

-- ---- the first column, by what the bytes begin with

-- blanks in front are passed over
behind_gap : (gap bytes : List ℕ) → list_all is_blank gap ≡ true → Stops is_blank bytes → first_column (gap ++ bytes) ≡ column_cut bytes
unfolding first_column
behind_gap gap bytes blank stops = ap (λ n. column_cut (drop n (gap ++ bytes))) (prefix_is is_blank gap bytes blank stops) ∙ ap column_cut (drop-append_seam gap bytes)

pub blank_first : (bytes : List ℕ) → list_all is_blank bytes ≡ true → first_column bytes ≡ Ok None
blank_first bytes blank = ap first_column (sym (append-nil bytes)) ∙ behind_gap bytes [] blank tt

pub unclosed_first : (gap : List ℕ) (opening : ℕ) (inner : List ℕ) → list_all is_blank gap ≡ true → is_opening opening ≡ true → list_any is_closing inner ≡ false → first_column (gap ++ opening ∷ inner) ≡ Err kinds.BadInterval
unclosed_first gap opening inner blank opens none = behind_gap gap (opening ∷ inner) blank (opening_no_blank opening opens) ∙ unclosed_cut opening inner opens none

column_first : (column rest : List ℕ) → IsInterval column ⊎ IsColumnRun column rest → Stops is_blank (column ++ rest) × (column_cut (column ++ rest) ≡ Ok (Some (column, rest)))
column_first column rest (inl i) =
    let whole : column ++ rest ≡ i.opening ∷ (i.inner ++ i.closing ∷ rest) = ap (λ xs. xs ++ rest) i.parts ∙ ap (λ xs. i.opening ∷ xs) (append_assoc i.inner (i.closing ∷ []) rest) in
    let cut : column_cut (column ++ rest) ≡ Ok (Some (column, rest)) = ap column_cut whole ∙ interval_cut i.opening i.inner i.closing rest i.opens i.next i.closes ∙ ap (λ (x : List ℕ). Ok (Some (x, rest))) (sym i.parts) in
    (subst (Stops is_blank) (sym whole) (opening_no_blank i.opening i.opens), cut)
column_first [] rest (inr run) = absurd (let some : 0 < length {A = ℕ} [] = run.some in omega arith)
column_first (b ∷ bytes) rest (inr run) = ((run_byte b (and_parts (is_run_byte b) _ run.run).0).0, run_cut (b ∷ bytes) rest run)

pub begins_first : (bytes column rest : List ℕ) → BeginsWith bytes column rest → first_column bytes ≡ Ok (Some (column, rest))
begins_first bytes column rest begins =
    let cut = column_first column rest begins.column_is in
    ap first_column begins.parts ∙ behind_gap begins.gap (column ++ rest) begins.blank cut.0 ∙ cut.1

-- ---- each text begins with one of the three

-- an interval that is not closed, behind blanks
pub record Opens (bytes : List ℕ) : Type 0 where
  pub gap : List ℕ
  pub opening : ℕ
  pub inner : List ℕ
  pub parts : bytes ≡ gap ++ opening ∷ inner
  pub blank : list_all is_blank gap ≡ true
  pub opens : is_opening opening ≡ true
  pub never : list_any is_closing inner ≡ false

pub data First (bytes : List ℕ) : Type 0 where
  Blank : list_all is_blank bytes ≡ true → First bytes
  Column : (column rest : List ℕ) → BeginsWith bytes column rest → First bytes
  Open : Opens bytes → First bytes

-- behind `[` or `<`
first_opening : (bytes gap : List ℕ) (opening : ℕ) (inner back : List ℕ) → bytes ≡ gap ++ opening ∷ (inner ++ back) → list_all is_blank gap ≡ true → is_opening opening ≡ true → list_any is_closing inner ≡ false → Stops (λ b. not (is_closing b)) back → First bytes
first_opening bytes gap opening inner [] parts blank opens none stops =
    Open (record { gap = gap; opening = opening; inner = inner; parts = parts ∙ ap (λ xs. gap ++ opening ∷ xs) (append-nil inner); blank = blank; opens = opens; never = none })
first_opening bytes gap opening inner (c ∷ tail) parts blank opens none stops =
    let closes : is_closing c ≡ true = not-false _ stops in
    Column (opening ∷ (inner ++ c ∷ [])) tail (record {
      gap = gap;
      parts = parts ∙ ap (λ xs. gap ++ opening ∷ xs) (sym (append_assoc inner (c ∷ []) tail));
      blank = blank;
      column_is = inl (record { opening = opening; inner = inner; closing = c; parts = refl; opens = opens; next = none; closes = closes });
    })

-- behind blanks
first_behind : (bytes gap rest : List ℕ) → bytes ≡ gap ++ rest → list_all is_blank gap ≡ true → Stops is_blank rest → First bytes
first_behind bytes gap [] parts blank stops = Blank (ap (list_all is_blank) (parts ∙ append-nil gap) ∙ blank)
first_behind bytes gap (b ∷ more) parts blank stops =
    bool_cases (is_opening b)
    (λ opens.
    let n : ℕ = prefix_len (λ c. not (is_closing c)) more in
    first_opening bytes gap b (take n more) (drop n more) (parts ∙ ap (λ xs. gap ++ b ∷ xs) (sym (take-append-drop n more))) blank opens
    (all_fail is_closing (take n more) (prefix_all (λ c. not (is_closing c)) more)) (prefix_stops (λ c. not (is_closing c)) more))
    (λ no.
    let n : ℕ = prefix_len is_run_byte (b ∷ more) in
    let here : is_run_byte b ≡ true = and_from _ _ (ap not stops) (ap not no) in
    let long : n ≡ suc (prefix_len is_run_byte more) = prefix_yes is_run_byte b more here in
    let some : 0 < length (take n (b ∷ more)) = rw long (omega arith) in
    Column (take n (b ∷ more)) (drop n (b ∷ more)) (record {
      gap = gap;
      parts = parts ∙ ap (λ xs. gap ++ xs) (sym (take-append-drop n (b ∷ more)));
      blank = blank;
      column_is = inr (record { some = some; run = prefix_all is_run_byte (b ∷ more); whole = run_ends _ (prefix_stops is_run_byte (b ∷ more)) });
    }))

pub first : (bytes : List ℕ) → First bytes
first bytes =
    let n : ℕ = prefix_len is_blank bytes in
    first_behind bytes (take n bytes) (drop n bytes) (sym (take-append-drop n bytes)) (prefix_all is_blank bytes) (prefix_stops is_blank bytes)

-- what stands behind a column is shorter
pub column_some : (column rest : List ℕ) → IsInterval column ⊎ IsColumnRun column rest → 0 < length column
column_some column rest (inl i) = omega (arith, ap length i.parts)
column_some column rest (inr run) = run.some

pub begins_shorter : (bytes column rest : List ℕ) → BeginsWith bytes column rest → length rest < length bytes
begins_shorter bytes column rest begins =
    omega (arith, ap length begins.parts, length-append begins.gap (column ++ rest), length-append column rest, column_some column rest begins.column_is)

-- ---- what is found, by the answer

pub first_gives : (bytes column rest : List ℕ) → first_column bytes ≡ Ok (Some (column, rest)) → BeginsWith bytes column rest
first_gives bytes column rest e = by_first (first bytes)
  where
    by_first : First bytes → BeginsWith bytes column rest
    by_first (Blank blank) = let none = blank_first bytes blank in absurd (cc)
    by_first (Open o) = let fails : first_column bytes ≡ Err kinds.BadInterval = ap first_column o.parts ∙ unclosed_first o.gap o.opening o.inner o.blank o.opens o.never in absurd (cc)
    by_first (Column other more begins) =
        let same : (other, more) ≡ (column, rest) = some_is _ _ (ok_is _ _ (sym (begins_first bytes other more begins) ∙ e)) in
        subst (λ (x : List ℕ × List ℕ). BeginsWith bytes x.0 x.1) same begins

pub first_none : (bytes : List ℕ) → first_column bytes ≡ Ok None → list_all is_blank bytes ≡ true
first_none bytes e = by_first (first bytes)
  where
    by_first : First bytes → list_all is_blank bytes ≡ true
    by_first (Blank blank) = blank
    by_first (Open o) = let fails : first_column bytes ≡ Err kinds.BadInterval = ap first_column o.parts ∙ unclosed_first o.gap o.opening o.inner o.blank o.opens o.never in absurd (cc)
    by_first (Column other more begins) = let gives = begins_first bytes other more begins in absurd (cc)

pub first_fails : (bytes : List ℕ) (fault : TableKind) → first_column bytes ≡ Err fault → Opens bytes
first_fails bytes fault e = by_first (first bytes)
  where
    by_first : First bytes → Opens bytes
    by_first (Blank blank) = let none = blank_first bytes blank in absurd (cc)
    by_first (Open o) = o
    by_first (Column other more begins) = let gives = begins_first bytes other more begins in absurd (cc)
