-- A text has one list of lines.
use Rattle.std.proofs.Common.{◌≡◌, ℕ, zero, suc, ◌+◌, ◌<◌, ◌≤◌, Bool, true, false, not, cond, List, [], ◌∷◌, ◌++◌, length, get_or, take, drop, refl, sym, ap, ◌∙◌, subst, inl, inr, append_assoc, arith}
use Rattle.std.specs.Prelude.{count_by}
use Rattle.std.specs.List.{All, AllPairs, Contains, onto_first, position_or_len, slice_split}
use Rattle.std.proofs.lemmas.Bool.{cases_lt, eqb-true, not-false}
use Rattle.std.proofs.lemmas.List.{append-nil, drop_more, get_or-take, length-drop, length-take-le, nil_from_length, take-append-drop}
use Rattle.std.proofs.lemmas.List.Elements.{All-nil, All-cons, All-contains, All-weaker, Contains-append_right}
use Rattle.std.proofs.lemmas.List.Kept.{AllPairs-cons}
use Rattle.std.proofs.lemmas.List.Splits.{slice_split-cons_yes, slice_split-cons_no, slice_split_none, slice_split_at, length-slice_split}
use Rattle.std.proofs.lemmas.List.Sums.{prefix_len_stops, sum_by-append}
use Rattle.text_base.specs.Bytes.{line_feed}
use Rattle.text_base.specs.Lines.{Line, is_line_feed, has_more_than_blanks, IsLineStart, IsLineEnd, IsLine, AreLines, lines_at, lines_of, LinesAreUnique}
use Rattle.text_base.specs.inside.Steps.{kept}
use Rattle.text_base.proofs.Callers.{bool_cases}
use Rattle.text_base.proofs.LineLaws.{lines_among, lines_among-cons, lines_at-nil, lines_at-one, cut_at_feed, no_feed}
use Rattle.text_base.proofs.Members.{Contains-head, same_by_members}

-- ---- the lines that are found

-- Lines of a text from a number on, in order.
record Below (text : List ℕ) (number : ℕ) (all : List Line) : Type 0 where
  lines : All (IsLine text) all
  later : All (λ l. number ≤ l.number) all
  ascending : AllPairs (λ a b. a.number < b.number) all

below_nil : (text : List ℕ) (number : ℕ) → Below text number []
below_nil text number = record {
  lines = All-nil (IsLine text);
  later = All-nil (λ l. number ≤ l.number);
  ascending = λ i j d lt within. absurd (omega (arith, within));
}

-- the same from an earlier number on
below_earlier : (text : List ℕ) (number : ℕ) (all : List Line) → Below text (number + 1) all → Below text number all
below_earlier text number all below = record {
  lines = below.lines;
  later = All-weaker (λ (l : Line). number + 1 ≤ l.number) (λ l. number ≤ l.number) (λ l h. omega (arith, h)) all below.later;
  ascending = below.ascending;
}

-- one line more in front
below_cons : (text : List ℕ) (number : ℕ) (line : Line) (all : List Line) → IsLine text line → line.number ≡ number → Below text (number + 1) all → Below text number (line ∷ all)
below_cons text number line all is at below = record {
  lines = All-cons (IsLine text) line all is below.lines;
  later = All-cons (λ l. number ≤ l.number) line all (omega (arith, at)) (below_earlier text number all below).later;
  ascending = AllPairs-cons (λ a b. a.number < b.number) line all (All-weaker (λ (l : Line). number + 1 ≤ l.number) (λ l. line.number < l.number) (λ l h. omega (arith, h, at)) all below.later) below.ascending;
}

-- one line more, where it has more than blanks
below_kept : (text before piece behind : List ℕ) (all : List Line) → text ≡ before ++ piece ++ behind → IsLineStart before → IsLineEnd behind → All (λ b. is_line_feed b ≡ false) piece
    → Below text (count_by is_line_feed before + 1 + 1) all → Below text (count_by is_line_feed before + 1) (kept (record { number = count_by is_line_feed before + 1; bytes = piece }) ++ all)
below_kept text before piece behind all parts begins ends one below =
    bool_cases (has_more_than_blanks piece)
    (λ more. subst (λ b. Below text number (cond b (line ∷ []) [] ++ all)) (sym more)
    (below_cons text number line all (record { before = before; behind = behind; parts = parts; begins = begins; ends = ends; one = one; number = refl; more = more }) refl below))
    (λ blank. subst (λ b. Below text number (cond b (line ∷ []) [] ++ all)) (sym blank) (below_earlier text number all below))
  where
    number : ℕ
    number = count_by is_line_feed before + 1

    line : Line
    line = record { number = number; bytes = piece }

-- there is no line feed in a piece without one
count_none : (piece : List ℕ) → All (λ b. is_line_feed b ≡ false) piece → count_by is_line_feed piece ≡ 0
count_none piece one =
    let e : length (slice_split is_line_feed piece) ≡ 1 = ap (λ (parts : List (List ℕ)). length parts) (slice_split_none is_line_feed piece one) in
    omega (arith, e, length-slice_split is_line_feed piece)

count_append : (xs ys : List ℕ) → count_by is_line_feed (xs ++ ys) ≡ count_by is_line_feed xs + count_by is_line_feed ys
count_append xs ys = sum_by-append (λ b. cond (is_line_feed b) 1 0) xs ys

-- behind a line and its line feed one more has passed
count_behind : (before piece : List ℕ) → All (λ b. is_line_feed b ≡ false) piece → count_by is_line_feed (before ++ piece ++ line_feed ∷ []) ≡ count_by is_line_feed before + 1
count_behind before piece one =
    count_append (before ++ piece) (line_feed ∷ []) ∙ ap (λ n. n + 1) (count_append before piece ∙ ap (λ n. count_by is_line_feed before + n) (count_none piece one) ∙ omega arith)

-- the first line of some bytes
abbrev first_len : List ℕ → ℕ
first_len bytes = position_or_len is_line_feed bytes

first_one : (bytes : List ℕ) → first_len bytes ≤ length bytes → All (λ b. is_line_feed b ≡ false) (take (first_len bytes) bytes)
first_one bytes le = λ k d in'.
    let here : k < first_len bytes = omega (arith, in', length-take-le (first_len bytes) bytes le) in
    ap is_line_feed (get_or-take (first_len bytes) bytes k d here) ∙ no_feed bytes k d here

-- bytes with a line feed are a line, the line feed and what stands behind it
first_parts : (bytes : List ℕ) → first_len bytes < length bytes → bytes ≡ take (first_len bytes) bytes ++ line_feed ∷ drop (first_len bytes + 1) bytes
first_parts bytes lt =
    let feed : get_or bytes (first_len bytes) 0 ≡ line_feed = eqb-true _ _ (not-false (is_line_feed (get_or bytes (first_len bytes) 0)) (prefix_len_stops (λ b. not (is_line_feed b)) bytes 0 lt)) in
    sym (take-append-drop (first_len bytes) bytes)
    ∙ ap (λ bs. take (first_len bytes) bytes ++ bs) (drop_more bytes (first_len bytes) 0 lt ∙ ap (λ b. b ∷ drop (first_len bytes + 1) bytes) feed)

-- with the line and its line feed more bytes have passed
passed : (text before bytes : List ℕ) → text ≡ before ++ bytes → first_len bytes < length bytes → text ≡ (before ++ take (first_len bytes) bytes ++ line_feed ∷ []) ++ drop (first_len bytes + 1) bytes
passed text before bytes parts lt =
    parts ∙ ap (λ bs. before ++ bs) (first_parts bytes lt)
    ∙ sym (append_assoc before (take (first_len bytes) bytes) (line_feed ∷ drop (first_len bytes + 1) bytes))
    ∙ sym (append_assoc (before ++ take (first_len bytes) bytes) (line_feed ∷ []) (drop (first_len bytes + 1) bytes))

-- the lines that are found from a place on, where a line begins
found : (n : ℕ) (text before bytes : List ℕ) → length bytes ≤ n → text ≡ before ++ bytes → IsLineStart before → Below text (count_by is_line_feed before + 1) (lines_at (count_by is_line_feed before + 1) bytes)
found zero text before bytes few parts begins =
    let none : bytes ≡ [] = nil_from_length bytes (omega (arith, few)) in
    subst (λ bs. Below text (count_by is_line_feed before + 1) (lines_at (count_by is_line_feed before + 1) bs)) (sym none)
    (subst (Below text (count_by is_line_feed before + 1)) (sym (lines_at-nil (count_by is_line_feed before + 1))) (below_nil text (count_by is_line_feed before + 1)))
found (suc n) text before bytes few parts begins =
    let number : ℕ = count_by is_line_feed before + 1 in
    elim (cases_lt (first_len bytes) (length bytes)) [
      | inl lt ↦
          let piece : List ℕ = take (first_len bytes) bytes in
          let rest : List ℕ = drop (first_len bytes + 1) bytes in
          let one = first_one bytes (omega (arith, lt)) in
          let count : count_by is_line_feed (before ++ piece ++ line_feed ∷ []) ≡ number = count_behind before piece one in
          let below = found n text (before ++ piece ++ line_feed ∷ []) rest (omega (arith, few, lt, length-drop (first_len bytes + 1) bytes)) (passed text before bytes parts lt) (inr (before ++ piece, refl)) in
          subst (Below text number) (sym ((cut_at_feed bytes (first_len bytes) refl lt).lines number))
          (below_kept text before piece (line_feed ∷ rest) (lines_at (number + 1) rest) (parts ∙ ap (λ bs. before ++ bs) (first_parts bytes lt) ∙ sym (append_assoc before piece (line_feed ∷ rest))) begins (inr (rest, refl)) one
          (subst (λ m. Below text (m + 1) (lines_at (m + 1) rest)) count below))
      | inr le ↦
          let one : All (λ b. is_line_feed b ≡ false) bytes = λ k d in'. no_feed bytes k d (omega (arith, in', le)) in
          let whole : text ≡ before ++ bytes ++ [] = parts ∙ sym (append-nil (before ++ bytes)) in
          subst (Below text number) (append-nil _ ∙ sym (lines_at-one number bytes one))
          (below_kept text before bytes [] [] whole begins (inl refl) one (below_nil text (number + 1)))
    ]

-- ---- each line is found

-- a text that is cut at a line feed has the parts of both sides
onto_first-append : {X : Type 0} (x : X) (parts more : List (List X)) → 0 < length parts → onto_first x (parts ++ more) ≡ onto_first x parts ++ more
onto_first-append x [] more some = absurd (omega (arith, some))
onto_first-append x (part ∷ parts) more some = refl

slice_split-append : (p : ℕ → Bool) (xs : List ℕ) (y : ℕ) (ys : List ℕ) → p y ≡ true → slice_split p (xs ++ y ∷ ys) ≡ slice_split p xs ++ slice_split p ys
slice_split-append p [] y ys cuts = slice_split-cons_yes p y ys cuts
slice_split-append p (x ∷ xs) y ys cuts =
    bool_cases (p x)
    (λ cut. slice_split-cons_yes p x (xs ++ y ∷ ys) cut ∙ ap (λ parts. [] ∷ parts) (slice_split-append p xs y ys cuts) ∙ ap (λ parts. parts ++ slice_split p ys) (sym (slice_split-cons_yes p x xs cut)))
    (λ other. slice_split-cons_no p x (xs ++ y ∷ ys) other ∙ ap (onto_first x) (slice_split-append p xs y ys cuts)
    ∙ onto_first-append x (slice_split p xs) (slice_split p ys) (omega (arith, length-slice_split p xs))
    ∙ ap (λ parts. parts ++ slice_split p ys) (sym (slice_split-cons_no p x xs other)))

lines_among-append : (number : ℕ) (parts more : List (List ℕ)) → lines_among number (parts ++ more) ≡ lines_among number parts ++ lines_among (number + length parts) more
lines_among-append number [] more = let same : number ≡ number + 0 = omega arith in ap (λ n. lines_among n more) same
lines_among-append number (part ∷ parts) more =
    let place : number + 1 + length parts ≡ number + suc (length parts) = omega arith in
    lines_among-cons number part (parts ++ more)
    ∙ ap (λ ls. kept (record { number = number; bytes = part }) ++ ls) (lines_among-append (number + 1) parts more)
    ∙ sym (append_assoc (kept (record { number = number; bytes = part })) (lines_among (number + 1) parts) (lines_among (number + 1 + length parts) more))
    ∙ ap (λ ls. ls ++ lines_among (number + 1 + length parts) more) (sym (lines_among-cons number part parts))
    ∙ ap (λ n. lines_among number (part ∷ parts) ++ lines_among n more) place

-- a line in front is found
front_found : (number : ℕ) (bytes behind : List ℕ) → All (λ b. is_line_feed b ≡ false) bytes → IsLineEnd behind → has_more_than_blanks bytes ≡ true → Contains (lines_among number (slice_split is_line_feed (bytes ++ behind))) (record { number = number; bytes = bytes })
front_found number bytes behind one ends more = at ends
  where
    line : Line
    line = record { number = number; bytes = bytes }

    among : (parts : List (List ℕ)) → Contains (lines_among number (bytes ∷ parts)) line
    among parts = subst (λ ls. Contains ls line) (sym (lines_among-cons number bytes parts)) (subst (λ b. Contains (cond b (line ∷ []) [] ++ lines_among (number + 1) parts) line) (sym more) (Contains-head line (lines_among (number + 1) parts)))

    at : IsLineEnd behind → Contains (lines_among number (slice_split is_line_feed (bytes ++ behind))) line
    at (inl none) = subst (λ parts. Contains (lines_among number parts) line) (sym (ap (λ bs. slice_split is_line_feed (bytes ++ bs)) none ∙ ap (slice_split is_line_feed) (append-nil bytes) ∙ slice_split_none is_line_feed bytes one)) (among [])
    at (inr h) = subst (λ parts. Contains (lines_among number parts) line) (sym (ap (λ bs. slice_split is_line_feed (bytes ++ bs)) h.1 ∙ slice_split_at is_line_feed bytes line_feed h.0 one refl)) (among (slice_split is_line_feed h.0))

-- a line is found wherever it stands
line_found : (text : List ℕ) (line : Line) → IsLine text line → Contains (lines_of text) line
unfolding lines_at
line_found text line is = at is.begins
  where
    at : IsLineStart is.before → Contains (lines_among 1 (slice_split is_line_feed text)) line
    at (inl none) =
        let here : text ≡ line.bytes ++ is.behind = is.parts ∙ ap (λ bs. bs ++ line.bytes ++ is.behind) none in
        let number : line.number ≡ 1 = is.number ∙ ap (λ bs. count_by is_line_feed bs + 1) none in
        subst (λ n. Contains (lines_among 1 (slice_split is_line_feed text)) (record { number = n; bytes = line.bytes })) (sym number)
        (subst (λ bs. Contains (lines_among 1 (slice_split is_line_feed bs)) (record { number = 1; bytes = line.bytes })) (sym here) (front_found 1 line.bytes is.behind is.one is.ends is.more))
    at (inr h) =
        let here : text ≡ h.0 ++ line_feed ∷ (line.bytes ++ is.behind) = is.parts ∙ ap (λ bs. bs ++ line.bytes ++ is.behind) h.1 ∙ append_assoc (h.0 ++ line_feed ∷ []) line.bytes is.behind ∙ append_assoc h.0 (line_feed ∷ []) (line.bytes ++ is.behind) in
        let number : line.number ≡ 1 + length (slice_split is_line_feed h.0) = is.number ∙ ap (λ bs. count_by is_line_feed bs + 1) h.1 ∙ ap (λ n. n + 1) (count_append h.0 (line_feed ∷ [])) ∙ omega (arith, length-slice_split is_line_feed h.0) in
        let split = slice_split-append is_line_feed h.0 line_feed (line.bytes ++ is.behind) refl in
        subst (λ n. Contains (lines_among 1 (slice_split is_line_feed text)) (record { number = n; bytes = line.bytes })) (sym number)
        (subst (λ ls. Contains ls (record { number = 1 + length (slice_split is_line_feed h.0); bytes = line.bytes })) (sym (ap (λ bs. lines_among 1 (slice_split is_line_feed bs)) here ∙ ap (lines_among 1) split ∙ lines_among-append 1 (slice_split is_line_feed h.0) (slice_split is_line_feed (line.bytes ++ is.behind))))
        (Contains-append_right (lines_among 1 (slice_split is_line_feed h.0)) _ _ (front_found (1 + length (slice_split is_line_feed h.0)) line.bytes is.behind is.one is.ends is.more)))

-- the lines that are found are those of the text
are_lines : (text : List ℕ) → AreLines text (lines_of text)
are_lines text = let b = found (length text) text [] text (omega arith) refl (inl refl) in record { lines = b.lines; every = line_found text; ascending = b.ascending }

only_lines : (text : List ℕ) (all others : List Line) → AreLines text all → AreLines text others → all ≡ others
only_lines text all others are are' =
    same_by_members (λ (l : Line). l.number) all others are.ascending are'.ascending
    (λ l h. are'.every l (All-contains (IsLine text) all l are.lines h))
    (λ l h. are.every l (All-contains (IsLine text) others l are'.lines h))

pub lines_unique : LinesAreUnique
lines_unique text all = (λ are. only_lines text all (lines_of text) are (are_lines text), λ same. subst (AreLines text) (sym same) (are_lines text))
