-- A head is read exactly where it is one, and its fault is told.
use Rattle.std.proofs.Common.{◌≡◌, ℕ, zero, suc, ◌<◌, Bool, true, false, cond, List, [], ◌∷◌, ◌++◌, length, Some, None, Ok, Err, refl, sym, ap, subst, ◌∙◌, arith, length-append}
use Rattle.std.specs.Prelude.{nat_le}
use Rattle.std.specs.declared.option.Option.{Option}
use Rattle.std.specs.Option.{option_and_then}
use Rattle.std.proofs.lemmas.Bool.{and_parts, leb-true}
use Rattle.text_base.specs.Lines.{Line}
use Rattle.text_base.specs.Numbers.{whole_number_of}
use Rattle.text_base.specs.Results.{◌>>=◌}
use Rattle.text_base.proofs.Callers.{option_cases, bool_cases, ok_is, err_is, some_is, head_is, tail_is, bind_gives, bind_fails}
use Rattle.time_series.specs.declared.fault.SeriesFault.{SeriesFault}
use Rattle.time_series.specs.Words.{line_words, are_decimals, column_number, column_count}
use Rattle.time_series.specs.Form.{HasRows, Bare, Headed}
use Rattle.time_series.specs.Faults.{title_at, SeriesHeadFault, Empty, TitleAlone, NoCount, FewNames}
use Rattle.time_series.specs.inside.Reading.{behind_names, sized, headed, head_read}

-- ---- names

record Passed (n : ℕ) (lines rows : List Line) : Type 0 where
  names : List Line
  parts : lines ≡ names ++ rows
  count : length names ≡ n

names_give : (n last : ℕ) (lines rows : List Line) → behind_names n last lines ≡ Ok rows → Passed n lines rows
unfolding behind_names
names_give zero last lines rows e = subst (Passed zero lines) (ok_is _ _ e) (record { names = []; parts = refl; count = refl })
names_give (suc n) last [] rows e = absurd (cc)
names_give (suc n) last (line ∷ lines) rows e =
    let p = names_give n line.number lines rows e in
    record { names = line ∷ p.names; parts = ap (λ ls. line ∷ ls) p.parts; count = ap suc p.count }

names_are : (n last : ℕ) (names rows : List Line) → length names ≡ n → behind_names n last (names ++ rows) ≡ Ok rows
unfolding behind_names
names_are zero last [] rows count = refl
names_are zero last (name ∷ names) rows count = absurd (omega arith)
names_are (suc n) last [] rows count = absurd (omega arith)
names_are (suc n) last (name ∷ names) rows count = names_are n name.number names rows (omega arith)

-- the lines end too early, behind a line
record TooFew (n : ℕ) (lead : Line) (lines : List Line) (fault : SeriesFault) : Type 0 where
  front : List Line
  last : Line
  few : length lines < n
  parts : lead ∷ lines ≡ front ++ last ∷ []
  is : fault ≡ title_at last.number

names_fail : (n : ℕ) (lead : Line) (lines : List Line) (fault : SeriesFault) → behind_names n lead.number lines ≡ Err fault → TooFew n lead lines fault
unfolding behind_names
names_fail zero lead lines fault e = absurd (cc)
names_fail (suc n) lead [] fault e = record { front = []; last = lead; few = omega arith; parts = refl; is = sym (err_is _ _ e) }
names_fail (suc n) lead (line ∷ lines) fault e =
    let f = names_fail n line lines fault e in
    record { front = lead ∷ f.front; last = f.last; few = let h = f.few in omega arith; parts = ap (λ ls. lead ∷ ls) f.parts; is = f.is }

names_few : (n : ℕ) (lead last : Line) (lines front : List Line) → length lines < n → lead ∷ lines ≡ front ++ last ∷ [] → behind_names n lead.number lines ≡ Err (title_at last.number)
unfolding behind_names
names_few zero lead last lines front few parts = absurd (omega arith)
names_few (suc n) lead last [] [] few parts = ap (λ (l : Line). Err (title_at l.number)) (head_is _ _ _ _ parts)
names_few (suc n) lead last [] (x ∷ xs) few parts = absurd (let m = ap (λ (ls : List Line). length ls) parts in omega (arith, m, length-append xs (last ∷ [])))
names_few (suc n) lead last (line ∷ lines) [] few parts = absurd (let m = ap (λ (ls : List Line). length ls) parts in omega arith)
names_few (suc n) lead last (line ∷ lines) (x ∷ xs) few parts = names_few n line last lines xs (omega arith) (tail_is _ _ _ _ parts)

-- ---- heads

behind_title : (title : Line) (more : List Line) → are_decimals (line_words title.bytes) ≡ false → head_read (title ∷ more) ≡ headed title.number more
unfolding head_read
behind_title title more fails = ap (λ b. cond b (Ok (length (line_words title.bytes), title ∷ more)) (headed title.number more)) fails

without_title : (first : Line) (more : List Line) → are_decimals (line_words first.bytes) ≡ true → head_read (first ∷ more) ≡ Ok (length (line_words first.bytes), first ∷ more)
unfolding head_read
without_title first more bare = ap (λ b. cond b (Ok (length (line_words first.bytes), first ∷ more)) (headed first.number more)) bare

behind_size : (number : ℕ) (size : Line) (more : List Line) (width : ℕ) → column_count (line_words size.bytes) ≡ Some width → headed number (size ∷ more) ≡ (behind_names width size.number more >>= λ rows. Ok (width, rows))
unfolding headed
behind_size number size more width is = ap (sized size.number more) is

no_size : (number : ℕ) (size : Line) (more : List Line) → column_count (line_words size.bytes) ≡ None → headed number (size ∷ more) ≡ Err (title_at size.number)
unfolding headed
no_size number size more is = ap (sized size.number more) is

pub head_gives : (lines : List Line) (found : ℕ × List Line) → head_read lines ≡ Ok found → HasRows lines found.0 found.1
unfolding head_read headed
head_gives [] found e = absurd (cc)
head_gives (first ∷ more) found e =
    bool_cases (are_decimals (line_words first.bytes))
    (λ bare.
    let same : (length (line_words first.bytes), first ∷ more) ≡ found = ok_is _ _ (sym (without_title first more bare) ∙ e) in
    subst (λ (x : ℕ × List Line). HasRows (first ∷ more) x.0 x.1) same (Bare first more refl bare refl refl))
    (λ fails. by_size fails more (sym (behind_title first more fails) ∙ e))
  where
    by_size : are_decimals (line_words first.bytes) ≡ false → (rest : List Line) → headed first.number rest ≡ Ok found → HasRows (first ∷ rest) found.0 found.1
    by_size fails [] h = absurd (cc)
    by_size fails (size ∷ rest) h =
        option_cases (column_count (line_words size.bytes))
        (λ none. let bad = no_size first.number size rest none in absurd (cc))
        (λ width is.
        bind_gives (behind_names width size.number rest) _ found (sym (behind_size first.number size rest width is) ∙ h) (λ rows there e2.
        let p = names_give width size.number rest rows there in
        subst (λ (x : ℕ × List Line). HasRows (first ∷ size ∷ rest) x.0 x.1) (ok_is _ _ e2)
        (Headed first size p.names (ap (λ ls. first ∷ size ∷ ls) p.parts) fails is p.count)))

pub head_is_read : (lines : List Line) (width : ℕ) (rows : List Line) → HasRows lines width rows → head_read lines ≡ Ok (width, rows)
head_is_read lines width rows (Bare first more parts bare count same) =
    ap head_read parts ∙ without_title first more bare
    ∙ ap (λ (n : ℕ). Ok (n, first ∷ more)) (sym count) ∙ ap (λ (ls : List Line). Ok (width, ls)) (sym (same ∙ parts))
head_is_read lines width rows (Headed title size names parts fails is count) =
    ap head_read parts ∙ behind_title title (size ∷ (names ++ rows)) fails ∙ behind_size title.number size (names ++ rows) width is
    ∙ ap (λ r. r >>= λ ls. Ok (width, ls)) (names_are width size.number names rows count)

pub head_fails : (lines : List Line) (fault : SeriesFault) → head_read lines ≡ Err fault → SeriesHeadFault lines fault
unfolding head_read headed
head_fails [] fault e = Empty refl (sym (err_is _ _ e))
head_fails (first ∷ more) fault e =
    bool_cases (are_decimals (line_words first.bytes))
    (λ bare. let good = without_title first more bare in absurd (cc))
    (λ fails. by_size fails more (sym (behind_title first more fails) ∙ e))
  where
    by_size : are_decimals (line_words first.bytes) ≡ false → (rest : List Line) → headed first.number rest ≡ Err fault → SeriesHeadFault (first ∷ rest) fault
    by_size fails [] h = TitleAlone first refl fails (sym (err_is _ _ h))
    by_size fails (size ∷ rest) h =
        option_cases (column_count (line_words size.bytes))
        (λ none. NoCount first size rest refl fails none (err_is _ _ (sym h ∙ no_size first.number size rest none)))
        (λ width is.
        bind_fails (behind_names width size.number rest) _ fault (sym (behind_size first.number size rest width is) ∙ h)
        (λ bad.
        let f = names_fail width size rest fault bad in
        FewNames first size f.last rest (first ∷ f.front) width refl fails is f.few (ap (λ ls. first ∷ ls) f.parts) f.is)
        (λ rows there e2. absurd (cc)))

pub head_refused : (lines : List Line) (fault : SeriesFault) → SeriesHeadFault lines fault → head_read lines ≡ Err fault
unfolding head_read headed
head_refused lines fault (Empty none is) = ap head_read none ∙ ap (λ (f : SeriesFault). Err f) (sym is)
head_refused lines fault (TitleAlone title parts fails is) = ap head_read parts ∙ behind_title title [] fails ∙ ap (λ (f : SeriesFault). Err f) (sym is)
head_refused lines fault (NoCount title size more parts fails none is) =
    ap head_read parts ∙ behind_title title (size ∷ more) fails ∙ no_size title.number size more none ∙ ap (λ (f : SeriesFault). Err f) (sym is)
head_refused lines fault (FewNames title size last names front width parts fails count few end is) =
    ap head_read parts ∙ behind_title title (size ∷ names) fails ∙ behind_size title.number size names width count
    ∙ ap (λ r. r >>= λ ls. Ok (width, ls)) (by_front front (sym parts ∙ end)) ∙ ap (λ (f : SeriesFault). Err f) (sym is)
  where
    by_front : (before : List Line) → title ∷ size ∷ names ≡ before ++ last ∷ [] → behind_names width size.number names ≡ Err (title_at last.number)
    by_front [] e = absurd (let m = ap (λ (ls : List Line). length ls) e in omega arith)
    by_front (x ∷ xs) e = names_few width size last names xs few (tail_is _ _ _ _ e)

-- a row has columns
number_some : (o : Option ℕ) (width : ℕ) → option_and_then column_number o ≡ Some width → 0 < width
number_some None width e = absurd (cc)
number_some (Some n) width e =
    bool_cases (nat_le 2 n)
    (λ enough. let same : n ≡ width = some_is _ _ (sym (ap (λ (b : Bool). cond b (Some n) None) enough) ∙ e) in let h = leb-true 2 n enough in omega arith)
    (λ few. let none : None ≡ Some width = sym (ap (λ (b : Bool). cond b (Some n) None) few) ∙ e in absurd (cc))

count_some : (words : List (List ℕ)) (width : ℕ) → column_count words ≡ Some width → 0 < width
count_some [] width e = absurd (cc)
count_some (word ∷ []) width e = number_some (whole_number_of 7 word) width e
count_some (word ∷ other ∷ more) width e = absurd (cc)

pub width_some : (lines rows : List Line) (width : ℕ) → HasRows lines width rows → 0 < width
width_some lines rows width (Bare first more parts bare count same) =
    let enough = leb-true 2 (length (line_words first.bytes)) (and_parts (nat_le 2 (length (line_words first.bytes))) _ bare).0 in
    omega arith
width_some lines rows width (Headed title size names parts fails is count) = count_some (line_words size.bytes) width is
