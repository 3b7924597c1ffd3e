-- An interval is read exactly where it is one, and so is a key column.
use Rattle.std.proofs.Common.{◌≡◌, ℕ, true, false, cond, List, [], ◌∷◌, ◌++◌, length, take, get_or, Some, Ok, Err, Result, refl, sym, ap, subst, ◌∙◌, inl, inr, ◌⊎◌, arith, length-append}
use Rattle.std.specs.declared.option.Option.{Option}
use Rattle.std.proofs.Math.Seq.{take-append_seam, get_or-append_seam}
use Rattle.cell_values.specs.declared.kind.Kind.TheVariants.{Scalar}
use Rattle.text_base.specs.Results.{◌>>=◌}
use Rattle.text_base.proofs.Callers.{bool_cases, result_cases, ok_is, err_is, head_is, tail_is, bind_gives, bind_fails}
use Rattle.lookup_table.specs.declared.key.KeyRange.{KeyRange}
use Rattle.lookup_table.specs.declared.fault.TableKind.{TableKind}
use Rattle.lookup_table.specs.declared.fault.TableKind.TheVariants as kinds
use Rattle.lookup_table.specs.Columns.{comma}
use Rattle.lookup_table.specs.Keys.{begins_interval, bound_in, Interval, Writes, IsFirst, IsLast, IsKey, Number, Between}
use Rattle.lookup_table.specs.Faults.{IsOutOfRange, KeyFault, NoInterval, NoNumber, BadBound}
use Rattle.lookup_table.specs.inside.Reading.{number_read, bound_or, first_of, last_of, halves_of, interval_read, between_read, alone, key_read}
use Rattle.lookup_table.proofs.KeyLaws.{number_gives, number_is, number_fails, number_refused, bound_or_gives, bound_or_fails, word_at, first_gives, first_is, first_fails, first_out, last_gives, last_is, last_fails, last_out, Halves, halves_is, halves_give, halves_fail}

-- a column with brackets
abbrev pub bracketed : ℕ → List ℕ → ℕ → List ℕ
bracketed opening inner closing = opening ∷ (inner ++ closing ∷ [])

-- ---- what an interval writes, by its inner text

-- what stands between the brackets
inner_is : (opening : ℕ) (inner : List ℕ) (closing : ℕ) (interval : Interval) → (w : Writes (bracketed opening inner closing) interval) → (opening ≡ interval.opening) × (inner ≡ w.low_text ++ comma ∷ w.high_text) × (closing ≡ interval.closing)
inner_is opening inner closing interval w =
    let both = snoc_is inner (w.low_text ++ comma ∷ w.high_text) closing interval.closing (tail_is _ _ _ _ w.parts) in
    (head_is _ _ _ _ w.parts, both.0, both.1)
  where
    snoc_is : (xs ys : List ℕ) (x y : ℕ) → xs ++ x ∷ [] ≡ ys ++ y ∷ [] → (xs ≡ ys) × (x ≡ y)
    snoc_is [] [] x y e = (refl, head_is _ _ _ _ e)
    snoc_is [] (b ∷ ys) x y e = absurd (let n = ap length e in omega (arith, n, length-append ys (y ∷ [])))
    snoc_is (a ∷ xs) [] x y e = absurd (let n = ap length e in omega (arith, n, length-append xs (x ∷ [])))
    snoc_is (a ∷ xs) (b ∷ ys) x y e =
        let more = snoc_is xs ys x y (tail_is _ _ _ _ e) in
        let first : a ≡ b = head_is _ _ _ _ e in
        (cc, more.1)

writes_halves : (opening : ℕ) (inner : List ℕ) (closing : ℕ) (interval : Interval) → (w : Writes (bracketed opening inner closing) interval) → Halves inner w.low_text w.high_text
writes_halves opening inner closing interval w = record { parts = (inner_is opening inner closing interval w).1; first = w.first_comma }

-- ---- the chain of an interval

abbrev pub range_of : ℕ → Option (List ℕ) → Option (List ℕ) → ℕ → Result KeyRange TableKind
range_of opening low high closing = first_of opening low >>= λ first. last_of closing high >>= λ last. Ok (record { first = first; last = last })

with_bounds : (opening : ℕ) (inner : List ℕ) (closing : ℕ) (low_text high_text : List ℕ) (low high : Option (List ℕ)) → halves_of inner ≡ Ok (low_text, high_text) → bound_in low_text ≡ Some low → bound_in high_text ≡ Some high
    → interval_read opening inner closing ≡ range_of opening low high closing
unfolding interval_read
with_bounds opening inner closing low_text high_text low high halves at_low at_high =
    ap (λ r. r >>= λ h. bound_or (bound_in h.0) >>= λ l. bound_or (bound_in h.1) >>= λ u. range_of opening l u closing) halves
    ∙ ap (λ o. bound_or o >>= λ l. bound_or (bound_in high_text) >>= λ u. range_of opening l u closing) at_low
    ∙ ap (λ o. bound_or o >>= λ u. range_of opening low u closing) at_high

-- an interval that is written, by its range
written : (opening : ℕ) (inner : List ℕ) (closing : ℕ) (interval : Interval) → Writes (bracketed opening inner closing) interval → interval_read opening inner closing ≡ range_of interval.opening interval.low interval.high interval.closing
written opening inner closing interval w =
    let parts = inner_is opening inner closing interval w in
    with_bounds opening inner closing w.low_text w.high_text interval.low interval.high (halves_is inner w.low_text w.high_text (writes_halves opening inner closing interval w)) w.low w.high
    ∙ ap (λ n. range_of n interval.low interval.high closing) parts.0
    ∙ ap (λ n. range_of interval.opening interval.low interval.high n) parts.2

-- an interval and its range
record Read (column : List ℕ) (range : KeyRange) : Type 0 where
  interval : Interval
  writes : Writes column interval
  first : IsFirst interval.opening interval.low range.first
  last : IsLast interval.closing interval.high range.last

interval_gives : (opening : ℕ) (inner : List ℕ) (closing : ℕ) (range : KeyRange) → interval_read opening inner closing ≡ Ok range → Read (bracketed opening inner closing) range
unfolding interval_read
interval_gives opening inner closing range e =
    bind_gives (halves_of inner) _ range e (λ halves cut e1.
    bind_gives (bound_or (bound_in halves.0)) _ range e1 (λ low at_low e2.
    bind_gives (bound_or (bound_in halves.1)) _ range e2 (λ high at_high e3.
    bind_gives (first_of opening low) _ range e3 (λ first is_first e4.
    bind_gives (last_of closing high) _ range e4 (λ last is_last e5.
    let is : record { first = first; last = last } ≡ range = ok_is _ _ e5 in
    let h = halves_give inner halves cut in
    let interval : Interval = record { opening = opening; low = low; high = high; closing = closing } in
    let writes : Writes (bracketed opening inner closing) interval = record {
      low_text = halves.0;
      high_text = halves.1;
      parts = ap (λ (xs : List ℕ). opening ∷ (xs ++ closing ∷ [])) h.parts;
      first_comma = h.first;
      low = bound_or_gives _ _ at_low;
      high = bound_or_gives _ _ at_high;
    } in
    subst (Read (bracketed opening inner closing)) is (record { interval = interval; writes = writes; first = first_gives opening low first is_first; last = last_gives closing high last is_last }))))))

-- why an interval is not read
data Unread (column : List ℕ) (fault : TableKind) : Type 0 where
  Malformed : ((interval : Interval) → Writes column interval → ⊥) → fault ≡ kinds.BadInterval → Unread column fault
  Out : (interval : Interval) → Writes column interval → IsOutOfRange interval.low ⊎ IsOutOfRange interval.high → fault ≡ kinds.Range → Unread column fault

interval_fails : (opening : ℕ) (inner : List ℕ) (closing : ℕ) (fault : TableKind) → interval_read opening inner closing ≡ Err fault → Unread (bracketed opening inner closing) fault
unfolding interval_read
interval_fails opening inner closing fault e =
    bind_fails (halves_of inner) _ fault e
    (λ cut. let no_comma = halves_fail inner fault cut in Malformed (λ interval w. let gives = halves_is inner w.low_text w.high_text (writes_halves opening inner closing interval w) in absurd (cc)) no_comma.0)
    (λ halves cut e1.
    let same : (interval : Interval) (w : Writes (bracketed opening inner closing) interval) → (w.low_text, w.high_text) ≡ halves = λ interval w. ok_is _ _ (sym (halves_is inner w.low_text w.high_text (writes_halves opening inner closing interval w)) ∙ cut) in
    bind_fails (bound_or (bound_in halves.0)) _ fault e1
    (λ bad. let none = bound_or_fails _ fault bad in
    Malformed (λ interval w. let low : bound_in halves.0 ≡ Some interval.low = ap (λ (h : List ℕ × List ℕ). bound_in h.0) (sym (same interval w)) ∙ w.low in absurd (let n = none.0 in cc)) none.1)
    (λ low at_low e2. bind_fails (bound_or (bound_in halves.1)) _ fault e2
    (λ bad. let none = bound_or_fails _ fault bad in
    Malformed (λ interval w. let high : bound_in halves.1 ≡ Some interval.high = ap (λ (h : List ℕ × List ℕ). bound_in h.1) (sym (same interval w)) ∙ w.high in absurd (let n = none.0 in cc)) none.1)
    (λ high at_high e3.
    let h = halves_give inner halves cut in
    let low_is : bound_in halves.0 ≡ Some low = bound_or_gives _ _ at_low in
    let high_is : bound_in halves.1 ≡ Some high = bound_or_gives _ _ at_high in
    let interval : Interval = record { opening = opening; low = low; high = high; closing = closing } in
    let writes : Writes (bracketed opening inner closing) interval = record {
      low_text = halves.0;
      high_text = halves.1;
      parts = ap (λ (xs : List ℕ). opening ∷ (xs ++ closing ∷ [])) h.parts;
      first_comma = h.first;
      low = low_is;
      high = high_is;
    } in
    bind_fails (first_of opening low) _ fault e3
    (λ bad. let out = first_fails opening low fault (word_at halves.0 low low_is) bad in Out interval writes (inl out.1) out.0)
    (λ first is_first e4. bind_fails (last_of closing high) _ fault e4
    (λ bad. let out = last_fails closing high fault (word_at halves.1 high high_is) bad in Out interval writes (inr out.1) out.0)
    (λ last is_last e5. absurd (cc))))))

interval_is : (opening : ℕ) (inner : List ℕ) (closing : ℕ) (range : KeyRange) (interval : Interval) → Writes (bracketed opening inner closing) interval → IsFirst interval.opening interval.low range.first → IsLast interval.closing interval.high range.last
    → interval_read opening inner closing ≡ Ok range
interval_is opening inner closing range interval w first last =
    written opening inner closing interval w
    ∙ ap (λ r. r >>= λ f. last_of interval.closing interval.high >>= λ l. Ok (record { first = f; last = l })) (first_is interval.opening interval.low range.first first)
    ∙ ap (λ r. r >>= λ l. Ok (record { first = range.first; last = l })) (last_is interval.closing interval.high range.last last)

interval_out : (opening : ℕ) (inner : List ℕ) (closing : ℕ) (interval : Interval) → Writes (bracketed opening inner closing) interval → IsOutOfRange interval.low ⊎ IsOutOfRange interval.high → interval_read opening inner closing ≡ Err kinds.Range
interval_out opening inner closing interval w out = written opening inner closing interval w ∙ by_side out
  where
    by_side : IsOutOfRange interval.low ⊎ IsOutOfRange interval.high → range_of interval.opening interval.low interval.high interval.closing ≡ Err kinds.Range
    by_side (inl low) = ap (λ r. r >>= λ f. last_of interval.closing interval.high >>= λ l. Ok (record { first = f; last = l })) (first_out interval.opening interval.low low)
    by_side (inr high) =
        result_cases (first_of interval.opening interval.low)
        (λ f is. ap (λ r. r >>= λ x. last_of interval.closing interval.high >>= λ l. Ok (record { first = x; last = l })) is ∙ ap (λ r. r >>= λ l. Ok (record { first = f; last = l })) (last_out interval.closing interval.high high))
        (λ g bad. ap (λ r. r >>= λ x. last_of interval.closing interval.high >>= λ l. Ok (record { first = x; last = l })) bad
        ∙ ap (λ (k : TableKind). Err k) (first_fails interval.opening interval.low g (word_at w.low_text interval.low w.low) bad).0)

interval_malformed : (opening : ℕ) (inner : List ℕ) (closing : ℕ) → ((interval : Interval) → Writes (bracketed opening inner closing) interval → ⊥) → interval_read opening inner closing ≡ Err kinds.BadInterval
interval_malformed opening inner closing none =
    result_cases (interval_read opening inner closing)
    (λ range is. let r = interval_gives opening inner closing range is in absurd (none r.interval r.writes))
    (λ g bad. bad ∙ ap (λ (k : TableKind). Err k) (by_why g (interval_fails opening inner closing g bad)))
  where
    by_why : (g : TableKind) → Unread (bracketed opening inner closing) g → g ≡ kinds.BadInterval
    by_why g (Malformed bad is) = is
    by_why g (Out interval w out is) = absurd (none interval w)

-- ---- key columns

-- a column with at least a bracket on each side
between_is : (opening : ℕ) (inner : List ℕ) (closing : ℕ) → between_read (bracketed opening inner closing) ≡ interval_read opening inner closing
between_is opening [] closing = refl
between_is opening (x ∷ xs) closing =
    let len : length (xs ++ closing ∷ []) ≡ length (x ∷ xs) = omega (arith, length-append xs (closing ∷ [])) in
    ap (λ n. interval_read opening (take n (x ∷ (xs ++ closing ∷ []))) (get_or (x ∷ (xs ++ closing ∷ [])) n 0)) len
    ∙ ap (λ (ys : List ℕ). interval_read opening ys (get_or (x ∷ (xs ++ closing ∷ [])) (length (x ∷ xs)) 0)) (take-append_seam (x ∷ xs) (closing ∷ []))
    ∙ ap (interval_read opening (x ∷ xs)) (get_or-append_seam (x ∷ xs) closing [] 0)

-- a column that begins an interval: a bracket alone, or one with more behind it
data Begun (column : List ℕ) : Type 0 where
  Alone : (b : ℕ) → column ≡ b ∷ [] → Begun column
  Bracketed : (opening : ℕ) (inner : List ℕ) (closing : ℕ) → column ≡ bracketed opening inner closing → Begun column

-- a list with an element has a last one
data Ended (xs : List ℕ) : Type 0 where
  Last : (front : List ℕ) (x : ℕ) → xs ≡ front ++ x ∷ [] → Ended xs

ended : (x : ℕ) (xs : List ℕ) → Ended (x ∷ xs)
ended x [] = Last [] x refl
ended x (y ∷ ys) = more (ended y ys)
  where
    more : Ended (y ∷ ys) → Ended (x ∷ y ∷ ys)
    more (Last front z is) = Last (x ∷ front) z (ap (λ zs. x ∷ zs) is)

begun : (column : List ℕ) → begins_interval column ≡ true → Begun column
begun [] h = absurd (cc)
begun (b ∷ []) h = Alone b refl
begun (b ∷ c ∷ bytes) h = by_end (ended c bytes)
  where
    by_end : Ended (c ∷ bytes) → Begun (b ∷ c ∷ bytes)
    by_end (Last front x is) = Bracketed b front x (ap (λ zs. b ∷ zs) is)

read_begun : (column : List ℕ) → begins_interval column ≡ true → key_read column ≡ between_read column
unfolding key_read
read_begun column h = ap (λ b. cond b (between_read column) (number_read Scalar column >>= λ z. Ok (alone z))) h

read_number : (column : List ℕ) → begins_interval column ≡ false → key_read column ≡ (number_read Scalar column >>= λ z. Ok (alone z))
unfolding key_read
read_number column h = ap (λ b. cond b (between_read column) (number_read Scalar column >>= λ z. Ok (alone z))) h

-- a bracket alone writes no interval
alone_writes : (b : ℕ) (interval : Interval) → Writes (b ∷ []) interval → ⊥
alone_writes b interval w = let n = ap length w.parts in omega (arith, n, length-append (w.low_text ++ comma ∷ w.high_text) (interval.closing ∷ []))

pub key_gives : (column : List ℕ) (range : KeyRange) → key_read column ≡ Ok range → IsKey column range
key_gives column range e =
    bool_cases (begins_interval column)
    (λ opens. by_form opens (begun column opens) (sym (read_begun column opens) ∙ e))
    (λ fails. bind_gives (number_read Scalar column) _ range (sym (read_number column fails) ∙ e)
    (λ z is e1. Number z fails (number_gives Scalar column z is) (sym (ok_is _ _ e1))))
  where
    by_form : begins_interval column ≡ true → Begun column → between_read column ≡ Ok range → IsKey column range
    by_form opens (Alone b is) h = let fails : between_read column ≡ Err kinds.BadInterval = ap between_read is in absurd (cc)
    by_form opens (Bracketed opening inner closing is) h =
        let r = interval_gives opening inner closing range (sym (between_is opening inner closing) ∙ ap between_read (sym is) ∙ h) in
        Between r.interval opens (subst (λ (c : List ℕ). Writes c r.interval) (sym is) r.writes) r.first r.last

pub key_is : (column : List ℕ) (range : KeyRange) → IsKey column range → key_read column ≡ Ok range
key_is column range (Number z fails is same) =
    read_number column fails ∙ ap (λ r. r >>= λ y. Ok (alone y)) (number_is Scalar column z is) ∙ ap (λ (r : KeyRange). Ok r) (sym same)
key_is column range (Between interval opens writes first last) = read_begun column opens ∙ by_form (begun column opens)
  where
    by_form : Begun column → between_read column ≡ Ok range
    by_form (Alone b is) = absurd (alone_writes b interval (subst (λ (c : List ℕ). Writes c interval) is writes))
    by_form (Bracketed opening inner closing is) =
        ap between_read is ∙ between_is opening inner closing
        ∙ interval_is opening inner closing range interval (subst (λ (c : List ℕ). Writes c interval) is writes) first last

pub key_fails : (column : List ℕ) (fault : TableKind) → key_read column ≡ Err fault → KeyFault column fault
key_fails column fault e =
    bool_cases (begins_interval column)
    (λ opens. by_form opens (begun column opens) (sym (read_begun column opens) ∙ e))
    (λ fails. bind_fails (number_read Scalar column) _ fault (sym (read_number column fails) ∙ e)
    (λ bad. let w = number_fails Scalar column fault bad in NoNumber w.why fails w.refused w.is)
    (λ z is e1. absurd (cc)))
  where
    by_why : begins_interval column ≡ true → Unread column fault → KeyFault column fault
    by_why opens (Malformed none is) = NoInterval opens none is
    by_why opens (Out interval writes out is) = BadBound interval opens writes out is

    by_form : begins_interval column ≡ true → Begun column → between_read column ≡ Err fault → KeyFault column fault
    by_form opens (Alone b is) h =
        NoInterval opens (λ interval writes. alone_writes b interval (subst (λ (c : List ℕ). Writes c interval) is writes)) (err_is _ _ (sym h ∙ ap between_read is))
    by_form opens (Bracketed opening inner closing is) h =
        by_why opens (subst (λ (c : List ℕ). Unread c fault) (sym is) (interval_fails opening inner closing fault (sym (between_is opening inner closing) ∙ ap between_read (sym is) ∙ h)))

pub key_refused : (column : List ℕ) (fault : TableKind) → KeyFault column fault → key_read column ≡ Err fault
key_refused column fault (NoNumber why fails refused is) =
    read_number column fails ∙ ap (λ r. r >>= λ y. Ok (alone y)) (number_refused Scalar column why refused) ∙ ap (λ (k : TableKind). Err k) (sym is)
key_refused column fault (NoInterval opens none is) = read_begun column opens ∙ by_form (begun column opens) ∙ ap (λ (k : TableKind). Err k) (sym is)
  where
    by_form : Begun column → between_read column ≡ Err kinds.BadInterval
    by_form (Alone b same) = ap between_read same
    by_form (Bracketed opening inner closing same) =
        ap between_read same ∙ between_is opening inner closing
        ∙ interval_malformed opening inner closing (λ interval writes. none interval (subst (λ (c : List ℕ). Writes c interval) (sym same) writes))
key_refused column fault (BadBound interval opens writes out is) = read_begun column opens ∙ by_form (begun column opens) ∙ ap (λ (k : TableKind). Err k) (sym is)
  where
    by_form : Begun column → between_read column ≡ Err kinds.Range
    by_form (Alone b same) = absurd (alone_writes b interval (subst (λ (c : List ℕ). Writes c interval) same writes))
    by_form (Bracketed opening inner closing same) =
        ap between_read same ∙ between_is opening inner closing
        ∙ interval_out opening inner closing interval (subst (λ (c : List ℕ). Writes c interval) same writes) out
