-- What a text gives is its tree, or its first fault, and nothing else is.
use Rattle.std.proofs.Common.{◌≡◌, ℕ, Bool, true, false, List, [], ◌∷◌, ◌++◌, Option, Some, None, Result, Ok, Err, refl, sym, ◌∙◌, ap, subst, inl, inr, append_assoc, append-nil}
use Rattle.std.specs.Prelude.{◌⊎◌, ◌||◌, if◌then◌else◌}
use Rattle.text_base.proofs.Callers.{some_is}
use Rattle.script_syntax.specs.declared.fault.SyntaxKind.{SyntaxKind}
use Rattle.script_syntax.specs.declared.fault.SyntaxKind.TheVariants as kinds
use Rattle.script_syntax.specs.declared.fault.SyntaxFault.{SyntaxFault}
use Rattle.script_syntax.specs.declared.token.Token.{Token}
use Rattle.script_syntax.specs.declared.tree.Script.{Script}
use Rattle.script_syntax.specs.declared.counts.Counts.{Counts}
use Rattle.script_syntax.specs.declared.place.Mode.TheVariants.{Bindings}
use Rattle.script_syntax.specs.declared.place.Place.{Place}
use Rattle.script_syntax.specs.declared.scanner.Placed.{Placed}
use Rattle.script_syntax.specs.declared.reading.Reading.{Reading}
use Rattle.script_syntax.specs.Editions.{asks_mean}
use Rattle.script_syntax.specs.Grammar.{Derives}
use Rattle.script_syntax.specs.Listed.{is_long, is_bad_timer, is_entry_too_many, is_statement_too_many, is_large, listed_by, listed, counts_behind, IsClean}
use Rattle.script_syntax.specs.Places.{first_place}
use Rattle.script_syntax.specs.Tokens.{Ending, Whole, Byte, Scanned, AreScriptTokens}
use Rattle.script_syntax.specs.Faults.{tokens_of, place_after_token, end_from, end_place, fault_place, HasListed, HasRefused, HasEnd, IsFault, IsFirstSyntaxFault, IsExact}
use Rattle.script_syntax.specs.inside.Counting.{counts_after}
use Rattle.script_syntax.specs.inside.Readings.{new_reading, reading_step, finish}
use Rattle.script_syntax.specs.inside.Runs.{done, went_onward, go}
use Rattle.script_syntax.specs.inside.Scanning.{scan}
use Rattle.script_syntax.specs.inside.Reading.{syntax_fault_at, tree_or_end, at_end, listed_or, step_at, and_then, read_from, read_scanned, tree_by_tokens, in_edition, tree_of}
use Rattle.script_syntax.proofs.CountLaws.{counts_of-more}
use Rattle.script_syntax.proofs.ScanLaws.{tokens_one, tokens_are}
use Rattle.script_syntax.proofs.Viable.{done_viable, done_derives, derives_done, go-append, stuck_dead, viable_done}

-- ---- lists

tokens_of-append : (xs ys : List Placed) → tokens_of (xs ++ ys) ≡ tokens_of xs ++ tokens_of ys
tokens_of-append [] ys = refl
tokens_of-append (x ∷ xs) ys = ap (λ (ts : List Token). x.token ∷ ts) (tokens_of-append xs ys)

end_from-append : (p : Place) (xs : List Placed) (x : Placed) → end_from p (xs ++ x ∷ []) ≡ place_after_token x
end_from-append p [] x = refl
end_from-append p (y ∷ xs) x = end_from-append (place_after_token y) xs x

-- a place in a list with one more: the last, or one before
record IsLast (xs front back : List Token) (t u : Token) : Type 0 where
  same_front : front ≡ xs
  same : u ≡ t

record IsBefore (xs front back : List Token) (u : Token) : Type 0 where
  more : List Token
  is : xs ≡ front ++ u ∷ more

last_rest : (x : Token) (xs : List Token) (f : Token) (front back : List Token) (t u : Token) → x ≡ f → IsLast xs front back t u ⊎ IsBefore xs front back u → IsLast (x ∷ xs) (f ∷ front) back t u ⊎ IsBefore (x ∷ xs) (f ∷ front) back u
last_rest x xs f front back t u h (inl l) = inl (record { same_front = ap (λ (c : Token). c ∷ front) (sym h) ∙ ap (λ (ts : List Token). x ∷ ts) l.same_front; same = l.same })
last_rest x xs f front back t u h (inr b) = inr (record { more = b.more; is = ap (λ (c : Token). c ∷ xs) h ∙ ap (λ (ts : List Token). f ∷ ts) b.is })

split_last : (xs front back : List Token) (t u : Token) → xs ++ t ∷ [] ≡ front ++ u ∷ back → IsLast xs front back t u ⊎ IsBefore xs front back u
split_last [] [] back t u e = inl (record { same_front = refl; same = cc })
split_last [] (f ∷ []) back t u e = absurd cc
split_last [] (f ∷ g ∷ front) back t u e = absurd cc
split_last (x ∷ xs) [] back t u e = inr (record { more = xs; is = ap (λ (c : Token). c ∷ xs) cc })
split_last (x ∷ xs) (f ∷ front) back t u e =
    let heads : x ≡ f = cc in
    let tails : xs ++ t ∷ [] ≡ front ++ u ∷ back = cc in
    last_rest x xs f front back t u heads (split_last xs front back t u tails)

clean_at : (xs : List Token) (t : Token) (front back : List Token) (u : Token) → IsClean xs → listed xs t ≡ None → IsLast xs front back t u ⊎ IsBefore xs front back u → listed front u ≡ None
clean_at xs t front back u clean h (inl l) = ap (λ (f : List Token). listed f u) l.same_front ∙ (ap (listed xs) l.same ∙ h)
clean_at xs t front back u clean h (inr b) = clean front b.more u b.is

-- one more token without a fault of its own
clean_more : (xs : List Token) (t : Token) → IsClean xs → listed xs t ≡ None → IsClean (xs ++ t ∷ [])
clean_more xs t clean h = λ front back u e. clean_at xs t front back u clean h (split_last xs front back t u e)

-- ---- the faults of the list

-- which faults these are
abbrev IsOwn : SyntaxKind → Type 0
IsOwn kinds.Byte = ⊥
IsOwn kinds.Token = ⊥
IsOwn kinds.End = ⊥
IsOwn kinds.Long = Unit {0}
IsOwn kinds.Many = Unit {0}
IsOwn kinds.Large = Unit {0}
IsOwn kinds.Number = Unit {0}

own_by : (a b c d : Bool) (kind : SyntaxKind) → (if a then Some kinds.Long else (if b then Some kinds.Number else (if c then Some kinds.Many else (if d then Some kinds.Large else None)))) ≡ Some kind → IsOwn kind
own_by true b c d kind e = subst IsOwn (some_is kinds.Long kind e) tt
own_by false true c d kind e = subst IsOwn (some_is kinds.Number kind e) tt
own_by false false true d kind e = subst IsOwn (some_is kinds.Many kind e) tt
own_by false false false true kind e = subst IsOwn (some_is kinds.Large kind e) tt
own_by false false false false kind e = absurd cc

listed_own : (c : Counts) (t : Token) (kind : SyntaxKind) → listed_by c t ≡ Some kind → IsOwn kind
listed_own c t kind e = own_by (is_long t) (is_bad_timer c.timer t) (is_entry_too_many c t || is_statement_too_many c t) (is_large c t) kind e

own_fault : (kind : SyntaxKind) (front back : List Placed) (ending : Ending) (place : Place) → IsOwn kind → HasListed front back kind place → IsFault front back ending kind place
own_fault kinds.Byte front back ending place o h = absurd o
own_fault kinds.Token front back ending place o h = absurd o
own_fault kinds.End front back ending place o h = absurd o
own_fault kinds.Long front back ending place o h = h
own_fault kinds.Many front back ending place o h = h
own_fault kinds.Large front back ending place o h = h
own_fault kinds.Number front back ending place o h = h

-- ---- what is given is exact

-- what holds of what is given behind a front
abbrev IsGiven : List Placed → List Placed → Ending → Result Script SyntaxFault → Type 0
IsGiven front back ending (Ok tree) = (ending ≡ Whole) × Derives (tokens_of (front ++ back)) tree × IsClean (tokens_of (front ++ back))
IsGiven front back ending (Err f) = IsFirstSyntaxFault (record { tokens = front ++ back; ending = ending }) f

given_end : (o : Option Script) (front : List Placed) (r : Reading) → go new_reading (tokens_of front) ≡ done r → IsClean (tokens_of front) → finish r ≡ o → IsGiven front [] Whole (tree_or_end o (end_place front))
given_end (Some tree) front r e clean f =
    let d = done_derives (tokens_of front) r tree e f in (
      refl,
      subst (λ (ts : List Placed). Derives (tokens_of ts) tree) (sym (append-nil front)) d,
      subst (λ (ts : List Placed). IsClean (tokens_of ts)) (sym (append-nil front)) clean,
    )
given_end None front r e clean f = record {
  front = front;
  back = [];
  parts = refl;
  before = done_viable (tokens_of front) r e;
  clean = clean;
  here = record {
    none = refl;
    whole = refl;
    is_at = refl;
    no_script = λ tree d. (let x = derives_done (tokens_of front) tree d in let g = x.goes in let same : x.reading ≡ r = done_is x.reading r (sym g ∙ e) in let h = ap finish (sym same) ∙ x.finishes in cc);
  };
}
  where
    done_is : (a b : Reading) → done a ≡ done b → a ≡ b
    done_is a b h = cc

given_last : (ending : Ending) (front : List Placed) (r : Reading) → go new_reading (tokens_of front) ≡ done r → IsClean (tokens_of front) → IsGiven front [] ending (at_end r (end_place front) ending)
given_last Whole front r e clean = given_end (finish r) front r e clean refl
given_last (Byte place) front r e clean = record {
  front = front;
  back = [];
  parts = refl;
  before = done_viable (tokens_of front) r e;
  clean = clean;
  here = (refl, refl);
}

-- a token with a fault of its own
given_listed : (kind : SyntaxKind) (t : Placed) (ts front : List Placed) (ending : Ending) (r : Reading) → go new_reading (tokens_of front) ≡ done r → IsClean (tokens_of front) → listed (tokens_of front) t.token ≡ Some kind → IsGiven front (t ∷ ts) ending (Err (syntax_fault_at t.place kind))
given_listed kind t ts front ending r e clean h = record {
  front = front;
  back = t ∷ ts;
  parts = refl;
  before = done_viable (tokens_of front) r e;
  clean = clean;
  here = own_fault kind front (t ∷ ts) ending t.place (listed_own (counts_behind (tokens_of front)) t.token kind h) (record { token = t; rest = ts; stands = refl; is_at = refl; is = h });
}

-- a token with which the front begins no script
given_refused : (t : Placed) (ts front : List Placed) (ending : Ending) (r : Reading) → go new_reading (tokens_of front) ≡ done r → IsClean (tokens_of front) → listed (tokens_of front) t.token ≡ None → reading_step r t.token ≡ None → IsGiven front (t ∷ ts) ending (Err (syntax_fault_at t.place kinds.Token))
given_refused t ts front ending r e clean h step = record {
  front = front;
  back = t ∷ ts;
  parts = refl;
  before = done_viable (tokens_of front) r e;
  clean = clean;
  here = record {
    token = t;
    rest = ts;
    stands = refl;
    is_at = refl;
    clean = h;
    dead = stuck_dead (tokens_of front ++ t.token ∷ []) (t.token ∷ []) (go-append (tokens_of front) (t.token ∷ []) new_reading r e ∙ ap (λ (o : Option Reading). went_onward o (t.token ∷ []) (λ n. go n [])) step);
  };
}

read_step : (r : Reading) (c : Counts) (end : Place) (t : Placed) (ts : List Placed) (ending : Ending) (o : Option SyntaxKind) (n : Option Reading) → listed_by c t.token ≡ o → reading_step r t.token ≡ n → read_from r c end (t ∷ ts) ending ≡ and_then (listed_or o t.place n) (λ next. read_from next (counts_after c t.token) (place_after_token t) ts ending)
unfolding step_at
read_step r c end t ts ending o n h k =
    ap (λ (p : Option SyntaxKind). and_then (listed_or p t.place (reading_step r t.token)) (λ next. read_from next (counts_after c t.token) (place_after_token t) ts ending)) h
    ∙ ap (λ (m : Option Reading). and_then (listed_or o t.place m) (λ next. read_from next (counts_after c t.token) (place_after_token t) ts ending)) k

-- the front with one more token
record IsFront (front : List Placed) (t : Placed) (r n : Reading) : Type 0 where
  goes : go new_reading (tokens_of (front ++ t ∷ [])) ≡ done n
  clean : IsClean (tokens_of (front ++ t ∷ []))
  counts : counts_behind (tokens_of (front ++ t ∷ [])) ≡ counts_after (counts_behind (tokens_of front)) t.token
  end : end_place (front ++ t ∷ []) ≡ place_after_token t

front_more : (front : List Placed) (t : Placed) (r n : Reading) → go new_reading (tokens_of front) ≡ done r → IsClean (tokens_of front) → listed (tokens_of front) t.token ≡ None → reading_step r t.token ≡ Some n → IsFront front t r n
front_more front t r n e clean h step =
    let same : tokens_of (front ++ t ∷ []) ≡ tokens_of front ++ t.token ∷ [] = tokens_of-append front (t ∷ []) in
    record {
      goes = ap (go new_reading) same ∙ (go-append (tokens_of front) (t.token ∷ []) new_reading r e ∙ ap (λ (o : Option Reading). went_onward o (t.token ∷ []) (λ n. go n [])) step);
      clean = subst IsClean (sym same) (clean_more (tokens_of front) t.token clean h);
      counts = ap counts_behind same ∙ counts_of-more (tokens_of front) t.token;
      end = end_from-append first_place front t;
    }

-- the same behind one more token
given_more : (t : Placed) (ts front : List Placed) (ending : Ending) (o : Result Script SyntaxFault) → IsGiven (front ++ t ∷ []) ts ending o → IsGiven front (t ∷ ts) ending o
given_more t ts front ending (Ok tree) g =
    let same = append_assoc front (t ∷ []) ts in (
      g.0,
      subst (λ (us : List Placed). Derives (tokens_of us) tree) same g.1,
      subst (λ (us : List Placed). IsClean (tokens_of us)) same g.2,
    )
given_more t ts front ending (Err f) g = record {
  front = g.front;
  back = g.back;
  parts = sym (append_assoc front (t ∷ []) ts) ∙ g.parts;
  before = g.before;
  clean = g.clean;
  here = g.here;
}

given_step : (k : Option SyntaxKind) (o : Option Reading) (t : Placed) (ts front : List Placed) (ending : Ending) (r : Reading) → go new_reading (tokens_of front) ≡ done r → IsClean (tokens_of front) → listed (tokens_of front) t.token ≡ k → reading_step r t.token ≡ o → ((f : List Placed) (n : Reading) → go new_reading (tokens_of f) ≡ done n → IsClean (tokens_of f) → IsGiven f ts ending (read_from n (counts_behind (tokens_of f)) (end_place f) ts ending)) → IsGiven front (t ∷ ts) ending (and_then (listed_or k t.place o) (λ next. read_from next (counts_after (counts_behind (tokens_of front)) t.token) (place_after_token t) ts ending))
given_step (Some kind) o t ts front ending r e clean h step next = given_listed kind t ts front ending r e clean h
given_step None None t ts front ending r e clean h step next = given_refused t ts front ending r e clean h step
given_step None (Some n) t ts front ending r e clean h step next =
    let f = front_more front t r n e clean h step in
    let g = next (front ++ t ∷ []) n f.goes f.clean in
    let same : read_from n (counts_behind (tokens_of (front ++ t ∷ []))) (end_place (front ++ t ∷ [])) ts ending ≡ read_from n (counts_after (counts_behind (tokens_of front)) t.token) (place_after_token t) ts ending =
    ap (λ (c : Counts). read_from n c (end_place (front ++ t ∷ [])) ts ending) f.counts ∙ ap (λ (p : Place). read_from n (counts_after (counts_behind (tokens_of front)) t.token) p ts ending) f.end in
    given_more t ts front ending _ (subst (λ (u : Result Script SyntaxFault). IsGiven (front ++ t ∷ []) ts ending u) same g)

given : (ts front : List Placed) (ending : Ending) (r : Reading) → go new_reading (tokens_of front) ≡ done r → IsClean (tokens_of front) → IsGiven front ts ending (read_from r (counts_behind (tokens_of front)) (end_place front) ts ending)
given [] front ending r e clean = given_last ending front r e clean
given (t ∷ ts) front ending r e clean =
    subst (λ (u : Result Script SyntaxFault). IsGiven front (t ∷ ts) ending u) (sym (read_step r (counts_behind (tokens_of front)) (end_place front) t ts ending (listed (tokens_of front) t.token) (reading_step r t.token) refl refl))
    (given_step (listed (tokens_of front) t.token) (reading_step r t.token) t ts front ending r e clean refl refl (λ f n g c. given ts f ending n g c))

clean_none : IsClean []
clean_none = λ front back t e. no_empty front back t e
  where
    no_empty : (front back : List Token) (t : Token) → [] ≡ front ++ t ∷ back → listed front t ≡ None
    no_empty [] back t e = absurd cc
    no_empty (f ∷ front) back t e = absurd cc

-- tokens derive no other edition than the first
first_edition : (ts : List Token) (tree : Script) → Derives ts tree → Derives ts (record tree { mean = false })
first_edition ts tree d = record { form = d.form; tokens_of = d.tokens_of; tree_of = ap (λ (t : Script). record t { mean = false }) d.tree_of }

exact_by : (text : List ℕ) (s : Scanned) (o : Result Script SyntaxFault) → AreScriptTokens text s → IsGiven [] s.tokens s.ending o → IsExact text (in_edition (asks_mean text) o)
exact_by text s (Ok tree) a g = record { scanned = s; tokens = a; whole = g.0; derives = first_edition (tokens_of s.tokens) tree g.1; mean = refl; clean = g.2 }
exact_by text s (Err f) a g = record { scanned = s; tokens = a; first = record { front = g.front; back = g.back; parts = g.parts; before = g.before; clean = g.clean; here = g.here } }

-- what a text gives is exact
pub tree_of-exact : (text : List ℕ) → IsExact text (tree_of text)
unfolding tree_of tree_by_tokens read_scanned
tree_of-exact text =
    let s = scan text 0 Bindings first_place in
    exact_by text s (read_from new_reading (counts_behind []) first_place s.tokens s.ending) (tokens_are text) (given s.tokens [] s.ending new_reading refl clean_none)

-- ---- and nothing else is

-- tokens that are taken and have no faults of their own are read
passes : (front1 front0 back : List Placed) (r0 r : Reading) (ending : Ending) → go new_reading (tokens_of front0) ≡ done r0 → go r0 (tokens_of front1) ≡ done r → IsClean (tokens_of (front0 ++ front1)) → read_from r0 (counts_behind (tokens_of front0)) (end_place front0) (front1 ++ back) ending ≡ read_from r (counts_behind (tokens_of (front0 ++ front1))) (end_place (front0 ++ front1)) back ending
passes [] front0 back r0 r ending e g clean =
    let same : r0 ≡ r = done_same r0 r g in
    ap (λ (x : Reading). read_from x (counts_behind (tokens_of front0)) (end_place front0) back ending) same
    ∙ ap (λ (f : List Placed). read_from r (counts_behind (tokens_of f)) (end_place f) back ending) (sym (append-nil front0))
  where
    done_same : (a b : Reading) → done a ≡ done b → a ≡ b
    done_same a b h = cc
passes (t ∷ front1) front0 back r0 r ending e g clean =
    by_step (reading_step r0 t.token) t front1 front0 back r0 r ending e refl g clean (λ f n a b c. passes front1 f back n r ending a b c)
  where
    by_step : (o : Option Reading) (t : Placed) (front1 front0 back : List Placed) (r0 r : Reading) (ending : Ending) → go new_reading (tokens_of front0) ≡ done r0 → reading_step r0 t.token ≡ o → went_onward o (t.token ∷ tokens_of front1) (λ n. go n (tokens_of front1)) ≡ done r → IsClean (tokens_of (front0 ++ t ∷ front1))
        → ((f : List Placed) (n : Reading) → go new_reading (tokens_of f) ≡ done n → go n (tokens_of front1) ≡ done r → IsClean (tokens_of (f ++ front1)) → read_from n (counts_behind (tokens_of f)) (end_place f) (front1 ++ back) ending ≡ read_from r (counts_behind (tokens_of (f ++ front1))) (end_place (f ++ front1)) back ending)
        → read_from r0 (counts_behind (tokens_of front0)) (end_place front0) (t ∷ (front1 ++ back)) ending ≡ read_from r (counts_behind (tokens_of (front0 ++ t ∷ front1))) (end_place (front0 ++ t ∷ front1)) back ending
    by_step None t front1 front0 back r0 r ending e step g clean next = absurd cc
    by_step (Some n) t front1 front0 back r0 r ending e step g clean next =
        let same = append_assoc front0 (t ∷ []) front1 in
        let h : listed (tokens_of front0) t.token ≡ None = clean (tokens_of front0) (tokens_of front1) t.token (tokens_of-append front0 (t ∷ front1)) in
        let c0 : IsClean (tokens_of front0) = front_clean front0 t front1 clean in
        let f = front_more front0 t r0 n e c0 h step in
        let clean1 : IsClean (tokens_of ((front0 ++ t ∷ []) ++ front1)) = subst (λ (us : List Placed). IsClean (tokens_of us)) (sym same) clean in
        read_step r0 (counts_behind (tokens_of front0)) (end_place front0) t (front1 ++ back) ending None (Some n) h step
        ∙ (ap (λ (c : Counts). read_from n c (place_after_token t) (front1 ++ back) ending) (sym f.counts)
        ∙ (ap (λ (p : Place). read_from n (counts_behind (tokens_of (front0 ++ t ∷ []))) p (front1 ++ back) ending) (sym f.end)
        ∙ (next (front0 ++ t ∷ []) n f.goes g clean1
        ∙ ap (λ (us : List Placed). read_from r (counts_behind (tokens_of us)) (end_place us) back ending) same)))
      where
        front_clean : (front0 : List Placed) (t : Placed) (front1 : List Placed) → IsClean (tokens_of (front0 ++ t ∷ front1)) → IsClean (tokens_of front0)
        front_clean front0 t front1 clean = λ front back u e. clean front (back ++ t.token ∷ tokens_of front1) u (tokens_of-append front0 (t ∷ front1) ∙ (ap (λ (ts : List Token). ts ++ t.token ∷ tokens_of front1) e ∙ append_assoc front (u ∷ back) (t.token ∷ tokens_of front1)))

-- what a front that is taken leads to
at_front : (front back : List Placed) (r : Reading) (ending : Ending) → go new_reading (tokens_of front) ≡ done r → IsClean (tokens_of front) → read_from new_reading (counts_behind []) first_place (front ++ back) ending ≡ read_from r (counts_behind (tokens_of front)) (end_place front) back ending
at_front front back r ending e clean = passes front [] back new_reading r ending refl e clean

listed_here : (kind : SyntaxKind) (front back : List Placed) (r : Reading) (ending : Ending) (place : Place) → HasListed front back kind place → read_from r (counts_behind (tokens_of front)) (end_place front) back ending ≡ Err (syntax_fault_at place kind)
listed_here kind front back r ending place h =
    ap (λ (b : List Placed). read_from r (counts_behind (tokens_of front)) (end_place front) b ending) h.stands
    ∙ (read_step r (counts_behind (tokens_of front)) (end_place front) h.token h.rest ending (Some kind) (reading_step r h.token.token) h.is refl
    ∙ ap (λ (p : Place). Err (syntax_fault_at p kind)) (sym h.is_at))

refused_here : (o : Option Reading) (front back : List Placed) (r : Reading) (ending : Ending) (place : Place) (h : HasRefused front back place) → go new_reading (tokens_of front) ≡ done r → reading_step r h.token.token ≡ o → read_from r (counts_behind (tokens_of front)) (end_place front) back ending ≡ Err (syntax_fault_at place kinds.Token)
refused_here None front back r ending place h e step =
    ap (λ (b : List Placed). read_from r (counts_behind (tokens_of front)) (end_place front) b ending) h.stands
    ∙ (read_step r (counts_behind (tokens_of front)) (end_place front) h.token h.rest ending None None h.clean step
    ∙ ap (λ (p : Place). Err (syntax_fault_at p kinds.Token)) (sym h.is_at))
refused_here (Some n) front back r ending place h e step =
    absurd (h.dead (done_viable (tokens_of front ++ h.token.token ∷ []) n (go-append (tokens_of front) (h.token.token ∷ []) new_reading r e ∙ ap (λ (o : Option Reading). went_onward o (h.token.token ∷ []) (λ n. go n [])) step)))

end_here : (o : Option Script) (front back : List Placed) (r : Reading) (ending : Ending) (place : Place) → HasEnd front back ending place → go new_reading (tokens_of front) ≡ done r → finish r ≡ o → read_from r (counts_behind (tokens_of front)) (end_place front) back ending ≡ Err (syntax_fault_at place kinds.End)
end_here None front back r ending place h e f =
    ap (λ (b : List Placed). read_from r (counts_behind (tokens_of front)) (end_place front) b ending) h.none
    ∙ (ap (at_end r (end_place front)) h.whole
    ∙ (ap (λ (x : Option Script). tree_or_end x (end_place front)) f
    ∙ ap (λ (p : Place). Err (syntax_fault_at p kinds.End)) (sym h.is_at)))
end_here (Some tree) front back r ending place h e f = absurd (h.no_script tree (done_derives (tokens_of front) r tree e f))

fault_here : (kind : SyntaxKind) (front back : List Placed) (r : Reading) (ending : Ending) (place : Place) → IsFault front back ending kind place → go new_reading (tokens_of front) ≡ done r → read_from r (counts_behind (tokens_of front)) (end_place front) back ending ≡ Err (syntax_fault_at place kind)
fault_here kinds.Byte front back r ending place h e =
    ap (λ (b : List Placed). read_from r (counts_behind (tokens_of front)) (end_place front) b ending) h.0
    ∙ ap (at_end r (end_place front)) h.1
fault_here kinds.Token front back r ending place h e = refused_here (reading_step r h.token.token) front back r ending place h e refl
fault_here kinds.End front back r ending place h e = end_here (finish r) front back r ending place h e refl
fault_here kinds.Long front back r ending place h e = listed_here kinds.Long front back r ending place h
fault_here kinds.Many front back r ending place h e = listed_here kinds.Many front back r ending place h
fault_here kinds.Large front back r ending place h e = listed_here kinds.Large front back r ending place h
fault_here kinds.Number front back r ending place h e = listed_here kinds.Number front back r ending place h

-- what is exact is what the text gives
pub exact_is : (text : List ℕ) (o : Result Script SyntaxFault) → IsExact text o → tree_of text ≡ o
unfolding tree_of tree_by_tokens read_scanned
exact_is text (Ok tree) h =
    let s = h.scanned in
    let same = tokens_one text s h.tokens in
    let d = derives_done (tokens_of s.tokens) (record tree { mean = false }) h.derives in
    ap (in_edition (asks_mean text)) (ap (λ (c : Scanned). read_from new_reading (counts_behind []) first_place c.tokens c.ending) (sym same)
    ∙ (ap (λ (ts : List Placed). read_from new_reading (counts_behind []) first_place ts s.ending) (sym (append-nil s.tokens))
    ∙ (at_front s.tokens [] d.reading s.ending d.goes h.clean
    ∙ (ap (at_end d.reading (end_place s.tokens)) h.whole
    ∙ ap (λ (x : Option Script). tree_or_end x (end_place s.tokens)) d.finishes))))
    ∙ ap (λ (mean : Bool). Ok (record tree { mean = mean })) (sym h.mean)
exact_is text (Err f) h =
    let s = h.scanned in
    let first = h.first in
    let same = tokens_one text s h.tokens in
    let v = viable_done (tokens_of first.front) first.before in
    ap (in_edition (asks_mean text)) (ap (λ (c : Scanned). read_from new_reading (counts_behind []) first_place c.tokens c.ending) (sym same)
    ∙ (ap (λ (ts : List Placed). read_from new_reading (counts_behind []) first_place ts s.ending) first.parts
    ∙ (at_front first.front first.back v.reading s.ending v.goes first.clean
    ∙ fault_here f.kind first.front first.back v.reading s.ending (fault_place f) first.here v.goes)))

pub exact_one : (text : List ℕ) (a b : Result Script SyntaxFault) → IsExact text a → IsExact text b → a ≡ b
exact_one text a b h k = sym (exact_is text a h) ∙ exact_is text b k
