-- A text has one list of tokens.
use Rattle.std.proofs.Common.{◌≡◌, ℕ, zero, suc, ◌+◌, ◌-◌, ◌<◌, ◌≤◌, ◌⊎◌, true, false, List, [], ◌∷◌, length, get_or, take, drop, refl, sym, ap, ◌∙◌, subst, inl, inr, arith}
use Rattle.std.specs.Prelude.{slice_range}
use Rattle.std.specs.List.{All, AllPairs, Any, Contains, list_all, prefix_len}
use Rattle.std.proofs.lemmas.Bool.{cases_lt, not-true, not-false, not_from_false}
use Rattle.std.proofs.lemmas.List.{get_or-drop, get_or-take, drop_more, drop_all, drop-drop, length-drop, length-take-le}
use Rattle.std.proofs.lemmas.List.Elements.{All-nil, All-cons, All-contains, All-weaker}
use Rattle.std.proofs.lemmas.List.Kept.{AllPairs-cons}
use Rattle.std.proofs.lemmas.List.Sums.{list_all-from_AllPass, prefix_len_passes, prefix_len_stops, prefix_len-le-length, prefix_len-drop_yes}
use Rattle.text_base.specs.Bytes.{is_blank}
use Rattle.text_base.specs.Tokens.{Token, place_behind, Covers, IsRun, AreTokens, ends_token, tokens_at, tokens, TokensAreUnique}
use Rattle.text_base.specs.inside.Steps.{is_token_byte}
use Rattle.text_base.specs.Tokens.{IsEmptyOrToken}
use Rattle.text_base.proofs.Callers.{bool_cases, tokens_at-blank, tokens_at-token}
use Rattle.text_base.proofs.Members.{Any-head, Any-tail, same_by_members}

-- ---- runs

-- a byte of a run is no blank
inside : (text : List ℕ) (t : Token) (place : ℕ) → IsRun text t → Covers place t → is_blank (get_or text place 0) ≡ false
inside text t place run covers =
    let i : ℕ = place - t.at in
    let at : t.at + i ≡ place = omega (arith, covers.0) in
    let within : i < length t.bytes = omega (arith, covers.0, covers.1) in
    let span : place_behind t - t.at ≡ length t.bytes = omega arith in
    let here : get_or t.bytes i 0 ≡ get_or text place 0 =
    ap (λ (bytes : List ℕ). get_or bytes i 0) (sym run.stands)
    ∙ get_or-take (place_behind t - t.at) (drop t.at text) i 0 (omega (arith, within, span))
    ∙ get_or-drop t.at text i 0
    ∙ ap (λ n. get_or text n 0) at in
    ap is_blank (sym here) ∙ run.no_blank i 0 within

-- two runs that share a place: the first does not begin behind the second
begins_before : (text : List ℕ) (a b : Token) (place : ℕ) → IsRun text a → IsRun text b → Covers place a → Covers place b → a.at ≤ b.at
begins_before text a b place run run' covers covers' =
    elim (cases_lt b.at a.at) [
      | inr le ↦ le
      | inl lt ↦ absurd (
          let some : 0 < a.at = omega (arith, lt) in
          let no : is_blank (get_or text (a.at - 1) 0) ≡ false = inside text b (a.at - 1) run' (omega (arith, lt), omega (arith, lt, covers.0, covers'.1)) in
          let yes = run.begins some in
          cc)
    ]

-- and does not end before it, where they begin together
ends_behind : (text : List ℕ) (a b : Token) → IsRun text a → IsRun text b → a.at ≡ b.at → place_behind b ≤ place_behind a
ends_behind text a b run run' same =
    elim (cases_lt (place_behind a) (place_behind b)) [
      | inr le ↦ le
      | inl lt ↦ absurd (
          let in' = run'.within in
          let yes = run.ends (omega (arith, lt, in')) in
          let no : is_blank (get_or text (place_behind a) 0) ≡ false = inside text b (place_behind a) run' (omega (arith, same), lt) in
          cc)
    ]

-- two runs that share a place are one
same_run : (text : List ℕ) (a b : Token) (place : ℕ) → IsRun text a → IsRun text b → Covers place a → Covers place b → a ≡ b
same_run text a b place run run' covers covers' =
    let le = begins_before text a b place run run' covers covers' in
    let ge = begins_before text b a place run' run covers' covers in
    let at : a.at ≡ b.at = omega (arith, le, ge) in
    let e = ends_behind text a b run run' at in
    let e' = ends_behind text b a run' run (sym at) in
    let end : place_behind a ≡ place_behind b = omega (arith, e, e') in
    let bytes : a.bytes ≡ b.bytes = sym run.stands ∙ ap (λ n. slice_range text n (place_behind a)) at ∙ ap (λ n. slice_range text b.at n) end ∙ run'.stands in
    let one : a ≡ record { at = b.at; bytes = a.bytes } = ap (λ n. let t : Token = record { at = n; bytes = a.bytes } in t) at in
    one ∙ ap (λ (bs : List ℕ). let t : Token = record { at = b.at; bytes = bs } in t) bytes

-- each run is among the tokens
run_among : (text : List ℕ) (all : List Token) (t : Token) → AreTokens text all → IsRun text t → Contains all t
run_among text all t are run =
    let some = run.some in
    let within = run.within in
    let covers : Covers t.at t = (omega arith, omega (arith, some)) in
    let no = inside text t t.at run covers in
    elim (are.rest t.at (omega (arith, some, within))) [
      | inl blank ↦ absurd (cc)
      | inr h ↦
          let among : Contains all h.1 = (h.0, h.2, h.3) in
          let same : h.1 ≡ t = same_run text h.1 t t.at (All-contains (IsRun text) all h.1 are.runs among) run h.4 covers in
          subst (Contains all) same among
    ]

-- there is one list
pub only_tokens : (text : List ℕ) (all others : List Token) → AreTokens text all → AreTokens text others → all ≡ others
only_tokens text all others are are' =
    same_by_members (λ (t : Token). t.at) all others are.ascending are'.ascending
    (λ t h. run_among text others t are' (All-contains (IsRun text) all t are.runs h))
    (λ t h. run_among text all t are (All-contains (IsRun text) others t are'.runs h))

-- ---- the tokens that are found

-- The tokens of a text from a place on: runs of it, by ascending places, and each byte from there on that is no blank is
-- in one of them.
record Behind (text : List ℕ) (start : ℕ) (all : List Token) : Type 0 where
  runs : All (IsRun text) all
  later : All (λ t. start ≤ t.at) all
  ascending : AllPairs (λ a b. a.at < b.at) all
  rest : (place : ℕ) → start ≤ place → place < length text → (is_blank (get_or text place 0) ≡ true) ⊎ Any (Covers place) all

-- there are none behind the end
behind_end : (text : List ℕ) (start : ℕ) → length text ≤ start → Behind text start []
behind_end text start le = record {
  runs = All-nil (IsRun text);
  later = All-nil (λ t. start ≤ t.at);
  ascending = λ i j d lt within. absurd (omega (arith, within));
  rest = λ place from within. absurd (omega (arith, le, from, within));
}

-- a blank is passed over
behind_blank : (text : List ℕ) (start : ℕ) (all : List Token) → is_blank (get_or text start 0) ≡ true → Behind text (start + 1) all → Behind text start all
behind_blank text start all blank behind = record {
  runs = behind.runs;
  later = All-weaker (λ (t : Token). start + 1 ≤ t.at) (λ t. start ≤ t.at) (λ t h. omega (arith, h)) all behind.later;
  ascending = behind.ascending;
  rest = λ place from within. elim (cases_lt start place) [
    | inl lt ↦ behind.rest place (omega (arith, lt)) within
    | inr le ↦ let same : start ≡ place = omega (arith, le, from) in inl (subst (λ n. is_blank (get_or text n 0) ≡ true) same blank)
  ];
}

-- a run is one more, and then a blank or the end
behind_run : (text : List ℕ) (start : ℕ) (t : Token) (all : List Token) → IsRun text t → t.at ≡ start → Behind text (place_behind t) all → Behind text start (t ∷ all)
behind_run text start t all run at behind = record {
  runs = All-cons (IsRun text) t all run behind.runs;
  later = All-cons (λ t. start ≤ t.at) t all (omega (arith, at)) (All-weaker (λ (u : Token). place_behind t ≤ u.at) (λ u. start ≤ u.at) (λ u h. omega (arith, h, at)) all behind.later);
  ascending = AllPairs-cons (λ a b. a.at < b.at) t all (let some = run.some in All-weaker (λ (u : Token). place_behind t ≤ u.at) (λ u. t.at < u.at) (λ u h. omega (arith, h, some)) all behind.later) behind.ascending;
  rest = λ place from within. elim (cases_lt place (place_behind t)) [
    | inl lt ↦ inr (Any-head (Covers place) t all (omega (arith, at, from), lt))
    | inr le ↦ or_tail place (behind.rest place le within)
  ];
}
  where
    or_tail : (place : ℕ) → (is_blank (get_or text place 0) ≡ true) ⊎ Any (Covers place) all → (is_blank (get_or text place 0) ≡ true) ⊎ Any (Covers place) (t ∷ all)
    or_tail place (inl blank) = inl blank
    or_tail place (inr h) = inr (Any-tail (Covers place) t all h)

-- how many bytes that are no blanks stand from a place on
abbrev run_len : List ℕ → ℕ → ℕ
run_len text start = prefix_len is_token_byte (drop start text)

-- the run from a place on
abbrev run_at : List ℕ → ℕ → Token
run_at text start = record { at = start; bytes = take (run_len text start) (drop start text) }

length_run : (text : List ℕ) (start : ℕ) → length (run_at text start).bytes ≡ run_len text start
length_run text start = length-take-le (run_len text start) (drop start text) (prefix_len-le-length is_token_byte (drop start text))

-- it ends within the text
run_within : (text : List ℕ) (start : ℕ) → start ≤ length text → start + run_len text start ≤ length text
run_within text start le = omega (arith, le, prefix_len-le-length is_token_byte (drop start text), length-drop start text)

-- it has a byte where no blank stands
run_some : (text : List ℕ) (start : ℕ) → start < length text → is_blank (get_or text start 0) ≡ false → 0 < run_len text start
run_some text start lt other = omega (arith, prefix_len-drop_yes is_token_byte text start 0 lt (not_from_false (is_blank (get_or text start 0)) other))

-- a blank stands behind it, or the text ends
run_stops : (text : List ℕ) (start : ℕ) → start + run_len text start < length text → is_blank (get_or text (start + run_len text start) 0) ≡ true
run_stops text start lt =
    let within : run_len text start < length (drop start text) = omega (arith, lt, length-drop start text) in
    not-false (is_blank (get_or text (start + run_len text start) 0))
    (ap is_token_byte (sym (get_or-drop start text (run_len text start) 0)) ∙ prefix_len_stops is_token_byte (drop start text) 0 within)

is_run : (text : List ℕ) (start : ℕ) → start < length text → is_blank (get_or text start 0) ≡ false → (0 < start → is_blank (get_or text (start - 1) 0) ≡ true) → IsRun text (run_at text start)
is_run text start lt other edge = record {
  within = omega (arith, length_run text start, run_within text start (omega arith));
  stands = let span : place_behind (run_at text start) - start ≡ run_len text start = omega (arith, length_run text start) in ap (λ n. take n (drop start text)) span;
  some = omega (arith, length_run text start, run_some text start lt other);
  no_blank = λ k d in'.
      let here : k < run_len text start = omega (arith, in', length_run text start) in
      not-true (is_blank (get_or (take (run_len text start) (drop start text)) k d))
      (ap is_token_byte (get_or-take (run_len text start) (drop start text) k d here) ∙ prefix_len_passes is_token_byte (drop start text) k d here);
  begins = edge;
  ends = λ behind.
      let end : place_behind (run_at text start) ≡ start + run_len text start = omega (arith, length_run text start) in
      ap (λ n. is_blank (get_or text n 0)) end ∙ run_stops text start (omega (arith, behind, end));
}

-- no token goes on behind it
run_ended : (text : List ℕ) (start : ℕ) → start ≤ length text → ends_token (drop (run_len text start) (drop start text)) ≡ true
run_ended text start le =
    rw drop-drop
    (elim (cases_lt (start + run_len text start) (length text)) [
      | inl lt ↦ rw (drop_more text (start + run_len text start) 0 lt) (run_stops text start lt)
      | inr ge ↦ rw (drop_all (start + run_len text start) text ge) refl
    ])

-- no blank is in it
run_bytes : (text : List ℕ) (start : ℕ) → list_all is_token_byte (take (run_len text start) (drop start text)) ≡ true
run_bytes text start = list_all-from_AllPass is_token_byte (take (run_len text start) (drop start text)) (λ k d in'.
    let here : k < run_len text start = omega (arith, in', length_run text start) in
    ap is_token_byte (get_or-take (run_len text start) (drop start text) k d here) ∙ prefix_len_passes is_token_byte (drop start text) k d here)

-- it is the first of the tokens that are found
first_run : (text : List ℕ) (start : ℕ) → start < length text → is_blank (get_or text start 0) ≡ false
    → tokens_at start (drop start text) ≡ run_at text start ∷ tokens_at (place_behind (run_at text start)) (drop (place_behind (run_at text start)) text)
first_run text start lt other =
    let some : 0 < length (drop start text) = omega (arith, lt, length-drop start text) in
    let begins : IsEmptyOrToken (drop start text) = subst IsEmptyOrToken (sym (drop_more text start 0 lt)) other in
    let end : start + run_len text start ≡ place_behind (run_at text start) = omega (arith, length_run text start) in
    tokens_at-token start (drop start text) (run_len text start) (prefix_len-le-length is_token_byte (drop start text)) some begins (run_bytes text start) (run_ended text start (omega arith))
    ∙ ap (λ bs. run_at text start ∷ tokens_at (start + run_len text start) bs) (drop-drop (run_len text start) start text)
    ∙ ap (λ n. run_at text start ∷ tokens_at n (drop n text)) end

-- the tokens that are found from a place on, behind a blank or at the text's edge
found : (n : ℕ) (text : List ℕ) (start : ℕ) → length text ≤ start + n → (0 < start → is_blank (get_or text (start - 1) 0) ≡ true) → Behind text start (tokens_at start (drop start text))
found zero text start enough edge = let le : length text ≤ start = omega (arith, enough) in subst (λ bytes. Behind text start (tokens_at start bytes)) (sym (drop_all start text le)) (behind_end text start le)
found (suc n) text start enough edge =
    elim (cases_lt start (length text)) [
      | inr le ↦ subst (λ bytes. Behind text start (tokens_at start bytes)) (sym (drop_all start text le)) (behind_end text start le)
      | inl lt ↦ bool_cases (is_blank (get_or text start 0))
          (λ blank. subst (λ bytes. Behind text start (tokens_at start bytes)) (sym (drop_more text start 0 lt))
          (subst (Behind text start) (sym (tokens_at-blank start (get_or text start 0) (drop (start + 1) text) blank))
          (behind_blank text start _ blank (found n text (start + 1) (omega (arith, enough)) (λ _. let same : start + 1 - 1 ≡ start = omega arith in ap (λ n. is_blank (get_or text n 0)) same ∙ blank)))))
          (λ other. let run = is_run text start lt other edge in
          subst (Behind text start) (sym (first_run text start lt other)) (behind_run text start (run_at text start) _ run refl
          (elim (cases_lt (place_behind (run_at text start)) (length text)) [
            | inr le ↦ subst (λ bytes. Behind text (place_behind (run_at text start)) (tokens_at (place_behind (run_at text start)) bytes)) (sym (drop_all (place_behind (run_at text start)) text le)) (behind_end text (place_behind (run_at text start)) le)
            | inl lt' ↦
                let end : ℕ = place_behind (run_at text start) in
                let blank = run.ends lt' in
                subst (λ bytes. Behind text end (tokens_at end bytes)) (sym (drop_more text end 0 lt'))
                (subst (Behind text end) (sym (tokens_at-blank end (get_or text end 0) (drop (end + 1) text) blank))
                (behind_blank text end _ blank (found n text (end + 1) (let some = run.some in omega (arith, enough, some)) (λ _. let same : end + 1 - 1 ≡ end = omega arith in ap (λ n. is_blank (get_or text n 0)) same ∙ blank))))
          ])))
    ]

-- the tokens that are found are those of the text
pub are_tokens : (text : List ℕ) → AreTokens text (tokens text)
are_tokens text =
    let b = found (length text) text 0 (omega arith) (λ some. absurd (omega (arith, some))) in
    record { runs = b.runs; ascending = b.ascending; rest = λ place within. b.rest place (omega arith) within }

pub tokens_unique : TokensAreUnique
tokens_unique text all = (λ are. only_tokens text all (tokens text) are (are_tokens text), λ same. subst (AreTokens text) (sym same) (are_tokens text))
