-- A text has one list of tokens, which the scanner finds.
use Rattle.std.proofs.Common.{◌≡◌, ◌≢◌, ℕ, zero, suc, ◌+◌, ◌-◌, ◌<◌, ◌≤◌, Bool, true, false, cond, not, List, [], ◌∷◌, ◌++◌, length, take, drop, Option, Some, None, refl, sym, ◌∙◌, ap, subst, arith, length-append}
use Rattle.std.specs.Prelude.{◌==◌, if◌then◌else◌}
use Rattle.std.specs.List.{list_all}
use Rattle.std.proofs.lemmas.List.{take-append-drop, length-take-le}
use Rattle.std.proofs.lemmas.List.Sums.{prefix_len-le-length}
use Rattle.std.proofs.Math.Seq.{take-append_seam, drop-append_seam}
use Rattle.std.proofs.lemmas.Bool.Decides.{nat_tests}
use Rattle.text_base.specs.Bytes.{is_blank, line_feed}
use Rattle.text_base.proofs.Callers.{some_is, bool_cases, option_cases}
use Rattle.script_syntax.specs.declared.token.Token.{Token}
use Rattle.script_syntax.specs.declared.place.Mode.{Mode}
use Rattle.script_syntax.specs.declared.place.Mode.TheVariants.{Bindings}
use Rattle.script_syntax.specs.declared.place.Place.{Place}
use Rattle.script_syntax.specs.declared.lexer.Found.{Found}
use Rattle.script_syntax.specs.declared.scanner.Placed.{Placed}
use Rattle.script_syntax.specs.declared.scanner.Scanner.{Scanner}
use Rattle.script_syntax.specs.Places.{first_place, after_byte, after_bytes}
use Rattle.script_syntax.specs.Spelling.{Spells, mode_after}
use Rattle.script_syntax.specs.Tokens.{Ending, Whole, Byte, Scanned, hash, Gap, no_gap, blank, comment, gap_on, EndsComment, is_comment_byte, IsGap, IsLongest, IsNext, IsBadByte, Ends, AreTokensFrom, AreScriptTokens}
use Rattle.script_syntax.specs.inside.Scanning.{comment_len, scanned, with_token, at_token, scan, token_at}
use Rattle.script_syntax.specs.inside.Scanner.{gap_len, scan_of}
use Rattle.script_syntax.proofs.RunLaws.{cond_true, cond_false, prefix_len-all, list_all-run}
use Rattle.script_syntax.proofs.SpellingLaws.{token_at_least, token_sound, spells_one, blank_none, hash_none, nothing_empty, no_token_empty}

-- ---- places

pub after_bytes-append : (p : Place) (xs ys : List ℕ) → after_bytes p (xs ++ ys) ≡ after_bytes (after_bytes p xs) ys
after_bytes-append p [] ys = refl
after_bytes-append p (x ∷ xs) ys = after_bytes-append (after_byte p x) xs ys

-- ---- steps of the scanner

scan_skips : (bs rest : List ℕ) (n : ℕ) (m : Mode) (p : Place) → length bs ≡ n → scan (bs ++ rest) n m p ≡ scan rest 0 m (after_bytes p bs)
scan_skips [] rest zero m p e = refl
scan_skips [] rest (suc n) m p e = absurd (omega arith)
scan_skips (b ∷ bs) rest zero m p e = absurd (omega arith)
scan_skips (b ∷ bs) rest (suc n) m p e = scan_skips bs rest n m (after_byte p b) (omega arith)

scan_blank : (b : ℕ) (bs : List ℕ) (m : Mode) (p : Place) → is_blank b ≡ true → scan (b ∷ bs) 0 m p ≡ scan bs 0 m (after_byte p b)
scan_blank b bs m p h = cond_true (is_blank b) (scan bs 0 m (after_byte p b)) _ h

scan_comment : (bs : List ℕ) (m : Mode) (p : Place) → scan (hash ∷ bs) 0 m p ≡ scan bs (comment_len bs) m (after_byte p hash)
scan_comment bs m p = refl

scan_token : (b : ℕ) (bs : List ℕ) (m : Mode) (p : Place) → is_blank b ≡ false → (b == hash) ≡ false → scan (b ∷ bs) 0 m p ≡ at_token (token_at m (b ∷ bs)) m p (λ n k. scan bs n k (after_byte p b))
scan_token b bs m p h k = cond_false (is_blank b) (scan bs 0 m (after_byte p b)) _ h ∙ cond_false (b == hash) (scan bs (comment_len bs) m (after_byte p b)) (at_token (token_at m (b ∷ bs)) m p (λ n k. scan bs n k (after_byte p b))) k

comment_ends : (rest : List ℕ) → EndsComment rest → comment_len rest ≡ 0
comment_ends [] h = refl
comment_ends (b ∷ bs) h =
    let is : not (b == line_feed) ≡ false = ap (λ (c : ℕ). not (c == line_feed)) h in
    cond_false (not (b == line_feed)) (1 + comment_len bs) 0 is

-- behind a gap the scanner goes on
scan_gap : (g : Gap) (rest : List ℕ) (m : Mode) (p : Place) → IsGap g rest → scan (gap_on g rest) 0 m p ≡ scan rest 0 m (after_bytes p (gap_on g []))
scan_gap no_gap rest m p h = refl
scan_gap (blank b g) rest m p h = scan_blank b (gap_on g rest) m p h.0 ∙ scan_gap g rest m (after_byte p b) h.1
scan_gap (comment bs g) rest m p h =
    let all : comment_len (bs ++ gap_on g rest) ≡ length bs = prefix_len-all is_comment_byte bs (gap_on g rest) h.0 ∙ (let z = comment_ends (gap_on g rest) h.1 in omega arith) in
    scan_comment (bs ++ gap_on g rest) m p
    ∙ (scan_skips bs (gap_on g rest) (comment_len (bs ++ gap_on g rest)) m (after_byte p hash) (sym all)
    ∙ (scan_gap g rest m (after_bytes (after_byte p hash) bs) h.2
    ∙ ap (λ (q : Place). scan rest 0 m q) (sym (after_bytes-append (after_byte p hash) bs (gap_on g [])))))

-- ---- the tokens are those that the scanner finds

-- the first byte of a token
no_blank_first : (m : Mode) (b : ℕ) (bs : List ℕ) (f : Found) → token_at m (b ∷ bs) ≡ Some f → is_blank b ≡ false
no_blank_first m b bs f e = bool_cases (is_blank b) (λ h. absurd (let n = blank_none m b bs h in cc)) (λ h. h)

no_hash_first : (m : Mode) (b : ℕ) (bs : List ℕ) (f : Found) → token_at m (b ∷ bs) ≡ Some f → (b == hash) ≡ false
no_hash_first m b bs f e = bool_cases (b == hash) (λ h. absurd (let same : b ≡ 35 = grind (arith, nat_tests) in let n = ap (λ (c : ℕ). token_at m (c ∷ bs)) same ∙ hash_none m bs in cc)) (λ h. h)

same_front : (xs ys more rest : List ℕ) → xs ++ more ≡ ys ++ rest → length xs ≡ length ys → xs ≡ ys
same_front [] [] more rest e l = refl
same_front [] (y ∷ ys) more rest e l = absurd (omega arith)
same_front (x ∷ xs) [] more rest e l = absurd (omega arith)
same_front (x ∷ xs) (y ∷ ys) more rest e l =
    let tails : xs ++ more ≡ ys ++ rest = cc in
    let heads : x ≡ y = cc in
    let same = same_front xs ys more rest tails (omega arith) in
    cc

-- the longest token is the one that is found
longest_found : (m : Mode) (text bytes rest : List ℕ) (t : Token) → IsLongest m text bytes rest t → token_at m text ≡ Some (record { token = t; len = length bytes })
longest_found m text bytes rest t h =
    let a = token_at_least m bytes rest t h.spells in
    ap (token_at m) h.parts ∙ by_text (bytes ++ rest) m bytes rest t a.one refl h.spells (λ others more other s e. h.longest others more other s (h.parts ∙ e)) a.is a.least
  where
    by_text : (text : List ℕ) (m : Mode) (bytes rest : List ℕ) (t : Token) (f : Found) → text ≡ bytes ++ rest → Spells m bytes t → ((others more : List ℕ) (other : Token) → Spells m others other → bytes ++ rest ≡ others ++ more → length others ≤ length bytes) → token_at m text ≡ Some f → length bytes ≤ f.len → token_at m text ≡ Some (record { token = t; len = length bytes })
    by_text [] m bytes rest t f parts spells longest e least = absurd (no_empty m f e)
      where
        no_empty : (m : Mode) (f : Found) → token_at m [] ≡ Some f → ⊥
        no_empty m f e = let n = nothing_empty m in cc
    by_text (b ∷ bs) m bytes rest t f parts spells longest e least =
        let s = token_sound m b bs f e in
        let is : bytes ++ rest ≡ (b ∷ s.more) ++ s.rest = sym parts ∙ ap (λ (ys : List ℕ). b ∷ ys) s.parts in
        let most = longest (b ∷ s.more) s.rest f.token s.spells is in
        let same = same_front bytes (b ∷ s.more) rest s.rest is (omega (arith, s.len)) in
        let token : f.token ≡ t = spells_one m bytes f.token t (subst (λ (ys : List ℕ). Spells m ys f.token) (sym same) s.spells) spells in
        let len : f.len ≡ length bytes = omega (arith, s.len) in
        e ∙ (ap (λ (u : Token). Some (record { token = u; len = f.len })) token ∙ ap (λ (n : ℕ). Some (record { token = t; len = n })) len)

-- the first token, and then the others
scan_next : (m : Mode) (q : Place) (bytes rest : List ℕ) (t : Token) → IsLongest m (bytes ++ rest) bytes rest t → scan (bytes ++ rest) 0 m q ≡ with_token (record { token = t; place = q; len = length bytes }) (scan rest 0 (mode_after m t) (after_bytes q bytes))
scan_next m q [] rest t h =
    absurd (some_long m rest t h)
  where
    some_long : (m : Mode) (rest : List ℕ) (t : Token) → IsLongest m rest [] rest t → ⊥
    some_long m rest t h = no_token_empty m t h.spells
scan_next m q (b ∷ bytes) rest t h =
    let e = longest_found m (b ∷ bytes ++ rest) (b ∷ bytes) rest t h in
    let one : length (b ∷ bytes) - 1 ≡ length bytes = omega arith in
    scan_token b (bytes ++ rest) m q (no_blank_first m b (bytes ++ rest) _ e) (no_hash_first m b (bytes ++ rest) _ e)
    ∙ (ap (λ (o : Option Found). at_token o m q (λ n k. scan (bytes ++ rest) n k (after_byte q b))) e
    ∙ (ap (λ (n : ℕ). with_token (record { token = t; place = q; len = length (b ∷ bytes) }) (scan (bytes ++ rest) n (mode_after m t) (after_byte q b))) one
    ∙ ap (λ (s : Scanned). with_token (record { token = t; place = q; len = length (b ∷ bytes) }) s) (scan_skips bytes rest (length bytes) (mode_after m t) (after_byte q b) refl)))

ends_found : (e : Ending) (m : Mode) (p : Place) (text : List ℕ) → Ends m p text e → scan text 0 m p ≡ scanned [] e
ends_found Whole m p text h = ap (λ (ys : List ℕ). scan ys 0 m p) h.parts ∙ scan_gap h.gap [] m p h.is_gap
ends_found (Byte place) m p text h =
    let q = after_bytes p (gap_on h.gap []) in
    let none : token_at m (h.byte ∷ h.rest) ≡ None = option_cases (token_at m (h.byte ∷ h.rest)) (λ n. n) (λ f e. let s = token_sound m h.byte h.rest f e in absurd (h.no_token (h.byte ∷ s.more) s.rest f.token s.spells (ap (λ (ys : List ℕ). h.byte ∷ ys) s.parts))) in
    ap (λ (ys : List ℕ). scan ys 0 m p) h.parts
    ∙ (scan_gap h.gap (h.byte ∷ h.rest) m p h.is_gap
    ∙ (scan_token h.byte h.rest m q h.no_blank h.no_comment
    ∙ (ap (λ (o : Option Found). at_token o m q (λ n k. scan h.rest n k (after_byte q h.byte))) none
    ∙ ap (λ (r : Place). scanned [] (Byte r)) (sym h.is_at))))

tokens_found : (ts : List Placed) (e : Ending) (m : Mode) (p : Place) (text : List ℕ) → AreTokensFrom m p text ts e → scan text 0 m p ≡ scanned ts e
tokens_found [] e m p text h = ends_found e m p text h
tokens_found (t ∷ ts) e m p text h =
    let n = h.0 in
    let q = after_bytes p (gap_on n.gap []) in
    let more : scan n.rest 0 (mode_after m t.token) (after_bytes t.place n.bytes) ≡ scanned ts e = tokens_found ts e (mode_after m t.token) (after_bytes t.place n.bytes) n.rest h.1 in
    ap (λ (ys : List ℕ). scan ys 0 m p) n.parts
    ∙ (scan_gap n.gap (n.bytes ++ n.rest) m p n.is_gap
    ∙ (ap (λ (r : Place). scan (n.bytes ++ n.rest) 0 m r) (sym n.place)
    ∙ (scan_next m t.place n.bytes n.rest t.token n.token
    ∙ (ap (λ (k : ℕ). with_token (record { token = t.token; place = t.place; len = k }) (scan n.rest 0 (mode_after m t.token) (after_bytes t.place n.bytes))) (sym n.len)
    ∙ ap (with_token t) more))))

-- ---- what the scanner finds are the tokens

with_blank : (ts : List Placed) (e : Ending) (m : Mode) (p : Place) (b : ℕ) (text : List ℕ) → is_blank b ≡ true → AreTokensFrom m (after_byte p b) text ts e → AreTokensFrom m p (b ∷ text) ts e
with_blank [] Whole m p b text h k = record { gap = blank b k.gap; is_gap = (h, k.is_gap); parts = ap (λ (ys : List ℕ). b ∷ ys) k.parts }
with_blank [] (Byte place) m p b text h k = record {
  gap = blank b k.gap;
  byte = k.byte;
  rest = k.rest;
  is_gap = (h, k.is_gap);
  parts = ap (λ (ys : List ℕ). b ∷ ys) k.parts;
  no_blank = k.no_blank;
  no_comment = k.no_comment;
  no_token = k.no_token;
  is_at = k.is_at;
}
with_blank (t ∷ ts) e m p b text h k =
    let n = k.0 in (
      record {
        gap = blank b n.gap;
        bytes = n.bytes;
        rest = n.rest;
        is_gap = (h, n.is_gap);
        parts = ap (λ (ys : List ℕ). b ∷ ys) n.parts;
        place = n.place;
        token = n.token;
        len = n.len;
      },
      k.1,
    )

with_comment : (ts : List Placed) (e : Ending) (m : Mode) (p : Place) (bs text : List ℕ) → list_all is_comment_byte bs ≡ true → EndsComment text → AreTokensFrom m (after_bytes (after_byte p hash) bs) text ts e → AreTokensFrom m p (hash ∷ (bs ++ text)) ts e
with_comment [] Whole m p bs text h ends k = record {
  gap = comment bs k.gap;
  is_gap = (h, subst EndsComment k.parts ends, k.is_gap);
  parts = ap (λ (ys : List ℕ). hash ∷ (bs ++ ys)) k.parts;
}
with_comment [] (Byte place) m p bs text h ends k = record {
  gap = comment bs k.gap;
  byte = k.byte;
  rest = k.rest;
  is_gap = (h, subst EndsComment k.parts ends, k.is_gap);
  parts = ap (λ (ys : List ℕ). hash ∷ (bs ++ ys)) k.parts;
  no_blank = k.no_blank;
  no_comment = k.no_comment;
  no_token = k.no_token;
  is_at = k.is_at ∙ sym (after_bytes-append (after_byte p hash) bs (gap_on k.gap []));
}
with_comment (t ∷ ts) e m p bs text h ends k =
    let n = k.0 in (
      record {
        gap = comment bs n.gap;
        bytes = n.bytes;
        rest = n.rest;
        is_gap = (h, subst EndsComment n.parts ends, n.is_gap);
        parts = ap (λ (ys : List ℕ). hash ∷ (bs ++ ys)) n.parts;
        place = n.place ∙ sym (after_bytes-append (after_byte p hash) bs (gap_on n.gap []));
        token = n.token;
        len = n.len;
      },
      k.1,
    )

comment_end : (bs : List ℕ) → EndsComment (drop (comment_len bs) bs)
comment_end [] = tt
comment_end (b ∷ bs) = by_test (is_comment_byte b) b bs refl (comment_end bs)
  where
    by_test : (t : Bool) (b : ℕ) (bs : List ℕ) → is_comment_byte b ≡ t → EndsComment (drop (comment_len bs) bs) → EndsComment (drop (cond (is_comment_byte b) (1 + comment_len bs) 0) (b ∷ bs))
    by_test true b bs h more =
        let is : cond (is_comment_byte b) (1 + comment_len bs) 0 ≡ suc (comment_len bs) = cond_true (is_comment_byte b) (1 + comment_len bs) 0 h ∙ omega arith in
        subst (λ (n : ℕ). EndsComment (drop n (b ∷ bs))) (sym is) more
    by_test false b bs h more =
        let is : cond (is_comment_byte b) (1 + comment_len bs) 0 ≡ 0 = cond_false (is_comment_byte b) (1 + comment_len bs) 0 h in
        let feed : b ≡ line_feed = feeds (b == line_feed) b refl h in
        subst (λ (n : ℕ). EndsComment (drop n (b ∷ bs))) (sym is) feed
      where
        feeds : (t : Bool) (b : ℕ) → (b == line_feed) ≡ t → not (b == line_feed) ≡ false → b ≡ line_feed
        feeds true b e h = grind (arith, nat_tests)
        feeds false b e h = absurd (let x = ap not e in cc)

-- the scanner's tokens of what is left behind the first bytes
abbrev Left : List ℕ → ℕ → Mode → Place → Type 0
Left bs n m p = AreTokensFrom m (after_bytes p (take n bs)) (drop n bs) (scan bs n m p).tokens (scan bs n m p).ending

-- a token was found
left_token : (f : Found) (b : ℕ) (bs : List ℕ) (m : Mode) (p : Place) → token_at m (b ∷ bs) ≡ Some f → is_blank b ≡ false → (b == hash) ≡ false → ((n : ℕ) (k : Mode) → n ≤ length bs → Left bs n k (after_byte p b)) → Left (b ∷ bs) 0 m p
left_token f b bs m p e no_blank no_hash left =
    let s = token_sound m b bs f e in
    let one : f.len - 1 ≡ length s.more = omega (arith, s.len) in
    let fits : f.len - 1 ≤ length bs = omega (arith, ap length s.parts, length-append s.more s.rest) in
    let k = mode_after m f.token in
    let rest : drop (f.len - 1) bs ≡ s.rest = ap (λ (n : ℕ). drop n bs) one ∙ (ap (drop (length s.more)) s.parts ∙ drop-append_seam s.more s.rest) in
    let front : take (f.len - 1) bs ≡ s.more = ap (λ (n : ℕ). take n bs) one ∙ (ap (take (length s.more)) s.parts ∙ take-append_seam s.more s.rest) in
    let is : scan (b ∷ bs) 0 m p ≡ with_token (record { token = f.token; place = p; len = f.len }) (scan bs (f.len - 1) k (after_byte p b)) =
    scan_token b bs m p no_blank no_hash ∙ ap (λ (o : Option Found). at_token o m p (λ n j. scan bs n j (after_byte p b))) e in
    let all : b ∷ bs ≡ (b ∷ s.more) ++ s.rest = ap (λ (ys : List ℕ). b ∷ ys) s.parts in
    let next : IsNext m p (b ∷ bs) (record { token = f.token; place = p; len = f.len }) = record {
      gap = no_gap;
      bytes = b ∷ s.more;
      rest = s.rest;
      is_gap = tt;
      parts = all;
      place = refl;
      token = record {
        parts = refl;
        spells = s.spells;
        longest = λ others more other o eq. (let most : length others ≤ f.len = at_most m others more other f o (ap (token_at m) (sym eq ∙ sym all) ∙ e) in omega (arith, s.len));
      };
      len = s.len;
    } in
    let behind : AreTokensFrom k (after_bytes (after_byte p b) s.more) s.rest (scan bs (f.len - 1) k (after_byte p b)).tokens (scan bs (f.len - 1) k (after_byte p b)).ending =
    subst (λ (ys : List ℕ). AreTokensFrom k (after_bytes (after_byte p b) ys) s.rest (scan bs (f.len - 1) k (after_byte p b)).tokens (scan bs (f.len - 1) k (after_byte p b)).ending) front
    (subst (λ (ys : List ℕ). AreTokensFrom k (after_bytes (after_byte p b) (take (f.len - 1) bs)) ys (scan bs (f.len - 1) k (after_byte p b)).tokens (scan bs (f.len - 1) k (after_byte p b)).ending) rest (left (f.len - 1) k fits)) in
    subst (λ (c : Scanned). AreTokensFrom m p (b ∷ bs) c.tokens c.ending) (sym is) (next, behind)
  where
    at_most : (m : Mode) (others more : List ℕ) (other : Token) (f : Found) → Spells m others other → token_at m (others ++ more) ≡ Some f → length others ≤ f.len
    at_most m others more other f o e =
        let a = token_at_least m others more other o in
        let same : a.one ≡ f = some_is a.one f (sym a.is ∙ e) in
        let len : a.one.len ≡ f.len = ap (λ (g : Found). g.len) same in
        let least = a.least in
        omega arith

-- no token was found
left_none : (b : ℕ) (bs : List ℕ) (m : Mode) (p : Place) → token_at m (b ∷ bs) ≡ None → is_blank b ≡ false → (b == hash) ≡ false → Left (b ∷ bs) 0 m p
left_none b bs m p e no_blank no_hash =
    let is : scan (b ∷ bs) 0 m p ≡ scanned [] (Byte p) = scan_token b bs m p no_blank no_hash ∙ ap (λ (o : Option Found). at_token o m p (λ n j. scan bs n j (after_byte p b))) e in
    let bad : IsBadByte m p (b ∷ bs) p = record {
      gap = no_gap;
      byte = b;
      rest = bs;
      is_gap = tt;
      parts = refl;
      no_blank = no_blank;
      no_comment = no_hash;
      no_token = λ others more other o eq. (let a = token_at_least m others more other o in let x = ap (token_at m) (sym eq) ∙ e in let y = a.is in cc);
      is_at = refl;
    } in
    subst (λ (c : Scanned). AreTokensFrom m p (b ∷ bs) c.tokens c.ending) (sym is) bad

left_first : (b : ℕ) (bs : List ℕ) (m : Mode) (p : Place) → ((n : ℕ) (k : Mode) → n ≤ length bs → Left bs n k (after_byte p b)) → Left (b ∷ bs) 0 m p
left_first b bs m p left =
    bool_cases (is_blank b)
    (λ h. subst (λ (c : Scanned). AreTokensFrom m p (b ∷ bs) c.tokens c.ending) (sym (scan_blank b bs m p h)) (with_blank _ _ m p b bs h (left 0 m (omega arith))))
    (λ h. bool_cases (b == hash)
    (λ k. at_comment b bs m p (let same : b ≡ 35 = grind (arith, nat_tests) in same) left)
    (λ k. option_cases (token_at m (b ∷ bs)) (λ e. left_none b bs m p e h k) (λ f e. left_token f b bs m p e h k left)))
  where
    at_comment : (b : ℕ) (bs : List ℕ) (m : Mode) (p : Place) → b ≡ hash → ((n : ℕ) (k : Mode) → n ≤ length bs → Left bs n k (after_byte p b)) → Left (b ∷ bs) 0 m p
    at_comment b bs m p same left =
        let n = comment_len bs in
        let l : Left bs n m (after_byte p hash) = subst (λ (c : ℕ). Left bs n m (after_byte p c)) same (left n m (prefix_len-le-length is_comment_byte bs)) in
        let c = with_comment _ _ m p (take n bs) (drop n bs) (list_all-run is_comment_byte bs) (comment_end bs) l in
        let d : AreTokensFrom m p (hash ∷ bs) (scan (hash ∷ bs) 0 m p).tokens (scan (hash ∷ bs) 0 m p).ending =
        subst (λ (ys : List ℕ). AreTokensFrom m p (hash ∷ ys) (scan bs n m (after_byte p hash)).tokens (scan bs n m (after_byte p hash)).ending) (take-append-drop n bs) c in
        subst (λ (x : ℕ). Left (x ∷ bs) 0 m p) (sym same) d

left_is : (bs : List ℕ) (n : ℕ) (m : Mode) (p : Place) → n ≤ length bs → Left bs n m p
left_is [] zero m p h = record { gap = no_gap; is_gap = tt; parts = refl }
left_is [] (suc n) m p h = absurd (omega arith)
left_is (b ∷ bs) (suc n) m p h = left_is bs n m (after_byte p b) (omega arith)
left_is (b ∷ bs) zero m p h = left_first b bs m p (λ n k l. left_is bs n k (after_byte p b) l)

-- ---- the law

pub tokens_one : (text : List ℕ) (s : Scanned) → AreScriptTokens text s → s ≡ scan text 0 Bindings first_place
tokens_one text s h = sym (tokens_found s.tokens s.ending Bindings first_place text h)

pub tokens_are : (text : List ℕ) → AreScriptTokens text (scan text 0 Bindings first_place)
tokens_are text = left_is text 0 Bindings first_place (omega arith)

-- ---- the scanner behind a gap

gap_at_front : (text : List ℕ) (m : Mode) (p : Place) → 0 < gap_len text → scan (drop (gap_len text) text) 0 m (after_bytes p (take (gap_len text) text)) ≡ scan text 0 m p
gap_at_front [] m p h = absurd (omega arith)
gap_at_front (b ∷ bs) m p h = bool_cases (is_blank b) (λ t. at_blank b bs m p t) (λ t. by_hash (b == 35) b bs m p t refl h)
  where
    at_blank : (b : ℕ) (bs : List ℕ) (m : Mode) (p : Place) → is_blank b ≡ true → scan (drop (gap_len (b ∷ bs)) (b ∷ bs)) 0 m (after_bytes p (take (gap_len (b ∷ bs)) (b ∷ bs))) ≡ scan (b ∷ bs) 0 m p
    at_blank b bs m p t =
        let one : gap_len (b ∷ bs) ≡ 1 = cond_true (is_blank b) 1 (if b == 35 then 1 + comment_len bs else 0) t in
        ap (λ (n : ℕ). scan (drop n (b ∷ bs)) 0 m (after_bytes p (take n (b ∷ bs)))) one ∙ sym (scan_blank b bs m p t)

    by_hash : (u : Bool) (b : ℕ) (bs : List ℕ) (m : Mode) (p : Place) → is_blank b ≡ false → (b == 35) ≡ u → 0 < gap_len (b ∷ bs) → scan (drop (gap_len (b ∷ bs)) (b ∷ bs)) 0 m (after_bytes p (take (gap_len (b ∷ bs)) (b ∷ bs))) ≡ scan (b ∷ bs) 0 m p
    by_hash false b bs m p t u h =
        let none : gap_len (b ∷ bs) ≡ 0 = cond_false (is_blank b) 1 (if b == 35 then 1 + comment_len bs else 0) t ∙ cond_false (b == 35) (1 + comment_len bs) 0 u in
        absurd (omega arith)
    by_hash true b bs m p t u h =
        let same : b ≡ 35 = grind (arith, nat_tests) in
        subst (λ (c : ℕ). scan (drop (gap_len (c ∷ bs)) (c ∷ bs)) 0 m (after_bytes p (take (gap_len (c ∷ bs)) (c ∷ bs))) ≡ scan (c ∷ bs) 0 m p) (sym same) (at_hash bs m p)
      where
        at_hash : (bs : List ℕ) (m : Mode) (p : Place) → scan (drop (gap_len (35 ∷ bs)) (35 ∷ bs)) 0 m (after_bytes p (take (gap_len (35 ∷ bs)) (35 ∷ bs))) ≡ scan (35 ∷ bs) 0 m p
        at_hash bs m p =
            let n = comment_len bs in
            let one : gap_len (35 ∷ bs) ≡ suc n = (let x : gap_len (35 ∷ bs) ≡ 1 + n = refl in omega arith) in
            let within : n ≤ length bs = prefix_len-le-length is_comment_byte bs in
            let long : length (take n bs) ≡ n = length-take-le n bs within in
            ap (λ (k : ℕ). scan (drop k (35 ∷ bs)) 0 m (after_bytes p (take k (35 ∷ bs)))) one
            ∙ (sym (scan_skips (take n bs) (drop n bs) n m (after_byte p 35) long)
            ∙ ap (λ (ys : List ℕ). scan ys n m (after_byte p 35)) (take-append-drop n bs))

-- behind a gap the scanner finds the same
pub scan_of-gap : (old new : Scanner) (n : ℕ) → n ≡ gap_len old.rest.now → 0 < n → new.rest.now ≡ drop n old.rest.now → new.place ≡ after_bytes old.place (take n old.rest.now) → new.mode ≡ old.mode → scan_of new ≡ scan_of old
unfolding scan_of
scan_of-gap old new n is some rest place mode =
    let more : 0 < gap_len old.rest.now = omega arith in
    ap (λ (ys : List ℕ). scan ys 0 new.mode new.place) (rest ∙ ap (λ (k : ℕ). drop k old.rest.now) is)
    ∙ (ap (λ (m : Mode). scan (drop (gap_len old.rest.now) old.rest.now) 0 m new.place) mode
    ∙ (ap (λ (q : Place). scan (drop (gap_len old.rest.now) old.rest.now) 0 old.mode q) (place ∙ ap (λ (k : ℕ). after_bytes old.place (take k old.rest.now)) is)
    ∙ gap_at_front old.rest.now old.mode old.place more))

-- ---- the next token

no_gap_first : (b : ℕ) (bs : List ℕ) → gap_len (b ∷ bs) ≡ 0 → (is_blank b ≡ false) × ((b == hash) ≡ false)
no_gap_first b bs h = bool_cases (is_blank b)
    (λ t. absurd (let one : gap_len (b ∷ bs) ≡ 1 = cond_true (is_blank b) 1 (if b == 35 then 1 + comment_len bs else 0) t in omega arith))
    (λ t. (t, bool_cases (b == hash) (λ u. absurd (let more : gap_len (b ∷ bs) ≡ 1 + comment_len bs = cond_false (is_blank b) 1 (if b == 35 then 1 + comment_len bs else 0) t ∙ cond_true (b == 35) (1 + comment_len bs) 0 u in omega arith)) (λ u. u)))

-- a token that is found has bytes, all of them in the text
pub token_within : (m : Mode) (text : List ℕ) (f : Found) → token_at m text ≡ Some f → (0 < f.len) × (f.len ≤ length text)
token_within m [] f e = absurd (let n = nothing_empty m in cc)
token_within m (b ∷ bs) f e = let s = token_sound m b bs f e in (omega (arith, s.len), omega (arith, s.len, ap length s.parts, length-append s.more s.rest))

scan_found : (text : List ℕ) (m : Mode) (p : Place) (f : Found) → gap_len text ≡ 0 → token_at m text ≡ Some f → scan text 0 m p ≡ with_token (record { token = f.token; place = p; len = f.len }) (scan (drop f.len text) 0 (mode_after m f.token) (after_bytes p (take f.len text)))
scan_found [] m p f h e = absurd (let n = nothing_empty m in cc)
scan_found (b ∷ bs) m p f h e =
    let g = no_gap_first b bs h in
    let s = token_sound m b bs f e in
    let one : f.len - 1 ≡ length s.more = omega (arith, s.len) in
    let k = mode_after m f.token in
    let rest : drop f.len (b ∷ bs) ≡ s.rest = ap (λ (n : ℕ). drop n (b ∷ bs)) s.len ∙ (ap (drop (length s.more)) s.parts ∙ drop-append_seam s.more s.rest) in
    let front : take f.len (b ∷ bs) ≡ b ∷ s.more = ap (λ (n : ℕ). take n (b ∷ bs)) s.len ∙ ap (λ (ys : List ℕ). b ∷ ys) (ap (take (length s.more)) s.parts ∙ take-append_seam s.more s.rest) in
    scan_token b bs m p g.0 g.1
    ∙ (ap (λ (o : Option Found). at_token o m p (λ n j. scan bs n j (after_byte p b))) e
    ∙ ap (λ (c : Scanned). with_token (record { token = f.token; place = p; len = f.len }) c)
    (ap (λ (ys : List ℕ). scan ys (f.len - 1) k (after_byte p b)) s.parts
    ∙ (scan_skips s.more s.rest (f.len - 1) k (after_byte p b) (sym one)
    ∙ (ap (λ (ys : List ℕ). scan ys 0 k (after_bytes (after_byte p b) s.more)) (sym rest)
    ∙ ap (λ (ys : List ℕ). scan (drop f.len (b ∷ bs)) 0 k (after_bytes p ys)) (sym front)))))

-- what the scanner finds behind no gap
pub scan_of-token : (old new : Scanner) (f : Found) → gap_len old.rest.now ≡ 0 → token_at old.mode old.rest.now ≡ Some f → new.rest.now ≡ drop f.len old.rest.now → new.place ≡ after_bytes old.place (take f.len old.rest.now) → new.mode ≡ mode_after old.mode f.token → scan_of old ≡ with_token (record { token = f.token; place = old.place; len = f.len }) (scan_of new)
unfolding scan_of
scan_of-token old new f h e rest place mode =
    scan_found old.rest.now old.mode old.place f h e
    ∙ ap (with_token (record { token = f.token; place = old.place; len = f.len }))
    (ap (λ (ys : List ℕ). scan ys 0 (mode_after old.mode f.token) (after_bytes old.place (take f.len old.rest.now))) (sym rest)
    ∙ (ap (λ (m : Mode). scan new.rest.now 0 m (after_bytes old.place (take f.len old.rest.now))) (sym mode)
    ∙ ap (λ (q : Place). scan new.rest.now 0 new.mode q) (sym place)))

scan_bad : (text : List ℕ) (m : Mode) (p : Place) → text ≢ [] → gap_len text ≡ 0 → token_at m text ≡ None → scan text 0 m p ≡ scanned [] (Byte p)
scan_bad [] m p some h e = absurd (some refl)
scan_bad (b ∷ bs) m p some h e =
    let g = no_gap_first b bs h in
    scan_token b bs m p g.0 g.1 ∙ ap (λ (o : Option Found). at_token o m p (λ n j. scan bs n j (after_byte p b))) e

pub scan_of-bad : (s : Scanner) → (s.rest.now ≡ [] → ⊥) → gap_len s.rest.now ≡ 0 → token_at s.mode s.rest.now ≡ None → scan_of s ≡ scanned [] (Byte s.place)
unfolding scan_of
scan_of-bad s some h e = scan_bad s.rest.now s.mode s.place some h e

pub scan_of-end : (s : Scanner) → s.rest.now ≡ [] → scan_of s ≡ scanned [] Whole
unfolding scan_of
scan_of-end s h = ap (λ (ys : List ℕ). scan ys 0 s.mode s.place) h

pub gap_within : (text : List ℕ) → gap_len text ≤ length text
gap_within [] = omega arith
gap_within (b ∷ bs) = bool_cases (is_blank b)
    (λ t. (let one : gap_len (b ∷ bs) ≡ 1 = cond_true (is_blank b) 1 (if b == 35 then 1 + comment_len bs else 0) t in omega arith))
    (λ t. bool_cases (b == 35)
    (λ u. (let more : gap_len (b ∷ bs) ≡ 1 + comment_len bs = cond_false (is_blank b) 1 (if b == 35 then 1 + comment_len bs else 0) t ∙ cond_true (b == 35) (1 + comment_len bs) 0 u in omega (arith, prefix_len-le-length is_comment_byte bs)))
    (λ u. (let none : gap_len (b ∷ bs) ≡ 0 = cond_false (is_blank b) 1 (if b == 35 then 1 + comment_len bs else 0) t ∙ cond_false (b == 35) (1 + comment_len bs) 0 u in omega arith)))

-- a text without bytes
pub empty_is : (text : List ℕ) → (length text == 0) ≡ true → text ≡ []
empty_is [] h = refl
empty_is (b ∷ bs) h = absurd (grind (arith, nat_tests))

pub empty_not : (text : List ℕ) → (length text == 0) ≡ false → text ≡ [] → ⊥
empty_not [] h e = cc
empty_not (b ∷ bs) h e = cc
