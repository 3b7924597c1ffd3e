-- What is counted with one more token.
use Rattle.std.proofs.Common.{◌≡◌, ℕ, ◌+◌, Bool, true, false, cond, List, [], ◌∷◌, ◌++◌, length, Option, Some, None, refl, ◌∙◌, ap, arith, length-append, count_by}
use Rattle.std.proofs.lemmas.List.Sums.{sum_by-append}
use Rattle.std.specs.Prelude.{◌||◌, if◌then◌else◌, unwrap_or, is_some}
use Rattle.std.specs.Option.{option_map}
use Rattle.script_syntax.specs.declared.token.Token.{Token}
use Rattle.script_syntax.specs.Listed.{or_earlier, behind_last, behind_first, ends_in, is_semicolon, is_areamap, is_timer, is_section, is_before_statement, is_counted, timer_count, statement_count, token_count, counts_behind}
use Rattle.script_syntax.specs.inside.Counting.{one_more, timer_after, statements_after, counted_after, counts_after}

-- ---- lists with one more token

count_more : (p : Token → Bool) (ts : List Token) (t : Token) → count_by p (ts ++ t ∷ []) ≡ (if p t then count_by p ts + 1 else count_by p ts)
count_more p ts t = sum_by-append (λ x. cond (p x) 1 0) ts (t ∷ []) ∙ by_test (p t) (count_by p ts)
  where
    by_test : (b : Bool) (n : ℕ) → n + (0 + (if b then 1 else 0)) ≡ (if b then n + 1 else n)
    by_test true n = omega arith
    by_test false n = omega arith

ends_more : (p : Token → Bool) (ts : List Token) (t : Token) → ends_in p (ts ++ t ∷ []) ≡ p t
ends_more p [] t = refl
ends_more p (x ∷ []) t = refl
ends_more p (x ∷ y ∷ ts) t = ends_more p (y ∷ ts) t

-- behind the first that passes
first_with : Option (List Token) → Bool → Token → Option (List Token)
first_with None b t = if b then Some [] else None
first_with (Some ts) b t = Some (ts ++ t ∷ [])

first_more : (p : Token → Bool) (ts : List Token) (t : Token) → behind_first p (ts ++ t ∷ []) ≡ first_with (behind_first p ts) (p t) t
unfolding first_with
first_more p [] t = refl
first_more p (x ∷ ts) t = by_test (p x) p ts t (first_more p ts t)
  where
    by_test : (b : Bool) (p : Token → Bool) (ts : List Token) (t : Token) → behind_first p (ts ++ t ∷ []) ≡ first_with (behind_first p ts) (p t) t → (if b then Some (ts ++ t ∷ []) else behind_first p (ts ++ t ∷ [])) ≡ first_with (if b then Some ts else behind_first p ts) (p t) t
    by_test true p ts t h = refl
    by_test false p ts t h = h

-- behind the last that passes
last_with : Option (List Token) → Bool → Token → Option (List Token)
last_with o true t = Some []
last_with None false t = None
last_with (Some ts) false t = Some (ts ++ t ∷ [])

last_more : (p : Token → Bool) (ts : List Token) (t : Token) → behind_last p (ts ++ t ∷ []) ≡ last_with (behind_last p ts) (p t) t
unfolding last_with
last_more p [] t = by_test (p t) t
  where
    by_test : (b : Bool) (t : Token) → (if b then Some [] else None) ≡ last_with None b t
    by_test true t = refl
    by_test false t = refl
last_more p (x ∷ ts) t = ap (λ (o : Option (List Token)). or_earlier o (if p x then Some (ts ++ t ∷ []) else None)) (last_more p ts t) ∙ by_tests (p t) (p x) (behind_last p ts) ts t
  where
    by_tests : (b c : Bool) (o : Option (List Token)) (ts : List Token) (t : Token) → or_earlier (last_with o b t) (if c then Some (ts ++ t ∷ []) else None) ≡ last_with (or_earlier o (if c then Some ts else None)) b t
    by_tests true c o ts t = refl
    by_tests false c (Some us) ts t = refl
    by_tests false true None ts t = refl
    by_tests false false None ts t = refl

-- ---- each count

covered_more : (ts : List Token) (t : Token) → is_some (behind_first is_areamap (ts ++ t ∷ [])) ≡ (is_some (behind_first is_areamap ts) || is_areamap t)
unfolding first_with
covered_more ts t = ap (λ (o : Option (List Token)). is_some o) (first_more is_areamap ts t) ∙ by_option (behind_first is_areamap ts) (is_areamap t) t
  where
    by_option : (o : Option (List Token)) (b : Bool) (t : Token) → is_some (first_with o b t) ≡ (is_some o || b)
    by_option None true t = refl
    by_option None false t = refl
    by_option (Some ts) b t = refl

statements_more : (ts : List Token) (t : Token) → statement_count (ts ++ t ∷ []) ≡ statements_after (statement_count ts) t
unfolding first_with
statements_more ts t = ap (option_map (count_by is_semicolon)) (first_more is_section ts t) ∙ by_option (behind_first is_section ts) t
  where
    by_option : (o : Option (List Token)) (t : Token) → option_map (count_by is_semicolon) (first_with o (is_section t) t) ≡ statements_after (option_map (count_by is_semicolon) o) t
    by_option None t = by_section (is_section t)
      where
        by_section : (b : Bool) → option_map (count_by is_semicolon) (if b then Some [] else None) ≡ (if b then Some 0 else None)
        by_section true = refl
        by_section false = refl
    by_option (Some us) t = ap Some (count_more is_semicolon us t)

counted_more : (ts : List Token) (t : Token) → token_count (ts ++ t ∷ []) ≡ counted_after (counts_behind ts) t
unfolding last_with
counted_more ts t = ap (λ (o : Option (List Token)). count_by is_counted (unwrap_or o (ts ++ t ∷ []))) (last_more is_before_statement ts t) ∙ by_option (is_before_statement t) (behind_last is_before_statement ts) ts t
  where
    by_option : (b : Bool) (o : Option (List Token)) (ts : List Token) (t : Token) → count_by is_counted (unwrap_or (last_with o b t) (ts ++ t ∷ [])) ≡ (if b then 0 else (if is_counted t then count_by is_counted (unwrap_or o ts) + 1 else count_by is_counted (unwrap_or o ts)))
    by_option true o ts t = refl
    by_option false None ts t = count_more is_counted ts t
    by_option false (Some us) ts t = count_more is_counted us t

timer_more : (ts : List Token) (t : Token) → timer_count (ts ++ t ∷ []) ≡ timer_after (timer_count ts) t
unfolding last_with
timer_more ts t = ap (option_map length) (last_more is_timer ts t) ∙ by_option (is_timer t) (behind_last is_timer ts) t
  where
    by_option : (b : Bool) (o : Option (List Token)) (t : Token) → option_map length (last_with o b t) ≡ (if b then Some 0 else one_more (option_map length o))
    by_option true o t = refl
    by_option false None t = refl
    by_option false (Some us) t = ap Some (length-append us (t ∷ []))

pub counts_of-more : (ts : List Token) (t : Token) → counts_behind (ts ++ t ∷ []) ≡ counts_after (counts_behind ts) t
counts_of-more ts t =
    let covered = covered_more ts t in
    let semicolons = count_more is_semicolon ts t in
    let ended = ends_more is_semicolon ts t in
    let statements = statements_more ts t in
    let begins = ends_more is_before_statement ts t in
    let counted = counted_more ts t in
    let timer = timer_more ts t in
    cc
