-- Lists turned round.
use Rattle.std.proofs.Common.{◌≡◌, ℕ, zero, suc, ◌+◌, ◌<◌, List, [], ◌∷◌, ◌++◌, length, get_or, take, refl, sym, ap, ◌∙◌, arith, append_assoc, append-nil}
use Rattle.std.proofs.lemmas.List.{length-take-le, same_lists, take_more}
use Rattle.std.proofs.lemmas.List.FromFn.{get_or-map-range_with_len, length-map-range_with_len}
use Rattle.std.specs.Prelude.{replicate}
use Rattle.number_lists.specs.Turned.{times, holders_from, turned_of}

-- one more list
pub holders_more : (k n : ℕ) (lists : List (List ℕ)) (xs : List ℕ) →
    holders_from k n (lists ++ xs ∷ []) ≡ holders_from k n lists ++ replicate (times k xs) (n + length lists)
holders_more k n [] xs = append-nil (replicate (times k xs) n) ∙ ap (λ (m : ℕ). replicate (times k xs) m) (plus_none n)
  where
    plus_none : (m : ℕ) → m ≡ m + 0
    plus_none m = omega arith
holders_more k n (ys ∷ lists) xs =
    ap (λ (zs : List ℕ). replicate (times k ys) n ++ zs) (holders_more k (n + 1) lists xs)
    ∙ (sym (append_assoc (replicate (times k ys) n) (holders_from k (n + 1) lists) (replicate (times k xs) (n + 1 + length lists)))
    ∙ ap (λ (m : ℕ). (replicate (times k ys) n ++ holders_from k (n + 1) lists) ++ replicate (times k xs) m) (plus_one n (length lists)))
  where
    plus_one : (m j : ℕ) → m + 1 + j ≡ m + suc j
    plus_one m j = omega arith

-- the holders among one list more of those of a list of lists
pub holders_next : (k : ℕ) (lists : List (List ℕ)) (i : ℕ) → i < length lists →
    holders_from k 0 (take (i + 1) lists) ≡ holders_from k 0 (take i lists) ++ replicate (times k (get_or lists i [])) i
holders_next k lists i below =
    ap (holders_from k 0) (take_more lists i [] below)
    ∙ (holders_more k 0 (take i lists) (get_or lists i [])
    ∙ ap (λ (m : ℕ). holders_from k 0 (take i lists) ++ replicate (times k (get_or lists i [])) m) (let size = length-take-le i lists (omega arith) in omega (arith, size)))

-- lists that have for each number its holders are the lists turned round
pub turned_lists : (got lists : List (List ℕ)) (count : ℕ) → length got ≡ count → ((k : ℕ) → k < count → get_or got k [] ≡ holders_from k 0 lists) → got ≡ turned_of count lists
turned_lists got lists count size each =
    same_lists got (turned_of count lists) (size ∙ sym (length-map-range_with_len (λ k. holders_from k 0 lists) 0 count))
    (λ k d below.
    let less : k < count = omega arith in
    default_any got k d [] below ∙ (each k less ∙ sym (get_or-map-range_with_len (λ j. holders_from j 0 lists) 0 count k k d less (zero_plus k))))
  where
    zero_plus : (n : ℕ) → 0 + n ≡ n
    zero_plus n = omega arith

    default_any : (xss : List (List ℕ)) (k : ℕ) (d e : List ℕ) → k < length xss → get_or xss k d ≡ get_or xss k e
    default_any [] k d e below = absurd (omega arith)
    default_any (xs ∷ xss) zero d e below = refl
    default_any (xs ∷ xss) (suc k) d e below = default_any xss k d e (omega arith)
