-- Where numbers stand in a list.
use Rattle.std.proofs.Common.{◌≡◌, ◌∙◌, ℕ, ◌+◌, ◌<◌, List, [], ◌∷◌, ◌++◌, length, get_or, map, refl, sym, ap, arith, inl, inr, Bool, cond, set, append-nil}
use Rattle.std.specs.Prelude.{◌==◌, slice_index}
use Rattle.std.specs.List.{filter, range_with_len}
use Rattle.std.proofs.lemmas.Bool.Decides.{eqb_tells}
use Rattle.std.proofs.lemmas.List.{get_or-set_other, get_or-set_same, get_or_default, length-set}
use Rattle.std.proofs.lemmas.List.FromFn.{fill_by_all, filter_of_map_range_with_len_more}
use Rattle.plan_graph.specs.inside.Places.{AreNotedUpTo, places_below, places_by_number, places_with}

as_it_is : (xs : List ℕ) → xs ≡ map (λ i. i) xs
as_it_is [] = refl
as_it_is (x ∷ xs) = ap (λ (ys : List ℕ). x ∷ ys) (as_it_is xs)

-- what passes a test among one number more
pub filter_range_more : (p : ℕ → Bool) (n : ℕ) → filter p (range_with_len 0 (n + 1)) ≡ filter p (range_with_len 0 n) ++ cond (p n) (n ∷ []) []
filter_range_more p n =
    ap (filter p) (as_it_is (range_with_len 0 (n + 1)))
    ∙ (filter_of_map_range_with_len_more p (λ i. i) 0 n n (omega arith)
    ∙ ap (λ (xs : List ℕ). filter p xs ++ cond (p n) (n ∷ []) []) (sym (as_it_is (range_with_len 0 n))))

-- the places among one more
pub places_more : (numbers : List ℕ) (n k : ℕ) → places_below numbers (n + 1) k ≡ places_below numbers n k ++ cond (slice_index numbers n == k) (n ∷ []) []
places_more numbers n k = filter_range_more (λ i. slice_index numbers i == k) n

-- lists that have the places are those by number
pub noted_all : (numbers : List ℕ) (count : ℕ) (lists : List (List ℕ)) → AreNotedUpTo numbers count (length numbers) lists → lists ≡ places_by_number numbers count
noted_all numbers count lists are = fill_by_all (places_with numbers) lists count [] are.many are.each

-- the places with one more
pub noted_more : (numbers : List ℕ) (count n m : ℕ) (lists : List (List ℕ)) (old new : List ℕ) → AreNotedUpTo numbers count n lists → m ≡ get_or numbers n 0 → m < count →
    old ≡ get_or lists m old → new ≡ old ++ n ∷ [] → AreNotedUpTo numbers count (n + 1) (set lists m new)
noted_more numbers count n m lists old new are is below was now = record {
  many = length-set lists m new ∙ are.many;
  each = λ k less. elim (eqb_tells m k) as (λ _. get_or (set lists m new) k [] ≡ places_below numbers (n + 1) k) [
    | inl t ↦
        ap (λ (j : ℕ). get_or (set lists m new) j []) (sym t.1)
        ∙ (get_or-set_same lists m new [] (let many = are.many in omega arith)
        ∙ (now
        ∙ (ap (λ (xs : List ℕ). xs ++ n ∷ []) (was ∙ (get_or_default lists m old [] (let many = are.many in omega arith) ∙ (are.each m below ∙ ap (places_below numbers n) t.1)))
        ∙ sym (places_more numbers n k ∙ ap (λ (b : Bool). places_below numbers n k ++ cond b (n ∷ []) []) (ap (λ (j : ℕ). j == k) (sym is) ∙ t.0)))))
    | inr t ↦
        get_or-set_other lists m k new [] (λ e. t.1 (sym e))
        ∙ (are.each k less
        ∙ sym (places_more numbers n k ∙ (ap (λ (b : Bool). places_below numbers n k ++ cond b (n ∷ []) []) (ap (λ (j : ℕ). j == k) (sym is) ∙ t.0) ∙ append-nil (places_below numbers n k))))
  ];
}
