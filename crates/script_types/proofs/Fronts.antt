-- A result with a front before it, and how a loop goes through its steps.
use Rattle.std.proofs.Common.{◌≡◌, List, [], ◌∷◌, ◌++◌, Result, Ok, Err, refl, sym, ◌∙◌, ap, append_assoc, append-nil}
use Rattle.text_base.specs.Results.{◌>>=◌}

-- these, and those of the result behind them
abbrev pub with_front : {A F : Type 0} → List A → Result (List A) F → Result (List A) F
with_front xs r = r >>= λ ys. Ok (xs ++ ys)

front_on : {A F : Type 0} (xs : List A) (x : A) (rs : Result (List A) F) → with_front (xs ++ x ∷ []) rs ≡ with_front xs (rs >>= λ ys. Ok (x ∷ ys))
front_on xs x (Ok ys) = ap Ok (append_assoc xs (x ∷ []) ys)
front_on xs x (Err e) = refl

-- the next of them is x
pub front_step : {A F : Type 0} (xs : List A) (x : A) (r : Result A F) (rs : Result (List A) F) → r ≡ Ok x → with_front (xs ++ x ∷ []) rs ≡ with_front xs (r >>= λ y. rs >>= λ ys. Ok (y ∷ ys))
front_step xs x r rs h = front_on xs x rs ∙ ap (λ q. with_front xs (q >>= λ y. rs >>= λ ys. Ok (y ∷ ys))) (sym h)

-- the next of them is a fault
pub front_stop : {A F : Type 0} (xs : List A) (e : F) (r : Result A F) (rs : Result (List A) F) → r ≡ Err e → with_front xs (r >>= λ y. rs >>= λ ys. Ok (y ∷ ys)) ≡ Err e
front_stop xs e r rs h = ap (λ q. with_front xs (q >>= λ y. rs >>= λ ys. Ok (y ∷ ys))) h

-- nothing is left
pub front_end : {A F : Type 0} (xs : List A) → with_front {A = A} {F = F} xs (Ok []) ≡ Ok xs
front_end xs = ap Ok (append-nil xs)
