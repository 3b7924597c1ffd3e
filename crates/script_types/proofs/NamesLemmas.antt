-- What is found after an insertion.
use Rattle.std.proofs.Common.{◌≡◌, ℕ, List, [], ◌∷◌, Bool, true, false, Option, Some, refl, sym, ◌∙◌, ap, if◌then◌else◌, arith}
use Rattle.std.specs.Str.{bytes_eq}
use Rattle.std.specs.Map.{lookup}
use Rattle.std.specs.declared.vec.Vec.{Vec}
use Rattle.std.specs.declared.alloc.Global.{Global}
use Rattle.indexmap.specs.IndexMap.{insert_entry}
use Rattle.std.proofs.lemmas.Slice.Eq.{bytes_eq-Decides}

abbrev key_eq : Vec ℕ Global → Vec ℕ Global → Bool
key_eq a b = bytes_eq a.items b.items

abbrev found : {V : Type 0} → List (Vec ℕ Global × V) → List ℕ → Option V
found es n = lookup (λ key. bytes_eq n key.items) es

no_both : true ≡ false → ⊥
no_both h = grind (arith, h)

not_true : (b : Bool) → (b ≡ true → ⊥) → b ≡ false
not_true true f = absurd (f refl)
not_true false f = refl

-- an equal key is found by the same names
same : (n a b : List ℕ) → bytes_eq a b ≡ true → bytes_eq n b ≡ bytes_eq n a
same n a b h = ap (λ x. bytes_eq n x) (sym ((bytes_eq-Decides a b).0 h))

-- a key that differs is not found by the name of the other
apart : (n a b : List ℕ) → bytes_eq a b ≡ false → bytes_eq n b ≡ true → bytes_eq n a ≡ false
apart n a b h k = not_true (bytes_eq n a) (λ j. no_both (sym ((bytes_eq-Decides a b).1 (sym ((bytes_eq-Decides n a).0 j) ∙ (bytes_eq-Decides n b).0 k)) ∙ h))

replaced : {V : Type 0} (t u : Bool) (v w : V) (rest : Option V) → u ≡ t → (if u then Some v else rest) ≡ (if t then Some v else (if u then Some w else rest))
replaced true u v w rest h = rw h refl
replaced false u v w rest h = rw h refl

passed_over : {V : Type 0} (t u : Bool) (v w : V) (rest after : Option V) → (u ≡ true → t ≡ false) → after ≡ (if t then Some v else rest) → (if u then Some w else after) ≡ (if t then Some v else (if u then Some w else rest))
passed_over t true v w rest after h k = rw (h refl) refl
passed_over t false v w rest after h k = k

step : {V : Type 0} (b : Bool) (e : Vec ℕ Global × V) (es : List (Vec ℕ Global × V)) (key : Vec ℕ Global) (v : V) (n : List ℕ) → bytes_eq key.items e.0.items ≡ b → found (insert_entry key_eq es key v) n ≡ (if bytes_eq n key.items then Some v else found es n) → found (if b then (e.0, v) ∷ es else e ∷ insert_entry key_eq es key v) n ≡ (if bytes_eq n key.items then Some v else found (e ∷ es) n)
step true e es key v n h ih = replaced (bytes_eq n key.items) (bytes_eq n e.0.items) v e.1 (found es n) (same n key.items e.0.items h)
step false e es key v n h ih = passed_over (bytes_eq n key.items) (bytes_eq n e.0.items) v e.1 (found es n) (found (insert_entry key_eq es key v) n) (apart n key.items e.0.items h) ih

pub found-inserted : {V : Type 0} (es : List (Vec ℕ Global × V)) (key : Vec ℕ Global) (v : V) (n : List ℕ) → found (insert_entry key_eq es key v) n ≡ (if bytes_eq n key.items then Some v else found es n)
found-inserted [] key v n = refl
found-inserted (e ∷ es) key v n = step (bytes_eq key.items e.0.items) e es key v n refl (found-inserted es key v n)
