-- What the outputs of a program write at a step, by what is kept.
use Rattle.std.proofs.Common.{◌≡◌, ℕ, zero, suc, Bool, true, false, cond, List, [], ◌∷◌, map, refl, sym, ap, subst, ◌∙◌}
use Rattle.std.specs.Prelude.{◌&&◌, ◌||◌, All, Some, slice_get, ⊤}
use Rattle.std.specs.List.{filter, list_any}
use Rattle.std.proofs.lemmas.List.Elements.{All-cons, All-nil}
use Rattle.std.proofs.lemmas.Option.{get_or_from_slice_get, slice_get_within}
use Rattle.map_meaning.specs.declared.program.OutputKind.{OutputKind}
use Rattle.map_meaning.specs.declared.program.OutputUse.{OutputUse}
use Rattle.map_meaning.specs.declared.program.Program.{Program}
use Rattle.map_meaning.specs.Programs.{IsOutput, IsWellFormed}
use Rattle.script_types.specs.Values.{Written}

-- ---- lists

-- some item passes a test that the item at this place passes
pub any_at : {A : Type 0} (p : A → Bool) (xs : List A) (i : ℕ) (x : A) → slice_get xs i ≡ Some x → p x ≡ true → list_any p xs ≡ true
any_at p [] i x is h = absurd (cc)
any_at p (y ∷ ys) zero x is h = let same : y ≡ x = cc in ap (λ b. b || list_any p ys) (ap p same ∙ h)
any_at p (y ∷ ys) (suc i) x is h = either (p y) (any_at p ys i x is h)
  where
    either : (b : Bool) → list_any p ys ≡ true → (b || list_any p ys) ≡ true
    either true later = refl
    either false later = later

-- each item is such
abbrev pub EachIs : {A : Type 0} → (A → Type 0) → List A → Type 0
EachIs P [] = ⊤
EachIs P (x ∷ xs) = P x × EachIs P xs

-- each item that passes a test is such
pub each_passed : {A : Type 0} (P : A → Type 0) (p : A → Bool) (xs : List A) → ((i : ℕ) (x : A) → slice_get xs i ≡ Some x → p x ≡ true → P x) → EachIs P (filter p xs)
each_passed P p [] each = tt
each_passed P p (x ∷ xs) each = by (p x) refl (each_passed P p xs (λ i y is. each (suc i) y is))
  where
    by : (b : Bool) → p x ≡ b → EachIs P (filter p xs) → EachIs P (cond b (x ∷ filter p xs) (filter p xs))
    by true is later = (each zero x refl is, later)
    by false is later = later

-- the same in another word
pub each_all : {A : Type 0} (P : A → Type 0) (xs : List A) → EachIs P xs → All P xs
each_all P [] each = All-nil P
each_all P (x ∷ xs) each = All-cons P x xs each.0 (each_all P xs each.1)

-- functions that agree on the items give the same lists
pub map_each : {A B : Type 0} (f g : A → B) (xs : List A) → EachIs (λ x. f x ≡ g x) xs → map f xs ≡ map g xs
map_each f g [] each = refl
map_each f g (x ∷ xs) each = ap (λ y. y ∷ map f xs) each.0 ∙ ap (λ ys. g x ∷ ys) (map_each f g xs each.1)

-- ---- reports by their form

-- reports of a form, of the outputs of another form
pub filter_forms : (p r q : OutputKind → Bool) → ((k : OutputKind) → q k ≡ (p k && r k)) → (w : OutputUse → Written) → ((o : OutputUse) → (w o).form ≡ o.kind) → (outputs : List OutputUse) →
    filter (λ (x : Written). r x.form) (map w (filter (λ (o : OutputUse). p o.kind) outputs)) ≡ map w (filter (λ (o : OutputUse). q o.kind) outputs)
filter_forms p r q both w form [] = refl
filter_forms p r q both w form (o ∷ outputs) =
    by (p o.kind) (r o.kind) (ap r (form o)) (filter_forms p r q both w form outputs) ∙
    ap (λ b. map w (cond b (o ∷ filter (λ (o : OutputUse). q o.kind) outputs) (filter (λ (o : OutputUse). q o.kind) outputs))) (sym (both o.kind))
  where
    by : (b c : Bool) → r (w o).form ≡ c → filter (λ (x : Written). r x.form) (map w (filter (λ (o : OutputUse). p o.kind) outputs)) ≡ map w (filter (λ (o : OutputUse). q o.kind) outputs) →
        filter (λ (x : Written). r x.form) (map w (cond b (o ∷ filter (λ (o : OutputUse). p o.kind) outputs) (filter (λ (o : OutputUse). p o.kind) outputs)))
        ≡ map w (cond (b && c) (o ∷ filter (λ (o : OutputUse). q o.kind) outputs) (filter (λ (o : OutputUse). q o.kind) outputs))
    by true true is later =
        let rest = filter (λ (x : Written). r x.form) (map w (filter (λ (o : OutputUse). p o.kind) outputs)) in
        ap (λ t. cond t (w o ∷ rest) rest) is ∙ ap (λ xs. w o ∷ xs) later
    by true false is later =
        let rest = filter (λ (x : Written). r x.form) (map w (filter (λ (o : OutputUse). p o.kind) outputs)) in
        ap (λ t. cond t (w o ∷ rest) rest) is ∙ later
    by false c is later = later

-- an output that stands in the program is one
pub output_at : (program : Program) → IsWellFormed program → (i : ℕ) (o : OutputUse) → slice_get program.outputs i ≡ Some o → IsOutput program o
output_at program formed i o is = subst (IsOutput program) (get_or_from_slice_get program.outputs i o o is) (formed.outputs i o (slice_get_within program.outputs i o is))
