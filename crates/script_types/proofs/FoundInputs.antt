-- The input of a bound name that is read.
use Rattle.std.proofs.Common.{◌≡◌, ℕ, suc, ◌+◌, Bool, true, false, not, ◌&&◌, ◌||◌, List, [], ◌∷◌, ◌++◌, map, filter, refl, sym, ap, ◌∙◌, if◌then◌else◌, arith}
use Rattle.std.specs.Prelude.{Option, None, Some, option_map, slice_get}
use Rattle.std.specs.List.{find, list_any}
use Rattle.std.specs.Option.{is_some, unwrap_or}
use Rattle.std.specs.Str.{bytes_eq}
use Rattle.std.proofs.lemmas.Option.{slice_get-map}
use Rattle.std.proofs.lemmas.Slice.Eq.{bytes_eq-Decides}
use Rattle.cell_values.specs.declared.kind.Kind.TheVariants.{Scalar}
use Rattle.script_syntax.specs.declared.tree.Binding.{Binding}
use Rattle.script_syntax.specs.declared.tree.Script.{Script}
use Rattle.script_syntax.specs.declared.tree.Target.TheVariants as target
use Rattle.script_types.specs.declared.typed.UsedAs.{UsedAs}
use Rattle.script_types.specs.declared.typed.UsedAs.TheVariants as used
use Rattle.script_types.specs.Lowered.{grid_input, input_as_used, input_of, inputs_of}
use Rattle.script_types.specs.Names.{binding_at, binding_of, input_number, inputs_before, is_assigned, is_input_by, is_number_target, is_used, place_from, role_of, script_uses, used_inputs}
use Rattle.script_types.specs.Reports.{area_files, role_by}

-- ---- the first binding of a name

shift-step : (t : Bool) (k : ℕ) (r s : Option ℕ) → r ≡ option_map (λ n. n + 1) s → (if t then Some (k + 1) else r) ≡ option_map (λ n. n + 1) (if t then Some k else s)
shift-step true k r s h = refl
shift-step false k r s h = h

-- the place behind one more
place-shift : (k : ℕ) (bs : List Binding) (name : List ℕ) → place_from (k + 1) bs name ≡ option_map (λ n. n + 1) (place_from k bs name)
place-shift k [] name = refl
place-shift k (b ∷ bs) name = shift-step (bytes_eq name b.name) k (place_from (k + 1 + 1) bs name) (place_from (k + 1) bs name) (place-shift (k + 1) bs name)

at-more : (b : Binding) (bs : List Binding) (o : Option ℕ) → binding_at (b ∷ bs) (option_map (λ n. n + 1) o) ≡ binding_at bs o
at-more b bs None = refl
at-more b bs (Some n) = let e : n + 1 ≡ suc n = omega arith in ap (slice_get (b ∷ bs)) e

bound-step : (t : Bool) (b : Binding) (bs : List Binding) (place : Option ℕ) (rest : Option Binding) → binding_at (b ∷ bs) place ≡ rest → binding_at (b ∷ bs) (if t then Some 0 else place) ≡ (if t then Some b else rest)
bound-step true b bs place rest h = refl
bound-step false b bs place rest h = h

-- the binding of a name is the first that has it
pub bound-first : (bs : List Binding) (name : List ℕ) → binding_at bs (place_from 0 bs name) ≡ find (λ b. bytes_eq name b.name) bs
bound-first [] name = refl
bound-first (b ∷ bs) name = bound-step (bytes_eq name b.name) b bs (place_from (0 + 1) bs name) (find (λ c. bytes_eq name c.name) bs) (ap (binding_at (b ∷ bs)) (place-shift 0 bs name) ∙ at-more b bs (place_from 0 bs name) ∙ bound-first bs name)

found-if : {A : Type 0} (t : Bool) (p : A → Bool) (x y : A) (rest : Option A) → p x ≡ t → (rest ≡ Some y → p y ≡ true) → (if t then Some x else rest) ≡ Some y → p y ≡ true
found-if true p x y rest ht ih h = let e : x ≡ y = cc in sym (ap p e) ∙ ht
found-if false p x y rest ht ih h = ih h

-- what is found passes
pub found-passes : {A : Type 0} (p : A → Bool) (xs : List A) (y : A) → find p xs ≡ Some y → p y ≡ true
found-passes p [] y h = cc
found-passes p (x ∷ xs) y h = found-if (p x) p x y (find p xs) refl (found-passes p xs y) h

none-if : {A : Type 0} (t u v : Bool) (q : A → Bool) (x y : A) (rest : Option A) → q x ≡ u → (u || v) ≡ false → (v ≡ false → rest ≡ Some y → q y ≡ false) → (if t then Some x else rest) ≡ Some y → q y ≡ false
none-if t true v q x y rest hu ha ih h = cc
none-if true false v q x y rest hu ha ih h = let e : x ≡ y = cc in sym (ap q e) ∙ hu
none-if false false v q x y rest hu ha ih h = ih ha h

-- what is found has nothing that none of them has
pub found-none : {A : Type 0} (p q : A → Bool) (xs : List A) (y : A) → list_any q xs ≡ false → find p xs ≡ Some y → q y ≡ false
found-none p q [] y ha h = cc
found-none p q (x ∷ xs) y ha h = none-if (p x) (q x) (list_any q xs) q x y (find p xs) refl ha (found-none p q xs y) h

-- ---- its number

true-false : true ≡ false → ⊥
true-false h = grind (arith, h)

-- a binding stands at this place, and the name has its number
HasPlace : ℕ → List Binding → List ℕ → Binding → Type 0
HasPlace k bs name b = (n : ℕ) × (place_from k bs name ≡ Some (k + n)) × (slice_get bs n ≡ Some b)

place-step : (t u : Bool) (p : Binding → Bool) (name : List ℕ) (k : ℕ) (c b : Binding) (left : List Binding) (rest : Option Binding) → bytes_eq name c.name ≡ t → p c ≡ u → ((j : ℕ) → rest ≡ Some b → HasPlace j left name b) → (if t then Some c else rest) ≡ Some b → p b ≡ true → HasPlace k (if u then c ∷ left else left) name b
unfolding HasPlace
place-step true true p name k c b left rest ht hu ih h hp = let e : c ≡ b = cc in let z : k ≡ k + 0 = omega arith in (0, ap (λ t. if t then Some k else place_from (k + 1) left name) ht ∙ ap Some z, ap Some e)
place-step true false p name k c b left rest ht hu ih h hp = let e : c ≡ b = cc in absurd (true-false (sym hp ∙ sym (ap p e) ∙ hu))
place-step false true p name k c b left rest ht hu ih h hp = let i = ih (k + 1) h in let z : k + 1 + i.0 ≡ k + suc i.0 = omega arith in (suc i.0, ap (λ t. if t then Some k else place_from (k + 1) left name) ht ∙ i.1 ∙ ap Some z, i.2)
place-step false false p name k c b left rest ht hu ih h hp = ih k h

-- the first binding of a name, among those that pass
place-among : (p : Binding → Bool) (name : List ℕ) (k : ℕ) (bs : List Binding) (b : Binding) → find (λ c. bytes_eq name c.name) bs ≡ Some b → p b ≡ true → HasPlace k (filter p bs) name b
place-among p name k [] b h hp = cc
place-among p name k (c ∷ cs) b h hp = place-step (bytes_eq name c.name) (p c) p name k c b (filter p cs) (find (λ x. bytes_eq name x.name) cs) refl refl (λ j g. place-among p name j cs b g hp) h hp

-- ---- its input

-- the input of a binding at this place
input-at : (script : Script) (bound : Option Binding) (area : List ℕ) (us : List Binding) (n : ℕ) (b : Binding) → slice_get us n ≡ Some b → slice_get (map (λ file. grid_input file Scalar) (area_files bound area) ++ map (input_of script) us) (inputs_before bound + n) ≡ Some (input_of script b)
input-at script None area us n b h = let e : 1 + n ≡ suc n = omega arith in ap (slice_get (grid_input area Scalar ∷ map (input_of script) us)) e ∙ slice_get-map (input_of script) us n ∙ ap (option_map (input_of script)) h
input-at script (Some x) area us n b h = let e : 0 + n ≡ n = omega arith in ap (slice_get (map (input_of script) us)) e ∙ slice_get-map (input_of script) us n ∙ ap (option_map (input_of script)) h

all-three : (a b c : Bool) → a ≡ false → b ≡ false → c ≡ true → (not a && not b && c) ≡ true
all-three false false true ha hb hc = refl
all-three true b c ha hb hc = cc
all-three false true c ha hb hc = cc
all-three false false false ha hb hc = cc

is-input : (script : Script) (name : List ℕ) (b : Binding) (file : List ℕ) → bytes_eq name b.name ≡ true → b.target ≡ target.File file → is_assigned script name ≡ false → is_used script name ≡ true → is_input_by (is_assigned script) (is_used script) b ≡ true
is-input script name b file hn ht ha hu = let e : name ≡ b.name = (bytes_eq-Decides name b.name).0 hn in all-three (is_number_target b.target) (is_assigned script b.name) (is_used script b.name) (ap is_number_target ht) (ap (is_assigned script) (sym e) ∙ ha) (ap (is_used script) (sym e) ∙ hu)

-- a used name that is bound to a file and not assigned has the number of its input, in the role of its first use
pub found-input : (script : Script) (name : List ℕ) (b : Binding) (file : List ℕ) (role : UsedAs) → binding_of script name ≡ Some b → b.target ≡ target.File file → is_assigned script name ≡ false → role_of (script_uses script) name ≡ Some role → (n : ℕ) × (input_number script name ≡ Some n) × (slice_get (inputs_of script) n ≡ Some (input_as_used role b))
unfolding HasPlace
found-input script name b file role hb ht ha hr =
    let found = sym (bound-first script.bindings name) ∙ hb in
    let named = found-passes (λ c. bytes_eq name c.name) script.bindings b found in
    let same : name ≡ b.name = (bytes_eq-Decides name b.name).0 named in
    let bound = binding_of script script.area in
    let i = place-among (is_input_by (is_assigned script) (is_used script)) name (inputs_before bound) script.bindings b found (is-input script name b file named ht ha (ap is_some hr)) in
    let its : role_by script b ≡ role = ap (λ n. unwrap_or (role_of (script_uses script) n) used.Grid) (sym same) ∙ ap (λ o. unwrap_or o used.Grid) hr in
    (inputs_before bound + i.0, i.1, input-at script bound script.area (used_inputs script) i.0 b i.2 ∙ ap (λ r. Some (input_as_used r b)) its)

-- the binding of a name has nothing that no binding has
pub bound-none : (q : Binding → Bool) (script : Script) (name : List ℕ) (b : Binding) → list_any q script.bindings ≡ false → binding_of script name ≡ Some b → q b ≡ false
bound-none q script name b ha hb = found-none (λ c. bytes_eq name c.name) q script.bindings b ha (sym (bound-first script.bindings name) ∙ hb)
