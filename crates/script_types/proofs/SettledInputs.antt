-- What the inputs of a script without a fault have: roles that suit, prefixes of stacks, and an area map that is a grid.
use Rattle.std.proofs.Common.{◌≡◌, ◌≢◌, ℕ, ◌+◌, Bool, true, false, not, ◌&&◌, List, [], ◌∷◌, ◌++◌, map, filter, length, refl, sym, ap, subst, ◌∙◌, Ok, if◌then◌else◌, arith}
use Rattle.std.specs.Prelude.{Option, None, Some, slice_get}
use Rattle.std.specs.List.{find}
use Rattle.std.specs.Option.{is_some, unwrap_or}
use Rattle.std.specs.Str.{bytes_eq}
use Rattle.std.proofs.lemmas.Slice.Eq.{bytes_eq-Decides}
use Rattle.cell_values.specs.declared.kind.Kind.{Kind}
use Rattle.cell_values.specs.declared.kind.Kind.TheVariants.{Scalar, Ldd}
use Rattle.script_syntax.specs.declared.tree.Binding.{Binding}
use Rattle.script_syntax.specs.declared.tree.Script.{Script}
use Rattle.script_syntax.specs.declared.tree.Target.{Target}
use Rattle.script_syntax.specs.declared.tree.Target.TheVariants as target
use Rattle.map_meaning.specs.declared.program.InputUse.{InputUse}
use Rattle.map_meaning.specs.declared.program.Program.{Program}
use Rattle.map_meaning.specs.declared.program.Role.TheVariants.{Grid}
use Rattle.map_meaning.specs.Programs.{IsInput, SuitsRole, is_stack_role}
use Rattle.map_meaning.specs.Table.{is_kind}
use Rattle.script_types.specs.declared.fault.MeaningFault.{MeaningFault}
use Rattle.script_types.specs.declared.fault.MeaningKind.TheVariants.{KindMismatch, NameClash}
use Rattle.script_types.specs.declared.fault.Place.TheVariants as place
use Rattle.script_types.specs.declared.typed.Line.{Line}
use Rattle.script_types.specs.declared.typed.UsedAs.{UsedAs}
use Rattle.script_types.specs.declared.typed.UsedAs.TheVariants as used
use Rattle.script_types.specs.Checks.{passed}
use Rattle.script_types.specs.Lowered.{area_number, grid_input, input_as_used, used_kind, input_of, input_role, inputs_of}
use Rattle.script_types.specs.Meaning.{binding_checks, is_bad_number, meaning}
use Rattle.script_types.specs.Names.{binding_of, inputs_before, is_assigned, is_bad_prefix, is_bound_to_number, is_input_by, is_number_target, is_stack, is_used, place_from, role_of, script_uses, statements_uses, target_file, used_inputs}
use Rattle.script_types.specs.Reports.{area_files}
use Rattle.script_types.proofs.FitLemmas.{both-left, both-right, not-true}
use Rattle.script_types.proofs.FitNodes.{passed-rest, passed-test}
use Rattle.script_types.proofs.FoundInputs.{bound-first, found-input}
use Rattle.script_types.proofs.InputForms.{there-input}
use Rattle.script_types.proofs.Pairwise.{Each, Pairs, each-append, each-map, each-weaken}
use Rattle.script_types.proofs.SettledFits.{HasLines, has-lines}
use Rattle.script_types.proofs.SettledUses.{IsReadIn, SuitsUse, first-use, script-read}

-- ---- each of a list

-- what holds of each of two lists holds of each of both
pub each-first : {A : Type 0} (P : A → Type 0) (xs ys : List A) → Each P (xs ++ ys) → Each P xs
each-first P [] ys h = tt
each-first P (x ∷ xs) ys h = (h.0, each-first P xs ys h.1)

pub each-last : {A : Type 0} (P : A → Type 0) (xs ys : List A) → Each P (xs ++ ys) → Each P ys
each-last P [] ys h = h
each-last P (x ∷ xs) ys h = each-last P xs ys h.1

pub each-both : {A : Type 0} (P Q : A → Type 0) (xs : List A) → Each P xs → Each Q xs → Each (λ x. P x × Q x) xs
each-both P Q [] hp hq = tt
each-both P Q (x ∷ xs) hp hq = ((hp.0, hq.0), each-both P Q xs hp.1 hq.1)

kept-each : {A : Type 0} (P : A → Type 0) (p : A → Bool) (b : Bool) (x : A) (rest : List A) → p x ≡ b → P x → Each (λ y. P y × (p y ≡ true)) rest → Each (λ y. P y × (p y ≡ true)) (if b then x ∷ rest else rest)
kept-each P p true x rest hb hx h = ((hx, hb), h)
kept-each P p false x rest hb hx h = h

-- what a filter keeps has what each had, and passes
pub each-filter : {A : Type 0} (P : A → Type 0) (p : A → Bool) (xs : List A) → Each P xs → Each (λ x. P x × (p x ≡ true)) (filter p xs)
each-filter P p [] h = tt
each-filter P p (x ∷ xs) h = kept-each P p (p x) x (filter p xs) refl h.0 (each-filter P p xs h.1)

-- ---- bindings have different names

-- the binding has another name than each of these
abbrev pub IsApart : List Binding → Binding → Type 0
IsApart before b = Each (λ (c : Binding). bytes_eq b.name c.name ≡ false) before

-- no two of them have one name
abbrev pub AreApart : List Binding → Type 0
AreApart bs = Pairs (λ (b c : Binding). bytes_eq c.name b.name ≡ false) bs

no-place : (k : ℕ) (bs : List Binding) (name : List ℕ) → is_some (place_from k bs name) ≡ false → Each (λ (c : Binding). bytes_eq name c.name ≡ false) bs
no-place k [] name h = tt
no-place k (b ∷ bs) name h = by-test (bytes_eq name b.name) refl (no-place (k + 1) bs name) h
  where
    by-test : (t : Bool) → bytes_eq name b.name ≡ t → (is_some (place_from (k + 1) bs name) ≡ false → Each (λ (c : Binding). bytes_eq name c.name ≡ false) bs) → is_some (if t then Some k else place_from (k + 1) bs name) ≡ false → (bytes_eq name b.name ≡ false) × Each (λ (c : Binding). bytes_eq name c.name ≡ false) bs
    by-test true ht ih g = cc
    by-test false ht ih g = (ht, ih g)

apart-below : {A : Type 0} (before bs : List Binding) (x y : A) → passed (binding_checks before bs) x ≡ Ok y → Each (IsApart before) bs × AreApart bs
apart-below before [] x y h = (tt, tt)
apart-below before (b ∷ bs) x y h =
    let clash : MeaningFault × Bool = (record { at = place.Binding (length before + 1); kind = NameClash }, is_some (place_from 0 before b.name)) in
    let bad : MeaningFault × Bool = (record { at = place.Binding (length before + 1); kind = KindMismatch }, is_bad_number b.target b.kind) in
    let rest = binding_checks (before ++ b ∷ []) bs in
    let more = apart-below (before ++ b ∷ []) bs x y (passed-rest bad rest x y (passed-rest clash (bad ∷ rest) x y h)) in
    let first = no-place 0 before b.name (passed-test clash (bad ∷ rest) x y h) in (
      (first, each-weaken (IsApart (before ++ b ∷ [])) (IsApart before) bs (λ c k. each-first (λ (d : Binding). bytes_eq c.name d.name ≡ false) before (b ∷ []) k) more.0),
      (each-weaken (IsApart (before ++ b ∷ [])) (λ (c : Binding). bytes_eq c.name b.name ≡ false) bs (λ c k. (each-last (λ (d : Binding). bytes_eq c.name d.name ≡ false) before (b ∷ []) k).0) more.0, more.1),
    )

-- the bindings of a script without a fault have different names
pub bindings-apart : (script : Script) (lines : List Line) → HasLines script lines → AreApart script.bindings
bindings-apart script lines h = (apart-below [] script.bindings script h.bound_is h.bound).1

-- each is the binding of its name
itself-first : (bs : List Binding) → AreApart bs → Each (λ (b : Binding). find (λ (c : Binding). bytes_eq b.name c.name) bs ≡ Some b) bs
itself-first [] h = tt
itself-first (b ∷ bs) h = (
  ap (λ t. if t then Some b else find (λ (c : Binding). bytes_eq b.name c.name) bs) ((bytes_eq-Decides b.name b.name).1 refl),
  each-weaken (λ (c : Binding). (bytes_eq c.name b.name ≡ false) × (find (λ (d : Binding). bytes_eq c.name d.name) bs ≡ Some c)) (λ (c : Binding). find (λ (d : Binding). bytes_eq c.name d.name) (b ∷ bs) ≡ Some c) bs
      (λ c k. ap (λ t. if t then Some b else find (λ (d : Binding). bytes_eq c.name d.name) bs) k.0 ∙ k.1)
      (each-both (λ (c : Binding). bytes_eq c.name b.name ≡ false) (λ (c : Binding). find (λ (d : Binding). bytes_eq c.name d.name) bs ≡ Some c) bs h.0 (itself-first bs h.1)),
)

pub bound-itself : (script : Script) → AreApart script.bindings → Each (λ (b : Binding). binding_of script b.name ≡ Some b) script.bindings
bound-itself script h = each-weaken (λ (b : Binding). find (λ (c : Binding). bytes_eq b.name c.name) script.bindings ≡ Some b) (λ (b : Binding). binding_of script b.name ≡ Some b) script.bindings (λ b k. bound-first script.bindings b.name ∙ k) (itself-first script.bindings h)

-- ---- inputs

-- what a binding that is an input has
pub record IsUsedInput (script : Script) (b : Binding) : Type 0 where
  pub bound : binding_of script b.name ≡ Some b
  pub file : List ℕ
  pub file_is : b.target ≡ target.File file
  pub free : is_assigned script b.name ≡ false

file-is : (to : Target) → is_number_target to ≡ false → (file : List ℕ) × (to ≡ target.File file)
file-is (target.File file) h = (file, refl)
file-is (target.Number text) h = cc

used-input : (script : Script) (b : Binding) → binding_of script b.name ≡ Some b → is_input_by (is_assigned script) (is_used script) b ≡ true → IsUsedInput script b
used-input script b hb h =
    let two = both-left (not (is_number_target b.target) && not (is_assigned script b.name)) (is_used script b.name) h in
    let f = file-is b.target (not-true (is_number_target b.target) (both-left (not (is_number_target b.target)) (not (is_assigned script b.name)) two)) in
    record { bound = hb; file = f.0; file_is = f.1; free = not-true (is_assigned script b.name) (both-right (not (is_number_target b.target)) (not (is_assigned script b.name)) two) }

pub used-inputs : (script : Script) (lines : List Line) → HasLines script lines → Each (IsUsedInput script) (used_inputs script)
used-inputs script lines h =
    each-weaken (λ (b : Binding). (binding_of script b.name ≡ Some b) × (is_input_by (is_assigned script) (is_used script) b ≡ true)) (IsUsedInput script) (used_inputs script)
    (λ b k. used-input script b k.0 k.1)
    (each-filter (λ (b : Binding). binding_of script b.name ≡ Some b) (is_input_by (is_assigned script) (is_used script)) script.bindings (bound-itself script (bindings-apart script lines h)))

-- the kind is no drain map's
no-ldd : (kind : Kind) → is_kind Ldd kind ≡ false → kind ≢ Ldd
no-ldd kind h = λ e. true-false (sym (ap (is_kind Ldd) e) ∙ h)
  where
    true-false : true ≡ false → ⊥
    true-false z = grind (arith, z)

suits-role : (role : UsedAs) (given : Option Kind) → (is_stack role && is_kind Ldd (unwrap_or given Scalar)) ≡ false → SuitsUse role → SuitsRole (used_kind role given) (input_role role)
suits-role used.Grid given hk h = tt
suits-role used.Stack given hk h = no-ldd (unwrap_or given Scalar) hk
suits-role (used.Table keys kind) given hk h = (h.0, h.1, no-ldd kind h.2)
suits-role (used.Series kind) given hk h = no-ldd kind h

-- what is asked of an input: its role suits, and a stack has a prefix for its names
pub record IsGoodInput (script : Script) (i : InputUse) : Type 0 where
  pub suits : SuitsRole i.kind i.role
  pub prefix : is_stack_role i.role ≡ true → is_bad_prefix i.file script.steps ≡ false

stack-prefix : (role : UsedAs) (bad : Bool) → (is_stack role && bad) ≡ false → is_stack_role (input_role role) ≡ true → bad ≡ false
stack-prefix used.Grid bad h k = cc
stack-prefix used.Stack bad h k = h
stack-prefix (used.Table keys kind) bad h k = cc
stack-prefix (used.Series kind) bad h k = cc

good-input : (script : Script) (b : Binding) → Each (IsReadIn script) (script_uses script) → IsUsedInput script b → IsGoodInput script (input_of script b)
good-input script b hr h = by-role (role_of (script_uses script) b.name) refl
  where
    by-role : (o : Option UsedAs) → role_of (script_uses script) b.name ≡ o → IsGoodInput script (input_as_used (unwrap_or o used.Grid) b)
    by-role None ho = record { suits = tt; prefix = λ k. cc }
    by-role (Some role) ho =
        let first = first-use (IsReadIn script) (script_uses script) b.name role hr ho in
        let same : b.name ≡ first.at.name = (bytes_eq-Decides b.name first.at.name).0 first.named in
        let bound = ap (binding_of script) (sym same) ∙ h.bound in
        let free = ap (is_assigned script) (sym same) ∙ h.free in
        let plain = first.holds.plain b h.file bound h.file_is free in
        let read = first.holds.prefix b h.file bound h.file_is free in
        let file = ap (λ (t : Target). target_file t b.name) h.file_is in
        record {
          suits = suits-role role b.kind (ap (λ r. is_stack r && is_kind Ldd (unwrap_or b.kind Scalar)) (sym first.in_role) ∙ plain) (subst SuitsUse first.in_role first.holds.suits);
          prefix = λ k. ap (λ f. is_bad_prefix f script.steps) file ∙ stack-prefix role (is_bad_prefix h.file script.steps) (ap (λ r. is_stack r && is_bad_prefix h.file script.steps) (sym first.in_role) ∙ read) k;
        }

area-good : (script : Script) (o : Option Binding) → Each (IsGoodInput script) (map (λ file. grid_input file Scalar) (area_files o script.area))
area-good script None = (record { suits = tt; prefix = λ k. cc }, tt)
area-good script (Some b) = tt

-- the inputs of a script that has no fault
pub inputs-good : (script : Script) (lines : List Line) → meaning script ≡ Ok lines → Each (IsGoodInput script) (inputs_of script)
inputs-good script lines h =
    let has = has-lines script lines h in
    let read = script-read script lines has.all in
    each-append (IsGoodInput script) (map (λ file. grid_input file Scalar) (area_files (binding_of script script.area) script.area)) (map (input_of script) (used_inputs script))
    (area-good script (binding_of script script.area))
    (each-map (input_of script) (IsGoodInput script) (used_inputs script) (each-weaken (IsUsedInput script) (λ b. IsGoodInput script (input_of script b)) (used_inputs script) (λ b k. good-input script b read k) (used-inputs script lines has)))

-- they have roles that suit
pub inputs-suit : (script : Script) (lines : List Line) → meaning script ≡ Ok lines → Each (λ (i : InputUse). SuitsRole i.kind i.role) (inputs_of script)
inputs-suit script lines h = each-weaken (IsGoodInput script) (λ (i : InputUse). SuitsRole i.kind i.role) (inputs_of script) (λ i k. k.suits) (inputs-good script lines h)

-- a stack that is read has a prefix for its names
pub inputs-prefixes : (script : Script) (lines : List Line) → meaning script ≡ Ok lines → Each (λ (i : InputUse). is_stack_role i.role ≡ true → is_bad_prefix i.file script.steps ≡ false) (inputs_of script)
inputs-prefixes script lines h = each-weaken (IsGoodInput script) (λ (i : InputUse). is_stack_role i.role ≡ true → is_bad_prefix i.file script.steps ≡ false) (inputs_of script) (λ i k. k.prefix) (inputs-good script lines h)

-- ---- the area map

-- the area map is the first use of its name
pub area-role : (script : Script) → role_of (script_uses script) script.area ≡ Some used.Grid
area-role script = ap (λ t. if t then Some used.Grid else role_of (statements_uses script.initial ++ statements_uses script.dynamic) script.area) ((bytes_eq-Decides script.area script.area).1 refl)

none-if : (t u : Bool) (k : ℕ) (c : Binding) (left : List Binding) (name : List ℕ) (rest : Option Binding) → bytes_eq name c.name ≡ t → (rest ≡ None → (j : ℕ) → place_from j left name ≡ None) → (if t then Some c else rest) ≡ None → place_from k (if u then c ∷ left else left) name ≡ None
none-if true u k c left name rest ht ih h = cc
none-if false true k c left name rest ht ih h = ap (λ t. if t then Some k else place_from (k + 1) left name) ht ∙ ih h (k + 1)
none-if false false k c left name rest ht ih h = ih h k

-- a name that is not bound is none of those that pass
none-among : (p : Binding → Bool) (name : List ℕ) (k : ℕ) (bs : List Binding) → find (λ c. bytes_eq name c.name) bs ≡ None → place_from k (filter p bs) name ≡ None
none-among p name k [] h = refl
none-among p name k (c ∷ cs) h = none-if (bytes_eq name c.name) (p c) k c (filter p cs) name (find (λ x. bytes_eq name x.name) cs) refl (λ g j. none-among p name j cs g) h

-- the area map is an input grid
pub record HasArea (script : Script) : Type 0 where
  pub input : InputUse
  pub there : slice_get (inputs_of script) (area_number script) ≡ Some input
  pub grid : input.role ≡ Grid

pub area-grid : (script : Script) (lines : List Line) → HasLines script lines → HasArea script
area-grid script lines h = by-bound (binding_of script script.area) refl
  where
    at-none : place_from 1 (used_inputs script) script.area ≡ None → (o : Option Binding) → o ≡ None → slice_get (map (λ file. grid_input file Scalar) (area_files o script.area) ++ map (input_of script) (used_inputs script)) (unwrap_or (place_from (inputs_before o) (used_inputs script) script.area) 0) ≡ Some (grid_input script.area Scalar)
    at-none hp None e = ap (λ n. slice_get (grid_input script.area Scalar ∷ map (input_of script) (used_inputs script)) (unwrap_or n 0)) hp
    at-none hp (Some b) e = cc

    by-bound : (o : Option Binding) → binding_of script script.area ≡ o → HasArea script
    by-bound None e = record { input = grid_input script.area Scalar; there = at-none (none-among (is_input_by (is_assigned script) (is_used script)) script.area 1 script.bindings (sym (bound-first script.bindings script.area) ∙ e)) (binding_of script script.area) e; grid = refl }
    by-bound (Some b) e =
        let f = file-is b.target (ap is_bound_to_number (sym e) ∙ h.number) in
        let free = sym (ap (λ o. is_some o && is_assigned script script.area) e) ∙ h.assigned in
        let i = found-input script script.area b f.0 used.Grid e f.1 free (area-role script) in
        record { input = input_as_used used.Grid b; there = ap (λ n. slice_get (inputs_of script) (unwrap_or n 0)) i.1 ∙ i.2; grid = refl }

-- it is one in a program with these inputs
pub area-form : (program : Program) (script : Script) → program.inputs ≡ inputs_of script → program.area ≡ area_number script → HasArea script → IsInput program Grid program.area
area-form program script e ha h = there-input program Grid program.area h.input (ap (λ is. slice_get is program.area) e ∙ ap (slice_get (inputs_of script)) ha ∙ h.there) h.grid
