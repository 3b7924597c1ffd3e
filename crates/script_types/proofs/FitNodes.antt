-- That what an expression is at its place fits: numbers and names.
use Rattle.std.proofs.Common.{◌≡◌, ℕ, Bool, true, false, not, ◌&&◌, ◌==◌, ℤ, int_le, ◌≤ℤ◌, List, [], ◌∷◌, refl, sym, ap, subst, ◌∙◌, Result, Ok, Err, if◌then◌else◌, arith}
use Rattle.std.specs.Prelude.{⊤, Option, None, Some, slice_get}
use Rattle.std.specs.Option.{unwrap_or}
use Rattle.std.specs.Result.{is_err}
use Rattle.std.proofs.lemmas.Int.{ints}
use Rattle.text_base.specs.Results.{◌>>=◌}
use Rattle.cell_values.specs.declared.cell.Cell.{Cell}
use Rattle.cell_values.specs.declared.cell.Cell.TheVariants.{Mv, Val}
use Rattle.cell_values.specs.Kinds.{greatest, least}
use Rattle.cell_values.proofs.Callers.{value-from_cell}
use Rattle.cell_values.specs.declared.cell.NumberFault.{NumberFault}
use Rattle.cell_values.specs.declared.kind.Kind.{Kind}
use Rattle.cell_values.specs.declared.kind.Kind.TheVariants.{Scalar, Ldd}
use Rattle.cell_values.specs.inside.Reading.{cell_read}
use Rattle.script_syntax.specs.declared.tree.Binding.{Binding}
use Rattle.script_syntax.specs.declared.tree.Target.{Target}
use Rattle.script_syntax.specs.declared.tree.Target.TheVariants as target
use Rattle.map_meaning.specs.declared.program.InputUse.{InputUse}
use Rattle.map_meaning.specs.declared.program.Role.{Role}
use Rattle.map_meaning.specs.declared.program.Role.TheVariants.{Grid, Stack, Table, Series}
use Rattle.map_meaning.specs.declared.tree.Tree.{Tree}
use Rattle.map_meaning.specs.declared.tree.Tree.TheVariants as tree
use Rattle.map_meaning.specs.Table.{is_kind}
use Rattle.map_meaning.specs.Trees.{meaning_of}
use Rattle.map_meaning.proofs.Callers.{meaning_of-Input, meaning_of-Name, meaning_of-Number, same_kind}
use Rattle.map_meaning.specs.Programs.{is_id_kind}
use Rattle.script_types.specs.declared.fault.MeaningKind.{MeaningKind}
use Rattle.script_types.specs.declared.fault.MeaningKind.TheVariants.{BadStackName, DrainPlace, NameClash}
use Rattle.script_types.specs.declared.typed.Typed.{Typed}
use Rattle.script_types.specs.declared.typed.Typed.TheVariants as typed
use Rattle.script_types.specs.declared.typed.UsedAs.{UsedAs}
use Rattle.script_types.specs.declared.typed.UsedAs.TheVariants as used
use Rattle.script_types.specs.declared.typed.Value.{Value}
use Rattle.script_types.specs.Checks.{passed}
use Rattle.script_types.specs.Lowered.{input_as_used, used_kind, input_role}
use Rattle.script_types.specs.Meaning.{is_bad_number}
use Rattle.script_types.specs.Names.{is_bad_prefix, is_same_use, is_stack}
use Rattle.script_types.specs.Statements.{is_dynamic}
use Rattle.script_types.specs.Typing.{Scope, assigned_read, bound_read, cell_value, constant_read, input_as, input_checks, input_in, is_input_tree, is_its_role, name_read, number_as, target_read}
use Rattle.script_types.specs.inside.Fits.{Ground, fits, is_ids, is_input_as, is_input_of, is_of, is_role}
use Rattle.script_types.specs.inside.Sound.{is_cell, is_sound}
use Rattle.script_types.proofs.FitLemmas.{both-left, both-right, fits-input-is, fits-name-is, fits-number-is}
use Rattle.script_types.proofs.FoundRows.{neither-left}
use Rattle.script_types.proofs.RowKinds.{both-are, kind-itself}
use Rattle.script_types.proofs.SoundLemmas.{sound-input, sound-name, sound-number}

-- ---- results

-- a value that is had has one before it
pub value-before : {A B F : Type 0} (r : Result A F) (k : A → Result B F) (y : B) → (r >>= k) ≡ Ok y → (x : A) × (r ≡ Ok x) × (k x ≡ Ok y)
value-before (Ok x) k y h = (x, refl, h)
value-before (Err e) k y h = cc

passed-by : {F A : Type 0} (b : Bool) (f : F) (r : Result A F) (x y : A) → (r ≡ Ok y → x ≡ y) → (if b then Err f else r) ≡ Ok y → x ≡ y
passed-by true f r x y ih h = cc
passed-by false f r x y ih h = ih h

-- what passes is the value
pub passed-is : {F A : Type 0} (cs : List (F × Bool)) (x y : A) → passed cs x ≡ Ok y → x ≡ y
passed-is [] x y h = cc
passed-is (c ∷ cs) x y h = passed-by c.1 c.0 (passed cs x) x y (passed-is cs x y) h

-- where it passes the first test does not hold
pub passed-test : {F A : Type 0} (c : F × Bool) (cs : List (F × Bool)) (x y : A) → passed (c ∷ cs) x ≡ Ok y → c.1 ≡ false
passed-test c cs x y h = by-test c.1 refl h
  where
    by-test : (b : Bool) → c.1 ≡ b → (if b then Err c.0 else passed cs x) ≡ Ok y → c.1 ≡ false
    by-test true hb g = cc
    by-test false hb g = hb

-- and the others pass
pub passed-rest : {F A : Type 0} (c : F × Bool) (cs : List (F × Bool)) (x y : A) → passed (c ∷ cs) x ≡ Ok y → passed cs x ≡ Ok y
passed-rest c cs x y h = by-test c.1 h
  where
    by-test : (b : Bool) → (if b then Err c.0 else passed cs x) ≡ Ok y → passed cs x ≡ Ok y
    by-test true g = cc
    by-test false g = g

pub not-not : (b : Bool) → not b ≡ false → b ≡ true
not-not true h = refl
not-not false h = cc

abbrev told : {A : Type 0} → A → Result A MeaningKind
told x = Ok x

-- equal results have equal values
pub ok-one : {A : Type 0} {x y : A} → told x ≡ told y → x ≡ y
ok-one k = cc

-- ---- what is good

-- the expression fits, has this kind, and keeps to the table
pub record IsGood (g : Ground) (t : Tree) (kind : Kind) : Type 0 where
  pub value : fits g t ≡ true
  pub of_kind : (meaning_of t).kind ≡ kind
  pub sound : is_sound t ≡ true

-- it is an input that is a map of ids
pub record IsIdsMap (g : Ground) (ids : Value) : Type 0 where
  pub good : IsGood g ids.tree ids.kind
  pub kind : is_id_kind ids.kind ≡ true
  pub input : is_input_tree ids.tree ≡ true
  pub number : is_ids g.inputs (input_in ids.tree) ≡ true

-- What an expression is in a role fits, where it is a map or is sampled; and a table, a series or a stack is an input of its
-- role and kind. What is sampled and a stack are no drain maps.
abbrev pub IsGoodTyped : Ground → UsedAs → Typed → Type 0
IsGoodTyped g role (typed.Map v) = IsGood g v.tree v.kind
IsGoodTyped g role (typed.Table kind n) = (keys : ℕ) × (role ≡ used.Table keys kind) × (is_input_of g.inputs (Table keys) kind n ≡ true)
IsGoodTyped g role (typed.Series kind n) = (role ≡ used.Series kind) × (is_input_of g.inputs Series kind n ≡ true)
IsGoodTyped g role (typed.Stack kind n) = (is_kind Ldd kind ≡ false) × (is_input_of g.inputs Stack kind n ≡ true)
IsGoodTyped g role (typed.Sample ids v) = IsGood g v.tree v.kind × IsIdsMap g ids × (g.in_steps ≡ true) × (is_kind Ldd v.kind ≡ false)
IsGoodTyped g role (typed.Literal text) = ⊤
IsGoodTyped g role (typed.Constant text) = ⊤

-- What names are where an expression stands: no number is at fault, and bound files that are used are inputs in the role of
-- their first use.
pub record IsGoodScope (s : Scope) (inputs : List InputUse) : Type 0 where
  pub number : (name : List ℕ) (b : Binding) → s.binding name ≡ Some b → is_bad_number b.target b.kind ≡ false
  pub input : (name : List ℕ) (b : Binding) (file : List ℕ) (role : UsedAs) → s.binding name ≡ Some b → b.target ≡ target.File file → s.is_assigned name ≡ false → s.role name ≡ Some role →
      (n : ℕ) × (s.input name ≡ Some n) × (slice_get inputs n ≡ Some (input_as_used role b))

-- the ground of a scope
abbrev pub ground-of : Scope → List InputUse → Ground
ground-of s inputs = record { inputs = inputs; above = λ name. if s.is_sampled name then None else s.above name; in_steps = is_dynamic s.section }

-- ---- roles

same-table : (m n : ℕ) (j k : Kind) → ((m == n) && is_kind j k) ≡ true → used.Table m j ≡ used.Table n k
same-table m n j k h =
    let a = both-left (m == n) (is_kind j k) h in
    let e : m ≡ n = grind (arith, a) in
    ap (λ x. used.Table x j) e ∙ ap (used.Table n) (same_kind j k (both-right (m == n) (is_kind j k) h))

-- uses that pass the test are the same
pub same-use : (a b : UsedAs) → is_same_use a b ≡ true → a ≡ b
same-use used.Grid used.Grid h = refl
same-use used.Grid used.Stack h = cc
same-use used.Grid (used.Table n k) h = cc
same-use used.Grid (used.Series k) h = cc
same-use used.Stack used.Grid h = cc
same-use used.Stack used.Stack h = refl
same-use used.Stack (used.Table n k) h = cc
same-use used.Stack (used.Series k) h = cc
same-use (used.Table m j) used.Grid h = cc
same-use (used.Table m j) used.Stack h = cc
same-use (used.Table m j) (used.Table n k) h = same-table m n j k h
same-use (used.Table m j) (used.Series k) h = cc
same-use (used.Series j) used.Grid h = cc
same-use (used.Series j) used.Stack h = cc
same-use (used.Series j) (used.Table n k) h = cc
same-use (used.Series j) (used.Series k) h = ap used.Series (same_kind j k h)

-- a name that is used as at its first use has that role
pub in-role : (o : Option UsedAs) (role : UsedAs) → is_its_role o role ≡ true → o ≡ Some role
in-role None role h = cc
in-role (Some x) role h = ap Some (same-use x role h)

-- a role is itself
pub role-itself : (r : Role) → is_role r r ≡ true
role-itself Grid = refl
role-itself Stack = refl
role-itself (Table n) = grind arith
role-itself Series = refl

-- the input of a binding in its role passes its test
pub input-passes : (inputs : List InputUse) (role : UsedAs) (b : Binding) (n : ℕ) → slice_get inputs n ≡ Some (input_as_used role b) → is_input_of inputs (input_role role) (used_kind role b.kind) n ≡ true
input-passes inputs role b n h = ap (λ o. is_input_as o (input_role role) (used_kind role b.kind)) h ∙ both-are (is_role (input_role role) (input_role role)) (is_kind (used_kind role b.kind) (used_kind role b.kind)) (role-itself (input_role role)) (kind-itself (used_kind role b.kind))

-- ---- numbers and names

int-test : (a b : ℤ) → a ≤ℤ b → int_le a b ≡ true
int-test a b h = grind (arith, ints)

-- a cell that is read is one of the kind
cell-in : (kind : Kind) (text : List ℕ) (cell : Cell) → cell_read kind text ≡ Ok cell → is_cell kind cell ≡ true
cell-in kind text Mv h = refl
cell-in kind text (Val z) h = let v = (value-from_cell kind text z h).2.value in both-are (int_le (least kind) z) (int_le z (greatest kind)) (int-test (least kind) z v.least) (int-test z (greatest kind) v.greatest)

number-cell : (g : Ground) (kind : Kind) (text : List ℕ) (r : Result Cell NumberFault) (v : Value) → cell_read kind text ≡ r → is_kind Ldd kind ≡ false → cell_value kind r ≡ Ok v → IsGood g v.tree v.kind × (kind ≡ v.kind)
number-cell g kind text (Ok cell) v hr hk h = let e : record { kind = kind; tree = tree.Number kind cell } ≡ v = cc in
    subst (λ (w : Value). IsGood g w.tree w.kind × (kind ≡ w.kind)) e (record { value = fits-number-is g kind cell ∙ ap not hk; of_kind = ap (λ m. m.kind) (meaning_of-Number kind cell); sound = sound-number kind cell ∙ cell-in kind text cell hr }, refl)
number-cell g kind text (Err f) v hr hk h = cc

-- a number of a kind
pub number-good : (g : Ground) (kind : Kind) (text : List ℕ) (v : Value) → is_kind Ldd kind ≡ false → number_as kind text ≡ Ok v → IsGood g v.tree v.kind × (kind ≡ v.kind)
number-good g kind text v hk h = number-cell g kind text (cell_read kind text) v refl hk h

assigned-good : (s : Scope) (inputs : List InputUse) (role : UsedAs) (name : List ℕ) (t : Typed) (sampled : Bool) (o : Option Kind) → IsGoodScope s inputs → s.is_sampled name ≡ sampled → s.above name ≡ o → assigned_read sampled name o ≡ Ok t → IsGoodTyped (ground-of s inputs) role t
assigned-good s inputs role name t sampled None hs hd ho h = cc
assigned-good s inputs role name t true (Some k) hs hd ho h = cc
assigned-good s inputs role name t false (Some k) hs hd ho h = let e : typed.Map (record { kind = k; tree = tree.Name k name }) ≡ t = cc in
    let there = ap (λ b. if b then None else s.above name) hd ∙ ho in
    subst (IsGoodTyped (ground-of s inputs) role) e (record { value = fits-name-is (ground-of s inputs) k name ∙ ap (λ x. is_of x k) there ∙ kind-itself k; of_kind = ap (λ m. m.kind) (meaning_of-Name k name); sound = sound-name k name })

input-good : (g : Ground) (role : UsedAs) (given : Option Kind) (n : ℕ) → (is_stack role && is_kind Ldd (unwrap_or given Scalar)) ≡ false → is_input_of g.inputs (input_role role) (used_kind role given) n ≡ true → IsGoodTyped g role (input_as role (unwrap_or given Scalar) n)
input-good g used.Grid given n hk h = let kind = unwrap_or given Scalar in record { value = fits-input-is g kind n ∙ h; of_kind = ap (λ m. m.kind) (meaning_of-Input kind n); sound = sound-input kind n }
input-good g used.Stack given n hk h = (hk, h)
input-good g (used.Table keys of) given n hk h = (keys, refl, h)
input-good g (used.Series of) given n hk h = (refl, h)

constant-good : (g : Ground) (role : UsedAs) (o : Option Kind) (text : List ℕ) (t : Typed) → is_bad_number (target.Number text) o ≡ false → constant_read o text ≡ Ok t → IsGoodTyped g role t
constant-good g role None text t hk h = let e : typed.Constant text ≡ t = cc in subst (IsGoodTyped g role) e tt
constant-good g role (Some kind) text t hk h = let b = value-before (number_as kind text) (λ v. Ok (typed.Map v)) t h in let e : typed.Map b.0 ≡ t = ok-one b.2 in subst (IsGoodTyped g role) e (number-good g kind text b.0 (neither-left (is_kind Ldd kind) (is_err (cell_read kind text)) hk) b.1).0

-- what the tests at the name of an input leave: its role, and that it is no stack of drain maps
pub record PassesAs (s : Scope) (role : UsedAs) (name : List ℕ) (kind : Kind) : Type 0 where
  pub its : is_its_role (s.role name) role ≡ true
  pub plain : (is_stack role && is_kind Ldd kind) ≡ false

passes-as : (s : Scope) (role : UsedAs) (name file : List ℕ) (kind : Kind) (x y : Typed) → passed (input_checks s role name file kind) x ≡ Ok y → PassesAs s role name kind
passes-as s role name file kind x y h =
    let c0 : MeaningKind × Bool = (NameClash, not (is_its_role (s.role name) role)) in
    let c1 : MeaningKind × Bool = (DrainPlace, is_stack role && is_kind Ldd kind) in
    let c2 : MeaningKind × Bool = (BadStackName, is_stack role && is_bad_prefix file s.steps) in
    record { its = not-not (is_its_role (s.role name) role) (passed-test c0 (c1 ∷ c2 ∷ []) x y h); plain = passed-test c1 (c2 ∷ []) x y (passed-rest c0 (c1 ∷ c2 ∷ []) x y h) }

target-good : (s : Scope) (inputs : List InputUse) (role : UsedAs) (name : List ℕ) (t : Typed) (b : Binding) (to : Target) → IsGoodScope s inputs → s.is_assigned name ≡ false → s.binding name ≡ Some b → b.target ≡ to → target_read s role name b.kind to ≡ Ok t → IsGoodTyped (ground-of s inputs) role t
target-good s inputs role name t b (target.Number text) hs ha hb ht h = constant-good (ground-of s inputs) role b.kind text t (ap (λ to. is_bad_number to b.kind) (sym ht) ∙ hs.number name b hb) h
target-good s inputs role name t b (target.File file) hs ha hb ht h =
    let kind = unwrap_or b.kind Scalar in
    let passes = passes-as s role name file kind (input_as role kind (unwrap_or (s.input name) 0)) t h in
    let i = hs.input name b file role hb ht ha (in-role (s.role name) role passes.its) in
    let e = ap (λ n. input_as role kind (unwrap_or n 0)) (sym i.1) ∙ passed-is (input_checks s role name file kind) (input_as role kind (unwrap_or (s.input name) 0)) t h in
    subst (IsGoodTyped (ground-of s inputs) role) e (input-good (ground-of s inputs) role b.kind i.0 passes.plain (input-passes inputs role b i.0 i.2))

name-good-by : (s : Scope) (inputs : List InputUse) (role : UsedAs) (name : List ℕ) (t : Typed) (o : Option Binding) → IsGoodScope s inputs → s.is_assigned name ≡ false → s.binding name ≡ o → bound_read s role name o ≡ Ok t → IsGoodTyped (ground-of s inputs) role t
name-good-by s inputs role name t None hs ha hb h = cc
name-good-by s inputs role name t (Some b) hs ha hb h = target-good s inputs role name t b b.target hs ha hb refl h

-- a name that is read
pub name-good : (s : Scope) (inputs : List InputUse) (role : UsedAs) (name : List ℕ) (t : Typed) → IsGoodScope s inputs → name_read s role name ≡ Ok t → IsGoodTyped (ground-of s inputs) role t
unfolding name_read
name-good s inputs role name t hs h = by-test (s.is_assigned name) refl h
  where
    by-test : (b : Bool) → s.is_assigned name ≡ b → (if b then assigned_read (s.is_sampled name) name (s.above name) else bound_read s role name (s.binding name)) ≡ Ok t → IsGoodTyped (ground-of s inputs) role t
    by-test true hb g = assigned-good s inputs role name t (s.is_sampled name) (s.above name) hs refl refl g
    by-test false hb g = name-good-by s inputs role name t (s.binding name) hs hb refl g
