-- The bindings and their tests, one binding more.
use Rattle.std.proofs.Common.{◌≡◌, ◌+◌, ◌<◌, ℕ, Bool, true, false, List, [], ◌∷◌, ◌++◌, length, take, get_or, Option, Some, None, Err, refl, ◌∙◌, ap, if◌then◌else◌, arith}
use Rattle.std.specs.Option.{is_some}
use Rattle.std.specs.Str.{bytes_eq}
use Rattle.std.proofs.lemmas.Slice.Eq.{bytes_eq-Decides}
use Rattle.std.proofs.lemmas.List.{take_more}
use Rattle.script_syntax.specs.declared.tree.Binding.{Binding}
use Rattle.script_types.specs.declared.fault.MeaningFault.{MeaningFault}
use Rattle.script_types.specs.declared.fault.MeaningKind.TheVariants.{NameClash, KindMismatch}
use Rattle.script_types.specs.declared.fault.Place.TheVariants as place
use Rattle.script_types.specs.Checks.{passed}
use Rattle.script_types.specs.Names.{place_from}
use Rattle.script_types.specs.Typing.{or_kind}
use Rattle.script_types.specs.Meaning.{binding_checks, is_bad_number}
use Rattle.script_types.specs.inside.Answers.{bindings_pass}

first-if : {A : Type 0} (t : Bool) (x : A) (a b : Option A) → (if t then Some x else or_kind a b) ≡ or_kind (if t then Some x else a) b
first-if true x a b = refl
first-if false x a b = refl

-- the place of a name among the bindings with one more
pub place-push : (k : ℕ) (bs : List Binding) (b : Binding) (name : List ℕ) → place_from k (bs ++ b ∷ []) name ≡ or_kind (place_from k bs name) (if bytes_eq name b.name then Some (k + length bs) else None)
place-push k [] b name = let e : k ≡ k + 0 = omega arith in ap (λ n. if bytes_eq name b.name then Some n else None) e
place-push k (c ∷ cs) b name = let e : k + 1 + length cs ≡ k + length (c ∷ cs) = omega arith in ap (λ r. if bytes_eq name c.name then Some k else r) (place-push (k + 1) cs b name) ∙ first-if (bytes_eq name c.name) k (place_from (k + 1) cs name) (if bytes_eq name b.name then Some (k + 1 + length cs) else None) ∙ ap (λ n. or_kind (if bytes_eq name c.name then Some k else place_from (k + 1) cs name) (if bytes_eq name b.name then Some n else None)) e

new-place : (t : Bool) (known : Option ℕ) (n : ℕ) → (t ≡ true → known ≡ None) → or_kind known (if t then Some n else None) ≡ (if t then Some n else known)
new-place true known n h = ap (λ k. or_kind k (Some n)) (h refl)
new-place false None n h = refl
new-place false (Some m) n h = refl

-- the places of the bindings with one more, whose name is new
pub place-more : (bs : List Binding) (i : ℕ) (b : Binding) (name : List ℕ) → i < length bs → length (take i bs) ≡ i → get_or bs i b ≡ b → place_from 0 (take i bs) b.name ≡ None → place_from 0 (take (i + 1) bs) name ≡ (if bytes_eq name b.name then Some i else place_from 0 (take i bs) name)
place-more bs i b name h hl hb hn =
    ap (λ xs. place_from 0 xs name) (take_more bs i b h ∙ ap (λ x. take i bs ++ x ∷ []) hb) ∙ place-push 0 (take i bs) b name ∙ new-place (bytes_eq name b.name) (place_from 0 (take i bs) name) (0 + length (take i bs)) (λ k. ap (place_from 0 (take i bs)) ((bytes_eq-Decides name b.name).0 k) ∙ hn) ∙ ap (λ n. if bytes_eq name b.name then Some n else place_from 0 (take i bs) name) (let e : 0 + length (take i bs) ≡ i = omega (arith, hl) in e)

-- nothing is there
pub none-of : {A : Type 0} (o : Option A) → is_some o ≡ false → o ≡ None
none-of None h = refl
none-of (Some x) h = cc

-- the first test holds
pub passed-first : {F A : Type 0} (f : F) (x : Bool) (rest : List (F × Bool)) (a : A) → x ≡ true → passed ((f, x) ∷ rest) a ≡ Err f
passed-first f x rest a h = ap (λ u. if u then Err f else passed rest a) h

-- the first test does not hold
pub passed-over : {F A : Type 0} (f : F) (x : Bool) (rest : List (F × Bool)) (a : A) → x ≡ false → passed ((f, x) ∷ rest) a ≡ passed rest a
passed-over f x rest a h = ap (λ u. if u then Err f else passed rest a) h

-- the faults of a binding
abbrev clash-at : ℕ → MeaningFault
clash-at n = record { at = place.Binding (n + 1); kind = NameClash }

abbrev mismatch-at : ℕ → MeaningFault
mismatch-at n = record { at = place.Binding (n + 1); kind = KindMismatch }

-- the name of the next binding stands above
pub clash-next : (before : List Binding) (b : Binding) (rest : List Binding) (n : ℕ) → length before ≡ n → is_some (place_from 0 before b.name) ≡ true → bindings_pass before (b ∷ rest) ≡ Err (record { at = place.Binding (n + 1); kind = NameClash })
clash-next before b rest n hn h = passed-first (clash-at (length before)) (is_some (place_from 0 before b.name)) ((mismatch-at (length before), is_bad_number b.target b.kind) ∷ binding_checks (before ++ b ∷ []) rest) 0 h ∙ ap (λ k. Err (clash-at k)) hn

-- the number of the next binding has no value of its kind
pub mismatch-next : (before : List Binding) (b : Binding) (rest : List Binding) (n : ℕ) → length before ≡ n → is_some (place_from 0 before b.name) ≡ false → is_bad_number b.target b.kind ≡ true → bindings_pass before (b ∷ rest) ≡ Err (record { at = place.Binding (n + 1); kind = KindMismatch })
mismatch-next before b rest n hn hc h = passed-over (clash-at (length before)) (is_some (place_from 0 before b.name)) ((mismatch-at (length before), is_bad_number b.target b.kind) ∷ binding_checks (before ++ b ∷ []) rest) 0 hc ∙ passed-first (mismatch-at (length before)) (is_bad_number b.target b.kind) (binding_checks (before ++ b ∷ []) rest) 0 h ∙ ap (λ k. Err (mismatch-at k)) hn

-- the next binding is right
pub binding-right : (before : List Binding) (b : Binding) (rest : List Binding) → is_some (place_from 0 before b.name) ≡ false → is_bad_number b.target b.kind ≡ false → bindings_pass before (b ∷ rest) ≡ bindings_pass (before ++ b ∷ []) rest
binding-right before b rest hc h = passed-over (clash-at (length before)) (is_some (place_from 0 before b.name)) ((mismatch-at (length before), is_bad_number b.target b.kind) ∷ binding_checks (before ++ b ∷ []) rest) 0 hc ∙ passed-over (mismatch-at (length before)) (is_bad_number b.target b.kind) (binding_checks (before ++ b ∷ []) rest) 0 h
