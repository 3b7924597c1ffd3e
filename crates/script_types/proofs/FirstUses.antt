-- The first use of a name among uses one after another.
use Rattle.std.proofs.Common.{◌≡◌, ℕ, Bool, true, false, List, [], ◌∷◌, ◌++◌, map, length, Option, Some, None, refl, sym, ◌∙◌, ap, if◌then◌else◌}
use Rattle.std.specs.Str.{bytes_eq}
use Rattle.std.proofs.lemmas.List.{length-map}
use Rattle.std.proofs.lemmas.Slice.Eq.{bytes_eq-Decides}
use Rattle.script_syntax.specs.declared.tree.Expr.{Expr}
use Rattle.script_syntax.specs.declared.tree.Expr.TheVariants as e
use Rattle.script_syntax.specs.declared.tree.Expr.TheVariants.{rolls-Call, rolls-Name, rolls-Number}
use Rattle.script_syntax.specs.declared.tree.Expr.TheFolds.{fold-roll-Expr}
use Rattle.script_syntax.specs.declared.tree.Expr.TheOpen.{Expr-F}
use Rattle.script_types.specs.declared.typed.UsedAs.{UsedAs}
use Rattle.script_types.specs.Names.{Use, uses, uses_level, first_role, in_roles, joined_lists, role_of}
use Rattle.script_types.specs.Typing.{or_kind}

pub or_else_assoc : {A : Type 0} (a b c : Option A) → or_kind (or_kind a b) c ≡ or_kind a (or_kind b c)
or_else_assoc None b c = refl
or_else_assoc (Some x) b c = refl

pub or_else_none : {A : Type 0} (a : Option A) → or_kind a None ≡ a
or_else_none None = refl
or_else_none (Some x) = refl

first_if : (t : Bool) (r : UsedAs) (a b : Option UsedAs) → (if t then Some r else or_kind a b) ≡ or_kind (if t then Some r else a) b
first_if true r a b = refl
first_if false r a b = refl

pub role_of_append : (us vs : List Use) (name : List ℕ) → role_of (us ++ vs) name ≡ or_kind (role_of us name) (role_of vs name)
role_of_append [] vs name = refl
role_of_append (u ∷ us) vs name = ap (λ r. if bytes_eq name u.name then Some u.role else r) (role_of_append us vs name) ∙ first_if (bytes_eq name u.name) u.role (role_of us name) (role_of vs name)

pub uses_call : (word : List ℕ) (args : List Expr) (r : UsedAs) → uses (e.Call word args) r ≡ joined_lists (in_roles (first_role word (length args)) (map uses args))
unfolding uses
uses_call word args r = ap (λ x. uses x r) (sym (rolls-Call word args)) ∙ ap (λ f. f r) (fold-roll-Expr (UsedAs → List Use) uses_level (Expr-F.Call word args)) ∙ ap (λ n. joined_lists (in_roles (first_role word n) (map uses args))) (length-map args uses)

pub uses_name : (name : List ℕ) (r : UsedAs) → uses (e.Name name) r ≡ record { name = name; role = r } ∷ []
unfolding uses
uses_name name r = ap (λ x. uses x r) (sym (rolls-Name name)) ∙ ap (λ f. f r) (fold-roll-Expr (UsedAs → List Use) uses_level (Expr-F.Name name))

pub uses_number : (text : List ℕ) (r : UsedAs) → uses (e.Number text) r ≡ []
unfolding uses
uses_number text r = ap (λ x. uses x r) (sym (rolls-Number text)) ∙ ap (λ f. f r) (fold-roll-Expr (UsedAs → List Use) uses_level (Expr-F.Number text))

-- what is known of the roles before an operand, and after it
pub next_use : (known after : Option UsedAs) (us rest : List Use) (name : List ℕ) → after ≡ or_kind known (role_of us name) → or_kind after (role_of rest name) ≡ or_kind known (role_of (us ++ rest) name)
next_use known after us rest name h = ap (λ o. or_kind o (role_of rest name)) h ∙ or_else_assoc known (role_of us name) (role_of rest name) ∙ ap (or_kind known) (sym (role_of_append us rest name))

-- a name that has no role takes this one
new_at : (t : Bool) (known : Option UsedAs) (r : UsedAs) → (t ≡ true → known ≡ None) → (if t then Some r else known) ≡ or_kind known (if t then Some r else None)
new_at true known r h = sym (ap (λ k. or_kind k (Some r)) (h refl))
new_at false known r h = sym (or_else_none known)

-- a name that has a role keeps it
kept_at : (t : Bool) (known : Option UsedAs) (r x : UsedAs) → (t ≡ true → known ≡ Some x) → known ≡ or_kind known (if t then Some r else None)
kept_at true known r x h = h refl ∙ sym (ap (λ k. or_kind k (Some r)) (h refl))
kept_at false known r x h = sym (or_else_none known)

pub new_use : (f : List ℕ → Option UsedAs) (expr : Expr) (n : List ℕ) (r : UsedAs) (name : List ℕ) → expr ≡ e.Name n → f n ≡ None → (if bytes_eq name n then Some r else f name) ≡ or_kind (f name) (role_of (uses expr r) name)
new_use f expr n r name he h = new_at (bytes_eq name n) (f name) r (λ k. ap f ((bytes_eq-Decides name n).0 k) ∙ h) ∙ ap (λ us. or_kind (f name) (role_of us name)) (sym (ap (λ x. uses x r) he ∙ uses_name n r))

pub kept_use : (f : List ℕ → Option UsedAs) (expr : Expr) (n : List ℕ) (r x : UsedAs) (name : List ℕ) → expr ≡ e.Name n → f n ≡ Some x → f name ≡ or_kind (f name) (role_of (uses expr r) name)
kept_use f expr n r x name he h = kept_at (bytes_eq name n) (f name) r x (λ k. ap f ((bytes_eq-Decides name n).0 k) ∙ h) ∙ ap (λ us. or_kind (f name) (role_of us name)) (sym (ap (λ x. uses x r) he ∙ uses_name n r))

pub no_use : (known : Option UsedAs) (expr : Expr) (text : List ℕ) (r : UsedAs) (name : List ℕ) → expr ≡ e.Number text → known ≡ or_kind known (role_of (uses expr r) name)
no_use known expr text r name he = sym (or_else_none known) ∙ ap (λ us. or_kind known (role_of us name)) (sym (ap (λ x. uses x r) he ∙ uses_number text r))

-- the area map, then the uses of one section and of the other
pub roles-all : (t : Bool) (g : UsedAs) (start first mid final u v : Option UsedAs) → start ≡ None → first ≡ (if t then Some g else start) → mid ≡ or_kind first u → final ≡ or_kind mid v → final ≡ (if t then Some g else or_kind u v)
roles-all true g start first mid final u v hn hf hm hv = hv ∙ ap (λ m. or_kind m v) (hm ∙ ap (λ f. or_kind f u) hf)
roles-all false g start first mid final u v hn hf hm hv = hv ∙ ap (λ m. or_kind m v) (hm ∙ ap (λ f. or_kind f u) (hf ∙ hn))
