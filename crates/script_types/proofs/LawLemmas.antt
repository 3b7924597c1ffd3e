-- The first test that holds, the first use of a name, and the last statement that assigns one.
use Rattle.std.proofs.Common.{◌≡◌, ℕ, ◌&&◌, Bool, true, false, not, List, [], ◌∷◌, Option, Some, None, Err, refl, ◌∙◌, ap, if◌then◌else◌}
use Rattle.std.specs.List.{list_all}
use Rattle.std.specs.Str.{bytes_eq}
use Rattle.cell_values.specs.declared.kind.Kind.{Kind}
use Rattle.script_types.specs.declared.typed.Line.{Line}
use Rattle.script_types.specs.declared.typed.UsedAs.{UsedAs}
use Rattle.script_types.specs.Checks.{passed}
use Rattle.script_types.specs.Laws.{IsFirstTold, IsFirstUse, IsLastAbove}
use Rattle.script_types.specs.Names.{Use, role_of}
use Rattle.script_types.specs.Statements.{kind_above}
use Rattle.script_types.specs.Typing.{or_kind}

first-step : {F A : Type 0} (b : Bool) (g : F) (cs : List (F × Bool)) (x : A) (f : F) → (passed cs x ≡ Err f → IsFirstTold cs f) → (if b then Err g else passed cs x) ≡ Err f → IsFirstTold ((g, b) ∷ cs) f
first-step true g cs x f ih h = record { before = []; after = cs; split = (let e : g ≡ f = cc in ap (λ r. (r, true) ∷ cs) e); none = refl }
first-step false g cs x f ih h = let i = ih h in record { before = (g, false) ∷ i.before; after = i.after; split = ap (λ ds. (g, false) ∷ ds) i.split; none = i.none }

-- what is told is the first
pub first_told : {F A : Type 0} (cs : List (F × Bool)) (x : A) (f : F) → passed cs x ≡ Err f → IsFirstTold cs f
first_told [] x f h = cc
first_told (c ∷ cs) x f h = first-step c.1 c.0 cs x f (first_told cs x f) h

use-step : (t : Bool) (u : Use) (us : List Use) (name : List ℕ) (r : UsedAs) → bytes_eq name u.name ≡ t → (role_of us name ≡ Some r → IsFirstUse us name r) → (if t then Some u.role else role_of us name) ≡ Some r → IsFirstUse (u ∷ us) name r
use-step true u us name r ht ih h = record { before = []; at = u; after = us; split = refl; same = ht; in_role = (let e : u.role ≡ r = cc in e); none = refl }
use-step false u us name r ht ih h = let i = ih h in record { before = u ∷ i.before; at = i.at; after = i.after; split = ap (λ vs. u ∷ vs) i.split; same = i.same; in_role = i.in_role; none = ap (λ b. not b && list_all (λ v. not (bytes_eq name v.name)) i.before) ht ∙ i.none }

-- a role is that of a first use
pub first_used : (us : List Use) (name : List ℕ) (r : UsedAs) → role_of us name ≡ Some r → IsFirstUse us name r
first_used [] name r h = cc
first_used (u ∷ us) name r h = use-step (bytes_eq name u.name) u us name r refl (first_used us name r) h

-- no statement assigns a name that has no kind
none-above : (ls : List Line) (name : List ℕ) → kind_above ls name ≡ None → list_all (λ l. not (bytes_eq name l.statement.target)) ls ≡ true
none-above [] name h = refl
none-above (l ∷ ls) name h = none-step (bytes_eq name l.statement.target) (kind_above ls name) l.kind (list_all (λ m. not (bytes_eq name m.statement.target)) ls) (none-above ls name) h
  where
    none-step : (t : Bool) (later : Option Kind) (k : Kind) (rest : Bool) → (later ≡ None → rest ≡ true) → or_kind later (if t then Some k else None) ≡ None → (not t && rest) ≡ true
    none-step t (Some x) k rest ih h = cc
    none-step true None k rest ih h = cc
    none-step false None k rest ih h = ih refl

last-step : (t : Bool) (later : Option Kind) (l : Line) (ls : List Line) (name : List ℕ) (k : Kind) → bytes_eq name l.statement.target ≡ t → kind_above ls name ≡ later → (kind_above ls name ≡ Some k → IsLastAbove ls name k) → or_kind later (if t then Some l.kind else None) ≡ Some k → IsLastAbove (l ∷ ls) name k
last-step t (Some x) l ls name k ht hl ih h = let i = ih (hl ∙ h) in record { before = l ∷ i.before; at = i.at; after = i.after; split = ap (λ ms. l ∷ ms) i.split; same = i.same; of_kind = i.of_kind; none = i.none }
last-step true None l ls name k ht hl ih h = record { before = []; at = l; after = ls; split = refl; same = ht; of_kind = (let e : l.kind ≡ k = cc in e); none = none-above ls name hl }
last-step false None l ls name k ht hl ih h = cc

-- the kind of a name is that of the last statement that assigns it
pub last_assigned : (ls : List Line) (name : List ℕ) (k : Kind) → kind_above ls name ≡ Some k → IsLastAbove ls name k
last_assigned [] name k h = cc
last_assigned (l ∷ ls) name k h = last-step (bytes_eq name l.statement.target) (kind_above ls name) l ls name k refl refl (last_assigned ls name k) h
