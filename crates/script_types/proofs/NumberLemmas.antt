-- The numbers of inputs, one binding more.
use Rattle.std.proofs.Common.{◌≡◌, ◌+◌, ◌≤◌, ◌&&◌, ℕ, Bool, true, false, List, ◌∷◌, filter, Option, Some, None, refl, sym, ◌∙◌, ap, if◌then◌else◌, arith}
use Rattle.std.specs.Str.{bytes_eq}
use Rattle.script_syntax.specs.declared.tree.Binding.{Binding}
use Rattle.script_types.specs.Names.{place_from}
use Rattle.script_types.specs.Typing.{or_kind}
use Rattle.script_types.proofs.FirstUses.{or_else_none}

taken-at : (t : Bool) (old later : Option ℕ) (k : ℕ) → or_kind (or_kind old (if t then Some k else None)) later ≡ or_kind old (if t then Some k else later)
taken-at true None later k = refl
taken-at true (Some x) later k = refl
taken-at false None later k = refl
taken-at false (Some x) later k = refl

by-use : (t : Bool) (b : Binding) (left : List Binding) (old : Option ℕ) (k : ℕ) (n : List ℕ) → or_kind (or_kind old (if t && bytes_eq n b.name then Some k else None)) (place_from (if t then k + 1 else k) left n) ≡ or_kind old (place_from k (if t then b ∷ left else left) n)
by-use true b left old k n = taken-at (bytes_eq n b.name) old (place_from (k + 1) left n) k
by-use false b left old k n = ap (λ o. or_kind o (place_from k left n)) (or_else_none old)

-- the numbers that are noted and those that are left, behind one more binding
pub number-next : (used : Binding → Bool) (t : Bool) (b : Binding) (rest : List Binding) (old new : Option ℕ) (k next : ℕ) (n : List ℕ) → used b ≡ t → next ≡ (if t then k + 1 else k) → new ≡ or_kind old (if t && bytes_eq n b.name then Some k else None) → or_kind new (place_from next (filter used rest) n) ≡ or_kind old (place_from k (filter used (b ∷ rest)) n)
number-next used t b rest old new k next n hu hn ho = ap (λ o. or_kind o (place_from next (filter used rest) n)) ho ∙ ap (λ j. or_kind (or_kind old (if t && bytes_eq n b.name then Some k else None)) (place_from j (filter used rest) n)) hn ∙ by-use t b (filter used rest) old k n ∙ ap (λ u. or_kind old (place_from k (if u then b ∷ filter used rest else filter used rest) n)) (sym hu)

-- one more number at most
pub number-grows : (t : Bool) (k next bound : ℕ) → next ≡ (if t then k + 1 else k) → k ≤ bound → next ≤ bound + 1
number-grows true k next bound h l = let e : next ≡ k + 1 = h in omega (arith, e)
number-grows false k next bound h l = let e : next ≡ k = h in omega (arith, e)
