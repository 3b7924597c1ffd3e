use Rattle.std.proofs.Common.{◌≡◌, ℕ, List, Bool, true, false, cond, refl, ap, subst, Ok, Err, Result}
use Rattle.std.specs.Str.{bytes_eq}
use Rattle.std.proofs.lemmas.Slice.Eq.{bytes_eq-Decides}
use Rattle.text_base.specs.Results.{◌>>=◌}
use Rattle.map_meaning.specs.declared.known.OverAt.{OverAt}
use Rattle.map_meaning.specs.declared.tree.Statement.{Statement}
use Rattle.map_meaning.specs.Laws.{ChangesItsTarget}
use Rattle.map_meaning.specs.Maps.{WholeMap}
use Rattle.map_meaning.specs.Sections.{After, assigned}
use Rattle.map_meaning.specs.Trees.{value_of_tree}
use Rattle.map_meaning.proofs.laws.statements_change_their_target.Goals as goal

-- a test that cannot hold fails
fails : (b : Bool) → (b ≡ true → ⊥) → b ≡ false
fails true not_so = absurd (not_so refl)
fails false not_so = refl

-- a name is equal to itself, and a test of two names that differ fails
same_name : (name : List ℕ) → bytes_eq name name ≡ true
same_name name = (bytes_eq-Decides name name).1 refl

other_name : (name target : List ℕ) → (name ≡ target → ⊥) → bytes_eq name target ≡ false
other_name name target differ = fails (bytes_eq name target) (λ h. differ ((bytes_eq-Decides name target).0 h))

-- what stands after a statement that gave this map
changed : (before : After) (s : Statement) (m : WholeMap) → ChangesItsTarget before (assigned before s m) s
changed before s m = record {
  map = m;
  target = ap (λ t. cond t m (before.names s.target)) (same_name s.target);
  others = λ name differ. ap (λ t. cond t m (before.names name)) (other_name name s.target differ);
}

-- the statement gave some map
gave : (before after : After) (s : Statement) (r : Result WholeMap OverAt) → (r >>= λ m. Ok (assigned before s m)) ≡ Ok after → ChangesItsTarget before after s
gave before after s (Ok m) h = let same : assigned before s m ≡ after = cc in let P : After → Type 0 = λ a. ChangesItsTarget before a s in subst P same (changed before s m)
gave before after s (Err at) h = absurd (cc)

pub returns : goal.returns
returns c scene number before after s h = gave before after s (value_of_tree (record { scene = scene; names = before.names; statement = number }) s.value) h
