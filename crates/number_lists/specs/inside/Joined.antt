-- Lists one after another in one list.
use Rattle.std.specs.Prelude.{ℕ, ◌≡◌, ◌≤◌, ◌-◌, List, [], ◌∷◌, take, drop}

-- the lists that begin at a place and end at these places
unfoldable pub lists_of : ℕ → List ℕ → List ℕ → List (List ℕ)
lists_of start [] items = []
lists_of start (end ∷ ends) items = take (end - start) (drop start items) ∷ lists_of end ends items

-- the places ascend from the first to the last
unfoldable pub EndsAt : ℕ → List ℕ → ℕ → Type 0
EndsAt start [] last = start ≡ last
EndsAt start (end ∷ ends) last = (start ≤ end) × EndsAt end ends last
