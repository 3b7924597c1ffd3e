-- Views, and what each step of a seat makes of them.
use Rattle.std.specs.Prelude.{◌≡◌, ◌≢◌, ℕ, Bool, true, false, List, [], ◌∷◌, ◌++◌, Some, None, Option}
use Rattle.std.specs.Box.{box_value}
use Rattle.std.specs.declared.boxed.Box.{Box}
use mathlib.Core.List.{IsPrefix}
use Rattle.atomic_table.specs.Table.{Me, Step}
use Rattle.turn_cell.specs.declared.view.View.{View}
use Rattle.turn_cell.specs.Authors.{authors_below, greatest_author, without_author, AreDistinct}
use Rattle.turn_cell.specs.Histories.{entries_by, longer}

-- what a value means that lies in a block of its own
abbrev pub boxed : {B X A : Type 0} → (B → X) → Box B A → X
boxed meaning x = meaning (box_value x)

-- the view of the first seat
abbrev pub opening_view : {P E : Type 0} → P → ℕ → View P E
opening_view p seats = record {
  plan = Some p;
  authors = authors_below seats;
  seen = [];
  told_authors = [];
  told = [];
  holds = false;
  met = [];
}

-- the view that a split leaves
abbrev pub left_view : {P E : Type 0} → View P E → View P E
left_view v = record {
  plan = v.plan;
  authors = without_author (greatest_author v.authors) v.authors;
  seen = v.seen;
  told_authors = [];
  told = [];
  holds = v.holds;
  met = v.met;
}

-- the view that a split gives to the new seat
abbrev pub newcomer_view : {P E : Type 0} → View P E → View P E
newcomer_view v = record {
  plan = v.plan;
  authors = greatest_author v.authors ∷ [];
  seen = v.seen;
  told_authors = [];
  told = [];
  holds = false;
  met = [];
}

-- a view that was told of another's authors and history
abbrev pub told_view : {P E : Type 0} → View P E → View P E → View P E
told_view v w = record {
  plan = v.plan;
  authors = v.authors;
  seen = v.seen;
  told_authors = w.authors;
  told = w.seen;
  holds = v.holds;
  met = v.met;
}

-- the view of a seat that another took in
abbrev pub spent_view : {P E : Type 0} → View P E
spent_view = record {
  plan = None;
  authors = [];
  seen = [];
  told_authors = [];
  told = [];
  holds = false;
  met = [];
}

-- a view that has settled what it was told: it has the authors of both, and has seen the longer of the two histories
abbrev pub settled_view : {P E : Type 0} → View P E → View P E
settled_view v = record {
  plan = v.plan;
  authors = v.authors ++ v.told_authors;
  seen = longer v.seen v.told;
  told_authors = [];
  told = [];
  holds = v.holds;
  met = v.met;
}

-- the view with the turn, which met this history
abbrev pub holding_view : {P E : Type 0} → View P E → List E → View P E
holding_view v history = record {
  plan = v.plan;
  authors = v.authors;
  seen = v.seen;
  told_authors = v.told_authors;
  told = v.told;
  holds = true;
  met = history;
}

-- the view that gave the turn back, and left this history
abbrev pub idle_view : {P E : Type 0} → View P E → List E → View P E
idle_view v history = record {
  plan = v.plan;
  authors = v.authors;
  seen = history;
  told_authors = [];
  told = [];
  holds = false;
  met = [];
}

-- the view has settled all that it was told
abbrev pub HasSettled : {P E : Type 0} → View P E → Type 0
HasSettled v = (v.told_authors ≡ []) × (v.told ≡ [])

-- settling: both histories begin the one that is seen then, the entries of both are those that they were, and no author is twice
pub record SettlesView {P E : Type 0} (author : E → ℕ) (v w : View P E) : Type 0 where
  pub is : w ≡ settled_view v
  pub begins : IsPrefix v.seen w.seen
  pub begins_told : IsPrefix v.told w.seen
  pub own_seen : entries_by author v.authors w.seen ≡ entries_by author v.authors v.seen
  pub own_told : entries_by author v.told_authors w.seen ≡ entries_by author v.told_authors v.told
  pub distinct : AreDistinct w.authors

-- the value is of the view's plan, begins with what it has seen, and has of its authors just the entries that it has seen
pub record MayFind {B P E : Type 0} (plan : B → P) (history : B → List E) (author : E → ℕ) (v : View P E) (b : B) : Type 0 where
  pub planned : v.plan ≡ Some (plan b)
  pub begins : IsPrefix v.seen (history b)
  pub own : entries_by author v.authors (history b) ≡ entries_by author v.authors v.seen

-- a load of the turn, which tells nothing
abbrev pub looked : {S P E : Type 0} → Step S → Me S (View P E) → ℕ → Me S (View P E) → Type 0
looked s m n m' = m' ≡ m

-- the load that settles what a join told
abbrev pub settled_both : {S P E : Type 0} → (E → ℕ) → Step S → Me S (View P E) → ℕ → Me S (View P E) → Type 0
settled_both author s m n m' = SettlesView author m.0 m'.0 × (m'.1 ≡ m.1)

-- the compare-and-exchange that takes the turn where it was free
abbrev pub took_turn : {B P E : Type 0} → (B → P) → (B → List E) → (E → ℕ) → Step (Option B) → Me (Option B) (View P E) → ℕ
    → Me (Option B) (View P E) → Type 0
took_turn {B} plan history author s m n m' =
    (n ≡ s.first → (b : B) × (m' ≡ (holding_view m.0 (history b), (0, Some b) ∷ m.1)) × MayFind plan history author m.0 b)
    × (n ≢ s.first → m' ≡ m)

-- the store that gives the turn back
abbrev pub gave_turn : {B P E : Type 0} → (B → List E) → Step (Option B) → Me (Option B) (View P E) → ℕ → Me (Option B) (View P E)
    → Type 0
gave_turn {B} history s m n m' =
    (b : B) × (rest : List (ℕ × Option B)) × (m.1 ≡ (0, Some b) ∷ rest) × (m' ≡ (idle_view m.0 (history b), rest))
