-- Edges that can be sent, by the places of their links. Words of private contracts.
use Rattle.std.specs.Prelude.{◌≡◌, ℕ, ◌<◌, ◌≤◌, ◌==◌, ◌&&◌, true, false, Bool, take, List, [], length, get_or, Option, Some, None}
use Rattle.std.specs.List.{Contains, list_any}
use Rattle.flow_task.specs.declared.link.Link.{Link}
use Rattle.flow_task.specs.inside.Kept.{link_at}
use Rattle.flow_task.specs.inside.Underway.{Distinct, one_if, passing_many}
use Rattle.text_base.specs.Limits.{most_cells}

-- the places of links that wait, in some order, and how many may
pub record Waiting : Type 0 where
  pub places : List ℕ
  pub room : ℕ

-- how often a number stands in a list
abbrev pub place_times : List ℕ → ℕ → ℕ
place_times places k = passing_many (λ place. place == k) places

-- the least of a list; none exactly where it is empty
abbrev pub IsLeast : List ℕ → Option ℕ → Type 0
IsLeast places None = places ≡ []
IsLeast places (Some k) = Contains places k × ((j : ℕ) → Contains places j → k ≤ j)

-- an edge that was not sent leaves one of these cells
abbrev pub leaves_one : List Link → List Bool → List ℕ → ℕ → Bool
leaves_one outbound unsent cells k = get_or unsent k false && list_any (λ c. c == (link_at outbound k).cell) cells

-- the links of just those edges wait, each once
abbrev pub LinksAreDue : List Link → List Bool → List ℕ → List ℕ → Type 0
LinksAreDue outbound unsent cells places = (k : ℕ) → place_times places k ≡ one_if (leaves_one outbound unsent cells k)

-- the cells of links do not fall
abbrev pub CellsRise : List Link → Type 0
CellsRise links = (i j : ℕ) → i < j → j < length links → (link_at links i).cell ≤ (link_at links j).cell

-- the cells of links are marked
abbrev pub AreMarked : List Link → List Bool → Type 0
AreMarked links marks = (k : ℕ) → k < length links → get_or marks (link_at links k).cell false ≡ true

-- the edges out of the first cells of the queue are due, and those of the others can be put beside them
pub record CanAdd (outbound : List Link) (unsent leaves : List Bool) (queue : List ℕ) (at : ℕ) (due : Waiting) : Type 0 where
  pub at_in : at ≤ length queue
  pub inside : (i : ℕ) → Contains queue i → i < length leaves
  pub few : length leaves ≤ most_cells
  pub rise : CellsRise outbound
  pub marked : AreMarked outbound leaves
  pub many : length unsent ≡ length outbound
  pub apart : Distinct queue
  pub room : length outbound ≤ due.room
  pub so_far : LinksAreDue outbound unsent (take at queue) due.places

-- the edges out of settled cells that were not sent are due, with room for all
pub record AreNoted (outbound : List Link) (unsent leaves : List Bool) (queue missing : List ℕ) (due : Waiting) : Type 0 where
  pub all : LinksAreDue outbound unsent queue due.places
  pub room : length outbound ≤ due.room
  pub marked : AreMarked outbound leaves
  pub many : length leaves ≡ length missing
