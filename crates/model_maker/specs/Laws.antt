-- What holds of each made drain map.
use Rattle.std.specs.Prelude.{◌≡◌, ℕ, ◌<◌}
use Rattle.drain_meaning.specs.declared.next.Next.TheVariants as next
use Rattle.drain_meaning.specs.Drains.{DrainMap, next_at}
use Rattle.drain_meaning.specs.Sound.{IsDrain}
use Rattle.model_maker.specs.Cells.{side, drain_cells}
use Rattle.model_maker.specs.Files.{cell_draws}

-- the drain map of the model of a number
abbrev pub made_drains : ℕ → DrainMap
made_drains number = record { rows = side; cols = side; codes = drain_cells (cell_draws number) }

-- each direction of a made drain map leads to a later cell
abbrev pub LeadToLaterCells : Type 0
LeadToLaterCells = (number c d : ℕ) → next_at (made_drains number) c ≡ next.Cell d → c < d

-- made drain maps are within the limits, and sound
abbrev pub MadeDrainsAreSound : Type 0
MadeDrainsAreSound = (number : ℕ) → IsDrain (made_drains number)
