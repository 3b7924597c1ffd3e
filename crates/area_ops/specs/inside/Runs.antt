-- Runs of places of one class, which no map has yet. Words of private contracts.
use Rattle.std.specs.Prelude.{◌≡◌, ◌<◌, ◌%◌, ℕ, ℤ, pos, unsigned_abs, List, length, get_or}
use Rattle.std.specs.BTreeMap.{BTreeMap}
use Rattle.area_ops.specs.declared.runs.Run.{Run}
use Rattle.area_ops.specs.declared.tally.Tally.{Tally}
use Rattle.area_ops.specs.inside.Tallies.{IsTally, no_tally, seen_from, tally_at, tally_join}

-- the tally of a class in a map and in a run together
abbrev pub tally_with : BTreeMap ℤ Tally → Run → ℤ → Tally
tally_with areas run class = tally_join (tally_at areas class) (seen_from class run.class run.tally)

-- how many runs there are at once
abbrev pub slots : ℕ
slots = 61

-- the slot that a class's run stands at
abbrev pub class_slot : ℤ → ℕ
class_slot class = unsigned_abs class % slots

-- the run at a slot
abbrev pub run_at : List Run → ℕ → Run
run_at runs slot = get_or runs slot (record { class = pos 0; tally = no_tally })

-- the tally of a class in a map and in the run at its slot together
abbrev pub tally_with_runs : BTreeMap ℤ Tally → List Run → ℤ → Tally
tally_with_runs areas runs class = tally_with areas (run_at runs (class_slot class)) class

-- each slot has a run of a class that has this slot
pub record AreRuns (runs : List Run) : Type 0 where
  pub size : length runs ≡ slots
  pub own : (slot : ℕ) → slot < slots → class_slot (run_at runs slot).class ≡ slot
  pub sound : (slot : ℕ) → slot < slots → IsTally (run_at runs slot).tally
