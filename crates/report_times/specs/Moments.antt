-- The steps that a list of items has.
use Rattle.std.specs.Prelude.{ℕ, ◌-◌, ◌%◌, ◌==◌, ◌&&◌, Bool, true, List, [], ◌∷◌, nat_le}
use Rattle.std.specs.List.{list_any}
use Rattle.report_times.specs.declared.item.Item.{Item}
use Rattle.report_times.specs.declared.item.Point.{Point}
use Rattle.report_times.specs.declared.item.Point.TheVariants.{Step, EndTime}

-- the step of a point, in a run with this last step
abbrev pub step_of_point : ℕ → Point → ℕ
step_of_point end (Step step) = step
step_of_point end EndTime = end

-- the step is the first one, or a multiple of the stride behind it
abbrev pub is_on_stride : ℕ → ℕ → ℕ → Bool
is_on_stride first by step = (step - first) % by == 0

-- the item has the step: from the first to the last, at a multiple of the stride behind the first
abbrev pub is_in_item : ℕ → ℕ → Item → Bool
is_in_item end step item =
    let first = step_of_point end item.first in
    nat_le first step && (nat_le step (step_of_point end item.last) && is_on_stride first item.by step)

-- a run with this last step has the step
abbrev pub is_in_run : ℕ → ℕ → Bool
is_in_run end step = nat_le 1 step && nat_le step end

-- the list has the step of a run with this last step: some item has it
abbrev pub is_time : ℕ → List Item → ℕ → Bool
is_time end items step = is_in_run end step && list_any (is_in_item end step) items

-- a report with these times writes at the step; one that has none writes at each
abbrev pub is_written_at : ℕ → List Item → ℕ → Bool
is_written_at end [] step = true
is_written_at end (item ∷ more) step = is_time end (item ∷ more) step
