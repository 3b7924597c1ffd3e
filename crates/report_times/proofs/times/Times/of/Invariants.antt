use Rattle.std.proofs.Common.{◌≡◌, ◌≤◌, ℕ, take}
use Rattle.std.specs.List.{list_any}
use Rattle.report_times.specs.Moments.{is_in_item}
use Rattle.report_times.specs.inside.Stretches.{in_some}
use Rattle.report_times.proofs.times.Times.of.Given as goal

-- a step of the run is in some stretch where it is in some item so far
abbrev pub invariant-loop-item : goal.invariant-loop-item
invariant-loop-item l = (step : ℕ) → step ≤ l.end → in_some step l.stretches ≡ list_any (is_in_item l.end step) (take l.item-index l.items)
