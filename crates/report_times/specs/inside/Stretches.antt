-- Items whose points are told by their steps.
use Rattle.std.specs.Prelude.{ℕ, ◌&&◌, Bool, false, List, Option, None, Some, nat_le}
use Rattle.std.specs.List.{list_any}
use Rattle.report_times.specs.declared.stretch.Stretch.{Stretch}
use Rattle.report_times.specs.declared.times.Times.{Times}
use Rattle.report_times.specs.Moments.{is_in_run, is_on_stride}

-- the stretch has the step
abbrev pub in_stretch : ℕ → Stretch → Bool
in_stretch step s = nat_le s.first step && (nat_le step s.last && is_on_stride s.first s.by step)

-- the stretch, if there is one, has the step
abbrev pub in_found : ℕ → Option Stretch → Bool
in_found step None = false
in_found step (Some s) = in_stretch step s

-- some stretch has the step
abbrev pub in_some : ℕ → List Stretch → Bool
in_some step stretches = list_any (in_stretch step) stretches

-- the step is one of the times
abbrev pub has_step : Times → ℕ → Bool
has_step times step = is_in_run times.end step && in_some step times.stretches
