-- The least place whose result is out of range. Words of private contracts.
use Rattle.std.specs.Prelude.{ℕ, nat_lt, Option, Some, None, Ok, Err, if◌then◌else◌}
use Rattle.tile_map.specs.Parts.{Outcome}

-- the lesser of a place and one that was noted before
abbrev pub least_place : ℕ → Option ℕ → ℕ
least_place place None = place
least_place place (Some first) = if nat_lt first place then first else place

-- the least place that is Over, after one more outcome
abbrev pub noted : ℕ → Outcome → Option ℕ → Option ℕ
noted place (Ok cell) over = over
noted place (Err e) over = Some (least_place place over)
