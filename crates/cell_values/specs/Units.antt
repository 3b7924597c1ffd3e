-- The unit in which scalars and directions are counted.
use Rattle.std.specs.Prelude.{ℕ, ◌*◌, ◌^◌}

-- how many digits behind the point scalars and directions keep
abbrev pub decimal_places : ℕ
decimal_places = 6

-- how many millionths make one
abbrev pub million : ℕ
million = 10 ^ decimal_places

-- how many millionths of a degree make a full turn
abbrev pub full_turn : ℕ
full_turn = 360 * million
