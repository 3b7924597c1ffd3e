-- Which steps of a stack have files whose names begin so.
use Rattle.std.specs.Prelude.{ℕ, ◌+◌, ◌*◌, ◌-◌, ◌^◌, ◌&&◌, Bool, false, List, [], ◌∷◌, length, drop, take}
use Rattle.std.specs.Prelude.{Option, Some, None, nat_le, nat_lt, if◌then◌else◌}
use Rattle.std.specs.Str.{bytes_eq}
use Rattle.text_base.specs.Numbers.{whole_number_of}

-- the first step above 0 whose number begins with the digits of this one, where so many digits are written and so many behind
abbrev pub begun_step : ℕ → ℕ → Option ℕ → Option ℕ
begun_step written behind None = None
begun_step written behind (Some number) =
    Some (if nat_lt 0 number then number * 10 ^ behind else (if nat_lt 0 behind then 1 else 10 ^ written))

-- the first step above 0 whose number begins with these digits, where so many digits stand behind them
abbrev pub first_step : List ℕ → ℕ → Option ℕ
first_step [] behind = Some 1
first_step (d ∷ ds) behind = begun_step (length (d ∷ ds)) behind (whole_number_of (length (d ∷ ds)) (d ∷ ds))

-- there is a step, and it is none behind the last
abbrev pub is_step_of : ℕ → Option ℕ → Bool
is_step_of steps None = false
is_step_of steps (Some step) = nat_le step steps

-- the name of one of the files of a stack begins so, without its point
abbrev pub is_begun : List ℕ → ℕ → List ℕ → Bool
is_begun prefix steps start =
    bytes_eq (take (length prefix) start) prefix && (nat_le (length start) (length prefix + (11 - length prefix)) &&
    is_step_of steps (first_step (drop (length prefix) start) (11 - length prefix - (length start - length prefix))))
