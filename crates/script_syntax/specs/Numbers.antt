-- The numbers of `timer`.
use Rattle.std.specs.Prelude.{ℕ, List, unwrap_or}
use Rattle.text_base.specs.Numbers.{whole_number_of}

-- the number that 1 to 6 digits write, and else 0
abbrev pub steps_of : List ℕ → ℕ
steps_of w = unwrap_or (whole_number_of 6 w) 0
