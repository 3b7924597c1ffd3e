-- Places in a text: lines are counted by line feeds, columns by bytes, and both start at 1.
use Rattle.std.specs.Prelude.{ℕ, ◌+◌, ◌==◌, if◌then◌else◌, List, [], ◌∷◌}
use Rattle.text_base.specs.Bytes.{line_feed}
use Rattle.script_syntax.specs.declared.place.Place.{Place}

-- the place at which a text begins
abbrev pub first_place : Place
first_place = record { line = 1; column = 1 }

-- the place behind a byte
abbrev pub after_byte : Place → ℕ → Place
after_byte p b = if b == line_feed then record { line = p.line + 1; column = 1 } else record { line = p.line; column = p.column + 1 }

-- the place behind bytes
abbrev pub after_bytes : Place → List ℕ → Place
after_bytes p [] = p
after_bytes p (b ∷ bs) = after_bytes (after_byte p b) bs
