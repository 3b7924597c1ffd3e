-- The limits that programs are held to.
use Rattle.std.specs.Prelude.{ℕ}

-- how many operations a section may have
abbrev pub most_operations : ℕ
most_operations = 8192

-- how many statements a script may have, and how many bindings
abbrev pub most_statements : ℕ
most_statements = 1000

-- how many inputs a program may have: the area map and the bindings
abbrev pub most_inputs : ℕ
most_inputs = 1001

-- how many drain maps a program may have: one for each input and each statement
abbrev pub most_drains : ℕ
most_drains = 2001

-- the greatest number of the last step
abbrev pub most_steps : ℕ
most_steps = 100000

-- how many steps a span may have
abbrev pub most_block : ℕ
most_block = 64

-- how many stacks a program may read, and how many it may write
abbrev pub most_stacks : ℕ
most_stacks = 64
