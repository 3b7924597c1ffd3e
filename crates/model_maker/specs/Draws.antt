-- The draws that follow on a number: a linear congruential generator of 64 bits, whose upper half is drawn.
use Rattle.std.specs.Prelude.{ℕ, zero, suc, ◌+◌, ◌*◌, ◌/◌, ◌%◌, ◌^◌, List, [], ◌∷◌}

-- the state that a draw goes on to
unfoldable pub next_state : ℕ → ℕ
next_state state = (6364136223846793005 * state + 1442695040888963407) % 2 ^ 64

-- what is drawn where a draw went on to this state
abbrev pub drawn : ℕ → ℕ
drawn state = state / 2 ^ 32

-- so many draws on from a state, in order
unfoldable pub drawn_from : ℕ → ℕ → List ℕ
drawn_from zero state = []
drawn_from (suc count) state = drawn (next_state state) ∷ drawn_from count (next_state state)
