-- Where the draws stand.
use Rattle.std.specs.Prelude.{ℕ, zero, suc}
use Rattle.model_maker.specs.Draws.{next_state}

-- the state after so many draws on from a state
unfoldable pub state_after : ℕ → ℕ → ℕ
state_after zero state = state
state_after (suc count) state = state_after count (next_state state)
