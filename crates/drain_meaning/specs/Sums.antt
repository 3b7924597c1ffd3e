-- The rules of the transports that add their inflows.
use Rattle.drain_meaning.specs.declared.flow.Flow.{Flow}
use Rattle.drain_meaning.specs.declared.end.FlowEnd.{FlowEnd}
use Rattle.cell_values.specs.declared.cell.Cell.{Cell}
use Rattle.drain_meaning.specs.Equations.{above_threshold, farthest, keeping, passing}
use Rattle.drain_meaning.specs.Flows.{FlowFits, material, nothing, together}
use Rattle.drain_meaning.specs.Rules.{Accumulator}
use Rattle.std.specs.Prelude.{Bool, if◌then◌else◌}

-- a rule that adds inflows, with this end
abbrev pub adding : (Flow → Cell → Cell → FlowEnd) → Accumulator Flow
adding ended = record { none = nothing; lifted = λ f. f; joined = together; ended = ended; FitsLoad = FlowFits }

-- the rule of `accuflux`
abbrev pub accu_rule : Accumulator Flow
accu_rule = adding (λ inflow a b. passing (together inflow (material a)))

-- what is above the threshold, or what the threshold keeps
abbrev pub threshold_end : Bool → Flow → Cell → FlowEnd
threshold_end state total b =
    let out = above_threshold total (material b) in if state then keeping total out else passing out

-- the rule of the operations with a threshold
abbrev pub threshold_rule : Bool → Accumulator Flow
threshold_rule state = adding (λ inflow a b. threshold_end state (together inflow (material a)) b)

-- the rule of `catchment`
abbrev pub point_rule : Accumulator Flow
point_rule = adding (λ inflow a b. passing (farthest inflow (material a)))
