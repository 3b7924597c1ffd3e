-- Results that are out of range: how the first such place of a map is told.
use Rattle.std.specs.Prelude.{Bool, true, false, ℕ, ◌+◌, ◌/◌, ◌%◌, Option, Some, None, Result, Ok, Err}
use Rattle.tile_map.specs.declared.part.Part.{Part}
use Rattle.map_meaning.specs.declared.known.OverAt.{OverAt}
use Rattle.map_meaning.specs.declared.op.Op.{Op}
use Rattle.map_meaning.specs.declared.op.Op.TheVariants.{Add, Sub, Mul, Div, IntDiv, ToNominal, ToOrdinal, WindowTotal}
use Rattle.map_meaning.specs.declared.op.Op.TheVariants.{AreaTotal, MapTotal, Near, Flow}
use Rattle.drain_meaning.specs.declared.op.FlowOp.TheVariants.{Accuflux, ThresholdFlux}
use Rattle.drain_meaning.specs.declared.op.NearOp.TheVariants.{Upstream}
use Rattle.map_meaning.specs.Maps.{WholeMap}
use Rattle.map_meaning.specs.Scenes.{Scene}

-- the five numbers of an Over: step, statement, operation, row and column
abbrev pub over_at : Scene → ℕ → ℕ → ℕ → OverAt
over_at scene statement number place =
    record { step = scene.step; statement = statement; operation = number; row = place / scene.cols + 1; col = place % scene.cols + 1 }

-- a map, or its first place that is Over
abbrev pub map_or_over : Scene → ℕ → ℕ → Option ℕ → WholeMap → Result WholeMap OverAt
map_or_over scene statement number None m = Ok m
map_or_over scene statement number (Some place) m = Err (over_at scene statement number place)

-- the map of an operation of a statement, or its first place that is Over
abbrev pub whole_or_over : Scene → ℕ → ℕ → Part → Result WholeMap OverAt
whole_or_over scene statement number part = map_or_over scene statement number part.over part.cells

-- An operation whose result may be out of the range of its kind, where its operands are in theirs.
abbrev pub may_be_over : Op → Bool
may_be_over Add = true
may_be_over Sub = true
may_be_over Mul = true
may_be_over Div = true
may_be_over IntDiv = true
may_be_over ToNominal = true
may_be_over ToOrdinal = true
may_be_over WindowTotal = true
may_be_over AreaTotal = true
may_be_over MapTotal = true
may_be_over (Near Upstream) = true
may_be_over (Flow Accuflux) = true
may_be_over (Flow ThresholdFlux) = true
may_be_over _ = false
