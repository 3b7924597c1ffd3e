-- What comes up from the cell drained into. Words of private contracts.
use Rattle.std.specs.Prelude.{ℕ, List, slice_index_or}
use Rattle.drain_meaning.specs.declared.flow.Flow.{Flow}
use Rattle.drain_meaning.specs.declared.flow.Flow.TheVariants.{Mv}
use Rattle.drain_meaning.specs.declared.next.Next.{Next}
use Rattle.drain_meaning.specs.declared.next.Next.TheVariants as next
use Rattle.drain_meaning.specs.Rules.{Accumulator}

-- the flow at a place of a list
abbrev pub flow_at : List Flow → ℕ → Flow
flow_at flows place = slice_index_or flows place Mv

-- what comes from the cell drained into, by the outflows of all cells
abbrev pub from_below : {A : Type 0} → Accumulator A → (ℕ → Flow) → Next → A
from_below rule outs (next.Cell d) = rule.lifted (outs d)
from_below rule outs next.Pit = rule.none
from_below rule outs next.Outside = rule.none
from_below rule outs next.Missing = rule.none
