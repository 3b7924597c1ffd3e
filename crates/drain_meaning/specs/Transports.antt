-- Transports along drain directions: which cells feed a cell, and what comes out of their flows.
use Rattle.std.specs.Prelude.{◌≡◌, ℕ, zero, suc, List, [], ◌∷◌, length, map, Bool, false, ◌==◌}
use Rattle.std.specs.List.{filter, range_with_len}
use Rattle.cell_values.specs.declared.cell.Cell.{Cell}
use Rattle.cell_values.specs.declared.kind.Kind.{Kind}
use Rattle.tile_map.specs.Parts.{Outcome}
use Rattle.drain_meaning.specs.declared.end.FlowEnd.{FlowEnd}
use Rattle.drain_meaning.specs.declared.flow.Flow.{Flow}
use Rattle.drain_meaning.specs.declared.flow.Flow.TheVariants as flow
use Rattle.drain_meaning.specs.declared.next.Next.{Next}
use Rattle.drain_meaning.specs.declared.next.Next.TheVariants as next
use Rattle.drain_meaning.specs.declared.op.Orient.{Orient}
use Rattle.drain_meaning.specs.declared.op.Orient.TheVariants.{Down, Up}
use Rattle.drain_meaning.specs.Drains.{DrainMap, next_at}
use Rattle.drain_meaning.specs.Flows.{flow_outcome}
use Rattle.drain_meaning.specs.Paths.{IsDirected}

-- A transport: which cells feed a cell, and its equation, which says what a cell's inflows and its two operands come to.
pub record Transport : Type 0 where
  pub orient : Orient
  pub equation : List Flow → Cell → Cell → FlowEnd

-- a cell with this direction drains into c
abbrev pub drains_into : ℕ → Next → Bool
drains_into c (next.Cell d) = d == c
drains_into c next.Pit = false
drains_into c next.Outside = false
drains_into c next.Missing = false

-- the cells that drain directly into c, in row-major order
abbrev pub tributaries : DrainMap → ℕ → List ℕ
tributaries m c = filter (λ u. drains_into c (next_at m u)) (range_with_len 0 (length m.codes))

-- the cell that a direction leads to, if it leads to one
abbrev pub outlet : Next → List ℕ
outlet (next.Cell d) = d ∷ []
outlet next.Pit = []
outlet next.Outside = []
outlet next.Missing = []

-- the cells that feed c
unfoldable pub feeders : Orient → DrainMap → ℕ → List ℕ
feeders Down m c = tributaries m c
feeders Up m c = outlet (next_at m c)

-- The ends are those of the transport: at each cell with a direction the equation of the outflows of the cells that feed it,
-- and of its operands.
abbrev pub AreEnds : Transport → DrainMap → (ℕ → Cell) → (ℕ → Cell) → (ℕ → FlowEnd) → Type 0
AreEnds t m a b ends =
    (c : ℕ) → IsDirected m c → ends c ≡ t.equation (map (λ u. (ends u).out) (feeders t.orient m c)) (a c) (b c)

-- the end of a cell where flow has come over so many steps at most
abbrev pub end_after : Transport → DrainMap → (ℕ → Cell) → (ℕ → Cell) → ℕ → ℕ → FlowEnd
end_after t m a b zero c = record { out = flow.Mv; result = flow.Mv }
end_after t m a b (suc steps) c =
    t.equation (map (λ u. (end_after t m a b steps u).out) (feeders t.orient m c)) (a c) (b c)

-- the end of a cell of a sound map, on which no flow comes over more steps than there are cells
unfoldable pub end_of : Transport → DrainMap → (ℕ → Cell) → (ℕ → Cell) → ℕ → FlowEnd
end_of t m a b c = end_after t m a b (length m.codes) c

-- a flow, missing where there is no direction
abbrev pub where_directed : Next → Flow → Flow
where_directed next.Pit f = f
where_directed (next.Cell d) f = f
where_directed next.Outside f = f
where_directed next.Missing f = flow.Mv

-- what a transport gives at a place: missing where the drain map is
abbrev pub transported : Transport → DrainMap → (ℕ → Cell) → (ℕ → Cell) → ℕ → Flow
transported t m a b c = where_directed (next_at m c) (end_of t m a b c).result

-- what a transport of values of a kind gives at a place: a cell, or Over
abbrev pub transport_outcome : Transport → Kind → DrainMap → (ℕ → Cell) → (ℕ → Cell) → ℕ → Outcome
transport_outcome t kind m a b c = flow_outcome kind (transported t m a b c)
