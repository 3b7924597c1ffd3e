-- The maps that are held between operations: those that a later operation reads.
use Rattle.std.specs.Prelude.{◌≡◌, ◌<◌, ◌≤◌, ℕ, ◌-◌, ◌*◌, List, [], ◌++◌}
use Rattle.std.specs.Prelude.{length, map, Option, Some, None, slice_index_or, ⊤, true}
use Rattle.tile_map.specs.Parts.{tabulate}
use Rattle.map_meaning.specs.declared.known.Known.{Known}
use Rattle.map_meaning.specs.declared.known.Span.{Span}
use Rattle.map_meaning.specs.declared.known.Span.TheVariants as span
use Rattle.map_meaning.specs.declared.program.Operand.{Operand}
use Rattle.map_meaning.specs.declared.program.Operand.TheVariants.{Initial, Now}
use Rattle.map_meaning.specs.declared.program.Operation.{Operation}
use Rattle.map_meaning.specs.declared.program.Program.{Program}
use Rattle.map_meaning.specs.Evaluation.{Done}
use Rattle.map_meaning.specs.Maps.{WholeMap}
use Rattle.map_meaning.specs.Table.{goes_along_drains}
use Rattle.map_meaning.specs.Spans.{kept_map, known_codes}
use Rattle.span_operands.specs.Made.{IsKnown, span_start}
use Rattle.span_operands.specs.inside.Held.{HasDrainMap}

-- a map, or an empty one where it was let go
abbrev pub or_empty : Option WholeMap → WholeMap
or_empty None = []
or_empty (Some m) = m

-- what is done in a stage of `initial` that begins at first
abbrev pub initial_done : ℕ → Known → List (Option WholeMap) → Done
initial_done first known held = record {
  initial = tabulate (kept_map known.initial) first ++ map or_empty held;
  dynamic = [];
  last = [];
  drains = known_codes known;
}

-- what is done in a step
abbrev pub step_done : Program → Known → List (Option WholeMap) → Done
step_done program known held = record {
  initial = tabulate (kept_map known.initial) (length program.initial);
  dynamic = map or_empty held;
  last = tabulate (kept_map known.last) (length program.dynamic);
  drains = known_codes known;
}

-- the maps of the operations that are done, where one that was let go counts as empty
abbrev pub done_of : Program → Span → Known → List (Option WholeMap) → Done
done_of program (span.Initial first end) known held = initial_done first known held
done_of program (span.Steps first last) known held = step_done program known held

-- the map of the operation k of the span, where it is held
abbrev pub held_at : List (Option WholeMap) → ℕ → Option WholeMap
held_at held k = slice_index_or held k None

-- it is a map with so many cells
abbrev pub IsHeld : ℕ → Option WholeMap → Type 0
IsHeld places None = ⊥
IsHeld places (Some m) = length m ≡ places

-- the map of the operation k is held, with so many cells
pub record HasHeld (places : ℕ) (held : List (Option WholeMap)) (k : ℕ) : Type 0 where
  pub within : k < length held
  pub is : IsHeld places (held_at held k)

-- the map of an operand that the span makes is held, with all its cells
abbrev pub IsHeldFor : Span → Known → List (Option WholeMap) → Operand → Type 0
IsHeldFor (span.Initial first end) known held (Initial n) = first ≤ n → HasHeld (known.rows * known.cols) held (n - first)
IsHeldFor (span.Steps first last) known held (Now n) = HasHeld (known.rows * known.cols) held n
IsHeldFor s known held _ = ⊤

-- the map that an operand names is there, with all its cells: it is known before the span, or held
abbrev pub IsThere : Program → Span → Known → List (Option WholeMap) → Operand → Type 0
IsThere program s known held operand = IsKnown program s known (span_start s) operand × IsHeldFor s known held operand

-- the maps that an operation reads are there
pub record AreThere (program : Program) (s : Span) (known : Known) (held : List (Option WholeMap)) (o : Operation) : Type 0 where
  pub a : IsThere program s known held o.a
  pub b : IsThere program s known held o.b
  pub c : IsThere program s known held o.c
  pub d : IsThere program s known held o.d
  pub drain : goes_along_drains o.op ≡ true → HasDrainMap known o.drain
