-- Which operands of an operation at a step of a span are maps that the span makes, and which are known before it.
use Rattle.std.specs.Prelude.{◌≡◌, ◌<◌, ◌*◌, ℕ, Bool, true, false, length, nat_le, nat_lt, ⊤}
use Rattle.map_meaning.specs.declared.known.Known.{Known}
use Rattle.map_meaning.specs.declared.known.Span.{Span}
use Rattle.map_meaning.specs.declared.known.Span.TheVariants as span
use Rattle.map_meaning.specs.declared.program.Operand.{Operand}
use Rattle.map_meaning.specs.declared.program.Operand.TheVariants.{Time, Input, Stack, Initial, Now, Last, Drain}
use Rattle.map_meaning.specs.declared.program.Program.{Program}
use Rattle.map_meaning.specs.Evaluation.{Done}
use Rattle.map_meaning.specs.Maps.{nth}
use Rattle.map_meaning.specs.Scenes.{map_at_step}
use Rattle.map_meaning.specs.Spans.{kept_map, known_codes}
use Rattle.span_operands.specs.inside.Held.{HasDrainMap, HasGrid, HasKept, HasLast}

-- the first step of a span; 0 for the section `initial`
abbrev pub span_start : Span → ℕ
span_start (span.Initial first end) = 0
span_start (span.Steps first last) = first

-- the map of an operand at a step is one that the span makes
abbrev pub is_made : Span → ℕ → Operand → Bool
is_made (span.Initial first end) step (Initial n) = nat_le first n
is_made (span.Initial first end) step _ = false
is_made (span.Steps first last) step (Now n) = true
is_made (span.Steps first last) step (Last dynamic initial) = nat_lt first step
is_made (span.Steps first last) step _ = false

-- the map of the operation of `initial` with this number is known before the span
abbrev pub is_before_span : Program → Span → ℕ → Bool
is_before_span program (span.Initial first end) n = nat_lt n first
is_before_span program (span.Steps first last) n = nat_lt n (length program.initial)

-- what is done at the first of some steps has the maps of the step before them
abbrev pub CarriesLast : Program → Span → Known → ℕ → Done → Type 0
CarriesLast program (span.Initial first end) known step done = ⊤
CarriesLast program (span.Steps first last) known step done =
    step ≡ first → (n : ℕ) → n < length program.dynamic → nth done.last n ≡ kept_map known.last n

-- what is done at a step of a span has the maps that are known before the span
pub record AgreesWith (program : Program) (s : Span) (known : Known) (step : ℕ) (done : Done) : Type 0 where
  pub drains : done.drains ≡ known_codes known
  pub initial : (n : ℕ) → is_before_span program s n ≡ true → nth done.initial n ≡ kept_map known.initial n
  pub last : CarriesLast program s known step done

-- an operand in a stage of `initial` is known, where the stage does not make it
abbrev pub IsKnownInitially : Program → ℕ → Known → Operand → Type 0
IsKnownInitially program first known (Input n) = HasGrid program known n
IsKnownInitially program first known (Initial n) = n < first → HasKept (known.rows * known.cols) known.initial first n
IsKnownInitially program first known (Drain n) = HasDrainMap known n
IsKnownInitially program first known Time = ⊥
IsKnownInitially program first known (Stack n) = ⊥
IsKnownInitially program first known (Now n) = ⊥
IsKnownInitially program first known (Last dynamic initial) = ⊥
IsKnownInitially program first known _ = ⊤

-- an operand at a step is known, where the steps from the first one on do not make it
abbrev pub IsKnownAtStep : Program → ℕ → Known → ℕ → Operand → Type 0
IsKnownAtStep program first known step (Input n) = HasGrid program known n
IsKnownAtStep program first known step (Stack n) = length (map_at_step known.stacks step n) ≡ known.rows * known.cols
IsKnownAtStep program first known step (Initial n) = HasKept (known.rows * known.cols) known.initial (length program.initial) n
IsKnownAtStep program first known step (Last dynamic initial) = step ≡ first → HasLast program step known dynamic initial
IsKnownAtStep program first known step (Drain n) = HasDrainMap known n
IsKnownAtStep program first known step _ = ⊤

-- an operand is known, where the span does not make it
abbrev pub IsKnown : Program → Span → Known → ℕ → Operand → Type 0
IsKnown program (span.Initial first end) known step operand = (step ≡ 0) × IsKnownInitially program first known operand
IsKnown program (span.Steps first last) known step operand = IsKnownAtStep program first known step operand
