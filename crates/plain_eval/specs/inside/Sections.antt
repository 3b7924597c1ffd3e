-- What a span evaluates: its scene, and the operands that are its own maps, which count from its first operation.
use Rattle.std.specs.Prelude.{ℕ, ◌-◌, ◌==◌, nat_le, Bool, false, Option, Some, None, if◌then◌else◌}
use Rattle.map_meaning.specs.declared.known.Known.{Known}
use Rattle.map_meaning.specs.declared.known.Span.{Span}
use Rattle.map_meaning.specs.declared.known.Span.TheVariants as span
use Rattle.map_meaning.specs.declared.program.Operand.{Operand}
use Rattle.map_meaning.specs.declared.program.Operand.TheVariants.{Initial, Now, Last}
use Rattle.map_meaning.specs.declared.program.Program.{Program}
use Rattle.map_meaning.specs.Scenes.{Scene}
use Rattle.map_meaning.specs.Spans.{scene_of}
use Rattle.span_operands.specs.Made.{span_start}

-- the scene of a span
abbrev pub scene_in : Program → Span → Known → Scene
scene_in program s known = scene_of program.inputs known (span_start s)

-- the number that the operation k has in a stage which begins at first, if it does not stand before it
abbrev pub number_from : ℕ → ℕ → Option ℕ
number_from first k = if nat_le first k then Some (k - first) else None

-- the number, counted from the begin of a stage, of the operation of `initial` whose map an operand may be, if it is one
abbrev pub initial_number : ℕ → Operand → Option ℕ
initial_number first (Initial k) = number_from first k
initial_number first (Last dynamic k) = number_from first k
initial_number first _ = None

-- the number of the operation of `dynamic` whose map at the same step an operand is, if it is one
abbrev pub now_number : Operand → Option ℕ
now_number (Now k) = Some k
now_number _ = None

-- the number, counted from the span's first operation, of the operation of the span whose map an operand may be, if it is one
abbrev pub own_number : Span → Operand → Option ℕ
own_number (span.Initial first end) operand = initial_number first operand
own_number (span.Steps first last) operand = now_number operand

-- it is the number k
abbrev pub is_own_number : ℕ → Option ℕ → Bool
is_own_number k None = false
is_own_number k (Some n) = n == k

-- the operand may be the map of the operation k of the span
abbrev pub is_own : Span → ℕ → Operand → Bool
is_own s k operand = is_own_number k (own_number s operand)
