-- A section of a program as its operations are written: its operations, its maps, and the operands that may be read there.
use Rattle.std.specs.Prelude.{◌≡◌, ◌<◌, ℕ, ◌+◌, List, [], ◌∷◌, ◌++◌, Some, ⊤, false, true}
use Rattle.cell_values.specs.declared.kind.Kind.{Kind}
use Rattle.cell_values.specs.declared.kind.Kind.TheVariants.{Ldd}
use Rattle.map_meaning.specs.declared.known.Span.{Span}
use Rattle.map_meaning.specs.declared.program.Operand.{Operand}
use Rattle.map_meaning.specs.declared.program.Operand.TheVariants as from
use Rattle.map_meaning.specs.declared.program.Operation.{Operation}
use Rattle.map_meaning.specs.declared.program.Program.{Program}
use Rattle.map_meaning.specs.declared.program.Role.TheVariants.{Grid}
use Rattle.map_meaning.specs.Evaluation.{Done, operand_map}
use Rattle.map_meaning.specs.Maps.{WholeMap, nth}
use Rattle.map_meaning.specs.Programs.{IsBelow, IsBelowNow, IsOperationOf, is_unused, operand_kind}
use Rattle.map_meaning.specs.Scenes.{Scene}
use Rattle.map_meaning.specs.Spans.{step_span, whole_span}
use Rattle.map_meaning.specs.Trees.{Environment}
use Rattle.script_types.specs.declared.typed.Section.{Section}
use Rattle.script_types.specs.declared.typed.Section.TheVariants.{Initial, Dynamic}
use Rattle.script_types.specs.Statements.{is_dynamic}
use Rattle.script_types.specs.inside.Drains.{IsDrainBelow, drain_number}
use Rattle.script_types.specs.inside.Fits.{Ground, is_input_of}

-- ---- operations and maps

-- the operations of a section
abbrev pub operations_within : Section → Program → List Operation
operations_within Initial program = program.initial
operations_within Dynamic program = program.dynamic

-- the map of the operation of a section with this number, at the same step
abbrev pub own_operand : Section → ℕ → Operand
own_operand Initial n = from.Initial n
own_operand Dynamic n = from.Now n

-- the maps of a section that are done
abbrev pub maps_in : Section → Done → List WholeMap
maps_in Initial done = done.initial
maps_in Dynamic done = done.dynamic

-- the same with these maps of a section
abbrev pub with_maps : Section → Done → List WholeMap → Done
with_maps Initial done maps =
    record { initial = done.initial ++ maps; dynamic = done.dynamic; last = done.last; drains = done.drains }
with_maps Dynamic done maps =
    record { initial = done.initial; dynamic = done.dynamic ++ maps; last = done.last; drains = done.drains }

-- the operations of a section, as a span at a step
abbrev pub span_in : Section → Program → ℕ → Span
span_in Initial program step = whole_span program
span_in Dynamic program step = step_span step

-- ---- what may be read

-- the operand may be one of the operation of a section with this number
abbrev pub MayRead : Program → Section → ℕ → Operand → Type 0
MayRead program Initial n x = IsBelow program n x
MayRead program Dynamic n x = IsBelowNow program n x

-- the operand names an operation of the section before this one, or none of it
abbrev pub NamesBefore : Section → ℕ → Operand → Type 0
NamesBefore Initial n (from.Initial k) = k < n
NamesBefore Initial n (from.Last dynamic k) = ⊥
NamesBefore Dynamic n (from.Now k) = k < n
NamesBefore section n x = ⊤

-- the operand is there, and may be one of the operation of a section with this number
pub record IsGiven (program : Program) (section : Section) (n : ℕ) (x : Operand) : Type 0 where
  pub read : MayRead program section n x
  pub used : is_unused x ≡ false

-- and it has this kind; where it is a drain map it is one of the first m
pub record IsOperandOf (program : Program) (section : Section) (n m : ℕ) (kind : Kind) (x : Operand) : Type 0 where
  pub kind_is : operand_kind program x ≡ Some kind
  pub given : IsGiven program section n x
  pub drain : IsDrainBelow m kind x

-- ---- names and their operands

-- the operand that has the map of each name
abbrev pub Holder : Type 0
Holder = List ℕ → Operand

-- The program has these inputs, of which each drain map is one of its own, and each name that may be read has an operand of its
-- kind, from this number on, where so many drain maps are written.
pub record Around (section : Section) (g : Ground) (holder : Holder) (n : ℕ) (program : Program) : Type 0 where
  pub drains : ℕ
  pub inputs : program.inputs ≡ g.inputs
  pub steps : g.in_steps ≡ is_dynamic section
  pub held : (name : List ℕ) (kind : Kind) → g.above name ≡ Some kind → IsOperandOf program section n drains kind (holder name)
  pub drained : (k : ℕ) → is_input_of g.inputs Grid Ldd k ≡ true →
      IsOperandOf program section n drains Ldd (from.Drain (drain_number g.inputs k))

-- the section begins with these operations
pub record IsBegun (section : Section) (ops : List Operation) (program : Program) : Type 0 where
  pub more : List Operation
  pub is : operations_within section program ≡ ops ++ more

-- both: the program is one in which a statement is written from this number on
pub record Stands (section : Section) (g : Ground) (holder : Holder) (first : ℕ) (ops : List Operation) (program : Program) : Type 0 where
  pub around : Around section g holder first program
  pub begins : IsBegun section ops program

-- each name that may be read has the map of its operand, and each input that is a drain map has its codes
pub record HoldsMaps (g : Ground) (holder : Holder) (scene : Scene) (names : Environment) (done : Done) : Type 0 where
  pub named : (name : List ℕ) (kind : Kind) → g.above name ≡ Some kind → names name ≡ operand_map scene done (holder name)
  pub drained : (k : ℕ) → is_input_of g.inputs Grid Ldd k ≡ true → nth scene.inputs k ≡ nth done.drains (drain_number g.inputs k)

-- ---- forms

-- operations of a section whose numbers count from n: well formed but for what is kept
abbrev pub HaveForm : Program → Section → ℕ → List Operation → Type 0
HaveForm program section n [] = ⊤
HaveForm program section n (o ∷ more) = IsOperationOf program (MayRead program section n) o.kept o × HaveForm program section (n + 1) more
