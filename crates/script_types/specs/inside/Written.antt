-- What was written of expressions, of statements and of a section.
use Rattle.std.specs.Prelude.{◌≡◌, ◌⊎◌, ◌<◌, ◌≤◌, ◌+◌, ◌-◌, ◌&&◌, ℕ, Bool, true, false, List, [], ◌∷◌, ◌++◌, length, map}
use Rattle.std.specs.Prelude.{Option, Some, None, Result, Ok, Err, if◌then◌else◌, ⊤}
use Rattle.std.specs.Option.{is_none, unwrap_or}
use Rattle.std.specs.Str.{bytes_eq}
use Rattle.cell_values.specs.declared.kind.Kind.{Kind}
use Rattle.cell_values.specs.declared.kind.Kind.TheVariants.{Ldd}
use Rattle.map_meaning.specs.declared.known.OverAt.{OverAt}
use Rattle.map_meaning.specs.declared.op.Op.{Op}
use Rattle.map_meaning.specs.declared.program.DrainFrom.{DrainFrom}
use Rattle.map_meaning.specs.declared.program.DrainUse.{DrainUse}
use Rattle.map_meaning.specs.declared.program.Operand.{Operand}
use Rattle.map_meaning.specs.declared.program.Operand.TheVariants as from
use Rattle.map_meaning.specs.declared.program.Operation.{Operation}
use Rattle.map_meaning.specs.declared.program.OutputUse.{OutputUse}
use Rattle.map_meaning.specs.declared.program.Program.{Program}
use Rattle.map_meaning.specs.declared.program.Role.TheVariants.{Grid}
use Rattle.map_meaning.specs.declared.tree.Tree.{Tree}
use Rattle.map_meaning.specs.Evaluation.{Done, operand_map, staged_values}
use Rattle.map_meaning.specs.Maps.{WholeMap}
use Rattle.map_meaning.specs.Programs.{AreDrainUses, operand_kind, operation_kind}
use Rattle.map_meaning.specs.Scenes.{Scene}
use Rattle.map_meaning.specs.Sections.{After, section_value}
use Rattle.map_meaning.specs.Table.{is_kind}
use Rattle.map_meaning.specs.Trees.{Environment, meaning_of, operations_in}
use Rattle.script_types.specs.declared.emit.At.{At}
use Rattle.script_types.specs.declared.typed.Line.{Line}
use Rattle.script_types.specs.declared.typed.Section.{Section}
use Rattle.script_types.specs.declared.typed.Section.TheVariants.{Initial, Dynamic}
use Rattle.script_types.specs.Lowered.{as_listed, as_shown_drain, drain_input, form_by, numbered_operations, operations_from}
use Rattle.script_types.specs.Lowered.{post_order, statement_drains, statements_of, total_operations}
use Rattle.script_types.specs.Names.{joined_lists}
use Rattle.script_types.specs.Reports.{Bound, file_written}
use Rattle.script_types.specs.Statements.{operations_of}
use Rattle.script_types.specs.Typing.{or_kind}
use Rattle.script_types.specs.Values.{statement_codes}
use Rattle.script_types.specs.inside.Drains.{drain_number, drain_numbers}
use Rattle.script_types.specs.inside.FitLines.{Frame, LinesFit, ground_at, readable}
use Rattle.script_types.specs.inside.Fits.{Ground, SideFits, fits, is_input_of}
use Rattle.script_types.specs.inside.Sections.{Around, IsBegun, HaveForm, Holder, HoldsMaps, IsGiven, maps_in, own_operand, span_in}
use Rattle.script_types.specs.inside.Sound.{are_sound}
use Rattle.script_types.specs.inside.Values.{AllBefore, Emits, EmitsDrain}

-- ---- expressions

-- the operations of an expression were added in post-order, numbered from the first of their statement on
pub record ListsTree (old new : List Operation) (statement first : ℕ) (t : Tree) : Type 0 where
  pub count : length new ≡ length old + operations_of t
  pub listed : map as_listed new ≡ map as_listed old ++ numbered_operations statement (length old - first + 1) (post_order t)

-- the operations of some expressions were added, from the left
pub record ListsTrees (old new : List Operation) (statement first : ℕ) (ts : List Tree) : Type 0 where
  pub count : length new ≡ length old + operations_in (map meaning_of ts)
  pub listed : map as_listed new ≡
      map as_listed old ++ numbered_operations statement (length old - first + 1) (joined_lists (map post_order ts))

-- the operations of an expression were added, and what a drain map comes from is no input
pub record ListsDrain (old new : List Operation) (statement first : ℕ) (t : Tree) (d : DrainFrom) : Type 0 where
  pub tree : ListsTree old new statement first t
  pub computed : drain_input d ≡ None

-- an operation of this kind, which is the next of its statement below so many operations
pub record IsOperationOn (o : Operation) (op : Op) (kind : Kind) (at : At) (below : ℕ) : Type 0 where
  pub op_is : o.op ≡ op
  pub kind_is : o.kind ≡ kind
  pub statement : o.statement ≡ at.statement
  pub number : o.number ≡ below - at.first + 1

-- ---- one statement

-- the statement gives the name an operation's map
abbrev pub gives_name : Line → List ℕ → Bool
gives_name l name = is_none l.sample && bytes_eq name l.statement.target

-- the output of a statement with this number, where it reports, whose value this operand has
abbrev pub output_with : Bound → ℕ → Line → Operand → List OutputUse
output_with bound statement l x =
    if l.report then
    record { file = file_written bound l; kind = form_by l.section l.sample; value = x; cell_kind = l.kind; statement = statement } ∷ []
    else []

-- A statement that is no drain map was written: its operations, its output where it reports, and which operand has the map of its
-- target.
pub record AddsMap (section : Section) (bound : Bound) (numbers : List ℕ) (holder later : Holder)
    (old new : List Operation) (outputs more_outputs : List OutputUse) (statement : ℕ) (l : Line) : Type 0 where
  pub listed : ListsTree old new statement (length old) l.statement.value
  pub operand : Operand
  pub outputs_in : more_outputs ≡ outputs ++ output_with bound statement l operand
  pub held : (name : List ℕ) → later name ≡ (if gives_name l name then own_operand section (length new - 1) else holder name)
  pub emits : (g : Ground) → numbers ≡ drain_numbers 0 g.inputs → fits g l.statement.value ≡ true →
      Emits section g holder old new statement (length old) l.statement.value operand

-- A statement that is a drain map was written: its operations, the drain map behind them, its output where it reports, and that its
-- target is this drain map.
pub record AddsDrain (section : Section) (bound : Bound) (numbers : List ℕ) (holder later : Holder)
    (old new : List Operation) (drains more_drains : List DrainUse) (outputs more_outputs : List OutputUse)
    (statement : ℕ) (l : Line) : Type 0 where
  pub comes : DrainFrom
  pub listed : ListsDrain old new statement (length old) l.statement.value comes
  pub drains_in : more_drains ≡ drains ++ record { from = comes; after = length new } ∷ []
  pub outputs_in : more_outputs ≡ outputs ++ output_with bound statement l (from.Drain (length drains))
  pub held : (name : List ℕ) → later name ≡ (if gives_name l name then from.Drain (length drains) else holder name)
  pub emits : (g : Ground) → numbers ≡ drain_numbers 0 g.inputs → SideFits g l.statement.value →
      EmitsDrain section g holder old new statement (length old) l.statement.value comes

-- a statement was written, as a drain map where it is one
abbrev pub AddsLine : Section → Bound → List ℕ → Holder → Holder → List Operation → List Operation → List DrainUse → List DrainUse →
    List OutputUse → List OutputUse → ℕ → Line → Type 0
AddsLine section bound numbers holder later old new drains more_drains outputs more_outputs statement l =
    ((is_kind Ldd l.kind ≡ false) × (more_drains ≡ drains) ×
    AddsMap section bound numbers holder later old new outputs more_outputs statement l) ⊎
    ((is_kind Ldd l.kind ≡ true) ×
    AddsDrain section bound numbers holder later old new drains more_drains outputs more_outputs statement l)

-- ---- the statements of a section

-- the outputs of some statements, of which the first has this number, whose values these operands have
abbrev pub outputs_with : Bound → ℕ → List Line → List Operand → List OutputUse
outputs_with bound statement [] xs = []
outputs_with bound statement (l ∷ ls) [] = []
outputs_with bound statement (l ∷ ls) (x ∷ xs) = output_with bound statement l x ++ outputs_with bound (statement + 1) ls xs

-- The number of the operation of the section that has a name's map below these statements, where so many operations stand
-- before them: the last one of the last statement that gives the name one.
abbrev pub last_number : ℕ → List Line → List ℕ → Option ℕ
last_number before [] name = None
last_number before (l ∷ ls) name =
    or_kind (last_number (before + operations_of l.statement.value) ls name)
    (if gives_name l name then Some (before + operations_of l.statement.value - 1) else None)

-- how many drain maps are written with a statement, where so many are before it
abbrev pub drains_with : ℕ → Line → ℕ
drains_with m l = if is_kind Ldd l.kind then m + 1 else m

-- The operand that has the map of a statement, where so many operations and drain maps stand before it: its drain map, or its last
-- operation.
abbrev pub line_operand : Section → ℕ → ℕ → Line → Operand
line_operand section before m l =
    if is_kind Ldd l.kind then from.Drain m else own_operand section (before + operations_of l.statement.value - 1)

-- The operand that has a name's map below these statements, where so many operations and drain maps stand before them: that of the
-- last statement that gives the name one.
abbrev pub last_operand : Section → ℕ → ℕ → List Line → List ℕ → Option Operand
last_operand section before m [] name = None
last_operand section before m (l ∷ ls) name =
    or_kind (last_operand section (before + operations_of l.statement.value) (drains_with m l) ls name)
    (if gives_name l name then Some (line_operand section before m l) else None)

-- which operand has the map of each name below these statements of a section, where it was so at the section's start, and so many
-- drain maps were written
abbrev pub held_below : Section → ℕ → Holder → List Line → Holder
held_below section m start ls name = unwrap_or (last_operand section 0 m ls name) (start name)

-- what a name had before, where `dynamic` gives it the map of the operation with this number
abbrev pub carried_operand : ℕ → Operand → Operand
carried_operand dynamic (from.Initial n) = from.Last dynamic n
carried_operand dynamic (from.Last k n) = from.Last dynamic n
carried_operand dynamic x = x

-- the same where it gives it one
abbrev pub carried_or : Option ℕ → Operand → Operand
carried_or None x = x
carried_or (Some dynamic) x = carried_operand dynamic x

-- which operand has the map of each name at the start of a step with these statements
abbrev pub held_before : Holder → List Line → Holder
held_before start ls name = carried_or (last_number 0 ls name) (start name)

-- all of these statements stand in the section
abbrev pub AreIn : Section → List Line → Type 0
AreIn section [] = ⊤
AreIn section (l ∷ ls) = (l.section ≡ section) × AreIn section ls

-- the operand is a drain map below this number, or the map of one of these operations, as its kind asks
abbrev pub IsMade : Section → List Operation → ℕ → Kind → Operand → Type 0
IsMade section ops m kind (from.Drain n) = (n < m) × (kind ≡ Ldd)
IsMade Initial ops m kind (from.Initial n) = (n < length ops) × (operation_kind ops n ≡ Some kind) × (is_kind Ldd kind ≡ false)
IsMade Dynamic ops m kind (from.Now n) = (n < length ops) × (operation_kind ops n ≡ Some kind) × (is_kind Ldd kind ≡ false)
IsMade section ops m kind x = ⊥

-- The name has a map of its kind that the section made; or no statement of the section gave it one, and it may be read above.
abbrev pub HasLastKind : (List ℕ → Option Kind) → Section → List Operation → ℕ → List ℕ → Kind → Option Operand → Type 0
HasLastKind above section ops m name kind None = above name ≡ Some kind
HasLastKind above section ops m name kind (Some x) = IsMade section ops m kind x

-- the operand is the map of an operation of the section, or a drain map
abbrev pub IsOwn : Section → ℕ → Operand → Type 0
IsOwn Initial n (from.Initial k) = k < n
IsOwn Initial n (from.Drain k) = ⊤
IsOwn Dynamic n (from.Now k) = k < n
IsOwn section n x = ⊥

-- the operand has the value of a statement: it has its kind, and is one of the section's own where the statement is not sampled
pub record IsValueOf (program : Program) (section : Section) (n : ℕ) (l : Line) (x : Operand) : Type 0 where
  pub kind : operand_kind program x ≡ Some l.kind
  pub given : IsGiven program section n x
  pub own : l.sample ≡ None → IsOwn section n x

-- each of these operands has the value of its statement
abbrev pub AreValuesOf : Program → Section → ℕ → List Line → List Operand → Type 0
AreValuesOf program section n [] xs = xs ≡ []
AreValuesOf program section n (l ∷ ls) [] = ⊥
AreValuesOf program section n (l ∷ ls) (x ∷ xs) = IsValueOf program section n l x × AreValuesOf program section n ls xs

-- the operand is a drain map below this number, where it is one
abbrev pub DrainsBelow : ℕ → Operand → Type 0
DrainsBelow m (from.Drain n) = n < m
DrainsBelow m x = ⊤

-- and so are all of them
abbrev pub AllDrainsBelow : ℕ → List Operand → Type 0
AllDrainsBelow m [] = ⊤
AllDrainsBelow m (x ∷ xs) = DrainsBelow m x × AllDrainsBelow m xs

-- Statements and operations give the same maps, of names and of statements, and the drain maps that are added are those of the
-- statements that are one; or the same Over.
abbrev pub Agree : Ground → Holder → Scene → List WholeMap → List Line → List Operand → Result After OverAt → Result Done OverAt → Type 0
Agree g holder scene codes ls xs (Ok after) (Ok done) =
    HoldsMaps g holder scene after.names done × (after.maps ≡ map (operand_map scene done) xs) ×
    (done.drains ≡ codes ++ statement_codes ls after.maps)
Agree g holder scene codes ls xs (Err over) (Err other) = over ≡ other
Agree g holder scene codes ls xs _ _ = ⊥

-- each of the drain maps is computed once so many of the operations are
abbrev pub AllDue : ℕ → List DrainUse → Type 0
AllDue count [] = ⊤
AllDue count (d ∷ ds) = (d.after ≤ count) × AllDue count ds

-- drain maps of `initial` are each computed once so many of its operations are
abbrev pub DueIn : Section → ℕ → List DrainUse → Type 0
DueIn Initial count ds = AllDue count ds
DueIn Dynamic count ds = ⊤

-- A program in which a section was written: where its statements begin, the names have these operands, and these drain maps are
-- written; the section begins with these operations, and its drain maps behind the others with these.
pub record SectionBegins (section : Section) (g : Ground) (start : Holder) (drains added : List DrainUse) (ops : List Operation)
    (program : Program) : Type 0 where
  pub around : Around section g start 0 program
  pub count : around.drains ≡ length drains
  pub begun : IsBegun section ops program
  pub due : DueIn section 0 drains
  pub more_drains : List DrainUse
  pub drains_are : program.drains ≡ (drains ++ added) ++ more_drains

-- the drain maps that are added in `initial` are so, and in `dynamic` none is added
abbrev pub AreDueBehind : Section → ℕ → List DrainUse → Type 0
AreDueBehind Initial count ds = AllDue count ds
AreDueBehind Dynamic count ds = ds ≡ []

-- The operations and the drain maps that are added are those of the statements of a section, which stand below these others: in every
-- program in which the section was written, both have the same values and are well formed.
pub record HaveValues (frame : Frame) (upper : List Line) (section : Section) (start : Holder) (drains : List DrainUse) (first : ℕ)
    (ops : List Operation) (added : List DrainUse) (ls : List Line) (xs : List Operand) : Type 0 where
  pub last : (name : List ℕ) (kind : Kind) → readable frame.sampled (upper ++ ls) name ≡ Some kind →
      HasLastKind (readable frame.sampled upper) section ops (length drains + length added) name kind
      (last_operand section 0 (length drains) ls name)
  pub due : AreDueBehind section (length ops) added
  pub below : (program : Program) → SectionBegins section (ground_at frame section upper) start drains added ops program →
      AllDrainsBelow (length drains + length added) xs
  pub before : (program : Program) → SectionBegins section (ground_at frame section upper) start drains added ops program →
      AllBefore section (length ops) xs
  pub agree : are_sound ls ≡ true → (program : Program) (scene : Scene) (step : ℕ) (names : Environment) (done : Done) →
      SectionBegins section (ground_at frame section upper) start drains added ops program → maps_in section done ≡ [] →
      length done.drains ≡ length drains → HoldsMaps (ground_at frame section upper) start scene names done →
      Agree (ground_at frame section (upper ++ ls)) (held_below section (length drains) start ls) scene done.drains ls xs
      (section_value scene first names (statements_of ls))
      (staged_values program scene (span_in section program step) done added ops)
  pub formed : are_sound ls ≡ true →
      (program : Program) → SectionBegins section (ground_at frame section upper) start drains added ops program →
      HaveForm program section 0 ops × AreDrainUses program (length drains) added × AreValuesOf program section (length ops) ls xs

-- What was written of some statements of a section, of which the first has this number.
pub record AreWritten (section : Section) (bound : Bound) (numbers : List ℕ) (start : Holder) (first : ℕ) (ls : List Line)
    (holder : Holder) (ops : List Operation) (drains more_drains : List DrainUse) (outputs more_outputs : List OutputUse) : Type 0 where
  pub count : length ops ≡ total_operations ls
  pub listed_in : map as_listed ops ≡ operations_from first ls
  pub operands : List Operand
  pub as_many : length operands ≡ length ls
  pub added : List DrainUse
  pub drains_in : more_drains ≡ drains ++ added
  pub shown : map as_shown_drain added ≡ statement_drains 0 ls
  pub outputs_in : more_outputs ≡ outputs ++ outputs_with bound first ls operands
  pub held : (name : List ℕ) → holder name ≡ held_below section (length drains) start ls name
  pub values : (frame : Frame) (upper : List Line) → numbers ≡ drain_numbers 0 frame.inputs →
      ((k : ℕ) → is_input_of frame.inputs Grid Ldd k ≡ true → drain_number frame.inputs k < length drains) →
      LinesFit frame upper ls → AreIn section ls → first ≡ length upper + 1 →
      HaveValues frame upper section start drains first ops added ls operands
