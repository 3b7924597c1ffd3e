-- Whether settled statements fit where they stand.
use Rattle.std.specs.Prelude.{◌≡◌, ◌<◌, ℕ, Bool, true, false, List, [], ◌∷◌, ◌++◌, Option, None, IfSome, if◌then◌else◌, ⊤}
use Rattle.std.specs.Option.{is_some}
use Rattle.cell_values.specs.declared.kind.Kind.{Kind}
use Rattle.script_syntax.specs.declared.tree.Script.{Script}
use Rattle.map_meaning.specs.declared.program.InputUse.{InputUse}
use Rattle.cell_values.specs.declared.kind.Kind.TheVariants.{Scalar, Ldd}
use Rattle.map_meaning.specs.declared.op.Op.TheVariants.{AreaAverage}
use Rattle.map_meaning.specs.declared.tree.Tree.{Tree}
use Rattle.map_meaning.specs.declared.tree.Tree.TheVariants as tree
use Rattle.map_meaning.specs.Table.{is_kind}
use Rattle.map_meaning.specs.Trees.{meaning_of}
use Rattle.script_types.specs.declared.typed.Line.{Line}
use Rattle.script_types.specs.declared.typed.Section.{Section}
use Rattle.script_types.specs.declared.typed.Section.TheVariants.{Initial, Dynamic}
use Rattle.script_types.specs.Lowered.{inputs_of}
use Rattle.script_types.specs.Names.{is_sampled}
use Rattle.script_types.specs.Statements.{is_dynamic, kind_above, operations_of}
use Rattle.script_types.specs.inside.Fits.{Ground, SideFits, is_ids}

-- the inputs of a program, the names that are targets of time series, which are not read, and whether these are sampled by the mean
pub record Frame : Type 0 where
  pub inputs : List InputUse
  pub sampled : List ℕ → Bool
  pub mean : Bool

-- what a script's statements stand in
abbrev pub script_frame : Script → Frame
script_frame script = record { inputs = inputs_of script; sampled = is_sampled script; mean = script.mean }

-- the kind that a name has below some statements, where it may be read
abbrev pub readable : (List ℕ → Bool) → List Line → List ℕ → Option Kind
readable sampled above name = if sampled name then None else kind_above above name

-- what names are in a section below some statements
abbrev pub ground_at : Frame → Section → List Line → Ground
ground_at frame section above =
    record { inputs = frame.inputs; above = readable frame.sampled above; in_steps = is_dynamic section }

-- the expression is the area average of another by the input with this number
abbrev pub AveragesAt : ℕ → Tree → Type 0
AveragesAt ids t = (of : Tree) × (kind : Kind) × (t ≡ tree.Call Scalar AreaAverage (of ∷ tree.Input kind ids ∷ []))

-- A statement fits below others: its right side fits where it stands, and has the kind of the statement, which is also the
-- kind of the statements above with its target; it has an operation, or is sampled in `dynamic` at a map of ids, or is a drain
-- map of `initial`.
pub record LineFits (frame : Frame) (above : List Line) (l : Line) : Type 0 where
  pub value : SideFits (ground_at frame l.section above) l.statement.value
  pub kind : (meaning_of l.statement.value).kind ≡ l.kind
  pub agrees : IfSome (kind_above above l.statement.target) (λ kind. kind ≡ l.kind)
  pub operation : l.sample ≡ None → is_kind Ldd l.kind ≡ false → 0 < operations_of l.statement.value
  pub drain : is_kind Ldd l.kind ≡ true → (l.section ≡ Initial) × (l.sample ≡ None)
  pub ids : IfSome l.sample (λ ids. is_ids frame.inputs ids ≡ true)
  pub means : frame.mean ≡ true → IfSome l.sample (λ ids. AveragesAt ids l.statement.value)
  pub sampled : is_some l.sample ≡ true → frame.sampled l.statement.target ≡ true
  pub in_steps : is_some l.sample ≡ true → l.section ≡ Dynamic

-- each of some statements fits below those above it
abbrev pub LinesFit : Frame → List Line → List Line → Type 0
LinesFit frame above [] = ⊤
LinesFit frame above (l ∷ ls) = LineFits frame above l × LinesFit frame (above ++ l ∷ []) ls
