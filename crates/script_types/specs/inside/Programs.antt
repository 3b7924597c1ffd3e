-- What was written of a whole script: its inputs, and the statements of both sections.
use Rattle.std.specs.Prelude.{◌≡◌, ℕ, List, [], ◌∷◌, ⊤}
use Rattle.std.specs.Option.{unwrap_or}
use Rattle.script_syntax.specs.declared.tree.Binding.{Binding}
use Rattle.script_syntax.specs.declared.tree.Script.{Script}
use Rattle.map_meaning.specs.declared.program.DrainUse.{DrainUse}
use Rattle.map_meaning.specs.declared.program.InputUse.{InputUse}
use Rattle.map_meaning.specs.declared.program.Operand.TheVariants.{Unused}
use Rattle.map_meaning.specs.declared.program.OutputUse.{OutputUse}
use Rattle.map_meaning.specs.declared.program.Program.{Program}
use Rattle.map_meaning.specs.Programs.{SuitsRole}
use Rattle.script_types.specs.declared.kept.Written.{Written}
use Rattle.script_types.specs.declared.names.Names.{Names}
use Rattle.script_types.specs.declared.typed.Line.{Line}
use Rattle.script_types.specs.declared.typed.Section.TheVariants.{Initial, Dynamic}
use Rattle.script_types.specs.declared.typed.UsedAs.{UsedAs}
use Rattle.script_types.specs.declared.typed.UsedAs.TheVariants.{Grid}
use Rattle.script_types.specs.Lowered.{area_number, first_statement, input_as_used, inputs_of, lines_in}
use Rattle.script_types.specs.Names.{binding_of}
use Rattle.script_types.specs.Reports.{Bound}
use Rattle.script_types.specs.inside.Drains.{drain_numbers, input_uses}
use Rattle.script_types.specs.inside.Kept.{KeepsOperations}
use Rattle.script_types.specs.inside.Look.{look}
use Rattle.script_types.specs.inside.Sections.{Holder}
use Rattle.script_types.specs.inside.Written.{AreWritten, held_before}

-- each input has a role that suits it
abbrev pub AllSuit : List InputUse → Type 0
AllSuit [] = ⊤
AllSuit (input ∷ more) = SuitsRole input.kind input.role × AllSuit more

-- the input of a binding, by the table of roles
abbrev pub input_by : Names UsedAs → Binding → InputUse
input_by roles b = input_as_used (unwrap_or (look roles.values b.name) Grid) b

-- before the first statement no operand has a name's map
abbrev pub nothing_held : Holder
nothing_held name = Unused

-- The drain maps of the inputs and the statements of both sections were written: those of `dynamic` begin with what names had
-- before.
pub record AreBothWritten (bound : Bound) (inputs : List InputUse) (lines : List Line) (w : Written) : Type 0 where
  pub none : Holder
  pub none_is : (name : List ℕ) → none name ≡ nothing_held name
  pub held : Holder
  pub middle_drains : List DrainUse
  pub middle : List OutputUse
  pub initial : AreWritten Initial bound (drain_numbers 0 inputs) none 1 (lines_in Initial lines) held w.initial
      (input_uses 0 inputs) middle_drains [] middle
  pub before : Holder
  pub before_is : (name : List ℕ) → before name ≡ held_before held (lines_in Dynamic lines) name
  pub later : Holder
  pub dynamic : AreWritten Dynamic bound (drain_numbers 0 inputs) before (first_statement Dynamic lines) (lines_in Dynamic lines) later
      w.dynamic middle_drains w.drains middle w.outputs

-- The program is that of what was written of a script's statements, with its operations kept.
pub record IsProgramWritten (script : Script) (lines : List Line) (program : Program) : Type 0 where
  pub written : Written
  pub both : AreBothWritten (binding_of script) (inputs_of script) lines written
  pub kept : Written
  pub keeps : KeepsOperations written kept
  pub inputs : program.inputs ≡ inputs_of script
  pub initial : program.initial ≡ kept.initial
  pub dynamic : program.dynamic ≡ kept.dynamic
  pub drains : program.drains ≡ kept.drains
  pub outputs : program.outputs ≡ kept.outputs
  pub area : program.area ≡ area_number script
  pub steps : program.steps ≡ script.steps
