-- What lowering a script answers.
use Rattle.std.specs.Prelude.{◌≡◌, List, map, Result, Ok, Err, ⊤}
use Rattle.script_syntax.specs.declared.tree.Script.{Script}
use Rattle.map_meaning.specs.declared.program.Program.{Program}
use Rattle.map_meaning.specs.Programs.{IsWellFormed}
use Rattle.script_types.specs.declared.end.LowerEnd.{LowerEnd}
use Rattle.script_types.specs.declared.end.LowerEnd.TheVariants.{Meaning, Memory}
use Rattle.script_types.specs.declared.typed.Line.{Line}
use Rattle.script_types.specs.declared.typed.Section.TheVariants.{Initial, Dynamic}
use Rattle.script_types.specs.Lowered.{area_number, inputs_of, as_listed, as_shown}
use Rattle.script_types.specs.Lowered.{as_shown_drain, drains_of, outputs_from, section_operations}
use Rattle.script_types.specs.Meaning.{meaning}
use Rattle.script_types.specs.Names.{binding_of}
use Rattle.script_types.specs.Values.{HasValues}

-- The program is that of the settled statements of a script: its inputs, its area map, one operation for each of theirs in
-- post-order with its kind, its statement and its number, its drain maps, its outputs, and the last step. What the operations
-- compute, the drain maps are and the outputs write is told by their values.
pub record IsProgramOf (script : Script) (lines : List Line) (program : Program) : Type 0 where
  pub inputs : program.inputs ≡ inputs_of script
  pub area : program.area ≡ area_number script
  pub operations : map as_listed program.initial ≡ section_operations Initial lines
  pub step_operations : map as_listed program.dynamic ≡ section_operations Dynamic lines
  pub drains : map as_shown_drain program.drains ≡ drains_of script lines
  pub outputs : map as_shown program.outputs ≡ outputs_from (binding_of script) 1 lines
  pub steps : program.steps ≡ script.steps

-- The program of a script without faults: it is that of its settled statements, has their values, and is well formed.
pub record IsLowered (script : Script) (program : Program) : Type 0 where
  pub lines : List Line
  pub meant : meaning script ≡ Ok lines
  pub program_of : IsProgramOf script lines program
  pub values : HasValues script lines program
  pub formed : IsWellFormed program

-- An answer is the first fault of meaning, where there is one, else the program of the statements; or there was no memory.
abbrev pub Lowers : Result Program LowerEnd → Script → Type 0
Lowers (Ok program) script = IsLowered script program
Lowers (Err (Meaning fault)) script = meaning script ≡ Err fault
Lowers (Err Memory) script = ⊤
