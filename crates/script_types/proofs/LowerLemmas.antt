-- How the answer of a script is put together.
use Rattle.std.proofs.Common.{List, Result, Ok, Err}
use Rattle.std.specs.Prelude.{IfOk}
use Rattle.script_syntax.specs.declared.tree.Script.{Script}
use Rattle.map_meaning.specs.declared.program.Program.{Program}
use Rattle.script_types.specs.declared.end.LowerEnd.{LowerEnd}
use Rattle.script_types.specs.declared.end.LowerEnd.TheVariants as lower
use Rattle.script_types.specs.declared.typed.Line.{Line}
use Rattle.script_types.specs.Answers.{IsLowered, Lowers}
use Rattle.script_types.specs.inside.Answers.{SettlesScript, or_memory}
use Rattle.script_types.specs.inside.Programs.{IsProgramWritten}

-- a fault ends it
pub lowers-fault : (script : Script) (end : LowerEnd) → SettlesScript (Err end) script → Lowers (Err end) script
lowers-fault script (lower.Meaning f) h = h
lowers-fault script lower.Memory h = tt

-- what is written of the statements is the answer
pub lowers-written : {E : Type 0} (script : Script) (lines : List Line) (found : Result Program E) → ((program : Program) → IsProgramWritten script lines program → IsLowered script program) → IfOk found (λ program. IsProgramWritten script lines program) → Lowers (or_memory found) script
lowers-written script lines (Ok program) to h = to program h
lowers-written script lines (Err e) to h = tt
