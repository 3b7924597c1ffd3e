use Rattle.std.proofs.Common.{sym, subst}
use Rattle.map_meaning.specs.declared.program.Program.{Program}
use Rattle.script_types.specs.Answers.{IsLowered, Lowers}
use Rattle.script_types.specs.inside.Programs.{IsProgramWritten}
use Rattle.script_types.proofs.FormedPrograms.{formed-program, has-values, program-of}
use Rattle.script_types.proofs.LowerLemmas.{lowers-fault, lowers-written}
use Rattle.script_types.specs.Lowered.{inputs_of}
use Rattle.script_types.proofs.ProgramLemmas.{all-suit}
use Rattle.script_types.proofs.SectionLines.{lines-order}
use Rattle.script_types.proofs.SettledInputs.{inputs-suit}
use Rattle.script_types.proofs.lowering.lower.Goals as goal

pub returns : goal.returns
returns c = lowers-fault c.args.script.now c.in-Err.end c.in-Err.ensures

pub returns-in-Ok : goal.returns-in-Ok
returns-in-Ok c =
    let script = c.args.script.now in
    let lines = c.settle.new.settled.lines in
    let meant = c.in-Ok.ensures.0 in
    let settled = c.in-Ok.ensures.1 in
    let to : (program : Program) → IsProgramWritten script lines program → IsLowered script program = λ program w. record {
      lines = lines;
      meant = meant;
      program_of = program-of script lines _ c.requires meant settled.few_initial settled.few_dynamic w;
      values = has-values script lines _ c.requires meant settled.few_initial settled.few_dynamic w;
      formed = formed-program script lines _ c.requires meant settled.few_initial settled.few_dynamic w;
    } in
    subst (λ answer. Lowers answer script) (sym c.or_memory.ensures) (lowers-written script lines c.program_of.result to c.program_of.ensures)

pub program_of-requires-clause-ordered : goal.program_of-requires-clause-ordered
program_of-requires-clause-ordered c = (lines-order c.args.script.now c.settle.new.settled.lines c.in-Ok.ensures.0).split

pub program_of-requires-clause-suit : goal.program_of-requires-clause-suit
program_of-requires-clause-suit c = all-suit (inputs_of c.args.script.now) (inputs-suit c.args.script.now c.settle.new.settled.lines c.in-Ok.ensures.0)
