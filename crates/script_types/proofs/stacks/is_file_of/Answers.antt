use Rattle.std.proofs.Common.{◌∙◌, refl, arith}
use Rattle.script_types.proofs.StackFiles.{eleven, eleven-pointed_name, file-begun, file-long, file-other}
use Rattle.script_types.proofs.stacks.is_file_of.Goals.{then-file-via-then-file, then-file-via-else-file+then-file-ne46}
use Rattle.script_types.proofs.stacks.is_file_of.Goals as goal

pub returns-then-steps-gt0 : goal.returns-then-steps-gt0
returns-then-steps-gt0 c = c.is_pointed.ensures ∙ file-long c.args.prefix.now c.args.steps c.args.file.now (omega arith) (omega arith)

pub returns-then-file : goal.returns-then-file
returns-then-file c = file-other c.args.prefix.now c.args.steps c.args.file.now c.if-prefix-gt-NAME_LENGTH.false
    (elim c.then-file.branch [ then-file-via-then-file w ↦ λ s. w.if-file.true s.0 | then-file-via-else-file+then-file-ne46 w ↦ λ s. w.if-file-ne46.true s.1 ])

pub returns : goal.returns
returns c = let file = c.args.file.now in c.is_begun.ensures ∙ file-begun c.args.prefix.now c.args.steps file (eleven file) c.if-prefix-gt-NAME_LENGTH.false refl (eleven-pointed_name file c.if-file.false c.if-file-ne46.false)
