use Rattle.map_meaning.specs.Programs.{is_initial, is_last}
use Rattle.script_types.proofs.KeptLemmas.{marks-four}
use Rattle.script_types.proofs.kept.mark_read.Goals as goal

pub returns-clause-marks : goal.returns-clause-marks
returns-clause-marks c = marks-four is_initial c.args.operation.now c.args.marks.now c.mark_initial.new.marks c.mark_initial-2.new.marks c.mark_initial-3.new.marks c.mark_initial-4.new.marks c.mark_initial.ensures c.mark_initial-2.ensures c.mark_initial-3.ensures c.mark_initial-4.ensures

pub returns-clause-step_marks : goal.returns-clause-step_marks
returns-clause-step_marks c = marks-four is_last c.args.operation.now c.args.step_marks.now c.mark_last.new.marks c.mark_last-2.new.marks c.mark_last-3.new.marks c.mark_last-4.new.marks c.mark_last.ensures c.mark_last-2.ensures c.mark_last-3.ensures c.mark_last-4.ensures
