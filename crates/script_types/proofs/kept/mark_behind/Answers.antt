use Rattle.script_types.specs.inside.Kept.{is_earlier}
use Rattle.script_types.proofs.KeptLemmas.{marks-four}
use Rattle.script_types.proofs.kept.mark_behind.Goals as goal

pub returns : goal.returns
returns c = marks-four (is_earlier c.args.begin) c.args.operation.now c.args.marks.now c.mark_earlier.new.marks c.mark_earlier-2.new.marks c.mark_earlier-3.new.marks c.mark_earlier-4.new.marks c.mark_earlier.ensures c.mark_earlier-2.ensures c.mark_earlier-3.ensures c.mark_earlier-4.ensures
