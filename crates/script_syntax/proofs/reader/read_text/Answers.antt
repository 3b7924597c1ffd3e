use Rattle.script_syntax.proofs.ReadSteps.{answers, tree_by_tokens-is}
use Rattle.std.proofs.Common.{sym}
use Rattle.script_syntax.proofs.reader.read_text.Goals as goal

pub returns : goal.returns
returns c = answers c.read.result _ _ c.read.ensures (sym (tree_by_tokens-is c.args.text.now c.new-2.result c.in_ok-reading.reading c.new-2.ensures.rest c.new-2.ensures.mode c.new-2.ensures.place c.in_ok-reading.ensures))
