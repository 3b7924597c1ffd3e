use Rattle.lookup_table.proofs.Laws as laws
use Rattle.lookup_table.proofs.reader.read_table.Goals as goal

pub returns-clause-found : goal.returns-clause-found
returns-clause-found c = laws.found c.args.keys c.args.kind c.args.text.now c.read_whole.result c.read_whole.ensures

pub returns-clause-only : goal.returns-clause-only
returns-clause-only c = laws.only c.args.keys c.args.kind c.args.text.now c.read_whole.result c.read_whole.ensures

pub returns-clause-first : goal.returns-clause-first
returns-clause-first c = laws.first c.args.keys c.args.kind c.args.text.now c.read_whole.result c.read_whole.ensures
