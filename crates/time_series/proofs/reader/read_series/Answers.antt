use Rattle.time_series.proofs.Laws as laws
use Rattle.time_series.proofs.reader.read_series.Goals as goal

pub returns-clause-found : goal.returns-clause-found
returns-clause-found c = laws.found c.args.kind c.args.text.now c.read_whole.result c.read_whole.ensures

pub returns-clause-only : goal.returns-clause-only
returns-clause-only c = laws.only c.args.kind c.args.text.now c.read_whole.result c.read_whole.ensures

pub returns-clause-first : goal.returns-clause-first
returns-clause-first c = laws.first c.args.kind c.args.text.now c.read_whole.result c.read_whole.ensures
