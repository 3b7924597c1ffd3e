-- A table that is read has results of its kind.
use Rattle.text_base.specs.Lines.{lines_of}
use Rattle.run_session.proofs.TableValues.{results_fit}
use Rattle.run_session.proofs.tables.parse_table.Goals as goal

pub returns-in-Ok-clause-values : goal.returns-in-Ok-clause-values
returns-in-Ok-clause-values c = results_fit c.args.keys c.args.input.now.kind (lines_of c.args.text.now) c.in-Ok.table.rows c.in-Ok.ensures.found.rows
