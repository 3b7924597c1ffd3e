use Rattle.map_meaning.proofs.Callers.{after_statements-append, operation_values-append}
use Rattle.map_meaning.proofs.laws.sections_go_on.Goals as goal

pub returns-clause-statements : goal.returns-clause-statements
returns-clause-statements c = after_statements-append

pub returns-clause-operations : goal.returns-clause-operations
returns-clause-operations c = operation_values-append
