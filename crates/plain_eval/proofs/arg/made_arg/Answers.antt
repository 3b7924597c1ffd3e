use Rattle.std.proofs.Common.{◌≡◌, ◌≤◌, true, ap, subst, ◌∙◌, arith}
use Rattle.tile_map.specs.Cuts.{cell_at}
use Rattle.map_meaning.specs.declared.known.Span.{Span}
use Rattle.map_meaning.specs.declared.known.Span.TheVariants as span
use Rattle.map_meaning.specs.declared.program.Operand.{Operand}
use Rattle.span_operands.specs.Made.{span_start, is_made}
use Rattle.plain_eval.proofs.Agrees.{held_within}
use Rattle.plain_eval.proofs.arg.made_arg.Goals as goal

pub returns-in-Initial-operand-clause-cell : goal.returns-in-Initial-operand-clause-cell
returns-in-Initial-operand-clause-cell c = λ program.
    let first = c.in-Initial.first in
    let n = c.in-Initial-operand.n in
    let of_stage = subst (λ (s : Span). is_made s (span_start s) c.args.operand ≡ true) c.in-Initial.is c.requires.made in
    let of_initial = subst (λ (operand : Operand). is_made (span.Initial first c.in-Initial.end) 0 operand ≡ true) c.in-Initial-operand.is of_stage in
    let past : first ≤ n = grind (arith, of_initial) in
    rw (c.in-Initial.is, c.in-Initial-operand.is) (c.held_arg.ensures.cell ∙ ap cell_at (held_within program c.args.known.now c.args.held.now first c.in-Initial.end n past))
