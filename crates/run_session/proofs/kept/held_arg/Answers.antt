-- No map where there is no input of this number.
use Rattle.std.proofs.Common.{◌≡◌, ap, subst, sym, ◌∙◌}
use Rattle.std.specs.Option.{option_copied}
use Rattle.cell_values.specs.declared.cell.Cell.TheVariants.{Mv}
use Rattle.map_meaning.specs.declared.program.Operand.{Operand}
use Rattle.run_session.specs.inside.Standings.{held_cell}
use Rattle.run_session.proofs.Lists.{none_at}
use Rattle.run_session.proofs.kept.held_arg.Goals as goal

pub returns-in-None : goal.returns-in-None
returns-in-None c place =
    let P : Operand → Type 0 = λ o. Mv ≡ held_cell c.args.known.now c.args.now.now c.args.step c.args.input o place in
    subst P (sym c.in-Input.is) (none_at c.args.known.now.maps c.args.input place (sym c.get.ensures.value ∙ ap option_copied c.in-None.is))
