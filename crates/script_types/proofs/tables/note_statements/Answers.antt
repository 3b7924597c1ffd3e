use Rattle.std.proofs.Common.{◌+◌, ◌∷◌, drop, sym, ◌∙◌, ap, arith}
use Rattle.std.proofs.lemmas.List.{drop_more}
use Rattle.script_types.specs.inside.Look.{look}
use Rattle.script_types.specs.declared.typed.UsedAs.TheVariants as used
use Rattle.script_types.specs.Names.{role_of, statements_uses, uses}
use Rattle.script_types.specs.Typing.{or_kind}
use Rattle.script_types.proofs.FirstUses.{next_use}
use Rattle.script_types.proofs.tables.note_statements.Goals as goal

pub loop-statement-preserved : goal.loop-statement-preserved
loop-statement-preserved c = λ name.
    let items = c.args.statements.now in
    let at = c.loop-statement.statement-index in
    let left = drop_more items at c.statement-item.result (omega arith) ∙ ap (λ a. a ∷ drop (at + 1) items) (sym c.statement-item.is) in
    next_use (look c.loop-statement.roles.values name) (look c.note_uses.new.roles.values name) (uses c.statement-item.result.expr used.Grid) (statements_uses (drop (at + 1) items)) name (c.in_ok-_stacks.ensures.noted name) ∙ ap (λ xs. or_kind (look c.loop-statement.roles.values name) (role_of (statements_uses xs) name)) (sym left) ∙ c.loop-statement.invariant name
