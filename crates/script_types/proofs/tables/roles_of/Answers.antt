use Rattle.std.proofs.Common.{Option, Some, None, refl, sym, ◌∙◌, ap, if◌then◌else◌}
use Rattle.std.specs.Str.{bytes_eq}
use Rattle.script_types.specs.declared.typed.UsedAs.{UsedAs}
use Rattle.script_types.specs.declared.typed.UsedAs.TheVariants as used
use Rattle.script_types.specs.Names.{role_of, statements_uses}
use Rattle.script_types.specs.Typing.{or_kind}
use Rattle.script_types.specs.inside.Look.{look}
use Rattle.script_types.proofs.FirstUses.{role_of_append, roles-all}
use Rattle.script_types.proofs.tables.roles_of.Goals as goal

pub returns : goal.returns
returns c = λ name.
    let script = c.args.script.now in
    let t = bytes_eq name script.area in
    let us = statements_uses script.initial in
    let vs = statements_uses script.dynamic in
    let noted : Option UsedAs = look c.in_ok-roles.roles.values name in
    roles-all t used.Grid None noted (look c.note_statements.new.roles.values name) (look c.note_statements-2.new.roles.values name) (role_of us name) (role_of vs name)
    refl
    (c.in_ok-roles.ensures name)
    (c.in_ok-note_statements.ensures name ∙ ap (λ xs. or_kind noted (role_of (statements_uses xs) name)) c.as_slice.ensures)
    (c.in_ok-note_statements-2.ensures name ∙ ap (λ xs. or_kind (look c.note_statements.new.roles.values name) (role_of (statements_uses xs) name)) c.as_slice-2.ensures)
    ∙ ap (λ r. if t then Some used.Grid else r) (sym (role_of_append us vs name))
