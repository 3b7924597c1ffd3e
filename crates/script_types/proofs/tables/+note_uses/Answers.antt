use Rattle.std.proofs.Common.{◌+◌, List, ◌∷◌, map, drop, sym, ◌∙◌, ap, arith, Some, if◌then◌else◌}
use Rattle.std.specs.Option.{is_some}
use Rattle.std.specs.Str.{bytes_eq}
use Rattle.std.proofs.lemmas.List.{drop_more, drop_all}
use Rattle.script_types.specs.inside.Look.{look}
use Rattle.script_types.specs.inside.Stacks.{has_role, with_use, with_uses}
use Rattle.script_types.specs.declared.typed.UsedAs.TheVariants as used
use Rattle.script_types.specs.Names.{Use, first_role, in_roles, joined_lists, role_of, uses}
use Rattle.script_types.specs.Typing.{or_kind}
use Rattle.script_types.proofs.FirstUses.{new_use, kept_use, no_use, next_use, or_else_none, uses_call, uses_name, uses_number}
use Rattle.script_types.proofs.StackCounts.{counted-on}
use Rattle.script_types.proofs.tables.+note_uses.Goals as goal

pub loop-arg-preserved : goal.loop-arg-preserved
loop-arg-preserved t c =
    let items = c.as_slice-arg-items.result.now in
    let at = c.loop-arg.arg-index in
    let rest = joined_lists (in_roles used.Grid (map uses (drop (at + 1) items))) in
    let here = uses c.arg-item.result c.loop-arg.asked in
    let left = drop_more items at c.arg-item.result (omega arith) ∙ ap (λ a. a ∷ drop (at + 1) items) (sym c.arg-item.is) in
    record {
      few = c.in_ok-counted-in-Call.ensures.few;
      counted = counted-on (look c.loop-arg.roles.values) (look c.note_uses.new.roles.values) here rest c.loop-arg.counted c.in_ok-counted-in-Call.counted c.in_ok-counted-in-Call.ensures.noted c.in_ok-counted-in-Call.ensures.counted ∙ ap (λ xs. with_uses (has_role c.loop-arg.roles) (joined_lists (in_roles c.loop-arg.asked (map uses xs))) c.loop-arg.counted) (sym left) ∙ c.loop-arg.invariant.counted;
      noted = λ name. next_use (look c.loop-arg.roles.values name) (look c.note_uses.new.roles.values name) here rest name (c.in_ok-counted-in-Call.ensures.noted name) ∙ ap (λ xs. or_kind (look c.loop-arg.roles.values name) (role_of (joined_lists (in_roles c.loop-arg.asked (map uses xs))) name)) (sym left) ∙ c.loop-arg.invariant.noted name;
    }

pub returns-in_ok-set-in-None-clause-counted : goal.returns-in_ok-set-in-None-clause-counted
returns-in_ok-set-in-None-clause-counted t c =
    let fresh = ap (look c.args.roles.now.values) (sym c.bytes.ensures) ∙ sym c.get.ensures ∙ c.in-None.is in
    c.with_use.ensures ∙ ap (λ b. if b then c.args.stacks else with_use c.args.role c.args.stacks) (sym (ap is_some fresh)) ∙ ap (λ us. with_uses (has_role c.args.roles.now) us c.args.stacks) (sym (ap (λ x. uses x c.args.role) c.in-Name.is ∙ uses_name c.in-Name.name c.args.role))

pub returns-in_ok-set-in-None-clause-noted : goal.returns-in_ok-set-in-None-clause-noted
returns-in_ok-set-in-None-clause-noted t c = λ name. c.in_ok-set-in-None.ensures name ∙ ap (λ n. if bytes_eq name n then Some c.args.role else look c.args.roles.now.values name) c.bytes-in-None.ensures ∙ new_use (look c.args.roles.now.values) c.args.expr.now c.in-Name.name c.args.role name c.in-Name.is (ap (look c.args.roles.now.values) (sym c.bytes.ensures) ∙ sym c.get.ensures ∙ c.in-None.is)

pub returns-in-Some-clause-counted : goal.returns-in-Some-clause-counted
returns-in-Some-clause-counted t c =
    let known = ap (look c.args.roles.now.values) (sym c.bytes.ensures) ∙ sym c.get.ensures ∙ c.in-Some.is in
    ap (λ b. if b then c.args.stacks else with_use c.args.role c.args.stacks) (sym (ap is_some known)) ∙ ap (λ us. with_uses (has_role c.args.roles.now) us c.args.stacks) (sym (ap (λ x. uses x c.args.role) c.in-Name.is ∙ uses_name c.in-Name.name c.args.role))

pub returns-in-Some-clause-noted : goal.returns-in-Some-clause-noted
returns-in-Some-clause-noted t c = λ name. kept_use (look c.args.roles.now.values) c.args.expr.now c.in-Name.name c.args.role c.in-Some.field-0 name c.in-Name.is (ap (look c.args.roles.now.values) (sym c.bytes.ensures) ∙ sym c.get.ensures ∙ c.in-Some.is)

pub returns-in-Number-clause-counted : goal.returns-in-Number-clause-counted
returns-in-Number-clause-counted t c = ap (λ us. with_uses (has_role c.args.roles.now) us c.args.stacks) (sym (ap (λ x. uses x c.args.role) c.in-Number.is ∙ uses_number c.in-Number.field-0 c.args.role))

pub returns-in-Number-clause-noted : goal.returns-in-Number-clause-noted
returns-in-Number-clause-noted t c = λ name. no_use (look c.args.roles.now.values name) c.args.expr.now c.in-Number.field-0 c.args.role name c.in-Number.is

pub returns-after-loop-arg-clause-counted : goal.returns-after-loop-arg-clause-counted
returns-after-loop-arg-clause-counted t c =
    let items = c.as_slice-arg-items.result.now in
    let count = λ (us : List Use). with_uses (has_role c.args.roles.now) us c.args.stacks in
    let first = c.first_role-asked.ensures ∙ ap (λ w. first_role w c.len.result) c.bytes-in-Call.ensures ∙ ap (λ n. first_role c.in-Call.word n) c.len.ensures in
    ap (λ xs. with_uses (has_role c.loop-arg.roles) (joined_lists (in_roles c.loop-arg.asked (map uses xs))) c.loop-arg.counted) (sym (drop_all c.loop-arg.arg-index items (omega arith))) ∙ c.loop-arg.invariant.counted ∙ ap count (ap (λ xs. joined_lists (in_roles c.first_role-asked.result (map uses xs))) c.as_slice-arg-items.ensures ∙ ap (λ r. joined_lists (in_roles r (map uses c.in-Call.args))) first ∙ sym (uses_call c.in-Call.word c.in-Call.args c.args.role) ∙ ap (λ x. uses x c.args.role) (sym c.in-Call.is))

pub returns-after-loop-arg-clause-noted : goal.returns-after-loop-arg-clause-noted
returns-after-loop-arg-clause-noted t c = λ name.
    let items = c.as_slice-arg-items.result.now in
    let known = look c.args.roles.now.values name in
    let first = c.first_role-asked.ensures ∙ ap (λ w. first_role w c.len.result) c.bytes-in-Call.ensures ∙ ap (λ n. first_role c.in-Call.word n) c.len.ensures in
    sym (or_else_none (look c.loop-arg.roles.values name)) ∙ ap (λ xs. or_kind (look c.loop-arg.roles.values name) (role_of (joined_lists (in_roles c.loop-arg.asked (map uses xs))) name)) (sym (drop_all c.loop-arg.arg-index items (omega arith))) ∙ c.loop-arg.invariant.noted name ∙ ap (λ us. or_kind known (role_of us name)) (ap (λ xs. joined_lists (in_roles c.first_role-asked.result (map uses xs))) c.as_slice-arg-items.ensures ∙ ap (λ r. joined_lists (in_roles r (map uses c.in-Call.args))) first ∙ sym (uses_call c.in-Call.word c.in-Call.args c.args.role) ∙ ap (λ x. uses x c.args.role) (sym c.in-Call.is))
