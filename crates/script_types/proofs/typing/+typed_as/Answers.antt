use Rattle.std.proofs.Common.{◌+◌, ◌∷◌, Ok, sym, ◌∙◌, ap, arith, drop, map}
use Rattle.std.proofs.lemmas.List.{drop_more, drop_all}
use Rattle.script_types.specs.declared.typed.Typed.TheVariants as typed
use Rattle.script_types.specs.Checks.{all_of}
use Rattle.script_types.specs.Names.{first_role, in_roles}
use Rattle.script_types.specs.Typing.{typed_as, name_read, call_read}
use Rattle.script_types.specs.inside.Scopes.{scope_of}
use Rattle.script_types.proofs.Fronts.{with_front}
use Rattle.script_types.proofs.GivesLaws.{gives_same, handed_on}
use Rattle.script_types.proofs.TypedCalls.{typed_name, typed_number, operand_as}
use Rattle.script_types.proofs.CallAnswers.{all_found, one_fails}
use Rattle.script_types.proofs.typing.+typed_as.Goals as goal

pub returns-in_err-typed-in-Call : goal.returns-in_err-typed-in-Call
returns-in_err-typed-in-Call t c =
    let s = scope_of c.args.scope.now in
    let items = c.as_slice-arg-items.result.now in
    let first = c.first_role-asked.result in
    let left = drop_more items c.loop-arg.arg-index c.arg-item.result (omega arith) ∙ ap (λ a. a ∷ drop (c.loop-arg.arg-index + 1) items) (sym c.arg-item.is) in
    let told = one_fails s c.args.expr.now c.in-Call.word c.in-Call.args c.args.is_whole c.args.role first c.loop-arg.asked c.loop-arg.found.items c.arg-item.result (drop (c.loop-arg.arg-index + 1) items) c.in_err-typed-in-Call.field-0.0 c.in-Call.is (c.first_role-asked.ensures ∙ ap (λ w. first_role w c.len.result) c.bytes-in-Call.ensures ∙ ap (λ n. first_role c.in-Call.word n) c.len.ensures) (ap (λ xs. with_front c.loop-arg.found.items (all_of (in_roles c.loop-arg.asked (map (operand_as s) xs)))) (sym left) ∙ c.loop-arg.invariant ∙ ap (λ xs. all_of (in_roles first (map (operand_as s) xs))) c.as_slice-arg-items.ensures) c.in_err-typed-in-Call.ensures in
    handed_on c.from_residual-in_err-typed-in-Call.result c.in_err-typed-in-Call.field-0.0 (typed_as s c.args.expr.now c.args.is_whole c.args.role) c.from_residual-in_err-typed-in-Call.ensures told

pub returns-in-Name : goal.returns-in-Name
returns-in-Name t c = let s = scope_of c.args.scope.now in gives_same c.name.result (ap (λ n. name_read s c.args.role n) c.bytes.ensures ∙ sym (typed_name s c.in-Name.name c.args.is_whole c.args.role) ∙ ap (λ x. typed_as s x c.args.is_whole c.args.role) (sym c.in-Name.is)) c.name.ensures

pub returns-in_ok-twin-in-Number : goal.returns-in_ok-twin-in-Number
returns-in_ok-twin-in-Number t c = let s = scope_of c.args.scope.now in ap (λ x. typed_as s x c.args.is_whole c.args.role) c.in-Number.is ∙ typed_number s c.in-Number.text c.args.is_whole c.args.role ∙ ap (λ w. Ok (typed.Literal w)) (sym c.in_ok-twin-in-Number.ensures)

pub returns-after-loop-arg : goal.returns-after-loop-arg
returns-after-loop-arg t c =
    let s = scope_of c.args.scope.now in
    let items = c.as_slice-arg-items.result.now in
    let first = c.first_role-asked.result in
    all_found s c.args.expr.now c.in-Call.word c.in-Call.args c.args.is_whole c.args.role first c.loop-arg.found.items c.call.result c.in-Call.is (c.first_role-asked.ensures ∙ ap (λ w. first_role w c.len.result) c.bytes-in-Call.ensures ∙ ap (λ n. first_role c.in-Call.word n) c.len.ensures) (ap (λ xs. with_front c.loop-arg.found.items (all_of (in_roles c.loop-arg.asked (map (operand_as s) xs)))) (sym (drop_all c.loop-arg.arg-index items (omega arith))) ∙ c.loop-arg.invariant ∙ ap (λ xs. all_of (in_roles first (map (operand_as s) xs))) c.as_slice-arg-items.ensures) (gives_same c.call.result (ap (λ w. call_read s.section c.args.is_whole w c.loop-arg.found.items) c.bytes-in-Call-2.ensures) c.call.ensures)
