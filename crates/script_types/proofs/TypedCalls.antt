-- What an expression is at its place, one node at a time.
use Rattle.std.proofs.Common.{◌≡◌, ℕ, Bool, false, List, [], ◌∷◌, map, length, Result, Ok, refl, sym, ◌∙◌, ap}
use Rattle.text_base.specs.Results.{◌>>=◌}
use Rattle.script_syntax.specs.declared.tree.Expr.{Expr}
use Rattle.script_syntax.specs.declared.tree.Expr.TheVariants as e
use Rattle.script_syntax.specs.declared.tree.Expr.TheVariants.{rolls-Call, rolls-Name, rolls-Number}
use Rattle.script_syntax.specs.declared.tree.Expr.TheFolds.{fold-roll-Expr}
use Rattle.script_syntax.specs.declared.tree.Expr.TheOpen.{Expr-F}
use Rattle.script_types.specs.declared.fault.MeaningKind.{MeaningKind}
use Rattle.script_types.specs.declared.typed.UsedAs.{UsedAs}
use Rattle.script_types.specs.declared.typed.Typed.{Typed}
use Rattle.script_types.specs.declared.typed.Typed.TheVariants as typed
use Rattle.script_types.specs.Checks.{all_of}
use Rattle.script_types.specs.Names.{first_role, in_roles}
use Rattle.script_types.specs.Typing.{Scope, Placed, typed_as, typed_level, name_read, call_read}
use Rattle.std.proofs.lemmas.List.{length-map}

-- an operand in a role
abbrev pub operand_as : Scope → Expr → UsedAs → Result Typed MeaningKind
operand_as scope expr role = typed_as scope expr false role

mapped : (fs : List Expr) (scope : Scope) → map (λ operand. operand false) (map (typed_as scope) fs) ≡ map (operand_as scope) fs
mapped [] scope = refl
mapped (x ∷ xs) scope = ap (λ rest. operand_as scope x ∷ rest) (mapped xs scope)

-- a call, from its operands
pub typed_call : (scope : Scope) (word : List ℕ) (args : List Expr) (w : Bool) (r : UsedAs) → typed_as scope (e.Call word args) w r ≡ all_of (in_roles (first_role word (length args)) (map (operand_as scope) args)) >>= λ ts. call_read scope.section w word ts
unfolding typed_as
typed_call scope word args w r = ap (λ x. typed_as scope x w r) (sym (rolls-Call word args)) ∙ ap (λ f. f w r) (fold-roll-Expr Placed (typed_level scope) (Expr-F.Call word args)) ∙ ap (λ n. all_of (in_roles (first_role word n) (map (λ operand. operand false) (map (typed_as scope) args))) >>= λ ts. call_read scope.section w word ts) (length-map args (typed_as scope)) ∙ ap (λ fs. all_of (in_roles (first_role word (length args)) fs) >>= λ ts. call_read scope.section w word ts) (mapped args scope)

-- a name
pub typed_name : (scope : Scope) (name : List ℕ) (w : Bool) (r : UsedAs) → typed_as scope (e.Name name) w r ≡ name_read scope r name
unfolding typed_as
typed_name scope name w r = ap (λ x. typed_as scope x w r) (sym (rolls-Name name)) ∙ ap (λ f. f w r) (fold-roll-Expr Placed (typed_level scope) (Expr-F.Name name))

-- a number
pub typed_number : (scope : Scope) (text : List ℕ) (w : Bool) (r : UsedAs) → typed_as scope (e.Number text) w r ≡ Ok (typed.Literal text)
unfolding typed_as
typed_number scope text w r = ap (λ x. typed_as scope x w r) (sym (rolls-Number text)) ∙ ap (λ f. f w r) (fold-roll-Expr Placed (typed_level scope) (Expr-F.Number text))
