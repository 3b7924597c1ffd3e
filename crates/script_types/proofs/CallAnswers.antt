-- The two ways in which a call's operands end.
use Rattle.std.proofs.Common.{◌≡◌, ℕ, Bool, List, [], ◌∷◌, map, length, Result, Ok, Err, sym, ◌∙◌, ap}
use Rattle.text_base.specs.Results.{◌>>=◌}
use Rattle.script_syntax.specs.declared.tree.Expr.{Expr}
use Rattle.script_syntax.specs.declared.tree.Expr.TheVariants as e
use Rattle.script_types.specs.declared.end.KindEnd.{KindEnd}
use Rattle.script_types.specs.declared.typed.UsedAs.{UsedAs}
use Rattle.script_types.specs.declared.typed.UsedAs.TheVariants as used
use Rattle.script_types.specs.declared.typed.Typed.{Typed}
use Rattle.script_types.specs.Checks.{all_of}
use Rattle.script_types.specs.Names.{first_role, in_roles}
use Rattle.script_types.specs.inside.Scopes.{GivesKind}
use Rattle.script_types.specs.Typing.{Scope, typed_as, call_read}
use Rattle.script_types.proofs.Fronts.{with_front}
use Rattle.script_types.proofs.GivesLaws.{gives_same, gives_stop, gives_end}
use Rattle.script_types.proofs.TypedCalls.{typed_call, operand_as}

-- the value of a call, by its operands
by_operands : (s : Scope) (expr : Expr) (word : List ℕ) (args : List Expr) (w : Bool) (r first : UsedAs) → expr ≡ e.Call word args → first ≡ first_role word (length args) → all_of (in_roles first (map (operand_as s) args)) >>= (λ ts. call_read s.section w word ts) ≡ typed_as s expr w r
by_operands s expr word args w r first he hf = ap (λ q. all_of (in_roles q (map (operand_as s) args)) >>= (λ ts. call_read s.section w word ts)) hf ∙ sym (typed_call s word args w r) ∙ ap (λ x. typed_as s x w r) (sym he)

-- All operands are found.
pub all_found : (s : Scope) (expr : Expr) (word : List ℕ) (args : List Expr) (w : Bool) (r first : UsedAs) (found : List Typed) (answer : Result Typed KindEnd) → expr ≡ e.Call word args → first ≡ first_role word (length args) → with_front found (Ok []) ≡ all_of (in_roles first (map (operand_as s) args)) → GivesKind answer (call_read s.section w word found) → GivesKind answer (typed_as s expr w r)
all_found s expr word args w r first found answer he hf hw h = gives_same answer (by_operands s expr word args w r first he hf) (gives_end answer found (all_of (in_roles first (map (operand_as s) args))) (λ ts. call_read s.section w word ts) hw h)

-- An operand is at fault.
pub one_fails : (s : Scope) (expr : Expr) (word : List ℕ) (args : List Expr) (w : Bool) (r first asked : UsedAs) (found : List Typed) (arg : Expr) (rest : List Expr) (end : KindEnd) → expr ≡ e.Call word args → first ≡ first_role word (length args) → with_front found (all_of (in_roles asked (map (operand_as s) (arg ∷ rest)))) ≡ all_of (in_roles first (map (operand_as s) args)) → GivesKind {A = Typed} (Err end) (operand_as s arg asked) → GivesKind {A = Typed} (Err end) (typed_as s expr w r)
one_fails s expr word args w r first asked found arg rest end he hf hw h = gives_same (Err end) (by_operands s expr word args w r first he hf) (gives_stop end found (operand_as s arg asked) (all_of (in_roles used.Grid (map (operand_as s) rest))) (all_of (in_roles first (map (operand_as s) args))) (λ ts. call_read s.section w word ts) h hw)
