-- Whatever was taken can be completed to a script.
use Rattle.std.proofs.Common.{◌≡◌, ◌≤◌, ◌++◌, ℕ, Bool, true, List, [], ◌∷◌, Option, Some, None, refl, sym, ◌∙◌, ap, arith, append_assoc}
use Rattle.std.specs.Prelude.{codes}
use Rattle.script_syntax.specs.declared.token.Key.TheVariants as keys
use Rattle.script_syntax.specs.declared.token.Mark.TheVariants as marks
use Rattle.script_syntax.specs.declared.token.Token.{Token}
use Rattle.script_syntax.specs.declared.token.Token.TheVariants as tokens
use Rattle.script_syntax.specs.declared.tree.Binding.{Binding}
use Rattle.script_syntax.specs.declared.tree.Target.{Target}
use Rattle.script_syntax.specs.declared.tree.Target.TheVariants as targets
use Rattle.cell_values.specs.declared.kind.Kind.{Kind}
use Rattle.cell_values.specs.declared.kind.Kind.TheVariants.{Scalar}
use Rattle.script_syntax.specs.Grammar.{by_comma, then_token, else_token, ExprForm, expr_on, PrimForm, number, name, called, call, brackets, choice, choice_else, prim_on, args_one, args_more, args_on, StatForm, report_on, static, timed, ScriptForm, script_on}
use Rattle.script_syntax.specs.inside.Formulas.{hole}
use Rattle.script_syntax.proofs.Pieces.{Piece, of_prim, piece_level, piece_on, as_expr, same_expr}
use Rattle.script_syntax.proofs.Rings.{Ring, or_left, xor_left, and_left, comp_left, sum_left, prod_left, in_not, in_sign, in_brackets, in_call, in_args, in_condition, in_then, in_else, frames_of, ring_on, rings_on, AreTight, joins, joins_is, hole_small}
use Rattle.script_syntax.proofs.FormulaPasts.{FormulaPast, OperandPast, due, named, opened_call, started_if, valued_as, operand_on, formula_on}
use Rattle.script_syntax.proofs.ScriptPasts.{Head, Front, in_static, in_initial, in_dynamic, front_on, more_front, entries_on-append, more_front_on, Past, at_start, at_bindings, at_bound_name, at_bound_equal, at_bound, at_bound_colon, at_bound_kind, at_areamap, at_area, at_covered, at_timer, at_timer_from, at_timer_to, at_timer_by, at_timed, at_section, at_reported, at_named, at_formula, past_on, IsGood}

-- ---- expressions

-- more tokens with which an operand in its rings is an expression
record IsCompleted (rs : List Ring) (p : Piece) : Type 0 where
  tail : List Token
  form : ExprForm
  on : (rest : List Token) → expr_on form rest ≡ rings_on rs (piece_on p (tail ++ rest))

-- an expression to complete others with
some_form : ExprForm
some_form = as_expr (of_prim (number (codes "0")))

some_token : Token
some_token = tokens.Number (codes "0")

-- a ring with its operand and more tokens is an operand
ends_ring : (r : Ring) (rs : List Ring) (p : Piece) (q : PrimForm) (more : List Token) → ((rest : List Token) → prim_on q rest ≡ ring_on r (piece_on p (more ++ rest))) → IsCompleted rs (of_prim q) → IsCompleted (r ∷ rs) p
ends_ring r rs p q more on c = record {
  tail = more ++ c.tail;
  form = c.form;
  on = λ rest. c.on rest ∙ (ap (rings_on rs) (on (c.tail ++ rest)) ∙ ap (λ ts. rings_on rs (ring_on r (piece_on p ts))) (sym (append_assoc more c.tail rest)));
}

-- a ring that no token closes
joins_ring : (r : Ring) (rs : List Ring) (p : Piece) → ((rest : List Token) → piece_on (joins r p) rest ≡ ring_on r (piece_on p rest)) → IsCompleted rs (joins r p) → IsCompleted (r ∷ rs) p
joins_ring r rs p on c = record { tail = c.tail; form = c.form; on = λ rest. c.on rest ∙ ap (rings_on rs) (on (c.tail ++ rest)) }

completed : (rs : List Ring) (p : Piece) → AreTight rs → hole (frames_of rs) ≤ piece_level p → IsCompleted rs p
unfolding some_form some_token
completed [] p t h = let s = same_expr p h in record { tail = []; form = as_expr p; on = s.tokens }
completed (or_left e ∷ rs) p t h = let j = joins_is (or_left e) p (omega arith) h in joins_ring (or_left e) rs p j.on (completed rs (joins (or_left e) p) t.1 t.0)
completed (xor_left e ∷ rs) p t h = let j = joins_is (xor_left e) p (omega arith) h in joins_ring (xor_left e) rs p j.on (completed rs (joins (xor_left e) p) t.1 t.0)
completed (and_left e ∷ rs) p t h = let j = joins_is (and_left e) p (omega arith) h in joins_ring (and_left e) rs p j.on (completed rs (joins (and_left e) p) t.1 t.0)
completed (comp_left e c ∷ rs) p t h = let j = joins_is (comp_left e c) p (omega arith) h in joins_ring (comp_left e c) rs p j.on (completed rs (joins (comp_left e c) p) t.1 t.0)
completed (sum_left e c ∷ rs) p t h = let j = joins_is (sum_left e c) p (omega arith) h in joins_ring (sum_left e c) rs p j.on (completed rs (joins (sum_left e c) p) t.1 t.0)
completed (prod_left e c ∷ rs) p t h = let j = joins_is (prod_left e c) p (omega arith) h in joins_ring (prod_left e c) rs p j.on (completed rs (joins (prod_left e c) p) t.1 t.0)
completed (in_not ∷ rs) p t h = let j = joins_is in_not p (omega arith) h in joins_ring in_not rs p j.on (completed rs (joins in_not p) t.1 t.0)
completed (in_sign ∷ rs) p t h = let j = joins_is in_sign p (omega arith) h in joins_ring in_sign rs p j.on (completed rs (joins in_sign p) t.1 t.0)
completed (in_brackets ∷ rs) p t h =
    let s = same_expr p h in
    ends_ring in_brackets rs p (brackets (as_expr p)) (tokens.Mark marks.Close ∷ [])
    (λ rest. ap (λ ts. tokens.Mark marks.Open ∷ ts) (s.tokens (tokens.Mark marks.Close ∷ rest)))
    (completed rs (of_prim (brackets (as_expr p))) t.1 t.0)
completed (in_call w ∷ rs) p t h =
    let s = same_expr p h in
    ends_ring (in_call w) rs p (call w (args_one (as_expr p))) (tokens.Mark marks.Close ∷ [])
    (λ rest. ap (λ ts. tokens.Name w ∷ tokens.Mark marks.Open ∷ ts) (s.tokens (tokens.Mark marks.Close ∷ rest)))
    (completed rs (of_prim (call w (args_one (as_expr p)))) t.1 t.0)
completed (in_args w a ∷ rs) p t h =
    let s = same_expr p h in
    ends_ring (in_args w a) rs p (call w (args_more a (as_expr p))) (tokens.Mark marks.Close ∷ [])
    (λ rest. ap (λ ts. tokens.Name w ∷ tokens.Mark marks.Open ∷ args_on a (tokens.Mark marks.Comma ∷ ts)) (s.tokens (tokens.Mark marks.Close ∷ rest)))
    (completed rs (of_prim (call w (args_more a (as_expr p)))) t.1 t.0)
completed (in_condition ∷ rs) p t h =
    let s = same_expr p h in
    ends_ring in_condition rs p (choice (as_expr p) by_comma some_form) (tokens.Mark marks.Comma ∷ some_token ∷ tokens.Mark marks.Close ∷ [])
    (λ rest. ap (λ ts. tokens.Key keys.If ∷ tokens.Mark marks.Open ∷ ts) (s.tokens (tokens.Mark marks.Comma ∷ some_token ∷ tokens.Mark marks.Close ∷ rest)))
    (completed rs (of_prim (choice (as_expr p) by_comma some_form)) t.1 t.0)
completed (in_then c q ∷ rs) p t h =
    let s = same_expr p h in
    ends_ring (in_then c q) rs p (choice c q (as_expr p)) (tokens.Mark marks.Close ∷ [])
    (λ rest. ap (λ ts. tokens.Key keys.If ∷ tokens.Mark marks.Open ∷ expr_on c (then_token q ∷ ts)) (s.tokens (tokens.Mark marks.Close ∷ rest)))
    (completed rs (of_prim (choice c q (as_expr p))) t.1 t.0)
completed (in_else c q a r ∷ rs) p t h =
    let s = same_expr p h in
    ends_ring (in_else c q a r) rs p (choice_else c q a r (as_expr p)) (tokens.Mark marks.Close ∷ [])
    (λ rest. ap (λ ts. tokens.Key keys.If ∷ tokens.Mark marks.Open ∷ expr_on c (then_token q ∷ expr_on a (else_token r ∷ ts))) (s.tokens (tokens.Mark marks.Close ∷ rest)))
    (completed rs (of_prim (choice_else c q a r (as_expr p))) t.1 t.0)

-- more tokens with which what was taken is an expression
record IsExpression (f : FormulaPast) : Type 0 where
  tail : List Token
  form : ExprForm
  on : (rest : List Token) → expr_on form rest ≡ formula_on f (tail ++ rest)

-- an operand that is completed with these tokens
by_prim : (rs : List Ring) (o : OperandPast) (p : PrimForm) (more : List Token) → AreTight rs → ((rest : List Token) → prim_on p rest ≡ operand_on o (more ++ rest)) → IsExpression (record { rings = rs; operand = o })
by_prim rs o p more t on =
    let fits : hole (frames_of rs) ≤ 9 = (let s = hole_small rs in omega arith) in
    let c = completed rs (of_prim p) t fits in
    record {
      tail = more ++ c.tail;
      form = c.form;
      on = λ rest. c.on rest ∙ (ap (rings_on rs) (on (c.tail ++ rest)) ∙ ap (λ ts. rings_on rs (operand_on o ts)) (sym (append_assoc more c.tail rest)));
    }

expression : (rs : List Ring) (o : OperandPast) → AreTight rs → IsExpression (record { rings = rs; operand = o })
unfolding some_form some_token
expression rs due t = by_prim rs due (number (codes "0")) (some_token ∷ []) t (λ rest. refl)
expression rs (named w) t = by_prim rs (named w) (name w) [] t (λ rest. refl)
expression rs (opened_call w) t = by_prim rs (opened_call w) (called w) (tokens.Mark marks.Close ∷ []) t (λ rest. refl)
expression rs started_if t = by_prim rs started_if (choice some_form by_comma some_form) (tokens.Mark marks.Open ∷ some_token ∷ tokens.Mark marks.Comma ∷ some_token ∷ tokens.Mark marks.Close ∷ []) t (λ rest. refl)
expression rs (valued_as p) t = by_prim rs (valued_as p) p [] t (λ rest. refl)

-- ---- scripts

-- more tokens with which what was taken is a script
pub record IsCompletable (p : Past) : Type 0 where
  pub tail : List Token
  pub form : ScriptForm
  pub on : script_on form [] ≡ past_on p tail

-- what can be completed after more tokens can be completed before them
before : (p q : Past) (more : List Token) → ((rest : List Token) → past_on q rest ≡ past_on p (more ++ rest)) → IsCompletable q → IsCompletable p
before p q more on c = record { tail = more ++ c.tail; form = c.form; on = c.on ∙ on c.tail }

end_section : (f : Front) → IsCompletable (at_section f)
end_section (in_static h ss) = record { tail = []; form = record { bindings = h.bindings; area = h.area; sections = static ss }; on = refl }
end_section (in_initial h from to by ss) = record { tail = tokens.Key keys.Dynamic ∷ []; form = record { bindings = h.bindings; area = h.area; sections = timed from to by (Some ss) [] }; on = refl }
end_section (in_dynamic h from to by initial ss) = record { tail = []; form = record { bindings = h.bindings; area = h.area; sections = timed from to by initial ss }; on = refl }

end_formula : (f : Front) (b : Bool) (w : List ℕ) (x : FormulaPast) → AreTight x.rings → IsCompletable (at_formula f b w x)
end_formula f b w x t =
    let e = expression x.rings x.operand t in
    let s : StatForm = record { report = b; name = w; expr = e.form } in
    before (at_formula f b w x) (at_section (more_front f s)) (e.tail ++ tokens.Mark marks.Semicolon ∷ [])
    (λ rest. more_front_on f s rest
    ∙ (ap (λ ts. front_on f (report_on b (tokens.Name w ∷ tokens.Mark marks.Equal ∷ ts))) (e.on (tokens.Mark marks.Semicolon ∷ rest))
    ∙ ap (λ ts. past_on (at_formula f b w x) ts) (sym (append_assoc e.tail (tokens.Mark marks.Semicolon ∷ []) rest))))
    (end_section (more_front f s))

end_named : (f : Front) (b : Bool) (w : List ℕ) → IsCompletable (at_named f b w)
end_named f b w = before (at_named f b w) (at_formula f b w (record { rings = []; operand = due })) (tokens.Mark marks.Equal ∷ []) (λ rest. refl) (end_formula f b w (record { rings = []; operand = due }) tt)

end_covered : (h : Head) → IsCompletable (at_covered h)
end_covered h = before (at_covered h) (at_section (in_static h [])) (tokens.Key keys.Initial ∷ []) (λ rest. refl) (end_section (in_static h []))

end_timed : (h : Head) (from to by : List ℕ) → IsCompletable (at_timed h from to by)
end_timed h from to by = before (at_timed h from to by) (at_section (in_dynamic h from to by None [])) (tokens.Key keys.Dynamic ∷ []) (λ rest. refl) (end_section (in_dynamic h from to by None []))

end_timer_by : (h : Head) (from to by : List ℕ) → IsCompletable (at_timer_by h from to by)
end_timer_by h from to by = before (at_timer_by h from to by) (at_timed h from to by) (tokens.Mark marks.Semicolon ∷ []) (λ rest. refl) (end_timed h from to by)

end_timer_to : (h : Head) (from to : List ℕ) → IsCompletable (at_timer_to h from to)
end_timer_to h from to = before (at_timer_to h from to) (at_timer_by h from to []) (tokens.Number [] ∷ []) (λ rest. refl) (end_timer_by h from to [])

end_timer_from : (h : Head) (from : List ℕ) → IsCompletable (at_timer_from h from)
end_timer_from h from = before (at_timer_from h from) (at_timer_to h from []) (tokens.Number [] ∷ []) (λ rest. refl) (end_timer_to h from [])

end_area : (h : Head) → IsCompletable (at_area h)
end_area h = before (at_area h) (at_covered h) (tokens.Mark marks.Semicolon ∷ []) (λ rest. refl) (end_covered h)

end_areamap : (bs : Option (List Binding)) → IsCompletable (at_areamap bs)
end_areamap bs = before (at_areamap bs) (at_area (record { bindings = bs; area = [] })) (tokens.File [] ∷ []) (λ rest. refl) (end_area (record { bindings = bs; area = [] }))

end_bindings : (bs : List Binding) → IsCompletable (at_bindings bs)
end_bindings bs = before (at_bindings bs) (at_areamap (Some bs)) (tokens.Key keys.Areamap ∷ []) (λ rest. refl) (end_areamap (Some bs))

end_bound : (bs : List Binding) (w : List ℕ) (t : Target) → IsCompletable (at_bound bs w t)
end_bound bs w t =
    let b : Binding = record { name = w; target = t; kind = None } in
    before (at_bound bs w t) (at_bindings (bs ++ b ∷ [])) (tokens.Mark marks.Semicolon ∷ [])
    (λ rest. ap (λ ts. tokens.Key keys.Binding ∷ ts) (entries_on-append bs b rest))
    (end_bindings (bs ++ b ∷ []))

end_equal : (bs : List Binding) (w : List ℕ) → IsCompletable (at_bound_equal bs w)
end_equal bs w = before (at_bound_equal bs w) (at_bound bs w (targets.File [])) (tokens.File [] ∷ []) (λ rest. refl) (end_bound bs w (targets.File []))

end_kind : (bs : List Binding) (w : List ℕ) (t : Target) (k : Kind) → IsCompletable (at_bound_kind bs w t k)
end_kind bs w t k =
    let b : Binding = record { name = w; target = t; kind = Some k } in
    before (at_bound_kind bs w t k) (at_bindings (bs ++ b ∷ [])) (tokens.Mark marks.Semicolon ∷ [])
    (λ rest. ap (λ ts. tokens.Key keys.Binding ∷ ts) (entries_on-append bs b rest))
    (end_bindings (bs ++ b ∷ []))

pub completable : (p : Past) → IsGood p → IsCompletable p
completable at_start good = before at_start (at_areamap None) (tokens.Key keys.Areamap ∷ []) (λ rest. refl) (end_areamap None)
completable (at_bindings bs) good = end_bindings bs
completable (at_bound_name bs w) good = before (at_bound_name bs w) (at_bound_equal bs w) (tokens.Mark marks.Equal ∷ []) (λ rest. refl) (end_equal bs w)
completable (at_bound_equal bs w) good = end_equal bs w
completable (at_bound bs w t) good = end_bound bs w t
completable (at_bound_colon bs w t) good = before (at_bound_colon bs w t) (at_bound_kind bs w t Scalar) (tokens.Name (codes "scalar") ∷ []) (λ rest. refl) (end_kind bs w t Scalar)
completable (at_bound_kind bs w t k) good = end_kind bs w t k
completable (at_areamap bs) good = end_areamap bs
completable (at_area h) good = end_area h
completable (at_covered h) good = end_covered h
completable (at_timer h) good = before (at_timer h) (at_timer_from h []) (tokens.Number [] ∷ []) (λ rest. refl) (end_timer_from h [])
completable (at_timer_from h from) good = end_timer_from h from
completable (at_timer_to h from to) good = end_timer_to h from to
completable (at_timer_by h from to by) good = end_timer_by h from to by
completable (at_timed h from to by) good = end_timed h from to by
completable (at_section f) good = end_section f
completable (at_reported f) good = before (at_reported f) (at_named f true []) (tokens.Name [] ∷ []) (λ rest. refl) (end_named f true [])
completable (at_named f b w) good = end_named f b w
completable (at_formula f b w x) good = end_formula f b w x good
