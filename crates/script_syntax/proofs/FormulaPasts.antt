-- What was taken of an expression, with its forms.
use Rattle.std.proofs.Common.{◌≡◌, ◌<◌, ◌≤◌, ◌++◌, ℕ, Bool, true, false, List, [], ◌∷◌, Some, None, refl, sym, ◌∙◌, ap, arith}
use Rattle.std.specs.Prelude.{codes, nat_lt, if◌then◌else◌}
use Rattle.std.proofs.lemmas.Bool.Decides.{nat_tests}
use Rattle.text_base.proofs.Callers.{some_is}
use Rattle.script_syntax.specs.declared.token.Sign.TheVariants.{Plus, Minus}
use Rattle.script_syntax.specs.declared.token.Operator.{Operator}
use Rattle.script_syntax.specs.declared.token.Operator.TheVariants as operators
use Rattle.script_syntax.specs.declared.token.Key.TheVariants as keys
use Rattle.script_syntax.specs.declared.token.Mark.TheVariants as marks
use Rattle.script_syntax.specs.declared.token.Token.{Token}
use Rattle.script_syntax.specs.declared.token.Token.TheVariants as tokens
use Rattle.script_syntax.specs.declared.tree.Expr.{Expr}
use Rattle.script_syntax.specs.declared.tree.Expr.TheVariants as exprs
use Rattle.script_syntax.specs.declared.frames.Frame.{Frame}
use Rattle.script_syntax.specs.declared.frames.Frame.TheVariants as frames
use Rattle.script_syntax.specs.declared.formula.Operand.{Operand}
use Rattle.script_syntax.specs.declared.formula.Operand.TheVariants as operands
use Rattle.script_syntax.specs.declared.formula.Formula.{Formula}
use Rattle.script_syntax.specs.Grammar.{by_word, by_comma, then_token, else_token, ExprForm, expr_on, expr_tree, PrimForm, number, name, called, call, brackets, choice, choice_else, prim_on, prim_tree, args_one, args_more, args_on, args_trees, call_two, call_three}
use Rattle.script_syntax.specs.inside.Levels.{level_of, left_level}
use Rattle.script_syntax.specs.inside.Formulas.{hole, close, formula_step, after_value, after_due, operate, opened, valued, close_in, close_bracket, next_in, next_part, then_in, then_part, otherwise_in, otherwise_part, is_open, is_close, whole, alone_of, alone_in}
use Rattle.script_syntax.proofs.Pieces.{Piece, of_prim, piece_level, piece_on, piece_tree, as_expr, as_xor, as_and, as_sum, as_prod, same_expr, same_xor, same_and, same_sum, same_prod}
use Rattle.script_syntax.proofs.Rings.{Ring, or_left, xor_left, and_left, comp_left, sum_left, prod_left, in_not, in_sign, in_brackets, in_call, in_args, in_condition, in_then, in_else, frame_of, frames_of, ring_on, rings_on, ring_level, AreTight, hole_small}
use Rattle.script_syntax.proofs.Closing.{Closes, closes}

-- what was taken of the operand
pub data OperandPast : Type 0 where
  due : OperandPast
  named : List ℕ → OperandPast
  opened_call : List ℕ → OperandPast
  started_if : OperandPast
  valued_as : PrimForm → OperandPast

-- what was taken of an expression
pub record FormulaPast : Type 0 where
  pub rings : List Ring
  pub operand : OperandPast

abbrev pub operand_of : OperandPast → Operand
operand_of due = operands.Due
operand_of (named w) = operands.Name w
operand_of (opened_call w) = operands.Called w
operand_of started_if = operands.If
operand_of (valued_as p) = operands.Value (prim_tree p)

abbrev pub operand_on : OperandPast → List Token → List Token
operand_on due rest = rest
operand_on (named w) rest = tokens.Name w ∷ rest
operand_on (opened_call w) rest = tokens.Name w ∷ tokens.Mark marks.Open ∷ rest
operand_on started_if rest = tokens.Key keys.If ∷ rest
operand_on (valued_as p) rest = prim_on p rest

-- the reading of an expression that these tokens lead to
abbrev pub formula_of : FormulaPast → Formula
formula_of f = record { frames = frames_of f.rings; operand = operand_of f.operand }

-- the tokens that were taken, in front of the rest
abbrev pub formula_on : FormulaPast → List Token → List Token
formula_on f rest = rings_on f.rings (operand_on f.operand rest)

-- one more token was taken
pub record TakesMore (rs : List Ring) (old : List Token → List Token) (t : Token) (g : Formula) : Type 0 where
  pub next : FormulaPast
  pub is : formula_of next ≡ g
  pub tight : AreTight next.rings
  pub on : (rest : List Token) → formula_on next rest ≡ rings_on rs (old (t ∷ rest))

-- ---- an operand is due

abbrev Due : List Ring → Token → Formula → Type 0
Due rs t g = TakesMore rs (λ ts. ts) t g

-- a ring is opened
opens : (rs : List Ring) (r : Ring) (t : Token) (g : Formula) → AreTight rs → hole (frames_of rs) ≤ ring_level r → ((rest : List Token) → ring_on r rest ≡ t ∷ rest) → opened (frame_of r) (frames_of rs) ≡ Some g → Due rs t g
opens rs r t g tight fits on e = record {
  next = record { rings = r ∷ rs; operand = due };
  is = some_is (record { frames = frame_of r ∷ frames_of rs; operand = operands.Due }) g e;
  tight = (fits, tight);
  on = λ rest. ap (rings_on rs) (on rest);
}

due_not : (b : Bool) (rs : List Ring) (g : Formula) → AreTight rs → nat_lt 4 (hole (frames_of rs)) ≡ b → (if b then None else opened frames.Negated (frames_of rs)) ≡ Some g → Due rs tokens.Not g
due_not true rs g tight test e = absurd cc
due_not false rs g tight test e =
    let fits : hole (frames_of rs) ≤ 4 = grind (arith, nat_tests) in
    opens rs in_not tokens.Not g tight fits (λ rest. refl) e

takes_due : (rs : List Ring) (t : Token) (g : Formula) → AreTight rs → after_due (frames_of rs) t ≡ Some g → Due rs t g
takes_due rs (tokens.Name w) g tight e = record { next = record { rings = rs; operand = named w }; is = some_is (record { frames = frames_of rs; operand = operands.Name w }) g e; tight = tight; on = λ rest. refl }
takes_due rs (tokens.Number w) g tight e = record { next = record { rings = rs; operand = valued_as (number w) }; is = some_is (valued (exprs.Number w) (frames_of rs)) g e; tight = tight; on = λ rest. refl }
takes_due rs (tokens.File w) g tight e = absurd cc
takes_due rs tokens.Stray g tight e = absurd cc
takes_due rs tokens.Not g tight e = due_not (nat_lt 4 (hole (frames_of rs))) rs g tight refl e
takes_due rs (tokens.Operator operators.Or) g tight e = absurd cc
takes_due rs (tokens.Operator operators.Xor) g tight e = absurd cc
takes_due rs (tokens.Operator operators.And) g tight e = absurd cc
takes_due rs (tokens.Operator (operators.Compare c)) g tight e = absurd cc
takes_due rs (tokens.Operator (operators.Sum Plus)) g tight e = absurd cc
takes_due rs (tokens.Operator (operators.Sum Minus)) g tight e = opens rs in_sign (tokens.Operator (operators.Sum Minus)) g tight (hole_small rs) (λ rest. refl) e
takes_due rs (tokens.Operator (operators.Product f)) g tight e = absurd cc
takes_due rs (tokens.Key keys.Binding) g tight e = absurd cc
takes_due rs (tokens.Key keys.Areamap) g tight e = absurd cc
takes_due rs (tokens.Key keys.Timer) g tight e = absurd cc
takes_due rs (tokens.Key keys.Initial) g tight e = absurd cc
takes_due rs (tokens.Key keys.Dynamic) g tight e = absurd cc
takes_due rs (tokens.Key keys.Report) g tight e = absurd cc
takes_due rs (tokens.Key keys.If) g tight e = record { next = record { rings = rs; operand = started_if }; is = some_is (record { frames = frames_of rs; operand = operands.If }) g e; tight = tight; on = λ rest. refl }
takes_due rs (tokens.Key keys.Then) g tight e = absurd cc
takes_due rs (tokens.Key keys.Else) g tight e = absurd cc
takes_due rs (tokens.Mark marks.Semicolon) g tight e = absurd cc
takes_due rs (tokens.Mark marks.Equal) g tight e = absurd cc
takes_due rs (tokens.Mark marks.Colon) g tight e = absurd cc
takes_due rs (tokens.Mark marks.Comma) g tight e = absurd cc
takes_due rs (tokens.Mark marks.Open) g tight e = opens rs in_brackets (tokens.Mark marks.Open) g tight (let s = hole_small rs in omega arith) (λ rest. refl) e
takes_due rs (tokens.Mark marks.Close) g tight e = absurd cc

-- ---- a value stands there

abbrev Valued : List Ring → PrimForm → Token → Formula → Type 0
Valued rs p t g = TakesMore rs (λ ts. prim_on p ts) t g

-- what is made of a value when frames are closed over it
pub close_value : (k : ℕ) (rs : List Ring) (p : PrimForm) → AreTight rs → 0 < k → k ≤ 9 → Closes k rs (of_prim p)
close_value k rs p tight some few = closes k rs (of_prim p) some tight (let s = hole_small rs in omega arith) few

-- the ring of a left operand
left_ring : Operator → Piece → Ring
left_ring operators.Or p = or_left (as_expr p)
left_ring operators.Xor p = xor_left (as_xor p)
left_ring operators.And p = and_left (as_and p)
left_ring (operators.Compare c) p = comp_left (as_sum p) c
left_ring (operators.Sum g) p = sum_left (as_sum p) g
left_ring (operators.Product f) p = prod_left (as_prod p) f

record IsLeft (o : Operator) (p : Piece) : Type 0 where
  frame : frame_of (left_ring o p) ≡ frames.Left (piece_tree p) o
  on : (rest : List Token) → ring_on (left_ring o p) rest ≡ piece_on p (tokens.Operator o ∷ rest)
  level : ring_level (left_ring o p) ≡ level_of o

left_is : (o : Operator) (p : Piece) → left_level o ≤ piece_level p → IsLeft o p
unfolding left_ring
left_is operators.Or p h = let s = same_expr p h in record { frame = ap (λ (v : Expr). frames.Left v operators.Or) s.trees; on = λ rest. s.tokens (tokens.Operator operators.Or ∷ rest); level = refl }
left_is operators.Xor p h = let s = same_xor p h in record { frame = ap (λ (v : Expr). frames.Left v operators.Xor) s.trees; on = λ rest. s.tokens (tokens.Operator operators.Xor ∷ rest); level = refl }
left_is operators.And p h = let s = same_and p h in record { frame = ap (λ (v : Expr). frames.Left v operators.And) s.trees; on = λ rest. s.tokens (tokens.Operator operators.And ∷ rest); level = refl }
left_is (operators.Compare c) p h = let s = same_sum p h in record { frame = ap (λ (v : Expr). frames.Left v (operators.Compare c)) s.trees; on = λ rest. s.tokens (tokens.Operator (operators.Compare c) ∷ rest); level = refl }
left_is (operators.Sum g) p h = let s = same_sum p h in record { frame = ap (λ (v : Expr). frames.Left v (operators.Sum g)) s.trees; on = λ rest. s.tokens (tokens.Operator (operators.Sum g) ∷ rest); level = refl }
left_is (operators.Product f) p h = let s = same_prod p h in record { frame = ap (λ (v : Expr). frames.Left v (operators.Product f)) s.trees; on = λ rest. s.tokens (tokens.Operator (operators.Product f) ∷ rest); level = refl }

left_some : (o : Operator) → (0 < left_level o) × (left_level o ≤ 9)
left_some operators.Or = (omega arith, omega arith)
left_some operators.Xor = (omega arith, omega arith)
left_some operators.And = (omega arith, omega arith)
left_some (operators.Compare c) = (omega arith, omega arith)
left_some (operators.Sum g) = (omega arith, omega arith)
left_some (operators.Product f) = (omega arith, omega arith)

operate_by : (b : Bool) (o : Operator) (rs : List Ring) (p : PrimForm) (c : Closes (left_level o) rs (of_prim p)) (g : Formula) → nat_lt (level_of o) (hole (frames_of c.rings)) ≡ b → (if b then None else opened (frames.Left (piece_tree c.piece) o) (frames_of c.rings)) ≡ Some g → Valued rs p (tokens.Operator o) g
operate_by true o rs p c g test e = absurd cc
operate_by false o rs p c g test e =
    let l = left_is o c.piece c.level in
    let fits : hole (frames_of c.rings) ≤ ring_level (left_ring o c.piece) = grind (arith, nat_tests, l.level) in
    record {
      next = record { rings = left_ring o c.piece ∷ c.rings; operand = due };
      is = ap (λ (f : Frame). record { frames = f ∷ frames_of c.rings; operand = operands.Due }) l.frame ∙ some_is (record { frames = frames.Left (piece_tree c.piece) o ∷ frames_of c.rings; operand = operands.Due }) g e;
      tight = (fits, c.tight);
      on = λ rest. ap (rings_on c.rings) (l.on rest) ∙ c.on (tokens.Operator o ∷ rest);
    }

takes_operator : (o : Operator) (rs : List Ring) (p : PrimForm) (g : Formula) → AreTight rs → operate (close (left_level o) (prim_tree p) (frames_of rs)) o ≡ Some g → Valued rs p (tokens.Operator o) g
takes_operator o rs p g tight e =
    let s = left_some o in
    let c = close_value (left_level o) rs p tight s.0 s.1 in
    operate_by (nat_lt (level_of o) (hole (frames_of c.rings))) o rs p c g refl (ap (λ (d : Expr × List Frame). operate d o) (sym c.is) ∙ e)

-- a bracket closes what the innermost ring and the value make
made : (rs ss : List Ring) (p q : PrimForm) (t : Token) (g : Formula) (v : Expr) → AreTight ss → prim_tree q ≡ v → Some (valued v (frames_of ss)) ≡ Some g → ((rest : List Token) → rings_on ss (prim_on q rest) ≡ rings_on rs (prim_on p (t ∷ rest))) → Valued rs p t g
made rs ss p q t g v tight tree e on = record {
  next = record { rings = ss; operand = valued_as q };
  is = ap (λ (u : Expr). valued u (frames_of ss)) tree ∙ some_is (valued v (frames_of ss)) g e;
  tight = tight;
  on = on;
}

closed_by : (ss : List Ring) (v : Piece) (rs : List Ring) (p : PrimForm) (g : Formula) → AreTight ss → 1 ≤ piece_level v → ((rest : List Token) → rings_on ss (piece_on v rest) ≡ rings_on rs (prim_on p rest)) → close_in (piece_tree v) (frames_of ss) ≡ Some g → Valued rs p (tokens.Mark marks.Close) g
closed_by [] v rs p g t l on e = absurd cc
closed_by (or_left a ∷ ss) v rs p g t l on e = absurd cc
closed_by (xor_left a ∷ ss) v rs p g t l on e = absurd cc
closed_by (and_left a ∷ ss) v rs p g t l on e = absurd cc
closed_by (comp_left a c ∷ ss) v rs p g t l on e = absurd cc
closed_by (sum_left a c ∷ ss) v rs p g t l on e = absurd cc
closed_by (prod_left a c ∷ ss) v rs p g t l on e = absurd cc
closed_by (in_not ∷ ss) v rs p g t l on e = absurd cc
closed_by (in_sign ∷ ss) v rs p g t l on e = absurd cc
closed_by (in_brackets ∷ ss) v rs p g t l on e =
    let s = same_expr v l in
    made rs ss p (brackets (as_expr v)) (tokens.Mark marks.Close) g (piece_tree v) t.1 s.trees e
    (λ rest. ap (λ ts. rings_on ss (tokens.Mark marks.Open ∷ ts)) (s.tokens (tokens.Mark marks.Close ∷ rest)) ∙ on (tokens.Mark marks.Close ∷ rest))
closed_by (in_call w ∷ ss) v rs p g t l on e =
    let s = same_expr v l in
    made rs ss p (call w (args_one (as_expr v))) (tokens.Mark marks.Close) g (exprs.Call w (piece_tree v ∷ [])) t.1 (ap (λ (u : Expr). exprs.Call w (u ∷ [])) s.trees) e
    (λ rest. ap (λ ts. rings_on ss (tokens.Name w ∷ tokens.Mark marks.Open ∷ ts)) (s.tokens (tokens.Mark marks.Close ∷ rest)) ∙ on (tokens.Mark marks.Close ∷ rest))
closed_by (in_args w a ∷ ss) v rs p g t l on e =
    let s = same_expr v l in
    made rs ss p (call w (args_more a (as_expr v))) (tokens.Mark marks.Close) g (exprs.Call w (args_trees a ++ piece_tree v ∷ [])) t.1 (ap (λ (u : Expr). exprs.Call w (args_trees a ++ u ∷ [])) s.trees) e
    (λ rest. ap (λ ts. rings_on ss (tokens.Name w ∷ tokens.Mark marks.Open ∷ args_on a (tokens.Mark marks.Comma ∷ ts))) (s.tokens (tokens.Mark marks.Close ∷ rest)) ∙ on (tokens.Mark marks.Close ∷ rest))
closed_by (in_condition ∷ ss) v rs p g t l on e = absurd cc
closed_by (in_then c q ∷ ss) v rs p g t l on e =
    let s = same_expr v l in
    made rs ss p (choice c q (as_expr v)) (tokens.Mark marks.Close) g (call_two (codes "if") (expr_tree c) (piece_tree v)) t.1 (ap (λ (u : Expr). call_two (codes "if") (expr_tree c) u) s.trees) e
    (λ rest. ap (λ ts. rings_on ss (tokens.Key keys.If ∷ tokens.Mark marks.Open ∷ expr_on c (then_token q ∷ ts))) (s.tokens (tokens.Mark marks.Close ∷ rest)) ∙ on (tokens.Mark marks.Close ∷ rest))
closed_by (in_else c q a r ∷ ss) v rs p g t l on e =
    let s = same_expr v l in
    made rs ss p (choice_else c q a r (as_expr v)) (tokens.Mark marks.Close) g (call_three (codes "if") (expr_tree c) (expr_tree a) (piece_tree v)) t.1 (ap (λ (u : Expr). call_three (codes "if") (expr_tree c) (expr_tree a) u) s.trees) e
    (λ rest. ap (λ ts. rings_on ss (tokens.Key keys.If ∷ tokens.Mark marks.Open ∷ expr_on c (then_token q ∷ expr_on a (else_token r ∷ ts)))) (s.tokens (tokens.Mark marks.Close ∷ rest)) ∙ on (tokens.Mark marks.Close ∷ rest))

-- a ring of which a value and a token are a part takes the place of the innermost
replaced : (rs ss : List Ring) (r : Ring) (p : PrimForm) (t : Token) (g : Formula) (f : Frame) → AreTight ss → hole (frames_of ss) ≤ ring_level r → frame_of r ≡ f → opened f (frames_of ss) ≡ Some g → ((rest : List Token) → rings_on ss (ring_on r rest) ≡ rings_on rs (prim_on p (t ∷ rest))) → Valued rs p t g
replaced rs ss r p t g f tight fits frame e on = record {
  next = record { rings = r ∷ ss; operand = due };
  is = ap (λ (u : Frame). record { frames = u ∷ frames_of ss; operand = operands.Due }) frame ∙ some_is (record { frames = f ∷ frames_of ss; operand = operands.Due }) g e;
  tight = (fits, tight);
  on = on;
}

next_by : (ss : List Ring) (v : Piece) (rs : List Ring) (p : PrimForm) (g : Formula) → AreTight ss → 1 ≤ piece_level v → ((rest : List Token) → rings_on ss (piece_on v rest) ≡ rings_on rs (prim_on p rest)) → next_in (piece_tree v) (frames_of ss) ≡ Some g → Valued rs p (tokens.Mark marks.Comma) g
next_by [] v rs p g t l on e = absurd cc
next_by (or_left a ∷ ss) v rs p g t l on e = absurd cc
next_by (xor_left a ∷ ss) v rs p g t l on e = absurd cc
next_by (and_left a ∷ ss) v rs p g t l on e = absurd cc
next_by (comp_left a c ∷ ss) v rs p g t l on e = absurd cc
next_by (sum_left a c ∷ ss) v rs p g t l on e = absurd cc
next_by (prod_left a c ∷ ss) v rs p g t l on e = absurd cc
next_by (in_not ∷ ss) v rs p g t l on e = absurd cc
next_by (in_sign ∷ ss) v rs p g t l on e = absurd cc
next_by (in_brackets ∷ ss) v rs p g t l on e = absurd cc
next_by (in_call w ∷ ss) v rs p g t l on e =
    let s = same_expr v l in
    replaced rs ss (in_args w (args_one (as_expr v))) p (tokens.Mark marks.Comma) g (frames.Call w (piece_tree v ∷ [])) t.1 t.0 (ap (λ (u : Expr). frames.Call w (u ∷ [])) s.trees) e
    (λ rest. ap (λ ts. rings_on ss (tokens.Name w ∷ tokens.Mark marks.Open ∷ ts)) (s.tokens (tokens.Mark marks.Comma ∷ rest)) ∙ on (tokens.Mark marks.Comma ∷ rest))
next_by (in_args w a ∷ ss) v rs p g t l on e =
    let s = same_expr v l in
    replaced rs ss (in_args w (args_more a (as_expr v))) p (tokens.Mark marks.Comma) g (frames.Call w (args_trees a ++ piece_tree v ∷ [])) t.1 t.0 (ap (λ (u : Expr). frames.Call w (args_trees a ++ u ∷ [])) s.trees) e
    (λ rest. ap (λ ts. rings_on ss (tokens.Name w ∷ tokens.Mark marks.Open ∷ args_on a (tokens.Mark marks.Comma ∷ ts))) (s.tokens (tokens.Mark marks.Comma ∷ rest)) ∙ on (tokens.Mark marks.Comma ∷ rest))
next_by (in_condition ∷ ss) v rs p g t l on e =
    let s = same_expr v l in
    replaced rs ss (in_then (as_expr v) by_comma) p (tokens.Mark marks.Comma) g (frames.Consequence (piece_tree v)) t.1 t.0 (ap (λ (u : Expr). frames.Consequence u) s.trees) e
    (λ rest. ap (λ ts. rings_on ss (tokens.Key keys.If ∷ tokens.Mark marks.Open ∷ ts)) (s.tokens (tokens.Mark marks.Comma ∷ rest)) ∙ on (tokens.Mark marks.Comma ∷ rest))
next_by (in_then c q ∷ ss) v rs p g t l on e =
    let s = same_expr v l in
    replaced rs ss (in_else c q (as_expr v) by_comma) p (tokens.Mark marks.Comma) g (frames.Alternative (expr_tree c) (piece_tree v)) t.1 t.0 (ap (λ (u : Expr). frames.Alternative (expr_tree c) u) s.trees) e
    (λ rest. ap (λ ts. rings_on ss (tokens.Key keys.If ∷ tokens.Mark marks.Open ∷ expr_on c (then_token q ∷ ts))) (s.tokens (tokens.Mark marks.Comma ∷ rest)) ∙ on (tokens.Mark marks.Comma ∷ rest))
next_by (in_else c q a r ∷ ss) v rs p g t l on e = absurd cc

then_by : (ss : List Ring) (v : Piece) (rs : List Ring) (p : PrimForm) (g : Formula) → AreTight ss → 1 ≤ piece_level v → ((rest : List Token) → rings_on ss (piece_on v rest) ≡ rings_on rs (prim_on p rest)) → then_in (piece_tree v) (frames_of ss) ≡ Some g → Valued rs p (tokens.Key keys.Then) g
then_by [] v rs p g t l on e = absurd cc
then_by (or_left a ∷ ss) v rs p g t l on e = absurd cc
then_by (xor_left a ∷ ss) v rs p g t l on e = absurd cc
then_by (and_left a ∷ ss) v rs p g t l on e = absurd cc
then_by (comp_left a c ∷ ss) v rs p g t l on e = absurd cc
then_by (sum_left a c ∷ ss) v rs p g t l on e = absurd cc
then_by (prod_left a c ∷ ss) v rs p g t l on e = absurd cc
then_by (in_not ∷ ss) v rs p g t l on e = absurd cc
then_by (in_sign ∷ ss) v rs p g t l on e = absurd cc
then_by (in_brackets ∷ ss) v rs p g t l on e = absurd cc
then_by (in_call w ∷ ss) v rs p g t l on e = absurd cc
then_by (in_args w a ∷ ss) v rs p g t l on e = absurd cc
then_by (in_condition ∷ ss) v rs p g t l on e =
    let s = same_expr v l in
    replaced rs ss (in_then (as_expr v) by_word) p (tokens.Key keys.Then) g (frames.Consequence (piece_tree v)) t.1 t.0 (ap (λ (u : Expr). frames.Consequence u) s.trees) e
    (λ rest. ap (λ ts. rings_on ss (tokens.Key keys.If ∷ tokens.Mark marks.Open ∷ ts)) (s.tokens (tokens.Key keys.Then ∷ rest)) ∙ on (tokens.Key keys.Then ∷ rest))
then_by (in_then c q ∷ ss) v rs p g t l on e = absurd cc
then_by (in_else c q a r ∷ ss) v rs p g t l on e = absurd cc

else_by : (ss : List Ring) (v : Piece) (rs : List Ring) (p : PrimForm) (g : Formula) → AreTight ss → 1 ≤ piece_level v → ((rest : List Token) → rings_on ss (piece_on v rest) ≡ rings_on rs (prim_on p rest)) → otherwise_in (piece_tree v) (frames_of ss) ≡ Some g → Valued rs p (tokens.Key keys.Else) g
else_by [] v rs p g t l on e = absurd cc
else_by (or_left a ∷ ss) v rs p g t l on e = absurd cc
else_by (xor_left a ∷ ss) v rs p g t l on e = absurd cc
else_by (and_left a ∷ ss) v rs p g t l on e = absurd cc
else_by (comp_left a c ∷ ss) v rs p g t l on e = absurd cc
else_by (sum_left a c ∷ ss) v rs p g t l on e = absurd cc
else_by (prod_left a c ∷ ss) v rs p g t l on e = absurd cc
else_by (in_not ∷ ss) v rs p g t l on e = absurd cc
else_by (in_sign ∷ ss) v rs p g t l on e = absurd cc
else_by (in_brackets ∷ ss) v rs p g t l on e = absurd cc
else_by (in_call w ∷ ss) v rs p g t l on e = absurd cc
else_by (in_args w a ∷ ss) v rs p g t l on e = absurd cc
else_by (in_condition ∷ ss) v rs p g t l on e = absurd cc
else_by (in_then c q ∷ ss) v rs p g t l on e =
    let s = same_expr v l in
    replaced rs ss (in_else c q (as_expr v) by_word) p (tokens.Key keys.Else) g (frames.Alternative (expr_tree c) (piece_tree v)) t.1 t.0 (ap (λ (u : Expr). frames.Alternative (expr_tree c) u) s.trees) e
    (λ rest. ap (λ ts. rings_on ss (tokens.Key keys.If ∷ tokens.Mark marks.Open ∷ expr_on c (then_token q ∷ ts))) (s.tokens (tokens.Key keys.Else ∷ rest)) ∙ on (tokens.Key keys.Else ∷ rest))
else_by (in_else c q a r ∷ ss) v rs p g t l on e = absurd cc

pub takes_value : (rs : List Ring) (p : PrimForm) (t : Token) (g : Formula) → AreTight rs → after_value (prim_tree p) (frames_of rs) t ≡ Some g → Valued rs p t g
takes_value rs p (tokens.Name w) g tight e = absurd cc
takes_value rs p (tokens.Number w) g tight e = absurd cc
takes_value rs p (tokens.File w) g tight e = absurd cc
takes_value rs p tokens.Stray g tight e = absurd cc
takes_value rs p tokens.Not g tight e = absurd cc
takes_value rs p (tokens.Operator o) g tight e = takes_operator o rs p g tight e
takes_value rs p (tokens.Key keys.Binding) g tight e = absurd cc
takes_value rs p (tokens.Key keys.Areamap) g tight e = absurd cc
takes_value rs p (tokens.Key keys.Timer) g tight e = absurd cc
takes_value rs p (tokens.Key keys.Initial) g tight e = absurd cc
takes_value rs p (tokens.Key keys.Dynamic) g tight e = absurd cc
takes_value rs p (tokens.Key keys.Report) g tight e = absurd cc
takes_value rs p (tokens.Key keys.If) g tight e = absurd cc
takes_value rs p (tokens.Key keys.Then) g tight e =
    let c = close_value 1 rs p tight (omega arith) (omega arith) in
    then_by c.rings c.piece rs p g c.tight c.level c.on (ap (λ (d : Expr × List Frame). then_part d) (sym c.is) ∙ e)
takes_value rs p (tokens.Key keys.Else) g tight e =
    let c = close_value 1 rs p tight (omega arith) (omega arith) in
    else_by c.rings c.piece rs p g c.tight c.level c.on (ap (λ (d : Expr × List Frame). otherwise_part d) (sym c.is) ∙ e)
takes_value rs p (tokens.Mark marks.Semicolon) g tight e = absurd cc
takes_value rs p (tokens.Mark marks.Equal) g tight e = absurd cc
takes_value rs p (tokens.Mark marks.Colon) g tight e = absurd cc
takes_value rs p (tokens.Mark marks.Comma) g tight e =
    let c = close_value 1 rs p tight (omega arith) (omega arith) in
    next_by c.rings c.piece rs p g c.tight c.level c.on (ap (λ (d : Expr × List Frame). next_part d) (sym c.is) ∙ e)
takes_value rs p (tokens.Mark marks.Open) g tight e = absurd cc
takes_value rs p (tokens.Mark marks.Close) g tight e =
    let c = close_value 1 rs p tight (omega arith) (omega arith) in
    closed_by c.rings c.piece rs p g c.tight c.level c.on (ap (λ (d : Expr × List Frame). close_bracket d) (sym c.is) ∙ e)

-- ---- all operands

open_is : (t : Token) → is_open t ≡ true → t ≡ tokens.Mark marks.Open
open_is (tokens.Mark marks.Open) e = refl
open_is _ e = absurd cc

close_is : (t : Token) → is_close t ≡ true → t ≡ tokens.Mark marks.Close
close_is (tokens.Mark marks.Close) e = refl
close_is _ e = absurd cc

name_by : (b : Bool) (rs : List Ring) (w : List ℕ) (t : Token) (g : Formula) → AreTight rs → is_open t ≡ b → (if b then Some (record { frames = frames_of rs; operand = operands.Called w }) else after_value (exprs.Name w) (frames_of rs) t) ≡ Some g → TakesMore rs (λ ts. tokens.Name w ∷ ts) t g
name_by true rs w t g tight test e = record {
  next = record { rings = rs; operand = opened_call w };
  is = some_is (record { frames = frames_of rs; operand = operands.Called w }) g e;
  tight = tight;
  on = λ rest. ap (λ (u : Token). rings_on rs (tokens.Name w ∷ u ∷ rest)) (sym (open_is t test));
}
name_by false rs w t g tight test e = takes_value rs (name w) t g tight e

called_by : (b : Bool) (rs : List Ring) (w : List ℕ) (t : Token) (g : Formula) → AreTight rs → is_close t ≡ b → (if b then Some (valued (exprs.Call w []) (frames_of rs)) else after_due (frames.Call w [] ∷ frames_of rs) t) ≡ Some g → TakesMore rs (λ ts. tokens.Name w ∷ tokens.Mark marks.Open ∷ ts) t g
called_by true rs w t g tight test e = record {
  next = record { rings = rs; operand = valued_as (called w) };
  is = some_is (valued (exprs.Call w []) (frames_of rs)) g e;
  tight = tight;
  on = λ rest. ap (λ (u : Token). rings_on rs (tokens.Name w ∷ tokens.Mark marks.Open ∷ u ∷ rest)) (sym (close_is t test));
}
called_by false rs w t g tight test e =
    let small : hole (frames_of rs) ≤ 9 = (let s = hole_small rs in omega arith) in
    let d = takes_due (in_call w ∷ rs) t g (small, tight) e in
    record { next = d.next; is = d.is; tight = d.tight; on = d.on }

if_by : (b : Bool) (rs : List Ring) (t : Token) (g : Formula) → AreTight rs → is_open t ≡ b → (if b then opened frames.Condition (frames_of rs) else None) ≡ Some g → TakesMore rs (λ ts. tokens.Key keys.If ∷ ts) t g
if_by true rs t g tight test e =
    let small : hole (frames_of rs) ≤ 9 = (let s = hole_small rs in omega arith) in
    record {
      next = record { rings = in_condition ∷ rs; operand = due };
      is = some_is (record { frames = frames.Condition ∷ frames_of rs; operand = operands.Due }) g e;
      tight = (small, tight);
      on = λ rest. ap (λ (u : Token). rings_on rs (tokens.Key keys.If ∷ u ∷ rest)) (sym (open_is t test));
    }
if_by false rs t g tight test e = absurd cc

pub takes_token : (rs : List Ring) (o : OperandPast) (t : Token) (g : Formula) → AreTight rs → formula_step (formula_of (record { rings = rs; operand = o })) t ≡ Some g → TakesMore rs (operand_on o) t g
takes_token rs due t g tight e = takes_due rs t g tight e
takes_token rs (named w) t g tight e = name_by (is_open t) rs w t g tight refl e
takes_token rs (opened_call w) t g tight e = called_by (is_close t) rs w t g tight refl e
takes_token rs started_if t g tight e = if_by (is_open t) rs t g tight refl e
takes_token rs (valued_as p) t g tight e = takes_value rs p t g tight e

-- ---- the whole expression

-- the form of a whole expression
pub record IsWhole (f : FormulaPast) (v : Expr) : Type 0 where
  pub form : ExprForm
  pub tree : expr_tree form ≡ v
  pub on : (rest : List Token) → expr_on form rest ≡ formula_on f rest

alone_by : (ss : List Ring) (p : Piece) (rs : List Ring) (q : PrimForm) (o : OperandPast) (v : Expr) → 1 ≤ piece_level p → ((rest : List Token) → rings_on ss (piece_on p rest) ≡ rings_on rs (prim_on q rest)) → ((rest : List Token) → prim_on q rest ≡ operand_on o rest) → alone_in (piece_tree p) (frames_of ss) ≡ Some v → IsWhole (record { rings = rs; operand = o }) v
alone_by [] p rs q o v l on same e =
    let s = same_expr p l in
    record { form = as_expr p; tree = s.trees ∙ some_is (piece_tree p) v e; on = λ rest. s.tokens rest ∙ (on rest ∙ ap (rings_on rs) (same rest)) }
alone_by (r ∷ ss) p rs q o v l on same e = absurd cc

whole_value : (rs : List Ring) (q : PrimForm) (o : OperandPast) (v : Expr) → AreTight rs → ((rest : List Token) → prim_on q rest ≡ operand_on o rest) → alone_of (close 1 (prim_tree q) (frames_of rs)) ≡ Some v → IsWhole (record { rings = rs; operand = o }) v
whole_value rs q o v tight same e =
    let c = close_value 1 rs q tight (omega arith) (omega arith) in
    alone_by c.rings c.piece rs q o v c.level c.on same (ap (λ (d : Expr × List Frame). alone_of d) (sym c.is) ∙ e)

pub whole_is : (rs : List Ring) (o : OperandPast) (v : Expr) → AreTight rs → whole (formula_of (record { rings = rs; operand = o })) ≡ Some v → IsWhole (record { rings = rs; operand = o }) v
whole_is rs due v tight e = absurd cc
whole_is rs (named w) v tight e = whole_value rs (name w) (named w) v tight (λ rest. refl) e
whole_is rs (opened_call w) v tight e = absurd cc
whole_is rs started_if v tight e = absurd cc
whole_is rs (valued_as q) v tight e = whole_value rs q (valued_as q) v tight (λ rest. refl) e
