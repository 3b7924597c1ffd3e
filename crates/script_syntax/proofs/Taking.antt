-- The tokens of a form are taken, and lead to its tree.
use Rattle.std.proofs.Common.{◌≡◌, ◌<◌, ◌≤◌, ◌++◌, ℕ, Bool, true, false, List, [], ◌∷◌, Option, Some, None, refl, sym, ◌∙◌, ap, arith, cond, append_assoc, append-nil}
use Rattle.std.specs.Prelude.{codes, nat_le, nat_lt, unwrap_or, if◌then◌else◌}
use Rattle.std.proofs.lemmas.Bool.Decides.{nat_tests}
use Rattle.cell_values.specs.declared.kind.Kind.{Kind}
use Rattle.cell_values.specs.declared.kind.Kind.TheVariants.{Boolean, Nominal, Ordinal, Scalar, Directional, Ldd}
use Rattle.script_syntax.specs.declared.token.Sign.TheVariants.{Minus}
use Rattle.script_syntax.specs.declared.token.Operator.{Operator}
use Rattle.script_syntax.specs.declared.token.Operator.TheVariants as operators
use Rattle.script_syntax.specs.declared.token.Key.TheVariants as keys
use Rattle.script_syntax.specs.declared.token.Mark.TheVariants as marks
use Rattle.script_syntax.specs.declared.token.Token.{Token}
use Rattle.script_syntax.specs.declared.token.Token.TheVariants as tokens
use Rattle.script_syntax.specs.declared.tree.Binding.{Binding}
use Rattle.script_syntax.specs.declared.tree.Target.{Target}
use Rattle.script_syntax.specs.declared.tree.Target.TheVariants as targets
use Rattle.script_syntax.specs.declared.tree.Expr.{Expr}
use Rattle.script_syntax.specs.declared.tree.Expr.TheVariants as exprs
use Rattle.script_syntax.specs.declared.tree.Statement.{Statement}
use Rattle.script_syntax.specs.declared.tree.Script.{Script}
use Rattle.script_syntax.specs.declared.frames.Frame.{Frame}
use Rattle.script_syntax.specs.declared.frames.Frame.TheVariants as frames
use Rattle.script_syntax.specs.declared.formula.Operand.TheVariants as operands
use Rattle.script_syntax.specs.declared.formula.Formula.{Formula}
use Rattle.script_syntax.specs.declared.reading.Section.{Section}
use Rattle.script_syntax.specs.declared.reading.Section.TheVariants as sections
use Rattle.script_syntax.specs.declared.reading.Phase.TheVariants as phases
use Rattle.script_syntax.specs.declared.reading.Reading.{Reading}
use Rattle.script_syntax.specs.Numbers.{steps_of}
use Rattle.script_syntax.specs.Grammar.{Part, by_word, by_comma, then_token, else_token, ExprForm, expr_one, expr_more, expr_on, expr_tree, XorForm, xor_one, xor_more, xor_on, xor_tree, AndForm, and_one, and_more, and_on, and_tree, NotForm, negated, not_comp, not_on, not_tree, CompForm, comp_one, comp_two, comp_on, comp_tree, SumForm, sum_one, sum_more, sum_on, sum_tree, ProdForm, prod_one, prod_more, prod_on, prod_tree, UnaryForm, negative, unary_prim, unary_on, unary_tree, PrimForm, number, name, called, call, brackets, choice, choice_else, prim_on, prim_tree, ArgsForm, args_one, args_more, args_on, args_trees, kind_word, target_token, kind_on, entry_on, entries_on, StatForm, report_on, stat_on, stats_on, stat_tree, stats_trees, SectionsForm, static, timed, ScriptForm, binding_on, initial_on, sections_on, script_on, script_tree}
use Rattle.script_syntax.specs.inside.Levels.{level_of, left_level}
use Rattle.script_syntax.specs.inside.Formulas.{frame_level, frame_hole, hole, closed, close, operate, valued, alone_of, next_part, then_part, otherwise_part, close_bracket, is_close}
use Rattle.script_syntax.specs.inside.Readings.{new_reading, reading_step, finish, with_formula, with_whole, with_statement}
use Rattle.script_syntax.specs.inside.Runs.{done, went_onward, go}

-- where an expression stands
record Site : Type 0 where
  script : Script
  section : Section
  report : Bool
  name : List ℕ

abbrev at : Site → Formula → Reading
at s f = record { script = s.script; phase = phases.Formula s.section s.report s.name f }

abbrev due_in : List Frame → Formula
due_in fs = record { frames = fs; operand = operands.Due }

-- how tightly the operand before a token is bound at least; above all rules where no operand stands before it
abbrev left_at : Token → ℕ
left_at (tokens.Name w) = 10
left_at (tokens.Number w) = 10
left_at (tokens.File w) = 10
left_at tokens.Stray = 10
left_at tokens.Not = 10
left_at (tokens.Operator o) = left_level o
left_at (tokens.Key keys.Then) = 1
left_at (tokens.Key keys.Else) = 1
left_at (tokens.Key _) = 10
left_at (tokens.Mark marks.Semicolon) = 1
left_at (tokens.Mark marks.Comma) = 1
left_at (tokens.Mark marks.Close) = 1
left_at (tokens.Mark _) = 10

cond_true : {A : Type 0} (b : Bool) (x y : A) → b ≡ true → cond b x y ≡ x
cond_true true x y e = refl
cond_true false x y e = absurd cc

cond_false : {A : Type 0} (b : Bool) (x y : A) → b ≡ false → cond b x y ≡ y
cond_false true x y e = absurd cc
cond_false false x y e = refl

le_test : (a b : ℕ) → a ≤ b → nat_le a b ≡ true
le_test a b h = grind (arith, nat_tests)

lt_test : (a b : ℕ) → b ≤ a → nat_lt a b ≡ false
lt_test a b h = grind (arith, nat_tests)

le_fails : (a b : ℕ) → b < a → nat_le a b ≡ false
le_fails a b h = grind (arith, nat_tests)

-- ---- frames

close_pops : (k : ℕ) (v : Expr) (f : Frame) (fs : List Frame) → k ≤ frame_level f → close k v (f ∷ fs) ≡ close k (closed f v) fs
close_pops k v f fs h = cond_true (nat_le k (frame_level f)) (close k (closed f v) fs) (v, f ∷ fs) (le_test k (frame_level f) h)

-- a frame is closed by the token that follows
step_pops : (s : Site) (f : Frame) (fs : List Frame) (v : Expr) (t : Token) → left_at t ≤ frame_level f → reading_step (at s (valued v (f ∷ fs))) t ≡ reading_step (at s (valued (closed f v) fs)) t
step_pops s f fs v (tokens.Name w) h = refl
step_pops s f fs v (tokens.Number w) h = refl
step_pops s f fs v (tokens.File w) h = refl
step_pops s f fs v tokens.Stray h = refl
step_pops s f fs v tokens.Not h = refl
step_pops s f fs v (tokens.Operator o) h = ap (λ (c : Expr × List Frame). with_formula s.script s.section s.report s.name (operate c o)) (close_pops (left_level o) v f fs h)
step_pops s f fs v (tokens.Key keys.Then) h = ap (λ (c : Expr × List Frame). with_formula s.script s.section s.report s.name (then_part c)) (close_pops 1 v f fs h)
step_pops s f fs v (tokens.Key keys.Else) h = ap (λ (c : Expr × List Frame). with_formula s.script s.section s.report s.name (otherwise_part c)) (close_pops 1 v f fs h)
step_pops s f fs v (tokens.Key _) h = refl
step_pops s f fs v (tokens.Mark marks.Semicolon) h = ap (λ (c : Expr × List Frame). with_whole s.script s.section s.report s.name (alone_of c)) (close_pops 1 v f fs h)
step_pops s f fs v (tokens.Mark marks.Comma) h = ap (λ (c : Expr × List Frame). with_formula s.script s.section s.report s.name (next_part c)) (close_pops 1 v f fs h)
step_pops s f fs v (tokens.Mark marks.Close) h = ap (λ (c : Expr × List Frame). with_formula s.script s.section s.report s.name (close_bracket c)) (close_pops 1 v f fs h)
step_pops s f fs v (tokens.Mark _) h = refl

pops : (s : Site) (f : Frame) (fs : List Frame) (v : Expr) (t : Token) (ts : List Token) → left_at t ≤ frame_level f → go (at s (valued v (f ∷ fs))) (t ∷ ts) ≡ go (at s (valued (closed f v) fs)) (t ∷ ts)
pops s f fs v t ts h = ap (λ (r : Option Reading). went_onward r (t ∷ ts) (λ n. go n ts)) (step_pops s f fs v t h)

level_left : (o : Operator) → level_of o ≤ left_level o
level_left operators.Or = omega arith
level_left operators.Xor = omega arith
level_left operators.And = omega arith
level_left (operators.Compare c) = omega arith
level_left (operators.Sum g) = omega arith
level_left (operators.Product f) = omega arith

level_small : (o : Operator) → level_of o ≤ 7
level_small operators.Or = omega arith
level_small operators.Xor = omega arith
level_small operators.And = omega arith
level_small (operators.Compare c) = omega arith
level_small (operators.Sum g) = omega arith
level_small (operators.Product f) = omega arith

not_below : (o : Operator) → 4 ≤ level_of o → 4 < left_level o
not_below operators.Or h = absurd (omega arith)
not_below operators.Xor h = absurd (omega arith)
not_below operators.And h = absurd (omega arith)
not_below (operators.Compare c) h = omega arith
not_below (operators.Sum g) h = omega arith
not_below (operators.Product f) h = omega arith

left_above : (o : Operator) → 0 < left_level o
left_above operators.Or = omega arith
left_above operators.Xor = omega arith
left_above operators.And = omega arith
left_above (operators.Compare c) = omega arith
left_above (operators.Sum g) = omega arith
left_above (operators.Product f) = omega arith

-- a frame in which the operator may stand binds looser than the operator's left operand
below : (f : Frame) (o : Operator) → frame_hole f ≤ level_of o → frame_level f < left_level o
below (frames.Left left p) o h = let l = level_left o in omega arith
below frames.Negated o h = not_below o h
below frames.Negative o h = absurd (let l = level_small o in omega arith)
below frames.Brackets o h = left_above o
below (frames.Call w a) o h = left_above o
below frames.Condition o h = left_above o
below (frames.Consequence c) o h = left_above o
below (frames.Alternative c a) o h = left_above o

close_keeps : (o : Operator) (v : Expr) (fs : List Frame) → hole fs ≤ level_of o → close (left_level o) v fs ≡ (v, fs)
close_keeps o v [] h = refl
close_keeps o v (f ∷ fs) h = cond_false (nat_le (left_level o) (frame_level f)) (close (left_level o) (closed f v) fs) (v, f ∷ fs) (le_fails (left_level o) (frame_level f) (below f o h))

-- an operator behind a value in frames where it may stand
chain : (s : Site) (o : Operator) (fs : List Frame) (v : Expr) (ts : List Token) → hole fs ≤ level_of o → go (at s (valued v fs)) (tokens.Operator o ∷ ts) ≡ go (at s (due_in (frames.Left v o ∷ fs))) ts
chain s o fs v ts h =
    ap (λ (c : Expr × List Frame). went_onward (with_formula s.script s.section s.report s.name (operate c o)) (tokens.Operator o ∷ ts) (λ n. go n ts)) (close_keeps o v fs h)
    ∙ ap (λ (b : Bool). went_onward (with_formula s.script s.section s.report s.name (if b then None else Some (due_in (frames.Left v o ∷ fs)))) (tokens.Operator o ∷ ts) (λ n. go n ts)) (lt_test (level_of o) (hole fs) h)

-- `not` where it may stand
chain_not : (s : Site) (fs : List Frame) (ts : List Token) → hole fs ≤ 4 → go (at s (due_in fs)) (tokens.Not ∷ ts) ≡ go (at s (due_in (frames.Negated ∷ fs))) ts
chain_not s fs ts h = ap (λ (b : Bool). went_onward (with_formula s.script s.section s.report s.name (if b then None else Some (due_in (frames.Negated ∷ fs)))) (tokens.Not ∷ ts) (λ n. go n ts)) (lt_test 4 (hole fs) h)

-- a name is a value where no bracket follows
named_value : (s : Site) (w : List ℕ) (fs : List Frame) (t : Token) (ts : List Token) → left_at t ≤ 9 → go (at s (record { frames = fs; operand = operands.Name w })) (t ∷ ts) ≡ go (at s (valued (exprs.Name w) fs)) (t ∷ ts)
named_value s w fs (tokens.Name x) ts h = refl
named_value s w fs (tokens.Number x) ts h = refl
named_value s w fs (tokens.File x) ts h = refl
named_value s w fs tokens.Stray ts h = refl
named_value s w fs tokens.Not ts h = refl
named_value s w fs (tokens.Operator o) ts h = refl
named_value s w fs (tokens.Key k) ts h = refl
named_value s w fs (tokens.Mark marks.Semicolon) ts h = refl
named_value s w fs (tokens.Mark marks.Equal) ts h = refl
named_value s w fs (tokens.Mark marks.Colon) ts h = refl
named_value s w fs (tokens.Mark marks.Comma) ts h = refl
named_value s w fs (tokens.Mark marks.Open) ts h = absurd (omega arith)
named_value s w fs (tokens.Mark marks.Close) ts h = refl

-- ---- no form begins with a closing bracket

record Begins (ts : List Token) : Type 0 where
  first : Token
  more : List Token
  is : ts ≡ first ∷ more
  no_bracket : is_close first ≡ false

mutual
  begins_expr : (x : ExprForm) (rest : List Token) → Begins (expr_on x rest)
  begins_expr (expr_one x) rest = begins_xor x rest
  begins_expr (expr_more e x) rest = begins_expr e (tokens.Operator operators.Or ∷ xor_on x rest)

  begins_xor : (x : XorForm) (rest : List Token) → Begins (xor_on x rest)
  begins_xor (xor_one a) rest = begins_and a rest
  begins_xor (xor_more x a) rest = begins_xor x (tokens.Operator operators.Xor ∷ and_on a rest)

  begins_and : (x : AndForm) (rest : List Token) → Begins (and_on x rest)
  begins_and (and_one n) rest = begins_not n rest
  begins_and (and_more a n) rest = begins_and a (tokens.Operator operators.And ∷ not_on n rest)

  begins_not : (x : NotForm) (rest : List Token) → Begins (not_on x rest)
  begins_not (negated n) rest = record { first = tokens.Not; more = not_on n rest; is = refl; no_bracket = refl }
  begins_not (not_comp c) rest = begins_comp c rest

  begins_comp : (x : CompForm) (rest : List Token) → Begins (comp_on x rest)
  begins_comp (comp_one s) rest = begins_sum s rest
  begins_comp (comp_two s c r) rest = begins_sum s (tokens.Operator (operators.Compare c) ∷ sum_on r rest)

  begins_sum : (x : SumForm) (rest : List Token) → Begins (sum_on x rest)
  begins_sum (sum_one p) rest = begins_prod p rest
  begins_sum (sum_more s g p) rest = begins_sum s (tokens.Operator (operators.Sum g) ∷ prod_on p rest)

  begins_prod : (x : ProdForm) (rest : List Token) → Begins (prod_on x rest)
  begins_prod (prod_one u) rest = begins_unary u rest
  begins_prod (prod_more p f u) rest = begins_prod p (tokens.Operator (operators.Product f) ∷ unary_on u rest)

  begins_unary : (x : UnaryForm) (rest : List Token) → Begins (unary_on x rest)
  begins_unary (negative u) rest = record { first = tokens.Operator (operators.Sum Minus); more = unary_on u rest; is = refl; no_bracket = refl }
  begins_unary (unary_prim p) rest = begins_prim p rest

  begins_prim : (x : PrimForm) (rest : List Token) → Begins (prim_on x rest)
  begins_prim (number w) rest = record { first = tokens.Number w; more = rest; is = refl; no_bracket = refl }
  begins_prim (name w) rest = record { first = tokens.Name w; more = rest; is = refl; no_bracket = refl }
  begins_prim (called w) rest = record { first = tokens.Name w; more = tokens.Mark marks.Open ∷ tokens.Mark marks.Close ∷ rest; is = refl; no_bracket = refl }
  begins_prim (call w a) rest = record { first = tokens.Name w; more = tokens.Mark marks.Open ∷ args_on a (tokens.Mark marks.Close ∷ rest); is = refl; no_bracket = refl }
  begins_prim (brackets e) rest = record { first = tokens.Mark marks.Open; more = expr_on e (tokens.Mark marks.Close ∷ rest); is = refl; no_bracket = refl }
  begins_prim (choice c p a) rest = record { first = tokens.Key keys.If; more = tokens.Mark marks.Open ∷ expr_on c (then_token p ∷ expr_on a (tokens.Mark marks.Close ∷ rest)); is = refl; no_bracket = refl }
  begins_prim (choice_else c p a q b) rest = record { first = tokens.Key keys.If; more = tokens.Mark marks.Open ∷ expr_on c (then_token p ∷ expr_on a (else_token q ∷ expr_on b (tokens.Mark marks.Close ∷ rest))); is = refl; no_bracket = refl }

begins_args : (x : ArgsForm) (rest : List Token) → Begins (args_on x rest)
begins_args (args_one e) rest = begins_expr e rest
begins_args (args_more a e) rest = begins_args a (tokens.Mark marks.Comma ∷ expr_on e rest)

-- behind a call's bracket, what is no closing bracket begins an operand
called_go : (s : Site) (w : List ℕ) (fs : List Frame) (ts : List Token) → Begins ts → go (at s (record { frames = fs; operand = operands.Called w })) ts ≡ go (at s (due_in (frames.Call w [] ∷ fs))) ts
called_go s w fs ts b =
    ap (go (at s (record { frames = fs; operand = operands.Called w }))) b.is
    ∙ (called_step s w fs b.first b.more b.no_bracket ∙ ap (go (at s (due_in (frames.Call w [] ∷ fs)))) (sym b.is))
  where
    called_step : (s : Site) (w : List ℕ) (fs : List Frame) (t : Token) (ts : List Token) → is_close t ≡ false → go (at s (record { frames = fs; operand = operands.Called w })) (t ∷ ts) ≡ go (at s (due_in (frames.Call w [] ∷ fs))) (t ∷ ts)
    called_step s w fs (tokens.Name x) ts h = refl
    called_step s w fs (tokens.Number x) ts h = refl
    called_step s w fs (tokens.File x) ts h = refl
    called_step s w fs tokens.Stray ts h = refl
    called_step s w fs tokens.Not ts h = refl
    called_step s w fs (tokens.Operator o) ts h = refl
    called_step s w fs (tokens.Key k) ts h = refl
    called_step s w fs (tokens.Mark marks.Semicolon) ts h = refl
    called_step s w fs (tokens.Mark marks.Equal) ts h = refl
    called_step s w fs (tokens.Mark marks.Colon) ts h = refl
    called_step s w fs (tokens.Mark marks.Comma) ts h = refl
    called_step s w fs (tokens.Mark marks.Open) ts h = refl
    called_step s w fs (tokens.Mark marks.Close) ts h = absurd cc

-- ---- the forms of expressions

-- the last operand of a call, and those before it
abbrev last_of : ArgsForm → Expr
last_of (args_one e) = expr_tree e
last_of (args_more a e) = expr_tree e

abbrev before_of : ArgsForm → List Expr
before_of (args_one e) = []
before_of (args_more a e) = args_trees a

args_split : (a : ArgsForm) → before_of a ++ last_of a ∷ [] ≡ args_trees a
args_split (args_one e) = refl
args_split (args_more a e) = refl

-- `then` or a comma behind a condition
then_go : (s : Site) (p : Part) (fs : List Frame) (v : Expr) (ts : List Token) → go (at s (valued v (frames.Condition ∷ fs))) (then_token p ∷ ts) ≡ go (at s (due_in (frames.Consequence v ∷ fs))) ts
then_go s by_word fs v ts = refl
then_go s by_comma fs v ts = refl

-- `else` or a comma behind a first value
else_go : (s : Site) (p : Part) (fs : List Frame) (c v : Expr) (ts : List Token) → go (at s (valued v (frames.Consequence c ∷ fs))) (else_token p ∷ ts) ≡ go (at s (due_in (frames.Alternative c v ∷ fs))) ts
else_go s by_word fs c v ts = refl
else_go s by_comma fs c v ts = refl

then_left : (p : Part) → left_at (then_token p) ≤ 1
then_left by_word = omega arith
then_left by_comma = omega arith

else_left : (p : Part) → left_at (else_token p) ≤ 1
else_left by_word = omega arith
else_left by_comma = omega arith

mutual
  take_expr : (s : Site) (x : ExprForm) (fs : List Frame) (t : Token) (ts : List Token) → hole fs ≤ 1 → left_at t ≤ 1 → go (at s (due_in fs)) (expr_on x (t ∷ ts)) ≡ go (at s (valued (expr_tree x) fs)) (t ∷ ts)
  take_expr s (expr_one x) fs t ts h l = take_xor s x fs t ts (omega arith) (omega arith)
  take_expr s (expr_more e x) fs t ts h l =
      take_expr s e fs (tokens.Operator operators.Or) (xor_on x (t ∷ ts)) h (omega arith)
      ∙ (chain s operators.Or fs (expr_tree e) (xor_on x (t ∷ ts)) h
      ∙ (take_xor s x (frames.Left (expr_tree e) operators.Or ∷ fs) t ts (omega arith) (omega arith)
      ∙ pops s (frames.Left (expr_tree e) operators.Or) fs (xor_tree x) t ts l))

  take_xor : (s : Site) (x : XorForm) (fs : List Frame) (t : Token) (ts : List Token) → hole fs ≤ 2 → left_at t ≤ 2 → go (at s (due_in fs)) (xor_on x (t ∷ ts)) ≡ go (at s (valued (xor_tree x) fs)) (t ∷ ts)
  take_xor s (xor_one a) fs t ts h l = take_and s a fs t ts (omega arith) (omega arith)
  take_xor s (xor_more x a) fs t ts h l =
      take_xor s x fs (tokens.Operator operators.Xor) (and_on a (t ∷ ts)) h (omega arith)
      ∙ (chain s operators.Xor fs (xor_tree x) (and_on a (t ∷ ts)) h
      ∙ (take_and s a (frames.Left (xor_tree x) operators.Xor ∷ fs) t ts (omega arith) (omega arith)
      ∙ pops s (frames.Left (xor_tree x) operators.Xor) fs (and_tree a) t ts l))

  take_and : (s : Site) (x : AndForm) (fs : List Frame) (t : Token) (ts : List Token) → hole fs ≤ 3 → left_at t ≤ 3 → go (at s (due_in fs)) (and_on x (t ∷ ts)) ≡ go (at s (valued (and_tree x) fs)) (t ∷ ts)
  take_and s (and_one n) fs t ts h l = take_not s n fs t ts (omega arith) (omega arith)
  take_and s (and_more a n) fs t ts h l =
      take_and s a fs (tokens.Operator operators.And) (not_on n (t ∷ ts)) h (omega arith)
      ∙ (chain s operators.And fs (and_tree a) (not_on n (t ∷ ts)) h
      ∙ (take_not s n (frames.Left (and_tree a) operators.And ∷ fs) t ts (omega arith) (omega arith)
      ∙ pops s (frames.Left (and_tree a) operators.And) fs (not_tree n) t ts l))

  take_not : (s : Site) (x : NotForm) (fs : List Frame) (t : Token) (ts : List Token) → hole fs ≤ 4 → left_at t ≤ 4 → go (at s (due_in fs)) (not_on x (t ∷ ts)) ≡ go (at s (valued (not_tree x) fs)) (t ∷ ts)
  take_not s (negated n) fs t ts h l =
      chain_not s fs (not_on n (t ∷ ts)) h
      ∙ (take_not s n (frames.Negated ∷ fs) t ts (omega arith) l
      ∙ pops s frames.Negated fs (not_tree n) t ts l)
  take_not s (not_comp c) fs t ts h l = take_comp s c fs t ts (omega arith) (omega arith)

  take_comp : (s : Site) (x : CompForm) (fs : List Frame) (t : Token) (ts : List Token) → hole fs ≤ 5 → left_at t ≤ 5 → go (at s (due_in fs)) (comp_on x (t ∷ ts)) ≡ go (at s (valued (comp_tree x) fs)) (t ∷ ts)
  take_comp s (comp_one x) fs t ts h l = take_sum s x fs t ts (omega arith) (omega arith)
  take_comp s (comp_two x c y) fs t ts h l =
      take_sum s x fs (tokens.Operator (operators.Compare c)) (sum_on y (t ∷ ts)) (omega arith) (omega arith)
      ∙ (chain s (operators.Compare c) fs (sum_tree x) (sum_on y (t ∷ ts)) h
      ∙ (take_sum s y (frames.Left (sum_tree x) (operators.Compare c) ∷ fs) t ts (omega arith) (omega arith)
      ∙ pops s (frames.Left (sum_tree x) (operators.Compare c)) fs (sum_tree y) t ts l))

  take_sum : (s : Site) (x : SumForm) (fs : List Frame) (t : Token) (ts : List Token) → hole fs ≤ 6 → left_at t ≤ 6 → go (at s (due_in fs)) (sum_on x (t ∷ ts)) ≡ go (at s (valued (sum_tree x) fs)) (t ∷ ts)
  take_sum s (sum_one p) fs t ts h l = take_prod s p fs t ts (omega arith) (omega arith)
  take_sum s (sum_more x g p) fs t ts h l =
      take_sum s x fs (tokens.Operator (operators.Sum g)) (prod_on p (t ∷ ts)) h (omega arith)
      ∙ (chain s (operators.Sum g) fs (sum_tree x) (prod_on p (t ∷ ts)) h
      ∙ (take_prod s p (frames.Left (sum_tree x) (operators.Sum g) ∷ fs) t ts (omega arith) (omega arith)
      ∙ pops s (frames.Left (sum_tree x) (operators.Sum g)) fs (prod_tree p) t ts l))

  take_prod : (s : Site) (x : ProdForm) (fs : List Frame) (t : Token) (ts : List Token) → hole fs ≤ 7 → left_at t ≤ 7 → go (at s (due_in fs)) (prod_on x (t ∷ ts)) ≡ go (at s (valued (prod_tree x) fs)) (t ∷ ts)
  take_prod s (prod_one u) fs t ts h l = take_unary s u fs t ts (omega arith) (omega arith)
  take_prod s (prod_more p f u) fs t ts h l =
      take_prod s p fs (tokens.Operator (operators.Product f)) (unary_on u (t ∷ ts)) h (omega arith)
      ∙ (chain s (operators.Product f) fs (prod_tree p) (unary_on u (t ∷ ts)) h
      ∙ (take_unary s u (frames.Left (prod_tree p) (operators.Product f) ∷ fs) t ts (omega arith) (omega arith)
      ∙ pops s (frames.Left (prod_tree p) (operators.Product f)) fs (unary_tree u) t ts l))

  take_unary : (s : Site) (x : UnaryForm) (fs : List Frame) (t : Token) (ts : List Token) → hole fs ≤ 8 → left_at t ≤ 8 → go (at s (due_in fs)) (unary_on x (t ∷ ts)) ≡ go (at s (valued (unary_tree x) fs)) (t ∷ ts)
  take_unary s (negative u) fs t ts h l =
      take_unary s u (frames.Negative ∷ fs) t ts (omega arith) l
      ∙ pops s frames.Negative fs (unary_tree u) t ts l
  take_unary s (unary_prim p) fs t ts h l = take_prim s p fs t ts (omega arith)

  take_prim : (s : Site) (x : PrimForm) (fs : List Frame) (t : Token) (ts : List Token) → left_at t ≤ 9 → go (at s (due_in fs)) (prim_on x (t ∷ ts)) ≡ go (at s (valued (prim_tree x) fs)) (t ∷ ts)
  take_prim s (number w) fs t ts l = refl
  take_prim s (name w) fs t ts l = named_value s w fs t ts l
  take_prim s (called w) fs t ts l = refl
  take_prim s (call w a) fs t ts l =
      called_go s w fs (args_on a (tokens.Mark marks.Close ∷ t ∷ ts)) (begins_args a (tokens.Mark marks.Close ∷ t ∷ ts))
      ∙ (take_args s w a fs (tokens.Mark marks.Close) (t ∷ ts) (omega arith)
      ∙ ap (λ (xs : List Expr). go (at s (valued (exprs.Call w xs) fs)) (t ∷ ts)) (args_split a))
  take_prim s (brackets e) fs t ts l = take_expr s e (frames.Brackets ∷ fs) (tokens.Mark marks.Close) (t ∷ ts) (omega arith) (omega arith)
  take_prim s (choice c p a) fs t ts l =
      take_expr s c (frames.Condition ∷ fs) (then_token p) (expr_on a (tokens.Mark marks.Close ∷ t ∷ ts)) (omega arith) (then_left p)
      ∙ (then_go s p fs (expr_tree c) (expr_on a (tokens.Mark marks.Close ∷ t ∷ ts))
      ∙ take_expr s a (frames.Consequence (expr_tree c) ∷ fs) (tokens.Mark marks.Close) (t ∷ ts) (omega arith) (omega arith))
  take_prim s (choice_else c p a q b) fs t ts l =
      take_expr s c (frames.Condition ∷ fs) (then_token p) (expr_on a (else_token q ∷ expr_on b (tokens.Mark marks.Close ∷ t ∷ ts))) (omega arith) (then_left p)
      ∙ (then_go s p fs (expr_tree c) (expr_on a (else_token q ∷ expr_on b (tokens.Mark marks.Close ∷ t ∷ ts)))
      ∙ (take_expr s a (frames.Consequence (expr_tree c) ∷ fs) (else_token q) (expr_on b (tokens.Mark marks.Close ∷ t ∷ ts)) (omega arith) (else_left q)
      ∙ (else_go s q fs (expr_tree c) (expr_tree a) (expr_on b (tokens.Mark marks.Close ∷ t ∷ ts))
      ∙ take_expr s b (frames.Alternative (expr_tree c) (expr_tree a) ∷ fs) (tokens.Mark marks.Close) (t ∷ ts) (omega arith) (omega arith))))

  take_args : (s : Site) (w : List ℕ) (x : ArgsForm) (fs : List Frame) (t : Token) (ts : List Token) → left_at t ≤ 1 → go (at s (due_in (frames.Call w [] ∷ fs))) (args_on x (t ∷ ts)) ≡ go (at s (valued (last_of x) (frames.Call w (before_of x) ∷ fs))) (t ∷ ts)
  take_args s w (args_one e) fs t ts l = take_expr s e (frames.Call w [] ∷ fs) t ts (omega arith) l
  take_args s w (args_more a e) fs t ts l =
      take_args s w a fs (tokens.Mark marks.Comma) (expr_on e (t ∷ ts)) (omega arith)
      ∙ (ap (λ (xs : List Expr). go (at s (due_in (frames.Call w xs ∷ fs))) (expr_on e (t ∷ ts))) (args_split a)
      ∙ take_expr s e (frames.Call w (args_trees a) ∷ fs) t ts (omega arith) l)

-- ---- statements and entries

abbrev section_at : Script → Section → Reading
section_at s c = record { script = s; phase = phases.Section c }

abbrev with_all : Script → Section → List StatForm → Script
with_all s c [] = s
with_all s c (x ∷ xs) = with_all (with_statement s c (stat_tree x)) c xs

take_report : (s : Script) (c : Section) (b : Bool) (w : List ℕ) (ts : List Token) → go (section_at s c) (report_on b (tokens.Name w ∷ tokens.Mark marks.Equal ∷ ts)) ≡ go (at (record { script = s; section = c; report = b; name = w }) (due_in [])) ts
take_report s c false w ts = refl
take_report s c true w ts = refl

take_stat : (s : Script) (c : Section) (x : StatForm) (rest : List Token) → go (section_at s c) (stat_on x rest) ≡ go (section_at (with_statement s c (stat_tree x)) c) rest
take_stat s c x rest =
    take_report s c x.report x.name (expr_on x.expr (tokens.Mark marks.Semicolon ∷ rest))
    ∙ take_expr (record { script = s; section = c; report = x.report; name = x.name }) x.expr [] (tokens.Mark marks.Semicolon) rest (omega arith) (omega arith)

take_stats : (xs : List StatForm) (s : Script) (c : Section) (rest : List Token) → go (section_at s c) (stats_on xs rest) ≡ go (section_at (with_all s c xs) c) rest
take_stats [] s c rest = refl
take_stats (x ∷ xs) s c rest = take_stat s c x (stats_on xs rest) ∙ take_stats xs (with_statement s c (stat_tree x)) c rest

abbrev bindings_at : List Binding → Reading
bindings_at bs = record { script = record { bindings = bs; area = codes ""; steps = 0; initial = []; dynamic = []; mean = false }; phase = phases.Bindings }

take_kind : (k : Kind) (bs : List Binding) (w : List ℕ) (t : Target) (rest : List Token) → go (record { script = (bindings_at bs).script; phase = phases.Bound w t }) (tokens.Mark marks.Colon ∷ tokens.Name (kind_word k) ∷ tokens.Mark marks.Semicolon ∷ rest) ≡ go (bindings_at (bs ++ record { name = w; target = t; kind = Some k } ∷ [])) rest
take_kind Boolean bs w t rest = refl
take_kind Nominal bs w t rest = refl
take_kind Ordinal bs w t rest = refl
take_kind Scalar bs w t rest = refl
take_kind Directional bs w t rest = refl
take_kind Ldd bs w t rest = refl

take_kinded : (k : Option Kind) (bs : List Binding) (w : List ℕ) (t : Target) (rest : List Token) → go (record { script = (bindings_at bs).script; phase = phases.Bound w t }) (kind_on k (tokens.Mark marks.Semicolon ∷ rest)) ≡ go (bindings_at (bs ++ record { name = w; target = t; kind = k } ∷ [])) rest
take_kinded None bs w t rest = refl
take_kinded (Some k) bs w t rest = take_kind k bs w t rest

take_target : (t : Target) (bs : List Binding) (w : List ℕ) (rest : List Token) → go (record { script = (bindings_at bs).script; phase = phases.BoundEqual w }) (target_token t ∷ rest) ≡ go (record { script = (bindings_at bs).script; phase = phases.Bound w t }) rest
take_target (targets.File x) bs w rest = refl
take_target (targets.Number x) bs w rest = refl

take_entry : (b : Binding) (bs : List Binding) (rest : List Token) → go (bindings_at bs) (entry_on b rest) ≡ go (bindings_at (bs ++ b ∷ [])) rest
take_entry b bs rest = take_target b.target bs b.name (kind_on b.kind (tokens.Mark marks.Semicolon ∷ rest)) ∙ take_kinded b.kind bs b.name b.target rest

take_entries : (xs bs : List Binding) (rest : List Token) → go (bindings_at bs) (entries_on xs rest) ≡ go (bindings_at (bs ++ xs)) rest
take_entries [] bs rest = ap (λ (ys : List Binding). go (bindings_at ys) rest) (sym (append-nil bs))
take_entries (x ∷ xs) bs rest =
    take_entry x bs (entries_on xs rest)
    ∙ (take_entries xs (bs ++ x ∷ []) rest ∙ ap (λ (ys : List Binding). go (bindings_at ys) rest) (append_assoc bs (x ∷ []) xs))

-- ---- scripts

-- statements that were added are those of the section
all_static : (xs : List StatForm) (bs : List Binding) (area : List ℕ) (steps : ℕ) (ys zs : List Statement) → with_all (record { bindings = bs; area = area; steps = steps; initial = ys; dynamic = zs; mean = false }) sections.Static xs ≡ record { bindings = bs; area = area; steps = steps; initial = ys ++ stats_trees xs; dynamic = zs; mean = false }
all_static [] bs area steps ys zs = ap (λ (us : List Statement). record { bindings = bs; area = area; steps = steps; initial = us; dynamic = zs; mean = false }) (sym (append-nil ys))
all_static (x ∷ xs) bs area steps ys zs = all_static xs bs area steps (ys ++ stat_tree x ∷ []) zs ∙ ap (λ (us : List Statement). record { bindings = bs; area = area; steps = steps; initial = us; dynamic = zs; mean = false }) (append_assoc ys (stat_tree x ∷ []) (stats_trees xs))

all_initial : (xs : List StatForm) (bs : List Binding) (area : List ℕ) (steps : ℕ) (ys zs : List Statement) → with_all (record { bindings = bs; area = area; steps = steps; initial = ys; dynamic = zs; mean = false }) sections.Initial xs ≡ record { bindings = bs; area = area; steps = steps; initial = ys ++ stats_trees xs; dynamic = zs; mean = false }
all_initial [] bs area steps ys zs = ap (λ (us : List Statement). record { bindings = bs; area = area; steps = steps; initial = us; dynamic = zs; mean = false }) (sym (append-nil ys))
all_initial (x ∷ xs) bs area steps ys zs = all_initial xs bs area steps (ys ++ stat_tree x ∷ []) zs ∙ ap (λ (us : List Statement). record { bindings = bs; area = area; steps = steps; initial = us; dynamic = zs; mean = false }) (append_assoc ys (stat_tree x ∷ []) (stats_trees xs))

all_dynamic : (xs : List StatForm) (bs : List Binding) (area : List ℕ) (steps : ℕ) (ys zs : List Statement) → with_all (record { bindings = bs; area = area; steps = steps; initial = ys; dynamic = zs; mean = false }) sections.Dynamic xs ≡ record { bindings = bs; area = area; steps = steps; initial = ys; dynamic = zs ++ stats_trees xs; mean = false }
all_dynamic [] bs area steps ys zs = ap (λ (us : List Statement). record { bindings = bs; area = area; steps = steps; initial = ys; dynamic = us; mean = false }) (sym (append-nil zs))
all_dynamic (x ∷ xs) bs area steps ys zs = all_dynamic xs bs area steps ys (zs ++ stat_tree x ∷ []) ∙ ap (λ (us : List Statement). record { bindings = bs; area = area; steps = steps; initial = ys; dynamic = us; mean = false }) (append_assoc zs (stat_tree x ∷ []) (stats_trees xs))

take_binding : (bs : Option (List Binding)) (rest : List Token) → go new_reading (binding_on bs (tokens.Key keys.Areamap ∷ rest)) ≡ go (record { script = (bindings_at (unwrap_or bs [])).script; phase = phases.Areamap }) rest
take_binding None rest = refl
take_binding (Some bs) rest = take_entries bs [] (tokens.Key keys.Areamap ∷ rest)

-- where the tokens of a whole script lead
abbrev pub script_section : SectionsForm → Section
script_section (static ss) = sections.Static
script_section (timed from to by initial dynamic) = sections.Dynamic

take_initial : (initial : Option (List StatForm)) (bs : List Binding) (area : List ℕ) (steps : ℕ) (rest : List Token) → go (record { script = record { bindings = bs; area = area; steps = steps; initial = []; dynamic = []; mean = false }; phase = phases.Timed }) (initial_on initial (tokens.Key keys.Dynamic ∷ rest)) ≡ go (section_at (record { bindings = bs; area = area; steps = steps; initial = stats_trees (unwrap_or initial []); dynamic = []; mean = false }) sections.Dynamic) rest
take_initial None bs area steps rest = refl
take_initial (Some ss) bs area steps rest =
    take_stats ss (record { bindings = bs; area = area; steps = steps; initial = []; dynamic = []; mean = false }) sections.Initial (tokens.Key keys.Dynamic ∷ rest)
    ∙ ap (λ (s : Script). go (section_at s sections.Initial) (tokens.Key keys.Dynamic ∷ rest)) (all_initial ss bs area steps [] [])

take_sections : (c : SectionsForm) (bs : List Binding) (area : List ℕ) → go (record { script = record { bindings = bs; area = area; steps = 0; initial = []; dynamic = []; mean = false }; phase = phases.Covered }) (sections_on c []) ≡ done (section_at (script_tree (record { bindings = Some bs; area = area; sections = c })) (script_section c))
take_sections (static ss) bs area =
    take_stats ss (record { bindings = bs; area = area; steps = 0; initial = []; dynamic = []; mean = false }) sections.Static []
    ∙ ap (λ (s : Script). done (section_at s sections.Static)) (all_static ss bs area 0 [] [])
take_sections (timed from to by initial dynamic) bs area =
    take_initial initial bs area (steps_of to) (stats_on dynamic [])
    ∙ (take_stats dynamic (record { bindings = bs; area = area; steps = steps_of to; initial = stats_trees (unwrap_or initial []); dynamic = []; mean = false }) sections.Dynamic []
    ∙ ap (λ (s : Script). done (section_at s sections.Dynamic)) (all_dynamic dynamic bs area (steps_of to) (stats_trees (unwrap_or initial [])) []))

-- all tokens of a script are taken, and lead to its tree
pub take_script : (f : ScriptForm) → go new_reading (script_on f []) ≡ done (record { script = script_tree f; phase = phases.Section (script_section f.sections) })
take_script f =
    take_binding f.bindings (tokens.File f.area ∷ tokens.Mark marks.Semicolon ∷ sections_on f.sections [])
    ∙ take_sections f.sections (unwrap_or f.bindings []) f.area

pub finish_script : (f : ScriptForm) → finish (record { script = script_tree f; phase = phases.Section (script_section f.sections) }) ≡ Some (script_tree f)
finish_script f = by_section f f.sections refl
  where
    by_section : (f : ScriptForm) (c : SectionsForm) → f.sections ≡ c → finish (record { script = script_tree f; phase = phases.Section (script_section c) }) ≡ Some (script_tree f)
    by_section f (static ss) e = refl
    by_section f (timed from to by initial dynamic) e = refl
