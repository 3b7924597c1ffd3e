-- What is open around an operand, with its forms: the tokens that were taken, and the frames that were made of them.
use Rattle.std.proofs.Common.{◌≡◌, ◌<◌, ◌≤◌, ℕ, List, [], ◌∷◌, refl, sym, ap, arith}
use Rattle.std.specs.Prelude.{codes}
use Rattle.script_syntax.specs.declared.token.Comparison.{Comparison}
use Rattle.script_syntax.specs.declared.token.Sign.{Sign}
use Rattle.script_syntax.specs.declared.token.Sign.TheVariants.{Minus}
use Rattle.script_syntax.specs.declared.token.Factor.{Factor}
use Rattle.script_syntax.specs.declared.token.Operator.TheVariants as operators
use Rattle.script_syntax.specs.declared.token.Key.TheVariants as keys
use Rattle.script_syntax.specs.declared.token.Mark.TheVariants as marks
use Rattle.script_syntax.specs.declared.token.Token.{Token}
use Rattle.script_syntax.specs.declared.token.Token.TheVariants as tokens
use Rattle.script_syntax.specs.declared.frames.Frame.{Frame}
use Rattle.script_syntax.specs.declared.frames.Frame.TheVariants as frames
use Rattle.script_syntax.specs.Grammar.{Part, then_token, else_token, ExprForm, expr_more, expr_on, expr_tree, XorForm, xor_more, xor_on, xor_tree, AndForm, and_more, and_on, and_tree, negated, comp_two, SumForm, sum_more, sum_on, sum_tree, ProdForm, prod_more, prod_on, prod_tree, negative, ArgsForm, args_on, args_trees, call_joined, call_one}
use Rattle.script_syntax.specs.inside.Formulas.{frame_level, frame_hole, hole, closed}
use Rattle.script_syntax.proofs.Pieces.{Piece, of_expr, of_xor, of_and, of_not, of_comp, of_sum, of_prod, of_unary, piece_level, piece_on, piece_tree, as_xor, as_and, as_not, as_sum, as_prod, as_unary, same_xor, same_and, same_not, same_sum, same_prod, same_unary}

-- a frame with the forms in it
pub data Ring : Type 0 where
  or_left : ExprForm → Ring
  xor_left : XorForm → Ring
  and_left : AndForm → Ring
  comp_left : SumForm → Comparison → Ring
  sum_left : SumForm → Sign → Ring
  prod_left : ProdForm → Factor → Ring
  in_not : Ring
  in_sign : Ring
  in_brackets : Ring
  in_call : List ℕ → Ring
  in_args : List ℕ → ArgsForm → Ring
  in_condition : Ring
  in_then : ExprForm → Part → Ring
  in_else : ExprForm → Part → ExprForm → Part → Ring

-- its frame
abbrev pub frame_of : Ring → Frame
frame_of (or_left e) = frames.Left (expr_tree e) operators.Or
frame_of (xor_left x) = frames.Left (xor_tree x) operators.Xor
frame_of (and_left a) = frames.Left (and_tree a) operators.And
frame_of (comp_left s c) = frames.Left (sum_tree s) (operators.Compare c)
frame_of (sum_left s g) = frames.Left (sum_tree s) (operators.Sum g)
frame_of (prod_left p f) = frames.Left (prod_tree p) (operators.Product f)
frame_of in_not = frames.Negated
frame_of in_sign = frames.Negative
frame_of in_brackets = frames.Brackets
frame_of (in_call w) = frames.Call w []
frame_of (in_args w a) = frames.Call w (args_trees a)
frame_of in_condition = frames.Condition
frame_of (in_then c p) = frames.Consequence (expr_tree c)
frame_of (in_else c p a q) = frames.Alternative (expr_tree c) (expr_tree a)

-- its tokens in front of the rest
abbrev pub ring_on : Ring → List Token → List Token
ring_on (or_left e) rest = expr_on e (tokens.Operator operators.Or ∷ rest)
ring_on (xor_left x) rest = xor_on x (tokens.Operator operators.Xor ∷ rest)
ring_on (and_left a) rest = and_on a (tokens.Operator operators.And ∷ rest)
ring_on (comp_left s c) rest = sum_on s (tokens.Operator (operators.Compare c) ∷ rest)
ring_on (sum_left s g) rest = sum_on s (tokens.Operator (operators.Sum g) ∷ rest)
ring_on (prod_left p f) rest = prod_on p (tokens.Operator (operators.Product f) ∷ rest)
ring_on in_not rest = tokens.Not ∷ rest
ring_on in_sign rest = tokens.Operator (operators.Sum Minus) ∷ rest
ring_on in_brackets rest = tokens.Mark marks.Open ∷ rest
ring_on (in_call w) rest = tokens.Name w ∷ tokens.Mark marks.Open ∷ rest
ring_on (in_args w a) rest = tokens.Name w ∷ tokens.Mark marks.Open ∷ args_on a (tokens.Mark marks.Comma ∷ rest)
ring_on in_condition rest = tokens.Key keys.If ∷ tokens.Mark marks.Open ∷ rest
ring_on (in_then c p) rest = tokens.Key keys.If ∷ tokens.Mark marks.Open ∷ expr_on c (then_token p ∷ rest)
ring_on (in_else c p a q) rest = tokens.Key keys.If ∷ tokens.Mark marks.Open ∷ expr_on c (then_token p ∷ expr_on a (else_token q ∷ rest))

-- the frames of rings, the innermost first
abbrev pub frames_of : List Ring → List Frame
frames_of [] = []
frames_of (r ∷ rs) = frame_of r ∷ frames_of rs

-- the tokens of rings in front of the rest
abbrev pub rings_on : List Ring → List Token → List Token
rings_on [] rest = rest
rings_on (r ∷ rs) rest = rings_on rs (ring_on r rest)

-- how tightly the operand that a ring ends in is bound
abbrev pub ring_level : Ring → ℕ
ring_level (or_left e) = 1
ring_level (xor_left x) = 2
ring_level (and_left a) = 3
ring_level (comp_left s c) = 5
ring_level (sum_left s g) = 6
ring_level (prod_left p f) = 7
ring_level in_not = 4
ring_level in_sign = 8
ring_level in_brackets = 9
ring_level (in_call w) = 9
ring_level (in_args w a) = 9
ring_level in_condition = 9
ring_level (in_then c p) = 9
ring_level (in_else c p a q) = 9

-- what each ring ends in may stand in the rings around it
abbrev pub AreTight : List Ring → Type 0
AreTight [] = Unit {0}
AreTight (r ∷ rs) = (hole (frames_of rs) ≤ ring_level r) × AreTight rs

pub hole_small : (rs : List Ring) → hole (frames_of rs) ≤ 8
hole_small [] = omega arith
hole_small (or_left e ∷ rs) = omega arith
hole_small (xor_left x ∷ rs) = omega arith
hole_small (and_left a ∷ rs) = omega arith
hole_small (comp_left s c ∷ rs) = omega arith
hole_small (sum_left s g ∷ rs) = omega arith
hole_small (prod_left p f ∷ rs) = omega arith
hole_small (in_not ∷ rs) = omega arith
hole_small (in_sign ∷ rs) = omega arith
hole_small (in_brackets ∷ rs) = omega arith
hole_small (in_call w ∷ rs) = omega arith
hole_small (in_args w a ∷ rs) = omega arith
hole_small (in_condition ∷ rs) = omega arith
hole_small (in_then c p ∷ rs) = omega arith
hole_small (in_else c p a q ∷ rs) = omega arith

-- ---- a ring closed over its operand

-- the ring with its operand, where no token closes it
abbrev pub joins : Ring → Piece → Piece
joins (or_left e) p = of_expr (expr_more e (as_xor p))
joins (xor_left x) p = of_xor (xor_more x (as_and p))
joins (and_left a) p = of_and (and_more a (as_not p))
joins (comp_left s c) p = of_comp (comp_two s c (as_sum p))
joins (sum_left s g) p = of_sum (sum_more s g (as_prod p))
joins (prod_left x f) p = of_prod (prod_more x f (as_unary p))
joins in_not p = of_not (negated (as_not p))
joins in_sign p = of_unary (negative (as_unary p))
joins in_brackets p = p
joins (in_call w) p = p
joins (in_args w a) p = p
joins in_condition p = p
joins (in_then c q) p = p
joins (in_else c q a s) p = p

-- the piece that a ring and its operand are
pub record IsJoined (r : Ring) (p : Piece) : Type 0 where
  pub tree : closed (frame_of r) (piece_tree p) ≡ piece_tree (joins r p)
  pub on : (rest : List Token) → piece_on (joins r p) rest ≡ ring_on r (piece_on p rest)
  pub level : piece_level (joins r p) ≡ ring_level r

pub joins_is : (r : Ring) (p : Piece) → 0 < frame_level (frame_of r) → frame_hole (frame_of r) ≤ piece_level p → IsJoined r p
joins_is (or_left e) p l h = let s = same_xor p h in
    record { tree = ap (λ t. call_joined operators.Or (expr_tree e) t) (sym s.trees); on = λ rest. ap (λ ts. expr_on e (tokens.Operator operators.Or ∷ ts)) (s.tokens rest); level = refl }
joins_is (xor_left x) p l h = let s = same_and p h in
    record { tree = ap (λ t. call_joined operators.Xor (xor_tree x) t) (sym s.trees); on = λ rest. ap (λ ts. xor_on x (tokens.Operator operators.Xor ∷ ts)) (s.tokens rest); level = refl }
joins_is (and_left a) p l h = let s = same_not p h in
    record { tree = ap (λ t. call_joined operators.And (and_tree a) t) (sym s.trees); on = λ rest. ap (λ ts. and_on a (tokens.Operator operators.And ∷ ts)) (s.tokens rest); level = refl }
joins_is (comp_left x c) p l h = let s = same_sum p h in
    record { tree = ap (λ t. call_joined (operators.Compare c) (sum_tree x) t) (sym s.trees); on = λ rest. ap (λ ts. sum_on x (tokens.Operator (operators.Compare c) ∷ ts)) (s.tokens rest); level = refl }
joins_is (sum_left x g) p l h = let s = same_prod p h in
    record { tree = ap (λ t. call_joined (operators.Sum g) (sum_tree x) t) (sym s.trees); on = λ rest. ap (λ ts. sum_on x (tokens.Operator (operators.Sum g) ∷ ts)) (s.tokens rest); level = refl }
joins_is (prod_left x f) p l h = let s = same_unary p h in
    record { tree = ap (λ t. call_joined (operators.Product f) (prod_tree x) t) (sym s.trees); on = λ rest. ap (λ ts. prod_on x (tokens.Operator (operators.Product f) ∷ ts)) (s.tokens rest); level = refl }
joins_is in_not p l h = let s = same_not p h in
    record { tree = ap (λ t. call_one (codes "not") t) (sym s.trees); on = λ rest. ap (λ ts. tokens.Not ∷ ts) (s.tokens rest); level = refl }
joins_is in_sign p l h = let s = same_unary p h in
    record { tree = ap (λ t. call_one (codes "-") t) (sym s.trees); on = λ rest. ap (λ ts. tokens.Operator (operators.Sum Minus) ∷ ts) (s.tokens rest); level = refl }
joins_is in_brackets p l h = absurd (omega arith)
joins_is (in_call w) p l h = absurd (omega arith)
joins_is (in_args w a) p l h = absurd (omega arith)
joins_is in_condition p l h = absurd (omega arith)
joins_is (in_then c q) p l h = absurd (omega arith)
joins_is (in_else c q a s) p l h = absurd (omega arith)

-- a frame that closes has the level of its ring
pub frame_level-ring : (r : Ring) → 0 < frame_level (frame_of r) → frame_level (frame_of r) ≡ ring_level r
frame_level-ring (or_left e) l = refl
frame_level-ring (xor_left x) l = refl
frame_level-ring (and_left a) l = refl
frame_level-ring (comp_left x c) l = refl
frame_level-ring (sum_left x g) l = refl
frame_level-ring (prod_left x f) l = refl
frame_level-ring in_not l = refl
frame_level-ring in_sign l = refl
frame_level-ring in_brackets l = absurd (omega arith)
frame_level-ring (in_call w) l = absurd (omega arith)
frame_level-ring (in_args w a) l = absurd (omega arith)
frame_level-ring in_condition l = absurd (omega arith)
frame_level-ring (in_then c q) l = absurd (omega arith)
frame_level-ring (in_else c q a s) l = absurd (omega arith)
