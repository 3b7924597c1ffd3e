-- Forms of any rule of expressions, and how a form of a tighter rule is one of a looser rule.
use Rattle.std.proofs.Common.{◌≡◌, ◌≤◌, ℕ, List, [], refl, arith}
use Rattle.script_syntax.specs.declared.token.Token.{Token}
use Rattle.script_syntax.specs.declared.tree.Expr.{Expr}
use Rattle.script_syntax.specs.Grammar.{ExprForm, expr_one, expr_on, expr_tree, XorForm, xor_one, xor_on, xor_tree, AndForm, and_one, and_on, and_tree, NotForm, not_comp, not_on, not_tree, CompForm, comp_one, comp_on, comp_tree, SumForm, sum_one, sum_on, sum_tree, ProdForm, prod_one, prod_on, prod_tree, UnaryForm, unary_prim, unary_on, unary_tree, PrimForm, number, prim_on, prim_tree}

-- a form of any rule of expressions
pub data Piece : Type 0 where
  of_expr : ExprForm → Piece
  of_xor : XorForm → Piece
  of_and : AndForm → Piece
  of_not : NotForm → Piece
  of_comp : CompForm → Piece
  of_sum : SumForm → Piece
  of_prod : ProdForm → Piece
  of_unary : UnaryForm → Piece
  of_prim : PrimForm → Piece

-- how tightly its rule binds
abbrev pub piece_level : Piece → ℕ
piece_level (of_expr x) = 1
piece_level (of_xor x) = 2
piece_level (of_and x) = 3
piece_level (of_not x) = 4
piece_level (of_comp x) = 5
piece_level (of_sum x) = 6
piece_level (of_prod x) = 7
piece_level (of_unary x) = 8
piece_level (of_prim x) = 9

-- its tokens
abbrev pub piece_on : Piece → List Token → List Token
piece_on (of_expr x) rest = expr_on x rest
piece_on (of_xor x) rest = xor_on x rest
piece_on (of_and x) rest = and_on x rest
piece_on (of_not x) rest = not_on x rest
piece_on (of_comp x) rest = comp_on x rest
piece_on (of_sum x) rest = sum_on x rest
piece_on (of_prod x) rest = prod_on x rest
piece_on (of_unary x) rest = unary_on x rest
piece_on (of_prim x) rest = prim_on x rest

-- its tree
abbrev pub piece_tree : Piece → Expr
piece_tree (of_expr x) = expr_tree x
piece_tree (of_xor x) = xor_tree x
piece_tree (of_and x) = and_tree x
piece_tree (of_not x) = not_tree x
piece_tree (of_comp x) = comp_tree x
piece_tree (of_sum x) = sum_tree x
piece_tree (of_prod x) = prod_tree x
piece_tree (of_unary x) = unary_tree x
piece_tree (of_prim x) = prim_tree x

-- ---- the same as a form of a rule that binds no tighter (of no meaning where it binds looser)

abbrev pub as_prim : Piece → PrimForm
as_prim (of_expr x) = number []
as_prim (of_xor x) = number []
as_prim (of_and x) = number []
as_prim (of_not x) = number []
as_prim (of_comp x) = number []
as_prim (of_sum x) = number []
as_prim (of_prod x) = number []
as_prim (of_unary x) = number []
as_prim (of_prim x) = x

abbrev pub as_unary : Piece → UnaryForm
as_unary (of_expr x) = unary_prim (as_prim (of_expr x))
as_unary (of_xor x) = unary_prim (as_prim (of_xor x))
as_unary (of_and x) = unary_prim (as_prim (of_and x))
as_unary (of_not x) = unary_prim (as_prim (of_not x))
as_unary (of_comp x) = unary_prim (as_prim (of_comp x))
as_unary (of_sum x) = unary_prim (as_prim (of_sum x))
as_unary (of_prod x) = unary_prim (as_prim (of_prod x))
as_unary (of_unary x) = x
as_unary (of_prim x) = unary_prim (as_prim (of_prim x))

abbrev pub as_prod : Piece → ProdForm
as_prod (of_expr x) = prod_one (as_unary (of_expr x))
as_prod (of_xor x) = prod_one (as_unary (of_xor x))
as_prod (of_and x) = prod_one (as_unary (of_and x))
as_prod (of_not x) = prod_one (as_unary (of_not x))
as_prod (of_comp x) = prod_one (as_unary (of_comp x))
as_prod (of_sum x) = prod_one (as_unary (of_sum x))
as_prod (of_prod x) = x
as_prod (of_unary x) = prod_one (as_unary (of_unary x))
as_prod (of_prim x) = prod_one (as_unary (of_prim x))

abbrev pub as_sum : Piece → SumForm
as_sum (of_expr x) = sum_one (as_prod (of_expr x))
as_sum (of_xor x) = sum_one (as_prod (of_xor x))
as_sum (of_and x) = sum_one (as_prod (of_and x))
as_sum (of_not x) = sum_one (as_prod (of_not x))
as_sum (of_comp x) = sum_one (as_prod (of_comp x))
as_sum (of_sum x) = x
as_sum (of_prod x) = sum_one (as_prod (of_prod x))
as_sum (of_unary x) = sum_one (as_prod (of_unary x))
as_sum (of_prim x) = sum_one (as_prod (of_prim x))

abbrev pub as_comp : Piece → CompForm
as_comp (of_expr x) = comp_one (as_sum (of_expr x))
as_comp (of_xor x) = comp_one (as_sum (of_xor x))
as_comp (of_and x) = comp_one (as_sum (of_and x))
as_comp (of_not x) = comp_one (as_sum (of_not x))
as_comp (of_comp x) = x
as_comp (of_sum x) = comp_one (as_sum (of_sum x))
as_comp (of_prod x) = comp_one (as_sum (of_prod x))
as_comp (of_unary x) = comp_one (as_sum (of_unary x))
as_comp (of_prim x) = comp_one (as_sum (of_prim x))

abbrev pub as_not : Piece → NotForm
as_not (of_expr x) = not_comp (as_comp (of_expr x))
as_not (of_xor x) = not_comp (as_comp (of_xor x))
as_not (of_and x) = not_comp (as_comp (of_and x))
as_not (of_not x) = x
as_not (of_comp x) = not_comp (as_comp (of_comp x))
as_not (of_sum x) = not_comp (as_comp (of_sum x))
as_not (of_prod x) = not_comp (as_comp (of_prod x))
as_not (of_unary x) = not_comp (as_comp (of_unary x))
as_not (of_prim x) = not_comp (as_comp (of_prim x))

abbrev pub as_and : Piece → AndForm
as_and (of_expr x) = and_one (as_not (of_expr x))
as_and (of_xor x) = and_one (as_not (of_xor x))
as_and (of_and x) = x
as_and (of_not x) = and_one (as_not (of_not x))
as_and (of_comp x) = and_one (as_not (of_comp x))
as_and (of_sum x) = and_one (as_not (of_sum x))
as_and (of_prod x) = and_one (as_not (of_prod x))
as_and (of_unary x) = and_one (as_not (of_unary x))
as_and (of_prim x) = and_one (as_not (of_prim x))

abbrev pub as_xor : Piece → XorForm
as_xor (of_expr x) = xor_one (as_and (of_expr x))
as_xor (of_xor x) = x
as_xor (of_and x) = xor_one (as_and (of_and x))
as_xor (of_not x) = xor_one (as_and (of_not x))
as_xor (of_comp x) = xor_one (as_and (of_comp x))
as_xor (of_sum x) = xor_one (as_and (of_sum x))
as_xor (of_prod x) = xor_one (as_and (of_prod x))
as_xor (of_unary x) = xor_one (as_and (of_unary x))
as_xor (of_prim x) = xor_one (as_and (of_prim x))

abbrev pub as_expr : Piece → ExprForm
as_expr (of_expr x) = x
as_expr (of_xor x) = expr_one (as_xor (of_xor x))
as_expr (of_and x) = expr_one (as_xor (of_and x))
as_expr (of_not x) = expr_one (as_xor (of_not x))
as_expr (of_comp x) = expr_one (as_xor (of_comp x))
as_expr (of_sum x) = expr_one (as_xor (of_sum x))
as_expr (of_prod x) = expr_one (as_xor (of_prod x))
as_expr (of_unary x) = expr_one (as_xor (of_unary x))
as_expr (of_prim x) = expr_one (as_xor (of_prim x))

-- a form has the tokens and the tree of the piece
pub record IsSame (on : List Token → List Token) (tree : Expr) (p : Piece) : Type 0 where
  pub tokens : (rest : List Token) → on rest ≡ piece_on p rest
  pub trees : tree ≡ piece_tree p

pub same_expr : (p : Piece) → 1 ≤ piece_level p → IsSame (expr_on (as_expr p)) (expr_tree (as_expr p)) p
same_expr (of_expr x) h = record { tokens = λ rest. refl; trees = refl }
same_expr (of_xor x) h = record { tokens = λ rest. refl; trees = refl }
same_expr (of_and x) h = record { tokens = λ rest. refl; trees = refl }
same_expr (of_not x) h = record { tokens = λ rest. refl; trees = refl }
same_expr (of_comp x) h = record { tokens = λ rest. refl; trees = refl }
same_expr (of_sum x) h = record { tokens = λ rest. refl; trees = refl }
same_expr (of_prod x) h = record { tokens = λ rest. refl; trees = refl }
same_expr (of_unary x) h = record { tokens = λ rest. refl; trees = refl }
same_expr (of_prim x) h = record { tokens = λ rest. refl; trees = refl }

pub same_xor : (p : Piece) → 2 ≤ piece_level p → IsSame (xor_on (as_xor p)) (xor_tree (as_xor p)) p
same_xor (of_expr x) h = absurd (omega arith)
same_xor (of_xor x) h = record { tokens = λ rest. refl; trees = refl }
same_xor (of_and x) h = record { tokens = λ rest. refl; trees = refl }
same_xor (of_not x) h = record { tokens = λ rest. refl; trees = refl }
same_xor (of_comp x) h = record { tokens = λ rest. refl; trees = refl }
same_xor (of_sum x) h = record { tokens = λ rest. refl; trees = refl }
same_xor (of_prod x) h = record { tokens = λ rest. refl; trees = refl }
same_xor (of_unary x) h = record { tokens = λ rest. refl; trees = refl }
same_xor (of_prim x) h = record { tokens = λ rest. refl; trees = refl }

pub same_and : (p : Piece) → 3 ≤ piece_level p → IsSame (and_on (as_and p)) (and_tree (as_and p)) p
same_and (of_expr x) h = absurd (omega arith)
same_and (of_xor x) h = absurd (omega arith)
same_and (of_and x) h = record { tokens = λ rest. refl; trees = refl }
same_and (of_not x) h = record { tokens = λ rest. refl; trees = refl }
same_and (of_comp x) h = record { tokens = λ rest. refl; trees = refl }
same_and (of_sum x) h = record { tokens = λ rest. refl; trees = refl }
same_and (of_prod x) h = record { tokens = λ rest. refl; trees = refl }
same_and (of_unary x) h = record { tokens = λ rest. refl; trees = refl }
same_and (of_prim x) h = record { tokens = λ rest. refl; trees = refl }

pub same_not : (p : Piece) → 4 ≤ piece_level p → IsSame (not_on (as_not p)) (not_tree (as_not p)) p
same_not (of_expr x) h = absurd (omega arith)
same_not (of_xor x) h = absurd (omega arith)
same_not (of_and x) h = absurd (omega arith)
same_not (of_not x) h = record { tokens = λ rest. refl; trees = refl }
same_not (of_comp x) h = record { tokens = λ rest. refl; trees = refl }
same_not (of_sum x) h = record { tokens = λ rest. refl; trees = refl }
same_not (of_prod x) h = record { tokens = λ rest. refl; trees = refl }
same_not (of_unary x) h = record { tokens = λ rest. refl; trees = refl }
same_not (of_prim x) h = record { tokens = λ rest. refl; trees = refl }

pub same_comp : (p : Piece) → 5 ≤ piece_level p → IsSame (comp_on (as_comp p)) (comp_tree (as_comp p)) p
same_comp (of_expr x) h = absurd (omega arith)
same_comp (of_xor x) h = absurd (omega arith)
same_comp (of_and x) h = absurd (omega arith)
same_comp (of_not x) h = absurd (omega arith)
same_comp (of_comp x) h = record { tokens = λ rest. refl; trees = refl }
same_comp (of_sum x) h = record { tokens = λ rest. refl; trees = refl }
same_comp (of_prod x) h = record { tokens = λ rest. refl; trees = refl }
same_comp (of_unary x) h = record { tokens = λ rest. refl; trees = refl }
same_comp (of_prim x) h = record { tokens = λ rest. refl; trees = refl }

pub same_sum : (p : Piece) → 6 ≤ piece_level p → IsSame (sum_on (as_sum p)) (sum_tree (as_sum p)) p
same_sum (of_expr x) h = absurd (omega arith)
same_sum (of_xor x) h = absurd (omega arith)
same_sum (of_and x) h = absurd (omega arith)
same_sum (of_not x) h = absurd (omega arith)
same_sum (of_comp x) h = absurd (omega arith)
same_sum (of_sum x) h = record { tokens = λ rest. refl; trees = refl }
same_sum (of_prod x) h = record { tokens = λ rest. refl; trees = refl }
same_sum (of_unary x) h = record { tokens = λ rest. refl; trees = refl }
same_sum (of_prim x) h = record { tokens = λ rest. refl; trees = refl }

pub same_prod : (p : Piece) → 7 ≤ piece_level p → IsSame (prod_on (as_prod p)) (prod_tree (as_prod p)) p
same_prod (of_expr x) h = absurd (omega arith)
same_prod (of_xor x) h = absurd (omega arith)
same_prod (of_and x) h = absurd (omega arith)
same_prod (of_not x) h = absurd (omega arith)
same_prod (of_comp x) h = absurd (omega arith)
same_prod (of_sum x) h = absurd (omega arith)
same_prod (of_prod x) h = record { tokens = λ rest. refl; trees = refl }
same_prod (of_unary x) h = record { tokens = λ rest. refl; trees = refl }
same_prod (of_prim x) h = record { tokens = λ rest. refl; trees = refl }

pub same_unary : (p : Piece) → 8 ≤ piece_level p → IsSame (unary_on (as_unary p)) (unary_tree (as_unary p)) p
same_unary (of_expr x) h = absurd (omega arith)
same_unary (of_xor x) h = absurd (omega arith)
same_unary (of_and x) h = absurd (omega arith)
same_unary (of_not x) h = absurd (omega arith)
same_unary (of_comp x) h = absurd (omega arith)
same_unary (of_sum x) h = absurd (omega arith)
same_unary (of_prod x) h = absurd (omega arith)
same_unary (of_unary x) h = record { tokens = λ rest. refl; trees = refl }
same_unary (of_prim x) h = record { tokens = λ rest. refl; trees = refl }

pub same_prim : (p : Piece) → 9 ≤ piece_level p → IsSame (prim_on (as_prim p)) (prim_tree (as_prim p)) p
same_prim (of_expr x) h = absurd (omega arith)
same_prim (of_xor x) h = absurd (omega arith)
same_prim (of_and x) h = absurd (omega arith)
same_prim (of_not x) h = absurd (omega arith)
same_prim (of_comp x) h = absurd (omega arith)
same_prim (of_sum x) h = absurd (omega arith)
same_prim (of_prod x) h = absurd (omega arith)
same_prim (of_unary x) h = absurd (omega arith)
same_prim (of_prim x) h = record { tokens = λ rest. refl; trees = refl }
