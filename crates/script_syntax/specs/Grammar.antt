-- The grammar of scripts. Each rule is one data type and each way to write it one constructor, so that a form is a
-- derivation. A form has its tokens, written in front of a rest, and its tree.
use Rattle.std.specs.Prelude.{◌≡◌, ℕ, Bool, true, false, List, [], ◌∷◌, ◌++◌, map, codes, Option, Some, None, unwrap_or}
use Rattle.cell_values.specs.declared.kind.Kind.{Kind}
use Rattle.cell_values.specs.declared.kind.Kind.TheVariants.{Boolean, Nominal, Ordinal, Scalar, Directional, Ldd}
use Rattle.script_syntax.specs.declared.token.Comparison.{Comparison}
use Rattle.script_syntax.specs.declared.token.Comparison.TheVariants as compares
use Rattle.script_syntax.specs.declared.token.Sign.{Sign}
use Rattle.script_syntax.specs.declared.token.Sign.TheVariants.{Plus, Minus}
use Rattle.script_syntax.specs.declared.token.Factor.{Factor}
use Rattle.script_syntax.specs.declared.token.Factor.TheVariants.{Times, Over, WholeOver, Modulo}
use Rattle.script_syntax.specs.declared.token.Operator.{Operator}
use Rattle.script_syntax.specs.declared.token.Operator.TheVariants as operators
use Rattle.script_syntax.specs.declared.token.Key.TheVariants as keys
use Rattle.script_syntax.specs.declared.token.Mark.TheVariants as marks
use Rattle.script_syntax.specs.declared.token.Token.{Token}
use Rattle.script_syntax.specs.declared.token.Token.TheVariants as tokens
use Rattle.script_syntax.specs.declared.tree.Binding.{Binding}
use Rattle.script_syntax.specs.declared.tree.Target.{Target}
use Rattle.script_syntax.specs.declared.tree.Target.TheVariants as targets
use Rattle.script_syntax.specs.declared.tree.Expr.{Expr}
use Rattle.script_syntax.specs.declared.tree.Expr.TheVariants as exprs
use Rattle.script_syntax.specs.declared.tree.Statement.{Statement}
use Rattle.script_syntax.specs.declared.tree.Script.{Script}
use Rattle.script_syntax.specs.Numbers.{steps_of}

-- ---- expressions, by rule

-- the word or the comma behind a part of `if`
pub data Part : Type 0 where
  by_word : Part
  by_comma : Part

mutual
  -- expr = xorx | expr or xorx
  pub data ExprForm : Type 0 where
    expr_one : XorForm → ExprForm
    expr_more : ExprForm → XorForm → ExprForm

  -- xorx = andx | xorx "xor" andx
  pub data XorForm : Type 0 where
    xor_one : AndForm → XorForm
    xor_more : XorForm → AndForm → XorForm

  -- andx = notx | andx and notx
  pub data AndForm : Type 0 where
    and_one : NotForm → AndForm
    and_more : AndForm → NotForm → AndForm

  -- notx = not notx | comp
  pub data NotForm : Type 0 where
    negated : NotForm → NotForm
    not_comp : CompForm → NotForm

  -- comp = sum [ cmp sum ]
  pub data CompForm : Type 0 where
    comp_one : SumForm → CompForm
    comp_two : SumForm → Comparison → SumForm → CompForm

  -- sum = prod | sum ("+" | "-") prod
  pub data SumForm : Type 0 where
    sum_one : ProdForm → SumForm
    sum_more : SumForm → Sign → ProdForm → SumForm

  -- prod = unary | prod ("*" | "/" | "idiv" | "mod") unary
  pub data ProdForm : Type 0 where
    prod_one : UnaryForm → ProdForm
    prod_more : ProdForm → Factor → UnaryForm → ProdForm

  -- unary = "-" unary | prim
  pub data UnaryForm : Type 0 where
    negative : UnaryForm → UnaryForm
    unary_prim : PrimForm → UnaryForm

  -- prim = number | name | name "(" ")" | name "(" args ")" | "(" expr ")"
  --      | "if" "(" expr then expr ")" | "if" "(" expr then expr else expr ")"
  pub data PrimForm : Type 0 where
    number : List ℕ → PrimForm
    name : List ℕ → PrimForm
    called : List ℕ → PrimForm
    call : List ℕ → ArgsForm → PrimForm
    brackets : ExprForm → PrimForm
    choice : ExprForm → Part → ExprForm → PrimForm
    choice_else : ExprForm → Part → ExprForm → Part → ExprForm → PrimForm

  -- args = expr | args "," expr
  pub data ArgsForm : Type 0 where
    args_one : ExprForm → ArgsForm
    args_more : ArgsForm → ExprForm → ArgsForm

-- ---- their tokens, in front of others

-- `then` or a comma
abbrev pub then_token : Part → Token
then_token by_word = tokens.Key keys.Then
then_token by_comma = tokens.Mark marks.Comma

-- `else` or a comma
abbrev pub else_token : Part → Token
else_token by_word = tokens.Key keys.Else
else_token by_comma = tokens.Mark marks.Comma

-- the tokens of each rule's forms, in front of the rest
abbrev mutual
  pub expr_on : ExprForm → List Token → List Token
  expr_on (expr_one x) rest = xor_on x rest
  expr_on (expr_more e x) rest = expr_on e (tokens.Operator operators.Or ∷ xor_on x rest)

  pub xor_on : XorForm → List Token → List Token
  xor_on (xor_one a) rest = and_on a rest
  xor_on (xor_more x a) rest = xor_on x (tokens.Operator operators.Xor ∷ and_on a rest)

  pub and_on : AndForm → List Token → List Token
  and_on (and_one n) rest = not_on n rest
  and_on (and_more a n) rest = and_on a (tokens.Operator operators.And ∷ not_on n rest)

  pub not_on : NotForm → List Token → List Token
  not_on (negated n) rest = tokens.Not ∷ not_on n rest
  not_on (not_comp c) rest = comp_on c rest

  pub comp_on : CompForm → List Token → List Token
  comp_on (comp_one s) rest = sum_on s rest
  comp_on (comp_two s c r) rest = sum_on s (tokens.Operator (operators.Compare c) ∷ sum_on r rest)

  pub sum_on : SumForm → List Token → List Token
  sum_on (sum_one p) rest = prod_on p rest
  sum_on (sum_more s g p) rest = sum_on s (tokens.Operator (operators.Sum g) ∷ prod_on p rest)

  pub prod_on : ProdForm → List Token → List Token
  prod_on (prod_one u) rest = unary_on u rest
  prod_on (prod_more p f u) rest = prod_on p (tokens.Operator (operators.Product f) ∷ unary_on u rest)

  pub unary_on : UnaryForm → List Token → List Token
  unary_on (negative u) rest = tokens.Operator (operators.Sum Minus) ∷ unary_on u rest
  unary_on (unary_prim p) rest = prim_on p rest

  pub prim_on : PrimForm → List Token → List Token
  prim_on (number w) rest = tokens.Number w ∷ rest
  prim_on (name w) rest = tokens.Name w ∷ rest
  prim_on (called w) rest = tokens.Name w ∷ tokens.Mark marks.Open ∷ tokens.Mark marks.Close ∷ rest
  prim_on (call w a) rest = tokens.Name w ∷ tokens.Mark marks.Open ∷ args_on a (tokens.Mark marks.Close ∷ rest)
  prim_on (brackets e) rest = tokens.Mark marks.Open ∷ expr_on e (tokens.Mark marks.Close ∷ rest)
  prim_on (choice c p a) rest =
      tokens.Key keys.If ∷ tokens.Mark marks.Open ∷ expr_on c (then_token p ∷ expr_on a (tokens.Mark marks.Close ∷ rest))
  prim_on (choice_else c p a q b) rest =
      tokens.Key keys.If ∷ tokens.Mark marks.Open
      ∷ expr_on c (then_token p ∷ expr_on a (else_token q ∷ expr_on b (tokens.Mark marks.Close ∷ rest)))

  pub args_on : ArgsForm → List Token → List Token
  args_on (args_one e) rest = expr_on e rest
  args_on (args_more a e) rest = args_on a (tokens.Mark marks.Comma ∷ expr_on e rest)

-- ---- their trees: an operator is a call whose word is its first spelling, and brackets leave no node

-- the first spelling of an operator
abbrev pub operator_word : Operator → List ℕ
operator_word operators.Or = codes "or"
operator_word operators.Xor = codes "xor"
operator_word operators.And = codes "and"
operator_word (operators.Compare compares.Equal) = codes "=="
operator_word (operators.Compare compares.Unequal) = codes "!="
operator_word (operators.Compare compares.Less) = codes "<"
operator_word (operators.Compare compares.AtMost) = codes "<="
operator_word (operators.Compare compares.Greater) = codes ">"
operator_word (operators.Compare compares.AtLeast) = codes ">="
operator_word (operators.Sum Plus) = codes "+"
operator_word (operators.Sum Minus) = codes "-"
operator_word (operators.Product Times) = codes "*"
operator_word (operators.Product Over) = codes "/"
operator_word (operators.Product WholeOver) = codes "idiv"
operator_word (operators.Product Modulo) = codes "mod"

-- a call with one operand
abbrev pub call_one : List ℕ → Expr → Expr
call_one word a = exprs.Call word (a ∷ [])

-- a call with two operands
abbrev pub call_two : List ℕ → Expr → Expr → Expr
call_two word a b = exprs.Call word (a ∷ b ∷ [])

-- a call with three operands
abbrev pub call_three : List ℕ → Expr → Expr → Expr → Expr
call_three word a b c = exprs.Call word (a ∷ b ∷ c ∷ [])

-- two operands and their operator
abbrev pub call_joined : Operator → Expr → Expr → Expr
call_joined o a b = call_two (operator_word o) a b

-- the tree of each rule's forms
abbrev mutual
  pub expr_tree : ExprForm → Expr
  expr_tree (expr_one x) = xor_tree x
  expr_tree (expr_more e x) = call_joined operators.Or (expr_tree e) (xor_tree x)

  pub xor_tree : XorForm → Expr
  xor_tree (xor_one a) = and_tree a
  xor_tree (xor_more x a) = call_joined operators.Xor (xor_tree x) (and_tree a)

  pub and_tree : AndForm → Expr
  and_tree (and_one n) = not_tree n
  and_tree (and_more a n) = call_joined operators.And (and_tree a) (not_tree n)

  pub not_tree : NotForm → Expr
  not_tree (negated n) = call_one (codes "not") (not_tree n)
  not_tree (not_comp c) = comp_tree c

  pub comp_tree : CompForm → Expr
  comp_tree (comp_one s) = sum_tree s
  comp_tree (comp_two s c r) = call_joined (operators.Compare c) (sum_tree s) (sum_tree r)

  pub sum_tree : SumForm → Expr
  sum_tree (sum_one p) = prod_tree p
  sum_tree (sum_more s g p) = call_joined (operators.Sum g) (sum_tree s) (prod_tree p)

  pub prod_tree : ProdForm → Expr
  prod_tree (prod_one u) = unary_tree u
  prod_tree (prod_more p f u) = call_joined (operators.Product f) (prod_tree p) (unary_tree u)

  pub unary_tree : UnaryForm → Expr
  unary_tree (negative u) = call_one (codes "-") (unary_tree u)
  unary_tree (unary_prim p) = prim_tree p

  pub prim_tree : PrimForm → Expr
  prim_tree (number w) = exprs.Number w
  prim_tree (name w) = exprs.Name w
  prim_tree (called w) = exprs.Call w []
  prim_tree (call w a) = exprs.Call w (args_trees a)
  prim_tree (brackets e) = expr_tree e
  prim_tree (choice c p a) = call_two (codes "if") (expr_tree c) (expr_tree a)
  prim_tree (choice_else c p a q b) = call_three (codes "if") (expr_tree c) (expr_tree a) (expr_tree b)

  pub args_trees : ArgsForm → List Expr
  args_trees (args_one e) = expr_tree e ∷ []
  args_trees (args_more a e) = args_trees a ++ expr_tree e ∷ []

-- ---- entries, which are written as their trees say

-- the word of a kind
abbrev pub kind_word : Kind → List ℕ
kind_word Boolean = codes "boolean"
kind_word Nominal = codes "nominal"
kind_word Ordinal = codes "ordinal"
kind_word Scalar = codes "scalar"
kind_word Directional = codes "directional"
kind_word Ldd = codes "ldd"

-- the file word or the decimal of an entry
abbrev pub target_token : Target → Token
target_token (targets.File w) = tokens.File w
target_token (targets.Number w) = tokens.Number w

-- [ ":" kind ]
abbrev pub kind_on : Option Kind → List Token → List Token
kind_on None rest = rest
kind_on (Some k) rest = tokens.Mark marks.Colon ∷ tokens.Name (kind_word k) ∷ rest

-- entry = name "=" ( fileword | decimal ) [ ":" kind ] ";"
abbrev pub entry_on : Binding → List Token → List Token
entry_on b rest = tokens.Name b.name ∷ tokens.Mark marks.Equal ∷ target_token b.target ∷ kind_on b.kind (tokens.Mark marks.Semicolon ∷ rest)

-- { entry }
abbrev pub entries_on : List Binding → List Token → List Token
entries_on [] rest = rest
entries_on (b ∷ bs) rest = entry_on b (entries_on bs rest)

-- ---- statements

-- stat = [ "report" ] name "=" expr ";"
pub record StatForm : Type 0 where
  pub report : Bool
  pub name : List ℕ
  pub expr : ExprForm

-- [ "report" ]
abbrev pub report_on : Bool → List Token → List Token
report_on false rest = rest
report_on true rest = tokens.Key keys.Report ∷ rest

-- the tokens of a statement in front of the rest
abbrev pub stat_on : StatForm → List Token → List Token
stat_on s rest = report_on s.report (tokens.Name s.name ∷ tokens.Mark marks.Equal ∷ expr_on s.expr (tokens.Mark marks.Semicolon ∷ rest))

-- { stat }
abbrev pub stats_on : List StatForm → List Token → List Token
stats_on [] rest = rest
stats_on (s ∷ ss) rest = stat_on s (stats_on ss rest)

-- the tree of a statement
abbrev pub stat_tree : StatForm → Statement
stat_tree s = record { report = s.report; name = s.name; expr = expr_tree s.expr }

-- the trees of statements
abbrev pub stats_trees : List StatForm → List Statement
stats_trees ss = map stat_tree ss

-- ---- scripts

-- [ "timer" number number number ";" ] [ "initial" { stat } ] [ "dynamic" { stat } ], of which `timer` and `dynamic` stand
-- both or neither, and `initial` may be missing only where `dynamic` stands
pub data SectionsForm : Type 0 where
  static : List StatForm → SectionsForm
  timed : (from to by : List ℕ) → Option (List StatForm) → List StatForm → SectionsForm

-- script = [ "binding" { entry } ] "areamap" fileword ";" and its sections
pub record ScriptForm : Type 0 where
  pub bindings : Option (List Binding)
  pub area : List ℕ
  pub sections : SectionsForm

-- [ "binding" { entry } ]
abbrev pub binding_on : Option (List Binding) → List Token → List Token
binding_on None rest = rest
binding_on (Some bs) rest = tokens.Key keys.Binding ∷ entries_on bs rest

-- "areamap" fileword ";"
abbrev pub area_on : List ℕ → List Token → List Token
area_on w rest = tokens.Key keys.Areamap ∷ tokens.File w ∷ tokens.Mark marks.Semicolon ∷ rest

-- "timer" number number number ";"
abbrev pub timer_on : List ℕ → List ℕ → List ℕ → List Token → List Token
timer_on from to by rest =
    tokens.Key keys.Timer ∷ tokens.Number from ∷ tokens.Number to ∷ tokens.Number by ∷ tokens.Mark marks.Semicolon ∷ rest

-- [ "initial" { stat } ]
abbrev pub initial_on : Option (List StatForm) → List Token → List Token
initial_on None rest = rest
initial_on (Some ss) rest = tokens.Key keys.Initial ∷ stats_on ss rest

-- "dynamic" { stat }
abbrev pub dynamic_on : List StatForm → List Token → List Token
dynamic_on ss rest = tokens.Key keys.Dynamic ∷ stats_on ss rest

-- the tokens of the sections in front of the rest
abbrev pub sections_on : SectionsForm → List Token → List Token
sections_on (static ss) rest = tokens.Key keys.Initial ∷ stats_on ss rest
sections_on (timed from to by initial dynamic) rest = timer_on from to by (initial_on initial (dynamic_on dynamic rest))

-- the tokens of a script in front of the rest
abbrev pub script_on : ScriptForm → List Token → List Token
script_on s rest = binding_on s.bindings (area_on s.area (sections_on s.sections rest))

-- the last step of the sections, or 0 without `timer`
abbrev pub steps_in : SectionsForm → ℕ
steps_in (static ss) = 0
steps_in (timed from to by initial dynamic) = steps_of to

-- the statements of `initial`
abbrev pub initial_in : SectionsForm → List Statement
initial_in (static ss) = stats_trees ss
initial_in (timed from to by initial dynamic) = stats_trees (unwrap_or initial [])

-- the statements of `dynamic`
abbrev pub dynamic_in : SectionsForm → List Statement
dynamic_in (static ss) = []
dynamic_in (timed from to by initial dynamic) = stats_trees dynamic

-- the tree of a script; tokens do not tell its edition, and this is that of a text whose first line asks for nothing
abbrev pub script_tree : ScriptForm → Script
script_tree s = record {
  bindings = unwrap_or s.bindings [];
  area = s.area;
  steps = steps_in s.sections;
  initial = initial_in s.sections;
  dynamic = dynamic_in s.sections;
  mean = false;
}

-- the tokens derive the tree
pub record Derives (ts : List Token) (tree : Script) : Type 0 where
  pub form : ScriptForm
  pub tokens_of : script_on form [] ≡ ts
  pub tree_of : script_tree form ≡ tree

-- the tokens begin a script
pub record IsViable (ts : List Token) : Type 0 where
  pub rest : List Token
  pub tree : Script
  pub whole : Derives (ts ++ rest) tree
