-- What holds of each tree that is given.
use Rattle.std.specs.Prelude.{◌≡◌, ◌+◌, ◌≤◌, ℕ, Bool, true, not, ◌&&◌, ◌||◌, nat_le, List, [], ◌∷◌, length, codes, sum, is_some}
use Rattle.std.specs.List.{list_all, list_any}
use Rattle.std.specs.Str.{bytes_eq}
use Rattle.text_base.specs.Words.{is_file_word}
use Rattle.cell_values.specs.inside.Reading.{decimal_of}
use Rattle.script_syntax.specs.declared.tree.Binding.{Binding}
use Rattle.script_syntax.specs.declared.tree.Expr.{Expr}
use Rattle.script_syntax.specs.declared.tree.Expr.TheFolds.{fold-Expr}
use Rattle.script_syntax.specs.declared.tree.Expr.TheOpen.{Expr-F}
use Rattle.script_syntax.specs.declared.tree.Script.{Script}
use Rattle.script_syntax.specs.declared.tree.Statement.{Statement}
use Rattle.script_syntax.specs.declared.tree.Target.{Target}
use Rattle.script_syntax.specs.declared.tree.Target.TheVariants.{File, Number}
use Rattle.script_syntax.specs.Listed.{most_script_statements, most_counted, most_timer_steps, is_long_word}
use Rattle.script_syntax.specs.Spelling.{is_word_text, key_spelled, operator_spelled}

-- a word of the language
abbrev pub is_reserved : List ℕ → Bool
is_reserved w = is_some (key_spelled w) || bytes_eq w (codes "not") || is_some (operator_spelled w)

-- a name: a word that is no word of the language, of at most 64 bytes
abbrev pub is_name : List ℕ → Bool
is_name w = is_word_text w && not (is_reserved w) && not (is_long_word w)

-- a decimal of at most 64 bytes
abbrev pub is_number : List ℕ → Bool
is_number w = is_some (decimal_of w) && not (is_long_word w)

-- the words of operators and of `if` in a tree
abbrev pub operator_words : List (List ℕ)
operator_words =
    codes "+" ∷ codes "-" ∷ codes "*" ∷ codes "/" ∷ codes "idiv" ∷ codes "mod"
    ∷ codes "==" ∷ codes "!=" ∷ codes "<" ∷ codes "<=" ∷ codes ">" ∷ codes ">="
    ∷ codes "and" ∷ codes "or" ∷ codes "xor" ∷ codes "not" ∷ codes "if" ∷ []

-- the word of a call: an operator's, `if`, or a name
abbrev pub is_call_word : List ℕ → Bool
is_call_word w = list_any (λ o. bytes_eq w o) operator_words || is_name w

-- one level of an expression whose operands have good words or have not
abbrev pub words_level : Expr-F Bool → Bool
words_level (Expr-F.Name w) = is_name w
words_level (Expr-F.Number w) = is_number w
words_level (Expr-F.Call w goods) = is_call_word w && list_all (λ good. good) goods

-- whether each word of an expression is one that may stand there
unfoldable pub has_words : Expr → Bool
has_words = fold-Expr Bool words_level

-- one level of an expression with the calls in its operands
abbrev pub calls_level : Expr-F ℕ → ℕ
calls_level (Expr-F.Name w) = 0
calls_level (Expr-F.Number w) = 0
calls_level (Expr-F.Call w calls) = sum calls + 1

-- how many calls an expression has, operators among them: each has an opening bracket or an operator in the text
unfoldable pub calls_in : Expr → ℕ
calls_in = fold-Expr ℕ calls_level

-- the file word or the number of an entry
abbrev pub is_target : Target → Bool
is_target (File w) = is_file_word w
is_target (Number w) = is_number w

-- an entry has a name, and a file word or a number
abbrev pub is_well_made_binding : Binding → Bool
is_well_made_binding b = is_name b.name && is_target b.target

-- a statement has a name, words at their places, and no more calls than tokens count
abbrev pub is_well_made_statement : Statement → Bool
is_well_made_statement s = is_name s.name && has_words s.expr && nat_le (calls_in s.expr) most_counted

-- A script keeps the limits, and its words are such as may stand at their places. Without a last step it has no section
-- `dynamic`.
pub record IsWellMade (s : Script) : Type 0 where
  pub entries : length s.bindings ≤ most_script_statements
  pub statements : length s.initial + length s.dynamic ≤ most_script_statements
  pub steps : s.steps ≤ most_timer_steps
  pub still : s.steps ≡ 0 → s.dynamic ≡ []
  pub area : is_file_word s.area ≡ true
  pub bindings : list_all is_well_made_binding s.bindings ≡ true
  pub initial : list_all is_well_made_statement s.initial ≡ true
  pub dynamic : list_all is_well_made_statement s.dynamic ≡ true
