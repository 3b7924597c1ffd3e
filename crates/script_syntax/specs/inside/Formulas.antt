-- An expression that is read token by token: what is open around the next operand, and what is known of the operand.
use Rattle.std.specs.Prelude.{ℕ, Bool, true, false, nat_le, nat_lt, if◌then◌else◌, List, [], ◌∷◌, ◌++◌, codes, Option, Some, None}
use Rattle.script_syntax.specs.declared.token.Sign.TheVariants.{Plus, Minus}
use Rattle.script_syntax.specs.declared.token.Operator.{Operator}
use Rattle.script_syntax.specs.declared.token.Operator.TheVariants as operators
use Rattle.script_syntax.specs.declared.token.Key.{Key}
use Rattle.script_syntax.specs.declared.token.Key.TheVariants as keys
use Rattle.script_syntax.specs.declared.token.Mark.{Mark}
use Rattle.script_syntax.specs.declared.token.Mark.TheVariants as marks
use Rattle.script_syntax.specs.declared.token.Token.{Token}
use Rattle.script_syntax.specs.declared.token.Token.TheVariants as tokens
use Rattle.script_syntax.specs.declared.tree.Expr.{Expr}
use Rattle.script_syntax.specs.declared.tree.Expr.TheVariants as exprs
use Rattle.script_syntax.specs.declared.frames.Frame.{Frame}
use Rattle.script_syntax.specs.declared.frames.Frame.TheVariants as frames
use Rattle.script_syntax.specs.declared.formula.Operand.{Operand}
use Rattle.script_syntax.specs.declared.formula.Operand.TheVariants as operands
use Rattle.script_syntax.specs.declared.formula.Formula.{Formula}
use Rattle.script_syntax.specs.Grammar.{call_joined, call_one, call_two, call_three}
use Rattle.script_syntax.specs.inside.Levels.{level_of, left_level, right_level}

-- how tightly an operand is bound once this frame is closed over it, or 0 where a token closes it
abbrev pub frame_level : Frame → ℕ
frame_level (frames.Left left o) = level_of o
frame_level frames.Negated = 4
frame_level frames.Negative = 8
frame_level frames.Brackets = 0
frame_level (frames.Call word args) = 0
frame_level frames.Condition = 0
frame_level (frames.Consequence condition) = 0
frame_level (frames.Alternative condition consequence) = 0

-- how tightly an operand in this frame is bound at least
abbrev pub frame_hole : Frame → ℕ
frame_hole (frames.Left left o) = right_level o
frame_hole frames.Negated = 4
frame_hole frames.Negative = 8
frame_hole frames.Brackets = 1
frame_hole (frames.Call word args) = 1
frame_hole frames.Condition = 1
frame_hole (frames.Consequence condition) = 1
frame_hole (frames.Alternative condition consequence) = 1

-- how tightly an operand in the innermost frame is bound at least
abbrev pub hole : List Frame → ℕ
hole [] = 1
hole (f ∷ fs) = frame_hole f

-- the level of the innermost frame, or 0
abbrev pub top_level : List Frame → ℕ
top_level [] = 0
top_level (f ∷ fs) = frame_level f

-- an operand with a frame closed over it
abbrev pub closed : Frame → Expr → Expr
closed (frames.Left left o) v = call_joined o left v
closed frames.Negated v = call_one (codes "not") v
closed frames.Negative v = call_one (codes "-") v
closed frames.Brackets v = v
closed (frames.Call word args) v = v
closed frames.Condition v = v
closed (frames.Consequence condition) v = v
closed (frames.Alternative condition consequence) v = v

-- an operand with all frames closed over it that bind as tightly as that, or tighter; and the other frames
abbrev pub close : ℕ → Expr → List Frame → Expr × List Frame
close level v [] = (v, [])
close level v (f ∷ fs) = if nat_le level (frame_level f) then close level (closed f v) fs else (v, f ∷ fs)

-- ---- an expression with one more token, or none where no script goes on with it

-- an expression in which a frame was opened
abbrev pub opened : Frame → List Frame → Option Formula
opened f fs = Some (record { frames = f ∷ fs; operand = operands.Due })

-- an expression whose operand is known
abbrev pub valued : Expr → List Frame → Formula
valued v fs = record { frames = fs; operand = operands.Value v }

-- a value with an operator behind it
abbrev pub operate : Expr × List Frame → Operator → Option Formula
operate c o = if nat_lt (level_of o) (hole c.1) then None else opened (frames.Left c.0 o) c.1

-- a value in these frames with a closing bracket behind it
abbrev pub close_in : Expr → List Frame → Option Formula
close_in v [] = None
close_in v (frames.Left left o ∷ fs) = None
close_in v (frames.Negated ∷ fs) = None
close_in v (frames.Negative ∷ fs) = None
close_in v (frames.Brackets ∷ fs) = Some (valued v fs)
close_in v (frames.Call word args ∷ fs) = Some (valued (exprs.Call word (args ++ v ∷ [])) fs)
close_in v (frames.Condition ∷ fs) = None
close_in v (frames.Consequence condition ∷ fs) = Some (valued (call_two (codes "if") condition v) fs)
close_in v (frames.Alternative condition consequence ∷ fs) = Some (valued (call_three (codes "if") condition consequence v) fs)

-- a value and its frames with `)` behind it
abbrev pub close_bracket : Expr × List Frame → Option Formula
close_bracket c = close_in c.0 c.1

-- a value in these frames with a comma behind it
abbrev pub next_in : Expr → List Frame → Option Formula
next_in v [] = None
next_in v (frames.Left left o ∷ fs) = None
next_in v (frames.Negated ∷ fs) = None
next_in v (frames.Negative ∷ fs) = None
next_in v (frames.Brackets ∷ fs) = None
next_in v (frames.Call word args ∷ fs) = opened (frames.Call word (args ++ v ∷ [])) fs
next_in v (frames.Condition ∷ fs) = opened (frames.Consequence v) fs
next_in v (frames.Consequence condition ∷ fs) = opened (frames.Alternative condition v) fs
next_in v (frames.Alternative condition consequence ∷ fs) = None

-- a value and its frames with a comma behind it
abbrev pub next_part : Expr × List Frame → Option Formula
next_part c = next_in c.0 c.1

-- a value in these frames with `then` behind it
abbrev pub then_in : Expr → List Frame → Option Formula
then_in v [] = None
then_in v (frames.Left left o ∷ fs) = None
then_in v (frames.Negated ∷ fs) = None
then_in v (frames.Negative ∷ fs) = None
then_in v (frames.Brackets ∷ fs) = None
then_in v (frames.Call word args ∷ fs) = None
then_in v (frames.Condition ∷ fs) = opened (frames.Consequence v) fs
then_in v (frames.Consequence condition ∷ fs) = None
then_in v (frames.Alternative condition consequence ∷ fs) = None

-- a value and its frames with `then` behind it
abbrev pub then_part : Expr × List Frame → Option Formula
then_part c = then_in c.0 c.1

-- a value in these frames with `else` behind it
abbrev pub otherwise_in : Expr → List Frame → Option Formula
otherwise_in v [] = None
otherwise_in v (frames.Left left o ∷ fs) = None
otherwise_in v (frames.Negated ∷ fs) = None
otherwise_in v (frames.Negative ∷ fs) = None
otherwise_in v (frames.Brackets ∷ fs) = None
otherwise_in v (frames.Call word args ∷ fs) = None
otherwise_in v (frames.Condition ∷ fs) = None
otherwise_in v (frames.Consequence condition ∷ fs) = opened (frames.Alternative condition v) fs
otherwise_in v (frames.Alternative condition consequence ∷ fs) = None

-- a value and its frames with `else` behind it
abbrev pub otherwise_part : Expr × List Frame → Option Formula
otherwise_part c = otherwise_in c.0 c.1

-- a value with a mark behind it
abbrev pub value_mark : Expr → List Frame → Mark → Option Formula
value_mark v fs marks.Semicolon = None
value_mark v fs marks.Equal = None
value_mark v fs marks.Colon = None
value_mark v fs marks.Comma = next_part (close 1 v fs)
value_mark v fs marks.Open = None
value_mark v fs marks.Close = close_bracket (close 1 v fs)

-- a value with a word of the language behind it
abbrev pub value_key : Expr → List Frame → Key → Option Formula
value_key v fs keys.Binding = None
value_key v fs keys.Areamap = None
value_key v fs keys.Timer = None
value_key v fs keys.Initial = None
value_key v fs keys.Dynamic = None
value_key v fs keys.Report = None
value_key v fs keys.If = None
value_key v fs keys.Then = then_part (close 1 v fs)
value_key v fs keys.Else = otherwise_part (close 1 v fs)

-- a value with a token behind it
abbrev pub after_value : Expr → List Frame → Token → Option Formula
after_value v fs (tokens.Name w) = None
after_value v fs (tokens.Number w) = None
after_value v fs (tokens.File w) = None
after_value v fs tokens.Stray = None
after_value v fs tokens.Not = None
after_value v fs (tokens.Operator o) = operate (close (left_level o) v fs) o
after_value v fs (tokens.Key k) = value_key v fs k
after_value v fs (tokens.Mark m) = value_mark v fs m

-- an operator where an operand is due: a sign
abbrev pub due_operator : List Frame → Operator → Option Formula
due_operator fs operators.Or = None
due_operator fs operators.Xor = None
due_operator fs operators.And = None
due_operator fs (operators.Compare c) = None
due_operator fs (operators.Sum Plus) = None
due_operator fs (operators.Sum Minus) = opened frames.Negative fs
due_operator fs (operators.Product f) = None

-- a word of the language where an operand is due: `if`
abbrev pub due_key : List Frame → Key → Option Formula
due_key fs keys.Binding = None
due_key fs keys.Areamap = None
due_key fs keys.Timer = None
due_key fs keys.Initial = None
due_key fs keys.Dynamic = None
due_key fs keys.Report = None
due_key fs keys.If = Some (record { frames = fs; operand = operands.If })
due_key fs keys.Then = None
due_key fs keys.Else = None

-- a mark where an operand is due: an opening bracket
abbrev pub due_mark : List Frame → Mark → Option Formula
due_mark fs marks.Semicolon = None
due_mark fs marks.Equal = None
due_mark fs marks.Colon = None
due_mark fs marks.Comma = None
due_mark fs marks.Open = opened frames.Brackets fs
due_mark fs marks.Close = None

-- a token where an operand is due
abbrev pub after_due : List Frame → Token → Option Formula
after_due fs (tokens.Name w) = Some (record { frames = fs; operand = operands.Name w })
after_due fs (tokens.Number w) = Some (valued (exprs.Number w) fs)
after_due fs (tokens.File w) = None
after_due fs tokens.Stray = None
after_due fs tokens.Not = if nat_lt 4 (hole fs) then None else opened frames.Negated fs
after_due fs (tokens.Operator o) = due_operator fs o
after_due fs (tokens.Key k) = due_key fs k
after_due fs (tokens.Mark m) = due_mark fs m

-- whether a token is this mark
abbrev pub is_open : Token → Bool
is_open (tokens.Mark marks.Open) = true
is_open _ = false

-- whether a token is a closing bracket
abbrev pub is_close : Token → Bool
is_close (tokens.Mark marks.Close) = true
is_close _ = false

-- a token behind a call's opening bracket
abbrev pub after_called : List Frame → List ℕ → Token → Option Formula
after_called fs w t = if is_close t then Some (valued (exprs.Call w []) fs) else after_due (frames.Call w [] ∷ fs) t

-- a token behind a name
abbrev pub after_name : List Frame → List ℕ → Token → Option Formula
after_name fs w t = if is_open t then Some (record { frames = fs; operand = operands.Called w }) else after_value (exprs.Name w) fs t

-- a token behind `if`
abbrev pub after_if : List Frame → Token → Option Formula
after_if fs t = if is_open t then opened frames.Condition fs else None

-- these frames and what stands in the innermost, with one more token
abbrev pub step_operand : List Frame → Operand → Token → Option Formula
step_operand fs operands.Due t = after_due fs t
step_operand fs (operands.Name w) t = after_name fs w t
step_operand fs (operands.Called w) t = after_called fs w t
step_operand fs operands.If t = after_if fs t
step_operand fs (operands.Value v) t = after_value v fs t

-- an expression with one more token
abbrev pub formula_step : Formula → Token → Option Formula
formula_step f t = step_operand f.frames f.operand t

-- the value where no frame is left
abbrev pub alone_in : Expr → List Frame → Option Expr
alone_in v [] = Some v
alone_in v (f ∷ fs) = None

-- the value where no frame is left behind it
abbrev pub alone_of : Expr × List Frame → Option Expr
alone_of c = alone_in c.0 c.1

-- the tree of an expression that ends here, or none
abbrev pub whole_operand : List Frame → Operand → Option Expr
whole_operand fs operands.Due = None
whole_operand fs (operands.Name w) = alone_of (close 1 (exprs.Name w) fs)
whole_operand fs (operands.Called w) = None
whole_operand fs operands.If = None
whole_operand fs (operands.Value v) = alone_of (close 1 v fs)

-- the tree of a whole expression, or none
abbrev pub whole : Formula → Option Expr
whole f = whole_operand f.frames f.operand
