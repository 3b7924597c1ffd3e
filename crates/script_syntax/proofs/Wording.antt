-- The words of a tree are such as may stand at their places, and no statement has too many calls.
use Rattle.std.proofs.Common.{◌≡◌, ℕ, ◌+◌, ◌≤◌, Bool, true, false, List, [], ◌∷◌, ◌++◌, Some, None, refl, sym, ◌∙◌, ap, subst, arith}
use Rattle.std.specs.Prelude.{◌||◌, ◌&&◌, if◌then◌else◌, codes, nat_le, nat_lt}
use Rattle.std.specs.List.{list_all, sum_by}
use Rattle.std.proofs.lemmas.List.Sums.{sum-map, sum_by-cons, sum_by_push}
use Rattle.std.proofs.lemmas.List.Folds.{list_all-map, list_all-append}
use Rattle.text_base.proofs.Callers.{some_is}
use Rattle.script_syntax.specs.declared.token.Comparison.TheVariants as compares
use Rattle.script_syntax.specs.declared.token.Sign.TheVariants.{Plus, Minus}
use Rattle.script_syntax.specs.declared.token.Factor.TheVariants.{Times, Over, WholeOver, Modulo}
use Rattle.script_syntax.specs.declared.token.Operator.{Operator}
use Rattle.script_syntax.specs.declared.token.Operator.TheVariants as operators
use Rattle.script_syntax.specs.declared.token.Key.TheVariants as keys
use Rattle.script_syntax.specs.declared.token.Mark.TheVariants as marks
use Rattle.script_syntax.specs.declared.token.Token.{Token}
use Rattle.script_syntax.specs.declared.token.Token.TheVariants as tokens
use Rattle.script_syntax.specs.declared.tree.Expr.{Expr}
use Rattle.script_syntax.specs.declared.tree.Expr.TheVariants as exprs
use Rattle.script_syntax.specs.declared.tree.Expr.TheVariants.{rolls-Call, rolls-Name, rolls-Number}
use Rattle.script_syntax.specs.declared.tree.Expr.TheFolds.{fold-roll-Expr}
use Rattle.script_syntax.specs.declared.tree.Expr.TheOpen.{Expr-F}
use Rattle.script_syntax.specs.declared.counts.Counts.{Counts}
use Rattle.script_syntax.specs.declared.frames.Frame.{Frame}
use Rattle.script_syntax.specs.declared.frames.Frame.TheVariants as frames
use Rattle.script_syntax.specs.declared.formula.Operand.{Operand}
use Rattle.script_syntax.specs.declared.formula.Operand.TheVariants as operands
use Rattle.script_syntax.specs.declared.formula.Formula.{Formula}
use Rattle.script_syntax.specs.Grammar.{operator_word, call_one, call_two, call_three}
use Rattle.script_syntax.specs.WellMade.{is_name, is_number, is_call_word, words_level, has_words, calls_level, calls_in}
use Rattle.script_syntax.specs.inside.Counting.{counted_after}
use Rattle.script_syntax.specs.inside.Levels.{level_of, left_level}
use Rattle.script_syntax.specs.inside.Formulas.{frame_level, hole, closed, close, formula_step, after_value, after_due, opened, valued, close_in, next_in, then_in, otherwise_in, is_open, is_close, whole, alone_in}
use Rattle.script_syntax.proofs.RunLaws.{both, and_is}
use Rattle.script_syntax.proofs.TokenWords.{IsGoodToken}

-- ---- one level of an expression

all_calls : List Expr → ℕ
all_calls args = sum_by calls_in args

calls_in-name : (w : List ℕ) → calls_in (exprs.Name w) ≡ 0
unfolding calls_in
calls_in-name w = ap calls_in (sym (rolls-Name w)) ∙ fold-roll-Expr ℕ calls_level (Expr-F.Name w)

calls_in-number : (w : List ℕ) → calls_in (exprs.Number w) ≡ 0
unfolding calls_in
calls_in-number w = ap calls_in (sym (rolls-Number w)) ∙ fold-roll-Expr ℕ calls_level (Expr-F.Number w)

calls_in-call : (w : List ℕ) (args : List Expr) → calls_in (exprs.Call w args) ≡ all_calls args + 1
unfolding calls_in all_calls
calls_in-call w args = ap calls_in (sym (rolls-Call w args)) ∙ (fold-roll-Expr ℕ calls_level (Expr-F.Call w args) ∙ ap (λ (n : ℕ). n + 1) (sum-map calls_in args))

words-name : (w : List ℕ) → has_words (exprs.Name w) ≡ is_name w
unfolding has_words
words-name w = ap has_words (sym (rolls-Name w)) ∙ fold-roll-Expr Bool words_level (Expr-F.Name w)

words-number : (w : List ℕ) → has_words (exprs.Number w) ≡ is_number w
unfolding has_words
words-number w = ap has_words (sym (rolls-Number w)) ∙ fold-roll-Expr Bool words_level (Expr-F.Number w)

words-call : (w : List ℕ) (args : List Expr) → has_words (exprs.Call w args) ≡ (is_call_word w && list_all has_words args)
unfolding has_words
words-call w args =
    ap has_words (sym (rolls-Call w args)) ∙ (fold-roll-Expr Bool words_level (Expr-F.Call w args)
    ∙ ap (λ (b : Bool). is_call_word w && b) (list_all-map (λ good. good) has_words args))

all_calls-nil : all_calls [] ≡ 0
unfolding all_calls
all_calls-nil = refl

all_calls-cons : (e : Expr) (es : List Expr) → all_calls (e ∷ es) ≡ calls_in e + all_calls es
unfolding all_calls
all_calls-cons e es = sum_by-cons calls_in e es

all_calls-more : (es : List Expr) (e : Expr) → all_calls (es ++ e ∷ []) ≡ all_calls es + calls_in e
unfolding all_calls
all_calls-more es e = sum_by_push calls_in es e

call_good : (w : List ℕ) (args : List Expr) → is_call_word w ≡ true → list_all has_words args ≡ true → has_words (exprs.Call w args) ≡ true
call_good w args h k = words-call w args ∙ and_is (is_call_word w) (list_all has_words args) h k

more_good : (args : List Expr) (v : Expr) → list_all has_words args ≡ true → has_words v ≡ true → list_all has_words (args ++ v ∷ []) ≡ true
more_good args v h k = list_all-append has_words args (v ∷ []) ∙ and_is (list_all has_words args) (has_words v && true) h (and_is (has_words v) true k refl)

or_left : (a b : Bool) → b ≡ true → (a || b) ≡ true
or_left true b h = refl
or_left false b h = h

name_call : (w : List ℕ) → is_name w ≡ true → is_call_word w ≡ true
name_call w h = or_left _ (is_name w) h

operator_call : (o : Operator) → is_call_word (operator_word o) ≡ true
operator_call operators.Or = refl
operator_call operators.Xor = refl
operator_call operators.And = refl
operator_call (operators.Compare compares.Equal) = refl
operator_call (operators.Compare compares.Unequal) = refl
operator_call (operators.Compare compares.Less) = refl
operator_call (operators.Compare compares.AtMost) = refl
operator_call (operators.Compare compares.Greater) = refl
operator_call (operators.Compare compares.AtLeast) = refl
operator_call (operators.Sum Plus) = refl
operator_call (operators.Sum Minus) = refl
operator_call (operators.Product Times) = refl
operator_call (operators.Product Over) = refl
operator_call (operators.Product WholeOver) = refl
operator_call (operators.Product Modulo) = refl

one_good : (w : List ℕ) (v : Expr) → is_call_word w ≡ true → has_words v ≡ true → has_words (call_one w v) ≡ true
one_good w v h k = call_good w (v ∷ []) h (and_is (has_words v) true k refl)

two_good : (w : List ℕ) (u v : Expr) → is_call_word w ≡ true → has_words u ≡ true → has_words v ≡ true → has_words (call_two w u v) ≡ true
two_good w u v h k l = call_good w (u ∷ v ∷ []) h (and_is (has_words u) (has_words v && true) k (and_is (has_words v) true l refl))

three_good : (w : List ℕ) (u v x : Expr) → is_call_word w ≡ true → has_words u ≡ true → has_words v ≡ true → has_words x ≡ true → has_words (call_three w u v x) ≡ true
three_good w u v x h k l m = call_good w (u ∷ v ∷ x ∷ []) h (and_is (has_words u) (has_words v && (has_words x && true)) k (and_is (has_words v) (has_words x && true) l (and_is (has_words x) true m refl)))

calls_one : (w : List ℕ) (v : Expr) → calls_in (call_one w v) ≡ calls_in v + 1
calls_one w v = omega (arith, calls_in-call w (v ∷ []), all_calls-cons v [], all_calls-nil)

calls_two : (w : List ℕ) (u v : Expr) → calls_in (call_two w u v) ≡ calls_in u + calls_in v + 1
calls_two w u v = omega (arith, calls_in-call w (u ∷ v ∷ []), all_calls-cons u (v ∷ []), all_calls-cons v [], all_calls-nil)

calls_three : (w : List ℕ) (u v x : Expr) → calls_in (call_three w u v x) ≡ calls_in u + calls_in v + calls_in x + 1
calls_three w u v x = omega (arith, calls_in-call w (u ∷ v ∷ x ∷ []), all_calls-cons u (v ∷ x ∷ []), all_calls-cons v (x ∷ []), all_calls-cons x [], all_calls-nil)

-- ---- frames

abbrev frame_words : Frame → Bool
frame_words (frames.Left left o) = has_words left
frame_words frames.Negated = true
frame_words frames.Negative = true
frame_words frames.Brackets = true
frame_words (frames.Call w args) = is_call_word w && list_all has_words args
frame_words frames.Condition = true
frame_words (frames.Consequence c) = has_words c
frame_words (frames.Alternative c a) = has_words c && has_words a

abbrev frame_calls : Frame → ℕ
frame_calls (frames.Left left o) = calls_in left + 1
frame_calls frames.Negated = 1
frame_calls frames.Negative = 1
frame_calls frames.Brackets = 0
frame_calls (frames.Call w args) = all_calls args + 1
frame_calls frames.Condition = 1
frame_calls (frames.Consequence c) = calls_in c + 1
frame_calls (frames.Alternative c a) = calls_in c + calls_in a + 1

abbrev frames_calls : List Frame → ℕ
frames_calls [] = 0
frames_calls (f ∷ fs) = frame_calls f + frames_calls fs

-- a value in frames, with so many calls at most
record IsGoodValue (v : Expr) (fs : List Frame) (n : ℕ) : Type 0 where
  words : has_words v ≡ true
  frames : list_all frame_words fs ≡ true
  calls : frames_calls fs + calls_in v ≤ n

closed_good : (f : Frame) (fs : List Frame) (v : Expr) (n : ℕ) → IsGoodValue v (f ∷ fs) n → IsGoodValue (closed f v) fs n
closed_good (frames.Left left o) fs v n g =
    let b = both (has_words left) (list_all frame_words fs) g.frames in
    let calls = g.calls in
    record { words = two_good (operator_word o) left v (operator_call o) b.0 g.words; frames = b.1; calls = omega (arith, calls_two (operator_word o) left v) }
closed_good frames.Negated fs v n g =
    let calls = g.calls in
    record { words = one_good (codes "not") v refl g.words; frames = g.frames; calls = omega (arith, calls_one (codes "not") v) }
closed_good frames.Negative fs v n g =
    let calls = g.calls in
    record { words = one_good (codes "-") v refl g.words; frames = g.frames; calls = omega (arith, calls_one (codes "-") v) }
closed_good frames.Brackets fs v n g = let calls = g.calls in record { words = g.words; frames = g.frames; calls = omega arith }
closed_good (frames.Call w args) fs v n g = let calls = g.calls in record { words = g.words; frames = (both (is_call_word w && list_all has_words args) (list_all frame_words fs) g.frames).1; calls = omega arith }
closed_good frames.Condition fs v n g = let calls = g.calls in record { words = g.words; frames = g.frames; calls = omega arith }
closed_good (frames.Consequence c) fs v n g = let calls = g.calls in record { words = g.words; frames = (both (has_words c) (list_all frame_words fs) g.frames).1; calls = omega arith }
closed_good (frames.Alternative c a) fs v n g = let calls = g.calls in record { words = g.words; frames = (both (has_words c && has_words a) (list_all frame_words fs) g.frames).1; calls = omega arith }

close_good : (k : ℕ) (v : Expr) (fs : List Frame) (n : ℕ) → IsGoodValue v fs n → IsGoodValue (close k v fs).0 (close k v fs).1 n
close_good k v [] n g = g
close_good k v (f ∷ fs) n g = by_test (nat_le k (frame_level f)) k v f fs n g (λ u h. close_good k u fs n h)
  where
    by_test : (b : Bool) (k : ℕ) (v : Expr) (f : Frame) (fs : List Frame) (n : ℕ) → IsGoodValue v (f ∷ fs) n → ((u : Expr) → IsGoodValue u fs n → IsGoodValue (close k u fs).0 (close k u fs).1 n) → IsGoodValue (if b then close k (closed f v) fs else (v, f ∷ fs)).0 (if b then close k (closed f v) fs else (v, f ∷ fs)).1 n
    by_test true k v f fs n g next = next (closed f v) (closed_good f fs v n g)
    by_test false k v f fs n g next = g

-- ---- expressions

abbrev IsGoodOperand : Operand → Type 0
IsGoodOperand operands.Due = Unit {0}
IsGoodOperand (operands.Name w) = is_name w ≡ true
IsGoodOperand (operands.Called w) = is_name w ≡ true
IsGoodOperand operands.If = Unit {0}
IsGoodOperand (operands.Value v) = has_words v ≡ true

abbrev operand_calls : Operand → ℕ
operand_calls operands.Due = 0
operand_calls (operands.Name w) = 0
operand_calls (operands.Called w) = 1
operand_calls operands.If = 0
operand_calls (operands.Value v) = calls_in v

-- an expression with good words and so many calls at most
pub record IsGoodFormula (f : Formula) (n : ℕ) : Type 0 where
  frames : list_all frame_words f.frames ≡ true
  operand : IsGoodOperand f.operand
  calls : frames_calls f.frames + operand_calls f.operand ≤ n

pub fresh_good : (n : ℕ) → IsGoodFormula (record { frames = []; operand = operands.Due }) n
fresh_good n = record { frames = refl; operand = tt; calls = omega arith }

good_as : (g h : Formula) (n : ℕ) → Some g ≡ Some h → IsGoodFormula g n → IsGoodFormula h n
good_as g h n e k = subst (λ (x : Formula). IsGoodFormula x n) (some_is g h e) k

opened_good : (f : Frame) (fs : List Frame) (g : Formula) (n : ℕ) → opened f fs ≡ Some g → frame_words f ≡ true → list_all frame_words fs ≡ true → frame_calls f + frames_calls fs ≤ n → IsGoodFormula g n
opened_good f fs g n e h k l = good_as _ g n e (record { frames = and_is (frame_words f) (list_all frame_words fs) h k; operand = tt; calls = omega arith })

valued_good : (v : Expr) (fs : List Frame) (g : Formula) (n : ℕ) → Some (valued v fs) ≡ Some g → has_words v ≡ true → list_all frame_words fs ≡ true → frames_calls fs + calls_in v ≤ n → IsGoodFormula g n
valued_good v fs g n e h k l = good_as _ g n e (record { frames = k; operand = h; calls = l })

operate_good : (b : Bool) (o : Operator) (v : Expr) (fs : List Frame) (g : Formula) (n : ℕ) → IsGoodValue v fs n → (if b then None else opened (frames.Left v o) fs) ≡ Some g → IsGoodFormula g (n + 1)
operate_good true o v fs g n k e = absurd cc
operate_good false o v fs g n k e = (let calls = k.calls in opened_good (frames.Left v o) fs g (n + 1) e k.words k.frames (omega arith))

close_in_good : (fs : List Frame) (v : Expr) (g : Formula) (n : ℕ) → IsGoodValue v fs n → close_in v fs ≡ Some g → IsGoodFormula g n
close_in_good [] v g n k e = absurd cc
close_in_good (frames.Left left o ∷ fs) v g n k e = absurd cc
close_in_good (frames.Negated ∷ fs) v g n k e = absurd cc
close_in_good (frames.Negative ∷ fs) v g n k e = absurd cc
close_in_good (frames.Brackets ∷ fs) v g n k e = (let calls = k.calls in valued_good v fs g n e k.words k.frames (omega arith))
close_in_good (frames.Call w args ∷ fs) v g n k e =
    let b = both (is_call_word w && list_all has_words args) (list_all frame_words fs) k.frames in
    let d = both (is_call_word w) (list_all has_words args) b.0 in
    let calls = k.calls in
    valued_good (exprs.Call w (args ++ v ∷ [])) fs g n e (call_good w (args ++ v ∷ []) d.0 (more_good args v d.1 k.words)) b.1 (omega (arith, calls_in-call w (args ++ v ∷ []), all_calls-more args v))
close_in_good (frames.Condition ∷ fs) v g n k e = absurd cc
close_in_good (frames.Consequence c ∷ fs) v g n k e =
    let b = both (has_words c) (list_all frame_words fs) k.frames in
    let calls = k.calls in
    valued_good (call_two (codes "if") c v) fs g n e (two_good (codes "if") c v refl b.0 k.words) b.1 (omega (arith, calls_two (codes "if") c v))
close_in_good (frames.Alternative c a ∷ fs) v g n k e =
    let b = both (has_words c && has_words a) (list_all frame_words fs) k.frames in
    let d = both (has_words c) (has_words a) b.0 in
    let calls = k.calls in
    valued_good (call_three (codes "if") c a v) fs g n e (three_good (codes "if") c a v refl d.0 d.1 k.words) b.1 (omega (arith, calls_three (codes "if") c a v))

next_in_good : (fs : List Frame) (v : Expr) (g : Formula) (n : ℕ) → IsGoodValue v fs n → next_in v fs ≡ Some g → IsGoodFormula g n
next_in_good [] v g n k e = absurd cc
next_in_good (frames.Left left o ∷ fs) v g n k e = absurd cc
next_in_good (frames.Negated ∷ fs) v g n k e = absurd cc
next_in_good (frames.Negative ∷ fs) v g n k e = absurd cc
next_in_good (frames.Brackets ∷ fs) v g n k e = absurd cc
next_in_good (frames.Call w args ∷ fs) v g n k e =
    let b = both (is_call_word w && list_all has_words args) (list_all frame_words fs) k.frames in
    let d = both (is_call_word w) (list_all has_words args) b.0 in
    let calls = k.calls in
    opened_good (frames.Call w (args ++ v ∷ [])) fs g n e (and_is (is_call_word w) (list_all has_words (args ++ v ∷ [])) d.0 (more_good args v d.1 k.words)) b.1 (omega (arith, all_calls-more args v))
next_in_good (frames.Condition ∷ fs) v g n k e = (let calls = k.calls in opened_good (frames.Consequence v) fs g n e k.words k.frames (omega arith))
next_in_good (frames.Consequence c ∷ fs) v g n k e =
    let b = both (has_words c) (list_all frame_words fs) k.frames in
    let calls = k.calls in
    opened_good (frames.Alternative c v) fs g n e (and_is (has_words c) (has_words v) b.0 k.words) b.1 (omega arith)
next_in_good (frames.Alternative c a ∷ fs) v g n k e = absurd cc

then_in_good : (fs : List Frame) (v : Expr) (g : Formula) (n : ℕ) → IsGoodValue v fs n → then_in v fs ≡ Some g → IsGoodFormula g n
then_in_good (frames.Condition ∷ fs) v g n k e = (let calls = k.calls in opened_good (frames.Consequence v) fs g n e k.words k.frames (omega arith))
then_in_good [] v g n k e = absurd cc
then_in_good (frames.Left left o ∷ fs) v g n k e = absurd cc
then_in_good (frames.Negated ∷ fs) v g n k e = absurd cc
then_in_good (frames.Negative ∷ fs) v g n k e = absurd cc
then_in_good (frames.Brackets ∷ fs) v g n k e = absurd cc
then_in_good (frames.Call w args ∷ fs) v g n k e = absurd cc
then_in_good (frames.Consequence c ∷ fs) v g n k e = absurd cc
then_in_good (frames.Alternative c a ∷ fs) v g n k e = absurd cc

otherwise_in_good : (fs : List Frame) (v : Expr) (g : Formula) (n : ℕ) → IsGoodValue v fs n → otherwise_in v fs ≡ Some g → IsGoodFormula g n
otherwise_in_good (frames.Consequence c ∷ fs) v g n k e =
    let b = both (has_words c) (list_all frame_words fs) k.frames in
    let calls = k.calls in
    opened_good (frames.Alternative c v) fs g n e (and_is (has_words c) (has_words v) b.0 k.words) b.1 (omega arith)
otherwise_in_good [] v g n k e = absurd cc
otherwise_in_good (frames.Left left o ∷ fs) v g n k e = absurd cc
otherwise_in_good (frames.Negated ∷ fs) v g n k e = absurd cc
otherwise_in_good (frames.Negative ∷ fs) v g n k e = absurd cc
otherwise_in_good (frames.Brackets ∷ fs) v g n k e = absurd cc
otherwise_in_good (frames.Call w args ∷ fs) v g n k e = absurd cc
otherwise_in_good (frames.Condition ∷ fs) v g n k e = absurd cc
otherwise_in_good (frames.Alternative c a ∷ fs) v g n k e = absurd cc

more_calls : (g : Formula) (n m : ℕ) → n ≤ m → IsGoodFormula g n → IsGoodFormula g m
more_calls g n m l k = (let calls = k.calls in record { frames = k.frames; operand = k.operand; calls = omega arith })

value_good : (t : Token) (v : Expr) (fs : List Frame) (c : Counts) (g : Formula) → IsGoodValue v fs c.counted → after_value v fs t ≡ Some g → IsGoodFormula g (counted_after c t)
value_good (tokens.Name w) v fs c g k e = absurd cc
value_good (tokens.Number w) v fs c g k e = absurd cc
value_good (tokens.File w) v fs c g k e = absurd cc
value_good tokens.Stray v fs c g k e = absurd cc
value_good tokens.Not v fs c g k e = absurd cc
value_good (tokens.Operator o) v fs c g k e =
    let d = close_good (left_level o) v fs c.counted k in
    operate_good (nat_lt (level_of o) (hole (close (left_level o) v fs).1)) o (close (left_level o) v fs).0 (close (left_level o) v fs).1 g c.counted d e
value_good (tokens.Key keys.Then) v fs c g k e = then_in_good (close 1 v fs).1 (close 1 v fs).0 g c.counted (close_good 1 v fs c.counted k) e
value_good (tokens.Key keys.Else) v fs c g k e = otherwise_in_good (close 1 v fs).1 (close 1 v fs).0 g c.counted (close_good 1 v fs c.counted k) e
value_good (tokens.Key keys.Binding) v fs c g k e = absurd cc
value_good (tokens.Key keys.Areamap) v fs c g k e = absurd cc
value_good (tokens.Key keys.Timer) v fs c g k e = absurd cc
value_good (tokens.Key keys.Initial) v fs c g k e = absurd cc
value_good (tokens.Key keys.Dynamic) v fs c g k e = absurd cc
value_good (tokens.Key keys.Report) v fs c g k e = absurd cc
value_good (tokens.Key keys.If) v fs c g k e = absurd cc
value_good (tokens.Mark marks.Comma) v fs c g k e = more_calls g c.counted (c.counted + 1) (omega arith) (next_in_good (close 1 v fs).1 (close 1 v fs).0 g c.counted (close_good 1 v fs c.counted k) e)
value_good (tokens.Mark marks.Close) v fs c g k e = close_in_good (close 1 v fs).1 (close 1 v fs).0 g c.counted (close_good 1 v fs c.counted k) e
value_good (tokens.Mark marks.Semicolon) v fs c g k e = absurd cc
value_good (tokens.Mark marks.Equal) v fs c g k e = absurd cc
value_good (tokens.Mark marks.Colon) v fs c g k e = absurd cc
value_good (tokens.Mark marks.Open) v fs c g k e = absurd cc

not_good : (b : Bool) (fs : List Frame) (g : Formula) (n : ℕ) → list_all frame_words fs ≡ true → frames_calls fs ≤ n → (if b then None else opened frames.Negated fs) ≡ Some g → IsGoodFormula g (n + 1)
not_good true fs g n h l e = absurd cc
not_good false fs g n h l e = opened_good frames.Negated fs g (n + 1) e refl h (omega arith)

due_good : (t : Token) (fs : List Frame) (c : Counts) (g : Formula) → list_all frame_words fs ≡ true → frames_calls fs ≤ c.counted → IsGoodToken t → after_due fs t ≡ Some g → IsGoodFormula g (counted_after c t)
due_good (tokens.Name w) fs c g h l t e = good_as _ g c.counted e (record { frames = h; operand = t; calls = omega arith })
due_good (tokens.Number w) fs c g h l t e = valued_good (exprs.Number w) fs g c.counted e (words-number w ∙ t) h (omega (arith, calls_in-number w))
due_good (tokens.File w) fs c g h l t e = absurd cc
due_good tokens.Stray fs c g h l t e = absurd cc
due_good tokens.Not fs c g h l t e = not_good (nat_lt 4 (hole fs)) fs g c.counted h l e
due_good (tokens.Operator operators.Or) fs c g h l t e = absurd cc
due_good (tokens.Operator operators.Xor) fs c g h l t e = absurd cc
due_good (tokens.Operator operators.And) fs c g h l t e = absurd cc
due_good (tokens.Operator (operators.Compare o)) fs c g h l t e = absurd cc
due_good (tokens.Operator (operators.Sum Plus)) fs c g h l t e = absurd cc
due_good (tokens.Operator (operators.Sum Minus)) fs c g h l t e = opened_good frames.Negative fs g (c.counted + 1) e refl h (omega arith)
due_good (tokens.Operator (operators.Product f)) fs c g h l t e = absurd cc
due_good (tokens.Key keys.If) fs c g h l t e = good_as _ g c.counted e (record { frames = h; operand = tt; calls = omega arith })
due_good (tokens.Key keys.Binding) fs c g h l t e = absurd cc
due_good (tokens.Key keys.Areamap) fs c g h l t e = absurd cc
due_good (tokens.Key keys.Timer) fs c g h l t e = absurd cc
due_good (tokens.Key keys.Initial) fs c g h l t e = absurd cc
due_good (tokens.Key keys.Dynamic) fs c g h l t e = absurd cc
due_good (tokens.Key keys.Report) fs c g h l t e = absurd cc
due_good (tokens.Key keys.Then) fs c g h l t e = absurd cc
due_good (tokens.Key keys.Else) fs c g h l t e = absurd cc
due_good (tokens.Mark marks.Open) fs c g h l t e = opened_good frames.Brackets fs g (c.counted + 1) e refl h (omega arith)
due_good (tokens.Mark marks.Semicolon) fs c g h l t e = absurd cc
due_good (tokens.Mark marks.Equal) fs c g h l t e = absurd cc
due_good (tokens.Mark marks.Colon) fs c g h l t e = absurd cc
due_good (tokens.Mark marks.Comma) fs c g h l t e = absurd cc
due_good (tokens.Mark marks.Close) fs c g h l t e = absurd cc

open_is : (t : Token) → is_open t ≡ true → t ≡ tokens.Mark marks.Open
open_is (tokens.Mark marks.Open) e = refl
open_is _ e = absurd cc

close_is : (t : Token) → is_close t ≡ true → t ≡ tokens.Mark marks.Close
close_is (tokens.Mark marks.Close) e = refl
close_is _ e = absurd cc

name_good : (b : Bool) (fs : List Frame) (w : List ℕ) (t : Token) (c : Counts) (g : Formula) → list_all frame_words fs ≡ true → is_name w ≡ true → frames_calls fs + 0 ≤ c.counted → is_open t ≡ b → (if b then Some (record { frames = fs; operand = operands.Called w }) else after_value (exprs.Name w) fs t) ≡ Some g → IsGoodFormula g (counted_after c t)
name_good true fs w t c g h k l o e =
    subst (λ (u : Token). IsGoodFormula g (counted_after c u)) (sym (open_is t o))
    (good_as _ g (c.counted + 1) e (record { frames = h; operand = k; calls = omega arith }))
name_good false fs w t c g h k l o e =
    value_good t (exprs.Name w) fs c g (record { words = words-name w ∙ k; frames = h; calls = omega (arith, calls_in-name w) }) e

called_good : (b : Bool) (fs : List Frame) (w : List ℕ) (t : Token) (c : Counts) (g : Formula) → list_all frame_words fs ≡ true → is_name w ≡ true → frames_calls fs + 1 ≤ c.counted → IsGoodToken t → is_close t ≡ b → (if b then Some (valued (exprs.Call w []) fs) else after_due (frames.Call w [] ∷ fs) t) ≡ Some g → IsGoodFormula g (counted_after c t)
called_good true fs w t c g h k l good o e =
    subst (λ (u : Token). IsGoodFormula g (counted_after c u)) (sym (close_is t o))
    (valued_good (exprs.Call w []) fs g c.counted e (call_good w [] (name_call w k) refl) h (omega (arith, calls_in-call w [], all_calls-nil)))
called_good false fs w t c g h k l good o e =
    due_good t (frames.Call w [] ∷ fs) c g (and_is (is_call_word w && true) (list_all frame_words fs) (and_is (is_call_word w) true (name_call w k) refl) h) (omega (arith, all_calls-nil)) good e

if_good : (b : Bool) (fs : List Frame) (t : Token) (c : Counts) (g : Formula) → list_all frame_words fs ≡ true → frames_calls fs + 0 ≤ c.counted → is_open t ≡ b → (if b then opened frames.Condition fs else None) ≡ Some g → IsGoodFormula g (counted_after c t)
if_good true fs t c g h l o e =
    subst (λ (u : Token). IsGoodFormula g (counted_after c u)) (sym (open_is t o)) (opened_good frames.Condition fs g (c.counted + 1) e refl h (omega arith))
if_good false fs t c g h l o e = absurd cc

-- one more token of an expression
pub formula_good : (fs : List Frame) (o : Operand) (t : Token) (c : Counts) (g : Formula) → IsGoodFormula (record { frames = fs; operand = o }) c.counted → IsGoodToken t → formula_step (record { frames = fs; operand = o }) t ≡ Some g → IsGoodFormula g (counted_after c t)
formula_good fs operands.Due t c g k good e = (let calls = k.calls in due_good t fs c g k.frames (omega arith) good e)
formula_good fs (operands.Name w) t c g k good e = name_good (is_open t) fs w t c g k.frames k.operand k.calls refl e
formula_good fs (operands.Called w) t c g k good e = called_good (is_close t) fs w t c g k.frames k.operand k.calls good refl e
formula_good fs operands.If t c g k good e = if_good (is_open t) fs t c g k.frames k.calls refl e
formula_good fs (operands.Value v) t c g k good e = value_good t v fs c g (record { words = k.operand; frames = k.frames; calls = k.calls }) e

-- the whole expression
pub record IsGoodExpr (v : Expr) (n : ℕ) : Type 0 where
  pub words : has_words v ≡ true
  pub calls : calls_in v ≤ n

alone_good : (fs : List Frame) (u v : Expr) (n : ℕ) → IsGoodValue u fs n → alone_in u fs ≡ Some v → IsGoodExpr v n
alone_good [] u v n k e = (let calls = k.calls in subst (λ (x : Expr). IsGoodExpr x n) (some_is u v e) (record { words = k.words; calls = omega arith }))
alone_good (f ∷ fs) u v n k e = absurd cc

pub whole_good : (fs : List Frame) (o : Operand) (v : Expr) (n : ℕ) → IsGoodFormula (record { frames = fs; operand = o }) n → whole (record { frames = fs; operand = o }) ≡ Some v → IsGoodExpr v n
whole_good fs operands.Due v n k e = absurd cc
whole_good fs (operands.Name w) v n k e =
    let calls = k.calls in
    alone_good (close 1 (exprs.Name w) fs).1 (close 1 (exprs.Name w) fs).0 v n (close_good 1 (exprs.Name w) fs n (record { words = words-name w ∙ k.operand; frames = k.frames; calls = omega (arith, calls_in-name w) })) e
whole_good fs (operands.Called w) v n k e = absurd cc
whole_good fs operands.If v n k e = absurd cc
whole_good fs (operands.Value u) v n k e = alone_good (close 1 u fs).1 (close 1 u fs).0 v n (close_good 1 u fs n (record { words = k.operand; frames = k.frames; calls = k.calls })) e
