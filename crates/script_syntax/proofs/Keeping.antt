-- The limits hold of whatever was taken of tokens without faults of their own.
use Rattle.std.proofs.Common.{◌≡◌, ℕ, ◌+◌, ◌≤◌, Bool, true, false, not, List, [], ◌∷◌, ◌++◌, length, Option, Some, None, refl, sym, ◌∙◌, ap, subst, arith, inl, inr, append_assoc, append-nil, length-append}
use Rattle.std.specs.Prelude.{◌⊎◌, ◌||◌, ◌&&◌, ◌==◌, if◌then◌else◌, unwrap_or, nat_le}
use Rattle.std.proofs.lemmas.Bool.Decides.{nat_tests}
use Rattle.text_base.specs.Numbers.{whole_number_of}
use Rattle.text_base.proofs.Callers.{some_is}
use Rattle.cell_values.specs.declared.kind.Kind.{Kind}
use Rattle.script_syntax.specs.declared.fault.SyntaxKind.TheVariants as kinds
use Rattle.script_syntax.specs.declared.token.Key.TheVariants as keys
use Rattle.script_syntax.specs.declared.token.Mark.{Mark}
use Rattle.script_syntax.specs.declared.token.Mark.TheVariants as marks
use Rattle.script_syntax.specs.declared.token.Token.{Token}
use Rattle.script_syntax.specs.declared.token.Token.TheVariants as tokens
use Rattle.script_syntax.specs.declared.tree.Binding.{Binding}
use Rattle.script_syntax.specs.declared.tree.Target.{Target}
use Rattle.script_syntax.specs.declared.tree.Expr.{Expr}
use Rattle.script_syntax.specs.declared.tree.Statement.{Statement}
use Rattle.script_syntax.specs.declared.tree.Script.{Script}
use Rattle.script_syntax.specs.declared.counts.Counts.{Counts}
use Rattle.script_syntax.specs.declared.formula.Formula.{Formula}
use Rattle.script_syntax.specs.declared.reading.Section.{Section}
use Rattle.script_syntax.specs.declared.reading.Section.TheVariants as sections
use Rattle.script_syntax.specs.declared.reading.Phase.{Phase}
use Rattle.script_syntax.specs.declared.reading.Phase.TheVariants as phases
use Rattle.script_syntax.specs.declared.reading.Reading.{Reading}
use Rattle.script_syntax.specs.Grammar.{Derives}
use Rattle.script_syntax.specs.Listed.{is_semicolon, is_section, is_before_statement, is_long, is_bad_timer, is_entry_too_many, is_statement_too_many, is_statement_start, is_most, is_large, is_last_step, is_step_number, listed_by, counts_behind, IsClean}
use Rattle.script_syntax.specs.Numbers.{steps_of}
use Rattle.script_syntax.specs.WellMade.{IsWellMade}
use Rattle.script_syntax.specs.inside.Counting.{counts_after, timer_after, statements_after}
use Rattle.script_syntax.specs.inside.Formulas.{formula_step, whole}
use Rattle.script_syntax.specs.inside.Readings.{new_reading, reading_step, finish, is_mark, kind_of, with_kind, with_whole, with_formula, with_statement}
use Rattle.script_syntax.specs.inside.Runs.{done, went_onward, go}
use Rattle.script_syntax.proofs.CountLaws.{counts_of-more}
use Rattle.script_syntax.proofs.ScriptPasts.{mark_is}
use Rattle.script_syntax.proofs.KeepingWords.{good_words}
use Rattle.script_syntax.proofs.TokenWords.{AreSpelled}
use Rattle.script_syntax.proofs.Viable.{derives_done}

-- ---- what holds in each phase

-- no statement was read
record NoStatement (s : Script) (c : Counts) : Type 0 where
  initial : s.initial ≡ []
  dynamic : s.dynamic ≡ []
  none : c.statements ≡ None

-- whole entries
record KeptBindings (s : Script) (c : Counts) : Type 0 where
  entries : length s.bindings ≤ 1000
  covered : c.covered ≡ false
  count : c.semicolons ≡ length s.bindings
  ended : (length s.bindings ≡ 0) ⊎ (c.ended ≡ true)
  steps : s.steps ≡ 0
  no_statement : NoStatement s c

-- an entry that is not ended
record KeptEntry (s : Script) (c : Counts) : Type 0 where
  entries : length s.bindings + 1 ≤ 1000
  covered : c.covered ≡ false
  count : c.semicolons ≡ length s.bindings
  steps : s.steps ≡ 0
  no_statement : NoStatement s c

-- what stands before the sections
record KeptHead (s : Script) (c : Counts) : Type 0 where
  entries : length s.bindings ≤ 1000
  steps : s.steps ≡ 0
  no_statement : NoStatement s c

-- the same with the place behind `timer`
record KeptTimer (n : ℕ) (s : Script) (c : Counts) : Type 0 where
  entries : length s.bindings ≤ 1000
  timer : c.timer ≡ Some n
  no_statement : NoStatement s c

-- the same with a last step
record KeptTimed (s : Script) (c : Counts) : Type 0 where
  entries : length s.bindings ≤ 1000
  some : 1 ≤ s.steps
  steps : s.steps ≤ 100000
  no_statement : NoStatement s c

-- a last step with a timer, and none without
abbrev KeptSteps : Section → Script → Type 0
KeptSteps sections.Static s = (s.steps ≡ 0) × (s.dynamic ≡ [])
KeptSteps sections.Initial s = (1 ≤ s.steps) × (s.steps ≤ 100000)
KeptSteps sections.Dynamic s = (1 ≤ s.steps) × (s.steps ≤ 100000)

-- whole statements
record KeptSection (section : Section) (s : Script) (c : Counts) : Type 0 where
  entries : length s.bindings ≤ 1000
  statements : length s.initial + length s.dynamic ≤ 1000
  count : c.statements ≡ Some (length s.initial + length s.dynamic)
  begins : c.begins ≡ true
  steps : KeptSteps section s

-- a statement that is not ended
record KeptStatement (section : Section) (s : Script) (c : Counts) : Type 0 where
  entries : length s.bindings ≤ 1000
  statements : length s.initial + length s.dynamic + 1 ≤ 1000
  count : c.statements ≡ Some (length s.initial + length s.dynamic)
  steps : KeptSteps section s

abbrev KeptPhase : Phase → Script → Counts → Type 0
KeptPhase phases.Start s c = (length s.bindings ≡ 0) × (c.covered ≡ false) × (c.semicolons ≡ 0) × (s.steps ≡ 0) × NoStatement s c
KeptPhase phases.Bindings s c = KeptBindings s c
KeptPhase (phases.BoundName w) s c = KeptEntry s c
KeptPhase (phases.BoundEqual w) s c = KeptEntry s c
KeptPhase (phases.Bound w t) s c = KeptEntry s c
KeptPhase (phases.BoundColon w t) s c = KeptEntry s c
KeptPhase (phases.BoundKind w t k) s c = KeptEntry s c
KeptPhase phases.Areamap s c = KeptHead s c
KeptPhase phases.Area s c = KeptHead s c
KeptPhase phases.Covered s c = KeptHead s c
KeptPhase phases.Timer s c = KeptTimer 0 s c
KeptPhase phases.TimerFrom s c = KeptTimer 1 s c
KeptPhase phases.TimerTo s c = KeptTimed s c
KeptPhase phases.TimerBy s c = KeptTimed s c
KeptPhase phases.Timed s c = KeptTimed s c
KeptPhase (phases.Section section) s c = KeptSection section s c
KeptPhase (phases.Reported section) s c = KeptStatement section s c
KeptPhase (phases.Named section r w) s c = KeptStatement section s c
KeptPhase (phases.Formula section r w f) s c = KeptStatement section s c

abbrev IsKept : Reading → Counts → Type 0
IsKept r c = KeptPhase r.phase r.script c

-- ---- a token without a fault of its own

record HasNone (c : Counts) (t : Token) : Type 0 where
  timer : is_bad_timer c.timer t ≡ false
  entry : is_entry_too_many c t ≡ false
  statement : is_statement_too_many c t ≡ false

none_by : (a b e s d : Bool) → (if a then Some kinds.Long else (if b then Some kinds.Number else (if e || s then Some kinds.Many else (if d then Some kinds.Large else None)))) ≡ None → (b ≡ false) × (e ≡ false) × (s ≡ false)
none_by true b e s d h = absurd cc
none_by false true e s d h = absurd cc
none_by false false true s d h = absurd cc
none_by false false false true d h = absurd cc
none_by false false false false d h = (refl, refl, refl)

has_none : (c : Counts) (t : Token) → listed_by c t ≡ None → HasNone c t
has_none c t h =
    let n = none_by (is_long t) (is_bad_timer c.timer t) (is_entry_too_many c t) (is_statement_too_many c t) (is_large c t) h in
    record { timer = n.0; entry = n.1; statement = n.2 }

-- a name behind whole entries begins an entry that is not too many
fits_entry : (s : Script) (c : Counts) (w : List ℕ) → KeptBindings s c → is_entry_too_many c (tokens.Name w) ≡ false → length s.bindings + 1 ≤ 1000
fits_entry s c w k h = by_ended k.ended k h
  where
    full : (b e : Bool) (n : ℕ) → b ≡ false → e ≡ true → (not b && e && (n == 1000)) ≡ false → (n == 1000) ≡ false
    full true e n p q h = absurd cc
    full false true n p q h = h
    full false false n p q h = absurd cc

    by_ended : (length s.bindings ≡ 0) ⊎ (c.ended ≡ true) → KeptBindings s c → is_entry_too_many c (tokens.Name w) ≡ false → length s.bindings + 1 ≤ 1000
    by_ended (inl z) k h = omega arith
    by_ended (inr e) k h =
        let f : (c.semicolons == 1000) ≡ false = full c.covered c.ended c.semicolons k.covered e h in
        let entries = k.entries in
        let count = k.count in
        grind (arith, nat_tests)

-- a token that begins a statement behind whole statements begins one that is not too many
fits_statement : (section : Section) (s : Script) (c : Counts) (t : Token) → KeptSection section s c → is_statement_start t ≡ true → is_statement_too_many c t ≡ false → length s.initial + length s.dynamic + 1 ≤ 1000
fits_statement section s c t k start h =
    let f : (length s.initial + length s.dynamic == 1000) ≡ false = full (is_statement_start t) c.begins c.statements (length s.initial + length s.dynamic) start k.begins k.count h in
    let statements = k.statements in
    grind (arith, nat_tests)
  where
    full : (a b : Bool) (o : Option ℕ) (n : ℕ) → a ≡ true → b ≡ true → o ≡ Some n → (a && b && is_most o) ≡ false → (n == 1000) ≡ false
    full true true None n p q r h = absurd cc
    full true true (Some m) n p q r h = let same : m ≡ n = cc in ap (λ (x : ℕ). x == 1000) (sym same) ∙ h
    full true false o n p q r h = absurd cc
    full false b o n p q r h = absurd cc

-- ---- steps

-- the next reading is this one
kept_as : (q r : Reading) (c : Counts) → Some q ≡ Some r → IsKept q c → IsKept r c
kept_as q r c e k = subst (λ (x : Reading). IsKept x c) (some_is q r e) k

Keeps : Phase → Token → Type 0
Keeps p t = (s : Script) (c : Counts) (r : Reading) → KeptPhase p s c → HasNone c t → reading_step (record { script = s; phase = p }) t ≡ Some r → IsKept r (counts_after c t)

same_semicolon : (t : Token) → is_semicolon t ≡ is_mark marks.Semicolon t
same_semicolon (tokens.Mark marks.Semicolon) = refl
same_semicolon (tokens.Mark marks.Equal) = refl
same_semicolon (tokens.Mark marks.Colon) = refl
same_semicolon (tokens.Mark marks.Comma) = refl
same_semicolon (tokens.Mark marks.Open) = refl
same_semicolon (tokens.Mark marks.Close) = refl
same_semicolon _ = refl

statements_none : (o : Option ℕ) (t : Token) → o ≡ None → is_section t ≡ false → statements_after o t ≡ None
statements_none None t h n = ap (λ (b : Bool). if b then Some 0 else None) n
statements_none (Some m) t h n = absurd cc

none_more : (s : Script) (c : Counts) (t : Token) → is_section t ≡ false → NoStatement s c → NoStatement s (counts_after c t)
none_more s c t n k = record { initial = k.initial; dynamic = k.dynamic; none = statements_none c.statements t k.none n }

covered_more : (b : Bool) → b ≡ false → (b || false) ≡ false
covered_more true h = absurd cc
covered_more false h = refl

entry_more : (s : Script) (c : Counts) (t : Token) → is_section t ≡ false → is_semicolon t ≡ false → (counts_after c t).covered ≡ (c.covered || false) → KeptEntry s c → KeptEntry s (counts_after c t)
entry_more s c t n m a k = record {
  entries = k.entries;
  covered = a ∙ covered_more c.covered k.covered;
  count = ap (λ (b : Bool). if b then c.semicolons + 1 else c.semicolons) m ∙ k.count;
  steps = k.steps;
  no_statement = none_more s c t n k.no_statement;
}

head_more : (s : Script) (c : Counts) (t : Token) → is_section t ≡ false → KeptHead s c → KeptHead s (counts_after c t)
head_more s c t n k = record { entries = k.entries; steps = k.steps; no_statement = none_more s c t n k.no_statement }

timed_more : (s : Script) (c : Counts) (t : Token) → is_section t ≡ false → KeptTimed s c → KeptTimed s (counts_after c t)
timed_more s c t n k = record { entries = k.entries; some = k.some; steps = k.steps; no_statement = none_more s c t n k.no_statement }

start_keeps : (s : Script) (c : Counts) → (length s.bindings ≡ 0) × (c.covered ≡ false) × (c.semicolons ≡ 0) × (s.steps ≡ 0) × NoStatement s c → KeptBindings s (counts_after c (tokens.Key keys.Binding))
start_keeps s c k = record {
  entries = (let z = k.0 in omega arith);
  covered = covered_more c.covered k.1;
  count = k.2 ∙ sym k.0;
  ended = inl k.0;
  steps = k.3;
  no_statement = none_more s c (tokens.Key keys.Binding) refl k.4;
}

by_start : (t : Token) → Keeps phases.Start t
unfolding Keeps
by_start (tokens.Key keys.Binding) s c r k n e = kept_as _ r (counts_after c (tokens.Key keys.Binding)) e (start_keeps s c k)
by_start (tokens.Key keys.Areamap) s c r k n e = kept_as _ r (counts_after c (tokens.Key keys.Areamap)) e (record { entries = (let z = k.0 in omega arith); steps = k.3; no_statement = none_more s c (tokens.Key keys.Areamap) refl k.4 })
by_start _ s c r k n e = absurd cc

by_bindings : (t : Token) → Keeps phases.Bindings t
unfolding Keeps
by_bindings (tokens.Name w) s c r k n e = kept_as _ r (counts_after c (tokens.Name w)) e (record {
  entries = fits_entry s c w k n.entry;
  covered = covered_more c.covered k.covered;
  count = k.count;
  steps = k.steps;
  no_statement = none_more s c (tokens.Name w) refl k.no_statement;
})
by_bindings (tokens.Key keys.Areamap) s c r k n e = kept_as _ r (counts_after c (tokens.Key keys.Areamap)) e (record { entries = k.entries; steps = k.steps; no_statement = none_more s c (tokens.Key keys.Areamap) refl k.no_statement })
by_bindings _ s c r k n e = absurd cc

-- behind a mark
mark_by : (b : Bool) (m : Mark) (q : Reading) (t : Token) (r : Reading) (c : Counts) → is_mark m t ≡ b → (if b then Some q else None) ≡ Some r → IsKept q (counts_after c (tokens.Mark m)) → IsKept r (counts_after c t)
mark_by true m q t r c h e k = subst (λ (u : Token). IsKept r (counts_after c u)) (sym (mark_is m t h)) (kept_as q r (counts_after c (tokens.Mark m)) e k)
mark_by false m q t r c h e k = absurd cc

by_name : (w : List ℕ) (t : Token) → Keeps (phases.BoundName w) t
unfolding Keeps
by_name w t s c r k n e = mark_by (is_mark marks.Equal t) marks.Equal (record { script = s; phase = phases.BoundEqual w }) t r c refl e (entry_more s c (tokens.Mark marks.Equal) refl refl refl k)

by_equal : (w : List ℕ) (t : Token) → Keeps (phases.BoundEqual w) t
unfolding Keeps
by_equal w (tokens.File x) s c r k n e = kept_as _ r (counts_after c (tokens.File x)) e (entry_more s c (tokens.File x) refl refl refl k)
by_equal w (tokens.Number x) s c r k n e = kept_as _ r (counts_after c (tokens.Number x)) e (entry_more s c (tokens.Number x) refl refl refl k)
by_equal w _ s c r k n e = absurd cc

-- one more whole entry
entry_ends : (s : Script) (c : Counts) (b : Binding) → KeptEntry s c → KeptBindings (record s { bindings = s.bindings ++ b ∷ [] }) (counts_after c (tokens.Mark marks.Semicolon))
entry_ends s c b k =
    let long = length-append s.bindings (b ∷ []) in
    let entries = k.entries in
    record {
      entries = omega (arith, long);
      covered = covered_more c.covered k.covered;
      count = (let count = k.count in omega (arith, long));
      ended = inr refl;
      steps = k.steps;
      no_statement = record { initial = k.no_statement.initial; dynamic = k.no_statement.dynamic; none = statements_none c.statements (tokens.Mark marks.Semicolon) k.no_statement.none refl };
    }

by_bound : (w : List ℕ) (x : Target) (t : Token) → Keeps (phases.Bound w x) t
unfolding Keeps
by_bound w x (tokens.Mark marks.Semicolon) s c r k n e = kept_as _ r (counts_after c (tokens.Mark marks.Semicolon)) e (entry_ends s c (record { name = w; target = x; kind = None }) k)
by_bound w x (tokens.Mark marks.Colon) s c r k n e = kept_as _ r (counts_after c (tokens.Mark marks.Colon)) e (entry_more s c (tokens.Mark marks.Colon) refl refl refl k)
by_bound w x _ s c r k n e = absurd cc

kind_by : (o : Option Kind) (w : List ℕ) (x : Target) (v : List ℕ) (s : Script) (c : Counts) (r : Reading) → with_kind s w x o ≡ Some r → KeptEntry s c → IsKept r (counts_after c (tokens.Name v))
kind_by None w x v s c r e k = absurd cc
kind_by (Some kind) w x v s c r e k = kept_as _ r (counts_after c (tokens.Name v)) e (entry_more s c (tokens.Name v) refl refl refl k)

by_colon : (w : List ℕ) (x : Target) (t : Token) → Keeps (phases.BoundColon w x) t
unfolding Keeps
by_colon w x (tokens.Name v) s c r k n e = kind_by (kind_of v) w x v s c r e k
by_colon w x _ s c r k n e = absurd cc

by_kind : (w : List ℕ) (x : Target) (kind : Kind) (t : Token) → Keeps (phases.BoundKind w x kind) t
unfolding Keeps
by_kind w x kind t s c r k n e = mark_by (is_mark marks.Semicolon t) marks.Semicolon (record { script = record s { bindings = s.bindings ++ record { name = w; target = x; kind = Some kind } ∷ [] }; phase = phases.Bindings }) t r c refl e (entry_ends s c (record { name = w; target = x; kind = Some kind }) k)

by_areamap : (t : Token) → Keeps phases.Areamap t
unfolding Keeps
by_areamap (tokens.File x) s c r k n e = kept_as _ r (counts_after c (tokens.File x)) e (record { entries = k.entries; steps = k.steps; no_statement = record { initial = k.no_statement.initial; dynamic = k.no_statement.dynamic; none = statements_none c.statements (tokens.File x) k.no_statement.none refl } })
by_areamap _ s c r k n e = absurd cc

by_area : (t : Token) → Keeps phases.Area t
unfolding Keeps
by_area t s c r k n e = mark_by (is_mark marks.Semicolon t) marks.Semicolon (record { script = s; phase = phases.Covered }) t r c refl e (head_more s c (tokens.Mark marks.Semicolon) refl k)

-- a section begins
section_count : (s : Script) (o : Option ℕ) (t : Token) → s.initial ≡ [] → s.dynamic ≡ [] → o ≡ None → is_section t ≡ true → statements_after o t ≡ Some (length s.initial + length s.dynamic)
section_count s None t i d n h =
    let zero_all : 0 ≡ length s.initial + length s.dynamic = omega (arith, ap length i, ap length d) in
    ap (λ (b : Bool). if b then Some 0 else None) h ∙ ap Some zero_all
section_count s (Some m) t i d n h = absurd cc

section_begins : (section : Section) (s : Script) (c : Counts) (t : Token) → is_section t ≡ true → is_before_statement t ≡ true → length s.bindings ≤ 1000 → KeptSteps section s → NoStatement s c → KeptSection section s (counts_after c t)
section_begins section s c t h b entries steps k = record {
  entries = entries;
  statements = omega (arith, ap length k.initial, ap length k.dynamic);
  count = section_count s c.statements t k.initial k.dynamic k.none h;
  begins = b;
  steps = steps;
}

by_covered : (t : Token) → Keeps phases.Covered t
unfolding Keeps
by_covered (tokens.Key keys.Timer) s c r k n e = kept_as _ r (counts_after c (tokens.Key keys.Timer)) e (record { entries = k.entries; timer = refl; no_statement = none_more s c (tokens.Key keys.Timer) refl k.no_statement })
by_covered (tokens.Key keys.Initial) s c r k n e = kept_as _ r (counts_after c (tokens.Key keys.Initial)) e (section_begins sections.Static s c (tokens.Key keys.Initial) refl refl k.entries (k.steps, k.no_statement.dynamic) k.no_statement)
by_covered _ s c r k n e = absurd cc

timer_next : (o : Option ℕ) (n : ℕ) (w : List ℕ) → o ≡ Some n → timer_after o (tokens.Number w) ≡ Some (n + 1)
timer_next None n w h = absurd cc
timer_next (Some m) n w h = let same : m ≡ n = cc in ap (λ (x : ℕ). Some (x + 1)) same

by_timer : (t : Token) → Keeps phases.Timer t
unfolding Keeps
by_timer (tokens.Number w) s c r k n e = kept_as _ r (counts_after c (tokens.Number w)) e (record { entries = k.entries; timer = timer_next c.timer 0 w k.timer; no_statement = none_more s c (tokens.Number w) refl k.no_statement })
by_timer _ s c r k n e = absurd cc

-- a number that may be the last step is one of 1 to 100,000
last_step : (w : List ℕ) → is_last_step w ≡ true → (1 ≤ steps_of w) × (steps_of w ≤ 100000)
last_step w h = by_number (whole_number_of 6 w) h
  where
    by_number : (o : Option ℕ) → is_step_number o ≡ true → (1 ≤ unwrap_or o 0) × (unwrap_or o 0 ≤ 100000)
    by_number None h = absurd cc
    by_number (Some n) h = (let b = both_of (nat_le 1 n) (nat_le n 100000) h in (low n b.0, high n b.1))
      where
        both_of : (a b : Bool) → (a && b) ≡ true → (a ≡ true) × (b ≡ true)
        both_of true b h = (refl, h)
        both_of false b h = absurd cc

        low : (n : ℕ) → nat_le 1 n ≡ true → 1 ≤ n
        low n h = grind (arith, nat_tests)

        high : (n : ℕ) → nat_le n 100000 ≡ true → n ≤ 100000
        high n h = grind (arith, nat_tests)

second_number : (o : Option ℕ) (w : List ℕ) → o ≡ Some 1 → is_bad_timer o (tokens.Number w) ≡ false → is_last_step w ≡ true
second_number None w h n = absurd cc
second_number (Some m) w h n =
    let same : m ≡ 1 = cc in
    by_test (is_last_step w) (subst (λ (x : ℕ). is_bad_timer (Some x) (tokens.Number w) ≡ false) same n)
  where
    by_test : (b : Bool) → not b ≡ false → b ≡ true
    by_test true h = refl
    by_test false h = absurd cc

by_timer_from : (t : Token) → Keeps phases.TimerFrom t
unfolding Keeps
by_timer_from (tokens.Number w) s c r k n e =
    let l = last_step w (second_number c.timer w k.timer n.timer) in
    kept_as _ r (counts_after c (tokens.Number w)) e (record { entries = k.entries; some = l.0; steps = l.1; no_statement = record { initial = k.no_statement.initial; dynamic = k.no_statement.dynamic; none = statements_none c.statements (tokens.Number w) k.no_statement.none refl } })
by_timer_from _ s c r k n e = absurd cc

by_timer_to : (t : Token) → Keeps phases.TimerTo t
unfolding Keeps
by_timer_to (tokens.Number w) s c r k n e = kept_as _ r (counts_after c (tokens.Number w)) e (timed_more s c (tokens.Number w) refl k)
by_timer_to _ s c r k n e = absurd cc

by_timer_by : (t : Token) → Keeps phases.TimerBy t
unfolding Keeps
by_timer_by t s c r k n e = mark_by (is_mark marks.Semicolon t) marks.Semicolon (record { script = s; phase = phases.Timed }) t r c refl e (timed_more s c (tokens.Mark marks.Semicolon) refl k)

by_timed : (t : Token) → Keeps phases.Timed t
unfolding Keeps
by_timed (tokens.Key keys.Initial) s c r k n e = kept_as _ r (counts_after c (tokens.Key keys.Initial)) e (section_begins sections.Initial s c (tokens.Key keys.Initial) refl refl k.entries (k.some, k.steps) k.no_statement)
by_timed (tokens.Key keys.Dynamic) s c r k n e = kept_as _ r (counts_after c (tokens.Key keys.Dynamic)) e (section_begins sections.Dynamic s c (tokens.Key keys.Dynamic) refl refl k.entries (k.some, k.steps) k.no_statement)
by_timed _ s c r k n e = absurd cc

-- ---- statements

statements_same : (o : Option ℕ) (t : Token) (n : ℕ) → o ≡ Some n → is_semicolon t ≡ false → statements_after o t ≡ Some n
statements_same None t n h m = absurd cc
statements_same (Some x) t n h m = let same : x ≡ n = cc in ap (λ (b : Bool). Some (if b then x + 1 else x)) m ∙ ap Some same

statements_one : (o : Option ℕ) (n : ℕ) → o ≡ Some n → statements_after o (tokens.Mark marks.Semicolon) ≡ Some (n + 1)
statements_one None n h = absurd cc
statements_one (Some x) n h = let same : x ≡ n = cc in ap (λ (y : ℕ). Some (y + 1)) same

statement_starts : (section : Section) (s : Script) (c : Counts) (t : Token) → is_statement_start t ≡ true → is_semicolon t ≡ false → is_statement_too_many c t ≡ false → KeptSection section s c → KeptStatement section s (counts_after c t)
statement_starts section s c t start m h k = record {
  entries = k.entries;
  statements = fits_statement section s c t k start h;
  count = statements_same c.statements t (length s.initial + length s.dynamic) k.count m;
  steps = k.steps;
}

statement_more : (section : Section) (s : Script) (c : Counts) (t : Token) → is_semicolon t ≡ false → KeptStatement section s c → KeptStatement section s (counts_after c t)
statement_more section s c t m k = record {
  entries = k.entries;
  statements = k.statements;
  count = statements_same c.statements t (length s.initial + length s.dynamic) k.count m;
  steps = k.steps;
}

dynamic_by : (section : Section) (s : Script) (c : Counts) (r : Reading) → KeptSection section s c → reading_step (record { script = s; phase = phases.Section section }) (tokens.Key keys.Dynamic) ≡ Some r → IsKept r (counts_after c (tokens.Key keys.Dynamic))
dynamic_by sections.Static s c r k e = absurd cc
dynamic_by sections.Initial s c r k e = kept_as _ r (counts_after c (tokens.Key keys.Dynamic)) e (record {
  entries = k.entries;
  statements = k.statements;
  count = statements_same c.statements (tokens.Key keys.Dynamic) (length s.initial + length s.dynamic) k.count refl;
  begins = refl;
  steps = k.steps;
})
dynamic_by sections.Dynamic s c r k e = absurd cc

by_section : (section : Section) (t : Token) → Keeps (phases.Section section) t
unfolding Keeps
by_section section (tokens.Name w) s c r k n e = kept_as _ r (counts_after c (tokens.Name w)) e (statement_starts section s c (tokens.Name w) refl refl n.statement k)
by_section section (tokens.Key keys.Report) s c r k n e = kept_as _ r (counts_after c (tokens.Key keys.Report)) e (statement_starts section s c (tokens.Key keys.Report) refl refl n.statement k)
by_section section (tokens.Key keys.Dynamic) s c r k n e = dynamic_by section s c r k e
by_section section _ s c r k n e = absurd cc

by_reported : (section : Section) (t : Token) → Keeps (phases.Reported section) t
unfolding Keeps
by_reported section (tokens.Name w) s c r k n e = kept_as _ r (counts_after c (tokens.Name w)) e (statement_more section s c (tokens.Name w) refl k)
by_reported section _ s c r k n e = absurd cc

by_named : (section : Section) (b : Bool) (w : List ℕ) (t : Token) → Keeps (phases.Named section b w) t
unfolding Keeps
by_named section b w t s c r k n e = mark_by (is_mark marks.Equal t) marks.Equal _ t r c refl e (statement_more section s c (tokens.Mark marks.Equal) refl k)

-- one more whole statement
statement_ends : (section : Section) (s : Script) (c : Counts) (x : Statement) → KeptStatement section s c → KeptSection section (with_statement s section x) (counts_after c (tokens.Mark marks.Semicolon))
statement_ends sections.Static s c x k =
    let long = length-append s.initial (x ∷ []) in
    let statements = k.statements in
    let more : length s.initial + length s.dynamic + 1 ≡ length (s.initial ++ x ∷ []) + length s.dynamic = omega (arith, long) in
    record { entries = k.entries; statements = omega (arith, long); count = statements_one c.statements (length s.initial + length s.dynamic) k.count ∙ ap Some more; begins = refl; steps = k.steps }
statement_ends sections.Initial s c x k =
    let long = length-append s.initial (x ∷ []) in
    let statements = k.statements in
    let more : length s.initial + length s.dynamic + 1 ≡ length (s.initial ++ x ∷ []) + length s.dynamic = omega (arith, long) in
    record { entries = k.entries; statements = omega (arith, long); count = statements_one c.statements (length s.initial + length s.dynamic) k.count ∙ ap Some more; begins = refl; steps = k.steps }
statement_ends sections.Dynamic s c x k =
    let long = length-append s.dynamic (x ∷ []) in
    let statements = k.statements in
    let more : length s.initial + length s.dynamic + 1 ≡ length s.initial + length (s.dynamic ++ x ∷ []) = omega (arith, long) in
    record { entries = k.entries; statements = omega (arith, long); count = statements_one c.statements (length s.initial + length s.dynamic) k.count ∙ ap Some more; begins = refl; steps = k.steps }

whole_by : (o : Option Expr) (section : Section) (b : Bool) (w : List ℕ) (s : Script) (c : Counts) (t : Token) (r : Reading) → is_mark marks.Semicolon t ≡ true → with_whole s section b w o ≡ Some r → KeptStatement section s c → IsKept r (counts_after c t)
whole_by None section b w s c t r h e k = absurd cc
whole_by (Some x) section b w s c t r h e k =
    subst (λ (u : Token). IsKept r (counts_after c u)) (sym (mark_is marks.Semicolon t h))
    (kept_as _ r (counts_after c (tokens.Mark marks.Semicolon)) e (statement_ends section s c (record { report = b; name = w; expr = x }) k))

step_by : (o : Option Formula) (section : Section) (b : Bool) (w : List ℕ) (s : Script) (c : Counts) (t : Token) (r : Reading) → is_mark marks.Semicolon t ≡ false → with_formula s section b w o ≡ Some r → KeptStatement section s c → IsKept r (counts_after c t)
step_by None section b w s c t r h e k = absurd cc
step_by (Some x) section b w s c t r h e k = kept_as _ r (counts_after c t) e (statement_more section s c t (same_semicolon t ∙ h) k)

formula_by : (m : Bool) (section : Section) (b : Bool) (w : List ℕ) (f : Formula) (s : Script) (c : Counts) (t : Token) (r : Reading) → is_mark marks.Semicolon t ≡ m → (if m then with_whole s section b w (whole f) else with_formula s section b w (formula_step f t)) ≡ Some r → KeptStatement section s c → IsKept r (counts_after c t)
formula_by true section b w f s c t r h e k = whole_by (whole f) section b w s c t r h e k
formula_by false section b w f s c t r h e k = step_by (formula_step f t) section b w s c t r h e k

by_formula : (section : Section) (b : Bool) (w : List ℕ) (f : Formula) (t : Token) → Keeps (phases.Formula section b w f) t
unfolding Keeps
by_formula section b w f t s c r k n e = formula_by (is_mark marks.Semicolon t) section b w f s c t r refl e k

keeps : (p : Phase) (t : Token) → Keeps p t
keeps phases.Start t = by_start t
keeps phases.Bindings t = by_bindings t
keeps (phases.BoundName w) t = by_name w t
keeps (phases.BoundEqual w) t = by_equal w t
keeps (phases.Bound w x) t = by_bound w x t
keeps (phases.BoundColon w x) t = by_colon w x t
keeps (phases.BoundKind w x k) t = by_kind w x k t
keeps phases.Areamap t = by_areamap t
keeps phases.Area t = by_area t
keeps phases.Covered t = by_covered t
keeps phases.Timer t = by_timer t
keeps phases.TimerFrom t = by_timer_from t
keeps phases.TimerTo t = by_timer_to t
keeps phases.TimerBy t = by_timer_by t
keeps phases.Timed t = by_timed t
keeps (phases.Section section) t = by_section section t
keeps (phases.Reported section) t = by_reported section t
keeps (phases.Named section b w) t = by_named section b w t
keeps (phases.Formula section b w f) t = by_formula section b w f t

-- ---- all tokens

kept_step : (r n : Reading) (c : Counts) (t : Token) → IsKept r c → listed_by c t ≡ None → reading_step r t ≡ Some n → IsKept n (counts_after c t)
unfolding Keeps
kept_step r n c t k h e = keeps r.phase t r.script c n k (has_none c t h) e

kept_go : (ts front : List Token) (r n : Reading) → IsKept r (counts_behind front) → IsClean (front ++ ts) → go r ts ≡ done n → IsKept n (counts_behind (front ++ ts))
kept_go [] front r n k clean e =
    let same : r ≡ n = cc in
    subst (λ (f : List Token). IsKept n (counts_behind f)) (sym (append-nil front)) (subst (λ (x : Reading). IsKept x (counts_behind front)) same k)
kept_go (t ∷ ts) front r n k clean e = by_step (reading_step r t) t ts front r n refl k clean e (λ f m a b c. kept_go ts f m n a b c)
  where
    by_step : (o : Option Reading) (t : Token) (ts front : List Token) (r n : Reading) → reading_step r t ≡ o → IsKept r (counts_behind front) → IsClean (front ++ t ∷ ts) → went_onward o (t ∷ ts) (λ m. go m ts) ≡ done n → ((f : List Token) (m : Reading) → IsKept m (counts_behind f) → IsClean (f ++ ts) → go m ts ≡ done n → IsKept n (counts_behind (f ++ ts))) → IsKept n (counts_behind (front ++ t ∷ ts))
    by_step None t ts front r n is k clean e next = absurd cc
    by_step (Some m) t ts front r n is k clean e next =
        let same = append_assoc front (t ∷ []) ts in
        let step = kept_step r m (counts_behind front) t k (clean front ts t refl) is in
        subst (λ (f : List Token). IsKept n (counts_behind f)) same
        (next (front ++ t ∷ []) m (subst (λ (c : Counts). IsKept m c) (sym (counts_of-more front t)) step) (subst IsClean (sym same) clean) e)

-- a script within the limits
record IsWithin (s : Script) : Type 0 where
  entries : length s.bindings ≤ 1000
  statements : length s.initial + length s.dynamic ≤ 1000
  steps : s.steps ≤ 100000
  still : s.steps ≡ 0 → s.dynamic ≡ []

within_limits : (r : Reading) (c : Counts) (s : Script) → IsKept r c → finish r ≡ Some s → IsWithin s
within_limits r c s k e = by_phase r.phase r.script c s k e
  where
    by_phase : (p : Phase) (q : Script) (c : Counts) (s : Script) → KeptPhase p q c → finish (record { script = q; phase = p }) ≡ Some s → IsWithin s
    by_phase (phases.Section sections.Static) q c s k e = subst IsWithin (some_is q s e) (record { entries = k.entries; statements = k.statements; steps = (let z = k.steps.0 in omega arith); still = λ z. k.steps.1 })
    by_phase (phases.Section sections.Dynamic) q c s k e = subst IsWithin (some_is q s e) (record { entries = k.entries; statements = k.statements; steps = k.steps.1; still = λ z. absurd (let l = k.steps.0 in omega arith) })
    by_phase _ q c s k e = absurd cc

-- tokens that derive a tree and have no faults of their own derive a well made one
pub derives-well_made : (ts : List Token) (s : Script) → Derives ts s → AreSpelled ts → IsClean ts → IsWellMade s
derives-well_made ts s d spelled clean =
    let g = derives_done ts s d in
    let k = within_limits g.reading (counts_behind ts) s
    (kept_go ts [] new_reading g.reading (refl, refl, refl, refl, record { initial = refl; dynamic = refl; none = refl }) clean g.goes)
    g.finishes in
    let w = good_words ts g.reading s g.goes g.finishes spelled clean in
    record {
      entries = k.entries;
      statements = k.statements;
      steps = k.steps;
      still = k.still;
      area = w.area;
      bindings = w.bindings;
      initial = w.initial;
      dynamic = w.dynamic;
    }
