-- The words of whatever was taken of tokens without faults of their own are such as may stand at their places.
use Rattle.std.proofs.Common.{◌≡◌, ℕ, ◌+◌, ◌≤◌, Bool, true, false, List, [], ◌∷◌, ◌++◌, Option, Some, None, refl, sym, ◌∙◌, subst, arith, append_assoc, append-nil}
use Rattle.std.specs.Prelude.{◌||◌, ◌&&◌, ◌==◌, if◌then◌else◌, nat_le}
use Rattle.std.specs.List.{list_all}
use Rattle.std.proofs.lemmas.Bool.Decides.{nat_tests}
use Rattle.std.proofs.lemmas.List.Folds.{list_all-append}
use Rattle.text_base.specs.Words.{is_file_word}
use Rattle.text_base.proofs.Callers.{some_is}
use Rattle.cell_values.specs.declared.kind.Kind.{Kind}
use Rattle.script_syntax.specs.declared.fault.SyntaxKind.TheVariants as kinds
use Rattle.script_syntax.specs.declared.token.Key.TheVariants as keys
use Rattle.script_syntax.specs.declared.token.Mark.{Mark}
use Rattle.script_syntax.specs.declared.token.Mark.TheVariants as marks
use Rattle.script_syntax.specs.declared.token.Token.{Token}
use Rattle.script_syntax.specs.declared.token.Token.TheVariants as tokens
use Rattle.script_syntax.specs.declared.tree.Target.{Target}
use Rattle.script_syntax.specs.declared.tree.Expr.{Expr}
use Rattle.script_syntax.specs.declared.tree.Statement.{Statement}
use Rattle.script_syntax.specs.declared.tree.Script.{Script}
use Rattle.script_syntax.specs.declared.counts.Counts.{Counts}
use Rattle.script_syntax.specs.declared.formula.Formula.{Formula}
use Rattle.script_syntax.specs.declared.reading.Section.{Section}
use Rattle.script_syntax.specs.declared.reading.Section.TheVariants as sections
use Rattle.script_syntax.specs.declared.reading.Phase.{Phase}
use Rattle.script_syntax.specs.declared.reading.Phase.TheVariants as phases
use Rattle.script_syntax.specs.declared.reading.Reading.{Reading}
use Rattle.script_syntax.specs.Listed.{is_before_statement, is_counted, is_long, is_bad_timer, is_entry_too_many, is_statement_too_many, is_large, listed_by, counts_behind, IsClean}
use Rattle.script_syntax.specs.WellMade.{is_name, is_target, has_words, calls_in, is_well_made_binding, is_well_made_statement}
use Rattle.script_syntax.specs.inside.Counting.{counted_after, counts_after}
use Rattle.script_syntax.specs.inside.Formulas.{formula_step, whole}
use Rattle.script_syntax.specs.inside.Readings.{new_reading, reading_step, finish, is_mark, kind_of, with_kind, with_whole, with_formula, with_statement}
use Rattle.script_syntax.specs.inside.Runs.{done, went_onward, go}
use Rattle.script_syntax.proofs.RunLaws.{and_is}
use Rattle.script_syntax.proofs.CountLaws.{counts_of-more}
use Rattle.script_syntax.proofs.ScriptPasts.{mark_is}
use Rattle.script_syntax.proofs.TokenWords.{IsGoodToken, IsSpelled, AreSpelled}
use Rattle.script_syntax.proofs.Wording.{IsGoodFormula, fresh_good, formula_good, IsGoodExpr, whole_good}

-- ---- what holds in each phase

-- whole entries and statements with good words
record GoodParts (s : Script) : Type 0 where
  bindings : list_all is_well_made_binding s.bindings ≡ true
  initial : list_all is_well_made_statement s.initial ≡ true
  dynamic : list_all is_well_made_statement s.dynamic ≡ true

record GoodEntry (w : List ℕ) (s : Script) : Type 0 where
  parts : GoodParts s
  name : is_name w ≡ true

record GoodBound (w : List ℕ) (t : Target) (s : Script) : Type 0 where
  parts : GoodParts s
  name : is_name w ≡ true
  target : is_target t ≡ true

record GoodArea (s : Script) : Type 0 where
  parts : GoodParts s
  area : is_file_word s.area ≡ true

record GoodSection (s : Script) (c : Counts) : Type 0 where
  area : GoodArea s
  none : c.counted ≡ 0

record GoodNamed (w : List ℕ) (s : Script) (c : Counts) : Type 0 where
  area : GoodArea s
  none : c.counted ≡ 0
  name : is_name w ≡ true

record GoodStatement (w : List ℕ) (f : Formula) (s : Script) (c : Counts) : Type 0 where
  area : GoodArea s
  name : is_name w ≡ true
  formula : IsGoodFormula f c.counted
  most : c.counted ≤ 256

abbrev GoodPhase : Phase → Script → Counts → Type 0
GoodPhase phases.Start s c = GoodParts s
GoodPhase phases.Bindings s c = GoodParts s
GoodPhase (phases.BoundName w) s c = GoodEntry w s
GoodPhase (phases.BoundEqual w) s c = GoodEntry w s
GoodPhase (phases.Bound w t) s c = GoodBound w t s
GoodPhase (phases.BoundColon w t) s c = GoodBound w t s
GoodPhase (phases.BoundKind w t k) s c = GoodBound w t s
GoodPhase phases.Areamap s c = GoodParts s
GoodPhase phases.Area s c = GoodArea s
GoodPhase phases.Covered s c = GoodArea s
GoodPhase phases.Timer s c = GoodArea s
GoodPhase phases.TimerFrom s c = GoodArea s
GoodPhase phases.TimerTo s c = GoodArea s
GoodPhase phases.TimerBy s c = GoodArea s
GoodPhase phases.Timed s c = GoodArea s
GoodPhase (phases.Section section) s c = GoodSection s c
GoodPhase (phases.Reported section) s c = GoodSection s c
GoodPhase (phases.Named section r w) s c = GoodNamed w s c
GoodPhase (phases.Formula section r w f) s c = GoodStatement w f s c

abbrev IsGoodReading : Reading → Counts → Type 0
IsGoodReading r c = GoodPhase r.phase r.script c

-- ---- steps

record HasNeither (c : Counts) (t : Token) : Type 0 where
  long : is_long t ≡ false
  large : is_large c t ≡ false

neither_by : (a b e d : Bool) → (if a then Some kinds.Long else (if b then Some kinds.Number else (if e then Some kinds.Many else (if d then Some kinds.Large else None)))) ≡ None → (a ≡ false) × (d ≡ false)
neither_by true b e d h = absurd cc
neither_by false true e d h = absurd cc
neither_by false false true d h = absurd cc
neither_by false false false true h = absurd cc
neither_by false false false false h = (refl, refl)

has_neither : (c : Counts) (t : Token) → listed_by c t ≡ None → HasNeither c t
has_neither c t h =
    let n = neither_by (is_long t) (is_bad_timer c.timer t) (is_entry_too_many c t || is_statement_too_many c t) (is_large c t) h in
    record { long = n.0; large = n.1 }

counted_most : (c : Counts) (t : Token) → is_large c t ≡ false → c.counted ≤ 256 → counted_after c t ≤ 256
counted_most c t h l = by_tests (is_before_statement t) (is_counted t) c.counted h l
  where
    below : (n : ℕ) → (n == 256) ≡ false → n ≤ 256 → n + 1 ≤ 256
    below n h l = grind (arith, nat_tests)

    by_tests : (a b : Bool) (n : ℕ) → (b && (n == 256)) ≡ false → n ≤ 256 → (if a then 0 else (if b then n + 1 else n)) ≤ 256
    by_tests true b n h l = omega arith
    by_tests false true n h l = below n h l
    by_tests false false n h l = l

good_to : (q r : Reading) (c : Counts) → Some q ≡ Some r → IsGoodReading q c → IsGoodReading r c
good_to q r c e k = subst (λ (x : Reading). IsGoodReading x c) (some_is q r e) k

Improves : Phase → Token → Type 0
Improves p t = (s : Script) (c : Counts) (r : Reading) → GoodPhase p s c → HasNeither c t → IsGoodToken t → reading_step (record { script = s; phase = p }) t ≡ Some r → IsGoodReading r (counts_after c t)

marked : (b : Bool) (m : Mark) (q : Reading) (t : Token) (r : Reading) (c : Counts) → is_mark m t ≡ b → (if b then Some q else None) ≡ Some r → IsGoodReading q (counts_after c (tokens.Mark m)) → IsGoodReading r (counts_after c t)
marked true m q t r c h e k = subst (λ (u : Token). IsGoodReading r (counts_after c u)) (sym (mark_is m t h)) (good_to q r (counts_after c (tokens.Mark m)) e k)
marked false m q t r c h e k = absurd cc

one_more_good : {A : Type 0} (p : A → Bool) (xs : List A) (x : A) → list_all p xs ≡ true → p x ≡ true → list_all p (xs ++ x ∷ []) ≡ true
one_more_good p xs x h k = list_all-append p xs (x ∷ []) ∙ and_is (list_all p xs) (p x && true) h (and_is (p x) true k refl)

entry_good : (s : Script) (w : List ℕ) (t : Target) (k : Option Kind) → GoodBound w t s → GoodParts (record s { bindings = s.bindings ++ record { name = w; target = t; kind = k } ∷ [] })
entry_good s w t k g = record {
  bindings = one_more_good is_well_made_binding s.bindings (record { name = w; target = t; kind = k }) g.parts.bindings (and_is (is_name w) (is_target t) g.name g.target);
  initial = g.parts.initial;
  dynamic = g.parts.dynamic;
}

by_start : (t : Token) → Improves phases.Start t
unfolding Improves
by_start (tokens.Key keys.Binding) s c r k n g e = good_to _ r (counts_after c (tokens.Key keys.Binding)) e k
by_start (tokens.Key keys.Areamap) s c r k n g e = good_to _ r (counts_after c (tokens.Key keys.Areamap)) e k
by_start _ s c r k n g e = absurd cc

by_bindings : (t : Token) → Improves phases.Bindings t
unfolding Improves
by_bindings (tokens.Name w) s c r k n g e = good_to _ r (counts_after c (tokens.Name w)) e (record { parts = k; name = g })
by_bindings (tokens.Key keys.Areamap) s c r k n g e = good_to _ r (counts_after c (tokens.Key keys.Areamap)) e k
by_bindings _ s c r k n g e = absurd cc

by_name : (w : List ℕ) (t : Token) → Improves (phases.BoundName w) t
unfolding Improves
by_name w t s c r k n g e = marked (is_mark marks.Equal t) marks.Equal (record { script = s; phase = phases.BoundEqual w }) t r c refl e k

by_equal : (w : List ℕ) (t : Token) → Improves (phases.BoundEqual w) t
unfolding Improves
by_equal w (tokens.File x) s c r k n g e = good_to _ r (counts_after c (tokens.File x)) e (record { parts = k.parts; name = k.name; target = g })
by_equal w (tokens.Number x) s c r k n g e = good_to _ r (counts_after c (tokens.Number x)) e (record { parts = k.parts; name = k.name; target = g })
by_equal w _ s c r k n g e = absurd cc

by_bound : (w : List ℕ) (x : Target) (t : Token) → Improves (phases.Bound w x) t
unfolding Improves
by_bound w x (tokens.Mark marks.Semicolon) s c r k n g e = good_to _ r (counts_after c (tokens.Mark marks.Semicolon)) e (entry_good s w x None k)
by_bound w x (tokens.Mark marks.Colon) s c r k n g e = good_to _ r (counts_after c (tokens.Mark marks.Colon)) e k
by_bound w x _ s c r k n g e = absurd cc

kind_by : (o : Option Kind) (w : List ℕ) (x : Target) (v : List ℕ) (s : Script) (c : Counts) (r : Reading) → with_kind s w x o ≡ Some r → GoodBound w x s → IsGoodReading r (counts_after c (tokens.Name v))
kind_by None w x v s c r e k = absurd cc
kind_by (Some kind) w x v s c r e k = good_to _ r (counts_after c (tokens.Name v)) e k

by_colon : (w : List ℕ) (x : Target) (t : Token) → Improves (phases.BoundColon w x) t
unfolding Improves
by_colon w x (tokens.Name v) s c r k n g e = kind_by (kind_of v) w x v s c r e k
by_colon w x _ s c r k n g e = absurd cc

by_kind : (w : List ℕ) (x : Target) (kind : Kind) (t : Token) → Improves (phases.BoundKind w x kind) t
unfolding Improves
by_kind w x kind t s c r k n g e = marked (is_mark marks.Semicolon t) marks.Semicolon (record { script = record s { bindings = s.bindings ++ record { name = w; target = x; kind = Some kind } ∷ [] }; phase = phases.Bindings }) t r c refl e (entry_good s w x (Some kind) k)

by_areamap : (t : Token) → Improves phases.Areamap t
unfolding Improves
by_areamap (tokens.File x) s c r k n g e = good_to _ r (counts_after c (tokens.File x)) e (record { parts = record { bindings = k.bindings; initial = k.initial; dynamic = k.dynamic }; area = g })
by_areamap _ s c r k n g e = absurd cc

by_area : (t : Token) → Improves phases.Area t
unfolding Improves
by_area t s c r k n g e = marked (is_mark marks.Semicolon t) marks.Semicolon (record { script = s; phase = phases.Covered }) t r c refl e k

by_covered : (t : Token) → Improves phases.Covered t
unfolding Improves
by_covered (tokens.Key keys.Timer) s c r k n g e = good_to _ r (counts_after c (tokens.Key keys.Timer)) e k
by_covered (tokens.Key keys.Initial) s c r k n g e = good_to _ r (counts_after c (tokens.Key keys.Initial)) e (record { area = k; none = refl })
by_covered _ s c r k n g e = absurd cc

by_timer : (t : Token) → Improves phases.Timer t
unfolding Improves
by_timer (tokens.Number w) s c r k n g e = good_to _ r (counts_after c (tokens.Number w)) e k
by_timer _ s c r k n g e = absurd cc

by_timer_from : (t : Token) → Improves phases.TimerFrom t
unfolding Improves
by_timer_from (tokens.Number w) s c r k n g e = good_to _ r (counts_after c (tokens.Number w)) e (record { parts = record { bindings = k.parts.bindings; initial = k.parts.initial; dynamic = k.parts.dynamic }; area = k.area })
by_timer_from _ s c r k n g e = absurd cc

by_timer_to : (t : Token) → Improves phases.TimerTo t
unfolding Improves
by_timer_to (tokens.Number w) s c r k n g e = good_to _ r (counts_after c (tokens.Number w)) e k
by_timer_to _ s c r k n g e = absurd cc

by_timer_by : (t : Token) → Improves phases.TimerBy t
unfolding Improves
by_timer_by t s c r k n g e = marked (is_mark marks.Semicolon t) marks.Semicolon (record { script = s; phase = phases.Timed }) t r c refl e k

by_timed : (t : Token) → Improves phases.Timed t
unfolding Improves
by_timed (tokens.Key keys.Initial) s c r k n g e = good_to _ r (counts_after c (tokens.Key keys.Initial)) e (record { area = k; none = refl })
by_timed (tokens.Key keys.Dynamic) s c r k n g e = good_to _ r (counts_after c (tokens.Key keys.Dynamic)) e (record { area = k; none = refl })
by_timed _ s c r k n g e = absurd cc

dynamic_by : (section : Section) (s : Script) (c : Counts) (r : Reading) → GoodSection s c → reading_step (record { script = s; phase = phases.Section section }) (tokens.Key keys.Dynamic) ≡ Some r → IsGoodReading r (counts_after c (tokens.Key keys.Dynamic))
dynamic_by sections.Static s c r k e = absurd cc
dynamic_by sections.Initial s c r k e = good_to _ r (counts_after c (tokens.Key keys.Dynamic)) e (record { area = k.area; none = refl })
dynamic_by sections.Dynamic s c r k e = absurd cc

by_section : (section : Section) (t : Token) → Improves (phases.Section section) t
unfolding Improves
by_section section (tokens.Name w) s c r k n g e = good_to _ r (counts_after c (tokens.Name w)) e (record { area = k.area; none = k.none; name = g })
by_section section (tokens.Key keys.Report) s c r k n g e = good_to _ r (counts_after c (tokens.Key keys.Report)) e (record { area = k.area; none = k.none })
by_section section (tokens.Key keys.Dynamic) s c r k n g e = dynamic_by section s c r k e
by_section section _ s c r k n g e = absurd cc

by_reported : (section : Section) (t : Token) → Improves (phases.Reported section) t
unfolding Improves
by_reported section (tokens.Name w) s c r k n g e = good_to _ r (counts_after c (tokens.Name w)) e (record { area = k.area; none = k.none; name = g })
by_reported section _ s c r k n g e = absurd cc

by_named : (section : Section) (b : Bool) (w : List ℕ) (t : Token) → Improves (phases.Named section b w) t
unfolding Improves
by_named section b w t s c r k n g e = marked (is_mark marks.Equal t) marks.Equal _ t r c refl e (record { area = k.area; name = k.name; formula = fresh_good c.counted; most = (let none = k.none in omega arith) })

statement_good : (w : List ℕ) (b : Bool) (v : Expr) → is_name w ≡ true → IsGoodExpr v 256 → is_well_made_statement (record { report = b; name = w; expr = v }) ≡ true
statement_good w b v h g = and_is (is_name w && has_words v) (nat_le (calls_in v) 256) (and_is (is_name w) (has_words v) h g.words) (small (calls_in v) g.calls)
  where
    small : (n : ℕ) → n ≤ 256 → nat_le n 256 ≡ true
    small n h = grind (arith, nat_tests)

section_good : (section : Section) (s : Script) (x : Statement) → GoodArea s → is_well_made_statement x ≡ true → GoodArea (with_statement s section x)
section_good sections.Static s x k h = record { parts = record { bindings = k.parts.bindings; initial = one_more_good is_well_made_statement s.initial x k.parts.initial h; dynamic = k.parts.dynamic }; area = k.area }
section_good sections.Initial s x k h = record { parts = record { bindings = k.parts.bindings; initial = one_more_good is_well_made_statement s.initial x k.parts.initial h; dynamic = k.parts.dynamic }; area = k.area }
section_good sections.Dynamic s x k h = record { parts = record { bindings = k.parts.bindings; initial = k.parts.initial; dynamic = one_more_good is_well_made_statement s.dynamic x k.parts.dynamic h }; area = k.area }

whole_by : (o : Option Expr) (section : Section) (b : Bool) (w : List ℕ) (f : Formula) (s : Script) (c : Counts) (t : Token) (r : Reading) → is_mark marks.Semicolon t ≡ true → whole f ≡ o → with_whole s section b w o ≡ Some r → GoodStatement w f s c → IsGoodReading r (counts_after c t)
whole_by None section b w f s c t r h is e k = absurd cc
whole_by (Some v) section b w f s c t r h is e k =
    let x = whole_good f.frames f.operand v c.counted k.formula is in
    let most = k.most in
    let y : IsGoodExpr v 256 = record { words = x.words; calls = (let calls = x.calls in omega arith) } in
    subst (λ (u : Token). IsGoodReading r (counts_after c u)) (sym (mark_is marks.Semicolon t h))
    (good_to _ r (counts_after c (tokens.Mark marks.Semicolon)) e (record { area = section_good section s (record { report = b; name = w; expr = v }) k.area (statement_good w b v k.name y); none = refl }))

step_by : (o : Option Formula) (section : Section) (b : Bool) (w : List ℕ) (f : Formula) (s : Script) (c : Counts) (t : Token) (r : Reading) → HasNeither c t → IsGoodToken t → formula_step f t ≡ o → with_formula s section b w o ≡ Some r → GoodStatement w f s c → IsGoodReading r (counts_after c t)
step_by None section b w f s c t r n g is e k = absurd cc
step_by (Some x) section b w f s c t r n g is e k =
    good_to _ r (counts_after c t) e (record { area = k.area; name = k.name; formula = formula_good f.frames f.operand t c x k.formula g is; most = counted_most c t n.large k.most })

formula_by : (m : Bool) (section : Section) (b : Bool) (w : List ℕ) (f : Formula) (s : Script) (c : Counts) (t : Token) (r : Reading) → HasNeither c t → IsGoodToken t → is_mark marks.Semicolon t ≡ m → (if m then with_whole s section b w (whole f) else with_formula s section b w (formula_step f t)) ≡ Some r → GoodStatement w f s c → IsGoodReading r (counts_after c t)
formula_by true section b w f s c t r n g h e k = whole_by (whole f) section b w f s c t r h refl e k
formula_by false section b w f s c t r n g h e k = step_by (formula_step f t) section b w f s c t r n g refl e k

by_formula : (section : Section) (b : Bool) (w : List ℕ) (f : Formula) (t : Token) → Improves (phases.Formula section b w f) t
unfolding Improves
by_formula section b w f t s c r k n g e = formula_by (is_mark marks.Semicolon t) section b w f s c t r n g refl e k

improves : (p : Phase) (t : Token) → Improves p t
improves phases.Start t = by_start t
improves phases.Bindings t = by_bindings t
improves (phases.BoundName w) t = by_name w t
improves (phases.BoundEqual w) t = by_equal w t
improves (phases.Bound w x) t = by_bound w x t
improves (phases.BoundColon w x) t = by_colon w x t
improves (phases.BoundKind w x k) t = by_kind w x k t
improves phases.Areamap t = by_areamap t
improves phases.Area t = by_area t
improves phases.Covered t = by_covered t
improves phases.Timer t = by_timer t
improves phases.TimerFrom t = by_timer_from t
improves phases.TimerTo t = by_timer_to t
improves phases.TimerBy t = by_timer_by t
improves phases.Timed t = by_timed t
improves (phases.Section section) t = by_section section t
improves (phases.Reported section) t = by_reported section t
improves (phases.Named section b w) t = by_named section b w t
improves (phases.Formula section b w f) t = by_formula section b w f t

-- ---- all tokens

good_step : (r n : Reading) (c : Counts) (t : Token) → IsGoodReading r c → IsSpelled t → listed_by c t ≡ None → reading_step r t ≡ Some n → IsGoodReading n (counts_after c t)
unfolding Improves
good_step r n c t k spelled h e =
    let neither = has_neither c t h in
    improves r.phase t r.script c n k neither (spelled neither.long) e

good_go : (ts front : List Token) (r n : Reading) → IsGoodReading r (counts_behind front) → AreSpelled ts → IsClean (front ++ ts) → go r ts ≡ done n → IsGoodReading n (counts_behind (front ++ ts))
good_go [] front r n k spelled clean e =
    let same : r ≡ n = cc in
    subst (λ (f : List Token). IsGoodReading n (counts_behind f)) (sym (append-nil front)) (subst (λ (x : Reading). IsGoodReading x (counts_behind front)) same k)
good_go (t ∷ ts) front r n k spelled clean e = by_step (reading_step r t) t ts front r n refl k spelled clean e (λ f m a b c d. good_go ts f m n a b c d)
  where
    by_step : (o : Option Reading) (t : Token) (ts front : List Token) (r n : Reading) → reading_step r t ≡ o → IsGoodReading r (counts_behind front) → IsSpelled t × AreSpelled ts → IsClean (front ++ t ∷ ts) → went_onward o (t ∷ ts) (λ m. go m ts) ≡ done n → ((f : List Token) (m : Reading) → IsGoodReading m (counts_behind f) → AreSpelled ts → IsClean (f ++ ts) → go m ts ≡ done n → IsGoodReading n (counts_behind (f ++ ts))) → IsGoodReading n (counts_behind (front ++ t ∷ ts))
    by_step None t ts front r n is k spelled clean e next = absurd cc
    by_step (Some m) t ts front r n is k spelled clean e next =
        let same = append_assoc front (t ∷ []) ts in
        let step = good_step r m (counts_behind front) t k spelled.0 (clean front ts t refl) is in
        subst (λ (f : List Token). IsGoodReading n (counts_behind f)) same
        (next (front ++ t ∷ []) m (subst (λ (c : Counts). IsGoodReading m c) (sym (counts_of-more front t)) step) spelled.1 (subst IsClean (sym same) clean) e)

-- the words of a whole script
pub record HasGoodWords (s : Script) : Type 0 where
  pub area : is_file_word s.area ≡ true
  pub bindings : list_all is_well_made_binding s.bindings ≡ true
  pub initial : list_all is_well_made_statement s.initial ≡ true
  pub dynamic : list_all is_well_made_statement s.dynamic ≡ true

good_finish : (p : Phase) (q : Script) (c : Counts) (s : Script) → GoodPhase p q c → finish (record { script = q; phase = p }) ≡ Some s → HasGoodWords s
good_finish (phases.Section sections.Static) q c s k e = subst HasGoodWords (some_is q s e) (record { area = k.area.area; bindings = k.area.parts.bindings; initial = k.area.parts.initial; dynamic = k.area.parts.dynamic })
good_finish (phases.Section sections.Dynamic) q c s k e = subst HasGoodWords (some_is q s e) (record { area = k.area.area; bindings = k.area.parts.bindings; initial = k.area.parts.initial; dynamic = k.area.parts.dynamic })
good_finish _ q c s k e = absurd cc

-- tokens that are taken to an end give a tree with good words
pub good_words : (ts : List Token) (r : Reading) (s : Script) → go new_reading ts ≡ done r → finish r ≡ Some s → AreSpelled ts → IsClean ts → HasGoodWords s
good_words ts r s e f spelled clean =
    good_finish r.phase r.script (counts_behind ts) s (good_go ts [] new_reading r (record { bindings = refl; initial = refl; dynamic = refl }) spelled clean e) f
