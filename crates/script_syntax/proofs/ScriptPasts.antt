-- What was taken of a script, with its forms: each step takes one token more, and each can be completed.
use Rattle.std.proofs.Common.{◌≡◌, ◌++◌, ℕ, Bool, true, false, List, [], ◌∷◌, Option, Some, None, refl, sym, ◌∙◌, ap}
use Rattle.std.specs.Prelude.{codes, unwrap_or, if◌then◌else◌}
use Rattle.std.specs.Str.{bytes_eq}
use Rattle.std.proofs.lemmas.Slice.Eq.{bytes_eq-Decides}
use Rattle.text_base.proofs.Callers.{some_is}
use Rattle.cell_values.specs.declared.kind.Kind.{Kind}
use Rattle.cell_values.specs.declared.kind.Kind.TheVariants.{Boolean, Nominal, Ordinal, Scalar, Directional, Ldd}
use Rattle.script_syntax.specs.declared.token.Key.TheVariants as keys
use Rattle.script_syntax.specs.declared.token.Mark.{Mark}
use Rattle.script_syntax.specs.declared.token.Mark.TheVariants as marks
use Rattle.script_syntax.specs.declared.token.Token.{Token}
use Rattle.script_syntax.specs.declared.token.Token.TheVariants as tokens
use Rattle.script_syntax.specs.declared.tree.Binding.{Binding}
use Rattle.script_syntax.specs.declared.tree.Target.{Target}
use Rattle.script_syntax.specs.declared.tree.Target.TheVariants as targets
use Rattle.script_syntax.specs.declared.tree.Expr.{Expr}
use Rattle.script_syntax.specs.declared.tree.Statement.{Statement}
use Rattle.script_syntax.specs.declared.tree.Script.{Script}
use Rattle.script_syntax.specs.declared.formula.Formula.{Formula}
use Rattle.script_syntax.specs.declared.reading.Section.{Section}
use Rattle.script_syntax.specs.declared.reading.Section.TheVariants as sections
use Rattle.script_syntax.specs.declared.reading.Phase.TheVariants as phases
use Rattle.script_syntax.specs.declared.reading.Reading.{Reading}
use Rattle.script_syntax.specs.Numbers.{steps_of}
use Rattle.script_syntax.specs.Grammar.{kind_word, target_token, entry_on, entries_on, StatForm, report_on, stat_on, stats_on, stat_tree, stats_trees, static, timed, ScriptForm, binding_on, area_on, timer_on, initial_on, dynamic_on, script_on, script_tree}
use Rattle.script_syntax.specs.inside.Formulas.{formula_step, whole}
use Rattle.script_syntax.specs.inside.Readings.{reading_step, finish, is_mark, same_mark, kind_of, with_kind, add_entry, add_statement, with_statement, with_whole, with_formula}
use Rattle.script_syntax.proofs.Rings.{AreTight}
use Rattle.script_syntax.proofs.FormulaPasts.{FormulaPast, due, formula_of, formula_on, takes_token, whole_is}

-- what stands before the sections
pub record Head : Type 0 where
  pub bindings : Option (List Binding)
  pub area : List ℕ

abbrev pub head_on : Head → List Token → List Token
head_on h rest = binding_on h.bindings (area_on h.area rest)

-- whole statements, and what stands before them
pub data Front : Type 0 where
  in_static : Head → List StatForm → Front
  in_initial : Head → (from to by : List ℕ) → List StatForm → Front
  in_dynamic : Head → (from to by : List ℕ) → Option (List StatForm) → List StatForm → Front

abbrev pub front_on : Front → List Token → List Token
front_on (in_static h ss) rest = head_on h (tokens.Key keys.Initial ∷ stats_on ss rest)
front_on (in_initial h from to by ss) rest = head_on h (timer_on from to by (tokens.Key keys.Initial ∷ stats_on ss rest))
front_on (in_dynamic h from to by initial ss) rest = head_on h (timer_on from to by (initial_on initial (dynamic_on ss rest)))

abbrev pub head_script : Head → ℕ → List Statement → List Statement → Script
head_script h steps initial dynamic = record { bindings = unwrap_or h.bindings []; area = h.area; steps = steps; initial = initial; dynamic = dynamic; mean = false }

abbrev pub front_script : Front → Script
front_script (in_static h ss) = head_script h 0 (stats_trees ss) []
front_script (in_initial h from to by ss) = head_script h (steps_of to) (stats_trees ss) []
front_script (in_dynamic h from to by initial ss) = head_script h (steps_of to) (stats_trees (unwrap_or initial [])) (stats_trees ss)

abbrev pub front_section : Front → Section
front_section (in_static h ss) = sections.Static
front_section (in_initial h from to by ss) = sections.Initial
front_section (in_dynamic h from to by initial ss) = sections.Dynamic

-- with one more statement
abbrev pub more_front : Front → StatForm → Front
more_front (in_static h ss) s = in_static h (ss ++ s ∷ [])
more_front (in_initial h from to by ss) s = in_initial h from to by (ss ++ s ∷ [])
more_front (in_dynamic h from to by initial ss) s = in_dynamic h from to by initial (ss ++ s ∷ [])

pub stats_on-append : (ss : List StatForm) (s : StatForm) (rest : List Token) → stats_on (ss ++ s ∷ []) rest ≡ stats_on ss (stat_on s rest)
stats_on-append [] s rest = refl
stats_on-append (x ∷ ss) s rest = ap (stat_on x) (stats_on-append ss s rest)

pub stats_trees-append : (ss : List StatForm) (s : StatForm) → stats_trees (ss ++ s ∷ []) ≡ stats_trees ss ++ stat_tree s ∷ []
stats_trees-append [] s = refl
stats_trees-append (x ∷ ss) s = ap (λ ts. stat_tree x ∷ ts) (stats_trees-append ss s)

pub entries_on-append : (bs : List Binding) (b : Binding) (rest : List Token) → entries_on (bs ++ b ∷ []) rest ≡ entries_on bs (entry_on b rest)
entries_on-append [] b rest = refl
entries_on-append (x ∷ bs) b rest = ap (entry_on x) (entries_on-append bs b rest)

pub more_front_on : (f : Front) (s : StatForm) (rest : List Token) → front_on (more_front f s) rest ≡ front_on f (stat_on s rest)
more_front_on (in_static h ss) s rest = ap (λ ts. head_on h (tokens.Key keys.Initial ∷ ts)) (stats_on-append ss s rest)
more_front_on (in_initial h from to by ss) s rest = ap (λ ts. head_on h (timer_on from to by (tokens.Key keys.Initial ∷ ts))) (stats_on-append ss s rest)
more_front_on (in_dynamic h from to by initial ss) s rest = ap (λ ts. head_on h (timer_on from to by (initial_on initial (tokens.Key keys.Dynamic ∷ ts)))) (stats_on-append ss s rest)

more_front_script : (f : Front) (s : StatForm) → front_script (more_front f s) ≡ with_statement (front_script f) (front_section f) (stat_tree s)
more_front_script (in_static h ss) s = ap (λ (xs : List Statement). head_script h 0 xs []) (stats_trees-append ss s)
more_front_script (in_initial h from to by ss) s = ap (λ (xs : List Statement). head_script h (steps_of to) xs []) (stats_trees-append ss s)
more_front_script (in_dynamic h from to by initial ss) s = ap (λ (xs : List Statement). head_script h (steps_of to) (stats_trees (unwrap_or initial [])) xs) (stats_trees-append ss s)

more_front_section : (f : Front) (s : StatForm) → front_section (more_front f s) ≡ front_section f
more_front_section (in_static h ss) s = refl
more_front_section (in_initial h from to by ss) s = refl
more_front_section (in_dynamic h from to by initial ss) s = refl

-- what was taken of a script, by its phases
pub data Past : Type 0 where
  at_start : Past
  at_bindings : List Binding → Past
  at_bound_name : List Binding → List ℕ → Past
  at_bound_equal : List Binding → List ℕ → Past
  at_bound : List Binding → List ℕ → Target → Past
  at_bound_colon : List Binding → List ℕ → Target → Past
  at_bound_kind : List Binding → List ℕ → Target → Kind → Past
  at_areamap : Option (List Binding) → Past
  at_area : Head → Past
  at_covered : Head → Past
  at_timer : Head → Past
  at_timer_from : Head → List ℕ → Past
  at_timer_to : Head → List ℕ → List ℕ → Past
  at_timer_by : Head → List ℕ → List ℕ → List ℕ → Past
  at_timed : Head → List ℕ → List ℕ → List ℕ → Past
  at_section : Front → Past
  at_reported : Front → Past
  at_named : Front → Bool → List ℕ → Past
  at_formula : Front → Bool → List ℕ → FormulaPast → Past

-- the tokens that were taken, in front of the rest
abbrev pub past_on : Past → List Token → List Token
past_on at_start rest = rest
past_on (at_bindings bs) rest = tokens.Key keys.Binding ∷ entries_on bs rest
past_on (at_bound_name bs w) rest = tokens.Key keys.Binding ∷ entries_on bs (tokens.Name w ∷ rest)
past_on (at_bound_equal bs w) rest = tokens.Key keys.Binding ∷ entries_on bs (tokens.Name w ∷ tokens.Mark marks.Equal ∷ rest)
past_on (at_bound bs w t) rest = tokens.Key keys.Binding ∷ entries_on bs (tokens.Name w ∷ tokens.Mark marks.Equal ∷ target_token t ∷ rest)
past_on (at_bound_colon bs w t) rest = tokens.Key keys.Binding ∷ entries_on bs (tokens.Name w ∷ tokens.Mark marks.Equal ∷ target_token t ∷ tokens.Mark marks.Colon ∷ rest)
past_on (at_bound_kind bs w t k) rest = tokens.Key keys.Binding ∷ entries_on bs (tokens.Name w ∷ tokens.Mark marks.Equal ∷ target_token t ∷ tokens.Mark marks.Colon ∷ tokens.Name (kind_word k) ∷ rest)
past_on (at_areamap bs) rest = binding_on bs (tokens.Key keys.Areamap ∷ rest)
past_on (at_area h) rest = binding_on h.bindings (tokens.Key keys.Areamap ∷ tokens.File h.area ∷ rest)
past_on (at_covered h) rest = head_on h rest
past_on (at_timer h) rest = head_on h (tokens.Key keys.Timer ∷ rest)
past_on (at_timer_from h from) rest = head_on h (tokens.Key keys.Timer ∷ tokens.Number from ∷ rest)
past_on (at_timer_to h from to) rest = head_on h (tokens.Key keys.Timer ∷ tokens.Number from ∷ tokens.Number to ∷ rest)
past_on (at_timer_by h from to by) rest = head_on h (tokens.Key keys.Timer ∷ tokens.Number from ∷ tokens.Number to ∷ tokens.Number by ∷ rest)
past_on (at_timed h from to by) rest = head_on h (timer_on from to by rest)
past_on (at_section f) rest = front_on f rest
past_on (at_reported f) rest = front_on f (tokens.Key keys.Report ∷ rest)
past_on (at_named f r w) rest = front_on f (report_on r (tokens.Name w ∷ rest))
past_on (at_formula f r w x) rest = front_on f (report_on r (tokens.Name w ∷ tokens.Mark marks.Equal ∷ formula_on x rest))

abbrev pub bound_script : List Binding → Script
bound_script bs = record { bindings = bs; area = codes ""; steps = 0; initial = []; dynamic = []; mean = false }

-- the reading that these tokens lead to
abbrev pub reading_of : Past → Reading
reading_of at_start = record { script = bound_script []; phase = phases.Start }
reading_of (at_bindings bs) = record { script = bound_script bs; phase = phases.Bindings }
reading_of (at_bound_name bs w) = record { script = bound_script bs; phase = phases.BoundName w }
reading_of (at_bound_equal bs w) = record { script = bound_script bs; phase = phases.BoundEqual w }
reading_of (at_bound bs w t) = record { script = bound_script bs; phase = phases.Bound w t }
reading_of (at_bound_colon bs w t) = record { script = bound_script bs; phase = phases.BoundColon w t }
reading_of (at_bound_kind bs w t k) = record { script = bound_script bs; phase = phases.BoundKind w t k }
reading_of (at_areamap bs) = record { script = bound_script (unwrap_or bs []); phase = phases.Areamap }
reading_of (at_area h) = record { script = head_script h 0 [] []; phase = phases.Area }
reading_of (at_covered h) = record { script = head_script h 0 [] []; phase = phases.Covered }
reading_of (at_timer h) = record { script = head_script h 0 [] []; phase = phases.Timer }
reading_of (at_timer_from h from) = record { script = head_script h 0 [] []; phase = phases.TimerFrom }
reading_of (at_timer_to h from to) = record { script = head_script h (steps_of to) [] []; phase = phases.TimerTo }
reading_of (at_timer_by h from to by) = record { script = head_script h (steps_of to) [] []; phase = phases.TimerBy }
reading_of (at_timed h from to by) = record { script = head_script h (steps_of to) [] []; phase = phases.Timed }
reading_of (at_section f) = record { script = front_script f; phase = phases.Section (front_section f) }
reading_of (at_reported f) = record { script = front_script f; phase = phases.Reported (front_section f) }
reading_of (at_named f r w) = record { script = front_script f; phase = phases.Named (front_section f) r w }
reading_of (at_formula f r w x) = record { script = front_script f; phase = phases.Formula (front_section f) r w (formula_of x) }

-- the rings of an expression are tight
abbrev pub IsGood : Past → Type 0
IsGood (at_formula f r w x) = AreTight x.rings
IsGood _ = Unit {0}

-- ---- one more token

-- one more token was taken
pub record Advances (p : Past) (t : Token) (r : Reading) : Type 0 where
  pub next : Past
  pub is : reading_of next ≡ r
  pub good : IsGood next
  pub on : (rest : List Token) → past_on next rest ≡ past_on p (t ∷ rest)

-- the next reading is this one
to : (p q : Past) (t : Token) (r : Reading) → IsGood q → Some (reading_of q) ≡ Some r → ((rest : List Token) → past_on q rest ≡ past_on p (t ∷ rest)) → Advances p t r
to p q t r good e on = record { next = q; is = some_is (reading_of q) r e; good = good; on = on }

mark_same : (a b : Mark) → same_mark a b ≡ true → a ≡ b
mark_same marks.Semicolon marks.Semicolon e = refl
mark_same marks.Equal marks.Equal e = refl
mark_same marks.Colon marks.Colon e = refl
mark_same marks.Comma marks.Comma e = refl
mark_same marks.Open marks.Open e = refl
mark_same marks.Close marks.Close e = refl
mark_same _ _ e = absurd cc

pub mark_is : (m : Mark) (t : Token) → is_mark m t ≡ true → t ≡ tokens.Mark m
mark_is m (tokens.Mark other) e = ap tokens.Mark (mark_same other m e)
mark_is m _ e = absurd cc

-- behind a mark comes this reading
to_mark : (b : Bool) (p q : Past) (m : Mark) (t : Token) (r : Reading) → IsGood q → is_mark m t ≡ b → (if b then Some (reading_of q) else None) ≡ Some r → ((rest : List Token) → past_on q rest ≡ past_on p (tokens.Mark m ∷ rest)) → Advances p t r
to_mark true p q m t r good test e on = to p q t r good e (λ rest. on rest ∙ ap (λ (u : Token). past_on p (u ∷ rest)) (sym (mark_is m t test)))
to_mark false p q m t r good test e on = absurd cc

-- a word of a kind is the kind's word
kind_test : (b : Bool) (w word : List ℕ) (a k : Kind) (o : Option Kind) → (b ≡ true → w ≡ word) → kind_word a ≡ word → (if b then Some a else o) ≡ Some k → (o ≡ Some k → w ≡ kind_word k) → w ≡ kind_word k
kind_test true w word a k o same is e next = same refl ∙ (sym is ∙ ap kind_word (some_is a k e))
kind_test false w word a k o same is e next = next e

kind_is : (w : List ℕ) (k : Kind) → kind_of w ≡ Some k → w ≡ kind_word k
kind_is w k e =
    kind_test (bytes_eq w (codes "boolean")) w (codes "boolean") Boolean k _ (λ h. (bytes_eq-Decides w (codes "boolean")).0 h) refl e (λ e1.
    kind_test (bytes_eq w (codes "nominal")) w (codes "nominal") Nominal k _ (λ h. (bytes_eq-Decides w (codes "nominal")).0 h) refl e1 (λ e2.
    kind_test (bytes_eq w (codes "ordinal")) w (codes "ordinal") Ordinal k _ (λ h. (bytes_eq-Decides w (codes "ordinal")).0 h) refl e2 (λ e3.
    kind_test (bytes_eq w (codes "scalar")) w (codes "scalar") Scalar k _ (λ h. (bytes_eq-Decides w (codes "scalar")).0 h) refl e3 (λ e4.
    kind_test (bytes_eq w (codes "directional")) w (codes "directional") Directional k _ (λ h. (bytes_eq-Decides w (codes "directional")).0 h) refl e4 (λ e5.
    kind_test (bytes_eq w (codes "ldd")) w (codes "ldd") Ldd k None (λ h. (bytes_eq-Decides w (codes "ldd")).0 h) refl e5 (λ e6. absurd cc))))))

to_kind : (o : Option Kind) (bs : List Binding) (w word : List ℕ) (t : Target) (r : Reading) → kind_of word ≡ o → with_kind (bound_script bs) w t o ≡ Some r → Advances (at_bound_colon bs w t) (tokens.Name word) r
to_kind None bs w word t r is e = absurd cc
to_kind (Some k) bs w word t r is e =
    to (at_bound_colon bs w t) (at_bound_kind bs w t k) (tokens.Name word) r tt e
    (λ rest. ap (λ (x : List ℕ). past_on (at_bound_colon bs w t) (tokens.Name x ∷ rest)) (sym (kind_is word k is)))

-- a whole entry
to_entry : (p : Past) (bs : List Binding) (w : List ℕ) (t : Target) (k : Option Kind) (u : Token) (r : Reading) → Some (add_entry (bound_script bs) w t k) ≡ Some r → ((rest : List Token) → tokens.Key keys.Binding ∷ entries_on bs (entry_on (record { name = w; target = t; kind = k }) rest) ≡ past_on p (u ∷ rest)) → Advances p u r
to_entry p bs w t k u r e on =
    to p (at_bindings (bs ++ record { name = w; target = t; kind = k } ∷ [])) u r tt e
    (λ rest. ap (λ ts. tokens.Key keys.Binding ∷ ts) (entries_on-append bs (record { name = w; target = t; kind = k }) rest) ∙ on rest)

entry_end : (b : Bool) (bs : List Binding) (w : List ℕ) (t : Target) (k : Kind) (u : Token) (r : Reading) → is_mark marks.Semicolon u ≡ b → (if b then Some (add_entry (bound_script bs) w t (Some k)) else None) ≡ Some r → Advances (at_bound_kind bs w t k) u r
entry_end true bs w t k u r test e =
    to_entry (at_bound_kind bs w t k) bs w t (Some k) u r e
    (λ rest. ap (λ (v : Token). past_on (at_bound_kind bs w t k) (v ∷ rest)) (sym (mark_is marks.Semicolon u test)))
entry_end false bs w t k u r test e = absurd cc

-- a whole statement
to_statement : (o : Option Expr) (f : Front) (b : Bool) (w : List ℕ) (x : FormulaPast) (u : Token) (r : Reading) → AreTight x.rings → is_mark marks.Semicolon u ≡ true → whole (formula_of x) ≡ o → with_whole (front_script f) (front_section f) b w o ≡ Some r → Advances (at_formula f b w x) u r
to_statement None f b w x u r tight test is e = absurd cc
to_statement (Some v) f b w x u r tight test is e =
    let n = whole_is x.rings x.operand v tight is in
    let s : StatForm = record { report = b; name = w; expr = n.form } in
    record {
      next = at_section (more_front f s);
      is = ap (λ (c : Section). record { script = front_script (more_front f s); phase = phases.Section c }) (more_front_section f s)
          ∙ (ap (λ (c : Script). record { script = c; phase = phases.Section (front_section f) }) (more_front_script f s)
          ∙ (ap (λ (c : Expr). add_statement (front_script f) (front_section f) b w c) n.tree
          ∙ some_is (add_statement (front_script f) (front_section f) b w v) r e));
      good = tt;
      on = λ rest. more_front_on f s rest
          ∙ (ap (λ ts. front_on f (report_on b (tokens.Name w ∷ tokens.Mark marks.Equal ∷ ts))) (n.on (tokens.Mark marks.Semicolon ∷ rest))
          ∙ ap (λ (c : Token). past_on (at_formula f b w x) (c ∷ rest)) (sym (mark_is marks.Semicolon u test)));
    }

-- one more token of an expression
to_formula : (o : Option Formula) (f : Front) (b : Bool) (w : List ℕ) (x : FormulaPast) (u : Token) (r : Reading) → AreTight x.rings → formula_step (formula_of x) u ≡ o → with_formula (front_script f) (front_section f) b w o ≡ Some r → Advances (at_formula f b w x) u r
to_formula None f b w x u r tight is e = absurd cc
to_formula (Some g) f b w x u r tight is e =
    let n = takes_token x.rings x.operand u g tight is in
    record {
      next = at_formula f b w n.next;
      is = ap (λ (c : Formula). record { script = front_script f; phase = phases.Formula (front_section f) b w c }) n.is
          ∙ some_is (record { script = front_script f; phase = phases.Formula (front_section f) b w g }) r e;
      good = n.tight;
      on = λ rest. ap (λ ts. front_on f (report_on b (tokens.Name w ∷ tokens.Mark marks.Equal ∷ ts))) (n.on rest);
    }

formula_by : (c : Bool) (f : Front) (b : Bool) (w : List ℕ) (x : FormulaPast) (u : Token) (r : Reading) → AreTight x.rings → is_mark marks.Semicolon u ≡ c → (if c then with_whole (front_script f) (front_section f) b w (whole (formula_of x)) else with_formula (front_script f) (front_section f) b w (formula_step (formula_of x) u)) ≡ Some r → Advances (at_formula f b w x) u r
formula_by true f b w x u r tight test e = to_statement (whole (formula_of x)) f b w x u r tight test refl e
formula_by false f b w x u r tight test e = to_formula (formula_step (formula_of x) u) f b w x u r tight refl e

start_by : (t : Token) (r : Reading) → reading_step (reading_of at_start) t ≡ Some r → Advances at_start t r
start_by (tokens.Key keys.Binding) r e = to at_start (at_bindings []) (tokens.Key keys.Binding) r tt e (λ rest. refl)
start_by (tokens.Key keys.Areamap) r e = to at_start (at_areamap None) (tokens.Key keys.Areamap) r tt e (λ rest. refl)
start_by _ r e = absurd cc

bindings_by : (bs : List Binding) (t : Token) (r : Reading) → reading_step (reading_of (at_bindings bs)) t ≡ Some r → Advances (at_bindings bs) t r
bindings_by bs (tokens.Name w) r e = to (at_bindings bs) (at_bound_name bs w) (tokens.Name w) r tt e (λ rest. refl)
bindings_by bs (tokens.Key keys.Areamap) r e = to (at_bindings bs) (at_areamap (Some bs)) (tokens.Key keys.Areamap) r tt e (λ rest. refl)
bindings_by bs _ r e = absurd cc

equal_by : (bs : List Binding) (w : List ℕ) (t : Token) (r : Reading) → reading_step (reading_of (at_bound_equal bs w)) t ≡ Some r → Advances (at_bound_equal bs w) t r
equal_by bs w (tokens.File x) r e = to (at_bound_equal bs w) (at_bound bs w (targets.File x)) (tokens.File x) r tt e (λ rest. refl)
equal_by bs w (tokens.Number x) r e = to (at_bound_equal bs w) (at_bound bs w (targets.Number x)) (tokens.Number x) r tt e (λ rest. refl)
equal_by bs w _ r e = absurd cc

bound_by : (bs : List Binding) (w : List ℕ) (t : Target) (u : Token) (r : Reading) → reading_step (reading_of (at_bound bs w t)) u ≡ Some r → Advances (at_bound bs w t) u r
bound_by bs w t (tokens.Mark marks.Semicolon) r e = to_entry (at_bound bs w t) bs w t None (tokens.Mark marks.Semicolon) r e (λ rest. refl)
bound_by bs w t (tokens.Mark marks.Colon) r e = to (at_bound bs w t) (at_bound_colon bs w t) (tokens.Mark marks.Colon) r tt e (λ rest. refl)
bound_by bs w t _ r e = absurd cc

colon_by : (bs : List Binding) (w : List ℕ) (t : Target) (u : Token) (r : Reading) → reading_step (reading_of (at_bound_colon bs w t)) u ≡ Some r → Advances (at_bound_colon bs w t) u r
colon_by bs w t (tokens.Name word) r e = to_kind (kind_of word) bs w word t r refl e
colon_by bs w t _ r e = absurd cc

areamap_by : (bs : Option (List Binding)) (u : Token) (r : Reading) → reading_step (reading_of (at_areamap bs)) u ≡ Some r → Advances (at_areamap bs) u r
areamap_by bs (tokens.File x) r e = to (at_areamap bs) (at_area (record { bindings = bs; area = x })) (tokens.File x) r tt e (λ rest. refl)
areamap_by bs _ r e = absurd cc

covered_by : (h : Head) (u : Token) (r : Reading) → reading_step (reading_of (at_covered h)) u ≡ Some r → Advances (at_covered h) u r
covered_by h (tokens.Key keys.Timer) r e = to (at_covered h) (at_timer h) (tokens.Key keys.Timer) r tt e (λ rest. refl)
covered_by h (tokens.Key keys.Initial) r e = to (at_covered h) (at_section (in_static h [])) (tokens.Key keys.Initial) r tt e (λ rest. refl)
covered_by h _ r e = absurd cc

timer_by : (h : Head) (u : Token) (r : Reading) → reading_step (reading_of (at_timer h)) u ≡ Some r → Advances (at_timer h) u r
timer_by h (tokens.Number x) r e = to (at_timer h) (at_timer_from h x) (tokens.Number x) r tt e (λ rest. refl)
timer_by h _ r e = absurd cc

timer_from_by : (h : Head) (from : List ℕ) (u : Token) (r : Reading) → reading_step (reading_of (at_timer_from h from)) u ≡ Some r → Advances (at_timer_from h from) u r
timer_from_by h from (tokens.Number x) r e = to (at_timer_from h from) (at_timer_to h from x) (tokens.Number x) r tt e (λ rest. refl)
timer_from_by h from _ r e = absurd cc

timer_to_by : (h : Head) (from to' : List ℕ) (u : Token) (r : Reading) → reading_step (reading_of (at_timer_to h from to')) u ≡ Some r → Advances (at_timer_to h from to') u r
timer_to_by h from to' (tokens.Number x) r e = to (at_timer_to h from to') (at_timer_by h from to' x) (tokens.Number x) r tt e (λ rest. refl)
timer_to_by h from to' _ r e = absurd cc

timed_by : (h : Head) (from to' by : List ℕ) (u : Token) (r : Reading) → reading_step (reading_of (at_timed h from to' by)) u ≡ Some r → Advances (at_timed h from to' by) u r
timed_by h from to' by (tokens.Key keys.Initial) r e = to (at_timed h from to' by) (at_section (in_initial h from to' by [])) (tokens.Key keys.Initial) r tt e (λ rest. refl)
timed_by h from to' by (tokens.Key keys.Dynamic) r e = to (at_timed h from to' by) (at_section (in_dynamic h from to' by None [])) (tokens.Key keys.Dynamic) r tt e (λ rest. refl)
timed_by h from to' by _ r e = absurd cc

dynamic_by : (f : Front) (r : Reading) → reading_step (reading_of (at_section f)) (tokens.Key keys.Dynamic) ≡ Some r → Advances (at_section f) (tokens.Key keys.Dynamic) r
dynamic_by (in_static h ss) r e = absurd cc
dynamic_by (in_initial h from to' by ss) r e = to (at_section (in_initial h from to' by ss)) (at_section (in_dynamic h from to' by (Some ss) [])) (tokens.Key keys.Dynamic) r tt e (λ rest. refl)
dynamic_by (in_dynamic h from to' by initial ss) r e = absurd cc

section_by : (f : Front) (u : Token) (r : Reading) → reading_step (reading_of (at_section f)) u ≡ Some r → Advances (at_section f) u r
section_by f (tokens.Name x) r e = to (at_section f) (at_named f false x) (tokens.Name x) r tt e (λ rest. refl)
section_by f (tokens.Key keys.Report) r e = to (at_section f) (at_reported f) (tokens.Key keys.Report) r tt e (λ rest. refl)
section_by f (tokens.Key keys.Dynamic) r e = dynamic_by f r e
section_by f _ r e = absurd cc

reported_by : (f : Front) (u : Token) (r : Reading) → reading_step (reading_of (at_reported f)) u ≡ Some r → Advances (at_reported f) u r
reported_by f (tokens.Name x) r e = to (at_reported f) (at_named f true x) (tokens.Name x) r tt e (λ rest. refl)
reported_by f _ r e = absurd cc

pub advances : (p : Past) (t : Token) (r : Reading) → IsGood p → reading_step (reading_of p) t ≡ Some r → Advances p t r
advances at_start t r good e = start_by t r e
advances (at_bindings bs) t r good e = bindings_by bs t r e
advances (at_bound_name bs w) t r good e = to_mark (is_mark marks.Equal t) (at_bound_name bs w) (at_bound_equal bs w) marks.Equal t r tt refl e (λ rest. refl)
advances (at_bound_equal bs w) t r good e = equal_by bs w t r e
advances (at_bound bs w x) t r good e = bound_by bs w x t r e
advances (at_bound_colon bs w x) t r good e = colon_by bs w x t r e
advances (at_bound_kind bs w x k) t r good e = entry_end (is_mark marks.Semicolon t) bs w x k t r refl e
advances (at_areamap bs) t r good e = areamap_by bs t r e
advances (at_area h) t r good e = to_mark (is_mark marks.Semicolon t) (at_area h) (at_covered h) marks.Semicolon t r tt refl e (λ rest. refl)
advances (at_covered h) t r good e = covered_by h t r e
advances (at_timer h) t r good e = timer_by h t r e
advances (at_timer_from h from) t r good e = timer_from_by h from t r e
advances (at_timer_to h from to') t r good e = timer_to_by h from to' t r e
advances (at_timer_by h from to' by) t r good e = to_mark (is_mark marks.Semicolon t) (at_timer_by h from to' by) (at_timed h from to' by) marks.Semicolon t r tt refl e (λ rest. refl)
advances (at_timed h from to' by) t r good e = timed_by h from to' by t r e
advances (at_section f) t r good e = section_by f t r e
advances (at_reported f) t r good e = reported_by f t r e
advances (at_named f b w) t r good e = to_mark (is_mark marks.Equal t) (at_named f b w) (at_formula f b w (record { rings = []; operand = due })) marks.Equal t r tt refl e (λ rest. refl)
advances (at_formula f b w x) t r good e = formula_by (is_mark marks.Semicolon t) f b w x t r good refl e

-- ---- the end

-- the form of a whole script
pub record Finishes (p : Past) (s : Script) : Type 0 where
  pub form : ScriptForm
  pub on : (rest : List Token) → script_on form rest ≡ past_on p rest
  pub tree : script_tree form ≡ s

finish_by : (f : Front) (s : Script) → finish (reading_of (at_section f)) ≡ Some s → Finishes (at_section f) s
finish_by (in_static h ss) s e = record { form = record { bindings = h.bindings; area = h.area; sections = static ss }; on = λ rest. refl; tree = some_is (front_script (in_static h ss)) s e }
finish_by (in_initial h from to' by ss) s e = absurd cc
finish_by (in_dynamic h from to' by initial ss) s e = record { form = record { bindings = h.bindings; area = h.area; sections = timed from to' by initial ss }; on = λ rest. refl; tree = some_is (front_script (in_dynamic h from to' by initial ss)) s e }

pub finishes : (p : Past) (s : Script) → finish (reading_of p) ≡ Some s → Finishes p s
finishes (at_section f) s e = finish_by f s e
finishes _ s e = absurd cc
