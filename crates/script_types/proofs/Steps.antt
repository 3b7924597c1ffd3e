-- What the tables say after one more line, and how the parts of a script's meaning are put together.
use Rattle.std.proofs.Common.{◌≡◌, ◌+◌, ◌≤◌, ℕ, zero, suc, Bool, true, false, List, [], ◌∷◌, ◌++◌, length, filter, take, drop, Option, Some, None, Result, Ok, Err, refl, sym, ◌∙◌, ap, append_assoc, append-nil, subst, if◌then◌else◌, arith}
use Rattle.std.specs.Prelude.{◌&&◌, ◌||◌, nat_le, nat_lt}
use Rattle.std.specs.Option.{is_some}
use Rattle.std.specs.Result.{IsErr, IsErrAnd}
use Rattle.std.proofs.lemmas.List.{length-append}
use Rattle.std.proofs.lemmas.List.Sums.{sum_by-cons, sum_by_push}
use Rattle.std.specs.Str.{bytes_eq}
use mathlib.Core.Path.{fun_ext}
use Rattle.text_base.specs.Results.{◌>>=◌}
use Rattle.cell_values.specs.declared.kind.Kind.{Kind}
use Rattle.script_syntax.specs.declared.tree.Binding.{Binding}
use Rattle.script_syntax.specs.declared.tree.Statement.{Statement}
use Rattle.script_syntax.specs.declared.tree.Script.{Script}
use Rattle.script_types.specs.declared.end.KindEnd.{KindEnd}
use Rattle.script_types.specs.declared.end.KindEnd.TheVariants.{Meaning, Memory}
use Rattle.script_types.specs.declared.end.LowerEnd.{LowerEnd}
use Rattle.script_types.specs.declared.end.LowerEnd.TheVariants as lower
use Rattle.script_types.specs.declared.fault.MeaningKind.{MeaningKind}
use Rattle.script_types.specs.declared.fault.MeaningKind.TheVariants.{BadStackName, KindMismatch, NameClash, TooMany}
use Rattle.script_types.specs.declared.fault.MeaningFault.{MeaningFault}
use Rattle.script_types.specs.declared.fault.Place.TheVariants as place
use Rattle.map_meaning.specs.Limits.{most_operations, most_stacks}
use Rattle.script_types.specs.declared.names.Names.{Names}
use Rattle.script_types.specs.declared.scope.Scope.{Scope as Tables}
use Rattle.script_types.specs.declared.settle.Settled.{Settled}
use Rattle.map_meaning.specs.declared.tree.Tree.{Tree}
use Rattle.script_types.specs.declared.typed.Line.{Line}
use Rattle.script_types.specs.declared.typed.Side.{Side}
use Rattle.script_types.specs.declared.typed.Section.{Section}
use Rattle.script_types.specs.declared.typed.Section.TheVariants.{Initial, Dynamic}
use Rattle.script_types.specs.declared.typed.UsedAs.{UsedAs}
use Rattle.script_types.specs.declared.typed.UsedAs.TheVariants as used
use Rattle.script_types.specs.Checks.{passed}
use Rattle.script_types.specs.Names.{binding_at, binding_of, file_by, input_number, is_bad_prefix, is_bound_to_number, inputs_before, is_assigned, is_input_by, is_used, is_used_in, place_from, role_of, stacks_down_to, statements_uses, uses, uses_down_to}
use Rattle.script_types.specs.Typing.{Scope, name_read, or_kind, typed_as}
use Rattle.script_types.specs.Statements.{all_lines, asked_kind, bound_kind, counts, differs, is_in, is_stack_report, kind_above, line_with, right_side, side_checks, with_operation, line_operations, line_read, lines_below, next_line, operations_of, scope_at, told_at}
use Rattle.script_types.specs.Lowered.{lines_in, total_operations}
use Rattle.script_types.specs.Reports.{files_read, report_checks}
use Rattle.script_types.specs.Meaning.{area_checks, binding_checks, meaning}
use Rattle.script_types.specs.inside.Answers.{Adds, AddsAll, AreNextBelow, BeginsPass, GivesLine, GivesLines, GivesReports, IsCount, IsFew, IsNextBelow, SettlesScript, StandsBelow, answer_with, area_passes, bindings_pass, reports_pass, told_end}
use Rattle.script_types.specs.inside.Look.{look}
use Rattle.script_types.specs.inside.Scopes.{binding_in, scope_of}
use Rattle.script_types.specs.inside.Stacks.{area_use, has_role, with_uses}
use Rattle.script_types.proofs.FirstUses.{role_of_append}
use Rattle.script_types.proofs.StackCounts.{capped, capped-count, capped-many, role-used, with-append}

-- ---- one more line

last-else : {A : Type 0} (t : Bool) (x : A) (a b : Option A) → or_kind (if t then Some x else a) b ≡ (if t then Some x else or_kind a b)
last-else true x a b = refl
last-else false x a b = refl

-- the kinds above with one more line
pub above-push : (ls : List Line) (l : Line) (name : List ℕ) → kind_above (ls ++ l ∷ []) name ≡ (if bytes_eq name l.statement.target then Some l.kind else kind_above ls name)
above-push [] l name = refl
above-push (m ∷ ms) l name = ap (λ r. or_kind r (if bytes_eq name m.statement.target then Some m.kind else None)) (above-push ms l name) ∙ last-else (bytes_eq name l.statement.target) l.kind (kind_above ms name) (if bytes_eq name m.statement.target then Some m.kind else None)

abbrev the-scope : Section → ℕ → Bool → (List ℕ → Option Binding) → (List ℕ → Bool) → (List ℕ → Bool) → (List ℕ → Option UsedAs) → (List ℕ → Option ℕ) → (List ℕ → Option Kind) → ℕ → ℕ → Scope
the-scope s n e b t m r i a w k = record { section = s; steps = n; mean = e; binding = b; is_assigned = t; is_sampled = m; role = r; input = i; above = a; stacks_written = w; stacks_read = k }

ten : {x₁ y₁ : Section} {x₂ y₂ : ℕ} {x₃ y₃ : Bool} {x₄ y₄ : List ℕ → Option Binding} {x₅ y₅ : List ℕ → Bool} {x₆ y₆ : List ℕ → Bool} {x₇ y₇ : List ℕ → Option UsedAs} {x₈ y₈ : List ℕ → Option ℕ} {x₉ y₉ : List ℕ → Option Kind} {x₀ y₀ : ℕ} (k : ℕ) → x₁ ≡ y₁ → x₂ ≡ y₂ → x₃ ≡ y₃ → x₄ ≡ y₄ → x₅ ≡ y₅ → x₆ ≡ y₆ → x₇ ≡ y₇ → x₈ ≡ y₈ → x₉ ≡ y₉ → x₀ ≡ y₀ → the-scope x₁ x₂ x₃ x₄ x₅ x₆ x₇ x₈ x₉ x₀ k ≡ the-scope y₁ y₂ y₃ y₄ y₅ y₆ y₇ y₈ y₉ y₀ k
ten {x₁ = x₁} {y₁ = y₁} {x₂ = x₂} {y₂ = y₂} {x₃ = x₃} {y₃ = y₃} {x₄ = x₄} {y₄ = y₄} {x₅ = x₅} {y₅ = y₅} {x₆ = x₆} {y₆ = y₆} {x₇ = x₇} {y₇ = y₇} {x₈ = x₈} {y₈ = y₈} {x₉ = x₉} {y₉ = y₉} {x₀ = x₀} {y₀ = y₀} k a b c d e f g h i j = ap (λ z. the-scope z x₂ x₃ x₄ x₅ x₆ x₇ x₈ x₉ x₀ k) a ∙ ap (λ z. the-scope y₁ z x₃ x₄ x₅ x₆ x₇ x₈ x₉ x₀ k) b ∙ ap (λ z. the-scope y₁ y₂ z x₄ x₅ x₆ x₇ x₈ x₉ x₀ k) c ∙ ap (λ z. the-scope y₁ y₂ y₃ z x₅ x₆ x₇ x₈ x₉ x₀ k) d ∙ ap (λ z. the-scope y₁ y₂ y₃ y₄ z x₆ x₇ x₈ x₉ x₀ k) e ∙ ap (λ z. the-scope y₁ y₂ y₃ y₄ y₅ z x₇ x₈ x₉ x₀ k) f ∙ ap (λ z. the-scope y₁ y₂ y₃ y₄ y₅ y₆ z x₈ x₉ x₀ k) g ∙ ap (λ z. the-scope y₁ y₂ y₃ y₄ y₅ y₆ y₇ z x₉ x₀ k) h ∙ ap (λ z. the-scope y₁ y₂ y₃ y₄ y₅ y₆ y₇ y₈ z x₀ k) i ∙ ap (λ z. the-scope y₁ y₂ y₃ y₄ y₅ y₆ y₇ y₈ y₉ z k) j

-- the scope with another count of stacks that are read
abbrev with-read : Scope → ℕ → Scope
with-read sc k = the-scope sc.section sc.steps sc.mean sc.binding sc.is_assigned sc.is_sampled sc.role sc.input sc.above sc.stacks_written k

-- how many stacks are read does not touch what an expression is
typed-blind : (sc : Scope) (m n : ℕ) → typed_as (with-read sc m) ≡ typed_as (with-read sc n)
unfolding typed_as name_read
typed-blind sc m n = refl

-- the tests of a target, where too many stacks are read or not
abbrev checks-by : Scope → ℕ → Statement → Bool → Kind → Tree → Bool → List (MeaningKind × Bool)
checks-by sc before s sampled kind t many =
    (NameClash, is_bound_to_number (sc.binding s.name)) ∷
    (KindMismatch, differs (sc.above s.name) kind || differs (bound_kind (sc.binding s.name)) kind) ∷
    (BadStackName, is_stack_report sc.section s.report sampled && is_bad_prefix (file_by (sc.binding s.name) s.name) sc.steps) ∷
    (TooMany, nat_lt most_operations (before + operations_of t)) ∷
    (TooMany, is_stack_report sc.section s.report sampled && nat_le most_stacks sc.stacks_written) ∷
    (TooMany, many) ∷
    []

-- a right side at its target, where too many stacks are read or not
abbrev side-by : Scope → ℕ → Statement → Bool → Side → Result Line MeaningKind
side-by sc before s many side =
    passed (side_checks sc.section side.value.kind) (with_operation (is_some side.sample) side.value.kind side.value.tree) >>= λ t.
    passed (checks-by sc before s (is_some side.sample) side.value.kind t many) (line_with sc.section s side.sample side.value.kind t)

-- a statement sees only whether they are too many
line-blind : (sc : Scope) (m n before : ℕ) (s : Statement) → nat_lt most_stacks m ≡ nat_lt most_stacks n → line_read (with-read sc m) before s ≡ line_read (with-read sc n) before s
unfolding line_read
line-blind sc m n before s h =
    let asked = asked_kind (sc.above s.name) (bound_kind (sc.binding s.name)) in
    ap (λ f. f s.expr true used.Grid >>= λ t. right_side sc.mean asked t >>= side-by sc before s (nat_lt most_stacks m)) (typed-blind sc m n)
    ∙ ap (λ many. typed_as (with-read sc n) s.expr true used.Grid >>= λ t. right_side sc.mean asked t >>= side-by sc before s many) h

-- the tables' binding of a name is the script's
pub same-binding : (script : Script) (scope : Tables) (lines : List Line) → StandsBelow script scope lines → (name : List ℕ) → binding_in scope name ≡ binding_of script name
same-binding script scope lines b name = ap (λ bs. binding_at bs (look scope.places.values name)) b.bindings ∙ ap (binding_at script.bindings) (b.places name)

-- ---- the uses down to a statement

take-next : (n : ℕ) (xs more : List Statement) (s : Statement) → drop n xs ≡ s ∷ more → take (n + 1) xs ≡ take n xs ++ s ∷ []
take-next zero [] more s h = cc
take-next zero (x ∷ xs) more s h = cc
take-next (suc n) [] more s h = cc
take-next (suc n) (x ∷ xs) more s h = let e : suc n + 1 ≡ suc (n + 1) = omega arith in ap (λ k. take k (x ∷ xs)) e ∙ ap (λ ys. x ∷ ys) (take-next n xs more s h)

drop-next : (n : ℕ) (xs more : List Statement) (s : Statement) → drop n xs ≡ s ∷ more → drop (n + 1) xs ≡ more
drop-next zero [] more s h = cc
drop-next zero (x ∷ xs) more s h = cc
drop-next (suc n) [] more s h = cc
drop-next (suc n) (x ∷ xs) more s h = let e : suc n + 1 ≡ suc (n + 1) = omega arith in ap (λ k. drop k (x ∷ xs)) e ∙ drop-next n xs more s h

uses-push : (ss : List Statement) (s : Statement) → statements_uses (ss ++ s ∷ []) ≡ statements_uses ss ++ uses s.expr used.Grid
uses-push [] s = append-nil (uses s.expr used.Grid)
uses-push (t ∷ ts) s = ap (λ us. uses t.expr used.Grid ++ us) (uses-push ts s) ∙ sym (append_assoc (uses t.expr used.Grid) (statements_uses ts) (uses s.expr used.Grid))

-- the uses of one statement more
uses-next : (script : Script) (lines : List Line) (s : Statement) → IsNextBelow script lines s → uses_down_to script (length lines + 1) ≡ uses_down_to script (length lines) ++ uses s.expr used.Grid
uses-next script lines s (more, h) = ap (λ us. area_use script ∷ us) (ap statements_uses (take-next (length lines) (script.initial ++ script.dynamic) more s h) ∙ uses-push (take (length lines) (script.initial ++ script.dynamic)) s)

-- the names that have a role, with those of one statement more
pub seen-next : (script : Script) (scope : Tables) (lines : List Line) (s : Statement) (seen : Names UsedAs) (name : List ℕ) → StandsBelow script scope lines → IsNextBelow script lines s → look seen.values name ≡ or_kind (look scope.seen.values name) (role_of (uses s.expr used.Grid) name) → look seen.values name ≡ role_of (uses_down_to script (length lines + 1)) name
seen-next script scope lines s seen name b n h = h ∙ ap (λ o. or_kind o (role_of (uses s.expr used.Grid) name)) (b.seen name) ∙ sym (role_of_append (uses_down_to script (length lines)) (uses s.expr used.Grid) name) ∙ ap (λ us. role_of us name) (sym (uses-next script lines s n))

-- no name is known
abbrev unknown : List ℕ → Bool
unknown name = false

-- the stacks that are read, with those of one statement more
pub read-next : (script : Script) (scope : Tables) (lines : List Line) (s : Statement) (k : ℕ) → StandsBelow script scope lines → IsNextBelow script lines s → k ≡ with_uses (has_role scope.seen) (uses s.expr used.Grid) scope.stacks_read → k ≡ with_uses unknown (uses_down_to script (length lines + 1)) 0
read-next script scope lines s k b n h =
    let above = uses_down_to script (length lines) in
    let here = uses s.expr used.Grid in
    let known : has_role scope.seen ≡ is_used_in above = fun_ext (λ name. ap is_some (b.seen name) ∙ role-used above name) in
    h ∙ ap (λ f. with_uses f here scope.stacks_read) known ∙ ap (with_uses (is_used_in above) here) b.stacks_read ∙ sym (with-append unknown above here 0) ∙ ap (λ us. with_uses unknown us 0) (sym (uses-next script lines s n))

-- the count is that of the definition, as far as it matters
read-many : (script : Script) (n k : ℕ) → k ≡ with_uses unknown (uses_down_to script n) 0 → nat_lt most_stacks k ≡ nat_lt most_stacks (stacks_down_to script n)
read-many script n k h =
    let count : with_uses unknown (uses_down_to script n) 0 ≡ capped (0 + stacks_down_to script n) = capped-count [] (uses_down_to script n) 0 in
    let e : 0 + stacks_down_to script n ≡ stacks_down_to script n = omega arith in
    ap (nat_lt most_stacks) (h ∙ count ∙ ap capped e) ∙ capped-many (stacks_down_to script n)

-- ---- the next statement

-- the tables where the next statement stands
abbrev at-next : Tables → Names UsedAs → ℕ → Tables
at-next scope seen k = record scope { seen = seen; stacks_read = k }

-- the code's tables are the names of the definition
same-line : (script : Script) (section : Section) (scope : Tables) (seen : Names UsedAs) (k : ℕ) (lines : List Line) (before : ℕ) (s : Statement) → StandsBelow script scope lines → scope.section ≡ section → nat_lt most_stacks k ≡ nat_lt most_stacks (stacks_down_to script (length lines + 1)) → line_read (scope_of (at-next scope seen k)) before s ≡ line_read (scope_at script section lines) before s
same-line script section scope seen k lines before s b hs h = ap (λ sc. line_read sc before s) (ten k hs b.steps b.mean (fun_ext (same-binding script scope lines b)) (fun_ext b.targets) (fun_ext b.samples) (fun_ext b.roles) (fun_ext b.inputs) (fun_ext b.above) b.stacks_written) ∙ line-blind (scope_at script section lines) k (stacks_down_to script (length lines + 1)) before s h

-- the next line, by the tables
pub next-is : (script : Script) (section : Section) (scope : Tables) (seen : Names UsedAs) (k : ℕ) (lines : List Line) (count : ℕ) (s : Statement) (r : Result Line MeaningKind) → StandsBelow script scope lines → scope.section ≡ section → IsCount section count lines → k ≡ with_uses unknown (uses_down_to script (length lines + 1)) 0 → line_read (scope_of (at-next scope seen k)) count s ≡ r → next_line script section lines s ≡ told_at (place.Statement (length lines + 1)) r
next-is script section scope seen k lines count s r b hs n hk h = ap (told_at (place.Statement (length lines + 1))) (sym (same-line script section scope seen k lines (counts section lines) s b hs (read-many script (length lines + 1) k hk)) ∙ ap (λ m. line_read (scope_of (at-next scope seen k)) m s) (sym n.counted) ∙ h)

-- the next line is at fault
pub next-fails : (script : Script) (section : Section) (scope after : Tables) (seen : Names UsedAs) (k : ℕ) (lines more : List Line) (count : ℕ) (s : Statement) (end : KindEnd) → StandsBelow script scope lines → scope.section ≡ section → IsCount section count lines → k ≡ with_uses unknown (uses_down_to script (length lines + 1)) 0 → GivesLine (Err end) (at-next scope seen k) count (line_read (scope_of (at-next scope seen k)) count s) → Adds (Err (told_end (length lines) end)) script section lines s after more
next-fails script section scope after seen k lines more count s (Meaning kind) b hs n hk h = next-is script section scope seen k lines count s (Err kind) b hs n hk h
next-fails script section scope after seen k lines more count s Memory b hs n hk h = tt

-- ---- counts with one more line

is-in-self : (section : Section) → is_in section section ≡ true
is-in-self Initial = refl
is-in-self Dynamic = refl

-- the operations of the section, with one more line of it
pub counts-push : (section : Section) (lines : List Line) (l : Line) → l.section ≡ section → counts section (lines ++ l ∷ []) ≡ counts section lines + operations_of l.statement.value
counts-push section lines l h = sum_by_push (line_operations section) lines l ∙ ap (λ b. counts section lines + (if b then operations_of l.statement.value else 0)) (ap (is_in section) h ∙ is-in-self section)

-- those of the other section stay
pub counts-other : (section other : Section) (lines : List Line) (l : Line) → l.section ≡ section → is_in other section ≡ false → counts other (lines ++ l ∷ []) ≡ counts other lines
counts-other section other lines l h apart = sum_by_push (line_operations other) lines l ∙ ap (λ b. counts other lines + (if b then operations_of l.statement.value else 0)) (ap (is_in other) h ∙ apart) ∙ (let e : counts other lines + 0 ≡ counts other lines = omega arith in e)

-- and none has too many
pub few-push : (section : Section) (lines : List Line) (l : Line) → l.section ≡ section → IsFew lines → counts section (lines ++ l ∷ []) ≤ most_operations → IsFew (lines ++ l ∷ [])
few-push Initial lines l h few w = record { in_initial = w; in_dynamic = let e = counts-other Initial Dynamic lines l h refl in let d = few.in_dynamic in omega (arith, e, d) }
few-push Dynamic lines l h few w = record { in_initial = let e = counts-other Dynamic Initial lines l h refl in let d = few.in_initial in omega (arith, e, d); in_dynamic = w }

counts-in : (t : Bool) (section : Section) (l : Line) (ls : List Line) → is_in section l.section ≡ t → counts section ls ≡ total_operations (lines_in section ls) → (if is_in section l.section then operations_of l.statement.value else 0) + counts section ls ≡ total_operations (if t then l ∷ lines_in section ls else lines_in section ls)
counts-in true section l ls h e = ap (λ b. (if b then operations_of l.statement.value else 0) + counts section ls) h ∙ ap (λ n. operations_of l.statement.value + n) e
counts-in false section l ls h e = ap (λ b. (if b then operations_of l.statement.value else 0) + counts section ls) h ∙ (let z : 0 + counts section ls ≡ counts section ls = omega arith in z) ∙ e

-- the operations of a section are those of its statements
pub counts-total : (section : Section) (lines : List Line) → counts section lines ≡ total_operations (lines_in section lines)
counts-total section [] = refl
counts-total section (l ∷ ls) = sum_by-cons (line_operations section) l ls ∙ counts-in (is_in section l.section) section l ls refl (counts-total section ls)

-- ---- the statements of a section

-- the next of some statements
pub first-next : (script : Script) (lines : List Line) (s : Statement) (ss : List Statement) → AreNextBelow script lines (s ∷ ss) → IsNextBelow script lines s
first-next script lines s ss (more, h) = (ss ++ more, h)

-- those behind it
pub rest-next : (script : Script) (lines : List Line) (l : Line) (s : Statement) (ss : List Statement) → AreNextBelow script lines (s ∷ ss) → AreNextBelow script (lines ++ l ∷ []) ss
rest-next script lines l s ss (more, h) = (more, ap (λ n. drop n (script.initial ++ script.dynamic)) (length-append lines (l ∷ [])) ∙ drop-next (length lines) (script.initial ++ script.dynamic) (ss ++ more) s h)

-- a statement is at fault, and so is the section
pub line-fails : (script : Script) (section : Section) (end : LowerEnd) (above lines more lines-after : List Line) (s : Statement) (ss all : List Statement) (after after-all : Tables) → lines_below script section lines (s ∷ ss) ≡ lines_below script section above all → Adds (Err end) script section lines s after more → AddsAll (Err end) script section above all after-all lines-after
line-fails script section (lower.Meaning f) above lines more lines-after s ss all after after-all hl h = sym hl ∙ ap (λ r. r >>= λ l. lines_below script section (lines ++ l ∷ []) ss) h
line-fails script section lower.Memory above lines more lines-after s ss all after after-all hl h = tt

-- the first section is at fault
pub initial-ends : (script : Script) (end : LowerEnd) (scope : Tables) (lines : List Line) (ss : List Statement) → ss ≡ script.initial → AddsAll (Err end) script Initial [] ss scope lines → GivesLines (Err end) script
initial-ends script (lower.Meaning f) scope lines ss hs h = ap (λ r. r >>= λ ls. lines_below script Dynamic ls script.dynamic) (ap (lines_below script Initial []) (sym hs) ∙ h)
initial-ends script lower.Memory scope lines ss hs h = tt

-- the second section is at fault
pub dynamic-ends : (script : Script) (end : LowerEnd) (scope : Tables) (above lines : List Line) (ss ds : List Statement) → ss ≡ script.initial → ds ≡ script.dynamic → lines_below script Initial [] ss ≡ Ok above → AddsAll (Err end) script Dynamic above ds scope lines → GivesLines (Err end) script
dynamic-ends script (lower.Meaning f) scope above lines ss ds hs hd ha h = ap (λ r. r >>= λ ls. lines_below script Dynamic ls script.dynamic) (ap (lines_below script Initial []) (sym hs) ∙ ha) ∙ ap (lines_below script Dynamic above) (sym hd) ∙ h
dynamic-ends script lower.Memory scope above lines ss ds hs hd ha h = tt

-- both sections are settled
pub both-settled : (script : Script) (above lines : List Line) (ss ds : List Statement) → ss ≡ script.initial → ds ≡ script.dynamic → lines_below script Initial [] ss ≡ Ok above → lines_below script Dynamic above ds ≡ Ok lines → all_lines script ≡ Ok lines
both-settled script above lines ss ds hs hd ha h = ap (λ r. r >>= λ ls. lines_below script Dynamic ls script.dynamic) (ap (lines_below script Initial []) (sym hs) ∙ ha) ∙ ap (lines_below script Dynamic above) (sym hd) ∙ h

-- the numbers of inputs by the tables are the script's
pub same-inputs : (script : Script) (bs : List Binding) (assigned used : List ℕ → Bool) (first : ℕ) (name : List ℕ) → bs ≡ script.bindings → ((n : List ℕ) → assigned n ≡ is_assigned script n) → ((n : List ℕ) → used n ≡ is_used script n) → first ≡ inputs_before (binding_of script script.area) → place_from first (filter (is_input_by assigned used) bs) name ≡ input_number script name
same-inputs script bs assigned used first name hb ha hu hf = ap (λ xs. place_from first (filter (is_input_by assigned used) xs) name) hb ∙ ap (λ a. place_from first (filter (is_input_by a used) script.bindings) name) (fun_ext ha) ∙ ap (λ u. place_from first (filter (is_input_by (is_assigned script) u) script.bindings) name) (fun_ext hu) ∙ ap (λ k. place_from k (filter (is_input_by (is_assigned script) (is_used script)) script.bindings) name) hf

-- ---- the whole

branch-bind : {F A B : Type 0} (t : Bool) (f : F) (r : Result A F) (q : Result B F) (k : A → Result B F) → q ≡ r >>= k → (if t then Err f else q) ≡ (if t then Err f else r) >>= k
branch-bind true f r q k h = refl
branch-bind false f r q k h = h

-- what the tests tell does not lie in the value
pub passed-as : {F A B : Type 0} (cs : List (F × Bool)) (x : A) (y : B) → passed cs y ≡ passed cs x >>= λ _. Ok y
passed-as [] x y = refl
passed-as (c ∷ cs) x y = branch-bind c.1 c.0 (passed cs x) (passed cs y) (λ _. Ok y) (passed-as cs x y)

-- the tests pass any value where they pass one
pub passed-on : {F A B : Type 0} (cs : List (F × Bool)) (x : A) (y : B) → passed cs x ≡ Ok x → passed cs y ≡ Ok y
passed-on cs x y h = passed-as cs x y ∙ ap (λ r. r >>= λ _. Ok y) h

-- the tests refuse any value where they refuse one
pub refused-on : {F A B : Type 0} (cs : List (F × Bool)) (x : A) (y : B) (f : F) → passed cs x ≡ Err f → passed cs y ≡ Err f
refused-on cs x y f h = passed-as cs x y ∙ ap (λ r. r >>= λ _. Ok y) h

abbrev by-reports : Script → List Line → Result (List Line) MeaningFault
by-reports script lines = passed (report_checks script.steps (binding_of script) (files_read script) 0 lines) lines

abbrev by-lines : Script → Result (List Line) MeaningFault
by-lines script = all_lines script >>= by-reports script

abbrev by-area : Script → Result (List Line) MeaningFault
by-area script = passed (area_checks (binding_of script script.area) (is_assigned script script.area)) script >>= by-lines

-- a binding is at fault
pub bindings-fail : (script : Script) (f : MeaningFault) → bindings_pass [] script.bindings ≡ Err f → meaning script ≡ Err f
unfolding meaning
bindings-fail script f h = ap (λ r. r >>= by-area) (refused-on (binding_checks [] script.bindings) 0 script f h)

-- the bindings are right
bindings-pass : (script : Script) → bindings_pass [] script.bindings ≡ Ok 0 → meaning script ≡ by-area script
unfolding meaning
bindings-pass script h = ap (λ r. r >>= by-area) (passed-on (binding_checks [] script.bindings) 0 script h)

-- the area map is at fault
pub area-fails : (script : Script) (f : MeaningFault) → bindings_pass [] script.bindings ≡ Ok 0 → area_passes script ≡ Err f → meaning script ≡ Err f
area-fails script f hb h = bindings-pass script hb ∙ ap (λ r. r >>= by-lines) (refused-on (area_checks (binding_of script script.area) (is_assigned script script.area)) 0 script f h)

-- the area map is right
area-passes : (script : Script) → bindings_pass [] script.bindings ≡ Ok 0 → area_passes script ≡ Ok 0 → meaning script ≡ by-lines script
area-passes script hb h = bindings-pass script hb ∙ ap (λ r. r >>= by-lines) (passed-on (area_checks (binding_of script script.area) (is_assigned script script.area)) 0 script h)

-- a statement is at fault
pub lines-fail : (script : Script) (f : MeaningFault) → bindings_pass [] script.bindings ≡ Ok 0 → area_passes script ≡ Ok 0 → all_lines script ≡ Err f → meaning script ≡ Err f
lines-fail script f hb ha h = area-passes script hb ha ∙ ap (λ r. r >>= by-reports script) h

-- the statements are right
lines-pass : (script : Script) (lines : List Line) → bindings_pass [] script.bindings ≡ Ok 0 → area_passes script ≡ Ok 0 → all_lines script ≡ Ok lines → meaning script ≡ by-reports script lines
lines-pass script lines hb ha h = area-passes script hb ha ∙ ap (λ r. r >>= by-reports script) h

-- a report is at fault
pub reports-fail : (script : Script) (lines : List Line) (f : MeaningFault) → bindings_pass [] script.bindings ≡ Ok 0 → area_passes script ≡ Ok 0 → all_lines script ≡ Ok lines → reports_pass script.steps (binding_of script) (files_read script) 0 lines ≡ Err f → meaning script ≡ Err f
reports-fail script lines f hb ha h hr = lines-pass script lines hb ha h ∙ refused-on (report_checks script.steps (binding_of script) (files_read script) 0 lines) 0 lines f hr

-- nothing is at fault
pub all-right : (script : Script) (lines : List Line) → bindings_pass [] script.bindings ≡ Ok 0 → area_passes script ≡ Ok 0 → all_lines script ≡ Ok lines → reports_pass script.steps (binding_of script) (files_read script) 0 lines ≡ Ok 0 → meaning script ≡ Ok lines
all-right script lines hb ha h hr = lines-pass script lines hb ha h ∙ passed-on (report_checks script.steps (binding_of script) (files_read script) 0 lines) 0 lines hr

-- ---- the ends of the whole

-- the bindings end it
pub settles-begin : (script : Script) (end : LowerEnd) → BeginsPass (Err end) script → SettlesScript (Err end) script
settles-begin script (lower.Meaning f) h = bindings-fail script f h
settles-begin script lower.Memory h = tt

-- want of memory ends it
pub begins-memory : (r : Result (Unit {0}) LowerEnd) (scope : Tables) (script : Script) → IsErr r → IsErrAnd r (λ e. e ≡ lower.Memory) → BeginsPass (answer_with r scope) script
begins-memory (Ok x) scope script h m = cc
begins-memory (Err end) scope script h m = let P : LowerEnd → Type 0 = λ e. BeginsPass (Err e) script in subst P (sym m) tt

-- the area map ends it
pub settles-area : (script : Script) (end : LowerEnd) → bindings_pass [] script.bindings ≡ Ok 0 → GivesReports (Err end) (area_passes script) → SettlesScript (Err end) script
settles-area script (lower.Meaning f) hb h = area-fails script f hb h
settles-area script lower.Memory hb h = tt

-- a statement ends it
pub settles-lines : (script : Script) (end : LowerEnd) → bindings_pass [] script.bindings ≡ Ok 0 → area_passes script ≡ Ok 0 → GivesLines (Err end) script → SettlesScript (Err end) script
settles-lines script (lower.Meaning f) hb ha h = lines-fail script f hb ha h
settles-lines script lower.Memory hb ha h = tt

-- what the tests of the reports tell, by the tables
reports-are : (script : Script) (s : Settled) → GivesLines (Ok s) script → reports_pass script.steps (binding_in s.scope) (files_read script) 0 s.lines ≡ reports_pass script.steps (binding_of script) (files_read script) 0 s.lines
reports-are script s h = ap (λ b. reports_pass script.steps b (files_read script) 0 s.lines) (fun_ext (same-binding script s.scope s.lines h.1.below))

-- a report ends it
pub settles-reports : (script : Script) (end : LowerEnd) (s : Settled) → bindings_pass [] script.bindings ≡ Ok 0 → area_passes script ≡ Ok 0 → GivesLines (Ok s) script → GivesReports (Err end) (reports_pass script.steps (binding_in s.scope) (files_read script) 0 s.lines) → SettlesScript (Err end) script
settles-reports script (lower.Meaning f) s hb ha hl h = reports-fail script s.lines f hb ha hl.0 (sym (reports-are script s hl) ∙ h)
settles-reports script lower.Memory s hb ha hl h = tt

-- nothing ends it
pub settles-all : (script : Script) (s : Settled) → bindings_pass [] script.bindings ≡ Ok 0 → area_passes script ≡ Ok 0 → GivesLines (Ok s) script → reports_pass script.steps (binding_in s.scope) (files_read script) 0 s.lines ≡ Ok 0 → SettlesScript (Ok s) script
settles-all script s hb ha hl h = (all-right script s.lines hb ha hl.0 (sym (reports-are script s hl) ∙ h), hl.1)
