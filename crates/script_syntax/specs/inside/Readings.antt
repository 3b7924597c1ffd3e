-- A script that is read token by token: its tree so far, and what may stand next.
use Rattle.std.specs.Prelude.{ℕ, Bool, true, false, if◌then◌else◌, List, [], ◌∷◌, ◌++◌, codes, Option, Some, None}
use Rattle.std.specs.Str.{bytes_eq}
use Rattle.cell_values.specs.declared.kind.Kind.{Kind}
use Rattle.cell_values.specs.declared.kind.Kind.TheVariants.{Boolean, Nominal, Ordinal, Scalar, Directional, Ldd}
use Rattle.script_syntax.specs.declared.token.Key.TheVariants as keys
use Rattle.script_syntax.specs.declared.token.Mark.{Mark}
use Rattle.script_syntax.specs.declared.token.Mark.TheVariants as marks
use Rattle.script_syntax.specs.declared.token.Token.{Token}
use Rattle.script_syntax.specs.declared.token.Token.TheVariants as tokens
use Rattle.script_syntax.specs.declared.tree.Target.{Target}
use Rattle.script_syntax.specs.declared.tree.Target.TheVariants as targets
use Rattle.script_syntax.specs.declared.tree.Expr.{Expr}
use Rattle.script_syntax.specs.declared.tree.Statement.{Statement}
use Rattle.script_syntax.specs.declared.tree.Script.{Script}
use Rattle.script_syntax.specs.declared.formula.Formula.{Formula}
use Rattle.script_syntax.specs.declared.formula.Operand.TheVariants as operands
use Rattle.script_syntax.specs.declared.reading.Section.{Section}
use Rattle.script_syntax.specs.declared.reading.Section.TheVariants as sections
use Rattle.script_syntax.specs.declared.reading.Phase.{Phase}
use Rattle.script_syntax.specs.declared.reading.Phase.TheVariants as phases
use Rattle.script_syntax.specs.declared.reading.Reading.{Reading}
use Rattle.script_syntax.specs.Numbers.{steps_of}
use Rattle.script_syntax.specs.inside.Formulas.{formula_step, whole}

-- a script of which nothing was read
abbrev pub new_reading : Reading
new_reading = record {
  script = record { bindings = []; area = codes ""; steps = 0; initial = []; dynamic = []; mean = false };
  phase = phases.Start;
}

-- the reading with this phase
abbrev pub now : Script → Phase → Option Reading
now s p = Some (record { script = s; phase = p })

-- whether two marks are one
abbrev pub same_mark : Mark → Mark → Bool
same_mark marks.Semicolon marks.Semicolon = true
same_mark marks.Equal marks.Equal = true
same_mark marks.Colon marks.Colon = true
same_mark marks.Comma marks.Comma = true
same_mark marks.Open marks.Open = true
same_mark marks.Close marks.Close = true
same_mark _ _ = false

-- whether a token is this mark
abbrev pub is_mark : Mark → Token → Bool
is_mark mark (tokens.Mark other) = same_mark other mark
is_mark mark _ = false

-- the kind of a word
abbrev pub kind_of : List ℕ → Option Kind
kind_of w =
    if bytes_eq w (codes "boolean") then Some Boolean
    else (if bytes_eq w (codes "nominal") then Some Nominal
    else (if bytes_eq w (codes "ordinal") then Some Ordinal
    else (if bytes_eq w (codes "scalar") then Some Scalar
    else (if bytes_eq w (codes "directional") then Some Directional
    else (if bytes_eq w (codes "ldd") then Some Ldd else None)))))

-- one more entry
abbrev pub add_entry : Script → List ℕ → Target → Option Kind → Reading
add_entry s name target kind = record {
  script = record s { bindings = s.bindings ++ record { name = name; target = target; kind = kind } ∷ [] };
  phase = phases.Bindings;
}

-- the script with one more statement in this section
abbrev pub with_statement : Script → Section → Statement → Script
with_statement s sections.Static statement = record s { initial = s.initial ++ statement ∷ [] }
with_statement s sections.Initial statement = record s { initial = s.initial ++ statement ∷ [] }
with_statement s sections.Dynamic statement = record s { dynamic = s.dynamic ++ statement ∷ [] }

-- one more statement
abbrev pub add_statement : Script → Section → Bool → List ℕ → Expr → Reading
add_statement s section report name expr = record {
  script = with_statement s section (record { report = report; name = name; expr = expr });
  phase = phases.Section section;
}

-- ---- the reading with one more token, by its phase, or none where no script goes on with it

-- before the first token
abbrev pub after_start : Script → Token → Option Reading
after_start s (tokens.Key keys.Binding) = now s phases.Bindings
after_start s (tokens.Key keys.Areamap) = now s phases.Areamap
after_start s _ = None

-- behind `binding` or an entry
abbrev pub after_bindings : Script → Token → Option Reading
after_bindings s (tokens.Name name) = now s (phases.BoundName name)
after_bindings s (tokens.Key keys.Areamap) = now s phases.Areamap
after_bindings s _ = None

-- where this mark has to stand
abbrev pub behind_mark : Script → Phase → Token → Mark → Option Reading
behind_mark s p t mark = if is_mark mark t then now s p else None

-- behind `=` of an entry
abbrev pub after_bound_equal : Script → List ℕ → Token → Option Reading
after_bound_equal s name (tokens.File file) = now s (phases.Bound name (targets.File file))
after_bound_equal s name (tokens.Number number) = now s (phases.Bound name (targets.Number number))
after_bound_equal s name _ = None

-- behind the file or the number of an entry
abbrev pub after_bound : Script → List ℕ → Target → Token → Option Reading
after_bound s name target (tokens.Mark marks.Semicolon) = Some (add_entry s name target None)
after_bound s name target (tokens.Mark marks.Colon) = now s (phases.BoundColon name target)
after_bound s name target _ = None

-- behind the kind of an entry
abbrev pub with_kind : Script → List ℕ → Target → Option Kind → Option Reading
with_kind s name target None = None
with_kind s name target (Some kind) = now s (phases.BoundKind name target kind)

-- behind `:` of an entry
abbrev pub after_bound_colon : Script → List ℕ → Target → Token → Option Reading
after_bound_colon s name target (tokens.Name word) = with_kind s name target (kind_of word)
after_bound_colon s name target _ = None

-- where an entry with a kind has to end
abbrev pub after_bound_kind : Script → List ℕ → Target → Kind → Token → Option Reading
after_bound_kind s name target kind t = if is_mark marks.Semicolon t then Some (add_entry s name target (Some kind)) else None

-- behind `areamap`
abbrev pub after_areamap : Script → Token → Option Reading
after_areamap s (tokens.File area) = now (record s { area = area }) phases.Area
after_areamap s _ = None

-- behind the area
abbrev pub after_covered : Script → Token → Option Reading
after_covered s (tokens.Key keys.Timer) = now s phases.Timer
after_covered s (tokens.Key keys.Initial) = now s (phases.Section sections.Static)
after_covered s _ = None

-- where a number of the timer has to stand
abbrev pub timer_end : Script → Phase → Token → Option Reading
timer_end s p (tokens.Number w) = now s p
timer_end s p _ = None

-- where the last step has to stand
abbrev pub timer_to : Script → Token → Option Reading
timer_to s (tokens.Number w) = now (record s { steps = steps_of w }) phases.TimerTo
timer_to s _ = None

-- behind the timer
abbrev pub after_timed : Script → Token → Option Reading
after_timed s (tokens.Key keys.Initial) = now s (phases.Section sections.Initial)
after_timed s (tokens.Key keys.Dynamic) = now s (phases.Section sections.Dynamic)
after_timed s _ = None

-- at the word `dynamic`, which stands behind `initial` of a script with a timer
abbrev pub to_dynamic : Script → Section → Option Reading
to_dynamic s sections.Static = None
to_dynamic s sections.Initial = now s (phases.Section sections.Dynamic)
to_dynamic s sections.Dynamic = None

-- where a statement may begin
abbrev pub after_section : Script → Section → Token → Option Reading
after_section s section (tokens.Name name) = now s (phases.Named section false name)
after_section s section (tokens.Key keys.Report) = now s (phases.Reported section)
after_section s section (tokens.Key keys.Dynamic) = to_dynamic s section
after_section s section _ = None

-- behind `report`
abbrev pub after_reported : Script → Section → Token → Option Reading
after_reported s section (tokens.Name name) = now s (phases.Named section true name)
after_reported s section _ = None

-- behind the name of a statement
abbrev pub after_named : Script → Section → Bool → List ℕ → Token → Option Reading
after_named s section report name t =
    if is_mark marks.Equal t then now s (phases.Formula section report name (record { frames = []; operand = operands.Due })) else None

-- behind a statement, where its expression is whole
abbrev pub with_whole : Script → Section → Bool → List ℕ → Option Expr → Option Reading
with_whole s section report name None = None
with_whole s section report name (Some expr) = Some (add_statement s section report name expr)

-- within an expression that goes on
abbrev pub with_formula : Script → Section → Bool → List ℕ → Option Formula → Option Reading
with_formula s section report name None = None
with_formula s section report name (Some formula) = now s (phases.Formula section report name formula)

-- within an expression, or at its end
abbrev pub after_formula : Script → Section → Bool → List ℕ → Formula → Token → Option Reading
after_formula s section report name f t =
    if is_mark marks.Semicolon t then with_whole s section report name (whole f) else with_formula s section report name (formula_step f t)

-- in each phase
abbrev pub step_phase : Script → Phase → Token → Option Reading
step_phase s phases.Start t = after_start s t
step_phase s phases.Bindings t = after_bindings s t
step_phase s (phases.BoundName name) t = behind_mark s (phases.BoundEqual name) t marks.Equal
step_phase s (phases.BoundEqual name) t = after_bound_equal s name t
step_phase s (phases.Bound name target) t = after_bound s name target t
step_phase s (phases.BoundColon name target) t = after_bound_colon s name target t
step_phase s (phases.BoundKind name target kind) t = after_bound_kind s name target kind t
step_phase s phases.Areamap t = after_areamap s t
step_phase s phases.Area t = behind_mark s phases.Covered t marks.Semicolon
step_phase s phases.Covered t = after_covered s t
step_phase s phases.Timer t = timer_end s phases.TimerFrom t
step_phase s phases.TimerFrom t = timer_to s t
step_phase s phases.TimerTo t = timer_end s phases.TimerBy t
step_phase s phases.TimerBy t = behind_mark s phases.Timed t marks.Semicolon
step_phase s phases.Timed t = after_timed s t
step_phase s (phases.Section section) t = after_section s section t
step_phase s (phases.Reported section) t = after_reported s section t
step_phase s (phases.Named section report name) t = after_named s section report name t
step_phase s (phases.Formula section report name f) t = after_formula s section report name f t

-- the reading with one more token
abbrev pub reading_step : Reading → Token → Option Reading
reading_step r t = step_phase r.script r.phase t

-- a script that may end in this phase
abbrev pub finish_phase : Script → Phase → Option Script
finish_phase s (phases.Section sections.Static) = Some s
finish_phase s (phases.Section sections.Dynamic) = Some s
finish_phase s _ = None

-- the tree of a whole script, or none
abbrev pub finish : Reading → Option Script
finish r = finish_phase r.script r.phase
