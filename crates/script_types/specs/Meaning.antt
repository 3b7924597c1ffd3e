-- What a script means: its settled statements, or its first fault.
use Rattle.std.specs.Prelude.{◌+◌, Bool, false, ◌||◌, ◌&&◌, List, [], ◌∷◌, ◌++◌, length, Option, Some, Result}
use Rattle.std.specs.Option.{is_some}
use Rattle.std.specs.Result.{is_err}
use Rattle.text_base.specs.Results.{◌>>=◌}
use Rattle.cell_values.specs.declared.kind.Kind.{Kind}
use Rattle.cell_values.specs.declared.kind.Kind.TheVariants.{Ldd}
use Rattle.cell_values.specs.inside.Reading.{cell_read}
use Rattle.script_syntax.specs.declared.tree.Binding.{Binding}
use Rattle.script_syntax.specs.declared.tree.Target.{Target}
use Rattle.script_syntax.specs.declared.tree.Target.TheVariants as target
use Rattle.script_syntax.specs.declared.tree.Script.{Script}
use Rattle.map_meaning.specs.Table.{is_kind}
use Rattle.script_types.specs.declared.fault.MeaningKind.TheVariants.{KindMismatch, NameClash}
use Rattle.script_types.specs.declared.fault.MeaningFault.{MeaningFault}
use Rattle.script_types.specs.declared.fault.Place.TheVariants as place
use Rattle.script_types.specs.declared.typed.Line.{Line}
use Rattle.script_types.specs.Checks.{passed}
use Rattle.script_types.specs.Names.{place_from, binding_of, is_assigned, is_bound_to_number}
use Rattle.script_types.specs.Statements.{all_lines}
use Rattle.script_types.specs.Reports.{files_read, report_checks}

-- a number that is no value of its kind, or that is given the kind of drain maps
abbrev pub is_bad_number : Target → Option Kind → Bool
is_bad_number (target.Number text) (Some kind) = is_kind Ldd kind || is_err (cell_read kind text)
is_bad_number _ _ = false

-- the tests of the entries of `binding` below these, in their order
abbrev pub binding_checks : List Binding → List Binding → List (MeaningFault × Bool)
binding_checks before [] = []
binding_checks before (b ∷ bs) =
    (record { at = place.Binding (length before + 1); kind = NameClash }, is_some (place_from 0 before b.name)) ∷
    (record { at = place.Binding (length before + 1); kind = KindMismatch }, is_bad_number b.target b.kind) ∷
    binding_checks (before ++ b ∷ []) bs

-- the tests of the area map, in their order: it names no number, and no binding that is assigned
abbrev pub area_checks : Option Binding → Bool → List (MeaningFault × Bool)
area_checks bound assigned =
    (record { at = place.Area; kind = KindMismatch }, is_bound_to_number bound) ∷
    (record { at = place.Area; kind = NameClash }, is_some bound && assigned) ∷
    []

-- The settled statements, or the first fault: of the bindings, the area map, the statements and the reports, in this order.
unfoldable pub meaning : Script → Result (List Line) MeaningFault
meaning script =
    passed (binding_checks [] script.bindings) script >>= λ s.
    passed (area_checks (binding_of s s.area) (is_assigned s s.area)) s >>= λ t.
    all_lines t >>= λ lines.
    passed (report_checks t.steps (binding_of t) (files_read t) 0 lines) lines
