-- What an evaluation that goes on has at its end: of each operation the map that it gives over all that is done then.
use Rattle.std.proofs.Common.{◌≡◌, ℕ, zero, suc, ◌+◌, ◌-◌, ◌<◌, ◌≤◌, refl, sym, ap, ◌∙◌, subst, arith}
use Rattle.std.proofs.Common.{List, [], ◌∷◌, ◌++◌, drop, get_or, length, slice_get, slice_range, Some}
use Rattle.std.specs.Prelude.{⊤}
use Rattle.std.proofs.lemmas.List.{get_or-drop, get_or-take, length-drop, length-take}
use Rattle.std.proofs.lemmas.Option.{get_or_from_slice_get, slice_get-get_or, slice_get_within}
use Rattle.task_graph.proofs.Callers.{order_drop, order_take}
use Rattle.tile_map.proofs.Callers.{length-tabulate}
use Rattle.map_meaning.specs.declared.known.Known.{Known}
use Rattle.map_meaning.specs.declared.known.OverAt.{OverAt}
use Rattle.map_meaning.specs.declared.known.Span.{Span}
use Rattle.map_meaning.specs.declared.known.Span.TheVariants as span
use Rattle.map_meaning.specs.declared.program.Operation.{Operation}
use Rattle.map_meaning.specs.declared.program.Program.{Program}
use Rattle.map_meaning.specs.Evaluation.{Done, nothing_done, operation_part, section_maps}
use Rattle.map_meaning.specs.Maps.{nth}
use Rattle.map_meaning.specs.Onward.{onward}
use Rattle.map_meaning.specs.Programs.{AreOperations, AreStepOperations, IsWellFormed}
use Rattle.map_meaning.specs.Limits.{most_block}
use Rattle.map_meaning.specs.Spans.{IsSpan, done_before, done_next, first_operation, kept_map, scene_of, span_operations}
use Rattle.block_meaning.specs.Blocks.{onward_steps}
use Rattle.task_graph.specs.Plans.{PlanValue}
use Rattle.task_tiles.specs.TaskTiles.{IsPlanned, onward_done, span_section}
use Rattle.task_tiles.proofs.OnwardLemmas.{AreReadBefore, notes_of, onward_map, onward_notes}

-- ---- steps one after the other

-- what is done before the step with this place among some
abbrev pub before_step : Done → List Done → ℕ → Done
before_step d steps zero = d
before_step d steps (suc i) = done_next (get_or steps i nothing_done)

-- behind the first of them
before_rest : (d x : Done) (rest : List Done) (i : ℕ) → before_step (done_next x) rest i ≡ before_step d (x ∷ rest) (suc i)
before_rest d x rest zero = refl
before_rest d x rest (suc i) = refl

-- each step goes on from what is done before it
pub onward_step : (program : Program) (s : Span) (known : Known) (d : Done) (step more i : ℕ) → i < more →
    get_or (onward_steps program s known d step more).steps i nothing_done
    ≡ (onward program (scene_of program.inputs known (step + i)) s (before_step d (onward_steps program s known d step more).steps i) program.dynamic).done
onward_step program s known d step zero i lt = absurd (omega arith)
onward_step program s known d step (suc more) zero lt = ap (λ (k : ℕ). (onward program (scene_of program.inputs known k) s d program.dynamic).done) (omega arith)
onward_step program s known d step (suc more) (suc i) lt =
    let x = (onward program (scene_of program.inputs known step) s d program.dynamic).done in
    let rest = (onward_steps program s known (done_next x) (step + 1) more).steps in
    let same : step + 1 + i ≡ step + suc i = omega arith in
    onward_step program s known (done_next x) (step + 1) more i (omega arith)
    ∙ ap (λ (k : ℕ). (onward program (scene_of program.inputs known k) s (before_step (done_next x) rest i) program.dynamic).done) same
    ∙ ap (λ (b : Done). (onward program (scene_of program.inputs known (step + suc i)) s b program.dynamic).done) (before_rest d x rest i)

-- so many steps have so many ends
pub onward_count : (program : Program) (s : Span) (known : Known) (d : Done) (step more : ℕ) → length (onward_steps program s known d step more).steps ≡ more
onward_count program s known d step zero = refl
onward_count program s known d step (suc more) =
    let x = (onward program (scene_of program.inputs known step) s d program.dynamic).done in
    let e = onward_count program s known (done_next x) (step + 1) more in omega arith

-- no step has maps of its own before it
before_none : (d : Done) (steps : List Done) (i : ℕ) → d.dynamic ≡ [] → (before_step d steps i).dynamic ≡ []
before_none d steps zero none' = none'
before_none d steps (suc i) none' = refl

-- the notes of steps, where this is done at the end of each
abbrev pub step_notes : Program → Known → ℕ → List Done → List OverAt
step_notes program known step [] = []
step_notes program known step (e ∷ more) = notes_of program (scene_of program.inputs known step) e program.dynamic ++ step_notes program known (step + 1) more

-- the notes are those of each operation at each step
pub steps_notes : (program : Program) (first last : ℕ) (known : Known) (d : Done) (step more : ℕ) → d.dynamic ≡ [] → AreStepOperations program 0 program.dynamic →
    (onward_steps program (span.Steps first last) known d step more).notes ≡ step_notes program known step (onward_steps program (span.Steps first last) known d step more).steps
steps_notes program first last known d step zero none' reads = refl
steps_notes program first last known d step (suc more) none' reads =
    let s : Span = span.Steps first last in
    let scene = scene_of program.inputs known step in
    let o = onward program scene s d program.dynamic in
    let behind = onward_steps program s known (done_next o.done) (step + 1) more in
    ap (λ (l : List OverAt). l ++ behind.notes) (onward_notes program scene s 0 d program.dynamic (ap length (sym none')) reads)
    ∙ ap (λ (l : List OverAt). notes_of program scene o.done program.dynamic ++ l) (steps_notes program first last known (done_next o.done) (step + 1) more refl reads)

-- ---- a span

-- the step is one of the span's; a stage of `initial` is the step 0
abbrev pub IsStepOf : Span → ℕ → Type 0
IsStepOf (span.Initial first end) step = step ≡ 0
IsStepOf (span.Steps first last) step = (first ≤ step) × (step ≤ last)

-- the operation with this number is one of the span's
abbrev pub IsAmong : Span → ℕ → Type 0
IsAmong (span.Initial first end) n = (first ≤ n) × (n < end)
IsAmong (span.Steps first last) n = ⊤

-- what is done at the end of a step of a span goes on from what was done before it, by the span's operations
pub record ComesFrom (program : Program) (s : Span) (known : Known) (step : ℕ) : Type 0 where
  pub before : Done
  pub count : first_operation s ≡ length (section_maps s before)
  pub is : onward_done program s known step ≡ (onward program (scene_of program.inputs known step) s before (span_operations program s)).done

pub comes_from : (program : Program) (s : Span) (known : Known) (step : ℕ) → IsStepOf s step → ComesFrom program s known step
comes_from program (span.Initial first end) known step at = record {
  before = done_before program (span.Initial first end) known;
  count = sym (length-tabulate (kept_map known.initial) first);
  is = ap (λ (k : ℕ). (onward program (scene_of program.inputs known k) (span.Initial first end) (done_before program (span.Initial first end) known) (slice_range program.initial first end)).done) (sym at);
}
comes_from program (span.Steps first last) known step at =
    let s : Span = span.Steps first last in
    let d = done_before program s known in
    let steps = (onward_steps program s known d first (last + 1 - first)).steps in
    let same : first + (step - first) ≡ step = omega arith in
    record {
      before = before_step d steps (step - first);
      count = ap length (sym (before_none d steps (step - first) refl));
      is = onward_step program s known d first (last + 1 - first) (step - first) (omega arith)
          ∙ ap (λ (k : ℕ). (onward program (scene_of program.inputs known k) s (before_step d steps (step - first)) program.dynamic).done) same;
    }

-- the first of some steps goes on from what is done before the span
pub done_first : (program : Program) (first last : ℕ) (known : Known) → first ≤ last →
    onward_done program (span.Steps first last) known first
    ≡ (onward program (scene_of program.inputs known first) (span.Steps first last) (done_before program (span.Steps first last) known) program.dynamic).done
done_first program first last known order =
    let s : Span = span.Steps first last in
    let d = done_before program s known in
    let steps = (onward_steps program s known d first (last + 1 - first)).steps in
    let none' : first - first ≡ 0 = omega arith in
    let same : first + 0 ≡ first = omega arith in
    ap (λ (i : ℕ). get_or steps i nothing_done) none'
    ∙ onward_step program s known d first (last + 1 - first) 0 (omega arith)
    ∙ ap (λ (k : ℕ). (onward program (scene_of program.inputs known k) s d program.dynamic).done) same

-- each other one goes on from the step before: its `last` has the maps of that one
pub done_later : (program : Program) (first last step : ℕ) (known : Known) → first ≤ step → step < last →
    onward_done program (span.Steps first last) known (step + 1)
    ≡ (onward program (scene_of program.inputs known (step + 1)) (span.Steps first last) (done_next (onward_done program (span.Steps first last) known step)) program.dynamic).done
done_later program first last step known from before =
    let s : Span = span.Steps first last in
    let d = done_before program s known in
    let steps = (onward_steps program s known d first (last + 1 - first)).steps in
    let next : step + 1 - first ≡ suc (step - first) = omega arith in
    let same : first + suc (step - first) ≡ step + 1 = omega arith in
    ap (λ (i : ℕ). get_or steps i nothing_done) next
    ∙ onward_step program s known d first (last + 1 - first) (suc (step - first)) (omega arith)
    ∙ ap (λ (k : ℕ). (onward program (scene_of program.inputs known k) s (done_next (get_or steps (step - first) nothing_done)) program.dynamic).done) same

-- the operations of a span read what stands before them
pub span_reads : (program : Program) (s : Span) (block : ℕ) → IsWellFormed program → IsSpan program s block → AreReadBefore program s (first_operation s) (span_operations program s)
span_reads program (span.Initial first end) block well spans =
    order_take program (end - first) first (drop first program.initial) (subst (λ (n : ℕ). AreOperations program n (drop first program.initial)) (omega arith) (order_drop program first 0 program.initial well.operations))
span_reads program (span.Steps first last) block well spans = well.step_operations

-- an operation among the span's, by its number
span_place : (program : Program) (s : Span) (n : ℕ) (o : Operation) → IsAmong s n → slice_get (span_section program s) n ≡ Some o →
    (k : ℕ) × (first_operation s + k ≡ n) × (slice_get (span_operations program s) k ≡ Some o)
span_place program (span.Initial first end) n o among there =
    let os : List Operation = program.initial in
    let lt = slice_get_within os n o there in
    let at : first + (n - first) ≡ n = omega arith in
    let few : n - first < length (slice_range os first end) = (let a = length-take (end - first) (drop first os) in let b = length-drop first os in omega arith) in (
      n - first,
      at,
      slice_get-get_or (slice_range os first end) (n - first) o few
          ∙ ap Some (get_or-take (end - first) (drop first os) (n - first) o (omega arith) ∙ get_or-drop first os (n - first) o ∙ ap (λ (k : ℕ). get_or os k o) at ∙ get_or_from_slice_get os n o o there),
    )
span_place program (span.Steps first last) n o among there = (n, omega arith, there)

-- the map that an operation has at the end of a step of the span is what it gives over all that is done then
pub done_map : (plan : PlanValue) (s : Span) (program : Program) (known : Known) (step n : ℕ) (o : Operation) → IsPlanned plan s program known → IsStepOf s step → IsAmong s n → slice_get (span_section program s) n ≡ Some o →
    nth (section_maps s (onward_done program s known step)) n ≡ (operation_part program (scene_of program.inputs known step) (onward_done program s known step) o).cells
done_map plan s program known step n o planned at among there =
    let f = comes_from program s known step at in
    let scene = scene_of program.inputs known step in
    let p = span_place program s n o among there in
    let e = (onward program scene s f.before (span_operations program s)).done in
    let here = onward_map program scene s (first_operation s) f.before (span_operations program s) p.0 o f.count (span_reads program s most_block planned.well_formed planned.spans) p.2 in
    subst (λ (k : ℕ). nth (section_maps s (onward_done program s known step)) k ≡ (operation_part program scene (onward_done program s known step) o).cells) p.1
    (subst (λ (x : Done). nth (section_maps s x) (first_operation s + p.0) ≡ (operation_part program scene x o).cells) (sym f.is) here)
