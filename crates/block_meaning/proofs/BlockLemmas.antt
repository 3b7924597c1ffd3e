-- The first Over of several steps.
use Rattle.std.proofs.Common.{◌≡◌, ◌⊎◌, ℕ, zero, suc, ◌+◌, ◌-◌, ◌≤◌, List, [], ◌∷◌, ◌++◌, take, refl, sym, ap, subst, ◌∙◌, inl, inr, arith}
use Rattle.std.specs.Prelude.{All, AllPairs, Contains, Option, Some, None, Result, Ok, Err}
use Rattle.std.proofs.lemmas.List.Elements.{All-append, All-cons, All-contains, All-nil, All-weaker, Contains-append_left}
use Rattle.map_meaning.specs.declared.known.Known.{Known}
use Rattle.map_meaning.specs.declared.known.OverAt.{OverAt}
use Rattle.map_meaning.specs.declared.known.Span.{Span}
use Rattle.map_meaning.specs.declared.known.StageEnd.{StageEnd}
use Rattle.map_meaning.specs.declared.known.StepMap.{StepMap}
use Rattle.map_meaning.specs.declared.program.Operation.{Operation}
use Rattle.map_meaning.specs.declared.program.Program.{Program}
use Rattle.map_meaning.specs.Evaluation.{Done, operation_part, operation_values, with_map}
use Rattle.map_meaning.specs.Laws.{TellTheLeastOver, TellsLeast}
use Rattle.map_meaning.specs.Onward.{ComesBefore, note_of, onward}
use Rattle.map_meaning.specs.Programs.{StandsBefore}
use Rattle.map_meaning.specs.Scenes.{Scene}
use Rattle.map_meaning.specs.Spans.{done_next, scene_of, told_of, told_steps, told_then}
use Rattle.block_meaning.specs.Blocks.{IsEarlier, OnwardSteps, TellsFirstNoted, kept_maps_of, onward_steps}

-- ---- the steps of notes

-- the notes of one step are at this step
note_at : (scene : Scene) (o : Operation) (over : Option ℕ) (behind : List OverAt) → All (λ note. note.step ≡ scene.step) behind → All (λ note. note.step ≡ scene.step) (note_of scene o over ++ behind)
note_at scene o None behind all = all
note_at scene o (Some place) behind all = All-cons (λ note. note.step ≡ scene.step) _ behind refl all

notes_at : (program : Program) (scene : Scene) (s : Span) (operations : List Operation) (done : Done) → All (λ note. note.step ≡ scene.step) (onward program scene s done operations).notes
notes_at program scene s [] done = All-nil (λ (note : OverAt). note.step ≡ scene.step)
notes_at program scene s (o ∷ more) done =
    let part = operation_part program scene done o in
    note_at scene o part.over (onward program scene s (with_map s done part.cells) more).notes (notes_at program scene s more (with_map s done part.cells))

-- those of later steps are at later steps
notes_from : (program : Program) (s : Span) (known : Known) (more step : ℕ) (done : Done) → All (λ note. step ≤ note.step) (onward_steps program s known done step more).notes
notes_from program s known zero step done = All-nil (λ (note : OverAt). step ≤ note.step)
notes_from program s known (suc more) step done =
    let o = onward program (scene_of program.inputs known step) s done program.dynamic in
    let behind = onward_steps program s known (done_next o.done) (step + 1) more in
    All-append (λ (note : OverAt). step ≤ note.step) o.notes behind.notes
    (All-weaker (λ (note : OverAt). note.step ≡ step) (λ (note : OverAt). step ≤ note.step) (λ note e. omega arith) o.notes (notes_at program (scene_of program.inputs known step) s program.dynamic done))
    (All-weaker (λ (note : OverAt). step + 1 ≤ note.step) (λ (note : OverAt). step ≤ note.step) (λ note e. omega arith) behind.notes (notes_from program s known more (step + 1) (done_next o.done)))

-- ---- one step and those behind it

-- what is told behind a step that has no Over
behind_step : (program : Program) (s : Span) (step : ℕ) (done : Done) (b : OnwardSteps) (over : Option OverAt) (maps : List StepMap) → All (λ note. step + 1 ≤ note.step) b.notes → TellsFirstNoted program s (step + 1) b over maps →
    TellsFirstNoted program s step (record { steps = done ∷ b.steps; notes = b.notes }) over ((told_of program s step (Ok done)).maps ++ maps)
behind_step program s step done b None maps later tells = (tells.0, ap (λ (xs : List StepMap). (told_of program s step (Ok done)).maps ++ xs) tells.1)
behind_step program s step done b (Some at) maps later tells =
    let from : step + 1 ≤ at.step = All-contains (λ (note : OverAt). step + 1 ≤ note.step) b.notes at later tells.0.noted in
    let more : at.step - step ≡ suc (at.step - (step + 1)) = omega arith in (
      tells.0,
      ap (λ (xs : List StepMap). (told_of program s step (Ok done)).maps ++ xs) tells.1 ∙ ap (λ (n : ℕ). kept_maps_of program s step (take n (done ∷ b.steps))) (sym more),
    )

-- an Over of the step itself is the first one
at_step : (program : Program) (s : Span) (step : ℕ) (done : Done) (notes : List OverAt) (b : OnwardSteps) (at : OverAt) → All (λ note. note.step ≡ step) notes → All (λ note. step + 1 ≤ note.step) b.notes → Contains notes at → All (λ note. (note ≡ at) ⊎ ComesBefore at note) notes →
    TellsFirstNoted program s step (record { steps = done ∷ b.steps; notes = notes ++ b.notes }) (Some at) []
at_step program s step done notes b at here later noted least =
    let own : at.step ≡ step = All-contains (λ (note : OverAt). note.step ≡ step) notes at here noted in
    let none : at.step - step ≡ zero = omega arith in
    let P : OverAt → Type 0 = λ note. (note ≡ at) ⊎ IsEarlier at note in (
      record {
        noted = Contains-append_left notes b.notes at noted;
        first = All-append P notes b.notes
            (λ k d below. by_case (least k d below) (own ∙ sym (here k d below)))
            (All-weaker (λ (note : OverAt). step + 1 ≤ note.step) P (λ note from. inr (inl (omega arith))) b.notes later);
      },
      ap (λ (n : ℕ). kept_maps_of program s step (take n (done ∷ b.steps))) (sym none),
    )
  where
    by_case : {note : OverAt} → (note ≡ at) ⊎ ComesBefore at note → at.step ≡ note.step → (note ≡ at) ⊎ IsEarlier at note
    by_case (inl same) e = inl same
    by_case (inr before) e = inr (inr (e, before))

-- either of both
then_tells : (program : Program) (s : Span) (step : ℕ) (r : Result Done OverAt) (done : Done) (notes : List OverAt) (b : Done → OnwardSteps) (later : Done → StageEnd) → TellsLeast r (record { done = done; notes = notes }) → All (λ note. note.step ≡ step) notes →
    ((d : Done) → All (λ note. step + 1 ≤ note.step) (b d).notes) → ((d : Done) → TellsFirstNoted program s (step + 1) (b d) (later d).over (later d).maps) →
    TellsFirstNoted program s step (record { steps = done ∷ (b done).steps; notes = notes ++ (b done).notes }) (told_then program s step r later).over (told_then program s step r later).maps
then_tells program s step (Ok d) done notes b later least here from tells =
    let of = λ (x : Done) (ns : List OverAt). TellsFirstNoted program s step (record { steps = x ∷ (b x).steps; notes = ns ++ (b x).notes }) (later d).over ((told_of program s step (Ok d)).maps ++ (later d).maps) in
    subst (λ (ns : List OverAt). of done ns) (sym least.0) (subst (λ (x : Done). of x []) (sym least.1) (behind_step program s step d (b d) (later d).over (later d).maps (from d) (tells d)))
then_tells program s step (Err at) done notes b later least here from tells =
    at_step program s step done notes (b done) at here (from done) least.noted least.least

pub tells_first : TellTheLeastOver → (program : Program) (s : Span) (known : Known) → AllPairs StandsBefore program.dynamic → (more step : ℕ) (done : Done) →
    TellsFirstNoted program s step (onward_steps program s known done step more) (told_steps program s known done step more).over (told_steps program s known done step more).maps
tells_first law program s known pairs zero step done = (refl, refl)
tells_first law program s known pairs (suc more) step done =
    let scene = scene_of program.inputs known step in
    let o = onward program scene s done program.dynamic in
    then_tells program s step (operation_values program scene s done program.dynamic) o.done o.notes
    (λ d. onward_steps program s known (done_next d) (step + 1) more) (λ d. told_steps program s known (done_next d) (step + 1) more)
    (law program scene s done program.dynamic pairs) (notes_at program scene s program.dynamic done)
    (λ d. notes_from program s known more (step + 1) (done_next d)) (λ d. tells_first law program s known pairs more (step + 1) (done_next d))
