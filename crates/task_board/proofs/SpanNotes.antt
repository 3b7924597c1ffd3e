-- What is noted at the first steps of a span, and what is told of a span.
use Rattle.std.proofs.Common.{◌≡◌, ℕ, zero, suc, ◌+◌, ◌-◌, ◌<◌, ◌≤◌, ◌⊎◌, inl, inr, List, [], ◌∷◌, ◌++◌, drop, get_or, length, take, Option, Some, None, slice_get, slice_range}
use Rattle.std.proofs.Common.{refl, sym, ap, ◌∙◌, subst, arith, Result, Ok, Err}
use Rattle.std.specs.Prelude.{All, AllPairs, Contains}
use Rattle.std.proofs.lemmas.Bool.{cases_eq}
use Rattle.std.proofs.lemmas.List.{append_assoc, append-nil, get_or-drop, get_or-take, length-drop, length-take, take_all}
use Rattle.std.proofs.lemmas.List.Elements.{All-append, All-cons, All-contains, All-nil, Contains-append_left, Contains-append_right}
use Rattle.std.proofs.lemmas.Option.{slice_get_within}
use Rattle.tile_map.proofs.Callers.{length-tabulate}
use Rattle.map_meaning.specs.declared.known.Known.{Known}
use Rattle.map_meaning.specs.declared.known.OverAt.{OverAt}
use Rattle.map_meaning.specs.declared.known.Span.{Span}
use Rattle.map_meaning.specs.declared.known.Span.TheVariants as span
use Rattle.map_meaning.specs.declared.known.StepMap.{StepMap}
use Rattle.map_meaning.specs.declared.program.Operation.{Operation}
use Rattle.map_meaning.specs.declared.program.Program.{Program}
use Rattle.map_meaning.specs.Evaluation.{Done, nothing_done, operation_part, operation_values, section_maps}
use Rattle.map_meaning.specs.Laws.{TellTheLeastOver, TellsLeast}
use Rattle.map_meaning.specs.Limits.{most_block}
use Rattle.map_meaning.specs.Onward.{ComesBefore, Onward, note_of, onward}
use Rattle.map_meaning.specs.Overs.{over_at}
use Rattle.map_meaning.specs.Programs.{IsWellFormed, StandsBefore}
use Rattle.map_meaning.specs.Scenes.{Scene}
use Rattle.map_meaning.specs.Spans.{IsSpan, done_before, kept_map, kept_maps, scene_of, span_operations, stage_of, told_of}
use Rattle.block_meaning.specs.Blocks.{IsEarlier, IsFirstOf, OnwardSteps, TellsFirstNoted, kept_maps_of, onward_steps}
use Rattle.block_meaning.proofs.BlockLemmas.{tells_first}
use Rattle.task_tiles.specs.TaskTiles.{onward_done}
use Rattle.task_tiles.proofs.Callers.{notes_of, onward_count, onward_notes, span_reads, step_notes, steps_notes}
use Rattle.task_board.specs.inside.Collected.{first_maps, span_begin, step_count}
use Rattle.task_board.proofs.Lists.{take_snoc}

-- ---- the notes of the first steps

-- the scene of a step of a span
abbrev pub scene_at : Program → Span → Known → ℕ → Scene
scene_at program s known n = scene_of program.inputs known (span_begin s + n)

-- what is done at its end
abbrev pub done_at : Program → Span → Known → ℕ → Done
done_at program s known n = onward_done program s known (span_begin s + n)

-- what is noted at the first so many steps
abbrev pub first_notes : Program → Span → Known → ℕ → List OverAt
first_notes program s known zero = []
first_notes program s known (suc n) = first_notes program s known n ++ notes_of program (scene_at program s known n) (done_at program s known n) (span_operations program s)

-- an operation at one of the first steps is Over, first at this place
pub record IsOverAt (program : Program) (s : Span) (known : Known) (count : ℕ) (note : OverAt) : Type 0 where
  pub step : ℕ
  pub few : step < count
  pub number : ℕ
  pub operation : Operation
  pub there : slice_get (span_operations program s) number ≡ Some operation
  pub place : ℕ
  pub over : (operation_part program (scene_at program s known step) (done_at program s known step) operation).over ≡ Some place
  pub is : note ≡ over_at (scene_at program s known step) operation.statement operation.number place

-- what is Over is noted
note_in : (scene : Scene) (o : Operation) (over : Option ℕ) (place : ℕ) (more : List OverAt) → over ≡ Some place → Contains (note_of scene o over ++ more) (over_at scene o.statement o.number place)
note_in scene o None place more is = absurd (cc)
note_in scene o (Some k) place more is = let e : k ≡ place = cc in (0, omega arith, ap (over_at scene o.statement o.number) e)

notes_in : (program : Program) (scene : Scene) (e : Done) (os : List Operation) (k : ℕ) (o : Operation) (place : ℕ) → slice_get os k ≡ Some o → (operation_part program scene e o).over ≡ Some place →
    Contains (notes_of program scene e os) (over_at scene o.statement o.number place)
notes_in program scene e [] k o place there is = absurd (let lt = slice_get_within [] k o there in omega arith)
notes_in program scene e (x ∷ os) zero o place there is =
    let same : x ≡ o = cc in
    subst (λ (z : Operation). Contains (note_of scene z (operation_part program scene e z).over ++ notes_of program scene e os) (over_at scene o.statement o.number place)) (sym same)
    (note_in scene o (operation_part program scene e o).over place (notes_of program scene e os) is)
notes_in program scene e (x ∷ os) (suc k) o place there is =
    Contains-append_right (note_of scene x (operation_part program scene e x).over) (notes_of program scene e os) (over_at scene o.statement o.number place) (notes_in program scene e os k o place there is)

pub over_noted : (program : Program) (s : Span) (known : Known) (count n k : ℕ) (o : Operation) (place : ℕ) → n < count → slice_get (span_operations program s) k ≡ Some o →
    (operation_part program (scene_at program s known n) (done_at program s known n) o).over ≡ Some place →
    Contains (first_notes program s known count) (over_at (scene_at program s known n) o.statement o.number place)
over_noted program s known zero n k o place lt there is = absurd (omega arith)
over_noted program s known (suc count) n k o place lt there is =
    let before = first_notes program s known count in
    let own = notes_of program (scene_at program s known count) (done_at program s known count) (span_operations program s) in
    let note = over_at (scene_at program s known n) o.statement o.number place in
    elim (cases_eq n count) as (λ _. Contains (before ++ own) note) [
      | inl e ↦ Contains-append_right before own note (subst (λ (m : ℕ). Contains (notes_of program (scene_at program s known m) (done_at program s known m) (span_operations program s)) note) e
          (notes_in program (scene_at program s known n) (done_at program s known n) (span_operations program s) k o place there is))
      | inr ne ↦ Contains-append_left before own note (over_noted program s known count n k o place (omega arith) there is)
    ]

-- what is noted is Over
module _ (program : Program) (s : Span) (known : Known) (n count : ℕ) (lt : n < count) where
  abbrev At : OverAt → Type 0
  At note = IsOverAt program s known count note

  note_from : (k : ℕ) (o : Operation) (over : Option ℕ) → slice_get (span_operations program s) k ≡ Some o → (operation_part program (scene_at program s known n) (done_at program s known n) o).over ≡ over → All At (note_of (scene_at program s known n) o over)
  note_from k o None there is = All-nil At
  note_from k o (Some place) there is = All-cons At _ [] (record { step = n; few = lt; number = k; operation = o; there = there; place = place; over = is; is = refl }) (All-nil At)

  notes_from : (os : List Operation) (k : ℕ) → ((j : ℕ) (o : Operation) → slice_get os j ≡ Some o → slice_get (span_operations program s) (k + j) ≡ Some o) → All At (notes_of program (scene_at program s known n) (done_at program s known n) os)
  notes_from [] k among = All-nil At
  notes_from (o ∷ os) k among =
      let over = (operation_part program (scene_at program s known n) (done_at program s known n) o).over in
      All-append At (note_of (scene_at program s known n) o over) (notes_of program (scene_at program s known n) (done_at program s known n) os)
      (note_from (k + 0) o over (among 0 o refl) refl)
      (notes_from os (k + 1) (λ j x there. let e : k + suc j ≡ k + 1 + j = omega arith in sym (ap (slice_get (span_operations program s)) e) ∙ among (suc j) x there))

pub noted_over : (program : Program) (s : Span) (known : Known) (count m : ℕ) → m ≤ count → All (IsOverAt program s known count) (first_notes program s known m)
noted_over program s known count zero le = All-nil (IsOverAt program s known count)
noted_over program s known count (suc m) le =
    All-append (IsOverAt program s known count) (first_notes program s known m) (notes_of program (scene_at program s known m) (done_at program s known m) (span_operations program s))
    (noted_over program s known count m (omega arith))
    (notes_from program s known m count (omega arith) (span_operations program s) 0 (λ j o there. let e : 0 + j ≡ j = omega arith in ap (slice_get (span_operations program s)) e ∙ there))

-- ---- lists of steps

-- what each step has, one after the other
abbrev walk : {X : Type 0} → (ℕ → Done → List X) → ℕ → List Done → List X
walk f step [] = []
walk f step (d ∷ ds) = f step d ++ walk f (step + 1) ds

-- the same up to a step
abbrev walked : {X : Type 0} → (ℕ → Done → List X) → ℕ → (ℕ → Done) → ℕ → List X
walked f step e zero = []
walked f step e (suc n) = walked f step e n ++ f (step + n) (e n)

walk_snoc : {X : Type 0} (f : ℕ → Done → List X) (step : ℕ) (ds : List Done) (d : Done) → walk f step (ds ++ d ∷ []) ≡ walk f step ds ++ f (step + length ds) d
walk_snoc f step [] d = append-nil (f step d) ∙ ap (λ (n : ℕ). f n d) (omega arith)
walk_snoc f step (x ∷ ds) d =
    let e : step + 1 + length ds ≡ step + suc (length ds) = omega arith in
    ap (λ (l : List _). f step x ++ l) (walk_snoc f (step + 1) ds d ∙ ap (λ (n : ℕ). walk f (step + 1) ds ++ f n d) e)
    ∙ sym (append_assoc (f step x) (walk f (step + 1) ds) (f (step + suc (length ds)) d))

walk_take : {X : Type 0} (f : ℕ → Done → List X) (step : ℕ) (ds : List Done) (e : ℕ → Done) (n : ℕ) → n ≤ length ds → ((i : ℕ) → i < length ds → e i ≡ get_or ds i nothing_done) → walk f step (take n ds) ≡ walked f step e n
walk_take f step ds e zero le same = ap (walk f step) (none' ds)
  where
    none' : (xs : List Done) → take 0 xs ≡ []
    none' [] = refl
    none' (x ∷ xs) = refl
walk_take f step ds e (suc n) le same =
    let d = get_or ds n nothing_done in
    let size : length (take n ds) ≡ n = (let h = length-take n ds in omega arith) in
    let one : suc n ≡ n + 1 = omega arith in
    ap (λ (k : ℕ). walk f step (take k ds)) one
    ∙ ap (walk f step) (take_snoc ds n nothing_done (omega arith))
    ∙ walk_snoc f step (take n ds) d
    ∙ ap (λ (k : ℕ). walk f step (take n ds) ++ f (step + k) d) size
    ∙ ap (λ (l : List _). l ++ f (step + n) d) (walk_take f step ds e n (omega arith) same)
    ∙ ap (λ (x : Done). walked f step e n ++ f (step + n) x) (sym (same n (omega arith)))

module _ (program : Program) (first last : ℕ) (known : Known) where
  abbrev steps : List Done
  steps = (onward_steps program (span.Steps first last) known (done_before program (span.Steps first last) known) first (last + 1 - first)).steps

  done_is : (i : ℕ) → i < length steps → done_at program (span.Steps first last) known i ≡ get_or steps i nothing_done
  done_is i lt = let e : first + i - first ≡ i = omega arith in ap (λ (k : ℕ). get_or steps k nothing_done) e

  notes_walk : (step : ℕ) (ds : List Done) → step_notes program known step ds ≡ walk (λ k e. notes_of program (scene_of program.inputs known k) e program.dynamic) step ds
  notes_walk step [] = refl
  notes_walk step (d ∷ ds) = ap (λ (l : List OverAt). notes_of program (scene_of program.inputs known step) d program.dynamic ++ l) (notes_walk (step + 1) ds)

  maps_walk : (step : ℕ) (ds : List Done) → kept_maps_of program (span.Steps first last) step ds ≡ walk (λ k e. kept_maps k (section_maps (span.Steps first last) e) 0 program.dynamic) step ds
  maps_walk step [] = refl
  maps_walk step (d ∷ ds) = ap (λ (l : List StepMap). kept_maps step d.dynamic 0 program.dynamic ++ l) (maps_walk (step + 1) ds)

  notes_walked : (n : ℕ) → walked (λ k e. notes_of program (scene_of program.inputs known k) e program.dynamic) first (done_at program (span.Steps first last) known) n ≡ first_notes program (span.Steps first last) known n
  notes_walked zero = refl
  notes_walked (suc n) = ap (λ (l : List OverAt). l ++ notes_of program (scene_at program (span.Steps first last) known n) (done_at program (span.Steps first last) known n) program.dynamic) (notes_walked n)

  maps_walked : (n : ℕ) → walked (λ k e. kept_maps k (section_maps (span.Steps first last) e) 0 program.dynamic) first (done_at program (span.Steps first last) known) n ≡ first_maps program (span.Steps first last) known n
  maps_walked zero = refl
  maps_walked (suc n) = ap (λ (l : List StepMap). l ++ kept_maps (first + n) (done_at program (span.Steps first last) known n).dynamic 0 program.dynamic) (maps_walked n)

  maps_taken : (n : ℕ) → n ≤ last + 1 - first → kept_maps_of program (span.Steps first last) first (take n steps) ≡ first_maps program (span.Steps first last) known n
  maps_taken n le =
      let size = onward_count program (span.Steps first last) known (done_before program (span.Steps first last) known) first (last + 1 - first) in
      maps_walk first (take n steps)
      ∙ walk_take (λ k e. kept_maps k (section_maps (span.Steps first last) e) 0 program.dynamic) first steps (done_at program (span.Steps first last) known) n (omega arith) done_is
      ∙ maps_walked n

  maps_all : kept_maps_of program (span.Steps first last) first steps ≡ first_maps program (span.Steps first last) known (last + 1 - first)
  maps_all =
      let size = onward_count program (span.Steps first last) known (done_before program (span.Steps first last) known) first (last + 1 - first) in
      sym (ap (kept_maps_of program (span.Steps first last) first) (take_all (last + 1 - first) steps (omega arith))) ∙ maps_taken (last + 1 - first) (omega arith)

  notes_all : IsWellFormed program → (onward_steps program (span.Steps first last) known (done_before program (span.Steps first last) known) first (last + 1 - first)).notes ≡ first_notes program (span.Steps first last) known (last + 1 - first)
  notes_all well =
      let d = done_before program (span.Steps first last) known in
      let n : ℕ = last + 1 - first in
      let size = onward_count program (span.Steps first last) known d first n in
      steps_notes program first last known d first n refl well.step_operations
      ∙ sym (ap (step_notes program known first) (take_all n steps (omega arith)))
      ∙ notes_walk first (take n steps)
      ∙ walk_take (λ k e. notes_of program (scene_of program.inputs known k) e program.dynamic) first steps (done_at program (span.Steps first last) known) n (omega arith) done_is
      ∙ notes_walked n

-- ---- what is told

-- the Over is the first that is noted, and the maps are those of the steps before it
pub record IsTold (program : Program) (s : Span) (known : Known) (at : OverAt) (maps : List StepMap) : Type 0 where
  pub first : IsFirstOf (first_notes program s known (step_count s)) at
  pub maps_are : maps ≡ first_maps program s known (at.step - span_begin s)

abbrev pub AreTold : Program → Span → Known → Option OverAt → List StepMap → Type 0
AreTold program s known None maps = (first_notes program s known (step_count s) ≡ []) × (maps ≡ first_maps program s known (step_count s))
AreTold program s known (Some at) maps = IsTold program s known at maps

-- the step of what is noted is one of the span
pub told_step : (program : Program) (s : Span) (known : Known) (note : OverAt) → Contains (first_notes program s known (step_count s)) note → (span_begin s ≤ note.step) × (note.step - span_begin s < step_count s)
told_step program s known note h =
    let w = All-contains (IsOverAt program s known (step_count s)) (first_notes program s known (step_count s)) note (noted_over program s known (step_count s) (step_count s) (omega arith)) h in
    let e = ap (λ (x : OverAt). x.step) w.is in
    let few = w.few in (omega arith, omega arith)

steps_told_are : (program : Program) (first last : ℕ) (known : Known) (b : OnwardSteps) (over : Option OverAt) (maps : List StepMap) → IsWellFormed program →
    b ≡ onward_steps program (span.Steps first last) known (done_before program (span.Steps first last) known) first (last + 1 - first) →
    TellsFirstNoted program (span.Steps first last) first b over maps → AreTold program (span.Steps first last) known over maps
steps_told_are program first last known b None maps well is tells = (
  sym (ap (λ (x : OnwardSteps). x.notes) is ∙ notes_all program first last known well) ∙ tells.0,
  tells.1 ∙ ap (λ (x : OnwardSteps). kept_maps_of program (span.Steps first last) first x.steps) is ∙ maps_all program first last known,
)
steps_told_are program first last known b (Some at) maps well is tells =
    let same = ap (λ (x : OnwardSteps). x.notes) is ∙ notes_all program first last known well in
    let f : IsFirstOf (first_notes program (span.Steps first last) known (last + 1 - first)) at = subst (λ (l : List OverAt). IsFirstOf l at) same tells.0 in
    let few = told_step program (span.Steps first last) known at f.noted in
    record {
      first = f;
      maps_are = tells.1 ∙ ap (λ (x : OnwardSteps). kept_maps_of program (span.Steps first last) first (take (at.step - first) x.steps)) is ∙ maps_taken program first last known (at.step - first) (omega arith);
    }

-- operations of a stage stand in order
pairs_range : (os : List Operation) (first end : ℕ) → AllPairs StandsBefore os → AllPairs StandsBefore (slice_range os first end)
pairs_range os first end pairs i j d before below =
    let a = length-take (end - first) (drop first os) in
    let b = length-drop first os in
    let at = λ (k : ℕ) (lt : k < end - first). get_or-take (end - first) (drop first os) k d lt ∙ get_or-drop first os k d in
    subst (λ (x : Operation). StandsBefore x (get_or (slice_range os first end) j d)) (sym (at i (omega arith)))
    (subst (λ (x : Operation). StandsBefore (get_or os (first + i) d) x) (sym (at j (omega arith))) (pairs (first + i) (first + j) d (omega arith) (omega arith)))

stage_told : (program : Program) (first end : ℕ) (known : Known) (r : Result Done OverAt) (o : Onward) → o.done ≡ onward_done program (span.Initial first end) known 0 → o.notes ≡ first_notes program (span.Initial first end) known 1 → TellsLeast r o →
    AreTold program (span.Initial first end) known (told_of program (span.Initial first end) 0 r).over (told_of program (span.Initial first end) 0 r).maps
stage_told program first end known (Ok done) o is notes tells = (
  sym notes ∙ tells.0,
  ap (λ (d : Done). kept_maps 0 d.initial first (slice_range program.initial first end)) (sym tells.1 ∙ is),
)
stage_told program first end known (Err at) o is notes tells =
    let s : Span = span.Initial first end in
    let all = first_notes program s known 1 in
    let noted = subst (λ (l : List OverAt). Contains l at) notes tells.noted in
    let each = noted_over program s known 1 1 (omega arith) in
    let zero_step = λ (note : OverAt) (h : IsOverAt program s known 1 note). (let e = ap (λ (x : OverAt). x.step) h.is in let f = h.few in let z : note.step ≡ 0 = omega arith in z) in
    let own : at.step ≡ 0 = zero_step at (All-contains (IsOverAt program s known 1) all at each noted) in
    let none' : at.step - 0 ≡ 0 = omega arith in
    record {
      first = record {
        noted = noted;
        first = λ k d below. by_case (get_or all k d) (own ∙ sym (zero_step (get_or all k d) (each k d below))) (subst (λ (l : List OverAt). All (λ note. (note ≡ at) ⊎ ComesBefore at note) l) notes tells.least k d below);
      };
      maps_are = ap (first_maps program s known) (sym none');
    }
  where
    by_case : (note : OverAt) → at.step ≡ note.step → (note ≡ at) ⊎ ComesBefore at note → (note ≡ at) ⊎ IsEarlier at note
    by_case note e (inl same) = inl same
    by_case note e (inr before) = inr (inr (e, before))

pub stage_is_told : TellTheLeastOver → (program : Program) (s : Span) (known : Known) → IsWellFormed program → IsSpan program s most_block →
    AreTold program s known (stage_of program s known).over (stage_of program s known).maps
unfolding stage_of
stage_is_told law program (span.Initial first end) known well spans =
    let s : Span = span.Initial first end in
    let os = slice_range program.initial first end in
    let d = done_before program s known in
    let scene = scene_of program.inputs known 0 in
    stage_told program first end known (operation_values program scene s d os) (onward program scene s d os) refl
    (onward_notes program scene s first d os (sym (length-tabulate (kept_map known.initial) first)) (span_reads program s most_block well spans))
    (law program scene s d os (pairs_range program.initial first end well.order))
stage_is_told law program (span.Steps first last) known well spans =
    let d = done_before program (span.Steps first last) known in
    steps_told_are program first last known (onward_steps program (span.Steps first last) known d first (last + 1 - first)) _ _ well refl
    (tells_first law program (span.Steps first last) known well.step_order (last + 1 - first) first d)
