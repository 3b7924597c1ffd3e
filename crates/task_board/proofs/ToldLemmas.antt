-- A finished board has noted the Over that is told.
use Rattle.std.proofs.Common.{◌≡◌, ℕ, ◌+◌, ◌*◌, ◌<◌, ◌≤◌, ◌⊎◌, inl, inr, ⊎_elim, List, [], length, take, Option, Some, None, IfSome, slice_get, refl, sym, ap, ◌∙◌, subst, arith}
use Rattle.std.specs.Prelude.{Contains}
use Rattle.std.proofs.lemmas.List.Elements.{All-contains}
use Rattle.core_model.specs.Cores.{Status, published}
use Rattle.tile_map.specs.declared.part.Part.{Part}
use Rattle.tile_map.specs.declared.tiling.Tiling.{Tiling}
use Rattle.tile_map.specs.Parts.{TellsFirstOver, first_over}
use Rattle.tile_map.specs.Rects.{place_in}
use Rattle.tile_map.specs.Tiles.{rect_of, tile_at, tile_count}
use Rattle.tile_map.proofs.Callers.{is_part-part_of, tile_of_place}
use Rattle.tile_cuts.specs.TileParts.{part_in}
use Rattle.map_meaning.specs.declared.known.Known.{Known}
use Rattle.map_meaning.specs.declared.known.OverAt.{OverAt}
use Rattle.map_meaning.specs.declared.known.Span.{Span}
use Rattle.map_meaning.specs.declared.known.StepMap.{StepMap}
use Rattle.map_meaning.specs.declared.program.Operation.{Operation}
use Rattle.map_meaning.specs.declared.program.Program.{Program}
use Rattle.map_meaning.specs.Evaluation.{Done, operation_part, outcome_at}
use Rattle.map_meaning.specs.Laws.{TellTheLeastOver}
use Rattle.map_meaning.specs.Overs.{over_at}
use Rattle.map_meaning.specs.Spans.{first_operation, span_operations, stage_of}
use Rattle.block_meaning.specs.Blocks.{IsEarlier, IsFirstOf}
use Rattle.task_graph.specs.declared.class.Class.{Class}
use Rattle.task_graph.specs.declared.class.Class.TheVariants as class
use Rattle.task_graph.specs.declared.task.Task.{Task}
use Rattle.task_graph.specs.declared.task.Work.{Work}
use Rattle.task_graph.specs.declared.task.Work.TheVariants.{Local, Window, Near, Partial, Merge, Spread, Flow}
use Rattle.task_graph.specs.Classes.{before_value, op_class}
use Rattle.task_graph.specs.Counts.{tasks_of}
use Rattle.task_graph.specs.Layouts.{tasks_in}
use Rattle.task_graph.specs.Plans.{PlanValue, task_at, value_work}
use Rattle.plan_graph.specs.PlanGraphs.{PlanGraphValue}
use Rattle.task_tiles.specs.TaskTiles.{IsPlanned, IsWorkTile, onward_done, span_section, tile_part}
use Rattle.task_tiles.specs.declared.tile.Tile.TheVariants as tile
use Rattle.task_board.specs.inside.Collected.{first_maps, span_begin, step_count, steps_told}
use Rattle.task_board.specs.inside.Held.{IsBoard, Parts, state_in}
use Rattle.task_board.specs.inside.Noted.{IsBefore, IsFirstNoted, IsNotBefore, Notes, note_by, part_note, place_note}
use Rattle.task_board.proofs.NoteLemmas.{over_below, tile_notes, work_note}
use Rattle.task_board.proofs.PartOvers.{map_tells, places_in_order, tile_tells}
use Rattle.task_board.proofs.SpanNotes.{AreTold, IsOverAt, done_at, first_notes, noted_over, over_noted, scene_at, stage_is_told, told_step}
use Rattle.task_board.proofs.SpanTasks.{laid_before, section_at, task_place, value_task}

-- the part of a whole map, in a tiling's numbers of rows and columns
part_first : (program : Program) (s : Span) (known : Known) (n : ℕ) (o : Operation) (places : ℕ) → places ≡ known.rows * known.cols →
    TellsFirstOver (outcome_at program (scene_at program s known n) (done_at program s known n) o) places (operation_part program (scene_at program s known n) (done_at program s known n) o).over
unfolding operation_part
part_first program s known n o places e =
    let outcome = outcome_at program (scene_at program s known n) (done_at program s known n) o in
    subst (λ (k : ℕ). TellsFirstOver outcome k (first_over outcome (known.rows * known.cols))) (sym e) (is_part-part_of outcome (known.rows * known.cols)).over

-- a value's work is that of a part
value_is : (program : Program) (known : Known) (g : Tiling) (step : ℕ) (done : Done) (o : Operation) (c : Class) (n : ℕ) → IsWorkTile program known g step done o (value_work c) n (tile.Part (tile_part program known step done o (rect_of g n)))
value_is program known g step done o class.Local n = refl
value_is program known g step done o class.Window n = refl
value_is program known g step done o class.Near n = refl
value_is program known g step done o class.Area n = refl
value_is program known g step done o class.Flow n = refl

-- what a work that notes something does
noting : (program : Program) (known : Known) (g : Tiling) (task : Task) (done : Done) (o : Operation) (w : Work) (note : OverAt) → work_note program known g task done o w ≡ Some note →
    part_note g task.step o task.tile (tile_part program known task.step done o (rect_of g task.tile)).over ≡ Some note
noting program known g task done o Local note e = e
noting program known g task done o Window note e = e
noting program known g task done o Near note e = e
noting program known g task done o Partial note e = absurd (cc)
noting program known g task done o Merge note e = absurd (cc)
noting program known g task done o Spread note e = e
noting program known g task done o Flow note e = e

some_number : (g : Tiling) (step : ℕ) (o : Operation) (n : ℕ) (over : Option ℕ) (note : OverAt) → part_note g step o n over ≡ Some note → (number : ℕ) × (over ≡ Some number) × (note ≡ place_note g.cols step o (place_in g.cols (rect_of g n) number))
some_number g step o n None note e = absurd (cc)
some_number g step o n (Some number) note e = (number, refl, cc)

-- two notes of one operation at one step
record AreOfOne (x y : OverAt) : Type 0 where
  step : x.step ≡ y.step
  statement : x.statement ≡ y.statement
  operation : x.operation ≡ y.operation

-- before one of an operation, before all of it
earlier_both : (at x y : OverAt) → IsEarlier at x → AreOfOne x y → IsBefore at y
earlier_both at x y e one =
    let a = one.step in let b = one.statement in let c = one.operation in
    ⊎_elim (λ k. inl (omega arith))
    (λ k. inr (k.0 ∙ a, ⊎_elim (λ l. inl (omega arith)) (λ l. inr (l.0 ∙ b, inl (let m = l.1 in omega arith))) k.1))
    e

-- what is told, by the first of all notes
pub record IsToldAs (program : Program) (s : Span) (known : Known) (over told : Option OverAt) (maps : List StepMap) : Type 0 where
  pub over_is : told ≡ over
  pub maps_are : maps ≡ first_maps program s known (steps_told s over)
  pub few : steps_told s over ≤ step_count s
  pub begins : IfSome over (λ at. span_begin s ≤ at.step)

module _ (p : PlanGraphValue) (program : Program) (known : Known) (planned : IsPlanned p.plan p.span program known) (tasks : p.tasks ≡ length p.plan.tasks) where
  -- an operation that is Over is noted by a task
  pub noting_task : (n k : ℕ) (o : Operation) (place : ℕ) → n < step_count p.span → slice_get (span_operations program p.span) k ≡ Some o →
      (operation_part program (scene_at program p.span known n) (done_at program p.span known n) o).over ≡ Some place →
      (t : ℕ) × (t < p.tasks) × Notes p program known t (over_at (scene_at program p.span known n) o.statement o.number place)
  noting_task n k o place lt there over =
      let g : Tiling = p.plan.tiling in
      let s : Span = p.span in
      let step : ℕ = span_begin s + n in
      let done = done_at program s known n in
      let outcome = outcome_at program (scene_at program s known n) done o in
      let rows = planned.rows in let cols = planned.cols in
      let places : g.rows * g.cols ≡ known.rows * known.cols = ap (λ (r : ℕ). r * g.cols) rows ∙ ap (λ (c : ℕ). known.rows * c) cols in
      let first : TellsFirstOver outcome (g.rows * g.cols) (Some place) = subst (TellsFirstOver outcome (g.rows * g.cols)) over (part_first program s known n o (g.rows * g.cols) places) in
      let own = tile_of_place g place first.0 in
      let tile' : ℕ = tile_at g place in
      let r = rect_of g tile' in
      let tells = tile_tells g outcome place first in
      let v = subst (λ (q : PlanValue). let t = tasks_in (tile_count g) (laid_before program s n) + tasks_of (tile_count g) (take k (span_operations program s)) + before_value (tile_count g) (op_class o.op) + tile' in
      (t < length q.tasks) × (task_at q t ≡ record { step = step; operation = first_operation s + k; work = value_work (op_class o.op); tile = tile' })) (sym planned.plans) (value_task program s g n k o tile' lt there own.0) in
      let t : ℕ = tasks_in (tile_count g) (laid_before program s n) + tasks_of (tile_count g) (take k (span_operations program s)) + before_value (tile_count g) (op_class o.op) + tile' in
      let task : Task = record { step = step; operation = first_operation s + k; work = value_work (op_class o.op); tile = tile' } in
      let part : Part = tile_part program known step done o r in
      let section = section_at program s k o there in
      let below = v.0 in
      let told : part.over ≡ Some tells.0 = ap (λ (c : ℕ). (part_in c r outcome).over) (sym cols) ∙ tells.1 in (
        t,
        (omega arith),
        record {
          tile = tile.Part part;
          own = record {
            operation = o;
            there = ap (λ (z : Task). slice_get (span_section program s) z.operation) v.1 ∙ section.1;
            is = subst (λ (z : Task). IsWorkTile program known g z.step (onward_done program s known z.step) o z.work z.tile (tile.Part part)) (sym v.1) (value_is program known g step done o (op_class o.op) tile');
          };
          is = ap (λ (z : Task). note_by g z (slice_get (span_section program s) z.operation) (tile.Part part)) v.1
              ∙ ap (λ (x : Option Operation). note_by g task x (tile.Part part)) section.1
              ∙ ap (part_note g step o tile') told
              ∙ ap (λ (q : ℕ). Some (place_note g.cols step o q)) tells.2
              ∙ ap (λ (c : ℕ). Some (place_note c step o place)) cols;
        },
      )

  -- what a task notes is a place of an operation that is Over, at its first one or behind it
  noted_task : (t : ℕ) (note : OverAt) → t < p.tasks → Notes p program known t note →
      (first : OverAt) × IsOverAt program p.span known (step_count p.span) first × ((first ≡ note) ⊎ IsBefore first note) × AreOfOne first note
  noted_task t note lt notes =
      let g : Tiling = p.plan.tiling in
      let s : Span = p.span in
      let task : Task = task_at p.plan t in
      let at = task_place p.plan s program t planned.plans (omega arith) in
      let o : Operation = at.operation in
      let step : ℕ = span_begin s + at.step in
      let r = rect_of g task.tile in
      let done = done_at program s known at.step in
      let outcome = outcome_at program (scene_at program s known at.step) done o in
      let rows = planned.rows in let cols = planned.cols in
      let places : g.rows * g.cols ≡ known.rows * known.cols = ap (λ (k : ℕ). k * g.cols) rows ∙ ap (λ (c : ℕ). known.rows * c) cols in
      let some : 0 < g.cols = (let k = planned.knows.some_cols in omega arith) in
      let same : notes.own.operation ≡ o =
      let e : Some notes.own.operation ≡ Some o = sym notes.own.there ∙ ap (slice_get (span_section program s)) at.number_is ∙ (section_at program s at.place o at.there).1 in cc in
      let told = noting program known g task (onward_done program s known task.step) notes.own.operation task.work note (sym (tile_notes p program known t notes.tile notes.own) ∙ notes.is) in
      let part : part_note g step o task.tile (tile_part program known step done o r).over ≡ Some note =
      subst (λ (k : ℕ). part_note g k o task.tile (tile_part program known k (onward_done program s known k) o r).over ≡ Some note) at.step_is
      (subst (λ (x : Operation). part_note g task.step x task.tile (tile_part program known task.step (onward_done program s known task.step) x r).over ≡ Some note) same told) in
      let number = some_number g step o task.tile (tile_part program known step done o r).over note part in
      let over : (part_in g.cols r outcome).over ≡ Some number.0 = ap (λ (c : ℕ). (part_in c r outcome).over) cols ∙ number.1 in
      let whole = map_tells g outcome task.tile number.0 (operation_part program (scene_at program s known at.step) done o).over at.tile_few (over_below g.cols number.0 r outcome over) over (part_first program s known at.step o (g.rows * g.cols) places) in
      let first : OverAt = over_at (scene_at program s known at.step) o.statement o.number whole.0 in
      let first_is : place_note g.cols step o whole.0 ≡ first = ap (λ (c : ℕ). place_note c step o whole.0) cols in (
        first,
        record { step = at.step; few = at.few; number = at.place; operation = o; there = at.there; place = whole.0; over = whole.1; is = refl },
        subst (λ (x : OverAt). (x ≡ note) ⊎ IsBefore x note) first_is
            (subst (λ (x : OverAt). (place_note g.cols step o whole.0 ≡ x) ⊎ IsBefore (place_note g.cols step o whole.0) x) (sym number.2)
            (places_in_order g.cols step o whole.0 (place_in g.cols r number.0) some whole.2)),
        subst (AreOfOne first) (sym number.2) (record { step = refl; statement = refl; operation = refl }),
      )

  module _ (law : TellTheLeastOver) (status : ℕ → Status) (finished : (t : ℕ) → t < p.tasks → status t ≡ published) where
    -- what is Over is noted
    over_in : (x : OverAt) → IsOverAt program p.span known (step_count p.span) x → Contains (first_notes program p.span known (step_count p.span)) x
    over_in x w = subst (Contains (first_notes program p.span known (step_count p.span))) (sym w.is) (over_noted program p.span known (step_count p.span) w.step w.number w.operation w.place w.few w.there w.over)

    -- nothing is Over, and nothing was noted
    none_told : (over : Option OverAt) → IsFirstNoted p program known status over → first_notes program p.span known (step_count p.span) ≡ [] → None ≡ over
    none_told None n none' = refl
    none_told (Some at) n none' =
        let w = n.noted in
        let f = noted_task w.0 at w.1 w.3 in
        let c : Contains (first_notes program p.span known (step_count p.span)) f.0 = over_in f.0 f.1 in
        let d = subst (λ (l : List OverAt). Contains l f.0) none' c in
        absurd (let lt = d.1 in omega arith)

    -- what is told first was noted
    some_told : (at : OverAt) (over : Option OverAt) → IsFirstNoted p program known status over → IsFirstOf (first_notes program p.span known (step_count p.span)) at → Some at ≡ over
    some_told at over n first =
        let all = first_notes program p.span known (step_count p.span) in
        let w = All-contains (IsOverAt program p.span known (step_count p.span)) all at (noted_over program p.span known (step_count p.span) (step_count p.span) (omega arith)) first.noted in
        let t = noting_task w.step w.number w.operation w.place w.few w.there w.over in
        let notes : Notes p program known t.0 at = subst (Notes p program known t.0) (sym w.is) t.2 in
        told_by over n (n.first t.0 at t.1 (finished t.0 t.1) notes) first
      where
        told_by : (o : Option OverAt) → IsFirstNoted p program known status o → IsNotBefore at o → IsFirstOf (first_notes program p.span known (step_count p.span)) at → Some at ≡ o
        told_by None n not first = absurd not
        told_by (Some b) n not first =
            let x = n.noted in
            let f = noted_task x.0 b x.1 x.3 in
            let least = All-contains (λ note. (note ≡ at) ⊎ IsEarlier at note) (first_notes program p.span known (step_count p.span)) f.0 first.first (over_in f.0 f.1) in
            ⊎_elim
            (λ same. ⊎_elim (λ e. ap Some (sym same ∙ e)) (λ before. absurd (not (subst (λ (z : OverAt). IsBefore z b) same before))) f.2)
            (λ earlier. absurd (not (earlier_both at f.0 b earlier f.3)))
            least

    -- the Over that is told is the one that was noted, and the maps are those of the steps before it
    pub told_is_noted : (over told : Option OverAt) (maps : List StepMap) → IsFirstNoted p program known status over → AreTold program p.span known told maps → IsToldAs program p.span known over told maps
    told_is_noted over None maps n told =
        let e = none_told over n told.0 in
        subst (λ (o : Option OverAt). IsToldAs program p.span known o None maps) e (record { over_is = refl; maps_are = told.1; few = omega arith; begins = tt })
    told_is_noted over (Some at) maps n told =
        let e = some_told at over n told.first in
        let few = told_step program p.span known at told.first.noted in
        subst (λ (o : Option OverAt). IsToldAs program p.span known o (Some at) maps) e (record { over_is = refl; maps_are = told.maps_are; few = omega arith; begins = few.0 })

-- a finished board tells what its span gives
pub board_tells : TellTheLeastOver → (x : Parts) → IsBoard x → ((t : ℕ) → t < x.plan.tasks → (state_in x).status t ≡ published) →
    IsToldAs x.program x.plan.span x.known x.over (stage_of x.program x.plan.span x.known).over (stage_of x.program x.plan.span x.known).maps
board_tells law x b finished =
    told_is_noted x.plan x.program x.known b.of.planned b.plan.plan_tasks law (state_in x).status finished x.over _ _ b.overs
    (stage_is_told law x.program x.plan.span x.known b.of.planned.well_formed b.of.planned.spans)
