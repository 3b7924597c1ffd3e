-- What the first of all notes keeps.
use Rattle.std.proofs.Common.{◌≡◌, ℕ, ◌<◌, ⊎_elim, Option, Some, None, refl, ap, sym, ◌∙◌, subst, arith, IfSome}
use mathlib.Core.Logic.{dite}
use native.Mathlib.Decide.{ℕ_discrete}
use Rattle.core_model.specs.Cores.{Status, ready, held, parked, published, upd}
use Rattle.core_model.proofs.Callers.{upd_other, upd_same}
use Rattle.task_states.specs.States.{unpublished}
use Rattle.tile_map.specs.Tiles.{rect_of}
use Rattle.tile_map.specs.declared.part.Part.{Part}
use Rattle.tile_map.specs.declared.rect.Rect.{Rect}
use Rattle.tile_map.specs.Parts.{Outcome, TellsFirstOver}
use Rattle.tile_map.specs.Rects.{cell_count, place_in}
use Rattle.tile_map.proofs.Callers.{is_part-part_of}
use Rattle.tile_cuts.specs.TileParts.{part_in}
use Rattle.tile_map.specs.declared.tiling.Tiling.{Tiling}
use Rattle.region_meaning.specs.declared.area.AreaOp.{AreaOp}
use Rattle.region_meaning.specs.Areas.{AreaPlace}
use Rattle.map_meaning.specs.declared.known.Known.{Known}
use Rattle.map_meaning.specs.declared.known.OverAt.{OverAt}
use Rattle.map_meaning.specs.declared.program.Operation.{Operation}
use Rattle.map_meaning.specs.declared.program.Program.{Program}
use Rattle.map_meaning.specs.Evaluation.{Done}
use Rattle.std.proofs.Common.{List, get_or}
use Rattle.std.proofs.lemmas.Option.{get_or_from_slice_get}
use Rattle.task_graph.specs.declared.task.Task.{Task}
use Rattle.task_graph.specs.declared.task.Work.{Work}
use Rattle.task_graph.specs.declared.task.Work.TheVariants.{Local, Window, Near, Partial, Merge, Spread, Flow}
use Rattle.task_graph.specs.Plans.{task_at}
use Rattle.plan_graph.specs.PlanGraphs.{PlanGraphValue}
use Rattle.task_tiles.specs.TaskTiles.{IsPartTile, IsPartialTile, IsTaskTile, IsWorkTile, onward_done, span_section, tile_part}
use Rattle.task_tiles.specs.declared.tile.Tile.{Tile}
use Rattle.task_tiles.specs.declared.tile.Tile.TheVariants as tile
use Rattle.task_board.specs.inside.Noted.{IsBefore, IsEarlierOf, IsFirstNoted, IsNotBefore, Notes, note_by, part_note, place_note, tile_note}

-- ---- the order of notes

pub not_before_itself : (x : OverAt) → IsBefore x x → ⊥
not_before_itself x h = grind (arith, h)

pub before_both : (x y z : OverAt) → IsBefore x y → IsBefore y z → IsBefore x z
before_both x y z h k = grind (arith, h, k)

-- ---- what a task notes

-- what the tile that a work is to publish notes
abbrev pub work_note : Program → Known → Tiling → Task → Done → Operation → Work → Option OverAt
work_note program known g task done o Partial = None
work_note program known g task done o Merge = None
work_note program known g task done o _ = part_note g task.step o task.tile (tile_part program known task.step done o (rect_of g task.tile)).over

part_notes : (g : Tiling) (task : Task) (o : Operation) (part : Part) (a : Tile) → IsPartTile part a → note_by g task (Some o) a ≡ part_note g task.step o task.tile part.over
part_notes g task o part (tile.Part p) e = ap (λ (q : Part). part_note g task.step o task.tile q.over) e
part_notes g task o part (tile.Partial v) e = absurd e

partial_notes : (g : Tiling) (task : Task) (o : Operation) (op : Option AreaOp) (places : List AreaPlace) (a : Tile) → IsPartialTile op places a → note_by g task (Some o) a ≡ None
partial_notes g task o op places (tile.Part p) e = absurd e
partial_notes g task o op places (tile.Partial v) e = refl

work_notes : (program : Program) (known : Known) (g : Tiling) (task : Task) (done : Done) (o : Operation) (w : Work) (a : Tile) → IsWorkTile program known g task.step done o w task.tile a → note_by g task (Some o) a ≡ work_note program known g task done o w
work_notes program known g task done o Local a e = part_notes g task o _ a e
work_notes program known g task done o Window a e = part_notes g task o _ a e
work_notes program known g task done o Near a e = part_notes g task o _ a e
work_notes program known g task done o Partial a e = partial_notes g task o _ _ a e
work_notes program known g task done o Merge a e = partial_notes g task o _ _ a e
work_notes program known g task done o Spread a e = part_notes g task o _ a e
work_notes program known g task done o Flow a e = part_notes g task o _ a e

-- a tile of a task notes what its work does
pub tile_notes : (p : PlanGraphValue) (program : Program) (known : Known) (t : ℕ) (a : Tile) (own : IsTaskTile p.plan p.span program known t a) →
    tile_note p program t a ≡ work_note program known p.plan.tiling (task_at p.plan t) (onward_done program p.span known (task_at p.plan t).step) own.operation (task_at p.plan t).work
tile_notes p program known t a own =
    let task : Task = task_at p.plan t in
    ap (λ (o : Option Operation). note_by p.plan.tiling task o a) own.there
    ∙ work_notes program known p.plan.tiling task (onward_done program p.span known task.step) own.operation task.work a own.is

-- two tiles that a task may publish note the same
pub same_note : (p : PlanGraphValue) (program : Program) (known : Known) (t : ℕ) (a b : Tile) → IsTaskTile p.plan p.span program known t a → IsTaskTile p.plan p.span program known t b →
    tile_note p program t a ≡ tile_note p program t b
same_note p program known t a b x y =
    let task : Task = task_at p.plan t in
    let same : x.operation ≡ y.operation = let e : Some x.operation ≡ Some y.operation = sym x.there ∙ y.there in cc in
    tile_notes p program known t a x
    ∙ ap (λ (o : Operation). work_note program known p.plan.tiling task (onward_done program p.span known task.step) o task.work) same
    ∙ sym (tile_notes p program known t b y)

-- a part that a task may publish is that of its tile
work_part : (program : Program) (known : Known) (g : Tiling) (step : ℕ) (done : Done) (o : Operation) (w : Work) (n : ℕ) (part : Part) → IsWorkTile program known g step done o w n (tile.Part part) → part ≡ tile_part program known step done o (rect_of g n)
work_part program known g step done o Local n part e = e
work_part program known g step done o Window n part e = e
work_part program known g step done o Near n part e = e
work_part program known g step done o Partial n part e = absurd e
work_part program known g step done o Merge n part e = absurd e
work_part program known g step done o Spread n part e = e
work_part program known g step done o Flow n part e = e

-- a place that a part tells is one of its rectangle's
pub over_below : (cols number : ℕ) (r : Rect) (outcome : ℕ → Outcome) → (part_in cols r outcome).over ≡ Some number → number < cell_count r
unfolding part_in
over_below cols number r outcome is = (subst (TellsFirstOver (λ i. outcome (place_in cols r i)) (cell_count r)) is (is_part-part_of (λ i. outcome (place_in cols r i)) (cell_count r)).over).0

pub number_below : (p : PlanGraphValue) (program : Program) (known : Known) (t : ℕ) (part : Part) (number : ℕ) → IsTaskTile p.plan p.span program known t (tile.Part part) → part.over ≡ Some number →
    number < cell_count (rect_of p.plan.tiling (task_at p.plan t).tile)
number_below p program known t part number own is =
    let task : Task = task_at p.plan t in
    let e = work_part program known p.plan.tiling task.step (onward_done program p.span known task.step) own.operation task.work task.tile part own.is in
    over_below known.cols number (rect_of p.plan.tiling task.tile) _ (sym (ap (λ (q : Part). q.over) e) ∙ is)

-- the note of a part that tells a place
pub part_noted : (p : PlanGraphValue) (program : Program) (known : Known) (t : ℕ) (part : Part) (number : ℕ) (g : Tiling) (task : Task) (os : List Operation) (d : Operation) →
    IsTaskTile p.plan p.span program known t (tile.Part part) → part.over ≡ Some number → g ≡ p.plan.tiling → task ≡ task_at p.plan t → os ≡ span_section program p.span →
    Some (place_note g.cols task.step (get_or os task.operation d) (place_in g.cols (rect_of g task.tile) number)) ≡ tile_note p program t (tile.Part part)
part_noted p program known t part number g task os d own is g_is task_is os_is =
    let at : Task = task_at p.plan t in
    let told = λ (h : Tiling) (k : Task) (ops : List Operation). Some (place_note h.cols k.step (get_or ops k.operation d) (place_in h.cols (rect_of h k.tile) number)) in
    ap (λ (h : Tiling). told h task os) g_is
    ∙ ap (λ (k : Task). told p.plan.tiling k os) task_is
    ∙ ap (told p.plan.tiling at) os_is
    ∙ ap (λ (o : Operation). Some (place_note p.plan.tiling.cols at.step o (place_in p.plan.tiling.cols (rect_of p.plan.tiling at.tile) number))) (get_or_from_slice_get (span_section program p.span) at.operation own.operation d own.there)
    ∙ sym (ap (λ (o : Option Operation). note_by p.plan.tiling at o (tile.Part part)) own.there ∙ ap (part_note p.plan.tiling at.step own.operation at.tile) is)

-- ---- boards

-- of two that are published alike
published_like : (a b : Status) → unpublished a ≡ unpublished b → a ≡ published → b ≡ published
published_like a ready e q = let z : unpublished a ≡ 0 = ap unpublished q in absurd (omega arith)
published_like a (held w) e q = let z : unpublished a ≡ 0 = ap unpublished q in absurd (omega arith)
published_like a parked e q = let z : unpublished a ≡ 0 = ap unpublished q in absurd (omega arith)
published_like a published e q = refl

module _ (p : PlanGraphValue) (program : Program) (known : Known) where
  -- nothing is published
  pub none_noted : (f : ℕ → Status) → ((t : ℕ) → f t ≡ published → ⊥) → IsFirstNoted p program known f None
  none_noted f none' = record { noted = tt; first = λ t note lt is own. absurd (none' t is) }

  some_like : (f h : ℕ → Status) (over : Option OverAt) → ((t : ℕ) → f t ≡ published → h t ≡ published) →
      IfSome over (λ at. (t : ℕ) × (t < p.tasks) × (f t ≡ published) × Notes p program known t at) → IfSome over (λ at. (t : ℕ) × (t < p.tasks) × (h t ≡ published) × Notes p program known t at)
  some_like f h None same n = tt
  some_like f h (Some at) same n = (n.0, n.1, same n.0 n.2, n.3)

  -- the same tasks are published
  pub first_like : (f h : ℕ → Status) (over : Option OverAt) → ((t : ℕ) → unpublished (f t) ≡ unpublished (h t)) → IsFirstNoted p program known f over → IsFirstNoted p program known h over
  first_like f h over same n = record {
    noted = some_like f h over (λ t is. published_like (f t) (h t) (same t) is) n.noted;
    first = λ t note lt is own. n.first t note lt (published_like (h t) (f t) (sym (same t)) is) own;
  }

  module _ (f : ℕ → Status) (t : ℕ) (lt : t < p.tasks) (a : Tile) (own : IsTaskTile p.plan p.span program known t a) where
    still : (u : ℕ) → f u ≡ published → upd f t published u ≡ published
    still u is = dite (ℕ_discrete u t)
        (λ e. ap (upd f t published) e ∙ upd_same f t published)
        (λ ne. upd_other f t u published ne ∙ is)

    noted_now : (over note r : Option OverAt) → tile_note p program t a ≡ note → IsEarlierOf over note r → IfSome over (λ at. (u : ℕ) × (u < p.tasks) × (f u ≡ published) × Notes p program known u at) →
        IfSome r (λ at. (u : ℕ) × (u < p.tasks) × (upd f t published u ≡ published) × Notes p program known u at)
    noted_now over None r is e n = subst (λ (z : Option OverAt). IfSome z (λ at. (u : ℕ) × (u < p.tasks) × (upd f t published u ≡ published) × Notes p program known u at)) (sym e) (some_like f (upd f t published) over still n)
    noted_now None (Some note) r is e n = subst (λ (z : Option OverAt). IfSome z (λ at. (u : ℕ) × (u < p.tasks) × (upd f t published u ≡ published) × Notes p program known u at)) (sym e)
        (t, lt, upd_same f t published, record { tile = a; own = own; is = is })
    noted_now (Some at) (Some note) r is e n = ⊎_elim
        (λ k. subst (λ (z : Option OverAt). IfSome z (λ at. (u : ℕ) × (u < p.tasks) × (upd f t published u ≡ published) × Notes p program known u at)) (sym k.1)
        (t, lt, upd_same f t published, record { tile = a; own = own; is = is }))
        (λ k. subst (λ (z : Option OverAt). IfSome z (λ at. (u : ℕ) × (u < p.tasks) × (upd f t published u ≡ published) × Notes p program known u at)) (sym k.1) (some_like f (upd f t published) (Some at) still n))
        e

    -- the note of the task itself
    own_now : (over note r : Option OverAt) (m : OverAt) → note ≡ Some m → IsEarlierOf over note r → IsNotBefore m r
    own_now over None r m is e = absurd (cc)
    own_now None (Some note) r m is e = let same : note ≡ m = cc in subst (IsNotBefore m) (sym e) (λ h. not_before_itself m (subst (IsBefore m) same h))
    own_now (Some at) (Some note) r m is e =
        let same : note ≡ m = cc in ⊎_elim
        (λ k. subst (IsNotBefore m) (sym k.1) (λ h. not_before_itself m (subst (IsBefore m) same h)))
        (λ k. subst (IsNotBefore m) (sym k.1) (λ h. k.0 (subst (λ (z : OverAt). IsBefore z at) (sym same) h)))
        e

    -- the notes of others
    other_now : (over note r : Option OverAt) (m : OverAt) → IsEarlierOf over note r → IsNotBefore m over → IsNotBefore m r
    other_now over None r m e k = subst (IsNotBefore m) (sym e) k
    other_now None (Some note) r m e k = absurd k
    other_now (Some at) (Some note) r m e k = ⊎_elim
        (λ z. subst (IsNotBefore m) (sym z.1) (λ h. k (before_both m note at h z.0)))
        (λ z. subst (IsNotBefore m) (sym z.1) k)
        e

    -- a task was published with this tile
    pub first_published : (over r : Option OverAt) → IsEarlierOf over (tile_note p program t a) r → IsFirstNoted p program known f over → IsFirstNoted p program known (upd f t published) r
    first_published over r e n = record {
      noted = noted_now over (tile_note p program t a) r refl e n.noted;
      first = λ u m u_lt is own'. dite (ℕ_discrete u t)
          (λ q. own_now over (tile_note p program t a) r m (note_of u m q own') e)
          (λ ne. other_now over (tile_note p program t a) r m e (n.first u m u_lt (sym (upd_other f t u published ne) ∙ is) own'));
    }
      where
        note_of : (u : ℕ) (m : OverAt) → u ≡ t → Notes p program known u m → tile_note p program t a ≡ Some m
        note_of u m q notes =
            let x : Notes p program known t m = subst (λ (k : ℕ). Notes p program known k m) q notes in
            same_note p program known t a x.tile own x.own ∙ x.is
