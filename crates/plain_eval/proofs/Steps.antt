-- One operation after others.
use Rattle.std.proofs.Common.{◌≡◌, ℕ, ◌+◌, ◌*◌, ◌<◌, ◌≤◌, cond, nat_lt, List, [], ◌∷◌, ◌++◌, length, get_or, drop, sym, ap, arith, subst, ◌∙◌}
use Rattle.std.specs.Prelude.{Ok, Err, Result, None, Some, Option, slice_get}
use Rattle.std.proofs.lemmas.Option.{slice_get-get_or}
use Rattle.std.proofs.lemmas.List.{drop_all, drop_more}
use Rattle.map_meaning.specs.declared.known.Known.{Known}
use Rattle.map_meaning.specs.declared.known.OverAt.{OverAt}
use Rattle.map_meaning.specs.declared.known.Span.{Span}
use Rattle.map_meaning.specs.declared.known.StageEnd.{StageEnd}
use Rattle.map_meaning.specs.declared.known.StepMap.{StepMap}
use Rattle.map_meaning.specs.declared.program.Operation.{Operation}
use Rattle.map_meaning.specs.declared.program.Program.{Program}
use Rattle.map_meaning.specs.Evaluation.{Done, operation_value, with_map}
use Rattle.map_meaning.specs.Maps.{IsMapOf, WholeMap}
use Rattle.map_meaning.specs.Scenes.{Scene}
use Rattle.map_meaning.specs.Spans.{Knows, first_operation, span_operations}
use Rattle.plain_eval.specs.inside.Sections.{scene_in}
use Rattle.span_operands.specs.Made.{span_start}
use Rattle.plain_eval.specs.inside.Finished.{LetsGo, with_kept}
use Rattle.plain_eval.specs.inside.Held.{done_of, held_at}
use Rattle.span_operands.specs.inside.Held.{HasSoundOperands}
use Rattle.plain_eval.specs.inside.Readers.{AreLastReaders}
use Rattle.plain_eval.proofs.HeldLemmas.{AreWhole, IsStep, step_held, step_length, step_only, step_same, whole_map}
use Rattle.plain_eval.proofs.ReaderLemmas.{last_one_reads}
use Rattle.plain_eval.proofs.Parts.{map_is}
use Rattle.plain_eval.proofs.Stages.{SameRead, told_from, told_next, told_same}

-- what is known behind an operation, in the words of the code
pub stepped : (s : Span) (o : Operation) (last first second : List ℕ) (n : ℕ) (m : WholeMap) (before between after : List (Option WholeMap)) → first ≡ last → second ≡ last → length before ≡ n →
    LetsGo s first n o before between → after ≡ between ++ cond (nat_lt n (get_or second n 0)) (Some m) None ∷ [] → IsStep s last n o m before between after
stepped s o last first second n m before between after is also count let_go held = record {
  count = count;
  let_go = subst (λ (l : List ℕ). LetsGo s l n o before between) is let_go;
  held = held ∙ ap (λ (l : List ℕ). between ++ cond (nat_lt n (get_or l n 0)) (Some m) None ∷ []) also;
}

module _ (program : Program) (s : Span) (known : Known) (operations : List Operation) (d : Operation) (n : ℕ) (same : operations ≡ span_operations program s) (within : n < length operations) where
  -- the operations of the span, and the scene
  abbrev own : List Operation
  own = span_operations program s

  abbrev scene : Scene
  scene = scene_in program s known

  -- the number of the operation in its section
  abbrev number : ℕ
  number = first_operation s + n

  -- the operation stands in front of those that are left
  front : drop n own ≡ get_or operations n d ∷ drop (n + 1) own
  front = sym (ap (λ (x : List Operation). drop n x) same) ∙ (drop_more operations n d within ∙ ap (λ (x : List Operation). get_or operations n d ∷ drop (n + 1) x) same)

  module _ (before shown : List (Option WholeMap)) (r : Result WholeMap OverAt) (show : shown ≡ before) (value : r ≡ operation_value program scene (done_of program s known shown) (get_or operations n d)) where
    -- its value, by the maps that are held
    pub value_is : operation_value program scene (done_of program s known before) (get_or operations n d) ≡ r
    value_is = ap (λ (held : List (Option WholeMap)). operation_value program scene (done_of program s known held) (get_or operations n d)) (sym show) ∙ sym value

    -- an operation that is Over ends it
    pub next_over : (kept : List StepMap) (at : OverAt) (told : StageEnd) → r ≡ Err at → told_from program scene s kept number (done_of program s known before) (drop n own) ≡ told → told ≡ record { maps = []; over = Some at }
    next_over kept at told is e =
        sym e
        ∙ (ap (told_from program scene s kept number (done_of program s known before)) front
        ∙ ap (λ r. told_next r (λ m. told_from program scene s (with_kept scene.step kept number (get_or operations n d) m) (number + 1) (with_map s (done_of program s known before) m) (drop (n + 1) own))) (value_is ∙ is))

    -- one that has a map leads on
    pub next_told : (kept more : List StepMap) (m : WholeMap) (last : List ℕ) (between after : List (Option WholeMap)) (told : StageEnd) (step at : ℕ) → step ≡ span_start s → at ≡ number → r ≡ Ok m → AreLastReaders s operations last → IsStep s last n (get_or operations n d) m before between after →
        more ≡ with_kept step kept at (get_or operations n d) m → told_from program scene s kept number (done_of program s known before) (drop n own) ≡ told → told_from program scene s more (first_operation s + (n + 1)) (done_of program s known after) (drop (n + 1) own) ≡ told
    next_told kept more m last between after told at_step at is_step is_number is are step keep e =
        let o = get_or operations n d in
        let left = drop (n + 1) own in
        let next : first_operation s + (n + 1) ≡ number + 1 = omega arith in
        let P : List Operation → Type 0 = λ x. SameRead s (done_of program s known after) (with_map s (done_of program s known before) m) (drop (n + 1) x) in
        let read : SameRead s (done_of program s known after) (with_map s (done_of program s known before) m) left = subst P same (step_same s last n o m before between after step program known operations are within) in
        ap (λ (x : List StepMap). told_from program scene s x (first_operation s + (n + 1)) (done_of program s known after) left) (keep ∙ (ap (λ step. with_kept step kept at o m) is_step ∙ ap (λ k. with_kept scene.step kept k o m) is_number))
        ∙ (ap (λ k. told_from program scene s (with_kept scene.step kept number o m) k (done_of program s known after) left) next
        ∙ (told_same program scene s left (with_kept scene.step kept number o m) (number + 1) (done_of program s known after) (with_map s (done_of program s known before) m) (step_length s last n o m before between after step program known) read
        ∙ (sym (ap (λ r. told_next r (λ m. told_from program scene s (with_kept scene.step kept number o m) (number + 1) (with_map s (done_of program s known before) m) left)) (value_is ∙ is))
        ∙ (sym (ap (told_from program scene s kept number (done_of program s known before)) front) ∙ e))))

    -- and each map that is read later is held, whole
    pub next_held : (m : WholeMap) (last : List ℕ) (between after : List (Option WholeMap)) → Knows program s known → r ≡ Ok m → IsStep s last n (get_or operations n d) m before between after →
        HasSoundOperands program scene (done_of program s known before) (get_or own n d) → AreWhole (known.rows * known.cols) own last n before → AreWhole (known.rows * known.cols) own last (n + 1) after
    next_held m last between after knows is step sound there =
        let o = get_or operations n d in
        let here : slice_get own n ≡ Some o = ap (λ (x : List Operation). slice_get x n) (sym same) ∙ slice_get-get_or operations n d within in
        let cells = map_is program scene (done_of program s known before) o m (value_is ∙ is) in
        step_held s last n o m before between after step (known.rows * known.cols) own here (subst (IsMapOf (known.rows * known.cols) o.kind) cells (whole_map program s known before o knows (subst (λ (x : List Operation). HasSoundOperands program scene (done_of program s known before) (get_or x n d)) (sym same) sound))) there

-- and no other map is
pub next_only : (s : Span) (operations : List Operation) (d : Operation) (last : List ℕ) (n : ℕ) (m : WholeMap) (before between after : List (Option WholeMap)) → n < length operations → AreLastReaders s operations last → IsStep s last n (get_or operations n d) m before between after →
    ((k : ℕ) → k < n → get_or last k 0 < n → held_at before k ≡ None) → (k : ℕ) → k < n + 1 → get_or last k 0 < n + 1 → held_at after k ≡ None
next_only s operations d last n m before between after within are step gone =
    step_only s last n (get_or operations n d) m before between after step (λ k below is. last_one_reads s k n operations d (let there : k < length operations = omega arith in sym (are.each k there) ∙ is) below) gone

-- behind the last operation the kept maps are told
pub all_told : (program : Program) (scene : Scene) (s : Span) (operations : List Operation) (kept : List StepMap) (number n : ℕ) (done : Done) (told : StageEnd) → operations ≡ span_operations program s → length operations ≤ n →
    told_from program scene s kept number done (drop n (span_operations program s)) ≡ told → ◌≡◌ {A = StageEnd} (record { maps = kept; over = None }) told
all_told program scene s operations kept number n done told same all e =
    let past : length (span_operations program s) ≤ n = subst (λ (x : List Operation). length x ≤ n) same all in
    sym (ap (told_from program scene s kept number done) (drop_all n (span_operations program s) past)) ∙ e
