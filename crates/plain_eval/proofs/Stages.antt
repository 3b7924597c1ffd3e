-- Operations one by one: what is told from some operations on.
use Rattle.std.proofs.Common.{◌≡◌, ℕ, ◌+◌, ◌-◌, ◌<◌, ◌≤◌, Bool, true, false, cond, List, [], ◌∷◌, ◌++◌, length, refl, sym, ap, subst, ◌∙◌, inl, inr, arith, append_assoc, append-nil}
use Rattle.std.specs.Prelude.{Ok, Err, Result, None, Some, map, nat_le, slice_range, ◌==◌}
use Rattle.std.specs.List.{list_any}
use Rattle.std.proofs.lemmas.Bool.{cases_lt, eq-eqb, or_left, or_right}
use Rattle.std.proofs.lemmas.List.{get_or_append_left, get_or-append_right, get_or_push, length_push}
use Rattle.text_base.specs.Results.{◌>>=◌}
use Rattle.tile_map.specs.Cuts.{cell_at}
use Rattle.tile_map.specs.Parts.{part_of}
use Rattle.map_meaning.specs.declared.known.Known.{Known}
use Rattle.map_meaning.specs.declared.known.OverAt.{OverAt}
use Rattle.map_meaning.specs.declared.known.Span.{Span}
use Rattle.map_meaning.specs.declared.known.Span.TheVariants as span
use Rattle.map_meaning.specs.declared.known.StageEnd.{StageEnd}
use Rattle.map_meaning.specs.declared.known.StepMap.{StepMap}
use Rattle.map_meaning.specs.declared.program.Operand.{Operand}
use Rattle.map_meaning.specs.declared.program.Operand.TheVariants.{Unused, Literal, Time, Input, Initial, Now, Last, Drain}
use Rattle.map_meaning.specs.declared.program.Operand.TheVariants as from
use Rattle.map_meaning.specs.declared.program.Operation.{Operation}
use Rattle.map_meaning.specs.declared.program.Program.{Program}
use Rattle.map_meaning.specs.Evaluation.{Done, operand_cell, operation_part, operation_value, operation_values, section_maps, with_map}
use Rattle.map_meaning.specs.Maps.{CellAt, WholeMap, nth}
use Rattle.map_meaning.specs.Overs.{whole_or_over}
use Rattle.map_meaning.specs.Programs.{kinds_of, operands_of}
use Rattle.map_meaning.specs.Rules.{outcome_of}
use Rattle.map_meaning.specs.Scenes.{Scene, place_count, setting_at}
use Rattle.map_meaning.specs.Table.{goes_along_drains}
use Rattle.map_meaning.specs.Spans.{IsSpan, done_before, done_next, first_operation, kept_map, kept_maps, scene_of, span_operations, stage_of, told_of, told_steps, told_then}
use Rattle.map_meaning.proofs.Tabulated.{tabulate_count}
use Rattle.tile_map.specs.Parts.{tabulate}
use Rattle.plain_eval.specs.inside.Finished.{with_kept}
use Rattle.plain_eval.specs.inside.Held.{done_of}
use Rattle.plain_eval.specs.inside.Readers.{reads}
use Rattle.plain_eval.specs.inside.Sections.{is_own, is_own_number, number_from, scene_in}

-- ---- the maps of the span's section

-- one more map stands behind the others
pub own_map : (s : Span) (done : Done) (m : WholeMap) → section_maps s (with_map s done m) ≡ section_maps s done ++ m ∷ []
own_map (span.Initial first end) done m = refl
own_map (span.Steps first last) done m = refl

-- there is one more
pub own_count : (s : Span) (done : Done) (m : WholeMap) → length (section_maps s (with_map s done m)) ≡ length (section_maps s done) + 1
own_count s done m = ap length (own_map s done m) ∙ length_push (section_maps s done) m

-- what is told behind an operation: its Over, or what its map leads to
abbrev pub told_next : Result WholeMap OverAt → (WholeMap → StageEnd) → StageEnd
told_next (Ok m) next = next m
told_next (Err at) next = record { maps = []; over = Some at }

-- What is told where these operations are left, whose numbers count from n: some maps are kept so far, and some are done.
abbrev pub told_from : Program → Scene → Span → List StepMap → ℕ → Done → List Operation → StageEnd
told_from program scene s kept n done [] = record { maps = kept; over = None }
told_from program scene s kept n done (o ∷ more) =
    told_next (operation_value program scene done o) (λ m. told_from program scene s (with_kept scene.step kept n o m) (n + 1) (with_map s done m) more)

-- ---- the maps behind are those in front, and more

-- a map that stands in front of another
before_push : (maps : List WholeMap) (m : WholeMap) (k : ℕ) → k < length maps → nth (maps ++ m ∷ []) k ≡ nth maps k
before_push maps m k below = get_or_append_left maps (m ∷ []) [] k below

module _ (program : Program) (scene : Scene) (s : Span) where
  -- what operations give has the maps that were done in their places
  values_keep : (operations : List Operation) (done after : Done) (k : ℕ) → operation_values program scene s done operations ≡ Ok after → k < length (section_maps s done) → nth (section_maps s after) k ≡ nth (section_maps s done) k
  values_keep [] done after k is below = let same : done ≡ after = cc in ap (λ (d : Done). nth (section_maps s d) k) (sym same)
  values_keep (o ∷ more) done after k is below = by_value (operation_value program scene done o) is (λ m is. values_keep more (with_map s done m) after k is (let longer = own_count s done m in omega arith))
    where
      by_value : (r : Result WholeMap OverAt) → (r >>= λ m. operation_values program scene s (with_map s done m) more) ≡ Ok after →
          ((m : WholeMap) → operation_values program scene s (with_map s done m) more ≡ Ok after → nth (section_maps s after) k ≡ nth (section_maps s (with_map s done m)) k) → nth (section_maps s after) k ≡ nth (section_maps s done) k
      by_value (Err at) is later = absurd (cc)
      by_value (Ok m) is later = later m is ∙ (ap (λ maps. nth maps k) (own_map s done m) ∙ before_push (section_maps s done) m k below)

  -- what is told where some maps are kept already
  abbrev told_behind : List StepMap → ℕ → List Operation → Result Done OverAt → StageEnd
  told_behind kept n operations (Ok after) = record { maps = kept ++ kept_maps scene.step (section_maps s after) n operations; over = None }
  told_behind kept n operations (Err at) = record { maps = []; over = Some at }

  -- one more map is kept, or not
  kept_by : (kept : List StepMap) (one : StepMap) (b : Bool) (rest : List StepMap) → cond b (kept ++ one ∷ []) kept ++ rest ≡ kept ++ cond b (one ∷ rest) rest
  kept_by kept one true rest = append_assoc kept (one ∷ []) rest
  kept_by kept one false rest = refl

  -- the kept maps of operations behind one whose map is m
  kept_next : (kept : List StepMap) (n : ℕ) (o : Operation) (more : List Operation) (m : WholeMap) (r : Result Done OverAt) → ((after : Done) → r ≡ Ok after → nth (section_maps s after) n ≡ m) →
      told_behind (with_kept scene.step kept n o m) (n + 1) more r ≡ told_behind kept n (o ∷ more) r
  kept_next kept n o more m (Err at) is = refl
  kept_next kept n o more m (Ok after) is =
      let same : nth (section_maps s after) n ≡ m = is after refl in
      let one : WholeMap → StepMap = λ (m : WholeMap). record { step = scene.step; operation = n; cells = m } in
      let behind = kept_maps scene.step (section_maps s after) (n + 1) more in
      ap (λ (maps : List StepMap). let told : StageEnd = record { maps = maps; over = None } in told)
      (kept_by kept (one m) o.kept behind ∙ ap (λ (x : WholeMap). kept ++ cond o.kept (one x ∷ behind) behind) (sym same))

  -- what is told one by one is what is told of all
  pub told_is : (operations : List Operation) (kept : List StepMap) (n : ℕ) (done : Done) → length (section_maps s done) ≡ n →
      told_from program scene s kept n done operations ≡ told_behind kept n operations (operation_values program scene s done operations)
  told_is [] kept n done count = ap (λ (maps : List StepMap). let told : StageEnd = record { maps = maps; over = None } in told) (sym (append-nil kept))
  told_is (o ∷ more) kept n done count = by_value (operation_value program scene done o) (λ m. told_is more (with_kept scene.step kept n o m) (n + 1) (with_map s done m) (let longer = own_count s done m in omega arith))
    where
      later : WholeMap → Result Done OverAt
      later m = operation_values program scene s (with_map s done m) more

      told_later : WholeMap → StageEnd
      told_later m = told_from program scene s (with_kept scene.step kept n o m) (n + 1) (with_map s done m) more

      last_map : (m : WholeMap) → nth (section_maps s (with_map s done m)) n ≡ m
      last_map m = ap (λ maps. nth maps n) (own_map s done m) ∙ get_or_push (section_maps s done) m [] n count

      by_value : (r : Result WholeMap OverAt) → ((m : WholeMap) → told_later m ≡ told_behind (with_kept scene.step kept n o m) (n + 1) more (later m)) → told_next r told_later ≡ told_behind kept n (o ∷ more) (r >>= later)
      by_value (Err at) behind = refl
      by_value (Ok m) behind =
          behind m ∙ kept_next kept n o more m (later m) (λ after is. values_keep more (with_map s done m) after n is (let longer = own_count s done m in omega arith) ∙ last_map m)

-- ---- what is told of all operations one by one is what the span gives

-- one stage of `initial`
told_initial : (program : Program) (known : Known) (first end : ℕ) →
    told_from program (scene_of program.inputs known 0) (span.Initial first end) [] first (done_of program (span.Initial first end) known []) (slice_range program.initial first end) ≡ stage_of program (span.Initial first end) known
unfolding stage_of
told_initial program known first end =
    let scene = scene_of program.inputs known 0 in
    let s = span.Initial first end in
    let operations = slice_range program.initial first end in
    let count : length (tabulate (kept_map known.initial) first ++ []) ≡ first = ap length (append-nil (tabulate (kept_map known.initial) first)) ∙ tabulate_count (kept_map known.initial) first in
    told_is program scene s operations [] first (done_of program s known []) count
    ∙ (ap (λ (d : Done). told_behind program scene s [] first operations (operation_values program scene s d operations)) begun
    ∙ same_told (operation_values program scene s (done_before program s known) operations))
  where
    begun : done_of program (span.Initial first end) known [] ≡ done_before program (span.Initial first end) known
    begun =
        let before = done_before program (span.Initial first end) known in
        ap (λ (maps : List WholeMap). let done : Done = record { initial = maps; dynamic = before.dynamic; last = before.last; drains = before.drains } in done) (append-nil (tabulate (kept_map known.initial) first))

    same_told : (r : Result Done OverAt) → told_behind program (scene_of program.inputs known 0) (span.Initial first end) [] first (slice_range program.initial first end) r ≡ told_of program (span.Initial first end) 0 r
    same_told (Ok after) = refl
    same_told (Err at) = refl

-- one step
told_step : (program : Program) (known : Known) (first last : ℕ) → last ≡ first →
    told_from program (scene_of program.inputs known first) (span.Steps first last) [] 0 (done_of program (span.Steps first last) known []) program.dynamic ≡ stage_of program (span.Steps first last) known
unfolding stage_of
told_step program known first last one =
    let scene = scene_of program.inputs known first in
    let s = span.Steps first last in
    let done = done_of program s known [] in
    let count : 1 ≡ last + 1 - first = omega arith in
    told_is program scene s program.dynamic [] 0 done refl
    ∙ (same_told (operation_values program scene s done program.dynamic)
    ∙ ap (told_steps program s known done first) count)
  where
    same_told : (r : Result Done OverAt) → told_behind program (scene_of program.inputs known first) (span.Steps first last) [] 0 program.dynamic r
        ≡ told_then program (span.Steps first last) first r (λ after. told_steps program (span.Steps first last) known (done_next after) (first + 1) 0)
    same_told (Ok after) = ap (λ (maps : List StepMap). let told : StageEnd = record { maps = maps; over = None } in told) (sym (append-nil (kept_maps first after.dynamic 0 program.dynamic)))
    same_told (Err at) = refl

-- what is told of all operations one by one is what the span gives
pub told_whole : (program : Program) (s : Span) (known : Known) → IsSpan program s 1 → told_from program (scene_in program s known) s [] (first_operation s) (done_of program s known []) (span_operations program s) ≡ stage_of program s known
told_whole program (span.Initial first end) known is = told_initial program known first end
told_whole program (span.Steps first last) known is = told_step program known first last (omega (arith, is.order, is.few))

-- ---- only what is read matters

-- what is done outside the span is the same
abbrev pub SameOutside : Span → Done → Done → Type 0
SameOutside (span.Initial first end) x y =
    ((k : ℕ) → k < first → nth x.initial k ≡ nth y.initial k) × (x.dynamic ≡ y.dynamic) × (x.last ≡ y.last) × (x.drains ≡ y.drains)
SameOutside (span.Steps first last) x y = (x.initial ≡ y.initial) × (x.last ≡ y.last) × (x.drains ≡ y.drains)

-- two have the same outside the span, and the same maps of it where operations read them
pub record SameRead (s : Span) (x y : Done) (operations : List Operation) : Type 0 where
  pub outside : SameOutside s x y
  pub own : (k : ℕ) → list_any (reads s k) operations ≡ true → nth (section_maps s x) (first_operation s + k) ≡ nth (section_maps s y) (first_operation s + k)

-- the number of an operation from the begin of its stage on
pub own_number_from : (first k : ℕ) → first ≤ k → is_own_number (k - first) (number_from first k) ≡ true
own_number_from first k behind =
    let test : nat_le first k ≡ true = grind arith in
    ap (λ b. is_own_number (k - first) (cond b (Some (k - first)) None)) test ∙ eq-eqb (k - first) (k - first) refl

-- a map of `initial` is the same where those before a stage and those of it are
same_initially : (first k : ℕ) (x y : List WholeMap) → ((j : ℕ) → j < first → nth x j ≡ nth y j) → ((j : ℕ) → is_own_number j (number_from first k) ≡ true → nth x (first + j) ≡ nth y (first + j)) → nth x k ≡ nth y k
same_initially first k x y before within = elim (cases_lt k first) as (λ z. nth x k ≡ nth y k) [
  | inl less ↦ before k less
  | inr behind ↦
      let at : first + (k - first) ≡ k = omega arith in
      subst (λ j. nth x j ≡ nth y j) at (within (k - first) (own_number_from first k behind))
]

-- an operand is the same where the map that it names is
operand_same : (s : Span) (scene : Scene) (x y : Done) (operand : Operand) → SameOutside s x y → ((k : ℕ) → is_own s k operand ≡ true → nth (section_maps s x) (first_operation s + k) ≡ nth (section_maps s y) (first_operation s + k)) →
    operand_cell scene x operand ≡ operand_cell scene y operand
operand_same s scene x y Unused outside own = refl
operand_same s scene x y (Literal kind cell) outside own = refl
operand_same s scene x y Time outside own = refl
operand_same s scene x y (Input k) outside own = refl
operand_same s scene x y (from.Stack k) outside own = refl
operand_same (span.Initial first end) scene x y (Initial k) outside own = ap cell_at (same_initially first k x.initial y.initial outside.0 own)
operand_same (span.Initial first end) scene x y (Now k) outside own = ap (λ maps. cell_at (nth maps k)) outside.1
operand_same (span.Initial first end) scene x y (Last d i) outside own =
    ap (λ m. cell_at (cond (scene.step == 1) m (nth x.last d))) (same_initially first i x.initial y.initial outside.0 own) ∙ ap (λ maps. cell_at (cond (scene.step == 1) (nth y.initial i) (nth maps d))) outside.2
operand_same (span.Initial first end) scene x y (Drain k) outside own = ap (λ maps. cell_at (nth maps k)) outside.3
operand_same (span.Steps first last) scene x y (Initial k) outside own = ap (λ maps. cell_at (nth maps k)) outside.0
operand_same (span.Steps first last) scene x y (Now k) outside own =
    let same : 0 + k ≡ k = omega arith in
    ap cell_at (subst (λ j. nth x.dynamic j ≡ nth y.dynamic j) same (own k (eq-eqb k k refl)))
operand_same (span.Steps first last) scene x y (Last d i) outside own =
    ap (λ maps. cell_at (cond (scene.step == 1) (nth maps i) (nth x.last d))) outside.0 ∙ ap (λ maps. cell_at (cond (scene.step == 1) (nth y.initial i) (nth maps d))) outside.1
operand_same (span.Steps first last) scene x y (Drain k) outside own = ap (λ maps. cell_at (nth maps k)) outside.2

-- a drain map is
drain_same : (s : Span) (scene : Scene) (x y : Done) (k : ℕ) → SameOutside s x y → operand_cell scene x (Drain k) ≡ operand_cell scene y (Drain k)
drain_same (span.Initial first end) scene x y k outside = ap (λ maps. cell_at (nth maps k)) outside.3
drain_same (span.Steps first last) scene x y k outside = ap (λ maps. cell_at (nth maps k)) outside.2

-- the map of an operation is the same where its operands are
part_same : (program : Program) (s : Span) (scene : Scene) (x y : Done) (o : Operation) → SameOutside s x y →
    ((k : ℕ) → reads s k o ≡ true → nth (section_maps s x) (first_operation s + k) ≡ nth (section_maps s y) (first_operation s + k)) → operation_part program scene x o ≡ operation_part program scene y o
unfolding operation_part
part_same program s scene x y o outside same = ap (λ cells. part_of (outcome_of o.op (setting_at scene o.file o.window (kinds_of program o)) cells) (place_count scene)) (all_same (goes_along_drains o.op))
  where
    operands_same : map (operand_cell scene x) (operands_of o) ≡ map (operand_cell scene y) (operands_of o)
    operands_same =
        let of = λ (a b c d : CellAt). a ∷ b ∷ c ∷ d ∷ [] in
        let cell = operand_cell scene in
        let a = operand_same s scene x y o.a outside (λ k is. same k (or_left (is_own s k o.a) _ is)) in
        let b = operand_same s scene x y o.b outside (λ k is. same k (or_right (is_own s k o.a) _ (or_left (is_own s k o.b) _ is))) in
        let c = operand_same s scene x y o.c outside (λ k is. same k (or_right (is_own s k o.a) _ (or_right (is_own s k o.b) _ (or_left (is_own s k o.c) _ is)))) in
        let d = operand_same s scene x y o.d outside (λ k is. same k (or_right (is_own s k o.a) _ (or_right (is_own s k o.b) _ (or_right (is_own s k o.c) _ (or_left (is_own s k o.d) _ is))))) in
        ap (λ z. of z (cell x o.b) (cell x o.c) (cell x o.d)) a
        ∙ (ap (λ z. of (cell y o.a) z (cell x o.c) (cell x o.d)) b
        ∙ (ap (λ z. of (cell y o.a) (cell y o.b) z (cell x o.d)) c
        ∙ ap (λ z. of (cell y o.a) (cell y o.b) (cell y o.c) z) d))

    all_same : (along : Bool) → map (operand_cell scene x) (cond along (Drain o.drain ∷ operands_of o) (operands_of o)) ≡ map (operand_cell scene y) (cond along (Drain o.drain ∷ operands_of o) (operands_of o))
    all_same true =
        ap (λ z. z ∷ map (operand_cell scene x) (operands_of o)) (drain_same s scene x y o.drain outside)
        ∙ ap (λ cells. operand_cell scene y (Drain o.drain) ∷ cells) operands_same
    all_same false = operands_same

-- maps that are the same at a number stay so behind one more
same_push : (x y : List WholeMap) (m : WholeMap) (k : ℕ) → length x ≡ length y → nth x k ≡ nth y k → nth (x ++ m ∷ []) k ≡ nth (y ++ m ∷ []) k
same_push x y m k count same = elim (cases_lt k (length x)) as (λ z. nth (x ++ m ∷ []) k ≡ nth (y ++ m ∷ []) k) [
  | inl below ↦ before_push x m k below ∙ (same ∙ sym (before_push y m k (omega arith)))
  | inr behind ↦
      get_or-append_right x (m ∷ []) (length x) k [] refl behind
      ∙ (ap (λ n. nth (m ∷ []) (k - n)) count ∙ sym (get_or-append_right y (m ∷ []) (length y) k [] refl (omega arith)))
]

-- one more map changes nothing outside the span
outside_push : (s : Span) (x y : Done) (m : WholeMap) → length (section_maps s x) ≡ length (section_maps s y) → SameOutside s x y → SameOutside s (with_map s x m) (with_map s y m)
outside_push (span.Initial first end) x y m count same = (λ k below. same_push x.initial y.initial m k count (same.0 k below), same.1, same.2, same.3)
outside_push (span.Steps first last) x y m count same = same

-- nor where the span is the same
own_push : (s : Span) (x y : Done) (m : WholeMap) (k : ℕ) → length (section_maps s x) ≡ length (section_maps s y) → nth (section_maps s x) k ≡ nth (section_maps s y) k → nth (section_maps s (with_map s x m)) k ≡ nth (section_maps s (with_map s y m)) k
own_push (span.Initial first end) x y m k count same = same_push x.initial y.initial m k count same
own_push (span.Steps first last) x y m k count same = same_push x.dynamic y.dynamic m k count same

-- what is told is the same where the maps that are read are
pub told_same : (program : Program) (scene : Scene) (s : Span) (operations : List Operation) (kept : List StepMap) (n : ℕ) (x y : Done) → length (section_maps s x) ≡ length (section_maps s y) → SameRead s x y operations →
    told_from program scene s kept n x operations ≡ told_from program scene s kept n y operations
told_same program scene s [] kept n x y count same = refl
told_same program scene s (o ∷ more) kept n x y count same =
    ap (λ part. told_next (whole_or_over scene o.statement o.number part) (λ m. told_from program scene s (with_kept scene.step kept n o m) (n + 1) (with_map s x m) more))
    (part_same program s scene x y o same.outside (λ k is. same.own k (or_left (reads s k o) (list_any (reads s k) more) is)))
    ∙ by_value (operation_value program scene y o) (λ m.
    told_same program scene s more (with_kept scene.step kept n o m) (n + 1) (with_map s x m) (with_map s y m) (own_count s x m ∙ (ap (λ k. k + 1) count ∙ sym (own_count s y m)))
    (record { outside = outside_push s x y m count same.outside; own = λ k is. own_push s x y m (first_operation s + k) count (same.own k (or_right (reads s k o) (list_any (reads s k) more) is)) }))
  where
    by_value : (r : Result WholeMap OverAt) →
        ((m : WholeMap) → told_from program scene s (with_kept scene.step kept n o m) (n + 1) (with_map s x m) more ≡ told_from program scene s (with_kept scene.step kept n o m) (n + 1) (with_map s y m) more) →
        told_next r (λ m. told_from program scene s (with_kept scene.step kept n o m) (n + 1) (with_map s x m) more)
        ≡ told_next r (λ m. told_from program scene s (with_kept scene.step kept n o m) (n + 1) (with_map s y m) more)
    by_value (Err at) later = refl
    by_value (Ok m) later = later m
