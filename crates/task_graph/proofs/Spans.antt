-- The operations of a span at its steps.
use Rattle.std.proofs.Common.{◌≡◌, ℕ, zero, suc, ◌+◌, ◌-◌, ◌<◌, ◌≤◌, ◌*◌, List, [], ◌∷◌, ◌++◌, length, take, drop, refl, sym, ap, subst, ◌∙◌, arith, cond}
use Rattle.std.specs.Prelude.{Some, None, nat_le, nat_lt, Bool, true, false, slice_range}
use Rattle.std.specs.List.{range_with_len, flat_map}
use Rattle.std.proofs.lemmas.Bool.Decides.{nat_tests}
use Rattle.std.proofs.lemmas.List.{length-drop, length-take}
use Rattle.task_graph.proofs.Climbs.{Each}
use Rattle.tile_map.specs.declared.tiling.Tiling.{Tiling}
use Rattle.map_meaning.specs.Limits.{most_block, most_operations, most_steps}
use Rattle.map_meaning.specs.Programs.{AreOperations, AreStepOperations, IsBelow, IsBelowNow, IsWellFormed}
use Rattle.map_meaning.specs.Spans.{IsSpan}
use Rattle.map_meaning.specs.declared.known.Span.{Span}
use Rattle.map_meaning.specs.declared.known.Span.TheVariants as span
use Rattle.map_meaning.specs.declared.program.Operand.{Operand}
use Rattle.map_meaning.specs.declared.program.Operand.TheVariants.{Initial, Now, Last}
use Rattle.map_meaning.specs.declared.program.Operation.{Operation}
use Rattle.map_meaning.specs.declared.program.Program.{Program}
use Rattle.task_graph.specs.declared.layout.Laid.{Laid}
use Rattle.task_graph.specs.declared.layout.Layout.{Layout}
use Rattle.task_graph.specs.Counts.{span_tasks, tasks_of}
use Rattle.task_graph.specs.Layouts.{laid_from, laid_in, layout_of, maker_of, tasks_in}
use Rattle.task_graph.specs.Plans.{operation_code}
use Rattle.task_graph.specs.inside.Keys.{Climbs, laid_code}
use Rattle.task_graph.specs.inside.Layings.{AllReadBefore}
use Rattle.task_graph.proofs.Climbs.{climbs_append, climbs_lower, each_append, each_more}

-- ---- stages

maker_low : (b : Bool) (n first i place : ℕ) → nat_le first n ≡ b → cond b (Some (n - first)) None ≡ Some place → n < first + i → place < i
maker_low true n first i place t e below = let f : n - first ≡ place = cc in let g : first ≤ n = grind (arith, nat_tests) in omega arith
maker_low false n first i place t e below = absurd (cc)

-- in a stage that begins at first, what an operand names is made before
stage_operand : (program : Program) (first end many step i n : ℕ) (x : Operand) (place : ℕ) → n ≡ first + i → IsBelow program n x → maker_of (span.Initial first end) many step x ≡ Some place → place < i
stage_operand program first end many step i n (Initial m) place at low e = maker_low (nat_le first m) m first i place refl e (omega arith)
stage_operand program first end many step i n _ place at low e = absurd (cc)

stage_before : (program : Program) (y : Layout) (first end i n : ℕ) (os : List Operation) → y.span ≡ span.Initial first end → n ≡ first + i → AreOperations program n os → AllReadBefore y i (laid_from 0 n os)
stage_before program y first end i n [] s at order = tt
stage_before program y first end i n (o ∷ more) s at order =
    let one = λ (x : Operand) (low : IsBelow program n x) (place : ℕ) (e : maker_of y.span y.many 0 x ≡ Some place).
    stage_operand program first end y.many 0 i n x place at low (sym (ap (λ (sp : Span). maker_of sp y.many 0 x) s) ∙ e) in (
      record { a = one o.a order.0.a; b = one o.b order.0.b; c = one o.c order.0.c; d = one o.d order.0.d },
      stage_before program y first end (suc i) (n + 1) more s (omega arith) order.1,
    )

pub order_drop : (program : Program) (k n : ℕ) (os : List Operation) → AreOperations program n os → AreOperations program (n + k) (drop k os)
order_drop program zero n os order = subst (λ (m : ℕ). AreOperations program m os) (omega arith) order
order_drop program (suc k) n [] order = tt
order_drop program (suc k) n (o ∷ more) order = subst (λ (m : ℕ). AreOperations program m (drop k more)) (omega arith) (order_drop program k (n + 1) more order.1)

pub order_take : (program : Program) (k n : ℕ) (os : List Operation) → AreOperations program n os → AreOperations program n (take k os)
order_take program zero n os order = tt
order_take program (suc k) n [] order = tt
order_take program (suc k) n (o ∷ more) order = (order.0, order_take program k (n + 1) more order.1)

-- ---- blocks of steps

before_append : (y : Layout) (i : ℕ) (xs ys : List Laid) → AllReadBefore y i xs → AllReadBefore y (i + length xs) ys → AllReadBefore y i (xs ++ ys)
before_append y i [] ys a b = subst (λ (n : ℕ). AllReadBefore y n ys) (omega arith) b
before_append y i (x ∷ xs) ys a b = (a.0, before_append y (suc i) xs ys a.1 (subst (λ (n : ℕ). AllReadBefore y n ys) (omega arith) b))

length-laid_from : (step n : ℕ) (os : List Operation) → length (laid_from step n os) ≡ length os
length-laid_from step n [] = refl
length-laid_from step n (o ∷ more) = ap suc (length-laid_from step (n + 1) more)

-- what an operand has of the step before is made there
last_made : (b : Bool) (first s d many n place : ℕ) → nat_lt first (first + s) ≡ b → cond b (Some ((first + s - 1 - first) * many + d)) None ≡ Some place → d < many → place < s * many + n
last_made true first zero d many n place t e low = grind (arith, nat_tests)
last_made true first (suc s) d many n place t e low =
    let f : (first + suc s - 1 - first) * many + d ≡ place = cc in
    let same : first + suc s - 1 - first ≡ s = omega arith in
    let g : (first + suc s - 1 - first) * many ≡ s * many = ap (λ (k : ℕ). k * many) same in
    let h : suc s * many ≡ s * many + many = omega arith in
    omega arith
last_made false first s d many n place t e low = absurd (cc)

-- in the s-th step of a block, what the n-th operation's operand names is made before
step_operand : (program : Program) (first last many s n : ℕ) (x : Operand) (place : ℕ) → many ≡ length program.dynamic → IsBelowNow program n x → maker_of (span.Steps first last) many (first + s) x ≡ Some place → place < s * many + n
step_operand program first last many s n (Now m) place is low e =
    let f : (first + s - first) * many + m ≡ place = cc in
    let same : first + s - first ≡ s = omega arith in
    let g : (first + s - first) * many ≡ s * many = ap (λ (k : ℕ). k * many) same in
    omega arith
step_operand program first last many s n (Last d i) place is low e = last_made (nat_lt first (first + s)) first s d many n place refl e (let h = low.of_dynamic in omega arith)
step_operand program first last many s n _ place is low e = absurd (cc)

step_before : (program : Program) (y : Layout) (first last s n i : ℕ) (os : List Operation) → y.span ≡ span.Steps first last → y.many ≡ length program.dynamic → i ≡ s * y.many + n → AreStepOperations program n os → AllReadBefore y i (laid_from (first + s) n os)
step_before program y first last s n i [] sp many at order = tt
step_before program y first last s n i (o ∷ more) sp many at order =
    let one = λ (x : Operand) (low : IsBelowNow program n x) (place : ℕ) (e : maker_of y.span y.many (first + s) x ≡ Some place).
    subst (λ (k : ℕ). place < k) (sym at) (step_operand program first last y.many s n x place many low (sym (ap (λ (q : Span). maker_of q y.many (first + s) x) sp) ∙ e)) in (
      record { a = one o.a order.0.a; b = one o.b order.0.b; c = one o.c order.0.c; d = one o.d order.0.d },
      step_before program y first last s (n + 1) (suc i) more sp many (omega arith) order.1,
    )

steps_before : (program : Program) (y : Layout) (first last s k : ℕ) → y.span ≡ span.Steps first last → y.many ≡ length program.dynamic → AreStepOperations program 0 program.dynamic →
    (from : ℕ) → from ≡ first + s → (i : ℕ) → i ≡ s * y.many → AllReadBefore y i (flat_map (λ step. laid_from step 0 program.dynamic) (range_with_len from k))
steps_before program y first last s zero sp many order from is i at = tt
steps_before program y first last s (suc k) sp many order from is i at =
    let dynamic = program.dynamic in
    let count : length (laid_from from 0 dynamic) ≡ y.many = length-laid_from from 0 dynamic ∙ sym many in
    before_append y i (laid_from from 0 dynamic) (flat_map (λ step. laid_from step 0 dynamic) (range_with_len (from + 1) k))
    (subst (λ (step : ℕ). AllReadBefore y i (laid_from step 0 dynamic)) (sym is) (step_before program y first last s 0 i dynamic sp many (omega arith) order))
    (steps_before program y first last (suc s) k sp many order (from + 1) (omega arith) (i + length (laid_from from 0 dynamic)) (let h : suc s * y.many ≡ s * y.many + y.many = omega arith in omega arith))

-- ---- steps and numbers

-- an operation at this step, with a number from n up to another
record IsLaidAt (step n end : ℕ) (l : Laid) : Type 0 where
  at : l.step ≡ step
  below : l.number < end

each_laid : (step n end : ℕ) (os : List Operation) → n + length os ≤ end → Each (IsLaidAt step n end) (laid_from step n os)
each_laid step n end [] few = tt
each_laid step n end (o ∷ more) few = (
  record { at = refl; below = omega arith },
  each_more (IsLaidAt step (n + 1) end) (IsLaidAt step n end) (λ l is. record { at = is.at; below = is.below }) (laid_from step (n + 1) more) (each_laid step (n + 1) end more (omega arith)),
)

-- the step and the number of an operation are within the limits
pub record IsLaidWithin (l : Laid) : Type 0 where
  pub step : l.step ≤ most_steps
  pub number : l.number < most_operations

one_within : (step n : ℕ) (os : List Operation) → step ≤ most_steps → n + length os ≤ most_operations → Each IsLaidWithin (laid_from step n os)
one_within step n os low few = each_more (IsLaidAt step n most_operations) IsLaidWithin (λ l is. record { step = let a = is.at in omega arith; number = is.below }) (laid_from step n os) (each_laid step n most_operations os few)

steps_within : (dynamic : List Operation) (from k : ℕ) → length dynamic ≤ most_operations → from + k ≤ most_steps + 1 → Each IsLaidWithin (flat_map (λ step. laid_from step 0 dynamic) (range_with_len from k))
steps_within dynamic from zero few low = tt
steps_within dynamic from (suc k) few low =
    each_append IsLaidWithin (laid_from from 0 dynamic) (flat_map (λ step. laid_from step 0 dynamic) (range_with_len (from + 1) k))
    (one_within from 0 dynamic (omega arith) (omega arith))
    (steps_within dynamic (from + 1) k few (omega arith))

laid_climb : (step n : ℕ) (os : List Operation) → Climbs laid_code (operation_code step n) (laid_from step n os)
laid_climb step n [] = tt
laid_climb step n (o ∷ more) = (omega arith, subst (λ (b : ℕ). Climbs laid_code b (laid_from step (n + 1) more)) (next (step * most_operations) n) (laid_climb step (n + 1) more))
  where
    next : (m k : ℕ) → m + (k + 1) ≡ m + k + 1
    next m k = omega arith

steps_climb : (dynamic : List Operation) (from k : ℕ) → length dynamic ≤ most_operations → Climbs laid_code (operation_code from 0) (flat_map (λ step. laid_from step 0 dynamic) (range_with_len from k))
steps_climb dynamic from zero few = tt
steps_climb dynamic from (suc k) few =
    climbs_append laid_code (operation_code from 0) (operation_code (from + 1) 0) (laid_from from 0 dynamic) (flat_map (λ step. laid_from step 0 dynamic) (range_with_len (from + 1) k))
    (laid_climb from 0 dynamic)
    (each_more (IsLaidAt from 0 most_operations) (λ l. laid_code l < operation_code (from + 1) 0) (λ l is. let a = is.at in let b = is.below in omega arith) (laid_from from 0 dynamic) (each_laid from 0 most_operations dynamic (omega arith)))
    (omega arith)
    (steps_climb dynamic (from + 1) k few)

-- ---- the whole

-- what holds of the operations of a span
pub record AreLaid (y : Layout) (laid : List Laid) : Type 0 where
  pub many : y.many ≤ most_operations
  pub before : AllReadBefore y 0 laid
  pub within : Each IsLaidWithin laid
  pub climbs : Climbs laid_code 0 laid

pub are_laid : (program : Program) (s : Span) (g : Tiling) → IsWellFormed program → IsSpan program s most_block → AreLaid (layout_of program s g) (laid_in program s)
are_laid program (span.Initial first end) g well is =
    let order = is.order in
    let there = is.there in
    let few = well.few_operations in
    let os = slice_range program.initial first end in
    let size : first + length os ≤ most_operations = let a = length-take (end - first) (drop first program.initial) in let b = length-drop first program.initial in omega arith in
    record {
      many = well.few_step_operations;
      before = stage_before program (layout_of program (span.Initial first end) g) first end 0 first os refl (omega arith)
          (order_take program (end - first) first (drop first program.initial) (subst (λ (n : ℕ). AreOperations program n (drop first program.initial)) (omega arith) (order_drop program first 0 program.initial well.operations)));
      within = one_within 0 first os (omega arith) size;
      climbs = climbs_lower laid_code 0 (operation_code 0 first) (laid_from 0 first os) (omega arith) (laid_climb 0 first os);
    }
are_laid program (span.Steps first last) g well is =
    let order = is.order in
    let there = is.there in
    let few = well.few_step_operations in
    let steps = well.few_steps in
    let k = last + 1 - first in
    record {
      many = few;
      before = steps_before program (layout_of program (span.Steps first last) g) first last 0 k refl refl well.step_operations first (omega arith) 0 (omega arith);
      within = steps_within program.dynamic first k few (omega arith);
      climbs = climbs_lower laid_code 0 (operation_code first 0) (laid_in program (span.Steps first last)) (omega arith) (steps_climb program.dynamic first k few);
    }

-- ---- how many tasks there are

tasks_in-laid_from : (tiles step n : ℕ) (os : List Operation) → tasks_in tiles (laid_from step n os) ≡ tasks_of tiles os
tasks_in-laid_from tiles step n [] = refl
tasks_in-laid_from tiles step n (o ∷ more) = let h = tasks_in-laid_from tiles step (n + 1) more in omega arith

pub tasks_append : (tiles : ℕ) (xs ys : List Laid) → tasks_in tiles (xs ++ ys) ≡ tasks_in tiles xs + tasks_in tiles ys
tasks_append tiles [] ys = omega arith
tasks_append tiles (x ∷ xs) ys = let h = tasks_append tiles xs ys in omega arith

tasks_in-steps : (tiles : ℕ) (dynamic : List Operation) (from k : ℕ) → tasks_in tiles (flat_map (λ step. laid_from step 0 dynamic) (range_with_len from k)) ≡ k * tasks_of tiles dynamic
tasks_in-steps tiles dynamic from zero = omega arith
tasks_in-steps tiles dynamic from (suc k) =
    let rest = flat_map (λ step. laid_from step 0 dynamic) (range_with_len (from + 1) k) in
    let a = tasks_append tiles (laid_from from 0 dynamic) rest in
    let b = tasks_in-laid_from tiles from 0 dynamic in
    let c = tasks_in-steps tiles dynamic (from + 1) k in
    let d : suc k * tasks_of tiles dynamic ≡ k * tasks_of tiles dynamic + tasks_of tiles dynamic = omega arith in
    omega arith

pub tasks_in-laid_in : (tiles : ℕ) (program : Program) (s : Span) → tasks_in tiles (laid_in program s) ≡ span_tasks tiles program s
tasks_in-laid_in tiles program (span.Initial first end) = tasks_in-laid_from tiles 0 first (slice_range program.initial first end)
tasks_in-laid_in tiles program (span.Steps first last) = tasks_in-steps tiles program.dynamic first (last + 1 - first)
