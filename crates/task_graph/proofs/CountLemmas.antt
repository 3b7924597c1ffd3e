-- How many tasks there are.
use Rattle.std.proofs.Common.{◌≡◌, ◌∙◌, ℕ, zero, suc, ◌+◌, ◌-◌, ◌*◌, ◌<◌, ◌≤◌, List, [], ◌∷◌, length, map, take, drop, refl, ap, arith, inl, inr, true, false, cond}
use Rattle.std.specs.Prelude.{◌⊎◌, Bool, max, min, slice_range, slice_index_or}
use Rattle.std.specs.List.{filter}
use Rattle.std.proofs.Math.Nat.{mul-le-mul_right}
use Rattle.text_base.specs.Limits.{most_cells}
use Rattle.map_meaning.specs.Programs.{AreDrainUses}
use Rattle.map_meaning.specs.Spans.{is_computed, stages_from}
use Rattle.map_meaning.specs.declared.known.Span.TheVariants as span
use Rattle.map_meaning.specs.declared.program.DrainUse.{DrainUse}
use Rattle.map_meaning.specs.declared.program.Operation.{Operation}
use Rattle.map_meaning.specs.declared.program.Program.{Program}
use Rattle.task_graph.specs.Counts.{FitTheCount, most_tasks_of, span_tasks, tasks_of}

-- the greatest number of the stages from here on
abbrev pub most_from : ℕ → Program → ℕ → List DrainUse → ℕ
most_from tiles program first ds =
    most_tasks_of (map (span_tasks tiles program) (stages_from first (map (λ d. d.after) (filter (λ d. is_computed d.from) ds)) (length program.initial)))

filtered : (b : Bool) (d : DrainUse) (ds : List DrainUse) → b ≡ true → cond b (d ∷ ds) ds ≡ d ∷ ds
filtered true d ds e = refl
filtered false d ds e = absurd (cc)

passed : (b : Bool) (d : DrainUse) (ds : List DrainUse) → b ≡ false → cond b (d ∷ ds) ds ≡ ds
passed true d ds e = absurd (cc)
passed false d ds e = refl

-- the stages from one that ends behind so many operations on
most_computed : (tiles : ℕ) (program : Program) (first : ℕ) (d : DrainUse) (more : List DrainUse) → is_computed d.from ≡ true →
    most_from tiles program first (d ∷ more) ≡ max (tasks_of tiles (slice_range program.initial first d.after)) (most_from tiles program d.after more)
most_computed tiles program first d more e =
    ap (λ (ds : List DrainUse). most_tasks_of (map (span_tasks tiles program) (stages_from first (map (λ x. x.after) ds) (length program.initial))))
    (filtered (is_computed d.from) d (filter (λ x. is_computed x.from) more) e)

most_passed : (tiles : ℕ) (program : Program) (first : ℕ) (d : DrainUse) (more : List DrainUse) → is_computed d.from ≡ false → most_from tiles program first (d ∷ more) ≡ most_from tiles program first more
most_passed tiles program first d more e =
    ap (λ (ds : List DrainUse). most_tasks_of (map (span_tasks tiles program) (stages_from first (map (λ x. x.after) ds) (length program.initial))))
    (passed (is_computed d.from) d (filter (λ x. is_computed x.from) more) e)

pub stages_front : (tiles : ℕ) (program : Program) (first most all : ℕ) (rest more : List DrainUse) (d : DrainUse) → rest ≡ d ∷ more → is_computed d.from ≡ true → max most (most_from tiles program first rest) ≡ all →
    max (max most (tasks_of tiles (slice_range program.initial first d.after))) (most_from tiles program d.after more) ≡ all
stages_front tiles program first most all rest more d front computed way =
    let e : most_from tiles program first rest ≡ max (tasks_of tiles (slice_range program.initial first d.after)) (most_from tiles program d.after more) = ap (most_from tiles program first) front ∙ most_computed tiles program first d more computed in
    omega arith

pub stages_skip : (tiles : ℕ) (program : Program) (first most all : ℕ) (rest more : List DrainUse) (d : DrainUse) → rest ≡ d ∷ more → is_computed d.from ≡ false → max most (most_from tiles program first rest) ≡ all → max most (most_from tiles program first more) ≡ all
stages_skip tiles program first most all rest more d front passes way =
    let e : most_from tiles program first rest ≡ most_from tiles program first more = ap (most_from tiles program first) front ∙ most_passed tiles program first d more passes in
    omega arith

-- a drain map is computed behind no more operations than there are
pub drain_there : (program : Program) (n : ℕ) (ds : List DrainUse) (k : ℕ) (d : DrainUse) → AreDrainUses program n ds → k < length ds → (slice_index_or ds k d).after ≤ length program.initial
drain_there program n [] k d are below = absurd (omega arith)
drain_there program n (x ∷ ds) zero d are below = are.0.within
drain_there program n (x ∷ ds) (suc k) d are below = drain_there program (n + 1) ds k d are.1 (omega arith)

-- ---- a span has no more than the count

tasks_split : (tiles : ℕ) (os : List Operation) (a b : ℕ) → a ≤ b → tasks_of tiles (take b os) ≡ tasks_of tiles (take a os) + tasks_of tiles (take (b - a) (drop a os))
tasks_split tiles os zero b less = ap (λ (n : ℕ). tasks_of tiles (take n os)) (none b) ∙ zero_plus (tasks_of tiles (take (b - 0) os))
  where
    none : (n : ℕ) → n ≡ n - 0
    none n = omega arith

    zero_plus : (n : ℕ) → n ≡ 0 + n
    zero_plus n = omega arith
tasks_split tiles [] (suc a) zero less = absurd (omega arith)
tasks_split tiles [] (suc a) (suc b) less = zero_more (tasks_of tiles (take (suc b - suc a) [])) (none (suc b - suc a))
  where
    none : (n : ℕ) → tasks_of tiles (take n []) ≡ 0
    none zero = refl
    none (suc n) = refl

    zero_more : (n : ℕ) → n ≡ 0 → 0 ≡ 0 + n
    zero_more n e = omega arith
tasks_split tiles (o ∷ os) (suc a) zero less = absurd (omega arith)
tasks_split tiles (o ∷ os) (suc a) (suc b) less =
    let h = tasks_split tiles os a b (omega arith) in
    let e : tasks_of tiles (take (suc b - suc a) (drop a os)) ≡ tasks_of tiles (take (b - a) (drop a os)) = ap (λ (n : ℕ). tasks_of tiles (take n (drop a os))) (same a b) in
    omega arith
  where
    same : (m n : ℕ) → suc n - suc m ≡ n - m
    same m n = omega arith

-- more operations have more tasks
tasks_within : (tiles : ℕ) (os : List Operation) (a first end b : ℕ) → a ≤ first → first ≤ end → end ≤ b → tasks_of tiles (slice_range os first end) ≤ tasks_of tiles (slice_range os a b)
tasks_within tiles os a first end b low order high =
    let one = tasks_split tiles os a first low in
    let two = tasks_split tiles os first end order in
    let three = tasks_split tiles os end b high in
    let whole = tasks_split tiles os a b (omega arith) in
    omega arith

-- no drain map is computed inside
IsWhole : ℕ → ℕ → List DrainUse → Type 0
IsWhole first end ds = (k : ℕ) (d : DrainUse) → k < length ds → ((slice_index_or ds k d).after ≤ first) ⊎ (end ≤ (slice_index_or ds k d).after)

stage_fits : (tiles : ℕ) (program : Program) (first end a : ℕ) (ds : List DrainUse) → a ≤ first → first ≤ end → end ≤ length program.initial → IsWhole first end ds →
    tasks_of tiles (slice_range program.initial first end) ≤ most_from tiles program a ds
unfolding IsWhole
stage_fits tiles program first end a [] low order there whole =
    let h = tasks_within tiles program.initial a first end (length program.initial) low order there in omega arith
stage_fits tiles program first end a (d ∷ ds) low order there whole =
    let rest : IsWhole first end ds = λ k x below. whole (suc k) x (omega arith) in
    by (is_computed d.from) refl (λ b behind. stage_fits tiles program first end b ds behind order there rest) (whole 0 d (omega arith))
  where
    by : (b : Bool) → is_computed d.from ≡ b → ((n : ℕ) → n ≤ first → tasks_of tiles (slice_range program.initial first end) ≤ most_from tiles program n ds) → (d.after ≤ first) ⊎ (end ≤ d.after) →
        tasks_of tiles (slice_range program.initial first end) ≤ most_from tiles program a (d ∷ ds)
    by false e later either =
        let same = most_passed tiles program a d ds e in
        let h = later a low in
        omega arith
    by true e later (inl behind) =
        let same = most_computed tiles program a d ds e in
        let h = later d.after behind in omega arith
    by true e later (inr before) =
        let same = most_computed tiles program a d ds e in
        let h = tasks_within tiles program.initial a first end d.after low order before in omega arith

pub fit_the_count : FitTheCount
unfolding IsWhole
fit_the_count tiles program (span.Initial first end) block is =
    let h = stage_fits tiles program first end 0 program.drains (omega arith) is.order is.there (λ k d below. is.whole k d below) in
    omega arith
fit_the_count tiles program (span.Steps first last) block is =
    let some = is.some in
    let order = is.order in
    let there = is.there in
    let few = is.few in
    let h : (last + 1 - first) * tasks_of tiles program.dynamic ≤ min block program.steps * tasks_of tiles program.dynamic = mul-le-mul_right (tasks_of tiles program.dynamic) (omega arith) in
    omega arith

-- a block's tasks are few
pub few_product : (steps tasks most : ℕ) → steps ≤ 64 → tasks ≤ most → steps * tasks ≤ 64 * most
few_product steps tasks most a b =
    let h : steps * tasks ≤ 64 * tasks = mul-le-mul_right tasks a in
    omega arith

-- the drain map at an index, and those behind it
pub drop_front : (ds : List DrainUse) (i : ℕ) (d : DrainUse) → i < length ds → drop i ds ≡ slice_index_or ds i d ∷ drop (i + 1) ds
drop_front [] i d below = absurd (omega arith)
drop_front (x ∷ ds) zero d below = refl
drop_front (x ∷ ds) (suc i) d below = drop_front ds i d (omega arith) ∙ ap (λ (n : ℕ). slice_index_or ds i d ∷ drop n (x ∷ ds)) (further i)
  where
    further : (n : ℕ) → suc (n + 1) ≡ suc n + 1
    further n = omega arith

pub few_tasks : (operations tasks : ℕ) → tasks ≤ operations * (2 * most_cells + 1) → operations ≤ 8192 → tasks ≤ 68719484928
few_tasks operations tasks less few =
    let h : operations * (2 * most_cells + 1) ≤ 8192 * (2 * most_cells + 1) = mul-le-mul_right (2 * most_cells + 1) few in
    omega arith

-- an item does not depend on what stands for none
pub default_any : (ds : List DrainUse) (i : ℕ) (d x : DrainUse) → i < length ds → slice_index_or ds i d ≡ slice_index_or ds i x
default_any [] i d x below = absurd (omega arith)
default_any (y ∷ ds) zero d x below = refl
default_any (y ∷ ds) (suc i) d x below = default_any ds i d x (omega arith)
