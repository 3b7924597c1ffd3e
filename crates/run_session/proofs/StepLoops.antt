-- The steps of a run, one by one.
use Rattle.std.proofs.Common.{◌≡◌, ℕ, zero, suc, ◌+◌, ◌-◌, ◌≤◌, List, [], ◌∷◌, ◌++◌, length, map, refl, sym, ap, subst, ◌∙◌, Ok, Err, Result, arith, append-nil, append_assoc}
use Rattle.std.specs.Prelude.{IsErrAnd, ⊤}
use Rattle.std.specs.List.{range_with_len}
use Rattle.outside_io.specs.State.{FolderState}
use Rattle.outside_io.specs.Events.{Run}
use Rattle.outside_io.specs.Causes.{CameTo, CutOff, RunOutcome, outcome_as, stopped_by, why_by}
use Rattle.outside_io.specs.Met.{Meets}
use Rattle.outside_io.proofs.Callers.{meets_end_as}
use Rattle.map_meaning.specs.declared.known.Known.{Known}
use Rattle.map_meaning.specs.declared.known.StepMap.{StepMap}
use Rattle.map_meaning.specs.declared.program.Program.{Program}
use Rattle.map_meaning.specs.declared.known.Span.{Span}
use Rattle.map_meaning.specs.declared.known.Span.TheVariants as span
use Rattle.map_meaning.specs.Spans.{RunOf, initial_stages, stages_from, step_span}
use Rattle.run_session.specs.declared.ends.Stop.{Stop}
use Rattle.run_session.specs.declared.ends.Stop.TheVariants as stop
use Rattle.run_session.specs.declared.inputs.Inputs.{Inputs}
use Rattle.run_session.specs.declared.samples.Sample.{Sample}
use Rattle.run_session.specs.Asked.{AreRunsOf, IsRunOf, KnowsSpans, span_step}
use Rattle.run_session.specs.Ends.{ScriptEnd, why}
use Rattle.run_session.specs.Samples.{Sampled}
use Rattle.run_session.specs.Steps.{Plan, Standing, StepsEnd, next_step, or_steps_end, step_run}
use Rattle.run_session.specs.inside.Parts.{CutsOff, stop_outcome}
use Rattle.run_session.specs.inside.Running.{AsksSoFar, AsksStep, MakesSteps, spans_to, steps_outcome, why_steps}
use Rattle.run_session.specs.inside.Standings.{sampled_of}
use Rattle.run_session.proofs.StepStages.{done_front, grids_front}

-- ---- ends of steps

-- why a step ends so is why the steps do
pub why_stop : {X : Type 0} (samples : List Sampled) (r : Result X ScriptEnd) → why_by why_steps (or_steps_end samples r) ≡ why_by why r
why_stop samples (Ok x) = refl
why_stop samples (Err end) = refl

-- a stop of a step is one of the steps
pub stop_as : {X : Type 0} (samples : List Sampled) (o : RunOutcome ScriptEnd) → outcome_as (or_steps_end {X = X} samples) (stopped_by o) ≡ stopped_by (steps_outcome samples o)
stop_as samples (CameTo end) = refl
stop_as samples (CutOff fault) = refl

module _ (plan : Plan) (s : Standing) (step : ℕ) (old new : FolderState) where
  -- a step that is settled
  pub next_settles : (t : Standing) → Meets (why_by why) (step_run plan s step) old new (CameTo (Ok t)) → Meets (why_by why_steps) (next_step plan s step) old new (CameTo (Ok t))
  next_settles t m = meets_end_as (why_by why) (why_by why_steps) (or_steps_end s.samples) (why_stop s.samples) (step_run plan s step) old new (CameTo (Ok t)) m

  -- a step that is not
  pub next_stops : (o : RunOutcome ScriptEnd) → Meets (why_by why) (step_run plan s step) old new (stopped_by o) → Meets (why_by why_steps) (next_step plan s step) old new (stopped_by (steps_outcome s.samples o))
  next_stops o m =
      subst (Meets (why_by why_steps) (next_step plan s step) old new) (stop_as s.samples o)
      (meets_end_as (why_by why) (why_by why_steps) (or_steps_end s.samples) (why_stop s.samples) (step_run plan s step) old new (stopped_by o) m)

-- a fault leaves no time series to put
pub fault_same : (at : Stop) (x y : List Sampled) → CutsOff at → steps_outcome x (stop_outcome at) ≡ steps_outcome y (stop_outcome at)
fault_same (stop.Missing name) x y is = absurd is
fault_same (stop.TooLong name) x y is = absurd is
fault_same (stop.Script fault) x y is = absurd is
fault_same (stop.Input name kind) x y is = absurd is
fault_same (stop.Overflow at) x y is = absurd is
fault_same (stop.FolderReadFault name) x y is = refl
fault_same (stop.FolderWriteFault name) x y is = refl
fault_same stop.Memory x y is = refl

-- a `?` hands an error on
pub steps_out : (Is : Standing → Type 0) (samples : List Sample) (run : Run (Result Standing StepsEnd)) (old new : FolderState) (result : Result (Unit {0}) Stop) (d : Stop) → IsErrAnd result (λ e. e ≡ d) →
    Meets (why_by why_steps) run old new (stopped_by (steps_outcome (map sampled_of samples) (stop_outcome d))) → MakesSteps Is samples run old new result
steps_out Is samples run old new (Ok done) d is m = absurd is
steps_out Is samples run old new (Err e) d is m = subst (λ e. Meets (why_by why_steps) run old new (stopped_by (steps_outcome (map sampled_of samples) (stop_outcome e)))) (sym is) m

-- ---- what the runner was asked for

-- one number more
range_push : (a n : ℕ) → range_with_len a (n + 1) ≡ range_with_len a n ++ (a + n) ∷ []
range_push a zero = let e : a ≡ a + 0 = omega arith in ap (λ (k : ℕ). k ∷ []) e
range_push a (suc n) =
    let more : suc n + 1 ≡ suc (n + 1) = omega arith in
    let last : a + 1 + n ≡ a + suc n = omega arith in
    ap (range_with_len a) more ∙ (ap (λ ks. a ∷ ks) (range_push (a + 1) n) ∙ ap (λ k. a ∷ (range_with_len (a + 1) n ++ k ∷ [])) last)

-- the spans are of steps up to this one
abbrev pub AreEarly : ℕ → List Span → Type 0
AreEarly n [] = ⊤
AreEarly n (s ∷ spans) = (span_step s ≤ n) × AreEarly n spans

-- stages are of step 0
early_stages : (n first : ℕ) (befores : List ℕ) (end : ℕ) → AreEarly n (stages_from first befores end)
early_stages n first [] end = (omega arith, tt)
early_stages n first (before ∷ more) end = (omega arith, early_stages n before more end)

-- steps from one on
early_steps : (n a m : ℕ) → a + m ≤ n + 1 → AreEarly n (map step_span (range_with_len a m))
early_steps n a zero le = tt
early_steps n a (suc m) le = (omega (arith, le), early_steps n (a + 1) m (omega (arith, le)))

-- both
early_both : (n : ℕ) (xs ys : List Span) → AreEarly n xs → AreEarly n ys → AreEarly n (xs ++ ys)
early_both n [] ys first rest = rest
early_both n (x ∷ xs) ys first rest = (first.0, early_both n xs ys first.1 rest)

module _ (program : Program) (inputs : Inputs) (grids : List (List StepMap)) (g : List StepMap) where
  -- what a span knows stays where the grids of one more step are read
  knows_more : (s : Span) (known : Known) → span_step s ≤ length grids → KnowsSpans program inputs grids s known → KnowsSpans program inputs (grids ++ g ∷ []) s known
  knows_more (span.Initial first end) known below knows = record {
    start = knows.start;
    is_start = done_front program inputs grids g 0 (omega arith) ∙ knows.is_start;
    initial = knows.initial;
    drains = knows.drains;
  }
  knows_more (span.Steps k last) known below knows = record {
    start = knows.start;
    is_start = done_front program inputs grids g 0 (omega arith) ∙ knows.is_start;
    initial = knows.initial;
    drains = knows.drains;
    before = knows.before;
    is_before = done_front program inputs grids g (k - 1) (omega (arith, below)) ∙ knows.is_before;
    last = knows.last;
  }

  -- so does a run
  run_more : (s : Span) (run : RunOf) → span_step s ≤ length grids → IsRunOf program inputs grids s run → IsRunOf program inputs (grids ++ g ∷ []) s run
  run_more s run below is = record {
    program_same = is.program_same;
    span_same = is.span_same;
    knows = is.knows;
    rows = is.rows;
    cols = is.cols;
    maps = is.maps;
    tables = is.tables;
    series = is.series;
    stacks = is.stacks ∙ sym (grids_front grids g (span_step s) below);
    before = knows_more s run.known below is.before;
  }

  -- runs of some spans, and one more
  runs_more : (spans : List Span) (s : Span) (runs : List RunOf) (last : RunOf) → AreEarly (length grids) spans → AreRunsOf program inputs grids spans runs → IsRunOf program inputs (grids ++ g ∷ []) s last →
      AreRunsOf program inputs (grids ++ g ∷ []) (spans ++ s ∷ []) (runs ++ last ∷ [])
  runs_more [] s [] last early are one = (one, tt)
  runs_more [] s (run ∷ runs) last early are one = absurd are
  runs_more (t ∷ spans) s [] last early are one = absurd are
  runs_more (t ∷ spans) s (run ∷ runs) last early are one = (run_more t run early.0 are.0, runs_more spans s runs last early.1 are.1 one)

-- the spans with those of one more step
spans_push : (program : Program) (n : ℕ) → spans_to program n ++ step_span (n + 1) ∷ [] ≡ spans_to program (n + 1)
spans_push program n =
    let first = initial_stages program in
    let e : n + 1 ≡ 1 + n = omega arith in
    append_assoc first (map step_span (range_with_len 1 n)) (step_span (n + 1) ∷ []) ∙ (ap (λ k. first ++ (map step_span (range_with_len 1 n) ++ step_span k ∷ [])) e ∙
    (ap (λ ss. first ++ ss) (sym (map_push step_span (range_with_len 1 n) (1 + n))) ∙ ap (λ ks. first ++ map step_span ks) (sym (range_push 1 n))))
  where
    map_push : (f : ℕ → Span) (xs : List ℕ) (x : ℕ) → map f (xs ++ x ∷ []) ≡ map f xs ++ f x ∷ []
    map_push f [] x = refl
    map_push f (y ∷ xs) x = ap (λ zs. f y ∷ zs) (map_push f xs x)

-- one step more was asked for
pub asks_more : (old mid new : List RunOf → Type 0) (program : Program) (inputs : Inputs) (grids : List (List StepMap)) (g : List StepMap) (n : ℕ) → length grids ≡ n →
    AsksSoFar old mid program inputs grids n → AsksStep mid new program inputs (grids ++ g ∷ []) (n + 1) → AsksSoFar old new program inputs (grids ++ g ∷ []) (n + 1)
asks_more old mid new program inputs grids g n count so_far step firsts are was =
    let before = so_far firsts are was in
    let one = step before.0 before.2 in
    let early = early_both (length grids) (initial_stages program) (map step_span (range_with_len 1 n)) (early_stages (length grids) 0 _ (length program.initial)) (early_steps (length grids) 1 n (omega (arith, count))) in (
      before.0 ++ one.0 ∷ [],
      subst (λ ss. AreRunsOf program inputs (grids ++ g ∷ []) ss (before.0 ++ one.0 ∷ [])) (spans_push program n) (runs_more program inputs grids g (spans_to program n) (step_span (n + 1)) before.0 one.0 early before.1 one.1),
      one.2,
    )

-- before the first step the stages were asked for
pub asks_none : (old : List RunOf → Type 0) (program : Program) (inputs : Inputs) → AsksSoFar old old program inputs [] 0
asks_none old program inputs firsts are was = (firsts, subst (λ ss. AreRunsOf program inputs [] ss firsts) (sym (append-nil (initial_stages program))) are, was)
