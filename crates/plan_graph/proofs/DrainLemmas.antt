-- The drain maps of a plan's transports are known.
use Rattle.std.proofs.Common.{◌≡◌, ◌∙◌, ℕ, zero, suc, ◌+◌, ◌-◌, ◌<◌, ◌≤◌, List, [], ◌∷◌, length, get_or, drop, refl, sym, ap, subst, arith, inl, inr}
use Rattle.std.specs.Prelude.{◌⊎◌, Option, Some, None, IfSome, All, slice_get, slice_index_or, slice_range}
use Rattle.std.specs.List.{flat_map, range_with_len}
use Rattle.std.proofs.lemmas.Bool.{cases_lt}
use Rattle.std.proofs.lemmas.List.{get_or_past}
use Rattle.std.proofs.lemmas.List.{length-drop, length-take}
use Rattle.task_graph.proofs.Callers.{Each}
use Rattle.tile_map.specs.declared.tiling.Tiling.{Tiling}
use Rattle.tile_map.specs.Tiles.{tile_count}
use Rattle.drain_meaning.specs.declared.op.FlowOp.{FlowOp}
use Rattle.drain_meaning.specs.Drains.{DrainMap}
use Rattle.drain_meaning.specs.Sound.{IsDrain}
use Rattle.border_channel.specs.Edges.{HasSizeOf}
use Rattle.map_meaning.specs.Limits.{most_block}
use Rattle.map_meaning.specs.Programs.{AreDrainUses, AreOperations, AreStepOperations, IsDueBy, IsWellFormed}
use Rattle.map_meaning.specs.Spans.{HasDrains, IsDrainOf, IsSpan, Knows}
use Rattle.map_meaning.specs.Table.{goes_along_drains}
use Rattle.map_meaning.specs.declared.known.Known.{Known}
use Rattle.map_meaning.specs.declared.known.Span.{Span}
use Rattle.map_meaning.specs.declared.known.Span.TheVariants as span
use Rattle.map_meaning.specs.declared.op.Op.{Op}
use Rattle.map_meaning.specs.declared.op.Op.TheVariants as op
use Rattle.map_meaning.specs.declared.program.DrainUse.{DrainUse}
use Rattle.map_meaning.specs.declared.program.Operation.{Operation}
use Rattle.map_meaning.specs.declared.program.Program.{Program}
use Rattle.task_graph.specs.declared.flows.FlowTasks.{FlowTasks}
use Rattle.task_graph.specs.declared.layout.Laid.{Laid}
use Rattle.plan_graph.specs.Borders.{AreDrained, AreKnownDrains, HasDrainsOf, no_drain_map, no_flow}
use Rattle.task_graph.specs.Layouts.{laid_from, laid_in, size_for}
use Rattle.task_graph.specs.Plans.{flow_by, flows_from, span_plan}
use Rattle.task_graph.proofs.Callers.{each_append, each_at}
use Rattle.task_graph.proofs.Callers.{drain_there}
use Rattle.task_graph.proofs.Callers.{order_drop, order_take}

-- the drain map is known, sound and of this size
abbrev IsKnownAt : List DrainMap → Tiling → ℕ → Type 0
IsKnownAt drains g n = IsDrain (get_or drains n no_drain_map) × HasSizeOf (get_or drains n no_drain_map) g

-- so is that of an operation that is a transport
abbrev GoesAlongKnown : List DrainMap → Tiling → Operation → Type 0
GoesAlongKnown drains g o = (q : FlowOp) → o.op ≡ op.Flow q → IsKnownAt drains g o.drain

known_by : (drains : List DrainMap) (g : Tiling) (start drain : ℕ) (o : Op) → ((q : FlowOp) → o ≡ op.Flow q → IsKnownAt drains g drain) → Each (λ (f : FlowTasks). IsKnownAt drains g f.drain) (flow_by start drain o)
known_by drains g start drain (op.Flow q) h = (h q refl, tt)
known_by drains g start drain _ h = tt

known_flows : (drains : List DrainMap) (g : Tiling) (start : ℕ) (laid : List Laid) → Each (λ l. GoesAlongKnown drains g l.operation) laid → Each (λ (f : FlowTasks). IsKnownAt drains g f.drain) (flows_from (tile_count g) start laid)
known_flows drains g start [] each = tt
known_flows drains g start (l ∷ more) each =
    each_append (λ (f : FlowTasks). IsKnownAt drains g f.drain) (flow_by start l.operation.drain l.operation.op) (flows_from (tile_count g) (start + size_for (tile_count g) l) more)
    (known_by drains g start l.operation.drain l.operation.op each.0)
    (known_flows drains g (start + size_for (tile_count g) l) more each.1)

-- ---- what is known of a drain map by its number

got : {A : Type 0} (xs : List A) (n : ℕ) (x d : A) → slice_get xs n ≡ Some x → get_or xs n d ≡ x
got [] n x d e = absurd (cc)
got (y ∷ xs) zero x d e = cc
got (y ∷ xs) (suc n) x d e = got xs n x d e

known_drain : (rows cols : ℕ) (drains : List DrainMap) (g : Tiling) (n : ℕ) (o : Option DrainMap) → slice_get drains n ≡ o → IsDrainOf rows cols o → rows ≡ g.rows → cols ≡ g.cols → IsKnownAt drains g n
known_drain rows cols drains g n None e is a b = absurd is
known_drain rows cols drains g n (Some m) e is a b =
    let same : get_or drains n no_drain_map ≡ m = got drains n m no_drain_map e in
    subst (λ (x : DrainMap). IsDrain x × HasSizeOf x g) (sym same) (is.0, record { rows = is.1 ∙ a; cols = is.2 ∙ b })

-- the drain map that stands at a number
record StandsAt (ds : List DrainUse) (n : ℕ) : Type 0 where
  found : DrainUse
  there : slice_get ds n ≡ Some found
  at : (d : DrainUse) → slice_index_or ds n d ≡ found

stands_at : (ds : List DrainUse) (n : ℕ) → n < length ds → StandsAt ds n
stands_at [] n below = absurd (omega arith)
stands_at (d ∷ ds) zero below = record { found = d; there = refl; at = λ x. refl }
stands_at (d ∷ ds) (suc n) below = let h = stands_at ds n (omega arith) in record { found = h.found; there = h.there; at = h.at }

-- ---- stages

due_known : (program : Program) (known : Known) (g : Tiling) (first end n k : ℕ) → IsDueBy program n k → n < end → All (λ d. (d.after ≤ first) ⊎ (end ≤ d.after)) program.drains → HasDrains program first known →
    known.rows ≡ g.rows → known.cols ≡ g.cols → IsKnownAt known.drains g k
due_known program known g first end n k due below whole has a b =
    let at = stands_at program.drains k due.within in
    let by : at.found.after ≤ n = subst (λ (o : Option DrainUse). IfSome o (λ d. d.after ≤ n)) at.there due.after in
    let early : at.found.after ≤ first = elim (subst (λ (d : DrainUse). (d.after ≤ first) ⊎ (end ≤ d.after)) (at.at at.found) (whole k at.found due.within)) as (λ _. at.found.after ≤ first) [ inl h ↦ h | inr h ↦ absurd (omega arith) ] in
    known_drain known.rows known.cols known.drains g k (slice_get known.drains k) refl (has k at.found at.there early) a b

stage_known : (program : Program) (known : Known) (g : Tiling) (first end n : ℕ) (os : List Operation) → AreOperations program n os → n + length os ≤ end → All (λ d. (d.after ≤ first) ⊎ (end ≤ d.after)) program.drains → HasDrains program first known →
    known.rows ≡ g.rows → known.cols ≡ g.cols → Each (λ l. GoesAlongKnown known.drains g l.operation) (laid_from 0 n os)
stage_known program known g first end n [] are few whole has a b = tt
stage_known program known g first end n (o ∷ more) are few whole has a b = (
  (λ q e. due_known program known g first end n o.drain (are.0.drain (ap goes_along_drains e)) (omega arith) whole has a b),
  stage_known program known g first end (n + 1) more are.1 (omega arith) whole has a b,
)

-- ---- steps

step_known : (program : Program) (known : Known) (g : Tiling) (step n : ℕ) (os : List Operation) → AreStepOperations program n os → AreDrainUses program 0 program.drains → HasDrains program (length program.initial) known →
    known.rows ≡ g.rows → known.cols ≡ g.cols → Each (λ l. GoesAlongKnown known.drains g l.operation) (laid_from step n os)
step_known program known g step n [] are uses has a b = tt
step_known program known g step n (o ∷ more) are uses has a b = (
  (λ q e.
      let within : o.drain < length program.drains = are.0.drain (ap goes_along_drains e) in
      let at = stands_at program.drains o.drain within in
      let early : at.found.after ≤ length program.initial = subst (λ (d : DrainUse). d.after ≤ length program.initial) (at.at at.found) (drain_there program 0 program.drains o.drain at.found uses within) in
      known_drain known.rows known.cols known.drains g o.drain (slice_get known.drains o.drain) refl (has o.drain at.found at.there early) a b),
  step_known program known g step (n + 1) more are.1 uses has a b,
)

steps_known : (program : Program) (known : Known) (g : Tiling) (from k : ℕ) → AreStepOperations program 0 program.dynamic → AreDrainUses program 0 program.drains → HasDrains program (length program.initial) known →
    known.rows ≡ g.rows → known.cols ≡ g.cols → Each (λ l. GoesAlongKnown known.drains g l.operation) (flat_map (λ step. laid_from step 0 program.dynamic) (range_with_len from k))
steps_known program known g from zero are uses has a b = tt
steps_known program known g from (suc k) are uses has a b =
    each_append (λ l. GoesAlongKnown known.drains g l.operation) (laid_from from 0 program.dynamic) (flat_map (λ step. laid_from step 0 program.dynamic) (range_with_len (from + 1) k))
    (step_known program known g from 0 program.dynamic are uses has a b)
    (steps_known program known g (from + 1) k are uses has a b)

laid_known : (program : Program) (s : Span) (known : Known) (g : Tiling) → IsWellFormed program → IsSpan program s most_block → Knows program s known → known.rows ≡ g.rows → known.cols ≡ g.cols → Each (λ l. GoesAlongKnown known.drains g l.operation) (laid_in program s)
laid_known program (span.Initial first end) known g well is knows a b =
    let order = is.order in
    let there = is.there in
    let os = slice_range program.initial first end in
    let size : first + length os ≤ end = let x = length-take (end - first) (drop first program.initial) in let y = length-drop first program.initial in omega arith in
    stage_known program known g first end first os
    (order_take program (end - first) first (drop first program.initial) (subst (λ (n : ℕ). AreOperations program n (drop first program.initial)) (omega arith) (order_drop program first 0 program.initial well.operations)))
    size is.whole knows.outside.drains a b
laid_known program (span.Steps first last) known g well is knows a b = steps_known program known g first (last + 1 - first) well.step_operations well.drains knows.outside.drains a b

pub has_drains : (program : Program) (s : Span) (known : Known) (g : Tiling) → IsWellFormed program → IsSpan program s most_block → Knows program s known → known.rows ≡ g.rows → known.cols ≡ g.cols → HasDrainsOf (span_plan program s g) known.drains
unfolding span_plan
has_drains program s known g well is knows a b =
    λ f below. each_at (λ (x : FlowTasks). IsKnownAt known.drains g x.drain) (flows_from (tile_count g) 0 (laid_in program s)) f no_flow (known_flows known.drains g 0 (laid_in program s) (laid_known program s known g well is knows a b)) below

-- so the drain map of each transport of a plan is there
pub are_drained : (program : Program) (s : Span) (known : Known) (g : Tiling) → IsWellFormed program → IsSpan program s most_block → Knows program s known → known.rows ≡ g.rows → known.cols ≡ g.cols →
    AreDrained g known.drains (span_plan program s g).flows
unfolding span_plan
are_drained program s known g well is knows a b = λ f below.
    let h = has_drains program s known g well is knows a b f below in
    let flow = get_or (flows_from (tile_count g) 0 (laid_in program s)) f no_flow in
    record { there = by (cases_lt flow.drain (length known.drains)) h.1.rows; size = h.1 }
  where
    by : {n : ℕ} → (n < length known.drains) ⊎ (length known.drains ≤ n) → (get_or known.drains n no_drain_map).rows ≡ g.rows → n < length known.drains
    by (inl below) e = below
    by {n = n} (inr past) e =
        let none : get_or known.drains n no_drain_map ≡ no_drain_map = get_or_past known.drains n no_drain_map past in
        let rows : 0 ≡ g.rows = sym (ap (λ (m : DrainMap). m.rows) none) ∙ e in
        let some = g.sides.some_rows in
        absurd (omega arith)

pub are_known_drains : AreKnownDrains
are_known_drains program s known g well is knows a b = (has_drains program s known g well is knows a b, are_drained program s known g well is knows a b)
