-- The operations of a span at its steps, by their places in its list.
use Rattle.std.proofs.Common.{◌≡◌, ℕ, zero, suc, ◌+◌, ◌-◌, ◌*◌, ◌<◌, ◌≤◌, ◌⊎◌, List, [], ◌∷◌, ◌++◌, length, get_or, refl, sym, ap, ◌∙◌, inl, inr, arith}
use Rattle.std.specs.Prelude.{Some, slice_get, slice_range}
use Rattle.std.specs.List.{flat_map, range_with_len}
use Rattle.std.proofs.lemmas.Bool.{cases_lt}
use Rattle.std.proofs.lemmas.Option.{get_or_from_slice_get, slice_get-get_or, slice_get_within}
use Rattle.map_meaning.specs.Limits.{most_block}
use Rattle.map_meaning.specs.Spans.{IsSpan}
use Rattle.map_meaning.specs.declared.known.Span.{Span}
use Rattle.map_meaning.specs.declared.known.Span.TheVariants as span
use Rattle.map_meaning.specs.declared.program.Operation.{Operation}
use Rattle.map_meaning.specs.declared.program.Program.{Program}
use Rattle.map_meaning.proofs.WholeMaps.{AreFrom, of_all, stage_from, stage_length}
use Rattle.span_operands.proofs.KnownLemmas.{stage_within, staged}
use Rattle.task_graph.specs.declared.layout.Laid.{Laid}
use Rattle.task_graph.specs.Layouts.{laid_from, laid_in}
use Rattle.task_tiles.specs.TaskTiles.{span_section}
use Rattle.task_tiles.proofs.Callers.{IsAmong, IsStepOf}

-- an operation with its number at a step
abbrev pub laid_at : ℕ → ℕ → Operation → Laid
laid_at step n o = record { step = step; number = n; operation = o }

-- ---- operations at one step

from_at : (step n i : ℕ) (os : List Operation) (o : Operation) → slice_get os i ≡ Some o → slice_get (laid_from step n os) i ≡ Some (laid_at step (n + i) o)
from_at step n i [] o is = absurd (cc)
from_at step n zero (p ∷ more) o is =
    let same : p ≡ o = cc in
    let here : n ≡ n + 0 = omega arith in
    ap (λ (x : Operation). Some (laid_at step n x)) same ∙ ap (λ (k : ℕ). Some (laid_at step k o)) here
from_at step n (suc i) (p ∷ more) o is =
    let here : n + 1 + i ≡ n + suc i = omega arith in from_at step (n + 1) i more o is ∙ ap (λ (k : ℕ). Some (laid_at step k o)) here

-- what stands at a place of them
record IsOfStep (step n : ℕ) (os : List Operation) (i : ℕ) (l : Laid) : Type 0 where
  step_is : l.step ≡ step
  number_is : l.number ≡ n + i
  there : slice_get os i ≡ Some l.operation

from_is : (step n i : ℕ) (os : List Operation) (l : Laid) → slice_get (laid_from step n os) i ≡ Some l → IsOfStep step n os i l
from_is step n i [] l is = absurd (cc)
from_is step n zero (p ∷ more) l is =
    let same : laid_at step n p ≡ l = cc in
    let here : n ≡ n + 0 = omega arith in
    record {
      step_is = sym (ap (λ (x : Laid). x.step) same);
      number_is = sym (ap (λ (x : Laid). x.number) same) ∙ here;
      there = ap (λ (x : Laid). Some x.operation) same;
    }
from_is step n (suc i) (p ∷ more) l is =
    let rest = from_is step (n + 1) i more l is in
    let here : n + 1 + i ≡ n + suc i = omega arith in
    record { step_is = rest.step_is; number_is = rest.number_is ∙ here; there = rest.there }

length-from : (step n : ℕ) (os : List Operation) → length (laid_from step n os) ≡ length os
length-from step n [] = refl
length-from step n (o ∷ more) = ap suc (length-from step (n + 1) more)

-- ---- operations at several steps

get_front : (xs ys : List Laid) (i : ℕ) → i < length xs → slice_get (xs ++ ys) i ≡ slice_get xs i
get_front [] ys i below = absurd (omega arith)
get_front (x ∷ xs) ys zero below = refl
get_front (x ∷ xs) ys (suc i) below = get_front xs ys i (omega arith)

get_behind : (xs ys : List Laid) (i : ℕ) → slice_get (xs ++ ys) (length xs + i) ≡ slice_get ys i
get_behind [] ys i = let none : 0 + i ≡ i = omega arith in ap (slice_get ys) none
get_behind (x ∷ xs) ys i = let on : suc (length xs) + i ≡ suc (length xs + i) = omega arith in ap (slice_get (x ∷ (xs ++ ys))) on ∙ get_behind xs ys i

abbrev steps_from : List Operation → ℕ → ℕ → List Laid
steps_from dynamic first k = flat_map (λ step. laid_from step 0 dynamic) (range_with_len first k)

steps_at : (dynamic : List Operation) (first k s n : ℕ) (o : Operation) → s < k → slice_get dynamic n ≡ Some o → slice_get (steps_from dynamic first k) (s * length dynamic + n) ≡ Some (laid_at (first + s) n o)
steps_at dynamic first zero s n o below is = absurd (omega arith)
steps_at dynamic first (suc k) zero n o below is =
    let within : n < length dynamic = slice_get_within dynamic n o is in
    let size = length-from first 0 dynamic in
    let place : 0 * length dynamic + n ≡ n = omega arith in
    let number : 0 + n ≡ n = omega arith in
    let step : first ≡ first + 0 = omega arith in
    ap (slice_get (steps_from dynamic first (suc k))) place
    ∙ (get_front (laid_from first 0 dynamic) (steps_from dynamic (first + 1) k) n (omega arith)
    ∙ (from_at first 0 n dynamic o is
    ∙ (ap (λ (m : ℕ). Some (laid_at first m o)) number ∙ ap (λ (m : ℕ). Some (laid_at m n o)) step)))
steps_at dynamic first (suc k) (suc s) n o below is =
    let size = length-from first 0 dynamic in
    let more : suc s * length dynamic ≡ s * length dynamic + length dynamic = omega arith in
    let place : suc s * length dynamic + n ≡ length (laid_from first 0 dynamic) + (s * length dynamic + n) = omega arith in
    let step : first + 1 + s ≡ first + suc s = omega arith in
    ap (slice_get (steps_from dynamic first (suc k))) place
    ∙ (get_behind (laid_from first 0 dynamic) (steps_from dynamic (first + 1) k) (s * length dynamic + n)
    ∙ (steps_at dynamic (first + 1) k s n o (omega arith) is ∙ ap (λ (m : ℕ). Some (laid_at m n o)) step))

-- what stands among them
record IsOfSteps (dynamic : List Operation) (first k : ℕ) (l : Laid) : Type 0 where
  from : first ≤ l.step
  to : l.step < first + k
  there : slice_get dynamic l.number ≡ Some l.operation

steps_is : (dynamic : List Operation) (first k place : ℕ) (l : Laid) → slice_get (steps_from dynamic first k) place ≡ Some l → IsOfSteps dynamic first k l
steps_is dynamic first zero place l is = absurd (cc)
steps_is dynamic first (suc k) place l is = by_case (cases_lt place (length here)) (λ i there. steps_is dynamic (first + 1) k i l there)
  where
    here : List Laid
    here = laid_from first 0 dynamic

    by_case : (place < length here) ⊎ (length here ≤ place) → ((i : ℕ) → slice_get (steps_from dynamic (first + 1) k) i ≡ Some l → IsOfSteps dynamic (first + 1) k l) → IsOfSteps dynamic first (suc k) l
    by_case (inl front) later =
        let at = from_is first 0 place dynamic l (sym (get_front here (steps_from dynamic (first + 1) k) place front) ∙ is) in
        let step = at.step_is in
        let none : 0 + place ≡ place = omega arith in
        record {
          from = omega arith;
          to = omega arith;
          there = ap (slice_get dynamic) (at.number_is ∙ none) ∙ at.there;
        }
    by_case (inr behind) later =
        let same : length here + (place - length here) ≡ place = omega arith in
        let rest = later (place - length here) (sym (get_behind here (steps_from dynamic (first + 1) k) (place - length here)) ∙ (ap (slice_get (steps_from dynamic first (suc k))) same ∙ is)) in
        let from = rest.from in
        let to = rest.to in
        record { from = omega arith; to = omega arith; there = rest.there }

-- ---- the whole

-- an operation of the list is one of the span's, at one of its steps
pub record IsInSpan (program : Program) (s : Span) (l : Laid) : Type 0 where
  pub at_step : IsStepOf s l.step
  pub among : IsAmong s l.number
  pub there : slice_get (span_section program s) l.number ≡ Some l.operation

-- what stands in the list of a range of operations stands further on in the whole list
ranged : (all os : List Operation) (n i : ℕ) (o : Operation) → AreFrom all n os → slice_get os i ≡ Some o → slice_get all (n + i) ≡ Some o
ranged all [] n i o from is = absurd (cc)
ranged all (p ∷ more) n zero o from is =
    let here : n + 0 ≡ n = omega arith in ap (slice_get all) here ∙ (from.0 ∙ is)
ranged all (p ∷ more) n (suc i) o from is =
    let here : n + suc i ≡ n + 1 + i = omega arith in ap (slice_get all) here ∙ ranged all more (n + 1) i o from.1 is

pub laid_is : (program : Program) (s : Span) (place : ℕ) (l : Laid) → IsSpan program s most_block → slice_get (laid_in program s) place ≡ Some l → IsInSpan program s l
laid_is program (span.Initial first end) place l is_span is =
    let os = slice_range program.initial first end in
    let at = from_is 0 first place os l is in
    let within = stage_within program first end place is_span (slice_get_within os place l.operation at.there) in
    let number = at.number_is in
    record {
      at_step = at.step_is;
      among = (omega arith, omega (arith, number, within.1));
      there = ap (slice_get program.initial) number ∙ ranged program.initial os first place l.operation (of_all program.initial end first os (stage_from program.initial first end is_span.order)) at.there;
    }
laid_is program (span.Steps first last) place l is_span is =
    let at = steps_is program.dynamic first (last + 1 - first) place l is in
    let from = at.from in
    let to = at.to in
    let order = is_span.order in
    record { at_step = (from, omega arith); among = tt; there = at.there }

-- where an operation of a span stands in the span's list
abbrev pub place_of : Span → ℕ → ℕ → ℕ → ℕ
place_of (span.Initial first end) many step n = n - first
place_of (span.Steps first last) many step n = (step - first) * many + n

pub laid_there : (program : Program) (s : Span) (step n : ℕ) (o : Operation) → IsSpan program s most_block → IsStepOf s step → IsAmong s n → slice_get (span_section program s) n ≡ Some o →
    slice_get (laid_in program s) (place_of s (length program.dynamic) step n) ≡ Some (laid_at step n o)
laid_there program (span.Initial first end) step n o is_span at_step among is =
    let os = slice_range program.initial first end in
    let i = n - first in
    let size = stage_length program.initial first end is_span.order is_span.there in
    let at : first + i ≡ n = omega (arith, among.0) in
    let few : i < length os = omega (arith, among.0, among.1, size) in
    let short : i < end - first = omega (arith, among.0, among.1) in
    let here : slice_get os i ≡ Some o = slice_get-get_or os i o few ∙ ap (λ (x : Operation). Some x) (staged program.initial first end i o short ∙ (ap (λ (k : ℕ). get_or program.initial k o) at ∙ get_or_from_slice_get program.initial n o o is)) in
    from_at 0 first i os o here ∙ (ap (λ (k : ℕ). Some (laid_at 0 k o)) at ∙ ap (λ (k : ℕ). Some (laid_at k n o)) (sym at_step))
laid_there program (span.Steps first last) step n o is_span at_step among is =
    let s = step - first in
    let at : first + s ≡ step = omega (arith, at_step.0) in
    steps_at program.dynamic first (last + 1 - first) s n o (omega (arith, at_step.0, at_step.1)) is ∙ ap (λ (k : ℕ). Some (laid_at k n o)) at
