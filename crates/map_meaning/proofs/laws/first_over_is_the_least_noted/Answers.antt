use Rattle.std.proofs.Common.{◌≡◌, ℕ, suc, List, [], ◌∷◌, ◌++◌, get_or, refl, Ok, Err, Result, arith, ◌⊎◌, inl, inr}
use Rattle.std.specs.Prelude.{All, AllPairs, Option, None, Some}
use Rattle.std.proofs.lemmas.List.Elements.{All-cons, All-nil}
use Rattle.text_base.specs.Results.{◌>>=◌}
use Rattle.map_meaning.specs.declared.known.OverAt.{OverAt}
use Rattle.map_meaning.specs.declared.known.Span.{Span}
use Rattle.map_meaning.specs.declared.program.Operation.{Operation}
use Rattle.map_meaning.specs.declared.program.Program.{Program}
use Rattle.map_meaning.specs.Evaluation.{Done, operation_part, operation_values, with_map}
use Rattle.map_meaning.specs.Laws.{TellsLeast}
use Rattle.map_meaning.specs.Maps.{WholeMap}
use Rattle.map_meaning.specs.Onward.{ComesBefore, note_of, onward, with_notes}
use Rattle.map_meaning.specs.Scenes.{Scene}
use Rattle.map_meaning.specs.Overs.{map_or_over, over_at}
use Rattle.map_meaning.specs.Programs.{StandsBefore}
use Rattle.map_meaning.proofs.laws.first_over_is_the_least_noted.Goals as goal

-- ---- lists of operations

-- the operations behind the first one
first_stands_before : (o : Operation) (more : List Operation) → AllPairs StandsBefore (o ∷ more) → All (StandsBefore o) more
first_stands_before o more pairs k d below = pairs 0 (suc k) d (omega arith) (omega arith)

rest_in_order : (o : Operation) (more : List Operation) → AllPairs StandsBefore (o ∷ more) → AllPairs StandsBefore more
rest_in_order o more pairs i j d before below = pairs (suc i) (suc j) d (omega arith) (omega arith)

-- a fact of the first and a fact of all behind it
first_of : (P : Operation → Type 0) (o : Operation) (more : List Operation) → All P (o ∷ more) → P o
first_of P o more all = all 0 o (omega arith)

rest_of : (P : Operation → Type 0) (o : Operation) (more : List Operation) → All P (o ∷ more) → All P more
rest_of P o more all k d below = all (suc k) d (omega arith)

-- ---- notes

-- what holds of each place of an operation holds of its note
noted : (scene : Scene) (P : OverAt → Type 0) (o : Operation) (over : Option ℕ) (behind : List OverAt) → ((place : ℕ) → P (over_at scene o.statement o.number place)) → All P behind → All P (note_of scene o over ++ behind)
noted scene P o None behind at_each all = all
noted scene P o (Some place) behind at_each all = All-cons P (over_at scene o.statement o.number place) behind (at_each place) all

-- what holds of each place of some operations holds of all their notes
all_noted : (program : Program) (scene : Scene) (s : Span) (P : OverAt → Type 0) (operations : List Operation) (done : Done) →
    All (λ o. (place : ℕ) → P (over_at scene o.statement o.number place)) operations → All P (onward program scene s done operations).notes
all_noted program scene s P [] done all = All-nil P
all_noted program scene s P (o ∷ more) done all =
    let Q : Operation → Type 0 = λ o. (place : ℕ) → P (over_at scene o.statement o.number place) in
    let part = operation_part program scene done o in
    noted scene P o part.over (onward program scene s (with_map s done part.cells) more).notes (first_of Q o more all) (all_noted program scene s P more (with_map s done part.cells) (rest_of Q o more all))

-- the note of an earlier operation comes before those of later ones
comes_before : (scene : Scene) (o p : Operation) (place other : ℕ) → StandsBefore o p → ComesBefore (over_at scene o.statement o.number place) (over_at scene p.statement p.number other)
comes_before scene o p place other stands = stands

-- ---- the first Over

-- the outcome of the first operation, and what is told behind it
told_behind : (program : Program) (scene : Scene) (s : Span) (done : Done) (o : Operation) (more : List Operation) (over : Option ℕ) (m : WholeMap) →
    AllPairs StandsBefore (o ∷ more) → TellsLeast (operation_values program scene s (with_map s done m) more) (onward program scene s (with_map s done m) more) →
    TellsLeast (map_or_over scene o.statement o.number over m >>= λ m. operation_values program scene s (with_map s done m) more) (with_notes (note_of scene o over) (onward program scene s (with_map s done m) more))
told_behind program scene s done o more None m pairs behind = same_notes (operation_values program scene s (with_map s done m) more) behind
  where
    same_notes : (r : Result Done OverAt) → TellsLeast r (onward program scene s (with_map s done m) more) → TellsLeast r (with_notes [] (onward program scene s (with_map s done m) more))
    same_notes (Ok d) h = h
    same_notes (Err at) h = h
told_behind program scene s done o more (Some place) m pairs behind =
    let at : OverAt = over_at scene o.statement o.number place in
    let rest : List OverAt = (onward program scene s (with_map s done m) more).notes in
    let P : OverAt → Type 0 = λ note. (note ≡ at) ⊎ ComesBefore at note in
    record {
      noted = (0, omega arith, refl);
      least = All-cons P at rest (inl refl) (all_noted program scene s P more (with_map s done m) (λ k d below other. inr (comes_before scene o (get_or more k d) place other (first_stands_before o more pairs k d below))));
    }

-- the least is told, and what is told is the least
tells : (program : Program) (scene : Scene) (s : Span) (done : Done) (operations : List Operation) → AllPairs StandsBefore operations → TellsLeast (operation_values program scene s done operations) (onward program scene s done operations)
tells program scene s done [] pairs = (refl, refl)
tells program scene s done (o ∷ more) pairs =
    let part = operation_part program scene done o in
    told_behind program scene s done o more part.over part.cells pairs (tells program scene s (with_map s done part.cells) more (rest_in_order o more pairs))

pub returns : goal.returns
returns c = tells
