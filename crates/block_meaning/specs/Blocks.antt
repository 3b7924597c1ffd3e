-- Several steps, each of them to its end.
use Rattle.std.specs.Prelude.{◌≡◌, ◌<◌, ◌⊎◌, ◌+◌, ◌-◌, ℕ, zero, suc, List, [], ◌∷◌, ◌++◌, take}
use Rattle.std.specs.Prelude.{All, AllPairs, Contains, Option, Some, None, Ok}
use Rattle.map_meaning.specs.declared.known.Known.{Known}
use Rattle.map_meaning.specs.declared.known.OverAt.{OverAt}
use Rattle.map_meaning.specs.declared.known.Span.{Span}
use Rattle.map_meaning.specs.declared.known.StepMap.{StepMap}
use Rattle.map_meaning.specs.declared.program.Program.{Program}
use Rattle.map_meaning.specs.Evaluation.{Done}
use Rattle.map_meaning.specs.Onward.{ComesBefore, Onward, onward}
use Rattle.map_meaning.specs.Programs.{StandsBefore}
use Rattle.map_meaning.specs.Spans.{done_next, scene_of, told_of, told_steps}

-- what an evaluation of steps that goes on has: what is done at the end of each step, and a note of each operation that was
-- Over somewhere
pub record OnwardSteps : Type 0 where
  pub steps : List Done
  pub notes : List OverAt

-- a step, and those behind it
abbrev pub with_step : Onward → OnwardSteps → OnwardSteps
with_step o behind = record { steps = o.done ∷ behind.steps; notes = o.notes ++ behind.notes }

-- so many steps from this one on, each of them to its end
abbrev pub onward_steps : Program → Span → Known → Done → ℕ → ℕ → OnwardSteps
onward_steps program s known done step zero = record { steps = []; notes = [] }
onward_steps program s known done step (suc more) =
    let o = onward program (scene_of program.inputs known step) s done program.dynamic in
    with_step o (onward_steps program s known (done_next o.done) (step + 1) more)

-- the first Over is that of an earlier step, or of an earlier statement or operation of the same step
abbrev pub IsEarlier : OverAt → OverAt → Type 0
IsEarlier x y = (x.step < y.step) ⊎ ((x.step ≡ y.step) × ComesBefore x y)

-- it is one of the notes, and all others are those of later operations
pub record IsFirstOf (notes : List OverAt) (at : OverAt) : Type 0 where
  pub noted : Contains notes at
  pub first : All (λ note. (note ≡ at) ⊎ IsEarlier at note) notes

-- the kept maps of steps, from this one on
abbrev pub kept_maps_of : Program → Span → ℕ → List Done → List StepMap
kept_maps_of program s step [] = []
kept_maps_of program s step (done ∷ more) = (told_of program s step (Ok done)).maps ++ kept_maps_of program s (step + 1) more

-- the maps are those of the steps before the one of an Over, and of all steps where there is none; the Over is the first one
-- that is noted
abbrev pub TellsFirstNoted : Program → Span → ℕ → OnwardSteps → Option OverAt → List StepMap → Type 0
TellsFirstNoted program s step b None maps = (b.notes ≡ []) × (maps ≡ kept_maps_of program s step b.steps)
TellsFirstNoted program s step b (Some at) maps =
    IsFirstOf b.notes at × (maps ≡ kept_maps_of program s step (take (at.step - step) b.steps))

-- what is told of steps one after the other is what the evaluation that goes on has before the first Over
abbrev pub TellTheLeastOfBlocks : Type 0
TellTheLeastOfBlocks =
    (program : Program) (s : Span) (known : Known) (done : Done) (step more : ℕ) → AllPairs StandsBefore program.dynamic →
    TellsFirstNoted program s step (onward_steps program s known done step more) (told_steps program s known done step more).over
    (told_steps program s known done step more).maps
