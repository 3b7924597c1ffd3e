-- The outputs of a program that are time series, as they are kept.
use Rattle.std.specs.Prelude.{◌≡◌, ◌+◌, ◌≤◌, ℕ, zero, suc, true, List, [], ◌∷◌, All, IsSomeAnd, length, map, slice_get, if◌then◌else◌}
use Rattle.std.specs.List.{AllZip, filter}
use Rattle.map_meaning.specs.declared.program.InputUse.{InputUse}
use Rattle.map_meaning.specs.declared.program.Operand.{Operand}
use Rattle.map_meaning.specs.declared.program.Operand.TheVariants.{Input}
use Rattle.map_meaning.specs.declared.program.OutputKind.{OutputKind}
use Rattle.map_meaning.specs.declared.program.OutputKind.TheVariants.{Sample as IsSampleKind}
use Rattle.map_meaning.specs.declared.program.OutputUse.{OutputUse}
use Rattle.map_meaning.specs.Programs.{is_grid_role}
use Rattle.map_meaning.specs.Maps.{WholeMap, nth}
use Rattle.map_meaning.specs.Spans.{at_inputs}
use Rattle.script_types.specs.Lowered.{as_shown}
use Rattle.run_session.specs.declared.samples.Sample.{Sample}
use Rattle.run_session.specs.Samples.{all_begun, is_sample_form}
use Rattle.run_session.specs.inside.Standings.{IsSample, sampled_of}

-- how many of the first n inputs are grids
abbrev pub grids_before : List InputUse → ℕ → ℕ
grids_before [] n = 0
grids_before (input ∷ more) zero = 0
grids_before (input ∷ more) (suc n) = (if is_grid_role input.role then 1 else 0) + grids_before more n

-- the number of the input that an operand is; 0 where it is none
abbrev pub operand_input : Operand → ℕ
operand_input (Input n) = n
operand_input _ = 0

-- a time series is kept for an output
pub record IsKeptFor (uses : List InputUse) (output : OutputUse) (s : Sample) : Type 0 where
  pub value : s.value ≡ output.value
  pub input : s.input ≡ grids_before uses (operand_input output.value)

-- the time series are kept for those of these outputs that are such
abbrev pub AreSamplesOf : List InputUse → List OutputUse → List Sample → Type 0
AreSamplesOf uses outputs samples = AllZip (IsKeptFor uses) (filter (λ output. is_sample_form output.kind) outputs) samples

-- the map of the ids of an output that is a time series
abbrev pub ids_of : List WholeMap → OutputKind → WholeMap
ids_of maps (IsSampleKind ids) = nth maps ids
ids_of maps _ = []

-- the ids of the time series are those of these outputs that are such
abbrev pub HaveIds : List WholeMap → List OutputUse → List Sample → Type 0
HaveIds maps outputs samples =
    map (λ s. s.ids) samples ≡ map (λ output. ids_of maps output.kind) (filter (λ output. is_sample_form output.kind) outputs)

-- an output that is a time series with these ids can be kept: the ids are a grid of so many cells
pub record SampleFits (places : ℕ) (uses : List InputUse) (maps : List WholeMap) (output : OutputUse) (ids : ℕ) : Type 0 where
  pub grid : IsSomeAnd (slice_get uses ids) (λ input. is_grid_role input.role ≡ true)
  pub within : operand_input output.value ≤ length uses
  pub count : length (nth (at_inputs is_grid_role [] uses maps) ids) ≡ places

-- the time series are those of some outputs, without rows
pub record AreBegun (places : ℕ) (uses : List InputUse) (maps : List WholeMap) (outputs : List OutputUse) (samples : List Sample) :
    Type 0 where
  pub seen : map sampled_of samples ≡ all_begun (at_inputs is_grid_role [] uses maps) (map as_shown outputs)
  pub kept : AreSamplesOf uses outputs samples
  pub ids_are : HaveIds (at_inputs is_grid_role [] uses maps) outputs samples
  pub each : All (IsSample places) samples
