-- Which operations are kept, as marks say it.
use Rattle.std.specs.Prelude.{◌≡◌, ◌<◌, ◌+◌, ◌==◌, ◌&&◌, ◌||◌, nat_lt, ℕ, Bool, false, List, [], ◌∷◌, length, slice_index_or}
use Rattle.std.specs.List.{list_any}
use Rattle.map_meaning.specs.declared.program.DrainUse.{DrainUse}
use Rattle.map_meaning.specs.declared.program.Operand.{Operand}
use Rattle.map_meaning.specs.declared.program.Operation.{Operation}
use Rattle.map_meaning.specs.declared.program.OutputUse.{OutputUse}
use Rattle.script_types.specs.declared.kept.Written.{Written}
use Rattle.map_meaning.specs.Programs.{is_initial, is_last, is_mask_by, is_now, is_read_behind, operands_of}

-- the operation with this number is marked
abbrev pub is_marked : List Bool → ℕ → Bool
is_marked marks n = slice_index_or marks n false

-- where there is a mark, it is set if it was, or if the test passes
pub record Marks (old new : List Bool) (test : ℕ → Bool) : Type 0 where
  pub count : length new ≡ length old
  pub is : (n : ℕ) → n < length old → is_marked new n ≡ (is_marked old n || test n)

-- some operand of these operations passes the test
abbrev pub some_operand : (Operand → Bool) → List Operation → Bool
some_operand test ops = list_any (λ o. list_any test (operands_of o)) ops

-- some of these outputs writes an operand that passes the test
abbrev pub some_output : (Operand → Bool) → List OutputUse → Bool
some_output test outputs = list_any (λ u. test u.value) outputs

-- the operand may be one of the operation of `dynamic` with this number, at its own step or the next
abbrev pub is_now_or_last : ℕ → Operand → Bool
is_now_or_last n x = is_now n x || is_last n x

-- the operations whose numbers count from n, kept where the test says it
abbrev pub kept_where : (ℕ → Bool) → ℕ → List Operation → List Operation
kept_where keep n [] = []
kept_where keep n (o ∷ more) = record o { kept = keep n } ∷ kept_where keep (n + 1) more

-- some of these drain maps is masked by an operand that passes the test
abbrev pub some_mask : (Operand → Bool) → List DrainUse → Bool
some_mask test drains = list_any (λ d. is_mask_by test d.from) drains

-- one of these drain maps is computed behind so many operations
abbrev pub begins_stage : ℕ → List DrainUse → Bool
begins_stage n drains = list_any (λ d. d.after == n) drains

-- the marks are those of the operations that stages begin with
abbrev pub AreBegins : List Bool → List DrainUse → Type 0
AreBegins begins drains = (n : ℕ) → n < length begins → is_marked begins n ≡ begins_stage n drains

-- the operand may be the map of the operation of `initial` with this number, which stands before the begin of a stage
abbrev pub is_earlier : ℕ → ℕ → Operand → Bool
is_earlier begin n x = is_initial n x && nat_lt n begin

-- a step, a mask or a later stage reads the map of the operation of `initial` with this number, or an output writes it
abbrev pub is_kept_by : Written → ℕ → Bool
is_kept_by w n =
    some_operand (is_initial n) w.dynamic || some_output (is_initial n) w.outputs || some_mask (is_initial n) w.drains ||
    is_read_behind w.drains n 0 w.initial

-- the next step reads the map of the operation of `dynamic` with this number, or an output writes it
abbrev pub is_kept_in_steps_by : Written → ℕ → Bool
is_kept_in_steps_by w n = some_operand (is_last n) w.dynamic || some_output (is_now_or_last n) w.outputs

-- The same was written, with each operation kept exactly where a step, a mask or a later stage reads its map, or an output
-- writes it.
pub record KeepsOperations (old new : Written) : Type 0 where
  pub drains : new.drains ≡ old.drains
  pub outputs : new.outputs ≡ old.outputs
  pub keep : ℕ → Bool
  pub initial : new.initial ≡ kept_where keep 0 old.initial
  pub kept : (n : ℕ) → n < length old.initial → keep n ≡ is_kept_by old n
  pub step_keep : ℕ → Bool
  pub dynamic : new.dynamic ≡ kept_where step_keep 0 old.dynamic
  pub step_kept : (n : ℕ) → n < length old.dynamic → step_keep n ≡ is_kept_in_steps_by old n
