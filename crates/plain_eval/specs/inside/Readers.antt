-- Which operations read which maps.
use Rattle.std.specs.Prelude.{◌≡◌, ℕ, ◌<◌, ◌+◌, Bool, List, [], ◌∷◌, length, slice_index_or, if◌then◌else◌, ⊤, Option, Some, None}
use Rattle.std.specs.List.{list_any}
use Rattle.map_meaning.specs.declared.known.Span.{Span}
use Rattle.map_meaning.specs.declared.program.Operand.{Operand}
use Rattle.map_meaning.specs.declared.program.Operation.{Operation}
use Rattle.map_meaning.specs.Programs.{operands_of}
use Rattle.plain_eval.specs.inside.Sections.{is_own, own_number}

-- the operation reads the map of the operation k of the span
abbrev pub reads : Span → ℕ → Operation → Bool
reads s k o = list_any (is_own s k) (operands_of o)

-- the number of the last of these operations, which count from n, that reads the map of the operation k; d where none does
abbrev pub last_reader : Span → ℕ → ℕ → ℕ → List Operation → ℕ
last_reader s k d n [] = d
last_reader s k d n (o ∷ more) = last_reader s k (if reads s k o then n else d) (n + 1) more

-- it is a number below n, if any
abbrev pub IsNumberBelow : ℕ → Option ℕ → Type 0
IsNumberBelow n None = ⊤
IsNumberBelow n (Some k) = k < n

-- an operand names an operation of the section below n, if any
abbrev pub NamesBelow : Span → ℕ → Operand → Type 0
NamesBelow s n operand = IsNumberBelow n (own_number s operand)

-- the operands of an operation name operations below n
pub record ReadsBelow (s : Span) (n : ℕ) (o : Operation) : Type 0 where
  pub a : NamesBelow s n o.a
  pub b : NamesBelow s n o.b
  pub c : NamesBelow s n o.c
  pub d : NamesBelow s n o.d

-- for each operation of a list the number of the last one that reads its map; its own where none does
pub record AreLastReaders (s : Span) (operations : List Operation) (last : List ℕ) : Type 0 where
  pub count : length last ≡ length operations
  pub each : (k : ℕ) → k < length operations → slice_index_or last k 0 ≡ last_reader s k k 0 operations

-- the number n stands at the places of the operations whose maps are read, and all others are as they were
pub record NotesReader (s : Span) (n : ℕ) (o : Operation) (before after : List ℕ) : Type 0 where
  pub count : length after ≡ length before
  pub each : (k : ℕ) → k < length before → slice_index_or after k 0 ≡ (if reads s k o then n else slice_index_or before k 0)
