-- A run over files: its reads and puts in order, and its end.
use Rattle.std.specs.Prelude.{ℕ, List, [], ◌∷◌}
use Rattle.std.specs.FinMap.{insert}
use Rattle.outside_io.specs.State.{Files, PutPair}

-- one read or put
pub data Event : Type 0 where
  Read : (name : List ℕ) (limit : ℕ) → Event
  Put : (name bytes : List ℕ) → Event

-- what is done in order, and what comes out
pub record Course (X : Type 0) : Type 0 where
  pub events : List Event
  pub end : X

-- A run: its course over the files as they are when it begins.
abbrev pub Run : Type 0 → Type 0
Run X = Files → Course X

-- the puts among the events
abbrev pub puts_of : List Event → List PutPair
puts_of [] = []
puts_of (Read name limit ∷ events) = puts_of events
puts_of (Put name bytes ∷ events) = (name, bytes) ∷ puts_of events

-- the files after these puts, the first of them first
abbrev pub files_after : List PutPair → Files → Files
files_after [] files = files
files_after (put ∷ puts) files = files_after puts (insert files put.0 put.1)
