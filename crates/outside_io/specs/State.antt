-- What is told of a folder and of a sink, and what a call does to it.
use Rattle.std.specs.Prelude.{◌≡◌, ◌≢◌, ℕ, ◌+◌, ◌-◌, ◌^◌, ◌≤◌, min, List, [], ◌∷◌, ◌++◌, length, take, None, Some, IfSome, ⊤}
use Rattle.std.specs.Option.{option_map}
use Rattle.std.specs.declared.option.Option.{Option}
use Rattle.std.specs.Ordering.{nat_cmp}
use Rattle.std.specs.Cmp.Lexicographic.{slice_cmp}
use Rattle.std.specs.FinMap.{FinMap, get, insert}
use Rattle.std.specs.Io.KnownBytes.{append_known}

-- the count rose in a call, or it stands at its last value
abbrev pub Rose : ℕ → ℕ → Type 0
Rose before now = min (before + 1) (2 ^ 64 - 1) ≤ now

-- the bytes under each name
abbrev pub Files : Type 0
Files = FinMap (slice_cmp nat_cmp) (List ℕ)

-- one put that succeeded: its name and its bytes
abbrev pub PutPair : Type 0
PutPair = List ℕ × List ℕ

-- What a folder tells at one moment: the files that it holds and the puts that succeeded, each where it is told,
-- and four counts.
pub record FolderState : Type 0 where
  pub holds : Option Files
  pub puts : Option (List PutPair)
  pub read_faults : ℕ
  pub put_faults : ℕ
  pub absents : ℕ
  pub overlongs : ℕ

-- What a sink tells at one moment: the bytes written, where they are told, and the count of its faults.
pub record SinkState : Type 0 where
  pub written : Option (List ℕ)
  pub faults : ℕ

-- no count of the folder fell
pub record NoCountFell (old new : FolderState) : Type 0 where
  pub reads : old.read_faults ≤ new.read_faults
  pub puts : old.put_faults ≤ new.put_faults
  pub absents : old.absents ≤ new.absents
  pub overlongs : old.overlongs ≤ new.overlongs

-- where it is told, the folder holds these bytes under the name, and they are within the limit
pub record IsFound (old : FolderState) (name : List ℕ) (limit : ℕ) (bytes : List ℕ) : Type 0 where
  pub held : IfSome old.holds (λ files. get files name ≡ Some bytes)
  pub short : length bytes ≤ limit

-- a read changes neither the files nor the puts, nor the faults of puts
pub record ReadKeeps (old new : FolderState) : Type 0 where
  pub holds : new.holds ≡ old.holds
  pub puts : new.puts ≡ old.puts
  pub put_faults : new.put_faults ≡ old.put_faults
  pub later : NoCountFell old new

-- a put sets that one name
pub record IsPut (old new : FolderState) (name bytes : List ℕ) : Type 0 where
  pub holds : new.holds ≡ option_map (λ files. insert files name bytes) old.holds
  pub puts : new.puts ≡ option_map (λ puts. puts ++ (name, bytes) ∷ []) old.puts

-- the same files under every other name
abbrev pub SameOthers : List ℕ → Option Files → Option Files → Type 0
SameOthers name None None = ⊤
SameOthers name None (Some new) = ⊥
SameOthers name (Some old) None = ⊥
SameOthers name (Some old) (Some new) = (other : List ℕ) → other ≢ name → get new other ≡ get old other

-- after a put that did not succeed that name may hold anything
pub record IsNotPut (old new : FolderState) (name : List ℕ) : Type 0 where
  pub others : SameOthers name old.holds new.holds
  pub puts : new.puts ≡ old.puts

-- a put leaves the faults of reads
pub record PutKeeps (old new : FolderState) : Type 0 where
  pub read_faults : new.read_faults ≡ old.read_faults
  pub later : NoCountFell old new

-- the sink got these bytes, where it tells them
abbrev pub Wrote : SinkState → SinkState → List ℕ → Type 0
Wrote old new bytes = new.written ≡ append_known old.written bytes

-- the sink got a front of these bytes, where it tells them
abbrev pub WroteFront : SinkState → SinkState → List ℕ → Type 0
WroteFront old new bytes = (n : ℕ) × (n ≤ length bytes) × Wrote old new (take n bytes)
