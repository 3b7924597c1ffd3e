-- A line that is written in pieces.
use Rattle.std.specs.Prelude.{◌≡◌, ◌≤◌, ◌++◌, List, [], ◌∷◌, ℕ, Ok, Err, Result, decimal}
use Rattle.outside_io.specs.State.{SinkState, WroteFront}
use Rattle.outside_io.specs.Counts.{raised}
use Rattle.outside_io.specs.declared.sink.SinkFailed.{SinkFailed}
use Rattle.lue_run.specs.declared.pieces.Piece.{Piece}
use Rattle.lue_run.specs.declared.pieces.Piece.TheVariants.{Text, Number}
use Rattle.lue_run.specs.Answers.{WroteWhole}

-- the bytes of a piece
abbrev pub piece_bytes : Piece → List ℕ
piece_bytes (Text text) = text.now
piece_bytes (Number number) = decimal number

-- a front of these bytes was written, and one fault counted
pub record WroteCut (old new : SinkState) (bytes : List ℕ) : Type 0 where
  pub failed : new.faults ≡ raised old.faults
  pub later : old.faults ≤ new.faults
  pub front : WroteFront old new bytes

-- what becomes of bytes that are put: they are written whole, or cut
abbrev pub PutsLine : List ℕ → SinkState → SinkState → Result (Unit {0}) SinkFailed → Type 0
PutsLine bytes old new (Ok done) = WroteWhole old new bytes
PutsLine bytes old new (Err e) = WroteCut old new bytes

-- these bytes, and behind them those of the pieces
abbrev pub with_pieces : List ℕ → List Piece → List ℕ
with_pieces bytes [] = bytes
with_pieces bytes (piece ∷ more) = with_pieces (bytes ++ piece_bytes piece) more

-- What is to be written was written up to the pieces that are left.
pub record Writing (whole : List ℕ) (old : SinkState) (left : List Piece) (mid : SinkState) : Type 0 where
  pub done : List ℕ
  pub parts : whole ≡ with_pieces done left
  pub wrote : WroteWhole old mid done
