-- A line that is written in pieces.
use Rattle.std.proofs.Common.{◌≡◌, ℕ, ◌+◌, ◌≤◌, List, [], ◌∷◌, ◌++◌, length, take, refl, sym, ap, subst, ◌∙◌, arith, append_assoc, append-nil, length-append}
use Rattle.std.proofs.lemmas.List.{take-append-le}
use Rattle.std.proofs.Math.Seq.{take-append-add}
use Rattle.std.specs.Prelude.{None, Some}
use Rattle.std.specs.declared.option.Option.{Option}
use Rattle.std.specs.Io.KnownBytes.{append_known}
use Rattle.outside_io.specs.State.{SinkState, Wrote}
use Rattle.outside_io.specs.Counts.{raised}
use Rattle.lue_run.specs.declared.pieces.Piece.{Piece}
use Rattle.lue_run.specs.Answers.{WroteWhole}
use Rattle.lue_run.specs.inside.Pieces.{WroteCut, Writing, piece_bytes, with_pieces}

-- bytes behind bytes behind what is known
append_known_more : (known : Option (List ℕ)) (xs ys : List ℕ) → append_known (append_known known xs) ys ≡ append_known known (xs ++ ys)
append_known_more None xs ys = refl
append_known_more (Some bytes) xs ys = ap (λ (all : List ℕ). Some all) (append_assoc bytes xs ys)

append_known_nothing : (known : Option (List ℕ)) → known ≡ append_known known []
append_known_nothing None = refl
append_known_nothing (Some bytes) = ap (λ (all : List ℕ). Some all) (sym (append-nil bytes))

wrote_more : (old mid new : SinkState) (xs ys : List ℕ) → Wrote old mid xs → Wrote mid new ys → Wrote old new (xs ++ ys)
wrote_more old mid new xs ys a b = b ∙ (ap (λ known. append_known known ys) a ∙ append_known_more old.written xs ys)

-- the bytes stand in front, whatever pieces come
abbrev more_of : List Piece → List ℕ
more_of [] = []
more_of (piece ∷ more) = piece_bytes piece ++ more_of more

with_pieces_behind : (bytes : List ℕ) (pieces : List Piece) → with_pieces bytes pieces ≡ bytes ++ more_of pieces
with_pieces_behind bytes [] = sym (append-nil bytes)
with_pieces_behind bytes (piece ∷ more) = with_pieces_behind (bytes ++ piece_bytes piece) more ∙ append_assoc bytes (piece_bytes piece) (more_of more)

-- a front of the next bytes, behind those that were written, is a front of all
front_later : (xs piece rest : List ℕ) (n : ℕ) → n ≤ length piece → take (length xs + n) (xs ++ (piece ++ rest)) ≡ xs ++ take n piece
front_later xs piece rest n few = take-append-add xs (piece ++ rest) n ∙ ap (λ front. xs ++ front) (take-append-le n piece rest few)

-- nothing was written
pub writing_start : (pieces : List Piece) (s : SinkState) → Writing (with_pieces [] pieces) s pieces s
writing_start pieces s = record { done = []; parts = refl; wrote = record { written = append_known_nothing s.written; faults = refl } }

module _ (whole : List ℕ) (old mid new : SinkState) (piece : Piece) (more : List Piece) (w : Writing whole old (piece ∷ more) mid) where
  -- one more piece was written
  pub writing_on : WroteWhole mid new (piece_bytes piece) → Writing whole old more new
  writing_on p = record {
    done = w.done ++ piece_bytes piece;
    parts = w.parts;
    wrote = record { written = wrote_more old mid new w.done (piece_bytes piece) w.wrote.written p.written; faults = p.faults ∙ w.wrote.faults };
  }

  -- the next piece was cut
  pub writing_cut : WroteCut mid new (piece_bytes piece) → WroteCut old new whole
  writing_cut p = record {
    failed = p.failed ∙ ap raised w.wrote.faults;
    later = subst (λ (faults : ℕ). faults ≤ new.faults) w.wrote.faults p.later;
    front = (
      length w.done + p.front.0,
      few,
      subst (λ bytes. Wrote old new bytes) (sym (ap (λ all. take (length w.done + p.front.0) all) all ∙ front_later w.done (piece_bytes piece) (more_of more) p.front.0 p.front.1))
          (wrote_more old mid new w.done (take p.front.0 (piece_bytes piece)) w.wrote.written p.front.2),
    );
  }
    where
      all : whole ≡ w.done ++ (piece_bytes piece ++ more_of more)
      all = w.parts ∙ with_pieces_behind w.done (piece ∷ more)

      few : length w.done + p.front.0 ≤ length whole
      few = omega (arith, ap length all, length-append w.done (piece_bytes piece ++ more_of more), length-append (piece_bytes piece) (more_of more), p.front.1)

-- all was written
pub writing_done : (whole : List ℕ) (old mid : SinkState) → Writing whole old [] mid → WroteWhole old mid whole
writing_done whole old mid w = subst (WroteWhole old mid) (sym w.parts) w.wrote
