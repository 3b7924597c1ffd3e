-- How a text's first line is found.
use Rattle.std.proofs.Common.{◌≡◌, ℕ, ◌+◌, ◌<◌, ◌≤◌, Bool, true, false, not, cond, List, [], ◌∷◌, ◌++◌, length, get_or, map, take, drop, suc, refl, sym, ap, ◌∙◌, inl, inr, arith}
use Rattle.std.specs.List.{All, enumerate_from, filter, position_or_len, slice_split}
use Rattle.std.proofs.Math.Seq.{drop-cons}
use Rattle.std.proofs.lemmas.Bool.{not-true, eqb-true}
use Rattle.std.proofs.lemmas.List.{append-nil, take_all, drop_all, length-drop, length-take-le, take-append-drop}
use Rattle.std.proofs.lemmas.List.Splits.{slice_split_none, slice_split_first}
use Rattle.std.proofs.lemmas.List.Sums.{passes_at_first, prefix_len_passes}
use Rattle.text_base.specs.Bytes.{line_feed}
use Rattle.text_base.specs.Lines.{Line, is_line_feed, has_more_than_blanks, numbered, lines_at}
use Rattle.text_base.specs.inside.Steps.{kept, IsCutAtLine}

-- the lines with more than blanks among these parts
abbrev pub lines_among : ℕ → List (List ℕ) → List Line
lines_among number parts = filter (λ line. has_more_than_blanks line.bytes) (map numbered (enumerate_from number parts))

-- the first part, where it has more than blanks, and then the others
pub lines_among-cons : (number : ℕ) (part : List ℕ) (parts : List (List ℕ)) → lines_among number (part ∷ parts) ≡ kept (record { number = number; bytes = part }) ++ lines_among (number + 1) parts
lines_among-cons number part parts = at (has_more_than_blanks part)
  where
    line : Line
    line = record { number = number; bytes = part }

    at : (b : Bool) → cond b (line ∷ lines_among (number + 1) parts) (lines_among (number + 1) parts) ≡ cond b (line ∷ []) [] ++ lines_among (number + 1) parts
    at true = refl
    at false = refl

-- a text without a line feed is one line
pub lines_at-one : (number : ℕ) (text : List ℕ) → All (λ b. is_line_feed b ≡ false) text → lines_at number text ≡ kept (record { number = number; bytes = text })
unfolding lines_at
lines_at-one number text none = ap (lines_among number) (slice_split_none is_line_feed text none) ∙ lines_among-cons number text [] ∙ append-nil (kept (record { number = number; bytes = text }))

-- no line has more than blanks where no byte is left
pub lines_at-nil : (number : ℕ) → lines_at number [] ≡ []
unfolding lines_at
lines_at-nil number = refl

-- no byte before the first line feed is one
pub no_feed : (text : List ℕ) (k d : ℕ) → k < position_or_len is_line_feed text → is_line_feed (get_or text k d) ≡ false
no_feed text k d lt = not-true (is_line_feed (get_or text k d)) (prefix_len_passes (λ b. not (is_line_feed b)) text k d lt)

-- a text is what stands before its first line feed, this, and what stands behind it
pub feed_between : (text : List ℕ) (len : ℕ) → len ≡ position_or_len is_line_feed text → len < length text → text ≡ take len text ++ line_feed ∷ drop (len + 1) text
feed_between text len is lt =
    sym (take-append-drop len text)
    ∙ ap (λ (l : List ℕ). take len text ++ l) (drop-cons text len 0 lt ∙ ap (λ (k : ℕ). get_or text len 0 ∷ drop k text) next ∙ ap (λ (b : ℕ). b ∷ drop (len + 1) text) feed)
  where
    next : suc len ≡ len + 1
    next = omega arith

    feed : get_or text len 0 ≡ line_feed
    feed = eqb-true (get_or text len 0) line_feed (rw is (passes_at_first is_line_feed text 0 (rw (← is) lt)))

-- a text is cut at its first line feed
pub cut_at_feed : (text : List ℕ) (len : ℕ) → len ≡ position_or_len is_line_feed text → len < length text → IsCutAtLine text (take len text) (drop (len + 1) text)
unfolding lines_at
cut_at_feed text len is lt = record {
  lines = λ number. ap (lines_among number) parts ∙ lines_among-cons number (take len text) (slice_split is_line_feed (drop (len + 1) text));
  shorter = omega (arith, length-take-le len text, length-drop (len + 1) text);
  less = omega (arith, length-drop (len + 1) text);
  parts = inl (feed_between text len is lt);
}
  where
    parts : slice_split is_line_feed text ≡ take len text ∷ slice_split is_line_feed (drop (len + 1) text)
    parts = rw is (slice_split_first is_line_feed text 0 (rw (← is) lt))

-- a text without a line feed is cut at its end
pub cut_at_end : (text : List ℕ) (len : ℕ) → len ≡ position_or_len is_line_feed text → length text ≤ len → 0 < length text → IsCutAtLine text (take len text) (drop len text)
cut_at_end text len is le some =
    rw (take_all len text le, drop_all len text le)
    (record {
      lines = λ number. lines_at-one number text (λ k d lt. no_feed text k d (omega (arith, is))) ∙ sym (append-nil (kept (record { number = number; bytes = text }))) ∙ ap (λ ls. kept (record { number = number; bytes = text }) ++ ls) (sym (lines_at-nil (number + 1)));
      shorter = omega arith;
      less = some;
      parts = inr (refl, refl);
    })
