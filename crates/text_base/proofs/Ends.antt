-- What a text ends with.
use Rattle.std.proofs.Common.{◌≡◌, ℕ, List, [], ◌∷◌, ◌++◌, refl, sym, ap, ◌∙◌, inl, inr, ◌⊎◌}
use Rattle.std.proofs.lemmas.List.{append_assoc, append-nil}
use Rattle.text_base.specs.Bytes.{line_feed, EndsWith}
use Rattle.text_base.specs.Lines.{EndsWithLine}
use Rattle.text_base.specs.inside.Steps.{IsCutAtLine}

-- a text ends with itself
pub ends_with_all : (text : List ℕ) → EndsWith text text
ends_with_all text = ([], refl)

-- a text ends with the end of what it ends with
pub ends_with_back : (text end front back : List ℕ) → EndsWith text end → end ≡ front ++ back → EndsWith text back
ends_with_back text end front back h is = (h.0 ++ front, h.1 ∙ ap (λ (l : List ℕ). h.0 ++ l) is ∙ sym (append_assoc h.0 front back))

-- a text ends with what equals what it ends with
pub ends_with_same : (text end other : List ℕ) → EndsWith text end → end ≡ other → EndsWith text other
ends_with_same text end other h is = (h.0, h.1 ∙ ap (λ (l : List ℕ). h.0 ++ l) is)

-- a text ends with what stands behind a line of its end
pub ends_with_rest : (text end line rest : List ℕ) → EndsWith text end → IsCutAtLine end line rest → EndsWith text rest
ends_with_rest text end line rest h cut = at cut.parts
  where
    at : (end ≡ line ++ line_feed ∷ rest) ⊎ ((end ≡ line) × (rest ≡ [])) → EndsWith text rest
    at (inl is) = ends_with_back text end (line ++ line_feed ∷ []) rest h (is ∙ sym (append_assoc line (line_feed ∷ []) rest))
    at (inr last) = ends_with_back text end line rest h (last.0 ∙ sym (append-nil line) ∙ ap (λ (l : List ℕ). line ++ l) (sym last.1))

-- a text ends with a line of its end and what stands behind it
pub ends_with_line : (text end line rest : List ℕ) → EndsWith text end → IsCutAtLine end line rest → EndsWithLine text line rest
ends_with_line text end line rest h cut = at cut.parts
  where
    at : (end ≡ line ++ line_feed ∷ rest) ⊎ ((end ≡ line) × (rest ≡ [])) → EndsWithLine text line rest
    at (inl is) = inl (ends_with_same text end (line ++ line_feed ∷ rest) h is)
    at (inr last) = inr (ends_with_same text end line h last.0, last.1)
