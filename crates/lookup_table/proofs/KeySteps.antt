-- The bounds of an interval, as the reader finds them.
use Rattle.std.proofs.Common.{◌≡◌, ℕ, Bool, true, false, cond, List, [], ◌∷◌, length, map, Some, None, Ok, Err, refl, sym, ap, ◌∙◌}
use Rattle.std.specs.Prelude.{is_some}
use Rattle.cell_values.specs.inside.Reading.{decimal_of}
use Rattle.text_base.specs.Tokens.{Token, tokens_left}
use Rattle.text_base.proofs.Callers.{tokens_left-all}
use Rattle.lookup_table.specs.declared.fault.TableKind.TheVariants as kinds
use Rattle.lookup_table.specs.Keys.{bound_of, bound_in}
use Rattle.lookup_table.specs.inside.Reading.{bound_or}

-- the bound by the tokens that are left of the whole text
bound_left : (text : List ℕ) (left : List Token) → tokens_left (length text) text ≡ left → bound_or (bound_in text) ≡ bound_or (bound_of (map (λ token. token.bytes) left))
bound_left text left e = ap (λ (ts : List Token). bound_or (bound_of (map (λ token. token.bytes) ts))) (sym (tokens_left-all text) ∙ e)

pub bound_none : (text : List ℕ) → tokens_left (length text) text ≡ [] → Ok None ≡ bound_or (bound_in text)
bound_none text e = sym (bound_left text [] e)

pub bound_two : (text : List ℕ) (word other : Token) (left more : List Token) → tokens_left (length text) text ≡ word ∷ left → left ≡ other ∷ more → Err kinds.BadInterval ≡ bound_or (bound_in text)
bound_two text word other left more e two = sym (bound_left text (word ∷ other ∷ more) (e ∙ ap (λ (ts : List Token). word ∷ ts) two))

pub bound_one : (text : List ℕ) (word : Token) (left : List Token) (good : Bool) → tokens_left (length text) text ≡ word ∷ left → left ≡ [] → good ≡ is_some (decimal_of word.bytes)
    → cond good (Ok (Some word.bytes)) (Err kinds.BadInterval) ≡ bound_or (bound_in text)
bound_one text word left good e one is =
    by_test good
    ∙ ap (λ b. bound_or (cond b (Some (Some word.bytes)) None)) is
    ∙ sym (bound_left text (word ∷ []) (e ∙ ap (λ (ts : List Token). word ∷ ts) one))
  where
    by_test : (b : Bool) → cond b (Ok (Some word.bytes)) (Err kinds.BadInterval) ≡ bound_or (cond b (Some (Some word.bytes)) None)
    by_test true = refl
    by_test false = refl
