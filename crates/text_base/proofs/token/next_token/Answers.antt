use Rattle.std.proofs.Common.{◌≡◌, ◌<◌, ◌-◌, ℕ, List, [], ◌∷◌, length, drop, ap, sym, ◌∙◌, arith}
use Rattle.std.proofs.lemmas.Bool.{eqb-true, eqb-false}
use Rattle.std.proofs.lemmas.List.{nil_from_length}
use Rattle.text_base.specs.Tokens.{Token}
use Rattle.text_base.specs.Tokens.{tokens_left}
use Rattle.text_base.proofs.Callers.{tokens_left-nil, tokens_left-token}
use Rattle.text_base.proofs.token.next_token.Goals as goal

pub returns-then-is_empty-clause-tokens : goal.returns-then-is_empty-clause-tokens
returns-then-is_empty-clause-tokens c =
    let n = c.args.text_len in
    let none : c.skip_blanks-rest.result.now ≡ [] = nil_from_length c.skip_blanks-rest.result.now (eqb-true _ 0 (sym c.is_empty.ensures ∙ c.if-is_empty.true)) in
    sym (c.skip_blanks-rest.ensures.same n c.requires.within) ∙ ap (tokens_left n) none ∙ tokens_left-nil n

pub returns-clause-tokens : goal.returns-clause-tokens
returns-clause-tokens c =
    let n = c.args.text_len in
    let rest = c.skip_blanks-rest.result.now in
    let apart : length rest ≡ 0 → ⊥ = eqb-false (length rest) 0 (sym c.is_empty.ensures ∙ c.if-is_empty.false) in
    let some : 0 < length rest = omega (arith, apart) in
    let at : ℕ = n - length rest in
    sym (c.skip_blanks-rest.ensures.same n c.requires.within)
    ∙ tokens_left-token n rest c.run_len.result c.run_len.ensures.within some (omega arith) c.skip_blanks-rest.ensures.at_token c.run_len.ensures.run c.run_len.ensures.end
    ∙ ap (λ (bytes : List ℕ). let t : Token = record { at = at; bytes = bytes } in t ∷ tokens_left n (drop c.run_len.result rest)) (sym c.split_at.ensures.front)
    ∙ ap (λ (bytes : List ℕ). let t : Token = record { at = at; bytes = c.split_at.result.0.now } in t ∷ tokens_left n bytes) (sym c.split_at.ensures.back)
