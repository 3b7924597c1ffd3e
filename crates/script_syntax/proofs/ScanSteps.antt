-- Steps of the scanner.
use Rattle.std.proofs.Common.{◌≡◌, ◌+◌, ℕ, Bool, true, false, List, ◌∷◌, take, take_while, Some, refl, sym, ◌∙◌, ap, arith, cond, suc}
use Rattle.std.specs.List.{prefix_len}
use Rattle.text_base.specs.Bytes.{is_letter, is_word_byte}
use Rattle.script_syntax.specs.declared.token.Token.{Token}
use Rattle.script_syntax.specs.Spelling.{word_token}
use Rattle.script_syntax.specs.inside.Scanning.{plain_at, found, number_of_len, number_len}

cond_true : {A : Type 0} (b : Bool) (x y : A) → b ≡ true → cond b x y ≡ x
cond_true true x y e = refl
cond_true false x y e = absurd cc

-- a word at the front is the token there
pub plain_word : (text : List ℕ) (b : ℕ) (bs word : List ℕ) (t : Token) (n : ℕ) → text ≡ b ∷ bs → is_letter b ≡ true → n ≡ prefix_len is_word_byte bs → word ≡ take (1 + n) text → t ≡ word_token word → plain_at text ≡ Some (record { token = t; len = 1 + n })
unfolding plain_at
plain_word text b bs word t n same h e w is =
    let one : 1 + n ≡ suc n = omega arith in
    let tk : word ≡ b ∷ take_while is_word_byte bs = w ∙ (ap (take (1 + n)) same ∙ (ap (λ (k : ℕ). take k (b ∷ bs)) one ∙ ap (λ (k : ℕ). b ∷ take k bs) e)) in
    let token : t ≡ word_token (b ∷ take_while is_word_byte bs) = is ∙ ap word_token tk in
    ap plain_at same
    ∙ (cond_true (is_letter b) (found (word_token (b ∷ take_while is_word_byte bs)) (1 + prefix_len is_word_byte bs)) (number_of_len (number_len (b ∷ bs)) (b ∷ bs)) h
    ∙ (ap (λ (u : Token). found u (1 + prefix_len is_word_byte bs)) (sym token) ∙ ap (λ (k : ℕ). found t (1 + k)) (sym e)))
