-- The words of a line, as the reader finds them.
use Rattle.std.proofs.Common.{◌≡◌, ℕ, ◌≤◌, ◌<◌, Bool, true, false, cond, List, [], ◌∷◌, length, map, Some, None, sym, ap, ◌∙◌}
use Rattle.std.specs.Prelude.{codes, is_some}
use Rattle.std.specs.declared.option.Option.{Option}
use Rattle.std.specs.Option.{option_and_then}
use Rattle.std.proofs.lemmas.Bool.{le-leb, lt-leb}
use Rattle.cell_values.specs.Decimal.{Decimal}
use Rattle.cell_values.specs.inside.Reading.{decimal_of, same_value}
use Rattle.cell_values.proofs.Callers.{decimal-missing, missing_decimal}
use Rattle.text_base.specs.Tokens.{Token, tokens_left}
use Rattle.text_base.specs.Numbers.{whole_number_of}
use Rattle.text_base.proofs.Callers.{option_cases, tokens_left-all}
use Rattle.time_series.specs.Words.{line_words, are_one_value, is_missing_word, column_number, column_count}
use Rattle.time_series.specs.inside.Steps.{words_left}

-- at the start of a line all its words are left
pub words_all : (line : List ℕ) → words_left (length line) line ≡ line_words line
words_all line = ap (λ (ts : List Token). map (λ token. token.bytes) ts) (tokens_left-all line)

-- words by tokens
pub words_by : (len : ℕ) (bytes : List ℕ) (ts : List Token) → tokens_left len bytes ≡ ts → words_left len bytes ≡ map (λ token. token.bytes) ts
words_by len bytes ts e = ap (λ (all : List Token). map (λ token. token.bytes) all) e

-- what words of a line are, for what is said of all of them
pub count_by_words : (line : List ℕ) (words : List (List ℕ)) → words_left (length line) line ≡ words → column_count words ≡ column_count (line_words line)
count_by_words line words e = ap column_count (sym e ∙ words_all line)

pub count_none : (line : List ℕ) → tokens_left (length line) line ≡ [] → None ≡ column_count (line_words line)
count_none line e = count_by_words line [] (words_by (length line) line [] e)

pub count_two : (line : List ℕ) (word other : Token) (left more : List Token) → tokens_left (length line) line ≡ word ∷ left → left ≡ other ∷ more → None ≡ column_count (line_words line)
count_two line word other left more e two = count_by_words line _ (words_by (length line) line (word ∷ other ∷ more) (e ∙ ap (λ (ts : List Token). word ∷ ts) two))

pub count_one : (line : List ℕ) (word : Token) (left : List Token) → tokens_left (length line) line ≡ word ∷ left → left ≡ [] → option_and_then column_number (whole_number_of 7 word.bytes) ≡ column_count (line_words line)
count_one line word left e one = count_by_words line _ (words_by (length line) line (word ∷ []) (e ∙ ap (λ (ts : List Token). word ∷ ts) one))

-- a number of columns of 2 and more
pub columns_enough : (n : ℕ) → 2 ≤ n → column_number n ≡ Some n
columns_enough n h = ap (λ (b : Bool). cond b (Some n) None) (le-leb 2 n h)

pub columns_few : (n : ℕ) → n < 2 → column_number n ≡ None
columns_few n h = ap (λ (b : Bool). cond b (Some n) None) (lt-leb 2 n h)

-- a test of one exact value, made where the word is a decimal
pub missing_tested : (word : List ℕ) (r : Bool) → is_some (decimal_of word) ≡ true → ((x y : Decimal) → decimal_of word ≡ Some x → decimal_of (codes "1e31") ≡ Some y → r ≡ same_value x y) → r ≡ is_missing_word word
missing_tested word r some test =
    option_cases (decimal_of word)
    (λ none. let bad : true ≡ false = sym some ∙ ap (λ (o : Option Decimal). is_some o) none in absurd (cc))
    (λ x is. test x missing_decimal is decimal-missing ∙ sym (ap (λ (o : Option Decimal). are_one_value o (decimal_of (codes "1e31"))) is ∙ ap (λ (o : Option Decimal). are_one_value (Some x) o) decimal-missing))

-- a word that is no decimal stands for no missing value
pub missing_none : (word : List ℕ) → is_some (decimal_of word) ≡ false → false ≡ is_missing_word word
missing_none word none =
    option_cases (decimal_of word)
    (λ is. sym (ap (λ (o : Option Decimal). are_one_value o (decimal_of (codes "1e31"))) is))
    (λ x is. let bad : true ≡ false = sym (ap (λ (o : Option Decimal). is_some o) is) ∙ none in absurd (cc))
