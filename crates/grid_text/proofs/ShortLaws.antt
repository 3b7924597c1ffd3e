-- Cells of few digits at the front of a text.
use Rattle.std.proofs.Common.{◌≡◌, ℕ, zero, suc, ◌-◌, ◌<◌, ◌≤◌, true, false, List, [], ◌∷◌, length, take, drop, Option, Ok, ℤ, refl, sym, ap, ◌∙◌, arith, length-drop}
use Rattle.std.specs.List.{list_all}
use Rattle.std.proofs.lemmas.Bool.{and_parts, not-true}
use Rattle.std.proofs.lemmas.Grind.{common_steps}
use Rattle.std.proofs.lemmas.List.{nil_from_length}
use Rattle.cell_values.specs.declared.cell.Cell.{Cell}
use Rattle.cell_values.specs.declared.cell.Cell.TheVariants.{Val}
use Rattle.cell_values.specs.declared.kind.Kind.{Kind}
use Rattle.cell_values.specs.inside.Reading.{cell_read}
use Rattle.text_base.specs.Bytes.{is_blank}
use Rattle.text_base.specs.Tokens.{IsEmptyOrToken, ends_token, tokens_left}
use Rattle.text_base.specs.inside.Steps.{is_token_byte}
use Rattle.text_base.proofs.Callers.{tokens_left-blank, tokens_left-token}
use Rattle.cell_values.proofs.Callers.{decimal-some, decimal-visible, value-from_cell}
use Rattle.grid_text.specs.inside.Reading.{cell_or_fault_at}
use Rattle.grid_text.specs.inside.Steps.{BeginsWithCell, EndsTokenBefore, is_maybe_missing, number_of_cell}
use Rattle.grid_text.proofs.ValueLaws.{not_missing, cell_there}

visible : (b : ℕ) → 32 < b → is_token_byte b ≡ true
visible b h = grind (arith, common_steps)

some_taken : (n : ℕ) (bytes : List ℕ) → 0 < length (take n bytes) → 0 < length bytes
some_taken zero bytes h = absurd (omega arith)
some_taken (suc n) [] h = absurd (omega arith)
some_taken (suc n) (b ∷ bs) h = omega arith

-- a token stands at the front of bytes that begin with one of its bytes
at_front : (n : ℕ) (bytes : List ℕ) → 0 < length (take n bytes) → list_all is_token_byte (take n bytes) ≡ true → IsEmptyOrToken bytes
at_front zero bytes some run = absurd (omega arith)
at_front (suc n) [] some run = tt
at_front (suc n) (b ∷ bs) some run = not-true (is_blank b) (and_parts (is_token_byte b) (list_all is_token_byte (take n bs)) run).0

-- a blank that ends a token is passed
pub past_blank : (text : List ℕ) (b : ℕ) (behind : List ℕ) → text ≡ b ∷ behind → is_blank b ≡ true → EndsTokenBefore text behind
past_blank text b behind parts blank = rw parts (record {
  ends = blank;
  shorter = omega arith;
  same = λ text_len within. tokens_left-blank text_len b behind blank within;
})

-- nothing is passed at the end
pub past_end : (text : List ℕ) → length text ≡ 0 → EndsTokenBefore text text
past_end text none = record { ends = rw (nil_from_length text none) refl; shorter = omega arith; same = λ text_len within. refl }

-- a cell stands at the front
pub begins : (kind : Kind) (nodata : List ℕ) (number : Option ℤ) (text_len : ℕ) (bytes rest behind : List ℕ) (n : ℕ) (z : ℤ) → number ≡ number_of_cell (cell_read kind nodata) → length bytes ≤ text_len → n ≤ length bytes → rest ≡ drop n bytes
    → cell_read kind (take n bytes) ≡ Ok (Val z) → is_maybe_missing number (Ok (Val z)) ≡ false → EndsTokenBefore rest behind → BeginsWithCell kind nodata text_len bytes (Val z) behind
begins kind nodata number text_len bytes rest behind n z prepared inside within is read other end =
    let (d, text, has) = value-from_cell kind (take n bytes) z read in
    let run = decimal-visible is_token_byte visible (take n bytes) (d, text) in
    let taken = decimal-some (take n bytes) (d, text) in
    let some = some_taken n bytes taken in
    let front = at_front n bytes taken run in
    let there = not_missing kind nodata (take n bytes) number (Ok (Val z)) prepared (sym read) other in
    let fewer : length rest ≤ text_len = omega (arith, ap length is, length-drop n bytes, inside) in
    let short = end.shorter in
    record {
      token = record { at = text_len - length bytes; bytes = take n bytes };
      first = tokens_left-token text_len bytes n within some inside front run (ap ends_token (sym is) ∙ end.ends)
          ∙ ap (λ t. record { at = text_len - length bytes; bytes = take n bytes } ∷ tokens_left text_len t) (sym is)
          ∙ ap (λ ts. record { at = text_len - length bytes; bytes = take n bytes } ∷ ts) (sym (end.same text_len fewer));
      read = ap (cell_or_fault_at (text_len - length bytes)) (sym (cell_there kind nodata (take n bytes) there) ∙ read);
      within = omega (arith, short, fewer);
    }

-- behind blanks the same cell stands at the front
pub behind_blanks : (kind : Kind) (nodata : List ℕ) (text_len : ℕ) (bytes front : List ℕ) (cell : Cell) (behind : List ℕ) → tokens_left text_len front ≡ tokens_left text_len bytes → BeginsWithCell kind nodata text_len front cell behind → BeginsWithCell kind nodata text_len bytes cell behind
behind_blanks kind nodata text_len bytes front cell behind same found = record { token = found.token; first = sym same ∙ found.first; read = found.read; within = found.within }
