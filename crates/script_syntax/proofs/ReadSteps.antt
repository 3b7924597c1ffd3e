-- Steps of the reader.
use Rattle.std.proofs.Common.{◌≡◌, ℕ, ◌+◌, ◌<◌, ◌≤◌, Bool, true, false, List, [], Option, Some, None, Result, Ok, Err, sym, ◌∙◌, ap, subst, arith}
use Rattle.std.specs.Prelude.{IsErrAnd, if◌then◌else◌}
use Rattle.script_syntax.specs.declared.fault.ReadScript.{ReadScript}
use Rattle.script_syntax.specs.declared.fault.ReadScript.TheVariants as errors
use Rattle.script_syntax.specs.declared.fault.SyntaxFault.{SyntaxFault}
use Rattle.script_syntax.specs.declared.token.Token.{Token}
use Rattle.script_syntax.specs.declared.tree.Script.{Script}
use Rattle.script_syntax.specs.declared.counts.Counts.{Counts}
use Rattle.script_syntax.specs.declared.place.Mode.TheVariants.{Bindings}
use Rattle.script_syntax.specs.declared.place.Place.{Place}
use Rattle.script_syntax.specs.declared.scanner.Placed.{Placed}
use Rattle.script_syntax.specs.declared.scanner.Scanner.{Scanner}
use Rattle.script_syntax.specs.declared.reading.Reading.{Reading}
use Rattle.script_syntax.specs.Answers.{Reads}
use Rattle.script_syntax.specs.Faults.{place_after_token}
use Rattle.script_syntax.specs.Listed.{is_semicolon, is_section, is_timer, is_before_statement, is_counted, counts_behind}
use Rattle.script_syntax.specs.Places.{first_place}
use Rattle.script_syntax.specs.Tokens.{Ending, Scanned}
use Rattle.script_syntax.specs.inside.Counting.{IsCountBelow, AreBelow, one_more, timer_after, statements_after, counts_after}
use Rattle.script_syntax.specs.inside.Reading.{at_end, step_at, and_then, read_from, read_scanned, tree_by_tokens}
use Rattle.script_syntax.specs.inside.Readings.{new_reading}
use Rattle.script_syntax.specs.inside.Scanner.{scan_of}
use Rattle.script_syntax.specs.inside.Scanning.{scan, scanned, with_token}

-- one token, and then the others
pub read_scanned-token : (r : Reading) (c : Counts) (end : Place) (old new : Scanned) (t : Placed) → old ≡ with_token t new → read_scanned r c end old ≡ and_then (step_at r c t) (λ n. read_scanned n (counts_after c t.token) (place_after_token t) new)
unfolding read_scanned
read_scanned-token r c end old new t e = ap (λ (s : Scanned). read_from r c end s.tokens s.ending) e

-- no token more
pub read_scanned-end : (r : Reading) (c : Counts) (end : Place) (old : Scanned) (e : Ending) → old ≡ scanned [] e → read_scanned r c end old ≡ at_end r end e
unfolding read_scanned
read_scanned-end r c end old e h = ap (λ (s : Scanned). read_from r c end s.tokens s.ending) h

-- a token that was refused
pub refused : (r : Result Script ReadScript) (e : ReadScript) (step : Result Reading SyntaxFault) (next : Reading → Result Script SyntaxFault) (all : Result Script SyntaxFault) → IsErrAnd r (λ y. y ≡ e) → Reads (Err e) step → all ≡ and_then step next → Reads r all
refused (Ok x) e step next all h k is = absurd h
refused (Err errors.Memory) e step next all h k is = tt
refused (Err (errors.Syntax f)) errors.Memory step next all h k is = absurd cc
refused (Err (errors.Syntax f)) (errors.Syntax g) step next all h k is =
    let same : f ≡ g = cc in
    is ∙ (ap (λ (s : Result Reading SyntaxFault). and_then s next) k ∙ ap Err (sym same))

-- a token that was taken
pub taken : (r n : Reading) (c : Counts) (end : Place) (old new : Scanned) (t : Placed) → old ≡ with_token t new → step_at r c t ≡ Ok n → read_scanned n (counts_after c t.token) (place_after_token t) new ≡ read_scanned r c end old
taken r n c end old new t e s =
    sym (read_scanned-token r c end old new t e ∙ ap (λ (x : Result Reading SyntaxFault). and_then x (λ m. read_scanned m (counts_after c t.token) (place_after_token t) new)) s)

-- ---- counts stay small

below_more : (o : Option ℕ) (n m : ℕ) → IsCountBelow o n → n + 1 ≤ m → 1 < m → IsCountBelow (one_more o) m
below_more None n m h l k = tt
below_more (Some x) n m h l k = omega arith

below_timer : (o : Option ℕ) (t : Token) (n m : ℕ) → IsCountBelow o n → n + 1 ≤ m → 1 < m → IsCountBelow (timer_after o t) m
below_timer o t n m h l k = by_test (is_timer t) o n m h l k
  where
    by_test : (b : Bool) (o : Option ℕ) (n m : ℕ) → IsCountBelow o n → n + 1 ≤ m → 1 < m → IsCountBelow (if b then Some 0 else one_more o) m
    by_test true o n m h l k = omega arith
    by_test false o n m h l k = below_more o n m h l k

below_statements : (o : Option ℕ) (t : Token) (n m : ℕ) → IsCountBelow o n → n + 1 ≤ m → 1 < m → IsCountBelow (statements_after o t) m
below_statements None t n m h l k = by_test (is_section t) m k
  where
    by_test : (b : Bool) (m : ℕ) → 1 < m → IsCountBelow (if b then Some 0 else None) m
    by_test true m k = omega arith
    by_test false m k = tt
below_statements (Some x) t n m h l k = by_test (is_semicolon t) x n m h l
  where
    by_test : (b : Bool) (x n m : ℕ) → x + 1 < n → n + 1 ≤ m → (if b then x + 1 else x) + 1 < m
    by_test true x n m h l = omega arith
    by_test false x n m h l = omega arith

one_or_same : (b : Bool) (x n m : ℕ) → x + 1 < n → n + 1 ≤ m → (if b then x + 1 else x) + 1 < m
one_or_same true x n m h l = omega arith
one_or_same false x n m h l = omega arith

counted_small : (a b : Bool) (x n m : ℕ) → x + 1 < n → n + 1 ≤ m → 1 < m → (if a then 0 else (if b then x + 1 else x)) + 1 < m
counted_small true b x n m h l k = omega arith
counted_small false true x n m h l k = omega arith
counted_small false false x n m h l k = omega arith

-- with one more token all counts are below one more
pub below_after : (c : Counts) (t : Token) (n m : ℕ) → AreBelow c n → n + 1 ≤ m → AreBelow (counts_after c t) m
below_after c t n m h l =
    let some : 1 < m = (let s = h.semicolons in omega arith) in
    record {
      semicolons = one_or_same (is_semicolon t) c.semicolons n m h.semicolons l;
      statements = below_statements c.statements t n m h.statements l some;
      counted = counted_small (is_before_statement t) (is_counted t) c.counted n m h.counted l some;
      timer = below_timer c.timer t n m h.timer l some;
    }

-- ---- the whole text

pub tree_by_tokens-is : (text : List ℕ) (s : Scanner) (r : Reading) → s.rest.now ≡ text → s.mode ≡ Bindings → s.place ≡ first_place → r ≡ new_reading → read_scanned r (counts_behind []) s.place (scan_of s) ≡ tree_by_tokens text
unfolding tree_by_tokens scan_of
tree_by_tokens-is text s r rest mode place new =
    ap (λ (x : Reading). read_scanned x (counts_behind []) s.place (scan s.rest.now 0 s.mode s.place)) new
    ∙ (ap (λ (ys : List ℕ). read_scanned new_reading (counts_behind []) s.place (scan ys 0 s.mode s.place)) rest
    ∙ (ap (λ m. read_scanned new_reading (counts_behind []) s.place (scan text 0 m s.place)) mode
    ∙ ap (λ (p : Place). read_scanned new_reading (counts_behind []) p (scan text 0 Bindings p)) place))

-- an answer that is this fault
pub faulty : {X : Type 0} (e : ReadScript) (f : SyntaxFault) (has : Result X SyntaxFault) → e ≡ errors.Syntax f → has ≡ Err f → Reads {X = X} (Err e) has
faulty {X = X} e f has is h = subst (λ (x : ReadScript). Reads {X = X} (Err x) has) (sym is) h

-- an answer for an equal value
pub answers : {X : Type 0} (r : Result X ReadScript) (a b : Result X SyntaxFault) → Reads r a → b ≡ a → Reads r b
answers r a b h e = subst (λ has. Reads r has) (sym e) h
