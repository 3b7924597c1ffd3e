-- Tokens begin a script exactly where all of them are taken, and are one exactly where the reading can end there.
use Rattle.std.proofs.Common.{◌≡◌, List, [], ◌∷◌, ◌++◌, Option, Some, None, refl, sym, ◌∙◌, ap, append-nil}
use Rattle.text_base.proofs.Callers.{some_is}
use Rattle.script_syntax.specs.declared.token.Token.{Token}
use Rattle.script_syntax.specs.declared.tree.Script.{Script}
use Rattle.script_syntax.specs.declared.reading.Reading.{Reading}
use Rattle.script_syntax.specs.Grammar.{script_tree, Derives, IsViable}
use Rattle.script_syntax.specs.inside.Readings.{new_reading, reading_step, finish}
use Rattle.script_syntax.specs.inside.Runs.{Went, done, stuck, went_onward, go}
use Rattle.script_syntax.proofs.ScriptPasts.{Past, at_start, past_on, reading_of, IsGood, advances, finishes}
use Rattle.script_syntax.proofs.Completing.{completable}
use Rattle.script_syntax.proofs.Taking.{take_script, finish_script}

-- what was taken, behind more tokens
record Leads (p : Past) (ts : List Token) (r : Reading) : Type 0 where
  past : Past
  good : IsGood past
  is : reading_of past ≡ r
  on : (rest : List Token) → past_on past rest ≡ past_on p (ts ++ rest)

leads : (ts : List Token) (p : Past) (r : Reading) → IsGood p → go (reading_of p) ts ≡ done r → Leads p ts r
leads [] p r good e = record { past = p; good = good; is = cc; on = λ rest. refl }
leads (t ∷ ts) p r good e = by_step (reading_step (reading_of p) t) t ts p r good refl e (λ q h g. leads ts q r h g)
  where
    by_step : (o : Option Reading) (t : Token) (ts : List Token) (p : Past) (r : Reading) → IsGood p → reading_step (reading_of p) t ≡ o → went_onward o (t ∷ ts) (λ n. go n ts) ≡ done r → ((q : Past) → IsGood q → go (reading_of q) ts ≡ done r → Leads q ts r) → Leads p (t ∷ ts) r
    by_step None t ts p r good is e next = absurd cc
    by_step (Some n) t ts p r good is e next =
        let a = advances p t n good is in
        let l = next a.next a.good (ap (λ (m : Reading). go m ts) a.is ∙ e) in
        record { past = l.past; good = l.good; is = l.is; on = λ rest. l.on rest ∙ a.on (ts ++ rest) }

-- tokens that are taken begin a script
pub done_viable : (ts : List Token) (r : Reading) → go new_reading ts ≡ done r → IsViable ts
done_viable ts r e =
    let l = leads ts at_start r tt e in
    let c = completable l.past l.good in
    record { rest = c.tail; tree = script_tree c.form; whole = record { form = c.form; tokens_of = c.on ∙ l.on c.tail; tree_of = refl } }

-- tokens that are taken, where a script may end, are one
pub done_derives : (ts : List Token) (r : Reading) (tree : Script) → go new_reading ts ≡ done r → finish r ≡ Some tree → Derives ts tree
done_derives ts r tree e f =
    let l = leads ts at_start r tt e in
    let n = finishes l.past tree (ap finish l.is ∙ f) in
    record { form = n.form; tokens_of = n.on [] ∙ (l.on [] ∙ append-nil ts); tree_of = n.tree }

-- where the tokens of a script lead
pub record IsDone (ts : List Token) (tree : Script) : Type 0 where
  pub reading : Reading
  pub goes : go new_reading ts ≡ done reading
  pub finishes : finish reading ≡ Some tree

pub derives_done : (ts : List Token) (tree : Script) → Derives ts tree → IsDone ts tree
derives_done ts tree d = record {
  reading = _;
  goes = ap (go new_reading) (sym d.tokens_of) ∙ take_script d.form;
  finishes = finish_script d.form ∙ ap Some d.tree_of;
}

pub go-append : (xs ys : List Token) (r n : Reading) → go r xs ≡ done n → go r (xs ++ ys) ≡ go n ys
go-append [] ys r n e = ap (λ (m : Reading). go m ys) cc
go-append (x ∷ xs) ys r n e = by_step (reading_step r x) x xs ys n e (λ m h. go-append xs ys m n h)
  where
    by_step : (o : Option Reading) (x : Token) (xs ys : List Token) (n : Reading) → went_onward o (x ∷ xs) (λ m. go m xs) ≡ done n → ((m : Reading) → go m xs ≡ done n → go m (xs ++ ys) ≡ go n ys) → went_onward o (x ∷ (xs ++ ys)) (λ m. go m (xs ++ ys)) ≡ go n ys
    by_step None x xs ys n e next = absurd cc
    by_step (Some m) x xs ys n e next = next m e

go-stuck : (xs ys zs : List Token) (r : Reading) → go r xs ≡ stuck zs → go r (xs ++ ys) ≡ stuck (zs ++ ys)
go-stuck [] ys zs r e = absurd cc
go-stuck (x ∷ xs) ys zs r e = by_step (reading_step r x) x xs ys zs e (λ m h. go-stuck xs ys zs m h)
  where
    by_step : (o : Option Reading) (x : Token) (xs ys zs : List Token) → went_onward o (x ∷ xs) (λ m. go m xs) ≡ stuck zs → ((m : Reading) → go m xs ≡ stuck zs → go m (xs ++ ys) ≡ stuck (zs ++ ys)) → went_onward o (x ∷ (xs ++ ys)) (λ m. go m (xs ++ ys)) ≡ stuck (zs ++ ys)
    by_step None x xs ys zs e next = let same : x ∷ xs ≡ zs = cc in ap (λ (us : List Token). stuck (us ++ ys)) same
    by_step (Some m) x xs ys zs e next = next m e

-- tokens that are not all taken begin no script
pub stuck_dead : (ts zs : List Token) → go new_reading ts ≡ stuck zs → IsViable ts → ⊥
stuck_dead ts zs e v =
    let d = derives_done (ts ++ v.rest) v.tree v.whole in
    let s = go-stuck ts v.rest zs new_reading e in
    let g = d.goes in
    cc

-- where the front of a script leads
pub record IsTaken (ts : List Token) : Type 0 where
  pub reading : Reading
  pub goes : go new_reading ts ≡ done reading

pub viable_done : (ts : List Token) → IsViable ts → IsTaken ts
viable_done ts v = by_went (go new_reading ts) ts refl v
  where
    by_went : (w : Went) (ts : List Token) → go new_reading ts ≡ w → IsViable ts → IsTaken ts
    by_went (done r) ts e v = record { reading = r; goes = e }
    by_went (stuck zs) ts e v = absurd (stuck_dead ts zs e v)

-- tokens derive one tree at most
pub derives_one : (ts : List Token) (a b : Script) → Derives ts a → Derives ts b → a ≡ b
derives_one ts a b h k =
    let x = derives_done ts a h in
    let y = derives_done ts b k in
    let g = x.goes in
    let i = y.goes in
    let same : x.reading ≡ y.reading = cc in
    some_is a b (sym x.finishes ∙ (ap finish same ∙ y.finishes))
