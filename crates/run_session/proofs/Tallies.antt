-- How many files a run puts.
use Rattle.std.proofs.Common.{◌≡◌, ℕ, ◌+◌, ◌*◌, List, [], ◌∷◌, ◌++◌, length, refl, sym, ap, subst, ◌∙◌, Ok, Err, Result, arith}
use Rattle.std.proofs.Math.Nat.{suc-mul}
use Rattle.outside_io.specs.State.{Files, FolderState}
use Rattle.outside_io.specs.Events.{Event, Read, Put, Run, puts_of, files_after}
use Rattle.outside_io.specs.Runs.{◌>>=◌, afterwards, continued, end_as, finished, in_turn, putting, reading, settled}
use Rattle.outside_io.specs.Causes.{CameTo, CutOff, RunOutcome, stopped_by, why_by}
use Rattle.outside_io.specs.Met.{Follows, Meets}
use Rattle.outside_io.proofs.Callers.{if_told}
use Rattle.run_session.specs.declared.ends.Tally.{Tally}
use Rattle.run_session.specs.Ends.{ScriptEnd, why}
use Rattle.run_session.specs.Steps.{tallied, tally_by}
use Rattle.run_session.specs.inside.Tallies.{PutsSoMany, tally_of}
use Rattle.run_session.proofs.StepReports.{EachIs}

-- ---- a run told with its puts

module _ {X : Type 0} (run : Run (Result X ScriptEnd)) (steps : ℕ) (old new : FolderState) where
  -- one that comes to its end
  pub tallied_ends : (n : ℕ) (x : X) → PutsSoMany n run → Meets (why_by why) run old new (CameTo (Ok x)) → Meets (why_by why) (tallied steps run) old new (CameTo (Ok (tally_of n steps)))
  tallied_ends n x many m = record {
    later = m.later;
    cause = m.cause;
    faults = m.faults;
    follows = if_told old.holds (λ files. Follows (run files) files old new (CameTo (Ok x))) (λ files. Follows (tallied steps run files) files old new (CameTo (Ok (tally_of n steps)))) (λ files f.
        let P : ℕ → Result Tally ScriptEnd = λ k. Ok (tally_of k steps) in
        (ap P (sym (many files x (sym f.0))) ∙ ap (tally_by (length (puts_of (run files).events)) steps) f.0, f.1)) m.follows;
  }

  -- one that does not
  pub tallied_stops : (o : RunOutcome ScriptEnd) → Meets (why_by why) run old new (stopped_by o) → Meets (why_by why) (tallied steps run) old new (stopped_by o)
  tallied_stops (CameTo end) m = record {
    later = m.later;
    cause = m.cause;
    faults = m.faults;
    follows = if_told old.holds (λ files. Follows (run files) files old new (CameTo (Err end))) (λ files. Follows (tallied steps run files) files old new (CameTo (Err end))) (λ files f.
        (ap (tally_by (length (puts_of (run files).events)) steps) f.0, f.1)) m.follows;
  }
  tallied_stops (CutOff fault) m = record { later = m.later; cause = m.cause; faults = m.faults; follows = m.follows }

-- ---- parts

-- the puts of two lists of events
puts_append : (xs ys : List Event) → length (puts_of (xs ++ ys)) ≡ length (puts_of xs) + length (puts_of ys)
puts_append [] ys = omega arith
puts_append (Read name limit ∷ xs) ys = puts_append xs ys
puts_append (Put name bytes ∷ xs) ys = let e = puts_append xs ys in omega (arith, e)

-- a part puts so many files where it gives a value, and the value is such
abbrev pub Puts : {X E : Type 0} → ℕ → (X → Type 0) → Run (Result X E) → Type 0
Puts {X} n P run = (files : Files) (x : X) → (run files).end ≡ Ok x → (length (puts_of (run files).events) ≡ n) × P x

-- nothing is put
pub puts_settled : {X E : Type 0} (P : X → Type 0) (end : Result X E) → ((x : X) → end ≡ Ok x → P x) → Puts 0 P (settled end)
puts_settled P end holds files x is = (refl, holds x is)

-- a read puts nothing
pub puts_reading : {E : Type 0} (missing too_long : List ℕ → E) (name : List ℕ) (limit : ℕ) → Puts 0 (λ bytes. Unit {0}) (reading missing too_long name limit)
puts_reading missing too_long name limit files x is = (refl, tt)

-- a file is put
pub puts_putting : {E : Type 0} (name bytes : List ℕ) → Puts {E = E} 1 (λ done. Unit {0}) (putting name bytes)
puts_putting name bytes files x is = (refl, tt)

-- a part, and then the next
pub puts_on : {X Y E : Type 0} (n k : ℕ) (P : X → Type 0) (Q : Y → Type 0) (run : Run (Result X E)) (next : X → Run (Result Y E)) → Puts n P run → ((x : X) → P x → Puts k Q (next x)) → Puts (n + k) Q (run >>= next)
puts_on {X} {Y} {E} n k P Q run next first second files y is = by (run files).end refl is
  where
    by : (r : Result X E) → (run files).end ≡ r → (continued (run files).events (λ x. next x (files_after (puts_of (run files).events) files)) r).end ≡ Ok y →
        (length (puts_of (continued (run files).events (λ x. next x (files_after (puts_of (run files).events) files)) (run files).end).events) ≡ n + k) × Q y
    by (Ok x) e is =
        let one = first files x e in
        let after = files_after (puts_of (run files).events) files in
        let two = second x one.1 after y is in
        let events = ap (λ r. length (puts_of (continued (run files).events (λ x. next x (files_after (puts_of (run files).events) files)) r).events)) e in
        let sum = puts_append (run files).events (next x after).events in
        let a : length (puts_of (run files).events) ≡ n = one.0 in
        let b : length (puts_of (next x after).events) ≡ k = two.0 in
        (events ∙ (sum ∙ omega (arith, a, b)), two.1)
    by (Err end) e is = absurd (cc)

-- an end that is told otherwise
pub puts_as : {X Y E D : Type 0} (n : ℕ) (P : X → Type 0) (Q : Y → Type 0) (f : Result X E → Result Y D) (run : Run (Result X E)) → ((r : Result X E) (y : Y) → f r ≡ Ok y → (x : X) × (r ≡ Ok x) × (P x → Q y)) → Puts n P run → Puts n Q (end_as f run)
puts_as n P Q f run back puts files y is =
    let found = back (run files).end y is in
    let done = puts files found.0 found.1 in
    (done.0, found.2 done.1)

-- a part for each item
pub puts_each : {A S E : Type 0} (k : ℕ) (P : S → Type 0) (R : A → Type 0) (part : S → A → Run (Result S E)) (items : List A) (s : S) → ((a : A) → R a → (s : S) → P s → Puts k P (part s a)) → EachIs R items → P s → Puts (length items * k) P (in_turn part s items)
puts_each {A} {S} {E} k P R part [] s each such holds = subst (λ n. Puts {E = E} n P (settled (Ok s))) (none k) (puts_settled {E = E} P (Ok s) (λ x is. let same : s ≡ x = cc in subst P same holds))
  where
    none : (k : ℕ) → 0 ≡ 0 * k
    none k = omega arith
puts_each k P R part (a ∷ items) s each such holds =
    subst (λ n. Puts n P (part s a >>= λ t. in_turn part t items)) (sym (suc-mul (length items) k ∙ comm (length items * k) k))
    (puts_on k (length items * k) P P (part s a) (λ t. in_turn part t items) (each a such.0 s holds) (λ t held. puts_each k P R part items t each such.1 held))
  where
    comm : (m n : ℕ) → m + n ≡ n + m
    comm m n = omega arith

-- a part, and then another one whichever way the first came out
pub puts_afterwards : {X E : Type 0} (n k : ℕ) (P : X → Type 0) (run : Run (Result X E)) (last : Result X E → Run (Result (Unit {0}) E)) → Puts n P run → ((x : X) → P x → Puts k (λ done. Unit {0}) (last (Ok x))) → Puts (n + k) P (afterwards run last)
puts_afterwards {X} {E} n k P run last first second files x is = by (last (run files).end (files_after (puts_of (run files).events) files)).end refl is
  where
    by : (r : Result (Unit {0}) E) → (last (run files).end (files_after (puts_of (run files).events) files)).end ≡ r →
        (finished ((run files).events ++ (last (run files).end (files_after (puts_of (run files).events) files)).events) (run files).end r).end ≡ Ok x →
        (length (puts_of (finished ((run files).events ++ (last (run files).end (files_after (puts_of (run files).events) files)).events) (run files).end (last (run files).end (files_after (puts_of (run files).events) files)).end).events) ≡ n + k) × P x
    by (Ok done) e end =
        let behind = files_after (puts_of (run files).events) files in
        let one = first files x end in
        let two = second x one.1 behind done (ap (λ r. (last r behind).end) (sym end) ∙ e) in
        let all = (run files).events ++ (last (run files).end behind).events in
        let events : length (puts_of (finished all (run files).end (last (run files).end behind).end).events) ≡ length (puts_of all) = ap (λ r. length (puts_of (finished all (run files).end r).events)) e in
        let sum = puts_append (run files).events (last (run files).end behind).events in
        let a : length (puts_of (run files).events) ≡ n = one.0 in
        let b : length (puts_of (last (run files).end behind).events) ≡ k = ap (λ r. length (puts_of (last r behind).events)) end ∙ two.0 in
        (events ∙ (sum ∙ omega (arith, a, b)), one.1)
    by (Err stop) e end = absurd (cc)
