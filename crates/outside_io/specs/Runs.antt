-- How a run is put together. A part of it gives a value to go on with, or the error that is the end of the whole.
use Rattle.std.specs.Prelude.{ℕ, nat_le, List, [], ◌∷◌, ◌++◌, length, None, Some, Ok, Err, Result, if◌then◌else◌}
use Rattle.std.specs.declared.option.Option.{Option}
use Rattle.std.specs.FinMap.{get}
use Rattle.outside_io.specs.Events.{Event, Read, Put, Course, Run, puts_of, files_after}

-- nothing is read or put
abbrev pub settled : {X : Type 0} → X → Run X
settled end files = record { events = []; end = end }

-- the file's bytes, or the error where there is none, or where it is longer than the limit
abbrev pub within_limit : {E : Type 0} → E → E → ℕ → Option (List ℕ) → Result (List ℕ) E
within_limit missing too_long limit None = Err missing
within_limit missing too_long limit (Some bytes) = if nat_le (length bytes) limit then Ok bytes else Err too_long

-- a file is read
abbrev pub reading : {E : Type 0} → (List ℕ → E) → (List ℕ → E) → List ℕ → ℕ → Run (Result (List ℕ) E)
reading missing too_long name limit files = record {
  events = Read name limit ∷ [];
  end = within_limit (missing name) (too_long name) limit (get files name);
}

-- a file is put
abbrev pub putting : {E : Type 0} → List ℕ → List ℕ → Run (Result (Unit {0}) E)
putting name bytes files = record { events = Put name bytes ∷ []; end = Ok tt }

-- these events, and then what their outcome leads to
abbrev pub continued : {X Y E : Type 0} → List Event → (X → Course (Result Y E)) → Result X E → Course (Result Y E)
continued events next (Ok x) = record { events = events ++ (next x).events; end = (next x).end }
continued events next (Err e) = record { events = events; end = Err e }

-- a part, and then the one that its value leads to, over the files that the first one leaves
infixl 10 ◌>>=◌
abbrev pub ◌>>=◌ : {X Y E : Type 0} → Run (Result X E) → (X → Run (Result Y E)) → Run (Result Y E)
run >>= next = λ files.
    let first = run files in
    continued first.events (λ x. next x (files_after (puts_of first.events) files)) first.end

-- a part for each item, in order; each goes on from the value of the one before
abbrev pub in_turn : {A S E : Type 0} → (S → A → Run (Result S E)) → S → List A → Run (Result S E)
in_turn part s [] = settled (Ok s)
in_turn part s (a ∷ more) = part s a >>= λ t. in_turn part t more

-- the outcome of the first, unless the second ended the whole
abbrev pub finished : {X E : Type 0} → List Event → Result X E → Result (Unit {0}) E → Course (Result X E)
finished events first (Ok done) = record { events = events; end = first }
finished events first (Err e) = record { events = events; end = Err e }

-- a part, and then a second one whichever way the first came out; the outcome is that of the first
abbrev pub afterwards : {X E : Type 0} → Run (Result X E) → (Result X E → Run (Result (Unit {0}) E)) → Run (Result X E)
afterwards run last = λ files.
    let first = run files in
    let second = last first.end (files_after (puts_of first.events) files) in
    finished (first.events ++ second.events) first.end second.end

-- the same run, whose end is told by another type
abbrev pub end_as : {X Y : Type 0} → (X → Y) → Run X → Run Y
end_as f run = λ files. record { events = (run files).events; end = f (run files).end }
