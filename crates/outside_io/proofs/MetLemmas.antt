-- A run is met part by part.
use Rattle.std.proofs.Common.{◌≡◌, ℕ, ◌<◌, List, [], ◌∷◌, ◌++◌, length, false, leb, refl, sym, ap, subst, cond, ◌∙◌, append_assoc, append-nil, arith}
use Rattle.std.proofs.lemmas.Bool.{le-leb}
use Rattle.std.proofs.lemmas.Bool.Decides.{nat_tests}
use Rattle.std.specs.Prelude.{None, Some, Ok, Err, Result, IfSome, IsSomeAnd}
use Rattle.std.specs.Option.{option_map}
use Rattle.std.specs.declared.option.Option.{Option}
use Rattle.std.specs.FinMap.{get, insert}
use Rattle.outside_io.specs.State.{Files, FolderState, NoCountFell, SameOthers, IsFound, ReadKeeps, IsPut, PutKeeps}
use Rattle.outside_io.specs.Refusals.{ReadRefused, PutRefused}
use Rattle.outside_io.specs.Events.{Event, Read, Put, Course, Run, puts_of, files_after}
use Rattle.outside_io.specs.Runs.{settled, within_limit, reading, putting, continued, ◌>>=◌, finished, afterwards, end_as}
use Rattle.outside_io.specs.Causes.{Fault, ReadFault, WriteFault, NoMemory, RunOutcome, CameTo, CutOff, outcome_as, stopped_by, Why, ByContents, ByAbsence, ByLength, why_by, HasCounted, CountsRefused, RoseFor, HasCause}
use Rattle.outside_io.specs.Counts.{Counts, after_put, after_read, counts_of, raised}
use Rattle.outside_io.specs.Met.{DidAll, HoldsBut, DidUpTo, IsCutAt, Follows, HasFaults, OneFault, CountsFaults, Meets}
use Rattle.outside_io.specs.inside.Parts.{Settles}
use Rattle.outside_io.specs.declared.folder.ReadEnd.TheVariants.{Absent, TooLong, Failed}
use Rattle.outside_io.specs.declared.folder.PutEnd.TheVariants as puts
use Rattle.outside_io.proofs.EventLemmas.{applied_on, grew_on, grew_by_none}

-- ---- counts

-- no file was found absent or too long
abbrev pub NoneRefused : FolderState → FolderState → Type 0
NoneRefused old new = HasCounted new old.absents old.overlongs

none_refused : (s : FolderState) → NoneRefused s s
none_refused s = record { absents = refl; overlongs = refl }

same_refused : (old new : FolderState) → counts_of new ≡ counts_of old → NoneRefused old new
same_refused old new same = record { absents = ap (λ (c : Counts). c.absents) same; overlongs = ap (λ (c : Counts). c.overlongs) same }

refused_later : (old mid new : FolderState) (why : Why) → NoneRefused old mid → CountsRefused mid new why → CountsRefused old new why
refused_later old mid new ByContents a b = record { absents = b.absents ∙ a.absents; overlongs = b.overlongs ∙ a.overlongs }
refused_later old mid new ByAbsence a b = record { absents = b.absents ∙ ap raised a.absents; overlongs = b.overlongs ∙ a.overlongs }
refused_later old mid new ByLength a b = record { absents = b.absents ∙ a.absents; overlongs = b.overlongs ∙ ap raised a.overlongs }

rose_for_later : (old mid new : FolderState) (fault : Fault) → NoCountFell old mid → RoseFor mid new fault → RoseFor old new fault
rose_for_later old mid new (ReadFault name) l r = omega (arith, l.reads, r)
rose_for_later old mid new (WriteFault name) l r = omega (arith, l.puts, r)
rose_for_later old mid new NoMemory l r = tt

-- what the counts show at last they show over all, where no file was found absent or too long at first
cause_later : {X : Type 0} (why : X → Why) (old mid new : FolderState) (outcome : RunOutcome X) → NoCountFell old mid → NoneRefused old mid → HasCause why mid new outcome → HasCause why old new outcome
cause_later why old mid new (CameTo end) l none r = refused_later old mid new (why end) none r
cause_later why old mid new (CutOff fault) l none r = rose_for_later old mid new fault l r

-- what the counts show at first they show over all, where no file was found absent or too long at last
refused_earlier : (old mid new : FolderState) (why : Why) → CountsRefused old mid why → NoneRefused mid new → CountsRefused old new why
refused_earlier old mid new ByContents a b = record { absents = b.absents ∙ a.absents; overlongs = b.overlongs ∙ a.overlongs }
refused_earlier old mid new ByAbsence a b = record { absents = b.absents ∙ a.absents; overlongs = b.overlongs ∙ a.overlongs }
refused_earlier old mid new ByLength a b = record { absents = b.absents ∙ a.absents; overlongs = b.overlongs ∙ a.overlongs }

no_count_fell : (old mid new : FolderState) → NoCountFell old mid → NoCountFell mid new → NoCountFell old new
no_count_fell old mid new a b = record {
  reads = omega (arith, a.reads, b.reads);
  puts = omega (arith, a.puts, b.puts);
  absents = omega (arith, a.absents, b.absents);
  overlongs = omega (arith, a.overlongs, b.overlongs);
}

none_fell : (s : FolderState) → NoCountFell s s
none_fell s = record { reads = omega arith; puts = omega arith; absents = omega arith; overlongs = omega arith }

-- a state keeps what it is
pub read_keeps_all : (s : FolderState) → ReadKeeps s s
read_keeps_all s = record { holds = refl; puts = refl; put_faults = refl; later = none_fell s }

-- no fault was met
abbrev pub NoFaultMet : FolderState → FolderState → Type 0
NoFaultMet old new = HasFaults new old.read_faults old.put_faults

no_fault : (s : FolderState) → NoFaultMet s s
no_fault s = record { reads = refl; puts = refl }

one_fault_later : (old mid new : FolderState) (fault : Fault) → NoFaultMet old mid → OneFault mid new fault → OneFault old new fault
one_fault_later old mid new (ReadFault name) a b = record { reads = b.reads ∙ ap raised a.reads; puts = b.puts ∙ a.puts }
one_fault_later old mid new (WriteFault name) a b = record { reads = b.reads ∙ a.reads; puts = b.puts ∙ ap raised a.puts }
one_fault_later old mid new NoMemory a b = record { reads = b.reads ∙ a.reads; puts = b.puts ∙ a.puts }

-- what was met at last was met over all, where no fault was met at first
faults_later : {X : Type 0} (old mid new : FolderState) (outcome : RunOutcome X) → NoFaultMet old mid → CountsFaults mid new outcome → CountsFaults old new outcome
faults_later old mid new (CameTo end) a b = record { reads = b.reads ∙ a.reads; puts = b.puts ∙ a.puts }
faults_later old mid new (CutOff fault) a b = one_fault_later old mid new fault a b

-- ---- facts on the files, where they are told

-- one fact on the files from another
pub if_told : (holds : Option Files) (P Q : Files → Type 0) → ((files : Files) → P files → Q files) → IfSome holds P → IfSome holds Q
if_told None P Q on p = tt
if_told (Some files) P Q on p = on files p

-- a fact from what holds the files
where_told : (s : FolderState) (holds : Option Files) (P : Files → Type 0) → s.holds ≡ holds → ((files : Files) → s.holds ≡ Some files → P files) → IfSome holds P
where_told s None P is on = tt
where_told s (Some files) P is on = on files is

-- ---- events, one list behind another

-- files that are all held are held but for the one that comes next
all_held : (events : List Event) (files : Files) (s : FolderState) → s.holds ≡ Some files → HoldsBut events files s
all_held [] files s h = h
all_held (Read name limit ∷ events) files s h = h
all_held (Put name bytes ∷ events) files s h = subst (SameOthers name (Some files)) (sym h) (λ other ne. refl)

held_more : (left more : List Event) (files : Files) (s : FolderState) → HoldsBut left files s → HoldsBut (left ++ more) files s
held_more [] more files s h = all_held more files s h
held_more (Read name limit ∷ left) more files s h = h
held_more (Put name bytes ∷ left) more files s h = h

left_more : (files : Files) (old new : FolderState) (all done left more : List Event) → DidUpTo files old new all done left → DidUpTo files old new (all ++ more) done (left ++ more)
left_more files old new all done left more d = record {
  events = ap (λ events. events ++ more) d.events ∙ append_assoc done left more;
  puts = d.puts;
  holds = held_more left more _ new d.holds;
}

-- what was cut off among these events was cut off among more
cut_more : (all more : List Event) (files : Files) (old new : FolderState) (fault : Fault) → IsCutAt all files old new fault → IsCutAt (all ++ more) files old new fault
cut_more all more files old new (ReadFault name) f = (f.0, f.1 ++ more, f.2, left_more files old new all f.0 (Read name f.2 ∷ f.1) more f.3)
cut_more all more files old new (WriteFault name) f = (f.0, f.1 ++ more, f.2, left_more files old new all f.0 (Put name f.2 ∷ f.1) more f.3)
cut_more all more files old new NoMemory f = (f.0, f.1 ++ more, left_more files old new all f.0 f.1 more f.2)

module _ (files : Files) (old mid new : FolderState) (first : List Event) (d : DidAll files old mid first) where
  up_to_later : (all done left : List Event) → DidUpTo (files_after (puts_of first) files) mid new all done left → DidUpTo files old new (first ++ all) (first ++ done) left
  up_to_later all done left u = record {
    events = ap (λ events. first ++ events) u.events ∙ sym (append_assoc first done left);
    puts = grew_on old mid new first done d.puts u.puts;
    holds = subst (λ files'. HoldsBut left files' new) (applied_on first done files) u.holds;
  }

  -- what was cut off after the first events
  cut_later : (all : List Event) (fault : Fault) → IsCutAt all (files_after (puts_of first) files) mid new fault → IsCutAt (first ++ all) files old new fault
  cut_later all (ReadFault name) f = (first ++ f.0, f.1, f.2, up_to_later all f.0 (Read name f.2 ∷ f.1) f.3)
  cut_later all (WriteFault name) f = (first ++ f.0, f.1, f.2, up_to_later all f.0 (Put name f.2 ∷ f.1) f.3)
  cut_later all NoMemory f = (first ++ f.0, f.1, up_to_later all f.0 f.1 f.2)

  did_later : (events : List Event) → DidAll (files_after (puts_of first) files) mid new events → DidAll files old new (first ++ events)
  did_later events n = record { puts = grew_on old mid new first events d.puts n.puts; holds = n.holds ∙ ap Some (applied_on first events files) }

  -- a course that began where the first events were done
  follows_later : {X : Type 0} (course : Course X) (outcome : RunOutcome X) → Follows course (files_after (puts_of first) files) mid new outcome →
      Follows (record { events = first ++ course.events; end = course.end }) files old new outcome
  follows_later course (CameTo end) f = (f.0, did_later course.events f.1)
  follows_later course (CutOff fault) f = cut_later course.events fault f

-- where all of the first events were done, the folder tells the files after them
after_told : (files : Files) (old mid : FolderState) (first : List Event) (P : Files → Type 0) → DidAll files old mid first → IfSome mid.holds P → P (files_after (puts_of first) files)
after_told files old mid first P d p = subst (λ h. IfSome h P) d.holds p

-- ---- a part, and then the next

not_both : {X E : Type 0} (x : X) (e : E) → Err e ≡ Ok x → ⊥
not_both x e is = cc

-- an error, told as that of a part with another value
abbrev error_of : {X Y E : Type 0} → E → Result X E → Result Y E
error_of e (Ok x) = Err e
error_of e (Err d) = Err d

same_cause : (X Y : Type 0) {E : Type 0} (why : E → Why) (old new : FolderState) (outcome : RunOutcome E) → HasCause (why_by {X = X} why) old new (stopped_by outcome) → HasCause (why_by {X = Y} why) old new (stopped_by outcome)
same_cause X Y why old new (CameTo e) c = c
same_cause X Y why old new (CutOff fault) c = c

same_faults : (X Y : Type 0) {E : Type 0} (old new : FolderState) (outcome : RunOutcome E) → CountsFaults {X = Result X E} old new (stopped_by outcome) → CountsFaults {X = Result Y E} old new (stopped_by outcome)
same_faults X Y old new (CameTo e) c = c
same_faults X Y old new (CutOff fault) c = c

module _ {X Y E : Type 0} (why : E → Why) (run : Run (Result X E)) (next : X → Run (Result Y E)) where
  stopped : (events : List Event) (end : Result X E) (then : X → Course (Result Y E)) (files : Files) (old new : FolderState) (outcome : RunOutcome E) →
      Follows (record { events = events; end = end }) files old new (stopped_by outcome) → Follows (continued events then end) files old new (stopped_by outcome)
  stopped events (Ok x) then files old new (CameTo e) f = absurd (not_both x e f.0)
  stopped events (Err d) then files old new (CameTo e) f = (ap (error_of e) f.0, f.1)
  stopped events (Ok x) then files old new (CutOff fault) f = cut_more events (then x).events files old new fault f
  stopped events (Err d) then files old new (CutOff fault) f = f

  -- a call that ends in its first part
  pub meets_stop : (old new : FolderState) (outcome : RunOutcome E) → Meets (why_by why) run old new (stopped_by outcome) → Meets (why_by why) (run >>= next) old new (stopped_by outcome)
  meets_stop old new outcome m = record {
    later = m.later;
    cause = same_cause X Y why old new outcome m.cause;
    faults = same_faults X Y old new outcome m.faults;
    follows = if_told old.holds (λ files. Follows (run files) files old new (stopped_by outcome)) (λ files. Follows ((run >>= next) files) files old new (stopped_by outcome))
        (λ files f. stopped (run files).events (run files).end (λ x. next x (files_after (puts_of (run files).events) files)) files old new outcome f) m.follows;
  }

  went_on : (old mid new : FolderState) (x : X) (outcome : RunOutcome (Result Y E)) (files : Files) → IfSome mid.holds (λ files. Follows (next x files) files mid new outcome) →
      Follows (run files) files old mid (CameTo (Ok x)) → Follows ((run >>= next) files) files old new outcome
  went_on old mid new x outcome files g f =
      let events = (run files).events in
      let after = files_after (puts_of events) files in
      subst (λ o. Follows (continued events (λ x. next x after) o) files old new outcome) f.0
      (follows_later files old mid new events f.1 (next x after) outcome (after_told files old mid events (λ files. Follows (next x files) files mid new outcome) f.1 g))

  -- a call that goes on after its first part
  pub meets_on : (old mid new : FolderState) (x : X) (outcome : RunOutcome (Result Y E)) → Meets (why_by why) run old mid (CameTo (Ok x)) → Meets (why_by why) (next x) mid new outcome → Meets (why_by why) (run >>= next) old new outcome
  meets_on old mid new x outcome m n = record {
    later = no_count_fell old mid new m.later n.later;
    cause = cause_later (why_by why) old mid new outcome m.later m.cause n.cause;
    faults = faults_later old mid new outcome m.faults n.faults;
    follows = if_told old.holds (λ files. Follows (run files) files old mid (CameTo (Ok x))) (λ files. Follows ((run >>= next) files) files old new outcome)
        (λ files f. went_on old mid new x outcome files n.follows f) m.follows;
  }

-- ---- one read or put, by what the folder answered

lt-leb-false : (a b : ℕ) → a < b → leb b a ≡ false
lt-leb-false a b h = grind (arith, nat_tests)

did_none : (old new : FolderState) (files : Files) → ReadKeeps old new → old.holds ≡ Some files → (events : List Event) → puts_of events ≡ [] → DidAll files old new events
did_none old new files k h events none = record {
  puts = grew_by_none old.puts new.puts k.puts ∙ ap (λ ps. option_map (λ before. before ++ ps) old.puts) (sym none);
  holds = k.holds ∙ (h ∙ ap (λ ps. Some (files_after ps files)) (sym none));
}

module _ {X : Type 0} (why : X → Why) where
  -- what needs no file comes to its end
  pub meets_settled : (end : X) (s : FolderState) (outcome : RunOutcome X) → Settles why end outcome → Meets why (settled end) s s outcome
  meets_settled end s (CameTo x) is = record {
    later = none_fell s;
    cause = subst (CountsRefused s s) (sym is.1) (none_refused s);
    faults = no_fault s;
    follows = where_told s s.holds (λ files. Follows (settled end files) files s s (CameTo x)) refl (λ files h. (sym is.0, did_none s s files (read_keeps_all s) h [] refl));
  }
  meets_settled end s (CutOff (ReadFault name)) is = absurd is
  meets_settled end s (CutOff (WriteFault name)) is = absurd is
  meets_settled end s (CutOff NoMemory) is = gave_up s
    where
      gave_up : (s : FolderState) → Meets why (settled end) s s (CutOff NoMemory)
      gave_up s = record {
        later = none_fell s;
        cause = tt;
        faults = no_fault s;
        follows = where_told s s.holds (λ files. IsCutAt [] files s s NoMemory) refl
            (λ files h. ([], [], record { events = refl; puts = grew_by_none s.puts s.puts refl; holds = h }));
      }

  -- no memory, with nothing put in this part, and no fault met
  pub meets_no_memory : (run : Run X) (old new : FolderState) → ReadKeeps old new → new.read_faults ≡ old.read_faults → Meets why run old new (CutOff NoMemory)
  meets_no_memory run old new k none = record {
    later = k.later;
    cause = tt;
    faults = record { reads = none; puts = k.put_faults };
    follows = where_told old old.holds (λ files. Follows (run files) files old new (CutOff NoMemory)) refl
        (λ files h. ([], (run files).events, record { events = refl; puts = grew_by_none old.puts new.puts k.puts; holds = all_held (run files).events files new (k.holds ∙ h) }));
  }

module _ {E : Type 0} (why : E → Why) (missing too_long : List ℕ → E) (name : List ℕ) (limit : ℕ) (old new : FolderState) (k : ReadKeeps old new) where
  -- a read by what it gives, where the files are told
  meets_read_by : (end : Result (List ℕ) E) → new.read_faults ≡ old.read_faults → CountsRefused old new (why_by why end) → IfSome old.holds (λ files. end ≡ within_limit (missing name) (too_long name) limit (get files name)) →
      Meets (why_by why) (reading missing too_long name limit) old new (CameTo end)
  meets_read_by end none cause gives = record { later = k.later; cause = cause; faults = record { reads = none; puts = k.put_faults }; follows = read_told old.holds refl gives }
    where
      read_told : (holds : Option Files) → old.holds ≡ holds → IfSome holds (λ files. end ≡ within_limit (missing name) (too_long name) limit (get files name)) →
          IfSome holds (λ files. Follows (reading missing too_long name limit files) files old new (CameTo end))
      read_told None h f = tt
      read_told (Some files) h f = (f, did_none old new files k h (Read name limit ∷ []) refl)

  -- the folder gave the bytes
  pub meets_read : (bytes : List ℕ) → counts_of new ≡ counts_of old → IsFound old name limit bytes → Meets (why_by why) (reading missing too_long name limit) old new (CameTo (Ok bytes))
  meets_read bytes counts found = meets_read_by (Ok bytes) (ap (λ (c : Counts). c.read_faults) counts) (same_refused old new counts)
      (if_told old.holds (λ files. get files name ≡ Some bytes) (λ files. Ok bytes ≡ within_limit (missing name) (too_long name) limit (get files name))
      (λ files f. sym (ap (within_limit (missing name) (too_long name) limit) f ∙ ap (λ b. cond b (Ok bytes) (Err (too_long name))) (le-leb (length bytes) limit found.short))) found.held)

  -- there is no file of that name
  pub meets_absent : why (missing name) ≡ ByAbsence → counts_of new ≡ after_read {X = List ℕ} (counts_of old) (Err Absent) → ReadRefused old new name limit Absent → Meets (why_by why) (reading missing too_long name limit) old new (CameTo (Err (missing name)))
  meets_absent is counts r = meets_read_by (Err (missing name)) (ap (λ (c : Counts). c.read_faults) counts)
      (subst (CountsRefused old new) (sym is) (record { absents = ap (λ (c : Counts). c.absents) counts; overlongs = ap (λ (c : Counts). c.overlongs) counts }))
      (if_told old.holds (λ files. get files name ≡ None) (λ files. Err (missing name) ≡ within_limit (missing name) (too_long name) limit (get files name))
      (λ files f. sym (ap (within_limit (missing name) (too_long name) limit) f)) r.1)

  long_file : (o : Option (List ℕ)) → IsSomeAnd o (λ bytes. limit < length bytes) → Err (too_long name) ≡ within_limit (missing name) (too_long name) limit o
  long_file None f = absurd f
  long_file (Some bytes) f = ap (λ b. cond b (Ok bytes) (Err (too_long name))) (sym (lt-leb-false limit (length bytes) f))

  -- the file is longer than the limit
  pub meets_long : why (too_long name) ≡ ByLength → counts_of new ≡ after_read {X = List ℕ} (counts_of old) (Err TooLong) → ReadRefused old new name limit TooLong → Meets (why_by why) (reading missing too_long name limit) old new (CameTo (Err (too_long name)))
  meets_long is counts r = meets_read_by (Err (too_long name)) (ap (λ (c : Counts). c.read_faults) counts)
      (subst (CountsRefused old new) (sym is) (record { absents = ap (λ (c : Counts). c.absents) counts; overlongs = ap (λ (c : Counts). c.overlongs) counts }))
      (if_told old.holds (λ files. IsSomeAnd (get files name) (λ bytes. limit < length bytes)) (λ files. Err (too_long name) ≡ within_limit (missing name) (too_long name) limit (get files name))
      (λ files f. long_file (get files name) f) r.1)

  -- the read failed
  pub meets_read_failed : counts_of new ≡ after_read {X = List ℕ} (counts_of old) (Err Failed) → ReadRefused old new name limit Failed → Meets (why_by why) (reading missing too_long name limit) old new (CutOff (ReadFault name))
  meets_read_failed counts r = record {
    later = k.later;
    cause = r;
    faults = record { reads = ap (λ (c : Counts). c.read_faults) counts; puts = k.put_faults };
    follows = where_told old old.holds (λ files. IsCutAt (Read name limit ∷ []) files old new (ReadFault name)) refl
        (λ files h. ([], [], limit, record { events = refl; puts = grew_by_none old.puts new.puts k.puts; holds = k.holds ∙ h }));
  }

module _ {E : Type 0} (why : E → Why) (name bytes : List ℕ) (old new : FolderState) (k : PutKeeps old new) where
  -- the file was put
  pub meets_put : counts_of new ≡ counts_of old → IsPut old new name bytes → Meets (why_by why) (putting name bytes) old new (CameTo (Ok tt))
  meets_put counts p = record { later = k.later; cause = same_refused old new counts; faults = record { reads = k.read_faults; puts = ap (λ (c : Counts). c.put_faults) counts }; follows = put_told old.holds p.holds }
    where
      put_told : (holds : Option Files) → new.holds ≡ option_map (λ files. insert files name bytes) holds → IfSome holds (λ files. Follows {X = Result (Unit {0}) E} (putting name bytes files) files old new (CameTo (Ok tt)))
      put_told None h = tt
      put_told (Some files) h = (refl, record { puts = p.puts; holds = h })

  not_put : (holds : Option Files) → SameOthers name holds new.holds → new.puts ≡ old.puts → IfSome holds (λ files. DidUpTo files old new (Put name bytes ∷ []) [] (Put name bytes ∷ []))
  not_put None others p = tt
  not_put (Some files) others p = record { events = refl; puts = grew_by_none old.puts new.puts p; holds = others }

  -- the put failed
  pub meets_put_failed : counts_of new ≡ after_put {X = List ℕ} (counts_of old) (Err puts.Failed) → PutRefused old new name puts.Failed → Meets (why_by why) (putting name bytes) old new (CutOff (WriteFault name))
  meets_put_failed counts r = record {
    later = k.later;
    cause = r.0;
    faults = record { reads = k.read_faults; puts = ap (λ (c : Counts). c.put_faults) counts };
    follows = if_told old.holds (λ files. DidUpTo files old new (Put name bytes ∷ []) [] (Put name bytes ∷ [])) (λ files. IsCutAt (Put name bytes ∷ []) files old new (WriteFault name))
        (λ files d. ([], [], bytes, d)) (not_put old.holds r.1.others r.1.puts);
  }

  -- there was no memory for the put
  pub meets_put_no_memory : counts_of new ≡ counts_of old → PutRefused old new name puts.Memory → Meets (why_by why) (putting name bytes) old new (CutOff NoMemory)
  meets_put_no_memory counts r = record {
    later = k.later;
    cause = tt;
    faults = record { reads = k.read_faults; puts = ap (λ (c : Counts). c.put_faults) counts };
    follows = if_told old.holds (λ files. DidUpTo files old new (Put name bytes ∷ []) [] (Put name bytes ∷ [])) (λ files. IsCutAt (Put name bytes ∷ []) files old new NoMemory)
        (λ files d. ([], Put name bytes ∷ [], d)) (not_put old.holds r.others r.puts);
  }

-- ---- ends told by another type

module _ {X Y : Type 0} (why : X → Why) (why' : Y → Why) (f : X → Y) (same : (x : X) → why' (f x) ≡ why x) where
  -- the same run, whose end is told by another type
  pub meets_end_as : (run : Run X) (old new : FolderState) (outcome : RunOutcome X) → Meets why run old new outcome → Meets why' (end_as f run) old new (outcome_as f outcome)
  meets_end_as run old new (CameTo end) m = record {
    later = m.later;
    cause = subst (CountsRefused old new) (sym (same end)) m.cause;
    faults = m.faults;
    follows = if_told old.holds (λ files. Follows (run files) files old new (CameTo end)) (λ files. Follows (end_as f run files) files old new (CameTo (f end))) (λ files g. (ap f g.0, g.1)) m.follows;
  }
  meets_end_as run old new (CutOff fault) m = record { later = m.later; cause = m.cause; faults = m.faults; follows = m.follows }

-- ---- a part that is done whichever way the first one came out

module _ {X E : Type 0} (why : E → Why) (run : Run (Result X E)) (last : Result X E → Run (Result (Unit {0}) E)) where
  -- the first part came to its end, and then all of the second was done
  pub meets_afterwards : (old mid new : FolderState) (end : Result X E) → Meets (why_by why) run old mid (CameTo end) → Meets (why_by why) (last end) mid new (CameTo (Ok tt)) →
      Meets (why_by why) (afterwards run last) old new (CameTo end)
  meets_afterwards old mid new end m n = record {
    later = no_count_fell old mid new m.later n.later;
    cause = refused_earlier old mid new (why_by why end) m.cause n.cause;
    faults = faults_later {X = Result X E} old mid new (CameTo end) m.faults n.faults;
    follows = if_told old.holds (λ files. Follows (run files) files old mid (CameTo end)) (λ files. Follows (afterwards run last files) files old new (CameTo end)) (λ files f. both files f) m.follows;
  }
    where
      both : (files : Files) → Follows (run files) files old mid (CameTo end) → Follows (afterwards run last files) files old new (CameTo end)
      both files f =
          let events = (run files).events in
          let after = files_after (puts_of events) files in
          let second = λ (o : Result X E). last o after in
          let h = after_told files old mid events (λ files. Follows (last end files) files mid new (CameTo (Ok tt))) f.1 n.follows in
          let all : Follows (finished (events ++ (second end).events) end (second end).end) files old new (CameTo end) =
          subst (λ o. Follows (finished (events ++ (second end).events) end o) files old new (CameTo end)) h.0 (refl, did_later files old mid new events f.1 (second end).events h.1) in
          subst (λ o. Follows (finished (events ++ (second o).events) o (second o).end) files old new (CameTo end)) f.0 all

  more_of : (first : List Event) (second : Course (Result (Unit {0}) E)) (end : Result X E) → (finished (first ++ second.events) end second.end).events ≡ first ++ second.events
  more_of first second end = elim second.end as (λ o. (finished (first ++ second.events) end o).events ≡ first ++ second.events) [ Ok d ↦ refl | Err e ↦ refl ]

  -- the first part was cut off: nothing of the second is done
  pub meets_cut_off : (old new : FolderState) (fault : Fault) → Meets (why_by why) run old new (CutOff fault) → Meets (why_by why) (afterwards run last) old new (CutOff fault)
  meets_cut_off old new fault m = record {
    later = m.later;
    cause = m.cause;
    faults = m.faults;
    follows = if_told old.holds (λ files. IsCutAt (run files).events files old new fault) (λ files. Follows (afterwards run last files) files old new (CutOff fault)) (λ files f. cut files f) m.follows;
  }
    where
      cut : (files : Files) → IsCutAt (run files).events files old new fault → Follows (afterwards run last files) files old new (CutOff fault)
      cut files f =
          let first = run files in
          let second = last first.end (files_after (puts_of first.events) files) in
          subst (λ all. IsCutAt all files old new fault) (sym (more_of first.events second first.end)) (cut_more first.events second.events files old new fault f)

  -- the first part came to its end, and the second was cut off
  pub meets_last_stop : (old mid new : FolderState) (end : Result X E) (fault : Fault) → Meets (why_by why) run old mid (CameTo end) → Meets (why_by why) (last end) mid new (CutOff fault) →
      Meets (why_by why) (afterwards run last) old new (CutOff fault)
  meets_last_stop old mid new end fault m n = record {
    later = no_count_fell old mid new m.later n.later;
    cause = rose_for_later old mid new fault m.later n.cause;
    faults = one_fault_later old mid new fault m.faults n.faults;
    follows = if_told old.holds (λ files. Follows (run files) files old mid (CameTo end)) (λ files. Follows (afterwards run last files) files old new (CutOff fault)) (λ files f. second_cut files f) m.follows;
  }
    where
      second_cut : (files : Files) → Follows (run files) files old mid (CameTo end) → Follows (afterwards run last files) files old new (CutOff fault)
      second_cut files f =
          let events = (run files).events in
          let after = files_after (puts_of events) files in
          let h = after_told files old mid events (λ files. IsCutAt (last end files).events files mid new fault) f.1 n.follows in
          subst (λ o. Follows (finished (events ++ (last o after).events) o (last o after).end) files old new (CutOff fault)) f.0
          (subst (λ all. IsCutAt all files old new fault) (sym (more_of events (last end after) end)) (cut_later files old mid new events f.1 (last end after).events fault h))
