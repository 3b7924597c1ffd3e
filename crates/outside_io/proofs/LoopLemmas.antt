-- What is left to do of a run, and loops over its parts.
use Rattle.std.proofs.lemmas.List.{drop_all}
use Rattle.std.proofs.Common.{suc, ◌≡◌, ℕ, ◌+◌, ◌-◌, ◌<◌, ◌≤◌, List, [], ◌∷◌, length, get_or, drop, refl, sym, ap, subst, ◌∙◌, add-one, drop-cons, arith}
use Rattle.std.specs.Prelude.{Ok, Err, Result, IsErrAnd}
use Rattle.std.specs.List.{range_with_len}
use Rattle.outside_io.specs.State.{FolderState}
use Rattle.outside_io.specs.Events.{Run}
use Rattle.outside_io.specs.Runs.{settled, ◌>>=◌, in_turn}
use Rattle.outside_io.specs.Causes.{RunOutcome, CameTo, CutOff, NoMemory, stopped_by, outcome_by, Why, why_by}
use Rattle.outside_io.specs.Met.{Meets}
use Rattle.outside_io.specs.inside.Parts.{Leads}
use Rattle.outside_io.proofs.MetLemmas.{meets_on, meets_stop, meets_settled, meets_no_memory, read_keeps_all}

-- at the start the rest is the whole
pub leads_start : {X : Type 0} (why : X → Why) (run : Run X) (s : FolderState) → Leads why run s run s
leads_start why run s = record { on = λ new outcome m. m }

-- there was no memory before anything of the rest was done
pub leads_no_memory : {X : Type 0} (why : X → Why) (whole rest : Run X) (old mid : FolderState) → Leads why whole old rest mid → Meets why whole old mid (CutOff NoMemory)
leads_no_memory why whole rest old mid l = l.on mid (CutOff NoMemory) (meets_no_memory why rest mid mid (read_keeps_all mid) refl)

module _ {Y E : Type 0} (why : E → Why) (whole : Run (Result Y E)) (old : FolderState) where
  -- nothing is left
  pub leads_done : (mid : FolderState) (x : Y) → Leads (why_by why) whole old (settled (Ok x)) mid → Meets (why_by why) whole old mid (CameTo (Ok x))
  leads_done mid x l = l.on mid (CameTo (Ok x)) (meets_settled (why_by why) (Ok x) mid (CameTo (Ok x)) (refl, refl))

  -- a part of the rest was done
  pub leads_on : {X : Type 0} (run : Run (Result X E)) (next : X → Run (Result Y E)) (mid new : FolderState) (x : X) → Leads (why_by why) whole old (run >>= next) mid →
      Meets (why_by why) run mid new (CameTo (Ok x)) → Leads (why_by why) whole old (next x) new
  leads_on run next mid new x l m = record { on = λ end outcome n. l.on end outcome (meets_on why run next mid new end x outcome m n) }

  -- the rest ended in its first part
  pub leads_stop : {X : Type 0} (run : Run (Result X E)) (next : X → Run (Result Y E)) (mid new : FolderState) (outcome : RunOutcome E) → Leads (why_by why) whole old (run >>= next) mid →
      Meets (why_by why) run mid new (stopped_by outcome) → Meets (why_by why) whole old new (stopped_by outcome)
  leads_stop run next mid new outcome l m = l.on new (stopped_by outcome) (meets_stop why run next mid new outcome m)

  -- a `?` hands an error on
  pub meets_out : {D : Type 0} (by : D → RunOutcome E) (new : FolderState) (result : Result Y D) (d : D) → IsErrAnd result (λ e. e ≡ d) →
      Meets (why_by why) whole old new (stopped_by (by d)) → Meets (why_by why) whole old new (outcome_by by result)
  meets_out by new (Ok x) d is m = absurd is
  meets_out by new (Err e) d is m = subst (λ e. Meets (why_by why) whole old new (stopped_by (by e))) (sym is) m

-- ---- loops

-- the next of the numbers that are left
pub next_number : (k n : ℕ) → k < n → range_with_len (k + 1) (n - k) ≡ (k + 1) ∷ range_with_len (k + 1 + 1) (n - (k + 1))
next_number k n below = let e : n - k ≡ suc (n - (k + 1)) = omega arith in ap (range_with_len (k + 1)) e

-- no number is left
pub no_number : (k n : ℕ) → n ≤ k → range_with_len (k + 1) (n - k) ≡ []
no_number k n above = let e : n - k ≡ 0 = omega arith in ap (range_with_len (k + 1)) e

-- the item at the loop's index stands in front of those that are left
here : {A : Type 0} (items : List A) (i : ℕ) (a : A) → i < length items → a ≡ get_or items i a → drop i items ≡ a ∷ drop (i + 1) items
here items i a below is = drop-cons items i a below ∙ (ap (λ b. b ∷ drop (suc i) items) (sym is) ∙ ap (λ k. a ∷ drop k items) (sym (add-one i)))

module _ {A S E : Type 0} (why : E → Why) (part : S → A → Run (Result S E)) (whole : Run (Result S E)) (old : FolderState) where
  turned : (rest : List A) (s : S) (mid : FolderState) (a : A) (more : List A) → rest ≡ a ∷ more → Leads (why_by why) whole old (in_turn part s rest) mid →
      Leads (why_by why) whole old (part s a >>= λ t. in_turn part t more) mid
  turned rest s mid a more is l = subst (λ items. Leads (why_by why) whole old (in_turn part s items) mid) is l

  -- the part for one item was done
  pub turn_on : (rest : List A) (s : S) (mid new : FolderState) (a : A) (more : List A) (t : S) → rest ≡ a ∷ more → Leads (why_by why) whole old (in_turn part s rest) mid →
      Meets (why_by why) (part s a) mid new (CameTo (Ok t)) → Leads (why_by why) whole old (in_turn part t more) new
  turn_on rest s mid new a more t is l m = leads_on why whole old (part s a) (λ t. in_turn part t more) mid new t (turned rest s mid a more is l) m

  -- the part for one item ended the run
  pub turn_stop : (rest : List A) (s : S) (mid new : FolderState) (a : A) (more : List A) (outcome : RunOutcome E) → rest ≡ a ∷ more → Leads (why_by why) whole old (in_turn part s rest) mid →
      Meets (why_by why) (part s a) mid new (stopped_by outcome) → Meets (why_by why) whole old new (stopped_by outcome)
  turn_stop rest s mid new a more outcome is l m = leads_stop why whole old (part s a) (λ t. in_turn part t more) mid new outcome (turned rest s mid a more is l) m

  -- no item is left
  pub turn_done : (rest : List A) (s : S) (mid : FolderState) → rest ≡ [] → Leads (why_by why) whole old (in_turn part s rest) mid → Meets (why_by why) whole old mid (CameTo (Ok s))
  turn_done rest s mid is l = leads_done why whole old mid s (subst (λ items. Leads (why_by why) whole old (in_turn part s items) mid) is l)

  module _ (items : List A) (i : ℕ) (s : S) (mid : FolderState) where
    -- the part for the item at the loop's index was done
    pub item_on : (new : FolderState) (a : A) (t : S) → i < length items → a ≡ get_or items i a → Leads (why_by why) whole old (in_turn part s (drop i items)) mid →
        Meets (why_by why) (part s a) mid new (CameTo (Ok t)) → Leads (why_by why) whole old (in_turn part t (drop (i + 1) items)) new
    item_on new a t below is = turn_on (drop i items) s mid new a (drop (i + 1) items) t (here items i a below is)

    -- the part for the item at the loop's index ended the run
    pub item_stop : (new : FolderState) (a : A) (outcome : RunOutcome E) → i < length items → a ≡ get_or items i a → Leads (why_by why) whole old (in_turn part s (drop i items)) mid →
        Meets (why_by why) (part s a) mid new (stopped_by outcome) → Meets (why_by why) whole old new (stopped_by outcome)
    item_stop new a outcome below is = turn_stop (drop i items) s mid new a (drop (i + 1) items) outcome (here items i a below is)

    -- all items were taken
    pub item_done : length items ≤ i → Leads (why_by why) whole old (in_turn part s (drop i items)) mid → Meets (why_by why) whole old mid (CameTo (Ok s))
    item_done above = turn_done (drop i items) s mid (drop_all i items above)
