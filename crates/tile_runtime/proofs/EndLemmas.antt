-- What the workers leave, put together.
use Rattle.std.proofs.Common.{◌≡◌, ◌≢◌, ℕ, suc, ◌+◌, ◌-◌, ◌<◌, ◌≤◌, Bool, true, cond, false, ⊎_elim, inl, List, [], ◌∷◌, ◌++◌, length, refl, ap, sym, ◌∙◌, subst, arith, add-one, append_assoc, Result, Ok, Err}
use Rattle.std.specs.Prelude.{IfOk}
use mathlib.Core.Logic.{dite}
use mathlib.Core.List.{IsPrefix}
use native.Mathlib.Decide.{ℕ_discrete}
use Rattle.std.proofs.lemmas.Bool.Decides.{nat_tests}
use Rattle.core_model.specs.declared.step.Step.{Step}
use Rattle.core_model.specs.declared.step.Step.TheVariants.{PutDown}
use Rattle.core_model.specs.Graphs.{In}
use Rattle.core_model.specs.Cores.{held, opening, ready}
use Rattle.core_model.specs.Steps.{worker_of}
use Rattle.core_model.proofs.Callers.{in_longer, opening_kept, run_kept}
use Rattle.turn_cell.specs.Authors.{authors_below, greatest_author, without_author}
use Rattle.turn_cell.specs.Histories.{entries_by, is_author}
use Rattle.turn_cell.specs.inside.Ruled.{once_below}
use Rattle.turn_cell.proofs.AuthorLemmas.{alone_is, among_is, length_below, times_below, zero_below}
use Rattle.turn_cell.proofs.Callers.{greatest_below, without_below}
use Rattle.turn_cell.proofs.EntryLemmas.{same_of}
use Rattle.turn_cell.proofs.ListLemmas.{prefix_trans}
use Rattle.plan_graph.specs.PlanGraphs.{IsPlan, graph_of}
use Rattle.task_board.specs.declared.jobs.BoardPlan.{BoardPlan}
use Rattle.task_board.specs.Boards.{BoardValue, Continues, IsFinished, IsLegal, NobodyHolds, state_of}
use Rattle.task_board.specs.Tickets.{board_with_steps}
use Rattle.tile_runtime.specs.Ends.{CallerStepsInLast, HasPutDown}
use Rattle.tile_runtime.specs.inside.Knowledge.{HasEnded, HasFreeHands, board_with, plan_of_board}
use Rattle.tile_runtime.specs.inside.Roots.{AllEnded, EndedIn}
use Rattle.tile_runtime.proofs.Carry.{Met, by_others, finished_met, free_on, none_held, others_behind}

-- ---- authors that are dealt out

authors_suc : (xs : List ℕ) (by : ℕ) → xs ≡ authors_below (by + 1) → xs ≡ authors_below (suc by)
authors_suc xs by e = e ∙ ap authors_below (add-one by)

pub share_two : (xs : List ℕ) (by : ℕ) → by ≢ 0 → xs ≡ authors_below (by + 1) → 2 ≤ length xs
share_two xs by ne e = let l = length_below (by + 1) in let q = ap length e in omega arith

pub given_author : (xs : List ℕ) (by : ℕ) → xs ≡ authors_below (by + 1) → greatest_author xs ∷ [] ≡ by ∷ []
given_author xs by e = ap (λ (l : List ℕ). greatest_author l ∷ []) (authors_suc xs by e) ∙ ap (λ (k : ℕ). k ∷ []) (greatest_below by)

pub left_authors : (xs : List ℕ) (by : ℕ) → by ≢ 0 → xs ≡ authors_below (by + 1) → without_author (greatest_author xs) xs ≡ authors_below (by - 1 + 1)
left_authors xs by ne e =
    let b : by - 1 + 1 ≡ by = omega arith in
    ap (λ (l : List ℕ). without_author (greatest_author l) l) (authors_suc xs by e)
    ∙ (ap (λ (k : ℕ). without_author k (authors_below (suc by))) (greatest_below by) ∙ (without_below by ∙ ap authors_below (sym b)))

pub joined_authors : (xs ys : List ℕ) (by : ℕ) → by ≢ 0 → xs ≡ authors_below (by - 1 + 1) → ys ≡ by ∷ [] → xs ++ ys ≡ authors_below (by + 1)
joined_authors xs ys by ne e q =
    let b : by - 1 + 1 ≡ by = omega arith in
    ap (λ (l : List ℕ). l ++ ys) (e ∙ ap authors_below b) ∙ (ap (λ (l : List ℕ). authors_below by ++ l) q ∙ ap authors_below (sym (add-one by)))

pub has_root : (xs : List ℕ) (n : ℕ) → xs ≡ authors_below (n + 1) → is_author 0 xs ≡ true
has_root xs n e = ap (is_author 0) e ∙ zero_below (n + 1) (omega arith)

below_is : (w n : ℕ) → w < n → is_author w (authors_below n) ≡ true
below_is w n lt =
    let t = times_below w n in
    let o : once_below w n ≡ 1 = grind (arith, nat_tests) in
    among_is w (authors_below n) (omega arith)

-- one author's entries stay where those of more authors do
own_one : (authors : List ℕ) (w : ℕ) (old new : List Step) → is_author w authors ≡ true → IsPrefix old new → entries_by worker_of authors new ≡ entries_by worker_of authors old → entries_by worker_of (w ∷ []) new ≡ entries_by worker_of (w ∷ []) old
own_one authors w old new there begins own =
    same_of (λ e. is_author (worker_of e) authors) (λ e. is_author (worker_of e) authors) (λ e. is_author (worker_of e) (w ∷ []))
    (λ e h. inl (ap (λ (k : ℕ). is_author k authors) (alone_is (worker_of e) w h) ∙ there)) old new begins own own

-- ---- before the first step, and after the last

-- nobody has made a step
pub free_first : (p : BoardPlan) (w : ℕ) (history : List Step) → history ≡ [] → HasFreeHands (board_with p history) w
free_first p w history e = subst (λ (h : List Step). HasFreeHands (board_with p h) w) (sym e) record { legal = tt; free = λ t lt q. let z : ready ≡ held w = q in absurd (cc); can = refl }

-- no worker is left to end
pub none_ended : (p : BoardPlan) (n : ℕ) (history : List Step) → n ≡ 0 → history ≡ [] → AllEnded p n history
none_ended p n history zero' e = record {
  each = λ w lo hi. absurd (omega arith);
  caller = ap (entries_by worker_of (0 ∷ [])) e;
}

-- the others' ends, and this worker's
pub all_ended : (p : BoardPlan) (by : ℕ) (authors others : List ℕ) (root other new : List Step) → by ≢ 0 → authors ≡ authors_below (by - 1 + 1) → others ≡ by ∷ [] → IsPrefix root new → IsPrefix other new
    → entries_by worker_of authors new ≡ entries_by worker_of authors root → entries_by worker_of others new ≡ entries_by worker_of others other → AllEnded p (by - 1) root → HasEnded (board_with p other) by → AllEnded p by new
all_ended p by authors others root other new ne a o front behind own_root own_other all mine = record {
  each = λ w lo hi. dite (ℕ_discrete w by)
      (λ e. subst (λ (k : ℕ). EndedIn p k new) (sym e) record {
        seen = other;
        begins = behind;
        own = subst (λ (l : List ℕ). entries_by worker_of l new ≡ entries_by worker_of l other) o own_other;
        ended = mine;
      })
      (λ n. let h = all.each w lo (omega arith) in record {
        seen = h.seen;
        begins = prefix_trans h.seen root new h.begins front;
        own = own_one authors w root new (ap (is_author w) a ∙ below_is w (by - 1 + 1) (omega arith)) front own_root ∙ h.own;
        ended = h.ended;
      });
  caller = own_one authors 0 root new (has_root authors (by - 1) a) front own_root ∙ all.caller;
}

-- ---- the board that comes back

-- a board on which nothing was done goes on by all that a board of its plan has
continues_new : (a b : BoardValue) → a.history ≡ [] → plan_of_board b ≡ plan_of_board a → Continues a b
continues_new a b none same = record {
  more = b.history;
  is = ap (λ (q : BoardPlan). board_with q b.history) same ∙ ap (λ (l : List Step). board_with (plan_of_board a) (l ++ b.history)) (sym none);
}

-- and by what that one goes on by
pub continues_more : {E : Type 0} (a b : BoardValue) (r : Result BoardValue E) → a.history ≡ [] → plan_of_board b ≡ plan_of_board a → IfOk r (Continues b) → IfOk r (Continues a)
unfolding continues_new
continues_more a b (Ok c) none same con = record {
  more = b.history ++ con.more;
  is = con.is ∙ (ap (λ (v : BoardValue). board_with_steps v con.more) (continues_new a b none same).is ∙ ap (λ (l : List Step). board_with (plan_of_board a) l) (append_assoc a.history b.history con.more));
}
continues_more a b (Err e) none same con = con

not_there : (w : ℕ) (xs : List Step) (x : Step) → entries_by worker_of (w ∷ []) xs ≡ [] → In x xs → worker_of x ≡ w → ⊥
not_there w [] x none i e = i
not_there w (y ∷ xs) x none i e =
    let o = by_others w (y ∷ xs) none in
    ⊎_elim (λ q. o.0 (sym (ap worker_of q) ∙ e)) (λ there. not_there w xs x (rest (is_author (worker_of y) (w ∷ [])) none) there e) i
  where
    rest : (b : Bool) → cond b (y ∷ entries_by worker_of (w ∷ []) xs) (entries_by worker_of (w ∷ []) xs) ≡ [] → entries_by worker_of (w ∷ []) xs ≡ []
    rest true q = let z : y ∷ entries_by worker_of (w ∷ []) xs ≡ [] = q in absurd (cc)
    rest false q = q

module _ (b : BoardValue) (all : AllEnded (plan_of_board b) b.workers b.history) where
  abbrev p : BoardPlan
  p = plan_of_board b

  -- the caller has made no step
  pub none_steps_in : CallerStepsInLast b
  none_steps_in x i e = absurd (not_there 0 b.history x all.caller i e)

  -- a worker has ended, and others went on
  later : (w : ℕ) (h : EndedIn p w b.history) → Met (board_with p h.seen) w b
  later w h = others_behind p w h.seen b.history h.begins h.own

  -- the caller's hands are as free as before the first step
  caller_free : IsLegal b → HasFreeHands b 0
  caller_free legal = free_on (board_with p []) b.history 0 legal (by_others 0 b.history all.caller) (free_first p 0 [] refl)

  -- no worker holds a task once all have ended
  pub nobody_holds : IsPlan b.plan → IsLegal b → NobodyHolds b
  nobody_holds plan legal t w lt is =
      let low : t < (graph_of b.plan).tasks = (let k = plan.all_tasks in omega arith) in
      let number : w ≤ b.workers = (run_kept (graph_of b.plan) b.workers plan.sound opening b.history (opening_kept (graph_of b.plan) b.workers) legal).holders t w is in
      dite (ℕ_discrete w 0)
      (λ e. (caller_free legal).free t low (is ∙ ap held e))
      (λ ne. let h = all.each w (omega arith) number in none_held (board_with p h.seen) b w (later w h) legal h.ended.free t low is)

  -- and the caller has put none down
  pub caller_can : IsLegal b → (state_of b).has_put_down 0 ≡ false
  caller_can legal = (caller_free legal).can

  puts_longer : (w : ℕ) (seen more : List Step) → HasPutDown w seen → HasPutDown w (seen ++ more)
  puts_longer w seen more puts = (puts.0, in_longer seen more (PutDown w puts.0) puts.1)

  -- where something was left all workers have put a task down
  pub all_put_down : (c : BoardValue) → IsPlan b.plan → IsLegal b → (IsFinished b → ⊥) → Continues b c → CallerStepsInLast c
  all_put_down c plan legal left con x i e w lo hi =
      let workers : c.workers ≡ b.workers = ap (λ (v : BoardValue). v.workers) con.is in
      let h = all.each w lo (subst (λ (k : ℕ). w ≤ k) workers hi) in
      ⊎_elim
      (λ done. absurd (left (finished_met (board_with p h.seen) b w plan (later w h) legal done)))
      (λ puts. subst (HasPutDown w) (ap (λ (v : BoardValue). v.history) (sym con.is))
      (puts_longer w b.history con.more (subst (HasPutDown w) h.begins.1 (puts_longer w h.seen h.begins.0 puts)))) h.ended.why
