-- Tasks that were read once more, one by one.
use Rattle.std.proofs.Common.{◌≡◌, ◌≢◌, ℕ, ◌+◌, ◌-◌, ◌<◌, ◌≤◌, Bool, false, ◌⊎◌, inl, inr, ⊎_elim, List, [], length, get_or, set, take, Option, None}
use Rattle.std.proofs.Common.{refl, ap, sym, ◌∙◌, arith, get_or-set_other, get_or-set_same}
use Rattle.std.specs.declared.sync.Arc.{Arc}
use Rattle.std.specs.Global.{Global}
use mathlib.Core.Logic.{dite}
use native.Mathlib.Decide.{ℕ_discrete}
use Rattle.number_lists.specs.Turned.{times}
use Rattle.task_states.proofs.Callers.{more_here, more_there, unmet_more}
use Rattle.task_tiles.specs.declared.tile.Tile.{Tile}
use Rattle.task_board.specs.inside.Held.{AreRead, tile_for}

-- none was read
pub none_read : (tiles : List (Option (Arc Tile Global))) (unread : List ℕ) (kept : List Bool) → AreRead tiles tiles unread unread kept []
none_read tiles unread kept = record { counts = λ u. (let q : times u [] ≡ 0 = refl in omega arith); same = λ u. inl refl; gone = λ u le. absurd (let q : times u [] ≡ 0 = refl in omega arith) }

module _ (tiles mid new : List (Option (Arc Tile Global))) (unread us : List ℕ) (kept : List Bool) (xs : List ℕ) (i r : ℕ) (at : r ≡ get_or xs i 0) (i_lt : i < length xs)
    (was : AreRead tiles mid unread us kept (take i xs)) (lt : r < length us) (some : 1 ≤ get_or us r 0)
    (gone : get_or us r 0 - 1 ≡ 0 → get_or kept r false ≡ false → tile_for new r ≡ None)
    (same : (u : ℕ) → (tile_for new u ≡ tile_for mid u) ⊎ ((u ≡ r) × (get_or us r 0 - 1 ≡ 0) × (get_or kept r false ≡ false) × (tile_for new u ≡ None))) where
  left : List ℕ
  left = set us r (get_or us r 0 - 1)

  left_here : (u : ℕ) → u ≡ r → get_or left u 0 ≡ get_or us r 0 - 1
  unfolding left
  left_here u e = ap (λ k. get_or (set us r (get_or us r 0 - 1)) k 0) e ∙ get_or-set_same us r (get_or us r 0 - 1) 0 lt

  left_there : (u : ℕ) → u ≢ r → get_or left u 0 ≡ get_or us u 0
  unfolding left
  left_there u ne = get_or-set_other us r u (get_or us r 0 - 1) 0 ne

  times_here : (u : ℕ) → u ≡ r → 1 ≤ times u (take (i + 1) xs)
  times_here u e = let m = more_here xs i r at i_lt in let q : times u (take (i + 1) xs) ≡ times r (take (i + 1) xs) = ap (λ k. times k (take (i + 1) xs)) e in omega arith

  -- one more was read
  pub read_more : AreRead tiles new unread (set us r (get_or us r 0 - 1)) kept (take (i + 1) xs)
  unfolding left
  read_more = record {
    counts = λ u. unmet_more xs i r at i_lt us (get_or unread u 0) u lt some (was.counts u);
    same = λ u. ⊎_elim
        (λ e. ⊎_elim (λ q. inl (e ∙ q))
        (λ k. let ne : u ≢ r = λ q. absurd (let z : get_or us u 0 ≡ get_or us r 0 = ap (λ j. get_or us j 0) q in let y = k.2 in omega arith) in
        inr (e ∙ k.0, (let m = more_there xs i r at i_lt u ne in let y = k.1 in omega arith), left_there u ne ∙ k.2, k.3))
        (was.same u))
        (λ h. inr (h.3, times_here u h.0, left_here u h.0 ∙ h.1, ap (λ k. get_or kept k false) h.0 ∙ h.2))
        (same u);
    gone = λ u le z f. dite (ℕ_discrete u r)
        (λ e. ap (tile_for new) e ∙ gone (sym (left_here u e) ∙ z) (ap (λ k. get_or kept k false) (sym e) ∙ f))
        (λ ne. let was_none : tile_for mid u ≡ None = was.gone u (let m = more_there xs i r at i_lt u ne in omega arith) (sym (left_there u ne) ∙ z) f in
        ⊎_elim (λ e. e ∙ was_none) (λ h. h.3) (same u));
  }
