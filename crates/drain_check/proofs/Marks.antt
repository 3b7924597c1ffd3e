-- How a walk's marks, trail and order change.
use Rattle.std.proofs.Common.{◌≡◌, ◌≢◌, ◌⊎◌, inl, inr, ℕ, ◌+◌, ◌<◌, List, [], ◌∷◌, ◌++◌, length, refl, sym, ap, subst, ◌∙◌, arith, suc, zero, get_or, get_or-set_same, get_or-set_other, length-append}
use Rattle.std.proofs.Math.ListN.{set, length-set}
use Rattle.std.proofs.lemmas.Bool.{cases_eq, cases_lt}
use Rattle.std.proofs.lemmas.List.{get_or_push, get_or_past, get_or_append_left}
use Rattle.std.proofs.lemmas.List.Elements.{Contains-push, Contains-push_cases, Contains-append_left}
use Rattle.std.specs.List.{Contains}
use Rattle.drain_meaning.specs.declared.next.Next.TheVariants as next
use Rattle.drain_meaning.specs.Drains.{DrainMap, next_at}
use Rattle.drain_meaning.specs.Orders.{IsDrainOrder}
use Rattle.drain_meaning.specs.Paths.{HasPath, IsSound}
use Rattle.drain_meaning.specs.inside.Ways.{Reaches}
use Rattle.drain_meaning.proofs.Callers.{directed_within, no_cycle, path_down, path_leaves, path_of_pit, path_up, way_back, way_from, way_step}
use Rattle.drain_check.specs.declared.walk.Mark.{Mark}
use Rattle.drain_check.specs.declared.walk.Mark.TheVariants.{Unseen, Walked, Done}
use Rattle.drain_check.specs.inside.Walks.{mark_at, IsTrail, Ordered, Underway, IsAtRest, Keeps, Arrived, Returning}

-- a trail that goes one step on
pub trail_step : (drains : DrainMap) (trail : List ℕ) (at d : ℕ) → IsTrail drains trail at → next_at drains at ≡ next.Cell d → IsTrail drains (trail ++ at ∷ []) d
trail_step drains [] at d w e = e
trail_step drains (q ∷ via) at d w e = way_step drains q via at d w e

-- the last step of a trail
pub trail_back : (drains : DrainMap) (trail : List ℕ) (at d : ℕ) → IsTrail drains (trail ++ at ∷ []) d → IsTrail drains trail at × (next_at drains at ≡ next.Cell d)
trail_back drains [] at d w = (tt, w)
trail_back drains (q ∷ via) at d w = way_back drains q via at d w

trail_from : (drains : DrainMap) (trail : List ℕ) (at k d : ℕ) → IsTrail drains trail at → k < length trail → Reaches drains (get_or trail k d) at
trail_from drains [] at k d w h = absurd (omega arith)
trail_from drains (q ∷ via) at zero d w h = record { via = via; way = w }
trail_from drains (q ∷ via) at (suc k) d w h = way_from drains q via at k d w (omega arith)

-- The walk over a trail comes from each of its cells to the last one.
pub trail_reaches : (drains : DrainMap) (trail : List ℕ) (at q : ℕ) → IsTrail drains trail at → Contains trail q → Reaches drains q at
trail_reaches drains trail at q w h = subst (λ (x : ℕ). Reaches drains x at) h.2 (trail_from drains trail at h.0 q w h.1)

-- A cell with a mark is in the map.
pub marked_within : (marks : List Mark) (q : ℕ) → mark_at marks q ≢ Unseen → q < length marks
marked_within marks q h = elim (cases_lt q (length marks)) as (λ _. q < length marks) [ inl w ↦ w | inr w ↦ absurd (h (get_or_past marks q Unseen w)) ]

-- the mark of a cell after a write
set_mark : (marks : List Mark) (x q : ℕ) (m k : Mark) → x < length marks → mark_at (set marks x m) q ≡ k → ((q ≡ x) × (m ≡ k)) ⊎ (mark_at marks q ≡ k)
set_mark marks x q m k h e = elim (cases_eq q x) as (λ _. ((q ≡ x) × (m ≡ k)) ⊎ (mark_at marks q ≡ k)) [
  | inl same ↦ inl (same, sym (get_or-set_same marks x m Unseen h) ∙ subst (λ (y : ℕ). mark_at (set marks x m) y ≡ k) same e)
  | inr other ↦ inr (sym (get_or-set_other marks x q m Unseen other) ∙ e)
]

-- the mark of another cell is kept
other_mark : (marks : List Mark) (x q : ℕ) (m k l : Mark) → mark_at marks q ≡ k → mark_at marks x ≡ l → k ≢ l → mark_at (set marks x m) q ≡ k
other_mark marks x q m k l e f apart =
    let ne : q ≢ x = λ same. apart (sym e ∙ ap (λ (y : ℕ). mark_at marks y) same ∙ f) in
    get_or-set_other marks x q m Unseen ne ∙ e

-- The order is kept where a cell that no walk has come to is under way.
ordered_kept : (drains : DrainMap) (marks : List Mark) (order : List ℕ) (x : ℕ) → Ordered drains marks order → x < length marks → mark_at marks x ≡ Unseen → Ordered drains (set marks x Walked) order
ordered_kept drains marks order x o w e = record {
  listed = λ i h. other_mark marks x (get_or order i 0) Walked Done Unseen (o.listed i h) e (λ k. cc k);
  once = o.once;
  after = o.after;
  found = λ q h. elim (set_mark marks x q Walked Done w h) as (λ _. (j : ℕ) × (j < length order) × (get_or order j 0 ≡ q)) [ inl b ↦ absurd (cc b.1) | inr b ↦ o.found q b ];
}

-- where an element of a pushed list stands
pushed_at : (xs : List ℕ) (x i : ℕ) → i < length (xs ++ x ∷ []) → ((i < length xs) × (get_or (xs ++ x ∷ []) i 0 ≡ get_or xs i 0)) ⊎ ((i ≡ length xs) × (get_or (xs ++ x ∷ []) i 0 ≡ x))
pushed_at xs x i h = elim (cases_lt i (length xs)) as (λ _. ((i < length xs) × (get_or (xs ++ x ∷ []) i 0 ≡ get_or xs i 0)) ⊎ ((i ≡ length xs) × (get_or (xs ++ x ∷ []) i 0 ≡ x))) [
  | inl w ↦ inl (w, get_or_append_left xs (x ∷ []) 0 i w)
  | inr w ↦ let e : i ≡ length xs = omega (arith, length-append xs (x ∷ [])) in inr (e, get_or_push xs x 0 i (sym e))
]

-- A cell is done whose next cell is done, or that is a pit.
pub ordered_more : (drains : DrainMap) (marks : List Mark) (order : List ℕ) (x : ℕ) → Ordered drains marks order → x < length marks → mark_at marks x ≢ Done → ((d : ℕ) → next_at drains x ≡ next.Cell d → mark_at marks d ≡ Done) → Ordered drains (set marks x Done) (order ++ x ∷ [])
ordered_more drains marks order x o w new down = record {
  listed = λ i h. elim (pushed_at order x i h) as (λ _. mark_at (set marks x Done) (get_or (order ++ x ∷ []) i 0) ≡ Done) [
    | inl b ↦ let ne : get_or order i 0 ≢ x = λ same. new (sym (ap (λ (y : ℕ). mark_at marks y) same) ∙ o.listed i b.0) in
        ap (λ (y : ℕ). mark_at (set marks x Done) y) b.1 ∙ (get_or-set_other marks x (get_or order i 0) Done Unseen ne ∙ o.listed i b.0)
    | inr b ↦ ap (λ (y : ℕ). mark_at (set marks x Done) y) b.1 ∙ get_or-set_same marks x Done Unseen w
  ];
  once = λ i j h k same. elim (pushed_at order x j k) as (λ _. ⊥) [
    | inl b ↦ o.once i j h b.0 (sym (get_or_append_left order (x ∷ []) 0 i (omega (arith, b.0))) ∙ (same ∙ b.1))
    | inr b ↦ let low : i < length order = omega (arith, b.0) in
        new (sym (ap (λ (y : ℕ). mark_at marks y) (sym (get_or_append_left order (x ∷ []) 0 i low) ∙ (same ∙ b.1))) ∙ o.listed i low)
  ];
  after = λ i d h e. elim (pushed_at order x i h) as (λ _. (j : ℕ) × (j < i) × (get_or (order ++ x ∷ []) j 0 ≡ d)) [
    | inl b ↦ let old = o.after i d b.0 (ap (λ (y : ℕ). next_at drains y) (sym b.1) ∙ e) in
        (old.0, old.1, get_or_append_left order (x ∷ []) 0 old.0 (omega (arith, old.1, b.0)) ∙ old.2)
    | inr b ↦ let old = o.found d (down d (ap (λ (y : ℕ). next_at drains y) (sym b.1) ∙ e)) in
        (old.0, omega (arith, old.1, b.0), get_or_append_left order (x ∷ []) 0 old.0 old.1 ∙ old.2)
  ];
  found = λ q h. elim (set_mark marks x q Done Done w h) as (λ _. (j : ℕ) × (j < length (order ++ x ∷ [])) × (get_or (order ++ x ∷ []) j 0 ≡ q)) [
    | inl b ↦ (length order, omega (arith, length-append order (x ∷ [])), get_or_push order x 0 (length order) refl ∙ sym b.0)
    | inr b ↦ let old = o.found q b in
        (old.0, omega (arith, old.1, length-append order (x ∷ [])), get_or_append_left order (x ∷ []) 0 old.0 old.1 ∙ old.2)
  ];
}

-- one step down
pub underway_step : (drains : DrainMap) (marks : List Mark) (trail order : List ℕ) (at d : ℕ) → Underway drains marks trail order at → at < length marks → mark_at marks at ≡ Unseen → next_at drains at ≡ next.Cell d → Underway drains (set marks at Walked) (trail ++ at ∷ []) order d
underway_step drains marks trail order at d u w e n = record {
  size = length-set marks at Walked ∙ u.size;
  done = λ q h. elim (set_mark marks at q Walked Done w h) as (λ _. HasPath drains q) [ inl b ↦ absurd (cc b.1) | inr b ↦ u.done q b ];
  walked = λ q h. elim (set_mark marks at q Walked Walked w h) as (λ _. Contains (trail ++ at ∷ []) q) [
    | inl b ↦ subst (λ (y : ℕ). Contains (trail ++ at ∷ []) y) (sym b.0) (Contains-push trail at)
    | inr b ↦ Contains-append_left trail (at ∷ []) q (u.walked q b)
  ];
  marked = λ q h. elim (Contains-push_cases trail at q h) as (λ _. mark_at (set marks at Walked) q ≡ Walked) [
    | inl b ↦ other_mark marks at q Walked Walked Unseen (u.marked q b) e (λ k. cc k)
    | inr b ↦ subst (λ (y : ℕ). mark_at (set marks at Walked) y ≡ Walked) b (get_or-set_same marks at Walked Unseen w)
  ];
  way = trail_step drains trail at d u.way n;
  ordered = ordered_kept drains marks order at u.ordered w e;
}

-- a pit at the end of the walk
pub underway_pit : (drains : DrainMap) (marks : List Mark) (trail order : List ℕ) (at : ℕ) → Underway drains marks trail order at → at < length marks → mark_at marks at ≡ Unseen → next_at drains at ≡ next.Pit → Underway drains (set marks at Done) trail (order ++ at ∷ []) at
underway_pit drains marks trail order at u w e n = record {
  size = length-set marks at Done ∙ u.size;
  done = λ q h. elim (set_mark marks at q Done Done w h) as (λ _. HasPath drains q) [ inl b ↦ path_of_pit drains q (ap (λ (y : ℕ). next_at drains y) b.0 ∙ n) | inr b ↦ u.done q b ];
  walked = λ q h. elim (set_mark marks at q Done Walked w h) as (λ _. Contains trail q) [ inl b ↦ absurd (cc b.1) | inr b ↦ u.walked q b ];
  marked = λ q h. other_mark marks at q Done Walked Unseen (u.marked q h) e (λ k. cc k);
  way = u.way;
  ordered = ordered_more drains marks order at u.ordered w (λ k. cc (k, e)) (λ d k. cc (k, n));
}

-- one step back up: the last cell of the trail is done
pub underway_back : (drains : DrainMap) (marks : List Mark) (trail order : List ℕ) (x at : ℕ) → Underway drains marks (trail ++ x ∷ []) order at → mark_at marks at ≡ Done → Underway drains (set marks x Done) trail (order ++ x ∷ []) x
underway_back drains marks trail order x at u e =
    let last = trail_back drains trail x at u.way in
    let mark : mark_at marks x ≡ Walked = u.marked x (Contains-push trail x) in
    let path : HasPath drains x = path_up drains x at last.1 (u.done at e) in
    let w : x < length marks = marked_within marks x (λ k. cc (k, mark)) in
    record {
      size = length-set marks x Done ∙ u.size;
      done = λ q h. elim (set_mark marks x q Done Done w h) as (λ _. HasPath drains q) [ inl b ↦ subst (λ (y : ℕ). HasPath drains y) (sym b.0) path | inr b ↦ u.done q b ];
      walked = λ q h. elim (set_mark marks x q Done Walked w h) as (λ _. Contains trail q) [
        | inl b ↦ absurd (cc b.1)
        | inr b ↦ elim (Contains-push_cases trail x q (u.walked q b)) as (λ _. Contains trail q) [ inl f ↦ f | inr f ↦ let done : mark_at (set marks x Done) x ≡ Done = get_or-set_same marks x Done Unseen w in absurd (cc (done, f, h)) ]
      ];
      marked = λ q h.
          let ne : q ≢ x = λ same. no_cycle drains x (subst (λ (y : ℕ). Reaches drains y x) same (trail_reaches drains trail x q last.0 h)) path in
          get_or-set_other marks x q Done Unseen ne ∙ u.marked q (Contains-append_left trail (x ∷ []) q h);
      way = last.0;
      ordered = ordered_more drains marks order x u.ordered w (λ k. cc (k, mark)) (λ d k. subst (λ (y : ℕ). mark_at marks y ≡ Done) (cc (k, last.1)) e);
    }

-- the place where the walk began is on the trail after each step
pub from_step : (trail : List ℕ) (place at : ℕ) → (place ≡ at) ⊎ Contains trail place → Contains (trail ++ at ∷ []) place
from_step trail place at (inl same) = subst (λ (y : ℕ). Contains (trail ++ at ∷ []) y) (sym same) (Contains-push trail at)
from_step trail place at (inr on) = Contains-append_left trail (at ∷ []) place on

-- Where the present cell has no path, the place where the walk began has none.
pub fails_from : (drains : DrainMap) (marks : List Mark) (trail order : List ℕ) (place at : ℕ) → Underway drains marks trail order at → (place ≡ at) ⊎ Contains trail place → (HasPath drains at → ⊥) → HasPath drains place → ⊥
fails_from drains marks trail order place at u (inl same) none p = none (subst (λ (y : ℕ). HasPath drains y) same p)
fails_from drains marks trail order place at u (inr on) none p = none (path_down drains place at (trail_reaches drains trail at place u.way on) p)

-- A walk that comes to a cell under way goes round.
pub goes_round : (drains : DrainMap) (marks : List Mark) (trail order : List ℕ) (at : ℕ) → Underway drains marks trail order at → mark_at marks at ≡ Walked → HasPath drains at → ⊥
goes_round drains marks trail order at u e = no_cycle drains at (trail_reaches drains trail at at u.way (u.walked at e))

-- What was done stays done where a cell that no walk has come to is under way.
pub keeps_walked : (old marks : List Mark) (x : ℕ) → x < length marks → mark_at marks x ≡ Unseen → Keeps old marks → Keeps old (set marks x Walked)
keeps_walked old marks x w e k = record { kept = λ q h. other_mark marks x q Walked Done Unseen (k.kept q h) e (λ f. cc f) }

-- What was done stays done where a cell is done.
pub keeps_done : (old marks : List Mark) (x : ℕ) → x < length marks → Keeps old marks → Keeps old (set marks x Done)
keeps_done old marks x w k = record {
  kept = λ q h. elim (cases_eq q x) as (λ _. mark_at (set marks x Done) q ≡ Done) [
    | inl same ↦ subst (λ (y : ℕ). mark_at (set marks x Done) y ≡ Done) (sym same) (get_or-set_same marks x Done Unseen w)
    | inr other ↦ get_or-set_other marks x q Done Unseen other ∙ k.kept q h
  ];
}

-- before the first step
pub underway_none : (drains : DrainMap) (marks : List Mark) (trail order : List ℕ) (at : ℕ) → IsAtRest drains marks order → length trail ≡ 0 → Underway drains marks trail order at
underway_none drains marks [] order at s e = record {
  size = s.size;
  done = s.done;
  walked = λ q h. absurd (s.resting q h);
  marked = λ q h. absurd (omega (arith, h.1));
  way = tt;
  ordered = s.ordered;
}
underway_none drains marks (t ∷ trail) order at s e = absurd (omega arith)

-- after the last step back up
pub settled_again : (drains : DrainMap) (marks : List Mark) (trail order : List ℕ) (at : ℕ) → Underway drains marks trail order at → length trail ≡ 0 → IsAtRest drains marks order
settled_again drains marks trail order at u e = record {
  size = u.size;
  resting = λ q h. let on = u.walked q h in omega (arith, on.1);
  done = u.done;
  ordered = u.ordered;
}

-- the place where the walk began is done, or on the trail
pub from_back : (marks : List Mark) (trail : List ℕ) (place x : ℕ) → x < length marks → (mark_at marks place ≡ Done) ⊎ Contains (trail ++ x ∷ []) place → (mark_at (set marks x Done) place ≡ Done) ⊎ Contains trail place
from_back marks trail place x w (inl e) = let k = keeps_done marks marks x w (record { kept = λ q h. h }) in inl (k.kept place e)
from_back marks trail place x w (inr on) = elim (Contains-push_cases trail x place on) as (λ _. (mark_at (set marks x Done) place ≡ Done) ⊎ Contains trail place) [
  | inl f ↦ inr f
  | inr f ↦ inl (subst (λ (y : ℕ). mark_at (set marks x Done) y ≡ Done) f (get_or-set_same marks x Done Unseen w))
]

pub from_arrived : (drains : DrainMap) (place : ℕ) (old marks : List Mark) (trail order : List ℕ) → (a : Arrived drains place old marks trail order) → (mark_at marks place ≡ Done) ⊎ Contains trail place
from_arrived drains place old marks trail order a = elim a.from as (λ _. (mark_at marks place ≡ Done) ⊎ Contains trail place) [ inl same ↦ inl (ap (λ (y : ℕ). mark_at marks y) same ∙ a.arrived) | inr on ↦ inr on ]

-- the order of a map all of whose cells with a direction are done
pub order_of_all : (drains : DrainMap) (marks : List Mark) (order : List ℕ) → IsAtRest drains marks order → ((c : ℕ) → c < length drains.codes → next_at drains c ≢ next.Missing → mark_at marks c ≡ Done) → IsDrainOrder drains order
order_of_all drains marks order s all = record {
  directed = λ i h e. path_leaves drains (get_or order i 0) (s.done (get_or order i 0) (s.ordered.listed i h)) (inr e);
  once = s.ordered.once;
  after = λ i d h e. let at = s.ordered.after i d h e in record { place = at.0; earlier = at.1; there = at.2 };
  all = λ c h. let at = s.ordered.found c (all c (directed_within drains c h) h) in record { place = at.0; within = at.1; there = at.2 };
}

-- each cell with a direction has a path where all of them are done
pub sound_of_all : (drains : DrainMap) (marks : List Mark) (order : List ℕ) → IsAtRest drains marks order → ((c : ℕ) → c < length drains.codes → next_at drains c ≢ next.Missing → mark_at marks c ≡ Done) → IsSound drains
sound_of_all drains marks order s all c h = s.done c (all c (directed_within drains c h) h)

-- the last cell of a trail that comes to a cell that is done
pub last_within : (drains : DrainMap) (marks : List Mark) (trail order : List ℕ) (t : List ℕ) (x : ℕ) → Returning drains marks trail order → trail ≡ t ++ x ∷ [] → x < length marks
last_within drains marks trail order t x r e =
    let mark : mark_at marks x ≡ Walked = r.underway.marked x (subst (λ (y : List ℕ). Contains y x) (sym e) (Contains-push t x)) in
    marked_within marks x (λ k. cc (k, mark))

-- one step back up
pub returning_back : (drains : DrainMap) (marks : List Mark) (trail order : List ℕ) (t : List ℕ) (x : ℕ) → Returning drains marks trail order → trail ≡ t ++ x ∷ [] → Returning drains (set marks x Done) t (order ++ x ∷ [])
returning_back drains marks trail order t x r e = record {
  at = x;
  underway = underway_back drains marks t order x r.at (subst (λ (y : List ℕ). Underway drains marks y order r.at) e r.underway) r.arrived;
  arrived = get_or-set_same marks x Done Unseen (last_within drains marks trail order t x r e);
}

-- the earlier places and the present one
pub earlier_more : (drains : DrainMap) (old marks : List Mark) (place : ℕ) → Keeps old marks → ((c : ℕ) → c < place → next_at drains c ≢ next.Missing → mark_at old c ≡ Done) → (next_at drains place ≢ next.Missing → mark_at marks place ≡ Done) → (c : ℕ) → c < place + 1 → next_at drains c ≢ next.Missing → mark_at marks c ≡ Done
earlier_more drains old marks place k before here c w d = elim (cases_eq c place) as (λ _. mark_at marks c ≡ Done) [
  | inl same ↦ subst (λ (y : ℕ). mark_at marks y ≡ Done) (sym same) (here (subst (λ (y : ℕ). next_at drains y ≢ next.Missing) same d))
  | inr other ↦ k.kept c (before c (omega arith) d)
]

-- the earlier places and the present one, which has no direction
pub earlier_same : (drains : DrainMap) (marks : List Mark) (place : ℕ) → ((c : ℕ) → c < place → next_at drains c ≢ next.Missing → mark_at marks c ≡ Done) → next_at drains place ≡ next.Missing → (c : ℕ) → c < place + 1 → next_at drains c ≢ next.Missing → mark_at marks c ≡ Done
earlier_same drains marks place before none = earlier_more drains marks marks place (record { kept = λ q h. h }) before (λ h. absurd (h none))
