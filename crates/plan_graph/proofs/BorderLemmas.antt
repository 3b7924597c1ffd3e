-- Border edges that are made once for each drain map and orientation.
use Rattle.std.proofs.Common.{◌≡◌, ◌∙◌, ℕ, zero, suc, ◌+◌, ◌*◌, ◌<◌, ◌≤◌, List, [], ◌∷◌, ◌++◌, length, take, get_or, map, refl, sym, ap, arith, inl, inr, Bool, true, false, set}
use Rattle.std.specs.Prelude.{replicate}
use Rattle.std.proofs.lemmas.Bool.Decides.{eqb_tells}
use Rattle.std.proofs.lemmas.List.{get_or-set_other, get_or-set_same, length-replicate, length-set, map-append, take_more}
use Rattle.tile_map.specs.declared.tiling.Tiling.{Tiling}
use Rattle.drain_meaning.specs.declared.op.Orient.{Orient}
use Rattle.drain_meaning.specs.declared.op.Orient.TheVariants.{Down, Up}
use Rattle.drain_meaning.specs.Drains.{DrainMap}
use Rattle.drain_meaning.specs.Equations.{orient_of}
use Rattle.border_channel.specs.declared.edge.Edge.{Edge}
use Rattle.border_channel.specs.Edges.{border_edges_of}
use Rattle.task_graph.specs.declared.flows.FlowTasks.{FlowTasks}
use Rattle.plan_graph.specs.Borders.{AreDrained, IsDrained, edges_for, no_drain_map, no_flow}
use Rattle.plan_graph.specs.Numbered.{count_all}
use Rattle.plan_graph.specs.inside.Made.{AreMade, kept_borders, orient_bit, slot_of}

-- what is kept at one place is of one drain map and one orientation
bits_same : (p q : Orient) (m n : ℕ) → 2 * m + orient_bit p ≡ 2 * n + orient_bit q → (m ≡ n) × (p ≡ q)
bits_same Down Down m n e = (omega arith, refl)
bits_same Down Up m n e = absurd (omega arith)
bits_same Up Down m n e = absurd (omega arith)
bits_same Up Up m n e = (omega arith, refl)

pub slot_same : (g : Tiling) (drains : List DrainMap) (a b : FlowTasks) → slot_of a ≡ slot_of b → edges_for g drains a ≡ edges_for g drains b
slot_same g drains a b e =
    let same = bits_same (orient_of a.op) (orient_of b.op) a.drain b.drain e in
    ap (λ (n : ℕ). border_edges_of (get_or drains n no_drain_map) g (orient_of a.op)) same.0
    ∙ ap (λ (o : Orient). border_edges_of (get_or drains b.drain no_drain_map) g o) same.1

bit_few : (o : Orient) → orient_bit o ≤ 1
bit_few Down = omega arith
bit_few Up = omega arith

-- the place of a transport whose drain map is there
pub slot_below : (g : Tiling) (drains : List DrainMap) (flow : FlowTasks) → IsDrained g drains flow → slot_of flow < 2 * length drains
slot_below g drains flow is = let there = is.there in let bit = bit_few (orient_of flow.op) in omega arith

-- nothing is made yet
pub none_made : (g : Tiling) (drains : List DrainMap) (count : ℕ) (lists : List (List Edge)) (made : List Bool) → count ≡ 2 * length drains → lists ≡ replicate count [] → made ≡ replicate count false → AreMade g drains lists made
none_made g drains count lists made size a b = record {
  all_lists = ap length a ∙ (length-replicate count [] ∙ size);
  all_made = ap length b ∙ (length-replicate count false ∙ size);
  right = λ flow e. absurd (none (slot_of flow) (ap (λ (ms : List Bool). get_or ms (slot_of flow) false) (sym b) ∙ e));
}
  where
    no : (n k : ℕ) → get_or (replicate n false) k false ≡ false
    no zero k = refl
    no (suc n) zero = refl
    no (suc n) (suc k) = no n k

    none : (k : ℕ) → get_or (replicate count false) k false ≡ true → ⊥
    none k e = let n = no count k in cc

-- the edges of one transport more are made
pub one_made : (g : Tiling) (drains : List DrainMap) (flow : FlowTasks) (lists after : List (List Edge)) (made done : List Bool) (xs : List Edge) → AreMade g drains lists made → IsDrained g drains flow →
    xs ≡ edges_for g drains flow → after ≡ set lists (slot_of flow) xs → done ≡ set made (slot_of flow) true → AreMade g drains after done
one_made g drains flow lists after made done xs are is e a b = record {
  all_lists = ap length a ∙ (length-set lists (slot_of flow) xs ∙ are.all_lists);
  all_made = ap length b ∙ (length-set made (slot_of flow) true ∙ are.all_made);
  right = λ other h. elim (eqb_tells (slot_of other) (slot_of flow)) as (λ _. get_or after (slot_of other) [] ≡ edges_for g drains other) [
    | inl same ↦
        ap (λ (k : ℕ). get_or after k []) same.1
        ∙ (ap (λ (ls : List (List Edge)). get_or ls (slot_of flow) []) a
        ∙ (get_or-set_same lists (slot_of flow) xs [] (let below = slot_below g drains flow is in let all = are.all_lists in omega arith)
        ∙ (e ∙ slot_same g drains flow other (sym same.1))))
    | inr apart ↦
        ap (λ (ls : List (List Edge)). get_or ls (slot_of other) []) a
        ∙ (get_or-set_other lists (slot_of flow) (slot_of other) xs [] apart.1
        ∙ are.right other (sym (ap (λ (ms : List Bool). get_or ms (slot_of other) false) b ∙ get_or-set_other made (slot_of flow) (slot_of other) true false apart.1) ∙ h))
  ];
}

-- the edges of all transports are kept
pub all_kept : (g : Tiling) (drains : List DrainMap) (flows : List FlowTasks) (lists : List (List Edge)) (made : List Bool) → AreMade g drains lists made →
    ((f : ℕ) → f < length flows → get_or made (slot_of (get_or flows f no_flow)) false ≡ true) → kept_borders lists flows ≡ map (edges_for g drains) flows
all_kept g drains [] lists made are done = refl
all_kept g drains (flow ∷ more) lists made are done =
    ap (λ (xs : List Edge). xs ∷ kept_borders lists more) (are.right flow (done 0 (omega arith)))
    ∙ ap (λ (xss : List (List Edge)). edges_for g drains flow ∷ xss) (all_kept g drains more lists made are (λ f below. done (suc f) (omega arith)))

-- the transports so far are done, and the next one
pub done_more : (flows : List FlowTasks) (n : ℕ) (flow : FlowTasks) (made done : List Bool) → ((f : ℕ) → f < n → get_or made (slot_of (get_or flows f no_flow)) false ≡ true) →
    ((k : ℕ) → get_or made k false ≡ true → get_or done k false ≡ true) → flow ≡ get_or flows n no_flow → get_or done (slot_of flow) false ≡ true →
    (f : ℕ) → f < n + 1 → get_or done (slot_of (get_or flows f no_flow)) false ≡ true
done_more flows n flow made done before stays is own f below = elim (eqb_tells f n) as (λ _. get_or done (slot_of (get_or flows f no_flow)) false ≡ true) [
  | inl same ↦ ap (λ (k : ℕ). get_or done (slot_of (get_or flows k no_flow)) false) same.1 ∙ (ap (λ (x : FlowTasks). get_or done (slot_of x) false) (sym is) ∙ own)
  | inr apart ↦ stays (slot_of (get_or flows f no_flow)) (before f (let other = apart.1 in omega (arith, other)))
]

-- the slots of all transports
pub slots_below : (g : Tiling) (drains : List DrainMap) (flows : List FlowTasks) (lists : List (List Edge)) → AreDrained g drains flows → length lists ≡ 2 * length drains →
    (f : ℕ) → f < length flows → slot_of (get_or flows f no_flow) < length lists
slots_below g drains flows lists are size f below = let h = slot_below g drains (get_or flows f no_flow) (are f below) in omega arith

total_append : (xss : List (List Edge)) (ys : List Edge) → count_all (xss ++ ys ∷ []) ≡ count_all xss + length ys
total_append [] ys = omega arith
total_append (xs ∷ xss) ys = let rest = total_append xss ys in omega arith

-- the edges of one transport more
pub total_more : (lists : List (List Edge)) (flows : List FlowTasks) (n : ℕ) → n < length flows →
    count_all (kept_borders lists (take (n + 1) flows)) ≡ count_all (kept_borders lists (take n flows)) + length (get_or lists (slot_of (get_or flows n no_flow)) [])
total_more lists flows n below =
    ap (λ (fs : List FlowTasks). count_all (kept_borders lists fs)) (take_more flows n no_flow below)
    ∙ (ap count_all (map-append (λ (flow : FlowTasks). get_or lists (slot_of flow) []) (take n flows) (get_or flows n no_flow ∷ []))
    ∙ total_append (kept_borders lists (take n flows)) (get_or lists (slot_of (get_or flows n no_flow)) []))

read_any : (xss : List (List Edge)) (k : ℕ) (d e : List Edge) → k < length xss → get_or xss k d ≡ get_or xss k e
read_any [] k d e below = absurd (omega arith)
read_any (xs ∷ xss) zero d e below = refl
read_any (xs ∷ xss) (suc k) d e below = read_any xss k d e (omega arith)

-- the count with one transport more
pub total_step : (lists all : List (List Edge)) (flows : List FlowTasks) (n total count slot : ℕ) (xs : List Edge) → n < length flows →
    ((f : ℕ) → f < length flows → slot_of (get_or flows f no_flow) < length lists) → total ≡ count_all (kept_borders lists (take n flows)) → count ≡ length xs →
    xs ≡ get_or all slot xs → all ≡ lists → slot ≡ slot_of (get_or flows n no_flow) → total + count ≡ count_all (kept_borders lists (take (n + 1) flows))
total_step lists all flows n total count slot xs below slots before size is same at =
    let own : xs ≡ get_or lists (slot_of (get_or flows n no_flow)) [] =
    is ∙ (ap (λ (ls : List (List Edge)). get_or ls slot xs) same ∙ (ap (λ (k : ℕ). get_or lists k xs) at ∙ read_any lists (slot_of (get_or flows n no_flow)) xs [] (slots n below))) in
    let more = total_more lists flows n below in
    let long = ap length own in
    omega arith
