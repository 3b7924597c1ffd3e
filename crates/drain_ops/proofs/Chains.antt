-- How far the flow has come down, and the turn of the next cell.
use Rattle.std.proofs.Common.{◌≡◌, ◌≢◌, inl, inr, ℕ, ◌+◌, ◌-◌, ◌<◌, ◌≤◌, List, [], ◌∷◌, length, map, sym, ap, subst, ◌∙◌, arith, get_or, get_or-set_same, get_or-set_other, Bool, true, false}
use Rattle.std.specs.Prelude.{Option, None, if◌then◌else◌, ◌==◌}
use Rattle.std.specs.List.{Contains, range_with_len}
use Rattle.std.proofs.Math.ListN.{set, length-set}
use Rattle.std.proofs.lemmas.Bool.{cases_eq, eq-eqb}
use Rattle.std.proofs.lemmas.Bool.Decides.{eqb_tells}
use Rattle.std.proofs.lemmas.List.{get_or_read}
use Rattle.text_base.specs.Limits.{most_cells}
use Rattle.cell_values.specs.declared.cell.Cell.{Cell}
use Rattle.cell_values.specs.declared.cell.Cell.TheVariants as cell
use Rattle.cell_values.specs.declared.kind.Kind.{Kind}
use Rattle.tile_map.specs.Cuts.{cell_at}
use Rattle.tile_map.specs.Parts.{Outcome, or_missing, part_of}
use Rattle.tile_map.proofs.Callers.{marks_its_overs}
use Rattle.drain_meaning.specs.declared.end.FlowEnd.{FlowEnd}
use Rattle.drain_meaning.specs.declared.flow.Flow.{Flow}
use Rattle.drain_meaning.specs.declared.next.Next.TheVariants as next
use Rattle.drain_meaning.specs.declared.op.Orient.{Orient}
use Rattle.drain_meaning.specs.declared.op.Orient.TheVariants.{Down}
use Rattle.drain_meaning.specs.Drains.{DrainMap, next_at}
use Rattle.drain_meaning.specs.Flows.{FlowFits, flow_outcome}
use Rattle.drain_meaning.specs.Paths.{IsDirected, IsSound, path_of}
use Rattle.drain_meaning.specs.Rules.{Accumulator, RuleLaws}
use Rattle.drain_meaning.specs.Sound.{IsDrain}
use Rattle.drain_meaning.specs.Transports.{AreEnds, Transport, drains_into, end_of, feeders, transport_outcome, tributaries}
use Rattle.drain_meaning.proofs.Callers.{cases_directed, contains_cases, contains_first, contains_later, directed_within, drains_tells, ends_meet, next_directed}
use Rattle.drain_ops.specs.Operands.{AreInRange}
use Rattle.drain_ops.specs.inside.Judged.{noted}
use Rattle.drain_ops.specs.inside.Waits.{AreWaits, feeding, places_before}
use Rattle.drain_ops.proofs.Feeding.{all_fed, cases_contains, feeding_none, feeding_one, feeding_room, none_left}
use Rattle.drain_ops.proofs.Gathered.{IsApart, apart_range, gathered, gathered_same, in_range, joined_all-filter}
use Rattle.drain_ops.proofs.Judging.{OneMore, TellsLeast, cell_of, few_cells, judged_here, part_of_walk, tells_more}
use Rattle.drain_ops.proofs.Loads.{few_loads, few_places, loads}
use Rattle.drain_ops.proofs.Passing.{Passing, passed, passed_none, passing_on, passing_rest}
use Rattle.drain_ops.proofs.PathSteps.{comes_to_all, no_loop, path_bounds, path_shorter}

-- these cells have passed their flow on, each after those that drain into it, and their results stand
pub record Descended {A : Type 0} (t : Transport) (rule : Accumulator A) (kind : Kind) (m : DrainMap) (a b : ℕ → Cell) (waits : List ℕ) (inflows : List A) (results : List Cell) (over : Option ℕ) : Type 0 where
  pub done : List ℕ
  pub apart : IsApart done
  pub directed : (u : ℕ) → Contains done u → IsDirected m u
  pub closed : (u d : ℕ) → Contains done d → next_at m u ≡ next.Cell d → Contains done u
  pub waiting : AreWaits m done waits
  pub passing : Passing rule m (end_of t m a b) (cell_of t kind m a b) done inflows results
  pub least : TellsLeast (transport_outcome t kind m a b) (Contains done) over

-- none is done before the walk
pub descended_none : {A : Type 0} (t : Transport) (rule : Accumulator A) → RuleLaws t rule → (kind : Kind) (m : DrainMap) (a b : ℕ → Cell) (waits : List ℕ) (inflows : List A) (results : List Cell) → AreWaits m [] waits → length inflows ≡ length m.codes → length results ≡ length m.codes →
    ((d : ℕ) → get_or inflows d rule.none ≡ rule.none) → ((u : ℕ) → cell_at results u ≡ cell.Mv) → Descended t rule kind m a b waits inflows results None
descended_none {A = A} t rule laws kind m a b waits inflows results w im rm none mv = record {
  done = [];
  apart = tt;
  directed = λ u k. absurd (omega (arith, k.1));
  closed = λ u d k e. absurd (omega (arith, k.1));
  waiting = w;
  passing = record {
    inflows_many = im;
    results_many = rm;
    came = λ d h. none d;
    fitting = λ d h. subst (λ (y : A). rule.FitsLoad y 0) (sym (none d)) laws.none_fits;
    given = λ u k. absurd (omega (arith, k.1));
    other = λ u k. mv u;
  };
  least = λ u k. absurd (omega (arith, k.1));
}

-- the feeding cells of a transport that goes down
down_feeders : (o : Orient) (m : DrainMap) (c : ℕ) → o ≡ Down → feeders o m c ≡ tributaries m c
unfolding feeders
down_feeders o m c e = ap (λ (y : Orient). feeders y m c) e

-- What has been passed on to a cell gives it its end once all cells that drain into it are done.
end_fed : {A : Type 0} (t : Transport) (rule : Accumulator A) → RuleLaws t rule → (m : DrainMap) (a b : ℕ → Cell) (ends : ℕ → FlowEnd) (done : List ℕ) (c : ℕ) → t.orient ≡ Down → AreEnds t m a b ends → IsDirected m c → IsApart done → ((u : ℕ) → Contains done u → u < length m.codes) → ((u : ℕ) → next_at m u ≡ next.Cell c → Contains done u) →
    rule.ended (gathered rule (passed rule m ends c) done) (a c) (b c) ≡ ends c
end_fed {A = A} t rule laws m a b ends done c down are directed apart low fed =
    let all : List ℕ = range_with_len 0 (length m.codes) in
    let outs : (ℕ → Flow) = λ u. (ends u).out in
    let joined = joined_all-filter t rule laws (λ u. drains_into c (next_at m u)) outs all in
    let same = gathered_same t rule laws (passed rule m ends c) all done (apart_range (length m.codes)) apart
    (λ u k. in_range (length m.codes) u (low u k))
    (λ u w out. elim (drains_tells (next_at m u) c) as (λ _. passed rule m ends c u ≡ rule.none) [
      | inl e ↦ absurd (out (fed u e))
      | inr e ↦ passed_none rule m ends c u e
    ]) in
    let from : feeders t.orient m c ≡ tributaries m c = down_feeders t.orient m c down in
    ap (λ (y : A). rule.ended y (a c) (b c)) (sym same ∙ sym joined)
    ∙ (laws.means (map outs (tributaries m c)) (a c) (b c)
    ∙ (ap (λ (y : List ℕ). t.equation (map outs y) (a c) (b c)) (sym from)
    ∙ sym (are c directed)))

-- the end of the cell whose turn it is, by what came to it
pub record Turn {A : Type 0} (rule : Accumulator A) (m : DrainMap) (ends : ℕ → FlowEnd) (a b : ℕ → Cell) (done : List ℕ) (inflows : List A) (c : ℕ) : Type 0 where
  pub within : c < length m.codes
  pub directed : IsDirected m c
  pub new : Contains done c → ⊥
  pub low : (u : ℕ) → Contains done u → u < length m.codes
  pub fed : (u : ℕ) → next_at m u ≡ next.Cell c → Contains done u
  pub few : loads m done c < most_cells
  pub fits : rule.FitsLoad (get_or inflows c rule.none) (loads m done c)
  pub end : rule.ended (get_or inflows c rule.none) (a c) (b c) ≡ ends c
  pub out_fits : FlowFits (ends c).out (loads m done c + 1)
  pub room : (d : ℕ) → next_at m c ≡ next.Cell d → loads m done d + (loads m done c + 1) ≤ most_cells

-- Where a cell waits for none, it is its turn.
pub turn : {A : Type 0} (t : Transport) (rule : Accumulator A) → RuleLaws t rule → (kind : Kind) (m : DrainMap) (a b : ℕ → Cell) (waits : List ℕ) (inflows : List A) (results : List Cell) (over : Option ℕ) (c : ℕ) → t.orient ≡ Down → IsDrain m → AreInRange a → AreInRange b →
    (des : Descended t rule kind m a b waits inflows results over) → c < length m.codes → get_or waits c 0 ≡ 0 → Turn rule m (end_of t m a b) a b des.done inflows c
turn {A = A} t rule laws kind m a b waits inflows results over c down is fx fy des w zero_left =
    let done : List ℕ = des.done in
    let ends : (ℕ → FlowEnd) = end_of t m a b in
    let directed : IsDirected m c = elim (cases_directed m c) as (λ _. IsDirected m c) [ inl k ↦ k | inr k ↦ absurd (des.waiting.missing c w k zero_left) ] in
    let new : (Contains done c → ⊥) = λ k. des.waiting.past c k zero_left in
    let low : ((u : ℕ) → Contains done u → u < length m.codes) = λ u k. directed_within m u (des.directed u k) in
    let left : get_or waits c 0 + feeding m c done ≡ feeding m c (places_before (length m.codes)) = des.waiting.left c directed new in
    let same : feeding m c done ≡ feeding m c (places_before (length m.codes)) = omega (arith, left, zero_left) in
    let fed : ((u : ℕ) → next_at m u ≡ next.Cell c → Contains done u) = λ u e. all_fed m c u (length m.codes) done des.apart low same (directed_within m u (λ k. cc (k, e))) e in
    let many = few_places (c ∷ done) (length m.codes) (new, des.apart) (λ u k. elim (contains_cases c done u k) as (λ _. u < length m.codes) [ inl k0 ↦ subst (λ (y : ℕ). y < length m.codes) (sym k0) w | inr k0 ↦ low u k0 ]) in
    let cells = few_cells m is in
    let one = few_loads m done (c ∷ []) des.apart ((λ k. omega (arith, k.1)), tt)
    (λ u k n. elim (contains_cases c [] u k) as (λ _. ⊥) [ inl k0 ↦ new (subst (λ (y : ℕ). Contains done y) k0 n) | inr k0 ↦ omega (arith, k0.1) ]) in
    let under : loads m done c < most_cells = omega (arith, one, many, cells) in
    let came : get_or inflows c rule.none ≡ gathered rule (passed rule m ends c) done = des.passing.came c w in
    let end : rule.ended (get_or inflows c rule.none) (a c) (b c) ≡ ends c =
    ap (λ (y : A). rule.ended y (a c) (b c)) came ∙ end_fed t rule laws m a b ends done c down (ends_meet t m a b is.sound) directed des.apart low fed in
    record {
      within = w;
      directed = directed;
      new = new;
      low = low;
      fed = fed;
      few = under;
      fits = des.passing.fitting c w;
      end = end;
      out_fits = subst (λ (y : FlowEnd). FlowFits y.out (loads m done c + 1)) end (laws.out_fits (get_or inflows c rule.none) (a c) (b c) (loads m done c) (des.passing.fitting c w) under (fx c) (fy c));
      room = λ d e.
          let apart : d ≢ c = no_loop m c d is.sound directed e in
          let out : (Contains done d → ⊥) = λ k. new (des.closed c d k e) in
          let two = few_loads m done (d ∷ c ∷ []) des.apart
          ((λ k. elim (contains_cases c [] d k) as (λ _. ⊥) [ inl k0 ↦ apart k0 | inr k0 ↦ omega (arith, k0.1) ]), ((λ k. omega (arith, k.1)), tt))
          (λ u k n. elim (contains_cases d (c ∷ []) u k) as (λ _. ⊥) [
            | inl b0 ↦ out (subst (λ (y : ℕ). Contains done y) b0 n)
            | inr b0 ↦ elim (contains_cases c [] u b0) as (λ _. ⊥) [ inl f ↦ new (subst (λ (y : ℕ). Contains done y) f n) | inr f ↦ omega (arith, f.1) ]
          ]) in
          omega (arith, two, many, cells);
    }

-- an element that was read, by its place
pub read_fits : {A : Type 0} (rule : Accumulator A) (inflows : List A) (d n : ℕ) (x : A) → d < length inflows → x ≡ get_or inflows d x → rule.FitsLoad (get_or inflows d rule.none) n → rule.FitsLoad x n
read_fits {A = A} rule inflows d n x w e f = subst (λ (y : A). rule.FitsLoad y n) (sym (get_or_read inflows d x w e rule.none)) f

-- one more cell is done
closed_more : (m : DrainMap) (done : List ℕ) (c : ℕ) → ((u d : ℕ) → Contains done d → next_at m u ≡ next.Cell d → Contains done u) → ((u : ℕ) → next_at m u ≡ next.Cell c → Contains done u) → (u d : ℕ) → Contains (c ∷ done) d → next_at m u ≡ next.Cell d → Contains (c ∷ done) u
closed_more m done c closed fed u d k e = contains_later c done u (elim (contains_cases c done d k) as (λ _. Contains done u) [
  | inl same ↦ fed u (subst (λ (y : ℕ). next_at m u ≡ next.Cell y) same e)
  | inr later ↦ closed u d later e
])

directed_more : (m : DrainMap) (done : List ℕ) (c : ℕ) → ((u : ℕ) → Contains done u → IsDirected m u) → IsDirected m c → (u : ℕ) → Contains (c ∷ done) u → IsDirected m u
directed_more m done c all here u k = elim (contains_cases c done u k) as (λ _. IsDirected m u) [
  | inl same ↦ subst (λ (y : ℕ). IsDirected m y) (sym same) here
  | inr later ↦ all u later
]

one_more_done : (done : List ℕ) (c : ℕ) → OneMore (Contains done) (Contains (c ∷ done)) c
one_more_done done c = record { here = contains_first c done; kept = λ u k. contains_later c done u k; cases = λ u k. contains_cases c done u k }

-- what waits after the turn of a cell that drains into none
waits_rest : (m : DrainMap) (done waits : List ℕ) (c x : ℕ) → AreWaits m done waits → x ≢ 0 → c < length m.codes → ((d : ℕ) → drains_into d (next_at m c) ≡ false) → AreWaits m (c ∷ done) (set waits c x)
waits_rest m done waits c x w some low none =
    let within : c < length waits = omega (arith, low, w.many) in
    let here : get_or (set waits c x) c 0 ≡ x = get_or-set_same waits c x 0 within in
    let there : ((u : ℕ) → u ≢ c → get_or (set waits c x) u 0 ≡ get_or waits u 0) = λ u ne. get_or-set_other waits c u x 0 ne in
    record {
      many = length-set waits c x ∙ w.many;
      past = λ u k e. elim (cases_eq u c) as (λ _. ⊥) [
        | inl same ↦ some (sym here ∙ (ap (λ (y : ℕ). get_or (set waits c x) y 0) (sym same) ∙ e))
        | inr ne ↦ w.past u (elim (contains_cases c done u k) as (λ _. Contains done u) [ inl b ↦ absurd (ne b) | inr b ↦ b ]) (sym (there u ne) ∙ e)
      ];
      missing = λ u h k e. elim (cases_eq u c) as (λ _. ⊥) [
        | inl same ↦ some (sym here ∙ (ap (λ (y : ℕ). get_or (set waits c x) y 0) (sym same) ∙ e))
        | inr ne ↦ w.missing u h k (sym (there u ne) ∙ e)
      ];
      left = λ d k out.
          let ne : d ≢ c = λ same. out (subst (λ (y : ℕ). Contains (c ∷ done) y) (sym same) (contains_first c done)) in
          let old = w.left d k (λ h. out (contains_later c done d h)) in
          let same = there d ne in
          let rest = feeding_none m d c done (none d) in
          omega (arith, old, same, rest);
    }

pub drains_apart : (m : DrainMap) (c d e : ℕ) → next_at m c ≡ next.Cell d → e ≢ d → drains_into e (next_at m c) ≡ false
drains_apart m c d e h ne = elim (drains_tells (next_at m c) e) as (λ _. drains_into e (next_at m c) ≡ false) [ inl b ↦ absurd (ne (cc (b, h))) | inr b ↦ b ]

-- what waits after the turn of a cell that drains into d
waits_on : (m : DrainMap) (done waits : List ℕ) (c d x : ℕ) → IsDrain m → AreWaits m done waits → x ≢ 0 → c < length m.codes → d < length m.codes → IsDirected m d → d ≢ c → (Contains done d → ⊥) → next_at m c ≡ next.Cell d →
    feeding m d done + 1 ≤ feeding m d (places_before (length m.codes)) → AreWaits m (c ∷ done) (set (set waits c x) d (get_or (set waits c x) d 0 - 1))
waits_on m done waits c d x is w some low v directed apart out e room =
    let one : List ℕ = set waits c x in
    let y : ℕ = get_or one d 0 - 1 in
    let many : length one ≡ length waits = length-set waits c x in
    let here : get_or one c 0 ≡ x = get_or-set_same waits c x 0 (omega (arith, low, w.many)) in
    let there : ((u : ℕ) → u ≢ c → get_or one u 0 ≡ get_or waits u 0) = λ u ne. get_or-set_other waits c u x 0 ne in
    let less : get_or (set one d y) d 0 ≡ y = get_or-set_same one d y 0 (omega (arith, many, v, w.many)) in
    let kept : ((u : ℕ) → u ≢ d → get_or (set one d y) u 0 ≡ get_or one u 0) = λ u ne. get_or-set_other one d u y 0 ne in
    let here_now : get_or (set one d y) c 0 ≡ x = kept c (λ same. apart (sym same)) ∙ here in
    record {
      many = length-set one d y ∙ (many ∙ w.many);
      past = λ u k z. elim (cases_eq u c) as (λ _. ⊥) [
        | inl same ↦ some (sym here_now ∙ (ap (λ (q : ℕ). get_or (set one d y) q 0) (sym same) ∙ z))
        | inr ne ↦
            let old : Contains done u = elim (contains_cases c done u k) as (λ _. Contains done u) [ inl b ↦ absurd (ne b) | inr b ↦ b ] in
            let off : u ≢ d = λ same. out (subst (λ (q : ℕ). Contains done q) same old) in
            w.past u old (sym (kept u off ∙ there u ne) ∙ z)
      ];
      missing = λ u h k z. elim (cases_eq u c) as (λ _. ⊥) [
        | inl same ↦ some (sym here_now ∙ (ap (λ (q : ℕ). get_or (set one d y) q 0) (sym same) ∙ z))
        | inr ne ↦
            let off : u ≢ d = λ same. directed (subst (λ (q : ℕ). next_at m q ≡ next.Missing) same k) in
            w.missing u h k (sym (kept u off ∙ there u ne) ∙ z)
      ];
      left = λ f k gone. elim (cases_eq f d) as (λ _. get_or (set one d y) f 0 + feeding m f (c ∷ done) ≡ feeding m f (places_before (length m.codes))) [
        | inl same ↦
            let old = w.left d directed out in
            let now = there d apart in
            let more = feeding_one m d c done e in
            let all : get_or (set one d y) d 0 + feeding m d (c ∷ done) ≡ feeding m d (places_before (length m.codes)) = omega (arith, old, now, more, less, room) in
            subst (λ (q : ℕ). get_or (set one d y) q 0 + feeding m q (c ∷ done) ≡ feeding m q (places_before (length m.codes))) (sym same) all
        | inr ne ↦
            let off : f ≢ c = λ same. gone (subst (λ (q : ℕ). Contains (c ∷ done) q) (sym same) (contains_first c done)) in
            let old = w.left f k (λ h. gone (contains_later c done f h)) in
            let same = kept f ne ∙ there f off in
            let rest = feeding_none m f c done (drains_apart m c d f e ne) in
            omega (arith, old, same, rest)
      ];
    }

least_more : (t : Transport) (kind : Kind) (m : DrainMap) (a b : ℕ → Cell) (done : List ℕ) (over next_over : Option ℕ) (c : ℕ) (e : FlowEnd) → IsDirected m c → e ≡ end_of t m a b c → next_over ≡ noted c (flow_outcome kind e.result) over →
    TellsLeast (transport_outcome t kind m a b) (Contains done) over → TellsLeast (transport_outcome t kind m a b) (Contains (c ∷ done)) next_over
least_more t kind m a b done over next_over c e directed is first least =
    let here = judged_here t kind m a b c e directed is in
    subst (λ (y : Option ℕ). TellsLeast (transport_outcome t kind m a b) (Contains (c ∷ done)) y) (sym first)
    (subst (λ (y : Outcome). TellsLeast (transport_outcome t kind m a b) (Contains (c ∷ done)) (noted c y over)) (sym here)
    (tells_more (transport_outcome t kind m a b) (Contains done) (Contains (c ∷ done)) c over (one_more_done done c) least))

-- after the turn of a cell that passes its flow on
pub descended_on : {A : Type 0} (t : Transport) (rule : Accumulator A) → RuleLaws t rule → (kind : Kind) (m : DrainMap) (a b : ℕ → Cell) (waits : List ℕ) (inflows : List A) (results : List Cell) (over : Option ℕ) (c d mark : ℕ) (s : A) (e : FlowEnd) (x : Cell) (next_over : Option ℕ) → IsDrain m → mark ≢ 0 →
    (des : Descended t rule kind m a b waits inflows results over) → Turn rule m (end_of t m a b) a b des.done inflows c →
    d < length m.codes → next_at m c ≡ next.Cell d → e ≡ end_of t m a b c → s ≡ rule.joined (get_or inflows d rule.none) (rule.lifted e.out) →
    x ≡ or_missing (flow_outcome kind e.result) → next_over ≡ noted c (flow_outcome kind e.result) over →
    Descended t rule kind m a b (set (set waits c mark) d (get_or (set waits c mark) d 0 - 1)) (set inflows d s) (set results c x) next_over
descended_on {A = A} t rule laws kind m a b waits inflows results over c d mark s e x next_over is some des now v nx same sum seen first =
    let ends : (ℕ → FlowEnd) = end_of t m a b in
    let value : (ℕ → Cell) = cell_of t kind m a b in
    let apart : d ≢ c = no_loop m c d is.sound now.directed nx in
    let out : (Contains des.done d → ⊥) = λ k. now.new (des.closed c d k nx) in
    let here : flow_outcome kind e.result ≡ transport_outcome t kind m a b c = judged_here t kind m a b c e now.directed same in
    let cell : x ≡ value c = seen ∙ ap or_missing here in
    let joined : s ≡ rule.joined (get_or inflows d rule.none) (rule.lifted (ends c).out) =
    sum ∙ ap (λ (z : FlowEnd). rule.joined (get_or inflows d rule.none) (rule.lifted z.out)) same in
    let one = passing_on t rule laws m ends value des.done inflows results c d des.passing now.within v nx now.out_fits (now.room d nx) in
    record {
      done = c ∷ des.done;
      apart = (now.new, des.apart);
      directed = directed_more m des.done c des.directed now.directed;
      closed = closed_more m des.done c des.closed now.fed;
      waiting = waits_on m des.done waits c d mark is des.waiting some now.within v (next_directed m c d (is.sound c now.directed) nx) apart out nx (feeding_room m d c (length m.codes) des.done des.apart now.low now.within now.new nx);
      passing = subst (λ (z : Cell). Passing rule m ends value (c ∷ des.done) (set inflows d s) (set results c z)) (sym cell)
          (subst (λ (z : A). Passing rule m ends value (c ∷ des.done) (set inflows d z) (set results c (value c))) (sym joined) one);
      least = least_more t kind m a b des.done over next_over c e now.directed same first des.least;
    }

-- after the turn of a cell that passes nothing on
pub descended_rest : {A : Type 0} (t : Transport) (rule : Accumulator A) → RuleLaws t rule → (kind : Kind) (m : DrainMap) (a b : ℕ → Cell) (waits : List ℕ) (inflows : List A) (results : List Cell) (over : Option ℕ) (c mark : ℕ) (e : FlowEnd) (x : Cell) (next_over : Option ℕ) → mark ≢ 0 →
    (des : Descended t rule kind m a b waits inflows results over) → Turn rule m (end_of t m a b) a b des.done inflows c →
    ((d : ℕ) → next_at m c ≡ next.Cell d → ⊥) → e ≡ end_of t m a b c →
    x ≡ or_missing (flow_outcome kind e.result) → next_over ≡ noted c (flow_outcome kind e.result) over →
    Descended t rule kind m a b (set waits c mark) inflows (set results c x) next_over
descended_rest {A = A} t rule laws kind m a b waits inflows results over c mark e x next_over some des now nx same seen first =
    let ends : (ℕ → FlowEnd) = end_of t m a b in
    let value : (ℕ → Cell) = cell_of t kind m a b in
    let here : flow_outcome kind e.result ≡ transport_outcome t kind m a b c = judged_here t kind m a b c e now.directed same in
    let cell : x ≡ value c = seen ∙ ap or_missing here in
    let none : ((d : ℕ) → drains_into d (next_at m c) ≡ false) = λ d. elim (drains_tells (next_at m c) d) as (λ _. drains_into d (next_at m c) ≡ false) [ inl k0 ↦ absurd (nx d k0) | inr k0 ↦ k0 ] in
    let one = passing_rest t rule laws m ends value des.done inflows results c des.passing now.within none in
    record {
      done = c ∷ des.done;
      apart = (now.new, des.apart);
      directed = directed_more m des.done c des.directed now.directed;
      closed = closed_more m des.done c des.closed now.fed;
      waiting = waits_rest m des.done waits c mark des.waiting some now.within none;
      passing = subst (λ (z : Cell). Passing rule m ends value (c ∷ des.done) inflows (set results c z)) (sym cell) one;
      least = least_more t kind m a b des.done over next_over c e now.directed same first des.least;
    }

-- how far a chain may still go: not at all where its cell waits for others
abbrev pub steps_left : DrainMap → List ℕ → ℕ → ℕ
steps_left m waits c = if get_or waits c 0 == 0 then length (path_of m c) else 0

no_further : (o : Bool) (n : ℕ) → (if o then n else 0) ≤ n
no_further true n = omega arith
no_further false n = omega arith

steps_here : (m : DrainMap) (waits : List ℕ) (c : ℕ) → get_or waits c 0 ≡ 0 → steps_left m waits c ≡ length (path_of m c)
steps_here m waits c e = rw (eq-eqb (get_or waits c 0) 0 e)

pub fewer_on : (m : DrainMap) (waits more : List ℕ) (c d : ℕ) → IsSound m → IsDirected m c → next_at m c ≡ next.Cell d → get_or waits c 0 ≡ 0 → steps_left m more d < steps_left m waits c
fewer_on m waits more c d sound directed e none =
    let here = steps_here m waits c none in
    let most = no_further (get_or more d 0 == 0) (length (path_of m d)) in
    let short = path_shorter m sound c d directed e in
    omega (arith, here, most, short)

pub fewer_rest : (m : DrainMap) (waits : List ℕ) (c x : ℕ) → IsSound m → IsDirected m c → get_or waits c 0 ≡ 0 → c < length waits → x ≢ 0 → steps_left m (set waits c x) c < steps_left m waits c
fewer_rest m waits c x sound directed none low some =
    let here = steps_here m waits c none in
    let one = path_bounds m sound c directed in
    let now : steps_left m (set waits c x) c ≡ 0 = elim (eqb_tells (get_or (set waits c x) c 0) 0) as (λ _. steps_left m (set waits c x) c ≡ 0) [
      | inl t ↦ absurd (some (sym (get_or-set_same waits c x 0 low) ∙ t.1))
      | inr t ↦ rw t.0
    ] in
    omega (arith, here, now, one.0)

-- Where no cell waits for none, all cells with a direction are done.
all_done : {A : Type 0} (t : Transport) (rule : Accumulator A) (kind : Kind) (m : DrainMap) (a b : ℕ → Cell) (waits : List ℕ) (inflows : List A) (results : List Cell) (over : Option ℕ) → IsDrain m →
    (des : Descended t rule kind m a b waits inflows results over) → ((u : ℕ) → u < length m.codes → get_or waits u 0 ≢ 0) → (c : ℕ) → IsDirected m c → Contains des.done c
all_done t rule kind m a b waits inflows results over is des none =
    comes_to_all m (Contains des.done) is.sound (λ c directed fed. elim (cases_contains des.done c) as (λ _. Contains des.done c) [
      | inl k ↦ k
      | inr out ↦
          let same = none_left m c (length m.codes) des.done des.apart (λ u k. directed_within m u (des.directed u k)) fed in
          let left = des.waiting.left c directed out in
          let zero_left : get_or waits c 0 ≡ 0 = omega (arith, same, left) in
          absurd (none c (directed_within m c directed) zero_left)
    ])

-- after all turns
pub descended_all : {A : Type 0} (t : Transport) (rule : Accumulator A) (kind : Kind) (m : DrainMap) (a b : ℕ → Cell) (waits : List ℕ) (inflows : List A) (results : List Cell) (over : Option ℕ) → IsDrain m →
    Descended t rule kind m a b waits inflows results over → ((u : ℕ) → u < length m.codes → get_or waits u 0 ≢ 0) → record { cells = results; over = over } ≡ part_of (transport_outcome t kind m a b) (length m.codes)
descended_all t rule kind m a b waits inflows results over is des none =
    (marks_its_overs (transport_outcome t kind m a b) (length m.codes) (record { cells = results; over = over })).0
    (part_of_walk t kind m a b (Contains des.done) results over des.passing.results_many
    des.directed
    (all_done t rule kind m a b waits inflows results over is des none)
    des.passing.given des.passing.other des.least)

-- what drains into a cell that is not done is still waited for
pub some_left : {A : Type 0} (t : Transport) (rule : Accumulator A) (kind : Kind) (m : DrainMap) (a b : ℕ → Cell) (waits : List ℕ) (inflows : List A) (results : List Cell) (over : Option ℕ) (c d x : ℕ) → IsDrain m →
    (des : Descended t rule kind m a b waits inflows results over) → Turn rule m (end_of t m a b) a b des.done inflows c → next_at m c ≡ next.Cell d → 0 < get_or (set waits c x) d 0
some_left t rule kind m a b waits inflows results over c d x is des now e =
    let room = feeding_room m d c (length m.codes) des.done des.apart now.low now.within now.new e in
    let old = des.waiting.left d (next_directed m c d (is.sound c now.directed) e) (λ k. now.new (des.closed c d k e)) in
    let same = get_or-set_other waits c d x 0 (no_loop m c d is.sound now.directed e) in
    omega (arith, room, old, same)

-- no cell up to a place waits for none, but the one where the chain is
pub past_rest : (waits : List ℕ) (n c x : ℕ) → ((u : ℕ) → u ≤ n → u ≢ c → get_or waits u 0 ≢ 0) → (u : ℕ) → u ≤ n → u ≢ c → get_or (set waits c x) u 0 ≢ 0
past_rest waits n c x past u h ne e = past u h ne (sym (get_or-set_other waits c u x 0 ne) ∙ e)

pub past_on : (waits : List ℕ) (n c d x y : ℕ) → x ≢ 0 → c < length waits → ((u : ℕ) → u ≤ n → u ≢ c → get_or waits u 0 ≢ 0) → (u : ℕ) → u ≤ n → u ≢ d → get_or (set (set waits c x) d y) u 0 ≢ 0
past_on waits n c d x y some low past u h ne e =
    let one : get_or (set waits c x) u 0 ≡ 0 = sym (get_or-set_other (set waits c x) d u y 0 ne) ∙ e in
    elim (cases_eq u c) as (λ _. ⊥) [
      | inl same ↦ some (sym (get_or-set_same waits c x 0 low) ∙ (ap (λ (q : ℕ). get_or (set waits c x) q 0) (sym same) ∙ one))
      | inr off ↦ past u h off (sym (get_or-set_other waits c u x 0 off) ∙ one)
    ]
