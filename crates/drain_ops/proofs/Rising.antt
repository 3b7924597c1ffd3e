-- How far the ends have come up, and the turn of the next cell.
use Rattle.std.specs.Prelude.{Option, None}
use Rattle.std.proofs.Common.{◌≡◌, ◌≢◌, inl, inr, ℕ, ◌+◌, ◌<◌, ◌≤◌, List, length, map, refl, sym, ap, subst, ◌∙◌, arith, suc, [], ◌∷◌, true, false, Bool, get_or, get_or-set_same, get_or-set_other}
use Rattle.std.proofs.Math.ListN.{set, length-set}
use Rattle.std.proofs.lemmas.Bool.{cases_eq}
use Rattle.text_base.specs.Limits.{most_cells}
use Rattle.cell_values.specs.declared.cell.Cell.{Cell}
use Rattle.cell_values.specs.declared.cell.Cell.TheVariants as cell
use Rattle.tile_map.specs.Cuts.{cell_at}
use Rattle.drain_meaning.specs.declared.end.FlowEnd.{FlowEnd}
use Rattle.drain_meaning.specs.declared.flow.Flow.{Flow}
use Rattle.drain_meaning.specs.declared.next.Next.{Next}
use Rattle.drain_meaning.specs.declared.next.Next.TheVariants as next
use Rattle.drain_meaning.specs.declared.op.Orient.{Orient}
use Rattle.drain_meaning.specs.declared.op.Orient.TheVariants.{Up}
use Rattle.drain_meaning.specs.Drains.{DrainMap, next_at}
use Rattle.drain_meaning.specs.Flows.{FlowFits}
use Rattle.drain_meaning.specs.Paths.{IsDirected, IsFollowedBy}
use Rattle.drain_meaning.specs.Rules.{Accumulator, RuleLaws, joined_all}
use Rattle.drain_meaning.specs.Sound.{IsDrain}
use Rattle.drain_meaning.specs.Transports.{AreEnds, Transport, end_of, feeders, outlet, transport_outcome}
use Rattle.drain_meaning.proofs.Callers.{directed_within, ends_meet, path_short}
use Rattle.drain_meaning.specs.declared.flow.Flow.TheVariants as flow
use Rattle.cell_values.specs.declared.kind.Kind.{Kind}
use Rattle.tile_map.specs.Parts.{Outcome, or_missing, part_of}
use Rattle.tile_map.proofs.Callers.{marks_its_overs}
use Rattle.drain_meaning.specs.Flows.{flow_outcome}
use Rattle.drain_ops.specs.Operands.{AreInRange}
use Rattle.drain_ops.specs.inside.Judged.{noted}
use Rattle.drain_ops.specs.inside.Trails.{IsEnded}
use Rattle.drain_ops.specs.inside.Upward.{flow_at, from_below}
use Rattle.drain_ops.proofs.Judging.{OneMore, TellsLeast, cell_of, few_cells, judged_here, part_of_walk, tells_more}
use Rattle.drain_ops.proofs.TrailLemmas.{IsLast, ended_cases, ended_here, ended_kept}

-- What comes from below depends on the outflow of the cell drained into alone.
below_same : {A : Type 0} (rule : Accumulator A) (outs other : ℕ → Flow) (n : Next) → ((d : ℕ) → n ≡ next.Cell d → outs d ≡ other d) → from_below rule outs n ≡ from_below rule other n
below_same rule outs other (next.Cell d) e = ap (λ (y : Flow). rule.lifted y) (e d refl)
below_same rule outs other next.Pit e = refl
below_same rule outs other next.Outside e = refl
below_same rule outs other next.Missing e = refl

joined_below : {A : Type 0} (t : Transport) (rule : Accumulator A) → RuleLaws t rule → (outs : ℕ → Flow) (n : Next) → joined_all rule (map outs (outlet n)) ≡ from_below rule outs n
joined_below t rule laws outs (next.Cell d) = laws.unit (rule.lifted (outs d))
joined_below t rule laws outs next.Pit = refl
joined_below t rule laws outs next.Outside = refl
joined_below t rule laws outs next.Missing = refl

up_feeders : (o : Orient) (drains : DrainMap) (c : ℕ) → o ≡ Up → feeders o drains c ≡ outlet (next_at drains c)
unfolding feeders
up_feeders o drains c e = ap (λ (y : Orient). feeders y drains c) e

-- What comes from below gives a cell its end.
end_below : {A : Type 0} (t : Transport) (rule : Accumulator A) → RuleLaws t rule → (drains : DrainMap) (a b : ℕ → Cell) (ends : ℕ → FlowEnd) (c : ℕ) → t.orient ≡ Up → AreEnds t drains a b ends → IsDirected drains c →
    rule.ended (from_below rule (λ u. (ends u).out) (next_at drains c)) (a c) (b c) ≡ ends c
end_below {A = A} t rule laws drains a b ends c up are directed =
    let outs : (ℕ → Flow) = λ u. (ends u).out in
    ap (λ (y : A). rule.ended y (a c) (b c)) (sym (joined_below t rule laws outs (next_at drains c)))
    ∙ (laws.means (map outs (outlet (next_at drains c))) (a c) (b c)
    ∙ (ap (λ (y : List ℕ). t.equation (map outs y) (a c) (b c)) (sym (up_feeders t.orient drains c up))
    ∙ sym (are c directed)))

followed_directed : (m : DrainMap) (c : ℕ) (behind : List ℕ) → IsFollowedBy m c behind → IsDirected m c
followed_directed m c [] f = λ k. cc (k, f)
followed_directed m c (d ∷ behind) f = λ k. cc (k, f.0)

-- what comes from below fits the path, and so does the end
fits_end : {A : Type 0} (t : Transport) (rule : Accumulator A) → RuleLaws t rule → (m : DrainMap) (a b : ℕ → Cell) (ends : ℕ → FlowEnd) → t.orient ≡ Up → AreEnds t m a b ends → length m.codes ≤ most_cells → AreInRange a → AreInRange b →
    (behind : List ℕ) (c : ℕ) → IsFollowedBy m c behind → rule.FitsLoad (from_below rule (λ u. (ends u).out) (next_at m c)) (length behind) →
    rule.FitsLoad (from_below rule (λ u. (ends u).out) (next_at m c)) (length behind) × FlowFits (ends c).out (suc (length behind))
fits_end t rule laws m a b ends up are few fx fy behind c f fit =
    let short = path_short m c behind f in
    let under : length behind < most_cells = omega (arith, short, few) in
    let same = end_below t rule laws m a b ends c up are (followed_directed m c behind f) in
    let more : length behind + 1 ≡ suc (length behind) = omega arith in
    (fit, subst (λ (y : FlowEnd). FlowFits y.out (suc (length behind))) same (subst (λ (y : ℕ). FlowFits (rule.ended (from_below rule (λ u. (ends u).out) (next_at m c)) (a c) (b c)).out y) more (laws.out_fits (from_below rule (λ u. (ends u).out) (next_at m c)) (a c) (b c) (length behind) fit under (fx c) (fy c))))

-- The outflow of a cell fits as many cells as its path has.
fits_along : {A : Type 0} (t : Transport) (rule : Accumulator A) → RuleLaws t rule → (m : DrainMap) (a b : ℕ → Cell) (ends : ℕ → FlowEnd) → t.orient ≡ Up → AreEnds t m a b ends → length m.codes ≤ most_cells → AreInRange a → AreInRange b →
    (behind : List ℕ) (c : ℕ) → IsFollowedBy m c behind → rule.FitsLoad (from_below rule (λ u. (ends u).out) (next_at m c)) (length behind) × FlowFits (ends c).out (suc (length behind))
fits_along {A = A} t rule laws m a b ends up are few fx fy [] c f =
    let none : from_below rule (λ u. (ends u).out) (next_at m c) ≡ rule.none = ap (λ (y : Next). from_below rule (λ u. (ends u).out) y) f in
    fits_end t rule laws m a b ends up are few fx fy [] c f (subst (λ (y : A). rule.FitsLoad y 0) (sym none) laws.none_fits)
fits_along {A = A} t rule laws m a b ends up are few fx fy (d ∷ behind) c f =
    let one : from_below rule (λ u. (ends u).out) (next_at m c) ≡ rule.lifted (ends d).out = ap (λ (y : Next). from_below rule (λ u. (ends u).out) y) f.0 in
    let rest = fits_along t rule laws m a b ends up are few fx fy behind d f.1 in
    fits_end t rule laws m a b ends up are few fx fy (d ∷ behind) c f (subst (λ (y : A). rule.FitsLoad y (suc (length behind))) (sym one) (laws.lifted_fits (ends d).out (suc (length behind)) rest.1))

-- these cells have their ends
pub record Ascended (t : Transport) (kind : Kind) (m : DrainMap) (a b : ℕ → Cell) (ended : List Bool) (outs : List Flow) (results : List Cell) (over : Option ℕ) : Type 0 where
  pub ended_many : length ended ≡ length m.codes
  pub outs_many : length outs ≡ length m.codes
  pub results_many : length results ≡ length m.codes
  pub directed : (u : ℕ) → IsEnded ended u → IsDirected m u
  pub came : (u : ℕ) → IsEnded ended u → flow_at outs u ≡ (end_of t m a b u).out
  pub given : (u : ℕ) → IsEnded ended u → cell_at results u ≡ cell_of t kind m a b u
  pub other : (u : ℕ) → (IsEnded ended u → ⊥) → cell_at results u ≡ cell.Mv
  pub least : TellsLeast (transport_outcome t kind m a b) (IsEnded ended) over

-- none has before the walk
pub ascended_none : (t : Transport) (kind : Kind) (m : DrainMap) (a b : ℕ → Cell) (ended : List Bool) (outs : List Flow) (results : List Cell) → length ended ≡ length m.codes → length outs ≡ length m.codes → length results ≡ length m.codes → ((u : ℕ) → get_or ended u false ≡ false) → ((u : ℕ) → cell_at results u ≡ cell.Mv) →
    Ascended t kind m a b ended outs results None
ascended_none t kind m a b ended outs results em om rm none mv = record {
  ended_many = em;
  outs_many = om;
  results_many = rm;
  directed = λ u k. cc (k, none u);
  came = λ u k. cc (k, none u);
  given = λ u k. cc (k, none u);
  other = λ u k. mv u;
  least = λ u k. cc (k, none u);
}

-- what is known at the turn of a cell
pub record TurnUp {A : Type 0} (rule : Accumulator A) (m : DrainMap) (ends : ℕ → FlowEnd) (a b : ℕ → Cell) (outs : List Flow) (c : ℕ) : Type 0 where
  pub within : c < length m.codes
  pub directed : IsDirected m c
  pub fits : (k : ℕ) × (k < most_cells) × rule.FitsLoad (from_below rule (flow_at outs) (next_at m c)) k
  pub end : rule.ended (from_below rule (flow_at outs) (next_at m c)) (a c) (b c) ≡ ends c

pub turn_up : {A : Type 0} (t : Transport) (rule : Accumulator A) → RuleLaws t rule → (kind : Kind) (m : DrainMap) (a b : ℕ → Cell) (ended : List Bool) (outs : List Flow) (results : List Cell) (over : Option ℕ) (c : ℕ) → t.orient ≡ Up → IsDrain m → AreInRange a → AreInRange b →
    Ascended t kind m a b ended outs results over → IsLast m ended c → TurnUp rule m (end_of t m a b) a b outs c
turn_up {A = A} t rule laws kind m a b ended outs results over c up is fx fy asc last =
    let ends : (ℕ → FlowEnd) = end_of t m a b in
    let are = ends_meet t m a b is.sound in
    let path = is.sound c last.directed in
    let short = path_short m c path.behind path.followed in
    let few = few_cells m is in
    let comes : from_below rule (flow_at outs) (next_at m c) ≡ from_below rule (λ u. (ends u).out) (next_at m c) = below_same rule (flow_at outs) (λ u. (ends u).out) (next_at m c) (λ d e. asc.came d (last.fed d e)) in
    let fit = fits_along t rule laws m a b ends up are few fx fy path.behind c path.followed in
    record {
      within = directed_within m c last.directed;
      directed = last.directed;
      fits = (length path.behind, omega (arith, short, few), subst (λ (y : A). rule.FitsLoad y (length path.behind)) (sym comes) fit.0);
      end = ap (λ (y : A). rule.ended y (a c) (b c)) comes ∙ end_below t rule laws m a b ends c up are last.directed;
    }

one_more_ended : (ended : List Bool) (c : ℕ) → c < length ended → OneMore (IsEnded ended) (IsEnded (set ended c true)) c
one_more_ended ended c w = record { here = ended_here ended c w; kept = λ u k. ended_kept ended c u w k; cases = λ u k. ended_cases ended c u k }

-- after the turn of a cell
pub ascended_more : {A : Type 0} (t : Transport) (rule : Accumulator A) (kind : Kind) (m : DrainMap) (a b : ℕ → Cell) (ended : List Bool) (outs : List Flow) (results : List Cell) (over : Option ℕ) (c : ℕ) (e : FlowEnd) (x : Cell) (next_over : Option ℕ) →
    Ascended t kind m a b ended outs results over → TurnUp rule m (end_of t m a b) a b outs c → e ≡ end_of t m a b c →
    x ≡ or_missing (flow_outcome kind e.result) → next_over ≡ noted c (flow_outcome kind e.result) over →
    Ascended t kind m a b (set ended c true) (set outs c e.out) (set results c x) next_over
ascended_more t rule kind m a b ended outs results over c e x next_over asc now is seen first =
    let w : c < length ended = omega (arith, now.within, asc.ended_many) in
    let here = judged_here t kind m a b c e now.directed is in
    let least = subst (λ (y : Outcome). TellsLeast (transport_outcome t kind m a b) (IsEnded (set ended c true)) (noted c y over)) (sym here)
    (tells_more (transport_outcome t kind m a b) (IsEnded ended) (IsEnded (set ended c true)) c over (one_more_ended ended c w) asc.least) in
    record {
      ended_many = length-set ended c true ∙ asc.ended_many;
      outs_many = length-set outs c e.out ∙ asc.outs_many;
      results_many = length-set results c x ∙ asc.results_many;
      directed = λ u k. elim (ended_cases ended c u k) as (λ _. IsDirected m u) [
        | inl same ↦ subst (λ (y : ℕ). IsDirected m y) (sym same) now.directed
        | inr old ↦ asc.directed u old
      ];
      came = λ u k. elim (cases_eq u c) as (λ _. flow_at (set outs c e.out) u ≡ (end_of t m a b u).out) [
        | inl same ↦ subst (λ (y : ℕ). flow_at (set outs c e.out) y ≡ (end_of t m a b y).out) (sym same) (get_or-set_same outs c e.out flow.Mv (omega (arith, now.within, asc.outs_many)) ∙ ap (λ (y : FlowEnd). y.out) is)
        | inr ne ↦ get_or-set_other outs c u e.out flow.Mv ne ∙ asc.came u (elim (ended_cases ended c u k) as (λ _. IsEnded ended u) [ inl b ↦ absurd (ne b) | inr b ↦ b ])
      ];
      given = λ u k. elim (cases_eq u c) as (λ _. cell_at (set results c x) u ≡ cell_of t kind m a b u) [
        | inl same ↦ subst (λ (y : ℕ). cell_at (set results c x) y ≡ cell_of t kind m a b y) (sym same) (get_or-set_same results c x cell.Mv (omega (arith, now.within, asc.results_many)) ∙ (seen ∙ ap or_missing here))
        | inr ne ↦ get_or-set_other results c u x cell.Mv ne ∙ asc.given u (elim (ended_cases ended c u k) as (λ _. IsEnded ended u) [ inl b ↦ absurd (ne b) | inr b ↦ b ])
      ];
      other = λ u out.
          let ne : u ≢ c = λ same. out (subst (λ (y : ℕ). IsEnded (set ended c true) y) (sym same) (ended_here ended c w)) in
          get_or-set_other results c u x cell.Mv ne ∙ asc.other u (λ k. out (ended_kept ended c u w k));
      least = subst (λ (y : Option ℕ). TellsLeast (transport_outcome t kind m a b) (IsEnded (set ended c true)) y) (sym first) least;
    }

-- after all turns
pub ascended_all : (t : Transport) (kind : Kind) (m : DrainMap) (a b : ℕ → Cell) (ended : List Bool) (outs : List Flow) (results : List Cell) (over : Option ℕ) →
    Ascended t kind m a b ended outs results over → ((u : ℕ) → u < length m.codes → IsDirected m u → IsEnded ended u) → record { cells = results; over = over } ≡ part_of (transport_outcome t kind m a b) (length m.codes)
ascended_all t kind m a b ended outs results over asc all =
    (marks_its_overs (transport_outcome t kind m a b) (length m.codes) (record { cells = results; over = over })).0
    (part_of_walk t kind m a b (IsEnded ended) results over asc.results_many
    asc.directed
    (λ u k. all u (directed_within m u k) k)
    asc.given asc.other asc.least)
