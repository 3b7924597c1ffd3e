-- The least place whose result is out of range, and the part that a walk leaves.
use Rattle.std.proofs.Common.{◌≡◌, ◌⊎◌, inl, inr, ℕ, ◌<◌, ◌≤◌, List, length, refl, sym, ap, subst, ◌∙◌, arith, Bool, true, false}
use Rattle.std.specs.Prelude.{if◌then◌else◌, Option, Some, None, Ok, Err}
use Rattle.text_base.specs.Limits.{most_cells}
use Rattle.cell_values.specs.declared.cell.Cell.{Cell}
use Rattle.cell_values.specs.declared.cell.Cell.TheVariants as cell
use Rattle.tile_map.specs.Cuts.{cell_at}
use Rattle.drain_meaning.specs.declared.end.FlowEnd.{FlowEnd}
use Rattle.drain_meaning.specs.declared.flow.Flow.{Flow}
use Rattle.drain_meaning.specs.declared.next.Next.{Next}
use Rattle.drain_meaning.specs.declared.next.Next.TheVariants as next
use Rattle.drain_meaning.specs.Drains.{DrainMap, next_at}
use Rattle.drain_meaning.specs.Paths.{IsDirected}
use Rattle.drain_meaning.specs.Sound.{IsDrain}
use Rattle.drain_meaning.specs.Transports.{Transport}
use Rattle.drain_meaning.proofs.Callers.{directed_within}
use Rattle.std.specs.Prelude.{nat_lt, IsOk, IsErr}
use Rattle.std.proofs.lemmas.Bool.Decides.{nat_tests}
use Rattle.cell_values.specs.declared.kind.Kind.{Kind}
use Rattle.cell_values.specs.declared.cell.Over.{Over}
use Rattle.drain_meaning.specs.Flows.{flow_outcome}
use Rattle.drain_meaning.specs.Transports.{end_of, transport_outcome, where_directed}
use Rattle.drain_meaning.proofs.Callers.{cases_directed}
use Rattle.tile_map.specs.Parts.{IsPart, Outcome, TellsFirstOver, or_missing}
use Rattle.drain_ops.specs.inside.Judged.{noted}

-- the place is the least of those done so far whose outcome is Over, or none where no outcome is
abbrev pub TellsLeast : (ℕ → Outcome) → (ℕ → Type 0) → Option ℕ → Type 0
TellsLeast outcome Done None = (u : ℕ) → Done u → IsOk (outcome u)
TellsLeast outcome Done (Some p) = Done p × IsErr (outcome p) × ((u : ℕ) → Done u → u < p → IsOk (outcome u))

-- one more place is done
pub record OneMore (Done More : ℕ → Type 0) (c : ℕ) : Type 0 where
  pub here : More c
  pub kept : (u : ℕ) → Done u → More u
  pub cases : (u : ℕ) → More u → (u ≡ c) ⊎ Done u

ok_of : (outcome : ℕ → Outcome) (c : ℕ) (x : Cell) → outcome c ≡ Ok x → IsOk (outcome c)
ok_of outcome c x e = subst (λ (y : Outcome). IsOk y) (sym e) refl

err_of : (outcome : ℕ → Outcome) (c : ℕ) (x : Over) → outcome c ≡ Err x → IsErr (outcome c)
err_of outcome c x e = subst (λ (y : Outcome). IsErr y) (sym e) refl

least_choice : (outcome : ℕ → Outcome) (Done More : ℕ → Type 0) (c p : ℕ) (x : Over) (o : Bool) → nat_lt p c ≡ o → OneMore Done More c → outcome c ≡ Err x → TellsLeast outcome Done (Some p) → TellsLeast outcome More (Some (if o then p else c))
least_choice outcome Done More c p x true less more e old =
    let low : p < c = grind (arith, nat_tests) in
    (more.kept p old.0, old.1, (λ u h w. elim (more.cases u h) as (λ _. IsOk (outcome u)) [ inl same ↦ absurd (omega (arith, same, w, low)) | inr done ↦ old.2 u done w ]))
least_choice outcome Done More c p x false less more e old =
    let high : c ≤ p = grind (arith, nat_tests) in
    (more.here, err_of outcome c x e, (λ u h w. elim (more.cases u h) as (λ _. IsOk (outcome u)) [ inl same ↦ absurd (omega (arith, same, w)) | inr done ↦ old.2 u done (omega (arith, w, high)) ]))

tells_by : (outcome : ℕ → Outcome) (Done More : ℕ → Type 0) (c : ℕ) (over : Option ℕ) (r : Outcome) → outcome c ≡ r → OneMore Done More c → TellsLeast outcome Done over → TellsLeast outcome More (noted c r over)
tells_by outcome Done More c None (Ok x) e more old = λ u h. elim (more.cases u h) as (λ _. IsOk (outcome u)) [ inl same ↦ subst (λ (y : ℕ). IsOk (outcome y)) (sym same) (ok_of outcome c x e) | inr done ↦ old u done ]
tells_by outcome Done More c (Some p) (Ok x) e more old = (more.kept p old.0, old.1, (λ u h w. elim (more.cases u h) as (λ _. IsOk (outcome u)) [ inl same ↦ subst (λ (y : ℕ). IsOk (outcome y)) (sym same) (ok_of outcome c x e) | inr done ↦ old.2 u done w ]))
tells_by outcome Done More c None (Err x) e more old = (more.here, err_of outcome c x e, (λ u h w. elim (more.cases u h) as (λ _. IsOk (outcome u)) [ inl same ↦ absurd (omega (arith, same, w)) | inr done ↦ old u done ]))
tells_by outcome Done More c (Some p) (Err x) e more old = least_choice outcome Done More c p x (nat_lt p c) refl more e old

-- the least place after one more
pub tells_more : (outcome : ℕ → Outcome) (Done More : ℕ → Type 0) (c : ℕ) (over : Option ℕ) → OneMore Done More c → TellsLeast outcome Done over → TellsLeast outcome More (noted c (outcome c) over)
tells_more outcome Done More c over more old = tells_by outcome Done More c over (outcome c) refl more old

pass_directed : (m : DrainMap) (c : ℕ) (n : Next) (f : Flow) → next_at m c ≡ n → IsDirected m c → where_directed n f ≡ f
pass_directed m c next.Pit f e d = refl
pass_directed m c (next.Cell x) f e d = refl
pass_directed m c next.Outside f e d = refl
pass_directed m c next.Missing f e d = absurd (d e)

-- what a transport gives at a cell with a direction is the result of its end
pub outcome_directed : (t : Transport) (kind : Kind) (m : DrainMap) (a b : ℕ → Cell) (c : ℕ) → IsDirected m c → transport_outcome t kind m a b c ≡ flow_outcome kind (end_of t m a b c).result
outcome_directed t kind m a b c d = ap (flow_outcome kind) (pass_directed m c (next_at m c) (end_of t m a b c).result refl d)

-- and where there is none it is missing
pub outcome_missing : (t : Transport) (kind : Kind) (m : DrainMap) (a b : ℕ → Cell) (c : ℕ) → next_at m c ≡ next.Missing → transport_outcome t kind m a b c ≡ Ok cell.Mv
outcome_missing t kind m a b c e = ap (λ (y : Next). flow_outcome kind (where_directed y (end_of t m a b c).result)) e

told_first : (outcome : ℕ → Outcome) (m : DrainMap) (Done : ℕ → Type 0) (over : Option ℕ) → ((u : ℕ) → Done u → u < length m.codes) → ((u : ℕ) → IsDirected m u → Done u) → ((u : ℕ) → next_at m u ≡ next.Missing → IsOk (outcome u)) → TellsLeast outcome Done over → TellsFirstOver outcome (length m.codes) over
told_first outcome m Done None low all rest old = λ u w. elim (cases_directed m u) as (λ _. IsOk (outcome u)) [ inl d ↦ old u (all u d) | inr e ↦ rest u e ]
told_first outcome m Done (Some p) low all rest old = (low p old.0, old.1, (λ u w. elim (cases_directed m u) as (λ _. IsOk (outcome u)) [ inl d ↦ old.2 u (all u d) w | inr e ↦ rest u e ]))

-- The part that a walk leaves where all cells with a direction are done.
pub part_of_walk : (t : Transport) (kind : Kind) (m : DrainMap) (a b : ℕ → Cell) (Done : ℕ → Type 0) (results : List Cell) (over : Option ℕ) →
    length results ≡ length m.codes → ((u : ℕ) → Done u → IsDirected m u) → ((u : ℕ) → IsDirected m u → Done u) →
    ((u : ℕ) → Done u → cell_at results u ≡ or_missing (transport_outcome t kind m a b u)) → ((u : ℕ) → (Done u → ⊥) → cell_at results u ≡ cell.Mv) →
    TellsLeast (transport_outcome t kind m a b) Done over → IsPart (transport_outcome t kind m a b) (length m.codes) (record { cells = results; over = over })
part_of_walk t kind m a b Done results over many only all given other least = record {
  size = many;
  cells = λ u w. elim (cases_directed m u) as (λ _. cell_at results u ≡ or_missing (transport_outcome t kind m a b u)) [
    | inl d ↦ given u (all u d)
    | inr e ↦ other u (λ k. only u k e) ∙ ap or_missing (sym (outcome_missing t kind m a b u e))
  ];
  over = told_first (transport_outcome t kind m a b) m Done over (λ u k. directed_within m u (only u k)) all (λ u e. subst (λ (y : Outcome). IsOk y) (sym (outcome_missing t kind m a b u e)) refl) least;
}

-- the cell that a transport gives at a place
abbrev pub cell_of : Transport → Kind → DrainMap → (ℕ → Cell) → (ℕ → Cell) → ℕ → Cell
cell_of t kind m a b u = or_missing (transport_outcome t kind m a b u)

-- a drain map has no more cells than any map
pub few_cells : (m : DrainMap) → IsDrain m → length m.codes ≤ most_cells
few_cells m is = omega (arith, is.map.few, is.map.size)

-- what is judged of a result at a cell with a direction
pub judged_here : (t : Transport) (kind : Kind) (m : DrainMap) (a b : ℕ → Cell) (c : ℕ) (e : FlowEnd) → IsDirected m c → e ≡ end_of t m a b c → flow_outcome kind e.result ≡ transport_outcome t kind m a b c
judged_here t kind m a b c e d is = ap (λ (y : FlowEnd). flow_outcome kind y.result) is ∙ sym (outcome_directed t kind m a b c d)
