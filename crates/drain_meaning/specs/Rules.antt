-- How a transport is computed: inflows are joined one by one, and what they come to gives a cell its end.
use Rattle.std.specs.Prelude.{◌≡◌, ◌≤◌, ◌<◌, ◌+◌, ℕ, List, [], ◌∷◌}
use Rattle.text_base.specs.Limits.{most_cells}
use Rattle.cell_values.specs.declared.cell.Cell.{Cell}
use Rattle.cell_values.specs.declared.kind.Kind.TheVariants.{Scalar}
use Rattle.cell_values.specs.Kinds.{IsCell}
use Rattle.drain_meaning.specs.declared.end.FlowEnd.{FlowEnd}
use Rattle.drain_meaning.specs.declared.flow.Flow.{Flow}
use Rattle.drain_meaning.specs.Flows.{FlowFits}
use Rattle.drain_meaning.specs.Transports.{Transport}

-- What a rule computes with: the value of no inflow, that of one, that of two together, and the end that comes of it. Numbers
-- in a value are bounded by the load that it fits: how many cells they come from.
pub record Accumulator (A : Type 0) : Type 1 where
  pub none : A
  pub lifted : Flow → A
  pub joined : A → A → A
  pub ended : A → Cell → Cell → FlowEnd
  pub FitsLoad : A → ℕ → Type 0

-- the value of some inflows
abbrev pub joined_all : {A : Type 0} → Accumulator A → List Flow → A
joined_all rule [] = rule.none
joined_all rule (f ∷ flows) = rule.joined (rule.lifted f) (joined_all rule flows)

-- The laws of a rule: the order of inflows does not matter, their value gives the end of the transport, and numbers grow with
-- the load alone.
pub record RuleLaws {A : Type 0} (t : Transport) (rule : Accumulator A) : Type 0 where
  pub unit : (x : A) → rule.joined x rule.none ≡ x
  pub swap : (x y : A) → rule.joined x y ≡ rule.joined y x
  pub regroup : (x y z : A) → rule.joined (rule.joined x y) z ≡ rule.joined x (rule.joined y z)
  pub means : (inflows : List Flow) (a b : Cell) → rule.ended (joined_all rule inflows) a b ≡ t.equation inflows a b
  pub none_fits : rule.FitsLoad rule.none 0
  pub lifted_fits : (f : Flow) (n : ℕ) → FlowFits f n → rule.FitsLoad (rule.lifted f) n
  pub joined_fits : (x y : A) (m n : ℕ) → rule.FitsLoad x m → rule.FitsLoad y n → m + n ≤ most_cells →
      rule.FitsLoad (rule.joined x y) (m + n)
  pub out_fits : (x : A) (a b : Cell) (n : ℕ) → rule.FitsLoad x n → n < most_cells → IsCell Scalar a → IsCell Scalar b →
      FlowFits (rule.ended x a b).out (n + 1)
  pub result_fits : (x : A) (a b : Cell) (n : ℕ) → rule.FitsLoad x n → n < most_cells → IsCell Scalar a → IsCell Scalar b →
      FlowFits (rule.ended x a b).result (n + 1)

-- two values fit two loads that together are no more than the cells of a map
abbrev pub FitTogether : {A : Type 0} → Accumulator A → A → A → Type 0
FitTogether rule x y = (m : ℕ) × (n : ℕ) × (m + n ≤ most_cells) × rule.FitsLoad x m × rule.FitsLoad y n

-- a value fits a load that leaves one cell of a map for the cell into which it flows
abbrev pub FitsBefore : {A : Type 0} → Accumulator A → A → Type 0
FitsBefore rule x = (n : ℕ) × (n < most_cells) × rule.FitsLoad x n
