-- The maps of operations, by what they look at.
use Rattle.std.proofs.Common.{◌≡◌, ℕ, ◌<◌, Bool, true, false, cond, List, ◌∷◌, length, map, refl, sym, ap, subst, ◌∙◌, inl, inr, arith}
use Rattle.std.specs.Prelude.{Option, nat_le}
use Rattle.std.proofs.lemmas.List.{get_or_past}
use Rattle.std.proofs.lemmas.Bool.{and_parts, cases_lt}
use Rattle.std.proofs.lemmas.Int.{ints}
use Rattle.cell_values.specs.declared.cell.Cell.{Cell}
use Rattle.cell_values.specs.declared.cell.Cell.TheVariants.{Mv, Val}
use Rattle.cell_values.specs.declared.kind.Kind.{Kind}
use Rattle.cell_values.specs.declared.kind.Kind.TheVariants.{Boolean, Nominal, Ordinal, Scalar, Directional, Ldd}
use Rattle.cell_values.specs.Kinds.{IsCell}
use Rattle.drain_meaning.specs.declared.op.FlowOp.{FlowOp}
use Rattle.drain_meaning.specs.declared.op.FlowOp.TheVariants as flow
use Rattle.drain_meaning.specs.declared.op.NearOp.{NearOp}
use Rattle.drain_meaning.specs.Drains.{DrainMap}
use Rattle.drain_meaning.specs.Equations.{transport_of}
use Rattle.drain_meaning.specs.Near.{near_outcome}
use Rattle.drain_meaning.specs.Sound.{IsDrain}
use Rattle.drain_meaning.specs.Transports.{transport_outcome}
use Rattle.drain_meaning.proofs.Callers.{outcomes_alike}
use Rattle.tile_map.specs.declared.arg.Arg.{Arg}
use Rattle.tile_map.specs.declared.arg.Arg.TheVariants.{Unused, One, Cells}
use Rattle.tile_map.specs.Args.{SpansPlaces, arg_cell}
use Rattle.tile_map.specs.Cuts.{cell_at}
use Rattle.tile_map.specs.Parts.{part_of, tabulate}
use Rattle.tile_map.proofs.Callers.{part_of-same}
use Rattle.map_meaning.specs.declared.op.Op.{Op}
use Rattle.map_meaning.specs.declared.op.Op.TheVariants as op
use Rattle.map_meaning.specs.declared.program.Operand.{Operand}
use Rattle.map_meaning.specs.declared.program.Operand.TheVariants.{Drain}
use Rattle.map_meaning.specs.declared.program.Operand.TheVariants as from
use Rattle.map_meaning.specs.declared.program.Operation.{Operation}
use Rattle.map_meaning.specs.declared.program.Program.{Program}
use Rattle.map_meaning.specs.Evaluation.{Done, operand_cell, operation_part}
use Rattle.map_meaning.specs.Maps.{CellAt, WholeMap, nth}
use Rattle.map_meaning.specs.Programs.{all_operands, is_unused, kinds_of, operands_of}
use Rattle.map_meaning.specs.Rules as rule
use Rattle.map_meaning.specs.Rules.{Rule, Setting, by_rule, drain_by, kind_at, reach_of, rule_of, whole_by}
use Rattle.map_meaning.specs.Scenes.{Scene, place_count, setting_at}
use Rattle.map_meaning.specs.Table.{HasKinds, goes_along_drains, is_transport, map_row, row_of}
use Rattle.map_meaning.specs.Spans.{known_codes}
use Rattle.map_meaning.specs.declared.known.Known.{Known}
use Rattle.map_meaning.specs.declared.known.Span.{Span}
use Rattle.map_meaning.specs.declared.known.Span.TheVariants as span
use Rattle.plain_eval.specs.inside.Held.{done_of}
use Rattle.span_operands.specs.inside.Held.{HasItsCells}
use Rattle.span_operands.proofs.Callers.{cell_at-tabulate, tabulate-cell_at}

-- the drain maps that are done are those that are known
pub done_drains : (program : Program) (s : Span) (known : Known) (held : List (Option WholeMap)) → (done_of program s known held).drains ≡ known_codes known
done_drains program (span.Initial first end) known held = refl
done_drains program (span.Steps first last) known held = refl

module _ (program : Program) (scene : Scene) (done : Done) (o : Operation) where
  abbrev cell : Operand → CellAt
  cell = operand_cell scene done

  abbrev setting : Setting
  setting = setting_at scene o.file o.window (kinds_of program o)

  abbrev places : ℕ
  places = place_count scene

  -- the map of an operation that goes along no drain map, by its rule
  pub alone_means : (r : Rule) → rule_of o.op ≡ r → goes_along_drains o.op ≡ false → part_of (by_rule r setting (map cell (operands_of o))) places ≡ operation_part program scene done o
  unfolding operation_part
  alone_means r is alone =
      ap (λ along. part_of (by_rule r setting (map cell (cond along (Drain o.drain ∷ operands_of o) (operands_of o)))) places) (sym alone)
      ∙ ap (λ x. part_of (by_rule x setting (map cell (all_operands o))) places) (sym is)

  -- that of one which goes along a drain map
  pub along_means : (r : Rule) → rule_of o.op ≡ r → goes_along_drains o.op ≡ true → part_of (by_rule r setting (cell (Drain o.drain) ∷ map cell (operands_of o))) places ≡ operation_part program scene done o
  unfolding operation_part
  along_means r is along =
      ap (λ b. part_of (by_rule r setting (map cell (cond b (Drain o.drain ∷ operands_of o) (operands_of o)))) places) (sym along)
      ∙ ap (λ x. part_of (by_rule x setting (map cell (all_operands o))) places) (sym is)

  -- a drain map is that of the operand
  pub drain_is : (m : DrainMap) → m.rows ≡ scene.rows → m.cols ≡ scene.cols → m.codes ≡ nth done.drains o.drain → length m.codes ≡ places → m ≡ drain_by setting (cell (Drain o.drain))
  drain_is m high wide codes size =
      let of = λ (r c : ℕ) (x : WholeMap). let d : DrainMap = record { rows = r; cols = c; codes = x } in d in
      ap (λ r. of r m.cols m.codes) high
      ∙ (ap (λ c. of scene.rows c m.codes) wide
      ∙ ap (λ x. of scene.rows scene.cols x) (codes ∙ sym (tabulate-cell_at (nth done.drains o.drain) places (sym (ap length codes) ∙ size))))

  -- one step up or down stream
  pub near_means : (n : NearOp) (m : DrainMap) → rule_of o.op ≡ rule.Near n → goes_along_drains o.op ≡ true → m ≡ drain_by setting (cell (Drain o.drain)) →
      part_of (near_outcome n m (cell_at (tabulate (cell o.a) places))) places ≡ operation_part program scene done o
  near_means n m is along same =
      ap (λ (d : DrainMap). part_of (near_outcome n d (cell_at (tabulate (cell o.a) places))) places) same ∙ along_means (rule.Near n) is along

  -- a transport
  pub transport_means : (f : FlowOp) (m : DrainMap) (kind : Kind) → rule_of o.op ≡ rule.Along f → goes_along_drains o.op ≡ true → IsDrain m → m ≡ drain_by setting (cell (Drain o.drain)) → length m.codes ≡ places →
      kind ≡ kind_at (kinds_of program o) 1 → part_of (transport_outcome (transport_of f) kind m (cell o.a) (cell o.b)) (length m.codes) ≡ operation_part program scene done o
  transport_means f m kind is along sound same size carried =
      let t = transport_of f in
      let a = cell_at (tabulate (cell o.a) places) in
      let b = cell_at (tabulate (cell o.b) places) in
      part_of-same (transport_outcome t kind m (cell o.a) (cell o.b)) (transport_outcome t kind m a b) (length m.codes)
      (λ c below. outcomes_alike t kind m (cell o.a) (cell o.b) a b sound.map (λ inflows d within.
      let inside : d < places = subst (λ (n : ℕ). d < n) size within in
      ap (λ (x : Cell). t.equation inflows x (cell o.b d)) (sym (cell_at-tabulate (cell o.a) places d inside))
      ∙ ap (λ (x : Cell). t.equation inflows (a d) x) (sym (cell_at-tabulate (cell o.b) places d inside))) c below)
      ∙ (ap (part_of (transport_outcome t kind m a b)) size
      ∙ (ap (λ (d : DrainMap). part_of (transport_outcome t kind d a b) places) same
      ∙ (ap (λ (k : Kind). part_of (transport_outcome t k (drain_by setting (cell (Drain o.drain))) a b) places) carried
      ∙ along_means (rule.Along f) is along)))

-- ---- cells in range

-- the cells of every kind are in the range of scalars
in_scalars : (kind : Kind) (x : Cell) → IsCell kind x → IsCell Scalar x
in_scalars kind Mv is = tt
in_scalars Boolean (Val z) is = record { least = omega (arith, ints, is.least); greatest = omega (arith, ints, is.greatest) }
in_scalars Nominal (Val z) is = record { least = omega (arith, ints, is.least); greatest = omega (arith, ints, is.greatest) }
in_scalars Ordinal (Val z) is = record { least = omega (arith, ints, is.least); greatest = omega (arith, ints, is.greatest) }
in_scalars Scalar (Val z) is = is
in_scalars Directional (Val z) is = record { least = omega (arith, ints, is.least); greatest = omega (arith, ints, is.greatest) }
in_scalars Ldd (Val z) is = record { least = omega (arith, ints, is.least); greatest = omega (arith, ints, is.greatest) }

-- so are those of an operand
pub operand_scalars : (program : Program) (scene : Scene) (done : Done) (operand : Operand) → HasItsCells program scene done operand → (place : ℕ) → place < place_count scene → IsCell Scalar (operand_cell scene done operand place)
operand_scalars program scene done operand has place below = by_use (is_unused operand) refl
  where
    none : (operand : Operand) → is_unused operand ≡ true → IsCell Scalar (operand_cell scene done operand place)
    none from.Unused is = tt
    none operand is = absurd (cc)

    by_use : (b : Bool) → is_unused operand ≡ b → IsCell Scalar (operand_cell scene done operand place)
    by_use true is = none operand is
    by_use false is = let found = has.kind is in in_scalars found.0 (operand_cell scene done operand place) (has.cells place found.0 found.1 below)

-- an operand over so many places that is a scalar at each is one or missing everywhere
pub arg_scalars : (arg : Arg) (places : ℕ) → 0 < places → SpansPlaces arg places → ((place : ℕ) → place < places → IsCell Scalar (arg_cell arg place)) → (place : ℕ) → IsCell Scalar (arg_cell arg place)
arg_scalars Unused places some spans scalars place = tt
arg_scalars (One cell) places some spans scalars place = scalars 0 some
arg_scalars (Cells cells) places some spans scalars place = elim (cases_lt place places) as (λ x. IsCell Scalar (cell_at cells.now place)) [
  | inl below ↦ scalars place below
  | inr past ↦ subst (IsCell Scalar) (sym (get_or_past cells.now place Mv (let size : length cells.now ≡ places = spans in omega arith))) tt
]

-- ---- transports

-- a transport whose operands have kinds of its row has a word
worded : (f : FlowOp) (kinds : List Kind) (kind : Kind) → HasKinds (map_row (row_of (op.Flow f))) kinds kind → is_transport f ≡ true
unfolding row_of
worded flow.Accuflux kinds kind h = refl
worded flow.ThresholdFlux kinds kind h = refl
worded flow.ThresholdState kinds kind h = refl
worded flow.Catchment kinds kind h = refl
worded f kinds kind h = let parts = and_parts (nat_le 1 (length kinds)) (nat_le (length kinds) 0) h.count in absurd (grind (arith, parts.0, parts.1))

-- so has that of an operation of a program
pub has_word : (f : FlowOp) (o : Op) (kinds : List Kind) (kind : Kind) → rule_of o ≡ rule.Along f → HasKinds (map_row (row_of o)) kinds kind → is_transport f ≡ true
unfolding rule_of
has_word f (op.Flow g) kinds kind is h = let same : g ≡ f = cc in subst (λ (x : FlowOp). is_transport x ≡ true) same (worded g kinds kind h)
has_word f o kinds kind is h = absurd (cc)
