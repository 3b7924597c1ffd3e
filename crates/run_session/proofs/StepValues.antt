-- Evaluation over the maps that are kept is evaluation over all maps.
use Rattle.std.proofs.Common.{◌≡◌, ℕ, zero, suc, ◌+◌, ◌<◌, Bool, true, false, cond, List, [], ◌∷◌, ◌++◌, length, refl, sym, ap, subst, ◌∙◌, Ok, Err, Result, arith}
use Rattle.std.specs.Prelude.{◌==◌, Some, slice_get}
use Rattle.std.proofs.lemmas.Bool.{eq-eqb, ne_eqb}
use Rattle.text_base.specs.Results.{◌>>=◌}
use Rattle.tile_map.specs.Cuts.{cell_at}
use Rattle.map_meaning.specs.declared.known.OverAt.{OverAt}
use Rattle.map_meaning.specs.declared.known.Span.TheVariants as span
use Rattle.map_meaning.specs.declared.known.StepMap.{StepMap}
use Rattle.map_meaning.specs.declared.program.Operand.{Operand}
use Rattle.map_meaning.specs.declared.program.Operand.TheVariants.{Unused, Literal, Time, Input, Initial, Now, Last, Drain}
use Rattle.map_meaning.specs.declared.program.Operand.TheVariants as from
use Rattle.map_meaning.specs.declared.program.Operation.{Operation}
use Rattle.map_meaning.specs.declared.program.Program.{Program}
use Rattle.map_meaning.specs.Evaluation.{Done, operand_cell, operation_value, operation_values, with_map}
use Rattle.map_meaning.specs.Maps.{WholeMap, nth}
use Rattle.map_meaning.specs.Overs.{whole_or_over}
use Rattle.map_meaning.specs.Programs.{IsStepOperation, IsWellFormed, is_carried, is_initial, is_last, is_read_in_steps}
use Rattle.map_meaning.specs.Scenes.{Scene}
use Rattle.map_meaning.specs.Spans.{kept_map, kept_maps}
use Rattle.run_session.proofs.Agreeing.{part_same}
use Rattle.map_meaning.proofs.WholeMaps.{AreFrom, IsReadNow, read_now, step_operation_of}

-- ---- only what is read matters

-- Two agree on what a step reads of what was done before it, and on what is done at it.
pub record AgreeOn (program : Program) (scene : Scene) (x y : Done) : Type 0 where
  pub now : x.dynamic ≡ y.dynamic
  pub drains : x.drains ≡ y.drains
  pub initial : (k : ℕ) → k < length program.initial → is_read_in_steps program (is_initial k) ≡ true → nth x.initial k ≡ nth y.initial k
  pub last : (scene.step == 1) ≡ false → (k : ℕ) → k < length program.dynamic → is_carried program k ≡ true → nth x.last k ≡ nth y.last k

-- both are done and agree, or both have one first Over
abbrev pub SameDone : Program → Scene → Result Done OverAt → Result Done OverAt → Type 0
SameDone program scene (Ok x) (Ok y) = AgreeOn program scene x y
SameDone program scene (Ok x) (Err at) = ⊥
SameDone program scene (Err at) (Ok y) = ⊥
SameDone program scene (Err a) (Err b) = a ≡ b

module _ (program : Program) (formed : IsWellFormed program) (scene : Scene) (first last : ℕ) where
  -- an operand of a step is the same where what is read is
  operand_agrees : (x y : Done) (n : ℕ) (operand : Operand) → AgreeOn program scene x y → IsReadNow program n operand → operand_cell scene x operand ≡ operand_cell scene y operand
  operand_agrees x y n Unused agree read = refl
  operand_agrees x y n (Literal kind cell) agree read = refl
  operand_agrees x y n Time agree read = refl
  operand_agrees x y n (Input k) agree read = refl
  operand_agrees x y n (from.Stack k) agree read = refl
  operand_agrees x y n (Initial k) agree read = ap cell_at (agree.initial k read.below (read.seen (is_initial k) (λ j. refl) (eq-eqb k k refl)))
  operand_agrees x y n (Now k) agree read = ap (λ maps. cell_at (nth maps k)) agree.now
  operand_agrees x y n (Drain k) agree read = ap (λ maps. cell_at (nth maps k)) agree.drains
  operand_agrees x y n (Last d i) agree read = by (scene.step == 1) refl
    where
      by : (b : Bool) → (scene.step == 1) ≡ b → cell_at (cond (scene.step == 1) (nth x.initial i) (nth x.last d)) ≡ cell_at (cond (scene.step == 1) (nth y.initial i) (nth y.last d))
      by true h =
          ap (λ b. cell_at (cond b (nth x.initial i) (nth x.last d))) h ∙
          (ap cell_at (agree.initial i read.below.of_initial (read.seen (is_initial i) (λ j. refl) (eq-eqb i i refl))) ∙
          ap (λ b. cell_at (cond b (nth y.initial i) (nth y.last d))) (sym h))
      by false h =
          ap (λ b. cell_at (cond b (nth x.initial i) (nth x.last d))) h ∙
          (ap cell_at (agree.last h d read.below.of_dynamic (read.seen (is_last d) (λ j. refl) (eq-eqb d d refl))) ∙
          ap (λ b. cell_at (cond b (nth y.initial i) (nth y.last d))) (sym h))

  -- the operations of a step give the same where what is read is
  pub values_agree : (operations : List Operation) (n : ℕ) (x y : Done) → AreFrom program.dynamic n operations → AgreeOn program scene x y →
      SameDone program scene (operation_values program scene (span.Steps first last) x operations) (operation_values program scene (span.Steps first last) y operations)
  values_agree [] n x y from agree = agree
  values_agree (o ∷ more) n x y from agree =
      let here : 0 + n ≡ n = omega arith in
      let is : IsStepOperation program n o = subst (λ j. IsStepOperation program j o) here (step_operation_of program 0 n program.dynamic o formed.step_operations from.0) in
      let same = part_same program scene x y (IsReadNow program n) (λ operand. operand_agrees x y n operand agree) o o.kept (read_now program n o from.0 is) in
      subst (λ part. SameDone program scene (operation_values program scene (span.Steps first last) x (o ∷ more))
      (whole_or_over scene o.statement o.number part >>= λ m. operation_values program scene (span.Steps first last) (with_map (span.Steps first last) y m) more)) same
      (by (operation_value program scene x o) (λ m. values_agree more (n + 1) (with_map (span.Steps first last) x m) (with_map (span.Steps first last) y m) from.1
      (record { now = ap (λ maps. maps ++ m ∷ []) agree.now; drains = agree.drains; initial = agree.initial; last = agree.last })))
    where
      by : (r : Result WholeMap OverAt) →
          ((m : WholeMap) → SameDone program scene (operation_values program scene (span.Steps first last) (with_map (span.Steps first last) x m) more) (operation_values program scene (span.Steps first last) (with_map (span.Steps first last) y m) more)) →
          SameDone program scene (r >>= λ m. operation_values program scene (span.Steps first last) (with_map (span.Steps first last) x m) more) (r >>= λ m. operation_values program scene (span.Steps first last) (with_map (span.Steps first last) y m) more)
      by (Ok m) later = later m
      by (Err at) later = refl

  -- the operations of a step leave what was done before it
  pub values_leave : (operations : List Operation) (x y : Done) → operation_values program scene (span.Steps first last) x operations ≡ Ok y → y.initial ≡ x.initial
  values_leave [] x y is = let same : x ≡ y = cc in ap (λ (d : Done). d.initial) (sym same)
  values_leave (o ∷ more) x y is = by (operation_value program scene x o) is (λ m. values_leave more (with_map (span.Steps first last) x m) y)
    where
      by : (r : Result WholeMap OverAt) → (r >>= λ m. operation_values program scene (span.Steps first last) (with_map (span.Steps first last) x m) more) ≡ Ok y →
          ((m : WholeMap) → operation_values program scene (span.Steps first last) (with_map (span.Steps first last) x m) more ≡ Ok y → y.initial ≡ x.initial) → y.initial ≡ x.initial
      by (Ok m) is later = later m is
      by (Err at) is later = absurd (cc)

  -- and what was done at the step before
  pub values_last : (operations : List Operation) (x y : Done) → operation_values program scene (span.Steps first last) x operations ≡ Ok y → y.last ≡ x.last
  values_last [] x y is = let same : x ≡ y = cc in ap (λ (d : Done). d.last) (sym same)
  values_last (o ∷ more) x y is = by (operation_value program scene x o) is (λ m. values_last more (with_map (span.Steps first last) x m) y)
    where
      by : (r : Result WholeMap OverAt) → (r >>= λ m. operation_values program scene (span.Steps first last) (with_map (span.Steps first last) x m) more) ≡ Ok y →
          ((m : WholeMap) → operation_values program scene (span.Steps first last) (with_map (span.Steps first last) x m) more ≡ Ok y → y.last ≡ x.last) → y.last ≡ x.last
      by (Ok m) is later = later m is
      by (Err at) is later = absurd (cc)

  -- and the drain maps
  pub values_drains : (operations : List Operation) (x y : Done) → operation_values program scene (span.Steps first last) x operations ≡ Ok y → y.drains ≡ x.drains
  values_drains [] x y is = let same : x ≡ y = cc in ap (λ (d : Done). d.drains) (sym same)
  values_drains (o ∷ more) x y is = by (operation_value program scene x o) is (λ m. values_drains more (with_map (span.Steps first last) x m) y)
    where
      by : (r : Result WholeMap OverAt) → (r >>= λ m. operation_values program scene (span.Steps first last) (with_map (span.Steps first last) x m) more) ≡ Ok y →
          ((m : WholeMap) → operation_values program scene (span.Steps first last) (with_map (span.Steps first last) x m) more ≡ Ok y → y.drains ≡ x.drains) → y.drains ≡ x.drains
      by (Ok m) is later = later m is
      by (Err at) is later = absurd (cc)

-- ---- kept maps

first_kept : (m : StepMap) (rest : List StepMap) (n : ℕ) → m.operation ≡ n → kept_map (m ∷ rest) n ≡ m.cells
first_kept m rest n is = ap (λ b. cond b m.cells (kept_map rest n)) (eq-eqb m.operation n is)

later_kept : (m : StepMap) (rest : List StepMap) (n : ℕ) → (m.operation ≡ n → ⊥) → kept_map (m ∷ rest) n ≡ kept_map rest n
later_kept m rest n other = ap (λ b. cond b m.cells (kept_map rest n)) (ne_eqb m.operation n other)

-- the map of an operation that is kept is among the kept ones
kept_from : (step : ℕ) (maps : List WholeMap) (k j : ℕ) (ops : List Operation) (o : Operation) → slice_get ops j ≡ Some o → o.kept ≡ true → kept_map (kept_maps step maps k ops) (k + j) ≡ nth maps (k + j)
kept_from step maps k j [] o is kept = absurd (cc)
kept_from step maps k zero (p ∷ ops) o is kept = let same : p ≡ o = cc in first p.kept (ap (λ (q : Operation). q.kept) same ∙ kept)
  where
    first : (b : Bool) → b ≡ true → kept_map (cond b (record { step = step; operation = k; cells = nth maps k } ∷ kept_maps step maps (k + 1) ops) (kept_maps step maps (k + 1) ops)) (k + 0) ≡ nth maps (k + 0)
    first true on =
        let here : k ≡ k + 0 = omega arith in
        first_kept (record { step = step; operation = k; cells = nth maps k }) (kept_maps step maps (k + 1) ops) (k + 0) here ∙ ap (nth maps) here
    first false on = absurd (cc)
kept_from step maps k (suc j) (p ∷ ops) o is kept =
    let here : k + 1 + j ≡ k + suc j = omega arith in
    let P : ℕ → Type 0 = λ n. kept_map (kept_maps step maps (k + 1) ops) n ≡ nth maps n in
    later p.kept (subst P here (kept_from step maps (k + 1) j ops o is kept))
  where
    later : (b : Bool) → kept_map (kept_maps step maps (k + 1) ops) (k + suc j) ≡ nth maps (k + suc j) → kept_map (cond b (record { step = step; operation = k; cells = nth maps k } ∷ kept_maps step maps (k + 1) ops) (kept_maps step maps (k + 1) ops)) (k + suc j) ≡ nth maps (k + suc j)
    later true next = later_kept (record { step = step; operation = k; cells = nth maps k }) (kept_maps step maps (k + 1) ops) (k + suc j) (λ e. omega (arith, e)) ∙ next
    later false next = next

-- the kept map of an operation that is kept is its map
pub kept_is : (step : ℕ) (maps : List WholeMap) (operations : List Operation) (n : ℕ) (o : Operation) → slice_get operations n ≡ Some o → o.kept ≡ true → kept_map (kept_maps step maps 0 operations) n ≡ nth maps n
kept_is step maps operations n o is kept =
    let here : 0 + n ≡ n = omega arith in
    subst (λ k. kept_map (kept_maps step maps 0 operations) k ≡ nth maps k) here (kept_from step maps 0 n operations o is kept)
