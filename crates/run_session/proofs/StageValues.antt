-- Evaluation of a stage over the maps that are kept is evaluation over all maps.
use Rattle.std.proofs.Common.{◌≡◌, ℕ, ◌+◌, ◌-◌, ◌<◌, ◌≤◌, ◌⊎◌, inl, inr, Bool, true, false, cond, List, [], ◌∷◌, ◌++◌, length, refl, sym, ap, subst, ◌∙◌, Ok, Err, Result, arith, length-append}
use Rattle.std.specs.Prelude.{max, nat_le, Some, slice_get}
use Rattle.std.proofs.lemmas.Bool.{cases_lt, eq-eqb}
use Rattle.std.proofs.lemmas.List.{get_or_append_left, get_or_push}
use Rattle.text_base.specs.Results.{◌>>=◌}
use Rattle.tile_map.specs.Cuts.{cell_at}
use Rattle.map_meaning.specs.declared.known.OverAt.{OverAt}
use Rattle.map_meaning.specs.declared.known.Span.TheVariants as span
use Rattle.map_meaning.specs.declared.program.DrainUse.{DrainUse}
use Rattle.map_meaning.specs.declared.program.Operand.{Operand}
use Rattle.map_meaning.specs.declared.program.Operand.TheVariants.{Unused, Literal, Time, Input, Initial, Now, Last, Drain}
use Rattle.map_meaning.specs.declared.program.Operand.TheVariants as from
use Rattle.map_meaning.specs.declared.program.Operation.{Operation}
use Rattle.map_meaning.specs.declared.program.Program.{Program}
use Rattle.map_meaning.specs.Evaluation.{Done, operand_cell, operation_value, operation_values, with_map}
use Rattle.map_meaning.specs.Maps.{WholeMap, nth}
use Rattle.map_meaning.specs.Overs.{whole_or_over}
use Rattle.map_meaning.specs.Programs.{IsOperation, IsWellFormed, is_read_later, stage_begin}
use Rattle.map_meaning.specs.Scenes.{Scene}
use Rattle.map_meaning.specs.Spans.{IsInStage, kept_maps}
use Rattle.map_meaning.proofs.WholeMaps.{AreFrom, IsReadFirst, operation_of, read_first, there}
use Rattle.run_session.proofs.Agreeing.{part_same}
use Rattle.run_session.proofs.KeptMaps.{kept_later}

-- ---- what is kept

-- an operation of `initial` stands in the program
pub first_operation_of : (program : Program) (k : ℕ) (o : Operation) → IsWellFormed program → slice_get program.initial k ≡ Some o → IsOperation program k o
first_operation_of program k o formed here =
    let at : 0 + k ≡ k = omega arith in subst (λ j. IsOperation program j o) at (operation_of program 0 k program.initial o formed.operations here)

-- a later stage begins no earlier
begins_later : (drains : List DrainUse) (m n : ℕ) → m ≤ n → stage_begin drains m ≤ stage_begin drains n
begins_later [] m n order = omega arith
begins_later (d ∷ ds) m n order = by (nat_le d.after m) (nat_le d.after n) refl refl (begins_later ds m n order)
  where
    by : (a b : Bool) → nat_le d.after m ≡ a → nat_le d.after n ≡ b → stage_begin ds m ≤ stage_begin ds n → cond a (max d.after (stage_begin ds m)) (stage_begin ds m) ≤ cond b (max d.after (stage_begin ds n)) (stage_begin ds n)
    by true true before now rest = grind arith
    by true false before now rest = grind arith
    by false true before now rest = grind arith
    by false false before now rest = rest

-- ---- only what is read matters

-- Two agree on what a stage that begins at first reads of the first n operations, and on the drain maps.
pub record AgreeFirst (program : Program) (first n : ℕ) (x y : Done) : Type 0 where
  pub count_x : length x.initial ≡ n
  pub count_y : length y.initial ≡ n
  pub initial : (k : ℕ) (o : Operation) → k < n → slice_get program.initial k ≡ Some o → (first ≤ k) ⊎ (o.kept ≡ true) → nth x.initial k ≡ nth y.initial k
  pub drains : x.drains ≡ y.drains

-- both are done and agree, or both have one first Over
abbrev pub SameFirst : Program → ℕ → ℕ → Result Done OverAt → Result Done OverAt → Type 0
SameFirst program first n (Ok x) (Ok y) = AgreeFirst program first n x y
SameFirst program first n (Ok x) (Err at) = ⊥
SameFirst program first n (Err at) (Ok y) = ⊥
SameFirst program first n (Err a) (Err b) = a ≡ b

module _ (program : Program) (formed : IsWellFormed program) (scene : Scene) (first end : ℕ) (stage : IsInStage program first end) where
  -- what an operation of the stage reads stands in the stage, or is kept
  reads_kept : (n k : ℕ) (o : Operation) → first ≤ n → slice_get program.initial k ≡ Some o → IsReadFirst program n (Initial k) → (first ≤ k) ⊎ (o.kept ≡ true)
  reads_kept n k o begun here read = by (cases_lt k first)
    where
      by : (k < first) ⊎ (first ≤ k) → (first ≤ k) ⊎ (o.kept ≡ true)
      by (inr behind) = inl behind
      by (inl before) =
          let begins : first ≡ stage_begin program.drains first = stage.begins in
          let order : stage_begin program.drains first ≤ stage_begin program.drains n = begins_later program.drains first n begun in
          let later : is_read_later program k ≡ true = read.later k (eq-eqb k k refl) (omega (arith, begins, order, before)) in
          let op : IsOperation program k o = first_operation_of program k o formed here in
          inr (op.kept ∙ kept_later program k later)

  -- an operand of the stage is the same where what is read is
  operand_agrees : (x y : Done) (n : ℕ) (operand : Operand) → first ≤ n → n < end → AgreeFirst program first n x y → IsReadFirst program n operand → operand_cell scene x operand ≡ operand_cell scene y operand
  operand_agrees x y n Unused begun to agree read = refl
  operand_agrees x y n (Literal kind cell) begun to agree read = refl
  operand_agrees x y n Time begun to agree read = refl
  operand_agrees x y n (Input k) begun to agree read = refl
  operand_agrees x y n (from.Stack k) begun to agree read = refl
  operand_agrees x y n (Initial k) begun to agree read =
      let before : k < n = read.below in
      let here = there program.initial k (let last : end ≤ length program.initial = stage.there in omega (arith, before, to, last)) in
      ap cell_at (agree.initial k here.0 before here.1 (reads_kept n k here.0 begun here.1 read))
  operand_agrees x y n (Now k) begun to agree read = absurd read.below
  operand_agrees x y n (Last d i) begun to agree read = absurd read.below
  operand_agrees x y n (Drain k) begun to agree read = ap (λ maps. cell_at (nth maps k)) agree.drains

  -- one map more
  one_agrees : (x y : Done) (n : ℕ) (m : WholeMap) → AgreeFirst program first n x y → AgreeFirst program first (n + 1) (with_map (span.Initial 0 0) x m) (with_map (span.Initial 0 0) y m)
  one_agrees x y n m agree = record {
    count_x = let c : length x.initial ≡ n = agree.count_x in omega (arith, c, length-append x.initial (m ∷ []));
    count_y = let c : length y.initial ≡ n = agree.count_y in omega (arith, c, length-append y.initial (m ∷ []));
    initial = each;
    drains = agree.drains;
  }
    where
      each : (k : ℕ) (o : Operation) → k < n + 1 → slice_get program.initial k ≡ Some o → (first ≤ k) ⊎ (o.kept ≡ true) → nth (x.initial ++ m ∷ []) k ≡ nth (y.initial ++ m ∷ []) k
      each k o below here held = by (cases_lt k n)
        where
          by : (k < n) ⊎ (n ≤ k) → nth (x.initial ++ m ∷ []) k ≡ nth (y.initial ++ m ∷ []) k
          by (inl less) =
              let a : length x.initial ≡ n = agree.count_x in
              let b : length y.initial ≡ n = agree.count_y in
              get_or_append_left x.initial (m ∷ []) [] k (omega (arith, less, a)) ∙ (agree.initial k o less here held ∙ sym (get_or_append_left y.initial (m ∷ []) [] k (omega (arith, less, b))))
          by (inr not) =
              let a : length x.initial ≡ n = agree.count_x in
              let b : length y.initial ≡ n = agree.count_y in
              get_or_push x.initial m [] k (omega (arith, a, below, not)) ∙ sym (get_or_push y.initial m [] k (omega (arith, b, below, not)))

  -- the operations of the stage give the same where what is read is
  pub values_first : (a b c d : ℕ) (operations : List Operation) (n : ℕ) (x y : Done) → first ≤ n → n + length operations ≤ end → AreFrom program.initial n operations → AgreeFirst program first n x y →
      SameFirst program first (n + length operations) (operation_values program scene (span.Initial a b) x operations) (operation_values program scene (span.Initial c d) y operations)
  values_first a b c d [] n x y begun to from agree = let e : n ≡ n + 0 = omega arith in subst (λ k. AgreeFirst program first k x y) e agree
  values_first a b c d (o ∷ more) n x y begun to from agree =
      let is : IsOperation program n o = first_operation_of program n o formed from.0 in
      let same = part_same program scene x y (IsReadFirst program n) (λ operand. operand_agrees x y n operand begun (omega (arith, to)) agree) o o.kept (read_first program n o from.0 is) in
      let e : n + 1 + length more ≡ n + length (o ∷ more) = omega arith in
      subst (λ part. SameFirst program first (n + length (o ∷ more)) (operation_values program scene (span.Initial a b) x (o ∷ more))
      (whole_or_over scene o.statement o.number part >>= λ m. operation_values program scene (span.Initial c d) (with_map (span.Initial c d) y m) more)) same
      (by (operation_value program scene x o) (λ m. subst (λ k. SameFirst program first k (operation_values program scene (span.Initial a b) (with_map (span.Initial a b) x m) more) (operation_values program scene (span.Initial c d) (with_map (span.Initial c d) y m) more)) e
      (values_first a b c d more (n + 1) (with_map (span.Initial a b) x m) (with_map (span.Initial c d) y m) (omega (arith, begun)) (omega (arith, to)) from.1 (one_agrees x y n m agree))))
    where
      by : (r : Result WholeMap OverAt) →
          ((m : WholeMap) → SameFirst program first (n + length (o ∷ more)) (operation_values program scene (span.Initial a b) (with_map (span.Initial a b) x m) more) (operation_values program scene (span.Initial c d) (with_map (span.Initial c d) y m) more)) →
          SameFirst program first (n + length (o ∷ more)) (r >>= λ m. operation_values program scene (span.Initial a b) (with_map (span.Initial a b) x m) more) (r >>= λ m. operation_values program scene (span.Initial c d) (with_map (span.Initial c d) y m) more)
      by (Ok m) later = later m
      by (Err at) later = refl

-- ---- kept maps

-- the maps that are kept are the same where the maps are
pub kept_same : (step n : ℕ) (a b : List WholeMap) (operations : List Operation) → ((k : ℕ) → n ≤ k → k < n + length operations → nth a k ≡ nth b k) → kept_maps step a n operations ≡ kept_maps step b n operations
kept_same step n a b [] same = refl
kept_same step n a b (o ∷ more) same =
    ap (λ cells. cond o.kept (record { step = step; operation = n; cells = cells } ∷ kept_maps step a (n + 1) more) (kept_maps step a (n + 1) more)) (same n (omega arith) (omega arith)) ∙
    ap (λ rest. cond o.kept (record { step = step; operation = n; cells = nth b n } ∷ rest) rest) (kept_same step (n + 1) a b more (λ k behind below. same k (omega (arith, behind)) (omega (arith, below))))

-- the maps that are kept of two parts
pub kept_parts : (step n m : ℕ) (maps : List WholeMap) (xs ys : List Operation) → length xs ≡ m → kept_maps step maps n (xs ++ ys) ≡ kept_maps step maps n xs ++ kept_maps step maps (n + m) ys
kept_parts step n m maps [] ys count = let e : n ≡ n + m = omega (arith, count) in ap (λ k. kept_maps step maps k ys) e
kept_parts step n m maps (o ∷ xs) ys count =
    let e : n + 1 + (m - 1) ≡ n + m = omega (arith, count) in
    by o.kept (kept_parts step (n + 1) (m - 1) maps xs ys (omega (arith, count)) ∙ ap (λ k. kept_maps step maps (n + 1) xs ++ kept_maps step maps k ys) e)
  where
    by : (b : Bool) → kept_maps step maps (n + 1) (xs ++ ys) ≡ kept_maps step maps (n + 1) xs ++ kept_maps step maps (n + m) ys →
        cond b (record { step = step; operation = n; cells = nth maps n } ∷ kept_maps step maps (n + 1) (xs ++ ys)) (kept_maps step maps (n + 1) (xs ++ ys))
        ≡ cond b (record { step = step; operation = n; cells = nth maps n } ∷ kept_maps step maps (n + 1) xs) (kept_maps step maps (n + 1) xs) ++ kept_maps step maps (n + m) ys
    by true same = ap (λ ks. record { step = step; operation = n; cells = nth maps n } ∷ ks) same
    by false same = same
