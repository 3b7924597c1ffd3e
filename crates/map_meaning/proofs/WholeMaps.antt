-- Maps with all their cells, of their kind: those of operations whose operands are such.
use Rattle.std.proofs.Common.{◌≡◌, ℕ, zero, suc, ◌+◌, ◌-◌, ◌*◌, ◌<◌, ◌≤◌, ◌&&◌, take, drop, length-drop, Bool, true, false, cond, List, [], ◌∷◌, ◌++◌, length, map, refl, sym, ap, subst, ◌∙◌, Ok, Err, Result, arith, ◌⊎◌, inl, inr, length-append}
use Rattle.std.specs.Prelude.{◌==◌, ◌||◌, max, nat_le, nat_lt, slice_range, All, Option, None, Some, IfSome, slice_get, slice_index_or, option_map, ⊤}
use Rattle.std.specs.List.{AllZip, filter, filter_map, cons_option, list_all, list_any}
use Rattle.std.proofs.lemmas.Bool.{cases_lt, eq-eqb, or_left, or_right}
use Rattle.std.proofs.lemmas.Int.{ints}
use Rattle.std.proofs.lemmas.List.{get_or_append_left, length-take}
use Rattle.std.proofs.lemmas.Option.{get_or_from_slice_get, slice_get_within}
use Rattle.std.proofs.Math.Seq.{get_or-append_seam}
use Rattle.std.proofs.lemmas.List.Elements.{All-cons, All-nil, All-from_get_or}
use Rattle.text_base.specs.Limits.{most_cells}
use Rattle.text_base.specs.Results.{◌>>=◌}
use Rattle.cell_values.specs.declared.kind.Kind.{Kind}
use Rattle.cell_values.specs.declared.kind.Kind.TheVariants as kinds
use Rattle.cell_values.specs.declared.cell.Cell.TheVariants.{Mv}
use Rattle.cell_values.specs.Kinds.{IsCell}
use Rattle.tile_map.specs.Cuts.{cell_at}
use Rattle.tile_map.specs.Parts.{IsPart, Outcome, or_missing, part_of}
use Rattle.map_meaning.specs.declared.known.Known.{Known}
use Rattle.map_meaning.specs.declared.known.OverAt.{OverAt}
use Rattle.map_meaning.specs.declared.known.Span.{Span}
use Rattle.map_meaning.specs.declared.known.Span.TheVariants as span
use Rattle.drain_meaning.specs.Drains.{DrainMap}
use Rattle.drain_meaning.specs.Sound.{IsDrain}
use Rattle.map_meaning.specs.declared.program.DrainUse.{DrainUse}
use Rattle.map_meaning.specs.declared.program.InputUse.{InputUse}
use Rattle.map_meaning.specs.declared.program.Operand.{Operand}
use Rattle.map_meaning.specs.declared.program.Operand.TheVariants.{Unused, Literal, Time, Input, Initial, Now, Last, Drain}
use Rattle.map_meaning.specs.declared.program.Operand.TheVariants as from
use Rattle.map_meaning.specs.declared.program.Operation.{Operation}
use Rattle.map_meaning.specs.declared.program.Program.{Program}
use Rattle.map_meaning.specs.declared.program.Role.{Role}
use Rattle.map_meaning.specs.declared.program.Role.TheVariants.{Grid, Stack, Table, Series}
use Rattle.map_meaning.specs.Evaluation.{Done, last_map, operand_cell, operation_part, outcome_at, operation_value, operation_values, with_map}
use Rattle.map_meaning.specs.Laws.{HaveKindsAt, HoldsKind, IsWholeMap, LiesIn, operations_at}
use Rattle.map_meaning.specs.Limits.{most_steps}
use Rattle.map_meaning.specs.Maps.{CellAt, IsMapOf, WholeMap, nth, step_cell}
use Rattle.map_meaning.specs.Rules.{no_series, no_table}
use Rattle.map_meaning.specs.Scenes.{Scene, place_count, setting_at, stack_map}
use Rattle.map_meaning.specs.Overs.{map_or_over}
use Rattle.map_meaning.specs.Programs.{AreDrainUses, AreOneName, AreOperations, AreStepOperations, IsBelow, IsBelowNow, IsDrainUse, IsDueBy, IsFileOf, IsInput, IsOperation, IsOperationOf, IsStepOperation, IsWellFormed, is_kept_map}
use Rattle.map_meaning.specs.Programs.{all_operands, are_used_first, drain_kind, file_role, input_kind, is_carried, is_grid_role, is_initial, is_last, is_mask, is_read_behind, is_read_in_steps, is_read_later, is_series_role, is_table_role, is_unused, is_written, kinds_of, operand_kind, operands_of, operation_kind, stage_begin}
use Rattle.map_meaning.specs.Spans.{AreInputMaps, AreOfInputs, HasDrains, HasSeriesKind, HasTableKind, IsDrainOf, IsInStage, IsTableOf, KnowsEarlier, at_inputs, done_before, kept_map, kept_maps, known_codes, scene_of}
use Rattle.map_meaning.specs.Table.{goes_along_drains}
use Rattle.tile_map.proofs.Callers.{is_part-part_of}
use Rattle.map_meaning.proofs.InKinds.{in_kind}
use Rattle.map_meaning.proofs.Tabulated.{nth_tabulate, tabulate_count}

-- ---- cells of maps

-- a cell of a map of a kind is one of the kind
pub cell_in : (places place : ℕ) (kind : Kind) (m : WholeMap) → IsMapOf places kind m → place < places → IsCell kind (cell_at m place)
cell_in places place kind m whole below = let count : length m ≡ places = whole.count in whole.cells place Mv (omega arith)

-- the cell of an outcome in a kind is one of it
cell_of_outcome : (kind : Kind) (outcome : Outcome) → LiesIn kind outcome → IsCell kind (or_missing outcome)
cell_of_outcome kind (Ok cell) h = h
cell_of_outcome kind (Err over) h = tt

-- the part of outcomes in a kind has a map of the kind
pub part_whole : (f : ℕ → Outcome) (places : ℕ) (kind : Kind) → ((place : ℕ) → place < places → LiesIn kind (f place)) → IsMapOf places kind (part_of f places).cells
part_whole f places kind each =
    let part : IsPart f places (part_of f places) = is_part-part_of f places in
    record {
      count = part.size;
      cells = All-from_get_or (IsCell kind) (part_of f places).cells Mv (λ i below.
          let within : i < places = omega (arith, below, part.size) in
          subst (IsCell kind) (sym (part.cells i within)) (cell_of_outcome kind (f i) (each i within)));
    }

-- the number of a step is a scalar
step_in : (step : ℕ) → step ≤ most_steps → IsCell kinds.Scalar (step_cell step)
step_in step few = record { least = omega (arith, ints, few); greatest = omega (arith, ints, few) }

-- ---- lists

-- an item below the length of a list is there
pub there : {X : Type 0} (xs : List X) (k : ℕ) → k < length xs → (x : X) × (slice_get xs k ≡ Some x)
there [] k below = absurd (omega arith)
there (x ∷ xs) zero below = (x, refl)
there (x ∷ xs) (suc k) below = there xs k (omega arith)

-- where an item passes a test, one of the list does
any_there : {X : Type 0} (test : X → Bool) (xs : List X) (k : ℕ) (x : X) → slice_get xs k ≡ Some x → test x ≡ true → list_any test xs ≡ true
any_there test [] k x is h = absurd (cc)
any_there {X} test (y ∷ xs) zero x is h = let same : y ≡ x = cc in or_left (test y) (list_any test xs) (subst (λ z. test z ≡ true) (sym same) h)
any_there test (y ∷ xs) (suc k) x is h = or_right (test y) (list_any test xs) (any_there test xs k x is h)

-- what holds of all of a list holds of the one at a number
All-slice_get : {X : Type 0} (P : X → Type 0) (xs : List X) (k : ℕ) (x : X) → All P xs → slice_get xs k ≡ Some x → P x
All-slice_get P xs k x all is = subst P (get_or_from_slice_get xs k x x is) (all k x (slice_get_within xs k x is))

-- two tests that both hold
both : (a b : Bool) → a ≡ true → b ≡ true → (a && b) ≡ true
both true b first second = second
both false b first second = absurd (cc)

-- the test of a number that is less
less_test : (k n : ℕ) → k < n → nat_lt k n ≡ true
less_test k n below = grind arith

-- ---- inputs

-- what holds of each item of the inputs of a role holds of the one at an input's number
pub input_item : {X : Type 0} (has : Role → Bool) (none : X) (Suits : InputUse → X → Type 0) (inputs : List InputUse) (items : List X) (n : ℕ) (input : InputUse) →
    AreOfInputs has Suits inputs items → slice_get inputs n ≡ Some input → has input.role ≡ true → Suits input (slice_index_or (at_inputs has none inputs items) n none)
input_item has none Suits [] items n input all is of_role = absurd (cc)
input_item {X} has none Suits (i ∷ inputs) [] zero input all is of_role =
    let same : i ≡ input = cc in absurd (nothing (has i.role) all (subst (λ (j : InputUse). has j.role ≡ true) (sym same) of_role))
  where
    nothing : (b : Bool) → AllZip Suits (cond b (i ∷ filter (λ input. has input.role) inputs) (filter (λ input. has input.role) inputs)) [] → b ≡ true → ⊥
    nothing true h of = h
    nothing false h of = absurd (cc)
input_item {X} has none Suits (i ∷ inputs) [] (suc n) input all is of_role =
    input_item has none Suits inputs [] n input (skipped (has i.role) all) is of_role
  where
    skipped : (b : Bool) → AllZip Suits (cond b (i ∷ filter (λ input. has input.role) inputs) (filter (λ input. has input.role) inputs)) [] → AllZip Suits (filter (λ input. has input.role) inputs) []
    skipped true h = absurd h
    skipped false h = h
input_item {X} has none Suits (i ∷ inputs) (x ∷ items) n input all is of_role =
    by_role (has i.role) refl all n is
    (λ n all is. input_item has none Suits inputs items n input all is of_role)
    (λ n all is. input_item has none Suits inputs (x ∷ items) n input all is of_role)
  where
    rest : List InputUse
    rest = filter (λ input. has input.role) inputs

    by_role : (b : Bool) → has i.role ≡ b → AllZip Suits (cond b (i ∷ rest) rest) (x ∷ items) → (n : ℕ) → slice_get (i ∷ inputs) n ≡ Some input →
        ((n : ℕ) → AllZip Suits rest items → slice_get inputs n ≡ Some input → Suits input (slice_index_or (at_inputs has none inputs items) n none)) →
        ((n : ℕ) → AllZip Suits rest (x ∷ items) → slice_get inputs n ≡ Some input → Suits input (slice_index_or (at_inputs has none inputs (x ∷ items)) n none)) →
        Suits input (slice_index_or (cond b (x ∷ at_inputs has none inputs items) (none ∷ at_inputs has none inputs (x ∷ items))) n none)
    by_role true h all zero is taken skipped = let same : i ≡ input = cc in subst (λ (j : InputUse). Suits j x) same all.0
    by_role true h all (suc n) is taken skipped = taken n all.1 is
    by_role false h all zero is taken skipped =
        let same : i ≡ input = cc in
        let not : has input.role ≡ false = subst (λ (j : InputUse). has j.role ≡ false) same h in
        let e : true ≡ false = sym of_role ∙ not in absurd (cc)
    by_role false h all (suc n) is taken skipped = skipped n all is

-- an input of a role
pub input_there : (program : Program) (asked : Role) (n : ℕ) → IsInput program asked n → (input : InputUse) × (slice_get program.inputs n ≡ Some input) × (input.role ≡ asked)
input_there program asked n is =
    let found = there program.inputs n is.within in
    let P : Option InputUse → Type 0 = λ o. IfSome o (λ input. input.role ≡ asked) in
    (found.0, found.1, subst P found.1 is.role)

-- What a scene has of its inputs: whole maps of the kinds of the grids, within the limits, and tables and series with values of their kinds.
pub record HasInputs (program : Program) (scene : Scene) : Type 0 where
  pub few : place_count scene ≤ most_cells
  pub grids : (n : ℕ) (input : InputUse) → slice_get program.inputs n ≡ Some input → is_grid_role input.role ≡ true → IsMapOf (place_count scene) input.kind (nth scene.inputs n)
  pub tables : (n : ℕ) (input : InputUse) → slice_get program.inputs n ≡ Some input → is_table_role input.role ≡ true → HasTableKind input.kind (slice_index_or scene.tables n no_table)
  pub series : (n : ℕ) (input : InputUse) → slice_get program.inputs n ≡ Some input → is_series_role input.role ≡ true → HasSeriesKind input.kind (slice_index_or scene.series n no_series)

-- the scene of what is known has its inputs
pub scene_inputs : (program : Program) (known : Known) (step : ℕ) → known.rows * known.cols ≤ most_cells → AreInputMaps (known.rows * known.cols) program.inputs known.maps → AreOfInputs is_table_role IsTableOf program.inputs known.tables →
    AreOfInputs is_series_role (λ input series. HasSeriesKind input.kind series) program.inputs known.series → HasInputs program (scene_of program.inputs known step)
scene_inputs program known step few maps tables series = record {
  few = few;
  grids = λ n input is of_role. input_item is_grid_role [] (λ input m. IsMapOf (known.rows * known.cols) input.kind m) program.inputs known.maps n input maps is of_role;
  tables = λ n input is of_role. (input_item is_table_role no_table IsTableOf program.inputs known.tables n input tables is of_role).cells;
  series = λ n input is of_role. input_item is_series_role no_series (λ input series. HasSeriesKind input.kind series) program.inputs known.series n input series is of_role;
}

-- ---- maps that are done

-- the maps of the first n of some operations, each whole and of its operation's kind
pub record AreDone (operations : List Operation) (places n : ℕ) (maps : List WholeMap) : Type 0 where
  pub count : length maps ≡ n
  pub each : (k : ℕ) (o : Operation) → k < n → slice_get operations k ≡ Some o → IsMapOf places o.kind (nth maps k)

-- nothing is done yet
pub none_done : (operations : List Operation) (places : ℕ) → AreDone operations places 0 []
none_done operations places = record { count = refl; each = λ k o below is. absurd (omega arith) }

-- one more map behind the others
one_more_map : (places n : ℕ) (maps : List WholeMap) (m : WholeMap) (kind : Kind) (k : ℕ) → length maps ≡ n → k < n + 1 → (k < n → IsMapOf places kind (nth maps k)) → (k ≡ n → IsMapOf places kind m) → IsMapOf places kind (nth (maps ++ m ∷ []) k)
one_more_map places n maps m kind k count below before last = by_case (cases_lt k n)
  where
    by_case : (k < n) ⊎ (n ≤ k) → IsMapOf places kind (nth (maps ++ m ∷ []) k)
    by_case (inl less) = subst (IsMapOf places kind) (sym (get_or_append_left maps (m ∷ []) [] k (omega arith))) (before less)
    by_case (inr not) =
        let same : k ≡ n = omega arith in
        let cells : nth (maps ++ m ∷ []) k ≡ m = ap (nth (maps ++ m ∷ [])) (same ∙ sym count) ∙ get_or-append_seam maps m [] [] in
        subst (IsMapOf places kind) (sym cells) (last same)

-- the operation that stands at a number
one_there : (operations : List Operation) (k n : ℕ) (o p : Operation) (places : ℕ) (m : WholeMap) → slice_get operations n ≡ Some o → slice_get operations k ≡ Some p → k ≡ n → IsMapOf places o.kind m → IsMapOf places p.kind m
one_there operations k n o p places m here is same whole =
    let op : o ≡ p = (let both : Some o ≡ Some p = sym here ∙ (ap (slice_get operations) (sym same) ∙ is) in cc) in
    let P : Operation → Type 0 = λ x. IsMapOf places x.kind m in
    subst P op whole

-- one more is done
pub one_more_done : (operations : List Operation) (places n : ℕ) (maps : List WholeMap) (o : Operation) (m : WholeMap) → AreDone operations places n maps → slice_get operations n ≡ Some o → IsMapOf places o.kind m → AreDone operations places (n + 1) (maps ++ m ∷ [])
one_more_done operations places n maps o m done here whole = record {
  count = let c : length maps ≡ n = done.count in omega (arith, length-append maps (m ∷ []));
  each = λ k p below is. one_more_map places n maps m p.kind k done.count below (λ less. done.each k p less is) (λ same. one_there operations k n o p places m here is same whole);
}

-- the maps of the operations that pass a test are whole and of their operations' kinds
abbrev pub AreHeld : List Operation → (ℕ → Operation → Bool) → ℕ → List WholeMap → Type 0
AreHeld operations test places maps = (k : ℕ) (o : Operation) → slice_get operations k ≡ Some o → test k o ≡ true → IsMapOf places o.kind (nth maps k)

-- ---- operations whose operands are sound

-- what an operation may read has a kind where it is there, and cells of this kind
pub record AreSound (program : Program) (scene : Scene) (done : Done) (IsRead : Operand → Type 0) : Type 0 where
  pub kind : (operand : Operand) → IsRead operand → is_unused operand ≡ false → (kind : Kind) × (operand_kind program operand ≡ Some kind)
  pub cells : (operand : Operand) (place : ℕ) (kind : Kind) → IsRead operand → operand_kind program operand ≡ Some kind → place < place_count scene → IsCell kind (operand_cell scene done operand place)

module _ (program : Program) (scene : Scene) (done : Done) (inputs : HasInputs program scene) (IsRead : Operand → Type 0) (sound : AreSound program scene done IsRead) where
  -- the operands of a list may be read
  abbrev pub AllRead : List Operand → Type 0
  AllRead [] = ⊤
  AllRead (operand ∷ more) = IsRead operand × AllRead more

  -- operands that are unused have no kinds
  no_kinds : (operands : List Operand) → list_all is_unused operands ≡ true → filter_map (operand_kind program) operands ≡ []
  no_kinds [] unused = refl
  no_kinds (Unused ∷ more) unused = no_kinds more unused
  no_kinds (Literal kind cell ∷ more) unused = absurd (cc)
  no_kinds (Time ∷ more) unused = absurd (cc)
  no_kinds (Input k ∷ more) unused = absurd (cc)
  no_kinds (from.Stack k ∷ more) unused = absurd (cc)
  no_kinds (Initial k ∷ more) unused = absurd (cc)
  no_kinds (Now k ∷ more) unused = absurd (cc)
  no_kinds (Last k i ∷ more) unused = absurd (cc)
  no_kinds (Drain k ∷ more) unused = absurd (cc)

  -- one more operand in front
  operand_before : (operand : Operand) (kind : Kind) (kinds : List Kind) (cells : List CellAt) (place : ℕ) → IsCell kind (operand_cell scene done operand place) → HaveKindsAt kinds cells place → HaveKindsAt (kind ∷ kinds) (operand_cell scene done operand ∷ cells) place
  operand_before operand kind kinds cells place first rest zero below = first
  operand_before operand kind kinds cells place first rest (suc i) below = rest i (omega arith)

  -- one more operand in front, whose kind is looked up
  operand_found : (operand : Operand) (kinds : List Kind) (cells : List CellAt) (place : ℕ) → IsRead operand → is_unused operand ≡ false → place < place_count scene →
      HaveKindsAt kinds cells place → HaveKindsAt (cons_option (operand_kind program operand) kinds) (operand_cell scene done operand ∷ cells) place
  operand_found operand kinds cells place read used within rest =
      let found = sound.kind operand read used in
      subst (λ o. HaveKindsAt (cons_option o kinds) (operand_cell scene done operand ∷ cells) place) (sym found.1)
      (operand_before operand found.0 kinds cells place (sound.cells operand place found.0 read found.1 within) rest)

  -- the cells of operands are of the operands' kinds
  pub operands_in : (operands : List Operand) (place : ℕ) → are_used_first operands ≡ true → AllRead operands → place < place_count scene → HaveKindsAt (filter_map (operand_kind program) operands) (map (operand_cell scene done) operands) place
  operands_in [] place used read within = λ i under. absurd (omega arith)
  operands_in (Unused ∷ more) place used read within = λ i under. let none : length (filter_map (operand_kind program) more) ≡ 0 = ap length (no_kinds more used) in absurd (omega arith)
  operands_in (Literal kind cell ∷ more) place used read within = operand_found (Literal kind cell) _ _ place read.0 refl within (operands_in more place used read.1 within)
  operands_in (Time ∷ more) place used read within = operand_found Time _ _ place read.0 refl within (operands_in more place used read.1 within)
  operands_in (Input k ∷ more) place used read within = operand_found (Input k) _ _ place read.0 refl within (operands_in more place used read.1 within)
  operands_in (from.Stack k ∷ more) place used read within = operand_found (from.Stack k) _ _ place read.0 refl within (operands_in more place used read.1 within)
  operands_in (Initial k ∷ more) place used read within = operand_found (Initial k) _ _ place read.0 refl within (operands_in more place used read.1 within)
  operands_in (Now k ∷ more) place used read within = operand_found (Now k) _ _ place read.0 refl within (operands_in more place used read.1 within)
  operands_in (Last k i ∷ more) place used read within = operand_found (Last k i) _ _ place read.0 refl within (operands_in more place used read.1 within)
  operands_in (Drain k ∷ more) place used read within = operand_found (Drain k) _ _ place read.0 refl within (operands_in more place used read.1 within)

  -- the same of all operands of an operation, with the drain map that it goes along
  all_operands_in : (o : Operation) (along : Bool) (place : ℕ) → (along ≡ true → IsRead (Drain o.drain)) → are_used_first (operands_of o) ≡ true → AllRead (operands_of o) → place < place_count scene →
      HaveKindsAt (filter_map (operand_kind program) (cond along (Drain o.drain ∷ operands_of o) (operands_of o))) (map (operand_cell scene done) (cond along (Drain o.drain ∷ operands_of o) (operands_of o))) place
  all_operands_in o true place drain used read within = operands_in (Drain o.drain ∷ operands_of o) place used (drain refl, read) within
  all_operands_in o false place drain used read within = operands_in (operands_of o) place used read within

  -- what an operation looks its results up in has values of its kind
  file_holds : (asked : Option Role) (kind : Kind) (n window : ℕ) (kinds : List Kind) → IsFileOf program asked kind n → HoldsKind asked (setting_at scene n window kinds) kind
  file_holds None kind n window kinds is = tt
  file_holds (Some Grid) kind n window kinds is = tt
  file_holds (Some Stack) kind n window kinds is = tt
  file_holds (Some (Table keys)) kind n window kinds is =
      let found = input_there program (Table keys) n is.input in
      let same : found.0.kind ≡ kind = (let both : Some found.0.kind ≡ Some kind = sym (ap (option_map (λ (i : InputUse). i.kind)) found.1) ∙ is.kind_is in cc) in
      subst (λ k. HasTableKind k (slice_index_or scene.tables n no_table)) same (inputs.tables n found.0 found.1 (ap is_table_role found.2))
  file_holds (Some Series) kind n window kinds is =
      let found = input_there program Series n is.input in
      let same : found.0.kind ≡ kind = (let both : Some found.0.kind ≡ Some kind = sym (ap (option_map (λ (i : InputUse). i.kind)) found.1) ∙ is.kind_is in cc) in
      subst (λ k. HasSeriesKind k (slice_index_or scene.series n no_series)) same (inputs.series n found.0 found.1 (ap is_series_role found.2))

  -- the map of an operation has a cell for each place, of its kind
  pub map_whole : (o : Operation) (keep : Bool) → IsOperationOf program IsRead keep o → IsMapOf (place_count scene) o.kind (operation_part program scene done o).cells
  unfolding operation_part
  map_whole o keep is = part_whole (outcome_at program scene done o) (place_count scene) o.kind (λ place within.
      in_kind o.op (setting_at scene o.file o.window (kinds_of program o)) o.kind (map (operand_cell scene done) (all_operands o)) place is.kinds
      (file_holds (file_role o.op (length (kinds_of program o))) o.kind o.file o.window (kinds_of program o) is.file)
      (record { few = inputs.few; kinds = λ other below. all_operands_in o (goes_along_drains o.op) other is.drain is.used (is.a, (is.b, (is.c, (is.d, tt)))) below })
      within)

-- ---- what operations read

module _ (program : Program) (scene : Scene) (done : Done) (inputs : HasInputs program scene) where
  -- a map that is whole has cells of the kind that is looked up
  cell_of_map : (m : WholeMap) (found kind : Kind) (looked : Option Kind) (place : ℕ) → looked ≡ Some found → IsMapOf (place_count scene) found m → looked ≡ Some kind → place < place_count scene → IsCell kind (cell_at m place)
  cell_of_map m found kind looked place is whole same within = let equal : found ≡ kind = (let both : Some found ≡ Some kind = sym is ∙ same in cc) in subst (λ k. IsCell k (cell_at m place)) equal (cell_in (place_count scene) place found m whole within)

  -- an input's cell
  input_cell : (k place : ℕ) (kind : Kind) → IsInput program Grid k → input_kind program k ≡ Some kind → place < place_count scene → IsCell kind (cell_at (nth scene.inputs k) place)
  input_cell k place kind is same within =
      let found = input_there program Grid k is in
      cell_of_map (nth scene.inputs k) found.0.kind kind (input_kind program k) place (ap (option_map (λ (i : InputUse). i.kind)) found.1) (inputs.grids k found.0 found.1 (ap is_grid_role found.2)) same within

  -- an operation's cell
  operation_cell : (operations : List Operation) (maps : List WholeMap) (k place : ℕ) (kind : Kind) (o : Operation) → slice_get operations k ≡ Some o → IsMapOf (place_count scene) o.kind (nth maps k) → operation_kind operations k ≡ Some kind → place < place_count scene → IsCell kind (cell_at (nth maps k) place)
  operation_cell operations maps k place kind o is whole same within = cell_of_map (nth maps k) o.kind kind (operation_kind operations k) place (ap (option_map (λ (o : Operation). o.kind)) is) whole same within

  -- the code of a drain map
  drain_cell : (k place : ℕ) (kind : Kind) (d : DrainUse) → slice_get program.drains k ≡ Some d → IsMapOf (place_count scene) kinds.Ldd (nth done.drains k) → drain_kind program k ≡ Some kind → place < place_count scene → IsCell kind (cell_at (nth done.drains k) place)
  drain_cell k place kind d is whole same within = cell_of_map (nth done.drains k) kinds.Ldd kind (drain_kind program k) place (ap (option_map (λ (d : DrainUse). kinds.Ldd)) is) whole same within

-- the operations of a list are such, by their numbers
pub operation_of : (program : Program) (n k : ℕ) (operations : List Operation) (o : Operation) → AreOperations program n operations → slice_get operations k ≡ Some o → IsOperation program (n + k) o
operation_of program n k [] o all is = absurd (cc)
operation_of program n zero (p ∷ more) o all is =
    let same : p ≡ o = cc in let here : n ≡ n + 0 = omega arith in
    let P : Operation → Type 0 = λ x. IsOperation program (n + 0) x in
    subst P same (subst (λ j. IsOperation program j p) here all.0)
operation_of program n (suc k) (p ∷ more) o all is =
    let here : n + 1 + k ≡ n + suc k = omega arith in subst (λ j. IsOperation program j o) here (operation_of program (n + 1) k more o all.1 is)

-- the same of `dynamic`
pub step_operation_of : (program : Program) (n k : ℕ) (operations : List Operation) (o : Operation) → AreStepOperations program n operations → slice_get operations k ≡ Some o → IsStepOperation program (n + k) o
step_operation_of program n k [] o all is = absurd (cc)
step_operation_of program n zero (p ∷ more) o all is =
    let same : p ≡ o = cc in let here : n ≡ n + 0 = omega arith in
    let P : Operation → Type 0 = λ x. IsStepOperation program (n + 0) x in
    subst P same (subst (λ j. IsStepOperation program j p) here all.0)
step_operation_of program n (suc k) (p ∷ more) o all is =
    let here : n + 1 + k ≡ n + suc k = omega arith in subst (λ j. IsStepOperation program j o) here (step_operation_of program (n + 1) k more o all.1 is)

-- the drain maps of a list are such, by their numbers
pub drain_use_of : (program : Program) (n k : ℕ) (drains : List DrainUse) (d : DrainUse) → AreDrainUses program n drains → slice_get drains k ≡ Some d → IsDrainUse program (n + k) d
drain_use_of program n k [] d all is = absurd (cc)
drain_use_of program n zero (e ∷ more) d all is =
    let same : e ≡ d = cc in let here : n ≡ n + 0 = omega arith in
    let P : DrainUse → Type 0 = λ x. IsDrainUse program (n + 0) x in
    subst P same (subst (λ j. IsDrainUse program j e) here all.0)
drain_use_of program n (suc k) (e ∷ more) d all is =
    let here : n + 1 + k ≡ n + suc k = omega arith in subst (λ j. IsDrainUse program j d) here (drain_use_of program (n + 1) k more d all.1 is)

-- ---- what operations of `initial` read

-- a later stage begins no earlier
begins_later : (drains : List DrainUse) (m n : ℕ) → m ≤ n → stage_begin drains m ≤ stage_begin drains n
begins_later [] m n order = omega arith
begins_later (d ∷ ds) m n order = by_tests (nat_le d.after m) (nat_le d.after n) refl refl (begins_later ds m n order)
  where
    by_tests : (a b : Bool) → nat_le d.after m ≡ a → nat_le d.after n ≡ b → stage_begin ds m ≤ stage_begin ds n → cond a (max d.after (stage_begin ds m)) (stage_begin ds m) ≤ cond b (max d.after (stage_begin ds n)) (stage_begin ds n)
    by_tests true true before now rest = grind arith
    by_tests true false before now rest = grind arith
    by_tests false true before now rest = grind arith
    by_tests false false before now rest = rest

-- an operation that reads the map of an earlier stage, among those behind it
read_behind : (drains : List DrainUse) (n k j : ℕ) (operations : List Operation) (o : Operation) → slice_get operations j ≡ Some o → list_any (is_initial n) (operands_of o) ≡ true → n < stage_begin drains (k + j) → is_read_behind drains n k operations ≡ true
read_behind drains n k j [] o is reads less = absurd (cc)
read_behind drains n k zero (p ∷ more) o is reads less =
    let same : p ≡ o = cc in
    let here : k + 0 ≡ k = omega arith in
    let before : n < stage_begin drains k = subst (λ i. n < stage_begin drains i) here less in
    let P : Operation → Type 0 = λ x. list_any (is_initial n) (operands_of x) ≡ true in
    or_left (list_any (is_initial n) (operands_of p) && nat_lt n (stage_begin drains k)) (is_read_behind drains n (k + 1) more) (both (list_any (is_initial n) (operands_of p)) (nat_lt n (stage_begin drains k)) (subst P (sym same) reads) (less_test n (stage_begin drains k) before))
read_behind drains n k (suc j) (p ∷ more) o is reads less =
    let here : k + suc j ≡ k + 1 + j = omega arith in
    or_right (list_any (is_initial n) (operands_of p) && nat_lt n (stage_begin drains k)) (is_read_behind drains n (k + 1) more) (read_behind drains n (k + 1) j more o is reads (subst (λ i. n < stage_begin drains i) here less))

-- what an operation of `initial` reads, and that a later stage reads what stands in an earlier one
pub record IsReadFirst (program : Program) (n : ℕ) (operand : Operand) : Type 0 where
  pub below : IsBelow program n operand
  pub later : (k : ℕ) → is_initial k operand ≡ true → k < stage_begin program.drains n → is_read_later program k ≡ true

-- an operation of `initial` that stands in its list reads what later stages read
pub read_first : (program : Program) (n : ℕ) (o : Operation) → slice_get program.initial n ≡ Some o → IsOperation program n o → IsOperationOf program (IsReadFirst program n) o.kept o
read_first program n o here is =
    let later : (k : ℕ) → list_any (is_initial k) (operands_of o) ≡ true → k < stage_begin program.drains n → is_read_later program k ≡ true =
    λ k h less. (let same : n ≡ 0 + n = omega arith in read_behind program.drains k 0 n program.initial o here h (subst (λ i. k < stage_begin program.drains i) same less)) in
    record {
      a = record { below = is.a; later = λ k h. later k (or_left (is_initial k o.a) _ h) };
      b = record { below = is.b; later = λ k h. later k (or_right (is_initial k o.a) _ (or_left (is_initial k o.b) _ h)) };
      c = record { below = is.c; later = λ k h. later k (or_right (is_initial k o.a) _ (or_right (is_initial k o.b) _ (or_left (is_initial k o.c) _ h))) };
      d = record { below = is.d; later = λ k h. later k (or_right (is_initial k o.a) _ (or_right (is_initial k o.b) _ (or_right (is_initial k o.c) _ (or_left (is_initial k o.d) _ h)))) };
      used = is.used;
      kinds = is.kinds;
      drain = λ along. record { below = is.drain along; later = λ k h. absurd (cc) };
      window = is.window;
      file = is.file;
      kept = refl;
    }

-- the codes of the drain maps that are computed once so many operations of `initial` are done: whole maps of directions
abbrev pub HasCodes : Program → ℕ → ℕ → List WholeMap → Type 0
HasCodes program places count codes = (k : ℕ) (d : DrainUse) → slice_get program.drains k ≡ Some d → d.after ≤ count → IsMapOf places kinds.Ldd (nth codes k)

-- What is done in a stage of `initial` that begins at first: the maps of the first n operations, each whole where the stage has it or
-- it is kept, and the drain maps before the stage.
pub record IsDoneFirst (program : Program) (places first n : ℕ) (done : Done) : Type 0 where
  pub count : length done.initial ≡ n
  pub each : (k : ℕ) (o : Operation) → k < n → slice_get program.initial k ≡ Some o → (first ≤ k) ⊎ (o.kept ≡ true) → IsMapOf places o.kind (nth done.initial k)
  pub drains : HasCodes program places first done.drains

-- one more operation of a stage is done
pub one_more_first : (program : Program) (places first n : ℕ) (done : Done) (o : Operation) (m : WholeMap) → IsDoneFirst program places first n done → slice_get program.initial n ≡ Some o → IsMapOf places o.kind m →
    IsDoneFirst program places first (n + 1) (record { initial = done.initial ++ m ∷ []; dynamic = done.dynamic; last = done.last; drains = done.drains })
one_more_first program places first n done o m all here whole = record {
  count = let c : length done.initial ≡ n = all.count in omega (arith, length-append done.initial (m ∷ []));
  each = λ k p below is held. one_more_map places n done.initial m p.kind k all.count below (λ less. all.each k p less is held) (λ same. one_there program.initial k n o p places m here is same whole);
  drains = all.drains;
}

-- an operation is kept that a step reads
kept_by_steps : (a b c d : Bool) → a ≡ true → (a || b || c || d) ≡ true
kept_by_steps true b c d h = refl
kept_by_steps false b c d h = absurd (cc)

-- an operation is kept that a later stage reads
kept_by_stages : (a b c d : Bool) → d ≡ true → (a || b || c || d) ≡ true
kept_by_stages true b c d h = refl
kept_by_stages false true c d h = refl
kept_by_stages false false true d h = refl
kept_by_stages false false false d h = h

-- an operation of `initial` is kept as its number says
kept_as : (program : Program) (k : ℕ) (o : Operation) → AreOperations program 0 program.initial → slice_get program.initial k ≡ Some o → o.kept ≡ is_kept_map program k
kept_as program k o operations is =
    let formed : IsOperation program (0 + k) o = operation_of program 0 k program.initial o operations is in
    let same : 0 + k ≡ k = omega arith in
    let here : IsOperation program k o = subst (λ j. IsOperation program j o) same formed in
    here.kept

module _ (program : Program) (scene : Scene) (done : Done) (first end n : ℕ) (inputs : HasInputs program scene) (operations : AreOperations program 0 program.initial)
    (stage : IsInStage program first end) (begun : first ≤ n) (to : n < end) (all : IsDoneFirst program (place_count scene) first n done) where
  -- an operation before the stage is kept where one of the stage reads it
  earlier_kept : (k : ℕ) (o : Operation) → slice_get program.initial k ≡ Some o → IsReadFirst program n (Initial k) → k < first → o.kept ≡ true
  earlier_kept k o is read before =
      let begins : first ≡ stage_begin program.drains first = stage.begins in
      let later : is_read_later program k ≡ true = read.later k (eq-eqb k k refl) (omega (arith, begins, begins_later program.drains first n begun)) in
      kept_as program k o operations is ∙ kept_by_stages (is_read_in_steps program (is_initial k)) (is_written program k) (is_mask program k) (is_read_later program k) later

  -- it stands in the stage, or it is kept
  held : (k : ℕ) (o : Operation) → slice_get program.initial k ≡ Some o → IsReadFirst program n (Initial k) → (first ≤ k) ⊎ (o.kept ≡ true)
  held k o is read = by_case (cases_lt k first)
    where
      by_case : (k < first) ⊎ (first ≤ k) → (first ≤ k) ⊎ (o.kept ≡ true)
      by_case (inl before) = inr (earlier_kept k o is read before)
      by_case (inr behind) = inl behind

  -- a drain map that is due by an operation of the stage is computed before the stage
  due_before : (k : ℕ) (d : DrainUse) → slice_get program.drains k ≡ Some d → IsDueBy program n k → d.after ≤ first
  due_before k d is due = by_case (All-slice_get (λ d. (d.after ≤ first) ⊎ (end ≤ d.after)) program.drains k d stage.whole is)
    where
      after : d.after ≤ n
      after = let P : Option DrainUse → Type 0 = λ found. IfSome found (λ d. d.after ≤ n) in subst P is due.after

      by_case : (d.after ≤ first) ⊎ (end ≤ d.after) → d.after ≤ first
      by_case (inl before) = before
      by_case (inr behind) = absurd (let a = after in omega (arith, a, behind, to))

  -- an operation of `initial` reads what is sound
  pub sound_first : AreSound program scene done (IsReadFirst program n)
  sound_first = record { kind = kind_of; cells = cells_of }
    where
      kind_of : (operand : Operand) → IsReadFirst program n operand → is_unused operand ≡ false → (kind : Kind) × (operand_kind program operand ≡ Some kind)
      kind_of Unused read used = absurd (cc)
      kind_of (Literal kind cell) read used = (kind, refl)
      kind_of Time read used = absurd read.below
      kind_of (Input k) read used = let here = there program.inputs k read.below.within in (here.0.kind, ap (option_map (λ (i : InputUse). i.kind)) here.1)
      kind_of (from.Stack k) read used = absurd read.below
      kind_of (Initial k) read used = let before : k < n = read.below in let here = there program.initial k (omega (arith, before, to, stage.there)) in (here.0.kind, ap (option_map (λ (o : Operation). o.kind)) here.1)
      kind_of (Now k) read used = absurd read.below
      kind_of (Last k i) read used = absurd read.below
      kind_of (Drain k) read used = let here = there program.drains k read.below.within in (kinds.Ldd, ap (option_map (λ (d : DrainUse). kinds.Ldd)) here.1)

      cells_of : (operand : Operand) (place : ℕ) (kind : Kind) → IsReadFirst program n operand → operand_kind program operand ≡ Some kind → place < place_count scene → IsCell kind (operand_cell scene done operand place)
      cells_of Unused place kind read is within = absurd (cc)
      cells_of (Literal k cell) place kind read is within = let same : k ≡ kind = cc in subst (λ j. IsCell j cell) same read.below
      cells_of Time place kind read is within = absurd read.below
      cells_of (Input k) place kind read is within = input_cell program scene done inputs k place kind read.below is within
      cells_of (from.Stack k) place kind read is within = absurd read.below
      cells_of (Initial k) place kind read is within =
          let before : k < n = read.below in
          let here = there program.initial k (omega (arith, before, to, stage.there)) in
          operation_cell program scene done inputs program.initial done.initial k place kind here.0 here.1 (all.each k here.0 before here.1 (held k here.0 here.1 read)) is within
      cells_of (Now k) place kind read is within = absurd read.below
      cells_of (Last k i) place kind read is within = absurd read.below
      cells_of (Drain k) place kind read is within =
          let here = there program.drains k read.below.within in
          drain_cell program scene done inputs k place kind here.0 here.1 (all.drains k here.0 here.1 (due_before k here.0 here.1 read.below)) is within

-- ---- what operations of `dynamic` read

-- what an operation of `dynamic` reads, and that steps read it, by each test that no drain map passes
pub record IsReadNow (program : Program) (n : ℕ) (operand : Operand) : Type 0 where
  pub below : IsBelowNow program n operand
  pub seen : (test : Operand → Bool) → ((k : ℕ) → test (Drain k) ≡ false) → test operand ≡ true → is_read_in_steps program test ≡ true

-- an operation of `dynamic` that stands in its list reads what steps read
pub read_now : (program : Program) (n : ℕ) (o : Operation) → slice_get program.dynamic n ≡ Some o → IsStepOperation program n o → IsOperationOf program (IsReadNow program n) o.kept o
read_now program n o here is =
    let seen : (test : Operand → Bool) → list_any test (operands_of o) ≡ true → is_read_in_steps program test ≡ true = λ test h. any_there (λ (o : Operation). list_any test (operands_of o)) program.dynamic n o here h in
    record {
      a = record { below = is.a; seen = λ test none h. seen test (or_left (test o.a) _ h) };
      b = record { below = is.b; seen = λ test none h. seen test (or_right (test o.a) _ (or_left (test o.b) _ h)) };
      c = record { below = is.c; seen = λ test none h. seen test (or_right (test o.a) _ (or_right (test o.b) _ (or_left (test o.c) _ h))) };
      d = record { below = is.d; seen = λ test none h. seen test (or_right (test o.a) _ (or_right (test o.b) _ (or_right (test o.c) _ (or_left (test o.d) _ h)))) };
      used = is.used;
      kinds = is.kinds;
      drain = λ along. record { below = is.drain along; seen = λ test none h. absurd (let n = none o.drain in cc) };
      window = is.window;
      file = is.file;
      kept = refl;
    }

-- What is done in a step: the maps of its first n operations, the kept ones of `initial`, all drain maps, and behind step 1 the maps
-- of the step before that are carried on.
pub record IsDoneNow (program : Program) (places step n : ℕ) (done : Done) : Type 0 where
  pub now : AreDone program.dynamic places n done.dynamic
  pub initial : AreHeld program.initial (λ k o. o.kept) places done.initial
  pub carried : 1 < step → AreHeld program.dynamic (λ k o. is_carried program k) places done.last
  pub drains : HasCodes program places (length program.initial) done.drains

-- the grids of stacks at a step
abbrev pub HasStacksAt : Program → Scene → Type 0
HasStacksAt program scene = (n : ℕ) (input : InputUse) → slice_get program.inputs n ≡ Some input → input.role ≡ Stack → IsMapOf (place_count scene) input.kind (stack_map scene n)

module _ (program : Program) (scene : Scene) (done : Done) (n : ℕ) (inputs : HasInputs program scene) (stacks : HasStacksAt program scene) (operations : AreOperations program 0 program.initial) (drains : AreDrainUses program 0 program.drains)
    (some : 1 ≤ scene.step) (few : scene.step ≤ most_steps) (enough : n ≤ length program.dynamic) (all : IsDoneNow program (place_count scene) scene.step n done) where
  -- an operation of `initial` that steps read is kept
  kept_read : (k : ℕ) (o : Operation) → slice_get program.initial k ≡ Some o → is_read_in_steps program (is_initial k) ≡ true → o.kept ≡ true
  kept_read k o is read = kept_as program k o operations is ∙ kept_by_steps (is_read_in_steps program (is_initial k)) (is_written program k) (is_mask program k) (is_read_later program k) read

  -- the map of a name at the step before
  last_cell : (d i place : ℕ) (kind : Kind) → AreOneName program d i → is_read_in_steps program (is_initial i) ≡ true → is_carried program d ≡ true → operation_kind program.dynamic d ≡ Some kind → place < place_count scene → IsCell kind (cell_at (last_map scene done d i) place)
  last_cell d i place kind names read carried is within = by_step (scene.step == 1) refl
    where
      first : (o : Operation) → slice_get program.initial i ≡ Some o → IsCell kind (cell_at (nth done.initial i) place)
      first o here = operation_cell program scene done inputs program.initial done.initial i place kind o here (all.initial i o here (kept_read i o here read)) (sym names.kind ∙ is) within

      later : 1 < scene.step → (o : Operation) → slice_get program.dynamic d ≡ Some o → IsCell kind (cell_at (nth done.last d) place)
      later behind o here = operation_cell program scene done inputs program.dynamic done.last d place kind o here (all.carried behind d o here carried) is within

      by_step : (b : Bool) → (scene.step == 1) ≡ b → IsCell kind (cell_at (cond b (nth done.initial i) (nth done.last d)) place)
      by_step true h = let here = there program.initial i names.of_initial in first here.0 here.1
      by_step false h = let here = there program.dynamic d names.of_dynamic in later (let other : (scene.step == 1) ≡ false = h in grind (arith, other, some)) here.0 here.1

  -- an operation of `dynamic` reads what is sound
  pub sound_now : AreSound program scene done (IsReadNow program n)
  sound_now = record { kind = kind_of; cells = cells_of }
    where
      kind_of : (operand : Operand) → IsReadNow program n operand → is_unused operand ≡ false → (kind : Kind) × (operand_kind program operand ≡ Some kind)
      kind_of Unused read used = absurd (cc)
      kind_of (Literal kind cell) read used = (kind, refl)
      kind_of Time read used = (kinds.Scalar, refl)
      kind_of (Input k) read used = let here = there program.inputs k read.below.within in (here.0.kind, ap (option_map (λ (i : InputUse). i.kind)) here.1)
      kind_of (from.Stack k) read used = let here = there program.inputs k read.below.within in (here.0.kind, ap (option_map (λ (i : InputUse). i.kind)) here.1)
      kind_of (Initial k) read used = let here = there program.initial k read.below in (here.0.kind, ap (option_map (λ (o : Operation). o.kind)) here.1)
      kind_of (Now k) read used = let before : k < n = read.below in let here = there program.dynamic k (omega (arith, before, enough)) in (here.0.kind, ap (option_map (λ (o : Operation). o.kind)) here.1)
      kind_of (Last k i) read used = let here = there program.dynamic k read.below.of_dynamic in (here.0.kind, ap (option_map (λ (o : Operation). o.kind)) here.1)
      kind_of (Drain k) read used = let here = there program.drains k read.below in (kinds.Ldd, ap (option_map (λ (d : DrainUse). kinds.Ldd)) here.1)

      cells_of : (operand : Operand) (place : ℕ) (kind : Kind) → IsReadNow program n operand → operand_kind program operand ≡ Some kind → place < place_count scene → IsCell kind (operand_cell scene done operand place)
      cells_of Unused place kind read is within = absurd (cc)
      cells_of (Literal k cell) place kind read is within = let same : k ≡ kind = cc in subst (λ j. IsCell j cell) same read.below
      cells_of Time place kind read is within = let same : kinds.Scalar ≡ kind = cc in subst (λ j. IsCell j (step_cell scene.step)) same (step_in scene.step few)
      cells_of (Input k) place kind read is within = input_cell program scene done inputs k place kind read.below is within
      cells_of (from.Stack k) place kind read is within =
          let found = input_there program Stack k read.below in
          cell_of_map program scene done inputs (stack_map scene k) found.0.kind kind (input_kind program k) place (ap (option_map (λ (i : InputUse). i.kind)) found.1) (stacks k found.0 found.1 found.2) is within
      cells_of (Initial k) place kind read is within =
          let here = there program.initial k read.below in
          operation_cell program scene done inputs program.initial done.initial k place kind here.0 here.1 (all.initial k here.0 here.1 (kept_read k here.0 here.1 (read.seen (is_initial k) (λ j. refl) (eq-eqb k k refl)))) is within
      cells_of (Now k) place kind read is within =
          let before : k < n = read.below in
          let here = there program.dynamic k (omega (arith, before, enough)) in
          operation_cell program scene done inputs program.dynamic done.dynamic k place kind here.0 here.1 (all.now.each k here.0 before here.1) is within
      cells_of (Last k i) place kind read is within = last_cell k i place kind read.below (read.seen (is_initial i) (λ j. refl) (eq-eqb i i refl)) (read.seen (is_last k) (λ j. refl) (eq-eqb k k refl)) is within
      cells_of (Drain k) place kind read is within =
          let here = there program.drains k read.below in
          let same : 0 + k ≡ k = omega arith in
          let formed : IsDrainUse program k here.0 = subst (λ j. IsDrainUse program j here.0) same (drain_use_of program 0 k program.drains here.0 drains here.1) in
          drain_cell program scene done inputs k place kind here.0 here.1 (all.drains k here.0 here.1 formed.within) is within

-- ---- the maps of operations

-- the operations are those of a list from number n on
abbrev pub AreFrom : List Operation → ℕ → List Operation → Type 0
AreFrom operations n [] = ⊤
AreFrom operations n (o ∷ more) = (slice_get operations n ≡ Some o) × AreFrom operations (n + 1) more

-- the operations of a list stand at their numbers
pub from_list : (operations : List Operation) (n : ℕ) (rest : List Operation) → ((k : ℕ) → slice_get operations (n + k) ≡ slice_get rest k) → AreFrom operations n rest
from_list operations n [] at = tt
from_list operations n (o ∷ more) at = (first, from_list operations (n + 1) more others)
  where
    first : slice_get operations n ≡ Some o
    first = let same : n + 0 ≡ n = omega arith in subst (λ k. slice_get operations k ≡ Some o) same (at 0)

    others : (k : ℕ) → slice_get operations (n + 1 + k) ≡ slice_get more k
    others k = let same : n + suc k ≡ n + 1 + k = omega arith in subst (λ j. slice_get operations j ≡ slice_get more k) same (at (suc k))

-- a map that an operation gave is that of its part
gave : (scene : Scene) (statement number : ℕ) (over : Option ℕ) (cells m : WholeMap) → map_or_over scene statement number over cells ≡ Ok m → cells ≡ m
gave scene statement number None cells m is = cc
gave scene statement number (Some place) cells m is = absurd (cc)

-- What holds behind n operations holds behind all, where the map of each is whole and one more keeps it.
module _ (program : Program) (scene : Scene) (s : Span) (all : List Operation) (Holds : ℕ → Done → Type 0)
    (whole : (n : ℕ) (done : Done) (o : Operation) → Holds n done → slice_get all n ≡ Some o → IsMapOf (place_count scene) o.kind (operation_part program scene done o).cells)
    (next : (n : ℕ) (done : Done) (o : Operation) (m : WholeMap) → Holds n done → slice_get all n ≡ Some o → IsMapOf (place_count scene) o.kind m → Holds (n + 1) (with_map s done m)) where
  pub values_hold : (n : ℕ) (done after : Done) (operations : List Operation) → Holds n done → AreFrom all n operations → operation_values program scene s done operations ≡ Ok after → Holds (n + length operations) after
  values_hold n done after [] holds from is =
      let same : done ≡ after = cc in let here : n ≡ n + 0 = omega arith in subst (λ k. Holds k after) here (subst (Holds n) same holds)
  values_hold n done after (o ∷ more) holds from is =
      behind_first (operation_value program scene done o) refl is (λ m holds gives. values_hold (n + 1) (with_map s done m) after more holds from.1 gives)
    where
      behind_first : (r : Result WholeMap OverAt) → operation_value program scene done o ≡ r → (r >>= λ m. operation_values program scene s (with_map s done m) more) ≡ Ok after →
          ((m : WholeMap) → Holds (n + 1) (with_map s done m) → operation_values program scene s (with_map s done m) more ≡ Ok after → Holds (n + 1 + length more) after) → Holds (n + length (o ∷ more)) after
      behind_first (Err at) value is later = absurd (cc)
      behind_first (Ok m) value is later =
          let part = operation_part program scene done o in
          let cells : part.cells ≡ m = gave scene o.statement o.number part.over part.cells m value in
          let one : IsMapOf (place_count scene) o.kind m = subst (IsMapOf (place_count scene) o.kind) cells (whole n done o holds from.0) in
          let same : n + 1 + length more ≡ n + length (o ∷ more) = omega arith in
          subst (λ k. Holds k after) same (later m (next n done o m holds from.0 one) is)

-- ---- what is known before a span

-- the codes of a known drain map
code_of : (drains : List DrainMap) (k : ℕ) (m : DrainMap) → slice_get drains k ≡ Some m → nth (map (λ m. m.codes) drains) k ≡ m.codes
code_of [] k m is = absurd (cc)
code_of (e ∷ more) zero m is = let same : e ≡ m = cc in ap (λ (m : DrainMap). m.codes) same
code_of (e ∷ more) (suc k) m is = code_of more k m is

-- the codes of a sound drain map are a whole map
codes_whole : (rows cols : ℕ) (m : DrainMap) → IsDrain m → m.rows ≡ rows → m.cols ≡ cols → IsMapOf (rows * cols) kinds.Ldd m.codes
codes_whole rows cols m is high wide = record {
  count = is.map.size ∙ (ap (λ r. r * m.cols) high ∙ ap (λ c. rows * c) wide);
  cells = All-from_get_or (IsCell kinds.Ldd) m.codes Mv (λ i below. is.map.each i);
}

-- the codes of the drain maps that are known
pub codes_known : (program : Program) (count : ℕ) (known : Known) → HasDrains program count known → HasCodes program (known.rows * known.cols) count (known_codes known)
codes_known program count known has k d is due = found (slice_get known.drains k) refl (has k d is due)
  where
    found : (o : Option DrainMap) → slice_get known.drains k ≡ o → IsDrainOf known.rows known.cols o → IsMapOf (known.rows * known.cols) kinds.Ldd (nth (known_codes known) k)
    found None at of = absurd of
    found (Some m) at of = subst (IsMapOf (known.rows * known.cols) kinds.Ldd) (sym (code_of known.drains k m at)) (codes_whole known.rows known.cols m of.0 of.1 of.2)

-- what is done before a stage of `initial`
pub begun_first : (program : Program) (first end : ℕ) (known : Known) → KnowsEarlier program first known → IsDoneFirst program (known.rows * known.cols) first first (done_before program (span.Initial first end) known)
begun_first program first end known knows = record {
  count = tabulate_count (kept_map known.initial) first;
  each = λ k o below is held. subst (IsMapOf (known.rows * known.cols) o.kind) (sym (nth_tabulate (kept_map known.initial) first k below)) (knows.initial k o is (kept k o below held));
  drains = codes_known program first known knows.drains;
}
  where
    kept : (k : ℕ) (o : Operation) → k < first → (first ≤ k) ⊎ (o.kept ≡ true) → (o.kept && nat_lt k first) ≡ true
    kept k o below (inl behind) = absurd (omega (arith, below, behind))
    kept k o below (inr is) = both o.kept (nat_lt k first) is (less_test k first below)

-- ---- the operations of `initial`

-- what stands at a number of the first operations of a list
taken_at : (operations : List Operation) (end n : ℕ) (o : Operation) → slice_get (take end operations) n ≡ Some o → (n < end) × (slice_get operations n ≡ Some o)
taken_at [] zero n o is = absurd (cc)
taken_at [] (suc end) n o is = absurd (cc)
taken_at (p ∷ more) zero n o is = absurd (cc)
taken_at (p ∷ more) (suc end) zero o is = (omega arith, is)
taken_at (p ∷ more) (suc end) (suc n) o is = let rest = taken_at more end n o is in (omega (arith, rest.0), rest.1)

-- an operation of the first ones stands there
stands_taken : (operations : List Operation) (end n : ℕ) (o : Operation) → n < end → slice_get operations n ≡ Some o → slice_get (take end operations) n ≡ Some o
stands_taken operations zero n o below is = absurd (omega arith)
stands_taken [] (suc end) n o below is = absurd (cc)
stands_taken (p ∷ more) (suc end) zero o below is = is
stands_taken (p ∷ more) (suc end) (suc n) o below is = stands_taken more end n o (omega arith) is

-- what stands behind the first operations of a list
dropped_at : (operations : List Operation) (n k : ℕ) → slice_get operations (n + k) ≡ slice_get (drop n operations) k
dropped_at operations zero k = let same : 0 + k ≡ k = omega arith in ap (slice_get operations) same
dropped_at [] (suc n) k = refl
dropped_at (o ∷ more) (suc n) k = let same : suc n + k ≡ suc (n + k) = omega arith in ap (slice_get (o ∷ more)) same ∙ dropped_at more n k

-- the first m of the operations from number n on
first_of : (operations : List Operation) (end n m : ℕ) (rest : List Operation) → n + m ≤ end → AreFrom operations n rest → AreFrom (take end operations) n (take m rest)
first_of operations end n zero rest few from = tt
first_of operations end n (suc m) [] few from = tt
first_of operations end n (suc m) (o ∷ more) few from = (stands_taken operations end n o (omega arith) from.0, first_of operations end (n + 1) m more (omega arith) from.1)

-- operations of the first ones of a list are such of the list
pub of_all : (operations : List Operation) (end n : ℕ) (rest : List Operation) → AreFrom (take end operations) n rest → AreFrom operations n rest
of_all operations end n [] from = tt
of_all operations end n (o ∷ more) from = ((taken_at operations end n o from.0).1, of_all operations end (n + 1) more from.1)

-- the operations of a stage stand at their numbers
pub stage_from : (operations : List Operation) (first end : ℕ) → first ≤ end → AreFrom (take end operations) first (slice_range operations first end)
stage_from operations first end order = first_of operations end first (end - first) (drop first operations) (omega (arith, order)) (from_list operations first (drop first operations) (dropped_at operations first))

-- a stage has as many operations as its numbers say
pub stage_length : (operations : List Operation) (first end : ℕ) → first ≤ end → end ≤ length operations → first + length (slice_range operations first end) ≡ end
stage_length operations first end order there =
    let all = length-drop first operations in
    let some = length-take (end - first) (drop first operations) in
    omega (arith, order, there, all, some)

module _ (program : Program) (known : Known) (formed : IsWellFormed program) (inputs : HasInputs program (scene_of program.inputs known 0)) (first end : ℕ) (stage : IsInStage program first end) where
  abbrev initial_places : ℕ
  initial_places = known.rows * known.cols

  abbrev initial_scene : Scene
  initial_scene = scene_of program.inputs known 0

  abbrev HoldsInitial : ℕ → Done → Type 0
  HoldsInitial n done = (first ≤ n) × IsDoneFirst program initial_places first n done

  initial_whole : (n : ℕ) (done : Done) (o : Operation) → HoldsInitial n done → slice_get (take end program.initial) n ≡ Some o → IsMapOf initial_places o.kind (operation_part program initial_scene done o).cells
  initial_whole n done o all is =
      let at = taken_at program.initial end n o is in
      let here : 0 + n ≡ n = omega arith in
      let formed_o = subst (λ j. IsOperation program j o) here (operation_of program 0 n program.initial o formed.operations at.1) in
      map_whole program initial_scene done inputs (IsReadFirst program n) (sound_first program initial_scene done first end n inputs formed.operations stage all.0 at.0 all.1) o o.kept (read_first program n o at.1 formed_o)

  initial_next : (n : ℕ) (done : Done) (o : Operation) (m : WholeMap) → HoldsInitial n done → slice_get (take end program.initial) n ≡ Some o → IsMapOf initial_places o.kind m → HoldsInitial (n + 1) (with_map (span.Initial first end) done m)
  initial_next n done o m all is whole = (omega (arith, all.0), one_more_first program initial_places first n done o m all.1 (taken_at program.initial end n o is).1 whole)

  -- where all operations of a stage are done, its maps are whole
  pub initial_done : (before done : Done) → IsDoneFirst program initial_places first first before → operation_values program initial_scene (span.Initial first end) before (slice_range program.initial first end) ≡ Ok done →
      IsDoneFirst program initial_places first end done
  initial_done before done begun gives =
      let all : HoldsInitial (first + length (slice_range program.initial first end)) done =
      values_hold program initial_scene (span.Initial first end) (take end program.initial) HoldsInitial initial_whole initial_next first before done (slice_range program.initial first end) (omega arith, begun)
      (stage_from program.initial first end stage.order) gives in
      subst (λ n. IsDoneFirst program initial_places first n done) (stage_length program.initial first end stage.order stage.there) all.1

-- ---- kept maps

-- each map that is kept of these operations is whole
pub kept_whole : (program : Program) (places step n count : ℕ) (maps : List WholeMap) (operations : List Operation) →
    ((k : ℕ) (o : Operation) → n ≤ k → k < count → slice_get (operations_at program step) k ≡ Some o → IsMapOf places o.kind (nth maps k)) → n + length operations ≤ count → AreFrom (operations_at program step) n operations →
    All (IsWholeMap program places) (kept_maps step maps n operations)
kept_whole program places step n count maps [] all few from = All-nil (IsWholeMap program places)
kept_whole program places step n count maps (o ∷ more) all few from = one_kept o.kept (kept_whole program places step (n + 1) count maps more (λ k p behind. all k p (omega (arith, behind))) (omega arith) from.1)
  where
    whole : IsWholeMap program places (record { step = step; operation = n; cells = nth maps n })
    whole = let P : Option Operation → Type 0 = λ found. IfSome found (λ o. IsMapOf places o.kind (nth maps n)) in subst P (sym from.0) (all n o (omega arith) (omega (arith, few)) from.0)

    one_kept : (kept : Bool) → All (IsWholeMap program places) (kept_maps step maps (n + 1) more) → All (IsWholeMap program places) (cond kept (record { step = step; operation = n; cells = nth maps n } ∷ kept_maps step maps (n + 1) more) (kept_maps step maps (n + 1) more))
    one_kept true rest = All-cons (IsWholeMap program places) (record { step = step; operation = n; cells = nth maps n }) (kept_maps step maps (n + 1) more) whole rest
    one_kept false rest = rest
