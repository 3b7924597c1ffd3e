-- Of the averages of a map over the areas of ids, the first cell with an id is the mean of all cells with the id.
use Rattle.std.proofs.Common.{◌≡◌, ◌⊎◌, inl, inr, ℕ, zero, suc, ◌+◌, ◌<◌, Bool, true, false, cond, ℤ, pos, negsuc, List, [], ◌∷◌, ◌++◌, length, Option, Some, None, Result, Ok, Err, refl, sym, ap, subst, ◌∙◌, not, arith}
use Rattle.std.specs.Prelude.{◌==◌, ◌*◌, Contains, IsOk, slice_index_or, if◌then◌else◌}
use Rattle.std.specs.List.{filter_map, position_or_len, prefix_len}
use Rattle.std.specs.Ordering.{int_eq}
use Rattle.std.proofs.lemmas.Bool.Decides.{Decides-eqb, Decides-int_eq, nat_tests}
use Rattle.std.proofs.lemmas.List.Elements.{filter_map-append}
use Rattle.cell_values.specs.declared.cell.Cell.{Cell}
use Rattle.cell_values.specs.declared.cell.Cell.TheVariants.{Mv, Val}
use Rattle.cell_values.specs.declared.kind.Kind.{Kind}
use Rattle.cell_values.specs.declared.kind.Kind.TheVariants.{Scalar}
use Rattle.cell_values.specs.declared.cell.Over.{Over}
use Rattle.cell_values.specs.Kinds.{cell_of_number, is_value}
use Rattle.tile_map.specs.Cuts.{cell_at}
use Rattle.tile_map.specs.Parts.{IsPart, Outcome, TellsFirstOver, first_over, or_missing, part_of, tabulate}
use Rattle.tile_map.proofs.Callers.{get_or-tabulate, is_part-part_of}
use Rattle.region_meaning.specs.declared.area.AreaOp.TheVariants.{Average}
use Rattle.region_meaning.specs.Areas.{AreaPlace, numbers_of, taken, taken_by_class}
use Rattle.region_meaning.specs.AreaResults.{area_outcome, area_result}
use Rattle.region_meaning.specs.Numbers.{average_of}
use Rattle.region_meaning.specs.Windows.{present_values}
use Rattle.map_meaning.specs.declared.known.OverAt.{OverAt}
use Rattle.map_meaning.specs.declared.op.Op.TheVariants.{AreaAverage}
use Rattle.map_meaning.specs.Maps.{WholeMap}
use Rattle.map_meaning.specs.Overs.{map_or_over}
use Rattle.map_meaning.specs.Rules.{Setting, outcome_of, rule_of, setting_places, zone_places}
use Rattle.map_meaning.specs.Scenes.{Scene, place_count, setting_in}
use Rattle.map_meaning.specs.Trees.{Site, applied}
use Rattle.run_session.specs.Samples.{cells_of_id, cell_at_id, is_id, mean_at, mean_of, place_of_id}
use Rattle.run_session.specs.Laws.{HasId}
use Rattle.run_session.proofs.ColumnLaws.{In, contains_in}

-- ---- the first place

-- a cell that is an id
is_id-true : (n : ℕ) (cell : Cell) → is_id n cell ≡ true → cell ≡ Val (pos n)
is_id-true n Mv h = absurd cc
is_id-true n (Val (negsuc m)) h = absurd cc
is_id-true n (Val (pos m)) h = let e : m ≡ n = grind (arith, nat_tests, h) in ap (λ k. Val (pos k)) e

own_id : (n : ℕ) → is_id n (Val (pos n)) ≡ true
own_id n = grind (arith, nat_tests)

-- the first place with an id that the map has
pub record IsFirstId (n : ℕ) (ids : List Cell) : Type 0 where
  pub within : place_of_id ids n < length ids
  pub here : cell_at ids (place_of_id ids n) ≡ Val (pos n)

pub first_id : (n : ℕ) (ids : List Cell) → In (Val (pos n)) ids → IsFirstId n ids
first_id n [] h = absurd h
first_id n (x ∷ xs) h = by (is_id n x) refl h (λ k. first_id n xs k)
  where
    place_now : (b : Bool) → is_id n x ≡ b → place_of_id (x ∷ xs) n ≡ (if b then 0 else suc (place_of_id xs n))
    place_now true e = ap (λ b. cond (not b) (1 + prefix_len (λ y. not (is_id n y)) xs) 0) e
    place_now false e = ap (λ b. cond (not b) (1 + prefix_len (λ y. not (is_id n y)) xs) 0) e ∙ omega arith

    tail : is_id n x ≡ false → In (Val (pos n)) (x ∷ xs) → In (Val (pos n)) xs
    tail e (inl is) = let z : true ≡ false = sym (own_id n) ∙ ap (is_id n) is ∙ e in absurd cc
    tail e (inr later) = later

    by : (b : Bool) → is_id n x ≡ b → In (Val (pos n)) (x ∷ xs) → (In (Val (pos n)) xs → IsFirstId n xs) → IsFirstId n (x ∷ xs)
    by true e is rest = let p = place_now true e in record { within = omega (arith, p); here = ap (cell_at (x ∷ xs)) p ∙ is_id-true n x e }
    by false e is rest =
        let p = place_now false e in
        let f = rest (tail e is) in
        record { within = let w = f.within in omega (arith, p, w); here = ap (cell_at (x ∷ xs)) p ∙ f.here }

-- ---- the numbers of an area

present-append : (xs ys : List Cell) → present_values (xs ++ ys) ≡ present_values xs ++ present_values ys
present-append [] ys = refl
present-append (Mv ∷ xs) ys = present-append xs ys
present-append (Val v ∷ xs) ys = ap (λ zs. v ∷ zs) (present-append xs ys)

-- what an average takes of a place
abbrev takes : ℕ → AreaPlace → Option ℤ
takes n p = taken_by_class Average (pos n) p.value p.area

-- a cell, where it is one of the id
abbrev kept : Bool → Cell → Cell
kept b cell = if b then cell else Mv

one_kept : (b : Bool) (cell : Cell) → filter_map (λ (u : Unit {0}). if b then taken Average cell else None) (tt ∷ []) ≡ present_values (kept b cell ∷ [])
one_kept true Mv = refl
one_kept true (Val v) = refl
one_kept false cell = refl

-- an id is compared as a number
same_test : (m n : ℕ) → int_eq (pos m) (pos n) ≡ (m == n)
same_test m n = by (m == n) (int_eq (pos m) (pos n)) refl refl
  where
    by : (b c : Bool) → (m == n) ≡ b → int_eq (pos m) (pos n) ≡ c → c ≡ b
    by true true e f = refl
    by false false e f = refl
    by true false e f = let q = (Decides-int_eq (pos m) (pos n)).1 (ap pos ((Decides-eqb m n).0 e)) in let z : false ≡ true = sym f ∙ q in absurd cc
    by false true e f = let same : pos m ≡ pos n = (Decides-int_eq (pos m) (pos n)).0 f in let q = (Decides-eqb m n).1 (let k : m ≡ n = cc in k) in let z : false ≡ true = sym e ∙ q in absurd cc

one_place : (n : ℕ) (id cell : Cell) → filter_map (takes n) (record { value = cell; area = id } ∷ []) ≡ present_values (kept (is_id n id) cell ∷ [])
one_place n Mv cell = refl
one_place n (Val (negsuc m)) cell = refl
one_place n (Val (pos m)) cell = ap (λ b. filter_map (λ (u : Unit {0}). if b then taken Average cell else None) (tt ∷ [])) (same_test m n) ∙ one_kept (m == n) cell

-- they are those of the cells with the id
numbers_are : (n : ℕ) (ids cells : List Cell) (k : ℕ) → numbers_of Average (tabulate (λ p. record { value = cell_at cells p; area = cell_at ids p }) k) (pos n) ≡ present_values (tabulate (λ p. kept (is_id n (cell_at ids p)) (cell_at cells p)) k)
numbers_are n ids cells zero = refl
numbers_are n ids cells (suc k) =
    let places : List AreaPlace = tabulate (λ p. record { value = cell_at cells p; area = cell_at ids p }) k in
    let here : AreaPlace = record { value = cell_at cells k; area = cell_at ids k } in
    let of = tabulate (λ p. kept (is_id n (cell_at ids p)) (cell_at cells p)) k in
    let one = kept (is_id n (cell_at ids k)) (cell_at cells k) in
    filter_map-append (takes n) places (here ∷ [])
    ∙ (ap (λ xs. xs ++ filter_map (takes n) (here ∷ [])) (numbers_are n ids cells k)
    ∙ (ap (λ xs. present_values of ++ xs) (one_place n (cell_at ids k) (cell_at cells k))
    ∙ sym (present-append of (one ∷ []))))

-- ---- their mean

in_range : (kind : Kind) (x : ℤ) (c : Cell) → cell_of_number kind x ≡ Ok c → Val x ≡ c
in_range kind x c h = by (is_value kind x) h
  where
    over : Outcome
    over = Err (record {})

    by : (b : Bool) → (if b then Ok (Val x) else over) ≡ Ok c → Val x ≡ c
    by true k = cc
    by false k = absurd cc

-- an average that is not out of range is the mean
average_is : (xs : List ℤ) (c : Cell) → area_result Average xs ≡ Ok c → mean_of xs ≡ c
unfolding area_result
average_is [] c h = cc
average_is (x ∷ xs) c h = in_range Scalar (average_of (x ∷ xs)) c h

-- ---- a map without Over

-- a map is given where no place is Over
no_over : (scene : Scene) (statement number : ℕ) (o : Option ℕ) (cells averages : WholeMap) → map_or_over scene statement number o cells ≡ Ok averages → (o ≡ None) × (cells ≡ averages)
no_over scene statement number None cells averages h = (refl, cc)
no_over scene statement number (Some place) cells averages h = absurd cc

ok_cell : (o : Outcome) → IsOk o → o ≡ Ok (or_missing o)
ok_cell (Ok c) h = refl
ok_cell (Err e) h = absurd cc

-- each outcome is the cell of the map
cells_are : (outcome : ℕ → Outcome) (places : ℕ) (p : ℕ) → first_over outcome places ≡ None → p < places → outcome p ≡ Ok (cell_at (part_of outcome places).cells p)
cells_are outcome places p none within =
    let is = is_part-part_of outcome places in
    let ok : IsOk (outcome p) = subst (TellsFirstOver outcome places) none is.over p within in
    ok_cell (outcome p) ok ∙ ap (λ c. Ok c) (sym (is.cells p within))

-- ---- the whole

-- the averages over areas
abbrev averages_over : Site → List Kind → WholeMap → WholeMap → ℕ → Outcome
averages_over at kinds cells ids = outcome_of AreaAverage (setting_in at.scene kinds) (cell_at cells ∷ cell_at ids ∷ [])

-- the average at a place of an id
average_at : (at : Site) (kinds : List Kind) (cells ids : WholeMap) (n p : ℕ) → cell_at ids p ≡ Val (pos n) → averages_over at kinds cells ids p ≡ area_result Average (numbers_of Average (zone_places (setting_in at.scene kinds) (cell_at cells) (cell_at ids)) (pos n))
unfolding rule_of
average_at at kinds cells ids n p h = ap (area_outcome Average (zone_places (setting_in at.scene kinds) (cell_at cells) (cell_at ids))) h

-- of the averages of a map over the areas of ids, the first cell with an id is the mean of all cells with it
pub first_is_mean : (at : Site) (kinds : List Kind) (number : ℕ) (ids cells averages : WholeMap) → length ids ≡ place_count at.scene → applied at AreaAverage kinds (cells ∷ ids ∷ []) number ≡ Ok averages → (n : ℕ) → HasId ids n → cell_at_id ids averages n ≡ mean_at ids cells n
first_is_mean at kinds number ids cells averages long h n has =
    let first = first_id n ids (contains_in ids (Val (pos n)) has) in
    let p = place_of_id ids n in
    let outcome = averages_over at kinds cells ids in
    let places = place_count at.scene in
    let ok = no_over at.scene at.statement number (first_over outcome places) (part_of outcome places).cells averages h in
    let within : p < places = subst (λ k. p < k) long first.within in
    let here = sym (average_at at kinds cells ids n p first.here) ∙ cells_are outcome places p ok.0 within in
    let mean = average_is (numbers_of Average (zone_places (setting_in at.scene kinds) (cell_at cells) (cell_at ids)) (pos n)) (cell_at (part_of outcome places).cells p) here in
    ap (λ m. cell_at m p) (sym ok.1) ∙ sym mean ∙ ap mean_of (numbers_are n ids cells places ∙ ap (λ k. present_values (tabulate (λ q. kept (is_id n (cell_at ids q)) (cell_at cells q)) k)) (sym long))
