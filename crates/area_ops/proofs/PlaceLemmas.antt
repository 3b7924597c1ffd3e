-- The numbers of areas, place by place and list by list.
use Rattle.std.proofs.Common.{◌≡◌, ℕ, zero, suc, ◌+◌, ◌≤◌, ℤ, Bool, true, false, List, [], ◌∷◌, ◌++◌, length, refl, sym, ap, ◌∙◌, arith}
use Rattle.std.specs.Prelude.{Option, Some, None, Ok, if◌then◌else◌, option_map}
use Rattle.std.specs.Option.{unwrap_or}
use Rattle.std.specs.List.{filter_map}
use Rattle.std.specs.Map.{lookup}
use Rattle.std.specs.Ordering.{int_eq}
use Rattle.std.proofs.lemmas.List.{length-append, length_push}
use Rattle.std.proofs.lemmas.List.Elements.{filter_map-append}
use Rattle.cell_values.specs.declared.cell.Cell.{Cell}
use Rattle.cell_values.specs.declared.cell.Cell.TheVariants.{Mv, Val}
use Rattle.tile_map.specs.declared.arg.Arg.{Arg}
use Rattle.tile_map.specs.Args.{arg_cell}
use Rattle.tile_map.specs.Parts.{Outcome, first_over, or_missing, or_over_at, part_of, tabulate}
use Rattle.tile_map.specs.declared.part.Part.{Part}
use Rattle.region_meaning.specs.declared.area.AreaOp.{AreaOp}
use Rattle.area_ops.specs.declared.tally.Tally.{Tally}
use Rattle.region_meaning.specs.Areas.{AreaPlace, area_places, numbers_of, taken, taken_by_class}
use Rattle.area_ops.specs.Partials.{PartialValue, StandsFor}
use Rattle.region_meaning.specs.Numbers.{occurrences}
use Rattle.region_meaning.specs.AreaResults.{area_outcome, area_result}
use Rattle.area_ops.specs.inside.Counts.{Member, count_in, counts_numbers}
use Rattle.area_ops.specs.inside.Leaders.{place_result, class_result}
use Rattle.area_ops.specs.inside.Tallies.{IsTally, AreTallies, no_tally, place_tally, seen_from, tally_in, tally_join, number_tally, tally_of_one, tally_of_option, tally_result}
use Rattle.area_ops.proofs.CountLemmas.{merged_count}
use Rattle.area_ops.proofs.TallyLemmas.{count-tally_join, result_of_found, result_of_tally, same_tally, number_tally-append}
use Rattle.std.proofs.lemmas.Int.{ints}

-- the tally of what is taken from one place
one_place : (o : Option ℤ) → number_tally (filter_map (λ (x : Option ℤ). x) (o ∷ [])) ≡ tally_of_option o
unfolding number_tally
one_place None = refl
one_place (Some x) = same_tally _ _ refl (omega (arith, ints)) refl refl

-- the tally of numbers of some places and one more
pub one_more_place : (op : AreaOp) (places : List AreaPlace) (p : AreaPlace) (class : ℤ) →
    number_tally (numbers_of op (places ++ p ∷ []) class) ≡ tally_join (number_tally (numbers_of op places class)) (place_tally op class p.value p.area)
unfolding place_tally
one_more_place op places p class =
    ap number_tally (filter_map-append (λ (q : AreaPlace). taken_by_class op class q.value q.area) places (p ∷ []))
    ∙ (number_tally-append (numbers_of op places class) (numbers_of op (p ∷ []) class)
    ∙ ap (tally_join (number_tally (numbers_of op places class))) (one_place (taken_by_class op class p.value p.area)))

-- what a place gives to a class, by whether it is its own
taken_if : (op : AreaOp) (value : Cell) (x : ℤ) (b : Bool) → taken op value ≡ Some x → tally_of_option (if b then taken op value else None) ≡ (if b then tally_of_one x else no_tally)
taken_if op value x true e = ap tally_of_option e
taken_if op value x false e = refl

pub place-some : (op : AreaOp) (class : ℤ) (value : Cell) (own x : ℤ) → taken op value ≡ Some x → place_tally op class value (Val own) ≡ seen_from class own (tally_of_one x)
unfolding place_tally seen_from
place-some op class value own x e = taken_if op value x (int_eq own class) e

taken_if-none : (op : AreaOp) (value : Cell) (b : Bool) → taken op value ≡ None → tally_of_option (if b then taken op value else None) ≡ no_tally
taken_if-none op value true e = ap tally_of_option e
taken_if-none op value false e = refl

pub place-none : (op : AreaOp) (class : ℤ) (value area : Cell) → taken op value ≡ None → place_tally op class value area ≡ no_tally
unfolding place_tally
place-none op class value Mv e = refl
place-none op class value (Val own) e = taken_if-none op value (int_eq own class) e

pub place-missing : (op : AreaOp) (class : ℤ) (value : Cell) → place_tally op class value Mv ≡ no_tally
unfolding place_tally
place-missing op class value = refl

-- a place gives at most one number
few-option : (o : Option ℤ) → (tally_of_option o).count ≤ 1
few-option None = omega arith
few-option (Some x) = omega arith

pub few-place : (op : AreaOp) (class : ℤ) (value area : Cell) → (place_tally op class value area).count ≤ 1
unfolding place_tally
few-place op class value area = few-option (taken_by_class op class value area)

-- merged tallies stand for both lists
pub merged-tallies : (op : AreaOp) (xs ys : List AreaPlace) (class : ℤ) →
    number_tally (numbers_of op (xs ++ ys) class) ≡ tally_join (number_tally (numbers_of op xs class)) (number_tally (numbers_of op ys class))
merged-tallies op xs ys class =
    ap number_tally (filter_map-append (λ (q : AreaPlace). taken_by_class op class q.value q.area) xs ys)
    ∙ number_tally-append (numbers_of op xs class) (numbers_of op ys class)

-- the results of the tallies are those of the places that they stand for
pub results_of_tallies : (partial : PartialValue) (places : List AreaPlace) → StandsFor partial places → counts_numbers partial.op ≡ false → (class : ℤ) →
    unwrap_or (option_map (tally_result partial.op) (lookup (λ own. int_eq class own) partial.tallies)) (Ok Mv) ≡ area_result partial.op (numbers_of partial.op places class)
unfolding tally_in
results_of_tallies partial places stands plain class =
    result_of_found partial.op (lookup (λ own. int_eq class own) partial.tallies)
    ∙ (ap (tally_result partial.op) (stands.tallies plain class) ∙ sym (result_of_tally partial.op (numbers_of partial.op places class) plain))

-- the result of a class, by what is found for it
pub result_found : (results : List (ℤ × Outcome)) (class : ℤ) (o : Option Outcome) → lookup (λ own. int_eq class own) results ≡ o → class_result results class ≡ unwrap_or o (Ok Mv)
unfolding class_result
result_found results class o e = ap (λ (x : Option Outcome). unwrap_or x (Ok Mv)) e

-- outcomes by the results of the classes
pub outcome_of_results : (op : AreaOp) (places : List AreaPlace) (results : List (ℤ × Outcome)) → ((class : ℤ) → class_result results class ≡ area_result op (numbers_of op places class)) →
    (class : Cell) → place_result results class ≡ area_outcome op places class
outcome_of_results op places results h Mv = refl
outcome_of_results op places results h (Val class) = h class

-- parts of outcomes that are alike
same_cells : (f g : ℕ → Outcome) (n : ℕ) → ((i : ℕ) → f i ≡ g i) → tabulate (λ i. or_missing (f i)) n ≡ tabulate (λ i. or_missing (g i)) n
same_cells f g zero h = refl
same_cells f g (suc n) h =
    ap (λ (xs : List Cell). xs ++ or_missing (f n) ∷ []) (same_cells f g n h)
    ∙ ap (λ (o : Outcome). tabulate (λ i. or_missing (g i)) n ++ or_missing o ∷ []) (h n)

same_overs : (f g : ℕ → Outcome) (n : ℕ) → ((i : ℕ) → f i ≡ g i) → first_over f n ≡ first_over g n
same_overs f g zero h = refl
same_overs f g (suc n) h =
    ap (or_over_at n (f n)) (same_overs f g n h) ∙ ap (λ (o : Outcome). or_over_at n o (first_over g n)) (h n)

pub same_part : (f g : ℕ → Outcome) (n : ℕ) → ((i : ℕ) → f i ≡ g i) → part_of f n ≡ part_of g n
same_part f g n h =
    ap (λ (xs : List Cell). let p : Part = record { cells = xs; over = first_over f n } in p) (same_cells f g n h)
    ∙ ap (λ (o : Option ℕ). let p : Part = record { cells = tabulate (λ i. or_missing (g i)) n; over = o } in p) (same_overs f g n h)

-- one more place
pub one_more_few : (n : ℕ) (f g h : ℤ → Tally) → ((class : ℤ) → g class ≡ tally_join (f class) (h class)) → ((class : ℤ) → (h class).count ≤ 1) →
    ((class : ℤ) → IsTally (g class)) → AreTallies n f → AreTallies (n + 1) g
one_more_few n f g h e one sound all = record {
  sound = sound;
  few = λ class.
      let c = ap (λ (t : Tally). t.count) (e class) ∙ count-tally_join (f class) (h class) in
      let o = one class in let p = all.few class in
      omega (arith, c, o, p);
}

-- of no places
pub number_tally-nil : number_tally [] ≡ no_tally
unfolding number_tally
number_tally-nil = refl

pub one_more_area : (values classes : Arg) (n : ℕ) →
    area_places values classes (n + 1) ≡ area_places values classes n ++ record { value = arg_cell values n; area = arg_cell classes n } ∷ []
one_more_area values classes n = ap (area_places values classes) (let e : n + 1 ≡ suc n = omega arith in e)

-- how many places there are
pub length-area_places : (values classes : Arg) (n : ℕ) → length (area_places values classes n) ≡ n
length-area_places values classes zero = refl
length-area_places values classes (suc n) =
    length_push (area_places values classes n) (record { value = arg_cell values n; area = arg_cell classes n })
    ∙ (let e = length-area_places values classes n in omega arith)

-- a merged partial stands for the places of both
pub merged : (p q r : PartialValue) (xs ys : List AreaPlace) → p.op ≡ q.op → r.op ≡ p.op → r.cells ≡ p.cells + q.cells →
    ((class : ℤ) → tally_in r.tallies class ≡ tally_join (tally_in p.tallies class) (tally_in q.tallies class)) →
    ((m : Member) → count_in r.counts m ≡ count_in p.counts m + count_in q.counts m) →
    StandsFor p xs → StandsFor q ys → StandsFor r (xs ++ ys)
merged p q r xs ys same kept cells tallies counts s t = record {
  cells = let a = s.cells in let b = t.cells in let c = length-append xs ys in omega (arith, a, b, c, cells);
  tallies = λ plain class.
      tallies class
      ∙ (ap (λ (u : Tally). tally_join u (tally_in q.tallies class)) (s.tallies (ap counts_numbers (sym kept) ∙ plain) class ∙ ap (λ (op : AreaOp). number_tally (numbers_of op xs class)) (sym kept))
      ∙ (ap (tally_join (number_tally (numbers_of r.op xs class))) (t.tallies (ap counts_numbers (sym (kept ∙ same)) ∙ plain) class ∙ ap (λ (op : AreaOp). number_tally (numbers_of op ys class)) (sym (kept ∙ same)))
      ∙ sym (merged-tallies r.op xs ys class)));
  counts = λ counted class number.
      let a = s.counts (ap counts_numbers (sym kept) ∙ counted) class number ∙ ap (λ (op : AreaOp). occurrences (numbers_of op xs class) number) (sym kept) in
      let b = t.counts (ap counts_numbers (sym (kept ∙ same)) ∙ counted) class number ∙ ap (λ (op : AreaOp). occurrences (numbers_of op ys class) number) (sym (kept ∙ same)) in
      let c = merged_count r.op xs ys class number in
      let d = counts (class, number) in
      omega (arith, a, b, c, d);
}
