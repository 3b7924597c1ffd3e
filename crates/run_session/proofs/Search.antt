-- A kept map is found by halves.
use Rattle.std.proofs.Common.{zero, suc, ◌≡◌, ℕ, ◌+◌, ◌<◌, ◌≤◌, Bool, true, false, cond, List, [], ◌∷◌, length, get_or, Ok, Err, refl, sym, ap, ◌∙◌, arith}
use Rattle.std.specs.List.Sorted.{IsBinarySearchResult, IsNonDecreasingBy}
use Rattle.std.specs.Ordering.{nat_cmp, ordering_index}
use Rattle.std.proofs.lemmas.Bool.{eq-eqb, ne_eqb}
use Rattle.std.proofs.lemmas.Bool.Decides.{nat_tests}
use Rattle.std.proofs.lemmas.Cmp.{ranked}
use Rattle.map_meaning.specs.declared.known.StepMap.{StepMap}
use Rattle.map_meaning.specs.declared.program.Operation.{Operation}
use Rattle.map_meaning.specs.Maps.{WholeMap, nth}
use Rattle.map_meaning.specs.Spans.{AreAscending, kept_map, kept_maps}
use Rattle.run_session.specs.inside.Standings.{AscendFrom}

-- ---- the kept maps ascend

-- maps from a later number on are maps from an earlier one on
ascend_earlier : (n k : ℕ) (maps : List StepMap) → n ≤ k → AscendFrom k maps → AscendFrom n maps
ascend_earlier n k [] le up = tt
ascend_earlier n k (m ∷ maps) le up = (omega (arith, le, up.0), up.1)

-- the maps that are kept ascend
pub kept_ascend : (step : ℕ) (maps : List WholeMap) (n : ℕ) (operations : List Operation) → AscendFrom n (kept_maps step maps n operations)
kept_ascend step maps n [] = tt
kept_ascend step maps n (o ∷ more) = by o.kept (kept_ascend step maps (n + 1) more)
  where
    by : (b : Bool) → AscendFrom (n + 1) (kept_maps step maps (n + 1) more) → AscendFrom n (cond b (record { step = step; operation = n; cells = nth maps n } ∷ kept_maps step maps (n + 1) more) (kept_maps step maps (n + 1) more))
    by true rest = (omega arith, rest)
    by false rest = ascend_earlier n (n + 1) (kept_maps step maps (n + 1) more) (omega arith) rest

-- ---- a search

-- no map is of an operation below the first number
at_least : (n : ℕ) (maps : List StepMap) (i : ℕ) (d : StepMap) → AscendFrom n maps → i < length maps → n ≤ (get_or maps i d).operation
at_least n [] i d up below = absurd (omega (arith, below))
at_least n (m ∷ maps) zero d up below = up.0
at_least n (m ∷ maps) (suc i) d up below = omega (arith, up.0, at_least (m.operation + 1) maps i d up.1 (omega (arith, below)))

-- the numbers rise along the maps
rising : (n : ℕ) (maps : List StepMap) → AscendFrom n maps → (i j : ℕ) (d : StepMap) → i ≤ j → j < length maps → (get_or maps i d).operation ≤ (get_or maps j d).operation
rising n [] up i j d le below = absurd (omega (arith, below))
rising n (m ∷ maps) up zero zero d le below = omega arith
rising n (m ∷ maps) up zero (suc j) d le below = omega (arith, at_least (m.operation + 1) maps j d up.1 (omega (arith, below)))
rising n (m ∷ maps) up (suc i) zero d le below = absurd (omega (arith, le))
rising n (m ∷ maps) up (suc i) (suc j) d le below = rising (m.operation + 1) maps up.1 i j d (omega (arith, le)) (omega (arith, below))

-- the map at a place is the kept map of its operation
at_place : (n : ℕ) (maps : List StepMap) (i : ℕ) (d : StepMap) → AscendFrom n maps → i < length maps → kept_map maps (get_or maps i d).operation ≡ (get_or maps i d).cells
at_place n [] i d up below = absurd (omega (arith, below))
at_place n (m ∷ maps) zero d up below = ap (λ b. cond b m.cells (kept_map maps m.operation)) (eq-eqb m.operation m.operation refl)
at_place n (m ∷ maps) (suc i) d up below =
    let k = (get_or maps i d).operation in
    let later : m.operation + 1 ≤ k = at_least (m.operation + 1) maps i d up.1 (omega (arith, below)) in
    ap (λ b. cond b m.cells (kept_map maps k)) (ne_eqb m.operation k (λ e. omega (arith, e, later))) ∙ at_place (m.operation + 1) maps i d up.1 (omega (arith, below))

-- no map of this number
none_kept : (maps : List StepMap) (n : ℕ) → ((j : ℕ) (d : StepMap) → j < length maps → (get_or maps j d).operation ≡ n → ⊥) → kept_map maps n ≡ []
none_kept [] n other = refl
none_kept (m ∷ maps) n other = ap (λ b. cond b m.cells (kept_map maps n)) (ne_eqb m.operation n (other 0 m (omega arith))) ∙ none_kept maps n (λ j d below. other (suc j) d (omega (arith, below)))

-- the numbers ascend along the maps
strictly : (n : ℕ) (maps : List StepMap) → AscendFrom n maps → (i j : ℕ) (d : StepMap) → i < j → j < length maps → (get_or maps i d).operation < (get_or maps j d).operation
strictly n [] up i j d before below = absurd (omega (arith, below))
strictly n (m ∷ maps) up zero zero d before below = absurd (omega (arith, before))
strictly n (m ∷ maps) up zero (suc j) d before below = omega (arith, at_least (m.operation + 1) maps j d up.1 (omega (arith, below)))
strictly n (m ∷ maps) up (suc i) zero d before below = absurd (omega (arith, before))
strictly n (m ∷ maps) up (suc i) (suc j) d before below = strictly (m.operation + 1) maps up.1 i j d (omega (arith, before)) (omega (arith, below))

-- maps that ascend from a number on ascend
pub are_ascending : (maps : List StepMap) → AscendFrom 0 maps → AreAscending maps
are_ascending maps up i j d = strictly 0 maps up i j d

module _ (maps : List StepMap) (up : AscendFrom 0 maps) (n : ℕ) where
  -- the comparisons with the number rise along the maps, as a search by halves asks
  comparisons_rise : IsNonDecreasingBy (λ m. ordering_index (nat_cmp m.operation n)) maps
  comparisons_rise i j d le below = let numbers : (get_or maps i d).operation ≤ (get_or maps j d).operation = rising 0 maps up i j d le below in grind (arith, nat_tests)

  -- a search ends at the kept map
  pub search_finds : (i : ℕ) (d : StepMap) → IsBinarySearchResult (λ m. nat_cmp m.operation n) maps (Ok i) → i < length maps → kept_map maps n ≡ (get_or maps i d).cells
  search_finds i d equal below =
      let same : (get_or maps i d).operation ≡ n = ranked _ n _ (sym (equal d)) in
      ap (kept_map maps) (sym same) ∙ at_place 0 maps i d up below

  -- no map is kept where none is found
  pub search_ends : (i : ℕ) → IsBinarySearchResult (λ m. nat_cmp m.operation n) maps (Err i) → kept_map maps n ≡ []
  search_ends i parted = none_kept maps n (λ j d below same. grind (arith, nat_tests, (parted comparisons_rise).0 j d (omega arith), (parted comparisons_rise).1 j d))
