-- Drain maps among the inputs.
use Rattle.std.proofs.Common.{◌≡◌, ℕ, zero, suc, ◌*◌, ◌<◌, ◌≤◌, ◌⊎◌, inl, inr, Bool, true, false, cond, List, [], ◌∷◌, ◌++◌, length, length-append, refl, sym, ap, subst, ◌∙◌, arith}
use Rattle.std.specs.Prelude.{Option, Some, None, slice_get, slice_index_or}
use Rattle.std.specs.List.{AllZip, filter}
use Rattle.std.proofs.lemmas.Bool.{cases_lt}
use Rattle.std.proofs.lemmas.List.{append-nil, get_or_append_left, get_or_past, get_or_push}
use Rattle.std.proofs.lemmas.Option.{slice_get_within}
use Rattle.cell_values.specs.declared.kind.Kind.TheVariants.{Ldd}
use Rattle.cell_values.specs.declared.cell.Cell.TheVariants.{Mv}
use Rattle.cell_values.specs.Kinds.{IsCell}
use Rattle.tile_map.specs.Cuts.{cell_at}
use Rattle.grid_text.specs.Form.{IsSize}
use Rattle.drain_meaning.specs.Drains.{DrainMap, IsDrainMap}
use Rattle.drain_meaning.specs.Laws.{HasFirstUnsound}
use Rattle.drain_meaning.specs.Paths.{IsFirstUnsound, IsSound}
use Rattle.drain_meaning.specs.inside.FirstUnsound.{first_unsound}
use Rattle.drain_meaning.proofs.Callers.{first_unsound-found}
use Rattle.map_meaning.specs.declared.program.InputUse.{InputUse}
use Rattle.map_meaning.specs.declared.program.Role.{Role}
use Rattle.map_meaning.specs.declared.program.Role.TheVariants.{Grid}
use Rattle.map_meaning.specs.Maps.{IsMapOf, WholeMap, nth}
use Rattle.map_meaning.specs.Programs.{is_grid_role}
use Rattle.map_meaning.specs.Spans.{AreInputMaps, AreOfInputs, at_inputs}
use Rattle.run_session.specs.declared.frame.Frame.{Frame}
use Rattle.run_session.specs.inside.Parts.{AreDrainsOf, IsDrainFor, drain_over}

-- the codes of a map of the size of the area map are a drain map, of which it is not known whether it is sound
pub over_map : (frame : Frame) (m : WholeMap) → IsSize frame.rows frame.cols → IsMapOf (frame.rows * frame.cols) Ldd m → IsDrainMap (drain_over frame m)
over_map frame m size is = record { few = size.few; size = is.count; each = each }
  where
    each : (place : ℕ) → IsCell Ldd (cell_at m place)
    each place = by (cases_lt place (length m))
      where
        by : (place < length m) ⊎ (length m ≤ place) → IsCell Ldd (cell_at m place)
        by (inl below) = is.cells place Mv below
        by (inr above) = subst (IsCell Ldd) (sym (get_or_past m place Mv above)) tt

-- no place below the first unsound one is unsound, so there is one first
first_alone : (m : DrainMap) (p q : ℕ) → IsFirstUnsound m p → IsFirstUnsound m q → p ≡ q
first_alone m p q first other = by (cases_lt p q)
  where
    equal : q ≤ p → (p < q) ⊎ (q ≤ p) → p ≡ q
    equal le any = by_other (cases_lt q p)
      where
        by_other : (q < p) ⊎ (p ≤ q) → p ≡ q
        by_other (inl less) = absurd (other.fails (first.before q less other.directed))
        by_other (inr more) = omega (arith, le, more)

    by : (p < q) ⊎ (q ≤ p) → p ≡ q
    by (inl less) = absurd (first.fails (other.before p less first.directed))
    by (inr le) = equal le (inr le)

-- the first unsound place of a map that is refused is the one that is found
pub refused_first : (m : DrainMap) (place : ℕ) → IsDrainMap m → IsFirstUnsound m place → first_unsound m ≡ Some place
refused_first m place is first = by (first_unsound m) (first_unsound-found m)
  where
    by : (o : Option ℕ) → HasFirstUnsound m o → o ≡ Some place
    by None sound = absurd (first.fails (sound place first.directed))
    by (Some q) found = ap Some (first_alone m q place found first)

-- no place of a sound map is found
pub sound_none : (m : DrainMap) → IsDrainMap m → IsSound m → first_unsound m ≡ None
sound_none m is sound = by (first_unsound m) (first_unsound-found m)
  where
    by : (o : Option ℕ) → HasFirstUnsound m o → o ≡ None
    by None none = refl
    by (Some q) found = absurd (found.fails (sound q found.directed))

-- ---- what stands at the numbers of inputs

module _ {X : Type 0} (has : Role → Bool) (none : X) (Suits : InputUse → X → Type 0) where
  abbrev rest : List InputUse → List InputUse
  rest list = filter (λ (input : InputUse). has input.role) list

  abbrev item_at : List X → ℕ → X
  item_at items n = slice_index_or items n none

  -- an input of another role has no item
  passed : (i : InputUse) (list : List InputUse) (items : List X) → has i.role ≡ false → at_inputs has none (i ∷ list) items ≡ none ∷ at_inputs has none list items
  passed i list [] is = refl
  passed i list (x ∷ items) is = ap (λ b. cond b (x ∷ at_inputs has none list items) (none ∷ at_inputs has none list (x ∷ items))) is

  -- an input of the role has the first item
  taken : (i : InputUse) (list : List InputUse) (x : X) (items : List X) → has i.role ≡ true → at_inputs has none (i ∷ list) (x ∷ items) ≡ x ∷ at_inputs has none list items
  taken i list x items is = ap (λ b. cond b (x ∷ at_inputs has none list items) (none ∷ at_inputs has none list (x ∷ items))) is

  -- what stands at an input stays where there are more inputs behind it
  pub at_front : (list : List InputUse) (items : List X) (more : List InputUse) (others : List X) (n : ℕ) → AreOfInputs has Suits list items → n < length list →
      item_at (at_inputs has none (list ++ more) (items ++ others)) n ≡ item_at (at_inputs has none list items) n
  at_front [] items more others n all below = absurd (omega arith)
  at_front (i ∷ list) items more others n all below = by (has i.role) refl items all n below (λ items n all below. at_front list items more others n all below)
    where
      by : (b : Bool) → has i.role ≡ b → (items : List X) → AllZip Suits (cond b (i ∷ rest list) (rest list)) items → (n : ℕ) → n < length (i ∷ list) →
          ((items : List X) (n : ℕ) → AreOfInputs has Suits list items → n < length list → item_at (at_inputs has none (list ++ more) (items ++ others)) n ≡ item_at (at_inputs has none list items) n) →
          item_at (at_inputs has none (i ∷ (list ++ more)) (items ++ others)) n ≡ item_at (at_inputs has none (i ∷ list) items) n
      by true is [] all n below later = absurd all
      by true is (x ∷ items) all zero below later =
          ap (λ xs. item_at xs 0) (taken i (list ++ more) x (items ++ others) is) ∙ sym (ap (λ xs. item_at xs 0) (taken i list x items is))
      by true is (x ∷ items) all (suc n) below later =
          ap (λ xs. item_at xs (suc n)) (taken i (list ++ more) x (items ++ others) is) ∙
          (later items n all.1 (omega (arith, below)) ∙ sym (ap (λ xs. item_at xs (suc n)) (taken i list x items is)))
      by false is items all zero below later =
          ap (λ xs. item_at xs 0) (passed i (list ++ more) (items ++ others) is) ∙ sym (ap (λ xs. item_at xs 0) (passed i list items is))
      by false is items all (suc n) below later =
          ap (λ xs. item_at xs (suc n)) (passed i (list ++ more) (items ++ others) is) ∙
          (later items n all (omega (arith, below)) ∙ sym (ap (λ xs. item_at xs (suc n)) (passed i list items is)))

  -- the last input of the role has the last item
  pub at_last : (list : List InputUse) (items : List X) (i : InputUse) (x : X) → AreOfInputs has Suits list items → has i.role ≡ true →
      item_at (at_inputs has none (list ++ i ∷ []) (items ++ x ∷ [])) (length list) ≡ x
  at_last [] [] i x all is = ap (λ xs. item_at xs 0) (taken i [] x [] is)
  at_last [] (y ∷ items) i x all is = absurd all
  at_last (j ∷ list) items i x all is = by (has j.role) refl items all (λ items all. at_last list items i x all is)
    where
      by : (b : Bool) → has j.role ≡ b → (items : List X) → AllZip Suits (cond b (j ∷ rest list) (rest list)) items →
          ((items : List X) → AreOfInputs has Suits list items → item_at (at_inputs has none (list ++ i ∷ []) (items ++ x ∷ [])) (length list) ≡ x) →
          item_at (at_inputs has none (j ∷ (list ++ i ∷ [])) (items ++ x ∷ [])) (suc (length list)) ≡ x
      by true on [] all later = absurd all
      by true on (y ∷ items) all later = ap (λ xs. item_at xs (suc (length list))) (taken j (list ++ i ∷ []) y (items ++ x ∷ []) on) ∙ later items all.1
      by false on items all later = ap (λ xs. item_at xs (suc (length list))) (passed j (list ++ i ∷ []) (items ++ x ∷ []) on) ∙ later items all

-- ---- lists

-- an item of the first list stays where another one stands behind it
pub slice_get_front : {A : Type 0} (xs ys : List A) (k : ℕ) → k < length xs → slice_get (xs ++ ys) k ≡ slice_get xs k
slice_get_front [] ys k below = absurd (omega arith)
slice_get_front (x ∷ xs) ys zero below = refl
slice_get_front (x ∷ xs) ys (suc k) below = slice_get_front xs ys k (omega (arith, below))

-- the last item stands at the end
pub slice_get_end : {A : Type 0} (xs : List A) (x y : A) → slice_get (xs ++ x ∷ []) (length xs) ≡ Some y → x ≡ y
slice_get_end [] x y is = cc
slice_get_end (z ∷ xs) x y is = slice_get_end xs x y is

-- ---- one more input

module _ (frame : Frame) (before : List InputUse) (maps : List WholeMap) (drains : List (Option DrainMap)) (input : InputUse) (are : AreInputMaps (frame.rows * frame.cols) before maps) (all : AreDrainsOf frame before maps drains) where
  abbrev list : List InputUse
  list = before ++ input ∷ []

  more_count : (d : Option DrainMap) → length (drains ++ d ∷ []) ≡ length list
  more_count d = let c : length drains ≡ length before = all.count in omega (arith, c, length-append drains (d ∷ []), length-append before (input ∷ []))

  -- the inputs before
  before_same : (others : List WholeMap) (d : Option DrainMap) (n : ℕ) (one : InputUse) → n < length before → slice_get list n ≡ Some one → is_grid_role one.role ≡ true →
      IsDrainFor frame one (nth (at_inputs is_grid_role [] list (maps ++ others)) n) (slice_index_or (drains ++ d ∷ []) n None)
  before_same others d n one below is grid =
      let here : slice_get before n ≡ Some one = sym (slice_get_front before (input ∷ []) n below) ∙ is in
      let c : length drains ≡ length before = all.count in
      let P : WholeMap → Option DrainMap → Type 0 = λ m o. IsDrainFor frame one m o in
      let old : P (nth (at_inputs is_grid_role [] before maps) n) (slice_index_or drains n None) = all.each n one here grid in
      let cells = at_front is_grid_role [] (λ (input : InputUse) (m : WholeMap). IsMapOf (frame.rows * frame.cols) input.kind m) before maps (input ∷ []) others n are below in
      let drain = get_or_append_left drains (d ∷ []) None n (omega (arith, below, c)) in
      subst (λ m. P m (slice_index_or (drains ++ d ∷ []) n None)) (sym cells) (subst (P (nth (at_inputs is_grid_role [] before maps) n)) (sym drain) old)

  -- a grid
  pub drain_more : (m : WholeMap) (d : Option DrainMap) → input.role ≡ Grid → IsDrainFor frame input m d → AreDrainsOf frame list (maps ++ m ∷ []) (drains ++ d ∷ [])
  drain_more m d role one = record { count = more_count d; each = each }
    where
      each : (n : ℕ) (other : InputUse) → slice_get list n ≡ Some other → is_grid_role other.role ≡ true → IsDrainFor frame other (nth (at_inputs is_grid_role [] list (maps ++ m ∷ [])) n) (slice_index_or (drains ++ d ∷ []) n None)
      each n other is grid = by (cases_lt n (length before))
        where
          by : (n < length before) ⊎ (length before ≤ n) → IsDrainFor frame other (nth (at_inputs is_grid_role [] list (maps ++ m ∷ [])) n) (slice_index_or (drains ++ d ∷ []) n None)
          by (inl below) = before_same (m ∷ []) d n other below is grid
          by (inr above) =
              let c : length drains ≡ length before = all.count in
              let within : n < length list = slice_get_within list n other is in
              let here : n ≡ length before = omega (arith, above, within, length-append before (input ∷ [])) in
              let same : input ≡ other = slice_get_end before input other (subst (λ k. slice_get list k ≡ Some other) here is) in
              let cells : nth (at_inputs is_grid_role [] list (maps ++ m ∷ [])) n ≡ m =
              ap (nth (at_inputs is_grid_role [] list (maps ++ m ∷ []))) here ∙ at_last is_grid_role [] (λ (input : InputUse) (m : WholeMap). IsMapOf (frame.rows * frame.cols) input.kind m) before maps input m are (ap is_grid_role role) in
              let drain : slice_index_or (drains ++ d ∷ []) n None ≡ d = get_or_push drains d None n (c ∙ sym here) in
              let P : InputUse → WholeMap → Option DrainMap → Type 0 = λ i m o. IsDrainFor frame i m o in
              subst (λ o. P other (nth (at_inputs is_grid_role [] list (maps ++ m ∷ [])) n) o) (sym drain) (subst (λ k. P other k d) (sym cells) (subst (λ i. P i m d) same one))

  -- another input
  pub other_more : is_grid_role input.role ≡ false → AreDrainsOf frame list maps (drains ++ None ∷ [])
  other_more role = record { count = more_count None; each = each }
    where
      each : (n : ℕ) (other : InputUse) → slice_get list n ≡ Some other → is_grid_role other.role ≡ true → IsDrainFor frame other (nth (at_inputs is_grid_role [] list maps) n) (slice_index_or (drains ++ None ∷ []) n None)
      each n other is grid = by (cases_lt n (length before))
        where
          by : (n < length before) ⊎ (length before ≤ n) → IsDrainFor frame other (nth (at_inputs is_grid_role [] list maps) n) (slice_index_or (drains ++ None ∷ []) n None)
          by (inl below) = subst (λ ms. IsDrainFor frame other (nth (at_inputs is_grid_role [] list ms) n) (slice_index_or (drains ++ None ∷ []) n None)) (append-nil maps) (before_same [] None n other below is grid)
          by (inr above) =
              let within : n < length list = slice_get_within list n other is in
              let here : n ≡ length before = omega (arith, above, within, length-append before (input ∷ [])) in
              let same : input ≡ other = slice_get_end before input other (subst (λ k. slice_get list k ≡ Some other) here is) in
              let e : true ≡ false = sym grid ∙ (ap (λ (i : InputUse). is_grid_role i.role) (sym same) ∙ role) in absurd (cc)
