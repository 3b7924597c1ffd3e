-- Drain maps that are computed from what is held.
use Rattle.std.proofs.Common.{◌≡◌, ℕ, zero, suc, ◌+◌, ◌*◌, ◌<◌, ◌≤◌, true, cond, List, [], ◌∷◌, length, map, take, refl, sym, ap, subst, ◌∙◌, arith}
use Rattle.std.specs.Prelude.{◌&&◌, IfSome, IsSomeAnd, None, Option, Some, option_map, slice_get, slice_index_or}
use Rattle.std.specs.List.{range_with_len}
use Rattle.std.specs.Option.{unwrap_or}
use Rattle.std.proofs.lemmas.Bool.{eq-eqb}
use Rattle.cell_values.specs.declared.cell.Cell.{Cell}
use Rattle.cell_values.specs.declared.cell.Cell.TheVariants.{Mv}
use Rattle.cell_values.specs.declared.kind.Kind.TheVariants as kinds
use Rattle.tile_map.specs.Cuts.{cell_at}
use Rattle.tile_map.proofs.PartLemmas as parts
use Rattle.drain_meaning.specs.declared.next.Next.{Next}
use Rattle.drain_meaning.specs.declared.next.Next.TheVariants as next
use Rattle.drain_meaning.specs.Drains.{DrainMap, IsDrainMap, next_at}
use Rattle.drain_meaning.specs.Masks.{is_chosen, is_kept, kept_code, leads_on, lddmask_of, masked_code, pit_code}
use Rattle.drain_meaning.specs.Sound.{IsDrain}
use Rattle.drain_meaning.proofs.Callers.{masked_drain, next_inside}
use Rattle.map_meaning.specs.declared.program.DrainFrom.{DrainFrom}
use Rattle.map_meaning.specs.declared.program.DrainFrom.TheVariants as drain
use Rattle.map_meaning.specs.declared.program.DrainUse.{DrainUse}
use Rattle.map_meaning.specs.declared.program.InputUse.{InputUse}
use Rattle.map_meaning.specs.declared.program.Operand.{Operand}
use Rattle.map_meaning.specs.declared.program.Operand.TheVariants.{Unused, Literal, Time, Input, Initial, Now, Last, Drain}
use Rattle.map_meaning.specs.declared.program.Operand.TheVariants as from
use Rattle.map_meaning.specs.declared.program.Operation.{Operation}
use Rattle.map_meaning.specs.declared.program.Program.{Program}
use Rattle.map_meaning.specs.declared.program.Role.TheVariants.{Grid}
use Rattle.map_meaning.specs.Evaluation.{Done, drain_codes, operand_map}
use Rattle.map_meaning.specs.Maps.{IsMapOf, WholeMap, nth}
use Rattle.map_meaning.specs.Programs.{IsBelow, IsDrainUse, IsFrom, IsInput, IsOperation, input_kind, is_grid_role, is_initial, is_mask, is_mask_by, operand_kind}
use Rattle.map_meaning.specs.Scenes.{Scene}
use Rattle.map_meaning.specs.Spans.{kept_map}
use Rattle.map_meaning.specs.Table.{is_kind}
use Rattle.map_meaning.proofs.WholeMaps.{drain_use_of, input_item, input_there, there}
use Rattle.run_session.specs.declared.frame.Frame.{Frame}
use Rattle.run_session.specs.declared.inputs.Inputs.{Inputs}
use Rattle.run_session.specs.declared.stages.StageMaps.{StageMaps}
use Rattle.run_session.specs.declared.work.Work.{Work}
use Rattle.run_session.specs.inside.Parts.{IsDrainFor, drain_over}
use Rattle.run_session.specs.inside.Running.{IsDrainOver, IsPrepared}
use Rattle.run_session.specs.inside.Stages.{HasMask, HasSource, IsLeft, held_drain, initial_scene, left_drain, mask_cell, no_drain}
use Rattle.run_session.specs.inside.Standings.{codes_of}
use Rattle.run_session.proofs.KeptMaps.{kept_mask}
use Rattle.run_session.proofs.StageValues.{first_operation_of}
use Rattle.run_session.proofs.StepReports.{any_at}
use Rattle.run_session.proofs.StepValues.{kept_is}

-- ---- masks that are the same over a map

-- functions that agree on numbers from one on give the same lists
map_range : {A : Type 0} (f g : ℕ → A) (a n : ℕ) → ((k : ℕ) → a ≤ k → k < a + n → f k ≡ g k) → map f (range_with_len a n) ≡ map g (range_with_len a n)
map_range f g a zero same = refl
map_range f g a (suc n) same =
    ap (λ x. x ∷ map f (range_with_len (a + 1) n)) (same a (omega arith) (omega arith)) ∙
    ap (λ xs. g a ∷ xs) (map_range f g (a + 1) n (λ k from below. same k (omega (arith, from)) (omega (arith, below))))

module _ (m : DrainMap) (is : IsDrainMap m) (f g : ℕ → Cell) (same : (c : ℕ) → c < length m.codes → f c ≡ g c) where
  kept_alike : (c : ℕ) → c < length m.codes → is_kept m f c ≡ is_kept m g c
  kept_alike c below = ap (λ x. leads_on (next_at m c) && is_chosen x) (same c below)

  code_alike : (c : ℕ) (n : Next) → next_at m c ≡ n → kept_code m f (cell_at m.codes c) n ≡ kept_code m g (cell_at m.codes c) n
  code_alike c (next.Cell d) e = ap (λ b. cond b (cell_at m.codes c) pit_code) (kept_alike d (next_inside m is c d e))
  code_alike c next.Pit e = refl
  code_alike c next.Outside e = refl
  code_alike c next.Missing e = refl

  masked_alike : (c : ℕ) → c < length m.codes → masked_code m f c ≡ masked_code m g c
  masked_alike c below =
      ap (λ b. cond b (kept_code m f (cell_at m.codes c) (next_at m c)) Mv) (kept_alike c below) ∙
      ap (λ x. cond (is_kept m g c) x Mv) (code_alike c (next_at m c) refl)

  -- the part that a mask keeps
  pub mask_alike : lddmask_of m f ≡ lddmask_of m g
  unfolding lddmask_of
  mask_alike =
      let P : List Cell → DrainMap = λ codes. record { rows = m.rows; cols = m.cols; codes = codes } in
      ap P (map_range (masked_code m f) (masked_code m g) 0 (length m.codes) (λ k from below. masked_alike k (omega (arith, below))))

-- the part that a mask keeps has the size of the map
mask_rows : (m : DrainMap) (f : ℕ → Cell) → (lddmask_of m f).rows ≡ m.rows
unfolding lddmask_of
mask_rows m f = refl

mask_cols : (m : DrainMap) (f : ℕ → Cell) → (lddmask_of m f).cols ≡ m.cols
unfolding lddmask_of
mask_cols m f = refl

-- ---- lists of drain maps

-- the codes of a drain map that is held
pub codes_at : (drains : List DrainMap) (k : ℕ) → k < length drains → nth (codes_of drains) k ≡ (slice_index_or drains k no_drain).codes
codes_at [] k below = absurd (omega arith)
codes_at (m ∷ drains) zero below = refl
codes_at (m ∷ drains) (suc k) below = codes_at drains k (omega (arith, below))

-- what is found is what it is
found_is : (o : Option DrainMap) (m : DrainMap) → o ≡ Some m → unwrap_or o no_drain ≡ m
found_is o m is = ap (λ x. unwrap_or x no_drain) is

-- an operation of the first ones stands among them
pub stands_first : (operations : List Operation) (end n : ℕ) (o : Operation) → n < end → slice_get operations n ≡ Some o → slice_get (take end operations) n ≡ Some o
stands_first operations zero n o below is = absurd (omega arith)
stands_first [] (suc end) n o below is = absurd (cc)
stands_first (p ∷ more) (suc end) zero o below is = is
stands_first (p ∷ more) (suc end) (suc n) o below is = stands_first more end n o (omega (arith, below)) is

module _ (work : Work) (prepared : IsPrepared work) (first : ℕ) (done : Done) (left : StageMaps) (is : IsLeft work.program.value work.inputs first done left) where
  abbrev program : Program
  program = work.program.value

  abbrev inputs : Inputs
  inputs = work.inputs

  abbrev frame : Frame
  frame = work.inputs.frame

  abbrev places : ℕ
  places = work.inputs.frame.rows * work.inputs.frame.cols

  abbrev scene : Scene
  scene = initial_scene program inputs

  -- a drain map that is held is sound
  held_sound : (k : ℕ) → k < length left.drains → IsDrainOver frame (left_drain left k)
  held_sound k below = is.sound k no_drain below

  -- it has the codes of what is done
  held_codes : (k : ℕ) → k < length left.drains → nth done.drains k ≡ (left_drain left k).codes
  held_codes k below = ap (λ ms. nth ms k) (sym is.codes) ∙ codes_at left.drains k below

  -- its codes are a whole map
  held_size : (k : ℕ) → k < length left.drains → length (left_drain left k).codes ≡ places
  held_size k below =
      let one = held_sound k below in
      let m = left_drain left k in
      one.sound.map.size ∙ (ap (λ r. r * m.cols) one.rows ∙ ap (λ c. frame.rows * c) one.cols)

  -- it is the drain map of the scene with its codes
  held_whole : (k : ℕ) → k < length left.drains → record { rows = frame.rows; cols = frame.cols; codes = nth done.drains k } ≡ left_drain left k
  held_whole k below =
      let one = held_sound k below in
      let m = left_drain left k in
      let P : ℕ → ℕ → List Cell → DrainMap = λ r c codes. record { rows = r; cols = c; codes = codes } in
      ap (λ r. P r frame.cols (nth done.drains k)) (sym one.rows) ∙ (ap (λ c. P m.rows c (nth done.drains k)) (sym one.cols) ∙ ap (P m.rows m.cols) (held_codes k below))

  -- what a drain map comes from is there, and it has the codes that are to be
  pub record IsHeld (one : DrainUse) : Type 0 where
    pub source : HasSource work left one.from
    pub codes : (held_drain work left one.from).codes ≡ drain_codes scene done one.from
    pub over : IsDrainOver frame (held_drain work left one.from)

  -- an input that is a drain map
  input_held : (k : ℕ) → IsInput program Grid k → input_kind program k ≡ Some kinds.Ldd → (slice_index_or work.drains k None ≡ Some (drain_over frame (nth scene.inputs k))) × IsDrain (drain_over frame (nth scene.inputs k)) × (k < length work.drains)
  input_held k there_is kind =
      let found = input_there program Grid k there_is in
      let input = found.0 in
      let ldd : input.kind ≡ kinds.Ldd = (let both : Some input.kind ≡ Some kinds.Ldd = sym (ap (option_map (λ (i : InputUse). i.kind)) found.1) ∙ kind in cc) in
      let for : IsDrainFor frame input (nth scene.inputs k) (slice_index_or work.drains k None) = prepared.drains.each k input found.1 (ap is_grid_role found.2) in
      let P : Option DrainMap = Some (drain_over frame (nth scene.inputs k)) in
      let one : slice_index_or work.drains k None ≡ P = for.is ∙ ap (λ kind. cond (is_kind kinds.Ldd kind) P None) ldd in
      let c : length work.drains ≡ length program.inputs = prepared.drains.count in
      let below : k < length program.inputs = there_is.within in
      (one, subst (λ o. IfSome o IsDrain) one for.sound, omega (arith, c, below))

  -- a kept map of an earlier stage masks
  mask_kept : (n k : ℕ) (one : DrainUse) (of : ℕ) → slice_get program.drains n ≡ Some one → one.from ≡ drain.Mask of (Initial k) → k < first → (kept_map left.kept k ≡ nth done.initial k) × (length (nth done.initial k) ≡ places)
  mask_kept n k one of at from below =
      let here = there program.initial k (let t : first ≤ length program.initial = is.there in omega (arith, below, t)) in
      let o = here.0 in
      let names : is_mask_by (is_initial k) one.from ≡ true = ap (is_mask_by (is_initial k)) from ∙ eq-eqb k k refl in
      let wanted : is_mask program k ≡ true = any_at (λ (d : DrainUse). is_mask_by (is_initial k) d.from) program.drains n one at names in
      let op : IsOperation program k o = first_operation_of program k o prepared.formed here.1 in
      let kept : o.kept ≡ true = op.kept ∙ kept_mask program k wanted in (
        ap (λ maps. kept_map maps k) is.kept ∙ kept_is 0 done.initial (take first program.initial) k o (stands_first program.initial first k o below here.1) kept,
        (is.whole k o below here.1).count,
      )

  -- a drain map and its mask
  mask_held : (n : ℕ) (one : DrainUse) (of : ℕ) (by : Operand) → slice_get program.drains n ≡ Some one → one.from ≡ drain.Mask of by → of < length left.drains → one.after ≤ first → IsBelow program one.after by → operand_kind program by ≡ Some kinds.Boolean →
      HasMask (length (left_drain left of).codes) program.inputs inputs.maps left.kept by
      × ((c : ℕ) → c < length (left_drain left of).codes → mask_cell program.inputs inputs.maps left.kept by c ≡ cell_at (operand_map scene done by) c)
  mask_held n one of Unused at from below due read kind = absurd (cc)
  mask_held n one of (Literal k cell) at from below due read kind = (tt, λ c less. sym (parts.get_or-tabulate (λ place. cell) places c Mv (let size = held_size of below in omega (arith, size, less))))
  mask_held n one of Time at from below due read kind = absurd read
  mask_held n one of (Input k) at from below due read kind =
      let found = input_there program Grid k read in
      let grid : is_grid_role found.0.role ≡ true = ap is_grid_role found.2 in
      let whole : IsMapOf places found.0.kind (nth scene.inputs k) =
      input_item is_grid_role [] (λ (input : InputUse) (m : WholeMap). IsMapOf places input.kind m) program.inputs inputs.maps k found.0 prepared.inputs.maps found.1 grid in
      ((subst (λ o. IsSomeAnd o (λ (input : InputUse). is_grid_role input.role ≡ true)) (sym found.1) grid, whole.count ∙ sym (held_size of below)), λ c less. refl)
  mask_held n one of (from.Stack k) at from below due read kind = absurd read
  mask_held n one of (Initial k) at from below due read kind =
      let less : k < one.after = read in
      let both = mask_kept n k one of at from (omega (arith, less, due)) in
      (ap length both.0 ∙ (both.1 ∙ sym (held_size of below)), λ c under. ap (λ m. cell_at m c) both.0)
  mask_held n one of (Now k) at from below due read kind = absurd read
  mask_held n one of (Last d i) at from below due read kind = absurd read
  mask_held n one of (Drain k) at from below due read kind = absurd (no_boolean (slice_get program.drains k) kind)
    where
      no_boolean : (o : Option DrainUse) → option_map (λ (d : DrainUse). kinds.Ldd) o ≡ Some kinds.Boolean → ⊥
      no_boolean None is = absurd (cc)
      no_boolean (Some d) is = absurd (cc)

  -- the drain map of a use
  held_by : (n : ℕ) (one : DrainUse) (f : DrainFrom) → slice_get program.drains n ≡ Some one → one.from ≡ f → n ≡ length left.drains → one.after ≤ first → IsFrom program n one.after f →
      HasSource work left f × ((held_drain work left f).codes ≡ drain_codes scene done f) × IsDrainOver frame (held_drain work left f)
  held_by n one (drain.Input k) at from count due is_from =
      let found = input_held k is_from.0 is_from.1 in
      let m = drain_over frame (nth scene.inputs k) in
      let same : unwrap_or (slice_index_or work.drains k None) no_drain ≡ m = found_is (slice_index_or work.drains k None) m found.0 in
      let there_is : slice_index_or work.drains k None ≡ None → ⊥ = λ none. (let e : None ≡ Some m = sym none ∙ found.0 in absurd (cc)) in
      let over : IsDrainOver frame m = record { sound = found.1; rows = refl; cols = refl } in
      ((found.2, there_is), ap (λ (d : DrainMap). d.codes) same, subst (IsDrainOver frame) (sym same) over)
  held_by n one (drain.Same k) at from count due is_from =
      let below : k < length left.drains = (let b : k < n = is_from in omega (arith, b, count)) in
      (below, sym (held_codes k below), held_sound k below)
  held_by n one (drain.Mask of by) at from count due is_from =
      let below : of < length left.drains = (let b : of < n = is_from.0 in omega (arith, b, count)) in
      let m = left_drain left of in
      let one_sound = held_sound of below in
      let mask = mask_held n one of by at from below due is_from.1 is_from.2 in
      let f = mask_cell program.inputs inputs.maps left.kept by in
      let g = cell_at (operand_map scene done by) in
      let alike : lddmask_of m f ≡ lddmask_of m g = mask_alike m one_sound.sound.map f g mask.1 in
      let whole = held_whole of below in (
        (below, mask.0),
        ap (λ (d : DrainMap). d.codes) alike ∙ ap (λ d. (lddmask_of d g).codes) (sym whole),
        record { sound = masked_drain m f one_sound.sound; rows = mask_rows m f ∙ one_sound.rows; cols = mask_cols m f ∙ one_sound.cols },
      )

  pub held : (n : ℕ) (one : DrainUse) → slice_get program.drains n ≡ Some one → n ≡ length left.drains → one.after ≤ first → IsHeld one
  held n one at count due =
      let same : 0 + n ≡ n = omega arith in
      let formed : IsDrainUse program n one = subst (λ j. IsDrainUse program j one) same (drain_use_of program 0 n program.drains one prepared.formed.drains at) in
      let all = held_by n one one.from at refl count due formed.from in
      record { source = all.0; codes = all.1; over = all.2 }
