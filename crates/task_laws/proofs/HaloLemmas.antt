-- Windows, and one step up or down stream.
use Rattle.std.proofs.Common.{◌≡◌, ℕ, ◌<◌, List, length, refl, sym, ap, ◌∙◌, arith}
use Rattle.std.specs.Prelude.{Ok, Result}
use Rattle.cell_values.specs.declared.cell.Cell.{Cell}
use Rattle.drain_meaning.specs.declared.flow.Flow.{Flow}
use Rattle.drain_meaning.specs.declared.op.NearOp.{NearOp}
use Rattle.drain_meaning.specs.Drains.{DrainMap}
use Rattle.drain_meaning.specs.Near.{near_flow, near_outcome}
use Rattle.drain_ops.specs.Surroundings.{AreSurroundings}
use Rattle.drain_ops.specs.inside.Cutout.{cutout, flow_within}
use Rattle.drain_ops.proofs.NearLemmas.{AreFlows, part_result}
use Rattle.drain_meaning.specs.Flows.{nothing}
use Rattle.region_meaning.specs.declared.window.WindowOp.{WindowOp}
use Rattle.region_meaning.specs.Windows.{window_outcome}
use Rattle.tile_map.specs.declared.part.Part.{Part}
use Rattle.tile_map.specs.declared.rect.Rect.{Rect}
use Rattle.tile_map.specs.Cuts.{cell_at, cut_of}
use Rattle.tile_map.specs.Parts.{part_of, tabulate}
use Rattle.tile_map.specs.Rects.{IsInMap, cell_count, grown, place_in}
use Rattle.tile_map.proofs.PartLemmas.{get_or-tabulate}
use Rattle.window_ops.specs.Surroundings.{AreAround, IsInside}
use Rattle.tile_map.proofs.Callers.{part_of-same}
use Rattle.window_ops.proofs.AroundLemmas.{outcome-around}
use Rattle.map_meaning.specs.Maps.{CellAt}
use Rattle.map_meaning.specs.Rules.{Rule, Setting, by_rule, drain_by, operand_at, reach_of, whole_by}
use Rattle.tile_cuts.specs.TileParts.{part_in}
use Rattle.task_laws.specs.Laws.{CarryScalars, NearLookAtTheirHalo, WindowsLookAtTheirHalo, halo_of}

-- ---- the rectangle around

-- a grown rectangle lies in the map
pub grown_in : (rows cols k : ℕ) (r : Rect) → IsInMap rows cols r → IsInMap rows cols (grown rows cols k r)
unfolding grown
grown_in rows cols k r is = let a = is.below in let b = is.right in record { below = omega arith; right = omega arith }

-- and holds the rectangle
pub inside_grown : (rows cols k : ℕ) (r : Rect) → IsInMap rows cols r → IsInside r (grown rows cols k r)
unfolding grown
inside_grown rows cols k r is = let a = is.below in let b = is.right in record { top = omega arith; bottom = omega arith; left = omega arith; right = omega arith }

-- and itself
pub inside_itself : (r : Rect) → IsInside r r
inside_itself r = record { top = omega arith; bottom = omega arith; left = omega arith; right = omega arith }

-- a cut of the grown rectangle is what is around
pub around_halo : (rows cols k : ℕ) (m : List Cell) (r : Rect) → IsInMap rows cols r → AreAround rows cols k m (cut_of cols m (grown rows cols k r)) r (grown rows cols k r)
around_halo rows cols k m r is = record { inner_in = is; around_in = grown_in rows cols k r is; reach = inside_itself (grown rows cols k r); cells_are = refl }

-- ---- windows

-- maps that are the same in a halo have the same windows in the rectangle
windows_alike : (w : WindowOp) (rows cols k : ℕ) (m n : List Cell) (r : Rect) → IsInMap rows cols r → cut_of cols m (grown rows cols k r) ≡ cut_of cols n (grown rows cols k r) → (i : ℕ) → i < cell_count r →
    window_outcome w rows cols k m (place_in cols r i) ≡ window_outcome w rows cols k n (place_in cols r i)
windows_alike w rows cols k m n r is same i below =
    let around = grown rows cols k r in
    let cells = cut_of cols m around in
    let inside = inside_grown rows cols k r is in
    let of_n : AreAround rows cols k n cells r around = record { inner_in = is; around_in = grown_in rows cols k r is; reach = inside_itself around; cells_are = same } in
    sym (outcome-around w rows cols k m cells r around (around_halo rows cols k m r is) inside i below)
    ∙ outcome-around w rows cols k n cells r around of_n inside i below

pub windows_look : WindowsLookAtTheirHalo
unfolding part_in
windows_look o w setting xs ys r rule is same =
    let k = reach_of setting.window in
    let of = λ (operands : List CellAt) (i : ℕ). window_outcome w setting.rows setting.cols k (whole_by setting (operand_at operands 0)) (place_in setting.cols r i) in
    let by = λ (q : Rule) (operands : List CellAt). part_of (λ i. by_rule q setting operands (place_in setting.cols r i)) (cell_count r) in
    ap (λ (q : Rule). by q xs) rule
    ∙ (part_of-same (of xs) (of ys) (cell_count r) (windows_alike w setting.rows setting.cols k (whole_by setting (operand_at xs 0)) (whole_by setting (operand_at ys 0)) r is same)
    ∙ ap (λ (q : Rule). by q ys) (sym rule))

-- ---- one step up or down stream

-- what comes to each cell of the codes and the values of a rectangle
flows_of : NearOp → Rect → List Cell → List Cell → List Flow
flows_of n around codes cells = tabulate (near_flow n (cutout around codes) (cell_at cells)) (length codes)

are_flows : (n : NearOp) (around : Rect) (codes cells : List Cell) → AreFlows n around codes cells (flows_of n around codes cells)
unfolding flows_of
are_flows n around codes cells = record { each = λ d below. get_or-tabulate (near_flow n (cutout around codes) (cell_at cells)) (length codes) d nothing below }

-- the part that they come to is that of each drain map and each map of values that has these codes and values
near_is : (n : NearOp) (m : DrainMap) (values codes cells : List Cell) (around inner : Rect) → AreSurroundings m values codes cells around inner →
    part_of (flow_within around codes (flows_of n around codes cells) inner) (cell_count inner) ≡ part_of (λ i. near_outcome n m (cell_at values) (place_in m.cols inner i)) (cell_count inner)
near_is n m values codes cells around inner a =
    let part = part_of (flow_within around codes (flows_of n around codes cells) inner) (cell_count inner) in
    let r : Result Part ℕ = Ok part in
    part_result r n codes cells around inner (flows_of n around codes cells) (are_flows n around codes cells) refl m values a

-- the codes and the values of a halo
surrounding : (setting : Setting) (operands : List CellAt) (r : Rect) → IsInMap setting.rows setting.cols r → CarryScalars setting operands → (codes cells : List Cell) → codes ≡ halo_of setting 1 r (operand_at operands 0) → cells ≡ halo_of setting 1 r (operand_at operands 1) →
    AreSurroundings (drain_by setting (operand_at operands 0)) (whole_by setting (operand_at operands 1)) codes cells (grown setting.rows setting.cols 1 r) r
surrounding setting operands r is carry codes cells a b = record { map = carry.map; scalars = carry.scalars; inner_in_map = is; grown_by_one = refl; codes_cut = a; cells_cut = b }

pub near_look : NearLookAtTheirHalo
unfolding part_in
near_look o n setting xs ys r rule is of_xs of_ys same_codes same_values =
    let around = grown setting.rows setting.cols 1 r in
    let codes = halo_of setting 1 r (operand_at xs 0) in
    let cells = halo_of setting 1 r (operand_at xs 1) in
    let by = λ (q : Rule) (operands : List CellAt). part_of (λ i. by_rule q setting operands (place_in setting.cols r i)) (cell_count r) in
    ap (λ (q : Rule). by q xs) rule
    ∙ (sym (near_is n (drain_by setting (operand_at xs 0)) (whole_by setting (operand_at xs 1)) codes cells around r (surrounding setting xs r is of_xs codes cells refl refl))
    ∙ (near_is n (drain_by setting (operand_at ys 0)) (whole_by setting (operand_at ys 1)) codes cells around r (surrounding setting ys r is of_ys codes cells same_codes same_values)
    ∙ ap (λ (q : Rule). by q ys) (sym rule)))
