-- The last point that is not 0.
use Rattle.std.proofs.Common.{◌≡◌, ℤ, pos, Bool, true, false, List, [], ◌∷◌, refl, sym, ap, cond, ◌∙◌}
use Rattle.std.specs.Prelude.{not, ⊤}
use Rattle.std.specs.List.{filter, filter_map, list_any}
use Rattle.std.specs.Ordering.{int_eq}
use Rattle.std.proofs.lemmas.Bool.Decides.{Decides-int_eq}
use Rattle.cell_values.specs.declared.cell.Cell.{Cell}
use Rattle.cell_values.specs.declared.cell.Cell.TheVariants.{Mv, Val}
use Rattle.drain_meaning.specs.declared.flow.Flow.{Flow}
use Rattle.drain_meaning.specs.declared.flow.Flow.TheVariants as flow
use Rattle.drain_meaning.specs.Accumulation.{last_point}
use Rattle.drain_meaning.specs.Equations.{farthest}
use Rattle.meaning_laws.specs.Points.{is_missing_point, last_nonzero, last_or_zero, nonzero, point_number}

-- none of these numbers is 0
abbrev HasNoZero : List ℤ → Type 0
HasNoZero [] = ⊤
HasNoZero (z ∷ more) = (int_eq z (pos 0) ≡ false) × HasNoZero more

-- what is left of a list without its zeros has none
kept_more : (z : ℤ) (more : List ℤ) (b : Bool) → int_eq z (pos 0) ≡ b → HasNoZero more → HasNoZero (cond (not b) (z ∷ more) more)
kept_more z more true is kept = kept
kept_more z more false is kept = (is, kept)

kept : (zs : List ℤ) → HasNoZero (filter (λ z. not (int_eq z (pos 0))) zs)
kept [] = tt
kept (z ∷ more) = kept_more z (filter (λ z. not (int_eq z (pos 0))) more) (int_eq z (pos 0)) refl (kept more)

-- the last of numbers none of which is 0 is not 0
last_kept : (z : ℤ) (more : List ℤ) → HasNoZero (z ∷ more) → int_eq (last_or_zero (z ∷ more)) (pos 0) ≡ false
last_kept z [] none = none.0
last_kept z (next ∷ more) none = last_kept next more none.1

-- one more number in front of those that are not 0: the last stays, if there is one
in_front : (z : ℤ) (more : List ℤ) → HasNoZero more → last_or_zero (z ∷ more) ≡ cond (int_eq (last_or_zero more) (pos 0)) z (last_or_zero more)
in_front z [] none = refl
in_front z (next ∷ more) none = sym (ap (λ b. cond b z (last_or_zero (next ∷ more))) (last_kept next more none))

-- a 0 in front changes nothing
zero_in_front : (z last : ℤ) (b : Bool) → z ≡ pos 0 → int_eq last (pos 0) ≡ b → cond b z last ≡ last
zero_in_front z last true zero is = zero ∙ sym ((Decides-int_eq last (pos 0)).0 is)
zero_in_front z last false zero is = refl

-- a missing point makes the whole missing
missing_own : (below : Flow) → farthest below flow.Mv ≡ flow.Mv
missing_own flow.Mv = refl
missing_own (flow.Num n) = refl

-- by the numbers of the points, from the last one on
pub last_point_is : (points : List Cell) → last_point points ≡ last_nonzero points
last_point_is [] = refl
last_point_is (Mv ∷ points) = missing_own (last_point points)
last_point_is (Val z ∷ points) = ap (λ below. farthest below (flow.Num z)) (last_point_is points) ∙ by (list_any is_missing_point points)
  where
    last : ℤ
    last = last_or_zero (nonzero points)

    of_own : (b : Bool) → int_eq z (pos 0) ≡ b → cond (int_eq last (pos 0)) z last ≡ last_or_zero (cond (not b) (z ∷ nonzero points) (nonzero points))
    of_own true is = zero_in_front z last (int_eq last (pos 0)) ((Decides-int_eq z (pos 0)).0 is) refl
    of_own false is = sym (in_front z (nonzero points) (kept (filter_map point_number points)))

    by : (b : Bool) → farthest (cond b flow.Mv (flow.Num last)) (flow.Num z) ≡ cond b flow.Mv (flow.Num (last_or_zero (nonzero (Val z ∷ points))))
    by true = refl
    by false = ap (λ (number : ℤ). flow.Num number) (of_own (int_eq z (pos 0)) refl)
