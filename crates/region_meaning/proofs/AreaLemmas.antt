-- The numbers of areas.
use Rattle.std.proofs.Common.{◌≡◌, ℕ, suc, ◌≤◌, Bool, true, false, cond, List, [], ◌∷◌, length, arith, ℤ}
use Rattle.std.specs.Prelude.{Option, Some, None, IfSome}
use Rattle.std.specs.List.{All, cons_option, filter_map}
use Rattle.std.specs.Ordering.{int_eq}
use Rattle.std.proofs.lemmas.List.Elements.{All-cons, All-head, All-nil, All-tail}
use Rattle.cell_values.specs.declared.kind.Kind.{Kind}
use Rattle.cell_values.specs.declared.cell.Cell.{Cell}
use Rattle.cell_values.specs.declared.cell.Cell.TheVariants.{Mv, Val}
use Rattle.cell_values.specs.Kinds.{IsCell, IsValue}
use Rattle.region_meaning.specs.declared.area.AreaOp.{AreaOp}
use Rattle.region_meaning.specs.declared.area.AreaOp.TheVariants.{Total, Average, Minimum, Maximum, Diversity, Majority, Area}
use Rattle.region_meaning.specs.Areas.{AreaPlace, numbers_of, taken, taken_by_class}

-- ---- lists

one_more : {Y : Type 0} (Q : Y → Type 0) (o : Option Y) (ys : List Y) → IfSome o Q → All Q ys → All Q (cons_option o ys)
one_more Q None ys is all = all
one_more Q (Some y) ys is all = All-cons Q y ys is all

-- what holds of each value that is taken holds of all of them
filter_map-all : {X Y : Type 0} (P : X → Type 0) (Q : Y → Type 0) (f : X → Option Y) → ((x : X) → P x → IfSome (f x) Q) → (xs : List X) → All P xs → All Q (filter_map f xs)
filter_map-all P Q f each [] all = All-nil Q
filter_map-all P Q f each (x ∷ xs) all =
    one_more Q (f x) (filter_map f xs) (each x (All-head P x xs all)) (filter_map-all P Q f each xs (All-tail P x xs all))

length-cons_option : {Y : Type 0} (o : Option Y) (ys : List Y) (n : ℕ) → length ys ≤ n → length (cons_option o ys) ≤ suc n
length-cons_option None ys n h = omega arith
length-cons_option (Some y) ys n h = omega arith

-- as many as there are at most
length-filter_map : {X Y : Type 0} (f : X → Option Y) (xs : List X) → length (filter_map f xs) ≤ length xs
length-filter_map f [] = omega arith
length-filter_map f (x ∷ xs) = length-cons_option (f x) (filter_map f xs) (length xs) (length-filter_map f xs)

-- ---- areas

-- the operation takes the values of places
abbrev pub takes_values : AreaOp → Bool
takes_values Area = false
takes_values op = true

taken-value : (op : AreaOp) (kind : Kind) (value : Cell) → takes_values op ≡ true → IsCell kind value → IfSome (taken op value) (IsValue kind)
taken-value Total kind Mv takes is = tt
taken-value Total kind (Val v) takes is = is
taken-value Average kind Mv takes is = tt
taken-value Average kind (Val v) takes is = is
taken-value Minimum kind Mv takes is = tt
taken-value Minimum kind (Val v) takes is = is
taken-value Maximum kind Mv takes is = tt
taken-value Maximum kind (Val v) takes is = is
taken-value Diversity kind Mv takes is = tt
taken-value Diversity kind (Val v) takes is = is
taken-value Majority kind Mv takes is = tt
taken-value Majority kind (Val v) takes is = is
taken-value Area kind value takes is = absurd cc

if_same : {Y : Type 0} (Q : Y → Type 0) (b : Bool) (o : Option Y) → IfSome o Q → IfSome (cond b o None) Q
if_same Q true o is = is
if_same Q false o is = tt

taken_by_class-value : (op : AreaOp) (kind : Kind) (class : ℤ) (value area : Cell) → takes_values op ≡ true → IsCell kind value → IfSome (taken_by_class op class value area) (IsValue kind)
taken_by_class-value op kind class value Mv takes is = tt
taken_by_class-value op kind class value (Val own) takes is = if_same (IsValue kind) (int_eq own class) (taken op value) (taken-value op kind value takes is)

-- the numbers of an area of values of a kind
pub numbers_of-in_kind : (op : AreaOp) (kind : Kind) (places : List AreaPlace) (class : ℤ) → takes_values op ≡ true → All (λ p. IsCell kind p.value) places →
    All (IsValue kind) (numbers_of op places class)
numbers_of-in_kind op kind places class takes all =
    filter_map-all (λ (p : AreaPlace). IsCell kind p.value) (IsValue kind) (λ p. taken_by_class op class p.value p.area)
    (λ p is. taken_by_class-value op kind class p.value p.area takes is) places all

-- an area has at most as many numbers as there are places
pub length-numbers_of : (op : AreaOp) (places : List AreaPlace) (class : ℤ) → length (numbers_of op places class) ≤ length places
length-numbers_of op places class = length-filter_map (λ (p : AreaPlace). taken_by_class op class p.value p.area) places
