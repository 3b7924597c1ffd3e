-- Tallies of numbers, and maps of them.
use Rattle.std.specs.Prelude.{◌≡◌, ◌≤◌, ◌*◌, ◌^◌, ◌+◌, ℕ, zero, suc, ℤ, pos, ◌+ℤ◌, ◌*ℤ◌, unsigned_abs}
use Rattle.std.specs.Prelude.{List, [], ◌∷◌, length, Option, Some, None, Ok}
use Rattle.std.specs.Prelude.{if◌then◌else◌}
use Rattle.std.specs.Int.{int_max, int_min}
use Rattle.std.specs.Option.{unwrap_or}
use Rattle.std.specs.Ordering.{int_eq}
use Rattle.std.specs.BTreeMap.{BTreeMap}
use Rattle.std.specs.Map.{lookup}
use Rattle.cell_values.specs.declared.kind.Kind.TheVariants.{Scalar}
use Rattle.cell_values.specs.declared.cell.Cell.{Cell}
use Rattle.cell_values.specs.declared.cell.Cell.TheVariants.{Mv, Val}
use Rattle.cell_values.specs.Kinds.{cell_of_number}
use Rattle.cell_values.specs.Rounding.{nearest}
use Rattle.cell_values.specs.Units.{million}
use Rattle.tile_map.specs.Parts.{Outcome}
use Rattle.region_meaning.specs.declared.area.AreaOp.{AreaOp}
use Rattle.region_meaning.specs.declared.area.AreaOp.TheVariants.{Total, Average, Minimum, Maximum, Diversity, Majority, Area}
use Rattle.area_ops.specs.declared.tally.Tally.{Tally}
use Rattle.region_meaning.specs.Areas.{taken_by_class}
use Rattle.region_meaning.specs.Numbers.{greatest_of, least_of, total_of}

-- the tally of no number
abbrev pub no_tally : Tally
no_tally = record { count = 0; total = pos 0; least = pos 0; greatest = pos 0 }

-- the tally of one number
abbrev pub tally_of_one : ℤ → Tally
tally_of_one x = record { count = 1; total = x; least = x; greatest = x }

-- the tally of numbers: how many there are, their sum, the least and the greatest
unfoldable pub number_tally : List ℤ → Tally
number_tally [] = no_tally
number_tally (x ∷ xs) = record { count = length (x ∷ xs); total = total_of (x ∷ xs); least = least_of x xs; greatest = greatest_of x xs }

-- the tally of a number that there may be
abbrev pub tally_of_option : Option ℤ → Tally
tally_of_option None = no_tally
tally_of_option (Some x) = tally_of_one x

-- the tally of what an operation takes from one place for a class
unfoldable pub place_tally : AreaOp → ℤ → Cell → Cell → Tally
place_tally op class value area = tally_of_option (taken_by_class op class value area)

-- two tallies that both have numbers, as one
abbrev pub tally_sum : Tally → Tally → Tally
tally_sum a b =
    record {
      count = a.count + b.count;
      total = a.total +ℤ b.total;
      least = int_min a.least b.least;
      greatest = int_max a.greatest b.greatest;
    }

-- two tallies as one, by how many numbers they have
abbrev pub joined_by : ℕ → ℕ → Tally → Tally → Tally
joined_by m zero a b = a
joined_by zero (suc n) a b = b
joined_by (suc m) (suc n) a b = tally_sum a b

-- two tallies as one
unfoldable pub tally_join : Tally → Tally → Tally
tally_join a b = joined_by a.count b.count a b

-- the sum of a tally is that of numbers of 64 bits, and one without numbers is that of no number
pub record IsTally (t : Tally) : Type 0 where
  pub bounded : unsigned_abs t.total ≤ t.count * 2 ^ 63
  pub empty : t.count ≡ 0 → t ≡ no_tally

-- what an operation gives of a tally that has numbers
abbrev pub tally_value : AreaOp → Tally → Outcome
tally_value Total t = cell_of_number Scalar t.total
tally_value Average t = cell_of_number Scalar (nearest t.total t.count)
tally_value Minimum t = Ok (Val t.least)
tally_value Maximum t = Ok (Val t.greatest)
tally_value Diversity t = Ok Mv
tally_value Majority t = Ok Mv
tally_value Area t = Ok (Val (pos t.count *ℤ pos million))

-- what an operation gives of a tally, by how many numbers it has
abbrev pub tally_value_by : ℕ → AreaOp → Tally → Outcome
tally_value_by zero op t = Ok Mv
tally_value_by (suc n) op t = tally_value op t

-- what an operation gives of a tally
unfoldable pub tally_result : AreaOp → Tally → Outcome
tally_result op t = tally_value_by t.count op t

-- the tally of a class among entries, each of a class: that of no number where there is none
unfoldable pub tally_in : List (ℤ × Tally) → ℤ → Tally
tally_in entries class = unwrap_or (lookup (λ own. int_eq class own) entries) no_tally

-- the tally of a class in a map of tallies
abbrev pub tally_at : BTreeMap ℤ Tally → ℤ → Tally
tally_at areas class = tally_in areas.entries class

-- a tally of one class as another class sees it
unfoldable pub seen_from : ℤ → ℤ → Tally → Tally
seen_from class own t = if int_eq own class then t else no_tally

-- a class's tally, and what further entries have for it
abbrev pub with_entries : ℤ → Tally → List (ℤ × Tally) → Tally
with_entries class t [] = t
with_entries class t (e ∷ es) = with_entries class (tally_join t (seen_from class e.0 e.1)) es

-- each tally is sound, and has at most so many numbers
pub record AreTallies (most : ℕ) (tally : ℤ → Tally) : Type 0 where
  pub sound : (class : ℤ) → IsTally (tally class)
  pub few : (class : ℤ) → (tally class).count ≤ most
