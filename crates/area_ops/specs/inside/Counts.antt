-- How often each number stands in each class, as a map from the class and the number.
use Rattle.std.specs.Prelude.{◌≡◌, ◌≤◌, ◌<◌, ℕ, ℤ, List, Bool, true, false, Option, Some, None, if◌then◌else◌}
use Rattle.std.specs.declared.cmp.Ordering.{Ordering}
use Rattle.std.specs.Ordering.{int_cmp, int_eq, is_eq, ordering_then}
use Rattle.std.specs.Option.{unwrap_or}
use Rattle.std.specs.BTreeMap.{BTreeMap, is_at}
use Rattle.std.specs.Map.{lookup}
use Rattle.cell_values.specs.declared.cell.Cell.{Cell}
use Rattle.region_meaning.specs.declared.area.AreaOp.{AreaOp}
use Rattle.region_meaning.specs.declared.area.AreaOp.TheVariants.{Diversity, Majority}
use Rattle.region_meaning.specs.Areas.{taken_by_class}

-- the operation asks how often each number stands in a class
abbrev pub counts_numbers : AreaOp → Bool
counts_numbers Diversity = true
counts_numbers Majority = true
counts_numbers op = false

-- a number of a class: the class, and the number
abbrev pub Member : Type 0
Member = ℤ × ℤ

-- numbers of classes in the order of the classes, and in a class in their own
abbrev pub member_cmp : Member → Member → Ordering
member_cmp a b = ordering_then (int_cmp a.0 b.0) (int_cmp a.1 b.1)

-- how often a number stands in a class, by entries that each have a count: 0 where there is none
unfoldable pub count_in : List (Member × ℕ) → Member → ℕ
count_in entries member = unwrap_or (lookup (is_at (member_cmp member)) entries) 0

-- how often a number stands in a class, by a map of counts
abbrev pub count_at : BTreeMap Member ℕ → Member → ℕ
count_at counts member = count_in counts.entries member

-- the count of a number of a class as another one sees it
abbrev pub count_seen : Member → Member → ℕ → ℕ
count_seen member own count = if is_eq (member_cmp own member) then count else 0

-- how often a number is the one that there may be
abbrev pub count_of_option : Option ℤ → ℤ → ℕ
count_of_option None number = 0
count_of_option (Some own) number = if int_eq own number then 1 else 0

-- how often a place gives a number of a class
unfoldable pub times_given : AreaOp → Member → Cell → Cell → ℕ
times_given op member value area = count_of_option (taken_by_class op member.0 value area) member.1

-- each number that has an entry stands there, at most so many times
pub record AreCounts (most : ℕ) (entries : List (Member × ℕ)) : Type 0 where
  pub few : (member : Member) → count_in entries member ≤ most
  pub some : (member : Member) (count : ℕ) → lookup (is_at (member_cmp member)) entries ≡ Some count → 0 < count
