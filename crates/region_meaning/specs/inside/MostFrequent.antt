-- The most frequent number, by going through the numbers.
use Rattle.std.specs.Prelude.{ℤ, List, fold, Bool, ◌==◌, ◌&&◌, ◌||◌, nat_lt, int_lt, if◌then◌else◌}
use Rattle.region_meaning.specs.Numbers.{occurrences}

-- a number stands more often among numbers than another one, or as often and is less
abbrev pub is_ahead : List ℤ → ℤ → ℤ → Bool
is_ahead numbers a b =
    nat_lt (occurrences numbers b) (occurrences numbers a) || ((occurrences numbers a == occurrences numbers b) && int_lt a b)

-- the one of two numbers that is ahead of the other
abbrev pub first_of_two : List ℤ → ℤ → ℤ → ℤ
first_of_two numbers a b = if is_ahead numbers b a then b else a

-- the most frequent one of numbers of which one is given, the least of several
unfoldable pub most_frequent : List ℤ → ℤ → ℤ
most_frequent numbers first = fold (first_of_two numbers) first numbers
