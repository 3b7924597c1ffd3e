-- The names of the files of a stack of maps.
use Rattle.std.specs.Prelude.{ℕ, zero, suc, ◌+◌, ◌-◌, ◌/◌, ◌%◌, List, [], ◌∷◌, ◌++◌, length, take, drop}
use Rattle.text_base.specs.Bytes.{point}

-- a number in so many decimal digits, with zeros on the left; what does not fit is cut off there
abbrev pub in_digits : ℕ → ℕ → List ℕ
in_digits zero number = []
in_digits (suc more) number = in_digits more (number / 10) ++ (number % 10 + 48) ∷ []

-- eleven bytes with a point behind the eighth
abbrev pub pointed_name : List ℕ → List ℕ
pointed_name name = take 8 name ++ point ∷ drop 8 name

-- The file of a stack at a step: the prefix, and the step with zeros on the left, eleven bytes in all, with a point behind the
-- eighth.
abbrev pub stack_file : List ℕ → ℕ → List ℕ
stack_file prefix step = pointed_name (prefix ++ in_digits (11 - length prefix) step)
