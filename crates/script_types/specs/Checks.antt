-- The first fault: of a list of tests, and of results one after another.
use Rattle.std.specs.Prelude.{Bool, List, [], ◌∷◌, Result, Ok, Err, if◌then◌else◌}
use Rattle.text_base.specs.Results.{◌>>=◌}

-- the value, or the first fault of the list whose test holds
abbrev pub passed : {F A : Type 0} → List (F × Bool) → A → Result A F
passed [] x = Ok x
passed (c ∷ cs) x = if c.1 then Err c.0 else passed cs x

-- the values from the left, or the first fault
abbrev pub all_of : {A F : Type 0} → List (Result A F) → Result (List A) F
all_of [] = Ok []
all_of (r ∷ rs) = r >>= λ x. all_of rs >>= λ xs. Ok (x ∷ xs)
