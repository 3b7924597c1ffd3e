-- How far tokens are taken.
use Rattle.std.specs.Prelude.{List, [], ◌∷◌, Option, Some, None}
use Rattle.script_syntax.specs.declared.token.Token.{Token}
use Rattle.script_syntax.specs.declared.reading.Reading.{Reading}
use Rattle.script_syntax.specs.inside.Readings.{reading_step}

-- where tokens lead: all of them were taken, or these are left, of which the first is taken by no script
pub data Went : Type 0 where
  done : Reading → Went
  stuck : List Token → Went

-- a token that was taken leads on, and another one stops
abbrev pub went_onward : Option Reading → List Token → (Reading → Went) → Went
went_onward None ts next = stuck ts
went_onward (Some r) ts next = next r

-- where tokens lead from a reading
abbrev pub go : Reading → List Token → Went
go r [] = done r
go r (t ∷ ts) = went_onward (reading_step r t) (t ∷ ts) (λ next. go next ts)
