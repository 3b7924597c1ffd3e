-- The value of a section, statement by statement over whole maps.
use Rattle.std.specs.Prelude.{ℕ, ◌+◌, List, [], ◌∷◌, ◌++◌, Result, Ok, if◌then◌else◌}
use Rattle.std.specs.Str.{bytes_eq}
use Rattle.text_base.specs.Results.{◌>>=◌}
use Rattle.map_meaning.specs.declared.known.OverAt.{OverAt}
use Rattle.map_meaning.specs.declared.tree.Statement.{Statement}
use Rattle.map_meaning.specs.Maps.{WholeMap}
use Rattle.map_meaning.specs.Scenes.{Scene}
use Rattle.map_meaning.specs.Trees.{Environment, value_of_tree}

-- the environment in which one name has this map, and each other name has what it had
abbrev pub with_name : Environment → List ℕ → WholeMap → Environment
with_name names target m name = if bytes_eq name target then m else names name

-- what stands after some statements: the map of each name, and the map of each of these statements
pub record After : Type 0 where
  pub names : Environment
  pub maps : List WholeMap

-- what stands after one more statement
abbrev pub assigned : After → Statement → WholeMap → After
assigned after s m = record { names = with_name after.names s.target m; maps = after.maps ++ m ∷ [] }

-- What stands after some statements, of which the first has this number in the script, or the first Over.
abbrev pub after_statements : Scene → ℕ → After → List Statement → Result After OverAt
after_statements scene number after [] = Ok after
after_statements scene number after (s ∷ more) =
    value_of_tree (record { scene = scene; names = after.names; statement = number }) s.value >>= λ m.
    after_statements scene (number + 1) (assigned after s m) more

-- What stands after a section that begins in this environment, or its first Over.
abbrev pub section_value : Scene → ℕ → Environment → List Statement → Result After OverAt
section_value scene number names statements = after_statements scene number (record { names = names; maps = [] }) statements
