-- What holds of first faults, of roles, of the kinds of assigned names and of drain maps, in the language's words.
use Rattle.std.specs.Prelude.{◌≡◌, ℕ, Bool, true, not, List, ◌∷◌, ◌++◌, AllPairs}
use Rattle.std.specs.Option.{is_some}
use Rattle.std.specs.List.{list_all}
use Rattle.std.specs.Str.{bytes_eq}
use Rattle.cell_values.specs.declared.kind.Kind.{Kind}
use Rattle.map_meaning.specs.declared.program.DrainUse.{DrainUse}
use Rattle.script_types.specs.declared.typed.Line.{Line}
use Rattle.script_types.specs.declared.typed.UsedAs.{UsedAs}
use Rattle.script_types.specs.Lowered.{drain_input}
use Rattle.script_types.specs.Names.{Use}

-- The fault is that of a test that holds, and no test before it holds.
pub record IsFirstTold {F : Type 0} (checks : List (F × Bool)) (fault : F) : Type 0 where
  pub before : List (F × Bool)
  pub after : List (F × Bool)
  pub split : checks ≡ before ++ (fault, true) ∷ after
  pub none : list_all (λ c. not c.1) before ≡ true

-- The name is used in this role, and no use before that one is of the name.
pub record IsFirstUse (uses : List Use) (name : List ℕ) (role : UsedAs) : Type 0 where
  pub before : List Use
  pub at : Use
  pub after : List Use
  pub split : uses ≡ before ++ at ∷ after
  pub same : bytes_eq name at.name ≡ true
  pub in_role : at.role ≡ role
  pub none : list_all (λ u. not (bytes_eq name u.name)) before ≡ true

-- A statement assigns the name with this kind, and none behind it assigns the name.
pub record IsLastAbove (lines : List Line) (name : List ℕ) (kind : Kind) : Type 0 where
  pub before : List Line
  pub at : Line
  pub after : List Line
  pub split : lines ≡ before ++ at ∷ after
  pub same : bytes_eq name at.statement.target ≡ true
  pub of_kind : at.kind ≡ kind
  pub none : list_all (λ l. not (bytes_eq name l.statement.target)) after ≡ true

-- Before a drain map that is an input each one is an input: those of statements stand behind them.
abbrev pub HasInputsFirst : List DrainUse → Type 0
HasInputsFirst drains = AllPairs (λ x y. is_some (drain_input y.from) ≡ true → is_some (drain_input x.from) ≡ true) drains
