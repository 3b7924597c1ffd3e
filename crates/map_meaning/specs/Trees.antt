-- The value of an expression over whole maps.
use Rattle.std.specs.Prelude.{ℕ, ◌+◌, List, [], ◌∷◌, map, Result, Ok}
use Rattle.text_base.specs.Results.{◌>>=◌}
use Rattle.cell_values.specs.declared.kind.Kind.{Kind}
use Rattle.cell_values.specs.declared.kind.Kind.TheVariants.{Scalar, Ldd}
use Rattle.tile_map.specs.Cuts.{cell_at}
use Rattle.tile_map.specs.Parts.{part_of}
use Rattle.map_meaning.specs.declared.op.Op.{Op}
use Rattle.map_meaning.specs.declared.known.OverAt.{OverAt}
use Rattle.map_meaning.specs.declared.tree.Tree.{Tree}
use Rattle.map_meaning.specs.declared.tree.Tree.TheFolds.{fold-Tree}
use Rattle.map_meaning.specs.declared.tree.Tree.TheOpen.{Tree-F}
use Rattle.map_meaning.specs.Maps.{WholeMap, everywhere, nth, step_cell}
use Rattle.map_meaning.specs.Rules.{Setting, outcome_of}
use Rattle.map_meaning.specs.Scenes.{Scene, masked_map, place_count, setting_at, setting_in, stack_map}
use Rattle.map_meaning.specs.Overs.{whole_or_over}

-- the map of each name
abbrev pub Environment : Type 0
Environment = List ℕ → WholeMap

-- where an expression stands: the scene, the maps of names above it, and its statement
pub record Site : Type 0 where
  pub scene : Scene
  pub names : Environment
  pub statement : ℕ

-- What an expression means: its kind, how many operations it has, and its value where so many operations of its
-- statement stand before it: a whole map, or the first Over.
pub record TreeMeaning : Type 0 where
  pub kind : Kind
  pub operations : ℕ
  pub value : Site → ℕ → Result WholeMap OverAt

-- how many operations some expressions have
abbrev pub operations_in : List TreeMeaning → ℕ
operations_in [] = 0
operations_in (m ∷ more) = m.operations + operations_in more

-- the values of operands from the left: the first with an Over decides
abbrev pub values_from_left : List TreeMeaning → Site → ℕ → Result (List WholeMap) OverAt
values_from_left [] at before = Ok []
values_from_left (m ∷ more) at before =
    m.value at before >>= λ first. values_from_left more at (before + m.operations) >>= λ rest. Ok (first ∷ rest)

-- An operation with this number over whole maps, where it is told this: the map of its outcomes, or the first place in
-- row-major order that is Over.
abbrev pub applied_in : Site → Op → Setting → List WholeMap → ℕ → Result WholeMap OverAt
applied_in at op setting maps number =
    whole_or_over at.scene at.statement number (part_of (outcome_of op setting (map cell_at maps)) (place_count at.scene))

-- the same of an operation on maps of these kinds
abbrev pub applied : Site → Op → List Kind → List WholeMap → ℕ → Result WholeMap OverAt
applied at op kinds maps number = applied_in at op (setting_in at.scene kinds) maps number

-- an expression, from what its operands mean
abbrev pub meaning_level : Tree-F TreeMeaning → TreeMeaning
meaning_level (Tree-F.Number kind cell) =
    record { kind = kind; operations = 0; value = λ at before. Ok (everywhere (place_count at.scene) cell) }
meaning_level Tree-F.Time =
    record { kind = Scalar; operations = 0; value = λ at before. Ok (everywhere (place_count at.scene) (step_cell at.scene.step)) }
meaning_level (Tree-F.Input kind input) =
    record { kind = kind; operations = 0; value = λ at before. Ok (nth at.scene.inputs input) }
meaning_level (Tree-F.Stack kind input) =
    record { kind = kind; operations = 0; value = λ at before. Ok (stack_map at.scene input) }
meaning_level (Tree-F.Name kind name) =
    record { kind = kind; operations = 0; value = λ at before. Ok (at.names name) }
meaning_level (Tree-F.Call kind op operands) =
    record {
      kind = kind;
      operations = operations_in operands + 1;
      value = λ at before.
          values_from_left operands at before >>= λ maps.
          applied at op (map (λ m. m.kind) operands) maps (before + operations_in operands + 1);
    }
meaning_level (Tree-F.CallWith kind op file window operands) =
    record {
      kind = kind;
      operations = operations_in operands + 1;
      value = λ at before.
          values_from_left operands at before >>= λ maps.
          applied_in at op (setting_at at.scene file window (map (λ m. m.kind) operands)) maps (before + operations_in operands + 1);
    }
meaning_level (Tree-F.Mask operands) =
    record {
      kind = Ldd;
      operations = operations_in operands;
      value = λ at before. values_from_left operands at before >>= λ maps. Ok (masked_map at.scene (nth maps 0) (nth maps 1));
    }

-- what an expression means
unfoldable pub meaning_of : Tree → TreeMeaning
meaning_of = fold-Tree TreeMeaning meaning_level

-- the value of an expression that is a right side
abbrev pub value_of_tree : Site → Tree → Result WholeMap OverAt
value_of_tree at tree = (meaning_of tree).value at 0
