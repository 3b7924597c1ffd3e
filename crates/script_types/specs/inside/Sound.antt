-- Whether a settled expression keeps to the table of operations.
use Rattle.std.specs.Prelude.{ℕ, ◌+◌, ◌&&◌, Bool, true, false, List, [], ◌∷◌, length, map}
use Rattle.std.specs.List.{list_all}
use Rattle.cell_values.specs.declared.kind.Kind.{Kind}
use Rattle.cell_values.specs.declared.kind.Kind.TheVariants.{Boolean, Scalar, Ldd}
use Rattle.cell_values.specs.declared.cell.Cell.{Cell}
use Rattle.cell_values.specs.declared.cell.Cell.TheVariants.{Mv, Val}
use Rattle.cell_values.specs.Kinds.{is_value}
use Rattle.map_meaning.specs.declared.row.Row.{Row}
use Rattle.map_meaning.specs.declared.tree.Tree.{Tree}
use Rattle.map_meaning.specs.declared.tree.Tree.TheFolds.{fold-Tree}
use Rattle.map_meaning.specs.declared.tree.Tree.TheOpen.{Tree-F}
use Rattle.map_meaning.specs.Table.{allows, ask_at, common_kind, given_kind, has_count, is_kind, map_row, row_of}
use Rattle.script_types.specs.declared.typed.Line.{Line}

-- operands of these kinds may stand at the places from the i-th on
abbrev pub are_allowed : Row → Kind → ℕ → List Kind → Bool
are_allowed row common i [] = true
are_allowed row common i (k ∷ ks) = allows common (ask_at row i) k && are_allowed row common (i + 1) ks

-- the row allows operands of these kinds, and then gives this kind
abbrev pub has_kinds : Row → List Kind → Kind → Bool
has_kinds row kinds kind =
    has_count row (length kinds) &&
    (are_allowed row (common_kind row kinds) 0 kinds && is_kind (given_kind row.gives (common_kind row kinds) kinds) kind)

-- the cell is one of the kind
abbrev pub is_cell : Kind → Cell → Bool
is_cell kind Mv = true
is_cell kind (Val number) = is_value kind number

-- the kind of an expression, and whether it keeps to the table
pub record Checked : Type 0 where
  pub kind : Kind
  pub sound : Bool

-- these are the kinds of a drain map and of its mask
abbrev pub are_mask_kinds : List Kind → Bool
are_mask_kinds (Ldd ∷ Boolean ∷ []) = true
are_mask_kinds _ = false

-- an expression, from its operands
abbrev pub checked_level : Tree-F Checked → Checked
checked_level (Tree-F.Number kind cell) = record { kind = kind; sound = is_cell kind cell }
checked_level Tree-F.Time = record { kind = Scalar; sound = true }
checked_level (Tree-F.Input kind n) = record { kind = kind; sound = true }
checked_level (Tree-F.Stack kind n) = record { kind = kind; sound = true }
checked_level (Tree-F.Name kind name) = record { kind = kind; sound = true }
checked_level (Tree-F.Call kind op operands) =
    record { kind = kind; sound = list_all (λ c. c.sound) operands && has_kinds (row_of op) (map (λ c. c.kind) operands) kind }
checked_level (Tree-F.Mask operands) =
    record { kind = Ldd; sound = list_all (λ c. c.sound) operands && are_mask_kinds (map (λ c. c.kind) operands) }
checked_level (Tree-F.CallWith kind op file window operands) =
    record { kind = kind; sound = list_all (λ c. c.sound) operands && has_kinds (map_row (row_of op)) (map (λ c. c.kind) operands) kind }

-- an expression with its kind
unfoldable pub checked : Tree → Checked
checked = fold-Tree Checked checked_level

-- the expression has cells of their kinds, and operations on kinds of their rows
abbrev pub is_sound : Tree → Bool
is_sound t = (checked t).sound

-- the right sides of all statements keep to the table
abbrev pub are_sound : List Line → Bool
are_sound lines = list_all (λ l. is_sound l.statement.value) lines
