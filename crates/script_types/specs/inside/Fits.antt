-- Whether a settled expression fits the inputs and names where it stands.
use Rattle.std.specs.Prelude.{◌≡◌, ◌⊎◌, ◌&&◌, ◌||◌, not, ◌==◌, ℕ, Bool, true, false, List, length, Option, Some, None, nat_le, slice_get}
use Rattle.std.specs.List.{list_all}
use Rattle.std.specs.Option.{is_none}
use Rattle.cell_values.specs.declared.kind.Kind.{Kind}
use Rattle.cell_values.specs.declared.kind.Kind.TheVariants.{Ldd}
use Rattle.map_meaning.specs.declared.op.Op.{Op}
use Rattle.map_meaning.specs.declared.program.InputUse.{InputUse}
use Rattle.map_meaning.specs.declared.program.Role.{Role}
use Rattle.map_meaning.specs.declared.program.Role.TheVariants.{Grid, Stack, Table, Series}
use Rattle.map_meaning.specs.declared.tree.Tree.{Tree}
use Rattle.map_meaning.specs.declared.tree.Tree.TheVariants as tree
use Rattle.map_meaning.specs.declared.tree.Tree.TheFolds.{fold-Tree}
use Rattle.map_meaning.specs.declared.tree.Tree.TheOpen.{Tree-F}
use Rattle.map_meaning.specs.Programs.{file_role, is_id_kind}
use Rattle.map_meaning.specs.Table.{is_focal, is_kind, is_window_length}

-- The inputs of a program, the kinds that names have where an expression stands, and whether it stands in `dynamic`.
pub record Ground : Type 0 where
  pub inputs : List InputUse
  pub above : List ℕ → Option Kind
  pub in_steps : Bool

-- there is a kind, and it is this one
abbrev pub is_of : Option Kind → Kind → Bool
is_of None kind = false
is_of (Some other) kind = is_kind other kind

-- the roles are one
abbrev pub is_role : Role → Role → Bool
is_role Grid Grid = true
is_role Stack Stack = true
is_role (Table m) (Table n) = m == n
is_role Series Series = true
is_role _ _ = false

-- there is an input, and it has the role and the kind
abbrev pub is_input_as : Option InputUse → Role → Kind → Bool
is_input_as None role kind = false
is_input_as (Some input) role kind = is_role input.role role && is_kind input.kind kind

-- the input with this number has the role and the kind
abbrev pub is_input_of : List InputUse → Role → Kind → ℕ → Bool
is_input_of inputs role kind n = is_input_as (slice_get inputs n) role kind

-- there is a role, and the input with this number has it and the kind
abbrev pub is_file_of : List InputUse → Option Role → Kind → ℕ → Bool
is_file_of inputs None kind n = false
is_file_of inputs (Some role) kind n = is_input_of inputs role kind n

-- there is an input, and it is a map of ids
abbrev pub is_ids_as : Option InputUse → Bool
is_ids_as None = false
is_ids_as (Some input) = is_role input.role Grid && is_id_kind input.kind

-- the input with this number is a map of ids
abbrev pub is_ids : List InputUse → ℕ → Bool
is_ids inputs n = is_ids_as (slice_get inputs n)

-- an operation on so many operands is told what it needs: the length of its window, or a table or a series for it
abbrev pub is_told : List InputUse → Op → ℕ → Kind → ℕ → ℕ → Bool
is_told inputs op count kind file window =
    (is_focal op && is_window_length window) || is_file_of inputs (file_role op count) kind file

-- Whether an expression fits, from whether its operands do: inputs and names have its kinds, no operation has more operands
-- than a program's has, what looks its results up names a table or a series for it, and what looks at windows has a length.
-- Drain maps are inputs and names alone.
abbrev pub fits_level : Ground → Tree-F Bool → Bool
fits_level g (Tree-F.Number kind cell) = not (is_kind Ldd kind)
fits_level g Tree-F.Time = g.in_steps
fits_level g (Tree-F.Input kind n) = is_input_of g.inputs Grid kind n
fits_level g (Tree-F.Stack kind n) = g.in_steps && is_input_of g.inputs Stack kind n && not (is_kind Ldd kind)
fits_level g (Tree-F.Name kind name) = is_of (g.above name) kind
fits_level g (Tree-F.Call kind op operands) =
    list_all (λ b. b) operands && (nat_le (length operands) 4 && is_none (file_role op (length operands)))
    && not (is_focal op) && not (is_kind Ldd kind)
fits_level g (Tree-F.CallWith kind op file window operands) =
    list_all (λ b. b) operands && (nat_le (length operands) 4 && is_told g.inputs op (length operands) kind file window)
    && not (is_kind Ldd kind)
fits_level g (Tree-F.Mask operands) = false

-- the expression fits
unfoldable pub fits : Ground → Tree → Bool
fits g = fold-Tree Bool (fits_level g)

-- the right side is a mask whose operands fit
pub record IsFittingMask (g : Ground) (t : Tree) : Type 0 where
  pub operands : List Tree
  pub is : t ≡ tree.Mask operands
  pub fit : list_all (fits g) operands ≡ true

-- a right side fits: the expression does, or it is a mask whose operands do
abbrev pub SideFits : Ground → Tree → Type 0
SideFits g t = (fits g t ≡ true) ⊎ IsFittingMask g t
