-- An expression at its root: an operand that there is, or an operation on operands.
use Rattle.std.specs.Prelude.{◌≡◌, ◌⊎◌, ℕ, List, if◌then◌else◌, slice_index_or}
use Rattle.std.specs.Option.{unwrap_or}
use Rattle.cell_values.specs.declared.kind.Kind.{Kind}
use Rattle.cell_values.specs.declared.kind.Kind.TheVariants.{Ldd}
use Rattle.map_meaning.specs.declared.op.Op.{Op}
use Rattle.map_meaning.specs.declared.program.Operand.{Operand}
use Rattle.map_meaning.specs.declared.program.Operand.TheVariants as from
use Rattle.map_meaning.specs.declared.tree.Tree.{Tree}
use Rattle.map_meaning.specs.declared.tree.Tree.TheVariants as tree
use Rattle.map_meaning.specs.Table.{goes_along_drains, is_kind}
use Rattle.script_types.specs.declared.emit.Node.{Node}
use Rattle.script_types.specs.declared.emit.Node.TheVariants as node
use Rattle.script_types.specs.declared.names.Names.{Names}
use Rattle.script_types.specs.inside.Look.{look}
use Rattle.script_types.specs.inside.Sections.{Holder}

-- the operand that a table has for a name; none for a name that is not there
abbrev pub held_in : Names Operand → Holder
held_in table name = unwrap_or (look table.values name) from.Unused

-- the operand that has the grid of an input of this kind, where these are the numbers of the inputs among drain maps
abbrev pub input_operand : List ℕ → Kind → ℕ → Operand
input_operand numbers kind n = if is_kind Ldd kind then from.Drain (slice_index_or numbers n 0) else from.Input n

-- the expression is no operation, and the operand has its map
abbrev pub IsLeaf : List ℕ → Holder → Tree → Operand → Type 0
IsLeaf numbers holder (tree.Number kind cell) x = x ≡ from.Literal kind cell
IsLeaf numbers holder tree.Time x = x ≡ from.Time
IsLeaf numbers holder (tree.Input kind n) x = x ≡ input_operand numbers kind n
IsLeaf numbers holder (tree.Stack kind n) x = x ≡ from.Stack n
IsLeaf numbers holder (tree.Name kind name) x = x ≡ holder name
IsLeaf numbers holder _ x = ⊥

-- the expression is this operation on these operands, which looks its results up in this input and at windows of this length
-- where it does
abbrev pub IsCall : Tree → Kind → Op → ℕ → ℕ → List Tree → Type 0
IsCall t kind op file window operands =
    ((t ≡ tree.Call kind op operands) × (file ≡ 0) × (window ≡ 0)) ⊎ (t ≡ tree.CallWith kind op file window operands)

-- the place of the first operand of an operation that is no drain map
abbrev pub first_map_place : Op → ℕ
first_map_place op = if goes_along_drains op then 1 else 0

-- what an expression is at its root
abbrev pub IsNode : Node → List ℕ → Holder → Tree → Type 0
IsNode (node.There x) numbers holder t = IsLeaf numbers holder t x
IsNode (node.Operation kind op file window operands) numbers holder t = IsCall t kind op file window operands.now
IsNode (node.Mask operands) numbers holder t = t ≡ tree.Mask operands.now
