-- How many operations an expression has, one node at a time, and how they are counted.
use Rattle.std.proofs.Common.{◌≡◌, ◌+◌, ℕ, Bool, List, map, sym, subst, ap, if◌then◌else◌, arith}
use Rattle.cell_values.specs.declared.kind.Kind.{Kind}
use Rattle.cell_values.specs.declared.cell.Cell.{Cell}
use Rattle.map_meaning.specs.declared.op.Op.{Op}
use Rattle.map_meaning.specs.declared.tree.Tree.{Tree}
use Rattle.map_meaning.specs.declared.tree.Tree.TheVariants as tree
use Rattle.map_meaning.specs.Trees.{meaning_of, operations_in}
use Rattle.map_meaning.proofs.Callers.{meaning_of-Call, meaning_of-CallWith, meaning_of-Input, meaning_of-Mask, meaning_of-Name, meaning_of-Number, meaning_of-Stack, meaning_of-Time}
use Rattle.script_types.specs.Statements.{is_call, operations_of}

-- a number has no operation
pub none-number : (k : Kind) (c : Cell) → operations_of (tree.Number k c) ≡ 0
none-number k c = ap (λ m. m.operations) (meaning_of-Number k c)

-- the time has none
pub none-time : operations_of tree.Time ≡ 0
none-time = ap (λ m. m.operations) meaning_of-Time

-- an input has none
pub none-input : (k : Kind) (n : ℕ) → operations_of (tree.Input k n) ≡ 0
none-input k n = ap (λ m. m.operations) (meaning_of-Input k n)

-- a stack has none
pub none-stack : (k : Kind) (n : ℕ) → operations_of (tree.Stack k n) ≡ 0
none-stack k n = ap (λ m. m.operations) (meaning_of-Stack k n)

-- a name has none
pub none-name : (k : Kind) (name : List ℕ) → operations_of (tree.Name k name) ≡ 0
none-name k name = ap (λ m. m.operations) (meaning_of-Name k name)

pub ruleset none = (none-number, none-time, none-input, none-stack, none-name)

-- an operation has those of its operands, and itself
pub one-more : (k : Kind) (o : Op) (args : List Tree) → operations_of (tree.Call k o args) ≡ operations_in (map meaning_of args) + 1
one-more k o args = ap (λ m. m.operations) (meaning_of-Call k o args)

-- and so has one that is told more than its operands
pub one-more-told : (k : Kind) (o : Op) (file window : ℕ) (args : List Tree) → operations_of (tree.CallWith k o file window args) ≡ operations_in (map meaning_of args) + 1
one-more-told k o file window args = ap (λ m. m.operations) (meaning_of-CallWith k o file window args)

-- a mask has those of its operands
pub none-more : (args : List Tree) → operations_of (tree.Mask args) ≡ operations_in (map meaning_of args)
none-more args = ap (λ m. m.operations) (meaning_of-Mask args)

-- the operation of its own that an expression with operands has, if it has one
abbrev pub own : Bool → ℕ
own called = if called then 1 else 0

-- an expression with these operands has their operations, and its own where it is an operation
abbrev pub HasOwn : List Tree → Tree → Type 0
HasOwn args t = operations_of t ≡ operations_in (map meaning_of args) + own (is_call t)

pub own-call : (t : Tree) (k : Kind) (o : Op) (args : List Tree) → t ≡ tree.Call k o args → HasOwn args t
own-call t k o args h = subst (HasOwn args) (sym h) (one-more k o args)

pub own-told : (t : Tree) (k : Kind) (o : Op) (file window : ℕ) (args : List Tree) → t ≡ tree.CallWith k o file window args → HasOwn args t
own-told t k o file window args h = subst (HasOwn args) (sym h) (one-more-told k o file window args)

pub own-mask : (t : Tree) (args : List Tree) → t ≡ tree.Mask args → HasOwn args t
own-mask t args h = let e = none-more args in subst (HasOwn args) (sym h) (omega (arith, e))
