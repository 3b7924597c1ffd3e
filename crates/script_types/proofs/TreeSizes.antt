-- How large an expression is, by which the writing of its operations ends.
use Rattle.std.proofs.Common.{◌≡◌, ◌+◌, ◌≤◌, ℕ, zero, suc, List, [], ◌∷◌, map, drop, inl, inr, sym, ap, ◌∙◌, arith}
use Rattle.cell_values.specs.declared.kind.Kind.{Kind}
use Rattle.map_meaning.specs.declared.op.Op.{Op}
use Rattle.map_meaning.specs.declared.tree.Tree.{Tree}
use Rattle.map_meaning.specs.declared.tree.Tree.TheVariants as tree
use Rattle.map_meaning.specs.declared.tree.Tree.TheVariants.{rolls-Call, rolls-CallWith, rolls-Mask}
use Rattle.map_meaning.specs.declared.tree.Tree.TheFolds.{fold-Tree, fold-roll-Tree}
use Rattle.map_meaning.specs.declared.tree.Tree.TheOpen.{Tree-F}
use Rattle.script_types.specs.inside.Nodes.{IsCall}

abbrev pub total : List ℕ → ℕ
total [] = 0
total (n ∷ ns) = n + total ns

abbrev size_level : Tree-F ℕ → ℕ
size_level (Tree-F.Call kind op operands) = total operands + 1
size_level (Tree-F.CallWith kind op file window operands) = total operands + 1
size_level (Tree-F.Mask operands) = total operands + 1
size_level _ = 1

-- how many nodes an expression has
pub size : Tree → ℕ
size = fold-Tree ℕ size_level

-- how many nodes some expressions have
abbrev pub sizes : List Tree → ℕ
sizes ts = total (map size ts)

size-call : (kind : Kind) (op : Op) (args : List Tree) → size (tree.Call kind op args) ≡ sizes args + 1
unfolding size
size-call kind op args = ap size (sym (rolls-Call kind op args)) ∙ fold-roll-Tree ℕ size_level (Tree-F.Call kind op args)

size-call-with : (kind : Kind) (op : Op) (file window : ℕ) (args : List Tree) → size (tree.CallWith kind op file window args) ≡ sizes args + 1
unfolding size
size-call-with kind op file window args = ap size (sym (rolls-CallWith kind op file window args)) ∙ fold-roll-Tree ℕ size_level (Tree-F.CallWith kind op file window args)

size-mask : (args : List Tree) → size (tree.Mask args) ≡ sizes args + 1
unfolding size
size-mask args = ap size (sym (rolls-Mask args)) ∙ fold-roll-Tree ℕ size_level (Tree-F.Mask args)

-- operands are smaller than their operation
pub call-larger : (t : Tree) (kind : Kind) (op : Op) (file window : ℕ) (args : List Tree) → IsCall t kind op file window args → size t ≡ sizes args + 1
call-larger t kind op file window args (inl h) = ap size h.0 ∙ size-call kind op args
call-larger t kind op file window args (inr h) = ap size h ∙ size-call-with kind op file window args

pub mask-larger : (t : Tree) (args : List Tree) → t ≡ tree.Mask args → size t ≡ sizes args + 1
mask-larger t args h = ap size h ∙ size-mask args

-- one of some expressions is no larger than all
pub one-of : (xs : List Tree) (i : ℕ) (x : Tree) (rest : List Tree) → drop i xs ≡ x ∷ rest → size x ≤ sizes xs
one-of [] zero x rest h = absurd (let z = h in cc)
one-of [] (suc i) x rest h = absurd (let z = h in cc)
one-of (y ∷ ys) zero x rest h = let e : y ≡ x = cc in let k = ap size e in omega (arith, k)
one-of (y ∷ ys) (suc i) x rest h = let k = one-of ys i x rest h in omega (arith, k)
