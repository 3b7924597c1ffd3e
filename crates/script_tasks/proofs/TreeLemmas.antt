-- An expression lists as many operations as it has.
use Rattle.std.proofs.Common.{◌≡◌, ◌+◌, List, [], ◌∷◌, ◌++◌, map, length, refl, sym, ap, ◌∙◌, subst, arith, length-append}
use Rattle.map_meaning.specs.declared.tree.Tree.{Tree, map-Tree, roll-Tree}
use Rattle.map_meaning.specs.declared.tree.Tree.TheFolds.{fold-roll-Tree, ind-Tree}
use Rattle.map_meaning.specs.declared.tree.Tree.TheOpen.{Tree-F}
use Rattle.map_meaning.specs.Trees.{TreeMeaning, meaning_level, meaning_of, operations_in}
use Rattle.script_types.specs.Lowered.{Unnumbered, post_order, post_order_level}
use Rattle.script_types.specs.Names.{joined_lists}
use Rattle.script_types.specs.Statements.{operations_of}

-- the expression lists as many operations as it has
abbrev pub ListsItsOwn : Tree → Type 0
ListsItsOwn t = length (post_order t) ≡ operations_of t

-- an expression that does
abbrev Held : Type 0
Held = (t : Tree) × ListsItsOwn t

-- so do some expressions together
all-listed : (held : List Held) → length (joined_lists (map post_order (map (λ (h : Held). h.0) held))) ≡ operations_in (map meaning_of (map (λ (h : Held). h.0) held))
all-listed [] = refl
all-listed (h ∷ held) =
    let a = h.1 in
    let b = all-listed held in
    let c = length-append (post_order h.0) (joined_lists (map post_order (map (λ (h : Held). h.0) held))) in
    omega (arith, a, b, c)

-- and so do an operation that has these operands
with-own : (held : List Held) (u : Unnumbered) →
    length (joined_lists (map post_order (map (λ (h : Held). h.0) held)) ++ u ∷ []) ≡ operations_in (map meaning_of (map (λ (h : Held). h.0) held)) + 1
with-own held u =
    let a = all-listed held in
    let b = length-append (joined_lists (map post_order (map (λ (h : Held). h.0) held))) (u ∷ []) in
    omega (arith, a, b)

node : (y : Tree-F Held) → ListsItsOwn (roll-Tree (map-Tree Held Tree (λ h. h.0) y))
unfolding post_order meaning_of
node (Tree-F.Number k c) = ap length (fold-roll-Tree (List Unnumbered) post_order_level (Tree-F.Number k c)) ∙ sym (ap (λ (m : TreeMeaning). m.operations) (fold-roll-Tree TreeMeaning meaning_level (Tree-F.Number k c)))
node Tree-F.Time = ap length (fold-roll-Tree (List Unnumbered) post_order_level Tree-F.Time) ∙ sym (ap (λ (m : TreeMeaning). m.operations) (fold-roll-Tree TreeMeaning meaning_level Tree-F.Time))
node (Tree-F.Input k n) = ap length (fold-roll-Tree (List Unnumbered) post_order_level (Tree-F.Input k n)) ∙ sym (ap (λ (m : TreeMeaning). m.operations) (fold-roll-Tree TreeMeaning meaning_level (Tree-F.Input k n)))
node (Tree-F.Stack k n) = ap length (fold-roll-Tree (List Unnumbered) post_order_level (Tree-F.Stack k n)) ∙ sym (ap (λ (m : TreeMeaning). m.operations) (fold-roll-Tree TreeMeaning meaning_level (Tree-F.Stack k n)))
node (Tree-F.Name k name) = ap length (fold-roll-Tree (List Unnumbered) post_order_level (Tree-F.Name k name)) ∙ sym (ap (λ (m : TreeMeaning). m.operations) (fold-roll-Tree TreeMeaning meaning_level (Tree-F.Name k name)))
node (Tree-F.Call k o held) =
    let x = Tree-F.Call k o (map (λ (h : Held). h.0) held) in
    ap length (fold-roll-Tree (List Unnumbered) post_order_level x) ∙ with-own held (record { op = o; kind = k }) ∙ sym (ap (λ (m : TreeMeaning). m.operations) (fold-roll-Tree TreeMeaning meaning_level x))
node (Tree-F.CallWith k o file window held) =
    let x = Tree-F.CallWith k o file window (map (λ (h : Held). h.0) held) in
    ap length (fold-roll-Tree (List Unnumbered) post_order_level x) ∙ with-own held (record { op = o; kind = k }) ∙ sym (ap (λ (m : TreeMeaning). m.operations) (fold-roll-Tree TreeMeaning meaning_level x))
node (Tree-F.Mask held) =
    let x = Tree-F.Mask (map (λ (h : Held). h.0) held) in
    ap length (fold-roll-Tree (List Unnumbered) post_order_level x) ∙ all-listed held ∙ sym (ap (λ (m : TreeMeaning). m.operations) (fold-roll-Tree TreeMeaning meaning_level x))

-- every expression does
pub lists-its-own : (t : Tree) → ListsItsOwn t
lists-its-own = ind-Tree ListsItsOwn (λ x y is. subst (λ z. ListsItsOwn (roll-Tree z)) is (node y))
