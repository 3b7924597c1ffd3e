-- The operations of an expression in post-order, one node at a time, and their numbers.
use Rattle.std.proofs.Common.{◌≡◌, ◌+◌, ◌-◌, ◌≤◌, ℕ, List, [], ◌∷◌, ◌++◌, map, length, refl, sym, ◌∙◌, ap, append_assoc, append-nil, arith, length-append}
use Rattle.std.proofs.lemmas.List.{length-map}
use Rattle.cell_values.specs.declared.kind.Kind.{Kind}
use Rattle.map_meaning.specs.declared.op.Op.{Op}
use Rattle.map_meaning.specs.declared.program.Operation.{Operation}
use Rattle.map_meaning.specs.declared.tree.Tree.{Tree}
use Rattle.map_meaning.specs.declared.tree.Tree.TheVariants as tree
use Rattle.map_meaning.specs.declared.tree.Tree.TheVariants.{rolls-Input, rolls-Name, rolls-Number, rolls-Stack, rolls-Time}
use Rattle.map_meaning.specs.declared.tree.Tree.TheFolds.{fold-roll-Tree}
use Rattle.map_meaning.specs.declared.tree.Tree.TheOpen.{Tree-F}
use Rattle.map_meaning.specs.Trees.{TreeMeaning, meaning_of, operations_in}
use Rattle.map_meaning.specs.declared.program.Operand.{Operand}
use Rattle.map_meaning.proofs.Callers.{meaning_of-Input, meaning_of-Name, meaning_of-Number, meaning_of-Stack, meaning_of-Time}
use Rattle.script_types.specs.Names.{joined_lists}
use Rattle.script_types.specs.Statements.{operations_of}
use Rattle.script_types.specs.Lowered.{Listed, Unnumbered, as_listed, numbered_operations, post_order, post_order_level}
use Rattle.script_types.specs.inside.Nodes.{IsCall, IsLeaf}
use Rattle.script_types.specs.inside.Sections.{Holder}
use Rattle.script_types.specs.inside.Written.{IsOperationOn, ListsTree, ListsTrees}
use Rattle.script_types.specs.declared.emit.At.{At}
use Rattle.script_types.proofs.NodeLemmas.{call-count, call-post, mask-post}
use Rattle.script_types.proofs.TreeCounts.{none-more}

-- what is no operation has none, and lists none
pub leaf-lists : (numbers : List ℕ) (holder : Holder) (t : Tree) (x : Operand) → IsLeaf numbers holder t x → (operations_of t ≡ 0) × (post_order t ≡ [])
unfolding post_order
leaf-lists numbers holder (tree.Number k c) x h = (ap (λ (m : TreeMeaning). m.operations) (meaning_of-Number k c), ap post_order (sym (rolls-Number k c)) ∙ fold-roll-Tree (List Unnumbered) post_order_level (Tree-F.Number k c))
leaf-lists numbers holder tree.Time x h = (ap (λ (m : TreeMeaning). m.operations) meaning_of-Time, ap post_order (sym rolls-Time) ∙ fold-roll-Tree (List Unnumbered) post_order_level Tree-F.Time)
leaf-lists numbers holder (tree.Input k n) x h = (ap (λ (m : TreeMeaning). m.operations) (meaning_of-Input k n), ap post_order (sym (rolls-Input k n)) ∙ fold-roll-Tree (List Unnumbered) post_order_level (Tree-F.Input k n))
leaf-lists numbers holder (tree.Stack k n) x h = (ap (λ (m : TreeMeaning). m.operations) (meaning_of-Stack k n), ap post_order (sym (rolls-Stack k n)) ∙ fold-roll-Tree (List Unnumbered) post_order_level (Tree-F.Stack k n))
leaf-lists numbers holder (tree.Name k name) x h = (ap (λ (m : TreeMeaning). m.operations) (meaning_of-Name k name), ap post_order (sym (rolls-Name k name)) ∙ fold-roll-Tree (List Unnumbered) post_order_level (Tree-F.Name k name))
leaf-lists numbers holder (tree.Call' kind op shape operands) x h = absurd h
leaf-lists numbers holder (tree.CallWith' kind op file window shape operands) x h = absurd h
leaf-lists numbers holder (tree.Mask' shape operands) x h = absurd h

-- the numbers of operations and of others behind them
pub numbered-append : (statement n : ℕ) (us vs : List Unnumbered) → numbered_operations statement n (us ++ vs) ≡ numbered_operations statement n us ++ numbered_operations statement (n + length us) vs
numbered-append statement n [] vs = let e : n ≡ n + 0 = omega arith in ap (λ k. numbered_operations statement k vs) e
numbered-append statement n (u ∷ us) vs = let e : n + 1 + length us ≡ n + length (u ∷ us) = omega arith in ap (λ rest. record { op = u.op; kind = u.kind; statement = statement; number = n } ∷ rest) (numbered-append statement (n + 1) us vs ∙ ap (λ k. numbered_operations statement (n + 1) us ++ numbered_operations statement k vs) e)

-- each has a number
pub length-numbered : (statement n : ℕ) (us : List Unnumbered) → length (numbered_operations statement n us) ≡ length us
length-numbered statement n [] = refl
length-numbered statement n (u ∷ us) = let e = length-numbered statement (n + 1) us in omega (arith, e)

-- lists that are parts of a list have its length
parts : (old new : List Operation) (xs : List Listed) → map as_listed new ≡ map as_listed old ++ xs → length new ≡ length old + length xs
parts old new xs h = sym (length-map new as_listed) ∙ ap length h ∙ length-append (map as_listed old) xs ∙ ap (λ n. n + length xs) (length-map old as_listed)

-- an expression has as many operations as it lists
pub listed-count : (old new : List Operation) (statement first : ℕ) (t : Tree) → ListsTree old new statement first t → length (post_order t) ≡ operations_of t
listed-count old new statement first t h =
    let a = parts old new (numbered_operations statement (length old - first + 1) (post_order t)) h.listed in
    let b = length-numbered statement (length old - first + 1) (post_order t) in
    let c : length new ≡ length old + operations_of t = h.count in
    omega (arith, a, b, c)

-- ---- leaves

-- a leaf adds nothing
pub lists-leaf : (old : List Operation) (statement first : ℕ) (t : Tree) → (operations_of t ≡ 0) × (post_order t ≡ []) → ListsTree old old statement first t
lists-leaf old statement first t h = let hc = h.0 in record {
  count = omega (arith, hc);
  listed = sym (ap (λ us. map as_listed old ++ numbered_operations statement (length old - first + 1) us) h.1 ∙ append-nil (map as_listed old));
}

-- ---- expressions from the left

-- there is room for the next of some expressions
pub room-next : (x : Tree) (rest all : List Tree) (old now : ℕ) → now + operations_in (map meaning_of (x ∷ rest)) ≡ old + operations_in (map meaning_of all) → old + operations_in (map meaning_of all) ≤ 8192 → now + operations_of x ≤ 8192
room-next x rest all old now hs hr =
    let f : now + (operations_of x + operations_in (map meaning_of rest)) ≡ old + operations_in (map meaning_of all) = hs in
    omega (arith, f, hr)

-- the operations of the next operand stand before those of the others
pub list-next : (old new : List Operation) (statement first : ℕ) (x : Tree) (rest : List Unnumbered) → first ≤ length old → ListsTree old new statement first x → map as_listed new ++ numbered_operations statement (length new - first + 1) rest ≡ map as_listed old ++ numbered_operations statement (length old - first + 1) (post_order x ++ rest)
list-next old new statement first x rest hf h =
    let n = length old - first + 1 in
    let c = listed-count old new statement first x h in
    let k : length new ≡ length old + operations_of x = h.count in
    let e : length new - first + 1 ≡ n + length (post_order x) = omega (arith, c, k, hf) in
    ap (λ xs. xs ++ numbered_operations statement (length new - first + 1) rest) h.listed ∙ append_assoc (map as_listed old) (numbered_operations statement n (post_order x)) (numbered_operations statement (length new - first + 1) rest) ∙ ap (λ m. map as_listed old ++ (numbered_operations statement n (post_order x) ++ numbered_operations statement m rest)) e ∙ ap (λ xs. map as_listed old ++ xs) (sym (numbered-append statement n (post_order x) rest))

-- all of them were written
pub lists-all : (old now : List Operation) (statement first : ℕ) (ts : List Tree) → length now + operations_in (map meaning_of []) ≡ length old + operations_in (map meaning_of ts) → map as_listed now ++ [] ≡ map as_listed old ++ numbered_operations statement (length old - first + 1) (joined_lists (map post_order ts)) → ListsTrees old now statement first ts
lists-all old now statement first ts hc hl =
    let f : length now + 0 ≡ length old + operations_in (map meaning_of ts) = hc in
    record { count = omega (arith, f); listed = sym (append-nil (map as_listed now)) ∙ hl }

-- ---- calls and masks

-- a mask lists what its operands do
pub lists-mask : (old new : List Operation) (statement first : ℕ) (t : Tree) (args : List Tree) → t ≡ tree.Mask args → ListsTrees old new statement first args → ListsTree old new statement first t
lists-mask old new statement first t args ht h = record {
  count = h.count ∙ ap (λ n. length old + n) (sym (ap operations_of ht ∙ none-more args));
  listed = h.listed ∙ ap (λ us. map as_listed old ++ numbered_operations statement (length old - first + 1) us) (sym (ap post_order ht ∙ mask-post args));
}

-- the operation itself stands behind those of its operands
pub lists-call : (old now : List Operation) (at : At) (t : Tree) (k : Kind) (o : Op) (file window : ℕ) (args : List Tree) (p : Operation) → IsCall t k o file window args → at.first ≤ length old → ListsTrees old now at.statement at.first args → IsOperationOn p o k at (length now) → ListsTree old (now ++ p ∷ []) at.statement at.first t
lists-call old now at t k o file window args p call hf h hp =
    let n = length old - at.first + 1 in
    let us = joined_lists (map post_order args) in
    let e = call-count t k o file window args call in
    let f : length now ≡ length old + operations_in (map meaning_of args) = h.count in
    let l : map as_listed now ≡ map as_listed old ++ numbered_operations at.statement n us = h.listed in
    let a = parts old now (numbered_operations at.statement n us) l in
    let b = length-numbered at.statement n us in
    let q : p.number ≡ n + length us = hp.number ∙ (let z : length now - at.first + 1 ≡ n + length us = omega (arith, a, b, hf) in z) in
    let own : as_listed p ≡ record { op = o; kind = k; statement = at.statement; number = n + length us } = four hp.op_is hp.kind_is hp.statement q in
    let g : length (now ++ p ∷ []) ≡ length now + 1 = length-append now (p ∷ []) in
    record {
      count = omega (arith, e, f, g);
      listed = map-push now p ∙ ap (λ xs. xs ++ as_listed p ∷ []) l ∙ append_assoc (map as_listed old) (numbered_operations at.statement n us) (as_listed p ∷ []) ∙ ap (λ x. map as_listed old ++ (numbered_operations at.statement n us ++ x ∷ [])) own ∙ ap (λ xs. map as_listed old ++ xs) (sym (numbered-append at.statement n us (record { op = o; kind = k } ∷ []))) ∙ ap (λ xs. map as_listed old ++ numbered_operations at.statement n xs) (sym (call-post t k o file window args call));
    }
  where
    four : {o1 o2 : Op} {k1 k2 : Kind} {s1 s2 n1 n2 : ℕ} → o1 ≡ o2 → k1 ≡ k2 → s1 ≡ s2 → n1 ≡ n2 → let a : Listed = record { op = o1; kind = k1; statement = s1; number = n1 } in let b : Listed = record { op = o2; kind = k2; statement = s2; number = n2 } in a ≡ b
    four a b c d = cc

    map-push : (xs : List Operation) (p : Operation) → map as_listed (xs ++ p ∷ []) ≡ map as_listed xs ++ as_listed p ∷ []
    map-push [] p = refl
    map-push (x ∷ xs) p = ap (λ ys. as_listed x ∷ ys) (map-push xs p)
