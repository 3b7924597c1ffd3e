-- Whether an expression keeps to the table, one node at a time; and the kinds of a row's operands.
use Rattle.std.proofs.Common.{◌≡◌, ◌<◌, ℕ, zero, suc, ◌+◌, true, ◌&&◌, List, [], ◌∷◌, map, length, refl, sym, ap, ◌∙◌, arith}
use Rattle.std.specs.List.{list_all}
use Rattle.cell_values.specs.declared.kind.Kind.{Kind}
use Rattle.cell_values.specs.declared.cell.Cell.{Cell}
use Rattle.map_meaning.specs.declared.op.Op.{Op}
use Rattle.map_meaning.specs.declared.row.Row.{Row}
use Rattle.map_meaning.specs.declared.tree.Tree.{Tree, roll-Tree}
use Rattle.map_meaning.specs.declared.tree.Tree.TheVariants as tree
use Rattle.map_meaning.specs.declared.tree.Tree.TheFolds.{fold-roll-Tree, ind-Tree}
use Rattle.map_meaning.specs.declared.tree.Tree.TheOpen.{Tree-F}
use Rattle.map_meaning.specs.Rules.{kind_at}
use Rattle.map_meaning.specs.Table.{HasKinds, allows, ask_at, common_kind, given_kind, has_count, is_kind, map_row, row_of}
use Rattle.map_meaning.specs.Trees.{TreeMeaning, meaning_level, meaning_of}
use Rattle.map_meaning.proofs.Callers.{same_kind}
use Rattle.script_types.specs.inside.Sound.{Checked, are_allowed, are_mask_kinds, checked, checked_level, has_kinds, is_cell, is_sound}
use Rattle.script_types.proofs.FitLemmas.{both-left, both-right}

-- ---- one node

-- the kind of an expression
abbrev pub kind-of : Tree → Kind
kind-of t = (meaning_of t).kind

node-kind : (x : Tree-F Tree) → (checked (roll-Tree x)).kind ≡ kind-of (roll-Tree x)
unfolding checked meaning_of
node-kind (Tree-F.Number k c) = ap (λ (m : Checked). m.kind) (fold-roll-Tree Checked checked_level (Tree-F.Number k c)) ∙ sym (ap (λ (m : TreeMeaning). m.kind) (fold-roll-Tree TreeMeaning meaning_level (Tree-F.Number k c)))
node-kind (Tree-F.Input k n) = ap (λ (m : Checked). m.kind) (fold-roll-Tree Checked checked_level (Tree-F.Input k n)) ∙ sym (ap (λ (m : TreeMeaning). m.kind) (fold-roll-Tree TreeMeaning meaning_level (Tree-F.Input k n)))
node-kind (Tree-F.Name k name) = ap (λ (m : Checked). m.kind) (fold-roll-Tree Checked checked_level (Tree-F.Name k name)) ∙ sym (ap (λ (m : TreeMeaning). m.kind) (fold-roll-Tree TreeMeaning meaning_level (Tree-F.Name k name)))
node-kind Tree-F.Time = ap (λ (m : Checked). m.kind) (fold-roll-Tree Checked checked_level Tree-F.Time) ∙ sym (ap (λ (m : TreeMeaning). m.kind) (fold-roll-Tree TreeMeaning meaning_level Tree-F.Time))
node-kind (Tree-F.Stack k n) = ap (λ (m : Checked). m.kind) (fold-roll-Tree Checked checked_level (Tree-F.Stack k n)) ∙ sym (ap (λ (m : TreeMeaning). m.kind) (fold-roll-Tree TreeMeaning meaning_level (Tree-F.Stack k n)))
node-kind (Tree-F.CallWith k o file window args) = ap (λ (m : Checked). m.kind) (fold-roll-Tree Checked checked_level (Tree-F.CallWith k o file window args)) ∙ sym (ap (λ (m : TreeMeaning). m.kind) (fold-roll-Tree TreeMeaning meaning_level (Tree-F.CallWith k o file window args)))
node-kind (Tree-F.Mask args) = ap (λ (m : Checked). m.kind) (fold-roll-Tree Checked checked_level (Tree-F.Mask args)) ∙ sym (ap (λ (m : TreeMeaning). m.kind) (fold-roll-Tree TreeMeaning meaning_level (Tree-F.Mask args)))
node-kind (Tree-F.Call k o args) = ap (λ (m : Checked). m.kind) (fold-roll-Tree Checked checked_level (Tree-F.Call k o args)) ∙ sym (ap (λ (m : TreeMeaning). m.kind) (fold-roll-Tree TreeMeaning meaning_level (Tree-F.Call k o args)))

-- both name the kind of an expression
checked-kind : (t : Tree) → (checked t).kind ≡ kind-of t
checked-kind = ind-Tree (λ t. (checked t).kind ≡ kind-of t) (λ x y is. node-kind x)

checked-kinds : (ts : List Tree) → map (λ (c : Checked). c.kind) (map checked ts) ≡ map kind-of ts
checked-kinds [] = refl
checked-kinds (t ∷ ts) = ap (λ k. k ∷ map (λ (c : Checked). c.kind) (map checked ts)) (checked-kind t) ∙ ap (λ ks. kind-of t ∷ ks) (checked-kinds ts)

all-sound : (ts : List Tree) → list_all (λ (c : Checked). c.sound) (map checked ts) ≡ list_all is_sound ts
all-sound [] = refl
all-sound (t ∷ ts) = ap (λ b. is_sound t && b) (all-sound ts)

-- whether a number, the step, an input, a stack, a name, an operation or a mask keeps to the table
pub sound-number : (k : Kind) (c : Cell) → is_sound (tree.Number k c) ≡ is_cell k c
unfolding checked
sound-number k c = ap is_sound (sym (tree.rolls-Number k c)) ∙ ap (λ (m : Checked). m.sound) (fold-roll-Tree Checked checked_level (Tree-F.Number k c))

pub sound-input : (k : Kind) (n : ℕ) → is_sound (tree.Input k n) ≡ true
unfolding checked
sound-input k n = ap is_sound (sym (tree.rolls-Input k n)) ∙ ap (λ (m : Checked). m.sound) (fold-roll-Tree Checked checked_level (Tree-F.Input k n))

pub sound-time : is_sound tree.Time ≡ true
unfolding checked
sound-time = ap is_sound (sym tree.rolls-Time) ∙ ap (λ (m : Checked). m.sound) (fold-roll-Tree Checked checked_level Tree-F.Time)

pub sound-stack : (k : Kind) (n : ℕ) → is_sound (tree.Stack k n) ≡ true
unfolding checked
sound-stack k n = ap is_sound (sym (tree.rolls-Stack k n)) ∙ ap (λ (m : Checked). m.sound) (fold-roll-Tree Checked checked_level (Tree-F.Stack k n))

pub sound-name : (k : Kind) (name : List ℕ) → is_sound (tree.Name k name) ≡ true
unfolding checked
sound-name k name = ap is_sound (sym (tree.rolls-Name k name)) ∙ ap (λ (m : Checked). m.sound) (fold-roll-Tree Checked checked_level (Tree-F.Name k name))

pub sound-call : (k : Kind) (o : Op) (args : List Tree) → is_sound (tree.Call k o args) ≡ (list_all is_sound args && has_kinds (row_of o) (map kind-of args) k)
unfolding checked
sound-call k o args = ap is_sound (sym (tree.rolls-Call k o args)) ∙ ap (λ (m : Checked). m.sound) (fold-roll-Tree Checked checked_level (Tree-F.Call k o args)) ∙ ap (λ b. b && has_kinds (row_of o) (map (λ (c : Checked). c.kind) (map checked args)) k) (all-sound args) ∙ ap (λ ks. list_all is_sound args && has_kinds (row_of o) ks k) (checked-kinds args)

pub sound-call-with : (k : Kind) (o : Op) (file window : ℕ) (args : List Tree) → is_sound (tree.CallWith k o file window args) ≡ (list_all is_sound args && has_kinds (map_row (row_of o)) (map kind-of args) k)
unfolding checked
sound-call-with k o file window args = ap is_sound (sym (tree.rolls-CallWith k o file window args)) ∙ ap (λ (m : Checked). m.sound) (fold-roll-Tree Checked checked_level (Tree-F.CallWith k o file window args)) ∙ ap (λ b. b && has_kinds (map_row (row_of o)) (map (λ (c : Checked). c.kind) (map checked args)) k) (all-sound args) ∙ ap (λ ks. list_all is_sound args && has_kinds (map_row (row_of o)) ks k) (checked-kinds args)

pub sound-mask : (args : List Tree) → is_sound (tree.Mask args) ≡ (list_all is_sound args && are_mask_kinds (map kind-of args))
unfolding checked
sound-mask args = ap is_sound (sym (tree.rolls-Mask args)) ∙ ap (λ (m : Checked). m.sound) (fold-roll-Tree Checked checked_level (Tree-F.Mask args)) ∙ ap (λ b. b && are_mask_kinds (map (λ (c : Checked). c.kind) (map checked args))) (all-sound args) ∙ ap (λ ks. list_all is_sound args && are_mask_kinds ks) (checked-kinds args)

-- ---- kinds of a row

-- what is allowed is so at each place
pub allowed-at : (row : Row) (common : Kind) (i : ℕ) (ks : List Kind) (n : ℕ) → are_allowed row common i ks ≡ true → n < length ks → allows common (ask_at row (i + n)) (kind_at ks n) ≡ true
allowed-at row common i [] n h hn = absurd (omega (arith, hn))
allowed-at row common i (k ∷ ks) zero h hn = let e : i + 0 ≡ i = omega arith in ap (λ j. allows common (ask_at row j) k) e ∙ both-left (allows common (ask_at row i) k) (are_allowed row common (i + 1) ks) h
allowed-at row common i (k ∷ ks) (suc n) h hn = let e : i + suc n ≡ i + 1 + n = omega arith in ap (λ j. allows common (ask_at row j) (kind_at ks n)) e ∙ allowed-at row common (i + 1) ks n (both-right (allows common (ask_at row i) k) (are_allowed row common (i + 1) ks) h) (omega (arith, hn))

-- kinds that pass the test are the row's
pub kinds-of-row : (row : Row) (ks : List Kind) (k : Kind) → has_kinds row ks k ≡ true → HasKinds row ks k
kinds-of-row row ks k h =
    let common = common_kind row ks in
    let more = both-right (has_count row (length ks)) (are_allowed row common 0 ks && is_kind (given_kind row.gives common ks) k) h in
    record {
      count = both-left (has_count row (length ks)) (are_allowed row common 0 ks && is_kind (given_kind row.gives common ks) k) h;
      each = λ i hi. (let e : 0 + i ≡ i = omega arith in ap (λ j. allows common (ask_at row j) (kind_at ks i)) (sym e) ∙ allowed-at row common 0 ks i (both-left (are_allowed row common 0 ks) (is_kind (given_kind row.gives common ks) k) more) hi);
      gives = same_kind (given_kind row.gives common ks) k (both-right (are_allowed row common 0 ks) (is_kind (given_kind row.gives common ks) k) more);
    }
