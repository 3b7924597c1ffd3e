-- An expression at its root: what an operation means, lists and asks, from its operands; and inputs of a role.
use Rattle.std.proofs.Common.{◌≡◌, ◌⊎◌, ◌≤◌, ◌+◌, inl, inr, ℕ, Bool, true, false, not, ◌&&◌, ◌||◌, List, [], ◌∷◌, ◌++◌, map, length, refl, sym, ap, ◌∙◌, subst}
use Rattle.std.specs.Prelude.{Option, None}
use Rattle.std.specs.List.{list_all}
use Rattle.cell_values.specs.declared.kind.Kind.{Kind}
use Rattle.cell_values.specs.declared.kind.Kind.TheVariants.{Ldd}
use Rattle.map_meaning.specs.declared.op.Op.{Op}
use Rattle.map_meaning.specs.declared.program.InputUse.{InputUse}
use Rattle.map_meaning.specs.declared.program.Program.{Program}
use Rattle.map_meaning.specs.declared.program.Role.{Role}
use Rattle.map_meaning.specs.declared.program.Role.TheVariants.{Stack}
use Rattle.map_meaning.specs.declared.tree.Tree.{Tree, roll-Tree}
use Rattle.map_meaning.specs.declared.tree.Tree.TheVariants as tree
use Rattle.map_meaning.specs.declared.tree.Tree.TheVariants.{rolls-Call, rolls-CallWith, rolls-Mask}
use Rattle.map_meaning.specs.declared.tree.Tree.TheFolds.{fold-roll-Tree, ind-Tree}
use Rattle.map_meaning.specs.declared.tree.Tree.TheOpen.{Tree-F}
use Rattle.map_meaning.specs.Programs.{IsFileOf, file_role}
use Rattle.map_meaning.specs.Table.{is_focal, is_kind, is_window_length, map_row, row_of}
use Rattle.map_meaning.specs.Trees.{TreeMeaning, meaning_level, meaning_of, operations_in}
use Rattle.map_meaning.proofs.Callers.{meaning_of-Call, meaning_of-CallWith, meaning_of-Input, meaning_of-Name, meaning_of-Number, meaning_of-Stack, meaning_of-Time, same_kind}
use Rattle.script_types.specs.Lowered.{Unnumbered, post_order, post_order_level}
use Rattle.script_types.specs.Names.{joined_lists}
use Rattle.script_types.specs.Statements.{operations_of}
use Rattle.script_types.specs.inside.Fits.{Ground, fits, is_file_of, is_input_of, is_told}
use Rattle.script_types.specs.inside.Nodes.{IsCall}
use Rattle.script_types.specs.inside.Sound.{are_mask_kinds, has_kinds, is_sound}
use Rattle.script_types.proofs.FitLemmas.{both-left, both-right, call-is-fit, fits-mask-is, fits-number-is, fits-stack-is, has-file, not-true, told-is-fit}
use Rattle.script_types.proofs.InputForms.{file-form}
use Rattle.script_types.proofs.MapRows.{map-row-is, window-no-file}
use Rattle.script_types.proofs.SoundLemmas.{kind-of, sound-call, sound-call-with, sound-mask}

-- ---- what it means

-- an operation means what one means that is told this input and this length
pub call-meaning : (t : Tree) (kind : Kind) (op : Op) (file window : ℕ) (args : List Tree) → IsCall t kind op file window args → meaning_of t ≡ meaning_level (Tree-F.CallWith kind op file window (map meaning_of args))
call-meaning t kind op file window args (inl h) = ap meaning_of h.0 ∙ meaning_of-Call kind op args ∙ ap (λ n. meaning_level (Tree-F.CallWith kind op n 0 (map meaning_of args))) (sym h.1) ∙ ap (λ n. meaning_level (Tree-F.CallWith kind op file n (map meaning_of args))) (sym h.2)
call-meaning t kind op file window args (inr h) = ap meaning_of h ∙ meaning_of-CallWith kind op file window args

-- how many operations it has
pub call-count : (t : Tree) (kind : Kind) (op : Op) (file window : ℕ) (args : List Tree) → IsCall t kind op file window args → operations_of t ≡ operations_in (map meaning_of args) + 1
call-count t kind op file window args h = ap (λ (m : TreeMeaning). m.operations) (call-meaning t kind op file window args h)

pub call-kind : (t : Tree) (kind : Kind) (op : Op) (file window : ℕ) (args : List Tree) → IsCall t kind op file window args → (meaning_of t).kind ≡ kind
call-kind t kind op file window args h = ap (λ (m : TreeMeaning). m.kind) (call-meaning t kind op file window args h)

-- ---- what it lists

post-call : (kind : Kind) (op : Op) (args : List Tree) → post_order (tree.Call kind op args) ≡ joined_lists (map post_order args) ++ record { op = op; kind = kind } ∷ []
unfolding post_order
post-call kind op args = ap post_order (sym (rolls-Call kind op args)) ∙ fold-roll-Tree (List Unnumbered) post_order_level (Tree-F.Call kind op args)

post-told : (kind : Kind) (op : Op) (file window : ℕ) (args : List Tree) → post_order (tree.CallWith kind op file window args) ≡ joined_lists (map post_order args) ++ record { op = op; kind = kind } ∷ []
unfolding post_order
post-told kind op file window args = ap post_order (sym (rolls-CallWith kind op file window args)) ∙ fold-roll-Tree (List Unnumbered) post_order_level (Tree-F.CallWith kind op file window args)

-- the operations of its operands, and its own
pub call-post : (t : Tree) (kind : Kind) (op : Op) (file window : ℕ) (args : List Tree) → IsCall t kind op file window args → post_order t ≡ joined_lists (map post_order args) ++ record { op = op; kind = kind } ∷ []
call-post t kind op file window args (inl h) = ap post_order h.0 ∙ post-call kind op args
call-post t kind op file window args (inr h) = ap post_order h ∙ post-told kind op file window args

-- a mask lists those of its operands
pub mask-post : (args : List Tree) → post_order (tree.Mask args) ≡ joined_lists (map post_order args)
unfolding post_order
mask-post args = ap post_order (sym (rolls-Mask args)) ∙ fold-roll-Tree (List Unnumbered) post_order_level (Tree-F.Mask args)

-- ---- whether it fits

no-role : (program : Program) (o : Option Role) (kind : Kind) (file : ℕ) → o ≡ None → IsFileOf program o kind file
no-role program o kind file h = subst (λ a. IsFileOf program a kind file) (sym h) tt

-- an operation that fits: its operands fit and are few, it gives no drain map, and it has what it needs: the length of its
-- window, and what it looks its results up in
pub record CallFits (g : Ground) (kind : Kind) (op : Op) (file window : ℕ) (args : List Tree) : Type 0 where
  pub operands : list_all (fits g) args ≡ true
  pub few : length args ≤ 4
  pub plain : is_kind Ldd kind ≡ false
  pub window_fits : is_focal op ≡ true → is_window_length window ≡ true
  pub file_fits : (program : Program) → program.inputs ≡ g.inputs → IsFileOf program (file_role op (length args)) kind file

-- what is told is a length for an operation over windows, and a table or a series for another
told-window : (focal good file : Bool) → ((focal && good) || file) ≡ true → (file ≡ true → focal ≡ false) → focal ≡ true → good ≡ true
told-window true true file h never hf = refl
told-window true false file h never hf = let z = never h in cc
told-window false good file h never hf = cc

told-file : (focal good file : Bool) → ((focal && good) || file) ≡ true → focal ≡ false → file ≡ true
told-file true good file h hf = cc
told-file false good file h hf = h

-- what has a table or a series looks at no windows
file-no-window : (inputs : List InputUse) (op : Op) (count : ℕ) (kind : Kind) (file : ℕ) → is_file_of inputs (file_role op count) kind file ≡ true → is_focal op ≡ false
file-no-window inputs op count kind file h = by-test (is_focal op) refl
  where
    by-test : (b : Bool) → is_focal op ≡ b → b ≡ false
    by-test true e = let z = sym (ap (λ o. is_file_of inputs o kind file) (window-no-file op count e)) ∙ h in cc
    by-test false e = refl

file-told : (g : Ground) (kind : Kind) (op : Op) (file window : ℕ) (args : List Tree) (program : Program) → program.inputs ≡ g.inputs → is_told g.inputs op (length args) kind file window ≡ true → IsFileOf program (file_role op (length args)) kind file
file-told g kind op file window args program e h = by-test (is_focal op) refl
  where
    by-test : (b : Bool) → is_focal op ≡ b → IsFileOf program (file_role op (length args)) kind file
    by-test true q = no-role program (file_role op (length args)) kind file (window-no-file op (length args) q)
    by-test false q = file-form program g.inputs (file_role op (length args)) kind file e (has-file g.inputs (file_role op (length args)) kind file (told-file (is_focal op) (is_window_length window) (is_file_of g.inputs (file_role op (length args)) kind file) h q))

no-focal : (op : Op) (window : ℕ) → is_focal op ≡ false → is_focal op ≡ true → is_window_length window ≡ true
no-focal op window h k = let z = sym h ∙ k in cc

pub call-fits : (g : Ground) (t : Tree) (kind : Kind) (op : Op) (file window : ℕ) (args : List Tree) → IsCall t kind op file window args → fits g t ≡ true → CallFits g kind op file window args
call-fits g t kind op file window args (inl h) f =
    let c = call-is-fit g t kind op args h.0 f in
    record {
      operands = c.operands;
      few = c.few;
      plain = c.plain;
      window_fits = no-focal op window c.no_window;
      file_fits = λ program e. no-role program (file_role op (length args)) kind file c.no_file;
    }
call-fits g t kind op file window args (inr h) f =
    let c = told-is-fit g t kind op file window args h f in
    record {
      operands = c.operands;
      few = c.few;
      plain = c.plain;
      window_fits = told-window (is_focal op) (is_window_length window) (is_file_of g.inputs (file_role op (length args)) kind file) c.told (file-no-window g.inputs op (length args) kind file);
      file_fits = λ program e. file-told g kind op file window args program e c.told;
    }

-- ---- drain maps

-- the expression is a drain map that is an input or has a name
abbrev pub IsDrainLeaf : Tree → Type 0
IsDrainLeaf t = ((n : ℕ) × (t ≡ tree.Input Ldd n)) ⊎ ((name : List ℕ) × (t ≡ tree.Name Ldd name))

ldd-is : (k : Kind) → is_kind Ldd k ≡ true → k ≡ Ldd
ldd-is k h = sym (same_kind Ldd k h)

no-drain : {A : Type 0} (k : Kind) → is_kind Ldd k ≡ false → is_kind Ldd k ≡ true → A
no-drain k h e = let z = sym h ∙ e in cc

node-drain : (g : Ground) (x : Tree-F Tree) → fits g (roll-Tree x) ≡ true → is_kind Ldd (kind-of (roll-Tree x)) ≡ true → IsDrainLeaf (roll-Tree x)
node-drain g (Tree-F.Number k c) h e = no-drain k (not-true (is_kind Ldd k) (sym (ap (fits g) (tree.rolls-Number k c) ∙ fits-number-is g k c) ∙ h)) (sym (ap (λ t. is_kind Ldd (kind-of t)) (tree.rolls-Number k c) ∙ ap (λ (m : TreeMeaning). is_kind Ldd m.kind) (meaning_of-Number k c)) ∙ e)
node-drain g Tree-F.Time h e = let z = sym (ap (λ t. is_kind Ldd (kind-of t)) tree.rolls-Time ∙ ap (λ (m : TreeMeaning). is_kind Ldd m.kind) meaning_of-Time) ∙ e in cc
node-drain g (Tree-F.Input k n) h e = inl (n, tree.rolls-Input k n ∙ ap (λ j. tree.Input j n) (ldd-is k (sym (ap (λ t. is_kind Ldd (kind-of t)) (tree.rolls-Input k n) ∙ ap (λ (m : TreeMeaning). is_kind Ldd m.kind) (meaning_of-Input k n)) ∙ e)))
node-drain g (Tree-F.Stack k n) h e = no-drain k (not-true (is_kind Ldd k) (both-right (g.in_steps && is_input_of g.inputs Stack k n) (not (is_kind Ldd k)) (sym (ap (fits g) (tree.rolls-Stack k n) ∙ fits-stack-is g k n) ∙ h))) (sym (ap (λ t. is_kind Ldd (kind-of t)) (tree.rolls-Stack k n) ∙ ap (λ (m : TreeMeaning). is_kind Ldd m.kind) (meaning_of-Stack k n)) ∙ e)
node-drain g (Tree-F.Name k name) h e = inr (name, tree.rolls-Name k name ∙ ap (λ j. tree.Name j name) (ldd-is k (sym (ap (λ t. is_kind Ldd (kind-of t)) (tree.rolls-Name k name) ∙ ap (λ (m : TreeMeaning). is_kind Ldd m.kind) (meaning_of-Name k name)) ∙ e)))
node-drain g (Tree-F.Call k o args) h e = no-drain k (call-is-fit g (roll-Tree (Tree-F.Call k o args)) k o args (tree.rolls-Call k o args) h).plain (sym (ap (λ t. is_kind Ldd (kind-of t)) (tree.rolls-Call k o args) ∙ ap (λ (m : TreeMeaning). is_kind Ldd m.kind) (meaning_of-Call k o args)) ∙ e)
node-drain g (Tree-F.CallWith k o file window args) h e = no-drain k (told-is-fit g (roll-Tree (Tree-F.CallWith k o file window args)) k o file window args (tree.rolls-CallWith k o file window args) h).plain (sym (ap (λ t. is_kind Ldd (kind-of t)) (tree.rolls-CallWith k o file window args) ∙ ap (λ (m : TreeMeaning). is_kind Ldd m.kind) (meaning_of-CallWith k o file window args)) ∙ e)
node-drain g (Tree-F.Mask args) h e = let z = sym (ap (fits g) (tree.rolls-Mask args) ∙ fits-mask-is g args) ∙ h in cc

-- a drain map that fits is an input or has a name
pub fits-drain : (g : Ground) (t : Tree) → fits g t ≡ true → is_kind Ldd (kind-of t) ≡ true → IsDrainLeaf t
fits-drain g = ind-Tree (λ t. fits g t ≡ true → is_kind Ldd (kind-of t) ≡ true → IsDrainLeaf t) (λ x y is. node-drain g x)

-- ---- whether it keeps to the table

-- an operation that keeps to the table: its operands do, and its kinds are of its row
pub record CallSound (kind : Kind) (op : Op) (args : List Tree) : Type 0 where
  pub operands : list_all is_sound args ≡ true
  pub kinds : has_kinds (map_row (row_of op)) (map kind-of args) kind ≡ true

pub call-sound : (t : Tree) (kind : Kind) (op : Op) (file window : ℕ) (args : List Tree) → IsCall t kind op file window args → is_sound t ≡ true → CallSound kind op args
call-sound t kind op file window args (inl h) f =
    let e = sym (ap is_sound h.0 ∙ sound-call kind op args) ∙ f in
    let r = both-right (list_all is_sound args) (has_kinds (row_of op) (map kind-of args) kind) e in
    record {
      operands = both-left (list_all is_sound args) (has_kinds (row_of op) (map kind-of args) kind) e;
      kinds = ap (λ row. has_kinds row (map kind-of args) kind) (map-row-is op (map kind-of args) kind r) ∙ r;
    }
call-sound t kind op file window args (inr h) f =
    let e = sym (ap is_sound h ∙ sound-call-with kind op file window args) ∙ f in
    record {
      operands = both-left (list_all is_sound args) (has_kinds (map_row (row_of op)) (map kind-of args) kind) e;
      kinds = both-right (list_all is_sound args) (has_kinds (map_row (row_of op)) (map kind-of args) kind) e;
    }

-- a mask that keeps to the table: its operands do, and are a drain map and a boolean
pub record MaskSound (args : List Tree) : Type 0 where
  pub operands : list_all is_sound args ≡ true
  pub kinds : are_mask_kinds (map kind-of args) ≡ true

pub mask-is-sound : (t : Tree) (args : List Tree) → t ≡ tree.Mask args → is_sound t ≡ true → MaskSound args
mask-is-sound t args ht h =
    let e = sym (ap is_sound ht ∙ sound-mask args) ∙ h in
    record { operands = both-left (list_all is_sound args) (are_mask_kinds (map kind-of args)) e; kinds = both-right (list_all is_sound args) (are_mask_kinds (map kind-of args)) e }
