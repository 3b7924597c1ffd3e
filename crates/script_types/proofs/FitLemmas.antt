-- Whether an expression fits, one node at a time.
use Rattle.std.proofs.Common.{◌≡◌, ◌≤◌, ◌&&◌, ◌==◌, ℕ, Bool, true, false, not, List, [], ◌∷◌, map, length, refl, sym, ap, ◌∙◌, arith}
use Rattle.std.specs.Prelude.{Option, None, Some, nat_le, slice_get, option_map}
use Rattle.std.specs.List.{list_all}
use Rattle.std.specs.Option.{is_none}
use Rattle.std.proofs.lemmas.List.{length-map}
use Rattle.cell_values.specs.declared.cell.Cell.{Cell}
use Rattle.cell_values.specs.declared.kind.Kind.{Kind}
use Rattle.cell_values.specs.declared.kind.Kind.TheVariants.{Ldd}
use Rattle.map_meaning.specs.declared.op.Op.{Op}
use Rattle.map_meaning.specs.declared.program.InputUse.{InputUse}
use Rattle.map_meaning.specs.declared.program.Role.{Role}
use Rattle.map_meaning.specs.declared.program.Role.TheVariants.{Grid, Stack, Table, Series}
use Rattle.map_meaning.specs.declared.tree.Tree.{Tree}
use Rattle.map_meaning.specs.declared.tree.Tree.TheVariants as tree
use Rattle.map_meaning.specs.declared.tree.Tree.TheVariants.{rolls-Call, rolls-CallWith, rolls-Input, rolls-Mask, rolls-Name, rolls-Number, rolls-Stack, rolls-Time}
use Rattle.map_meaning.specs.declared.tree.Tree.TheFolds.{fold-roll-Tree}
use Rattle.map_meaning.specs.declared.tree.Tree.TheOpen.{Tree-F}
use Rattle.map_meaning.specs.Programs.{file_role, is_id_kind}
use Rattle.map_meaning.specs.Table.{is_focal, is_kind}
use Rattle.map_meaning.proofs.Callers.{same_kind}
use Rattle.script_types.specs.inside.Fits.{Ground, fits, fits_level, is_file_of, is_ids, is_ids_as, is_input_as, is_input_of, is_of, is_role, is_told}

-- a test of mapped elements
pub all-mapped : {A : Type 0} (f : A → Bool) (xs : List A) → list_all (λ b. b) (map f xs) ≡ list_all f xs
all-mapped f [] = refl
all-mapped f (x ∷ xs) = ap (λ rest. f x && rest) (all-mapped f xs)

-- both hold
pub both-left : (a b : Bool) → (a && b) ≡ true → a ≡ true
both-left true b h = refl
both-left false b h = cc

pub both-right : (a b : Bool) → (a && b) ≡ true → b ≡ true
both-right true b h = h
both-right false b h = cc

-- what passes of all passes of the first and of the others
pub pass-next : {A : Type 0} (p : A → Bool) (all : List A) (x : A) (rest : List A) → all ≡ x ∷ rest → list_all p all ≡ true → (p x ≡ true) × (list_all p rest ≡ true)
pass-next p all x rest e h = let k = sym (ap (list_all p) e) ∙ h in (both-left (p x) (list_all p rest) k, both-right (p x) (list_all p rest) k)

-- ---- inputs

same-keys : (m n : ℕ) → (m == n) ≡ true → Table m ≡ Table n
same-keys m n h = let e : m ≡ n = grind (arith, h) in ap Table e

-- roles that pass the test are the same
pub same-role : (a b : Role) → is_role a b ≡ true → a ≡ b
same-role Grid Grid h = refl
same-role Grid Stack h = cc
same-role Grid (Table n) h = cc
same-role Grid Series h = cc
same-role Stack Grid h = cc
same-role Stack Stack h = refl
same-role Stack (Table n) h = cc
same-role Stack Series h = cc
same-role (Table m) Grid h = cc
same-role (Table m) Stack h = cc
same-role (Table m) (Table n) h = same-keys m n h
same-role (Table m) Series h = cc
same-role Series Grid h = cc
same-role Series Stack h = cc
same-role Series (Table n) h = cc
same-role Series Series h = refl

-- the input with this number has the role and the kind
pub record HasInput (inputs : List InputUse) (role : Role) (kind : Kind) (n : ℕ) : Type 0 where
  pub input : InputUse
  pub there : slice_get inputs n ≡ Some input
  pub role_is : input.role ≡ role
  pub kind_is : input.kind ≡ kind

-- where the test of an input passes it has the role and the kind
pub has-input : (inputs : List InputUse) (role : Role) (kind : Kind) (n : ℕ) → is_input_of inputs role kind n ≡ true → HasInput inputs role kind n
has-input inputs role kind n h = by-input (slice_get inputs n) refl h
  where
    by-input : (o : Option InputUse) → slice_get inputs n ≡ o → is_input_as o role kind ≡ true → HasInput inputs role kind n
    by-input None e g = cc
    by-input (Some i) e g = record { input = i; there = e; role_is = same-role i.role role (both-left (is_role i.role role) (is_kind i.kind kind) g); kind_is = same_kind i.kind kind (both-right (is_role i.role role) (is_kind i.kind kind) g) }

-- its kind
pub input-kind-is : (inputs : List InputUse) (role : Role) (kind : Kind) (n : ℕ) → is_input_of inputs role kind n ≡ true → option_map (λ i. i.kind) (slice_get inputs n) ≡ Some kind
input-kind-is inputs role kind n h = let i = has-input inputs role kind n h in ap (option_map (λ i. i.kind)) i.there ∙ ap Some i.kind_is

-- the input with this number is a map of ids
pub record HasIds (inputs : List InputUse) (n : ℕ) : Type 0 where
  pub input : InputUse
  pub there : slice_get inputs n ≡ Some input
  pub role_is : input.role ≡ Grid
  pub id_kind : is_id_kind input.kind ≡ true

-- where the test of ids passes it is a map of ids
pub has-ids : (inputs : List InputUse) (n : ℕ) → is_ids inputs n ≡ true → HasIds inputs n
has-ids inputs n h = by-input (slice_get inputs n) refl h
  where
    by-input : (o : Option InputUse) → slice_get inputs n ≡ o → is_ids_as o ≡ true → HasIds inputs n
    by-input None e g = cc
    by-input (Some i) e g = record { input = i; there = e; role_is = same-role i.role Grid (both-left (is_role i.role Grid) (is_id_kind i.kind) g); id_kind = both-right (is_role i.role Grid) (is_id_kind i.kind) g }

-- ---- whether a node fits

-- a number does, unless it is to be a drain map
pub fits-number-is : (g : Ground) (k : Kind) (c : Cell) → fits g (tree.Number k c) ≡ not (is_kind Ldd k)
unfolding fits
fits-number-is g k c = ap (fits g) (sym (rolls-Number k c)) ∙ fold-roll-Tree Bool (fits_level g) (Tree-F.Number k c)

-- the number of the step, in `dynamic`
pub fits-time-is : (g : Ground) → fits g tree.Time ≡ g.in_steps
unfolding fits
fits-time-is g = ap (fits g) (sym rolls-Time) ∙ fold-roll-Tree Bool (fits_level g) Tree-F.Time

pub fits-input-is : (g : Ground) (k : Kind) (n : ℕ) → fits g (tree.Input k n) ≡ is_input_of g.inputs Grid k n
unfolding fits
fits-input-is g k n = ap (fits g) (sym (rolls-Input k n)) ∙ fold-roll-Tree Bool (fits_level g) (Tree-F.Input k n)

pub fits-stack-is : (g : Ground) (k : Kind) (n : ℕ) → fits g (tree.Stack k n) ≡ (g.in_steps && is_input_of g.inputs Stack k n && not (is_kind Ldd k))
unfolding fits
fits-stack-is g k n = ap (fits g) (sym (rolls-Stack k n)) ∙ fold-roll-Tree Bool (fits_level g) (Tree-F.Stack k n)

pub fits-name-is : (g : Ground) (k : Kind) (name : List ℕ) → fits g (tree.Name k name) ≡ is_of (g.above name) k
unfolding fits
fits-name-is g k name = ap (fits g) (sym (rolls-Name k name)) ∙ fold-roll-Tree Bool (fits_level g) (Tree-F.Name k name)

-- a mask of a drain map is no part of an expression
pub fits-mask-is : (g : Ground) (args : List Tree) → fits g (tree.Mask args) ≡ false
unfolding fits
fits-mask-is g args = ap (fits g) (sym (rolls-Mask args)) ∙ fold-roll-Tree Bool (fits_level g) (Tree-F.Mask args)

-- an operation that is told its operands alone looks nothing up and at no window
pub fits-call : (g : Ground) (k : Kind) (o : Op) (args : List Tree) → fits g (tree.Call k o args) ≡ (list_all (fits g) args && (nat_le (length args) 4 && is_none (file_role o (length args))) && not (is_focal o) && not (is_kind Ldd k))
unfolding fits
fits-call g k o args = ap (fits g) (sym (rolls-Call k o args)) ∙ fold-roll-Tree Bool (fits_level g) (Tree-F.Call k o args) ∙ ap (λ n. list_all (λ b. b) (map (fits g) args) && (nat_le n 4 && is_none (file_role o n)) && not (is_focal o) && not (is_kind Ldd k)) (length-map args (fits g)) ∙ ap (λ b. b && (nat_le (length args) 4 && is_none (file_role o (length args))) && not (is_focal o) && not (is_kind Ldd k)) (all-mapped (fits g) args)

-- an operation that is told more has what it needs
pub fits-call-with : (g : Ground) (k : Kind) (o : Op) (file window : ℕ) (args : List Tree) → fits g (tree.CallWith k o file window args) ≡ (list_all (fits g) args && (nat_le (length args) 4 && is_told g.inputs o (length args) k file window) && not (is_kind Ldd k))
unfolding fits
fits-call-with g k o file window args = ap (fits g) (sym (rolls-CallWith k o file window args)) ∙ fold-roll-Tree Bool (fits_level g) (Tree-F.CallWith k o file window args) ∙ ap (λ n. list_all (λ b. b) (map (fits g) args) && (nat_le n 4 && is_told g.inputs o n k file window) && not (is_kind Ldd k)) (length-map args (fits g)) ∙ ap (λ b. b && (nat_le (length args) 4 && is_told g.inputs o (length args) k file window) && not (is_kind Ldd k)) (all-mapped (fits g) args)

-- ---- what a node that fits has

at-most : (n : ℕ) → nat_le n 4 ≡ true → n ≤ 4
at-most n h = grind (arith, h)

none-is : {A : Type 0} (o : Option A) → is_none o ≡ true → o ≡ None
none-is None h = refl
none-is (Some x) h = cc

pub not-true : (b : Bool) → not b ≡ true → b ≡ false
not-true false h = refl
not-true true h = cc

-- what an operation has that fits and is told its operands alone
pub record CallIsFit (g : Ground) (k : Kind) (o : Op) (args : List Tree) : Type 0 where
  pub operands : list_all (fits g) args ≡ true
  pub few : length args ≤ 4
  pub no_file : file_role o (length args) ≡ None
  pub no_window : is_focal o ≡ false
  pub plain : is_kind Ldd k ≡ false

pub call-is-fit : (g : Ground) (t : Tree) (k : Kind) (o : Op) (args : List Tree) → t ≡ tree.Call k o args → fits g t ≡ true → CallIsFit g k o args
call-is-fit g t k o args ht h =
    let counts = nat_le (length args) 4 && is_none (file_role o (length args)) in
    let all = list_all (fits g) args in
    let p = sym (ap (fits g) ht ∙ fits-call g k o args) ∙ h in
    let q = both-left (all && counts && not (is_focal o)) (not (is_kind Ldd k)) p in
    let r = both-left (all && counts) (not (is_focal o)) q in
    let c = both-right all counts r in
    record {
      operands = both-left all counts r;
      few = at-most (length args) (both-left (nat_le (length args) 4) (is_none (file_role o (length args))) c);
      no_file = none-is (file_role o (length args)) (both-right (nat_le (length args) 4) (is_none (file_role o (length args))) c);
      no_window = not-true (is_focal o) (both-right (all && counts) (not (is_focal o)) q);
      plain = not-true (is_kind Ldd k) (both-right (all && counts && not (is_focal o)) (not (is_kind Ldd k)) p);
    }

-- what an operation has that fits and is told more
pub record ToldIsFit (g : Ground) (k : Kind) (o : Op) (file window : ℕ) (args : List Tree) : Type 0 where
  pub operands : list_all (fits g) args ≡ true
  pub few : length args ≤ 4
  pub told : is_told g.inputs o (length args) k file window ≡ true
  pub plain : is_kind Ldd k ≡ false

pub told-is-fit : (g : Ground) (t : Tree) (k : Kind) (o : Op) (file window : ℕ) (args : List Tree) → t ≡ tree.CallWith k o file window args → fits g t ≡ true → ToldIsFit g k o file window args
told-is-fit g t k o file window args ht h =
    let told = is_told g.inputs o (length args) k file window in
    let all = list_all (fits g) args in
    let p = sym (ap (fits g) ht ∙ fits-call-with g k o file window args) ∙ h in
    let q = both-left (all && (nat_le (length args) 4 && told)) (not (is_kind Ldd k)) p in
    let c = both-right all (nat_le (length args) 4 && told) q in
    record {
      operands = both-left all (nat_le (length args) 4 && told) q;
      few = at-most (length args) (both-left (nat_le (length args) 4) told c);
      told = both-right (nat_le (length args) 4) told c;
      plain = not-true (is_kind Ldd k) (both-right (all && (nat_le (length args) 4 && told)) (not (is_kind Ldd k)) p);
    }

-- the table or the series of an operation that looks its results up
pub record HasFile (inputs : List InputUse) (asked : Option Role) (kind : Kind) (n : ℕ) : Type 0 where
  pub role : Role
  pub asked_is : asked ≡ Some role
  pub input : HasInput inputs role kind n

pub has-file : (inputs : List InputUse) (asked : Option Role) (kind : Kind) (n : ℕ) → is_file_of inputs asked kind n ≡ true → HasFile inputs asked kind n
has-file inputs None kind n h = cc
has-file inputs (Some role) kind n h = record { role = role; asked_is = refl; input = has-input inputs role kind n h }

of-kind : (o : Option Kind) (k : Kind) → is_of o k ≡ true → o ≡ Some k
of-kind None k h = cc
of-kind (Some j) k h = ap Some (same_kind j k h)

-- an input that fits is a grid of its kind
pub fits-grid : (g : Ground) (t : Tree) (k : Kind) (n : ℕ) → t ≡ tree.Input k n → fits g t ≡ true → HasInput g.inputs Grid k n
fits-grid g t k n ht h = has-input g.inputs Grid k n (sym (ap (fits g) ht ∙ fits-input-is g k n) ∙ h)

-- an input that fits has its kind
pub fits-input : (g : Ground) (t : Tree) (k : Kind) (n : ℕ) → t ≡ tree.Input k n → fits g t ≡ true → option_map (λ i. i.kind) (slice_get g.inputs n) ≡ Some k
fits-input g t k n ht h = input-kind-is g.inputs Grid k n (sym (ap (fits g) ht ∙ fits-input-is g k n) ∙ h)

-- the number of the step fits in `dynamic` alone
pub fits-time : (g : Ground) (t : Tree) → t ≡ tree.Time → fits g t ≡ true → g.in_steps ≡ true
fits-time g t ht h = sym (ap (fits g) ht ∙ fits-time-is g) ∙ h

-- a stack that fits stands in `dynamic`, and is a stack of its kind
pub fits-stack : (g : Ground) (t : Tree) (k : Kind) (n : ℕ) → t ≡ tree.Stack k n → fits g t ≡ true → (g.in_steps ≡ true) × HasInput g.inputs Stack k n
fits-stack g t k n ht h =
    let p = both-left (g.in_steps && is_input_of g.inputs Stack k n) (not (is_kind Ldd k)) (sym (ap (fits g) ht ∙ fits-stack-is g k n) ∙ h) in
    (both-left g.in_steps (is_input_of g.inputs Stack k n) p, has-input g.inputs Stack k n (both-right g.in_steps (is_input_of g.inputs Stack k n) p))

-- a name that fits has its kind
pub fits-name : (g : Ground) (t : Tree) (k : Kind) (name : List ℕ) → t ≡ tree.Name k name → fits g t ≡ true → g.above name ≡ Some k
fits-name g t k name ht h = of-kind (g.above name) k (sym (ap (fits g) ht ∙ fits-name-is g k name) ∙ h)
