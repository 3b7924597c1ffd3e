-- That operations on operands that fit do: those on maps, those that look their results up, and those over windows.
use Rattle.std.proofs.Common.{◌≡◌, ◌≤◌, ℕ, suc, ◌+◌, ◌-◌, Bool, true, false, not, ◌&&◌, ◌||◌, List, [], ◌∷◌, map, length, refl, sym, ap, subst, ◌∙◌, Ok, if◌then◌else◌, arith}
use Rattle.std.specs.Prelude.{⊤, Option, None, Some, slice_index_or, nat_le, nat_lt, ◌==◌}
use Rattle.std.specs.Option.{is_none, unwrap_or}
use Rattle.std.specs.List.{list_all}
use Rattle.std.proofs.lemmas.List.{length-map}
use Rattle.text_base.specs.Results.{◌>>=◌}
use Rattle.cell_values.specs.declared.kind.Kind.{Kind}
use Rattle.cell_values.specs.declared.kind.Kind.TheVariants.{Boolean, Nominal, Ordinal, Scalar, Directional, Ldd}
use Rattle.cell_values.specs.inside.Reading.{cell_read}
use Rattle.map_meaning.specs.declared.op.Op.{Op}
use Rattle.map_meaning.specs.declared.op.Op.TheVariants as op
use Rattle.map_meaning.specs.declared.program.Role.TheVariants.{Table, Series}
use Rattle.map_meaning.specs.declared.row.Row.{Row}
use Rattle.map_meaning.specs.declared.row.Ask.{Ask}
use Rattle.map_meaning.specs.declared.row.Ask.TheVariants as ask
use Rattle.map_meaning.specs.declared.row.Given.{Given}
use Rattle.map_meaning.specs.declared.row.Given.TheVariants as given
use Rattle.map_meaning.specs.declared.table.TheConstants.{MANY_OPERANDS}
use Rattle.map_meaning.specs.declared.tree.Tree.{Tree}
use Rattle.map_meaning.specs.declared.tree.Tree.TheVariants as tree
use Rattle.map_meaning.specs.Programs.{file_role}
use Rattle.map_meaning.specs.Table.{allows, ask_at, before_length, behind_file, given_kind, is_alike, is_file, is_focal, is_kind, is_length, is_window_length, map_row, row_of, takes}
use Rattle.map_meaning.proofs.Callers.{meaning_of-Call, meaning_of-CallWith, same_kind}
use Rattle.script_types.specs.declared.typed.Argument.{Argument}
use Rattle.script_types.specs.declared.typed.Argument.TheVariants as argument
use Rattle.script_types.specs.declared.typed.Typed.{Typed}
use Rattle.script_types.specs.declared.typed.Typed.TheVariants as typed
use Rattle.script_types.specs.declared.typed.UsedAs.{UsedAs}
use Rattle.script_types.specs.declared.typed.UsedAs.TheVariants as used
use Rattle.script_types.specs.Names.{role_asked}
use Rattle.script_types.specs.Table.{asks_drain, op_of}
use Rattle.script_types.specs.Typing.{agreed_kind, argument_at, argument_kind, arguments_at, begins_free, call_tree, deciding, file_of, first_deciding, is_good_length, length_among, whole_number, maps_of, nested, nested_on, operation_tree, or_kind}
use Rattle.script_types.specs.inside.Fits.{Ground, fits, is_file_of, is_input_of, is_told}
use Rattle.script_types.specs.inside.Sound.{are_allowed, has_kinds, is_sound}
use Rattle.script_types.proofs.FitLemmas.{both-left, both-right, fits-call, fits-call-with, not-true}
use Rattle.script_types.proofs.FitNodes.{IsGood, IsGoodTyped, ok-one}
use Rattle.script_types.proofs.FoundRows.{IsPlain, asks-alone, asks-file, asks-map, asks-plain, gives-alone, gives-kind, is-common, is-look-up, is-plain, is-series-op, is-table-op, is-windowed, plain-row, takes-just}
use Rattle.script_types.proofs.MapRows.{no-file, no-window}
use Rattle.script_types.proofs.RowKinds.{alike-has, allowed-alike, ask-behind, both-are, nested-has-kinds, row-has-kinds, takes-behind, window-has-kinds}
use Rattle.script_types.proofs.SoundLemmas.{kind-of, sound-call, sound-call-with}
use Rattle.script_types.proofs.FitOperands.{AllGood, AllMaps, IsPlaced, allowed-plain, given-plain, maps-fit, placed-all}

-- ---- calls

few-fit : (o : Op) (count : ℕ) (kinds : List Kind) (kind : Kind) → nat_le count 4 ≡ true → has_kinds (row_of o) kinds kind ≡ true → (nat_le count 4 && is_none (file_role o count)) ≡ true
few-fit o count kinds kind hn hr = both-are (nat_le count 4) (is_none (file_role o count)) hn (ap is_none (no-file o count kinds kind hr))

-- an operation on a few operands that fit, with kinds of its row
pub call-fits : (g : Ground) (kind : Kind) (op : Op) (ts : List Tree) → list_all (fits g) ts ≡ true → list_all is_sound ts ≡ true → nat_le (length ts) 4 ≡ true → has_kinds (row_of op) (map kind-of ts) kind ≡ true → is_kind Ldd kind ≡ false → IsGood g (tree.Call kind op ts) kind
call-fits g kind op ts ht hs hn hr hk =
    let all = list_all (fits g) ts in
    let counts = nat_le (length ts) 4 && is_none (file_role op (length ts)) in
    record {
      value = fits-call g kind op ts ∙ both-are (all && counts && not (is_focal op)) (not (is_kind Ldd kind)) (both-are (all && counts) (not (is_focal op)) (both-are all counts ht (few-fit op (length ts) (map kind-of ts) kind hn hr)) (ap not (no-window op (map kind-of ts) kind hr))) (ap not hk);
      of_kind = ap (λ m. m.kind) (meaning_of-Call kind op ts);
      sound = sound-call kind op ts ∙ both-are (list_all is_sound ts) (has_kinds (row_of op) (map kind-of ts) kind) hs hr;
    }

-- all these are the kind
AllAre : Kind → List Kind → Type 0
AllAre kind [] = ⊤
AllAre kind (k ∷ ks) = (k ≡ kind) × AllAre kind ks

-- an operation on two operands of its kind
pair-fits : (g : Ground) (kind : Kind) (op : Op) (t u : Tree) → fits g t ≡ true → is_sound t ≡ true → kind-of t ≡ kind → fits g u ≡ true → is_sound u ≡ true → kind-of u ≡ kind → has_kinds (row_of op) (kind ∷ kind ∷ []) kind ≡ true → is_kind Ldd kind ≡ false → IsGood g (tree.Call kind op (t ∷ u ∷ [])) kind
pair-fits g kind op t u ht st kt hu su ku hr hk = call-fits g kind op (t ∷ u ∷ [])
    (both-are (fits g t) (fits g u && true) ht (both-are (fits g u) true hu refl)) (both-are (is_sound t) (is_sound u && true) st (both-are (is_sound u) true su refl)) refl
    (ap (λ k. has_kinds (row_of op) (k ∷ kind-of u ∷ []) kind) kt ∙ ap (λ k. has_kinds (row_of op) (kind ∷ k ∷ []) kind) ku ∙ hr) hk

nested-fits : (g : Ground) (kind : Kind) (op : Op) (left : Tree) (ts : List Tree) → IsGood g left kind → list_all (fits g) ts ≡ true → list_all is_sound ts ≡ true → AllAre kind (map kind-of ts) → has_kinds (row_of op) (kind ∷ kind ∷ []) kind ≡ true → is_kind Ldd kind ≡ false → IsGood g (nested_on op kind left ts) kind
unfolding AllAre
nested-fits g kind op left [] hl ht hs ha hr hk = hl
nested-fits g kind op left (t ∷ ts) hl ht hs ha hr hk =
    nested-fits g kind op (tree.Call kind op (left ∷ t ∷ [])) ts
    (pair-fits g kind op left t hl.value hl.sound hl.of_kind (both-left (fits g t) (list_all (fits g) ts) ht) (both-left (is_sound t) (list_all is_sound ts) hs) ha.0 hr hk)
    (both-right (fits g t) (list_all (fits g) ts) ht) (both-right (is_sound t) (list_all is_sound ts) hs) ha.1 hr hk

nested-good : (g : Ground) (kind : Kind) (op : Op) (ts : List Tree) → list_all (fits g) ts ≡ true → list_all is_sound ts ≡ true → AllAre kind (map kind-of ts) → has_kinds (row_of op) (kind ∷ kind ∷ []) kind ≡ true → 2 ≤ length ts → is_kind Ldd kind ≡ false → IsGood g (nested op kind ts) kind
unfolding AllAre
nested-good g kind op [] ht hs ha hr hn hk = absurd (omega (arith, hn))
nested-good g kind op (t ∷ []) ht hs ha hr hn hk = absurd (omega (arith, hn))
nested-good g kind op (t ∷ u ∷ ts) ht hs ha hr hn hk =
    let ht1 = both-right (fits g t) (fits g u && list_all (fits g) ts) ht in
    let hs1 = both-right (is_sound t) (is_sound u && list_all is_sound ts) hs in
    nested-fits g kind op (tree.Call kind op (t ∷ u ∷ [])) ts
    (pair-fits g kind op t u (both-left (fits g t) (fits g u && list_all (fits g) ts) ht) (both-left (is_sound t) (is_sound u && list_all is_sound ts) hs) ha.0 (both-left (fits g u) (list_all (fits g) ts) ht1) (both-left (is_sound u) (list_all is_sound ts) hs1) ha.1.0 hr hk)
    (both-right (fits g u) (list_all (fits g) ts) ht1) (both-right (is_sound u) (list_all is_sound ts) hs1) ha.1.1 hr hk

few-of : (least most n : ℕ) → (nat_le least n && nat_le n most) ≡ true → nat_le most 4 ≡ true → nat_le n 4 ≡ true
few-of least most n h k = let m = both-right (nat_le least n) (nat_le n most) h in grind (arith, m, k)

two-of : (least most n : ℕ) (more : Bool) → (nat_le least n && nat_le n most) ≡ true → ((least == 2) && more) ≡ true → 2 ≤ n
two-of least most n more h k = let m = both-left (nat_le least n) (nat_le n most) h in let l = both-left (least == 2) more k in grind (arith, m, l)

-- where all places ask to agree, all kinds are what is agreed
all-are : (row : Row) (agreed : Kind) (i : ℕ) (ks : List Kind) → ((j : ℕ) → is_alike (ask_at row j) ≡ true) → are_allowed row agreed i ks ≡ true → AllAre agreed ks
unfolding AllAre
all-are row agreed i [] ha h = tt
all-are row agreed i (k ∷ ks) ha h = (sym (allowed-alike (ask_at row i) agreed k (ha i) (both-left (allows agreed (ask_at row i) k) (are_allowed row agreed (i + 1) ks) h)), all-are row agreed (i + 1) ks ha (both-right (allows agreed (ask_at row i) k) (are_allowed row agreed (i + 1) ks) h))

places-alike : (row : Row) (j : ℕ) → is_alike row.first ≡ true → is_alike row.second ≡ true → is_alike row.further ≡ true → is_alike (ask_at row j) ≡ true
places-alike row j a b c = by-place (j == 0) (j == 1)
  where
    by-place : (s t : Bool) → is_alike (if s then row.first else if t then row.second else row.further) ≡ true
    by-place true t = a
    by-place false true = b
    by-place false false = c

common-given : (gives : Given) (agreed : Kind) (ks : List Kind) → is-common gives ≡ true → given_kind gives agreed ks ≡ agreed
common-given given.Common agreed ks h = refl
common-given (given.Always k) agreed ks h = cc
common-given (given.Same i) agreed ks h = cc

-- an operation on maps that fit
pub tree-good : (g : Ground) (row : Row) (agreed : Kind) (xs : List Argument) → IsPlain (length xs) row → row_of (op_of row.meant) ≡ row → is_kind Ldd agreed ≡ false → ((j : ℕ) → alike-has (ask_at row j) agreed ≡ true) → AllMaps g xs → are_allowed row agreed 0 (map argument_kind xs) ≡ true → (let kind = given_kind row.gives agreed (map argument_kind xs) in IsGood g (call_tree row kind (maps_of xs)) kind)
tree-good g row agreed xs hf hi hk hh hm ha = by-test (nat_lt row.most MANY_OPERANDS) refl
  where
    by-test : (b : Bool) → nat_lt row.most MANY_OPERANDS ≡ b → (let kind = given_kind row.gives agreed (map argument_kind xs) in IsGood g (if b then tree.Call kind (op_of row.meant) (maps_of xs) else nested (op_of row.meant) kind (maps_of xs)) kind)
    by-test true e =
        let kind = given_kind row.gives agreed (map argument_kind xs) in
        let fit = maps-fit g xs hm in
        let few = sym (ap (λ b. if b then nat_le row.most 4 else (row.least == 2) && (is_alike row.first && (is_alike row.second && (is_alike row.further && is-common row.gives)))) e) ∙ hf.few in
        call-fits g kind (op_of row.meant) (maps_of xs) fit.fit fit.sound (few-of row.least row.most (length (maps_of xs)) (ap (takes row) fit.count ∙ hf.takes) few)
        (ap (λ r. has_kinds r (map kind-of (maps_of xs)) kind) hi ∙ ap (λ ks. has_kinds row ks kind) fit.kinds ∙ row-has-kinds row agreed (map argument_kind xs) (subst (λ n. IsPlain n row) (sym (length-map xs argument_kind)) hf) e ha)
        (given-plain row row.gives agreed (map argument_kind xs) hf.gives hk ha)
    by-test false e =
        let fit = maps-fit g xs hm in
        let few = sym (ap (λ b. if b then nat_le row.most 4 else (row.least == 2) && (is_alike row.first && (is_alike row.second && (is_alike row.further && is-common row.gives)))) e) ∙ hf.few in
        let more = both-right (row.least == 2) (is_alike row.first && (is_alike row.second && (is_alike row.further && is-common row.gives))) few in
        let rest = both-right (is_alike row.first) (is_alike row.second && (is_alike row.further && is-common row.gives)) more in
        let last = both-right (is_alike row.second) (is_alike row.further && is-common row.gives) rest in
        let alike : (j : ℕ) → is_alike (ask_at row j) ≡ true = λ j. places-alike row j (both-left (is_alike row.first) (is_alike row.second && (is_alike row.further && is-common row.gives)) more) (both-left (is_alike row.second) (is_alike row.further && is-common row.gives) rest) (both-left (is_alike row.further) (is-common row.gives) last) in
        let is = common-given row.gives agreed (map argument_kind xs) (both-right (is_alike row.further) (is-common row.gives) last) in
        subst (λ kind. IsGood g (nested (op_of row.meant) kind (maps_of xs)) kind) (sym is)
        (nested-good g agreed (op_of row.meant) (maps_of xs) fit.fit fit.sound (subst (AllAre agreed) (sym fit.kinds) (all-are row agreed 0 (map argument_kind xs) alike ha))
        (ap (λ r. has_kinds r (agreed ∷ agreed ∷ []) agreed) hi ∙ nested-has-kinds row agreed e hf.few hh)
        (two-of row.least row.most (length (maps_of xs)) (is_alike row.first && (is_alike row.second && (is_alike row.further && is-common row.gives))) (ap (takes row) fit.count ∙ hf.takes) few) hk)

-- ---- look-ups

-- a place that asks a map asks no table and no series
pub map-no-file : (asked : Ask) → asks-map asked ≡ true → is_file asked ≡ false
map-no-file (ask.Only kind) h = refl
map-no-file (ask.One kinds) h = refl
map-no-file (ask.Alike kinds) h = refl
map-no-file (ask.Table kind) h = cc
map-no-file (ask.Series kind) h = cc
map-no-file ask.Stack h = cc
map-no-file ask.Length h = cc

-- what an operation looks its results up in
table-role : (o : Op) (n : ℕ) → is-table-op o ≡ true → file_role o n ≡ Some (Table n)
table-role op.LookupBoolean n h = refl
table-role op.LookupNominal n h = refl
table-role op.LookupOrdinal n h = refl
table-role op.LookupScalar n h = refl
table-role op.LookupDirectional n h = refl
table-role _ n h = cc

series-role : (o : Op) (n : ℕ) → is-series-op o ≡ true → file_role o n ≡ Some Series
series-role op.TimeInputBoolean n h = refl
series-role op.TimeInputNominal n h = refl
series-role op.TimeInputOrdinal n h = refl
series-role op.TimeInputScalar n h = refl
series-role op.TimeInputDirectional n h = refl
series-role _ n h = cc

-- the operand is the table or the series of an operation with so many keys, and its kind is given and no drain map's
pub record IsLookUpOf (g : Ground) (o : Op) (n : ℕ) (gives : Given) (x : Argument) : Type 0 where
  kind : Kind
  number : ℕ
  is : x ≡ argument.File kind number
  given_is : gives ≡ given.Always kind
  plain : is_kind Ldd kind ≡ false
  file : is_file_of g.inputs (file_role o n) kind number ≡ true

gives-is : (gives : Given) (kind : Kind) → gives-kind gives kind ≡ true → (gives ≡ given.Always kind) × (is_kind Ldd kind ≡ false)
gives-is (given.Always j) kind h = (ap given.Always (sym (same_kind kind j (both-left (is_kind kind j) (not (is_kind Ldd kind)) h))), not-true (is_kind Ldd kind) (both-right (is_kind kind j) (not (is_kind Ldd kind)) h))
gives-is given.Common kind h = cc
gives-is (given.Same i) kind h = cc

one-less : (n : ℕ) → suc n - 1 ≡ n
one-less n = omega arith

table-named : (keys n : ℕ) (j k : Kind) → used.Table keys j ≡ used.Table (suc n - 1) k → (keys ≡ n) × (j ≡ k)
table-named keys n j k h = let a : keys ≡ suc n - 1 = cc in let b : j ≡ k = cc in (a ∙ one-less n, b)

series-named : (j k : Kind) → used.Series j ≡ used.Series k → j ≡ k
series-named j k h = cc

table-file : (g : Ground) (role : UsedAs) (n : ℕ) (kind j : Kind) (m : ℕ) (gives : Given) (o : Op) (x : Argument) → role ≡ used.Table (suc n - 1) kind → (gives-kind gives kind && is-table-op o) ≡ true → (keys : ℕ) × (role ≡ used.Table keys j) × (is_input_of g.inputs (Table keys) j m ≡ true) → argument.File j m ≡ x → IsLookUpOf g o n gives x
table-file g role n kind j m gives o x hr ha ht hx =
    let named = table-named ht.0 n j kind (sym ht.1 ∙ hr) in
    let gave = gives-is gives kind (both-left (gives-kind gives kind) (is-table-op o) ha) in
    record {
      kind = j;
      number = m;
      is = sym hx;
      given_is = gave.0 ∙ ap given.Always (sym named.1);
      plain = ap (is_kind Ldd) named.1 ∙ gave.1;
      file = ap (λ r. is_file_of g.inputs r j m) (table-role o n (both-right (gives-kind gives kind) (is-table-op o) ha)) ∙ ap (λ k. is_input_of g.inputs (Table k) j m) (sym named.0) ∙ ht.2;
    }

series-file : (g : Ground) (role : UsedAs) (n : ℕ) (kind j : Kind) (m : ℕ) (gives : Given) (o : Op) (x : Argument) → role ≡ used.Series kind → (gives-kind gives kind && is-series-op o) ≡ true → (role ≡ used.Series j) × (is_input_of g.inputs Series j m ≡ true) → argument.File j m ≡ x → IsLookUpOf g o n gives x
series-file g role n kind j m gives o x hr ha ht hx =
    let named = series-named j kind (sym ht.0 ∙ hr) in
    let gave = gives-is gives kind (both-left (gives-kind gives kind) (is-series-op o) ha) in
    record {
      kind = j;
      number = m;
      is = sym hx;
      given_is = gave.0 ∙ ap given.Always (sym named);
      plain = ap (is_kind Ldd) named ∙ gave.1;
      file = ap (λ r. is_file_of g.inputs r j m) (series-role o n (both-right (gives-kind gives kind) (is-series-op o) ha)) ∙ ht.1;
    }

-- the first operand of a look-up
pub first-file : (g : Ground) (role : UsedAs) (n : ℕ) (agreed : Kind) (asked : Ask) (gives : Given) (o : Op) (t : Typed) (x : Argument) → role ≡ role_asked (suc n) asked → asks-file asked gives o ≡ true → IsGoodTyped g role t → argument_at agreed asked t ≡ Ok x → IsLookUpOf g o n gives x
first-file g role n agreed (ask.Table kind) gives o (typed.Table j m) x hr ha ht h = table-file g role n kind j m gives o x hr ha ht (ok-one h)
first-file g role n agreed (ask.Series kind) gives o (typed.Series j m) x hr ha ht h = series-file g role n kind j m gives o x hr ha ht (ok-one h)
first-file g role n agreed (ask.Table kind) gives o (typed.Literal text) x hr ha ht h = cc
first-file g role n agreed (ask.Table kind) gives o (typed.Constant text) x hr ha ht h = cc
first-file g role n agreed (ask.Table kind) gives o (typed.Map v) x hr ha ht h = cc
first-file g role n agreed (ask.Table kind) gives o (typed.Series j m) x hr ha ht h = cc
first-file g role n agreed (ask.Table kind) gives o (typed.Stack j m) x hr ha ht h = cc
first-file g role n agreed (ask.Table kind) gives o (typed.Sample ids v) x hr ha ht h = cc
first-file g role n agreed (ask.Series kind) gives o (typed.Literal text) x hr ha ht h = cc
first-file g role n agreed (ask.Series kind) gives o (typed.Constant text) x hr ha ht h = cc
first-file g role n agreed (ask.Series kind) gives o (typed.Map v) x hr ha ht h = cc
first-file g role n agreed (ask.Series kind) gives o (typed.Table j m) x hr ha ht h = cc
first-file g role n agreed (ask.Series kind) gives o (typed.Stack j m) x hr ha ht h = cc
first-file g role n agreed (ask.Series kind) gives o (typed.Sample ids v) x hr ha ht h = cc
first-file g role n agreed (ask.Only kind) gives o t x hr ha ht h = cc
first-file g role n agreed (ask.One kinds) gives o t x hr ha ht h = cc
first-file g role n agreed (ask.Alike kinds) gives o t x hr ha ht h = cc
first-file g role n agreed ask.Stack gives o t x hr ha ht h = cc
first-file g role n agreed ask.Length gives o t x hr ha ht h = cc

-- the operands behind the first stand as in a row without it
pub arguments-behind : (row : Row) (agreed : Kind) (i : ℕ) (ts : List Typed) → arguments_at row agreed (i + 1) ts ≡ arguments_at (behind_file row) agreed i ts
arguments-behind row agreed i [] = refl
arguments-behind row agreed i (t ∷ ts) = ap (λ a. argument_at agreed a t >>= λ x. arguments_at row agreed (i + 1 + 1) ts >>= λ xs. Ok (x ∷ xs)) (ask-behind row i) ∙ ap (λ rest. argument_at agreed (ask_at (behind_file row) i) t >>= λ x. rest >>= λ xs. Ok (x ∷ xs)) (arguments-behind row agreed (i + 1) ts)

deciding-behind : (row : Row) (i : ℕ) (ts : List Typed) → first_deciding row (i + 1) ts ≡ first_deciding (behind_file row) i ts
deciding-behind row i [] = refl
deciding-behind row i (t ∷ ts) = ap (λ a. or_kind (deciding a t) (first_deciding row (i + 1 + 1) ts)) (ask-behind row i) ∙ ap (or_kind (deciding (ask_at (behind_file row) i) t)) (deciding-behind row (i + 1) ts)

-- the name of a table or a series decides nothing
file-free : (asked : Ask) (t : Typed) (rest : Option Kind) → is_file asked ≡ true → or_kind (deciding asked t) rest ≡ rest
file-free (ask.Table kind) t rest h = refl
file-free (ask.Series kind) t rest h = refl
file-free (ask.Only kind) t rest h = cc
file-free (ask.One kinds) t rest h = cc
file-free (ask.Alike kinds) t rest h = cc
file-free ask.Stack t rest h = cc
file-free ask.Length t rest h = cc

pub agreed-behind : (row : Row) (t : Typed) (ts : List Typed) → is_file row.first ≡ true → agreed_kind row (t ∷ ts) ≡ agreed_kind (behind_file row) ts
agreed-behind row t ts h = ap (λ o. unwrap_or o Scalar) (file-free row.first t (first_deciding row (0 + 1) ts) h ∙ deciding-behind row (0) ts)

pub asks-some-file : (asked : Ask) (gives : Given) (o : Op) → asks-file asked gives o ≡ true → is_file asked ≡ true
asks-some-file (ask.Table kind) gives o h = refl
asks-some-file (ask.Series kind) gives o h = refl
asks-some-file (ask.Only kind) gives o h = cc
asks-some-file (ask.One kinds) gives o h = cc
asks-some-file (ask.Alike kinds) gives o h = cc
asks-some-file ask.Stack gives o h = cc
asks-some-file ask.Length gives o h = cc

-- an operation that is told what it needs, on a few operands that fit, with kinds of its row
told-fits : (g : Ground) (kind : Kind) (o : Op) (file window : ℕ) (ts : List Tree) → list_all (fits g) ts ≡ true → list_all is_sound ts ≡ true → nat_le (length ts) 4 ≡ true → is_told g.inputs o (length ts) kind file window ≡ true → has_kinds (map_row (row_of o)) (map kind-of ts) kind ≡ true → is_kind Ldd kind ≡ false → IsGood g (tree.CallWith kind o file window ts) kind
told-fits g kind o file window ts ht hs hn hf hr hk =
    let all = list_all (fits g) ts in
    let needs = nat_le (length ts) 4 && is_told g.inputs o (length ts) kind file window in
    record {
      value = fits-call-with g kind o file window ts ∙ both-are (all && needs) (not (is_kind Ldd kind)) (both-are all needs ht (both-are (nat_le (length ts) 4) (is_told g.inputs o (length ts) kind file window) hn hf)) (ap not hk);
      of_kind = ap (λ m. m.kind) (meaning_of-CallWith kind o file window ts);
      sound = sound-call-with kind o file window ts ∙ both-are (list_all is_sound ts) (has_kinds (map_row (row_of o)) (map kind-of ts) kind) hs hr;
    }

or-first : (a b : Bool) → a ≡ true → (a || b) ≡ true
or-first true b h = refl
or-first false b h = cc

or-second : (a b : Bool) → b ≡ true → (a || b) ≡ true
or-second true b h = refl
or-second false b h = h

few-keys : (most n : ℕ) (least : ℕ) → nat_le most 5 ≡ true → (nat_le (least - 1) n && nat_le n (most - 1)) ≡ true → (nat_le n 4 ≡ true) × (nat_lt (most - 1) MANY_OPERANDS ≡ true)
few-keys most n least h k = let m = both-right (nat_le (least - 1) n) (nat_le n (most - 1)) k in (grind (arith, m, h), grind (arith, h))

-- the parts of a row that looks its results up
pub record LooksUp (o : Op) (row : Row) : Type 0 where
  pub asks : asks-file row.first row.gives o ≡ true
  pub least : nat_le 2 row.least ≡ true
  pub most : nat_le row.most 5 ≡ true
  pub drain : asks_drain row.second ≡ false
  pub behind : is-plain (behind_file row) ≡ true

pub looks-up : (o : Op) (row : Row) → is-look-up o row ≡ true → LooksUp o row
looks-up o row h =
    let counts = nat_le 2 row.least && nat_le row.most 5 in
    let last = not (asks_drain row.second) && is-plain (behind_file row) in
    let more = both-right (asks-file row.first row.gives o) (counts && last) h in
    let both = both-left counts last more in
    record {
      asks = both-left (asks-file row.first row.gives o) (counts && last) h;
      least = both-left (nat_le 2 row.least) (nat_le row.most 5) both;
      most = both-right (nat_le 2 row.least) (nat_le row.most 5) both;
      drain = not-true (asks_drain row.second) (both-left (not (asks_drain row.second)) (is-plain (behind_file row)) (both-right counts last more));
      behind = both-right (not (asks_drain row.second)) (is-plain (behind_file row)) (both-right counts last more);
    }

-- a look-up in its table or series
pub look-up-tree : (g : Ground) (role : UsedAs) (row : Row) (o : Op) (t : Typed) (ts : List Typed) (x : Argument) (xs : List Argument) → LooksUp o row → takes row (suc (length ts)) ≡ true → row_of o ≡ row → IsLookUpOf g o (length ts) row.gives x → AllGood g used.Grid ts → arguments_at (behind_file row) (agreed_kind (behind_file row) ts) 0 ts ≡ Ok xs →
    (kind : Kind) → kind ≡ given_kind row.gives (agreed_kind row (t ∷ ts)) (map argument_kind (x ∷ xs)) → IsGood g (tree.CallWith kind o (file_of (x ∷ xs)) 0 (maps_of (x ∷ xs))) kind
look-up-tree g role row o t ts x xs hl hn hi hx ht h kind hk =
    let behind = behind_file row in
    let count = takes-behind row (length ts) hl.least hn in
    let plain = plain-row (length ts) behind count hl.behind in
    let placed = placed-all g used.Grid behind ts xs plain.maps (ap (λ b. b && begins_free ts) hl.drain) ht h in
    let fit = maps-fit g xs placed.maps in
    let same : kind ≡ hx.kind = hk ∙ ap (λ gives. given_kind gives (agreed_kind row (t ∷ ts)) (map argument_kind (x ∷ xs))) hx.given_is in
    let keys : length (maps_of xs) ≡ length ts = fit.count ∙ placed.count in
    let few = few-keys row.most (length ts) row.least hl.most count in
    let agreed = agreed_kind behind ts in
    let mapped = length-map xs argument_kind in
    let kinds = row-has-kinds behind agreed (map argument_kind xs) (subst (λ n. IsPlain n behind) (sym placed.count ∙ sym mapped) plain) few.1 placed.allowed in
    let given_here = ap (λ gives. given_kind gives agreed (map argument_kind xs)) hx.given_is in
    let its : map_row (row_of o) ≡ behind = ap map_row hi ∙ ap (λ b. if b then behind else if is_length row.second then before_length row else row) (asks-some-file row.first row.gives o hl.asks) in
    let number : file_of (x ∷ xs) ≡ hx.number = ap (λ y. file_of (y ∷ xs)) hx.is in
    let maps : maps_of (x ∷ xs) ≡ maps_of xs = ap (λ y. maps_of (y ∷ xs)) hx.is in
    let good = told-fits g hx.kind o hx.number 0 (maps_of xs) fit.fit fit.sound (ap (λ n. nat_le n 4) keys ∙ few.0) (or-second (is_focal o && is_window_length 0) (is_file_of g.inputs (file_role o (length (maps_of xs))) hx.kind hx.number) (ap (λ n. is_file_of g.inputs (file_role o n) hx.kind hx.number) keys ∙ hx.file))
    (ap (λ r. has_kinds r (map kind-of (maps_of xs)) hx.kind) its ∙ ap (λ ks. has_kinds behind ks hx.kind) fit.kinds ∙ ap (has_kinds behind (map argument_kind xs)) (sym given_here) ∙ kinds) hx.plain in
    subst (λ k. IsGood g (tree.CallWith k o (file_of (x ∷ xs)) 0 (maps_of (x ∷ xs))) k) (sym same) (subst (λ n. IsGood g (tree.CallWith hx.kind o n 0 (maps_of (x ∷ xs))) hx.kind) (sym number) (subst (λ ms. IsGood g (tree.CallWith hx.kind o hx.number 0 ms) hx.kind) (sym maps) good))

-- ---- windows

-- a place that asks for one map agrees with no other, and asks no drain map
pub not-alike-has : (asked : Ask) (k : Kind) → is_alike asked ≡ false → alike-has asked k ≡ true
not-alike-has (ask.Alike kinds) k h = cc
not-alike-has (ask.Only j) k h = refl
not-alike-has (ask.One kinds) k h = refl
not-alike-has (ask.Table j) k h = refl
not-alike-has (ask.Series j) k h = refl
not-alike-has ask.Stack k h = refl
not-alike-has ask.Length k h = refl

only-no-drain : (kind : Kind) → not (is_kind Ldd kind) ≡ true → asks_drain (ask.Only kind) ≡ false
only-no-drain Boolean h = refl
only-no-drain Nominal h = refl
only-no-drain Ordinal h = refl
only-no-drain Scalar h = refl
only-no-drain Directional h = refl
only-no-drain Ldd h = cc

pub plain-no-drain : (asked : Ask) → asks-plain asked ≡ true → asks_drain asked ≡ false
plain-no-drain (ask.Only kind) h = only-no-drain kind h
plain-no-drain (ask.One kinds) h = refl
plain-no-drain (ask.Alike kinds) h = refl
plain-no-drain (ask.Table j) h = refl
plain-no-drain (ask.Series j) h = refl
plain-no-drain ask.Stack h = refl
plain-no-drain ask.Length h = refl

-- it decides nothing
not-alike-decides : (asked : Ask) (t : Typed) → is_alike asked ≡ false → deciding asked t ≡ None
not-alike-decides (ask.Alike kinds) t h = cc
not-alike-decides (ask.Only j) t h = refl
not-alike-decides (ask.One kinds) t h = refl
not-alike-decides (ask.Table j) t h = refl
not-alike-decides (ask.Series j) t h = refl
not-alike-decides ask.Stack t h = refl
not-alike-decides ask.Length t h = refl

length-not-alike : (asked : Ask) → is_length asked ≡ true → is_alike asked ≡ false
length-not-alike ask.Length h = refl
length-not-alike (ask.Alike kinds) h = cc
length-not-alike (ask.Only j) h = cc
length-not-alike (ask.One kinds) h = cc
length-not-alike (ask.Table j) h = cc
length-not-alike (ask.Series j) h = cc
length-not-alike ask.Stack h = cc

-- the operand is the length of a window
pub record IsLengthOf (x : Argument) : Type 0 where
  pub number : ℕ
  pub is : x ≡ argument.Length number
  pub good : is_window_length number ≡ true

pub length-at : (agreed : Kind) (asked : Ask) (t : Typed) (x : Argument) → is_length asked ≡ true → is_good_length t ≡ true → argument_at agreed asked t ≡ Ok x → IsLengthOf x
length-at agreed ask.Length (typed.Literal text) x ha hl h = record { number = whole_number (cell_read Nominal text); is = sym (ok-one h); good = hl }
length-at agreed ask.Length (typed.Constant text) x ha hl h = cc
length-at agreed ask.Length (typed.Map v) x ha hl h = cc
length-at agreed ask.Length (typed.Table j m) x ha hl h = cc
length-at agreed ask.Length (typed.Series j m) x ha hl h = cc
length-at agreed ask.Length (typed.Stack j m) x ha hl h = cc
length-at agreed ask.Length (typed.Sample ids v) x ha hl h = cc
length-at agreed (ask.Only j) t x ha hl h = cc
length-at agreed (ask.One kinds) t x ha hl h = cc
length-at agreed (ask.Alike kinds) t x ha hl h = cc
length-at agreed (ask.Table j) t x ha hl h = cc
length-at agreed (ask.Series j) t x ha hl h = cc
length-at agreed ask.Stack t x ha hl h = cc

-- the parts of a row that looks at windows
pub record IsWindowed (o : Op) (row : Row) : Type 0 where
  pub focal : is_focal o ≡ true
  pub length : is_length row.second ≡ true
  pub two : takes-just 2 row ≡ true
  pub map : asks-map row.first ≡ true
  pub plain : asks-plain row.first ≡ true
  pub alone : is_alike row.first ≡ false
  pub gives : gives-alone row.gives ≡ true

pub windowed : (o : Op) (row : Row) → is-windowed o row ≡ true → IsWindowed o row
windowed o row h =
    let first = is_focal o && is_length row.second in
    let rest = takes-just 2 row && (asks-alone row.first && gives-alone row.gives) in
    let a = both-left first rest h in
    let b = both-right first rest h in
    let c = both-right (takes-just 2 row) (asks-alone row.first && gives-alone row.gives) b in
    let d = both-left (asks-alone row.first) (gives-alone row.gives) c in
    let e = both-right (asks-map row.first) (asks-plain row.first && not (is_alike row.first)) d in
    record {
      focal = both-left (is_focal o) (is_length row.second) a;
      length = both-right (is_focal o) (is_length row.second) a;
      two = both-left (takes-just 2 row) (asks-alone row.first && gives-alone row.gives) b;
      map = both-left (asks-map row.first) (asks-plain row.first && not (is_alike row.first)) d;
      plain = both-left (asks-plain row.first) (not (is_alike row.first)) e;
      alone = not-true (is_alike row.first) (both-right (asks-plain row.first) (not (is_alike row.first)) e);
      gives = both-right (asks-alone row.first) (gives-alone row.gives) c;
    }

-- a map and a length agree in nothing
pub window-agreed : (o : Op) (row : Row) (u v : Typed) → IsWindowed o row → agreed_kind row (u ∷ v ∷ []) ≡ Scalar
window-agreed o row u v hw = ap (λ k. unwrap_or (or_kind k (or_kind (deciding row.second v) None)) Scalar) (not-alike-decides row.first u hw.alone) ∙ ap (λ k. unwrap_or (or_kind k None) Scalar) (not-alike-decides row.second v (length-not-alike row.second hw.length))

alone-plain : (row : Row) (gives : Given) (agreed k : Kind) (rest : List Kind) → gives-alone gives ≡ true → is_kind Ldd k ≡ false → is_kind Ldd (given_kind gives agreed (k ∷ rest)) ≡ false
alone-plain row (given.Always j) agreed k rest hg h = not-true (is_kind Ldd j) hg
alone-plain row (given.Same i) agreed k rest hg h = let z : i ≡ 0 = grind (arith, hg) in ap (λ n. is_kind Ldd (slice_index_or (k ∷ rest) n Scalar)) z ∙ h
alone-plain row given.Common agreed k rest hg h = cc

-- an operation over windows on a map that fits, and a length
pub window-tree : (g : Ground) (row : Row) (o : Op) (agreed : Kind) (x : Argument) (n : ℕ) → IsWindowed o row → row_of o ≡ row → is_window_length n ≡ true → IsPlaced g agreed row.first x → (let xs = x ∷ argument.Length n ∷ [] in let kind = given_kind row.gives agreed (map argument_kind xs) in IsGood g (tree.CallWith kind o 0 (length_among xs) (maps_of xs)) kind)
window-tree g row o agreed (argument.Map v) n hw hi hn hx =
    let kind = given_kind row.gives agreed (v.kind ∷ Nominal ∷ []) in
    let no-file-first = map-no-file row.first hw.map in
    let its : map_row (row_of o) ≡ before_length row = ap map_row hi ∙ ap (λ b. if b then behind_file row else if is_length row.second then before_length row else row) no-file-first ∙ ap (λ b. if b then before_length row else row) hw.length in
    told-fits g kind o 0 n (v.tree ∷ []) (both-are (fits g v.tree) true hx.good.value refl) (both-are (is_sound v.tree) true hx.good.sound refl) refl
    (or-first (is_focal o && is_window_length n) (is_file_of g.inputs (file_role o 1) kind 0) (both-are (is_focal o) (is_window_length n) hw.focal hn))
    (ap (λ r. has_kinds r (kind-of v.tree ∷ []) kind) its ∙ ap (λ k. has_kinds (before_length row) (k ∷ []) kind) hx.good.of_kind ∙ window-has-kinds row agreed v.kind (Nominal ∷ []) hw.two hw.alone hw.gives hx.allowed)
    (alone-plain row row.gives agreed v.kind (Nominal ∷ []) hw.gives (allowed-plain row.first agreed v.kind hw.plain hx.allowed))
window-tree g row o agreed (argument.File kind m) n hw hi hn hx = absurd hx.good
window-tree g row o agreed (argument.Length m) n hw hi hn hx = absurd hx.good

-- the operation of a row that looks at windows
pub window-told : (row : Row) (o : Op) (kind : Kind) (xs : List Argument) → IsWindowed o row → op_of row.meant ≡ o → operation_tree row kind xs ≡ tree.CallWith kind o 0 (length_among xs) (maps_of xs)
window-told row o kind xs hw ho =
    ap (λ f. if f then tree.CallWith kind (op_of row.meant) (file_of xs) 0 (maps_of xs) else if is_length row.second then tree.CallWith kind (op_of row.meant) 0 (length_among xs) (maps_of xs) else call_tree row kind (maps_of xs)) (map-no-file row.first hw.map)
    ∙ ap (λ f. if f then tree.CallWith kind (op_of row.meant) 0 (length_among xs) (maps_of xs) else call_tree row kind (maps_of xs)) hw.length
    ∙ ap (λ p. tree.CallWith kind p 0 (length_among xs) (maps_of xs)) ho
