-- That what a call stands for fits.
use Rattle.std.proofs.Common.{◌≡◌, ◌⊎◌, inl, inr, ℕ, suc, ◌+◌, Bool, true, false, not, ◌&&◌, ◌||◌, List, [], ◌∷◌, map, length, refl, sym, ap, subst, ◌∙◌, Result, Ok, if◌then◌else◌, arith}
use Rattle.std.specs.Prelude.{⊤, Option, None, Some, nat_le}
use Rattle.std.specs.Option.{is_none}
use Rattle.std.specs.List.{list_all}
use Rattle.std.proofs.lemmas.List.{length-map}
use Rattle.text_base.specs.Results.{◌>>=◌}
use Rattle.cell_values.specs.declared.kind.Kind.{Kind}
use Rattle.cell_values.specs.declared.kind.Kind.TheVariants.{Boolean, Nominal, Ordinal, Scalar, Directional, Ldd}
use Rattle.map_meaning.specs.declared.op.Op.{Op}
use Rattle.map_meaning.specs.declared.program.Role.TheVariants.{Grid, Stack}
use Rattle.map_meaning.specs.declared.row.Row.{Row}
use Rattle.map_meaning.specs.declared.row.Ask.{Ask}
use Rattle.map_meaning.specs.declared.row.Ask.TheVariants as ask
use Rattle.map_meaning.specs.declared.row.Given.{Given}
use Rattle.map_meaning.specs.declared.row.Given.TheVariants as given
use Rattle.map_meaning.specs.declared.row.Meant.{Meant}
use Rattle.map_meaning.specs.declared.row.Meant.TheVariants as meant
use Rattle.map_meaning.specs.declared.row.Stands.{Stands}
use Rattle.map_meaning.specs.declared.row.Stands.TheVariants as stands
use Rattle.map_meaning.specs.declared.tree.Tree.{Tree, roll-Tree}
use Rattle.map_meaning.specs.declared.tree.Tree.TheVariants as tree
use Rattle.map_meaning.specs.declared.tree.Tree.TheFolds.{ind-Tree}
use Rattle.map_meaning.specs.declared.tree.Tree.TheOpen.{Tree-F}
use Rattle.map_meaning.specs.Programs.{is_id_kind}
use Rattle.map_meaning.specs.Table.{allows, ask_at, behind_file, given_kind, has_kind, is_file, is_kind, is_length, is_window_length, row_of, takes}
use Rattle.map_meaning.specs.Trees.{meaning_of}
use Rattle.map_meaning.proofs.Callers.{meaning_of-Input, meaning_of-Mask, meaning_of-Stack, meaning_of-Time, same_kind}
use Rattle.script_types.specs.declared.fault.MeaningKind.{MeaningKind}
use Rattle.script_types.specs.declared.fault.MeaningKind.TheVariants.{BadWindow, DrainPlace, KindMismatch, UnknownName, WrongSection}
use Rattle.script_types.specs.declared.typed.Argument.{Argument}
use Rattle.script_types.specs.declared.typed.Argument.TheVariants as argument
use Rattle.script_types.specs.declared.typed.Section.{Section}
use Rattle.script_types.specs.declared.typed.Section.TheVariants.{Initial, Dynamic}
use Rattle.script_types.specs.declared.typed.Typed.{Typed}
use Rattle.script_types.specs.declared.typed.Typed.TheVariants as typed
use Rattle.script_types.specs.declared.typed.UsedAs.{UsedAs}
use Rattle.script_types.specs.declared.typed.Value.{Value}
use Rattle.script_types.specs.Checks.{passed}
use Rattle.script_types.specs.Names.{first_role, is_sample_word, role_asked}
use Rattle.script_types.specs.Statements.{is_dynamic}
use Rattle.script_types.specs.Table.{asks_drain, first_ask, is_window, op_of, row_for, stands_of, word_row}
use Rattle.script_types.specs.Typing.{agreed_kind, argument_at, argument_kind, arguments_at, begins_free, begins_without_grid, call_by_row, call_checks, call_read, call_tree, file_of, has_bad_length, input_in, is_free, is_good_length, is_in_initial, is_in_wrong_section, is_input_grid, is_input_tree, is_misplaced_mask, length_among, typed_map, maps_of, meant_value, operation_tree, row_value, sample_of}
use Rattle.script_types.specs.inside.Fits.{Ground, IsFittingMask, fits, is_ids, is_ids_as, is_input_of, is_role}
use Rattle.script_types.specs.inside.Sound.{are_allowed, are_mask_kinds, is_sound}
use Rattle.script_types.proofs.FitLemmas.{both-left, both-right, fits-input-is, fits-stack-is, fits-time-is, has-input, not-true}
use Rattle.script_types.proofs.FitNodes.{IsGood, IsGoodTyped, not-not, ok-one, passed-is, passed-rest, passed-test, value-before}
use Rattle.script_types.proofs.FoundRows.{IsFound, IsPlain, asks-ids, asks-kind, asks-map, asks-maps, asks-plain, asks-stack, found-row, gives-drain, gives-same, gives-scalar, is-as-meant, is-look-up, is-masking, is-plain, is-windowed, maps-asked, neither-left, neither-right, plain-row, same-file, same-stands, same_stands, takes-just}
use Rattle.script_types.proofs.RowKinds.{both-are, its-row}
use Rattle.script_types.proofs.SoundLemmas.{kind-of, sound-mask, sound-stack, sound-time}
use Rattle.script_types.proofs.FitOperands.{AllGood, AllMaps, ArePlaced, IsPlaced, agreed-has, agreed-plain, allowed-plain, argument-good, just-count, maps-fit, placed-all}
use Rattle.script_types.proofs.FitTrees.{IsWindowed, LooksUp, agreed-behind, arguments-behind, asks-some-file, first-file, length-at, look-up-tree, looks-up, map-no-file, not-alike-has, plain-no-drain, tree-good, window-agreed, window-told, window-tree, windowed}

-- ---- what a row stands for

-- the words' place, where the operand is sampled
abbrev pub IsOfWord : Stands → Typed → Type 0
IsOfWord stands (typed.Sample ids v) = is_sample_word stands ≡ true
IsOfWord stands _ = ⊤

-- what is kept of a drain map by a mask: its operands fit, and it keeps to the table
pub record IsGoodMask (g : Ground) (t : Typed) : Type 0 where
  pub value : Value
  pub is : typed.Map value ≡ t
  pub mask : IsFittingMask g value.tree
  pub kind_is : value.kind ≡ Ldd
  pub of_kind : (meaning_of value.tree).kind ≡ value.kind
  pub sound : is_sound value.tree ≡ true

-- what an expression is fits in each role; or it is a mask, as a whole right side of `initial`
abbrev pub IsGoodWhole : Ground → Bool → Typed → Type 0
IsGoodWhole g w t = ((role : UsedAs) → IsGoodTyped g role t) ⊎ ((w ≡ true) × (g.in_steps ≡ false) × IsGoodMask g t)

-- a call is good so, and is a sample of a sample's word alone
pub record IsGoodCall (g : Ground) (w : Bool) (stands : Stands) (t : Typed) : Type 0 where
  pub good : IsGoodWhole g w t
  pub word : IsOfWord stands t

map-call : (g : Ground) (w : Bool) (stands : Stands) (kind : Kind) (tr : Tree) (t : Typed) → IsGood g tr kind → typed_map kind tr ≡ t → IsGoodCall g w stands t
map-call g w stands kind tr t h e = subst (IsGoodCall g w stands) e (record { good = inl (λ role. h); word = tt })

abbrev args-told : List Argument → Result (List Argument) MeaningKind
args-told xs = Ok xs

ok-args : {x y : List Argument} → args-told x ≡ args-told y → x ≡ y
ok-args k = cc

none-takes : (least most n : ℕ) → n ≡ 0 → nat_le 2 least ≡ true → (nat_le least n && nat_le n most) ≡ true → ⊥
none-takes least most n hn g k = let m = both-left (nat_le least n) (nat_le n most) k in grind (arith, m, g, hn)

-- the first row of a word asks the table or series that this one does
same-first : (a b : Ask) → is_file a ≡ true → same-file a b ≡ true → b ≡ a
same-first (ask.Table j) (ask.Table k) h g = ap ask.Table (sym (same_kind j k g))
same-first (ask.Table j) (ask.Series k) h g = cc
same-first (ask.Table j) ask.Stack h g = cc
same-first (ask.Table j) ask.Length h g = cc
same-first (ask.Table j) (ask.Only k) h g = cc
same-first (ask.Table j) (ask.One kinds) h g = cc
same-first (ask.Table j) (ask.Alike kinds) h g = cc
same-first (ask.Series j) (ask.Series k) h g = ap ask.Series (sym (same_kind j k g))
same-first (ask.Series j) (ask.Table k) h g = cc
same-first (ask.Series j) ask.Stack h g = cc
same-first (ask.Series j) ask.Length h g = cc
same-first (ask.Series j) (ask.Only k) h g = cc
same-first (ask.Series j) (ask.One kinds) h g = cc
same-first (ask.Series j) (ask.Alike kinds) h g = cc
same-first (ask.Only k) b h g = cc
same-first (ask.One kinds) b h g = cc
same-first (ask.Alike kinds) b h g = cc
same-first ask.Stack b h g = cc
same-first ask.Length b h g = cc

-- ---- windows

-- what operands of a row stand for, where the row is an operation
abbrev operation-of : Row → Kind → List Argument → Typed
operation-of row agreed xs = let kind = given_kind row.gives agreed (map argument_kind xs) in typed_map kind (operation_tree row kind xs)

-- such an operation on two operands
window-pair : (g : Ground) (role : UsedAs) (w : Bool) (stands : Stands) (row : Row) (o : Op) (agreed : Kind) (u v : Typed) (x y : Argument) → IsWindowed o row → row_of o ≡ row → op_of row.meant ≡ o → is_kind Ldd agreed ≡ false → is_good_length v ≡ true → IsGoodTyped g role u → argument_at agreed row.first u ≡ Ok x → argument_at agreed row.second v ≡ Ok y → (t : Typed) → operation-of row agreed (x ∷ y ∷ []) ≡ t → IsGoodCall g w stands t
window-pair g role w stands row o agreed u v x y hw hi ho hk hl hu hx hy t e =
    let first = argument-good g role agreed row.first u x hk hw.map (ap (λ q. q && is_free u) (plain-no-drain row.first hw.plain)) (not-alike-has row.first agreed hw.alone) hu hx in
    let last = length-at agreed row.second v y hw.length hl hy in
    let told : operation-of row agreed (x ∷ argument.Length last.number ∷ []) ≡ t = ap (λ z. operation-of row agreed (x ∷ z ∷ [])) (sym last.is) ∙ e in
    with-length last.number last.good first told
  where
    with-length : (n : ℕ) → is_window_length n ≡ true → IsPlaced g agreed row.first x → operation-of row agreed (x ∷ argument.Length n ∷ []) ≡ t → IsGoodCall g w stands t
    with-length n hn first told =
        let kind = given_kind row.gives agreed (map argument_kind (x ∷ argument.Length n ∷ [])) in
        map-call g w stands kind (operation_tree row kind (x ∷ argument.Length n ∷ [])) t (subst (λ q. IsGood g q kind) (sym (window-told row o kind (x ∷ argument.Length n ∷ []) hw ho)) (window-tree g row o agreed x n hw hi hn first)) told

window-good : (g : Ground) (role : UsedAs) (w : Bool) (stands : Stands) (row : Row) (o : Op) (ts : List Typed) (xs : List Argument) (t : Typed) → IsWindowed o row → row_of o ≡ row → op_of row.meant ≡ o → takes row (length ts) ≡ true → has_bad_length ts ≡ false → AllGood g role ts → arguments_at row (agreed_kind row ts) 0 ts ≡ Ok xs → operation-of row (agreed_kind row ts) xs ≡ t → IsGoodCall g w stands t
window-good g role w stands row o ts xs t hw hi ho hn hl ht h e = by-operands ts (just-count row.least row.most (length ts) 2 hw.two hn) hl ht h e
  where
    by-operands : (ts : List Typed) → length ts ≡ 2 → has_bad_length ts ≡ false → AllGood g role ts → arguments_at row (agreed_kind row ts) 0 ts ≡ Ok xs → operation-of row (agreed_kind row ts) xs ≡ t → IsGoodCall g w stands t
    by-operands [] n l good at is = absurd (omega (arith, n))
    by-operands (u ∷ []) n l good at is = absurd (omega (arith, n))
    by-operands (u ∷ v ∷ z ∷ zs) n l good at is = absurd (omega (arith, n))
    by-operands (u ∷ v ∷ []) n l good at is =
        let agreed = agreed_kind row (u ∷ v ∷ []) in
        let b = value-before (argument_at agreed (ask_at row (0)) u) (λ x. arguments_at row agreed (0 + 1) (v ∷ []) >>= λ ys. Ok (x ∷ ys)) xs at in
        let c = value-before (arguments_at row agreed (0 + 1) (v ∷ [])) (λ ys. Ok (b.0 ∷ ys)) xs b.2 in
        let d = value-before (argument_at agreed row.second v) (λ x. arguments_at row agreed (0 + 1 + 1) [] >>= λ ys. Ok (x ∷ ys)) c.0 c.1 in
        let same : b.0 ∷ d.0 ∷ [] ≡ xs = ap (λ zs. b.0 ∷ zs) (ok-args d.2) ∙ ok-args c.2 in
        window-pair g role w stands row o agreed u v b.0 d.0 hw hi ho (ap (is_kind Ldd) (window-agreed o row u v hw)) (not-not (is_good_length v) l) good.0 b.1 d.1 t (ap (operation-of row agreed) same ∙ is)

-- ---- operations

-- a place that asks a map asks no length
map-no-length : (asked : Ask) → asks-map asked ≡ true → is_length asked ≡ false
map-no-length (ask.Only kind) h = refl
map-no-length (ask.One kinds) h = refl
map-no-length (ask.Alike kinds) h = refl
map-no-length (ask.Table kind) h = cc
map-no-length (ask.Series kind) h = cc
map-no-length ask.Stack h = cc
map-no-length ask.Length h = cc

-- an operation over maps, one that looks its results up, or one that looks at windows
op-good : (g : Ground) (role : UsedAs) (w : Bool) (stands : Stands) (row : Row) (o : Op) (word : List ℕ) (ts : List Typed) (xs : List Argument) (t : Typed) → IsFound word (length ts) row → row.meant ≡ meant.Op o → role ≡ first_role word (length ts) → (is-plain row || (is-look-up o row || is-windowed o row)) ≡ true → (asks_drain row.first && begins_free ts) ≡ false → (is_length row.second && has_bad_length ts) ≡ false → AllGood g role ts → arguments_at row (agreed_kind row ts) 0 ts ≡ Ok xs → typed_map (given_kind row.gives (agreed_kind row ts) (map argument_kind xs)) (operation_tree row (given_kind row.gives (agreed_kind row ts) (map argument_kind xs)) xs) ≡ t → IsGoodCall g w stands t
unfolding first_role
op-good g role w stands row o word ts xs t hf hm hr hb hd hl ht h e = by-plain (is-plain row) (is-look-up o row) (is-windowed o row) refl refl refl hb
  where
    kind : Kind
    kind = given_kind row.gives (agreed_kind row ts) (map argument_kind xs)

    op-is : op_of row.meant ≡ o
    op-is = ap op_of hm

    its : row_of o ≡ row
    its = its-row row o hf.its hm

    with-file : LooksUp o row → (us : List Typed) → ts ≡ us → IsGoodCall g w stands t
    with-file hl [] hu = absurd (none-takes row.least row.most (length ts) (ap length hu) hl.least hf.takes)
    with-file hl (u ∷ us) hu =
        let good = subst (AllGood g role) hu ht in
        let at = sym (ap (λ zs. arguments_at row (agreed_kind row zs) 0 zs) hu) ∙ h in
        let agreed = agreed_kind row (u ∷ us) in
        let b = value-before (argument_at agreed (ask_at row (0)) u) (λ x. arguments_at row agreed (0 + 1) us >>= λ ys. Ok (x ∷ ys)) xs at in
        let c = value-before (arguments_at row agreed (0 + 1) us) (λ ys. Ok (b.0 ∷ ys)) xs b.2 in
        let asked : role ≡ role_asked (suc (length us)) row.first = hr ∙ ap (λ zs. role_asked (length zs) (first_ask (word_row word))) hu ∙ ap (role_asked (suc (length us))) (same-first row.first (first_ask (word_row word)) (asks-some-file row.first row.gives o hl.asks) hf.first) in
        let first = first-file g role (length us) agreed row.first row.gives o u b.0 asked hl.asks good.0 b.1 in
        let behind = sym (arguments-behind row agreed 0 us) ∙ c.1 in
        let rest = sym (ap (λ k. arguments_at (behind_file row) k 0 us) (agreed-behind row u us (asks-some-file row.first row.gives o hl.asks))) ∙ behind in
        let xs-is = ok-args c.2 in
        let takes-more = ap (λ zs. takes row (length zs)) (sym hu) ∙ hf.takes in
        let kind-is : kind ≡ given_kind row.gives agreed (map argument_kind (b.0 ∷ c.0)) = ap (λ zs. given_kind row.gives (agreed_kind row zs) (map argument_kind xs)) hu ∙ ap (λ ys. given_kind row.gives agreed (map argument_kind ys)) (sym xs-is) in
        let fitted = look-up-tree g role row o u us b.0 c.0 hl takes-more its first good.1 rest kind kind-is in
        let with-op = ap (λ f. if f then tree.CallWith kind (op_of row.meant) (file_of xs) 0 (maps_of xs) else if is_length row.second then tree.CallWith kind (op_of row.meant) 0 (length_among xs) (maps_of xs) else call_tree row kind (maps_of xs)) (asks-some-file row.first row.gives o hl.asks) ∙ ap (λ p. tree.CallWith kind p (file_of xs) 0 (maps_of xs)) op-is ∙ ap (λ ys. tree.CallWith kind o (file_of ys) 0 (maps_of ys)) (sym xs-is) in
        map-call g w stands kind (tree.CallWith kind o (file_of (b.0 ∷ c.0)) 0 (maps_of (b.0 ∷ c.0))) t fitted (ap (typed_map kind) (sym with-op) ∙ e)

    by-plain : (p l q : Bool) → is-plain row ≡ p → is-look-up o row ≡ l → is-windowed o row ≡ q → (p || (l || q)) ≡ true → IsGoodCall g w stands t
    by-plain true l q hp hu hw r =
        let plain = plain-row (length ts) row hf.takes hp in
        let placed = placed-all g role row ts xs plain.maps hd ht h in
        let agreed = agreed_kind row ts in
        let tr = tree-good g row agreed xs (subst (λ n. IsPlain n row) (sym placed.count) plain) (ap row_of op-is ∙ its) (agreed-plain row ts xs plain.maps.asks h) (agreed-has row ts xs plain.maps.asks plain.maps.agrees h) placed.maps placed.allowed in
        let told = ap (λ f. if f then tree.CallWith kind (op_of row.meant) (file_of xs) 0 (maps_of xs) else if is_length row.second then tree.CallWith kind (op_of row.meant) 0 (length_among xs) (maps_of xs) else call_tree row kind (maps_of xs)) (map-no-file row.first (plain.maps.asks 0))
        ∙ ap (λ f. if f then tree.CallWith kind (op_of row.meant) 0 (length_among xs) (maps_of xs) else call_tree row kind (maps_of xs)) (map-no-length row.second (plain.maps.asks 1)) in
        map-call g w stands kind (call_tree row kind (maps_of xs)) t tr (ap (typed_map kind) (sym told) ∙ e)
    by-plain false true q hp hu hw r = with-file (looks-up o row hu) ts refl
    by-plain false false true hp hu hw r =
        let at = windowed o row hw in
        window-good g role w stands row o ts xs t at its op-is hf.takes (sym (ap (λ b. b && has_bad_length ts) at.length) ∙ hl) ht h e
    by-plain false false false hp hu hw r = cc

-- the number of the step
step-good : (g : Ground) (w : Bool) (stands : Stands) (gives : Given) (agreed : Kind) (kinds : List Kind) (t : Typed) → g.in_steps ≡ true → gives-scalar gives ≡ true → typed_map (given_kind gives agreed kinds) tree.Time ≡ t → IsGoodCall g w stands t
step-good g w stands (given.Always kind) agreed kinds t hs hg e =
    let k : kind ≡ Scalar = same_kind kind Scalar hg in
    map-call g w stands Scalar tree.Time t (record { value = fits-time-is g ∙ hs; of_kind = ap (λ m. m.kind) meaning_of-Time; sound = sound-time }) (ap (λ j. typed_map j tree.Time) (sym k) ∙ e)
step-good g w stands given.Common agreed kinds t hs hg e = cc
step-good g w stands (given.Same i) agreed kinds t hs hg e = cc

-- the name of a stack at its place
record IsStackAt (g : Ground) (x : Argument) : Type 0 where
  kind : Kind
  number : ℕ
  is : x ≡ argument.File kind number
  plain : is_kind Ldd kind ≡ false
  input : is_input_of g.inputs Stack kind number ≡ true

stack-at : (g : Ground) (role : UsedAs) (agreed : Kind) (asked : Ask) (t : Typed) (x : Argument) → asks-stack asked ≡ true → IsGoodTyped g role t → argument_at agreed asked t ≡ Ok x → IsStackAt g x
stack-at g role agreed ask.Stack (typed.Stack j m) x ha ht h = record { kind = j; number = m; is = sym (ok-one h); plain = ht.0; input = ht.1 }
stack-at g role agreed ask.Stack (typed.Literal text) x ha ht h = cc
stack-at g role agreed ask.Stack (typed.Constant text) x ha ht h = cc
stack-at g role agreed ask.Stack (typed.Map v) x ha ht h = cc
stack-at g role agreed ask.Stack (typed.Table j m) x ha ht h = cc
stack-at g role agreed ask.Stack (typed.Series j m) x ha ht h = cc
stack-at g role agreed ask.Stack (typed.Sample ids v) x ha ht h = cc
stack-at g role agreed (ask.Only k) t x ha ht h = cc
stack-at g role agreed (ask.One kinds) t x ha ht h = cc
stack-at g role agreed (ask.Alike kinds) t x ha ht h = cc
stack-at g role agreed (ask.Table k) t x ha ht h = cc
stack-at g role agreed (ask.Series k) t x ha ht h = cc
stack-at g role agreed ask.Length t x ha ht h = cc

stack-given : (g : Ground) (w : Bool) (stands : Stands) (gives : Given) (agreed : Kind) (x : Argument) (t : Typed) → g.in_steps ≡ true → gives-same gives 0 ≡ true → IsStackAt g x → typed_map (given_kind gives agreed (argument_kind x ∷ [])) (tree.Stack (given_kind gives agreed (argument_kind x ∷ [])) (file_of (x ∷ []))) ≡ t → IsGoodCall g w stands t
stack-given g w stands (given.Same i) agreed x t hs hg hx e =
    let at : i ≡ 0 = grind (arith, hg) in
    let fits-it = fits-stack-is g hx.kind hx.number ∙ both-are (g.in_steps && is_input_of g.inputs Stack hx.kind hx.number) (not (is_kind Ldd hx.kind)) (both-are g.in_steps (is_input_of g.inputs Stack hx.kind hx.number) hs hx.input) (ap not hx.plain) in
    map-call g w stands hx.kind (tree.Stack hx.kind hx.number) t (record { value = fits-it; of_kind = ap (λ m. m.kind) (meaning_of-Stack hx.kind hx.number); sound = sound-stack hx.kind hx.number })
    (sym (ap (λ j. typed_map (given_kind (given.Same j) agreed (argument_kind x ∷ [])) (tree.Stack (given_kind (given.Same j) agreed (argument_kind x ∷ [])) (file_of (x ∷ [])))) at ∙ ap (λ y. typed_map (argument_kind y) (tree.Stack (argument_kind y) (file_of (y ∷ [])))) hx.is) ∙ e)
stack-given g w stands (given.Always k) agreed x t hs hg hx e = cc
stack-given g w stands given.Common agreed x t hs hg hx e = cc

-- the grid of a stack at the step
stack-good : (g : Ground) (role : UsedAs) (w : Bool) (stands : Stands) (row : Row) (ts : List Typed) (xs : List Argument) (t : Typed) → g.in_steps ≡ true → asks-stack row.first ≡ true → gives-same row.gives 0 ≡ true → length ts ≡ 1 → AllGood g role ts → arguments_at row (agreed_kind row ts) 0 ts ≡ Ok xs → typed_map (given_kind row.gives (agreed_kind row ts) (map argument_kind xs)) (tree.Stack (given_kind row.gives (agreed_kind row ts) (map argument_kind xs)) (file_of xs)) ≡ t → IsGoodCall g w stands t
stack-good g role w stands row [] xs t hs ha hg hn ht h e = absurd (omega (arith, hn))
stack-good g role w stands row (u ∷ v ∷ us) xs t hs ha hg hn ht h e = absurd (omega (arith, hn))
stack-good g role w stands row (u ∷ []) xs t hs ha hg hn ht h e =
    let agreed = agreed_kind row (u ∷ []) in
    let b = value-before (argument_at agreed (ask_at row (0)) u) (λ x. arguments_at row agreed (0 + 1) [] >>= λ ys. Ok (x ∷ ys)) xs h in
    let is = ok-args b.2 in
    stack-given g w stands row.gives agreed b.0 t hs hg (stack-at g role agreed row.first u b.0 ha ht.0 b.1) (ap (λ ys. typed_map (given_kind row.gives agreed (map argument_kind ys)) (tree.Stack (given_kind row.gives agreed (map argument_kind ys)) (file_of ys))) is ∙ e)

-- ---- samples

-- the map is an input
pub record IsInputTree (t : Tree) : Type 0 where
  pub kind : Kind
  pub number : ℕ
  pub is : t ≡ tree.Input kind number

node-input : (x : Tree-F Tree) → is_input_tree (roll-Tree x) ≡ true → IsInputTree (roll-Tree x)
node-input (Tree-F.Number k c) h = let z = sym (ap is_input_tree (tree.rolls-Number k c)) ∙ h in cc
node-input Tree-F.Time h = let z = sym (ap is_input_tree tree.rolls-Time) ∙ h in cc
node-input (Tree-F.Input k n) h = record { kind = k; number = n; is = tree.rolls-Input k n }
node-input (Tree-F.Stack k n) h = let z = sym (ap is_input_tree (tree.rolls-Stack k n)) ∙ h in cc
node-input (Tree-F.Name k name) h = let z = sym (ap is_input_tree (tree.rolls-Name k name)) ∙ h in cc
node-input (Tree-F.Call k o args) h = let z = sym (ap is_input_tree (tree.rolls-Call k o args)) ∙ h in cc
node-input (Tree-F.CallWith k o file window args) h = let z = sym (ap is_input_tree (tree.rolls-CallWith k o file window args)) ∙ h in cc
node-input (Tree-F.Mask args) h = let z = sym (ap is_input_tree (tree.rolls-Mask args)) ∙ h in cc

pub input-tree : (t : Tree) → is_input_tree t ≡ true → IsInputTree t
input-tree = ind-Tree (λ t. is_input_tree t ≡ true → IsInputTree t) (λ x y is. node-input x)

id-kind : (asked : Ask) (agreed k : Kind) → asks-ids asked ≡ true → allows agreed asked k ≡ true → is_id_kind k ≡ true
id-kind (ask.One kinds) agreed k ha h = by-kind k (both-left (not kinds.scalar) (not kinds.directional && not kinds.ldd) ha) (both-left (not kinds.directional) (not kinds.ldd) more) (both-right (not kinds.directional) (not kinds.ldd) more) h
  where
    more : (not kinds.directional && not kinds.ldd) ≡ true
    more = both-right (not kinds.scalar) (not kinds.directional && not kinds.ldd) ha

    by-kind : (k : Kind) → not kinds.scalar ≡ true → not kinds.directional ≡ true → not kinds.ldd ≡ true → has_kind kinds k ≡ true → is_id_kind k ≡ true
    by-kind Boolean a b c g = refl
    by-kind Nominal a b c g = refl
    by-kind Ordinal a b c g = refl
    by-kind Scalar a b c g = let z = not-true kinds.scalar a in cc
    by-kind Directional a b c g = let z = not-true kinds.directional b in cc
    by-kind Ldd a b c g = let z = not-true kinds.ldd c in cc
id-kind (ask.Only j) agreed k ha h = cc
id-kind (ask.Alike kinds) agreed k ha h = cc
id-kind (ask.Table j) agreed k ha h = cc
id-kind (ask.Series j) agreed k ha h = cc
id-kind ask.Stack agreed k ha h = cc
id-kind ask.Length agreed k ha h = cc

-- an input grid whose kind is one of ids is a map of ids
ids-good : (g : Ground) (v : Value) → is_input_tree v.tree ≡ true → is_id_kind v.kind ≡ true → IsGood g v.tree v.kind → is_ids g.inputs (input_in v.tree) ≡ true
ids-good g v hi hk h =
    let i = input-tree v.tree hi in
    let of = sym (ap (λ t. (meaning_of t).kind) i.is ∙ ap (λ m. m.kind) (meaning_of-Input i.kind i.number)) ∙ h.of_kind in
    let at = has-input g.inputs Grid i.kind i.number (sym (ap (fits g) i.is ∙ fits-input-is g i.kind i.number) ∙ h.value) in
    let ids = ap is_id_kind at.kind_is ∙ ap is_id_kind of ∙ hk in
    ap (λ t. is_ids g.inputs (input_in t)) i.is ∙ ap is_ids_as at.there ∙ both-are (is_role at.input.role Grid) (is_id_kind at.input.kind) (ap (λ r. is_role r Grid) at.role_is) ids

-- the first operand is an input grid
first-grid : (agreed : Kind) (asked : Ask) (t : Typed) (v : Value) → is_input_grid t ≡ true → argument_at agreed asked t ≡ Ok (argument.Map v) → is_input_tree v.tree ≡ true
first-grid agreed asked (typed.Map u) v hi h =
    let e : argument.Map u ≡ argument.Map v = passed-is ((KindMismatch, not (allows agreed asked u.kind)) ∷ []) (argument.Map u) (argument.Map v) h in
    let s : u ≡ v = map-args e in
    ap (λ w. is_input_tree w.tree) (sym s) ∙ hi
  where
    map-args : {a b : Value} → argument.Map a ≡ argument.Map b → a ≡ b
    map-args k = cc
first-grid agreed asked (typed.Literal text) v hi h = cc
first-grid agreed asked (typed.Constant text) v hi h = cc
first-grid agreed asked (typed.Table k n) v hi h = cc
first-grid agreed asked (typed.Series k n) v hi h = cc
first-grid agreed asked (typed.Stack k n) v hi h = cc
first-grid agreed asked (typed.Sample ids w) v hi h = cc

sample-of : (g : Ground) (w : Bool) (stands : Stands) (row : Row) (agreed : Kind) (ts : List Typed) (xs : List Argument) (t : Typed) → g.in_steps ≡ true → is_sample_word stands ≡ true → asks-ids row.first ≡ true → asks-plain row.second ≡ true → begins_without_grid ts ≡ false → arguments_at row agreed 0 ts ≡ Ok xs → AllMaps g xs → are_allowed row agreed 0 (map argument_kind xs) ≡ true → sample_of xs ≡ Ok t → IsGoodCall g w stands t
sample-of g w stands row agreed [] xs t hs hw ha hp hb h hm hk e = let z : [] ≡ xs = ok-args h in let q = ap sample_of z ∙ e in cc
sample-of g w stands row agreed (u ∷ us) xs t hs hw ha hp hb h hm hk e =
    let b = value-before (argument_at agreed (ask_at row (0)) u) (λ x. arguments_at row agreed (0 + 1) us >>= λ ys. Ok (x ∷ ys)) xs h in
    let c = value-before (arguments_at row agreed (0 + 1) us) (λ ys. Ok (b.0 ∷ ys)) xs b.2 in
    let is = ok-args c.2 in
    by-args b.0 c.0 b.1 (subst (AllMaps g) (sym is) hm) (ap (λ ys. are_allowed row agreed 0 (map argument_kind ys)) is ∙ hk) (ap sample_of is ∙ e)
  where
    by-args : (x : Argument) (ys : List Argument) → argument_at agreed row.first u ≡ Ok x → AllMaps g (x ∷ ys) → are_allowed row agreed 0 (map argument_kind (x ∷ ys)) ≡ true → sample_of (x ∷ ys) ≡ Ok t → IsGoodCall g w stands t
    by-args (argument.Map ids) (argument.Map v ∷ []) hx ms ks q =
        let of = id-kind row.first agreed ids.kind ha (both-left (allows agreed row.first ids.kind) (are_allowed row agreed (0 + 1) (map argument_kind (argument.Map v ∷ []))) ks) in
        let grid = first-grid agreed row.first u ids (not-not (is_input_grid u) hb) hx in
        let id = ids-good g ids grid of ms.0 in
        let later = both-left (allows agreed row.second v.kind) true (both-right (allows agreed row.first ids.kind) (allows agreed row.second v.kind && true) ks) in
        subst (IsGoodCall g w stands) (ok-one q) (record { good = inl (λ role. (ms.1.0, record { good = ms.0; kind = of; input = grid; number = id }, hs, allowed-plain row.second agreed v.kind hp later)); word = hw })
    by-args (argument.Map ids) [] hx ms ks q = cc
    by-args (argument.Map ids) (argument.Map v ∷ y ∷ ys) hx ms ks q = cc
    by-args (argument.Map ids) (argument.File k n ∷ ys) hx ms ks q = absurd ms.1.0
    by-args (argument.Map ids) (argument.Length length ∷ ys) hx ms ks q = absurd ms.1.0
    by-args (argument.File k n) ys hx ms ks q = absurd ms.0
    by-args (argument.Length length) ys hx ms ks q = absurd ms.0

-- ---- calls

in-dynamic : (section : Section) → is_in_initial section ≡ false → is_dynamic section ≡ true
in-dynamic Initial h = cc
in-dynamic Dynamic h = refl

-- what a call that stands at its place has, where it stands in `dynamic` alone
dynamic-place : (at : Stands) (section : Section) (w : Bool) (ts : List Typed) → at ≡ stands.Dynamic → is_in_wrong_section at section w ts ≡ false → is_dynamic section ≡ true
dynamic-place at section w ts e h = in-dynamic section (sym (ap (λ s. is_in_wrong_section s section w ts) e) ∙ h)

sample-place : (at : Stands) (section : Section) (w : Bool) (ts : List Typed) → at ≡ stands.Sample → is_in_wrong_section at section w ts ≡ false → (is_dynamic section ≡ true) × (begins_without_grid ts ≡ false)
sample-place at section w ts e h =
    let k = sym (ap (λ s. is_in_wrong_section s section w ts) e) ∙ h in
    (in-dynamic section (neither-left (is_in_initial section) (not w) (neither-left (is_in_initial section || not w) (begins_without_grid ts) k)), neither-right (is_in_initial section || not w) (begins_without_grid ts) k)

-- ---- masks

-- what is allowed where one kind is asked is of that kind
allowed-kind : (asked : Ask) (agreed kind k : Kind) → asks-kind asked kind ≡ true → allows agreed asked k ≡ true → k ≡ kind
allowed-kind (ask.Only a) agreed kind k ha h = sym (same_kind a k h) ∙ same_kind a kind ha
allowed-kind (ask.One kinds) agreed kind k ha h = cc
allowed-kind (ask.Alike kinds) agreed kind k ha h = cc
allowed-kind (ask.Table a) agreed kind k ha h = cc
allowed-kind (ask.Series a) agreed kind k ha h = cc
allowed-kind ask.Stack agreed kind k ha h = cc
allowed-kind ask.Length agreed kind k ha h = cc

drain-given : (gives : Given) (agreed : Kind) (ks : List Kind) → gives-drain gives ≡ true → given_kind gives agreed ks ≡ Ldd
drain-given (given.Always k) agreed ks h = sym (same_kind Ldd k h)
drain-given given.Common agreed ks h = cc
drain-given (given.Same i) agreed ks h = cc

-- the operands of a mask are a drain map and a boolean
mask-kinds : (row : Row) (agreed : Kind) (ks : List Kind) → length ks ≡ 2 → asks-kind row.first Ldd ≡ true → asks-kind row.second Boolean ≡ true → are_allowed row agreed 0 ks ≡ true → are_mask_kinds ks ≡ true
mask-kinds row agreed [] n ha hb h = absurd (omega (arith, n))
mask-kinds row agreed (j ∷ []) n ha hb h = absurd (omega (arith, n))
mask-kinds row agreed (j ∷ k ∷ l ∷ ks) n ha hb h = absurd (omega (arith, n))
mask-kinds row agreed (j ∷ k ∷ []) n ha hb h =
    let a = allowed-kind row.first agreed Ldd j ha (both-left (allows agreed row.first j) (allows agreed row.second k && true) h) in
    let b = allowed-kind row.second agreed Boolean k hb (both-left (allows agreed row.second k) true (both-right (allows agreed row.first j) (allows agreed row.second k && true) h)) in
    ap (λ z. are_mask_kinds (z ∷ k ∷ [])) a ∙ ap (λ z. are_mask_kinds (Ldd ∷ z ∷ [])) b

mask-value : (g : Ground) (row : Row) (ts : List Typed) (xs : List Argument) (t : Typed) → is-masking row ≡ true → takes row (length ts) ≡ true → ArePlaced g row (agreed_kind row ts) 0 ts xs → typed_map (given_kind row.gives (agreed_kind row ts) (map argument_kind xs)) (tree.Mask (maps_of xs)) ≡ t → IsGoodMask g t
mask-value g row ts xs t hb hn hp e =
    let asked = asks-kind row.first Ldd && asks-kind row.second Boolean in
    let last = takes-just 2 row && gives-drain row.gives in
    let more = both-right (asks-maps row) (asked && last) hb in
    let kinds = both-left asked last more in
    let rest = both-right asked last more in
    let fit = maps-fit g xs hp.maps in
    let count : length (map argument_kind xs) ≡ 2 = length-map xs argument_kind ∙ hp.count ∙ just-count row.least row.most (length ts) 2 (both-left (takes-just 2 row) (gives-drain row.gives) rest) hn in
    let drain = drain-given row.gives (agreed_kind row ts) (map argument_kind xs) (both-right (takes-just 2 row) (gives-drain row.gives) rest) in
    record {
      value = record { kind = Ldd; tree = tree.Mask (maps_of xs) };
      is = ap (λ k. typed_map k (tree.Mask (maps_of xs))) (sym drain) ∙ e;
      mask = record { operands = maps_of xs; is = refl; fit = fit.fit };
      kind_is = refl;
      of_kind = ap (λ m. m.kind) (meaning_of-Mask (maps_of xs));
      sound = sound-mask (maps_of xs) ∙ both-are (list_all is_sound (maps_of xs)) (are_mask_kinds (map kind-of (maps_of xs))) fit.sound (ap are_mask_kinds fit.kinds ∙ mask-kinds row (agreed_kind row ts) (map argument_kind xs) count (both-left (asks-kind row.first Ldd) (asks-kind row.second Boolean) kinds) (both-right (asks-kind row.first Ldd) (asks-kind row.second Boolean) kinds) hp.allowed);
    }

-- ---- rows

-- the section and the place where a mask stands
mask-place : (at : Stands) (section : Section) (w : Bool) → at ≡ stands.Mask → is_misplaced_mask at section w ≡ false → (w ≡ true) × (is_dynamic section ≡ false)
mask-place at section w e h =
    let k = sym (ap (λ s. is_misplaced_mask s section w) e) ∙ h in
    (not-not w (neither-right (not (is_in_initial section)) (not w) k), in-initial section (not-not (is_in_initial section) (neither-left (not (is_in_initial section)) (not w) k)))
  where
    in-initial : (s : Section) → is_in_initial s ≡ true → is_dynamic s ≡ false
    in-initial Initial q = refl
    in-initial Dynamic q = cc

-- what a call passes before its kinds are looked at, by its row
pub record IsPlacedCall (row : Row) (section : Section) (w : Bool) (ts : List Typed) : Type 0 where
  pub place : is_in_wrong_section row.stands section w ts ≡ false
  pub drain : (asks_drain row.first && begins_free ts) ≡ false
  pub mask : is_misplaced_mask row.stands section w ≡ false
  pub window : (is_length row.second && has_bad_length ts) ≡ false

row-good : (g : Ground) (role : UsedAs) (section : Section) (w : Bool) (word : List ℕ) (row : Row) (ts : List Typed) (t : Typed) → g.in_steps ≡ is_dynamic section → role ≡ first_role word (length ts) → IsFound word (length ts) row → IsPlacedCall row section w ts → AllGood g role ts → row_value row (agreed_kind row ts) ts ≡ Ok t → IsGoodCall g w row.stands t
row-good g role section w word row ts t hs hr hf hp ht h = by-meant row.meant refl hf.as_meant b.2
  where
    b : (xs : List Argument) × (arguments_at row (agreed_kind row ts) 0 ts ≡ Ok xs) × (meant_value row.meant row (given_kind row.gives (agreed_kind row ts) (map argument_kind xs)) xs ≡ Ok t)
    b = value-before (arguments_at row (agreed_kind row ts) 0 ts) (λ xs. meant_value row.meant row (given_kind row.gives (agreed_kind row ts) (map argument_kind xs)) xs) t h

    kind : Kind
    kind = given_kind row.gives (agreed_kind row ts) (map argument_kind b.0)

    by-meant : (m : Meant) → row.meant ≡ m → is-as-meant m row ≡ true → meant_value m row kind b.0 ≡ Ok t → IsGoodCall g w row.stands t
    by-meant (meant.Op o) hm hb e = op-good g role w row.stands row o word ts b.0 t hf hm hr hb hp.drain hp.window ht b.1 (ok-one e)
    by-meant meant.Mask hm hb e =
        let at = sym (same_stands stands.Mask row.stands (both-left (same-stands stands.Mask row.stands) (is-masking row) hb)) in
        let masking = both-right (same-stands stands.Mask row.stands) (is-masking row) hb in
        let maps = maps-asked row (both-left (asks-maps row) ((asks-kind row.first Ldd && asks-kind row.second Boolean) && (takes-just 2 row && gives-drain row.gives)) masking) in
        let placed = placed-all g role row ts b.0 maps hp.drain ht b.1 in
        let mask = mask-value g row ts b.0 t masking hf.takes placed (ok-one e) in
        let here = mask-place row.stands section w at hp.mask in
        record { good = inr (here.0, hs ∙ here.1, mask); word = subst (IsOfWord row.stands) mask.is tt }
    by-meant meant.Step hm hb e =
        let at = sym (same_stands stands.Dynamic row.stands (both-left (same-stands stands.Dynamic row.stands) (gives-scalar row.gives && asks-map row.first) hb)) in
        step-good g w row.stands row.gives (agreed_kind row ts) (map argument_kind b.0) t (hs ∙ dynamic-place row.stands section w ts at hp.place) (both-left (gives-scalar row.gives) (asks-map row.first) (both-right (same-stands stands.Dynamic row.stands) (gives-scalar row.gives && asks-map row.first) hb)) (ok-one e)
    by-meant meant.Stack hm hb e =
        let more = both-right (same-stands stands.Dynamic row.stands) (asks-stack row.first && (takes-just 1 row && gives-same row.gives 0)) hb in
        let last = both-right (asks-stack row.first) (takes-just 1 row && gives-same row.gives 0) more in
        let at = sym (same_stands stands.Dynamic row.stands (both-left (same-stands stands.Dynamic row.stands) (asks-stack row.first && (takes-just 1 row && gives-same row.gives 0)) hb)) in
        stack-good g role w row.stands row ts b.0 t (hs ∙ dynamic-place row.stands section w ts at hp.place) (both-left (asks-stack row.first) (takes-just 1 row && gives-same row.gives 0) more) (both-right (takes-just 1 row) (gives-same row.gives 0) last)
        (just-count row.least row.most (length ts) 1 (both-left (takes-just 1 row) (gives-same row.gives 0) last) hf.takes) ht b.1 (ok-one e)
    by-meant meant.Sample hm hb e =
        let last = takes-just 2 row && asks-plain row.second in
        let more = both-right (same-stands stands.Sample row.stands) (is-plain row && (asks-ids row.first && last)) hb in
        let rest = both-right (is-plain row) (asks-ids row.first && last) more in
        let at = sym (same_stands stands.Sample row.stands (both-left (same-stands stands.Sample row.stands) (is-plain row && (asks-ids row.first && last)) hb)) in
        let place = sample-place row.stands section w ts at hp.place in
        let plain = plain-row (length ts) row hf.takes (both-left (is-plain row) (asks-ids row.first && last) more) in
        let placed = placed-all g role row ts b.0 plain.maps hp.drain ht b.1 in
        sample-of g w row.stands row (agreed_kind row ts) ts b.0 t (hs ∙ place.0) (ap is_sample_word at) (both-left (asks-ids row.first) last rest) (both-right (takes-just 2 row) (asks-plain row.second) (both-right (asks-ids row.first) last rest)) place.1 b.1 placed.maps placed.allowed e

-- what a call that has no fault has: it stands at its place, and a row of the table gives its value
pub record HasRow (section : Section) (w : Bool) (word : List ℕ) (ts : List Typed) (t : Typed) : Type 0 where
  pub place : is_in_wrong_section (stands_of (word_row word)) section w ts ≡ false
  pub drain : (asks_drain (first_ask (word_row word)) && begins_free ts) ≡ false
  pub mask : is_misplaced_mask (stands_of (word_row word)) section w ≡ false
  pub window : (is_window (word_row word) && has_bad_length ts) ≡ false
  pub value : call_by_row (row_for word (length ts)) ts ≡ Ok t

pub has-row : (section : Section) (w : Bool) (word : List ℕ) (ts : List Typed) (t : Typed) → call_read section w word ts ≡ Ok t → HasRow section w word ts t
unfolding call_read
has-row section w word ts t h =
    let b = value-before (passed (call_checks section w word ts) ts) (λ operands. call_by_row (row_for word (length operands)) operands) t h in
    let e = passed-is (call_checks section w word ts) ts b.0 b.1 in
    let c0 : MeaningKind × Bool = (UnknownName, is_none (word_row word)) in
    let c1 : MeaningKind × Bool = (WrongSection, is_in_wrong_section (stands_of (word_row word)) section w ts) in
    let c2 : MeaningKind × Bool = (DrainPlace, asks_drain (first_ask (word_row word)) && begins_free ts) in
    let c3 : MeaningKind × Bool = (DrainPlace, is_misplaced_mask (stands_of (word_row word)) section w) in
    let c4 : MeaningKind × Bool = (BadWindow, is_window (word_row word) && has_bad_length ts) in
    let h1 = passed-rest c0 (c1 ∷ c2 ∷ c3 ∷ c4 ∷ []) ts b.0 b.1 in
    let h2 = passed-rest c1 (c2 ∷ c3 ∷ c4 ∷ []) ts b.0 h1 in
    let h3 = passed-rest c2 (c3 ∷ c4 ∷ []) ts b.0 h2 in
    record {
      place = passed-test c1 (c2 ∷ c3 ∷ c4 ∷ []) ts b.0 h1;
      drain = passed-test c2 (c3 ∷ c4 ∷ []) ts b.0 h2;
      mask = passed-test c3 (c4 ∷ []) ts b.0 h3;
      window = passed-test c4 [] ts b.0 (passed-rest c3 (c4 ∷ []) ts b.0 h3);
      value = ap (λ xs. call_by_row (row_for word (length xs)) xs) e ∙ b.2;
    }

by-row-good : (g : Ground) (role : UsedAs) (section : Section) (w : Bool) (word : List ℕ) (o : Option Row) (ts : List Typed) (t : Typed) → g.in_steps ≡ is_dynamic section → role ≡ first_role word (length ts) → ((row : Row) → o ≡ Some row → IsFound word (length ts) row) → HasRow section w word ts t → AllGood g role ts → call_by_row o ts ≡ Ok t → IsGoodCall g w (stands_of (word_row word)) t
by-row-good g role section w word None ts t hs hr hf hp ht h = cc
by-row-good g role section w word (Some row) ts t hs hr hf hp ht h =
    let found = hf row refl in
    subst (λ (s : Stands). IsGoodCall g w s t) (sym found.stands) (row-good g role section w word row ts t hs hr found (record {
      place = ap (λ (s : Stands). is_in_wrong_section s section w ts) (sym found.stands) ∙ hp.place;
      drain = ap (λ b. b && begins_free ts) (sym found.drain) ∙ hp.drain;
      mask = ap (λ (s : Stands). is_misplaced_mask s section w) (sym found.stands) ∙ hp.mask;
      window = ap (λ b. b && has_bad_length ts) (sym found.window) ∙ hp.window;
    }) ht h)

-- a call on operands that fit
pub call-good : (g : Ground) (role : UsedAs) (section : Section) (w : Bool) (word : List ℕ) (ts : List Typed) (t : Typed) → g.in_steps ≡ is_dynamic section → role ≡ first_role word (length ts) → AllGood g role ts → call_read section w word ts ≡ Ok t → IsGoodCall g w (stands_of (word_row word)) t
call-good g role section w word ts t hs hr ht h =
    let r = has-row section w word ts t h in
    by-row-good g role section w word (row_for word (length ts)) ts t hs hr (λ row k. found-row word (length ts) row k) r ht r.value
