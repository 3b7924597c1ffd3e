-- That the right side of each settled statement fits where it stands.
use Rattle.std.proofs.Common.{◌≡◌, ◌⊎◌, inl, inr, ◌<◌, ℕ, ◌+◌, Bool, true, false, ◌&&◌, ◌||◌, not, List, [], ◌∷◌, ◌++◌, map, length, refl, sym, ap, suc, subst, length-append, ◌∙◌, Result, Ok, Err, append_assoc, append-nil, if◌then◌else◌, arith}
use Rattle.std.specs.Prelude.{⊤, IfSome, Option, None, Some, nat_le, nat_lt}
use Rattle.std.specs.List.{list_all, list_any}
use Rattle.std.specs.Option.{is_some, unwrap_or}
use Rattle.std.specs.Str.{bytes_eq}
use Rattle.std.proofs.lemmas.List.Folds.{list_all-append}
use Rattle.std.proofs.lemmas.Slice.Eq.{bytes_eq-Decides}
use Rattle.text_base.specs.Results.{◌>>=◌}
use Rattle.cell_values.specs.declared.kind.Kind.{Kind}
use Rattle.cell_values.specs.declared.kind.Kind.TheVariants.{Boolean, Nominal, Ordinal, Scalar, Directional, Ldd}
use Rattle.script_syntax.specs.declared.tree.Expr.{Expr, map-Expr, roll-Expr}
use Rattle.script_syntax.specs.declared.tree.Expr.TheVariants as e
use Rattle.script_syntax.specs.declared.tree.Expr.TheVariants.{rolls-Call, rolls-Name, rolls-Number}
use Rattle.script_syntax.specs.declared.tree.Expr.TheFolds.{ind-Expr}
use Rattle.script_syntax.specs.declared.tree.Expr.TheOpen.{Expr-F}
use Rattle.script_syntax.specs.declared.tree.Binding.{Binding}
use Rattle.script_syntax.specs.declared.tree.Script.{Script}
use Rattle.script_syntax.specs.declared.tree.Statement.{Statement}
use Rattle.script_syntax.specs.declared.tree.Target.{Target}
use Rattle.script_syntax.specs.declared.tree.Target.TheVariants as target
use Rattle.map_meaning.specs.declared.op.Op.TheVariants.{AreaAverage, CopyOf}
use Rattle.map_meaning.specs.declared.program.InputUse.{InputUse}
use Rattle.map_meaning.specs.declared.tree.Tree.{Tree, roll-Tree}
use Rattle.map_meaning.specs.declared.tree.Tree.TheVariants as tree
use Rattle.map_meaning.specs.declared.tree.Tree.TheFolds.{ind-Tree}
use Rattle.map_meaning.specs.declared.tree.Tree.TheOpen.{Tree-F}
use Rattle.map_meaning.specs.Programs.{is_id_kind}
use Rattle.map_meaning.specs.Table.{is_kind, row_of}
use Rattle.map_meaning.specs.Trees.{meaning_of}
use Rattle.map_meaning.proofs.Callers.{meaning_of-Mask, same_kind}
use Rattle.script_types.specs.declared.fault.MeaningFault.{MeaningFault}
use Rattle.script_types.specs.declared.fault.MeaningKind.{MeaningKind}
use Rattle.script_types.specs.declared.fault.MeaningKind.TheVariants.{BadStackName, DrainPlace, KindMismatch, NameClash, TooMany}
use Rattle.script_types.specs.declared.fault.Place.{Place}
use Rattle.script_types.specs.declared.fault.Place.TheVariants as place
use Rattle.script_types.specs.declared.typed.Line.{Line}
use Rattle.script_types.specs.declared.typed.Section.{Section}
use Rattle.script_types.specs.declared.typed.Section.TheVariants.{Initial, Dynamic}
use Rattle.script_types.specs.declared.typed.Side.{Side}
use Rattle.script_types.specs.declared.typed.Typed.{Typed}
use Rattle.script_types.specs.declared.typed.Typed.TheVariants as typed
use Rattle.script_types.specs.declared.typed.UsedAs.{UsedAs}
use Rattle.script_types.specs.declared.typed.UsedAs.TheVariants as used
use Rattle.script_types.specs.declared.typed.Value.{Value}
use Rattle.script_types.specs.Checks.{all_of, passed}
use Rattle.script_types.specs.Lowered.{inputs_of}
use Rattle.script_types.specs.Meaning.{area_checks, binding_checks, is_bad_number, meaning}
use Rattle.script_types.specs.Names.{binding_of, file_by, first_role, in_roles, is_assigned, is_bad_prefix, is_bound_to_number, is_sample, is_sampled, is_sampled_in, place_from}
use Rattle.script_types.specs.Reports.{files_read, report_checks}
use Rattle.map_meaning.specs.Limits.{most_operations, most_stacks}
use Rattle.script_types.specs.Statements.{all_lines, asked_kind, averages_of, bound_kind, counts, differs, free_side, is_call, is_dynamic, is_stack_report, kind_above, line_of_side, line_read, line_with, lines_below}
use Rattle.script_types.specs.Statements.{next_line, operations_of, right_side, sampled_value, scope_at, side_checks, target_checks, told_at, whole_side, with_operation}
use Rattle.script_types.specs.Table.{stands_of, word_row}
use Rattle.script_types.specs.Typing.{Scope, assigned_read, bound_read, call_read, input_as, input_checks, input_in, name_read, number_as, target_read, typed_as}
use Rattle.script_types.specs.inside.Fits.{Ground, SideFits, fits, is_ids}
use Rattle.script_types.specs.inside.FitLines.{AveragesAt, Frame, LineFits, LinesFit, script_frame}
use Rattle.script_types.specs.inside.Sound.{are_sound, has_kinds, is_sound}
use Rattle.script_types.proofs.RowKinds.{both-are}
use Rattle.script_syntax.specs.Listed.{most_counted}
use Rattle.script_syntax.specs.WellMade.{IsWellMade, calls_in, has_words, is_name, is_well_made_statement}
use Rattle.script_types.proofs.Pairwise.{Each, each-append}
use Rattle.script_types.proofs.FitLemmas.{both-left, both-right}
use Rattle.script_types.proofs.FitCalls.{IsGoodMask, IsGoodWhole, IsOfWord, call-good, input-tree}
use Rattle.script_types.proofs.FitOperands.{AllGood}
use Rattle.script_types.proofs.FitTrees.{call-fits}
use Rattle.script_types.proofs.FitNodes.{IsGood, IsGoodScope, IsGoodTyped, ground-of, name-good, not-not, number-good, ok-one, passed-is, passed-rest, passed-test, value-before}
use Rattle.script_types.proofs.FoundInputs.{bound-none, found-input}
use Rattle.script_types.proofs.FoundRows.{neither-left}
use Rattle.script_types.proofs.TypedCalls.{operand_as, typed_call, typed_name, typed_number}
use Rattle.script_types.proofs.TreeCounts.{one-more, one-more-told}

or-left : (a b : Bool) → a ≡ true → (a || b) ≡ true
or-left true b h = refl
or-left false b h = cc

or-right : (a b : Bool) → b ≡ true → (a || b) ≡ true
or-right true b h = refl
or-right false b h = h

-- ---- expressions

-- a sample is that of a time series
abbrev pub IsOfExpr : Expr → Typed → Type 0
IsOfExpr x (typed.Sample ids v) = is_sample x ≡ true
IsOfExpr x _ = ⊤

-- what an expression is at its place fits, or is a mask where it is a whole right side of `initial`
abbrev pub IsGoodIn : Ground → Bool → UsedAs → Typed → Type 0
IsGoodIn g w role t = IsGoodTyped g role t ⊎ ((w ≡ true) × (g.in_steps ≡ false) × IsGoodMask g t)

-- and it is sampled where it is a time series alone
pub record IsGoodAt (s : Scope) (inputs : List InputUse) (x : Expr) (w : Bool) (role : UsedAs) (t : Typed) : Type 0 where
  pub good : IsGoodIn (ground-of s inputs) w role t
  pub word : IsOfExpr x t

-- whatever an expression is at its place fits
abbrev GoodAt : Scope → List InputUse → Expr → Type 0
GoodAt s inputs x = (w : Bool) (role : UsedAs) (t : Typed) → typed_as s x w role ≡ Ok t → IsGoodAt s inputs x w role t

-- an operand is no mask
not-whole : (g : Ground) (role : UsedAs) (t : Typed) → IsGoodIn g false role t → IsGoodTyped g role t
not-whole g role t (inl h) = h
not-whole g role t (inr h) = let z = h.0 in cc

-- as many as there were
pub record AreGoodAll (s : Scope) (inputs : List InputUse) (role : UsedAs) (count : ℕ) (ts : List Typed) : Type 0 where
  pub good : AllGood (ground-of s inputs) role ts
  pub many : length ts ≡ count

operands-good : (s : Scope) (inputs : List InputUse) (es : List ((x : Expr) × GoodAt s inputs x)) (role : UsedAs) (ts : List Typed) → all_of (in_roles role (map (operand_as s) (map (λ p. p.0) es))) ≡ Ok ts → AreGoodAll s inputs role (length (map (λ p. p.0) es)) ts
operands-good s inputs [] role ts h = subst (AreGoodAll s inputs role 0) (ok-one h) (record { good = tt; many = refl })
operands-good s inputs (p ∷ es) role ts h =
    let rest = all_of (in_roles used.Grid (map (operand_as s) (map (λ q. q.0) es))) in
    let b = value-before (operand_as s p.0 role) (λ t. rest >>= λ us. Ok (t ∷ us)) ts h in
    let c = value-before rest (λ us. Ok (b.0 ∷ us)) ts b.2 in
    let more = operands-good s inputs es used.Grid c.0 c.1 in
    subst (AreGoodAll s inputs role (length (map (λ q. q.0) (p ∷ es)))) (ok-one c.2) (record {
      good = (not-whole (ground-of s inputs) role b.0 (p.1 false role b.0 b.1).good, more.good);
      many = ap suc more.many;
    })

input-word : (x : Expr) (role : UsedAs) (kind : Kind) (n : ℕ) → IsOfExpr x (input_as role kind n)
input-word x used.Grid kind n = tt
input-word x used.Stack kind n = tt
input-word x (used.Table keys of) kind n = tt
input-word x (used.Series of) kind n = tt

assigned-word : (x : Expr) (sampled : Bool) (name : List ℕ) (o : Option Kind) (t : Typed) → assigned_read sampled name o ≡ Ok t → IsOfExpr x t
assigned-word x sampled name None t h = cc
assigned-word x sampled name (Some k) t h = subst (IsOfExpr x) (passed-is ((KindMismatch, sampled) ∷ []) (typed.Map (record { kind = k; tree = tree.Name k name })) t h) tt

target-word : (x : Expr) (s : Scope) (role : UsedAs) (name : List ℕ) (kind : Option Kind) (to : Target) (t : Typed) → target_read s role name kind to ≡ Ok t → IsOfExpr x t
target-word x s role name kind (target.File file) t h = subst (IsOfExpr x) (passed-is (input_checks s role name file (unwrap_or kind Scalar)) (input_as role (unwrap_or kind Scalar) (unwrap_or (s.input name) 0)) t h) (input-word x role (unwrap_or kind Scalar) (unwrap_or (s.input name) 0))
target-word x s role name None (target.Number text) t h = subst (IsOfExpr x) (ok-one h) tt
target-word x s role name (Some k) (target.Number text) t h = let b = value-before (number_as k text) (λ v. Ok (typed.Map v)) t h in subst (IsOfExpr x) (ok-one b.2) tt

bound-word : (x : Expr) (s : Scope) (role : UsedAs) (name : List ℕ) (o : Option Binding) (t : Typed) → bound_read s role name o ≡ Ok t → IsOfExpr x t
bound-word x s role name None t h = cc
bound-word x s role name (Some b) t h = target-word x s role name b.kind b.target t h

-- a name is no sample
name-word : (x : Expr) (s : Scope) (role : UsedAs) (name : List ℕ) (t : Typed) → name_read s role name ≡ Ok t → IsOfExpr x t
unfolding name_read
name-word x s role name t h = by-test (s.is_assigned name) h
  where
    by-test : (b : Bool) → (if b then assigned_read (s.is_sampled name) name (s.above name) else bound_read s role name (s.binding name)) ≡ Ok t → IsOfExpr x t
    by-test true g = assigned-word x (s.is_sampled name) name (s.above name) t g
    by-test false g = bound-word x s role name (s.binding name) t g

word-expr : (word : List ℕ) (args : List Expr) (t : Typed) → IsOfWord (stands_of (word_row word)) t → IsOfExpr (e.Call word args) t
word-expr word args (typed.Literal text) h = tt
word-expr word args (typed.Constant text) h = tt
word-expr word args (typed.Map v) h = tt
word-expr word args (typed.Table k n) h = tt
word-expr word args (typed.Series k n) h = tt
word-expr word args (typed.Stack k n) h = tt
word-expr word args (typed.Sample ids v) h = h

in-role : (g : Ground) (w : Bool) (role : UsedAs) (t : Typed) → IsGoodWhole g w t → IsGoodIn g w role t
in-role g w role t (inl h) = inl (h role)
in-role g w role t (inr h) = inr h

node-good : (s : Scope) (inputs : List InputUse) → IsGoodScope s inputs → (y : Expr-F ((x : Expr) × GoodAt s inputs x)) → GoodAt s inputs (roll-Expr (map-Expr ((x : Expr) × GoodAt s inputs x) Expr (λ p. p.0) y))
node-good s inputs hs (Expr-F.Name name) = subst (GoodAt s inputs) (sym (rolls-Name name)) (λ w role t h. let r = sym (typed_name s name w role) ∙ h in record { good = inl (name-good s inputs role name t hs r); word = name-word (e.Name name) s role name t r })
node-good s inputs hs (Expr-F.Number text) = subst (GoodAt s inputs) (sym (rolls-Number text)) (λ w role t h. subst (IsGoodAt s inputs (e.Number text) w role) (ok-one (sym (typed_number s text w role) ∙ h)) (record { good = inl tt; word = tt }))
node-good s inputs hs (Expr-F.Call word es) = subst (GoodAt s inputs) (sym (rolls-Call word (map (λ p. p.0) es))) (λ w role t h.
    let args = map (λ p. p.0) es in
    let found = all_of (in_roles (first_role word (length args)) (map (operand_as s) args)) in
    let b = value-before found (λ ts. call_read s.section w word ts) t (sym (typed_call s word args w role) ∙ h) in
    let all = operands-good s inputs es (first_role word (length args)) b.0 b.1 in
    let call = call-good (ground-of s inputs) (first_role word (length args)) s.section w word b.0 t refl (ap (first_role word) (sym all.many)) all.good b.2 in
    record { good = in-role (ground-of s inputs) w role t call.good; word = word-expr word args t call.word })

-- each expression
pub expression-good : (s : Scope) (inputs : List InputUse) → IsGoodScope s inputs → (x : Expr) → GoodAt s inputs x
expression-good s inputs hs = ind-Expr (GoodAt s inputs) (λ x y is. subst (λ z. GoodAt s inputs (roll-Expr z)) is (node-good s inputs hs y))

-- ---- right sides

-- A right side fits, has its kind and keeps to the table. Where it is sampled it is so in `dynamic` at a map of ids, by a time
-- series, and is no drain map.
pub record IsGoodSide (g : Ground) (x : Expr) (mean : Bool) (side : Side) : Type 0 where
  pub value : SideFits g side.value.tree
  pub of_kind : (meaning_of side.value.tree).kind ≡ side.value.kind
  pub sound : is_sound side.value.tree ≡ true
  pub ids : IfSome side.sample (λ ids. is_ids g.inputs ids ≡ true)
  pub means : mean ≡ true → IfSome side.sample (λ ids. AveragesAt ids side.value.tree)
  pub in_steps : is_some side.sample ≡ true → g.in_steps ≡ true
  pub word : is_some side.sample ≡ true → is_sample x ≡ true
  pub plain : is_some side.sample ≡ true → is_kind Ldd side.value.kind ≡ false

whole-good : (g : Ground) (x : Expr) (mean : Bool) (v : Value) (side : Side) → IsGood g v.tree v.kind → whole_side v ≡ side → IsGoodSide g x mean side
whole-good g x mean v side h k = subst (IsGoodSide g x mean) k (record { value = inl h.value; of_kind = h.of_kind; sound = h.sound; ids = tt; means = λ q. tt; in_steps = λ q. cc; word = λ q. cc; plain = λ q. cc })

free-good : (g : Ground) (x : Expr) (mean : Bool) (asked : Kind) (text : List ℕ) (side : Side) → (free_side asked text >>= λ v. Ok (whole_side v)) ≡ Ok side → IsGoodSide g x mean side
free-good g x mean asked text side h =
    let a = value-before (free_side asked text) (λ v. Ok (whole_side v)) side h in
    let b = value-before (passed ((DrainPlace, is_kind Ldd asked) ∷ []) text) (λ t. number_as asked t) a.0 a.1 in
    whole-good g x mean a.0 side (number-good g asked b.0 a.0 (passed-test (DrainPlace, is_kind Ldd asked) [] text b.0 b.1) b.2).0 (ok-one a.2)

mask-good : (g : Ground) (x : Expr) (mean : Bool) (asked : Kind) (t : Typed) (side : Side) → IsGoodMask g t → right_side mean asked t ≡ Ok side → IsGoodSide g x mean side
mask-good g x mean asked t side m h = subst (IsGoodSide g x mean) (ok-one (ap (right_side mean asked) m.is ∙ h)) (record { value = inr m.mask; of_kind = m.of_kind; sound = m.sound; ids = tt; means = λ q. tt; in_steps = λ q. cc; word = λ q. cc; plain = λ q. cc })

-- an average over ids keeps to the table
average-kinds : (kind : Kind) → is_id_kind kind ≡ true → has_kinds (row_of AreaAverage) (Scalar ∷ kind ∷ []) Scalar ≡ true
unfolding row_of
average-kinds Boolean h = refl
average-kinds Nominal h = refl
average-kinds Ordinal h = refl
average-kinds Scalar h = cc
average-kinds Directional h = cc
average-kinds Ldd h = cc

-- so the averages of a scalar map fit
averages-good : (g : Ground) (ids v : Value) → IsGood g v.tree v.kind → IsGood g ids.tree ids.kind → is_id_kind ids.kind ≡ true → Scalar ≡ v.kind → IsGood g (averages_of ids v).tree Scalar
averages-good g ids v hv hi hk hs =
    call-fits g Scalar AreaAverage (v.tree ∷ ids.tree ∷ [])
    (both-are (fits g v.tree) (fits g ids.tree && true) hv.value (both-are (fits g ids.tree) true hi.value refl))
    (both-are (is_sound v.tree) (is_sound ids.tree && true) hv.sound (both-are (is_sound ids.tree) true hi.sound refl))
    refl
    (ap (λ k. has_kinds (row_of AreaAverage) (k ∷ (meaning_of ids.tree).kind ∷ []) Scalar) (hv.of_kind ∙ sym hs) ∙ ap (λ k. has_kinds (row_of AreaAverage) (Scalar ∷ k ∷ []) Scalar) hi.of_kind ∙ average-kinds ids.kind hk)
    refl

-- what is sampled, and at which ids
abbrev sample-side : Value → Value → Side
sample-side ids w = record { value = w; sample = Some (input_in ids.tree) }

sampled-good : (g : Ground) (x : Expr) (mean : Bool) (ids v : Value) (side : Side) → IsGoodTyped g used.Grid (typed.Sample ids v) → is_sample x ≡ true → (sampled_value mean ids v >>= λ w. Ok (sample-side ids w)) ≡ Ok side → IsGoodSide g x mean side
sampled-good g x false ids v side ht hw h = subst (IsGoodSide g x false) (ok-one h) (record { value = inl ht.0.value; of_kind = ht.0.of_kind; sound = ht.0.sound; ids = ht.1.number; means = λ q. cc; in_steps = λ q. ht.2; word = λ q. hw; plain = λ q. ht.3 })
sampled-good g x true ids v side ht hw h =
    let test : MeaningKind × Bool = (KindMismatch, not (is_kind Scalar v.kind)) in
    let b = value-before (passed (test ∷ []) (averages_of ids v)) (λ w. Ok (sample-side ids w)) side h in
    let is = passed-is (test ∷ []) (averages_of ids v) b.0 b.1 in
    let of = same_kind Scalar v.kind (not-not (is_kind Scalar v.kind) (passed-test test [] (averages_of ids v) b.0 b.1)) in
    let good = averages-good g ids v ht.0 ht.1.good ht.1.kind of in
    let input = input-tree ids.tree ht.1.input in
    let of_ids : tree.Input input.kind input.number ≡ tree.Input input.kind (input_in ids.tree) = ap (tree.Input input.kind) (sym (ap input_in input.is)) in
    let means : AveragesAt (input_in ids.tree) (averages_of ids v).tree = (v.tree, input.kind, ap (λ t. tree.Call Scalar AreaAverage (v.tree ∷ t ∷ [])) (input.is ∙ of_ids)) in
    subst (IsGoodSide g x true) (ap (sample-side ids) is ∙ ok-one b.2) (record { value = inl good.value; of_kind = good.of_kind; sound = good.sound; ids = ht.1.number; means = λ q. means; in_steps = λ q. ht.2; word = λ q. hw; plain = λ q. refl })

typed-good : (g : Ground) (x : Expr) (mean : Bool) (asked : Kind) (t : Typed) (side : Side) → IsGoodTyped g used.Grid t → IsOfExpr x t → right_side mean asked t ≡ Ok side → IsGoodSide g x mean side
typed-good g x mean asked (typed.Literal text) side ht hw h = free-good g x mean asked text side h
typed-good g x mean asked (typed.Constant text) side ht hw h = free-good g x mean asked text side h
typed-good g x mean asked (typed.Map u) side ht hw h = whole-good g x mean u side ht (ok-one h)
typed-good g x mean asked (typed.Sample ids v) side ht hw h = sampled-good g x mean ids v side ht hw h
typed-good g x mean asked (typed.Table kind n) side ht hw h = cc
typed-good g x mean asked (typed.Series kind n) side ht hw h = cc
typed-good g x mean asked (typed.Stack kind n) side ht hw h = cc

side-good : (g : Ground) (x : Expr) (mean : Bool) (asked : Kind) (t : Typed) (side : Side) → IsGoodIn g true used.Grid t → IsOfExpr x t → right_side mean asked t ≡ Ok side → IsGoodSide g x mean side
side-good g x mean asked t side (inl ht) hw h = typed-good g x mean asked t side ht hw h
side-good g x mean asked t side (inr ht) hw h = mask-good g x mean asked t side ht.2 h

-- ---- statements

node-counts : (x : Tree-F Tree) → is_call (roll-Tree x) ≡ true → 0 < operations_of (roll-Tree x)
node-counts (Tree-F.Number k c) h = let z = sym (ap is_call (tree.rolls-Number k c)) ∙ h in cc
node-counts Tree-F.Time h = let z = sym (ap is_call tree.rolls-Time) ∙ h in cc
node-counts (Tree-F.Input k n) h = let z = sym (ap is_call (tree.rolls-Input k n)) ∙ h in cc
node-counts (Tree-F.Stack k n) h = let z = sym (ap is_call (tree.rolls-Stack k n)) ∙ h in cc
node-counts (Tree-F.Name k name) h = let z = sym (ap is_call (tree.rolls-Name k name)) ∙ h in cc
node-counts (Tree-F.Call k o args) h = let c = ap operations_of (tree.rolls-Call k o args) ∙ one-more k o args in omega (arith, c)
node-counts (Tree-F.CallWith k o file window args) h = let c = ap operations_of (tree.rolls-CallWith k o file window args) ∙ one-more-told k o file window args in omega (arith, c)
node-counts (Tree-F.Mask args) h = let z = sym (ap is_call (tree.rolls-Mask args)) ∙ h in cc

call-counts : (t : Tree) → is_call t ≡ true → 0 < operations_of t
call-counts = ind-Tree (λ t. is_call t ≡ true → 0 < operations_of t) (λ x y is. node-counts x)

-- a right side fits, has the kind, keeps to the table, and has an operation unless it is sampled or a drain map
pub record HasValue (g : Ground) (sampled : Bool) (t : Tree) (kind : Kind) : Type 0 where
  pub value : SideFits g t
  pub of_kind : (meaning_of t).kind ≡ kind
  pub sound : is_sound t ≡ true
  pub operation : sampled ≡ false → is_kind Ldd kind ≡ false → 0 < operations_of t

-- a copy keeps to the table where it is of no drain map
copy-kinds : (kind : Kind) → is_kind Ldd kind ≡ false → has_kinds (row_of CopyOf) (kind ∷ []) kind ≡ true
unfolding row_of
copy-kinds Boolean h = refl
copy-kinds Nominal h = refl
copy-kinds Ordinal h = refl
copy-kinds Scalar h = refl
copy-kinds Directional h = refl
copy-kinds Ldd h = cc

-- a right side that is no drain map is an expression that fits
side-plain : (g : Ground) (t : Tree) (kind : Kind) → SideFits g t → (meaning_of t).kind ≡ kind → is_kind Ldd kind ≡ false → fits g t ≡ true
side-plain g t kind (inl h) hk hl = h
side-plain g t kind (inr m) hk hl = let e : Ldd ≡ kind = sym (ap (λ u. (meaning_of u).kind) m.is ∙ ap (λ n. n.kind) (meaning_of-Mask m.operands)) ∙ hk in let z = ap (is_kind Ldd) e ∙ hl in cc

with-good : (g : Ground) (sampled : Bool) (t : Tree) (kind : Kind) → SideFits g t → (meaning_of t).kind ≡ kind → is_sound t ≡ true → HasValue g sampled (with_operation sampled kind t) kind
with-good g sampled t kind h hk hs = by-test (is_call t) (is_kind Ldd kind) sampled refl refl
  where
    by-test : (c l d : Bool) → is_call t ≡ c → is_kind Ldd kind ≡ l → HasValue g d (if c || l || d then t else tree.Call kind CopyOf (t ∷ [])) kind
    by-test true l d hc hl = record { value = h; of_kind = hk; sound = hs; operation = λ q r. call-counts t hc }
    by-test false true d hc hl = record { value = h; of_kind = hk; sound = hs; operation = λ q r. let z = sym hl ∙ r in cc }
    by-test false false true hc hl = record { value = h; of_kind = hk; sound = hs; operation = λ q r. cc }
    by-test false false false hc hl =
        let c = one-more kind CopyOf (t ∷ []) in
        let copy = call-fits g kind CopyOf (t ∷ []) (both-are (fits g t) true (side-plain g t kind h hk hl) refl) (both-are (is_sound t) true hs refl) refl (ap (λ k. has_kinds (row_of CopyOf) (k ∷ []) kind) hk ∙ copy-kinds kind hl) hl in
        record { value = inl copy.value; of_kind = copy.of_kind; sound = copy.sound; operation = λ q r. omega (arith, c) }

-- what the tests of a target leave: it has no other kind, a stack that is written has a prefix, and no limit is passed
pub record HasPassed (s : Scope) (before : ℕ) (st : Statement) (sampled : Bool) (kind : Kind) (t : Tree) : Type 0 where
  pub agrees : differs (s.above st.name) kind ≡ false
  pub prefix : (is_stack_report s.section st.report sampled && is_bad_prefix (file_by (s.binding st.name) st.name) s.steps) ≡ false
  pub few : nat_lt most_operations (before + operations_of t) ≡ false
  pub few_written : (is_stack_report s.section st.report sampled && nat_le most_stacks s.stacks_written) ≡ false
  pub few_read : nat_lt most_stacks s.stacks_read ≡ false

has-passed : (s : Scope) (before : ℕ) (st : Statement) (sampled : Bool) (kind : Kind) (t : Tree) (x y : Line) → passed (target_checks s before st sampled kind t) x ≡ Ok y → HasPassed s before st sampled kind t
has-passed s before st sampled kind t x y h =
    let stack = is_stack_report s.section st.report sampled in
    let c0 : MeaningKind × Bool = (NameClash, is_bound_to_number (s.binding st.name)) in
    let c1 : MeaningKind × Bool = (KindMismatch, differs (s.above st.name) kind || differs (bound_kind (s.binding st.name)) kind) in
    let c2 : MeaningKind × Bool = (BadStackName, stack && is_bad_prefix (file_by (s.binding st.name) st.name) s.steps) in
    let c3 : MeaningKind × Bool = (TooMany, nat_lt most_operations (before + operations_of t)) in
    let c4 : MeaningKind × Bool = (TooMany, stack && nat_le most_stacks s.stacks_written) in
    let c5 : MeaningKind × Bool = (TooMany, nat_lt most_stacks s.stacks_read) in
    let h1 = passed-rest c0 (c1 ∷ c2 ∷ c3 ∷ c4 ∷ c5 ∷ []) x y h in
    let h2 = passed-rest c1 (c2 ∷ c3 ∷ c4 ∷ c5 ∷ []) x y h1 in
    let h3 = passed-rest c2 (c3 ∷ c4 ∷ c5 ∷ []) x y h2 in
    let h4 = passed-rest c3 (c4 ∷ c5 ∷ []) x y h3 in
    let h5 = passed-rest c4 (c5 ∷ []) x y h4 in
    record {
      agrees = neither-left (differs (s.above st.name) kind) (differs (bound_kind (s.binding st.name)) kind) (passed-test c1 (c2 ∷ c3 ∷ c4 ∷ c5 ∷ []) x y h1);
      prefix = passed-test c2 (c3 ∷ c4 ∷ c5 ∷ []) x y h2;
      few = passed-test c3 (c4 ∷ c5 ∷ []) x y h3;
      few_written = passed-test c4 (c5 ∷ []) x y h4;
      few_read = passed-test c5 [] x y h5;
    }

-- the right side of a statement with its operation
abbrev pub whole-of : Side → Tree
whole-of side = with_operation (is_some side.sample) side.value.kind side.value.tree

-- the settled statement with a right side
abbrev pub line-of : Scope → Statement → Side → Line
line-of s st side = line_with s.section st side.sample side.value.kind (whole-of side)

-- what a settled statement is: a right side with its operation, whose target has passed
pub record IsLineOf (s : Scope) (before : ℕ) (st : Statement) (l : Line) : Type 0 where
  pub typed_is : Typed
  pub typed : typed_as s st.expr true used.Grid ≡ Ok typed_is
  pub side : Side
  pub sided : right_side s.mean (asked_kind (s.above st.name) (bound_kind (s.binding st.name))) typed_is ≡ Ok side
  pub is : l ≡ line-of s st side
  pub drain : (is_dynamic s.section && is_kind Ldd side.value.kind) ≡ false
  pub passed : HasPassed s before st (is_some side.sample) side.value.kind (whole-of side)

-- the target of a statement with this right side passes
target-passes : (s : Scope) (before : ℕ) (st : Statement) (side : Side) (l : Line) → line_of_side s before st side ≡ Ok l → passed (target_checks s before st (is_some side.sample) side.value.kind (whole-of side)) (line-of s st side) ≡ Ok l
target-passes s before st side l h =
    let next : Tree → Result Line MeaningKind = λ t. passed (target_checks s before st (is_some side.sample) side.value.kind t) (line_with s.section st side.sample side.value.kind t) in
    let d = value-before (passed (side_checks s.section side.value.kind) (whole-of side)) next l h in
    ap next (passed-is (side_checks s.section side.value.kind) (whole-of side) d.0 d.1) ∙ d.2

-- and it is a drain map in `initial` alone
drain-passes : (s : Scope) (before : ℕ) (st : Statement) (side : Side) (l : Line) → line_of_side s before st side ≡ Ok l → (is_dynamic s.section && is_kind Ldd side.value.kind) ≡ false
drain-passes s before st side l h =
    let next : Tree → Result Line MeaningKind = λ t. passed (target_checks s before st (is_some side.sample) side.value.kind t) (line_with s.section st side.sample side.value.kind t) in
    let d = value-before (passed (side_checks s.section side.value.kind) (whole-of side)) next l h in
    passed-test (DrainPlace, is_dynamic s.section && is_kind Ldd side.value.kind) [] (whole-of side) d.0 d.1

-- a statement without a fault
pub line-parts : (s : Scope) (before : ℕ) (st : Statement) (l : Line) → line_read s before st ≡ Ok l → IsLineOf s before st l
unfolding line_read
line-parts s before st l h =
    let asked = asked_kind (s.above st.name) (bound_kind (s.binding st.name)) in
    let b = value-before (typed_as s st.expr true used.Grid) (λ t. right_side s.mean asked t >>= λ side. line_of_side s before st side) l h in
    let c = value-before (right_side s.mean asked b.0) (λ side. line_of_side s before st side) l b.2 in
    let target = target-passes s before st c.0 l c.2 in
    record {
      typed_is = b.0;
      typed = b.1;
      side = c.0;
      sided = c.1;
      is = sym (passed-is (target_checks s before st (is_some c.0.sample) c.0.value.kind (whole-of c.0)) (line-of s st c.0) l target);
      drain = drain-passes s before st c.0 l c.2;
      passed = has-passed s before st (is_some c.0.sample) c.0.value.kind (whole-of c.0) (line-of s st c.0) l target;
    }

-- a settled line fits, and keeps to the table
pub record IsGoodLine (script : Script) (above : List Line) (l : Line) : Type 0 where
  pub fits : LineFits (script_frame script) above l
  pub sound : is_sound l.statement.value ≡ true

agrees-some : (o : Option Kind) (kind : Kind) → differs o kind ≡ false → IfSome o (λ k. k ≡ kind)
agrees-some None kind h = tt
agrees-some (Some k) kind h = same_kind k kind (not-not (is_kind k kind) h)

in-dynamic : (section : Section) → is_dynamic section ≡ true → section ≡ Dynamic
in-dynamic Initial h = cc
in-dynamic Dynamic h = refl

none-sampled : {A : Type 0} (o : Option A) → o ≡ None → is_some o ≡ false
none-sampled o h = ap is_some h

in-initial : (section : Section) (drain : Bool) → (is_dynamic section && drain) ≡ false → drain ≡ true → section ≡ Initial
in-initial Initial drain h k = refl
in-initial Dynamic drain h k = let z = sym h ∙ k in cc

no-sample : (o : Option ℕ) (drain : Bool) → (is_some o ≡ true → drain ≡ false) → drain ≡ true → o ≡ None
no-sample None drain h k = refl
no-sample (Some ids) drain h k = let z = sym (h refl) ∙ k in cc

-- what is sampled stays what it is
with-sampled : (kind : Kind) (t : Tree) → with_operation true kind t ≡ t
with-sampled kind t = by (is_call t) (is_kind Ldd kind)
  where
    by : (c l : Bool) → (if c || l || true then t else tree.Call kind CopyOf (t ∷ [])) ≡ t
    by true l = refl
    by false true = refl
    by false false = refl

whole-means : (o : Option ℕ) (v : Value) → IfSome o (λ ids. AveragesAt ids v.tree) → IfSome o (λ ids. AveragesAt ids (with_operation (is_some o) v.kind v.tree))
whole-means None v h = tt
whole-means (Some ids) v h = subst (AveragesAt ids) (sym (with-sampled v.kind v.tree)) h

-- a statement
line-good : (script : Script) (section : Section) (above : List Line) (before : ℕ) (st : Statement) (l : Line) → IsGoodScope (scope_at script section above) (inputs_of script) → (is_sample st.expr ≡ true → is_sampled script st.name ≡ true) → line_read (scope_at script section above) before st ≡ Ok l → IsGoodLine script above l
line-good script section above before st l hs hd h =
    let s = scope_at script section above in
    let g = ground-of s (inputs_of script) in
    let p = line-parts s before st l h in
    let at = expression-good s (inputs_of script) hs st.expr true used.Grid p.typed_is p.typed in
    let side = side-good g st.expr s.mean (asked_kind (s.above st.name) (bound_kind (s.binding st.name))) p.typed_is p.side at.good at.word p.sided in
    let w = with-good g (is_some p.side.sample) p.side.value.tree p.side.value.kind side.value side.of_kind side.sound in
    subst (IsGoodLine script above) (sym p.is) (record {
      fits = record {
        value = w.value;
        kind = w.of_kind;
        agrees = agrees-some (kind_above above st.name) p.side.value.kind p.passed.agrees;
        operation = λ q r. w.operation (none-sampled p.side.sample q) r;
        drain = λ q. (in-initial section (is_kind Ldd p.side.value.kind) p.drain q, no-sample p.side.sample (is_kind Ldd p.side.value.kind) side.plain q);
        ids = side.ids;
        means = λ q. whole-means p.side.sample p.side.value (side.means q);
        sampled = λ q. hd (side.word q);
        in_steps = λ q. in-dynamic section (side.in_steps q);
      };
      sound = w.sound;
    })

-- ---- all statements

-- a binding is a number at fault
abbrev pub is-bad : Binding → Bool
is-bad b = is_bad_number b.target b.kind

neither-are : (a b : Bool) → a ≡ false → b ≡ false → (a || b) ≡ false
neither-are false b ha hb = hb
neither-are true b ha hb = cc

-- where the tests of the bindings pass there is none
none-bad : {A : Type 0} (before bs : List Binding) (x y : A) → passed (binding_checks before bs) x ≡ Ok y → list_any is-bad bs ≡ false
none-bad before [] x y h = refl
none-bad before (b ∷ bs) x y h =
    let clash : MeaningFault × Bool = (record { at = place.Binding (length before + 1); kind = NameClash }, is_some (place_from 0 before b.name)) in
    let bad : MeaningFault × Bool = (record { at = place.Binding (length before + 1); kind = KindMismatch }, is-bad b) in
    let rest = binding_checks (before ++ b ∷ []) bs in
    let later = passed-rest clash (bad ∷ rest) x y h in
    neither-are (is-bad b) (list_any is-bad bs) (passed-test bad rest x y later) (none-bad (before ++ b ∷ []) bs x y (passed-rest bad rest x y later))

scope-good : (script : Script) (section : Section) (lines : List Line) → list_any is-bad script.bindings ≡ false → IsGoodScope (scope_at script section lines) (inputs_of script)
scope-good script section lines hb = record {
  number = λ name b h. bound-none is-bad script name b hb h;
  input = λ name b file role hn ht ha hr. found-input script name b file role hn ht ha hr;
}

pub told-ok : (at : Place) (r : Result Line MeaningKind) (l : Line) → told_at at r ≡ Ok l → r ≡ Ok l
told-ok at (Ok m) l h = let e : m ≡ l = cc in ap (λ z. Ok z) e
told-ok at (Err f) l h = cc

-- these lines follow on those, fit, and keep to the table
pub record Follow (script : Script) (above lines : List Line) : Type 0 where
  pub rest : List Line
  pub split : lines ≡ above ++ rest
  pub fit : LinesFit (script_frame script) above rest
  pub sound : are_sound lines ≡ true

sound-more : (lines : List Line) (l : Line) → are_sound lines ≡ true → is_sound l.statement.value ≡ true → are_sound (lines ++ l ∷ []) ≡ true
sound-more lines l hs h = list_all-append (λ (x : Line). is_sound x.statement.value) lines (l ∷ []) ∙ both-are (are_sound lines) (is_sound l.statement.value && true) hs (both-are (is_sound l.statement.value) true h refl)

sampled-here : (s : Statement) (ss : List Statement) → is_sample s.expr ≡ true → is_sampled_in (s ∷ ss) s.name ≡ true
sampled-here s ss h = ap (λ b. b && is_sample s.expr || is_sampled_in ss s.name) ((bytes_eq-Decides s.name s.name).1 refl) ∙ ap (λ b. b || is_sampled_in ss s.name) h

sampled-later : (s : Statement) (ss : List Statement) (name : List ℕ) → is_sampled_in ss name ≡ true → is_sampled_in (s ∷ ss) name ≡ true
sampled-later s ss name h = or-right (bytes_eq name s.name && is_sample s.expr) (is_sampled_in ss name) h

follow-on : (script : Script) (section : Section) (above lines : List Line) (ss : List Statement) → list_any is-bad script.bindings ≡ false → ((name : List ℕ) → is_sampled_in ss name ≡ true → is_sampled script name ≡ true) → are_sound above ≡ true → lines_below script section above ss ≡ Ok lines → Follow script above lines
follow-on script section above lines [] hb hm hs h = let z : above ≡ lines = cc in record { rest = []; split = sym z ∙ sym (append-nil above); fit = tt; sound = ap are_sound (sym z) ∙ hs }
follow-on script section above lines (s ∷ ss) hb hm hs h =
    let b = value-before (next_line script section above s) (λ l. lines_below script section (above ++ l ∷ []) ss) lines h in
    let read = told-ok (place.Statement (length above + 1)) (line_read (scope_at script section above) (counts section above) s) b.0 b.1 in
    let good = line-good script section above (counts section above) s b.0 (scope-good script section above hb) (λ q. hm s.name (sampled-here s ss q)) read in
    let i = follow-on script section (above ++ b.0 ∷ []) lines ss hb (λ name q. hm name (sampled-later s ss name q)) (sound-more above b.0 hs good.sound) b.2 in
    record { rest = b.0 ∷ i.rest; split = i.split ∙ append_assoc above (b.0 ∷ []) i.rest; fit = (good.fits, i.fit); sound = i.sound }

fit-append : (frame : Frame) (above xs ys : List Line) → LinesFit frame above xs → LinesFit frame (above ++ xs) ys → LinesFit frame above (xs ++ ys)
fit-append frame above [] ys hx hy = subst (λ a. LinesFit frame a ys) (append-nil above) hy
fit-append frame above (x ∷ xs) ys hx hy = (hx.0, fit-append frame (above ++ x ∷ []) xs ys hx.1 (subst (λ a. LinesFit frame a ys) (sym (append_assoc above (x ∷ []) xs)) hy))

-- the statements fit, and keep to the table
record AreGood (script : Script) (lines : List Line) : Type 0 where
  fit : LinesFit (script_frame script) [] lines
  sound : are_sound lines ≡ true

all-fit : (script : Script) (lines : List Line) → list_any is-bad script.bindings ≡ false → all_lines script ≡ Ok lines → AreGood script lines
all-fit script lines hb h =
    let b = value-before (lines_below script Initial [] script.initial) (λ ls. lines_below script Dynamic ls script.dynamic) lines h in
    let i = follow-on script Initial [] b.0 script.initial hb (λ name q. or-left (is_sampled_in script.initial name) (is_sampled_in script.dynamic name) q) refl b.1 in
    let j = follow-on script Dynamic b.0 lines script.dynamic hb (λ name q. or-right (is_sampled_in script.initial name) (is_sampled_in script.dynamic name) q) i.sound b.2 in
    record { sound = j.sound; fit = subst (LinesFit (script_frame script) []) (ap (λ x. x ++ j.rest) (sym i.split) ∙ sym j.split) (fit-append (script_frame script) [] i.rest j.rest i.fit (subst (λ a. LinesFit (script_frame script) a j.rest) i.split j.fit)) }

-- what a script without a fault has: its statements, and an area map that is no number and no binding that is assigned
pub record HasLines (script : Script) (lines : List Line) : Type 0 where
  pub bound_is : Script
  pub bound : passed (binding_checks [] script.bindings) script ≡ Ok bound_is
  pub all : all_lines script ≡ Ok lines
  pub number : is_bound_to_number (binding_of script script.area) ≡ false
  pub assigned : (is_some (binding_of script script.area) && is_assigned script script.area) ≡ false

parts-of : (script s t : Script) (lines ls : List Line) → passed (binding_checks [] script.bindings) script ≡ Ok s → script ≡ s → passed (area_checks (binding_of s s.area) (is_assigned s s.area)) s ≡ Ok t → all_lines t ≡ Ok ls → ls ≡ lines → HasLines script lines
parts-of script s t lines ls hb hs ht h he =
    let bound = is_bound_to_number (binding_of s s.area) in
    let clash = is_some (binding_of s s.area) && is_assigned s s.area in
    let mismatch-fault : MeaningFault = record { at = place.Area; kind = KindMismatch } in
    let clash-fault : MeaningFault = record { at = place.Area; kind = NameClash } in
    let first = passed-test (mismatch-fault, bound) ((clash-fault, clash) ∷ []) s t ht in
    let second = passed-test (clash-fault, clash) [] s t (passed-rest (mismatch-fault, bound) ((clash-fault, clash) ∷ []) s t ht) in
    record {
      bound_is = s;
      bound = hb;
      all = ap all_lines (hs ∙ passed-is (area_checks (binding_of s s.area) (is_assigned s s.area)) s t ht) ∙ h ∙ ap (λ x. Ok x) he;
      number = subst (λ z. is_bound_to_number (binding_of z z.area) ≡ false) (sym hs) first;
      assigned = subst (λ z. (is_some (binding_of z z.area) && is_assigned z z.area) ≡ false) (sym hs) second;
    }

pub has-lines : (script : Script) (lines : List Line) → meaning script ≡ Ok lines → HasLines script lines
unfolding meaning
has-lines script lines h =
    let after = λ (s : Script). passed (area_checks (binding_of s s.area) (is_assigned s s.area)) s >>= λ t. all_lines t >>= λ ls. passed (report_checks t.steps (binding_of t) (files_read t) 0 ls) ls in
    let b = value-before (passed (binding_checks [] script.bindings) script) after lines h in
    let c = value-before (passed (area_checks (binding_of b.0 b.0.area) (is_assigned b.0 b.0.area)) b.0) (λ t. all_lines t >>= λ ls. passed (report_checks t.steps (binding_of t) (files_read t) 0 ls) ls) lines b.2 in
    let d = value-before (all_lines c.0) (λ ls. passed (report_checks c.0.steps (binding_of c.0) (files_read c.0) 0 ls) ls) lines c.2 in
    parts-of script b.0 c.0 lines d.0 b.1 (passed-is (binding_checks [] script.bindings) script b.0 b.1) c.1 d.1
    (passed-is (report_checks c.0.steps (binding_of c.0) (files_read c.0) 0 d.0) d.0 lines d.2)

-- the settled statements of a script fit where they stand
pub lines-fit : (script : Script) (lines : List Line) → meaning script ≡ Ok lines → LinesFit (script_frame script) [] lines
lines-fit script lines h = let has = has-lines script lines h in (all-fit script lines (none-bad [] script.bindings script has.bound_is has.bound) has.all).fit

-- and keep to the table
pub lines-sound : (script : Script) (lines : List Line) → meaning script ≡ Ok lines → are_sound lines ≡ true
lines-sound script lines h = let has = has-lines script lines h in (all-fit script lines (none-bad [] script.bindings script has.bound_is has.bound) has.all).sound

-- ---- the names that are assigned

-- the line assigns the statement's name
pub line-name : (s : Scope) (before : ℕ) (st : Statement) (l : Line) → line_read s before st ≡ Ok l → l.statement.target ≡ st.name
line-name s before st l h = ap (λ (x : Line). x.statement.target) (line-parts s before st l h).is

-- each line assigns a name, and there are as many as statements
pub record AreNamed (count : ℕ) (lines : List Line) : Type 0 where
  pub names : Each (λ l. is_name l.statement.target ≡ true) lines
  pub many : length lines ≡ count

named-on : (script : Script) (section : Section) (count : ℕ) (above lines : List Line) (ss : List Statement) → AreNamed count above → list_all is_well_made_statement ss ≡ true → lines_below script section above ss ≡ Ok lines → AreNamed (count + length ss) lines
named-on script section count above lines [] ha hs h = let z : above ≡ lines = cc in let e : count ≡ count + 0 = omega arith in subst (λ n. AreNamed n lines) e (subst (AreNamed count) z ha)
named-on script section count above lines (s ∷ ss) ha hs h =
    let b = value-before (next_line script section above s) (λ l. lines_below script section (above ++ l ∷ []) ss) lines h in
    let read = told-ok (place.Statement (length above + 1)) (line_read (scope_at script section above) (counts section above) s) b.0 b.1 in
    let name = ap is_name (line-name (scope_at script section above) (counts section above) s b.0 read) ∙ both-left (is_name s.name) (has_words s.expr) (both-left (is_name s.name && has_words s.expr) (nat_le (calls_in s.expr) most_counted) (both-left (is_well_made_statement s) (list_all is_well_made_statement ss) hs)) in
    let n = ha.many in
    let m = length-append above (b.0 ∷ []) in
    let e : count + 1 + length ss ≡ count + suc (length ss) = omega arith in
    subst (λ k. AreNamed k lines) e (named-on script section (count + 1) (above ++ b.0 ∷ []) lines ss
    (record { names = each-append (λ (l : Line). is_name l.statement.target ≡ true) above (b.0 ∷ []) ha.names (name, tt); many = m ∙ ap (λ k. k + 1) n })
    (both-right (is_well_made_statement s) (list_all is_well_made_statement ss) hs) b.2)

-- the lines of a script that a text gives
pub lines-named : (script : Script) (lines : List Line) → IsWellMade script → all_lines script ≡ Ok lines → AreNamed (length script.initial + length script.dynamic) lines
lines-named script lines hm h =
    let b = value-before (lines_below script Initial [] script.initial) (λ ls. lines_below script Dynamic ls script.dynamic) lines h in
    let z : 0 + length script.initial ≡ length script.initial = omega arith in
    named-on script Dynamic (length script.initial) b.0 lines script.dynamic (subst (λ n. AreNamed n b.0) z (named-on script Initial 0 [] b.0 script.initial (record { names = tt; many = refl }) hm.initial b.1)) hm.dynamic b.2
