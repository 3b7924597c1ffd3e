-- What each use of a name in a script without a fault has: its role suits, and it was read.
use Rattle.std.proofs.Common.{◌≡◌, ◌≤◌, ◌<◌, ℕ, suc, ◌+◌, ◌-◌, Bool, true, false, not, ◌&&◌, ◌||◌, List, [], ◌∷◌, ◌++◌, map, length, refl, sym, ap, subst, ◌∙◌, Ok, if◌then◌else◌, arith}
use Rattle.std.specs.Prelude.{⊤, Option, None, Some, nat_le}
use Rattle.std.specs.Option.{unwrap_or}
use Rattle.std.specs.Str.{bytes_eq}
use Rattle.text_base.specs.Results.{◌>>=◌}
use Rattle.cell_values.specs.declared.kind.Kind.{Kind}
use Rattle.cell_values.specs.declared.kind.Kind.TheVariants.{Boolean, Scalar, Ldd}
use Rattle.script_syntax.specs.declared.tree.Binding.{Binding}
use Rattle.script_syntax.specs.declared.tree.Expr.{Expr, map-Expr, roll-Expr}
use Rattle.script_syntax.specs.declared.tree.Expr.TheVariants.{rolls-Call, rolls-Name, rolls-Number}
use Rattle.script_syntax.specs.declared.tree.Expr.TheFolds.{ind-Expr}
use Rattle.script_syntax.specs.declared.tree.Expr.TheOpen.{Expr-F}
use Rattle.script_syntax.specs.declared.tree.Script.{Script}
use Rattle.script_syntax.specs.declared.tree.Statement.{Statement}
use Rattle.script_syntax.specs.declared.tree.Target.TheVariants as target
use Rattle.map_meaning.specs.declared.op.Op.{Op}
use Rattle.map_meaning.specs.declared.row.Row.{Row}
use Rattle.map_meaning.specs.declared.row.Ask.{Ask}
use Rattle.map_meaning.specs.declared.row.Ask.TheVariants as ask
use Rattle.map_meaning.specs.declared.row.Given.{Given}
use Rattle.map_meaning.specs.declared.row.Given.TheVariants as given
use Rattle.map_meaning.specs.declared.row.Meant.{Meant}
use Rattle.map_meaning.specs.declared.row.Meant.TheVariants as meant
use Rattle.map_meaning.specs.declared.row.Stands.TheVariants as stands
use Rattle.map_meaning.specs.Table.{is_kind, takes}
use Rattle.map_meaning.proofs.Callers.{same_kind}
use Rattle.script_types.specs.declared.fault.MeaningKind.{MeaningKind}
use Rattle.script_types.specs.declared.fault.MeaningKind.TheVariants.{BadStackName, DrainPlace, NameClash}
use Rattle.script_types.specs.declared.fault.Place.TheVariants as place
use Rattle.script_types.specs.declared.typed.Line.{Line}
use Rattle.script_types.specs.declared.typed.Section.{Section}
use Rattle.script_types.specs.declared.typed.Section.TheVariants.{Initial, Dynamic}
use Rattle.script_types.specs.declared.typed.Typed.{Typed}
use Rattle.script_types.specs.declared.typed.UsedAs.{UsedAs}
use Rattle.script_types.specs.declared.typed.UsedAs.TheVariants as used
use Rattle.script_types.specs.Checks.{all_of}
use Rattle.script_types.specs.Names.{Use, binding_of, first_role, in_roles, is_assigned, is_bad_prefix, is_stack, joined_lists, role_asked, role_of, script_uses, statements_uses, uses}
use Rattle.script_types.specs.Statements.{all_lines, counts, line_read, lines_below, next_line, scope_at}
use Rattle.script_types.specs.Table.{first_ask, row_for, word_row}
use Rattle.script_types.specs.Typing.{Scope, assigned_read, bound_read, call_by_row, call_read, input_as, is_its_role, name_read, target_read, typed_as}
use Rattle.script_types.proofs.FirstUses.{uses_call, uses_name, uses_number}
use Rattle.script_types.proofs.FitCalls.{has-row}
use Rattle.script_types.proofs.FitTrees.{looks-up, windowed}
use Rattle.script_types.proofs.FitLemmas.{both-left, both-right, not-true}
use Rattle.script_types.proofs.FitNodes.{ok-one, passed-rest, passed-test, value-before}
use Rattle.script_types.proofs.FoundRows.{asks-file, asks-ids, asks-kind, asks-map, asks-maps, asks-plain, asks-stack, found-row, gives-drain, gives-kind, gives-map, gives-same, gives-scalar, has-alike, is-as-meant, is-look-up, is-plain, is-series-op, is-table-op, is-windowed, maps-asked, same-file, same-stands, takes-few, takes-just}
use Rattle.script_types.proofs.Pairwise.{Each, each-append}
use Rattle.script_types.proofs.SettledFits.{line-parts, told-ok}
use Rattle.script_types.proofs.TypedCalls.{operand_as, typed_call, typed_name}

-- ---- roles

-- a table has 1 to 4 keys, and neither a table nor a series has drain directions
abbrev pub SuitsUse : UsedAs → Type 0
SuitsUse used.Grid = ⊤
SuitsUse used.Stack = ⊤
SuitsUse (used.Table keys kind) = (1 ≤ keys) × (keys ≤ 4) × (is_kind Ldd kind ≡ false)
SuitsUse (used.Series kind) = is_kind Ldd kind ≡ false

-- the kind that is given is no drain map's
gives-plain : (gives : Given) (kind : Kind) → gives-kind gives kind ≡ true → is_kind Ldd kind ≡ false
gives-plain (given.Always j) kind h = not-true (is_kind Ldd kind) (both-right (is_kind kind j) (not (is_kind Ldd kind)) h)
gives-plain given.Common kind h = cc
gives-plain (given.Same i) kind h = cc

-- the row asks no table and no series first
abbrev asks-one : Ask → Bool
asks-one (ask.Table k) = true
asks-one (ask.Series k) = true
asks-one _ = false

no-map : (a : Ask) → asks-one a ≡ true → asks-map a ≡ true → ⊥
no-map (ask.Table k) h g = cc
no-map (ask.Series k) h g = cc
no-map (ask.Only k) h g = cc
no-map (ask.One kinds) h g = cc
no-map (ask.Alike kinds) h g = cc
no-map ask.Stack h g = cc
no-map ask.Length h g = cc

no-stack : (a : Ask) → asks-one a ≡ true → asks-stack a ≡ true → ⊥
no-stack (ask.Table k) h g = cc
no-stack (ask.Series k) h g = cc
no-stack (ask.Only k) h g = cc
no-stack (ask.One kinds) h g = cc
no-stack (ask.Alike kinds) h g = cc
no-stack ask.Stack h g = cc
no-stack ask.Length h g = cc

-- a row whose first operand is a table or a series looks its results up
file-row : (row : Row) (m : Meant) → asks-one row.first ≡ true → is-as-meant m row ≡ true → (o : Op) × (is-look-up o row ≡ true)
file-row row (meant.Op o) ha hb = (o, by-plain (is-plain row) (is-look-up o row) (is-windowed o row) refl refl hb)
  where
    by-plain : (p l w : Bool) → is-plain row ≡ p → is-windowed o row ≡ w → (p || (l || w)) ≡ true → l ≡ true
    by-plain false true w hp hw h = refl
    by-plain false false true hp hw h = absurd (no-map row.first ha (windowed o row hw).map)
    by-plain false false false hp hw h = cc
    by-plain true l w hp hw h = absurd (no-map row.first ha ((maps-asked row (both-left (asks-maps row) (gives-map row row.gives && (takes-few row && has-alike row)) hp)).asks 0))
file-row row meant.Step ha hb = absurd (no-map row.first ha (both-right (gives-scalar row.gives) (asks-map row.first) (both-right (same-stands stands.Dynamic row.stands) (gives-scalar row.gives && asks-map row.first) hb)))
file-row row meant.Stack ha hb = absurd (no-stack row.first ha (both-left (asks-stack row.first) (takes-just 1 row && gives-same row.gives 0) (both-right (same-stands stands.Dynamic row.stands) (asks-stack row.first && (takes-just 1 row && gives-same row.gives 0)) hb)))
file-row row meant.Sample ha hb =
    let last = asks-ids row.first && (takes-just 2 row && asks-plain row.second) in
    let plain = both-left (is-plain row) last (both-right (same-stands stands.Sample row.stands) (is-plain row && last) hb) in
    absurd (no-map row.first ha ((maps-asked row (both-left (asks-maps row) (gives-map row row.gives && (takes-few row && has-alike row)) plain)).asks 0))
file-row row meant.Mask ha hb =
    let last = (asks-kind row.first Ldd && asks-kind row.second Boolean) && (takes-just 2 row && gives-drain row.gives) in
    absurd (no-map row.first ha ((maps-asked row (both-left (asks-maps row) last (both-right (same-stands stands.Mask row.stands) (asks-maps row && last) hb))).asks 0))

keys-few : (least most n : ℕ) → nat_le 2 least ≡ true → nat_le most 5 ≡ true → (nat_le least n && nat_le n most) ≡ true → (1 ≤ n - 1) × (n - 1 ≤ 4)
keys-few least most n hl hm k =
    let a = both-left (nat_le least n) (nat_le n most) k in
    let b = both-right (nat_le least n) (nat_le n most) k in
    (grind (arith, a, hl), grind (arith, b, hm))

table-suits : (row : Row) (count : ℕ) (o : Op) (j k : Kind) → row.first ≡ ask.Table j → is_kind j k ≡ true → takes row count ≡ true → is-look-up o row ≡ true → SuitsUse (used.Table (count - 1) k)
table-suits row count o j k hf hk ht h =
    let l = looks-up o row h in
    let few = keys-few row.least row.most count l.least l.most ht in
    let asks = sym (ap (λ a. asks-file a row.gives o) hf) ∙ l.asks in
    (few.0, few.1, ap (is_kind Ldd) (sym (same_kind j k hk)) ∙ gives-plain row.gives j (both-left (gives-kind row.gives j) (is-table-op o) asks))

series-suits : (row : Row) (o : Op) (j k : Kind) → row.first ≡ ask.Series j → is_kind j k ≡ true → is-look-up o row ≡ true → SuitsUse (used.Series k)
series-suits row o j k hf hk h =
    let asks = sym (ap (λ a. asks-file a row.gives o) hf) ∙ (looks-up o row h).asks in
    ap (is_kind Ldd) (sym (same_kind j k hk)) ∙ gives-plain row.gives j (both-left (gives-kind row.gives j) (is-series-op o) asks)

asked-suits : (row : Row) (count : ℕ) (first a : Ask) → row.first ≡ first → takes row count ≡ true → is-as-meant row.meant row ≡ true → same-file first a ≡ true → SuitsUse (role_asked count a)
asked-suits row count first (ask.Only k) hf ht hb h = tt
asked-suits row count first (ask.One kinds) hf ht hb h = tt
asked-suits row count first (ask.Alike kinds) hf ht hb h = tt
asked-suits row count first ask.Stack hf ht hb h = tt
asked-suits row count first ask.Length hf ht hb h = tt
asked-suits row count (ask.Table j) (ask.Table k) hf ht hb h = let o = file-row row row.meant (ap asks-one hf) hb in table-suits row count o.0 j k hf h ht o.1
asked-suits row count (ask.Series j) (ask.Table k) hf ht hb h = cc
asked-suits row count (ask.Only j) (ask.Table k) hf ht hb h = cc
asked-suits row count (ask.One kinds) (ask.Table k) hf ht hb h = cc
asked-suits row count (ask.Alike kinds) (ask.Table k) hf ht hb h = cc
asked-suits row count ask.Stack (ask.Table k) hf ht hb h = cc
asked-suits row count ask.Length (ask.Table k) hf ht hb h = cc
asked-suits row count (ask.Series j) (ask.Series k) hf ht hb h = let o = file-row row row.meant (ap asks-one hf) hb in series-suits row o.0 j k hf h o.1
asked-suits row count (ask.Table j) (ask.Series k) hf ht hb h = cc
asked-suits row count (ask.Only j) (ask.Series k) hf ht hb h = cc
asked-suits row count (ask.One kinds) (ask.Series k) hf ht hb h = cc
asked-suits row count (ask.Alike kinds) (ask.Series k) hf ht hb h = cc
asked-suits row count ask.Stack (ask.Series k) hf ht hb h = cc
asked-suits row count ask.Length (ask.Series k) hf ht hb h = cc

-- the role of the first operand of a call that has no fault suits
first-suits : (section : Section) (w : Bool) (word : List ℕ) (ts : List Typed) (t : Typed) → call_read section w word ts ≡ Ok t → SuitsUse (first_role word (length ts))
unfolding first_role
first-suits section w word ts t h = by-row (row_for word (length ts)) refl (has-row section w word ts t h).value
  where
    by-row : (o : Option Row) → row_for word (length ts) ≡ o → call_by_row o ts ≡ Ok t → SuitsUse (role_asked (length ts) (first_ask (word_row word)))
    by-row None ho k = cc
    by-row (Some row) ho k = let f = found-row word (length ts) row ho in asked-suits row (length ts) row.first (first_ask (word_row word)) refl f.takes f.as_meant f.first

-- ---- uses

-- The use was read: its role suits, and where the name is an input's and it stands for a stack, this has a prefix for its names
-- and is no stack of drain maps.
pub record IsRead (bound : List ℕ → Option Binding) (assigned : List ℕ → Bool) (steps : ℕ) (u : Use) : Type 0 where
  pub suits : SuitsUse u.role
  pub plain : (b : Binding) (file : List ℕ) → bound u.name ≡ Some b → b.target ≡ target.File file → assigned u.name ≡ false → (is_stack u.role && is_kind Ldd (unwrap_or b.kind Scalar)) ≡ false
  pub prefix : (b : Binding) (file : List ℕ) → bound u.name ≡ Some b → b.target ≡ target.File file → assigned u.name ≡ false → (is_stack u.role && is_bad_prefix file steps) ≡ false

-- what a name that was read has passed, where it is an input's
record HasPassedAs (s : Scope) (role : UsedAs) (b : Binding) (file : List ℕ) : Type 0 where
  plain : (is_stack role && is_kind Ldd (unwrap_or b.kind Scalar)) ≡ false
  prefix : (is_stack role && is_bad_prefix file s.steps) ≡ false

name-passes : (s : Scope) (role : UsedAs) (name : List ℕ) (t : Typed) (b : Binding) (file : List ℕ) → s.binding name ≡ Some b → b.target ≡ target.File file → s.is_assigned name ≡ false → name_read s role name ≡ Ok t → HasPassedAs s role b file
unfolding name_read
name-passes s role name t b file hb ht ha h =
    let kind = unwrap_or b.kind Scalar in
    let at = ap (λ f. target_read s role name b.kind f) (sym ht) ∙ ap (bound_read s role name) (sym hb) ∙ ap (λ c. if c then assigned_read (s.is_sampled name) name (s.above name) else bound_read s role name (s.binding name)) (sym ha) ∙ h in
    let c0 : MeaningKind × Bool = (NameClash, not (is_its_role (s.role name) role)) in
    let c1 : MeaningKind × Bool = (DrainPlace, is_stack role && is_kind Ldd kind) in
    let c2 : MeaningKind × Bool = (BadStackName, is_stack role && is_bad_prefix file s.steps) in
    let x = input_as role kind (unwrap_or (s.input name) 0) in
    let h1 = passed-rest c0 (c1 ∷ c2 ∷ []) x t at in
    record { plain = passed-test c1 (c2 ∷ []) x t h1; prefix = passed-test c2 [] x t (passed-rest c1 (c2 ∷ []) x t h1) }

-- all uses of an expression in this role were read
abbrev ReadAt : Scope → Expr → Type 0
ReadAt s x = (w : Bool) (role : UsedAs) (t : Typed) → SuitsUse role → typed_as s x w role ≡ Ok t → Each (IsRead s.binding s.is_assigned s.steps) (uses x role)

-- all uses of operands were read, and there are as many as there were
record AreRead (s : Scope) (role : UsedAs) (es : List Expr) (ts : List Typed) : Type 0 where
  read : (0 < length ts → SuitsUse role) → Each (IsRead s.binding s.is_assigned s.steps) (joined_lists (in_roles role (map uses es)))
  many : length ts ≡ length es

operands-read : (s : Scope) (es : List ((x : Expr) × ReadAt s x)) (role : UsedAs) (ts : List Typed) → all_of (in_roles role (map (operand_as s) (map (λ p. p.0) es))) ≡ Ok ts → AreRead s role (map (λ p. p.0) es) ts
operands-read s [] role ts h = subst (AreRead s role []) (ok-one h) (record { read = λ q. tt; many = refl })
operands-read s (p ∷ es) role ts h =
    let rest = all_of (in_roles used.Grid (map (operand_as s) (map (λ q. q.0) es))) in
    let b = value-before (operand_as s p.0 role) (λ t. rest >>= λ us. Ok (t ∷ us)) ts h in
    let c = value-before rest (λ us. Ok (b.0 ∷ us)) ts b.2 in
    let more = operands-read s es used.Grid c.0 c.1 in
    subst (AreRead s role (map (λ q. q.0) (p ∷ es))) (ok-one c.2) (record {
      read = λ q. each-append (IsRead s.binding s.is_assigned s.steps) (uses p.0 role) (joined_lists (in_roles used.Grid (map uses (map (λ z. z.0) es))))
          (p.1 false role b.0 (q (omega arith)) b.1) (more.read (λ z. tt));
      many = ap suc more.many;
    })

node-read : (s : Scope) (y : Expr-F ((x : Expr) × ReadAt s x)) → ReadAt s (roll-Expr (map-Expr ((x : Expr) × ReadAt s x) Expr (λ p. p.0) y))
node-read s (Expr-F.Name name) = subst (ReadAt s) (sym (rolls-Name name)) (λ w role t hr h.
    let r = sym (typed_name s name w role) ∙ h in
    subst (Each (IsRead s.binding s.is_assigned s.steps)) (sym (uses_name name role)) (
      record {
        suits = hr;
        plain = λ b file hb ht ha. (name-passes s role name t b file hb ht ha r).plain;
        prefix = λ b file hb ht ha. (name-passes s role name t b file hb ht ha r).prefix;
      },
      tt,
    ))
node-read s (Expr-F.Number text) = subst (ReadAt s) (sym (rolls-Number text)) (λ w role t hr h. subst (Each (IsRead s.binding s.is_assigned s.steps)) (sym (uses_number text role)) tt)
node-read s (Expr-F.Call word es) = subst (ReadAt s) (sym (rolls-Call word (map (λ p. p.0) es))) (λ w role t hr h.
    let args = map (λ p. p.0) es in
    let found = all_of (in_roles (first_role word (length args)) (map (operand_as s) args)) in
    let b = value-before found (λ ts. call_read s.section w word ts) t (sym (typed_call s word args w role) ∙ h) in
    let all = operands-read s es (first_role word (length args)) b.0 b.1 in
    subst (Each (IsRead s.binding s.is_assigned s.steps)) (sym (uses_call word args role)) (all.read (λ q. subst SuitsUse (ap (first_role word) all.many) (first-suits s.section w word b.0 t b.2))))

-- all uses of an expression were read
pub uses-read : (s : Scope) (x : Expr) → ReadAt s x
uses-read s = ind-Expr (ReadAt s) (λ x y is. subst (λ z. ReadAt s (roll-Expr z)) is (node-read s y))

-- ---- a script

-- the use was read in the script
abbrev pub IsReadIn : Script → Use → Type 0
IsReadIn script u = IsRead (binding_of script) (is_assigned script) script.steps u

-- all uses of these statements of a section were read
statements-read : (script : Script) (section : Section) (above lines : List Line) (ss : List Statement) → lines_below script section above ss ≡ Ok lines → Each (IsReadIn script) (statements_uses ss)
statements-read script section above lines [] h = tt
statements-read script section above lines (s ∷ ss) h =
    let b = value-before (next_line script section above s) (λ l. lines_below script section (above ++ l ∷ []) ss) lines h in
    let scope = scope_at script section above in
    let read = told-ok (place.Statement (length above + 1)) (line_read scope (counts section above) s) b.0 b.1 in
    let p = line-parts scope (counts section above) s b.0 read in
    each-append (IsReadIn script) (uses s.expr used.Grid) (statements_uses ss)
    (uses-read scope s.expr true used.Grid p.typed_is tt p.typed)
    (statements-read script section (above ++ b.0 ∷ []) lines ss b.2)

-- all uses of a script were read
pub script-read : (script : Script) (lines : List Line) → all_lines script ≡ Ok lines → Each (IsReadIn script) (script_uses script)
script-read script lines h =
    let b = value-before (lines_below script Initial [] script.initial) (λ ls. lines_below script Dynamic ls script.dynamic) lines h in (
      record { suits = tt; plain = λ c file hb ht ha. refl; prefix = λ c file hb ht ha. refl },
      each-append (IsReadIn script) (statements_uses script.initial) (statements_uses script.dynamic)
          (statements-read script Initial [] b.0 script.initial b.1) (statements-read script Dynamic b.0 lines script.dynamic b.2),
    )

-- the first use of a name among uses that have a property has it
pub record HasUse (P : Use → Type 0) (name : List ℕ) (role : UsedAs) : Type 0 where
  pub at : Use
  pub named : bytes_eq name at.name ≡ true
  pub in_role : at.role ≡ role
  pub holds : P at

pub first-use : (P : Use → Type 0) (us : List Use) (name : List ℕ) (role : UsedAs) → Each P us → role_of us name ≡ Some role → HasUse P name role
first-use P [] name role hp h = cc
first-use P (u ∷ us) name role hp h = by-test (bytes_eq name u.name) refl (first-use P us name role hp.1) h
  where
    by-test : (t : Bool) → bytes_eq name u.name ≡ t → (role_of us name ≡ Some role → HasUse P name role) → (if t then Some u.role else role_of us name) ≡ Some role → HasUse P name role
    by-test true ht ih g = record { at = u; named = ht; in_role = (let e : u.role ≡ role = cc in e); holds = hp.0 }
    by-test false ht ih g = ih g
