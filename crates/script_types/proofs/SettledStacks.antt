-- That a script without a fault reads and writes few stacks, and that each stack that is written has a prefix for its names.
use Rattle.std.proofs.Common.{◌≡◌, ◌≤◌, ℕ, suc, ◌+◌, Bool, true, false, not, ◌&&◌, ◌||◌, List, [], ◌∷◌, ◌++◌, map, filter, take, length, length-append, refl, sym, ap, subst, ◌∙◌, Ok, append_assoc, if◌then◌else◌, arith}
use Rattle.std.specs.Prelude.{◌⊎◌, Option, None, Some, nat_le, nat_lt}
use Rattle.std.specs.List.{sum_by}
use Rattle.std.specs.Option.{is_some, unwrap_or}
use Rattle.std.specs.Str.{bytes_eq}
use Rattle.std.proofs.Common.{inl, inr, ⊎_elim}
use Rattle.std.proofs.Math.Seq.{take-length}
use Rattle.std.proofs.lemmas.List.Folds.{list_any-append}
use Rattle.std.proofs.lemmas.List.Sums.{sum_by-append}
use Rattle.std.proofs.lemmas.Slice.Eq.{bytes_eq-Decides}
use Rattle.cell_values.specs.declared.kind.Kind.TheVariants.{Scalar}
use Rattle.script_syntax.specs.declared.tree.Binding.{Binding}
use Rattle.script_syntax.specs.declared.tree.Script.{Script}
use Rattle.script_syntax.specs.declared.tree.Statement.{Statement}
use Rattle.map_meaning.specs.declared.program.InputUse.{InputUse}
use Rattle.map_meaning.specs.declared.program.OutputUse.{OutputUse}
use Rattle.map_meaning.specs.Limits.{most_stacks}
use Rattle.map_meaning.specs.Programs.{is_stack_grid, is_stack_role}
use Rattle.script_types.specs.declared.fault.Place.TheVariants as place
use Rattle.script_types.specs.declared.typed.Line.{Line}
use Rattle.script_types.specs.declared.typed.Section.{Section}
use Rattle.script_types.specs.declared.typed.Section.TheVariants.{Initial, Dynamic}
use Rattle.script_types.specs.declared.typed.UsedAs.{UsedAs}
use Rattle.script_types.specs.declared.typed.UsedAs.TheVariants as used
use Rattle.script_types.specs.Lowered.{Shown, as_shown, form_by, grid_input, lines_in, input_of, input_role, inputs_of, output_of, outputs_from}
use Rattle.script_types.specs.Meaning.{meaning}
use Rattle.script_types.specs.Names.{Use, binding_of, is_assigned, is_bad_prefix, is_input_by, is_stack, is_used, is_used_in, role_of, script_uses, stacks_below, stacks_down_to, statements_uses, used_inputs, uses, uses_down_to}
use Rattle.script_types.specs.Reports.{Bound, area_files, file_written}
use Rattle.script_types.specs.Statements.{all_lines, counts, is_dynamic, is_stack_report, line_read, lines_below, next_line, scope_at, stacks_written, writes_stack}
use Rattle.script_types.proofs.FitNodes.{value-before}
use Rattle.script_types.proofs.FitLemmas.{both-left, both-right}
use Rattle.script_types.proofs.Pairwise.{Each, each-append, each-from_map}
use Rattle.script_types.proofs.RowKinds.{both-are}
use Rattle.script_types.proofs.SectionLines.{all-order}
use Rattle.script_types.proofs.SettledFits.{has-lines, line-parts, told-ok}
use Rattle.script_types.proofs.SettledInputs.{AreApart, bindings-apart}

-- ---- what one statement leaves

at-most : (n : ℕ) → nat_lt 64 n ≡ false → n ≤ 64
at-most n h = grind (arith, h)

one-more : (stack : Bool) (n : ℕ) → n ≤ 64 → (stack && nat_le 64 n) ≡ false → n + (if stack then 1 else 0) ≤ 64
one-more false n hn h = omega (arith, hn)
one-more true n hn h = grind (arith, h)

bad-of : (stack bad : Bool) → (stack && bad) ≡ false → stack ≡ true → bad ≡ false
bad-of true bad h hs = h
bad-of false bad h hs = cc

-- what stands below a statement that has no fault
record IsBelowLine (script : Script) (above : List Line) (l : Line) : Type 0 where
  written : stacks_written above ≤ 64 → stacks_written (above ++ l ∷ []) ≤ 64
  read : stacks_down_to script (length above + 1) ≤ 64
  prefix : writes_stack l ≡ true → is_bad_prefix (file_written (binding_of script) l) script.steps ≡ false

one-sum : (f : Line → ℕ) (x : Line) → sum_by f (x ∷ []) ≡ f x
one-sum f x = grind arith

written-more : (above : List Line) (l : Line) → stacks_written (above ++ l ∷ []) ≡ stacks_written above + (if writes_stack l then 1 else 0)
written-more above l =
    let f = λ (x : Line). if writes_stack x then 1 else 0 in
    sum_by-append f above (l ∷ []) ∙ ap (λ n. sum_by f above + n) (one-sum f l)

written-first : (l : Line) (ls : List Line) → stacks_written (l ∷ ls) ≡ (if writes_stack l then 1 else 0) + stacks_written ls
written-first l ls =
    let f = λ (x : Line). if writes_stack x then 1 else 0 in
    sum_by-append f (l ∷ []) ls ∙ ap (λ n. n + sum_by f ls) (one-sum f l)

below-line : (script : Script) (section : Section) (above : List Line) (before : ℕ) (st : Statement) (l : Line) → line_read (scope_at script section above) before st ≡ Ok l → IsBelowLine script above l
below-line script section above before st l h =
    let p = line-parts (scope_at script section above) before st l h in
    subst (IsBelowLine script above) (sym p.is) (record {
      written = λ k. subst (λ n. n ≤ 64) (sym (written-more above _)) (one-more (is_stack_report section st.report (is_some p.side.sample)) (stacks_written above) k p.passed.few_written);
      read = at-most (stacks_down_to script (length above + 1)) p.passed.few_read;
      prefix = bad-of (is_stack_report section st.report (is_some p.side.sample)) _ p.passed.prefix;
    })

-- ---- all statements

-- the line writes no stack, or one with a prefix for its names
abbrev pub HasPrefix : Script → Line → Type 0
HasPrefix script l = writes_stack l ≡ true → is_bad_prefix (file_written (binding_of script) l) script.steps ≡ false

-- few stacks are written and read down to these lines, and those that are written have prefixes
record AreFewBelow (script : Script) (lines : List Line) : Type 0 where
  written : stacks_written lines ≤ 64
  read : stacks_down_to script (length lines) ≤ 64
  prefixes : Each (HasPrefix script) lines

few-on : (script : Script) (section : Section) (above lines : List Line) (ss : List Statement) → AreFewBelow script above → lines_below script section above ss ≡ Ok lines → AreFewBelow script lines
few-on script section above lines [] ha h = let z : above ≡ lines = cc in subst (AreFewBelow script) z ha
few-on script section above lines (s ∷ ss) ha h =
    let b = value-before (next_line script section above s) (λ l. lines_below script section (above ++ l ∷ []) ss) lines h in
    let read = told-ok (place.Statement (length above + 1)) (line_read (scope_at script section above) (counts section above) s) b.0 b.1 in
    let below = below-line script section above (counts section above) s b.0 read in
    few-on script section (above ++ b.0 ∷ []) lines ss (record {
      written = below.written ha.written;
      read = subst (λ n. stacks_down_to script n ≤ 64) (sym (length-append above (b.0 ∷ []))) below.read;
      prefixes = each-append (HasPrefix script) above (b.0 ∷ []) ha.prefixes (below.prefix, tt);
    }) b.2

all-few : (script : Script) (lines : List Line) → all_lines script ≡ Ok lines → AreFewBelow script lines
all-few script lines h =
    let b = value-before (lines_below script Initial [] script.initial) (λ ls. lines_below script Dynamic ls script.dynamic) lines h in
    few-on script Dynamic b.0 lines script.dynamic (few-on script Initial [] b.0 script.initial (record { written = omega arith; read = omega arith; prefixes = tt }) b.1) b.2

-- ---- stacks that are read

true-false : true ≡ false → ⊥
true-false h = grind (arith, h)

less-step : {A : Type 0} (b c : Bool) (x : A) (xs ys : List A) → (b ≡ true → c ≡ true) → length xs ≤ length ys → length (if b then x ∷ xs else xs) ≤ length (if c then x ∷ ys else ys)
less-step false false x xs ys h k = k
less-step false true x xs ys h k = omega (arith, k)
less-step true true x xs ys h k = omega (arith, k)
less-step true false x xs ys h k = absurd (true-false (sym (h refl)))

-- a filter that keeps less is not longer
count-less : {A : Type 0} (p q : A → Bool) (xs : List A) → Each (λ x. p x ≡ true → q x ≡ true) xs → length (filter p xs) ≤ length (filter q xs)
count-less p q [] h = omega arith
count-less p q (x ∷ xs) h = less-step (p x) (q x) x (filter p xs) (filter q xs) h.0 (count-less p q xs h.1)

-- the name is the binding's
abbrev is-named : List ℕ → Binding → Bool
is-named name b = bytes_eq b.name name

-- who passes the first test passes the second, or has the name where there may be one
abbrev IsOrNamed : (Binding → Bool) → (Binding → Bool) → List ℕ → Bool → Binding → Type 0
IsOrNamed p q name c b = p b ≡ true → (q b ≡ true) ⊎ ((is-named name b ≡ true) × (c ≡ true))

-- behind one that has the name no other has it
only-others : (p q : Binding → Bool) (name : List ℕ) (c : Bool) (b : Binding) (bs : List Binding) → is-named name b ≡ true → Each (λ (d : Binding). bytes_eq d.name b.name ≡ false) bs → Each (IsOrNamed p q name c) bs → Each (λ (d : Binding). p d ≡ true → q d ≡ true) bs
only-others p q name c b [] hn ha h = tt
only-others p q name c b (d ∷ ds) hn ha h = ((λ k. ⊎_elim (λ x. x) (λ x. absurd (same-named x.0)) (h.0 k)), only-others p q name c b ds hn ha.1 h.1)
  where
    same-named : is-named name d ≡ true → ⊥
    same-named k = true-false (sym (ap (bytes_eq d.name) ((bytes_eq-Decides b.name name).0 hn) ∙ k) ∙ ha.0)

-- of bindings with different names one more passes, where there may be one of the name
count-one : (p q : Binding → Bool) (name : List ℕ) (c : Bool) (bs : List Binding) → AreApart bs → Each (IsOrNamed p q name c) bs → length (filter p bs) ≤ (if c then 1 else 0) + length (filter q bs)
count-one p q name c [] ha h = omega arith
count-one p q name c (b ∷ bs) ha h = by-test (p b) (q b) refl refl (λ k. h.0 k) (count-one p q name c bs ha.1 h.1) (λ k. count-less p q bs (only-others p q name c b bs k ha.0 h.1))
  where
    by-test : (s t : Bool) → p b ≡ s → q b ≡ t → (p b ≡ true → (q b ≡ true) ⊎ ((is-named name b ≡ true) × (c ≡ true))) → length (filter p bs) ≤ (if c then 1 else 0) + length (filter q bs) → (is-named name b ≡ true → length (filter p bs) ≤ length (filter q bs)) →
        length (if s then b ∷ filter p bs else filter p bs) ≤ (if c then 1 else 0) + length (if t then b ∷ filter q bs else filter q bs)
    by-test false false hp hq k ih rest = ih
    by-test false true hp hq k ih rest = omega (arith, ih)
    by-test true true hp hq k ih rest = omega (arith, ih)
    by-test true false hp hq k ih rest = ⊎_elim (λ x. absurd (true-false (sym x ∙ hq))) (λ x. (let r = rest x.0 in let one : (if c then 1 else 0) ≡ 1 = ap {B = ℕ} (λ (z : Bool). if z then 1 else 0) x.1 in omega (arith, r, one))) (k hp)

-- the role is a stack
abbrev is-stack-use : Option UsedAs → Bool
is-stack-use None = false
is-stack-use (Some role) = is_stack role

-- the binding is first used as a stack in these uses, and not above them
abbrev begins-stack : List Use → List Use → Binding → Bool
begins-stack above us b = not (is_used_in above b.name) && is-stack-use (role_of us b.name)

or-false : (c : Bool) → (c || (false || false)) ≡ c
or-false true = refl
or-false false = refl

next-begins : (above us : List Use) (u : Use) (b : Binding) → IsOrNamed (begins-stack above (u ∷ us)) (begins-stack (above ++ u ∷ []) us) u.name (is_stack u.role && not (is_used_in above u.name)) b
next-begins above us u b = λ h. by-name (bytes_eq b.name u.name) refl (both-left (not (is_used_in above b.name)) _ h) (both-right (not (is_used_in above b.name)) (is-stack-use (role_of (u ∷ us) b.name)) h)
  where
    by-name : (t : Bool) → bytes_eq b.name u.name ≡ t → not (is_used_in above b.name) ≡ true → is-stack-use (if t then Some u.role else role_of us b.name) ≡ true →
        (begins-stack (above ++ u ∷ []) us b ≡ true) ⊎ ((is-named u.name b ≡ true) × ((is_stack u.role && not (is_used_in above u.name)) ≡ true))
    by-name true ht ha hs = inr (ht, both-are (is_stack u.role) (not (is_used_in above u.name)) hs (ap (λ n. not (is_used_in above n)) (sym ((bytes_eq-Decides b.name u.name).0 ht)) ∙ ha))
    by-name false ht ha hs = inl (both-are (not (is_used_in (above ++ u ∷ []) b.name)) (is-stack-use (role_of us b.name)) (ap not (list_any-append (λ (v : Use). bytes_eq b.name v.name) above (u ∷ []) ∙ ap (λ (c : Bool). is_used_in above b.name || (c || false)) ht ∙ or-false (is_used_in above b.name)) ∙ ha) hs)

drop-step : {A : Type 0} (t : Bool) (x : A) (xs : List A) → length xs ≡ 0 → length (if t && false then x ∷ xs else xs) ≡ 0
drop-step true x xs k = k
drop-step false x xs k = k

none-begins : (above : List Use) (cs : List Binding) → length (filter (begins-stack above []) cs) ≡ 0
none-begins above [] = refl
none-begins above (c ∷ cs) = drop-step (not (is_used_in above c.name)) c (filter (begins-stack above []) cs) (none-begins above cs)

each-any : {A : Type 0} (P : A → Type 0) (xs : List A) → ((x : A) → P x) → Each P xs
each-any P [] f = tt
each-any P (x ∷ xs) f = (f x, each-any P xs f)

-- no more bindings are first used as a stack than names
stacks-count : (bs : List Binding) (above us : List Use) → AreApart bs → length (filter (begins-stack above us) bs) ≤ stacks_below above us
stacks-count bs above [] ha = subst (λ (n : ℕ). n ≤ 0) (sym (none-begins above bs)) (omega arith)
stacks-count bs above (u ∷ us) ha =
    let one = count-one (begins-stack above (u ∷ us)) (begins-stack (above ++ u ∷ []) us) u.name (is_stack u.role && not (is_used_in above u.name)) bs ha (each-any (IsOrNamed (begins-stack above (u ∷ us)) (begins-stack (above ++ u ∷ []) us) u.name (is_stack u.role && not (is_used_in above u.name))) bs (next-begins above us u)) in
    let more = stacks-count bs (above ++ u ∷ []) us ha in
    omega (arith, one, more)

-- the uses of the statements of both sections
uses-append : (xs ys : List Statement) → statements_uses (xs ++ ys) ≡ statements_uses xs ++ statements_uses ys
uses-append [] ys = refl
uses-append (x ∷ xs) ys = ap (λ us. uses x.expr used.Grid ++ us) (uses-append xs ys) ∙ sym (append_assoc (uses x.expr used.Grid) (statements_uses xs) (statements_uses ys))

-- those down to the last statement are all
all-uses : (script : Script) (n : ℕ) → n ≡ length script.initial + length script.dynamic → uses_down_to script n ≡ script_uses script
all-uses script n h =
    let whole : n ≡ length (script.initial ++ script.dynamic) = h ∙ sym (length-append script.initial script.dynamic) in
    ap (λ ss. record { name = script.area; role = used.Grid } ∷ statements_uses ss) (ap (λ k. take k (script.initial ++ script.dynamic)) whole ∙ take-length (script.initial ++ script.dynamic)) ∙ ap (λ us. record { name = script.area; role = used.Grid } ∷ us) (uses-append script.initial script.dynamic)

-- the names that a script uses as a stack
few-stacks-used : (script : Script) (lines : List Line) → all_lines script ≡ Ok lines → stacks_below [] (script_uses script) ≤ 64
few-stacks-used script lines h =
    let order = all-order script lines h in
    let many : length lines ≡ length script.initial + length script.dynamic = ap length order.split ∙ length-append (lines_in Initial lines) (lines_in Dynamic lines) ∙ ap (λ n. n + length (lines_in Dynamic lines)) order.in_initial ∙ ap (λ n. length script.initial + n) order.in_dynamic in
    subst (λ us. stacks_below [] us ≤ 64) (all-uses script (length lines) many) (all-few script lines h).read

filter-mapped : {A B : Type 0} (f : A → B) (p : B → Bool) (xs : List A) → length (filter p (map f xs)) ≡ length (filter (λ x. p (f x)) xs)
filter-mapped f p [] = refl
filter-mapped f p (x ∷ xs) = by-test (p (f x)) (filter-mapped f p xs)
  where
    by-test : (t : Bool) → length (filter p (map f xs)) ≡ length (filter (λ z. p (f z)) xs) → length (if t then f x ∷ filter p (map f xs) else filter p (map f xs)) ≡ length (if t then x ∷ filter (λ z. p (f z)) xs else filter (λ z. p (f z)) xs)
    by-test true h = ap suc h
    by-test false h = h

filter-twice : {A : Type 0} (p q r : A → Bool) (xs : List A) → ((x : A) → p x ≡ true → r x ≡ true) → length (filter p (filter q xs)) ≤ length (filter r xs)
filter-twice p q r [] h = omega arith
filter-twice p q r (x ∷ xs) h = by-test (q x) (p x) (r x) refl (h x) (filter-twice p q r xs h)
  where
    by-test : (s t u : Bool) → p x ≡ t → (t ≡ true → u ≡ true) → length (filter p (filter q xs)) ≤ length (filter r xs) → length (filter p (if s then x ∷ filter q xs else filter q xs)) ≤ length (if u then x ∷ filter r xs else filter r xs)
    by-test false t false ht hu k = k
    by-test false t true ht hu k = omega (arith, k)
    by-test true t u ht hu k = subst (λ (b : Bool). length (if b then x ∷ filter p (filter q xs) else filter p (filter q xs)) ≤ length (if u then x ∷ filter r xs else filter r xs)) (sym ht) (less-step t u x (filter p (filter q xs)) (filter r xs) hu k)

stack-begins : (script : Script) (b : Binding) → is_stack_role (input_of script b).role ≡ true → begins-stack [] (script_uses script) b ≡ true
stack-begins script b = by-role (role_of (script_uses script) b.name)
  where
    by-role : (o : Option UsedAs) → is_stack_role (input_role (unwrap_or o used.Grid)) ≡ true → (not false && is-stack-use o) ≡ true
    by-role None h = cc
    by-role (Some used.Grid) h = cc
    by-role (Some used.Stack) h = refl
    by-role (Some (used.Table keys kind)) h = cc
    by-role (Some (used.Series kind)) h = cc

no-area-stack : (script : Script) (o : Option Binding) (rest : List InputUse) → filter (λ (i : InputUse). is_stack_role i.role) (map (λ file. grid_input file Scalar) (area_files o script.area) ++ rest) ≡ filter (λ (i : InputUse). is_stack_role i.role) rest
no-area-stack script None rest = refl
no-area-stack script (Some b) rest = refl

-- a script without a fault reads few stacks
pub few-stacks-read : (script : Script) (lines : List Line) → meaning script ≡ Ok lines → length (filter (λ (i : InputUse). is_stack_role i.role) (inputs_of script)) ≤ most_stacks
few-stacks-read script lines h =
    let has = has-lines script lines h in
    let all = ap length (no-area-stack script (binding_of script script.area) (map (input_of script) (used_inputs script))) ∙ filter-mapped (input_of script) (λ (i : InputUse). is_stack_role i.role) (used_inputs script) in
    let twice = filter-twice (λ (b : Binding). is_stack_role (input_of script b).role) (is_input_by (is_assigned script) (is_used script)) (begins-stack [] (script_uses script)) script.bindings (stack-begins script) in
    let count = stacks-count script.bindings [] (script_uses script) (bindings-apart script lines has) in
    let few = few-stacks-used script lines has.all in
    omega (arith, all, twice, count, few)

-- ---- stacks that are written

-- a script without a fault writes few stacks
pub few-stacks-written : (script : Script) (lines : List Line) → meaning script ≡ Ok lines → stacks_written lines ≤ most_stacks
few-stacks-written script lines h = (all-few script lines (has-lines script lines h).all).written

-- and each has a prefix for its names
pub written-prefixes : (script : Script) (lines : List Line) → meaning script ≡ Ok lines → Each (HasPrefix script) lines
written-prefixes script lines h = (all-few script lines (has-lines script lines h).all).prefixes

shown-one : (section : Section) (sample : Option ℕ) → is_stack_grid (form_by section sample) ≡ (is_dynamic section && not (is_some sample))
shown-one Initial None = refl
shown-one Initial (Some ids) = refl
shown-one Dynamic None = refl
shown-one Dynamic (Some ids) = refl

counted : {A : Type 0} (b : Bool) (x : A) (xs : List A) (c : Bool) (m : ℕ) → b ≡ c → length xs ≡ m → length (if b then x ∷ xs else xs) ≡ (if c then 1 else 0) + m
counted true x xs true m hb h = omega (arith, h)
counted false x xs false m hb h = omega (arith, h)
counted true x xs false m hb h = cc
counted false x xs true m hb h = cc

-- as many outputs are stacks as statements write one
pub shown-stacks : (bound : Bound) (n : ℕ) (lines : List Line) → length (filter (λ (s : Shown). is_stack_grid s.form) (outputs_from bound n lines)) ≡ stacks_written lines
shown-stacks bound n [] = refl
shown-stacks bound n (l ∷ ls) = ◌∙◌ (by-report l.report (is_dynamic l.section) (not (is_some l.sample)) (shown-one l.section l.sample) (shown-stacks bound (n + 1) ls)) (sym (written-first l ls))
  where
    by-report : (r d s : Bool) → is_stack_grid (form_by l.section l.sample) ≡ (d && s) → length (filter (λ (x : Shown). is_stack_grid x.form) (outputs_from bound (n + 1) ls)) ≡ stacks_written ls →
        length (filter (λ (x : Shown). is_stack_grid x.form) ((if r then record { file = file_written bound l; form = form_by l.section l.sample; kind = l.kind; statement = n } ∷ [] else []) ++ outputs_from bound (n + 1) ls)) ≡ (if d && r && s then 1 else 0) + stacks_written ls
    by-report false false s hf h = (let z = h in omega (arith, z))
    by-report false true s hf h = (let z = h in omega (arith, z))
    by-report true false s hf h = (let z = h in counted (is_stack_grid (form_by l.section l.sample)) _ _ false _ hf z)
    by-report true true false hf h = (let z = h in counted (is_stack_grid (form_by l.section l.sample)) _ _ false _ hf z)
    by-report true true true hf h = (let z = h in counted (is_stack_grid (form_by l.section l.sample)) _ _ true _ hf z)

-- the outputs of a program that show themselves so have few stacks
pub few-stack-outputs : (script : Script) (lines : List Line) (outputs : List OutputUse) → meaning script ≡ Ok lines → map as_shown outputs ≡ outputs_from (binding_of script) 1 lines → length (filter (λ (o : OutputUse). is_stack_grid o.kind) outputs) ≤ most_stacks
few-stack-outputs script lines outputs h e =
    let few = few-stacks-written script lines h in
    let same = sym (filter-mapped as_shown (λ (s : Shown). is_stack_grid s.form) outputs) ∙ ap (λ xs. length (filter (λ (s : Shown). is_stack_grid s.form) xs)) e ∙ shown-stacks (binding_of script) 1 lines in
    omega (arith, few, same)

stack-of : (d r s : Bool) → r ≡ true → (d && s) ≡ true → (d && r && s) ≡ true
stack-of true true true hr h = refl
stack-of true true false hr h = cc
stack-of false true s hr h = cc
stack-of d false s hr h = cc

-- the output that shows itself so is no stack, or has a prefix for its names
abbrev ShowsPrefix : ℕ → Shown → Type 0
ShowsPrefix steps s = is_stack_grid s.form ≡ true → is_bad_prefix s.file steps ≡ false

shown-prefix : (script : Script) (n : ℕ) (l : Line) (rest : List Shown) → HasPrefix script l → Each (ShowsPrefix script.steps) rest → Each (ShowsPrefix script.steps) (output_of (binding_of script) n l ++ rest)
shown-prefix script n l rest hp hr = by-report l.report refl
  where
    by-report : (r : Bool) → l.report ≡ r → Each (ShowsPrefix script.steps) ((if r then record { file = file_written (binding_of script) l; form = form_by l.section l.sample; kind = l.kind; statement = n } ∷ [] else []) ++ rest)
    by-report false e = hr
    by-report true e = ((λ h. hp (stack-of (is_dynamic l.section) l.report (not (is_some l.sample)) e (sym (shown-one l.section l.sample) ∙ h))), hr)

shown-prefixes : (script : Script) (n : ℕ) (lines : List Line) → Each (HasPrefix script) lines → Each (ShowsPrefix script.steps) (outputs_from (binding_of script) n lines)
shown-prefixes script n [] h = tt
shown-prefixes script n (l ∷ ls) h = shown-prefix script n l (outputs_from (binding_of script) (n + 1) ls) h.0 (shown-prefixes script (n + 1) ls h.1)

-- the outputs of a program that show themselves so have prefixes where they are stacks
pub outputs-prefixes : (script : Script) (lines : List Line) (outputs : List OutputUse) → meaning script ≡ Ok lines → map as_shown outputs ≡ outputs_from (binding_of script) 1 lines → Each (λ (o : OutputUse). is_stack_grid o.kind ≡ true → is_bad_prefix o.file script.steps ≡ false) outputs
outputs-prefixes script lines outputs h e = each-from_map as_shown (ShowsPrefix script.steps) outputs (subst (Each (ShowsPrefix script.steps)) (sym e) (shown-prefixes script 1 lines (written-prefixes script lines h)))
