-- How many names are first used as a stack, counted along uses.
use Rattle.std.proofs.Common.{◌≡◌, ◌+◌, ◌≤◌, ◌<◌, ℕ, Bool, true, false, not, ◌&&◌, ◌||◌, List, [], ◌∷◌, ◌++◌, Option, Some, None, refl, sym, ◌∙◌, ap, if◌then◌else◌, arith}
use Rattle.std.specs.Prelude.{nat_lt}
use Rattle.std.specs.Option.{is_some}
use Rattle.std.specs.Str.{bytes_eq}
use Rattle.std.proofs.lemmas.Bool.{le-ltb, lt-ltb, ltb-false, ltb-true}
use Rattle.std.proofs.lemmas.List.Folds.{list_any-append}
use mathlib.Core.Path.{fun_ext}
use Rattle.text_base.proofs.Callers.{bool_cases}
use Rattle.script_types.specs.declared.typed.UsedAs.{UsedAs}
use Rattle.script_types.specs.Names.{Use, is_stack, is_used_in, role_of, stacks_below}
use Rattle.script_types.specs.Typing.{or_kind}
use Rattle.script_types.specs.inside.Stacks.{with_use, with_uses}

or-false : (b : Bool) → (b || false) ≡ b
or-false true = refl
or-false false = refl

or-assoc : (a b c : Bool) → ((a || b) || c) ≡ (a || (b || c))
or-assoc true b c = refl
or-assoc false b c = refl

-- these names, and those of some uses
abbrev pub known-with : (List ℕ → Bool) → List Use → List ℕ → Bool
known-with known us name = known name || is_used_in us name

-- a name is used where it has a role
pub role-used : (us : List Use) (name : List ℕ) → is_some (role_of us name) ≡ is_used_in us name
role-used [] name = refl
role-used (u ∷ us) name = role-here (bytes_eq name u.name) u.role (role_of us name) (is_used_in us name) (role-used us name) where
  role-here : (t : Bool) (r : UsedAs) (rest : Option UsedAs) (b : Bool) → is_some rest ≡ b → is_some (if t then Some r else rest) ≡ (t || b)
  role-here true r rest b h = refl
  role-here false r rest b h = h

some-or : {A : Type 0} (a b : Option A) → is_some (or_kind a b) ≡ (is_some a || is_some b)
some-or None b = refl
some-or (Some x) b = refl

-- the names that have a role, after some uses were noted
pub known-after : (old new : List ℕ → Option UsedAs) (us : List Use) → ((name : List ℕ) → new name ≡ or_kind (old name) (role_of us name)) → (λ name. is_some (new name)) ≡ known-with (λ name. is_some (old name)) us
known-after old new us h = fun_ext (λ name. ap is_some (h name) ∙ some-or (old name) (role_of us name) ∙ ap (λ b. is_some (old name) || b) (role-used us name))

-- uses one after another
pub with-append : (known : List ℕ → Bool) (us vs : List Use) (k : ℕ) → with_uses known (us ++ vs) k ≡ with_uses (known-with known us) vs (with_uses known us k)
with-append known [] vs k = ap (λ f. with_uses f vs k) (fun_ext (λ name. sym (or-false (known name))))
with-append known (u ∷ us) vs k =
    let more = λ (name : List ℕ). known name || bytes_eq name u.name in
    let n = if known u.name then k else with_use u.role k in
    with-append more us vs n ∙ ap (λ f. with_uses f vs (with_uses more us n)) (fun_ext (λ name. or-assoc (known name) (bytes_eq name u.name) (is_used_in us name)))

-- one step of the count: the uses of one more expression were noted
pub counted-on : (old new : List ℕ → Option UsedAs) (us rest : List Use) (k more : ℕ) → ((name : List ℕ) → new name ≡ or_kind (old name) (role_of us name)) → more ≡ with_uses (λ name. is_some (old name)) us k → with_uses (λ name. is_some (new name)) rest more ≡ with_uses (λ name. is_some (old name)) (us ++ rest) k
counted-on old new us rest k more h e = ap (λ f. with_uses f rest more) (known-after old new us h) ∙ ap (with_uses (known-with (λ name. is_some (old name)) us) rest) e ∙ sym (with-append (λ name. is_some (old name)) us rest k)

-- ---- as many as there are, or one more than may be read

-- the number, or 65 where it is greater
abbrev pub capped : ℕ → ℕ
capped n = if nat_lt n 65 then n else 65

pub capped-under : (n : ℕ) → n < 65 → capped n ≡ n
capped-under n h = ap (λ b. if b then n else 65) (lt-ltb n 65 h)

pub capped-over : (n : ℕ) → 65 ≤ n → capped n ≡ 65
capped-over n h = ap (λ b. if b then n else 65) (le-ltb n 65 h)

capped-one : (n : ℕ) → (if nat_lt (capped n) 65 then capped n + 1 else capped n) ≡ capped (n + 1)
capped-one n = bool_cases (nat_lt n 65)
    (λ e. let g = ltb-true n 65 e in
    ap (λ m. if nat_lt m 65 then m + 1 else m) (capped-under n g) ∙ ap (λ b. if b then n + 1 else n) e ∙
    bool_cases (nat_lt (n + 1) 65) (λ f. sym (capped-under (n + 1) (ltb-true (n + 1) 65 f))) (λ f. let k = ltb-false (n + 1) 65 f in let s : n + 1 ≡ 65 = omega (arith, g, k) in s ∙ sym (capped-over (n + 1) k)))
    (λ e. let g = ltb-false n 65 e in
    ap (λ m. if nat_lt m 65 then m + 1 else m) (capped-over n g) ∙ sym (capped-over (n + 1) (omega (arith, g))))

capped-use : (b : Bool) (n : ℕ) → (if b && nat_lt (capped n) 65 then capped n + 1 else capped n) ≡ capped (n + (if b then 1 else 0))
capped-use true n = capped-one n
capped-use false n = let e : n ≡ n + 0 = omega arith in ap capped e

next-count : (known : Bool) (role : UsedAs) (n : ℕ) → (if known then capped n else with_use role (capped n)) ≡ capped (n + (if is_stack role && not known then 1 else 0))
next-count true role n = let e : n ≡ n + 0 = omega arith in ap capped e ∙ ap (λ b. capped (n + (if b then 1 else 0))) (sym (and-false (is_stack role))) where
  and-false : (b : Bool) → (b && false) ≡ false
  and-false true = refl
  and-false false = refl
next-count false role n = capped-use (is_stack role) n ∙ ap (λ b. capped (n + (if b then 1 else 0))) (sym (and-true (is_stack role))) where
  and-true : (b : Bool) → (b && true) ≡ b
  and-true true = refl
  and-true false = refl

used-push : (above : List Use) (u : Use) → is_used_in (above ++ u ∷ []) ≡ (λ name. is_used_in above name || bytes_eq name u.name)
used-push above u = fun_ext (λ name. list_any-append (λ v. bytes_eq name v.name) above (u ∷ []) ∙ ap (λ b. is_used_in above name || b) (or-false (bytes_eq name u.name)))

-- the count is that of the definition
pub capped-count : (above us : List Use) (n : ℕ) → with_uses (is_used_in above) us (capped n) ≡ capped (n + stacks_below above us)
capped-count above [] n = let e : n ≡ n + 0 = omega arith in ap capped e
capped-count above (u ∷ us) n =
    let one = if is_stack u.role && not (is_used_in above u.name) then 1 else 0 in
    ap (λ k. with_uses (λ name. is_used_in above name || bytes_eq name u.name) us k) (next-count (is_used_in above u.name) u.role n)
    ∙ ap (λ f. with_uses f us (capped (n + one))) (sym (used-push above u))
    ∙ capped-count (above ++ u ∷ []) us (n + one)
    ∙ (let e : n + one + stacks_below (above ++ u ∷ []) us ≡ n + (one + stacks_below (above ++ u ∷ []) us) = omega arith in ap capped e)

-- whether they are too many is seen by either
pub capped-many : (n : ℕ) → nat_lt 64 (capped n) ≡ nat_lt 64 n
capped-many n = bool_cases (nat_lt n 65)
    (λ e. ap (nat_lt 64) (capped-under n (ltb-true n 65 e)))
    (λ e. let g = ltb-false n 65 e in ap (nat_lt 64) (capped-over n g) ∙ sym (lt-ltb 64 n (omega (arith, g))))
