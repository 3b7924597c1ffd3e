-- The order of operations, drain maps and outputs of settled statements.
use Rattle.std.proofs.Common.{◌≡◌, ◌<◌, ◌≤◌, ◌⊎◌, inl, inr, ℕ, suc, ◌+◌, Bool, true, false, List, [], ◌∷◌, ◌++◌, map, length, refl, sym, ap, subst, ◌∙◌, if◌then◌else◌, arith}
use Rattle.std.specs.Prelude.{None, Some}
use Rattle.std.proofs.lemmas.List.{length-append, length-map}
use Rattle.cell_values.specs.declared.kind.Kind.TheVariants.{Ldd}
use Rattle.map_meaning.specs.declared.program.DrainUse.{DrainUse}
use Rattle.map_meaning.specs.declared.program.InputUse.{InputUse}
use Rattle.map_meaning.specs.declared.program.Operation.{Operation}
use Rattle.map_meaning.specs.declared.program.OutputUse.{OutputUse}
use Rattle.map_meaning.specs.Programs.{StandsBefore}
use Rattle.map_meaning.specs.Table.{is_kind}
use Rattle.script_types.specs.declared.typed.Line.{Line}
use Rattle.script_types.specs.Lowered.{Listed, Shown, ShownDrain, Unnumbered, as_listed, as_shown, as_shown_drain, input_drains, is_drain_input, numbered_operations, operations_from, outputs_from, post_order, statement_drains}
use Rattle.script_types.specs.Reports.{Bound}
use Rattle.script_types.specs.Statements.{operations_of}
use Rattle.script_types.proofs.Pairwise.{Each, Pairs, each-append, each-from_map, each-weaken, pairs-from_map}

-- ---- operations

-- the first stands in an earlier statement, or in the same one with a lower number
ListedBefore : Listed → Listed → Type 0
ListedBefore a b = (a.statement < b.statement) ⊎ ((a.statement ≡ b.statement) × (a.number < b.number))

-- an operation of the statement stands before those that are numbered above it
later-ones : (x : Listed) (statement n : ℕ) (us : List Unnumbered) → x.statement ≡ statement → x.number < n → Each (ListedBefore x) (numbered_operations statement n us)
unfolding ListedBefore
later-ones x statement n [] hs hn = tt
later-ones x statement n (u ∷ us) hs hn = (inr (hs, hn), later-ones x statement (n + 1) us hs (omega (arith, hn)))

numbered-order : (statement n : ℕ) (us : List Unnumbered) (rest : List Listed) → Each (λ p. statement < p.statement) rest → Pairs ListedBefore rest → Pairs ListedBefore (numbered_operations statement n us ++ rest)
unfolding ListedBefore
numbered-order statement n [] rest he hp = hp
numbered-order statement n (u ∷ us) rest he hp =
    let x : Listed = record { op = u.op; kind = u.kind; statement = statement; number = n } in
    (each-append (ListedBefore x) (numbered_operations statement (n + 1) us) rest (later-ones x statement (n + 1) us refl (omega arith)) (each-weaken (λ (p : Listed). statement < p.statement) (ListedBefore x) rest (λ p h. inl h) he), numbered-order statement (n + 1) us rest he hp)

-- the statements lie between the first and the last
Within : ℕ → ℕ → Listed → Type 0
Within low high p = (low ≤ p.statement) × (p.statement < high)

numbered-within : (low high statement n : ℕ) (us : List Unnumbered) → low ≤ statement → statement < high → Each (Within low high) (numbered_operations statement n us)
unfolding Within
numbered-within low high statement n [] hl hh = tt
numbered-within low high statement n (u ∷ us) hl hh = ((hl, hh), numbered-within low high statement (n + 1) us hl hh)

from-within : (low high statement : ℕ) (lines : List Line) → low ≤ statement → statement + length lines ≤ high → Each (Within low high) (operations_from statement lines)
from-within low high statement [] hl hh = tt
from-within low high statement (l ∷ ls) hl hh =
    let k : statement + suc (length ls) ≤ high = hh in
    each-append (Within low high) (numbered_operations statement 1 (post_order l.statement.value)) (operations_from (statement + 1) ls)
    (numbered-within low high statement 1 (post_order l.statement.value) hl (omega (arith, k))) (from-within low high (statement + 1) ls (omega (arith, hl)) (omega (arith, k)))

from-order : (statement : ℕ) (lines : List Line) → Pairs ListedBefore (operations_from statement lines)
unfolding Within
from-order statement [] = tt
from-order statement (l ∷ ls) = numbered-order statement 1 (post_order l.statement.value) (operations_from (statement + 1) ls)
    (each-weaken (Within (statement + 1) (statement + 1 + length ls)) (λ (p : Listed). statement < p.statement) (operations_from (statement + 1) ls) (λ p h. (let k = h.0 in omega (arith, k))) (from-within (statement + 1) (statement + 1 + length ls) (statement + 1) ls (omega arith) (omega arith)))
    (from-order (statement + 1) ls)

-- operations of statements stand in their order
pub operations-order : (first : ℕ) (ops : List Operation) (lines : List Line) → map as_listed ops ≡ operations_from first lines → Pairs StandsBefore ops
unfolding ListedBefore
operations-order first ops lines h = pairs-from_map as_listed ListedBefore ops (subst (Pairs ListedBefore) (sym h) (from-order first lines))

-- and their statements are numbered up to the last
pub operations-below : (first : ℕ) (ops : List Operation) (lines : List Line) → map as_listed ops ≡ operations_from first lines → Each (λ o. o.statement < first + length lines) ops
unfolding Within
operations-below first ops lines h = each-weaken (λ o. Within first (first + length lines) (as_listed o)) (λ o. o.statement < first + length lines) ops (λ o w. w.1) (each-from_map as_listed (Within first (first + length lines)) ops (subst (Each (Within first (first + length lines))) (sym h) (from-within first (first + length lines) first lines (omega arith) (omega arith))))

-- ---- drain maps

-- a drain map behind no operation stands before all others
none-before : (x : ShownDrain) (ys : List ShownDrain) → x.after ≡ 0 → Each (λ y. x.after ≤ y.after) ys
none-before x [] h = tt
none-before x (y ∷ ys) h = (omega (arith, h), none-before x ys h)

zeros-first : (xs ys : List ShownDrain) → Each (λ d. d.after ≡ 0) xs → Pairs (λ x y. x.after ≤ y.after) ys → Pairs (λ x y. x.after ≤ y.after) (xs ++ ys)
zeros-first [] ys hx hy = hy
zeros-first (x ∷ xs) ys hx hy = (none-before x (xs ++ ys) hx.0, zeros-first xs ys hx.1 hy)

one-drain : (P : ShownDrain → Type 0) (t : Bool) (d : ShownDrain) (rest : List ShownDrain) → P d → Each P rest → Each P (if t then d ∷ rest else rest)
one-drain P true d rest hd hr = (hd, hr)
one-drain P false d rest hd hr = hr

inputs-zero : (n : ℕ) (inputs : List InputUse) → Each (λ d. d.after ≡ 0) (input_drains n inputs)
inputs-zero n [] = tt
inputs-zero n (i ∷ is) = one-drain (λ d. d.after ≡ 0) (is_drain_input i) (record { input = Some n; after = 0 }) (input_drains (n + 1) is) refl (inputs-zero (n + 1) is)

statements-behind : (low before : ℕ) (ls : List Line) → low ≤ before → Each (λ d. low ≤ d.after) (statement_drains before ls)
statements-behind low before [] h = tt
statements-behind low before (l ∷ ls) h =
    let more : low ≤ before + operations_of l.statement.value = omega (arith, h) in
    one-drain (λ d. low ≤ d.after) (is_kind Ldd l.kind) (record { input = None; after = before + operations_of l.statement.value }) (statement_drains (before + operations_of l.statement.value) ls) more (statements-behind low (before + operations_of l.statement.value) ls more)

drain-before : (t : Bool) (d : ShownDrain) (rest : List ShownDrain) → Each (λ y. d.after ≤ y.after) rest → Pairs (λ x y. x.after ≤ y.after) rest → Pairs (λ x y. x.after ≤ y.after) (if t then d ∷ rest else rest)
drain-before true d rest he hp = (he, hp)
drain-before false d rest he hp = hp

statements-order : (before : ℕ) (ls : List Line) → Pairs (λ x y. x.after ≤ y.after) (statement_drains before ls)
statements-order before [] = tt
statements-order before (l ∷ ls) =
    let after = before + operations_of l.statement.value in
    drain-before (is_kind Ldd l.kind) (record { input = None; after = before + operations_of l.statement.value }) (statement_drains (before + operations_of l.statement.value) ls) (statements-behind after after ls (omega arith)) (statements-order after ls)

-- drain maps of inputs and statements stand in the order of the operations before them
pub drains-order : (drains : List DrainUse) (inputs : List InputUse) (lines : List Line) → map as_shown_drain drains ≡ input_drains 0 inputs ++ statement_drains 0 lines → Pairs (λ x y. x.after ≤ y.after) drains
drains-order drains inputs lines h = pairs-from_map as_shown_drain (λ x y. x.after ≤ y.after) drains (subst (Pairs (λ x y. x.after ≤ y.after)) (sym h) (zeros-first (input_drains 0 inputs) (statement_drains 0 lines) (inputs-zero 0 inputs) (statements-order 0 lines)))

one-more : (t : Bool) (d : ShownDrain) (rest : List ShownDrain) (n : ℕ) → length rest ≤ n → length (if t then d ∷ rest else rest) ≤ suc n
one-more true d rest n h = omega (arith, h)
one-more false d rest n h = omega (arith, h)

inputs-drains-few : (n : ℕ) (inputs : List InputUse) → length (input_drains n inputs) ≤ length inputs
inputs-drains-few n [] = omega arith
inputs-drains-few n (i ∷ is) = one-more (is_drain_input i) (record { input = Some n; after = 0 }) (input_drains (n + 1) is) (length is) (inputs-drains-few (n + 1) is)

pub statements-drains-few : (before : ℕ) (ls : List Line) → length (statement_drains before ls) ≤ length ls
statements-drains-few before [] = omega arith
statements-drains-few before (l ∷ ls) = one-more (is_kind Ldd l.kind) (record { input = None; after = before + operations_of l.statement.value }) (statement_drains (before + operations_of l.statement.value) ls) (length ls) (statements-drains-few (before + operations_of l.statement.value) ls)

-- there are no more than inputs and statements
pub drains-few : (drains : List DrainUse) (inputs : List InputUse) (lines : List Line) → map as_shown_drain drains ≡ input_drains 0 inputs ++ statement_drains 0 lines → length drains ≤ length inputs + length lines
drains-few drains inputs lines h =
    let e = sym (length-map drains as_shown_drain) ∙ ap length h ∙ length-append (input_drains 0 inputs) (statement_drains 0 lines) in
    let j = inputs-drains-few 0 inputs in
    let k = statements-drains-few 0 lines in
    omega (arith, e, j, k)

-- ---- outputs

one-output : (P : Shown → Type 0) (report : Bool) (u : Shown) (rest : List Shown) → P u → Each P rest → Each P ((if report then u ∷ [] else []) ++ rest)
one-output P true u rest hu hr = (hu, hr)
one-output P false u rest hu hr = hr

shown-from_on : (bound : Bound) (low statement : ℕ) (lines : List Line) → low ≤ statement → Each (λ u. low ≤ u.statement) (outputs_from bound statement lines)
shown-from_on bound low statement [] h = tt
shown-from_on bound low statement (l ∷ ls) h = one-output (λ u. low ≤ u.statement) l.report _ (outputs_from bound (statement + 1) ls) h (shown-from_on bound low (statement + 1) ls (omega (arith, h)))

one-before : (R : Shown → Shown → Type 0) (report : Bool) (u : Shown) (rest : List Shown) → Each (R u) rest → Pairs R rest → Pairs R ((if report then u ∷ [] else []) ++ rest)
one-before R true u rest he hp = (he, hp)
one-before R false u rest he hp = hp

shown-order : (bound : Bound) (statement : ℕ) (lines : List Line) → Pairs (λ x y. x.statement < y.statement) (outputs_from bound statement lines)
shown-order bound statement [] = tt
shown-order bound statement (l ∷ ls) =
    let rest = outputs_from bound (statement + 1) ls in
    one-before (λ x y. x.statement < y.statement) l.report _ rest (each-weaken (λ (u : Shown). statement + 1 ≤ u.statement) (λ u. statement < u.statement) rest (λ u k. (let m = k in omega (arith, m))) (shown-from_on bound (statement + 1) (statement + 1) ls (omega arith))) (shown-order bound (statement + 1) ls)

-- outputs stand in the order of their statements
pub outputs-order : (bound : Bound) (statement : ℕ) (outputs : List OutputUse) (lines : List Line) → map as_shown outputs ≡ outputs_from bound statement lines → Pairs (λ x y. x.statement < y.statement) outputs
outputs-order bound statement outputs lines h = pairs-from_map as_shown (λ x y. x.statement < y.statement) outputs (subst (Pairs (λ x y. x.statement < y.statement)) (sym h) (shown-order bound statement lines))

shown-few : (bound : Bound) (statement : ℕ) (lines : List Line) → length (outputs_from bound statement lines) ≤ length lines
shown-few bound statement [] = omega arith
shown-few bound statement (l ∷ ls) = at-most l.report _ (outputs_from bound (statement + 1) ls) (length ls) (shown-few bound (statement + 1) ls)
  where
    at-most : (report : Bool) (u : Shown) (rest : List Shown) (n : ℕ) → length rest ≤ n → length ((if report then u ∷ [] else []) ++ rest) ≤ suc n
    at-most true u rest n h = omega (arith, h)
    at-most false u rest n h = omega (arith, h)

-- there are no more than statements
pub outputs-few : (bound : Bound) (statement : ℕ) (outputs : List OutputUse) (lines : List Line) → map as_shown outputs ≡ outputs_from bound statement lines → length outputs ≤ length lines
outputs-few bound statement outputs lines h = let e = sym (length-map outputs as_shown) ∙ ap length h in let k = shown-few bound statement lines in omega (arith, e, k)
