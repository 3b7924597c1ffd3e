-- Which files are those of a stack, and which stacks have a file in common.
use Rattle.std.proofs.Common.{◌≡◌, ◌+◌, ◌-◌, ◌/◌, ◌^◌, ◌<◌, ◌≤◌, ℕ, zero, suc, Bool, true, false, ◌&&◌, ◌||◌, List, [], ◌∷◌, ◌++◌, length, map, get_or, take, drop, Option, Some, None, refl, sym, ◌∙◌, ap, append_assoc, append-nil, subst, arith}
use Rattle.std.specs.Prelude.{nat_le, nat_lt}
use Rattle.std.specs.List.{list_any, range_with_len}
use Rattle.std.specs.Str.{bytes_eq}
use Rattle.std.proofs.Math.Seq.{drop-append_seam, get_or-append_seam, take-append_seam}
use Rattle.std.proofs.lemmas.Bool.{and_from, and_parts, le-leb, leb-false, leb-true, ltb-false, ltb-true}
use Rattle.std.proofs.lemmas.List.{append_cancel_left, length-append, length-drop, length-take-le, take-append-drop, take-append-le}
use Rattle.std.proofs.lemmas.Slice.Eq.{bytes_eq-Decides}
use Rattle.text_base.specs.Bytes.{point}
use Rattle.text_base.proofs.Callers.{bool_cases}
use Rattle.map_meaning.specs.StackNames.{in_digits, pointed_name, stack_file}
use Rattle.script_types.specs.Reports.{One, Stacked, is_among, names_of, share_a_name}
use Rattle.script_types.specs.inside.StackFiles.{first_step, is_begun, is_step_of}
use Rattle.script_types.proofs.StackDigits.{digits-length, digits-split, first-step-is, first-step-least}

-- two tests that hold of the same
pub same-test : (a b : Bool) → (a ≡ true → b ≡ true) → (b ≡ true → a ≡ true) → a ≡ b
same-test true b f g = sym (f refl)
same-test false true f g = g refl
same-test false false f g = refl

empty-of : (xs : List ℕ) → length xs ≡ 0 → xs ≡ []
empty-of [] h = refl
empty-of (x ∷ xs) h = absurd (omega (arith, h))

or-none : (b : Bool) → (b || false) ≡ b
or-none true = refl
or-none false = refl

other-way : (x y : List ℕ) → bytes_eq x y ≡ bytes_eq y x
other-way x y = same-test (bytes_eq x y) (bytes_eq y x) (λ h. (bytes_eq-Decides y x).1 (sym ((bytes_eq-Decides x y).0 h))) (λ h. (bytes_eq-Decides x y).1 (sym ((bytes_eq-Decides y x).0 h)))

-- ---- some step

-- a step passes the test
abbrev IsSome : (List ℕ → Bool) → (ℕ → List ℕ) → ℕ → ℕ → Type 0
IsSome test file from count = (s : ℕ) × (from ≤ s) × (s < from + count) × (test (file s) ≡ true)

earlier : (test : List ℕ → Bool) (file : ℕ → List ℕ) (from count : ℕ) → IsSome test file (from + 1) count → IsSome test file from (suc count)
earlier test file from count (s, low, high, h) = (s, omega (arith, low), omega (arith, high), h)

pub some-step : (test : List ℕ → Bool) (file : ℕ → List ℕ) (from count : ℕ) → list_any test (map file (range_with_len from count)) ≡ true → IsSome test file from count
some-step test file from zero h = cc
some-step test file from (suc count) h = bool_cases (test (file from))
    (λ e. (from, omega arith, omega arith, e))
    (λ e. earlier test file from count (some-step test file (from + 1) count (sym (ap (λ b. b || list_any test (map file (range_with_len (from + 1) count))) e) ∙ h)))

later : (test : List ℕ → Bool) (file : ℕ → List ℕ) (from s : ℕ) → from ≤ s → test (file from) ≡ false → test (file s) ≡ true → from + 1 ≤ s
later test file from s low e h = bool_cases (nat_lt from s)
    (λ b. let k = ltb-true from s b in omega (arith, k))
    (λ b. let k = ltb-false from s b in let same : s ≡ from = omega (arith, k, low) in let no : true ≡ false = sym h ∙ ap (λ n. test (file n)) same ∙ e in absurd (cc))

pub step-passes : (test : List ℕ → Bool) (file : ℕ → List ℕ) (from count s : ℕ) → from ≤ s → s < from + count → test (file s) ≡ true → list_any test (map file (range_with_len from count)) ≡ true
step-passes test file from zero s low high h = absurd (omega (arith, low, high))
step-passes test file from (suc count) s low high h = bool_cases (test (file from))
    (λ e. ap (λ b. b || list_any test (map file (range_with_len (from + 1) count))) e)
    (λ e. ap (λ b. b || list_any test (map file (range_with_len (from + 1) count))) e ∙ step-passes test file (from + 1) count s (later test file from s low e h) (omega (arith, high)) h)

-- ---- how the files of a stack begin

-- the name of the file of a step goes on from these bytes as that of a stack with this prefix does
abbrev pub Begins : List ℕ → List ℕ → ℕ → Type 0
Begins prefix start s = prefix ++ in_digits (11 - length prefix) s ≡ start ++ in_digits (11 - length start) s

-- a step of the stack, if there is one
abbrev pub HasStep : List ℕ → ℕ → List ℕ → Type 0
HasStep prefix steps start = (s : ℕ) × (1 ≤ s) × (s ≤ steps) × Begins prefix start s

the-step : (steps : ℕ) (o : Option ℕ) → is_step_of steps o ≡ true → (s : ℕ) × (o ≡ Some s) × (s ≤ steps)
the-step steps None h = cc
the-step steps (Some s) h = (s, refl, leb-true s steps h)

in-time : (steps : ℕ) (o : Option ℕ) (s : ℕ) → o ≡ Some s → s ≤ steps → is_step_of steps o ≡ true
in-time steps o s h le = ap (is_step_of steps) h ∙ le-leb s steps le

begins-from : (prefix digits : List ℕ) (m s : ℕ) → length prefix + length digits ≤ 11 → 11 - length prefix - length digits ≡ m → in_digits (length digits) (s / 10 ^ m) ≡ digits → Begins prefix (prefix ++ digits) s
begins-from prefix digits m s few hm h =
    let l = length-append prefix digits in
    let d : 11 - length prefix ≡ length digits + m = omega (arith, few, hm) in
    let r : m ≡ 11 - length (prefix ++ digits) = omega (arith, few, hm, l) in
    ap (λ n. prefix ++ in_digits n s) d
    ∙ ap (λ ds. prefix ++ ds) (digits-split m (length digits) s ∙ ap (λ ds. ds ++ in_digits m s) h)
    ∙ sym (append_assoc prefix digits (in_digits m s))
    ∙ ap (λ n. (prefix ++ digits) ++ in_digits n s) r

begins-same : (prefix : List ℕ) (s : ℕ) → Begins prefix prefix s
begins-same prefix s = refl

-- the three tests of a beginning
abbrev tests : List ℕ → ℕ → List ℕ → Bool
tests prefix steps start = is_step_of steps (first_step (drop (length prefix) start) (11 - length prefix - (length start - length prefix)))

pub begun-has : (prefix : List ℕ) (steps : ℕ) (start : List ℕ) → length prefix ≤ length start → is_begun prefix steps start ≡ true → HasStep prefix steps start
begun-has prefix steps start long h =
    let short = nat_le (length start) (length prefix + (11 - length prefix)) in
    let p = and_parts (bytes_eq (take (length prefix) start) prefix) (short && tests prefix steps start) h in
    let q = and_parts short (tests prefix steps start) p.1 in
    let front = (bytes_eq-Decides (take (length prefix) start) prefix).0 p.0 in
    let few = leb-true (length start) (length prefix + (11 - length prefix)) q.0 in
    let digits = drop (length prefix) start in
    let count = length-drop (length prefix) start in
    let m = 11 - length prefix - (length start - length prefix) in
    let whole : prefix ++ digits ≡ start = ap (λ xs. xs ++ digits) (sym front) ∙ take-append-drop (length prefix) start in
    let step = the-step steps (first_step digits m) q.1 in
    let found = first-step-is digits m step.0 step.1 in
    let n = step.0 in (
      n,
      found.0,
      step.2,
      bool_cases (nat_le (length prefix) 11)
          (λ b. let P : List ℕ → Type 0 = λ xs. Begins prefix xs n in let le = leb-true (length prefix) 11 b in subst P whole (begins-from prefix digits m n (omega (arith, few, count, long, le)) (let e : 11 - length prefix - length digits ≡ m = ap (λ k. 11 - length prefix - k) count in e) found.1))
          (λ b. let P : List ℕ → Type 0 = λ xs. Begins prefix xs n in let gt = leb-false (length prefix) 11 b in let none : length digits ≡ 0 = omega (arith, few, count, long, gt) in subst P (sym (append-nil prefix) ∙ ap (λ xs. prefix ++ xs) (sym (empty-of digits none)) ∙ whole) refl),
    )

pub has-begun : (prefix : List ℕ) (steps : ℕ) (start : List ℕ) → length prefix ≤ length start → HasStep prefix steps start → is_begun prefix steps start ≡ true
has-begun prefix steps start long (s, low, high, h) =
    let d = 11 - length prefix in
    let e = 11 - length start in
    let digits = drop (length prefix) start in
    let n = length digits in
    let m = 11 - length prefix - (length start - length prefix) in
    let count = length-drop (length prefix) start in
    let front : take (length prefix) start ≡ prefix = sym (take-append-le (length prefix) start (in_digits e s) long) ∙ ap (take (length prefix)) (sym h) ∙ take-append_seam prefix (in_digits d s) in
    let whole : prefix ++ digits ≡ start = ap (λ xs. xs ++ digits) (sym front) ∙ take-append-drop (length prefix) start in
    let lengths : length prefix + d ≡ length start + e = ap (λ k. length prefix + k) (sym (digits-length d s)) ∙ sym (length-append prefix (in_digits d s)) ∙ ap length h ∙ length-append start (in_digits e s) ∙ ap (λ k. length start + k) (digits-length e s) in
    let behind : in_digits d s ≡ digits ++ in_digits e s = append_cancel_left prefix (in_digits d s) (digits ++ in_digits e s) (h ∙ ap (λ xs. xs ++ in_digits e s) (sym whole) ∙ append_assoc prefix digits (in_digits e s)) in
    let parts : d ≡ n + m = omega (arith, lengths, count, long) in
    let split : in_digits n (s / 10 ^ m) ++ in_digits m s ≡ digits ++ in_digits e s = sym (digits-split m n s) ∙ ap (λ k. in_digits k s) (sym parts) ∙ behind in
    let same : digits ≡ in_digits n (s / 10 ^ m) = sym (take-append_seam digits (in_digits e s)) ∙ ap (take n) (sym split) ∙ ap (λ k. take k (in_digits n (s / 10 ^ m) ++ in_digits m s)) (sym (digits-length n (s / 10 ^ m))) ∙ take-append_seam (in_digits n (s / 10 ^ m)) (in_digits m s) in
    let least = first-step-least digits m s same low in
    let short = nat_le (length start) (length prefix + (11 - length prefix)) in
    and_from (bytes_eq (take (length prefix) start) prefix) (short && tests prefix steps start) ((bytes_eq-Decides (take (length prefix) start) prefix).1 front)
    (and_from short (tests prefix steps start) (le-leb (length start) (length prefix + d) (omega (arith, lengths)))
    (in-time steps (first_step digits m) least.0 least.1 (let k = least.2 in omega (arith, k, high))))

-- ---- the point

pub pointed_name-back : (name : List ℕ) → 8 ≤ length name → take 8 (pointed_name name) ++ drop 9 (pointed_name name) ≡ name
pointed_name-back name h =
    let front = take 8 name in
    let l : length front ≡ 8 = length-take-le 8 name h in
    let a : take 8 (pointed_name name) ≡ front = ap (λ k. take k (pointed_name name)) (sym l) ∙ take-append_seam front (point ∷ drop 8 name) in
    let b : drop 9 (pointed_name name) ≡ drop 8 name = ap (λ xs. drop 9 xs) (sym (append_assoc front (point ∷ []) (drop 8 name))) ∙ ap (λ k. drop k ((front ++ point ∷ []) ++ drop 8 name)) (let m = length-append front (point ∷ []) in let e : 9 ≡ length (front ++ point ∷ []) = omega (arith, l, m) in e) ∙ drop-append_seam (front ++ point ∷ []) (drop 8 name) in
    ap (λ xs. xs ++ drop 9 (pointed_name name)) a ∙ ap (λ xs. front ++ xs) b ∙ take-append-drop 8 name

pub pointed_name-same : (x y : List ℕ) → 8 ≤ length x → 8 ≤ length y → pointed_name x ≡ pointed_name y → x ≡ y
pointed_name-same x y hx hy h = sym (pointed_name-back x hx) ∙ ap (λ z. take 8 z ++ drop 9 z) h ∙ pointed_name-back y hy

-- the name of a file without its point
abbrev pub bare : List ℕ → ℕ → List ℕ
bare prefix s = prefix ++ in_digits (11 - length prefix) s

pub bare-length : (prefix : List ℕ) (s : ℕ) → length (bare prefix s) ≡ length prefix + (11 - length prefix)
bare-length prefix s = length-append prefix (in_digits (11 - length prefix) s) ∙ ap (λ k. length prefix + k) (digits-length (11 - length prefix) s)

long-enough : (prefix : List ℕ) (s : ℕ) → 8 ≤ length (bare prefix s)
long-enough prefix s = let l = bare-length prefix s in omega (arith, l)

-- ---- two stacks

shares-has : (a b : List ℕ) (steps : ℕ) → share_a_name steps (Stacked a) (Stacked b) ≡ true → (s t : ℕ) × (1 ≤ s) × (s ≤ steps) × (1 ≤ t) × (t ≤ steps) × (bare a s ≡ bare b t)
shares-has a b steps h =
    let one = some-step (λ name. is_among name (names_of steps (Stacked b))) (stack_file a) 1 steps h in
    let s = one.0 in
    let two = some-step (bytes_eq (stack_file a s)) (stack_file b) 1 steps one.3 in
    let t = two.0 in
    let sh = one.2 in
    let th = two.2 in
    (s, t, one.1, omega (arith, sh), two.1, omega (arith, th), pointed_name-same (bare a s) (bare b t) (long-enough a s) (long-enough b t) ((bytes_eq-Decides (stack_file a s) (stack_file b t)).0 two.3))

has-shares : (a b : List ℕ) (steps s t : ℕ) → 1 ≤ s → s ≤ steps → 1 ≤ t → t ≤ steps → bare a s ≡ bare b t → share_a_name steps (Stacked a) (Stacked b) ≡ true
has-shares a b steps s t ls hs lt ht h =
    step-passes (λ name. is_among name (names_of steps (Stacked b))) (stack_file a) 1 steps s ls (omega (arith, hs))
    (step-passes (bytes_eq (stack_file a s)) (stack_file b) 1 steps t lt (omega (arith, ht)) ((bytes_eq-Decides (stack_file a s) (stack_file b t)).1 (ap pointed_name h)))

-- a stack's file at one step begins with the prefix of another stack only where both have it at that step
step-of-both : (a b : List ℕ) (s t : ℕ) → length a ≤ length b → bare a s ≡ bare b t → Begins a b s
step-of-both a b s t long h =
    let d = 11 - length a in
    let e = 11 - length b in
    let rest = drop (length a) b in
    let count = length-drop (length a) b in
    let front : take (length a) b ≡ a = sym (take-append-le (length a) b (in_digits e t) long) ∙ ap (take (length a)) (sym h) ∙ take-append_seam a (in_digits d s) in
    let whole : a ++ rest ≡ b = ap (λ xs. xs ++ rest) (sym front) ∙ take-append-drop (length a) b in
    let lengths : length a + d ≡ length b + e = sym (bare-length a s) ∙ ap length h ∙ bare-length b t in
    let n = length rest in
    let parts : d ≡ n + e = omega (arith, lengths, count, long) in
    let behind : in_digits d s ≡ rest ++ in_digits e t = append_cancel_left a (in_digits d s) (rest ++ in_digits e t) (h ∙ ap (λ xs. xs ++ in_digits e t) (sym whole) ∙ append_assoc a rest (in_digits e t)) in
    let split : in_digits n (s / 10 ^ e) ++ in_digits e s ≡ rest ++ in_digits e t = sym (digits-split e n s) ∙ ap (λ k. in_digits k s) (sym parts) ∙ behind in
    let same : in_digits n (s / 10 ^ e) ≡ rest = sym (take-append_seam (in_digits n (s / 10 ^ e)) (in_digits e s)) ∙ ap (λ k. take k (in_digits n (s / 10 ^ e) ++ in_digits e s)) (digits-length n (s / 10 ^ e)) ∙ ap (take n) split ∙ take-append_seam rest (in_digits e t) in
    ap (λ ds. a ++ ds) (ap (λ k. in_digits k s) parts ∙ digits-split e n s ∙ ap (λ ds. ds ++ in_digits e s) same) ∙ sym (append_assoc a rest (in_digits e s)) ∙ ap (λ xs. xs ++ in_digits e s) whole

-- the shorter prefix first
pub shares-begun : (a b : List ℕ) (steps : ℕ) → length a ≤ length b → is_begun a steps b ≡ share_a_name steps (Stacked a) (Stacked b)
shares-begun a b steps long = same-test (is_begun a steps b) (share_a_name steps (Stacked a) (Stacked b))
    (λ h. let f = begun-has a steps b long h in has-shares a b steps f.0 f.0 f.1 f.2 f.1 f.2 f.3)
    (λ h. let f = shares-has a b steps h in has-begun a steps b long (f.0, f.2, f.3, step-of-both a b f.0 f.1 long f.6))

-- the shorter prefix second
pub shares-back : (a b : List ℕ) (steps : ℕ) → share_a_name steps (Stacked b) (Stacked a) ≡ share_a_name steps (Stacked a) (Stacked b)
shares-back a b steps = same-test (share_a_name steps (Stacked b) (Stacked a)) (share_a_name steps (Stacked a) (Stacked b)) (turned b a) (turned a b) where
  turned : (x y : List ℕ) → share_a_name steps (Stacked x) (Stacked y) ≡ true → share_a_name steps (Stacked y) (Stacked x) ≡ true
  turned x y h = let f = shares-has x y steps h in has-shares y x steps f.1 f.0 f.4 f.5 f.2 f.3 (sym f.6)

-- ---- one file

-- a file of a stack has its point, and begins with the prefix
pub file-has : (prefix : List ℕ) (steps : ℕ) (file : List ℕ) → is_among file (names_of steps (Stacked prefix)) ≡ true → (s : ℕ) × (1 ≤ s) × (s ≤ steps) × (file ≡ pointed_name (bare prefix s))
file-has prefix steps file h =
    let one = some-step (bytes_eq file) (stack_file prefix) 1 steps h in
    let s = one.0 in
    let sh = one.2 in
    (s, one.1, omega (arith, sh), (bytes_eq-Decides file (stack_file prefix s)).0 one.3)

pub has-file : (prefix : List ℕ) (steps : ℕ) (file : List ℕ) (s : ℕ) → 1 ≤ s → s ≤ steps → file ≡ pointed_name (bare prefix s) → is_among file (names_of steps (Stacked prefix)) ≡ true
has-file prefix steps file s low high h = step-passes (bytes_eq file) (stack_file prefix) 1 steps s low (omega (arith, high)) ((bytes_eq-Decides file (stack_file prefix s)).1 h)

-- the file with this name, which has its point
pub file-begun : (prefix : List ℕ) (steps : ℕ) (file name : List ℕ) → length prefix ≤ 11 → length name ≡ 11 → file ≡ pointed_name name → is_begun prefix steps name ≡ is_among file (names_of steps (Stacked prefix))
file-begun prefix steps file name few long hf = same-test (is_begun prefix steps name) (is_among file (names_of steps (Stacked prefix)))
    (λ h. let f = begun-has prefix steps name (omega (arith, few, long)) h in
    let none : in_digits (11 - length name) f.0 ≡ [] = ap (λ k. in_digits (11 - k) f.0) long in
    has-file prefix steps file f.0 f.1 f.2 (hf ∙ ap pointed_name (sym (f.3 ∙ ap (λ ds. name ++ ds) none ∙ append-nil name))))
    (λ h. let f = file-has prefix steps file h in
    let same = pointed_name-same name (bare prefix f.0) (omega (arith, long)) (long-enough prefix f.0) (sym hf ∙ f.3) in
    let none : in_digits (11 - length name) f.0 ≡ [] = ap (λ k. in_digits (11 - k) f.0) long in
    has-begun prefix steps name (omega (arith, few, long)) (f.0, f.1, f.2, sym same ∙ sym (append-nil name) ∙ ap (λ ds. name ++ ds) (sym none)))

-- a long prefix has one file
pub file-long : (prefix : List ℕ) (steps : ℕ) (file : List ℕ) → 11 < length prefix → 1 ≤ steps → bytes_eq file (pointed_name prefix) ≡ is_among file (names_of steps (Stacked prefix))
file-long prefix steps file long some = same-test (bytes_eq file (pointed_name prefix)) (is_among file (names_of steps (Stacked prefix)))
    (λ h. has-file prefix steps file 1 (omega arith) some ((bytes_eq-Decides file (pointed_name prefix)).0 h ∙ ap pointed_name (sym (alone 1))))
    (λ h. let f = file-has prefix steps file h in (bytes_eq-Decides file (pointed_name prefix)).1 (f.3 ∙ ap pointed_name (alone f.0))) where
      alone : (s : ℕ) → bare prefix s ≡ prefix
      alone s = let none : 11 - length prefix ≡ 0 = omega (arith, long) in ap (λ k. prefix ++ in_digits k s) none ∙ append-nil prefix

-- a stack of no steps has no file
pub file-none : (prefix : List ℕ) (steps : ℕ) (file : List ℕ) → steps ≡ 0 → is_among file (names_of steps (Stacked prefix)) ≡ false
file-none prefix steps file h = ap (λ n. is_among file (names_of n (Stacked prefix))) h

-- one file and a stack, either way
pub one-stack : (steps : ℕ) (file prefix : List ℕ) → share_a_name steps (One file) (Stacked prefix) ≡ is_among file (names_of steps (Stacked prefix))
one-stack steps file prefix = or-none (is_among file (names_of steps (Stacked prefix)))

pub stack-one : (steps : ℕ) (file prefix : List ℕ) → share_a_name steps (Stacked prefix) (One file) ≡ is_among file (names_of steps (Stacked prefix))
stack-one steps file prefix = turned (names_of steps (Stacked prefix)) where
  turned : (names : List (List ℕ)) → list_any (λ name. is_among name (file ∷ [])) names ≡ is_among file names
  turned [] = refl
  turned (n ∷ ns) = ap (λ b. b || list_any (λ name. is_among name (file ∷ [])) ns) (or-none (bytes_eq n file) ∙ other-way n file) ∙ ap (λ b. bytes_eq file n || b) (turned ns)

-- ---- twelve bytes

-- the bytes of a file without that of the point
abbrev pub eleven : List ℕ → List ℕ
eleven file =
    get_or file 0 0 ∷ get_or file 1 0 ∷ get_or file 2 0 ∷ get_or file 3 0 ∷ get_or file 4 0 ∷ get_or file 5 0 ∷ get_or file 6 0 ∷ get_or file 7 0 ∷
    get_or file 9 0 ∷ get_or file 10 0 ∷ get_or file 11 0 ∷ []

pub eleven-pointed_name : (file : List ℕ) → length file ≡ 12 → get_or file 8 0 ≡ point → file ≡ pointed_name (eleven file)
eleven-pointed_name (a ∷ b ∷ c ∷ d ∷ e ∷ f ∷ g ∷ h ∷ p ∷ i ∷ j ∷ k ∷ []) l hp = ap (λ x. a ∷ b ∷ c ∷ d ∷ e ∷ f ∷ g ∷ h ∷ x ∷ i ∷ j ∷ k ∷ []) hp
eleven-pointed_name other l hp = absurd (omega (arith, l))

-- the files of a stack with a short prefix have twelve bytes with their point behind the eighth
pub file-shape : (prefix : List ℕ) (steps : ℕ) (file : List ℕ) → length prefix ≤ 11 → is_among file (names_of steps (Stacked prefix)) ≡ true → (length file ≡ 12) × (get_or file 8 0 ≡ point)
file-shape prefix steps file few h =
    let f = file-has prefix steps file h in
    let name = bare prefix f.0 in
    let front = take 8 name in
    let l = bare-length prefix f.0 in
    let n : length front ≡ 8 = length-take-le 8 name (long-enough prefix f.0) in
    let a = length-append front (point ∷ drop 8 name) in
    let b = length-drop 8 name in
    (ap length f.3 ∙ omega (arith, few, l, n, a, b), ap (λ xs. get_or xs 8 0) f.3 ∙ ap (λ k. get_or (pointed_name name) k 0) (sym n) ∙ get_or-append_seam front point (drop 8 name) 0)

-- a file of another shape is none of a stack
pub file-other : (prefix : List ℕ) (steps : ℕ) (file : List ℕ) → length prefix ≤ 11 → ((length file ≡ 12) × (get_or file 8 0 ≡ point) → ⊥) → false ≡ is_among file (names_of steps (Stacked prefix))
file-other prefix steps file few other = same-test false (is_among file (names_of steps (Stacked prefix))) (λ h. cc) (λ h. absurd (other (file-shape prefix steps file few h)))
