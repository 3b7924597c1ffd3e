-- Marks of operations, one test after another, the begins of stages, and operations that are kept where they are marked.
use Rattle.std.proofs.Common.{◌≡◌, ℕ, zero, suc, ◌+◌, ◌<◌, ◌≤◌, ◌==◌, nat_le, nat_lt, max, ◌||◌, ◌&&◌, Bool, true, false, if◌then◌else◌, List, [], ◌∷◌, ◌++◌, length, take, refl, sym, ap, ◌∙◌, arith, replicate, get_or}
use Rattle.std.specs.List.{list_any}
use Rattle.std.proofs.Math.Bool.{and-or_distrib_right, or-false, or_assoc}
use Rattle.std.proofs.Math.Nat.{max-eq_left, max-eq_right, max-le}
use Rattle.std.proofs.lemmas.Bool.{eqb-false, eqb-true, leb-false, leb-true}
use Rattle.std.proofs.lemmas.List.{length-replicate, length-take-le, take_more}
use Rattle.std.proofs.lemmas.List.Folds.{list_any-append}
use Rattle.map_meaning.specs.declared.program.DrainUse.{DrainUse}
use Rattle.map_meaning.specs.declared.program.Operand.{Operand}
use Rattle.map_meaning.specs.declared.program.Operation.{Operation}
use Rattle.map_meaning.specs.Programs.{is_initial, is_read_behind, operands_of, stage_begin}
use Rattle.script_types.specs.inside.Kept.{Marks, begins_stage, is_earlier, is_marked, some_operand, kept_where}

-- no test
pub marks-none : (a : List Bool) (f : ℕ → Bool) → ((n : ℕ) → f n ≡ false) → Marks a a f
marks-none a f none = record { count = refl; is = λ n h. sym (or-false (is_marked a n)) ∙ ap (λ b. is_marked a n || b) (sym (none n)) }

-- one test after another
pub marks-then : (a b c : List Bool) (f g h : ℕ → Bool) → ((n : ℕ) → h n ≡ (f n || g n)) → Marks a b f → Marks b c g → Marks a c h
marks-then a b c f g h both x y =
    let lx = x.count in
    record {
      count = y.count ∙ x.count;
      is = λ n below. y.is n (omega (arith, lx, below)) ∙ ap (λ m. m || g n) (x.is n below) ∙ or_assoc (is_marked a n) (f n) (g n) ∙ ap (λ m. is_marked a n || m) (sym (both n));
    }

any-push : {A : Type 0} (p : A → Bool) (xs : List A) (x : A) → list_any p (xs ++ x ∷ []) ≡ (list_any p xs || p x)
any-push p xs x = list_any-append p xs (x ∷ []) ∙ ap (λ b. list_any p xs || b) (or-false (p x))

-- one more item
pub marks-push : {A : Type 0} (a b c : List Bool) (p : ℕ → A → Bool) (xs ys : List A) (x : A) → ys ≡ xs ++ x ∷ [] → Marks a b (λ n. list_any (p n) xs) → Marks b c (λ n. p n x) → Marks a c (λ n. list_any (p n) ys)
marks-push a b c p xs ys x e s t = marks-then a b c (λ n. list_any (p n) xs) (λ n. p n x) (λ n. list_any (p n) ys) (λ n. ap (list_any (p n)) e ∙ any-push (p n) xs x) s t

-- the four operands of an operation
pub marks-four : (test : ℕ → Operand → Bool) (o : Operation) (a b c d e : List Bool) → Marks a b (λ n. test n o.a) → Marks b c (λ n. test n o.b) → Marks c d (λ n. test n o.c) → Marks d e (λ n. test n o.d) → Marks a e (λ n. list_any (test n) (operands_of o))
marks-four test o a b c d e w x y z =
    let two = marks-then a b c (λ n. test n o.a) (λ n. test n o.b) (λ n. test n o.a || test n o.b) (λ n. refl) w x in
    let three = marks-then a c d (λ n. test n o.a || test n o.b) (λ n. test n o.c) (λ n. test n o.a || test n o.b || test n o.c) (λ n. refl) two y in
    marks-then a d e (λ n. test n o.a || test n o.b || test n o.c) (λ n. test n o.d) (λ n. list_any (test n) (operands_of o)) (λ n. regroup (test n o.a) (test n o.b) (test n o.c) (test n o.d)) three z
  where
    regroup : (p q r t : Bool) → (p || (q || (r || (t || false)))) ≡ (((p || q) || r) || t)
    regroup true q r t = refl
    regroup false true r t = refl
    regroup false false true t = refl
    regroup false false false t = or-false t

-- one more item of a list
pub marks-item : {A : Type 0} (a b c : List Bool) (p : ℕ → A → Bool) (xs : List A) (i : ℕ) (d : A) → i < length xs → Marks a b (λ n. list_any (p n) (take i xs)) → Marks b c (λ n. p n (get_or xs i d)) → Marks a c (λ n. list_any (p n) (take (i + 1) xs))
marks-item a b c p xs i d below s t = marks-push a b c p (take i xs) (take (i + 1) xs) (get_or xs i d) (take_more xs i d below) s t

-- nothing is marked at first
unmarked : (n k : ℕ) → is_marked (replicate n false) k ≡ false
unmarked zero k = refl
unmarked (suc n) zero = refl
unmarked (suc n) (suc k) = unmarked n k

-- operations that are kept, and one more
pub kept-push : (keep : ℕ → Bool) (n : ℕ) (ops : List Operation) (o : Operation) → kept_where keep n (ops ++ o ∷ []) ≡ kept_where keep n ops ++ record o { kept = keep (n + length ops) } ∷ []
kept-push keep n [] o = let e : n ≡ n + 0 = omega arith in ap (λ k. record o { kept = keep k } ∷ []) e
kept-push keep n (p ∷ ops) o = let e : n + 1 + length ops ≡ n + length (p ∷ ops) = omega arith in ap (λ rest. record p { kept = keep n } ∷ rest) (kept-push keep (n + 1) ops o ∙ ap (λ k. kept_where keep (n + 1) ops ++ record o { kept = keep k } ∷ []) e)

-- one more operation of a list
pub marks-operation : (a b c : List Bool) (test : ℕ → Operand → Bool) (ops : List Operation) (i : ℕ) (d : Operation) → i < length ops → Marks a b (λ n. some_operand (test n) (take i ops)) → Marks b c (λ n. list_any (test n) (operands_of (get_or ops i d))) → Marks a c (λ n. some_operand (test n) (take (i + 1) ops))
marks-operation a b c test ops i d below s t = marks-push a b c (λ n o. list_any (test n) (operands_of o)) (take i ops) (take (i + 1) ops) (get_or ops i d) (take_more ops i d below) s t

-- one more operation is kept
pub kept-more : (marks : List Bool) (ops new more : List Operation) (i : ℕ) (d : Operation) → i < length ops → new ≡ kept_where (is_marked marks) 0 (take i ops) → more ≡ new ++ record (get_or ops i d) { kept = is_marked marks i } ∷ [] → more ≡ kept_where (is_marked marks) 0 (take (i + 1) ops)
kept-more marks ops new more i d below e f =
    let many : length (take i ops) ≡ i = length-take-le i ops (omega (arith, below)) in
    let at : 0 + length (take i ops) ≡ i = omega (arith, many) in
    f ∙ ap (λ xs. xs ++ record (get_or ops i d) { kept = is_marked marks i } ∷ []) e ∙ ap (λ k. kept_where (is_marked marks) 0 (take i ops) ++ record (get_or ops i d) { kept = is_marked marks k } ∷ []) (sym at) ∙ sym (kept-push (is_marked marks) 0 (take i ops) (get_or ops i d)) ∙ ap (kept_where (is_marked marks) 0) (sym (take_more ops i d below))

-- what is marked where nothing was marked at first
pub marks-of-none : (count : ℕ) (a b : List Bool) (f : ℕ → Bool) → a ≡ replicate count false → Marks a b f → (n : ℕ) → n < count → is_marked b n ≡ f n
marks-of-none count a b f e x n below =
    let la : length a ≡ count = ap length e ∙ length-replicate count false in
    x.is n (omega (arith, la, below)) ∙ ap (λ k. k || f n) (ap (λ m. is_marked m n) e ∙ unmarked count n)

-- ---- the begins of stages

one-below : (a s n : ℕ) (t : Bool) → nat_le a n ≡ t → s ≤ n → (if t then max a s else s) ≤ n
one-below a s n true e h = max-le (leb-true a n e) h
one-below a s n false e h = h

-- a stage begins at or before each of its operations
begin-below : (ds : List DrainUse) (n : ℕ) → stage_begin ds n ≤ n
begin-below [] n = omega arith
begin-below (d ∷ ds) n = one-below d.after (stage_begin ds n) n (nat_le d.after n) refl (begin-below ds n)

-- one more drain map, where a stage begins with the next operation or not
one-next : (a n s : ℕ) (x y z b : Bool) → nat_le a (n + 1) ≡ x → (a == n + 1) ≡ y → nat_le a n ≡ z → s ≤ n →
    (if x then max a (if b then n + 1 else s) else (if b then n + 1 else s)) ≡ (if y || b then n + 1 else (if z then max a s else s))
one-next a n s true true z true ex ey ez h = let e = eqb-true a (n + 1) ey in ap (λ k. max k (n + 1)) e ∙ max-eq_left (omega arith)
one-next a n s true true z false ex ey ez h = let e = eqb-true a (n + 1) ey in ap (λ k. max k s) e ∙ max-eq_left (omega (arith, h))
one-next a n s true false true true ex ey ez h = let k = leb-true a n ez in max-eq_right (omega (arith, k))
one-next a n s true false true false ex ey ez h = refl
one-next a n s true false false b ex ey ez h = let j = leb-true a (n + 1) ex in let k = eqb-false a (n + 1) ey in let l = leb-false a n ez in absurd (omega (arith, j, k, l))
one-next a n s false true z b ex ey ez h = let j = leb-false a (n + 1) ex in let k = eqb-true a (n + 1) ey in absurd (omega (arith, j, k))
one-next a n s false false true b ex ey ez h = let j = leb-false a (n + 1) ex in let l = leb-true a n ez in absurd (omega (arith, j, l))
one-next a n s false false false b ex ey ez h = refl

-- the stage of the next operation begins with it, where a stage does, or it is the same
pub stage-next : (ds : List DrainUse) (n : ℕ) → stage_begin ds (n + 1) ≡ (if begins_stage (n + 1) ds then n + 1 else stage_begin ds n)
stage-next [] n = refl
stage-next (d ∷ ds) n =
    ap (λ s. if nat_le d.after (n + 1) then max d.after s else s) (stage-next ds n) ∙
    one-next d.after n (stage_begin ds n) (nat_le d.after (n + 1)) (d.after == n + 1) (nat_le d.after n) (begins_stage (n + 1) ds) refl refl refl (begin-below ds n)

-- the first stage begins with the first operation
pub stage-first : (ds : List DrainUse) → stage_begin ds 0 ≡ (if begins_stage 0 ds then 0 else 0)
stage-first ds = let h = begin-below ds 0 in zero-is (stage_begin ds 0) (begins_stage 0 ds) h
  where
    zero-is : (s : ℕ) (b : Bool) → s ≤ 0 → s ≡ (if b then 0 else 0)
    zero-is s true h = omega (arith, h)
    zero-is s false h = omega (arith, h)

any-and : (t : Bool) (test : Operand → Bool) (xs : List Operand) → list_any (λ x. test x && t) xs ≡ (list_any test xs && t)
any-and t test [] = refl
any-and t test (x ∷ xs) = ap (λ b. (test x && t) || b) (any-and t test xs) ∙ sym (and-or_distrib_right (test x) (list_any test xs) t)

-- what one more operation of `initial` reads of earlier stages
read-push : (ds : List DrainUse) (n k : ℕ) (ops : List Operation) (o : Operation) →
    is_read_behind ds n k (ops ++ o ∷ []) ≡ (is_read_behind ds n k ops || (list_any (is_initial n) (operands_of o) && nat_lt n (stage_begin ds (k + length ops))))
read-push ds n k [] o =
    let e : k ≡ k + 0 = omega arith in
    or-false (list_any (is_initial n) (operands_of o) && nat_lt n (stage_begin ds k)) ∙
    ap (λ i. list_any (is_initial n) (operands_of o) && nat_lt n (stage_begin ds i)) e
read-push ds n k (p ∷ ops) o =
    let e : k + 1 + length ops ≡ k + length (p ∷ ops) = omega arith in
    let here = list_any (is_initial n) (operands_of p) && nat_lt n (stage_begin ds k) in
    ap (λ b. here || b) (read-push ds n (k + 1) ops o ∙
    ap (λ i. is_read_behind ds n (k + 1) ops || (list_any (is_initial n) (operands_of o) && nat_lt n (stage_begin ds i))) e) ∙
    sym (or_assoc here (is_read_behind ds n (k + 1) ops) (list_any (is_initial n) (operands_of o) && nat_lt n (stage_begin ds (k + length (p ∷ ops)))))

-- the begin of the stage, where it was carried to this operation, which begins a stage or not
pub begin-carried : (ds : List DrainUse) (at old begin : ℕ) (b : Bool) → begins_stage at ds ≡ b → stage_begin ds at ≡ (if begins_stage at ds then at else old) → begin ≡ (if b then at else old) → begin ≡ stage_begin ds at
begin-carried ds at old begin b e h g = g ∙ ap (λ t. if t then at else old) (sym e) ∙ sym h

-- one more operation of `initial`, in the stage that begins there
pub marks-stage : (a b c : List Bool) (ds : List DrainUse) (ops : List Operation) (i begin : ℕ) (d : Operation) → i < length ops → begin ≡ stage_begin ds i → Marks a b (λ n. is_read_behind ds n 0 (take i ops)) → Marks b c (λ n. list_any (is_earlier begin n) (operands_of (get_or ops i d))) → Marks a c (λ n. is_read_behind ds n 0 (take (i + 1) ops))
marks-stage a b c ds ops i begin d below e s t =
    let o = get_or ops i d in
    let front = take i ops in
    let many : length front ≡ i = length-take-le i ops (omega (arith, below)) in
    let at : 0 + length front ≡ i = omega (arith, many) in
    marks-then a b c (λ n. is_read_behind ds n 0 front) (λ n. list_any (is_earlier begin n) (operands_of o)) (λ n. is_read_behind ds n 0 (take (i + 1) ops))
    (λ n. ap (is_read_behind ds n 0) (take_more ops i d below) ∙ read-push ds n 0 front o ∙
    ap (λ k. is_read_behind ds n 0 front || (list_any (is_initial n) (operands_of o) && nat_lt n k)) (ap (stage_begin ds) at ∙ sym e) ∙
    ap (λ k. is_read_behind ds n 0 front || k) (sym (any-and (nat_lt n begin) (is_initial n) (operands_of o))))
    s t
