-- Operations of a section with the drain maps between them, and one more statement behind them.
use Rattle.std.proofs.Common.{◌≡◌, ℕ, zero, suc, subst, ◌+◌, ◌-◌, ◌<◌, ◌≤◌, List, [], ◌∷◌, ◌++◌, length, take, drop, refl, sym, ap, ◌∙◌, Ok, Err, Result, arith, length-append}
use Rattle.std.specs.Prelude.{⊤}
use Rattle.std.proofs.lemmas.List.{drop_all, get_or_append_left, length-drop, length-take-le, take_all, take-append-le}
use Rattle.text_base.specs.Results.{◌>>=◌}
use Rattle.map_meaning.specs.declared.known.OverAt.{OverAt}
use Rattle.map_meaning.specs.declared.program.DrainUse.{DrainUse}
use Rattle.map_meaning.specs.declared.program.Operand.{Operand}
use Rattle.map_meaning.specs.declared.program.Operand.TheVariants as from
use Rattle.map_meaning.specs.declared.program.Operation.{Operation}
use Rattle.map_meaning.specs.declared.program.Program.{Program}
use Rattle.map_meaning.specs.Evaluation.{Done, drain_codes, operand_map, operation_values, staged_values, with_drain}
use Rattle.map_meaning.specs.Maps.{nth}
use Rattle.map_meaning.specs.Scenes.{Scene}
use Rattle.map_meaning.proofs.Callers.{operation_values-append}
use Rattle.script_types.specs.declared.typed.Section.{Section}
use Rattle.script_types.specs.declared.typed.Section.TheVariants.{Initial, Dynamic}
use Rattle.script_types.specs.inside.Sections.{maps_in, span_in}
use Rattle.script_types.specs.inside.Written.{AllDue, AreDueBehind, DrainsBelow}
use Rattle.script_types.proofs.SectionLemmas.{values-add}

-- ---- parts of results

pub bind-known : {A B : Type 0} (r : Result A OverAt) (f g : A → Result B OverAt) → ((x : A) → r ≡ Ok x → f x ≡ g x) → (r >>= f) ≡ (r >>= g)
bind-known (Ok x) f g h = h x refl
bind-known (Err e) f g h = refl

ok-before : {A B : Type 0} (r : Result A OverAt) (f : A → Result B OverAt) (z : B) → (r >>= f) ≡ Ok z → (y : A) × (r ≡ Ok y) × (f y ≡ Ok z)
ok-before (Ok x) f z h = (x, refl, h)
ok-before (Err e) f z h = absurd (let k = h in cc)

bind-twice : {A B C : Type 0} (r : Result A OverAt) (f : A → Result B OverAt) (g : B → Result C OverAt) → ((r >>= f) >>= g) ≡ (r >>= λ x. f x >>= g)
bind-twice (Ok x) f g = refl
bind-twice (Err e) f g = refl

drop-append-le : {A : Type 0} (n : ℕ) (xs ys : List A) → n ≤ length xs → drop n (xs ++ ys) ≡ drop n xs ++ ys
drop-append-le zero [] [] h = refl
drop-append-le zero [] (y ∷ ys) h = refl
drop-append-le (suc n) [] ys h = absurd (omega (arith, h))
drop-append-le zero (x ∷ xs) ys h = refl
drop-append-le (suc n) (x ∷ xs) ys h = drop-append-le n xs ys (omega (arith, h))

-- ---- one drain map more

-- what is done with the drain map that a statement adds, where it adds one
abbrev pub finish : Scene → Done → List DrainUse → Done
finish scene e [] = e
finish scene e (d ∷ ds) = with_drain e (drain_codes scene e d.from)

-- a statement adds no drain map, or one that is computed behind so many operations
abbrev pub IsDueAt : Section → ℕ → List DrainUse → Type 0
IsDueAt s count [] = ⊤
IsDueAt s count (d ∷ ds) = (ds ≡ []) × (d.after ≡ count) × (s ≡ Initial)

module _ (program : Program) (scene : Scene) (step : ℕ) where
  abbrev run : Done → List Operation → Result Done OverAt
  run = operation_values program scene (span_in Initial program step)

  abbrev staged : Done → List DrainUse → List Operation → Result Done OverAt
  staged = staged_values program scene (span_in Initial program step)

  -- how many maps are done
  count-after : (ops : List Operation) (d e : Done) → run d ops ≡ Ok e → length e.initial ≡ length d.initial + length ops
  count-after ops d e h =
      let a = values-add Initial program scene step ops d e h in
      ap (λ (x : Done). length x.initial) a.is ∙ length-append d.initial a.added ∙ ap (λ n. length d.initial + n) a.count

  -- a run, and the drain map behind it
  last-one : (d : DrainUse) (done : Done) (ops : List Operation) → d.after ≡ length done.initial + length ops → staged done (d ∷ []) ops ≡ (run done ops >>= λ e. Ok (with_drain e (drain_codes scene e d.from)))
  last-one d done ops h =
      let b = d.after - length done.initial in
      let e : length ops ≤ b = omega (arith, h) in
      ap (λ front. run done front >>= λ after. run (with_drain after (drain_codes scene after d.from)) (drop b ops)) (take_all b ops e)
      ∙ ap (λ rest. run done ops >>= λ after. run (with_drain after (drain_codes scene after d.from)) rest) (drop_all b ops e)

  -- operations with drain maps between them, and a statement behind them
  staged-initial : (ds one : List DrainUse) (done : Done) (old ops : List Operation) → AllDue (length done.initial + length old) ds → IsDueAt Initial (length done.initial + length (old ++ ops)) one → staged done (ds ++ one) (old ++ ops) ≡ (staged done ds old >>= λ d. run d ops >>= λ e. Ok (finish scene e one))
  staged-initial [] [] done old ops h k = operation_values-append program scene (span_in Initial program step) done old ops ∙ bind-known (run done old) (λ d. run d ops) (λ d. run d ops >>= λ e. Ok e) (λ d is. keep (run d ops))
    where
      keep : (r : Result Done OverAt) → r ≡ (r >>= λ e. Ok e)
      keep (Ok x) = refl
      keep (Err e) = refl
  staged-initial [] (d ∷ more) done old ops h k =
      ap (λ ds. staged done (d ∷ ds) (old ++ ops)) k.0
      ∙ last-one d done (old ++ ops) k.1
      ∙ ap (λ r. r >>= λ e. Ok (with_drain e (drain_codes scene e d.from))) (operation_values-append program scene (span_in Initial program step) done old ops)
      ∙ bind-twice (run done old) (λ x. run x ops) (λ e. Ok (with_drain e (drain_codes scene e d.from)))
  staged-initial (d ∷ ds) one done old ops h k =
      let b = d.after - length done.initial in
      let few = h.0 in
      let le : b ≤ length old = omega (arith, few) in
      let front = take-append-le b old ops le in
      let rest = drop-append-le b old ops le in
      let later : Done → Done = λ x. with_drain x (drain_codes scene x d.from) in
      let after : Done → Result Done OverAt = λ x. run x ops >>= λ e. Ok (finish scene e one) in
      ap (λ p. run done p >>= λ x. staged (later x) (ds ++ one) (drop b (old ++ ops))) front
      ∙ ap (λ q. run done (take b old) >>= λ x. staged (later x) (ds ++ one) q) rest
      ∙ bind-known (run done (take b old)) (λ x. staged (later x) (ds ++ one) (drop b old ++ ops)) (λ x. staged (later x) ds (drop b old) >>= after) (λ x is.
      let n = count-after (take b old) done x is in
      let t = length-take-le b old le in
      let r = length-drop b old in
      let a = length-append old ops in
      let c = length-append (drop b old) ops in
      let same : length done.initial + length old ≡ length x.initial + length (drop b old) = omega (arith, n, t, r, le) in
      let both : length done.initial + length (old ++ ops) ≡ length x.initial + length (drop b old ++ ops) = omega (arith, n, t, r, le, a, c) in
      staged-initial ds one (later x) (drop b old) ops (subst (λ j. AllDue j ds) same h.1) (subst (λ j. IsDueAt Initial j one) both k))
      ∙ sym (bind-twice (run done (take b old)) (λ x. staged (later x) ds (drop b old)) after)

  -- how many maps are done, with drain maps between them
  count-staged : (ds : List DrainUse) (ops : List Operation) (done e : Done) → AllDue (length done.initial + length ops) ds → staged done ds ops ≡ Ok e → length e.initial ≡ length done.initial + length ops
  count-staged [] ops done e h is = count-after ops done e is
  count-staged (d ∷ ds) ops done e h is =
      let b = d.after - length done.initial in
      let few = h.0 in
      let le : b ≤ length ops = omega (arith, few) in
      let later : Done → Done = λ x. with_drain x (drain_codes scene x d.from) in
      let p = ok-before (run done (take b ops)) (λ x. staged (later x) ds (drop b ops)) e is in
      let n = count-after (take b ops) done p.0 p.1 in
      let t = length-take-le b ops le in
      let r = length-drop b ops in
      let same : length done.initial + length ops ≡ length p.0.initial + length (drop b ops) = omega (arith, n, t, r, le) in
      count-staged ds (drop b ops) (later p.0) e (subst (λ j. AllDue j ds) same h.1) p.2 ∙ sym same

-- as many maps are done as there are operations
pub staged-count : (s : Section) (program : Program) (scene : Scene) (step : ℕ) (ds : List DrainUse) (done : Done) (ops : List Operation) (e : Done) → length (maps_in s done) ≡ 0 → AreDueBehind s (length ops) ds → staged_values program scene (span_in s program step) done ds ops ≡ Ok e → length (maps_in s e) ≡ length ops
staged-count Initial program scene step ds done ops e none h is =
    let f : length ops ≡ length done.initial + length ops = omega (arith, none) in
    count-staged program scene step ds ops done e (subst (λ j. AllDue j ds) f h) is ∙ sym f
staged-count Dynamic program scene step ds done ops e none h is =
    let a = values-add Dynamic program scene step ops done e (ap (λ es. staged_values program scene (span_in Dynamic program step) done es ops) (sym h) ∙ is) in
    let l = length-append done.dynamic a.added in
    let n = a.count in
    ap (λ (x : Done). length x.dynamic) a.is ∙ (let z : length (done.dynamic ++ a.added) ≡ length ops = omega (arith, l, n, none) in z)

-- the same in each section
pub staged-push : (s : Section) (program : Program) (scene : Scene) (step : ℕ) (ds one : List DrainUse) (done : Done) (old ops : List Operation) → length (maps_in s done) ≡ 0 → AreDueBehind s (length old) ds → IsDueAt s (length (old ++ ops)) one → staged_values program scene (span_in s program step) done (ds ++ one) (old ++ ops) ≡ (staged_values program scene (span_in s program step) done ds old >>= λ d. operation_values program scene (span_in s program step) d ops >>= λ e. Ok (finish scene e one))
staged-push Initial program scene step ds one done old ops none h k =
    let e : length old ≡ length done.initial + length old = omega (arith, none) in
    let f : length (old ++ ops) ≡ length done.initial + length (old ++ ops) = omega (arith, none) in
    staged-initial program scene step ds one done old ops (subst (λ j. AllDue j ds) e h) (subst (λ j. IsDueAt Initial j one) f k)
staged-push Dynamic program scene step ds [] done old ops none h k =
    ap (λ es. staged_values program scene (span_in Dynamic program step) done (es ++ []) (old ++ ops)) h
    ∙ operation_values-append program scene (span_in Dynamic program step) done old ops
    ∙ bind-known (operation_values program scene (span_in Dynamic program step) done old) _ _ (λ d is. keep (operation_values program scene (span_in Dynamic program step) d ops))
    ∙ ap (λ es. staged_values program scene (span_in Dynamic program step) done es old >>= λ d. operation_values program scene (span_in Dynamic program step) d ops >>= λ e. Ok e) (sym h)
  where
    keep : (r : Result Done OverAt) → r ≡ (r >>= λ e. Ok e)
    keep (Ok x) = refl
    keep (Err e) = refl
staged-push Dynamic program scene step ds (d ∷ more) done old ops none h k = absurd (let z = k.2 in cc)

-- ---- operands

-- an operand keeps its map where a drain map is added
pub finish-stays : (scene : Scene) (e : Done) (one : List DrainUse) (m : ℕ) (x : Operand) → m ≤ length e.drains → DrainsBelow m x → operand_map scene (finish scene e one) x ≡ operand_map scene e x
finish-stays scene e [] m x h b = refl
finish-stays scene e (d ∷ ds) m from.Unused h b = refl
finish-stays scene e (d ∷ ds) m (from.Literal kind cell) h b = refl
finish-stays scene e (d ∷ ds) m from.Time h b = refl
finish-stays scene e (d ∷ ds) m (from.Input n) h b = refl
finish-stays scene e (d ∷ ds) m (from.Stack n) h b = refl
finish-stays scene e (d ∷ ds) m (from.Initial n) h b = refl
finish-stays scene e (d ∷ ds) m (from.Now n) h b = refl
finish-stays scene e (d ∷ ds) m (from.Last k n) h b = refl
finish-stays scene e (d ∷ ds) m (from.Drain n) h b = get_or_append_left e.drains (drain_codes scene e d.from ∷ []) [] n (omega (arith, h, b))

-- the maps of the section stay
pub finish-maps : (s : Section) (scene : Scene) (e : Done) (one : List DrainUse) → maps_in s (finish scene e one) ≡ maps_in s e
finish-maps s scene e [] = refl
finish-maps Initial scene e (d ∷ ds) = refl
finish-maps Dynamic scene e (d ∷ ds) = refl

pub finish-nth : (scene : Scene) (e : Done) (one : List DrainUse) (n : ℕ) → n < length e.drains → nth (finish scene e one).drains n ≡ nth e.drains n
finish-nth scene e [] n h = refl
finish-nth scene e (d ∷ ds) n h = get_or_append_left e.drains (drain_codes scene e d.from ∷ []) [] n h
