-- The operations and maps of a section, where more are written and done.
use Rattle.std.proofs.Common.{◌≡◌, false, ℕ, ◌<◌, ◌≤◌, List, [], ◌∷◌, ◌++◌, length, refl, sym, ap, ◌∙◌, Ok, Err, Result, arith, append_assoc, append-nil}
use Rattle.std.specs.Prelude.{IfSome, None, Option, Some, slice_get}
use Rattle.std.proofs.lemmas.List.{get_or_append_left}
use Rattle.text_base.specs.Results.{◌>>=◌}
use Rattle.cell_values.specs.declared.kind.Kind.{Kind}
use Rattle.cell_values.specs.declared.kind.Kind.TheVariants.{Ldd}
use Rattle.map_meaning.specs.declared.known.OverAt.{OverAt}
use Rattle.map_meaning.specs.declared.program.DrainUse.{DrainUse}
use Rattle.map_meaning.specs.declared.program.Operand.{Operand}
use Rattle.map_meaning.specs.declared.program.Operand.TheVariants as from
use Rattle.map_meaning.specs.declared.program.Operation.{Operation}
use Rattle.map_meaning.specs.declared.program.Program.{Program}
use Rattle.map_meaning.specs.Evaluation.{Done, operand_map, operation_value, operation_values, with_map}
use Rattle.map_meaning.specs.Maps.{WholeMap, nth}
use Rattle.map_meaning.specs.Programs.{IsDueBy, operand_kind, operation_kind}
use Rattle.map_meaning.specs.Scenes.{Scene}
use Rattle.map_meaning.specs.Table.{is_kind}
use Rattle.script_types.specs.declared.typed.Section.{Section}
use Rattle.script_types.specs.declared.typed.Section.TheVariants.{Initial, Dynamic}
use Rattle.script_types.specs.inside.Drains.{IsDrainBelow, drain_named}
use Rattle.script_types.specs.inside.Fits.{Ground}
use Rattle.script_types.specs.inside.Sections.{IsBegun, Holder, IsGiven, MayRead, NamesBefore, Stands, maps_in, operations_within, own_operand, span_in, with_maps}
use Rattle.script_types.specs.inside.Values.{AllBefore, AreDrainOperands, AreGiven}

-- ---- maps

-- no more maps
pub with-nothing : (s : Section) (d : Done) → with_maps s d [] ≡ d
with-nothing Initial d = let f : List WholeMap → Done = λ ms. record { initial = ms; dynamic = d.dynamic; last = d.last; drains = d.drains } in ap f (append-nil d.initial)
with-nothing Dynamic d = let f : List WholeMap → Done = λ ms. record { initial = d.initial; dynamic = ms; last = d.last; drains = d.drains } in ap f (append-nil d.dynamic)

-- more maps, and more behind them
pub with-both : (s : Section) (d : Done) (xs ys : List WholeMap) → with_maps s (with_maps s d xs) ys ≡ with_maps s d (xs ++ ys)
with-both Initial d xs ys = let f : List WholeMap → Done = λ ms. record { initial = ms; dynamic = d.dynamic; last = d.last; drains = d.drains } in ap f (append_assoc d.initial xs ys)
with-both Dynamic d xs ys = let f : List WholeMap → Done = λ ms. record { initial = d.initial; dynamic = ms; last = d.last; drains = d.drains } in ap f (append_assoc d.dynamic xs ys)

pub maps-with : (s : Section) (d : Done) (xs : List WholeMap) → maps_in s (with_maps s d xs) ≡ maps_in s d ++ xs
maps-with Initial d xs = refl
maps-with Dynamic d xs = refl

-- one more operation of a section adds its map
pub step-with : (s : Section) (program : Program) (step : ℕ) (d : Done) (m : WholeMap) → with_map (span_in s program step) d m ≡ with_maps s d (m ∷ [])
step-with Initial program step d m = refl
step-with Dynamic program step d m = refl

-- operations that are done add a map each, and keep what was done
pub record Adds (s : Section) (d : Done) (ops : List Operation) (after : Done) : Type 0 where
  pub added : List WholeMap
  pub is : after ≡ with_maps s d added
  pub count : length added ≡ length ops

pub values-add : (s : Section) (program : Program) (scene : Scene) (step : ℕ) (ops : List Operation) (d after : Done) → operation_values program scene (span_in s program step) d ops ≡ Ok after → Adds s d ops after
values-add s program scene step [] d after h = let same : after ≡ d = cc in record { added = []; is = same ∙ sym (with-nothing s d); count = refl }
values-add s program scene step (o ∷ more) d after h = add-step (operation_value program scene d o) h (λ m g. values-add s program scene step more (with_map (span_in s program step) d m) after g)
  where
    add-step : (r : Result WholeMap OverAt) → (r >>= λ m. operation_values program scene (span_in s program step) (with_map (span_in s program step) d m) more) ≡ Ok after → ((m : WholeMap) → operation_values program scene (span_in s program step) (with_map (span_in s program step) d m) more ≡ Ok after → Adds s (with_map (span_in s program step) d m) more after) → Adds s d (o ∷ more) after
    add-step (Err e) h ih = cc
    add-step (Ok m) h ih =
        let a = ih m h in
        let c : length a.added ≡ length more = a.count in
        record {
          added = m ∷ a.added;
          is = a.is ∙ ap (λ x. with_maps s x a.added) (step-with s program step d m) ∙ with-both s d (m ∷ []) a.added;
          count = omega (arith, c);
        }

-- ---- operands

-- an operand keeps its map
pub operand-stays : (s : Section) (scene : Scene) (d : Done) (added : List WholeMap) (x : Operand) → NamesBefore s (length (maps_in s d)) x → operand_map scene (with_maps s d added) x ≡ operand_map scene d x
operand-stays Initial scene d added from.Unused h = refl
operand-stays Initial scene d added (from.Literal kind cell) h = refl
operand-stays Initial scene d added from.Time h = refl
operand-stays Initial scene d added (from.Input n) h = refl
operand-stays Initial scene d added (from.Stack n) h = refl
operand-stays Initial scene d added (from.Initial n) h = get_or_append_left d.initial added [] n h
operand-stays Initial scene d added (from.Now n) h = refl
operand-stays Initial scene d added (from.Last k n) h = absurd h
operand-stays Initial scene d added (from.Drain n) h = refl
operand-stays Dynamic scene d added from.Unused h = refl
operand-stays Dynamic scene d added (from.Literal kind cell) h = refl
operand-stays Dynamic scene d added from.Time h = refl
operand-stays Dynamic scene d added (from.Input n) h = refl
operand-stays Dynamic scene d added (from.Stack n) h = refl
operand-stays Dynamic scene d added (from.Initial n) h = refl
operand-stays Dynamic scene d added (from.Now n) h = get_or_append_left d.dynamic added [] n h
operand-stays Dynamic scene d added (from.Last k n) h = refl
operand-stays Dynamic scene d added (from.Drain n) h = refl

-- an operation's own operand
pub own-map : (s : Section) (scene : Scene) (d : Done) (n : ℕ) → operand_map scene d (own_operand s n) ≡ nth (maps_in s d) n
own-map Initial scene d n = refl
own-map Dynamic scene d n = refl

pub own-kind : (s : Section) (program : Program) (n : ℕ) → operand_kind program (own_operand s n) ≡ operation_kind (operations_within s program) n
own-kind Initial program n = refl
own-kind Dynamic program n = refl

pub own-given : (s : Section) (program : Program) (n k : ℕ) → n < k → IsGiven program s k (own_operand s n)
own-given Initial program n k h = record { read = h; used = refl }
own-given Dynamic program n k h = record { read = h; used = refl }

pub own-before : (s : Section) (n k : ℕ) → n < k → NamesBefore s k (own_operand s n)
own-before Initial n k h = h
own-before Dynamic n k h = h

-- what may be read is before
pub read-before : (program : Program) (s : Section) (n : ℕ) (x : Operand) → MayRead program s n x → NamesBefore s n x
read-before program Initial n from.Unused h = tt
read-before program Initial n (from.Literal kind cell) h = tt
read-before program Initial n from.Time h = tt
read-before program Initial n (from.Input i) h = tt
read-before program Initial n (from.Stack i) h = tt
read-before program Initial n (from.Initial i) h = h
read-before program Initial n (from.Now i) h = tt
read-before program Initial n (from.Last k i) h = h
read-before program Initial n (from.Drain i) h = tt
read-before program Dynamic n from.Unused h = tt
read-before program Dynamic n (from.Literal kind cell) h = tt
read-before program Dynamic n from.Time h = tt
read-before program Dynamic n (from.Input i) h = tt
read-before program Dynamic n (from.Stack i) h = tt
read-before program Dynamic n (from.Initial i) h = tt
read-before program Dynamic n (from.Now i) h = h
read-before program Dynamic n (from.Last k i) h = tt
read-before program Dynamic n (from.Drain i) h = tt

-- and so it is at a later operation
pub before-more : (s : Section) (n k : ℕ) (x : Operand) → n ≤ k → NamesBefore s n x → NamesBefore s k x
before-more Initial n k from.Unused h b = tt
before-more Initial n k (from.Literal kind cell) h b = tt
before-more Initial n k from.Time h b = tt
before-more Initial n k (from.Input i) h b = tt
before-more Initial n k (from.Stack i) h b = tt
before-more Initial n k (from.Initial i) h b = omega (arith, h, b)
before-more Initial n k (from.Now i) h b = tt
before-more Initial n k (from.Last d i) h b = b
before-more Initial n k (from.Drain i) h b = tt
before-more Dynamic n k from.Unused h b = tt
before-more Dynamic n k (from.Literal kind cell) h b = tt
before-more Dynamic n k from.Time h b = tt
before-more Dynamic n k (from.Input i) h b = tt
before-more Dynamic n k (from.Stack i) h b = tt
before-more Dynamic n k (from.Initial i) h b = tt
before-more Dynamic n k (from.Now i) h b = omega (arith, h, b)
before-more Dynamic n k (from.Last d i) h b = tt
before-more Dynamic n k (from.Drain i) h b = tt

due-more : (program : Program) (n k i : ℕ) → n ≤ k → IsDueBy program n i → IsDueBy program k i
due-more program n k i h b = record { within = b.within; after = at-most (slice_get program.drains i) b.after }
  where
    at-most : (o : Option DrainUse) → IfSome o (λ d. d.after ≤ n) → IfSome o (λ d. d.after ≤ k)
    at-most None a = tt
    at-most (Some d) a = omega (arith, a, h)

pub read-more : (program : Program) (s : Section) (n k : ℕ) (x : Operand) → n ≤ k → MayRead program s n x → MayRead program s k x
read-more program Initial n k from.Unused h b = tt
read-more program Initial n k (from.Literal kind cell) h b = b
read-more program Initial n k from.Time h b = b
read-more program Initial n k (from.Input i) h b = b
read-more program Initial n k (from.Stack i) h b = b
read-more program Initial n k (from.Initial i) h b = omega (arith, h, b)
read-more program Initial n k (from.Now i) h b = b
read-more program Initial n k (from.Last d i) h b = b
read-more program Initial n k (from.Drain i) h b = due-more program n k i h b
read-more program Dynamic n k from.Unused h b = tt
read-more program Dynamic n k (from.Literal kind cell) h b = b
read-more program Dynamic n k from.Time h b = tt
read-more program Dynamic n k (from.Input i) h b = b
read-more program Dynamic n k (from.Stack i) h b = b
read-more program Dynamic n k (from.Initial i) h b = b
read-more program Dynamic n k (from.Now i) h b = omega (arith, h, b)
read-more program Dynamic n k (from.Last d i) h b = b
read-more program Dynamic n k (from.Drain i) h b = b

pub given-more : (program : Program) (s : Section) (n k : ℕ) (x : Operand) → n ≤ k → IsGiven program s n x → IsGiven program s k x
given-more program s n k x h g = record { read = read-more program s n k x h g.read; used = g.used }

-- ---- drain maps

-- a drain map is one of more
pub drain-more : (m k : ℕ) (kind : Kind) (x : Operand) → m ≤ k → IsDrainBelow m kind x → IsDrainBelow k kind x
drain-more m k kind from.Unused h b = b
drain-more m k kind (from.Literal c v) h b = b
drain-more m k kind from.Time h b = b
drain-more m k kind (from.Input i) h b = b
drain-more m k kind (from.Stack i) h b = b
drain-more m k kind (from.Initial i) h b = b
drain-more m k kind (from.Now i) h b = b
drain-more m k kind (from.Last d i) h b = b
drain-more m k kind (from.Drain i) h b = omega (arith, h, b)

-- an operation's own map is no drain map
pub own-drain : (s : Section) (m n : ℕ) (kind : Kind) → is_kind Ldd kind ≡ false → IsDrainBelow m kind (own_operand s n)
own-drain Initial m n kind h = h
own-drain Dynamic m n kind h = h

-- an operand of their kind is a drain map
pub drain-is : (m : ℕ) (x : Operand) → IsDrainBelow m Ldd x → (x ≡ from.Drain (drain_named x)) × (drain_named x < m)
drain-is m from.Unused b = cc
drain-is m (from.Literal c v) b = cc
drain-is m from.Time b = cc
drain-is m (from.Input i) b = cc
drain-is m (from.Stack i) b = cc
drain-is m (from.Initial i) b = cc
drain-is m (from.Now i) b = cc
drain-is m (from.Last d i) b = cc
drain-is m (from.Drain i) b = (refl, b)

pub all-drains-push : (m : ℕ) (kinds : List Kind) (xs : List Operand) (kind : Kind) (x : Operand) → length xs ≡ length kinds → AreDrainOperands m kinds xs → IsDrainBelow m kind x → AreDrainOperands m (kinds ++ kind ∷ []) (xs ++ x ∷ [])
all-drains-push m [] [] kind x e a b = (b, tt)
all-drains-push m [] (y ∷ xs) kind x e a b = cc
all-drains-push m (k ∷ kinds) [] kind x e a b = cc
all-drains-push m (k ∷ kinds) (y ∷ xs) kind x e a b = (a.0, all-drains-push m kinds xs kind x (omega (arith, e)) a.1 b)

-- ---- lists of operands

pub all-before-more : (s : Section) (n k : ℕ) (xs : List Operand) → n ≤ k → AllBefore s n xs → AllBefore s k xs
all-before-more s n k [] h a = tt
all-before-more s n k (x ∷ xs) h a = (before-more s n k x h a.0, all-before-more s n k xs h a.1)

pub all-before-push : (s : Section) (n : ℕ) (xs : List Operand) (x : Operand) → AllBefore s n xs → NamesBefore s n x → AllBefore s n (xs ++ x ∷ [])
all-before-push s n [] x a b = (b, tt)
all-before-push s n (y ∷ xs) x a b = (a.0, all-before-push s n xs x a.1 b)

pub all-given-more : (program : Program) (s : Section) (n k : ℕ) (xs : List Operand) → n ≤ k → AreGiven program s n xs → AreGiven program s k xs
all-given-more program s n k [] h a = tt
all-given-more program s n k (x ∷ xs) h a = (given-more program s n k x h a.0, all-given-more program s n k xs h a.1)

pub all-given-push : (program : Program) (s : Section) (n : ℕ) (xs : List Operand) (x : Operand) → AreGiven program s n xs → IsGiven program s n x → AreGiven program s n (xs ++ x ∷ [])
all-given-push program s n [] x a h = (h, tt)
all-given-push program s n (y ∷ xs) x a h = (a.0, all-given-push program s n xs x a.1 h)

-- ---- programs

-- a section that begins with more begins with less
abbrev pub begins-less : (s : Section) (program : Program) (less new added : List Operation) → new ≡ less ++ added → IsBegun s new program → IsBegun s less program
begins-less s program less new added e b = record { more = added ++ b.more; is = b.is ∙ ap (λ ops. ops ++ b.more) e ∙ append_assoc less added b.more }

abbrev pub stands-less : (s : Section) (g : Ground) (holder : Holder) (first : ℕ) (program : Program) (less new added : List Operation) → new ≡ less ++ added → Stands s g holder first new program → Stands s g holder first less program
stands-less s g holder first program less new added e x = record { around = x.around; begins = begins-less s program less new added e x.begins }
