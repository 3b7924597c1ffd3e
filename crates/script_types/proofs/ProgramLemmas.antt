-- The inputs that are written of the bindings of a script, one binding after the other, and how many drain maps are written.
use Rattle.std.proofs.Common.{◌≡◌, ◌≤◌, ℕ, suc, ◌+◌, Bool, true, false, List, [], ◌∷◌, ◌++◌, map, filter, length, take, drop, refl, sym, ap, subst, ◌∙◌, if◌then◌else◌, append_assoc, arith, length-append}
use Rattle.std.specs.Prelude.{None, Option, Some}
use Rattle.std.specs.Option.{unwrap_or}
use Rattle.std.proofs.lemmas.List.{length-map}
use Rattle.cell_values.specs.declared.kind.Kind.TheVariants.{Scalar}
use Rattle.script_syntax.specs.declared.tree.Binding.{Binding}
use Rattle.script_syntax.specs.declared.tree.Script.{Script}
use Rattle.map_meaning.specs.declared.program.DrainFrom.TheVariants as drain
use Rattle.map_meaning.specs.declared.program.DrainUse.{DrainUse}
use Rattle.map_meaning.specs.declared.program.InputUse.{InputUse}
use Rattle.map_meaning.specs.declared.program.Operand.{Operand}
use Rattle.map_meaning.specs.declared.program.Operand.TheVariants.{Unused}
use Rattle.map_meaning.specs.declared.program.Operation.{Operation}
use Rattle.map_meaning.specs.declared.program.OutputUse.{OutputUse}
use Rattle.map_meaning.specs.Programs.{SuitsRole}
use Rattle.script_types.specs.declared.names.Names.{Names}
use Rattle.script_types.specs.declared.typed.Line.{Line}
use Rattle.script_types.specs.declared.typed.Section.{Section}
use Rattle.script_types.specs.Lowered.{as_shown_drain, grid_input, input_of, inputs_of, is_drain_input, statement_drains}
use Rattle.script_types.specs.Names.{binding_of, is_assigned, is_input_by, is_used, used_inputs}
use Rattle.script_types.specs.Reports.{Bound, area_files}
use Rattle.script_types.specs.inside.Drains.{input_uses}
use Rattle.script_types.specs.inside.Look.{look}
use Rattle.script_types.specs.inside.Nodes.{held_in}
use Rattle.script_types.specs.inside.Programs.{AllSuit, nothing_held}
use Rattle.script_types.specs.inside.Sections.{Holder}
use Rattle.script_types.specs.inside.Written.{AreWritten}
use Rattle.script_types.proofs.Orders.{statements-drains-few}
use Rattle.script_types.proofs.Pairwise.{Each}

-- the input of the next binding suits, where it is one
pub suits-first : (f : Binding → InputUse) (p : Binding → Bool) (b : Binding) (rest : List Binding) → AllSuit (map f (filter p (b ∷ rest))) → p b ≡ true → SuitsRole (f b).kind (f b).role
suits-first f p b rest h e = (subst (λ t. AllSuit (map f (if t then b ∷ filter p rest else filter p rest))) e h).0

-- and so do those of the others
pub suits-next : (f : Binding → InputUse) (p : Binding → Bool) (b : Binding) (rest : List Binding) → AllSuit (map f (filter p (b ∷ rest))) → AllSuit (map f (filter p rest))
suits-next f p b rest h = by-test (p b) h
  where
    by-test : (t : Bool) → AllSuit (map f (if t then b ∷ filter p rest else filter p rest)) → AllSuit (map f (filter p rest))
    by-test true g = g.1
    by-test false g = g

-- the inputs so far, with that of the next binding
pub inputs-next : (f : Binding → InputUse) (p : Binding → Bool) (t : Bool) (b : Binding) (rest : List Binding) (old new : List InputUse) → t ≡ p b → new ≡ old ++ (if t then f b ∷ [] else []) → new ++ map f (filter p rest) ≡ old ++ map f (filter p (b ∷ rest))
inputs-next f p t b rest old new ht hn = ap (λ xs. xs ++ map f (filter p rest)) (hn ∙ ap (λ u. old ++ (if u then f b ∷ [] else [])) ht) ∙ append_assoc old (if p b then f b ∷ [] else []) (map f (filter p rest)) ∙ ap (λ xs. old ++ xs) (by-test (p b))
  where
    by-test : (u : Bool) → (if u then f b ∷ [] else []) ++ map f (filter p rest) ≡ map f (if u then b ∷ filter p rest else filter p rest)
    by-test true = refl
    by-test false = refl

-- what suits each suits all
pub all-suit : (inputs : List InputUse) → Each (λ (i : InputUse). SuitsRole i.kind i.role) inputs → AllSuit inputs
all-suit [] h = h
all-suit (i ∷ inputs) h = (h.0, all-suit inputs h.1)

pub suit-last : (xs ys : List InputUse) → AllSuit (xs ++ ys) → AllSuit ys
suit-last [] ys h = h
suit-last (x ∷ xs) ys h = suit-last xs ys h.1

-- ---- two parts of the lines

take-length : {A : Type 0} (xs ys : List A) → take (length xs) (xs ++ ys) ≡ xs
take-length [] [] = refl
take-length [] (y ∷ ys) = refl
take-length (x ∷ xs) ys = ap (λ zs. x ∷ zs) (take-length xs ys)

drop-length : {A : Type 0} (xs ys : List A) → drop (length xs) (xs ++ ys) ≡ ys
drop-length [] [] = refl
drop-length [] (y ∷ ys) = refl
drop-length (x ∷ xs) ys = drop-length xs ys

-- the first part, and the second
pub take-first : {A : Type 0} (all xs ys : List A) (n : ℕ) → all ≡ xs ++ ys → n ≡ length xs → take n all ≡ xs
take-first all xs ys n e h = ap (take n) e ∙ ap (λ k. take k (xs ++ ys)) h ∙ take-length xs ys

pub drop-first : {A : Type 0} (all xs ys : List A) (n : ℕ) → all ≡ xs ++ ys → n ≡ length xs → drop n all ≡ ys
drop-first all xs ys n e h = ap (drop n) e ∙ ap (λ k. drop k (xs ++ ys)) h ∙ drop-length xs ys

-- a table without names holds none
pub nothing-held : (table : Names Operand) → ((name : List ℕ) → look table.values name ≡ None) → (name : List ℕ) → held_in table name ≡ nothing_held name
nothing-held table h name = ap (λ o. unwrap_or o Unused) (h name)

-- ---- few inputs and drain maps

filter-few : (p : Binding → Bool) (bs : List Binding) → length (filter p bs) ≤ length bs
filter-few p [] = omega arith
filter-few p (b ∷ bs) = by-test (p b) (filter p bs) (length bs) (filter-few p bs)
  where
    by-test : (t : Bool) (rest : List Binding) (n : ℕ) → length rest ≤ n → length (if t then b ∷ rest else rest) ≤ suc n
    by-test true rest n h = omega (arith, h)
    by-test false rest n h = omega (arith, h)

-- a script has no more inputs than bindings, and the area map
pub inputs-few : (script : Script) → length script.bindings ≤ 1000 → length (inputs_of script) ≤ 1001
inputs-few script h =
    let used = filter-few (is_input_by (is_assigned script) (is_used script)) script.bindings in
    let both = length-append (map (λ file. grid_input file Scalar) (area_files (binding_of script script.area) script.area)) (map (input_of script) (used_inputs script)) in
    let first = area-few (binding_of script script.area) in
    let many = length-map (used_inputs script) (input_of script) in
    omega (arith, used, both, first, many, h)
  where
    area-few : (o : Option Binding) → length (map (λ file. grid_input file Scalar) (area_files o script.area)) ≤ 1
    area-few None = omega arith
    area-few (Some b) = omega arith

-- there are no more drain maps of inputs than inputs
pub uses-few : (n : ℕ) (inputs : List InputUse) → length (input_uses n inputs) ≤ length inputs
uses-few n [] = omega arith
uses-few n (i ∷ is) = by-test (is_drain_input i) (input_uses (n + 1) is) (uses-few (n + 1) is)
  where
    by-test : (t : Bool) (rest : List DrainUse) → length rest ≤ length is → length (if t then record { from = drain.Input n; after = 0 } ∷ rest else rest) ≤ suc (length is)
    by-test true rest h = omega (arith, h)
    by-test false rest h = omega (arith, h)

-- and no more of statements than statements
pub added-few : (before : ℕ) (added : List DrainUse) (lines : List Line) → map as_shown_drain added ≡ statement_drains before lines → length added ≤ length lines
added-few before added lines h = let e = sym (length-map added as_shown_drain) ∙ ap length h in let k = statements-drains-few before lines in omega (arith, e, k)

-- ---- what was written

-- what was written of a section, in other words
pub written-same : (section : Section) (bound : Bound) (numbers numbers' : List ℕ) (start : Holder) (k k' : ℕ) (ls ls' : List Line) (held : Holder) (ops : List Operation) (ds ds' more : List DrainUse) (us us' outputs : List OutputUse) → numbers ≡ numbers' → k ≡ k' → ls ≡ ls' → ds ≡ ds' → us ≡ us' → AreWritten section bound numbers start k ls held ops ds more us outputs → AreWritten section bound numbers' start k' ls' held ops ds' more us' outputs
written-same section bound numbers numbers' start k k' ls ls' held ops ds ds' more us us' outputs en ek el ed eu w =
    subst (λ n. AreWritten section bound n start k' ls' held ops ds' more us' outputs) en
    (subst (λ n. AreWritten section bound numbers start n ls' held ops ds' more us' outputs) ek
    (subst (λ x. AreWritten section bound numbers start k x held ops ds' more us' outputs) el
    (subst (λ x. AreWritten section bound numbers start k ls held ops x more us' outputs) ed
    (subst (λ x. AreWritten section bound numbers start k ls held ops ds more x outputs) eu w))))

-- the drain maps of inputs and of the statements of one part leave room for those of the other
pub drains-room : (inputs : List InputUse) (xs ys : List Line) (uses more added : List DrainUse) → length inputs ≤ 1001 → length xs + length ys ≤ 1000 → uses ≡ input_uses 0 inputs → more ≡ uses ++ added → map as_shown_drain added ≡ statement_drains 0 xs → length more + length ys ≤ 2001
drains-room inputs xs ys uses more added hi hl hu hm hs =
    let all = ap length hm ∙ length-append uses added in
    let k = uses-few 0 inputs in
    let e = ap length hu in
    let j = added-few 0 added xs hs in
    omega (arith, all, k, e, j, hi, hl)
