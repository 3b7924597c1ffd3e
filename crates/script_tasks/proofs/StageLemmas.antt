-- The stages of a program are those of the statements.
use Rattle.std.proofs.Common.{◌≡◌, ◌+◌, ◌-◌, ◌≤◌, ℕ, Bool, true, false, List, [], ◌∷◌, ◌++◌, map, filter, length, refl, sym, ap, ap₂, ◌∙◌, subst, arith, Some, None, is_none, slice_range, take, drop, append_assoc, append-nil, length-append, length-drop, if◌then◌else◌, le_refl, zero-le}
use Rattle.std.specs.Prelude.{⊤}
use Rattle.std.proofs.lemmas.List.{drop-append-le, length-map}
use Rattle.std.proofs.Math.Seq.{take-append_seam}
use Rattle.cell_values.specs.declared.kind.Kind.TheVariants.{Ldd}
use Rattle.map_meaning.specs.declared.known.Span.{Span}
use Rattle.map_meaning.specs.declared.known.Span.TheVariants as span
use Rattle.map_meaning.specs.declared.program.DrainUse.{DrainUse}
use Rattle.map_meaning.specs.declared.program.DrainFrom.{DrainFrom}
use Rattle.map_meaning.specs.declared.program.DrainFrom.TheVariants as from
use Rattle.map_meaning.specs.declared.program.InputUse.{InputUse}
use Rattle.map_meaning.specs.declared.program.Program.{Program}
use Rattle.map_meaning.specs.Spans.{initial_stages, is_computed, stages_from}
use Rattle.map_meaning.specs.Table.{is_kind}
use Rattle.script_syntax.specs.declared.tree.Script.{Script}
use Rattle.script_types.specs.declared.typed.Line.{Line}
use Rattle.script_types.specs.declared.typed.Section.TheVariants.{Initial}
use Rattle.script_types.specs.Answers.{IsProgramOf}
use Rattle.script_types.specs.Lowered.{Listed, ShownDrain, as_listed, as_shown_drain, drain_input, input_drains, inputs_of, is_drain_input, lines_in, operations_from, statement_drains}
use Rattle.script_types.specs.Statements.{operations_of}
use Rattle.task_graph.specs.Counts.{span_tasks}
use Rattle.script_tasks.specs.Tasks.{in_first, line_tasks, lines_tasks, stages_among}
use Rattle.script_tasks.proofs.TaskLemmas.{listed-append, listed_tasks, own-length, own-tasks, own_listed, tasks-between}

-- ---- where stages end

-- the drain map is one of a statement
abbrev pub of_statement : ShownDrain → Bool
of_statement d = is_none d.input

from-statement : (f : DrainFrom) → is_computed f ≡ is_none (drain_input f)
from-statement (from.Input n) = refl
from-statement (from.Same n) = refl
from-statement (from.Mask of by) = refl

-- the numbers of operations before the computed drain maps, by what these show
pub ends-shown : (ds : List DrainUse) → map (λ (d : DrainUse). d.after) (filter (λ (d : DrainUse). is_computed d.from) ds) ≡ map (λ (d : ShownDrain). d.after) (filter of_statement (map as_shown_drain ds))
ends-shown [] = refl
ends-shown (d ∷ ds) = both (ends-shown ds) (is_computed d.from) (of_statement (as_shown_drain d)) (from-statement d.from)
  where
    both : map (λ (d : DrainUse). d.after) (filter (λ (d : DrainUse). is_computed d.from) ds) ≡ map (λ (d : ShownDrain). d.after) (filter of_statement (map as_shown_drain ds)) → (a b : Bool) → a ≡ b → map (λ (d : DrainUse). d.after) (if a then d ∷ filter (λ (d : DrainUse). is_computed d.from) ds else filter (λ (d : DrainUse). is_computed d.from) ds) ≡ map (λ (d : ShownDrain). d.after) (if b then as_shown_drain d ∷ filter of_statement (map as_shown_drain ds) else filter of_statement (map as_shown_drain ds))
    both rest true true h = ap (λ ns. d.after ∷ ns) rest
    both rest false false h = rest
    both rest true false h = let z = h in cc
    both rest false true h = let z = h in cc

-- no drain map of an input is one of a statement
no-input : (n : ℕ) (inputs : List InputUse) (more : List ShownDrain) → filter of_statement (input_drains n inputs ++ more) ≡ filter of_statement more
no-input n [] more = refl
no-input n (input ∷ inputs) more = split (no-input (n + 1) inputs more) (is_drain_input input) refl
  where
    split : filter of_statement (input_drains (n + 1) inputs ++ more) ≡ filter of_statement more → (b : Bool) → is_drain_input input ≡ b → filter of_statement (input_drains n (input ∷ inputs) ++ more) ≡ filter of_statement more
    split rest true h = ap (λ c. filter of_statement ((if c then record { input = Some n; after = 0 } ∷ input_drains (n + 1) inputs else input_drains (n + 1) inputs) ++ more)) h ∙ rest
    split rest false h = ap (λ c. filter of_statement ((if c then record { input = Some n; after = 0 } ∷ input_drains (n + 1) inputs else input_drains (n + 1) inputs) ++ more)) h ∙ rest

-- all those of statements are
all-of-statements : (before : ℕ) (ls : List Line) → filter of_statement (statement_drains before ls) ≡ statement_drains before ls
all-of-statements before [] = refl
all-of-statements before (l ∷ ls) = split (all-of-statements (before + operations_of l.statement.value) ls) (is_kind Ldd l.kind) refl
  where
    after : ℕ
    after = before + operations_of l.statement.value

    split : filter of_statement (statement_drains after ls) ≡ statement_drains after ls → (b : Bool) → is_kind Ldd l.kind ≡ b → filter of_statement (statement_drains before (l ∷ ls)) ≡ statement_drains before (l ∷ ls)
    split rest true h = ap (λ c. filter of_statement (if c then record { input = None; after = after } ∷ statement_drains after ls else statement_drains after ls)) h ∙ ap (λ ds. record { input = None; after = after } ∷ ds) rest ∙ ap (λ c. if c then record { input = None; after = after } ∷ statement_drains after ls else statement_drains after ls) (sym h)
    split rest false h = ap (λ c. filter of_statement (if c then record { input = None; after = after } ∷ statement_drains after ls else statement_drains after ls)) h ∙ rest ∙ ap (λ c. if c then record { input = None; after = after } ∷ statement_drains after ls else statement_drains after ls) (sym h)

-- the numbers of operations behind the statements that are drain maps
abbrev pub ends_of : ℕ → List Line → List ℕ
ends_of before ls = map (λ (d : ShownDrain). d.after) (statement_drains before ls)

-- ---- stages

-- the same numbers, with so many more in the first
abbrev pub more_in_first : ℕ → List ℕ → List ℕ
more_in_first n [] = n ∷ []
more_in_first n (m ∷ ms) = (n + m) ∷ ms

-- how many tasks a part of what operations show has
abbrev pub span_listed : ℕ → List Listed → Span → ℕ
span_listed tiles xs (span.Initial first end) = listed_tasks tiles (slice_range xs first end)
span_listed tiles xs (span.Steps first last) = 0

-- a statement more in the first stage
joins-first : (tiles n : ℕ) (l : Line) (stages : List (List Line)) → more_in_first (n + line_tasks tiles l) (map (lines_tasks tiles) stages) ≡ more_in_first n (map (lines_tasks tiles) (in_first l stages))
joins-first tiles n l [] = let e : n + line_tasks tiles l ≡ n + (line_tasks tiles l + 0) = omega arith in ap (λ k. k ∷ []) e
joins-first tiles n l (s ∷ stages) = let e : n + line_tasks tiles l + lines_tasks tiles s ≡ n + (line_tasks tiles l + lines_tasks tiles s) = omega arith in ap (λ k. k ∷ map (lines_tasks tiles) stages) e

-- there is a first stage
first-stage : (tiles : ℕ) (ls : List Line) → more_in_first 0 (map (lines_tasks tiles) (stages_among ls)) ≡ map (lines_tasks tiles) (stages_among ls)
first-stage tiles ls = none (stages_among ls) (some ls)
  where
    IsThere : List (List Line) → Type 0
    IsThere [] = ⊥
    IsThere (s ∷ stages) = ⊤

    there : (l : Line) (stages : List (List Line)) → IsThere (in_first l stages)
    there l [] = tt
    there l (s ∷ stages) = tt

    some : (ls : List Line) → IsThere (stages_among ls)
    some [] = tt
    some (l ∷ ls) = split (is_kind Ldd l.kind)
      where
        split : (b : Bool) → IsThere (if b then (l ∷ []) ∷ stages_among ls else in_first l (stages_among ls))
        split true = tt
        split false = there l (stages_among ls)

    none : (stages : List (List Line)) → IsThere stages → more_in_first 0 (map (lines_tasks tiles) stages) ≡ map (lines_tasks tiles) stages
    none [] h = absurd h
    none (s ∷ stages) h = let e : 0 + lines_tasks tiles s ≡ lines_tasks tiles s = omega arith in ap (λ n. n ∷ map (lines_tasks tiles) stages) e

-- a part of a list up to where another list begins
cut-front : {X : Type 0} (xs ys : List X) (first : ℕ) → first ≤ length xs → slice_range (xs ++ ys) first (length xs) ≡ drop first xs
cut-front xs ys first h =
    ap (take (length xs - first)) (drop-append-le first xs ys h)
    ∙ ap (λ n. take n (drop first xs ++ ys)) (sym (length-drop first xs))
    ∙ take-append_seam (drop first xs) ys

-- what stands behind all is nothing
drop-length : {X : Type 0} (xs : List X) → drop (length xs) xs ≡ []
drop-length [] = refl
drop-length (x ∷ xs) = drop-length xs

-- The stages of what stands behind some operations: the first of them has also the tasks of those of these that are in it.
abbrev HasStages : ℕ → ℕ → ℕ → List Listed → List Line → Type 0
HasStages tiles statement first front ls =
    let all = front ++ operations_from statement ls in
    map (span_listed tiles all) (stages_from first (ends_of (length front) ls) (length all))
    ≡ more_in_first (listed_tasks tiles (drop first front)) (map (lines_tasks tiles) (stages_among ls))

-- the tasks of a statement are those of its operations behind others
pending : (tiles statement first : ℕ) (front : List Listed) (l : Line) → first ≤ length front → listed_tasks tiles (drop first (front ++ own_listed statement l)) ≡ listed_tasks tiles (drop first front) + line_tasks tiles l
pending tiles statement first front l h =
    ap (listed_tasks tiles) (drop-append-le first front (own_listed statement l) h)
    ∙ listed-append tiles (drop first front) (own_listed statement l)
    ∙ ap (λ n. listed_tasks tiles (drop first front) + n) (own-tasks tiles statement l)

-- one statement more stands in front
one-more : (tiles statement first : ℕ) (front : List Listed) (l : Line) (ls : List Line) → HasStages tiles (statement + 1) first (front ++ own_listed statement l) ls →
    let all = front ++ operations_from statement (l ∷ ls) in
    map (span_listed tiles all) (stages_from first (ends_of (length front + operations_of l.statement.value) ls) (length all))
    ≡ more_in_first (listed_tasks tiles (drop first (front ++ own_listed statement l))) (map (lines_tasks tiles) (stages_among ls))
one-more tiles statement first front l ls h =
    let same = append_assoc front (own_listed statement l) (operations_from (statement + 1) ls) in
    let count : length front + operations_of l.statement.value ≡ length (front ++ own_listed statement l) = sym (length-append front (own_listed statement l) ∙ ap (λ n. length front + n) (own-length statement l)) in
    ap (λ xs. map (span_listed tiles xs) (stages_from first (ends_of (length front + operations_of l.statement.value) ls) (length xs))) (sym same)
    ∙ ap (λ n. map (span_listed tiles ((front ++ own_listed statement l) ++ operations_from (statement + 1) ls)) (stages_from first (ends_of n ls) (length ((front ++ own_listed statement l) ++ operations_from (statement + 1) ls)))) count
    ∙ h

pub stage-tasks : (tiles statement first : ℕ) (front : List Listed) (ls : List Line) → first ≤ length front → HasStages tiles statement first front ls
stage-tasks tiles statement first front [] h =
    let e : slice_range (front ++ []) first (length (front ++ [])) ≡ drop first front =
    ap (λ xs. slice_range (front ++ []) first (length xs)) (append-nil front) ∙ cut-front front [] first h in
    ap (λ xs. listed_tasks tiles xs ∷ []) e ∙ zero-more (listed_tasks tiles (drop first front))
  where
    zero-more : (n : ℕ) → n ∷ [] ≡ (n + 0) ∷ []
    zero-more n = let e : n ≡ n + 0 = omega arith in ap (λ k. k ∷ []) e
stage-tasks tiles statement first front (l ∷ ls) h = split (λ k. stage-tasks tiles (statement + 1) k (front ++ own_listed statement l) ls) (is_kind Ldd l.kind) refl
  where
    Behind : Type 0
    Behind = (k : ℕ) → k ≤ length (front ++ own_listed statement l) → HasStages tiles (statement + 1) k (front ++ own_listed statement l) ls

    own : List Listed
    own = own_listed statement l

    all : List Listed
    all = front ++ operations_from statement (l ∷ ls)

    after : ℕ
    after = length front + operations_of l.statement.value

    after-is : after ≡ length (front ++ own)
    after-is = sym (length-append front own ∙ ap (λ n. length front + n) (own-length statement l))

    same : front ++ operations_from statement (l ∷ ls) ≡ (front ++ own) ++ operations_from (statement + 1) ls
    same = sym (append_assoc front own (operations_from (statement + 1) ls))

    closed : slice_range all first after ≡ drop first (front ++ own)
    closed =
        let f : first ≤ length (front ++ own) = (let e = length-append front own in omega (arith, e, h)) in
        ap (λ n. slice_range all first n) after-is ∙ ap (λ xs. slice_range xs first (length (front ++ own))) same
        ∙ cut-front (front ++ own) (operations_from (statement + 1) ls) first f

    behind : Behind → map (span_listed tiles all) (stages_from after (ends_of after ls) (length all)) ≡ map (lines_tasks tiles) (stages_among ls)
    behind rest =
        ap (λ n. map (span_listed tiles all) (stages_from n (ends_of after ls) (length all))) after-is
        ∙ one-more tiles statement (length (front ++ own)) front l ls (rest (length (front ++ own)) (le_refl (length (front ++ own))))
        ∙ ap (λ xs. more_in_first (listed_tasks tiles xs) (map (lines_tasks tiles) (stages_among ls))) (drop-length (front ++ own))
        ∙ first-stage tiles ls

    ended : Behind → map (span_listed tiles all) (stages_from first (after ∷ ends_of after ls) (length all)) ≡ more_in_first (listed_tasks tiles (drop first front)) (map (lines_tasks tiles) ((l ∷ []) ∷ stages_among ls))
    ended rest =
        let e : listed_tasks tiles (slice_range all first after) ≡ listed_tasks tiles (drop first front) + (line_tasks tiles l + 0) =
        (let q = ap (listed_tasks tiles) closed ∙ pending tiles statement first front l h in omega (arith, q)) in
        ap₂ (λ n ns. n ∷ ns) e (behind rest)

    goes-on : Behind → map (span_listed tiles all) (stages_from first (ends_of after ls) (length all)) ≡ more_in_first (listed_tasks tiles (drop first front)) (map (lines_tasks tiles) (in_first l (stages_among ls)))
    goes-on rest =
        let f : first ≤ length (front ++ own) = (let e = length-append front own in omega (arith, e, h)) in
        one-more tiles statement first front l ls (rest first f)
        ∙ ap (λ n. more_in_first n (map (lines_tasks tiles) (stages_among ls))) (pending tiles statement first front l h)
        ∙ joins-first tiles (listed_tasks tiles (drop first front)) l (stages_among ls)

    Goal : Bool → Type 0
    Goal c = map (span_listed tiles all) (stages_from first (map (λ (d : ShownDrain). d.after) (if c then record { input = None; after = after } ∷ statement_drains after ls else statement_drains after ls)) (length all))
        ≡ more_in_first (listed_tasks tiles (drop first front)) (map (lines_tasks tiles) (if c then (l ∷ []) ∷ stages_among ls else in_first l (stages_among ls)))

    split : Behind → (b : Bool) → is_kind Ldd l.kind ≡ b → Goal (is_kind Ldd l.kind)
    split rest true h = subst Goal (sym h) (ended rest)
    split rest false h = subst Goal (sym h) (goes-on rest)

-- ---- programs

-- the ends of the stages of a program are those of its statements
ends-are : (script : Script) (ls : List Line) (program : Program) → IsProgramOf script ls program →
    map (λ (d : DrainUse). d.after) (filter (λ (d : DrainUse). is_computed d.from) program.drains) ≡ ends_of 0 (lines_in Initial ls)
ends-are script ls program h =
    ends-shown program.drains
    ∙ ap (λ ds. map (λ (d : ShownDrain). d.after) (filter of_statement ds)) h.drains
    ∙ ap (λ ds. map (λ (d : ShownDrain). d.after) ds) (no-input 0 (inputs_of script) (statement_drains 0 (lines_in Initial ls)) ∙ all-of-statements 0 (lines_in Initial ls))

spans-listed : (tiles : ℕ) (program : Program) (first : ℕ) (ends : List ℕ) (end : ℕ) →
    map (span_tasks tiles program) (stages_from first ends end) ≡ map (span_listed tiles (map as_listed program.initial)) (stages_from first ends end)
spans-listed tiles program first [] end = ap (λ n. n ∷ []) (tasks-between tiles program.initial first end)
spans-listed tiles program first (e ∷ ends) end = ap₂ (λ n ns. n ∷ ns) (tasks-between tiles program.initial first e) (spans-listed tiles program e ends end)

-- the stages of a program have the tasks of those of its statements
pub stages-have : (tiles : ℕ) (script : Script) (ls : List Line) (program : Program) → IsProgramOf script ls program →
    map (span_tasks tiles program) (initial_stages program) ≡ map (lines_tasks tiles) (stages_among (lines_in Initial ls))
stages-have tiles script ls program h =
    let xs = operations_from 1 (lines_in Initial ls) in
    let count : length program.initial ≡ length xs = sym (length-map program.initial as_listed) ∙ ap length h.operations in
    ap (λ ends. map (span_tasks tiles program) (stages_from 0 ends (length program.initial))) (ends-are script ls program h)
    ∙ spans-listed tiles program 0 (ends_of 0 (lines_in Initial ls)) (length program.initial)
    ∙ ap₂ (λ ys n. map (span_listed tiles ys) (stages_from 0 (ends_of 0 (lines_in Initial ls)) n)) h.operations count
    ∙ stage-tasks tiles 1 0 [] (lines_in Initial ls) zero-le
    ∙ first-stage tiles (lines_in Initial ls)
