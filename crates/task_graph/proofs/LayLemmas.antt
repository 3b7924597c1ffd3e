-- Operations laid one after another.
use Rattle.std.proofs.Common.{◌≡◌, ◌∙◌, ℕ, zero, suc, ◌+◌, ◌-◌, ◌≤◌, List, [], ◌∷◌, ◌++◌, sym, ap, arith, append_assoc, append-nil}
use Rattle.std.specs.List.{flat_map, range_with_len}
use Rattle.std.proofs.lemmas.Grind.{flat_map-append}
use Rattle.map_meaning.specs.declared.program.Operation.{Operation}
use Rattle.task_graph.specs.declared.flows.FlowTasks.{FlowTasks}
use Rattle.task_graph.specs.declared.layout.Laid.{Laid}
use Rattle.task_graph.specs.Classes.{before_value, op_class}
use Rattle.task_graph.specs.Layouts.{firsts_from, laid_from, size_for, tasks_in}
use Rattle.task_graph.specs.Plans.{flow_by, flows_from}

-- one operation more
pub laid_step : (step n : ℕ) (laid all : List Laid) (rest more : List Operation) (o : Operation) → rest ≡ o ∷ more → laid ++ laid_from step n rest ≡ all → (laid ++ record { step = step; number = n; operation = o } ∷ []) ++ laid_from step (n + 1) more ≡ all
laid_step step n laid all rest more o front way =
    append_assoc laid (record { step = step; number = n; operation = o } ∷ []) (laid_from step (n + 1) more)
    ∙ (ap (λ (os : List Operation). laid ++ laid_from step n os) (sym front) ∙ way)

-- and none left
pub laid_end : (step n : ℕ) (laid all : List Laid) (rest : List Operation) → rest ≡ [] → laid ++ laid_from step n rest ≡ all → laid ≡ all
laid_end step n laid all rest none way = sym (append-nil laid) ∙ (ap (λ (os : List Operation). laid ++ laid_from step n os) (sym none) ∙ way)

-- the first tasks with those of one operation more
pub firsts_front : (tiles start : ℕ) (firsts all : List ℕ) (rest more : List Laid) (l : Laid) → rest ≡ l ∷ more → firsts ++ firsts_from tiles start rest ≡ all →
    (firsts ++ (start + before_value tiles (op_class l.operation.op)) ∷ []) ++ firsts_from tiles (start + size_for tiles l) more ≡ all
firsts_front tiles start firsts all rest more l front way =
    append_assoc firsts ((start + before_value tiles (op_class l.operation.op)) ∷ []) (firsts_from tiles (start + size_for tiles l) more)
    ∙ (ap (λ (ls : List Laid). firsts ++ firsts_from tiles start ls) (sym front) ∙ way)

-- the transports with that of one operation more
pub flows_front : (tiles start : ℕ) (flows all : List FlowTasks) (rest more : List Laid) (l : Laid) → rest ≡ l ∷ more → flows ++ flows_from tiles start rest ≡ all →
    (flows ++ flow_by start l.operation.drain l.operation.op) ++ flows_from tiles (start + size_for tiles l) more ≡ all
flows_front tiles start flows all rest more l front way =
    append_assoc flows (flow_by start l.operation.drain l.operation.op) (flows_from tiles (start + size_for tiles l) more)
    ∙ (ap (λ (ls : List Laid). flows ++ flows_from tiles start ls) (sym front) ∙ way)

pub few_front : (tiles start most : ℕ) (rest more : List Laid) (l : Laid) → rest ≡ l ∷ more → start + tasks_in tiles rest ≤ most → start + size_for tiles l + tasks_in tiles more ≤ most
few_front tiles start most rest more l front few =
    let e : tasks_in tiles rest ≡ size_for tiles l + tasks_in tiles more = ap (tasks_in tiles) front in omega arith

-- the operations of one step more
pub steps_more : (f : ℕ → List Laid) (first step : ℕ) → first ≤ step → flat_map f (range_with_len first (step + 1 - first)) ≡ flat_map f (range_with_len first (step - first)) ++ f step
steps_more f first step low =
    ap (λ (k : ℕ). flat_map f (range_with_len first k)) (count first step low)
    ∙ (ap (flat_map f) (range_more first (step - first))
    ∙ (flat_map-append f (range_with_len first (step - first)) ((first + (step - first)) ∷ [])
    ∙ (ap (λ (ls : List Laid). flat_map f (range_with_len first (step - first)) ++ ls) (append-nil (f (first + (step - first))))
    ∙ ap (λ (s : ℕ). flat_map f (range_with_len first (step - first)) ++ f s) (back first step low))))
  where
    count : (m n : ℕ) → m ≤ n → n + 1 - m ≡ suc (n - m)
    count m n h = omega arith

    back : (m n : ℕ) → m ≤ n → m + (n - m) ≡ n
    back m n h = omega arith

    none : (m : ℕ) → m ≡ m + 0
    none m = omega arith

    further : (m k : ℕ) → m + 1 + k ≡ m + suc k
    further m k = omega arith

    range_more : (a k : ℕ) → range_with_len a (suc k) ≡ range_with_len a k ++ (a + k) ∷ []
    range_more a zero = ap (λ (m : ℕ). m ∷ []) (none a)
    range_more a (suc k) = ap (λ (ms : List ℕ). a ∷ ms) (range_more (a + 1) k ∙ ap (λ (m : ℕ). range_with_len (a + 1) k ++ m ∷ []) (further a k))
