-- How many tasks operations have, by what they show of themselves.
use Rattle.std.proofs.Common.{◌≡◌, ◌+◌, ◌-◌, ℕ, List, [], ◌∷◌, ◌++◌, map, length, refl, sym, ap, ◌∙◌, arith, slice_range, take, drop}
use Rattle.std.proofs.lemmas.List.{take-map, drop-map}
use Rattle.map_meaning.specs.declared.program.Operation.{Operation}
use Rattle.script_types.specs.declared.typed.Line.{Line}
use Rattle.script_types.specs.Lowered.{Listed, Unnumbered, as_listed, numbered_operations, operations_from, post_order}
use Rattle.script_types.specs.Statements.{operations_of}
use Rattle.task_graph.specs.Classes.{op_class, tasks_for}
use Rattle.task_graph.specs.Counts.{tasks_of}
use Rattle.script_tasks.specs.Tasks.{line_tasks, lines_tasks, operation_tasks}
use Rattle.script_tasks.proofs.TreeLemmas.{lists-its-own}

-- how many tasks some operations have, by what they show
abbrev pub listed_tasks : ℕ → List Listed → ℕ
listed_tasks tiles [] = 0
listed_tasks tiles (x ∷ xs) = tasks_for tiles (op_class x.op) + listed_tasks tiles xs

-- those of two parts
pub listed-append : (tiles : ℕ) (xs ys : List Listed) → listed_tasks tiles (xs ++ ys) ≡ listed_tasks tiles xs + listed_tasks tiles ys
listed-append tiles [] ys = omega arith
listed-append tiles (x ∷ xs) ys = let e = listed-append tiles xs ys in omega (arith, e)

-- operations have the tasks that what they show says
pub tasks-shown : (tiles : ℕ) (os : List Operation) → tasks_of tiles os ≡ listed_tasks tiles (map as_listed os)
tasks-shown tiles [] = refl
tasks-shown tiles (o ∷ os) = ap (λ n. tasks_for tiles (op_class o.op) + n) (tasks-shown tiles os)

-- those of a part of them, that of what this part shows
pub tasks-between : (tiles : ℕ) (os : List Operation) (a b : ℕ) → tasks_of tiles (slice_range os a b) ≡ listed_tasks tiles (slice_range (map as_listed os) a b)
tasks-between tiles os a b = tasks-shown tiles (slice_range os a b) ∙ ap (listed_tasks tiles) (sym (take-map as_listed (b - a) (drop a os)) ∙ ap (take (b - a)) (sym (drop-map as_listed a os)))

-- numbers do not count
pub numbered-tasks : (tiles statement n : ℕ) (us : List Unnumbered) → listed_tasks tiles (numbered_operations statement n us) ≡ operation_tasks tiles us
numbered-tasks tiles statement n [] = refl
numbered-tasks tiles statement n (u ∷ us) = ap (λ k. tasks_for tiles (op_class u.op) + k) (numbered-tasks tiles statement (n + 1) us)

-- the operations of a statement
abbrev pub own_listed : ℕ → Line → List Listed
own_listed statement l = numbered_operations statement 1 (post_order l.statement.value)

-- they have the statement's tasks
pub own-tasks : (tiles statement : ℕ) (l : Line) → listed_tasks tiles (own_listed statement l) ≡ line_tasks tiles l
own-tasks tiles statement l = numbered-tasks tiles statement 1 (post_order l.statement.value)

length-numbered : (statement n : ℕ) (us : List Unnumbered) → length (numbered_operations statement n us) ≡ length us
length-numbered statement n [] = refl
length-numbered statement n (u ∷ us) = let e = length-numbered statement (n + 1) us in omega (arith, e)

-- they are as many as the statement has
pub own-length : (statement : ℕ) (l : Line) → length (own_listed statement l) ≡ operations_of l.statement.value
own-length statement l = length-numbered statement 1 (post_order l.statement.value) ∙ lists-its-own l.statement.value

-- the operations of some statements have their tasks
pub lines-listed : (tiles statement : ℕ) (ls : List Line) → listed_tasks tiles (operations_from statement ls) ≡ lines_tasks tiles ls
lines-listed tiles statement [] = refl
lines-listed tiles statement (l ∷ ls) =
    let a = listed-append tiles (own_listed statement l) (operations_from (statement + 1) ls) in
    let b = own-tasks tiles statement l in
    let c = lines-listed tiles (statement + 1) ls in
    omega (arith, a, b, c)
