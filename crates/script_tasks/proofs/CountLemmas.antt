-- A program has the tasks of its script.
use Rattle.std.proofs.Common.{◌≡◌, ◌*◌, max, min, sym, ap, ap₂, ◌∙◌}
use Rattle.script_types.specs.declared.typed.Section.TheVariants.{Dynamic}
use Rattle.script_types.specs.Lowered.{first_statement, lines_in}
use Rattle.task_graph.specs.Counts.{most_tasks_of, tasks_of}
use Rattle.script_tasks.specs.Laws.{LoweringKeepsTheTasks}
use Rattle.script_tasks.specs.Tasks.{lines_tasks, script_tasks, tasks_by}
use Rattle.script_tasks.proofs.StageLemmas.{stages-have}
use Rattle.script_tasks.proofs.TaskLemmas.{lines-listed, listed_tasks, tasks-shown}

-- a program has as many tasks as the script that it is of
pub same_tasks : LoweringKeepsTheTasks
unfolding script_tasks
same_tasks script program tiles block h =
    let p = h.program_of in
    let ls = h.lines in
    let dynamic : tasks_of tiles program.dynamic ≡ lines_tasks tiles (lines_in Dynamic ls) =
    tasks-shown tiles program.dynamic ∙ ap (listed_tasks tiles) p.step_operations ∙ lines-listed tiles (first_statement Dynamic ls) (lines_in Dynamic ls) in
    ap₂ (λ ns k. max (most_tasks_of ns) k) (stages-have tiles script ls program p) (ap₂ (λ steps n. min block steps * n) p.steps dynamic)
    ∙ sym (ap (tasks_by tiles block script.steps) h.meant)
