-- What holds of all scripts and their programs.
use Rattle.std.specs.Prelude.{◌≡◌, ℕ}
use Rattle.map_meaning.specs.declared.program.Program.{Program}
use Rattle.script_syntax.specs.declared.tree.Script.{Script}
use Rattle.script_types.specs.Answers.{IsLowered}
use Rattle.task_graph.specs.Counts.{task_count}
use Rattle.script_tasks.specs.Tasks.{script_tasks}

-- the program that a script is lowered to has as many tasks as the script
abbrev pub LoweringKeepsTheTasks : Type 0
LoweringKeepsTheTasks =
    (script : Script) (program : Program) (tiles block : ℕ) → IsLowered script program →
    task_count tiles program block ≡ script_tasks tiles block script
