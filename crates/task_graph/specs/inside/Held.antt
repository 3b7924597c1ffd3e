-- What a plan that is held keeps.
use Rattle.std.specs.Prelude.{◌≡◌, ◌≤◌, ℕ, List, length}
use Rattle.number_lists.specs.Lists.{numbers_in}
use Rattle.number_lists.specs.Turned.{HaveNumbersBelow, turned_of}
use Rattle.task_graph.specs.declared.task.Task.{Task}
use Rattle.task_graph.specs.Limits.{most_needs, most_tasks}

-- there are no more tasks than a plan may have, for each a list of what it reads, and that is tasks; and few are read
pub record IsSmallPlan (tasks : List Task) (needs : List (List ℕ)) : Type 0 where
  pub few : length tasks ≤ most_tasks
  pub as_many : length needs ≡ length tasks
  pub below : HaveNumbersBelow (length tasks) needs
  pub few_needs : numbers_in needs ≤ most_needs

-- there are no more tasks than a plan may have, for each a list of what it reads and one of who reads it, and few are read
pub record IsHeldPlan (tasks : List Task) (needs readers : List (List ℕ)) : Type 0 where
  pub few : length tasks ≤ most_tasks
  pub as_many : length needs ≡ length tasks
  pub few_needs : numbers_in needs ≤ most_needs
  pub turned : readers ≡ turned_of (length tasks) needs
