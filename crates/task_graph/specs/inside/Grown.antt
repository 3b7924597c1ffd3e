-- A plan that grows.
use Rattle.std.specs.Prelude.{ℕ, ◌≡◌, ◌≤◌, ◌+◌, ◌++◌, List, [], ◌∷◌, map, ⊤}
use Rattle.number_lists.specs.Lists.{numbers_in}
use Rattle.tile_map.specs.Tiles.{tile_count}
use Rattle.task_graph.specs.declared.build.Drawn.{Drawn}
use Rattle.task_graph.specs.declared.layout.Laid.{Laid}
use Rattle.task_graph.specs.declared.layout.Layout.{Layout}
use Rattle.task_graph.specs.declared.task.Task.{Task}
use Rattle.task_graph.specs.Layouts.{size_for}
use Rattle.task_graph.specs.Limits.{most_needs, most_tasks}
use Rattle.task_graph.specs.Needs.{Entry}
use Rattle.task_graph.specs.inside.Reads.{CanRead}

-- the tasks of entries
abbrev pub tasks_of_entries : List Entry → List Task
tasks_of_entries es = map (λ (e : Entry). e.task) es

-- what the tasks of entries read
abbrev pub needs_of_entries : List Entry → List (List ℕ)
needs_of_entries es = map (λ (e : Entry). e.needs) es

-- there are these tasks more
pub record Grown (before after : Drawn) (entries : List Entry) : Type 0 where
  pub tasks : after.tasks ≡ before.tasks ++ tasks_of_entries entries
  pub needs : after.needs ≡ before.needs ++ needs_of_entries entries
  pub few : numbers_in before.needs ≤ most_needs → numbers_in after.needs ≤ most_needs

-- the tasks of an operation can be laid from start on
pub record CanLay (y : Layout) (start : ℕ) (l : Laid) : Type 0 where
  pub reads : CanRead y l
  pub few : start + tile_count y.tiling ≤ most_tasks

-- and so can those of all operations
abbrev pub CanLayAll : Layout → ℕ → List Laid → Type 0
CanLayAll y start [] = ⊤
CanLayAll y start (l ∷ more) = CanLay y start l × CanLayAll y (start + size_for (tile_count y.tiling) l) more

-- with the tasks that are left there are all tasks
pub record IsOnWay (drawn : Drawn) (rest all : List Entry) : Type 0 where
  pub tasks : drawn.tasks ++ tasks_of_entries rest ≡ tasks_of_entries all
  pub needs : drawn.needs ++ needs_of_entries rest ≡ needs_of_entries all
  pub few : numbers_in drawn.needs ≤ most_needs

-- there are all tasks, and what each reads
pub record IsDrawn (drawn : Drawn) (all : List Entry) : Type 0 where
  pub tasks : drawn.tasks ≡ tasks_of_entries all
  pub needs : drawn.needs ≡ needs_of_entries all
  pub few : numbers_in drawn.needs ≤ most_needs
