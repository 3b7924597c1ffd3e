-- The limits of plans.
use Rattle.std.specs.Prelude.{ℕ}

-- how many tasks a plan may have
abbrev pub most_tasks : ℕ
most_tasks = 1048576

-- how many tasks the tasks of a plan may read together, each counted as often as it is read
abbrev pub most_needs : ℕ
most_needs = 67108864
