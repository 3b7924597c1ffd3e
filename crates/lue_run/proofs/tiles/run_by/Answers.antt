-- The run, with the count of tasks of scripts.
use Rattle.std.proofs.Common.{◌≡◌, ℕ, ap, sym, subst}
use Rattle.outside_io.specs.Met.{Meets}
use Rattle.run_session.specs.Asked.{CountsTasks}
use Rattle.run_session.specs.Ends.{session_outcome, why}
use Rattle.task_graph.specs.Admitted.{program_too_many, tiles_over, too_many}
use Rattle.script_tasks.proofs.Callers.{same_tasks}
use Rattle.lue_run.specs.Course.{script_too_many, tiled_run}
use Rattle.lue_run.proofs.tiles.run_by.Goals as goal

-- the number of a script is that of its program
counted : (tile_rows tile_cols : ℕ) → CountsTasks (program_too_many tile_rows tile_cols 1) (script_too_many tile_rows tile_cols)
counted tile_rows tile_cols script program lowered rows cols =
    ap too_many (sym (same_tasks script program (tiles_over tile_rows tile_cols rows cols) 1 lowered))

counted_by : (rows cols steps tile_rows tile_cols : ℕ) → rows ≡ tile_rows → cols ≡ tile_cols → steps ≡ 1 →
    CountsTasks (program_too_many rows cols steps) (script_too_many tile_rows tile_cols)
counted_by rows cols steps tile_rows tile_cols same_rows same_cols one =
    subst (λ n. CountsTasks (program_too_many n cols steps) (script_too_many tile_rows tile_cols)) (sym same_rows)
    (subst (λ n. CountsTasks (program_too_many tile_rows n steps) (script_too_many tile_rows tile_cols)) (sym same_cols)
    (subst (λ n. CountsTasks (program_too_many tile_rows tile_cols n) (script_too_many tile_rows tile_cols)) (sym one) (counted tile_rows tile_cols)))

pub returns-clause-meets : goal.returns-clause-meets
returns-clause-meets g c =
    let state = g.F.Folder.state in
    let rows = c.args.tiles.rows in
    let cols = c.args.tiles.cols in
    subst (λ name. Meets why (tiled_run rows cols name) (state c.args.folder.now) (state c.run_script.new.folder) (session_outcome c.run_script.result))
    c.bytes.ensures (c.run_script.ensures.meets (script_too_many rows cols) (counted_by _ _ _ rows cols c.new-runner.ensures.rows c.new-runner.ensures.cols c.new-runner.ensures.steps))

pub returns-clause-many : goal.returns-clause-many
returns-clause-many g c =
    let rows = c.args.tiles.rows in
    let cols = c.args.tiles.cols in
    c.run_script.ensures.many (script_too_many rows cols) (counted_by _ _ _ rows cols c.new-runner.ensures.rows c.new-runner.ensures.cols c.new-runner.ensures.steps)
