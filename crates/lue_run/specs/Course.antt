-- The course of a call: its reads and puts in order and its end, by its words and the files.
use Rattle.std.specs.Prelude.{List, ℕ, None, Some, Result, length}
use Rattle.std.specs.declared.option.Option.{Option}
use Rattle.outside_io.specs.State.{Files, PutPair}
use Rattle.outside_io.specs.Events.{Run, puts_of}
use Rattle.outside_io.specs.Runs.{settled, end_as, in_turn, putting}
use Rattle.script_syntax.specs.declared.tree.Script.{Script}
use Rattle.task_graph.specs.Admitted.{tiles_over, too_many}
use Rattle.script_tasks.specs.Tasks.{script_tasks}
use Rattle.run_session.specs.Asked.{IsCountOf}
use Rattle.run_session.specs.Course.{Many, script_run}
use Rattle.run_session.specs.Ends.{ScriptEnd}
use Rattle.model_maker.specs.Files.{made_files}
use Rattle.lue_run.specs.declared.ended.Ended.{Ended}
use Rattle.lue_run.specs.Words.{Command, Plain, Make, ByTiles}
use Rattle.lue_run.specs.Ends.{CourseEnd, Usage, OfScript, OfModel, end_answer}

-- the run of the script of this name over whole maps, for which no script has too many tasks
abbrev pub plain_run : List ℕ → Run ScriptEnd
plain_run name = script_run (λ script rows cols. None) name

-- the number of tasks of a script, step by step and by tiles of these sides over a map of some size, where it is too large
abbrev pub script_too_many : ℕ → ℕ → Script → Many
script_too_many tile_rows tile_cols script rows cols = too_many (script_tasks (tiles_over tile_rows tile_cols rows cols) 1 script)

-- the run of the script of this name over whole maps, which ends where it would have too many tasks by tiles of these sides
abbrev pub tiled_run : ℕ → ℕ → List ℕ → Run ScriptEnd
tiled_run tile_rows tile_cols name = script_run (script_too_many tile_rows tile_cols) name

-- one of the files of a model is put, by its name and its bytes
abbrev pub made_put : Unit {0} → PutPair → Run (Result (Unit {0}) ⊥)
made_put done file = putting file.0 file.1

-- the files of the model of this number are put, in order, and none is read
abbrev pub make_run : ℕ → Run CourseEnd
make_run number = end_as (λ done. OfModel (length (made_files number))) (in_turn made_put tt (made_files number))

-- the course of a command over the files; where the words give no command nothing is done
abbrev pub course : Option Command → Run CourseEnd
course None = settled Usage
course (Some (Plain script)) = end_as OfScript (plain_run script)
course (Some (Make number)) = make_run number
course (Some (ByTiles script tile_rows tile_cols workers)) = end_as OfScript (tiled_run tile_rows tile_cols script)

-- the files that the command puts, in order
abbrev pub outputs : Option Command → Files → List PutPair
outputs command files = puts_of (course command files).events

-- the answer that the command and the files alone decide
abbrev pub verdict : Option Command → Files → Ended
verdict command files = end_answer (course command files).end

-- the number is that of too many tasks which some script has by the tiles of the command, over maps of some size
abbrev pub IsCountBy : Option Command → ℕ → Type 0
IsCountBy (Some (ByTiles script tile_rows tile_cols workers)) count = IsCountOf (script_too_many tile_rows tile_cols) count
IsCountBy other count = ⊥
