-- What the code has of a command.
use Rattle.lue_run.specs.declared.asked.Asked.{Asked}
use Rattle.lue_run.specs.declared.asked.Asked.TheVariants as asked
use Rattle.lue_run.specs.declared.asked.AskedTiles.{AskedTiles}
use Rattle.lue_run.specs.Words.{Command, Plain, Make, ByTiles}

-- the command that is asked for
abbrev pub command_asked : Asked → Command
command_asked (asked.Plain script) = Plain script.now
command_asked (asked.Make number) = Make number

-- the run by tiles that is asked for
abbrev pub tiles_command : AskedTiles → Command
tiles_command asked = ByTiles asked.script.now asked.tiles.rows asked.tiles.cols asked.tiles.workers
