-- The line and the exit status of an answer.
use Rattle.std.specs.Prelude.{List, ℕ, [], ◌++◌, codes, decimal}
use Rattle.script_syntax.specs.declared.fault.SyntaxFault.{SyntaxFault}
use Rattle.script_types.specs.declared.fault.MeaningFault.{MeaningFault}
use Rattle.script_types.specs.declared.fault.Place.{Place}
use Rattle.script_types.specs.declared.fault.Place.TheVariants.{Binding, Area, Statement}
use Rattle.map_meaning.specs.declared.known.OverAt.{OverAt}
use Rattle.run_session.specs.declared.ends.InputKind.{InputKind}
use Rattle.run_session.specs.declared.ends.InputKind.TheVariants.{Grid, Table, Series, Size, Unsound}
use Rattle.run_session.specs.declared.ends.ScriptFault.{ScriptFault}
use Rattle.run_session.specs.declared.ends.ScriptFault.TheVariants.{Syntax, Meaning}
use Rattle.lue_run.specs.declared.ended.Ended.{Ended}
use Rattle.lue_run.specs.declared.ended.Ended.TheVariants.{Done, Made, Usage, Missing, TooLong, Script, Input, TooManyTasks, Overflow}
use Rattle.lue_run.specs.declared.ended.Ended.TheVariants.{FolderReadFault, FolderWriteFault, OutFault, Memory}
use Rattle.lue_run.specs.Kinds.{grid_word, table_word, series_word, syntax_word, meaning_word}

-- a line of a text and a name
abbrev pub named_line : List ℕ → List ℕ → List ℕ
named_line text name = text ++ name ++ codes "\n"

-- where a text stops being a script, and what is wrong there
abbrev pub syntax_words : SyntaxFault → List ℕ
syntax_words fault = decimal fault.line ++ codes ":" ++ decimal fault.column ++ codes " " ++ syntax_word fault.kind

-- the place of a fault of meaning
abbrev pub place_words : Place → List ℕ
place_words (Binding number) = codes "binding " ++ decimal number
place_words Area = codes "areamap"
place_words (Statement number) = codes "statement " ++ decimal number

-- where a script has its first fault of meaning, and what is wrong there
abbrev pub meaning_words : MeaningFault → List ℕ
meaning_words fault = place_words fault.at ++ codes " " ++ meaning_word fault.kind

-- the line of a script that has a fault
abbrev pub script_line : ScriptFault → List ℕ
script_line (Syntax fault) = codes "script " ++ syntax_words fault ++ codes "\n"
script_line (Meaning fault) = codes "script " ++ meaning_words fault ++ codes "\n"

-- the line of an input that is not as it is to be
abbrev pub input_line : List ℕ → InputKind → List ℕ
input_line name (Grid fault) =
    codes "input " ++ name ++ codes " grid " ++ grid_word fault.kind ++ codes " " ++ decimal fault.at ++ codes "\n"
input_line name (Table fault) =
    codes "input " ++ name ++ codes " table " ++ table_word fault.kind ++ codes " line " ++ decimal fault.line ++ codes "\n"
input_line name (Series fault) =
    codes "input " ++ name ++ codes " series " ++ series_word fault.kind ++ codes " line " ++ decimal fault.line ++ codes "\n"
input_line name (Size rows cols) = codes "input " ++ name ++ codes " size " ++ decimal rows ++ codes " " ++ decimal cols ++ codes "\n"
input_line name (Unsound row col) = codes "input " ++ name ++ codes " unsound " ++ decimal row ++ codes " " ++ decimal col ++ codes "\n"

-- the line of an overflow
abbrev pub over_line : OverAt → List ℕ
over_line at = codes "overflow step " ++ decimal at.step ++ codes " statement " ++ decimal at.statement
    ++ codes " operation " ++ decimal at.operation ++ codes " row " ++ decimal at.row ++ codes " col " ++ decimal at.col ++ codes "\n"

-- a row of the table of answers: the line, which is empty where none is written, and the exit status
pub record AnswerRow : Type 0 where
  pub line : List ℕ
  pub status : ℕ

-- the row of this line and this status
abbrev pub answer_row : List ℕ → ℕ → AnswerRow
answer_row line status = record { line = line; status = status }

-- the table of answers: the line and the status of each
abbrev pub answer_row_of : Ended → AnswerRow
answer_row_of (Done files steps) = answer_row (codes "done files=" ++ decimal files ++ codes " steps=" ++ decimal steps ++ codes "\n") 0
answer_row_of (Made files) = answer_row (codes "made files=" ++ decimal files ++ codes "\n") 0
answer_row_of Usage = answer_row (codes "usage\n") 2
answer_row_of (Missing name) = answer_row (named_line (codes "missing ") name) 4
answer_row_of (TooLong name) = answer_row (named_line (codes "too long ") name) 4
answer_row_of (Script fault) = answer_row (script_line fault) 3
answer_row_of (Input name kind) = answer_row (input_line name kind) 4
answer_row_of (TooManyTasks count) = answer_row (codes "tasks " ++ decimal count ++ codes "\n") 6
answer_row_of (Overflow at) = answer_row (over_line at) 5
answer_row_of (FolderReadFault name) = answer_row (named_line (codes "read fault ") name) 7
answer_row_of (FolderWriteFault name) = answer_row (named_line (codes "write fault ") name) 8
answer_row_of (OutFault instead) = answer_row [] 9
answer_row_of Memory = answer_row [] 10

-- the line of an answer
abbrev pub line_of : Ended → List ℕ
line_of end = (answer_row_of end).line

-- the exit status of an answer
abbrev pub status_of : Ended → ℕ
status_of end = (answer_row_of end).status
