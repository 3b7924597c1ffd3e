-- The printed words for the kinds of faults.
use Rattle.std.specs.Prelude.{List, ℕ, codes}
use Rattle.grid_text.specs.declared.fault.GridKind.{GridKind}
use Rattle.grid_text.specs.declared.fault.GridKind.TheVariants as grid
use Rattle.lookup_table.specs.declared.fault.TableKind.{TableKind}
use Rattle.lookup_table.specs.declared.fault.TableKind.TheVariants as table
use Rattle.script_syntax.specs.declared.fault.SyntaxKind.{SyntaxKind}
use Rattle.script_syntax.specs.declared.fault.SyntaxKind.TheVariants as syntax
use Rattle.script_types.specs.declared.fault.MeaningKind.{MeaningKind}
use Rattle.script_types.specs.declared.fault.MeaningKind.TheVariants as meaning
use Rattle.time_series.specs.declared.fault.SeriesKind.{SeriesKind}
use Rattle.time_series.specs.declared.fault.SeriesKind.TheVariants as series

-- the word for the kind of a grid's fault
abbrev pub grid_word : GridKind → List ℕ
grid_word grid.Head = codes "head"
grid_word grid.BadNumber = codes "bad-number"
grid_word grid.Range = codes "range"
grid_word grid.Count = codes "count"

-- the word for the kind of a lookup table's fault
abbrev pub table_word : TableKind → List ℕ
table_word table.Columns = codes "columns"
table_word table.BadNumber = codes "bad-number"
table_word table.BadInterval = codes "bad-interval"
table_word table.Range = codes "range"

-- the word for the kind of a time series' fault
abbrev pub series_word : SeriesKind → List ℕ
series_word series.Title = codes "title"
series_word series.Columns = codes "columns"
series_word series.BadNumber = codes "bad-number"
series_word series.Range = codes "range"
series_word series.Order = codes "order"

-- the word for the kind of a fault of syntax
abbrev pub syntax_word : SyntaxKind → List ℕ
syntax_word syntax.Byte = codes "byte"
syntax_word syntax.Token = codes "token"
syntax_word syntax.End = codes "end"
syntax_word syntax.Long = codes "long"
syntax_word syntax.Many = codes "many"
syntax_word syntax.Large = codes "large"
syntax_word syntax.Number = codes "number"

-- the word for the kind of a fault of meaning
abbrev pub meaning_word : MeaningKind → List ℕ
meaning_word meaning.UnknownName = codes "unknown-name"
meaning_word meaning.KindMismatch = codes "kind-mismatch"
meaning_word meaning.NotAssigned = codes "not-assigned"
meaning_word meaning.BadStackName = codes "bad-stack-name"
meaning_word meaning.NameClash = codes "name-clash"
meaning_word meaning.BadWindow = codes "bad-window"
meaning_word meaning.WrongSection = codes "wrong-section"
meaning_word meaning.DrainPlace = codes "drain-place"
meaning_word meaning.TooMany = codes "too-many"
