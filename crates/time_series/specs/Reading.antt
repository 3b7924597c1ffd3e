-- What it is to read a series' text, and the laws that tie the reading to the form and to the table of faults.
use Rattle.std.specs.Prelude.{◌≡◌, ◌↔◌, ℕ, List, Result, Ok, Err, ⊤}
use Rattle.cell_values.specs.declared.kind.Kind.{Kind}
use Rattle.time_series.specs.declared.fault.SeriesFault.{SeriesFault}
use Rattle.time_series.specs.declared.fault.ReadSeries.{ReadSeries}
use Rattle.time_series.specs.declared.fault.ReadSeries.TheVariants.{Fault, Memory}
use Rattle.time_series.specs.Form.{SeriesValue, IsSeries}
use Rattle.time_series.specs.Faults.{IsFirstSeriesFault}
use Rattle.time_series.specs.inside.Reading.{series_of}

-- the text is read as the series exactly where it is a series with these rows
abbrev pub SeriesAreRead : Type 0
SeriesAreRead = (kind : Kind) (text : List ℕ) (series : SeriesValue) → (series_of kind text ≡ Ok series) ↔ IsSeries kind text series

-- a fault is told exactly where it is the first one
abbrev pub FirstSeriesFaultsAreTold : Type 0
FirstSeriesFaultsAreTold = (kind : Kind) (text : List ℕ) (fault : SeriesFault)
    → (series_of kind text ≡ Err fault) ↔ IsFirstSeriesFault kind text fault

-- what a reader answers where this is to be read: want of memory may come instead
abbrev pub ReadsSeries : Result SeriesValue ReadSeries → Result SeriesValue SeriesFault → Type 0
ReadsSeries (Ok series) read = read ≡ Ok series
ReadsSeries (Err (Fault fault)) read = read ≡ Err fault
ReadsSeries (Err Memory) read = ⊤

-- the fault that a reader answers is the first one
abbrev pub TellsFirstSeriesFault : Kind → List ℕ → ReadSeries → Type 0
TellsFirstSeriesFault kind text (Fault fault) = IsFirstSeriesFault kind text fault
TellsFirstSeriesFault kind text Memory = ⊤
