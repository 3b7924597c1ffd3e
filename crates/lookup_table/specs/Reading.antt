-- What it is to read a table's text, and the laws that tie the reading to the form and to the table of faults.
use Rattle.std.specs.Prelude.{◌≡◌, ◌↔◌, ℕ, List, Result, Ok, Err, ⊤}
use Rattle.cell_values.specs.declared.kind.Kind.{Kind}
use Rattle.lookup_table.specs.declared.fault.TableFault.{TableFault}
use Rattle.lookup_table.specs.declared.fault.ReadTable.{ReadTable}
use Rattle.lookup_table.specs.declared.fault.ReadTable.TheVariants.{Fault, Memory}
use Rattle.lookup_table.specs.Form.{TableValue, IsTable}
use Rattle.lookup_table.specs.Faults.{IsFirstTableFault}
use Rattle.lookup_table.specs.inside.Reading.{table_of}

-- the text is read as the table exactly where it is a table with these values
abbrev pub TablesAreRead : Type 0
TablesAreRead = (keys : ℕ) (kind : Kind) (text : List ℕ) (table : TableValue)
    → (table_of keys kind text ≡ Ok table) ↔ IsTable keys kind text table

-- a fault is told exactly where it is the first one
abbrev pub FirstTableFaultsAreTold : Type 0
FirstTableFaultsAreTold = (keys : ℕ) (kind : Kind) (text : List ℕ) (fault : TableFault)
    → (table_of keys kind text ≡ Err fault) ↔ IsFirstTableFault keys kind text fault

-- what a reader answers where this is to be read: want of memory may come instead
abbrev pub ReadsTable : Result TableValue ReadTable → Result TableValue TableFault → Type 0
ReadsTable (Ok table) read = read ≡ Ok table
ReadsTable (Err (Fault fault)) read = read ≡ Err fault
ReadsTable (Err Memory) read = ⊤

-- the fault that a reader answers is the first one
abbrev pub TellsFirstTableFault : ℕ → Kind → List ℕ → ReadTable → Type 0
TellsFirstTableFault keys kind text (Fault fault) = IsFirstTableFault keys kind text fault
TellsFirstTableFault keys kind text Memory = ⊤
