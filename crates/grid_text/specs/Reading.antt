-- What a reader of grids answers.
use Rattle.std.specs.Prelude.{◌≡◌, ◌↔◌, ℕ, List, Result, Ok, Err, ⊤}
use Rattle.cell_values.specs.declared.kind.Kind.{Kind}
use Rattle.grid_text.specs.declared.grid.Grid.{Grid}
use Rattle.grid_text.specs.declared.fault.GridFault.{GridFault}
use Rattle.grid_text.specs.declared.fault.ReadGrid.{ReadGrid}
use Rattle.grid_text.specs.declared.fault.ReadGrid.TheVariants.{Fault, Memory}
use Rattle.grid_text.specs.Form.{IsGrid}
use Rattle.grid_text.specs.Faults.{IsFirstFault}
use Rattle.grid_text.specs.inside.Reading.{grid_of}

-- the text is read as the grid exactly where it is a grid with these values
abbrev pub GridsAreRead : Type 0
GridsAreRead = (kind : Kind) (text : List ℕ) (grid : Grid) → (grid_of kind text ≡ Ok grid) ↔ IsGrid kind text grid

-- a fault is told exactly where it is the first one
abbrev pub FirstFaultsAreTold : Type 0
FirstFaultsAreTold = (kind : Kind) (text : List ℕ) (fault : GridFault) → (grid_of kind text ≡ Err fault) ↔ IsFirstFault kind text fault

-- what a reader answers where this is to be read: want of memory may come instead
abbrev pub ReadsGrid : Result Grid ReadGrid → Result Grid GridFault → Type 0
ReadsGrid (Ok grid) read = read ≡ Ok grid
ReadsGrid (Err (Fault fault)) read = read ≡ Err fault
ReadsGrid (Err Memory) read = ⊤

-- the fault that a reader answers is the first one
abbrev pub TellsFirst : Kind → List ℕ → ReadGrid → Type 0
TellsFirst kind text (Fault fault) = IsFirstFault kind text fault
TellsFirst kind text Memory = ⊤
