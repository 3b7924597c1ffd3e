-- The drain maps of a program as they are written: their numbers, and the operands that they are.
use Rattle.std.specs.Prelude.{◌≡◌, ◌<◌, ℕ, ◌+◌, false, List, [], ◌∷◌, if◌then◌else◌, slice_index_or}
use Rattle.cell_values.specs.declared.kind.Kind.{Kind}
use Rattle.cell_values.specs.declared.kind.Kind.TheVariants.{Ldd}
use Rattle.map_meaning.specs.declared.program.DrainFrom.TheVariants as drain
use Rattle.map_meaning.specs.declared.program.DrainUse.{DrainUse}
use Rattle.map_meaning.specs.declared.program.InputUse.{InputUse}
use Rattle.map_meaning.specs.declared.program.Operand.{Operand}
use Rattle.map_meaning.specs.declared.program.Operand.TheVariants as from
use Rattle.map_meaning.specs.Table.{is_kind}
use Rattle.script_types.specs.Lowered.{is_drain_input}

-- the number of the drain map that an operand is
abbrev pub drain_named : Operand → ℕ
drain_named (from.Drain n) = n
drain_named _ = 0

-- for each of some inputs, how many drain maps stand before it, where so many stand before the first
abbrev pub drain_numbers : ℕ → List InputUse → List ℕ
drain_numbers before [] = []
drain_numbers before (input ∷ more) = before ∷ drain_numbers (if is_drain_input input then before + 1 else before) more

-- the number that an input has among the drain maps, where it is one
abbrev pub drain_number : List InputUse → ℕ → ℕ
drain_number inputs n = slice_index_or (drain_numbers 0 inputs) n 0

-- the drain maps among some inputs, of which the first has this number
abbrev pub input_uses : ℕ → List InputUse → List DrainUse
input_uses n [] = []
input_uses n (input ∷ more) =
    if is_drain_input input then record { from = drain.Input n; after = 0 } ∷ input_uses (n + 1) more else input_uses (n + 1) more

-- the operand of a map of this kind is a drain map with a number below this one exactly where the kind is that of drain maps
abbrev pub IsDrainBelow : ℕ → Kind → Operand → Type 0
IsDrainBelow m kind (from.Drain n) = n < m
IsDrainBelow m kind x = is_kind Ldd kind ≡ false
