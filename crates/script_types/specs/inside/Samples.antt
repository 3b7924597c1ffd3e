-- The operand of a time series.
use Rattle.std.specs.Prelude.{Option, Some, None}
use Rattle.script_types.specs.declared.typed.Argument.{Argument}
use Rattle.script_types.specs.declared.typed.Argument.TheVariants as argument
use Rattle.script_types.specs.declared.typed.Value.{Value}

-- the map that an operand is, if there is one and it is a map
abbrev pub map_in : Option Argument → Option Value
map_in None = None
map_in (Some (argument.Map v)) = Some v
map_in (Some (argument.File kind number)) = None
map_in (Some (argument.Length length)) = None
