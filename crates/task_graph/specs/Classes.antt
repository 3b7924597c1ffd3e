-- How the tasks of an operation read maps, and how many there are.
use Rattle.std.specs.Prelude.{ℕ, ◌+◌}
use Rattle.map_meaning.specs.declared.op.Op.{Op}
use Rattle.map_meaning.specs.declared.op.Op.TheVariants as op
use Rattle.map_meaning.specs.declared.program.Operand.{Operand}
use Rattle.map_meaning.specs.declared.program.Operand.TheVariants.{Unused}
use Rattle.map_meaning.specs.declared.program.Operation.{Operation}
use Rattle.task_graph.specs.declared.class.Class.{Class}
use Rattle.task_graph.specs.declared.class.Class.TheVariants.{Local, Window, Near, Area, Flow}

-- how the tasks of an operation read maps
abbrev pub op_class : Op → Class
op_class op.WindowTotal = Window
op_class op.WindowAverage = Window
op_class op.WindowMinimum = Window
op_class op.WindowMaximum = Window
op_class op.WindowDiversity = Window
op_class op.WindowMajority = Window
op_class op.AreaTotal = Area
op_class op.AreaAverage = Area
op_class op.AreaMinimum = Area
op_class op.AreaMaximum = Area
op_class op.AreaDiversity = Area
op_class op.AreaMajority = Area
op_class op.AreaArea = Area
op_class op.MapTotal = Area
op_class op.MapMinimum = Area
op_class op.MapMaximum = Area
op_class (op.Near o) = Near
op_class (op.Flow o) = Flow
op_class _ = Local

-- how many tasks an operation has: one for a tile, or, for areas and the whole map, two for a tile and one that merges
abbrev pub tasks_for : ℕ → Class → ℕ
tasks_for tiles Area = tiles + (1 + tiles)
tasks_for tiles Local = tiles
tasks_for tiles Window = tiles
tasks_for tiles Near = tiles
tasks_for tiles Flow = tiles

-- how many of them come before those that give its value
abbrev pub before_value : ℕ → Class → ℕ
before_value tiles Area = tiles + 1
before_value tiles Local = 0
before_value tiles Window = 0
before_value tiles Near = 0
before_value tiles Flow = 0

-- the operand of an operation that has the classes of areas, by its first two operands
abbrev pub classes_by : Op → Operand → Operand → Operand
classes_by op.AreaTotal a b = b
classes_by op.AreaAverage a b = b
classes_by op.AreaMinimum a b = b
classes_by op.AreaMaximum a b = b
classes_by op.AreaDiversity a b = b
classes_by op.AreaMajority a b = b
classes_by op.AreaArea a b = a
classes_by _ a b = Unused

-- the operand that has the classes
abbrev pub classes_of : Operation → Operand
classes_of o = classes_by o.op o.a o.b
