-- The works of operations, by what they look at.
use Rattle.std.proofs.Common.{◌≡◌, ℕ, ◌/◌, ◌%◌, true, false, List, refl, sym, ap, ◌∙◌, arith}
use Rattle.std.specs.Prelude.{◌==◌, Some, nat_le}
use Rattle.std.proofs.lemmas.Bool.{and_parts}
use Rattle.region_meaning.specs.declared.area.AreaOp.{AreaOp}
use Rattle.region_meaning.specs.Areas.{AreaPlace}
use Rattle.map_meaning.specs.Rules as rule
use Rattle.map_meaning.specs.Rules.{Rule, reach_of, rule_of}
use Rattle.map_meaning.specs.Table.{is_window_length}
use Rattle.map_meaning.specs.declared.op.Op.{Op}
use Rattle.map_meaning.specs.declared.op.Op.TheVariants as op
use Rattle.map_meaning.specs.declared.program.Operand.{Operand}
use Rattle.plan_graph.specs.Graphs.{is_flow_work}
use Rattle.span_operands.specs.declared.scope.Scope.{Scope}
use Rattle.span_operands.specs.declared.scope.Scope.TheVariants as scope
use Rattle.span_operands.specs.inside.Scopes.{IsScopeOf, is_local}
use Rattle.task_graph.specs.declared.class.Class.{Class}
use Rattle.task_graph.specs.declared.class.Class.TheVariants as class
use Rattle.task_graph.specs.declared.task.Work.{Work}
use Rattle.task_graph.specs.declared.task.Work.TheVariants as work
use Rattle.task_graph.specs.Classes.{classes_by, op_class}
use Rattle.task_tiles.specs.declared.tile.Tile.{Tile}
use Rattle.task_tiles.specs.declared.tile.Tile.TheVariants.{Part, Partial}
use Rattle.task_tiles.specs.TaskTiles.{IsPartialTile}
use Rattle.tile_tasks.specs.inside.Areas.{IsZone}
use Rattle.tile_tasks.specs.inside.Flows.{IsTransport}
use Rattle.tile_tasks.specs.inside.Tiles.{IsPartialFor}
use Rattle.tile_tasks.specs.inside.Runs.{SuitsScope}
use Rattle.tile_tasks.proofs.PlanTasks.{SuitsClass}

-- ---- works and what operations look at

-- the class of the operations that have a rule
class_by : Rule → Class
class_by (rule.Local f) = class.Local
class_by (rule.Focal w) = class.Window
class_by (rule.Zonal a) = class.Area
class_by rule.ZoneSize = class.Area
class_by (rule.Global a) = class.Area
class_by (rule.Near n) = class.Near
class_by (rule.Along f) = class.Flow

class_is : (o : Op) → op_class o ≡ class_by (rule_of o)
unfolding class_by rule_of
class_is (op.Near n) = refl
class_is o = refl

-- the class of those that look at this
pub class_for : Scope → Class
class_for scope.Local = class.Local
class_for (scope.Focal w) = class.Window
class_for (scope.Zonal a) = class.Area
class_for scope.ZoneSize = class.Area
class_for (scope.Global a) = class.Area
class_for (scope.Near n) = class.Near
class_for (scope.Transport f) = class.Flow

local_class : (q : Rule) → is_local q ≡ true → class_by q ≡ class.Local
unfolding class_by
local_class (rule.Local f) is = refl
local_class q is = absurd (cc)

pub scope_class : (s : Scope) (o : Op) → IsScopeOf s o → op_class o ≡ class_for s
unfolding class_by class_for
scope_class scope.Local o is = class_is o ∙ local_class (rule_of o) is.0
scope_class (scope.Focal w) o is = class_is o ∙ ap class_by is.0
scope_class (scope.Zonal a) o is = class_is o ∙ ap class_by is.0
scope_class scope.ZoneSize o is = class_is o ∙ ap class_by is.0
scope_class (scope.Global a) o is = class_is o ∙ ap class_by is.0
scope_class (scope.Near n) o is = class_is o ∙ ap class_by is.0
scope_class (scope.Transport f) o is = class_is o ∙ ap class_by is.0

pub suits_by : (s : Scope) (w : Work) → SuitsClass (class_for s) w → is_flow_work w ≡ false → SuitsScope w s
unfolding class_for
suits_by scope.Local work.Local suits plain = tt
suits_by (scope.Focal w) work.Window suits plain = tt
suits_by (scope.Near n) work.Near suits plain = tt
suits_by (scope.Zonal a) work.Partial suits plain = tt
suits_by (scope.Zonal a) work.Merge suits plain = tt
suits_by (scope.Zonal a) work.Spread suits plain = tt
suits_by scope.ZoneSize work.Partial suits plain = tt
suits_by scope.ZoneSize work.Merge suits plain = tt
suits_by scope.ZoneSize work.Spread suits plain = tt
suits_by (scope.Global a) work.Partial suits plain = tt
suits_by (scope.Global a) work.Merge suits plain = tt
suits_by (scope.Global a) work.Spread suits plain = tt
suits_by (scope.Transport f) work.Flow suits plain = absurd (cc)
suits_by s w suits plain = absurd suits

-- only transports are of theirs
pub flow_scope : (sc : Scope) → class_for sc ≡ class.Flow → IsTransport sc
unfolding class_for
flow_scope (scope.Transport f) is = tt
flow_scope sc is = absurd (cc)

-- operations over areas are of their class
pub area_class : (s : Scope) (o : Op) → IsZone s → IsScopeOf s o → op_class o ≡ class.Area
unfolding class_for
area_class (scope.Zonal a) o zone is = scope_class (scope.Zonal a) o is
area_class scope.ZoneSize o zone is = scope_class scope.ZoneSize o is
area_class (scope.Global a) o zone is = scope_class (scope.Global a) o is
area_class s o zone is = absurd zone

-- a window's length is odd: both halves are one
pub half_window : (n : ℕ) → is_window_length n ≡ true → n / 2 ≡ reach_of n
half_window n is = let odd : n % 2 ≡ 1 = (let parts = and_parts (n % 2 == 1) (nat_le n 31) is in grind (arith, parts.0)) in omega arith

-- ---- tiles that are partials

-- in the words of the tiles of a map
pub partial_for : (a : AreaOp) (places : List AreaPlace) (t : Tile) → IsPartialTile (Some a) places t → IsPartialFor a places t
partial_for a places (Part p) is = is
partial_for a places (Partial v) is = (let same : a ≡ v.op = (let two : Some a ≡ Some v.op = is.0 in cc) in sym same, is.1)

-- ---- the classes of areas

-- the operand that has them, of an operation that looks at values and classes
pub classes_second : (p : Op) (a b : Operand) (z : AreaOp) → rule_of p ≡ rule.Zonal z → classes_by p a b ≡ b
unfolding rule_of
classes_second op.AreaTotal a b z is = refl
classes_second op.AreaAverage a b z is = refl
classes_second op.AreaMinimum a b z is = refl
classes_second op.AreaMaximum a b z is = refl
classes_second op.AreaDiversity a b z is = refl
classes_second op.AreaMajority a b z is = refl
classes_second p a b z is = absurd (cc)

-- and of one that counts cells
pub classes_first : (p : Op) (a b : Operand) → rule_of p ≡ rule.ZoneSize → classes_by p a b ≡ a
unfolding rule_of
classes_first op.AreaArea a b is = refl
classes_first p a b is = absurd (cc)
