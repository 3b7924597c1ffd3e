-- The names of a script: bound, assigned, used in a role.
use Rattle.std.specs.Prelude.{ℕ, ◌+◌, ◌-◌, ◌^◌, ◌==◌, ◌&&◌, ◌||◌, Bool, true, false, not, List}
use Rattle.std.specs.Prelude.{[], ◌∷◌, ◌++◌, length, filter, take, Option, Some, None, nat_le, nat_lt, slice_get, if◌then◌else◌}
use Rattle.std.specs.Option.{is_some}
use Rattle.std.specs.List.{list_any}
use Rattle.std.specs.Str.{bytes_eq}
use Rattle.text_base.specs.Bytes.{point}
use Rattle.script_syntax.specs.declared.tree.Binding.{Binding}
use Rattle.script_syntax.specs.declared.tree.Target.{Target}
use Rattle.script_syntax.specs.declared.tree.Target.TheVariants as target
use Rattle.script_syntax.specs.declared.tree.Statement.{Statement}
use Rattle.script_syntax.specs.declared.tree.Script.{Script}
use Rattle.script_syntax.specs.declared.tree.Expr.{Expr}
use Rattle.script_syntax.specs.declared.tree.Expr.TheFolds.{fold-Expr}
use Rattle.script_syntax.specs.declared.tree.Expr.TheOpen.{Expr-F}
use Rattle.script_syntax.specs.declared.tree.Expr.TheVariants as expr
use Rattle.map_meaning.specs.declared.row.Ask.{Ask}
use Rattle.map_meaning.specs.declared.row.Ask.TheVariants as ask
use Rattle.map_meaning.specs.declared.row.Stands.{Stands}
use Rattle.map_meaning.specs.declared.row.Stands.TheVariants as stands
use Rattle.map_meaning.specs.Table.{is_kind}
use Rattle.script_types.specs.declared.typed.UsedAs.{UsedAs}
use Rattle.script_types.specs.declared.typed.UsedAs.TheVariants as used
use Rattle.script_types.specs.Table.{word_row, first_ask, stands_of}

-- ---- bound and assigned

-- the place of the first binding of a name, where k others stand before these
abbrev pub place_from : ℕ → List Binding → List ℕ → Option ℕ
place_from k [] name = None
place_from k (b ∷ bs) name = if bytes_eq name b.name then Some k else place_from (k + 1) bs name

-- the binding at a place, if there is one
abbrev pub binding_at : List Binding → Option ℕ → Option Binding
binding_at bindings None = None
binding_at bindings (Some place) = slice_get bindings place

-- the binding of a name
abbrev pub binding_of : Script → List ℕ → Option Binding
binding_of script name = binding_at script.bindings (place_from 0 script.bindings name)

-- some statement has the name as its target
abbrev pub is_assigned_in : List Statement → List ℕ → Bool
is_assigned_in statements name = list_any (λ s. bytes_eq name s.name) statements

-- some statement of the script assigns the name
abbrev pub is_assigned : Script → List ℕ → Bool
is_assigned script name = is_assigned_in script.initial name || is_assigned_in script.dynamic name

-- a word with this place is that of a time series
abbrev pub is_sample_word : Stands → Bool
is_sample_word stands.Sample = true
is_sample_word _ = false

-- the right side is a time series
abbrev pub is_sample : Expr → Bool
is_sample (expr.Call' word shape operands) = is_sample_word (stands_of (word_row word))
is_sample _ = false

-- the name is the target of a time series
abbrev pub is_sampled_in : List Statement → List ℕ → Bool
is_sampled_in statements name = list_any (λ s. bytes_eq name s.name && is_sample s.expr) statements

-- some statement of the script has the name as the target of a time series
abbrev pub is_sampled : Script → List ℕ → Bool
is_sampled script name = is_sampled_in script.initial name || is_sampled_in script.dynamic name

-- what is bound is a number
abbrev pub is_number_target : Target → Bool
is_number_target (target.File file) = false
is_number_target (target.Number text) = true

-- the name is bound to a number
abbrev pub is_bound_to_number : Option Binding → Bool
is_bound_to_number None = false
is_bound_to_number (Some b) = is_number_target b.target

-- the file that a name stands for: the bound one, or the one of that name
abbrev pub target_file : Target → List ℕ → List ℕ
target_file (target.File file) name = file
target_file (target.Number text) name = name

-- the file that a target is written to: the bound file, or the one that has its own name
abbrev pub file_by : Option Binding → List ℕ → List ℕ
file_by None name = name
file_by (Some b) name = target_file b.target name

-- ---- roles

-- The uses are one. Tables agree also in the number of their keys and the kind of their results, series in their kind.
abbrev pub is_same_use : UsedAs → UsedAs → Bool
is_same_use used.Grid used.Grid = true
is_same_use used.Stack used.Stack = true
is_same_use (used.Table m k) (used.Table n l) = (m == n) && is_kind k l
is_same_use (used.Series k) (used.Series l) = is_kind k l
is_same_use _ _ = false

-- a name that is used, and what it is used as there
pub record Use : Type 0 where
  pub name : List ℕ
  pub role : UsedAs

-- what a name is used as in a place that asks so, as the first of so many operands
abbrev pub role_asked : ℕ → Ask → UsedAs
role_asked count (ask.Table k) = used.Table (count - 1) k
role_asked count (ask.Series k) = used.Series k
role_asked count ask.Stack = used.Stack
role_asked count _ = used.Grid

-- what a name is used as that is the first of so many operands of this word
unfoldable pub first_role : List ℕ → ℕ → UsedAs
first_role word count = role_asked count (first_ask (word_row word))

-- the operands in their roles: the first in this one, the others as grids
abbrev pub in_roles : {A : Type 0} → UsedAs → List (UsedAs → A) → List A
in_roles role [] = []
in_roles role (x ∷ xs) = x role ∷ in_roles used.Grid xs

-- some lists, one after another
abbrev pub joined_lists : {A : Type 0} → List (List A) → List A
joined_lists [] = []
joined_lists (xs ∷ rest) = xs ++ joined_lists rest

-- the uses of an expression, from those of its operands
abbrev pub uses_level : Expr-F (UsedAs → List Use) → UsedAs → List Use
uses_level (Expr-F.Name n) role = record { name = n; role = role } ∷ []
uses_level (Expr-F.Number text) role = []
uses_level (Expr-F.Call word operands) role = joined_lists (in_roles (first_role word (length operands)) operands)

-- the uses of names in an expression that stands in this role, in the order of their places
unfoldable pub uses : Expr → UsedAs → List Use
uses = fold-Expr (UsedAs → List Use) uses_level

-- the uses of names in some statements
abbrev pub statements_uses : List Statement → List Use
statements_uses [] = []
statements_uses (s ∷ ss) = uses s.expr used.Grid ++ statements_uses ss

-- the uses of names in a script, in the order of their places; the area map comes first
abbrev pub script_uses : Script → List Use
script_uses script = record { name = script.area; role = used.Grid } ∷ statements_uses script.initial ++ statements_uses script.dynamic

-- the uses of names down to the statement with this number: those of the area map and of so many statements
abbrev pub uses_down_to : Script → ℕ → List Use
uses_down_to script n =
    record { name = script.area; role = used.Grid } ∷ statements_uses (take n (script.initial ++ script.dynamic))

-- a name stands here for a stack
abbrev pub is_stack : UsedAs → Bool
is_stack used.Stack = true
is_stack _ = false

-- some use is one of the name
abbrev pub is_used_in : List Use → List ℕ → Bool
is_used_in uses name = list_any (λ u. bytes_eq name u.name) uses

-- how many names are first used as a stack in some uses that stand below others
abbrev pub stacks_below : List Use → List Use → ℕ
stacks_below above [] = 0
stacks_below above (u ∷ us) =
    (if is_stack u.role && not (is_used_in above u.name) then 1 else 0) + stacks_below (above ++ u ∷ []) us

-- how many names are used as a stack down to the statement with this number
abbrev pub stacks_down_to : Script → ℕ → ℕ
stacks_down_to script n = stacks_below [] (uses_down_to script n)

-- the role of a name: that of its first use
abbrev pub role_of : List Use → List ℕ → Option UsedAs
role_of [] name = None
role_of (u ∷ us) name = if bytes_eq name u.name then Some u.role else role_of us name

-- ---- inputs

-- The binding is an input that is used: it binds a file, and its name is not assigned and is used.
abbrev pub is_input_by : (List ℕ → Bool) → (List ℕ → Bool) → Binding → Bool
is_input_by assigned used b = not (is_number_target b.target) && not (assigned b.name) && used b.name

-- some place of the script uses the name
abbrev pub is_used : Script → List ℕ → Bool
is_used script name = is_some (role_of (script_uses script) name)

-- the inputs that are used, in the order of the section `binding`
abbrev pub used_inputs : Script → List Binding
used_inputs script = filter (is_input_by (is_assigned script) (is_used script)) script.bindings

-- how many inputs stand before those of the section `binding`: the area map, where it is a file and no binding
abbrev pub inputs_before : Option Binding → ℕ
inputs_before None = 1
inputs_before (Some b) = 0

-- the number of the input with this name, if there is one
abbrev pub input_number : Script → List ℕ → Option ℕ
input_number script name = place_from (inputs_before (binding_of script script.area)) (used_inputs script) name

-- ---- stacks

-- A stack's files have names of eleven bytes without their point: the prefix, and as many digits as are left, which have
-- to be enough for the last step. The prefix has no point and at most 8 bytes.
abbrev pub is_bad_prefix : List ℕ → ℕ → Bool
is_bad_prefix prefix steps =
    list_any (λ byte. byte == point) prefix || nat_lt 8 (length prefix) || nat_le (10 ^ (11 - length prefix)) steps
