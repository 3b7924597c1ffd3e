-- How many names are first used as a stack, counted on from others, but not above one more than may be read.
use Rattle.std.specs.Prelude.{ℕ, ◌+◌, ◌&&◌, ◌||◌, Bool, List, [], ◌∷◌, nat_lt, if◌then◌else◌}
use Rattle.std.specs.Option.{is_some}
use Rattle.std.specs.Str.{bytes_eq}
use Rattle.script_syntax.specs.declared.tree.Script.{Script}
use Rattle.script_types.specs.declared.names.Names.{Names}
use Rattle.script_types.specs.declared.typed.UsedAs.{UsedAs}
use Rattle.script_types.specs.declared.typed.UsedAs.TheVariants as used
use Rattle.script_types.specs.Names.{Use, is_stack}
use Rattle.script_types.specs.inside.Look.{look}

-- the use of the area map
abbrev pub area_use : Script → Use
area_use script = record { name = script.area; role = used.Grid }

-- whether a name has a role in a table
abbrev pub has_role : Names UsedAs → List ℕ → Bool
has_role roles name = is_some (look roles.values name)

-- so many stacks, and one more where the name stands for one, as far as they are counted
abbrev pub with_use : UsedAs → ℕ → ℕ
with_use role stacks = if is_stack role && nat_lt stacks 65 then stacks + 1 else stacks

-- so many stacks, and those that some uses name first, where these names are used above
abbrev pub with_uses : (List ℕ → Bool) → List Use → ℕ → ℕ
with_uses known [] stacks = stacks
with_uses known (u ∷ us) stacks =
    with_uses (λ name. known name || bytes_eq name u.name) us (if known u.name then stacks else with_use u.role stacks)
