use Rattle.std.proofs.Common.{◌≡◌, ◌≤◌, ℕ, List, drop, map}
use Rattle.script_types.specs.inside.Look.{look}
use Rattle.script_types.specs.inside.Stacks.{has_role, with_uses}
use Rattle.script_types.specs.Names.{in_roles, joined_lists, role_of, uses}
use Rattle.script_types.specs.Typing.{or_kind}
use Rattle.script_types.proofs.tables.+note_uses.Given as goal

abbrev pub invariant-loop-arg : goal.invariant-loop-arg
invariant-loop-arg l = record {
  few : l.counted ≤ 65;
  counted : with_uses (has_role l.roles) (joined_lists (in_roles l.asked (map uses (drop l.arg-index l.arg-items)))) l.counted ≡ with_uses (has_role l.fn.roles) (joined_lists (in_roles l.initial.asked (map uses l.arg-items))) l.initial.counted;
  noted : (name : List ℕ) → or_kind (look l.roles.values name) (role_of (joined_lists (in_roles l.asked (map uses (drop l.arg-index l.arg-items)))) name) ≡ or_kind (look l.fn.roles.values name) (role_of (joined_lists (in_roles l.initial.asked (map uses l.arg-items))) name);
}
