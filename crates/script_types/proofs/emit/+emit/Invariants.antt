use Rattle.std.proofs.Common.{◌≡◌, ◌+◌, ◌*◌, ◌-◌, ◌≤◌, ◌++◌, length, map, drop, take, true}
use Rattle.map_meaning.specs.Trees.{meaning_of, operations_in}
use Rattle.script_types.specs.Lowered.{as_listed, numbered_operations, post_order}
use Rattle.script_types.specs.Names.{joined_lists}
use Rattle.std.specs.List.{list_all}
use Rattle.script_types.specs.inside.Drains.{drain_numbers}
use Rattle.script_types.specs.inside.Fits.{Ground, fits}
use Rattle.script_types.specs.inside.Nodes.{held_in}
use Rattle.script_types.specs.inside.Values.{EmitsAll}
use Rattle.script_types.proofs.TreeSizes.{size, sizes}
use Rattle.script_types.proofs.emit.+emit.Given as goal

abbrev pub decreases-emit : goal.decreases-emit
decreases-emit l = 2 * size l.tree.now + 1

abbrev pub decreases-emit_all : goal.decreases-emit_all
decreases-emit_all l = 2 * sizes l.trees.now + 2

abbrev pub invariant-emit_all-loop-tree : goal.invariant-emit_all-loop-tree
invariant-emit_all-loop-tree l = record {
  first : l.at.first ≤ length l.ops;
  room : length l.ops + operations_in (map meaning_of (drop l.tree-index l.trees)) ≡ length l.fn.ops + operations_in (map meaning_of l.trees);
  listed : map as_listed l.ops ++ numbered_operations l.at.statement (length l.ops - l.at.first + 1) (joined_lists (map post_order (drop l.tree-index l.trees))) ≡ map as_listed l.fn.ops ++ numbered_operations l.at.statement (length l.fn.ops - l.at.first + 1) (joined_lists (map post_order l.trees));
  values : (g : Ground) → l.numbers ≡ drain_numbers 0 g.inputs → list_all (fits g) l.trees ≡ true → EmitsAll l.at.section g (held_in l.holders) l.fn.ops l.ops l.at.statement l.at.first (take l.tree-index l.trees) l.found.items × (list_all (fits g) (drop l.tree-index l.trees) ≡ true);
}
