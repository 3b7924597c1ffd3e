use Rattle.std.proofs.Common.{arith, ap, List, length, ◌≤◌}
use Rattle.map_meaning.specs.declared.program.Operation.{Operation}
use Rattle.tile_map.proofs.TileLemmas.{count_few}
use Rattle.task_graph.proofs.CountLemmas.{few_product, few_tasks}
use Rattle.task_graph.proofs.count.count_tasks.Goals as goal

pub most_of_stages-requires-clause-tiles : goal.most_of_stages-requires-clause-tiles
most_of_stages-requires-clause-tiles c = omega (arith, count_few c.args.tiling.now, c.count-tiles.ensures)

pub tasks_of-requires-clause-tiles : goal.tasks_of-requires-clause-tiles
tasks_of-requires-clause-tiles c = omega (arith, count_few c.args.tiling.now, c.count-tiles.ensures)

pub overflow_mul-steps : goal.overflow_mul-steps
overflow_mul-steps c =
    let few = c.tasks_of.ensures.few in
    let same = ap (λ (os : List Operation). length os) c.as_slice.ensures in
    let size = c.requires.program.few_step_operations in
    let steps = c.min-steps.ensures in
    let block = c.requires.block in
    let most : c.tasks_of.result ≤ 68719484928 = few_tasks (length c.as_slice.result.now) c.tasks_of.result few (omega arith) in
    let h = few_product c.min-steps.result c.tasks_of.result 68719484928 (omega arith) most in
    omega arith
