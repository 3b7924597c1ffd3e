-- How many files were put.
use Rattle.std.proofs.Common.{◌≡◌, ◌≤◌, ◌+◌, ◌-◌, ◌*◌, ℕ, length, ap, ap₂, ◌∙◌, arith}
use Rattle.std.specs.List.{filter}
use Rattle.std.proofs.Math.Nat.{mul-le-mul}
use Rattle.map_meaning.specs.declared.program.OutputUse.{OutputUse}
use Rattle.map_meaning.specs.declared.program.Program.{Program}
use Rattle.map_meaning.specs.Programs.{is_initial_grid, is_stack_grid}
use Rattle.run_session.specs.inside.Tallies.{files_put, tally_of}
use Rattle.run_session.proofs.PlanTally.{outputs_count}
use Rattle.run_session.proofs.session.tally.Goals as goal

pub overflow_sub-samples : goal.overflow_sub-samples
overflow_sub-samples c =
    let outputs = c.args.work.now.program.value.outputs in
    let all : c.len-outputs.result ≡ length outputs = c.len-outputs.ensures ∙ ap (λ (p : Program). length p.outputs) c.deref.ensures in
    let firsts : c.len-firsts.result ≡ length (filter (λ (o : OutputUse). is_initial_grid o.kind) outputs) = c.len-firsts.ensures ∙ ap length c.requires.firsts in
    let sum = outputs_count outputs in
    omega (arith, all, firsts, sum)

pub overflow_sub-samples-2 : goal.overflow_sub-samples-2
overflow_sub-samples-2 c =
    let outputs = c.args.work.now.program.value.outputs in
    let all : c.len-outputs.result ≡ length outputs = c.len-outputs.ensures ∙ ap (λ (p : Program). length p.outputs) c.deref.ensures in
    let firsts : c.len-firsts.result ≡ length (filter (λ (o : OutputUse). is_initial_grid o.kind) outputs) = c.len-firsts.ensures ∙ ap length c.requires.firsts in
    let grids : c.len-grids.result ≡ length (filter (λ (o : OutputUse). is_stack_grid o.kind) outputs) = c.len-grids.ensures ∙ ap length c.requires.grids in
    let sum = outputs_count outputs in
    omega (arith, all, firsts, grids, sum)

pub overflow_add-result : goal.overflow_add-result
overflow_add-result c =
    let program = c.args.work.now.program.value in
    let outputs = program.outputs in
    let all : c.len-outputs.result ≡ length outputs = c.len-outputs.ensures ∙ ap (λ (p : Program). length p.outputs) c.deref.ensures in
    let firsts : c.len-firsts.result ≡ length (filter (λ (o : OutputUse). is_initial_grid o.kind) outputs) = c.len-firsts.ensures ∙ ap length c.requires.firsts in
    let grids : c.len-grids.result ≡ length (filter (λ (o : OutputUse). is_stack_grid o.kind) outputs) = c.len-grids.ensures ∙ ap length c.requires.grids in
    let steps : c.deref-2.result.now.steps ≡ program.steps = ap (λ (p : Program). p.steps) c.deref-2.ensures in
    let sum = outputs_count outputs in
    let few : length outputs ≤ 1000 = c.requires.formed.few_outputs in
    let long : program.steps ≤ 100000 = c.requires.formed.few_steps in
    let at_most : c.deref-2.result.now.steps ≤ 100000 = omega (arith, steps, long) in
    let few_grids : c.len-grids.result ≤ 1000 = omega (arith, grids, sum, few) in
    let product : c.deref-2.result.now.steps * c.len-grids.result ≤ 100000 * 1000 = mul-le-mul at_most few_grids in
    omega (arith, firsts, sum, few, product)

pub overflow_add-result-2 : goal.overflow_add-result-2
overflow_add-result-2 c =
    let program = c.args.work.now.program.value in
    let outputs = program.outputs in
    let all : c.len-outputs.result ≡ length outputs = c.len-outputs.ensures ∙ ap (λ (p : Program). length p.outputs) c.deref.ensures in
    let firsts : c.len-firsts.result ≡ length (filter (λ (o : OutputUse). is_initial_grid o.kind) outputs) = c.len-firsts.ensures ∙ ap length c.requires.firsts in
    let grids : c.len-grids.result ≡ length (filter (λ (o : OutputUse). is_stack_grid o.kind) outputs) = c.len-grids.ensures ∙ ap length c.requires.grids in
    let steps : c.deref-2.result.now.steps ≡ program.steps = ap (λ (p : Program). p.steps) c.deref-2.ensures in
    let sum = outputs_count outputs in
    let few : length outputs ≤ 1000 = c.requires.formed.few_outputs in
    let long : program.steps ≤ 100000 = c.requires.formed.few_steps in
    let at_most : c.deref-2.result.now.steps ≤ 100000 = omega (arith, steps, long) in
    let few_grids : c.len-grids.result ≤ 1000 = omega (arith, grids, sum, few) in
    let product : c.deref-2.result.now.steps * c.len-grids.result ≤ 100000 * 1000 = mul-le-mul at_most few_grids in
    omega (arith, all, firsts, grids, sum, few, product)

pub returns : goal.returns
returns c =
    let program = c.args.work.now.program.value in
    let outputs = program.outputs in
    let all : c.len-outputs.result ≡ length outputs = c.len-outputs.ensures ∙ ap (λ (p : Program). length p.outputs) c.deref.ensures in
    let firsts : c.len-firsts.result ≡ length (filter (λ (o : OutputUse). is_initial_grid o.kind) outputs) = c.len-firsts.ensures ∙ ap length c.requires.firsts in
    let grids : c.len-grids.result ≡ length (filter (λ (o : OutputUse). is_stack_grid o.kind) outputs) = c.len-grids.ensures ∙ ap length c.requires.grids in
    let steps : c.deref-2.result.now.steps ≡ program.steps = ap (λ (p : Program). p.steps) c.deref-2.ensures in
    let sum = outputs_count outputs in
    let product : c.deref-2.result.now.steps * c.len-grids.result ≡ program.steps * length (filter (λ (o : OutputUse). is_stack_grid o.kind) outputs) = ap₂ (λ (a b : ℕ). a * b) steps grids in
    let files : c.len-firsts.result + c.deref-2.result.now.steps * c.len-grids.result + (c.len-outputs.result - c.len-firsts.result - c.len-grids.result) ≡ files_put program = omega (arith, all, firsts, grids, sum, product) in
    ap₂ tally_of files steps
