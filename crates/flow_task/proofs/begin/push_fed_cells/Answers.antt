use Rattle.std.proofs.Common.{◌≡◌, ◌∙◌, ℕ, List, ◌++◌, ap}
use Rattle.border_channel.specs.Edges.{fed_by}
use Rattle.border_channel.proofs.Callers.{all_within}
use Rattle.flow_task.proofs.begin.push_fed_cells.Goals as goal

pub push_numbers-requires-clause-places : goal.push_numbers-requires-clause-places
push_numbers-requires-clause-places c =
    let is : c.deref.result.now ≡ fed_by c.args.orient c.args.drain.now c.place.result =
    c.deref.ensures.value ∙ (let grown : c.push_fed.new.into.items ≡ c.clear.new.self.items ++ fed_by c.args.orient c.args.drain.now c.place.result = c.in_ok-push_fed.ensures in grown ∙ ap (λ (y : List ℕ). y ++ fed_by c.args.orient c.args.drain.now c.place.result) c.clear.ensures.items) in
    all_within c.args.orient c.args.drain.now c.args.tiling.now c.place.result c.deref.result.now c.requires.drain c.requires.size is
