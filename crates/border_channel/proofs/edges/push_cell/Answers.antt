use Rattle.std.proofs.Common.{◌≡◌, ◌∙◌, ℕ, List, ◌++◌, ap}
use Rattle.border_channel.specs.Edges.{fed_by}
use Rattle.border_channel.proofs.EdgeLemmas.{all_within}
use Rattle.border_channel.proofs.edges.push_cell.Goals as goal

pub push_edges-requires-clause-targets : goal.push_edges-requires-clause-targets
push_edges-requires-clause-targets c =
    let is : c.deref.result.now ≡ fed_by c.args.orient c.args.drain.now c.args.source =
    c.deref.ensures.value ∙ (let grown : c.push_fed.new.into.items ≡ c.clear.new.self.items ++ fed_by c.args.orient c.args.drain.now c.args.source = c.in_ok-push_fed.ensures in grown ∙ ap (λ (y : List ℕ). y ++ fed_by c.args.orient c.args.drain.now c.args.source) c.clear.ensures.items) in
    all_within c.args.orient c.args.drain.now c.args.tiling.now c.args.source c.deref.result.now c.requires.drain c.requires.size is
