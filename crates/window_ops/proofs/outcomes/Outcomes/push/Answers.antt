use Rattle.std.proofs.Common.{◌≡◌, ℕ, length, ap, ◌∙◌, rules}
use Rattle.std.specs.Prelude.{Err}
use Rattle.tile_map.specs.Parts.{Outcome, or_over_at}
use Rattle.window_ops.proofs.OutcomeLemmas.{push_over}
use Rattle.window_ops.proofs.outcomes.Outcomes.push.Goals as goal

pub returns-in_ok-push-in-Err-clause-each : goal.returns-in_ok-push-in-Err-clause-each
returns-in_ok-push-in-Err-clause-each c = λ f places are e.
    let cells = c.args.self.now.cells.items in
    let over = c.args.self.now.over in
    let more = push_over f places cells over c.in-Err.field-0 are (e ∙ c.in-Err.is) in
    let len : c.len-place.result ≡ length cells = search rules in
    record {
      cells_are = c.in_ok-push-in-Err.ensures.items ∙ more.cells_are;
      over_is = c.earlier-self.ensures ∙ (ap (λ (n : ℕ). let o : Outcome = Err c.in-Err.field-0 in or_over_at n o over) len ∙ more.over_is);
    }
