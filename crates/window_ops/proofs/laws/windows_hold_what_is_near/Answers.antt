use Rattle.window_ops.proofs.WindowLemmas.{holds_near}
use Rattle.window_ops.proofs.laws.windows_hold_what_is_near.Goals as goal

pub returns : goal.returns
returns c = holds_near
