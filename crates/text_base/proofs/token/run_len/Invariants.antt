use Rattle.std.proofs.Common.{◌≡◌, true, take}
use Rattle.std.specs.List.{list_all}
use Rattle.text_base.specs.inside.Steps.{is_token_byte}
use Rattle.text_base.proofs.token.run_len.Given as goal

-- no blank was met
abbrev pub invariant-loop-i : goal.invariant-loop-i
invariant-loop-i l = list_all is_token_byte (take l.i l.text) ≡ true
