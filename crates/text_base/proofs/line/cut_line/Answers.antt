use Rattle.std.proofs.Common.{◌+◌, ◌-◌, ◌≤◌, length, drop, arith}
use Rattle.std.proofs.lemmas.List.{take_all, length-drop}
use Rattle.text_base.proofs.LineLaws.{cut_at_feed}
use Rattle.text_base.proofs.line.cut_line.Goals as goal

pub returns-then-len-text : goal.returns-then-len-text
returns-then-len-text c =
    let text = c.args.text.now in
    let len = c.line_len-len.result in
    let all : length (drop (len + 1) text) ≤ length text - (len + 1) = omega (arith, length-drop (len + 1) text) in
    rw (take_all (length text - (len + 1)) (drop (len + 1) text) all) (cut_at_feed text len c.line_len-len.ensures.value c.if-len-text.true)
