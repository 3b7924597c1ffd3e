use Rattle.std.proofs.Common.{◌≡◌, ◌+◌, ◌-◌, ◌∷◌, ◌++◌, drop, decimal, ap, sym, ◌∙◌, arith}
use Rattle.std.proofs.lemmas.Fmt.{decimal_nonempty, length-decimal-le}
use Rattle.std.proofs.lemmas.List.{drop-set}
use Rattle.cell_values.proofs.Printing.{signed_length, signed_is}
use Rattle.cell_values.proofs.print.put_whole.Goals as goal

pub write_digits-start-requires : goal.write_digits-start-requires
write_digits-start-requires c =
    let long = length-decimal-le 14 c.args.whole (omega arith) (omega (arith, c.requires.whole)) (omega (arith, c.requires.whole)) in
    (omega (arith, long), omega (arith, c.requires.room))

pub overflow_sub-text : goal.overflow_sub-text
overflow_sub-text c =
    let long = length-decimal-le 14 c.args.whole (omega arith) (omega (arith, c.requires.whole)) (omega (arith, c.requires.whole)) in
    omega (arith, long, c.write_digits-start.ensures.start)

pub overflow_sub-result : goal.overflow_sub-result
overflow_sub-result c = overflow_sub-text c

pub returns-clause-start : goal.returns-clause-start
returns-clause-start c =
    let long = length-decimal-le 14 c.args.whole (omega arith) (omega (arith, c.requires.whole)) (omega (arith, c.requires.whole)) in
    let more = signed_length c.args.negative (decimal c.args.whole) c.if-not-negative.false in
    omega (arith, long, more, c.write_digits-start.ensures.start)

pub returns-clause-written : goal.returns-clause-written
returns-clause-written c =
    let w = c.write_digits-start in
    let long = length-decimal-le 14 c.args.whole (omega arith) (omega (arith, c.requires.whole)) (omega (arith, c.requires.whole)) in
    let e : w.result - 1 + 1 ≡ w.result = omega (arith, long, w.ensures.start) in
    let set = drop-set w.new.buf (w.result - 1) 45 (omega (arith, long, w.ensures.start, c.requires.room)) in
    set ∙ ap (λ k. 45 ∷ drop k w.new.buf) e ∙ ap (λ t. 45 ∷ t) w.ensures.written ∙ ap (λ t. t ++ drop 21 c.args.text.now) (sym (signed_is c.args.negative (decimal c.args.whole) c.if-not-negative.false))

pub returns-then-not-negative-clause-digit : goal.returns-then-not-negative-clause-digit
returns-then-not-negative-clause-digit c =
    let some = decimal_nonempty c.args.whole (omega (arith, c.requires.whole)) in
    omega (arith, some, c.write_digits-start.ensures.start)
