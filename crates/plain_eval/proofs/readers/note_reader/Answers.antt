-- One operand after the other.
use Rattle.std.proofs.Common.{◌∙◌, get_or, arith}
use Rattle.plain_eval.specs.inside.Sections.{is_own}
use Rattle.plain_eval.proofs.ReaderLemmas.{four_steps, four_tests}
use Rattle.plain_eval.proofs.readers.note_reader.Goals as goal

pub returns : goal.returns
returns c =
    let o = c.args.operation in
    record {
      count = omega arith;
      each = λ k below.
          four_steps (is_own c.args.span k o.a) (is_own c.args.span k o.b) (is_own c.args.span k o.c) (is_own c.args.span k o.d) c.args.n (get_or c.args.last.now k 0) (get_or c.note.new.last k 0) (get_or c.note-2.new.last k 0) (get_or c.note-3.new.last k 0) (get_or c.note-4.new.last k 0)
          (c.note.ensures.each k below) (c.note-2.ensures.each k (omega arith)) (c.note-3.ensures.each k (omega arith)) (c.note-4.ensures.each k (omega arith))
          ∙ four_tests (is_own c.args.span k o.a) (is_own c.args.span k o.b) (is_own c.args.span k o.c) (is_own c.args.span k o.d) c.args.n (get_or c.args.last.now k 0);
    }
