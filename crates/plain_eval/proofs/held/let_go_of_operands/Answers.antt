-- One operand after the other.
use Rattle.std.proofs.Common.{◌&&◌, ◌∙◌, get_or, nat_eq}
use Rattle.std.specs.Prelude.{None}
use Rattle.plain_eval.specs.inside.Held.{held_at}
use Rattle.plain_eval.specs.inside.Sections.{is_own}
use Rattle.plain_eval.proofs.ReaderLemmas.{four_steps, four_tests_both}
use Rattle.plain_eval.proofs.held.let_go_of_operands.Goals as goal

pub returns : goal.returns
returns c =
    let o = c.args.operation in
    record {
      count = c.let_go-4.ensures.count ∙ (c.let_go-3.ensures.count ∙ (c.let_go-2.ensures.count ∙ c.let_go.ensures.count));
      each = λ k.
          let ends = nat_eq (get_or c.args.last.now k 0) c.args.n in
          four_steps (ends && is_own c.args.span k o.a) (ends && is_own c.args.span k o.b) (ends && is_own c.args.span k o.c) (ends && is_own c.args.span k o.d) None (held_at c.args.held.now k) (held_at c.let_go.new.held k) (held_at c.let_go-2.new.held k) (held_at c.let_go-3.new.held k) (held_at c.let_go-4.new.held k)
          (c.let_go.ensures.each k) (c.let_go-2.ensures.each k) (c.let_go-3.ensures.each k) (c.let_go-4.ensures.each k)
          ∙ four_tests_both ends (is_own c.args.span k o.a) (is_own c.args.span k o.b) (is_own c.args.span k o.c) (is_own c.args.span k o.d) None (held_at c.args.held.now k);
    }
