use Rattle.std.proofs.Common.{◌≡◌, ◌+◌, [], ◌∷◌, ◌++◌, drop, length, refl, sym, ◌∙◌, ap, subst, arith}
use Rattle.std.proofs.lemmas.List.{drop_all, drop_more, length-append}
use Rattle.text_base.specs.Results.{◌>>=◌}
use Rattle.script_types.specs.Statements.{counts, lines_below, next_line}
use Rattle.script_types.specs.inside.Answers.{Adds, AreNextBelow, IsCount}
use Rattle.std.proofs.Common.{Err}
use Rattle.script_types.proofs.Steps.{counts-other, first-next, line-fails, rest-next}
use Rattle.script_types.proofs.settle.add_section.Goals as goal

pub loop-statement-init : goal.loop-statement-init
loop-statement-init c =
    let b = c.requires.below in
    record {
      below = record {
        steps = b.steps;
        mean = b.mean;
        bindings = b.bindings;
        places = b.places;
        targets = b.targets;
        samples = b.samples;
        roles = b.roles;
        inputs = b.inputs;
        above = b.above;
        seen = b.seen;
        stacks_read = b.stacks_read;
        few_read = b.few_read;
        stacks_written = b.stacks_written;
        few_written = b.few_written;
      };
      section = refl;
      count = record { counted = sym c.requires.none; few = c.requires.few };
      length = omega arith;
      untouched = λ other h. refl;
      next = c.requires.next;
      settled = refl;
    }

pub add_line-requires : goal.add_line-requires
add_line-requires c =
    let script = c.args.script.now in
    let items = c.args.statements.now in
    let at = c.loop-statement.statement-index in
    let lines = c.loop-statement.lines in
    let inv = c.loop-statement.invariant in
    let s = c.statement-item.result in
    let left : drop at items ≡ s ∷ drop (at + 1) items = drop_more items at s (omega arith) ∙ ap (λ x. x ∷ drop (at + 1) items) (sym c.statement-item.is) in
    record {
      below = inv.below;
      count = subst (λ x. IsCount x c.loop-statement.count lines) (sym inv.section) inv.count;
      room = let l = inv.length in omega (arith, l);
      next = first-next script lines s (drop (at + 1) items) (subst (AreNextBelow script lines) left inv.next);
    }

pub loop-statement-preserved : goal.loop-statement-preserved
loop-statement-preserved c =
    let script = c.args.script.now in
    let section = c.args.section in
    let items = c.args.statements.now in
    let at = c.loop-statement.statement-index in
    let lines = c.loop-statement.lines in
    let inv = c.loop-statement.invariant in
    let s = c.statement-item.result in
    let rest = drop (at + 1) items in
    let left : drop at items ≡ s ∷ rest = drop_more items at s (omega arith) ∙ ap (λ x. x ∷ rest) (sym c.statement-item.is) in
    let w = c.in-Ok.ensures in
    let l = w.0 in
    record {
      below = w.5;
      section = w.4 ∙ inv.section;
      count = subst (λ x. IsCount x c.in-Ok.more c.add_line.new.lines) inv.section w.6;
      length = ap length w.2 ∙ length-append lines (l ∷ []) ∙ (let n = inv.length in omega (arith, n));
      untouched = λ other h. ap (counts other) w.2 ∙ counts-other section other lines l (w.3 ∙ inv.section) h ∙ inv.untouched other h;
      next = subst (λ xs. AreNextBelow script xs rest) (sym w.2) (rest-next script lines l s rest (subst (AreNextBelow script lines) left inv.next));
      settled = ap (λ xs. lines_below script section xs rest) w.2 ∙ sym (ap (λ r. r >>= λ m. lines_below script section (lines ++ m ∷ []) rest) (ap (λ x. next_line script x lines s) (sym inv.section) ∙ w.1)) ∙ ap (lines_below script section lines) (sym left) ∙ inv.settled;
    }

pub returns-in-Err : goal.returns-in-Err
returns-in-Err c =
    let script = c.args.script.now in
    let section = c.args.section in
    let items = c.args.statements.now in
    let at = c.loop-statement.statement-index in
    let lines = c.loop-statement.lines in
    let inv = c.loop-statement.invariant in
    let s = c.statement-item.result in
    let rest = drop (at + 1) items in
    let left : drop at items ≡ s ∷ rest = drop_more items at s (omega arith) ∙ ap (λ x. x ∷ rest) (sym c.statement-item.is) in
    line-fails script section c.in-Err.end c.args.lines.now lines c.add_line.new.lines c.add_line.new.lines s rest items c.add_line.new.scope c.add_line.new.scope (ap (lines_below script section lines) (sym left) ∙ inv.settled) (subst (λ x. Adds (Err c.in-Err.end) script x lines s c.add_line.new.scope c.add_line.new.lines) inv.section c.in-Err.ensures)

pub returns : goal.returns
returns c =
    let script = c.args.script.now in
    let section = c.args.section in
    let items = c.args.statements.now in
    let at = c.loop-statement.statement-index in
    let lines = c.loop-statement.lines in
    let inv = c.loop-statement.invariant in
    record {
      settled = sym inv.settled ∙ ap (lines_below script section lines) (drop_all at items (omega arith));
      count = let n = inv.length in omega (arith, n);
      untouched = inv.untouched;
      below = inv.below;
      few = inv.count.few;
    }
