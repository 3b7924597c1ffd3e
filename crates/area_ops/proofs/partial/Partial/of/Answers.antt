use Rattle.std.proofs.Common.{◌≡◌, true, false, sym, ◌∙◌}
use Rattle.area_ops.specs.inside.Counts.{counts_numbers}
use Rattle.area_ops.proofs.CountLemmas.{nothing_counted}
use Rattle.area_ops.proofs.MapLemmas.{nothing_few}
use Rattle.area_ops.proofs.PlaceLemmas.{length-area_places}
use Rattle.area_ops.proofs.partial.Partial.of.Goals as goal

pub invariant_of-result : goal.invariant_of-result
invariant_of-result c = (c.requires.few, nothing_few c.args.len c.new.result c.new.ensures.empty, c.in_ok-counts.ensures.sound)

pub returns-then-counts_numbers-clause-stands : goal.returns-then-counts_numbers-clause-stands
returns-then-counts_numbers-clause-stands c = record {
  cells = sym (length-area_places c.args.values c.args.classes c.args.len);
  tallies = λ plain class. let counted : counts_numbers c.args.op ≡ true = sym c.counts_numbers.ensures ∙ c.if-counts_numbers.true in let both : true ≡ false = sym counted ∙ plain in absurd cc;
  counts = λ counted class number. c.in_ok-counts.ensures.counts class number;
}

pub invariant_of-result-2 : goal.invariant_of-result-2
invariant_of-result-2 c = (c.requires.few, c.in_ok-areas.ensures.sound, nothing_counted c.args.len c.new-2.result.entries c.new-2.ensures.empty)

pub returns-clause-stands : goal.returns-clause-stands
returns-clause-stands c = record {
  cells = sym (length-area_places c.args.values c.args.classes c.args.len);
  tallies = λ plain class. c.in_ok-areas.ensures.numbers class;
  counts = λ counted class number. let plain : counts_numbers c.args.op ≡ false = sym c.counts_numbers.ensures ∙ c.if-counts_numbers.false in let both : true ≡ false = sym counted ∙ plain in absurd cc;
}
