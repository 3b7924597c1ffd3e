use Rattle.std.proofs.Common.{◌≡◌, ◌+◌, List, ap, sym, ◌∙◌, arith}
use Rattle.text_base.specs.Limits.{most_cells}
use Rattle.tile_map.specs.Args.{arg_cell}
use Rattle.region_meaning.specs.Areas.{AreaPlace, area_places, numbers_of}
use Rattle.region_meaning.specs.Numbers.{occurrences}
use Rattle.area_ops.specs.inside.Counts.{Member, count_at, times_given}
use Rattle.area_ops.proofs.CountLemmas.{count-nothing, few-count, nothing_counted, one_more_count}
use Rattle.area_ops.proofs.PlaceLemmas.{one_more_area}
use Rattle.area_ops.proofs.counts.counts.Goals as goal

pub loop-place-init : goal.loop-place-init
loop-place-init c = record {
  counts = λ class number. count-nothing c.new-counts.result.entries (class, number) c.new-counts.ensures.empty;
  sound = nothing_counted most_cells c.new-counts.result.entries c.new-counts.ensures.empty;
  few = λ own. let e = count-nothing c.new-counts.result.entries own c.new-counts.ensures.empty in omega (arith, e);
}

pub loop-place-preserved : goal.loop-place-preserved
loop-place-preserved c =
    let value = arg_cell c.args.values c.loop-place.place in
    let area = arg_cell c.args.classes c.loop-place.place in
    let more : (own : Member) → count_at c.count_place.new.counts own ≡ count_at c.loop-place.counts own + times_given c.args.op own value area =
    λ own. c.in_ok-count_place.ensures.counts own
    ∙ ap (λ n. count_at c.loop-place.counts own + n) (ap (λ x. times_given c.args.op own x c.at-in-loop-place.result) c.at.ensures ∙ ap (times_given c.args.op own value) c.at-in-loop-place.ensures) in
    record {
      counts = λ class number. more (class, number)
          ∙ (ap (λ n. n + times_given c.args.op (class, number) value area) (c.loop-place.invariant.counts class number)
          ∙ (sym (one_more_count c.args.op (area_places c.args.values c.args.classes c.loop-place.place) (record { value = value; area = area }) class number)
          ∙ ap (λ (ps : List AreaPlace). occurrences (numbers_of c.args.op ps class) number) (sym (one_more_area c.args.values c.args.classes c.loop-place.place))));
      sound = c.in_ok-count_place.ensures.sound;
      few = λ own.
          let e = more own in let one = few-count c.args.op own value area in let p = c.loop-place.invariant.few own in
          omega (arith, e, one, p);
    }
