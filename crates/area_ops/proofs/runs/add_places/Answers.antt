use Rattle.std.proofs.Common.{◌≡◌, ℤ, List, ap, sym, subst, ◌∙◌, arith}
use Rattle.std.specs.Prelude.{unsigned_abs}
use Rattle.std.proofs.lemmas.Nat.{mod_below}
use Rattle.tile_map.specs.Args.{arg_cell}
use Rattle.region_meaning.specs.Areas.{AreaPlace, area_places, numbers_of}
use Rattle.area_ops.specs.declared.tally.Tally.{Tally}
use Rattle.area_ops.specs.inside.Runs.{run_at, class_slot, slots, tally_with_runs}
use Rattle.area_ops.specs.inside.Tallies.{IsTally, no_tally, place_tally, tally_join, number_tally}
use Rattle.area_ops.proofs.MapLemmas.{at_nothing, nothing_sound}
use Rattle.area_ops.proofs.PlaceLemmas.{few-place, one_more_area, one_more_few, one_more_place, number_tally-nil}
use Rattle.area_ops.proofs.RunLemmas.{run_none, runs_sound}
use Rattle.area_ops.proofs.TallyLemmas.{sound-no_tally}
use Rattle.area_ops.proofs.runs.add_places.Goals as goal

pub loop-place-init : goal.loop-place-init
loop-place-init c =
    let runs = c.args.runs.now in
    let areas = c.args.areas.now in
    let none : (class : ℤ) → tally_with_runs areas runs class ≡ no_tally = λ class.
    run_none areas (run_at runs (class_slot class)) class (c.requires.none (class_slot class) (mod_below (unsigned_abs class) slots (omega arith))) ∙ at_nothing areas class c.requires.empty in
    record {
      numbers = λ class. none class ∙ sym number_tally-nil;
      sound = record {
        sound = λ class. subst IsTally (sym (none class)) sound-no_tally;
        few = λ class. let e = ap (λ (t : Tally). t.count) (none class) in omega (arith, e);
      };
      map = (nothing_sound c.args.areas.now c.requires.empty).sound;
      runs = c.requires.runs;
    }

pub loop-place-preserved : goal.loop-place-preserved
loop-place-preserved c =
    let value = arg_cell c.args.values c.loop-place.place in
    let area = arg_cell c.args.classes c.loop-place.place in
    let more : (class : ℤ) → tally_with_runs c.add_place.new.areas c.add_place.new.runs class ≡ tally_join (tally_with_runs c.loop-place.areas c.loop-place.runs class) (place_tally c.args.op class value area) =
    λ class. c.in_ok-add_place.ensures.tallies class
    ∙ ap (tally_join (tally_with_runs c.loop-place.areas c.loop-place.runs class)) (ap (λ x. place_tally c.args.op class x c.at-in-loop-place.result) c.at.ensures ∙ ap (place_tally c.args.op class value) c.at-in-loop-place.ensures) in
    record {
      numbers = λ class. more class
          ∙ (ap (λ (t : Tally). tally_join t (place_tally c.args.op class value area)) (c.loop-place.invariant.numbers class)
          ∙ (sym (one_more_place c.args.op (area_places c.args.values c.args.classes c.loop-place.place) (record { value = value; area = area }) class)
          ∙ ap (λ (ps : List AreaPlace). number_tally (numbers_of c.args.op ps class)) (sym (one_more_area c.args.values c.args.classes c.loop-place.place))));
      sound = one_more_few c.loop-place.place (tally_with_runs c.loop-place.areas c.loop-place.runs) (tally_with_runs c.add_place.new.areas c.add_place.new.runs) (λ class. place_tally c.args.op class value area) more
          (λ class. few-place c.args.op class value area) (runs_sound c.add_place.new.areas c.add_place.new.runs c.in_ok-add_place.ensures.sound c.in_ok-add_place.ensures.runs) c.loop-place.invariant.sound;
      map = c.in_ok-add_place.ensures.sound;
      runs = c.in_ok-add_place.ensures.runs;
    }

pub returns-clause-sound : goal.returns-clause-sound
returns-clause-sound c = record {
  sound = c.in_ok-end_runs.ensures.sound;
  few = λ class.
      let same = ap (λ (t : Tally). t.count) (c.in_ok-end_runs.ensures.tallies class) in
      let few = c.loop-place.invariant.sound.few class in
      let within = c.loop-place.auto.place-end in
      omega (arith, same, few, within);
}
