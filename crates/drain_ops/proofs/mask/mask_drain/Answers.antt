use Rattle.std.proofs.Common.{◌≡◌, ◌∙◌, ℕ, ap, map, length, arith, refl}
use Rattle.std.specs.List.{range_with_len}
use Rattle.std.proofs.lemmas.List.FromFn.{map-range_with_len_more}
use Rattle.tile_map.specs.Args.{arg_cell}
use Rattle.drain_meaning.specs.Masks.{lddmask_of, masked_code}
use Rattle.drain_meaning.proofs.Callers.{masked_drain}
use Rattle.drain_ops.proofs.mask.mask_drain.Goals as goal

pub loop-place-preserved : goal.loop-place-preserved
loop-place-preserved c =
    let more = map-range_with_len_more (masked_code c.args.drain.now (arg_cell c.args.mask)) 0 c.loop-place.place c.loop-place.place (omega arith) in
    rw (c.in_ok-push.ensures.items, c.masked.ensures, c.loop-place.invariant, more) refl

pub of_sound-requires : goal.of_sound-requires
unfolding lddmask_of
of_sound-requires c =
    let all : c.loop-place.place ≡ length c.args.drain.now.codes = omega (arith, c.cell_number-count.ensures.value) in
    let e = c.loop-place.invariant ∙ ap (λ (n : ℕ). map (masked_code c.args.drain.now (arg_cell c.args.mask)) (range_with_len 0 n)) all in
    rw (c.rows.ensures, c.cols.ensures, e) (masked_drain c.args.drain.now (arg_cell c.args.mask) c.cell_number-count.ensures.sound)
