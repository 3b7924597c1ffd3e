-- The loop over the places of files, by the lemmas for a part for each item.
use Rattle.std.proofs.Common.{◌≡◌, ℕ, ◌∷◌, ◌+◌, ◌<◌, length, drop, sym, ap, ◌∙◌, add-one, arith, drop-cons}
use Rattle.std.proofs.lemmas.List.{drop_all}
use Rattle.outside_io.specs.Runs.{in_turn}
use Rattle.outside_io.specs.Puts.{no_error}
use Rattle.outside_io.proofs.Callers.{meets_out, turn_done, turn_on, turn_stop}
use Rattle.model_maker.specs.Files.{made_file_at, made_files, no_file}
use Rattle.lue_run.specs.Course.{made_put}
use Rattle.lue_run.specs.inside.Puts.{not_put_outcome}
use Rattle.lue_run.proofs.make.put_all.Goals as goal

-- the file of a place stands in front of those that are left
here : (number place : ℕ) → place < length (made_files number) → drop place (made_files number) ≡ made_file_at number place ∷ drop (place + 1) (made_files number)
here number place below =
    drop-cons (made_files number) place no_file below
    ∙ ap (λ k. made_file_at number place ∷ drop k (made_files number)) (sym (add-one place))

pub put_file-requires : goal.put_file-requires
put_file-requires g c = omega (arith, c.loop-place-test.true, c.count-place-end.ensures)

pub returns-in_err-put_file : goal.returns-in_err-put_file
returns-in_err-put_file g c =
    let number = c.args.model.now in
    let place = c.loop-place.place in
    let files = made_files number in
    meets_out no_error (in_turn made_put tt files) _ not_put_outcome _ c.from_residual.result _ c.from_residual.ensures.1
    (turn_stop no_error made_put (in_turn made_put tt files) _ (drop place files) tt _ _ (made_file_at number place) (drop (place + 1) files) (not_put_outcome _)
    (here number place (omega (arith, c.loop-place-test.true, c.count-place-end.ensures))) c.loop-place.invariant c.in_err-put_file.ensures)

pub loop-place-preserved : goal.loop-place-preserved
loop-place-preserved g c =
    let number = c.args.model.now in
    let place = c.loop-place.place in
    let files = made_files number in
    turn_on no_error made_put (in_turn made_put tt files) _ (drop place files) tt _ _ (made_file_at number place) (drop (place + 1) files) tt
    (here number place (omega (arith, c.loop-place-test.true, c.count-place-end.ensures))) c.loop-place.invariant c.in_ok-put_file.ensures

pub returns : goal.returns
returns g c =
    let files = made_files c.args.model.now in
    turn_done no_error made_put (in_turn made_put tt files) _ (drop c.loop-place.place files) tt _
    (drop_all c.loop-place.place files (omega (arith, c.loop-place-test.false, c.count-place-end.ensures))) c.loop-place.invariant
