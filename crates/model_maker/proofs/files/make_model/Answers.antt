use Rattle.std.proofs.Common.{◌≡◌, ℕ, ◌<◌, List, [], ◌∷◌, ◌++◌, length, map, take, sym, ap, ◌∙◌, arith}
use Rattle.std.proofs.lemmas.List.{map-append, take_all, take_more}
use Rattle.model_maker.specs.declared.files.Made.{Made}
use Rattle.model_maker.specs.Files.{made_file_at, made_files, no_file}
use Rattle.model_maker.specs.Made.{file_made}
use Rattle.model_maker.proofs.files.make_model.Goals as goal

pub loop-place-init : goal.loop-place-init
loop-place-init c = ap (λ (files : List Made). map file_made files) c.in_ok-files.ensures.items

-- the next file stands behind the first ones
pub loop-place-preserved : goal.loop-place-preserved
loop-place-preserved c =
    let place = c.loop-place.place in
    let files = made_files c.args.number in
    let is = c.in_ok-model.ensures in
    let below : place < length files =
    omega (arith, c.loop-place-test.true, c.count-place-end.ensures ∙ ap (λ (n : ℕ). length (made_files n)) is) in
    let made : file_made c.in_ok-file.field-0 ≡ made_file_at c.args.number place = c.in_ok-file.ensures ∙ ap (λ (n : ℕ). made_file_at n place) is in
    ap (λ (more : List Made). map file_made more) c.in_ok-push.ensures.items
    ∙ map-append file_made c.loop-place.files.items (c.in_ok-file.field-0 ∷ [])
    ∙ ap (λ before. before ++ file_made c.in_ok-file.field-0 ∷ []) c.loop-place.invariant
    ∙ ap (λ file. take place files ++ file ∷ []) made
    ∙ sym (take_more files place no_file below)

pub returns : goal.returns
returns c =
    let files = made_files c.args.number in
    c.loop-place.invariant
    ∙ take_all c.loop-place.place files (omega (arith, c.loop-place-test.false, c.count-place-end.ensures ∙ ap (λ (n : ℕ). length (made_files n)) c.in_ok-model.ensures))
