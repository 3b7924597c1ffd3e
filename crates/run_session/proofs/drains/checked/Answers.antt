-- What a check says of a drain map is what its first unsound place says.
use Rattle.std.proofs.Common.{◌≡◌, refl, sym, ap, subst, ◌∙◌, Ok, Err, rules}
use Rattle.std.specs.Prelude.{Option, Result}
use Rattle.drain_check.specs.Checks.{IsRefused}
use Rattle.drain_meaning.specs.Drains.{DrainMap}
use Rattle.drain_meaning.specs.Paths.{IsFirstUnsound, IsSound}
use Rattle.map_meaning.specs.Maps.{WholeMap}
use Rattle.run_session.specs.Course.{sound_or_end}
use Rattle.run_session.specs.Ends.{ScriptEnd}
use Rattle.run_session.specs.inside.Parts.{GivesEnd, drain_over}
use Rattle.run_session.proofs.DrainInputs.{over_map, refused_first, sound_none}
use Rattle.run_session.proofs.drains.checked.Goals as goal

pub returns-in_ok-new-in-Ok-clause-settles : goal.returns-in_ok-new-in-Ok-clause-settles
returns-in_ok-new-in-Ok-clause-settles c =
    let frame = c.args.frame.now in
    let codes = c.args.codes.now in
    let m = drain_over frame codes in
    let whole : c.in-Ok.drain ≡ m = c.in-Ok.ensures.value ∙ ap (drain_over frame) (c.in_ok-cells.ensures.items ∙ c.cells.ensures) in
    let held : c.in_ok-new-in-Ok.field-0.codes ≡ codes = ap (λ (d : DrainMap). d.codes) (c.in_ok-new-in-Ok.ensures ∙ whole) in
    let P : WholeMap → Result WholeMap ScriptEnd = λ cells. Ok cells in (
      ap (sound_or_end frame.cols c.args.name.now codes) (sound_none m (over_map frame codes c.requires.size c.requires.codes) (subst IsSound whole c.in-Ok.ensures.sound)) ∙ ap P (sym held),
      refl,
    )

pub returns-in-Err-Unsound-clause-settles : goal.returns-in-Err-Unsound-clause-settles
returns-in-Err-Unsound-clause-settles c =
    let frame = c.args.frame.now in
    let codes = c.args.codes.now in
    let m = drain_over frame codes in
    let same : drain_over frame c.in_ok-cells.cells.items ≡ m = ap (drain_over frame) (c.in_ok-cells.ensures.items ∙ c.cells.ensures) in
    let refused = subst (λ (d : DrainMap). IsFirstUnsound d c.in-Err-Unsound.place) same (subst (IsRefused (drain_over frame c.in_ok-cells.cells.items)) c.in-Err-Unsound.field-0-is c.in-Err-Unsound.ensures.refused) in
    let first = refused_first m c.in-Err-Unsound.place (over_map frame codes c.requires.size c.requires.codes) refused in
    subst (λ (o : Option _). GivesEnd (sound_or_end frame.cols c.args.name.now codes o) (Err c.input_end.result)) (sym first) (search rules)
