-- The way out of an area map that is sound.
use Rattle.std.proofs.Common.{◌≡◌, refl, sym, subst, ◌∙◌, Ok}
use Rattle.outside_io.specs.Runs.{◌>>=◌, settled}
use Rattle.outside_io.specs.Causes.{CameTo, why_by}
use Rattle.outside_io.specs.Met.{Meets}
use Rattle.outside_io.specs.inside.Parts.{Settles}
use Rattle.outside_io.proofs.Callers.{meets_on, meets_settled}
use Rattle.map_meaning.specs.Maps.{WholeMap}
use Rattle.run_session.specs.declared.frame.Frame.{Frame}
use Rattle.run_session.specs.Course.{area_run, frame_of, or_unsound}
use Rattle.run_session.specs.Ends.{why}
use Rattle.run_session.specs.Steps.{grid_run}
use Rattle.run_session.specs.inside.Parts.{area_grid}
use Rattle.run_session.proofs.inputs.area_at.Goals as goal

pub returns-clause-meets : goal.returns-clause-meets
returns-clause-meets g c =
    let input = c.args.input.now in
    let grid = c.in_ok-grid.grid in
    let frame : Frame = frame_of grid in
    let state = g.F.Folder.state in
    let old = state c.args.folder.now in
    let mid = state c.grid_at.new.folder in
    let cells = c.in_ok-frame.ensures.cells in
    let framed : c.in_ok-frame.frame ≡ frame = c.in_ok-frame.ensures.frame in
    let held = c.in_ok-source.ensures.same ∙ cells in
    let P : WholeMap → WholeMap → Type 0 = λ m n. Settles (why_by why) (or_unsound frame input m) (CameTo (Ok n)) in
    let given : P c.in_ok-frame.cells c.in_ok-source.source.cells =
    subst (λ (f : Frame). Settles (why_by why) (or_unsound f input c.in_ok-frame.cells) (CameTo (Ok c.in_ok-source.source.cells))) framed c.in_ok-source.ensures.settles in
    let settles : P grid.cells grid.cells = subst (λ m. P m grid.cells) cells (subst (P c.in_ok-frame.cells) held given) in
    let Q : Frame → WholeMap → Type 0 = λ f m. Meets (why_by why) (area_run input) old mid (CameTo (Ok (area_grid f m))) in
    subst (λ f. Q f c.in_ok-source.source.cells) (sym framed) (subst (Q frame) (sym held)
    (meets_on why (grid_run input.kind input.file) (λ area. settled (or_unsound (frame_of area) input area.cells) >>= λ m. settled (Ok area)) old mid mid grid (CameTo (Ok grid)) c.in_ok-grid.ensures.meets
    (meets_on why (settled (or_unsound frame input grid.cells)) (λ m. settled (Ok grid)) mid mid mid grid.cells (CameTo (Ok grid))
    (meets_settled (why_by why) (or_unsound frame input grid.cells) mid (CameTo (Ok grid.cells)) settles)
    (meets_settled (why_by why) (Ok grid) mid (CameTo (Ok grid)) (refl, refl)))))
