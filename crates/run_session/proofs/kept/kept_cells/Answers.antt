-- The search by halves.
use Rattle.std.proofs.Common.{rules, sym, ◌∙◌}
use Rattle.std.proofs.lemmas.List.Sorted.{answers_always}
use Rattle.run_session.proofs.Search.{search_ends, search_finds}
use Rattle.run_session.proofs.kept.kept_cells.Goals as goal

pub returns-in-Ok : goal.returns-in-Ok
returns-in-Ok c =
    let found = c.in-Ok.ensures.position (λ map. map.operation) (answers_always _ _ _ (λ f a r g called. search rules)) in
    c.cells.ensures ∙ sym (search_finds c.args.maps.now c.requires c.args.number c.in-Ok.place c.index-maps-place.result found c.in-Ok.ensures.bound)

pub returns-in-Err : goal.returns-in-Err
returns-in-Err c =
    sym (search_ends c.args.maps.now c.requires c.args.number c.in-Err.field-0 (c.in-Err.ensures.position (λ map. map.operation) (answers_always _ _ _ (λ f a r g called. search rules))))
