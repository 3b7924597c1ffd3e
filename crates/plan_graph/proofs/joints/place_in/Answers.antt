use Rattle.std.proofs.Common.{arith, ◌≡◌, ◌∙◌, get_or, inl, inr, sym, Ok, Err}
use Rattle.std.proofs.lemmas.Bool.{cases_lt}
use Rattle.std.proofs.lemmas.List.{get_or_default}
use Rattle.std.proofs.lemmas.List.Sorted.{searched}
use Rattle.plan_graph.proofs.RiseLemmas.{do_not_fall, place_found}
use Rattle.plan_graph.proofs.joints.place_in.Goals as goal

pub unreachable-requires : goal.unreachable-requires
unreachable-requires c =
    let list = c.args.list.now in
    let n = c.args.number in
    let told = searched list n (Err c.in-Err.field-0) c.in-Err.ensures.position (do_not_fall list c.requires.rises) in
    let there = c.requires.there in
    let low = there.1 in
    let is : get_or list there.0 0 ≡ n = get_or_default list there.0 0 n low ∙ there.2 in
    elim (cases_lt there.0 c.in-Err.field-0) [
      | inl less ↦ let h = told.1 there.0 less in omega arith
      | inr behind ↦ let h = told.2 there.0 behind low in omega arith
    ]

pub returns-clause-place : goal.returns-clause-place
returns-clause-place c =
    let list = c.args.list.now in
    let told = searched list c.args.number (Ok c.in-Ok.place) c.in-Ok.ensures.position (do_not_fall list c.requires.rises) in
    sym (place_found list c.args.number c.in-Ok.place c.requires.rises told.0 told.1)
