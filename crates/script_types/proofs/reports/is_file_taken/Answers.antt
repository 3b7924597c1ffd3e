use Rattle.std.proofs.Common.{true, false, refl, sym, ◌∙◌, ap}
use Rattle.std.specs.List.{list_any}
use Rattle.std.specs.Option.{is_some}
use Rattle.script_types.specs.Reports.{Stacked, is_among, names_of}
use Rattle.script_types.proofs.ReportLemmas.{file-taken}
use Rattle.script_types.proofs.reports.is_file_taken.Goals as goal

pub returns-then-is_some : goal.returns-then-is_some
returns-then-is_some c =
    let taken = c.args.taken.now in
    let file = c.args.file.now in
    c.if-is_some.true ∙ file-taken taken c.args.steps file true (list_any (λ prefix. is_among file (names_of c.args.steps (Stacked prefix))) taken.stacks) c.requires (sym c.if-is_some.true ∙ c.is_some.ensures ∙ ap is_some c.get.ensures) refl

pub returns-else-is_some : goal.returns-else-is_some
returns-else-is_some c =
    let taken = c.args.taken.now in
    let file = c.args.file.now in
    file-taken taken c.args.steps file false c.is_of_stacks.result c.requires (sym c.if-is_some.false ∙ c.is_some.ensures ∙ ap is_some c.get.ensures) (c.is_of_stacks.ensures ∙ ap (list_any (λ prefix. is_among file (names_of c.args.steps (Stacked prefix)))) c.as_slice.ensures)
