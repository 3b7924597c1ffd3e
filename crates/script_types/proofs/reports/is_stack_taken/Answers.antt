use Rattle.std.proofs.Common.{true, false, refl, sym, ◌∙◌, ap}
use Rattle.std.specs.List.{list_any}
use Rattle.script_types.specs.Reports.{Stacked, is_among, names_of, share_a_name}
use Rattle.script_types.proofs.ReportLemmas.{stack-taken}
use Rattle.script_types.proofs.reports.is_stack_taken.Goals as goal

pub returns-then-has_file_of : goal.returns-then-has_file_of
returns-then-has_file_of c =
    let taken = c.args.taken.now in
    let prefix = c.args.prefix.now in
    let known = sym c.if-has_file_of.true ∙ c.has_file_of.ensures ∙ ap (list_any (λ file. is_among file (names_of c.args.steps (Stacked prefix)))) c.as_slice.ensures in
    c.if-has_file_of.true ∙ stack-taken taken c.args.steps prefix true (list_any (λ other. share_a_name c.args.steps (Stacked prefix) (Stacked other)) taken.stacks) known refl

pub returns-else-has_file_of : goal.returns-else-has_file_of
returns-else-has_file_of c =
    let taken = c.args.taken.now in
    let prefix = c.args.prefix.now in
    let known = sym c.if-has_file_of.false ∙ c.has_file_of.ensures ∙ ap (list_any (λ file. is_among file (names_of c.args.steps (Stacked prefix)))) c.as_slice.ensures in
    let last = c.has_file_in.ensures ∙ ap (list_any (λ other. share_a_name c.args.steps (Stacked prefix) (Stacked other))) c.as_slice-else-has_file_of.ensures in
    stack-taken taken c.args.steps prefix false c.has_file_in.result known last
