use Rattle.std.proofs.Common.{◌≡◌, ℕ, length, sym, ap, ◌∙◌, subst}
use Rattle.std.proofs.lemmas.Result.{err_from_is_err_and}
use Rattle.grid_text.specs.declared.fault.GridFault.{GridFault}
use Rattle.grid_text.specs.declared.fault.GridKind.TheVariants as kinds
use Rattle.grid_text.specs.Faults.{fault_at, place_of}
use Rattle.text_base.specs.Tokens.{tokens_left}
use Rattle.grid_text.specs.inside.Steps.{Fails, given_view, heading_given, heading_view}
use Rattle.grid_text.proofs.ReaderLaws.{front_fails, cells_fail, cells_give, nodata_good}
use Rattle.grid_text.proofs.reader.read_whole.Goals as goal

pub returns-in_err-heading : goal.returns-in_err-heading
returns-in_err-heading c =
    let n : ℕ = length c.args.text.now in
    let fault : c.head_fault.result ≡ fault_at kinds.Head (place_of n (tokens_left n c.in_ok-given.rest.now)) = c.head_fault.ensures ∙ ap (fault_at kinds.Head) c.place_of.ensures in
    let p = err_from_is_err_and c.from_residual-in_err-heading.result c.from_residual-in_err-heading.ensures.1 in
    rw (p.1, p.2) (front_fails c.args.kind c.args.text.now (given_view c.in_ok-given.given) c.in_ok-given.rest.now c.in_ok-given.ensures c.in_err-heading.field-0.0
    (subst (λ (f : GridFault). Fails c.in_err-heading.field-0.0 (heading_given f (given_view c.in_ok-given.given))) fault c.in_err-heading.ensures))

pub read_cells-requires-clause-nodata : goal.read_cells-requires-clause-nodata
read_cells-requires-clause-nodata c =
    let n : ℕ = length c.args.text.now in
    let fault : c.head_fault.result ≡ fault_at kinds.Head (place_of n (tokens_left n c.in_ok-given.rest.now)) = c.head_fault.ensures ∙ ap (fault_at kinds.Head) c.place_of.ensures in
    nodata_good c.args.kind c.args.text.now (given_view c.in_ok-given.given) c.in_ok-given.rest.now c.in_ok-given.ensures (heading_view c.in_ok-heading.heading)
    (sym (ap (λ (f : GridFault). heading_given f (given_view c.in_ok-given.given)) fault) ∙ c.in_ok-heading.ensures)

pub returns-in_err-cells : goal.returns-in_err-cells
returns-in_err-cells c =
    let n : ℕ = length c.args.text.now in
    let fault : c.head_fault.result ≡ fault_at kinds.Head (place_of n (tokens_left n c.in_ok-given.rest.now)) = c.head_fault.ensures ∙ ap (fault_at kinds.Head) c.place_of.ensures in
    let p = err_from_is_err_and c.from_residual-in_err-cells.result c.from_residual-in_err-cells.ensures.1 in
    rw (p.1, p.2) (cells_fail c.args.kind c.args.text.now (given_view c.in_ok-given.given) c.in_ok-given.rest.now c.in_ok-given.ensures (heading_view c.in_ok-heading.heading)
    (sym (ap (λ (f : GridFault). heading_given f (given_view c.in_ok-given.given)) fault) ∙ c.in_ok-heading.ensures) c.in_err-cells.field-0.0 c.in_err-cells.ensures)

pub returns : goal.returns
returns c =
    let n : ℕ = length c.args.text.now in
    let fault : c.head_fault.result ≡ fault_at kinds.Head (place_of n (tokens_left n c.in_ok-given.rest.now)) = c.head_fault.ensures ∙ ap (fault_at kinds.Head) c.place_of.ensures in
    cells_give c.args.kind c.args.text.now (given_view c.in_ok-given.given) c.in_ok-given.rest.now c.in_ok-given.ensures (heading_view c.in_ok-heading.heading)
    (sym (ap (λ (f : GridFault). heading_given f (given_view c.in_ok-given.given)) fault) ∙ c.in_ok-heading.ensures) c.in_ok-cells.cells c.in_ok-cells.ensures
