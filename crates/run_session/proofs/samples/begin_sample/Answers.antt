-- The columns of a time series, and their places.
use Rattle.std.proofs.Common.{◌≡◌, ap, subst, sym, ◌∙◌, map, ℕ, List, length, ◌<◌}
use Rattle.std.specs.Prelude.{All, ℤ}
use Rattle.std.proofs.lemmas.List.Elements.{All-nil}
use Rattle.time_series.specs.declared.row.SeriesRow.{SeriesRow}
use Rattle.run_session.specs.inside.Columns.{first_places}
use Rattle.run_session.proofs.Columns.{columns_within, keys_are, values_are}
use Rattle.run_session.proofs.samples.begin_sample.Goals as goal

pub returns-clause-sample : goal.returns-clause-sample
returns-clause-sample c =
    let ids = c.args.ids in
    let names = c.from_vec.ensures ∙ (c.in_ok-names.ensures ∙ (ap (map (λ (e : ℤ × ℕ). e.0)) (c.in_ok-places.ensures ∙ ap (first_places 0) c.cells.ensures) ∙ keys_are ids)) in
    let places = c.from_vec-2.ensures ∙ (c.in_ok-firsts.ensures ∙ (ap (map (λ (e : ℤ × ℕ). e.1)) (c.in_ok-places.ensures ∙ ap (first_places 0) c.cells.ensures) ∙ values_are ids)) in
    record {
      writable = record { names = names; rows = subst (λ (rows : List SeriesRow). All (λ row. length row.cells ≡ length c.from_vec.result) rows) (sym c.new.ensures) (All-nil (λ (row : SeriesRow). length row.cells ≡ length c.from_vec.result)) };
      places_are = places;
      within = subst (λ ps. All (λ place. place < length ids) ps) (sym places) (columns_within ids);
    }
