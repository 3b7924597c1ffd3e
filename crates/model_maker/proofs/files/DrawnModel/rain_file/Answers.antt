use Rattle.std.proofs.Common.{◌≡◌, ℕ, ◌∷◌, [], List, length, sym, ap, subst, ◌∙◌}
use Rattle.std.specs.Prelude.{codes, pos}
use Rattle.std.specs.List.{All}
use Rattle.std.proofs.lemmas.Result.{IfOk-weaker}
use Rattle.cell_values.specs.declared.kind.Kind.TheVariants.{Scalar}
use Rattle.time_series.specs.declared.row.SeriesRow.{SeriesRow}
use Rattle.time_series.specs.Written.{written_series}
use Rattle.model_maker.specs.Files.{made_file_at}
use Rattle.model_maker.specs.Made.{file_made}
use Rattle.model_maker.specs.Rain.{columns}
use Rattle.model_maker.proofs.FileLemmas.{rain_at, rain_full}
use Rattle.model_maker.proofs.files.DrawnModel.rain_file.Goals as goal

pub write_series-requires : goal.write_series-requires
write_series-requires c =
    subst (λ (rows : List SeriesRow). All (λ (row : SeriesRow). length row.cells ≡ columns) rows) (sym (c.deref.ensures.value ∙ c.self.invariant.rain))
    (rain_full c.self.inside.number)

pub returns : goal.returns
returns c =
    IfOk-weaker c.file_named.result _ (λ made. file_made made ≡ made_file_at c.args.self.now 4)
    (λ made e. e
    ∙ ap (λ bytes. (codes "made_rain.tss", bytes)) (c.in_ok-text.ensures ∙ ap (λ (rows : List SeriesRow). written_series Scalar (pos 1 ∷ pos 2 ∷ pos 3 ∷ pos 4 ∷ []) rows) (c.deref.ensures.value ∙ c.self.invariant.rain))
    ∙ rain_at c.self.inside.number
    ∙ ap (λ (number : ℕ). made_file_at number 4) c.self.view_is)
    c.file_named.ensures
