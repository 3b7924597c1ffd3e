use Rattle.std.proofs.Common.{◌≡◌, ℕ, List, length, ap, ◌∙◌}
use Rattle.std.specs.Prelude.{codes}
use Rattle.std.proofs.lemmas.Result.{IfOk-weaker}
use Rattle.cell_values.specs.declared.cell.Cell.{Cell}
use Rattle.cell_values.specs.declared.kind.Kind.TheVariants.{Ldd}
use Rattle.model_maker.specs.Files.{made_file_at, grid_file}
use Rattle.model_maker.specs.Made.{file_made}
use Rattle.model_maker.proofs.FileLemmas.{drains_at, length-drains}
use Rattle.model_maker.proofs.files.DrawnModel.drain_file.Goals as goal

pub map_file-requires : goal.map_file-requires
map_file-requires c = ap length (c.deref.ensures.value ∙ c.self.invariant.drains) ∙ length-drains c.self.inside.number

pub returns : goal.returns
returns c =
    IfOk-weaker c.map_file.result _ (λ made. file_made made ≡ made_file_at c.args.self.now 1)
    (λ made e. e
    ∙ ap (λ (cells : List Cell). (codes "made_ldd.asc", grid_file Ldd cells)) (c.deref.ensures.value ∙ c.self.invariant.drains)
    ∙ drains_at c.self.inside.number
    ∙ ap (λ (number : ℕ). made_file_at number 1) c.self.view_is)
    c.map_file.ensures
