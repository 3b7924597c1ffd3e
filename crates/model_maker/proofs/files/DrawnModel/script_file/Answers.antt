use Rattle.std.proofs.Common.{◌≡◌, ℕ, List, ap, ◌∙◌}
use Rattle.std.specs.Prelude.{codes}
use Rattle.std.proofs.lemmas.Result.{IfOk-weaker}
use Rattle.model_maker.specs.Files.{made_file_at}
use Rattle.model_maker.specs.Made.{file_made}
use Rattle.model_maker.proofs.FileLemmas.{script_at}
use Rattle.model_maker.proofs.files.DrawnModel.script_file.Goals as goal

pub returns : goal.returns
returns c =
    IfOk-weaker c.file_named.result _ (λ made. file_made made ≡ made_file_at c.args.self.now 0)
    (λ made e. e ∙ ap (λ (bytes : List ℕ). (codes "made.mod", bytes)) (c.in_ok-text.ensures.items ∙ c.script_text.ensures) ∙ script_at c.args.self.now)
    c.file_named.ensures
