use Rattle.std.proofs.Common.{ap, Some}
use Rattle.outside_io.specs.CalmFolder.{pairs, calm_folder_state}
use Rattle.outside_io.specs.declared.calm_folder.CalmFolder.{CalmFolder}
use Rattle.outside_io.proofs.CalmFolderLemmas.{same_others-held, no_memory}
use Rattle.outside_io.proofs.calm_folder.CalmFolderFolder.put.Goals as goal

-- the file is written, and the put is not
pub returns-in_err-push-clause-answer : goal.returns-in_err-push-clause-answer
returns-in_err-push-clause-answer c =
    let folder = c.args.self.now in
    let left : CalmFolder = record { files = c.push_front.new.self; puts = c.push.new.self; absents = folder.absents; overlongs = folder.overlongs } in
    no_memory _ _ (calm_folder_state folder) (calm_folder_state left) c.args.name.now c.from_residual-in_err-push.ensures.1 (record {
      others = same_others-held c.in_ok-file.file folder.files.items _ c.args.name.now c.in_ok-file.ensures.name c.in_ok-push_front.ensures.items;
      puts = ap (λ helds. Some (pairs helds)) c.in_err-push.ensures.items;
    })
