use Rattle.std.proofs.Common.{◌≡◌, map, take}
use Rattle.model_maker.specs.Files.{made_files}
use Rattle.model_maker.specs.Made.{file_made}
use Rattle.model_maker.proofs.files.make_model.Given as goal

-- the files so far are the first ones
abbrev pub invariant-loop-place : goal.invariant-loop-place
invariant-loop-place l = map file_made l.files.items ≡ take l.place (made_files l.number)
