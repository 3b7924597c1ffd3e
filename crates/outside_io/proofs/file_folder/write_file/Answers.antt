-- What was begun, written and closed.
use Rattle.std.proofs.Common.{◌∙◌}
use Rattle.outside_io.proofs.DiskLemmas.{begun_keeps, put_whole}
use Rattle.outside_io.proofs.file_folder.write_file.Goals as goal

pub returns-in_err-write-clause-keeps : goal.returns-in_err-write-clause-keeps
returns-in_err-write-clause-keeps g c =
    begun_keeps _ _ _ _ _ c.in_ok-file.ensures.answer c.in_ok-file.ensures.keeps c.in_err-write.ensures.keeps

pub returns-clause-answer : goal.returns-clause-answer
returns-clause-answer g c = record {
  there = put_whole _ _ _ _ _ _ _ _ c.in_ok-file.ensures.answer c.in_ok-file.ensures.keeps c.in_ok-write.ensures.answer c.in_ok-write.ensures.keeps c.in_ok-close.ensures.answer;
  none = c.in_ok-close.ensures.counts ∙ (c.in_ok-write.ensures.counts ∙ c.in_ok-file.ensures.counts);
}
