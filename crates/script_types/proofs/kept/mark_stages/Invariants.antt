use Rattle.std.proofs.Common.{◌≡◌, if◌then◌else◌, take}
use Rattle.map_meaning.specs.Programs.{is_read_behind, stage_begin}
use Rattle.script_types.specs.inside.Kept.{Marks, begins_stage}
use Rattle.script_types.proofs.kept.mark_stages.Given as goal

abbrev pub invariant-loop-at : goal.invariant-loop-at
invariant-loop-at l = record {
  marks : Marks l.fn.marks l.marks (λ n. is_read_behind l.drains n 0 (take l.at l.operations));
  stage : stage_begin l.drains l.at ≡ (if begins_stage l.at l.drains then l.at else l.begin);
}
