use Rattle.tile_runtime.proofs.EndLemmas.{all_put_down, caller_can, nobody_holds, none_steps_in}
use Rattle.tile_runtime.proofs.run.complete.Goals as goal

pub returns-then-is_finished-clause-caller : goal.returns-then-is_finished-clause-caller
returns-then-is_finished-clause-caller g c = none_steps_in c.args.board c.requires.ended

pub drive_alone-requires-clause-idle : goal.drive_alone-requires-clause-idle
drive_alone-requires-clause-idle g c = nobody_holds c.args.board c.requires.ended c.plan-plan.ensures.keeps c.is_finished.ensures.legal

pub drive_alone-requires-clause-can : goal.drive_alone-requires-clause-can
drive_alone-requires-clause-can g c = caller_can c.args.board c.requires.ended c.is_finished.ensures.legal

pub returns-clause-caller : goal.returns-clause-caller
returns-clause-caller g c =
    all_put_down c.args.board c.requires.ended c.drive_alone.new.self c.plan-plan.ensures.keeps c.is_finished.ensures.legal c.if-is_finished.ensures.finished c.drive_alone.ensures.continues
