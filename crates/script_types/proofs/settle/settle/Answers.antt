use Rattle.script_types.proofs.Steps.{settles-all, settles-area, settles-begin, settles-lines, settles-reports}
use Rattle.script_types.proofs.settle.settle.Goals as goal

pub returns-in-Err : goal.returns-in-Err
returns-in-Err c = settles-begin c.args.script.now c.in-Err.end c.in-Err.ensures.begins

pub returns-in-Err-check_area : goal.returns-in-Err-check_area
returns-in-Err-check_area c = settles-area c.args.script.now c.in-Err-check_area.end c.in-Ok.ensures.begins.0 c.in-Err-check_area.ensures

pub returns-in-Err-add_lines : goal.returns-in-Err-add_lines
returns-in-Err-add_lines c = settles-lines c.args.script.now c.in-Err-add_lines.end c.in-Ok.ensures.begins.0 c.in-Ok-check_area.ensures c.in-Err-add_lines.ensures

pub returns-in-Err-check_files : goal.returns-in-Err-check_files
returns-in-Err-check_files c = settles-reports c.args.script.now c.in-Err-check_files.end c.add_lines.new.settled c.in-Ok.ensures.begins.0 c.in-Ok-check_area.ensures c.in-Ok-add_lines.ensures c.in-Err-check_files.ensures

pub returns-in-Ok-check_files : goal.returns-in-Ok-check_files
returns-in-Ok-check_files c = settles-all c.args.script.now c.add_lines.new.settled c.in-Ok.ensures.begins.0 c.in-Ok-check_area.ensures c.in-Ok-add_lines.ensures c.in-Ok-check_files.ensures
