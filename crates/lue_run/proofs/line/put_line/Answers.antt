-- The line of an answer, by its case.
use Rattle.std.proofs.Common.{sym, subst}
use Rattle.lue_run.specs.declared.ended.Ended.{Ended}
use Rattle.lue_run.specs.Lines.{line_of}
use Rattle.lue_run.specs.inside.Pieces.{PutsLine}
use Rattle.lue_run.proofs.line.put_line.Goals as goal

pub returns-in-Done : goal.returns-in-Done
returns-in-Done g c =
    let state = g.S.Sink.state in
    subst (λ (end : Ended). PutsLine (line_of end) (state c.args.out.now) (state c.put_done.new.out) c.put_done.result) (sym c.in-Done.is) c.put_done.ensures

pub returns-in-Made : goal.returns-in-Made
returns-in-Made g c =
    let state = g.S.Sink.state in
    subst (λ (end : Ended). PutsLine (line_of end) (state c.args.out.now) (state c.put_count.new.out) c.put_count.result) (sym c.in-Made.is) c.put_count.ensures

pub returns-in-Overflow : goal.returns-in-Overflow
returns-in-Overflow g c =
    let state = g.S.Sink.state in
    subst (λ (end : Ended). PutsLine (line_of end) (state c.args.out.now) (state c.put_overflow.new.out) c.put_overflow.result) (sym c.in-Overflow.is) c.put_overflow.ensures

pub returns-in-FolderReadFault : goal.returns-in-FolderReadFault
returns-in-FolderReadFault g c =
    let state = g.S.Sink.state in
    subst (λ (end : Ended). PutsLine (line_of end) (state c.args.out.now) (state c.put_name-in-FolderReadFault.new.out) c.put_name-in-FolderReadFault.result) (sym c.in-FolderReadFault.is) c.put_name-in-FolderReadFault.ensures

pub returns-in-FolderWriteFault : goal.returns-in-FolderWriteFault
returns-in-FolderWriteFault g c =
    let state = g.S.Sink.state in
    subst (λ (end : Ended). PutsLine (line_of end) (state c.args.out.now) (state c.put_name-in-FolderWriteFault.new.out) c.put_name-in-FolderWriteFault.result) (sym c.in-FolderWriteFault.is) c.put_name-in-FolderWriteFault.ensures
