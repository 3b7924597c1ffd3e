use Rattle.std.proofs.Common.{◌+◌, ap}
use Rattle.text_base.specs.Limits.{most_cells}
use Rattle.area_ops.proofs.CountLemmas.{put, put-sound}
use Rattle.area_ops.proofs.counts.add_count.Goals as goal

pub returns-clause-counts : goal.returns-clause-counts
returns-clause-counts c =
    put c.args.counts.now.entries c.insert.new.self.entries c.args.member (c.count_at.result + c.args.more) c.args.more
    (ap (λ n. n + c.args.more) c.count_at.ensures) (λ q. c.in_ok-insert.ensures.updates.0 q)

pub returns-clause-sound : goal.returns-clause-sound
returns-clause-sound c =
    put-sound most_cells c.args.counts.now.entries c.insert.new.self.entries c.args.member (c.count_at.result + c.args.more) c.args.more
    (ap (λ n. n + c.args.more) c.count_at.ensures) c.requires.some c.requires.few (λ q. c.in_ok-insert.ensures.updates.0 q) c.requires.old
