use Rattle.std.proofs.Common.{◌-◌, ◌∙◌}
use Rattle.turn_cell.specs.Seats.{authors_of, history_seen}
use Rattle.tile_runtime.specs.inside.Knowledge.{plan_at}
use Rattle.tile_runtime.proofs.EndLemmas.{all_ended, free_first, given_author, has_root, joined_authors, left_authors, none_ended, share_two}
use Rattle.tile_runtime.proofs.threads.+spread.Goals as goal

pub returns-then-worker-eq0-clause-ended : goal.returns-then-worker-eq0-clause-ended
returns-then-worker-eq0-clause-ended g t c = none_ended (plan_at c.args.crew.now.desk) c.args.worker (history_seen c.args.root) c.if-worker-eq0.true c.requires.seen

pub split-seat-requires-clause-share : goal.split-seat-requires-clause-share
split-seat-requires-clause-share g t c = share_two (authors_of c.args.root) c.args.worker c.if-worker-eq0.false c.requires.root.authors

pub start-child-requires-clause-seat : goal.start-child-requires-clause-seat
start-child-requires-clause-seat g t c κs within = record {
  of = c.split-seat.ensures.cell.1;
  authors = c.split-seat.ensures.given ∙ given_author (authors_of c.args.root) c.args.worker c.requires.root.authors;
  plan = c.split-seat.ensures.plan.1 ∙ c.requires.root.plan;
  number = c.requires.most;
  board = c.requires.root.board;
}

pub start-child-requires-clause-free : goal.start-child-requires-clause-free
start-child-requires-clause-free g t c κs within = free_first (plan_at c.args.crew.now.desk) c.args.worker (history_seen c.split-seat.result) (c.split-seat.ensures.seen.1 ∙ c.requires.seen)

pub spread-root-requires-clause-root : goal.spread-root-requires-clause-root
spread-root-requires-clause-root g t c κs within = record {
  of = c.split-seat.ensures.cell.0;
  authors = c.split-seat.ensures.left ∙ left_authors (authors_of c.args.root) c.args.worker c.if-worker-eq0.false c.requires.root.authors;
  plan = c.split-seat.ensures.plan.0 ∙ c.requires.root.plan;
  board = c.requires.root.board;
}

pub join-requires-clause-root : goal.join-requires-clause-root
join-requires-clause-root g t c = has_root (authors_of c.spread-root.result) (c.args.worker - 1) c.spread-root.ensures.root.authors

pub returns-clause-root : goal.returns-clause-root
returns-clause-root g t c = record {
  of = c.join.ensures.cell;
  authors = c.join.ensures.authors ∙ joined_authors (authors_of c.spread-root.result) (authors_of c.finish-seat.result) c.args.worker c.if-worker-eq0.false c.spread-root.ensures.root.authors c.finish-seat.ensures.seat.authors;
  plan = c.join.ensures.plan ∙ c.spread-root.ensures.root.plan;
  board = c.requires.root.board;
}

pub returns-clause-ended : goal.returns-clause-ended
returns-clause-ended g t c =
    all_ended (plan_at c.args.crew.now.desk) c.args.worker (authors_of c.spread-root.result) (authors_of c.finish-seat.result) (history_seen c.spread-root.result) (history_seen c.finish-seat.result) (history_seen c.join.new.seat)
    c.if-worker-eq0.false c.spread-root.ensures.root.authors c.finish-seat.ensures.seat.authors c.join.ensures.begins.0 c.join.ensures.begins.1 c.join.ensures.own.0 c.join.ensures.own.1 c.spread-root.ensures.ended c.finish-seat.ensures.ended
