use Rattle.std.proofs.Common.{◌≡◌, ◌*◌, map}
use Rattle.std.specs.List.{range_with_len}
use Rattle.model_maker.specs.Draws.{drawn_from}
use Rattle.model_maker.specs.Rain.{columns, rain_row, steps}
use Rattle.model_maker.specs.inside.States.{state_after}
use Rattle.model_maker.proofs.rain.draw_rain.Given as goal

-- the rows of the steps so far
abbrev pub invariant-loop-before : goal.invariant-loop-before
invariant-loop-before l = record {
  rows : l.rows.items ≡ map (rain_row (drawn_from (columns * steps) l.initial.draws.state)) (range_with_len 1 l.before);
  state : l.draws.state ≡ state_after (columns * l.before) l.initial.draws.state;
}
