use Rattle.std.proofs.Common.{◌≡◌, map}
use Rattle.model_maker.specs.Draws.{drawn_from}
use Rattle.model_maker.specs.Rain.{rain_cell}
use Rattle.model_maker.specs.inside.States.{state_after}
use Rattle.model_maker.proofs.rain.draw_row.Given as goal

-- the cells of the columns so far
abbrev pub invariant-loop : goal.invariant-loop
invariant-loop l = record {
  cells : l.cells.items ≡ map rain_cell (drawn_from l.counter l.initial.draws.state);
  state : l.draws.state ≡ state_after l.counter l.initial.draws.state;
}
