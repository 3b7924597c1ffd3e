use Rattle.std.proofs.Common.{◌≡◌, map}
use Rattle.model_maker.specs.Draws.{drawn_from}
use Rattle.model_maker.specs.Cells.{by_place, drain_cell, soil_cell}
use Rattle.model_maker.specs.inside.States.{state_after}
use Rattle.model_maker.proofs.cells.draw_cells.Given as goal

-- the cells of the places so far
abbrev pub invariant-loop-place : goal.invariant-loop-place
invariant-loop-place l = record {
  drains : l.drains.items ≡ by_place drain_cell 0 (drawn_from l.place l.initial.draws.state);
  soils : l.soils.items ≡ map soil_cell (drawn_from l.place l.initial.draws.state);
  state : l.draws.state ≡ state_after l.place l.initial.draws.state;
}
