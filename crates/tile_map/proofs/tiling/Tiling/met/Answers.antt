use Rattle.tile_map.specs.inside.Met.{tiles_met}
use Rattle.tile_map.proofs.MetLemmas.{few_in_grid, met_inside}
use Rattle.tile_map.proofs.tiling.Tiling.met.Goals as goal

pub returns-clause-inside : goal.returns-clause-inside
unfolding tiles_met
returns-clause-inside c = rw (c.div_ceil.ensures, c.div_ceil-2.ensures) (met_inside c.args.self.now c.args.rect c.requires.rect c.requires.some)

pub returns-clause-few : goal.returns-clause-few
unfolding tiles_met
returns-clause-few c =
    rw (c.div_ceil.ensures, c.div_ceil-2.ensures)
    (few_in_grid c.args.self.now (tiles_met c.args.self.now c.args.rect) (met_inside c.args.self.now c.args.rect c.requires.rect c.requires.some))
