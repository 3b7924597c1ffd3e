-- A transport over a tile as its code keeps it. Words of private contracts.
use Rattle.std.specs.Prelude.{List}
use Rattle.cell_values.specs.declared.cell.Cell.{Cell}
use Rattle.drain_meaning.specs.declared.op.Orient.{Orient}
use Rattle.border_channel.specs.Edges.{border_edges_of}
use Rattle.border_channel.specs.TileFlows.{TileFlow}
use Rattle.flow_task.specs.declared.about.About.{About}

-- with all border edges of its orientation and these operands
abbrev pub flow_of : Orient → About → List Cell → List Cell → TileFlow
flow_of o about a b =
    record {
      kind = about.kind;
      drain = about.drain.value;
      tiling = about.tiling;
      tile = about.tile;
      edges = border_edges_of about.drain.value about.tiling o;
      a = a;
      b = b;
      taken = about.taken.items;
    }
