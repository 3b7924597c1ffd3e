-- The tasks of a span and what each reads.
use Rattle.std.specs.Prelude.{ℕ, ◌+◌, ◌/◌, List, [], ◌∷◌, ◌++◌, get_or, map, Option, Some, None}
use Rattle.std.specs.List.{range_with_len}
use Rattle.tile_map.specs.declared.tiling.Tiling.{Tiling}
use Rattle.tile_map.specs.Rects.{grown}
use Rattle.tile_map.specs.Tiles.{rect_of, tile_count}
use Rattle.tile_map.specs.inside.Met.{tiles_of}
use Rattle.map_meaning.specs.declared.program.Operand.{Operand}
use Rattle.task_graph.specs.declared.class.Class.{Class}
use Rattle.task_graph.specs.declared.class.Class.TheVariants as class
use Rattle.task_graph.specs.declared.layout.Laid.{Laid}
use Rattle.task_graph.specs.declared.layout.Layout.{Layout}
use Rattle.task_graph.specs.declared.task.Work.{Work}
use Rattle.task_graph.specs.declared.task.Work.TheVariants.{Local, Window, Near, Partial, Merge, Spread, Flow}
use Rattle.task_graph.specs.declared.task.Task.{Task}
use Rattle.task_graph.specs.Classes.{op_class, classes_of}
use Rattle.task_graph.specs.Layouts.{maker_of, size_for}

-- the first task of the value that is made at a place of the span's list
abbrev pub first_at : List ℕ → Option ℕ → Option ℕ
first_at firsts None = None
first_at firsts (Some place) = Some (get_or firsts place 0)

-- the tasks of these tiles of a value
abbrev pub tiles_from : Option ℕ → List ℕ → List ℕ
tiles_from None tiles = []
tiles_from (Some first) tiles = map (λ tile. first + tile) tiles

-- the tasks of these tiles of an operand
abbrev pub read_of : Layout → Laid → Operand → List ℕ → List ℕ
read_of y l x tiles = tiles_from (first_at y.firsts (maker_of y.span y.many l.step x)) tiles

-- the tasks of these tiles of all operands
abbrev pub reads_of : Layout → Laid → List ℕ → List ℕ
reads_of y l tiles =
    let o = l.operation in read_of y l o.a tiles ++ (read_of y l o.b tiles ++ (read_of y l o.c tiles ++ read_of y l o.d tiles))

-- the tiles that a tile's halo meets
abbrev pub halo_tiles : Tiling → ℕ → ℕ → List ℕ
halo_tiles g k tile = tiles_of g (grown g.rows g.cols k (rect_of g tile))

-- what a task reads; the tasks of its operation begin at start
unfoldable pub needs_of : Layout → ℕ → Laid → Work → ℕ → List ℕ
needs_of y start l Local tile = reads_of y l (tile ∷ [])
needs_of y start l Window tile = reads_of y l (halo_tiles y.tiling (l.operation.window / 2) tile)
needs_of y start l Near tile = reads_of y l (halo_tiles y.tiling 1 tile)
needs_of y start l Partial tile = reads_of y l (tile ∷ [])
needs_of y start l Merge tile = map (λ partial. start + partial) (range_with_len 0 (tile_count y.tiling))
needs_of y start l Spread tile = (start + tile_count y.tiling) ∷ read_of y l (classes_of l.operation) (tile ∷ [])
needs_of y start l Flow tile = reads_of y l (tile ∷ [])

-- a task and what it reads
pub record Entry : Type 0 where
  pub task : Task
  pub needs : List ℕ

-- a task of an operation at a step
abbrev pub task_for : Laid → Work → ℕ → Task
task_for l work tile = record { step = l.step; operation = l.number; work = work; tile = tile }

-- such a task and what it reads
abbrev pub entry_of : Layout → ℕ → Laid → Work → ℕ → Entry
entry_of y start l work tile = record { task = task_for l work tile; needs = needs_of y start l work tile }

-- a task for each tile
abbrev pub each_tile : Layout → ℕ → Laid → Work → List Entry
each_tile y start l work = map (entry_of y start l work) (range_with_len 0 (tile_count y.tiling))

-- the tasks of one operation at one step
abbrev pub entries_for : Layout → ℕ → Laid → Class → List Entry
entries_for y start l class.Local = each_tile y start l Local
entries_for y start l class.Window = each_tile y start l Window
entries_for y start l class.Near = each_tile y start l Near
entries_for y start l class.Flow = each_tile y start l Flow
entries_for y start l class.Area = each_tile y start l Partial ++ (entry_of y start l Merge 0 ∷ each_tile y start l Spread)

-- the tasks of these operations, which begin at start
abbrev pub entries_from : Layout → ℕ → List Laid → List Entry
entries_from y start [] = []
entries_from y start (l ∷ more) =
    entries_for y start l (op_class l.operation.op) ++ entries_from y (start + size_for (tile_count y.tiling) l) more
