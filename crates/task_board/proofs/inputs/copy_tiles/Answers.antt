use Rattle.std.proofs.Common.{◌≡◌, ℕ, ◌+◌, ◌<◌, List, [], ◌∷◌, ◌++◌, length, take, get_or, sym, subst, arith, Option}
use Rattle.std.specs.Option.{IsSome, IsSomeAnd}
use Rattle.std.specs.List.{AllZip}
use Rattle.std.specs.Arc.{arc_value}
use Rattle.std.specs.declared.sync.Arc.{Arc}
use Rattle.std.specs.Global.{Global}
use Rattle.task_tiles.specs.declared.tile.Tile.{Tile}
use Rattle.task_states.proofs.Callers.{each_get}
use Rattle.task_board.specs.inside.Held.{IsCopy, tile_for}
use Rattle.task_board.proofs.Lists.{take_snoc, zip_snoc}
use Rattle.task_board.proofs.inputs.copy_tiles.Goals as goal

pub tile_here-requires : goal.tile_here-requires
tile_here-requires c =
    let h = each_get (λ t. (t < length c.args.tiles.now) × IsSome (tile_for c.args.tiles.now t)) c.args.tasks.now c.loop-t.t-index 0 c.requires.there (omega arith) in
    record { inside = h.0; there = h.1 }

pub loop-t-preserved : goal.loop-t-preserved
loop-t-preserved c =
    let ts : List ℕ = c.args.tasks.now in
    let i : ℕ = c.loop-t.t-index in
    let i_lt : i < length ts = omega arith in
    let is : IsCopy c.args.tiles.now c.in_ok-tile.tile (get_or ts i 0) = subst (λ (o : Option (Arc Tile Global)). IsSomeAnd o (λ b. arc_value c.in_ok-tile.tile ≡ arc_value b)) (sym c.tile_here.ensures) c.in_ok-tile.ensures.cases in
    let q = zip_snoc (IsCopy c.args.tiles.now) c.loop-t.into.items (take i ts) c.in_ok-tile.tile (get_or ts i 0) c.loop-t.invariant is in
    subst (λ (l : List (Arc Tile Global)). AllZip (IsCopy c.args.tiles.now) l (take (i + 1) ts)) (sym c.in_ok-push.ensures.items)
    (subst (λ (l : List ℕ). AllZip (IsCopy c.args.tiles.now) (c.loop-t.into.items ++ c.in_ok-tile.tile ∷ []) l) (sym (take_snoc ts i 0 i_lt)) q)
