use Rattle.std.proofs.Common.{ℕ, ◌<◌, List, length, ap, sym, ◌∙◌, subst, arith, Option, Global}
use Rattle.std.specs.Arc.{arc_value}
use Rattle.task_board.specs.Boards.{BoardValue, IsTileFor}
use Rattle.task_board.specs.inside.Held.{tile_for}
use Rattle.task_board.proofs.BoardLemmas.{no_tile_shown, tile_shown}
use Rattle.std.specs.declared.sync.Arc.{Arc}
use Rattle.task_tiles.specs.declared.tile.Tile.{Tile}
use Rattle.task_board.specs.Tiles.{HasNoTile}
use Rattle.task_board.proofs.Lists.{match_map}
use Rattle.task_board.proofs.board.Board.tile.Goals as goal

pub tile_at-requires : goal.tile_at-requires
tile_at-requires g c =
    let b = c.self.invariant in
    let lt = subst (λ (v : BoardValue). c.args.task < v.plan.tasks) (sym c.self.view_is) c.requires in
    let l = ap length c.as_slice.ensures.value in let a = b.all_tiles in omega arith

pub returns : goal.returns
returns g c =
    let i = c.self.inside in let b = c.self.invariant in let t : ℕ = c.args.task in
    let lt = subst (λ (v : BoardValue). t < v.plan.tasks) (sym c.self.view_is) c.requires in
    let e = c.as_slice.ensures.value in
    match_map c.tile_at.result c.tile_at.ensures
    (λ none'. subst (λ (v : BoardValue). HasNoTile v t) c.self.view_is (no_tile_shown b t lt (ap (λ (l : List (Option (Arc Tile Global))). tile_for l t) (sym e) ∙ none')))
    (λ a is. subst (λ (v : BoardValue). IsTileFor v t (arc_value a.now) × (HasNoTile v t → ⊥)) c.self.view_is (tile_shown b t lt a.now (ap (λ (l : List (Option (Arc Tile Global))). tile_for l t) (sym e) ∙ is)))
