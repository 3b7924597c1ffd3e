-- A board on which a task was published.
use Rattle.std.proofs.Common.{◌≡◌, ◌≢◌, ℕ, ◌<◌, ◌≤◌, true, false, ◌⊎◌, inl, inr, ⊎_elim, List, [], ◌∷◌, ◌++◌, length, get_or, Option, None}
use Rattle.std.proofs.Common.{refl, ap, sym, ◌∙◌, subst, arith}
use Rattle.std.specs.Option.{IsSomeAnd}
use Rattle.std.specs.Arc.{arc_value}
use Rattle.std.specs.declared.sync.Arc.{Arc}
use Rattle.std.specs.Global.{Global}
use mathlib.Core.Logic.{dite}
use native.Mathlib.Decide.{dec_le, ℕ_discrete}
use Rattle.core_model.specs.declared.step.Step.TheVariants.{Publish}
use Rattle.core_model.specs.Cores.{held, published, Core, upd, opening}
use Rattle.core_model.specs.Steps.{Enabled, effect}
use Rattle.core_model.specs.Runs.{after}
use Rattle.core_model.proofs.Callers.{legal_snoc, upd_other, upd_same}
use Rattle.number_lists.specs.Turned.{times}
use Rattle.plan_graph.specs.PlanGraphs.{graph_of, list_at}
use Rattle.task_states.specs.States.{Reflects, unmet_of, unpublished}
use Rattle.task_states.specs.declared.states.TaskStates.{TaskStates}
use Rattle.task_states.proofs.Callers.{unmet_published}
use Rattle.map_meaning.specs.declared.known.OverAt.{OverAt}
use Rattle.task_tiles.specs.declared.tile.Tile.{Tile}
use Rattle.task_board.specs.Boards.{IsTileFor}
use Rattle.task_board.specs.inside.Held.{AreRead, IsLetGo, IsPutAmong, IsBoard, IsNeeded, IsNotNeeded, Parts, board_of, state_in, tile_for}
use Rattle.task_board.specs.inside.Noted.{IsEarlierOf, IsFirstNoted, tile_note}
use Rattle.task_board.proofs.BoardLemmas.{after_one, carries_step, works_step}
use Rattle.task_board.proofs.NoteLemmas.{first_published}

module _ {x : Parts} (b : IsBoard x) (w t : ℕ) (ss : TaskStates) (tiles new : List (Option (Arc Tile Global))) (unread : List ℕ)
    (lt : t < x.plan.tasks) (is : (state_in x).status t ≡ held w) (en : Enabled (graph_of x.plan) (state_in x) x.workers (Publish w t))
    (r : Reflects (graph_of x.plan) x.workers (effect (graph_of x.plan) (state_in x) (Publish w t)) ss)
    (tile : Arc Tile Global) (shows : IsTileFor (board_of x) t (arc_value tile)) (many : length new ≡ length x.tiles) (many_unread : length unread ≡ length x.unread)
    (put : IsPutAmong x.tiles tiles x.unread x.kept t tile) (up : AreRead tiles new x.unread unread x.kept (list_at x.plan.needs t))
    (over : Option OverAt) (earlier : IsEarlierOf x.over (tile_note x.plan x.program t (arc_value tile)) over) where
  now : Core
  now = after (graph_of x.plan) (x.history ++ Publish w t ∷ [])

  now_is : now ≡ effect (graph_of x.plan) (state_in x) (Publish w t)
  unfolding now
  now_is = after_one b (Publish w t)

  other_status : (u : ℕ) → u ≢ t → now.status u ≡ (state_in x).status u
  other_status u ne = ap (λ (s : Core). s.status u) now_is ∙ upd_other (state_in x).status t u published ne

  -- who is needed now was needed before
  was_needed : (u : ℕ) → (1 ≤ get_or unread u 0) ⊎ (get_or x.kept u false ≡ true) → IsNeeded x u
  was_needed u h = ⊎_elim (λ le. inl (let c = up.counts u in omega arith)) (λ k. inr k) h

  -- and his tile was not let go
  not_let_go : {A : Type 0} (u : ℕ) → (1 ≤ get_or unread u 0) ⊎ (get_or x.kept u false ≡ true) → get_or unread u 0 ≡ 0 → get_or x.kept u false ≡ false → A
  not_let_go u h z f = ⊎_elim (λ le. absurd (omega arith)) (λ k. absurd (let q : true ≡ false = sym k ∙ f in cc)) h

  has_now : (u : ℕ) → u < x.plan.tasks → now.status u ≡ published → (1 ≤ get_or unread u 0) ⊎ (get_or x.kept u false ≡ true) → IsSomeAnd (tile_for new u) (λ a. IsTileFor (board_of x) u (arc_value a))
  has_now u u_lt p h = ⊎_elim
      (λ e. subst (λ (o : Option (Arc Tile Global)). IsSomeAnd o (λ a. IsTileFor (board_of x) u (arc_value a))) (sym e) (dite (ℕ_discrete u t)
      (λ q. subst (λ k. IsSomeAnd (tile_for tiles k) (λ a. IsTileFor (board_of x) k (arc_value a))) (sym q) (subst (λ (o : Option (Arc Tile Global)). IsSomeAnd o (λ a. IsTileFor (board_of x) t (arc_value a))) (sym (put.own (subst (λ k. IsNeeded x k) q (was_needed u h)))) shows))
      (λ ne. subst (λ (o : Option (Arc Tile Global)). IsSomeAnd o (λ a. IsTileFor (board_of x) u (arc_value a))) (sym (put.others u ne)) (b.has u u_lt (sym (other_status u ne) ∙ p) (was_needed u h)))))
      (λ k. not_let_go u h k.2 k.3)
      (up.same u)

  -- a tile that was not there before the needs were read is not there behind
  none_now : (u : ℕ) → tile_for tiles u ≡ None → tile_for new u ≡ None
  none_now u e = ⊎_elim (λ q. q ∙ e) (λ k. k.0) (up.same u)

  lacks_now : (u : ℕ) → u < x.plan.tasks → (now.status u ≢ published) ⊎ ((get_or unread u 0 ≡ 0) × (get_or x.kept u false ≡ false)) → tile_for new u ≡ None
  lacks_now u u_lt h = ⊎_elim
      (λ np. dite (ℕ_discrete u t)
      (λ q. absurd (np (ap (λ (s : Core). s.status u) now_is ∙ ap (upd (state_in x).status t published) q ∙ upd_same (state_in x).status t published)))
      (λ ne. none_now u (put.others u ne ∙ b.lacks u u_lt (inl (λ p. np (other_status u ne ∙ p))))))
      (λ k. dite (dec_le 1 (times u (list_at x.plan.needs t)))
      (λ le. up.gone u le k.0 k.1)
      (λ gt. let old : IsNotNeeded x u = (let c = up.counts u in let z = k.0 in omega arith, k.1) in
      none_now u (dite (ℕ_discrete u t)
      (λ q. subst (λ z. tile_for tiles z ≡ None) (sym q) (put.left (subst (λ z. IsNotNeeded x z) q old) ∙ b.lacks t lt (inl (λ p. let z : held w ≡ published = sym is ∙ p in cc))))
      (λ ne. put.others u ne ∙ b.lacks u u_lt (inr old)))))
      h

  reads_now : (u : ℕ) → u < x.plan.tasks → get_or unread u 0 ≡ unmet_of now.status (list_at x.plan.readers u)
  reads_now u u_lt =
      let s : unmet_of now.status (list_at x.plan.readers u) ≡ unmet_of (upd (state_in x).status t published) (list_at x.plan.readers u) = ap (λ (z : Core). unmet_of z.status (list_at x.plan.readers u)) now_is in
      let p = unmet_published (state_in x).status t (list_at x.plan.readers u) (ap unpublished is) in
      let c = up.counts u in let y = b.plan.read_by u t u_lt lt in let o = b.reads u u_lt in omega arith

  -- a publication
  pub published_board : IsBoard (record x { history = x.history ++ Publish w t ∷ []; states = ss; tiles = new; unread = unread; over = over })
  unfolding now
  published_board = record {
    plan = b.plan;
    of = record { planned = b.of.planned; drains = b.of.drains };
    kit = b.kit;
    few = b.few;
    legal = legal_snoc (graph_of x.plan) x.workers opening x.history (Publish w t) b.legal en;
    shows = subst (λ (s : Core). Reflects (graph_of x.plan) x.workers s ss) (sym now_is) r;
    all_tiles = many ∙ b.all_tiles;
    all_unread = many_unread ∙ b.all_unread;
    all_kept = b.all_kept;
    all_works = b.all_works;
    has_works = works_step b (Publish w t) x.works (λ u ne. refl) (λ go. absurd (subst IsLetGo (upd_same (state_in x).status t published) go));
    carries = carries_step b (Publish w t) refl;
    reads = reads_now;
    keeps = b.keeps;
    has = has_now;
    lacks = lacks_now;
    enough = b.enough;
    overs = subst (λ (s : Core). IsFirstNoted x.plan x.program x.known s.status over) (sym now_is)
        (first_published x.plan x.program x.known (state_in x).status t lt (arc_value tile) shows x.over over earlier b.overs);
  }
