-- Which points are settled: it is fixed by what feeds them, and by the messages into their tile.
use Rattle.std.proofs.Common.{◌≡◌, ℕ, zero, suc, ◌<◌, Bool, true, false, cond, List, [], ◌∷◌, refl, ap, sym, ◌∙◌, arith}
use mathlib.Core.Logic.{dite}
use native.Mathlib.Decide.{ℕ_discrete}
use Rattle.core_model.specs.Graphs.{Feed, inside, over_edge, Graph, Each, In, FeedsWell, IsSoundGraph, into_task}
use Rattle.core_model.specs.inside.Settling.{feed_has_come, all_fed, settled_in, is_settled}
use Rattle.core_model.specs.Laws.{IsClosed, SettledLeast}
use Rattle.core_model.proofs.Find.{each_in, each_from}

all_fed_same : (p q : Feed → Bool) (fs : List Feed) → Each (λ f. p f ≡ q f) fs → all_fed p fs ≡ all_fed q fs
all_fed_same p q [] e = refl
all_fed_same p q (f ∷ fs) e = λ k. cond (e.0 k) (all_fed_same p q fs e.1 k) false

pub all_fed_each : (p : Feed → Bool) (fs : List Feed) → all_fed p fs ≡ true → Each (λ f. p f ≡ true) fs
all_fed_each p [] e = tt
all_fed_each p (f ∷ fs) e = elim (p f) as (λ b. cond b (all_fed p fs) false ≡ true → (b ≡ true) × Each (λ f. p f ≡ true) fs) [ true ↦ (λ h. (refl, all_fed_each p fs h)) | false ↦ (λ h. absurd (cc)) ] e

pub each_all_fed : (p : Feed → Bool) (fs : List Feed) → Each (λ f. p f ≡ true) fs → all_fed p fs ≡ true
each_all_fed p [] e = refl
each_all_fed p (f ∷ fs) e = ap (λ b. cond b (all_fed p fs) false) e.0 ∙ each_all_fed p fs e.1

module _ (g : Graph) (sound : IsSoundGraph g) where
  step_in : (taken : ℕ → Bool) (k x : ℕ) → settled_in g taken (suc k) x ≡ all_fed (feed_has_come taken (settled_in g taken k)) (g.feeds x)
  unfolding settled_in
  step_in taken k x = refl

  feed_well : (x : ℕ) (f : Feed) → x < g.points → In f (g.feeds x) → FeedsWell g x f
  feed_well x f lt i = each_in (FeedsWell g x) (g.feeds x) f (sound.fed x lt) i

  one_feed : (taken : ℕ → Bool) (p q : ℕ → Bool) (x k : ℕ) → g.load x < suc k → ((d : ℕ) → d < g.points → g.load d < k → p d ≡ q d) → (f : Feed) → FeedsWell g x f → feed_has_come taken p f ≡ feed_has_come taken q f
  one_feed taken p q x k h ih (inside d) w = ih d w.0 (let l = w.2 in omega arith)
  one_feed taken p q x k h ih (over_edge e) w = refl

  -- one step further back makes no difference, once there are enough
  enough : (taken : ℕ → Bool) (k x : ℕ) → x < g.points → g.load x < k → settled_in g taken (suc k) x ≡ settled_in g taken k x
  enough taken zero x lt h = absurd (omega arith)
  enough taken (suc k) x lt h =
      step_in taken (suc k) x
      ∙ all_fed_same (feed_has_come taken (settled_in g taken (suc k))) (feed_has_come taken (settled_in g taken k)) (g.feeds x)
      (each_from _ (g.feeds x) (λ f i. one_feed taken (settled_in g taken (suc k)) (settled_in g taken k) x k h (λ d l b. enough taken k d l b) f (feed_well x f lt i)))
      ∙ sym (step_in taken k x)

  settled_any : (taken : ℕ → Bool) (k x : ℕ) → x < g.points → g.load x < k → settled_in g taken k x ≡ is_settled g taken x
  settled_any taken zero x lt h = absurd (omega arith)
  settled_any taken (suc k) x lt h =
      dite (ℕ_discrete (g.load x) k)
      (λ e. ap (λ n. settled_in g taken (suc n) x) (sym e))
      (λ ne. let less : g.load x < k = omega arith in enough taken k x lt less ∙ settled_any taken k x lt less)

  -- a point is settled exactly where all that feeds it is
  pub settled_is : (taken : ℕ → Bool) (x : ℕ) → x < g.points → is_settled g taken x ≡ all_fed (feed_has_come taken (is_settled g taken)) (g.feeds x)
  settled_is taken x lt =
      step_in taken (g.load x) x
      ∙ all_fed_same (feed_has_come taken (settled_in g taken (g.load x))) (feed_has_come taken (is_settled g taken)) (g.feeds x)
      (each_from _ (g.feeds x) (λ f i. one_feed taken (settled_in g taken (g.load x)) (is_settled g taken) x (g.load x) (omega arith) (λ d l b. settled_any taken (g.load x) d l b) f (feed_well x f lt i)))

  pub fed_well : (x : ℕ) (f : Feed) → x < g.points → In f (g.feeds x) → FeedsWell g x f
  fed_well x f lt i = feed_well x f lt i

  same_feed : (taken taken' p q : ℕ → Bool) (t x : ℕ) → g.owner x ≡ t → ((e : ℕ) → e < g.edges → into_task g e ≡ t → taken e ≡ taken' e) → ((d : ℕ) → d < g.points → g.owner d ≡ t → p d ≡ q d) → (f : Feed) → FeedsWell g x f → feed_has_come taken p f ≡ feed_has_come taken' q f
  same_feed taken taken' p q t x own same ih (inside d) w = ih d w.0 (w.1 ∙ own)
  same_feed taken taken' p q t x own same ih (over_edge e) w = same e w.0 (sym (sound.edges_join e w.0).target_owner ∙ ap g.owner w.1 ∙ own)

  same_in : (taken taken' : ℕ → Bool) (t : ℕ) → ((e : ℕ) → e < g.edges → into_task g e ≡ t → taken e ≡ taken' e) → (k x : ℕ) → x < g.points → g.owner x ≡ t → settled_in g taken k x ≡ settled_in g taken' k x
  unfolding settled_in
  same_in taken taken' t same zero x lt own = refl
  same_in taken taken' t same (suc k) x lt own =
      all_fed_same (feed_has_come taken (settled_in g taken k)) (feed_has_come taken' (settled_in g taken' k)) (g.feeds x)
      (each_from _ (g.feeds x) (λ f i. same_feed taken taken' (settled_in g taken k) (settled_in g taken' k) t x own same (λ d l o. same_in taken taken' t same k d l o) f (fed_well x f lt i)))

  -- the points of a tile depend on the messages into the tile alone
  pub settled_same : (taken taken' : ℕ → Bool) (t : ℕ) → ((e : ℕ) → e < g.edges → into_task g e ≡ t → taken e ≡ taken' e) → (x : ℕ) → x < g.points → g.owner x ≡ t → is_settled g taken x ≡ is_settled g taken' x
  settled_same taken taken' t same x lt own = same_in taken taken' t same (suc (g.load x)) x lt own

  -- an edge into a settled point was taken
  pub taken_into : (taken : ℕ → Bool) (e : ℕ) → e < g.edges → is_settled g taken (g.target e) ≡ true → taken e ≡ true
  taken_into taken e lt h =
      let t = sound.edges_join e lt in
      let each = all_fed_each (feed_has_come taken (is_settled g taken)) (g.feeds (g.target e)) (sym (settled_is taken (g.target e) t.target_in) ∙ h) in
      each_in (λ f. feed_has_come taken (is_settled g taken) f ≡ true) (g.feeds (g.target e)) (over_edge e) each t.feeds

  feed_in : (taken p : ℕ → Bool) (x n : ℕ) → g.load x < suc n → ((d : ℕ) → d < g.points → g.load d < n → is_settled g taken d ≡ true → p d ≡ true) → (f : Feed) → FeedsWell g x f → feed_has_come taken (is_settled g taken) f ≡ true → feed_has_come taken p f ≡ true
  feed_in taken p x n low ih (inside d) w h = ih d w.0 (let l = w.2 in omega arith) h
  feed_in taken p x n low ih (over_edge e) w h = h

  settled_below : (taken p : ℕ → Bool) → IsClosed g taken p → (n x : ℕ) → g.load x < n → x < g.points → is_settled g taken x ≡ true → p x ≡ true
  settled_below taken p closed zero x low lt h = absurd (omega arith)
  settled_below taken p closed (suc n) x low lt h =
      let each = all_fed_each (feed_has_come taken (is_settled g taken)) (g.feeds x) (sym (settled_is taken x lt) ∙ h) in
      closed x lt (each_all_fed (feed_has_come taken p) (g.feeds x) (each_from _ (g.feeds x) (λ f i. feed_in taken p x n low (λ d l b q. settled_below taken p closed n d b l q) f (fed_well x f lt i) (each_in (λ f. feed_has_come taken (is_settled g taken) f ≡ true) (g.feeds x) f each i))))

  pub settled_closed : (taken : ℕ → Bool) → IsClosed g taken (is_settled g taken)
  settled_closed taken x lt h = settled_is taken x lt ∙ h

pub settled_least : SettledLeast
settled_least g taken sound = (settled_closed g sound taken, λ p closed x lt h. settled_below g sound taken p closed (suc (g.load x)) x (omega arith) lt h)
