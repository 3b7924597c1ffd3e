-- Lists of drain maps that are held.
use Rattle.std.proofs.Common.{◌≡◌, ℕ, zero, suc, ◌<◌, List, [], ◌∷◌, length, refl, arith}
use Rattle.std.specs.Prelude.{All, None, slice_get}
use Rattle.drain_meaning.specs.Drains.{DrainMap}
use Rattle.map_meaning.specs.Maps.{nth}
use Rattle.map_meaning.specs.Spans.{IsDrainOf}
use Rattle.run_session.specs.declared.frame.Frame.{Frame}
use Rattle.run_session.specs.inside.Running.{IsDrainOver}
use Rattle.run_session.specs.inside.Standings.{codes_of}

-- a drain map that is held is known
pub drain_known : (frame : Frame) (drains : List DrainMap) (k : ℕ) → All (IsDrainOver frame) drains → k < length drains → IsDrainOf frame.rows frame.cols (slice_get drains k)
drain_known frame [] k sound below = absurd (omega arith)
drain_known frame (m ∷ drains) zero sound below = let one : IsDrainOver frame m = sound 0 m (omega arith) in (one.sound, one.rows, one.cols)
drain_known frame (m ∷ drains) (suc k) sound below = drain_known frame drains k (λ i d less. sound (suc i) d (omega (arith, less))) (omega (arith, below))

-- there are no codes where there is no drain map
pub codes_none : (drains : List DrainMap) (k : ℕ) → slice_get drains k ≡ None → [] ≡ nth (codes_of drains) k
codes_none [] k is = refl
codes_none (m ∷ drains) zero is = absurd (cc)
codes_none (m ∷ drains) (suc k) is = codes_none drains k is
