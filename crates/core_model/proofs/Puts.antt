-- Each worker puts down at most once.
use Rattle.std.proofs.Common.{◌≡◌, ℕ, ◌+◌, suc, ◌<◌, ◌≤◌, List, [], ◌∷◌, refl, arith}
use Rattle.core_model.specs.Graphs.{Graph}
use Rattle.core_model.specs.declared.step.Step.{Step}
use Rattle.core_model.specs.declared.step.Step.TheVariants.{Claim, Publish, Send, Take, Park, PutDown}
use Rattle.core_model.specs.Cores.{Core, opening}
use Rattle.core_model.specs.Steps.{worker_of, Allows, effect}
use Rattle.core_model.specs.Runs.{LegalFrom}
use Rattle.core_model.specs.Counts.{tally, flag}
use Rattle.core_model.specs.Laws.{puts_down, PutsDownOnce}
use Rattle.core_model.proofs.Bound.{flag_sum, flag_most}
use Rattle.core_model.specs.Counts.{sum_below}
use Rattle.core_model.proofs.Sums.{sum_le, sum_ones}

module _ (g : Graph) (workers n : ℕ) where
  abbrev flags : Core → ℕ
  flags s = sum_below workers (λ w. flag (s.has_put_down w))

  flags_step : (s : Core) (x : Step) → Allows g s x → worker_of x < workers → puts_down x + flags s ≡ flags (effect g s x)
  flags_step s (Claim w t) en lt = omega arith
  flags_step s (Publish w t) en lt = omega arith
  flags_step s (Send w t e) en lt = omega arith
  flags_step s (Take w t e) en lt = omega arith
  flags_step s (Park w t) en lt = omega arith
  flags_step s (PutDown w t) en lt = let r = flag_sum workers s.has_put_down w lt en.2 in omega arith

  flags_few : (s : Core) → flags s ≤ workers
  flags_few s = let b = sum_le workers (λ w. flag (s.has_put_down w)) (λ _. 1) (λ w _. flag_most (s.has_put_down w)) in let c = sum_ones workers in omega arith

  puts : (s : Core) (xs : List Step) → suc n ≡ workers → LegalFrom g n s xs → tally puts_down xs + flags s ≤ workers
  puts s [] e l = let a = flags_few s in omega arith
  puts s (x ∷ xs) e l = let r = puts (effect g s x) xs e l.1 in let b = l.0.0 in let a = flags_step s x l.0.1 (omega arith) in omega arith

pub puts_down_once : PutsDownOnce
puts_down_once g n xs legal = let a = puts g (suc n) n opening xs refl legal in omega arith
