-- What a history has done for one task.
use Rattle.std.specs.Prelude.{ℕ, ◌==◌, List, [], ◌∷◌, ◌++◌, if◌then◌else◌}
use Rattle.core_model.specs.declared.step.Step.{Step}
use Rattle.core_model.specs.declared.step.Step.TheVariants.{Claim, Publish, Send, Take, Park, PutDown}

-- the edge whose message this step takes for the task, by its place in the task's list, if it takes one
abbrev pub takes_for : ℕ → Step → List ℕ
takes_for t (Claim w u) = []
takes_for t (Publish w u) = []
takes_for t (Send w u e) = []
takes_for t (Take w u e) = if u == t then e ∷ [] else []
takes_for t (Park w u) = []
takes_for t (PutDown w u) = []

-- the edge over which this step sends for the task, by its place in the task's list, if it sends
abbrev pub sends_for : ℕ → Step → List ℕ
sends_for t (Claim w u) = []
sends_for t (Publish w u) = []
sends_for t (Send w u e) = if u == t then e ∷ [] else []
sends_for t (Take w u e) = []
sends_for t (Park w u) = []
sends_for t (PutDown w u) = []

-- the edges whose messages were taken for the task, the oldest first
abbrev pub taken_edges : ℕ → List Step → List ℕ
taken_edges t [] = []
taken_edges t (x ∷ xs) = takes_for t x ++ taken_edges t xs

-- the edges over which the task's messages were sent, the oldest first
abbrev pub sent_edges : ℕ → List Step → List ℕ
sent_edges t [] = []
sent_edges t (x ∷ xs) = sends_for t x ++ sent_edges t xs
