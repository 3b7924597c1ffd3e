-- The names of a head, as the reader passes them.
use Rattle.std.proofs.Common.{◌≡◌, ℕ, suc, ◌+◌, ◌-◌, ◌≤◌, ◌<◌, List, [], ◌∷◌, Ok, Err, sym, ap, ◌∙◌, arith}
use Rattle.text_base.specs.Lines.{Line}
use Rattle.time_series.specs.Faults.{title_at}
use Rattle.time_series.specs.inside.Reading.{behind_names}

module _ (count counter last : ℕ) (lines : List Line) where
  one_left : counter < count → count - counter ≡ suc (count - (counter + 1))
  one_left below = omega arith

  none_left : count ≤ counter → count - counter ≡ 0
  none_left done = omega arith

  pub names_end : counter < count → lines ≡ [] → Err (title_at last) ≡ behind_names (count - counter) last lines
  unfolding behind_names
  names_end below none = ap (λ (n : ℕ). behind_names n last []) (sym (one_left below)) ∙ ap (behind_names (count - counter) last) (sym none)

  pub names_more : (line : Line) (more : List Line) → counter < count → lines ≡ line ∷ more → behind_names (count - (counter + 1)) line.number more ≡ behind_names (count - counter) last lines
  unfolding behind_names
  names_more line more below is = ap (λ (n : ℕ). behind_names n last (line ∷ more)) (sym (one_left below)) ∙ ap (behind_names (count - counter) last) (sym is)

  pub names_done : count ≤ counter → Ok lines ≡ behind_names (count - counter) last lines
  unfolding behind_names
  names_done done = ap (λ (n : ℕ). behind_names n last lines) (sym (none_left done))
