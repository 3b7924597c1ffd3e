-- The place of an input's map among the maps.
use Rattle.std.proofs.Common.{◌≡◌, ℕ, zero, suc, ◌+◌, Bool, true, false, cond, List, [], ◌∷◌, refl, ap, ◌∙◌, arith}
use Rattle.std.specs.Prelude.{IsSomeAnd, slice_get}
use Rattle.map_meaning.specs.declared.program.InputUse.{InputUse}
use Rattle.map_meaning.specs.Maps.{WholeMap, nth}
use Rattle.map_meaning.specs.Programs.{is_grid_role}
use Rattle.map_meaning.specs.Spans.{at_inputs}
use Rattle.run_session.specs.inside.Outputs.{grids_before}

-- the map of an input that is a grid
pub grid_at : (uses : List InputUse) (maps : List WholeMap) (n : ℕ) → IsSomeAnd (slice_get uses n) (λ input. is_grid_role input.role ≡ true) → nth (at_inputs is_grid_role [] uses maps) n ≡ nth maps (grids_before uses n)
grid_at [] maps n is = absurd is
grid_at (input ∷ more) [] zero is = refl
grid_at (input ∷ more) (m ∷ maps) zero is =
    ap (λ b. nth (cond b (m ∷ at_inputs is_grid_role [] more maps) ([] ∷ at_inputs is_grid_role [] more (m ∷ maps))) 0) is
grid_at (input ∷ more) [] (suc n) is = grid_at more [] n is
grid_at (input ∷ more) (m ∷ maps) (suc n) is = by (is_grid_role input.role) (grid_at more maps n is) (grid_at more (m ∷ maps) n is)
  where
    by : (b : Bool) → nth (at_inputs is_grid_role [] more maps) n ≡ nth maps (grids_before more n) → nth (at_inputs is_grid_role [] more (m ∷ maps)) n ≡ nth (m ∷ maps) (grids_before more n) →
        nth (cond b (m ∷ at_inputs is_grid_role [] more maps) ([] ∷ at_inputs is_grid_role [] more (m ∷ maps))) (suc n) ≡ nth (m ∷ maps) (cond b 1 0 + grids_before more n)
    by true here later = let e : suc (grids_before more n) ≡ 1 + grids_before more n = omega arith in here ∙ ap (nth (m ∷ maps)) e
    by false here later = let e : grids_before more n ≡ 0 + grids_before more n = omega arith in later ∙ ap (nth (m ∷ maps)) e

-- none of no inputs is a grid
pub none_before : (uses : List InputUse) → grids_before uses 0 ≡ 0
none_before [] = refl
none_before (input ∷ uses) = refl
