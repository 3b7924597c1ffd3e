-- Which maps of `initial` are kept.
use Rattle.std.proofs.Common.{◌≡◌, ℕ, Bool, true, false, refl}
use Rattle.std.specs.Prelude.{◌||◌}
use Rattle.map_meaning.specs.declared.program.Program.{Program}
use Rattle.map_meaning.specs.Programs.{is_initial, is_kept_map, is_mask, is_read_in_steps, is_read_later, is_written}

by_first : (a b c d : Bool) → a ≡ true → (a || b || c || d) ≡ true
by_first true b c d h = refl
by_first false b c d h = absurd (cc)

by_second : (a b c d : Bool) → b ≡ true → (a || b || c || d) ≡ true
by_second true b c d h = refl
by_second false true c d h = refl
by_second false false c d h = absurd (cc)

by_third : (a b c d : Bool) → c ≡ true → (a || b || c || d) ≡ true
by_third true b c d h = refl
by_third false true c d h = refl
by_third false false true d h = refl
by_third false false false d h = absurd (cc)

by_fourth : (a b c d : Bool) → d ≡ true → (a || b || c || d) ≡ true
by_fourth true b c d h = refl
by_fourth false true c d h = refl
by_fourth false false true d h = refl
by_fourth false false false d h = h

module _ (program : Program) (k : ℕ) where
  -- one that a step reads
  pub kept_read : is_read_in_steps program (is_initial k) ≡ true → is_kept_map program k ≡ true
  kept_read = by_first (is_read_in_steps program (is_initial k)) (is_written program k) (is_mask program k) (is_read_later program k)

  -- one that an output writes
  pub kept_written : is_written program k ≡ true → is_kept_map program k ≡ true
  kept_written = by_second (is_read_in_steps program (is_initial k)) (is_written program k) (is_mask program k) (is_read_later program k)

  -- one that masks a drain map
  pub kept_mask : is_mask program k ≡ true → is_kept_map program k ≡ true
  kept_mask = by_third (is_read_in_steps program (is_initial k)) (is_written program k) (is_mask program k) (is_read_later program k)

  -- one that a later stage reads
  pub kept_later : is_read_later program k ≡ true → is_kept_map program k ≡ true
  kept_later = by_fourth (is_read_in_steps program (is_initial k)) (is_written program k) (is_mask program k) (is_read_later program k)
