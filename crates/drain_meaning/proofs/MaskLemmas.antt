-- A masked map stays sound.
use Rattle.std.proofs.Common.{◌≡◌, ◌⊎◌, inl, inr, ℕ, List, [], ◌∷◌, length, arith, refl, sym, ap, subst, ◌∙◌, Bool, true, false}
use Rattle.std.specs.Prelude.{◌&&◌, if◌then◌else◌}
use Rattle.std.proofs.lemmas.Bool.{cases_lt}
use Rattle.std.proofs.lemmas.Int.{ints}
use Rattle.std.proofs.lemmas.List.{get_or_past}
use Rattle.std.proofs.lemmas.List.FromFn.{get_or-map-range_with_len, length-map-range_with_len}
use Rattle.cell_values.specs.declared.cell.Cell.{Cell}
use Rattle.cell_values.specs.declared.cell.Cell.TheVariants as cell
use Rattle.cell_values.specs.declared.kind.Kind.TheVariants.{Ldd}
use Rattle.cell_values.specs.Kinds.{IsCell}
use Rattle.tile_map.specs.Cuts.{cell_at}
use Rattle.drain_meaning.specs.declared.next.Next.{Next}
use Rattle.drain_meaning.specs.declared.next.Next.TheVariants as next
use Rattle.drain_meaning.specs.Drains.{DrainMap, IsDrainMap, next_at, next_of}
use Rattle.drain_meaning.specs.Masks.{is_chosen, is_kept, kept_code, lddmask_of, leads_on, masked_code, pit_code}
use Rattle.drain_meaning.specs.Paths.{HasPath, IsDirected, IsFollowedBy, IsSound}
use Rattle.drain_meaning.specs.Sound.{IsDrain}
use Rattle.drain_meaning.proofs.MapLemmas.{next_at-outside}

two : (b : Bool) → (b ≡ true) ⊎ (b ≡ false)
two true = inl refl
two false = inr refl

-- where a kept cell drains to in the masked map
abbrev pub kept_next : DrainMap → (ℕ → Cell) → Next → Next
kept_next m mask (next.Cell d) = if is_kept m mask d then next.Cell d else next.Pit
kept_next m mask next.Pit = next.Pit
kept_next m mask next.Outside = next.Outside
kept_next m mask next.Missing = next.Missing

-- where a cell drains to in the masked map
abbrev pub masked_next : DrainMap → (ℕ → Cell) → ℕ → Next
masked_next m mask c = if is_kept m mask c then kept_next m mask (next_at m c) else next.Missing

-- the code of a cell that drains into one that is kept, or not
kept_choice : (m : DrainMap) (c d : ℕ) (o : Bool) → next_at m c ≡ next.Cell d → next_of m.rows m.cols c (if o then cell_at m.codes c else pit_code) ≡ (if o then next.Cell d else next.Pit)
unfolding next_at next_of
kept_choice m c d true e = e
kept_choice m c d false e = refl

kept_code_leads : (m : DrainMap) (mask : ℕ → Cell) (c : ℕ) (n : Next) → next_at m c ≡ n → next_of m.rows m.cols c (kept_code m mask (cell_at m.codes c) n) ≡ kept_next m mask n
unfolding next_at
kept_code_leads m mask c (next.Cell d) e = kept_choice m c d (is_kept m mask d) e
kept_code_leads m mask c next.Pit e = e
kept_code_leads m mask c next.Outside e = e
kept_code_leads m mask c next.Missing e = e

masked_code_leads : (m : DrainMap) (mask : ℕ → Cell) (c : ℕ) (o : Bool) → next_of m.rows m.cols c (if o then kept_code m mask (cell_at m.codes c) (next_at m c) else cell.Mv) ≡ (if o then kept_next m mask (next_at m c) else next.Missing)
unfolding next_of
masked_code_leads m mask c true = kept_code_leads m mask c (next_at m c) refl
masked_code_leads m mask c false = refl

kept_within : (m : DrainMap) (mask : ℕ → Cell) (c : ℕ) → next_at m c ≡ next.Missing → is_kept m mask c ≡ false
kept_within m mask c e = ap (λ (y : Next). leads_on y && is_chosen (mask c)) e

-- Where a cell drains to in the masked map.
pub next_at-masked : (m : DrainMap) (mask : ℕ → Cell) (c : ℕ) → next_at (lddmask_of m mask) c ≡ masked_next m mask c
unfolding next_at lddmask_of
next_at-masked m mask c = elim (cases_lt c (length m.codes)) as (λ _. next_at (lddmask_of m mask) c ≡ masked_next m mask c) [
  | inl low ↦
      ap (λ (y : Cell). next_of m.rows m.cols c y) (get_or-map-range_with_len (masked_code m mask) 0 (length m.codes) c c cell.Mv low (omega arith))
      ∙ masked_code_leads m mask c (is_kept m mask c)
  | inr out ↦
      next_at-outside (lddmask_of m mask) c (omega (arith, length-map-range_with_len (masked_code m mask) 0 (length m.codes)))
      ∙ sym (ap (λ (y : Bool). if y then kept_next m mask (next_at m c) else next.Missing) (kept_within m mask c (next_at-outside m c out)))
]

-- The path of a kept cell, up to the first cell that is not kept, is its path in the masked map.
kept_path : (m : DrainMap) (mask : ℕ → Cell) (c : ℕ) (behind : List ℕ) → is_kept m mask c ≡ true → IsFollowedBy m c behind → HasPath (lddmask_of m mask) c
kept_path m mask c [] k f = record { behind = []; followed = next_at-masked m mask c ∙ (ap (λ (y : Bool). if y then kept_next m mask (next_at m c) else next.Missing) k ∙ ap (kept_next m mask) f) }
kept_path m mask c (d ∷ behind) k f =
    let on : next_at (lddmask_of m mask) c ≡ (if is_kept m mask d then next.Cell d else next.Pit) =
    next_at-masked m mask c ∙ (ap (λ (y : Bool). if y then kept_next m mask (next_at m c) else next.Missing) k ∙ ap (kept_next m mask) f.0) in
    elim (two (is_kept m mask d)) as (λ _. HasPath (lddmask_of m mask) c) [
      | inl b ↦
          let rest = kept_path m mask d behind b f.1 in
          record { behind = d ∷ rest.behind; followed = (on ∙ ap (λ (y : Bool). if y then next.Cell d else next.Pit) b, rest.followed) }
      | inr b ↦ record { behind = []; followed = on ∙ ap (λ (y : Bool). if y then next.Cell d else next.Pit) b }
    ]

directed_of_kept : (m : DrainMap) (mask : ℕ → Cell) (c : ℕ) → is_kept m mask c ≡ true → IsDirected m c
directed_of_kept m mask c k e = cc (k, kept_within m mask c e)

masked_sound : (m : DrainMap) (mask : ℕ → Cell) → IsSound m → IsSound (lddmask_of m mask)
masked_sound m mask sound c h = elim (two (is_kept m mask c)) as (λ _. HasPath (lddmask_of m mask) c) [
  | inl k ↦ let path = sound c (directed_of_kept m mask c k) in kept_path m mask c path.behind k path.followed
  | inr k ↦ absurd (h (next_at-masked m mask c ∙ ap (λ (y : Bool). if y then kept_next m mask (next_at m c) else next.Missing) k))
]

chosen_code : (code : Cell) (o : Bool) → IsCell Ldd code → IsCell Ldd (if o then code else pit_code)
chosen_code code true is = is
chosen_code code false is = record { least = omega (arith, ints); greatest = omega (arith, ints) }

kept_code_is : (m : DrainMap) (mask : ℕ → Cell) (code : Cell) (n : Next) → IsCell Ldd code → IsCell Ldd (kept_code m mask code n)
kept_code_is m mask code (next.Cell d) is = chosen_code code (is_kept m mask d) is
kept_code_is m mask code next.Pit is = is
kept_code_is m mask code next.Outside is = is
kept_code_is m mask code next.Missing is = is

masked_code_is : (m : DrainMap) (mask : ℕ → Cell) (c : ℕ) (o : Bool) → IsCell Ldd (cell_at m.codes c) → IsCell Ldd (if o then kept_code m mask (cell_at m.codes c) (next_at m c) else cell.Mv)
masked_code_is m mask c true is = kept_code_is m mask (cell_at m.codes c) (next_at m c) is
masked_code_is m mask c false is = tt

masked_map : (m : DrainMap) (mask : ℕ → Cell) → IsDrainMap m → IsDrainMap (lddmask_of m mask)
unfolding lddmask_of
masked_map m mask is = record {
  few = is.few;
  size = length-map-range_with_len (masked_code m mask) 0 (length m.codes) ∙ is.size;
  each = λ c. elim (cases_lt c (length m.codes)) as (λ _. IsCell Ldd (cell_at (lddmask_of m mask).codes c)) [
    | inl low ↦ subst (λ (y : Cell). IsCell Ldd y) (sym (get_or-map-range_with_len (masked_code m mask) 0 (length m.codes) c c cell.Mv low (omega arith))) (masked_code_is m mask c (is_kept m mask c) (is.each c))
    | inr out ↦ subst (λ (y : Cell). IsCell Ldd y) (sym (get_or_past (lddmask_of m mask).codes c cell.Mv (omega (arith, length-map-range_with_len (masked_code m mask) 0 (length m.codes))))) tt
  ];
}

-- The part of a sound map that a mask keeps is a sound map.
pub masked_drain : (m : DrainMap) (mask : ℕ → Cell) → IsDrain m → IsDrain (lddmask_of m mask)
masked_drain m mask is = record { map = masked_map m mask is.map; sound = masked_sound m mask is.sound }
