-- What is done where some maps are held has the maps that are known before the span.
use Rattle.std.proofs.Common.{◌≡◌, ℕ, ◌<◌, ◌≤◌, ◌-◌, List, [], map, refl, sym, ◌∙◌, arith}
use Rattle.std.specs.Prelude.{Option}
use Rattle.std.proofs.lemmas.Bool.{ltb-true}
use Rattle.std.proofs.lemmas.List.{get_or-append_right, get_or_append_left}
use Rattle.tile_map.specs.Parts.{tabulate}
use Rattle.map_meaning.specs.declared.known.Known.{Known}
use Rattle.map_meaning.specs.declared.known.Span.{Span}
use Rattle.map_meaning.specs.declared.known.Span.TheVariants as span
use Rattle.map_meaning.specs.declared.program.Program.{Program}
use Rattle.map_meaning.specs.Maps.{WholeMap, nth}
use Rattle.map_meaning.specs.Spans.{kept_map}
use Rattle.map_meaning.proofs.Tabulated.{nth_tabulate, tabulate_count}
use Rattle.span_operands.specs.Made.{AgreesWith, span_start}
use Rattle.plain_eval.specs.inside.Held.{done_of, or_empty}

-- what is done agrees with what is known
pub done_agrees : (program : Program) (s : Span) (known : Known) (held : List (Option WholeMap)) → AgreesWith program s known (span_start s) (done_of program s known held)
done_agrees program (span.Initial first end) known held = record {
  drains = refl;
  initial = λ n earlier.
      let less : n < first = ltb-true n first earlier in
      let size = tabulate_count (kept_map known.initial) first in
      get_or_append_left (tabulate (kept_map known.initial) first) (map or_empty held) [] n (omega (arith, size, less)) ∙ nth_tabulate (kept_map known.initial) first n less;
  last = tt;
}
done_agrees program (span.Steps first last) known held = record {
  drains = refl;
  initial = λ n earlier. nth_tabulate (kept_map known.initial) _ n (ltb-true n _ earlier);
  last = λ same n below. nth_tabulate (kept_map known.last) _ n below;
}

-- the maps that are held stand behind those of earlier stages
pub held_within : (program : Program) (known : Known) (held : List (Option WholeMap)) (first end n : ℕ) → first ≤ n → nth (map or_empty held) (n - first) ≡ nth (done_of program (span.Initial first end) known held).initial n
held_within program known held first end n past = sym (get_or-append_right (tabulate (kept_map known.initial) first) (map or_empty held) first n [] (tabulate_count (kept_map known.initial) first) past)
