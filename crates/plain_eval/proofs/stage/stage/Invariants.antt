use Rattle.std.proofs.Common.{◌≡◌, ◌<◌, ◌+◌, ◌*◌, ℕ, [], drop, length, get_or}
use Rattle.std.specs.Prelude.{None}
use Rattle.map_meaning.specs.Spans.{first_operation, span_operations}
use Rattle.plain_eval.specs.inside.Held.{done_of, held_at}
use Rattle.plain_eval.specs.inside.Sections.{scene_in}
use Rattle.plain_eval.proofs.HeldLemmas.{AreWhole}
use Rattle.plain_eval.proofs.Stages.{told_from}
use Rattle.plain_eval.proofs.stage.stage.Given as goal

-- What the operations that are left give, from the maps that are held and those that are kept, is what all give; and just
-- the maps that one of them reads are held, whole.
abbrev pub invariant-loop-n : goal.invariant-loop-n
invariant-loop-n g l = record {
  told : told_from l.program (scene_in l.program l.span l.known) l.span l.kept (first_operation l.span + l.n) (done_of l.program l.span l.known l.held) (drop l.n (span_operations l.program l.span))
      ≡ told_from l.program (scene_in l.program l.span l.known) l.span [] (first_operation l.span) (done_of l.program l.span l.known []) (span_operations l.program l.span);
  count : length l.held ≡ l.n;
  held : AreWhole (l.known.rows * l.known.cols) (span_operations l.program l.span) l.last.items l.n l.held;
  only : (k : ℕ) → k < l.n → get_or l.last.items k 0 < l.n → held_at l.held k ≡ None;
}
