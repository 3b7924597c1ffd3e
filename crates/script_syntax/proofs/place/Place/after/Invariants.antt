use Rattle.std.proofs.Common.{◌≡◌, ◌+◌, ◌≤◌, drop}
use Rattle.script_syntax.specs.Places.{after_bytes}
use Rattle.script_syntax.proofs.place.Place.after.Given as goal

abbrev pub invariant-loop-b : goal.invariant-loop-b
invariant-loop-b l =
    (after_bytes l.place (drop l.b-index l.bytes) ≡ after_bytes l.fn.self l.bytes)
    × (l.place.line ≤ l.fn.self.line + l.b-index)
    × (l.place.column ≤ l.fn.self.column + l.b-index)
