-- What a text gives, as a function: its tokens are taken one by one. `one_tree` is the law that ties it to the grammar.
use Rattle.std.specs.Prelude.{ℕ, Bool, List, [], ◌∷◌, Option, Some, None, Result, Ok, Err}
use Rattle.script_syntax.specs.declared.fault.SyntaxKind.{SyntaxKind}
use Rattle.script_syntax.specs.declared.fault.SyntaxKind.TheVariants as kinds
use Rattle.script_syntax.specs.declared.fault.SyntaxFault.{SyntaxFault}
use Rattle.script_syntax.specs.declared.counts.Counts.{Counts}
use Rattle.script_syntax.specs.declared.tree.Script.{Script}
use Rattle.script_syntax.specs.declared.place.Mode.TheVariants.{Bindings}
use Rattle.script_syntax.specs.declared.place.Place.{Place}
use Rattle.script_syntax.specs.declared.scanner.Placed.{Placed}
use Rattle.script_syntax.specs.declared.reading.Reading.{Reading}
use Rattle.script_syntax.specs.Editions.{asks_mean}
use Rattle.script_syntax.specs.Faults.{place_after_token}
use Rattle.script_syntax.specs.Listed.{listed_by, counts_behind}
use Rattle.script_syntax.specs.Places.{first_place}
use Rattle.script_syntax.specs.Tokens.{Ending, Whole, Byte, Scanned}
use Rattle.script_syntax.specs.inside.Counting.{counts_after}
use Rattle.script_syntax.specs.inside.Readings.{new_reading, reading_step, finish}
use Rattle.script_syntax.specs.inside.Scanning.{scan}

-- the fault at a place
abbrev pub syntax_fault_at : Place → SyntaxKind → SyntaxFault
syntax_fault_at p kind = record { line = p.line; column = p.column; kind = kind }

-- what the end of the tokens gives
abbrev pub tree_or_end : Option Script → Place → Result Script SyntaxFault
tree_or_end (Some tree) end = Ok tree
tree_or_end None end = Err (syntax_fault_at end kinds.End)

-- what the end of the text gives, or the bad byte there
abbrev pub at_end : Reading → Place → Ending → Result Script SyntaxFault
at_end r end Whole = tree_or_end (finish r) end
at_end r end (Byte place) = Err (syntax_fault_at place kinds.Byte)

-- what a token gives where it is read: its own fault, or that no script goes on with it, or the next reading
abbrev pub listed_or : Option SyntaxKind → Place → Option Reading → Result Reading SyntaxFault
listed_or (Some kind) p next = Err (syntax_fault_at p kind)
listed_or None p None = Err (syntax_fault_at p kinds.Token)
listed_or None p (Some r) = Ok r

-- what a token gives where these were counted before it
unfoldable pub step_at : Reading → Counts → Placed → Result Reading SyntaxFault
step_at r c t = listed_or (listed_by c t.token) t.place (reading_step r t.token)

-- what comes next where a step did not fail
abbrev pub and_then : Result Reading SyntaxFault → (Reading → Result Script SyntaxFault) → Result Script SyntaxFault
and_then (Ok r) next = next r
and_then (Err f) next = Err f

-- what the tokens give that are left
abbrev pub read_from : Reading → Counts → Place → List Placed → Ending → Result Script SyntaxFault
read_from r c end [] e = at_end r end e
read_from r c end (t ∷ ts) e = and_then (step_at r c t) (λ next. read_from next (counts_after c t.token) (place_after_token t) ts e)

-- what a list of tokens gives
unfoldable pub read_scanned : Reading → Counts → Place → Scanned → Result Script SyntaxFault
read_scanned r c end s = read_from r c end s.tokens s.ending

-- what the tokens of a text give
unfoldable pub tree_by_tokens : List ℕ → Result Script SyntaxFault
tree_by_tokens text = read_scanned new_reading (counts_behind []) first_place (scan text 0 Bindings first_place)

-- the tree in this edition, or the fault
abbrev pub in_edition : Bool → Result Script SyntaxFault → Result Script SyntaxFault
in_edition mean (Ok tree) = Ok (record tree { mean = mean })
in_edition mean (Err fault) = Err fault

-- what a text gives: its tree, or its first fault
unfoldable pub tree_of : List ℕ → Result Script SyntaxFault
tree_of text = in_edition (asks_mean text) (tree_by_tokens text)
