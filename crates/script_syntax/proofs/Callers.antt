-- What the crates above cite: what the reader's answer says.
use Rattle.std.proofs.Common.{ℕ, false, List, Result, Ok, Err, subst}
use Rattle.std.specs.Prelude.{IfOk, IfErr}
use Rattle.script_syntax.specs.declared.fault.ReadScript.{ReadScript}
use Rattle.script_syntax.specs.declared.fault.ReadScript.TheVariants as errors
use Rattle.script_syntax.specs.declared.fault.SyntaxFault.{SyntaxFault}
use Rattle.script_syntax.specs.declared.tree.Script.{Script}
use Rattle.script_syntax.specs.Answers.{Reads, TellsFault}
use Rattle.script_syntax.specs.Faults.{tokens_of, IsScript, IsExact}
use Rattle.script_syntax.specs.WellMade.{IsWellMade}
use Rattle.script_syntax.specs.declared.place.Mode.TheVariants.{Bindings}
use Rattle.script_syntax.specs.Places.{first_place}
use Rattle.script_syntax.proofs.Keeping.{derives-well_made}
use Rattle.script_syntax.proofs.TokenWords.{tokens_spelled}
use Rattle.script_syntax.specs.inside.Reading.{tree_of}
use Rattle.script_syntax.proofs.FaultLaws.{tree_of-exact, exact_is}

-- the tree that is answered is the text's
pub found_in : (text : List ℕ) (r : Result Script ReadScript) → Reads r (tree_of text) → IfOk r (IsScript text)
found_in text (Ok tree) h = subst (IsExact text) h (tree_of-exact text)
found_in text (Err e) h = tt

-- the fault that is answered is the text's first
pub told_in : (text : List ℕ) (r : Result Script ReadScript) → Reads r (tree_of text) → IfErr r (TellsFault text)
told_in text (Ok tree) h = tt
told_in text (Err (errors.Syntax f)) h = subst (IsExact text) h (tree_of-exact text)
told_in text (Err errors.Memory) h = tt

-- what is exact is answered
pub only_in : (text : List ℕ) (r : Result Script ReadScript) → Reads r (tree_of text) → (has : Result Script SyntaxFault) → IsExact text has → Reads r has
only_in text r h has e = subst (λ x. Reads r x) (exact_is text has e) h

-- the tree of a script keeps the limits
pub script_well_made : (text : List ℕ) (s : Script) → IsScript text s → IsWellMade s
script_well_made text s h =
    let k = derives-well_made (tokens_of h.scanned.tokens) (record s { mean = false }) h.derives (tokens_spelled h.scanned.tokens h.scanned.ending Bindings first_place text h.tokens) h.clean in
    record {
      entries = k.entries;
      statements = k.statements;
      steps = k.steps;
      still = k.still;
      area = k.area;
      bindings = k.bindings;
      initial = k.initial;
      dynamic = k.dynamic;
    }

-- so does the tree that is answered
pub made_in : (text : List ℕ) (r : Result Script ReadScript) → Reads r (tree_of text) → IfOk r IsWellMade
made_in text (Ok tree) h = script_well_made text tree (subst (IsExact text) h (tree_of-exact text))
made_in text (Err e) h = tt
