-- What the reader answers.
use Rattle.std.specs.Prelude.{◌≡◌, ⊤, ℕ, List, Result, Ok, Err}
use Rattle.script_syntax.specs.declared.fault.ReadScript.{ReadScript}
use Rattle.script_syntax.specs.declared.fault.ReadScript.TheVariants as errors
use Rattle.script_syntax.specs.declared.fault.SyntaxFault.{SyntaxFault}
use Rattle.script_syntax.specs.Faults.{IsFaulty}

-- the answer is the value or the first fault that there is, unless memory ran out
abbrev pub Reads : {X : Type 0} → Result X ReadScript → Result X SyntaxFault → Type 0
Reads (Ok x) has = has ≡ Ok x
Reads (Err (errors.Syntax fault)) has = has ≡ Err fault
Reads (Err errors.Memory) has = ⊤

-- the error is the first fault of the text, or want of memory
abbrev pub TellsFault : List ℕ → ReadScript → Type 0
TellsFault text (errors.Syntax fault) = IsFaulty text fault
TellsFault text errors.Memory = ⊤
