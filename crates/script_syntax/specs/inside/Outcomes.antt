-- What a step answers.
use Rattle.std.specs.Prelude.{◌≡◌, ⊤, Option, Some, None, Result, Ok, Err}
use Rattle.script_syntax.specs.declared.formula.Refused.{Refused}
use Rattle.script_syntax.specs.declared.formula.Refused.TheVariants as refused

-- the answer is what there is, or a refusal where there is none, unless memory ran out
abbrev pub GivesOutcome : {X : Type 0} → Result X Refused → Option X → Type 0
GivesOutcome (Ok x) has = has ≡ Some x
GivesOutcome (Err refused.Token) has = has ≡ None
GivesOutcome (Err refused.Memory) has = ⊤
