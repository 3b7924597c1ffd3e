-- What the code's tables say of names, and what an answer of the code says of a value.
use Rattle.std.specs.Prelude.{◌≡◌, ℕ, List, Option, Result, Ok, Err, ⊤}
use Rattle.std.specs.Option.{is_some}
use Rattle.std.specs.declared.vec.Vec.{Vec}
use Rattle.std.specs.declared.alloc.Global.{Global}
use Rattle.script_syntax.specs.declared.tree.Binding.{Binding}
use Rattle.script_types.specs.declared.scope.Scope.{Scope}
use Rattle.script_types.specs.declared.fault.MeaningKind.{MeaningKind}
use Rattle.script_types.specs.declared.end.KindEnd.{KindEnd}
use Rattle.script_types.specs.declared.end.KindEnd.TheVariants.{Meaning, Memory}
use Rattle.script_types.specs.inside.Look.{look}
use Rattle.script_types.specs.Names.{binding_at}
use Rattle.script_types.specs.Typing as typing

-- the binding of a name, as the tables have it
abbrev pub binding_in : Scope → List ℕ → Option Binding
binding_in s name = binding_at s.bindings.now (look s.places.values name)

-- the names as the tables have them
abbrev pub scope_of : Scope → typing.Scope
scope_of s = record {
  section = s.section;
  steps = s.steps;
  mean = s.mean;
  binding = binding_in s;
  is_assigned = λ name. is_some (look s.targets.values name);
  is_sampled = λ name. is_some (look s.samples.values name);
  role = look s.roles.values;
  input = look s.inputs.values;
  above = look s.above.values;
  stacks_written = s.stacks_written;
  stacks_read = s.stacks_read;
}

-- an answer gives the value, or its first fault, or there was no memory
abbrev pub GivesKind : {A : Type 0} → Result A KindEnd → Result A MeaningKind → Type 0
GivesKind (Ok x) value = value ≡ Ok x
GivesKind (Err (Meaning fault)) value = value ≡ Err fault
GivesKind (Err Memory) value = ⊤

-- an answer gives the values, or the first fault, or there was no memory
abbrev pub GivesList : {A : Type 0} → Result (Vec A Global) KindEnd → Result (List A) MeaningKind → Type 0
GivesList (Ok v) values = values ≡ Ok v.items
GivesList (Err (Meaning fault)) values = values ≡ Err fault
GivesList (Err Memory) values = ⊤
