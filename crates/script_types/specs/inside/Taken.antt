-- What the code's tables say of files and stacks that are taken.
use Rattle.std.specs.Prelude.{◌≡◌, ℕ, ◌||◌, Bool, false, List, map, filter, Result, Ok, Err, ⊤}
use Rattle.std.specs.List.{list_any}
use Rattle.std.specs.Option.{is_some, unwrap_or}
use Rattle.script_syntax.specs.declared.tree.Binding.{Binding}
use Rattle.script_types.specs.declared.names.Names.{Names}
use Rattle.script_types.specs.declared.reports.Taken.{Taken}
use Rattle.script_types.specs.declared.typed.Line.{Line}
use Rattle.script_types.specs.declared.typed.UsedAs.{UsedAs}
use Rattle.script_types.specs.declared.typed.UsedAs.TheVariants as used
use Rattle.script_types.specs.Names.{is_stack, target_file}
use Rattle.script_types.specs.Reports.{Bound, Kept, One, Stacked, is_among, kept_as, with_report, writes_taken}
use Rattle.script_types.specs.inside.Answers.{is_input_in}
use Rattle.script_types.specs.inside.Look.{look}

-- the table has just the single files
abbrev pub HasFileTable : Taken → Type 0
HasFileTable taken = (name : List ℕ) → is_some (look taken.names.values name) ≡ is_among name taken.files

-- one that is taken passes the test
abbrev pub is_taken_by : (Kept → Bool) → Taken → Bool
is_taken_by test taken = list_any (λ file. test (One file)) taken.files || list_any (λ prefix. test (Stacked prefix)) taken.stacks

-- just these are taken
pub record HasTaken (taken : Taken) (kepts : List Kept) : Type 0 where
  pub table : HasFileTable taken
  pub same : (test : Kept → Bool) → is_taken_by test taken ≡ list_any test kepts

-- these are taken beside the others
pub record TakesAll (old new : Taken) (kepts : List Kept) : Type 0 where
  pub table : HasFileTable old → HasFileTable new
  pub more : (test : Kept → Bool) → is_taken_by test new ≡ (list_any test kepts || is_taken_by test old)

-- what a binding reads, by the table of roles
abbrev pub kept_in : Names UsedAs → Binding → Kept
kept_in roles b = kept_as (is_stack (unwrap_or (look roles.values b.name) used.Grid)) (target_file b.target b.name)

-- what the inputs that are used read, by the tables of targets and roles
abbrev pub kepts_in : Names Bool → Names UsedAs → List Binding → List Kept
kepts_in targets roles bindings = map (kept_in roles) (filter (is_input_in targets roles) bindings)

-- the report of a statement: whether what it writes was taken, and it is now
abbrev pub Reports : {E : Type 0} → Result Bool E → Taken → Taken → ℕ → Bound → Line → Type 0
Reports (Ok was) old new steps bound l =
    (kepts : List Kept) → HasTaken old kepts →
    (was ≡ writes_taken steps bound kepts l) × (was ≡ false → HasTaken new (with_report bound kepts l))
Reports (Err e) old new steps bound l = ⊤
