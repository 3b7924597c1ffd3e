-- The files that a script reads and writes, and the reports that write one again.
use Rattle.std.specs.Prelude.{ℕ, ◌+◌, Bool, ◌&&◌, List, [], ◌∷◌, ◌++◌, map, Option, Some, None, if◌then◌else◌}
use Rattle.std.specs.List.{list_any, range_with_len}
use Rattle.std.specs.Option.{unwrap_or}
use Rattle.std.specs.Str.{bytes_eq}
use Rattle.script_syntax.specs.declared.tree.Binding.{Binding}
use Rattle.script_syntax.specs.declared.tree.Script.{Script}
use Rattle.map_meaning.specs.StackNames.{stack_file}
use Rattle.script_types.specs.declared.fault.MeaningKind.TheVariants.{NameClash}
use Rattle.script_types.specs.declared.fault.MeaningFault.{MeaningFault}
use Rattle.script_types.specs.declared.fault.Place.TheVariants as place
use Rattle.script_types.specs.declared.typed.Line.{Line}
use Rattle.script_types.specs.declared.typed.UsedAs.{UsedAs}
use Rattle.script_types.specs.declared.typed.UsedAs.TheVariants as used
use Rattle.script_types.specs.Names.{binding_of, file_by, is_stack, role_of, script_uses, target_file, used_inputs}
use Rattle.script_types.specs.Statements.{writes_stack}

-- ---- the names of files

-- What is read or written over a run: one file, or a stack, which has a file for each step.
pub data Kept : Type 0 where
  One : (file : List ℕ) → Kept
  Stacked : (prefix : List ℕ) → Kept

-- a stack with this prefix, or the one file of this name
abbrev pub kept_as : Bool → List ℕ → Kept
kept_as stack name = if stack then Stacked name else One name

-- the names of the files of a run with so many steps
abbrev pub names_of : ℕ → Kept → List (List ℕ)
names_of steps (One file) = file ∷ []
names_of steps (Stacked prefix) = map (stack_file prefix) (range_with_len 1 steps)

-- the file is one of these
abbrev pub is_among : List ℕ → List (List ℕ) → Bool
is_among name names = list_any (λ other. bytes_eq name other) names

-- some file is one of both
abbrev pub share_a_name : ℕ → Kept → Kept → Bool
share_a_name steps a b = list_any (λ name. is_among name (names_of steps b)) (names_of steps a)

-- ---- what is read

-- the area map's file, where it is no binding
abbrev pub area_files : Option Binding → List ℕ → List (List ℕ)
area_files None word = word ∷ []
area_files (Some b) word = []

-- what the binding of an input is used as
abbrev pub role_by : Script → Binding → UsedAs
role_by script b = unwrap_or (role_of (script_uses script) b.name) used.Grid

-- what is read of an input
abbrev pub read_by : Script → Binding → Kept
read_by script b = kept_as (is_stack (role_by script b)) (target_file b.target b.name)

-- what a script reads: the area map, and each input that is used
abbrev pub files_read : Script → List Kept
files_read script = map One (area_files (binding_of script script.area) script.area) ++ map (read_by script) (used_inputs script)

-- ---- what is written

-- the binding of each name
abbrev pub Bound : Type 0
Bound = List ℕ → Option Binding

-- the file that the report of a statement writes, or the prefix of its stack
abbrev pub file_written : Bound → Line → List ℕ
file_written bound l = file_by (bound l.statement.target) l.statement.target

-- what the report of a statement writes: a stack in `dynamic`, unless it is a time series
abbrev pub kept_by : Bound → Line → Kept
kept_by bound l = kept_as (writes_stack l) (file_written bound l)

-- the statement reports, and what it writes has a name of one of these
abbrev pub writes_taken : ℕ → Bound → List Kept → Line → Bool
writes_taken steps bound taken l = l.report && list_any (share_a_name steps (kept_by bound l)) taken

-- these, and what a report writes
abbrev pub with_report : Bound → List Kept → Line → List Kept
with_report bound taken l = if l.report then kept_by bound l ∷ taken else taken

-- The tests of the reports from the k-th statement on, where these files are taken: none writes a file that is read, or
-- one that an earlier report writes, at any step.
abbrev pub report_checks : ℕ → Bound → List Kept → ℕ → List Line → List (MeaningFault × Bool)
report_checks steps bound taken k [] = []
report_checks steps bound taken k (l ∷ ls) =
    (record { at = place.Statement (k + 1); kind = NameClash }, writes_taken steps bound taken l) ∷
    report_checks steps bound (with_report bound taken l) (k + 1) ls
