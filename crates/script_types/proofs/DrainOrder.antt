-- The drain maps of a program that are inputs stand before those of its statements.
use Rattle.std.proofs.Common.{◌≡◌, ℕ, ◌+◌, Bool, true, false, List, [], ◌∷◌, ◌++◌, map, refl, sym, subst, if◌then◌else◌}
use Rattle.std.specs.Prelude.{Some, None}
use Rattle.std.specs.Option.{is_some}
use Rattle.cell_values.specs.declared.kind.Kind.TheVariants.{Ldd}
use Rattle.script_syntax.specs.declared.tree.Script.{Script}
use Rattle.map_meaning.specs.declared.program.DrainUse.{DrainUse}
use Rattle.map_meaning.specs.declared.program.InputUse.{InputUse}
use Rattle.map_meaning.specs.declared.program.Program.{Program}
use Rattle.map_meaning.specs.Table.{is_kind}
use Rattle.script_types.specs.declared.typed.Line.{Line}
use Rattle.script_types.specs.declared.typed.Section.TheVariants.{Initial}
use Rattle.script_types.specs.Answers.{IsProgramOf}
use Rattle.script_types.specs.Laws.{HasInputsFirst}
use Rattle.script_types.specs.Lowered.{ShownDrain, as_shown_drain, drain_input, input_drains, inputs_of, is_drain_input, lines_in, statement_drains}
use Rattle.script_types.specs.Statements.{operations_of}
use Rattle.script_types.proofs.Pairwise.{Each, Pairs, all-pairs, pairs-from_map}

-- the first is an input's where the second is
abbrev Before : ShownDrain → ShownDrain → Type 0
Before x y = is_some y.input ≡ true → is_some x.input ≡ true

before-all : (x : ShownDrain) (ys : List ShownDrain) → is_some x.input ≡ true → Each (Before x) ys
before-all x [] h = tt
before-all x (y ∷ ys) h = ((λ e. h), before-all x ys h)

no-inputs : (x : ShownDrain) (before : ℕ) (ls : List Line) → Each (Before x) (statement_drains before ls)
no-inputs x before [] = tt
no-inputs x before (l ∷ ls) = by-test (is_kind Ldd l.kind) (before + operations_of l.statement.value) (no-inputs x (before + operations_of l.statement.value) ls)
  where
    by-test : (t : Bool) (after : ℕ) → Each (Before x) (statement_drains after ls) → Each (Before x) (if t then record { input = None; after = after } ∷ statement_drains after ls else statement_drains after ls)
    by-test true after h = ((λ e. cc), h)
    by-test false after h = h

statements-behind : (before : ℕ) (ls : List Line) → Pairs Before (statement_drains before ls)
statements-behind before [] = tt
statements-behind before (l ∷ ls) = by-test (is_kind Ldd l.kind) (before + operations_of l.statement.value) (statements-behind (before + operations_of l.statement.value) ls)
  where
    by-test : (t : Bool) (after : ℕ) → Pairs Before (statement_drains after ls) → Pairs Before (if t then record { input = None; after = after } ∷ statement_drains after ls else statement_drains after ls)
    by-test true after h = (no-inputs (record { input = None; after = after }) after ls, h)
    by-test false after h = h

shown-first : (n before : ℕ) (inputs : List InputUse) (ls : List Line) → Pairs Before (input_drains n inputs ++ statement_drains before ls)
shown-first n before [] ls = statements-behind before ls
shown-first n before (i ∷ is) ls = by-test (is_drain_input i) (shown-first (n + 1) before is ls)
  where
    by-test : (t : Bool) → Pairs Before (input_drains (n + 1) is ++ statement_drains before ls) → Pairs Before ((if t then record { input = Some n; after = 0 } ∷ input_drains (n + 1) is else input_drains (n + 1) is) ++ statement_drains before ls)
    by-test true h = (before-all (record { input = Some n; after = 0 }) (input_drains (n + 1) is ++ statement_drains before ls) refl, h)
    by-test false h = h

-- those of inputs stand first
pub inputs_first : (script : Script) (lines : List Line) (program : Program) → IsProgramOf script lines program → HasInputsFirst program.drains
inputs_first script lines program h =
    let shown = shown-first 0 0 (inputs_of script) (lines_in Initial lines) in
    let there = subst (λ xs. Pairs Before xs) (sym h.drains) shown in
    all-pairs (λ (x : DrainUse) (y : DrainUse). Before (as_shown_drain x) (as_shown_drain y)) program.drains (pairs-from_map as_shown_drain Before program.drains there)
