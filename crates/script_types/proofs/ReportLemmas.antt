-- What the tables of files and stacks say, and a report more.
use Rattle.std.proofs.Common.{◌≡◌, ℕ, ◌&&◌, ◌||◌, Bool, true, false, List, [], ◌∷◌, refl, sym, ◌∙◌, ap, subst, if◌then◌else◌}
use mathlib.Core.Path.{fun_ext}
use Rattle.std.specs.List.{list_any}
use Rattle.std.specs.Option.{is_some}
use Rattle.std.specs.Str.{bytes_eq}
use Rattle.script_types.specs.declared.reports.Taken.{Taken}
use Rattle.script_types.specs.declared.typed.Line.{Line}
use Rattle.script_types.specs.Reports.{Bound, Kept, One, Stacked, is_among, kept_by, names_of, share_a_name, with_report, writes_taken}
use Rattle.script_types.specs.inside.Look.{look}
use Rattle.script_types.specs.inside.Taken.{HasFileTable, HasTaken, TakesAll, is_taken_by}
use Rattle.script_types.proofs.StackFiles.{one-stack, stack-one}

or-none : (b : Bool) → (b || false) ≡ b
or-none true = refl
or-none false = refl

-- a stack is taken, by a file or by a stack
pub stack-taken : (taken : Taken) (steps : ℕ) (prefix : List ℕ) (a b : Bool) → a ≡ list_any (λ file. is_among file (names_of steps (Stacked prefix))) taken.files → b ≡ list_any (λ other. share_a_name steps (Stacked prefix) (Stacked other)) taken.stacks → (a || b) ≡ is_taken_by (share_a_name steps (Stacked prefix)) taken
stack-taken taken steps prefix a b ha hb =
    ap (λ x. x || b) (ha ∙ ap (λ test. list_any test taken.files) (fun_ext (λ file. sym (stack-one steps file prefix))))
    ∙ ap (λ y. list_any (λ file. share_a_name steps (Stacked prefix) (One file)) taken.files || y) hb

-- one file is taken, by its name or by a stack
pub file-taken : (taken : Taken) (steps : ℕ) (file : List ℕ) (a b : Bool) → HasFileTable taken → a ≡ is_some (look taken.names.values file) → b ≡ list_any (λ prefix. is_among file (names_of steps (Stacked prefix))) taken.stacks → (a || b) ≡ is_taken_by (share_a_name steps (One file)) taken
file-taken taken steps file a b table ha hb =
    ap (λ x. x || b) (ha ∙ table file ∙ ap (λ test. list_any test taken.files) (fun_ext (λ other. sym (or-none (bytes_eq file other || false) ∙ or-none (bytes_eq file other)))))
    ∙ ap (λ y. list_any (λ other. share_a_name steps (One file) (One other)) taken.files || y) (hb ∙ ap (λ test. list_any test taken.stacks) (fun_ext (λ prefix. sym (one-stack steps file prefix))))

-- a report writes what was not taken, and it is now
pub report-new : (old new : Taken) (steps : ℕ) (bound : Bound) (kepts : List Kept) (l : Line) (k : Kept) → l.report ≡ true → k ≡ kept_by bound l → is_taken_by (share_a_name steps k) old ≡ false → TakesAll old new (k ∷ []) → HasTaken old kepts → (false ≡ writes_taken steps bound kepts l) × (false ≡ false → HasTaken new (with_report bound kepts l))
report-new old new steps bound kepts l k hr hk none t h =
    let all : HasTaken new (k ∷ kepts) = record {
      table = t.table h.table;
      same = λ test. t.more test ∙ ap (λ b. b || is_taken_by test old) (or-none (test k)) ∙ ap (λ b. test k || b) (h.same test);
    } in (
      sym none ∙ h.same (share_a_name steps k) ∙ ap (λ x. list_any (share_a_name steps x) kepts) hk ∙ ap (λ b. b && list_any (share_a_name steps (kept_by bound l)) kepts) (sym hr),
      λ _. let P : List Kept → Type 0 = HasTaken new in subst P (ap (λ x. x ∷ kepts) hk ∙ ap (λ b. if b then kept_by bound l ∷ kepts else kepts) (sym hr)) all,
    )
