-- The value of a table, as it is found.
use Rattle.std.proofs.Common.{◌≡◌, ℕ, suc, ◌↔◌, Bool, false, cond, List, [], ◌∷◌, map, take, Some, None, refl, sym, ap, ◌∙◌, subst, arith, ℤ, w64, to_z, of_z}
use Rattle.std.proofs.Math.Facts.{to_z-of_z}
use mir.Val.{SFits}
use Rattle.std.specs.declared.option.Option.{Option}
use Rattle.std.specs.List.{find, list_any, All}
use Rattle.std.specs.Option.{option_map}
use Rattle.std.proofs.Math.Bool.{and-true}
use Rattle.cell_values.specs.declared.kind.Kind.{Kind}
use Rattle.cell_values.specs.declared.cell.Cell.{Cell}
use Rattle.cell_values.specs.declared.cell.Cell.TheVariants.{Mv}
use Rattle.cell_values.specs.Kinds.{IsValue, IsCell}
use Rattle.text_base.proofs.Callers.{bool_cases}
use Rattle.lookup_table.specs.declared.row.Row.{Row}
use Rattle.lookup_table.specs.Keys.{lies_in, all_lie_in}
use Rattle.lookup_table.specs.Form.{TableRow, TableValue, result_of, value_of}
use Rattle.lookup_table.specs.inside.Steps.{row_view, table_view, keys_of, cell_found}

find-map : {X Y : Type 0} (p : Y → Bool) (f : X → Y) (xs : List X) → find p (map f xs) ≡ option_map f (find (λ x. p (f x)) xs)
find-map p f [] = refl
find-map p f (x ∷ xs) =
    bool_cases (p (f x))
    (λ yes. ap (λ b. cond b (Some (f x)) (find p (map f xs))) yes ∙ sym (ap (λ b. option_map f (cond b (Some x) (find (λ y. p (f y)) xs))) yes))
    (λ fails. ap (λ b. cond b (Some (f x)) (find p (map f xs))) fails ∙ find-map p f xs ∙ sym (ap (λ b. option_map f (cond b (Some x) (find (λ y. p (f y)) xs))) fails))

pub find_same : {X : Type 0} (p q : X → Bool) (xs : List X) → ((x : X) → p x ≡ q x) → find p xs ≡ find q xs
find_same p q [] same = refl
find_same p q (x ∷ xs) same = ap (λ b. cond b (Some x) (find p xs)) (same x) ∙ ap (λ o. cond (q x) (Some x) o) (find_same p q xs same)

cell_same : (keys : ℕ) (row : Option Row) → cell_found row ≡ result_of (option_map (row_view keys) row)
cell_same keys None = refl
cell_same keys (Some row) = refl

-- the first row that takes in the numbers gives the value of the table
pub value_found : (keys : ℕ) (kind : Kind) (rows : List Row) (numbers : List ℤ) → cell_found (find (λ row. all_lie_in (row_view keys row).keys numbers) rows) ≡ value_of (table_view keys kind rows) numbers
value_found keys kind rows numbers =
    cell_same keys (find (λ row. all_lie_in (row_view keys row).keys numbers) rows)
    ∙ ap result_of (sym (find-map (λ (row : TableRow). all_lie_in row.keys numbers) (row_view keys) rows))

-- where there is one key, the first number alone counts
pub one_key : (keys : ℕ) (row : Row) (a : ℤ) (others : List ℤ) → keys ≡ 1 → lies_in row.a a ≡ all_lie_in (row_view keys row).keys (a ∷ others)
one_key keys row a others one =
    sym (and-true (lies_in row.a a)) ∙ ap (λ n. all_lie_in (take n (keys_of row)) (a ∷ others)) (sym one)

pub row_apart : (keys : ℕ) (rows : List Row) (a : ℤ) (others : List ℤ) → keys ≡ 1 → find (λ row. lies_in row.a a) rows ≡ find (λ row. all_lie_in (row_view keys row).keys (a ∷ others)) rows
row_apart keys rows a others one = find_same (λ row. lies_in row.a a) (λ row. all_lie_in (row_view keys row).keys (a ∷ others)) rows (λ row. one_key keys row a others one)

-- a value is missing exactly where no row takes in the numbers
missing_by : (p : TableRow → Bool) (rows : List TableRow) → (result_of (find p rows) ≡ Mv) ↔ (list_any p rows ≡ false)
missing_by p [] = ((λ e. refl), (λ e. refl))
missing_by p (row ∷ rows) =
    bool_cases (p row)
    (λ yes. rw yes ((λ e. absurd (cc)), (λ e. absurd (cc))))
    (λ fails. rw fails (missing_by p rows))

pub value_missing : (table : TableValue) (numbers : List ℤ) (cell : Cell) → cell ≡ value_of table numbers → (cell ≡ Mv) ↔ (list_any (λ row. all_lie_in row.keys numbers) table.rows ≡ false)
value_missing table numbers cell is = subst (λ (c : Cell). (c ≡ Mv) ↔ (list_any (λ row. all_lie_in row.keys numbers) table.rows ≡ false)) (sym is) (missing_by (λ row. all_lie_in row.keys numbers) table.rows)

-- what is found is a cell of the kind
pub found_cell : (kind : Kind) (p : Row → Bool) (rows : List Row) → All (λ row. IsValue kind row.result) rows → IsCell kind (cell_found (find p rows))
found_cell kind p [] values = tt
found_cell kind p (row ∷ rows) values =
    bool_cases (p row)
    (λ yes. rw yes (values 0 row (omega arith)))
    (λ fails. rw fails (found_cell kind p rows (λ k d below. values (suc k) d (omega arith))))

-- the numbers are the same behind a call
pub kept_four : (a b c d : ℤ) → SFits w64 a → SFits w64 b → SFits w64 c → SFits w64 d → to_z w64 (of_z w64 a) ∷ to_z w64 (of_z w64 b) ∷ to_z w64 (of_z w64 c) ∷ to_z w64 (of_z w64 d) ∷ [] ≡ a ∷ b ∷ c ∷ d ∷ []
kept_four a b c d fa fb fc fd = rw (to_z-of_z fa, to_z-of_z fb, to_z-of_z fc, to_z-of_z fd) refl

-- what a search of the rows gives is the value of the table
pub value_is : (keys : ℕ) (kind : Kind) (rows : List Row) (table : TableValue) (slice : List Row) (numbers passed : List ℤ) (found : Option Row) (cell : Cell)
    → table_view keys kind rows ≡ table → slice ≡ rows → passed ≡ numbers
    → found ≡ find (λ row. all_lie_in (row_view keys row).keys passed) slice → cell ≡ cell_found found → cell ≡ value_of table numbers
value_is keys kind rows table slice numbers passed found cell view same kept search is =
    is ∙ ap cell_found search
    ∙ ap (λ (ns : List ℤ). cell_found (find (λ row. all_lie_in (row_view keys row).keys ns) slice)) kept
    ∙ ap (λ (rs : List Row). cell_found (find (λ row. all_lie_in (row_view keys row).keys numbers) rs)) same
    ∙ value_found keys kind rows numbers
    ∙ ap (λ (t : TableValue). value_of t numbers) view

pub cell_is : (keys : ℕ) (kind : Kind) (rows : List Row) (table : TableValue) (slice : List Row) (p : Row → Bool) (found : Option Row) (cell : Cell)
    → table_view keys kind rows ≡ table → slice ≡ rows → All (λ row. IsValue kind row.result) rows
    → found ≡ find p slice → cell ≡ cell_found found → IsCell table.kind cell
cell_is keys kind rows table slice p found cell view same values search is =
    let all : cell ≡ cell_found (find p rows) = is ∙ ap cell_found (search ∙ ap (find p) same) in
    subst (λ (t : TableValue). IsCell t.kind cell) view (subst (IsCell kind) (sym all) (found_cell kind p rows values))
