-- What the crates above cite.
use Rattle.std.proofs.Common.{◌≡◌, ℕ, ◌+◌, refl, true, false, cond, List, [], ◌∷◌, ◌++◌, length, map, sym, ◌∙◌, ap, Ok, Err, Result, arith}
use Rattle.std.specs.Prelude.{All}
use Rattle.text_base.specs.Results.{◌>>=◌}
use Rattle.cell_values.specs.declared.kind.Kind.{Kind}
use Rattle.cell_values.specs.declared.kind.Kind.TheVariants.{Boolean, Nominal, Ordinal, Scalar, Directional, Ldd}
use Rattle.cell_values.specs.declared.cell.Cell.{Cell}
use Rattle.map_meaning.specs.declared.known.OverAt.{OverAt}
use Rattle.map_meaning.specs.declared.known.Span.{Span}
use Rattle.map_meaning.specs.declared.op.Op.{Op}
use Rattle.map_meaning.specs.declared.program.Operation.{Operation}
use Rattle.map_meaning.specs.declared.program.Program.{Program}
use Rattle.map_meaning.specs.declared.tree.Statement.{Statement}
use Rattle.map_meaning.specs.declared.tree.Tree.{Tree}
use Rattle.map_meaning.specs.declared.tree.Tree.TheVariants as tree
use Rattle.map_meaning.specs.declared.tree.Tree.TheVariants.{rolls-Call, rolls-Input, rolls-CallWith, rolls-Mask, rolls-Name, rolls-Number, rolls-Stack, rolls-Time}
use Rattle.map_meaning.specs.declared.tree.Tree.TheFolds.{fold-roll-Tree}
use Rattle.map_meaning.specs.declared.tree.Tree.TheOpen.{Tree-F}
use Rattle.map_meaning.specs.Evaluation.{Done, operation_value, operation_values, with_map}
use Rattle.map_meaning.specs.Maps.{WholeMap}
use Rattle.map_meaning.specs.Scenes.{Scene}
use Rattle.map_meaning.specs.Sections.{After, after_statements, assigned}
use Rattle.map_meaning.specs.Laws.{IsItsRow}
use Rattle.map_meaning.specs.declared.row.Ask.{Ask}
use Rattle.map_meaning.specs.declared.row.Ask.TheVariants as ask
use Rattle.map_meaning.specs.declared.row.Row.{Row}
use Rattle.map_meaning.specs.Table.{allows, before_length, behind_file, is_file, is_kind, is_length, map_row, table_rows}
use Rattle.map_meaning.proofs.RowLaws as rows
use Rattle.map_meaning.specs.Trees.{TreeMeaning, meaning_of, meaning_level, value_of_tree}

-- ---- an expression, one level at a time

-- a number
pub meaning_of-Number : (kind : Kind) (cell : Cell) → meaning_of (tree.Number kind cell) ≡ meaning_level (Tree-F.Number kind cell)
unfolding meaning_of
meaning_of-Number kind cell = ap meaning_of (sym (rolls-Number kind cell)) ∙ fold-roll-Tree TreeMeaning meaning_level (Tree-F.Number kind cell)

-- an input
pub meaning_of-Input : (kind : Kind) (input : ℕ) → meaning_of (tree.Input kind input) ≡ meaning_level (Tree-F.Input kind input)
unfolding meaning_of
meaning_of-Input kind input = ap meaning_of (sym (rolls-Input kind input)) ∙ fold-roll-Tree TreeMeaning meaning_level (Tree-F.Input kind input)

-- a name
pub meaning_of-Name : (kind : Kind) (name : List ℕ) → meaning_of (tree.Name kind name) ≡ meaning_level (Tree-F.Name kind name)
unfolding meaning_of
meaning_of-Name kind name = ap meaning_of (sym (rolls-Name kind name)) ∙ fold-roll-Tree TreeMeaning meaning_level (Tree-F.Name kind name)

-- an operation on operands
pub meaning_of-Call : (kind : Kind) (op : Op) (operands : List Tree) → meaning_of (tree.Call kind op operands) ≡ meaning_level (Tree-F.Call kind op (map meaning_of operands))
unfolding meaning_of
meaning_of-Call kind op operands = ap meaning_of (sym (rolls-Call kind op operands)) ∙ fold-roll-Tree TreeMeaning meaning_level (Tree-F.Call kind op operands)

-- the number of the step
pub meaning_of-Time : meaning_of tree.Time ≡ meaning_level Tree-F.Time
unfolding meaning_of
meaning_of-Time = ap meaning_of (sym rolls-Time) ∙ fold-roll-Tree TreeMeaning meaning_level Tree-F.Time

-- a stack
pub meaning_of-Stack : (kind : Kind) (input : ℕ) → meaning_of (tree.Stack kind input) ≡ meaning_level (Tree-F.Stack kind input)
unfolding meaning_of
meaning_of-Stack kind input = ap meaning_of (sym (rolls-Stack kind input)) ∙ fold-roll-Tree TreeMeaning meaning_level (Tree-F.Stack kind input)

-- an operation that is told more than its operands
pub meaning_of-CallWith : (kind : Kind) (op : Op) (file window : ℕ) (operands : List Tree) → meaning_of (tree.CallWith kind op file window operands) ≡ meaning_level (Tree-F.CallWith kind op file window (map meaning_of operands))
unfolding meaning_of
meaning_of-CallWith kind op file window operands = ap meaning_of (sym (rolls-CallWith kind op file window operands)) ∙ fold-roll-Tree TreeMeaning meaning_level (Tree-F.CallWith kind op file window operands)

-- the part of a drain map that a mask keeps
pub meaning_of-Mask : (operands : List Tree) → meaning_of (tree.Mask operands) ≡ meaning_level (Tree-F.Mask (map meaning_of operands))
unfolding meaning_of
meaning_of-Mask operands = ap meaning_of (sym (rolls-Mask operands)) ∙ fold-roll-Tree TreeMeaning meaning_level (Tree-F.Mask operands)

-- ---- a section, one statement at a time

-- a statement whose expression means this gives this map
pub after_statements-map : (scene : Scene) (number : ℕ) (after : After) (s : Statement) (more : List Statement) (m : TreeMeaning) (cells : WholeMap) →
    meaning_of s.value ≡ m → m.value (record { scene = scene; names = after.names; statement = number }) 0 ≡ Ok cells →
    after_statements scene number after (s ∷ more) ≡ after_statements scene (number + 1) (assigned after s cells) more
after_statements-map scene number after s more m cells means is =
    ap (λ (x : TreeMeaning). x.value (record { scene = scene; names = after.names; statement = number }) 0 >>= λ cells. after_statements scene (number + 1) (assigned after s cells) more) means
    ∙ ap (λ r. r >>= λ cells. after_statements scene (number + 1) (assigned after s cells) more) is

-- a statement whose expression means this is Over
pub after_statements-over : (scene : Scene) (number : ℕ) (after : After) (s : Statement) (more : List Statement) (m : TreeMeaning) (over : OverAt) →
    meaning_of s.value ≡ m → m.value (record { scene = scene; names = after.names; statement = number }) 0 ≡ Err over →
    after_statements scene number after (s ∷ more) ≡ Err over
after_statements-over scene number after s more m over means is =
    ap (λ (x : TreeMeaning). x.value (record { scene = scene; names = after.names; statement = number }) 0 >>= λ cells. after_statements scene (number + 1) (assigned after s cells) more) means
    ∙ ap (λ r. r >>= λ cells. after_statements scene (number + 1) (assigned after s cells) more) is

-- ---- the table

-- each row that means an operation is the row of that operation
pub each_its_row : All IsItsRow table_rows
each_its_row = rows.each_its_row

-- ---- kinds

-- kinds that pass the test are the same
pub same_kind : (j k : Kind) → is_kind j k ≡ true → j ≡ k
same_kind Boolean Boolean h = refl
same_kind Boolean Nominal h = absurd (cc)
same_kind Boolean Ordinal h = absurd (cc)
same_kind Boolean Scalar h = absurd (cc)
same_kind Boolean Directional h = absurd (cc)
same_kind Boolean Ldd h = absurd (cc)
same_kind Nominal Boolean h = absurd (cc)
same_kind Nominal Nominal h = refl
same_kind Nominal Ordinal h = absurd (cc)
same_kind Nominal Scalar h = absurd (cc)
same_kind Nominal Directional h = absurd (cc)
same_kind Nominal Ldd h = absurd (cc)
same_kind Ordinal Boolean h = absurd (cc)
same_kind Ordinal Nominal h = absurd (cc)
same_kind Ordinal Ordinal h = refl
same_kind Ordinal Scalar h = absurd (cc)
same_kind Ordinal Directional h = absurd (cc)
same_kind Ordinal Ldd h = absurd (cc)
same_kind Scalar Boolean h = absurd (cc)
same_kind Scalar Nominal h = absurd (cc)
same_kind Scalar Ordinal h = absurd (cc)
same_kind Scalar Scalar h = refl
same_kind Scalar Directional h = absurd (cc)
same_kind Scalar Ldd h = absurd (cc)
same_kind Directional Boolean h = absurd (cc)
same_kind Directional Nominal h = absurd (cc)
same_kind Directional Ordinal h = absurd (cc)
same_kind Directional Scalar h = absurd (cc)
same_kind Directional Directional h = refl
same_kind Directional Ldd h = absurd (cc)
same_kind Ldd Boolean h = absurd (cc)
same_kind Ldd Nominal h = absurd (cc)
same_kind Ldd Ordinal h = absurd (cc)
same_kind Ldd Scalar h = absurd (cc)
same_kind Ldd Directional h = absurd (cc)
same_kind Ldd Ldd h = refl

-- Where the first operand of a row is a map, and the second is no length, the row asks maps alone.
pub map_row-same : (row : Row) (common kind : Kind) → allows common row.first kind ≡ true → is_length row.second ≡ false → map_row row ≡ row
map_row-same row common kind h no_length = by_first row.first h
  where
    by_second : cond (is_length row.second) (before_length row) row ≡ row
    by_second = ap (λ b. cond b (before_length row) row) no_length

    by_first : (first : Ask) → allows common first kind ≡ true → cond (is_file first) (behind_file row) (cond (is_length row.second) (before_length row) row) ≡ row
    by_first (ask.Only asked) h = by_second
    by_first (ask.One kinds) h = by_second
    by_first (ask.Alike kinds) h = by_second
    by_first (ask.Table asked) h = absurd (cc)
    by_first (ask.Series asked) h = absurd (cc)
    by_first ask.Stack h = absurd (cc)
    by_first ask.Length h = absurd (cc)

-- ---- lists in two parts

-- a step behind two others
next_two : {A B C E : Type 0} (r : Result A E) (f : A → Result B E) (g : B → Result C E) (h : A → Result C E) → ((a : A) → h a ≡ f a >>= g) → r >>= h ≡ (r >>= f) >>= g
next_two (Ok a) f g h same = same a
next_two (Err e) f g h same = refl

-- what statements give is what the later ones give behind the earlier ones
pub after_statements-append : (scene : Scene) (number : ℕ) (before : After) (earlier later : List Statement) →
    after_statements scene number before (earlier ++ later) ≡ after_statements scene number before earlier >>= λ after. after_statements scene (number + length earlier) after later
after_statements-append scene number before [] later = let same : number ≡ number + 0 = omega arith in ap (λ n. after_statements scene n before later) same
after_statements-append scene number before (s ∷ more) later =
    let same : number + 1 + length more ≡ number + length (s ∷ more) = omega arith in
    let value = value_of_tree (record { scene = scene; names = before.names; statement = number }) s.value in
    next_two value (λ m. after_statements scene (number + 1) (assigned before s m) more) (λ after. after_statements scene (number + 1 + length more) after later) (λ m. after_statements scene (number + 1) (assigned before s m) (more ++ later))
    (λ m. after_statements-append scene (number + 1) (assigned before s m) more later)
    ∙ ap (λ n. after_statements scene number before (s ∷ more) >>= λ after. after_statements scene n after later) same

-- what operations give is what the later ones give behind the earlier ones
pub operation_values-append : (program : Program) (scene : Scene) (s : Span) (done : Done) (earlier later : List Operation) →
    operation_values program scene s done (earlier ++ later) ≡ operation_values program scene s done earlier >>= λ after. operation_values program scene s after later
operation_values-append program scene s done [] later = refl
operation_values-append program scene s done (o ∷ more) later =
    next_two (operation_value program scene done o) (λ m. operation_values program scene s (with_map s done m) more) (λ after. operation_values program scene s after later) (λ m. operation_values program scene s (with_map s done m) (more ++ later))
    (λ m. operation_values-append program scene s (with_map s done m) more later)
