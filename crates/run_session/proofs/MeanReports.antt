-- What a script reports, where time series are sampled by the mean, is what its program's averages give at the first places of ids.
use Rattle.std.proofs.Common.{◌≡◌, ◌⊎◌, inl, inr, ℕ, zero, suc, ◌+◌, ◌*◌, ◌<◌, Bool, true, false, cond, pos, List, [], ◌∷◌, ◌++◌, filter, length, map, Option, Some, None, Result, Ok, Err, refl, sym, ap, subst, ◌∙◌, append_assoc, append-nil, arith}
use Rattle.std.specs.Prelude.{◌&&◌, All, Contains, IfSome, if◌then◌else◌, slice_get, slice_index_or, ⊤}
use Rattle.std.specs.Option.{is_some}
use Rattle.text_base.specs.Results.{◌>>=◌}
use Rattle.cell_values.specs.declared.cell.Cell.{Cell}
use Rattle.cell_values.specs.declared.kind.Kind.{Kind}
use Rattle.cell_values.specs.declared.kind.Kind.TheVariants.{Scalar}
use Rattle.map_meaning.specs.declared.known.OverAt.{OverAt}
use Rattle.map_meaning.specs.declared.op.Op.TheVariants.{AreaAverage}
use Rattle.map_meaning.specs.declared.tree.Tree.{Tree, out-Tree, out-roll-Tree, roll-Tree}
use Rattle.map_meaning.specs.declared.tree.Tree.TheOpen.{Tree-F}
use Rattle.map_meaning.specs.declared.tree.Tree.TheVariants as tree
use Rattle.map_meaning.specs.declared.program.OutputKind.{OutputKind}
use Rattle.map_meaning.specs.declared.program.InputUse.{InputUse}
use Rattle.map_meaning.specs.declared.program.OutputUse.{OutputUse}
use Rattle.map_meaning.specs.declared.program.Role.{Role}
use Rattle.map_meaning.specs.declared.program.Role.TheVariants.{Grid, Stack, Table, Series}
use Rattle.map_meaning.specs.Evaluation.{Done}
use Rattle.map_meaning.specs.Maps.{IsMapOf, WholeMap, nth}
use Rattle.map_meaning.specs.Programs.{is_grid_role, is_id_kind}
use Rattle.map_meaning.specs.Scenes.{Scene, place_count}
use Rattle.map_meaning.specs.Sections.{After, after_statements, assigned, section_value, with_name}
use Rattle.map_meaning.specs.Spans.{AreInputMaps, at_inputs}
use Rattle.map_meaning.specs.Trees.{Environment, Site, TreeMeaning, applied, meaning_level, meaning_of, operations_in, value_of_tree, values_from_left}
use Rattle.map_meaning.proofs.Callers.{meaning_of-Call, meaning_of-Input}
use Rattle.map_meaning.proofs.WholeMaps.{input_item}
use Rattle.script_syntax.specs.declared.tree.Script.{Script}
use Rattle.script_types.specs.declared.typed.Line.{Line}
use Rattle.script_types.specs.declared.typed.Section.{Section}
use Rattle.script_types.specs.declared.typed.Section.TheVariants.{Initial, Dynamic}
use Rattle.script_types.specs.Lowered.{first_statement, form_by, lines_in, statements_of}
use Rattle.script_types.specs.Names.{binding_of}
use Rattle.script_types.specs.Reports.{Bound, file_written}
use Rattle.script_types.specs.Statements.{is_in}
use Rattle.script_types.specs.inside.FitLines.{AveragesAt, Frame, LinesFit}
use Rattle.script_types.specs.inside.Fits.{is_ids, is_ids_as, is_role}
use Rattle.script_types.specs.Values.{Scenes, Written, after_steps, no_names, reported, script_reports, section_after, section_at}
use Rattle.run_session.specs.Samples.{as_put, cells_put, cell_at_id, id_columns, mean_at, row_cells, sampled_at}
use Rattle.run_session.specs.Laws.{HasId}
use Rattle.run_session.specs.Evaluation.{first_operand, names_before, reported_maps, reported_tree}
use Rattle.run_session.proofs.MeanLaws.{first_is_mean}
use Rattle.run_session.proofs.StepReports.{EachIs}
use Rattle.run_session.proofs.ColumnLaws.{columns_are_ids}

-- ---- results

-- what a step was made of
value_of : {A B E : Type 0} (r : Result A E) (next : A → Result B E) (y : B) → (r >>= next) ≡ Ok y → (x : A) × (r ≡ Ok x) × (next x ≡ Ok y)
value_of (Ok x) next y h = (x, refl, h)
value_of (Err e) next y h = absurd cc

-- two steps that do not fail are one
two_steps : {A B C E : Type 0} (r : Result A E) (f : A → B) (g : B → C) → ((r >>= λ x. Ok (f x)) >>= λ y. Ok (g y)) ≡ (r >>= λ x. Ok (g (f x)))
two_steps (Ok x) f g = refl
two_steps (Err e) f g = refl

-- functions that agree on what holds of all items give the same lists
map_all : {A B : Type 0} (P : A → Type 0) (f g : A → B) (xs : List A) → All P xs → ((x : A) → P x → f x ≡ g x) → map f xs ≡ map g xs
map_all P f g [] all same = refl
map_all P f g (x ∷ xs) all same =
    ap (λ y. y ∷ map f xs) (same x (all 0 x (omega arith))) ∙ ap (λ ys. g x ∷ ys) (map_all P f g xs (λ k d below. all (suc k) d (omega (arith, below))) same)

-- ---- one statement

-- where a sampled statement has an average, it is that of a map by the ids, which are a whole map
pub record IsSampledLine (mean : Bool) (scene : Scene) (l : Line) : Type 0 where
  pub whole : IfSome l.sample (λ ids. length (nth scene.inputs ids) ≡ place_count scene)
  pub means : mean ≡ true → IfSome l.sample (λ ids. AveragesAt ids l.statement.value)

opened : (ts : List Tree) → out-Tree (tree.Call Scalar AreaAverage ts) ≡ Tree-F.Call Scalar AreaAverage ts
opened ts = ap out-Tree (sym (tree.rolls-Call Scalar AreaAverage ts)) ∙ out-roll-Tree (Tree-F.Call Scalar AreaAverage ts)

-- the averages of a map by an input: the map, and its averages
record HasAverages (at : Site) (of : Tree) (ids : ℕ) (m : WholeMap) : Type 0 where
  shown : WholeMap
  value : value_of_tree at of ≡ Ok shown
  kinds : List Kind
  number : ℕ
  averages : applied at AreaAverage kinds (shown ∷ nth at.scene.inputs ids ∷ []) number ≡ Ok m

averages_of : (at : Site) (of : Tree) (kind : Kind) (ids : ℕ) (m : WholeMap) → value_of_tree at (tree.Call Scalar AreaAverage (of ∷ tree.Input kind ids ∷ [])) ≡ Ok m → HasAverages at of ids m
averages_of at of kind ids m h =
    let operands : List TreeMeaning = meaning_of of ∷ meaning_of (tree.Input kind ids) ∷ [] in
    let level = meaning_level (Tree-F.Call Scalar AreaAverage operands) in
    let same : level.value at 0 ≡ Ok m = sym (ap (λ (t : TreeMeaning). t.value at 0) (meaning_of-Call Scalar AreaAverage (of ∷ tree.Input kind ids ∷ []))) ∙ h in
    let kinds = map (λ (t : TreeMeaning). t.kind) operands in
    let number = 0 + operations_in operands + 1 in
    let b = value_of (values_from_left operands at 0) (λ maps. applied at AreaAverage kinds maps number) m same in
    let rest = λ (before : ℕ). values_from_left (meaning_of (tree.Input kind ids) ∷ []) at before in
    let c = value_of ((meaning_of of).value at 0) (λ first. rest (0 + (meaning_of of).operations) >>= λ more. Ok (first ∷ more)) b.0 b.1 in
    let input : rest (0 + (meaning_of of).operations) ≡ Ok (nth at.scene.inputs ids ∷ []) = ap (λ (t : TreeMeaning). t.value at (0 + (meaning_of of).operations) >>= λ first. Ok (first ∷ [])) (meaning_of-Input kind ids) in
    let two : Ok (c.0 ∷ nth at.scene.inputs ids ∷ []) ≡ Ok b.0 = sym (ap (λ r. r >>= λ more. Ok (c.0 ∷ more)) input) ∙ c.2 in
    let maps : c.0 ∷ nth at.scene.inputs ids ∷ [] ≡ b.0 = cc in
    record { shown = c.0; value = c.1; kinds = kinds; number = number; averages = ap (λ ms. applied at AreaAverage kinds ms number) maps ∙ b.2 }

-- what is reported of a statement
record IsReported (mean : Bool) (at : Site) (form : OutputKind) (t : Tree) (m : WholeMap) : Type 0 where
  shown : WholeMap
  value : value_of_tree at t ≡ Ok shown
  same : cells_put false at.scene.inputs form m ≡ cells_put mean at.scene.inputs form shown

-- the tree of what is reported, by whether it is sampled
abbrev tree_by : Bool → Option ℕ → Tree → Tree
tree_by mean o t = if mean && is_some o then first_operand (out-Tree t) else t

-- the row of averages at the first places is that of means
rows_same : (at : Site) (kinds : List Kind) (number : ℕ) (ids cells averages : WholeMap) → length ids ≡ place_count at.scene →
    applied at AreaAverage kinds (cells ∷ ids ∷ []) number ≡ Ok averages → row_cells false ids averages ≡ row_cells true ids cells
rows_same at kinds number ids cells averages long h =
    map_all (λ n. (0 < n) × HasId ids n) (cell_at_id ids averages) (mean_at ids cells) (id_columns ids) (columns_are_ids ids).only (λ n has. first_is_mean at kinds number ids cells averages long h n has.1)

reported_by : (mean : Bool) (at : Site) (section : Section) (o : Option ℕ) (t : Tree) (m : WholeMap) → IfSome o (λ ids. length (nth at.scene.inputs ids) ≡ place_count at.scene) → (mean ≡ true → IfSome o (λ ids. AveragesAt ids t)) →
    value_of_tree at t ≡ Ok m → IsReported mean at (form_by section o) (tree_by mean o t) m
reported_by false at section o t m whole means h = record { shown = m; value = h; same = refl }
reported_by true at Initial None t m whole means h = record { shown = m; value = h; same = refl }
reported_by true at Dynamic None t m whole means h = record { shown = m; value = h; same = refl }
reported_by true at section (Some ids) t m whole means h =
    let a = means refl in
    let has = averages_of at a.0 a.1 ids m (sym (ap (value_of_tree at) a.2) ∙ h) in
    let operand : first_operand (out-Tree t) ≡ a.0 = ap (λ u. first_operand (out-Tree u)) a.2 ∙ ap first_operand (opened (a.0 ∷ tree.Input a.1 ids ∷ [])) in
    record { shown = has.shown; value = ap (value_of_tree at) operand ∙ has.value; same = rows_same at has.kinds has.number (nth at.scene.inputs ids) has.shown m whole has.averages }

line_reported : (mean : Bool) (at : Site) (l : Line) (m : WholeMap) → IsSampledLine mean at.scene l → value_of_tree at l.statement.value ≡ Ok m → IsReported mean at (form_by l.section l.sample) (reported_tree mean l) m
line_reported mean at l m is h = reported_by mean at l.section l.sample l.statement.value m is.whole is.means h

-- ---- some statements

-- what is reported with one more map
abbrev with_report : Bool → Written → List Written → List Written
with_report report r rs = if report then r ∷ rs else rs

-- what a statement writes of a map
abbrev writes : Bound → Line → WholeMap → Written
writes bound l m = record { file = file_written bound l; form = form_by l.section l.sample; kind = l.kind; cells = m }

-- the reports of statements, of which the first has this map
put_first : (mean : Bool) (maps : List WholeMap) (bound : Bound) (l : Line) (ls : List Line) (m : WholeMap) (rest : Result (List WholeMap) OverAt) →
    ((rest >>= λ more. Ok (m ∷ more)) >>= λ ms. Ok (map (as_put mean maps) (reported bound (l ∷ ls) ms)))
    ≡ ((rest >>= λ more. Ok (map (as_put mean maps) (reported bound ls more))) >>= λ rs. Ok (with_report l.report (as_put mean maps (writes bound l m)) rs))
put_first mean maps bound l ls m (Err at) = refl
put_first mean maps bound l ls m (Ok more) = by l.report
  where
    told : List Written → Result (List Written) OverAt
    told rs = Ok rs

    by : (b : Bool) → told (map (as_put mean maps) (if b then writes bound l m ∷ reported bound ls more else reported bound ls more)) ≡ told (with_report b (as_put mean maps (writes bound l m)) (map (as_put mean maps) (reported bound ls more)))
    by true = refl
    by false = refl

-- what some statements report
abbrev put_maps : Bool → Bound → Scene → ℕ → Environment → List Line → Result (List Written) OverAt
put_maps mean bound scene number names ls = reported_maps mean scene number names ls >>= λ ms. Ok (map (as_put mean scene.inputs) (reported bound ls ms))

same_maps : (mean : Bool) (bound : Bound) (scene : Scene) (ls : List Line) → EachIs (IsSampledLine mean scene) ls → (number : ℕ) (names : Environment) → put_maps false bound scene number names ls ≡ put_maps mean bound scene number names ls
same_maps mean bound scene [] each number names = refl
same_maps mean bound scene (l ∷ ls) each number names = by (λ m. same_maps mean bound scene ls each.1 (number + 1) (with_name names l.statement.target m)) (value_of_tree at l.statement.value) refl
  where
    at : Site
    at = record { scene = scene; names = names; statement = number }

    Rest : Bool → WholeMap → Result (List WholeMap) OverAt
    Rest b m = reported_maps b scene (number + 1) (with_name names l.statement.target m) ls

    -- what is reported by these two values
    put_by : Bool → Result WholeMap OverAt → Result WholeMap OverAt → Result (List Written) OverAt
    put_by b v w = (v >>= λ m. w >>= λ shown. Rest b m >>= λ more. Ok (shown ∷ more)) >>= λ ms. Ok (map (as_put b scene.inputs) (reported bound (l ∷ ls) ms))

    by : ((m : WholeMap) → put_maps false bound scene (number + 1) (with_name names l.statement.target m) ls ≡ put_maps mean bound scene (number + 1) (with_name names l.statement.target m) ls) → (v : Result WholeMap OverAt) → value_of_tree at l.statement.value ≡ v → put_by false (value_of_tree at l.statement.value) (value_of_tree at l.statement.value) ≡ put_by mean (value_of_tree at l.statement.value) (value_of_tree at (reported_tree mean l))
    by later (Err over) e = ap (λ v. put_by false v (value_of_tree at l.statement.value)) e ∙ sym (ap (λ v. put_by mean v (value_of_tree at (reported_tree mean l))) e)
    by later (Ok m) e =
        let is = line_reported mean at l m each.0 e in
        let one : as_put false scene.inputs (writes bound l m) ≡ as_put mean scene.inputs (writes bound l is.shown) = ap (λ (cells : List Cell). let w : Written = record { file = file_written bound l; form = form_by l.section l.sample; kind = l.kind; cells = cells } in w) is.same in
        ap (λ v. put_by false v v) e
        ∙ put_first false scene.inputs bound l ls m (Rest false m)
        ∙ ap (λ r. r >>= λ rs. Ok (with_report l.report (as_put false scene.inputs (writes bound l m)) rs)) (later m)
        ∙ ap (λ x. put_maps mean bound scene (number + 1) (with_name names l.statement.target m) ls >>= λ rs. Ok (with_report l.report x rs)) one
        ∙ sym (put_first mean scene.inputs bound l ls is.shown (Rest mean m))
        ∙ sym (ap (λ v. put_by mean v (value_of_tree at (reported_tree mean l))) e ∙ ap (λ w. put_by mean (Ok m) w) is.value)

-- the maps of statements, one after the other
maps_told : (scene : Scene) (number : ℕ) (after : After) (ls : List Line) → (after_statements scene number after (statements_of ls) >>= λ a. Ok a.maps) ≡ (reported_maps false scene number after.names ls >>= λ ms. Ok (after.maps ++ ms))
maps_told scene number after [] = ap (λ ms. let r : Result (List WholeMap) OverAt = Ok ms in r) (sym (append-nil after.maps))
maps_told scene number after (l ∷ ls) = by (λ m. maps_told scene (number + 1) (assigned after l.statement m) ls) (value_of_tree at l.statement.value)
  where
    at : Site
    at = record { scene = scene; names = after.names; statement = number }

    Rest : WholeMap → Result (List WholeMap) OverAt
    Rest m = reported_maps false scene (number + 1) (with_name after.names l.statement.target m) ls

    joined : (m : WholeMap) (r : Result (List WholeMap) OverAt) → (r >>= λ ms. Ok ((after.maps ++ m ∷ []) ++ ms)) ≡ ((r >>= λ more. Ok (m ∷ more)) >>= λ ms. Ok (after.maps ++ ms))
    joined m (Err over) = refl
    joined m (Ok ms) = ap (λ ms. let r : Result (List WholeMap) OverAt = Ok ms in r) (append_assoc after.maps (m ∷ []) ms)

    by : ((m : WholeMap) → (after_statements scene (number + 1) (assigned after l.statement m) (statements_of ls) >>= λ a. Ok a.maps) ≡ (Rest m >>= λ ms. Ok ((after.maps ++ m ∷ []) ++ ms))) → (v : Result WholeMap OverAt) → ((v >>= λ m. after_statements scene (number + 1) (assigned after l.statement m) (statements_of ls)) >>= λ a. Ok a.maps) ≡ ((v >>= λ m. v >>= λ shown. Rest m >>= λ more. Ok (shown ∷ more)) >>= λ ms. Ok (after.maps ++ ms))
    by later (Err over) = refl
    by later (Ok m) = later m ∙ joined m (Rest m)

-- ---- a section

module _ (mean : Bool) (bound : Bound) (scene : Scene) (ls : List Line) (each : EachIs (IsSampledLine mean scene) ls) (number : ℕ) (names : Environment) where
  abbrev told_section : Result After OverAt
  told_section = section_value scene number names (statements_of ls)

  -- a section's reports are those of its maps
  section_same : ((told_section >>= λ after. Ok (reported bound ls after.maps)) >>= λ rs. Ok (map (as_put false scene.inputs) rs)) ≡ put_maps mean bound scene number names ls
  section_same =
      let put = λ (ms : List WholeMap). map (as_put false scene.inputs) (reported bound ls ms) in
      two_steps told_section (λ after. reported bound ls after.maps) (map (as_put false scene.inputs))
      ∙ sym (two_steps told_section (λ after. after.maps) put)
      ∙ ap (λ r. r >>= λ ms. Ok (put ms)) (maps_told scene number (record { names = names; maps = [] }) ls)
      ∙ two_steps (reported_maps false scene number names ls) (λ ms. ms) put
      ∙ same_maps mean bound scene ls each number names

-- the statements of a script are such, where its inputs that are ids are whole maps
if_some : {A : Type 0} (P Q : A → Type 0) (o : Option A) → ((x : A) → P x → Q x) → IfSome o P → IfSome o Q
if_some P Q None f h = tt
if_some P Q (Some x) f h = f x h

pub sampled_lines : (frame : Frame) (scene : Scene) (above ls : List Line) → ((ids : ℕ) → is_ids frame.inputs ids ≡ true → length (nth scene.inputs ids) ≡ place_count scene) → LinesFit frame above ls → EachIs (IsSampledLine frame.mean scene) ls
sampled_lines frame scene above [] whole fit = tt
sampled_lines frame scene above (l ∷ ls) whole fit = (
  record { whole = if_some (λ ids. is_ids frame.inputs ids ≡ true) (λ ids. length (nth scene.inputs ids) ≡ place_count scene) l.sample whole fit.0.ids; means = fit.0.means },
  sampled_lines frame scene (above ++ l ∷ []) ls whole fit.1,
)

-- each report as it is put, of outputs or of what they write
pub put_fused : (put : Written → Written) (writes : Done → OutputUse → Written) (outputs : List OutputUse) (r : Result Done OverAt) →
    (r >>= λ done. Ok (map (λ o. put (writes done o)) outputs)) ≡ ((r >>= λ done. Ok (map (writes done) outputs)) >>= λ rs. Ok (map put rs))
put_fused put writes outputs (Err at) = refl
put_fused put writes outputs (Ok done) = ap (λ rs. let x : Result (List Written) OverAt = Ok rs in x) (twice outputs)
  where
    twice : (xs : List OutputUse) → map (λ o. put (writes done o)) xs ≡ map put (map (writes done) xs)
    twice [] = refl
    twice (x ∷ xs) = ap (λ ys. put (writes done x) ∷ ys) (twice xs)

-- a map of ids is a whole map
pub whole_ids : (places : ℕ) (list : List InputUse) (maps : List WholeMap) (ids : ℕ) → AreInputMaps places list maps → is_ids list ids ≡ true → length (nth (at_inputs is_grid_role [] list maps) ids) ≡ places
whole_ids places list maps ids are h = by (slice_get list ids) refl h
  where
    grid : (r : Role) (k : Kind) → (is_role r Grid && is_id_kind k) ≡ true → is_grid_role r ≡ true
    grid Grid k e = refl
    grid Stack k e = absurd (cc)
    grid (Table keys) k e = absurd (cc)
    grid Series k e = absurd (cc)

    by : (o : Option InputUse) → slice_get list ids ≡ o → is_ids_as o ≡ true → length (nth (at_inputs is_grid_role [] list maps) ids) ≡ places
    by None at e = absurd (cc)
    by (Some input) at e = (input_item is_grid_role [] (λ input m. IsMapOf places input.kind m) list maps ids input are at (grid input.role input.kind e)).count

-- ---- a step

-- what a script's statements report at a step over these scenes, a time series by rows of these maps of ids
abbrev pub reports_over : Bool → Script → List Line → Scenes → List WholeMap → ℕ → Result (List Written) OverAt
reports_over mean script lines scenes maps n =
    let here = lines_in (section_at n) lines in
    names_before lines scenes n >>= λ names.
    reported_maps mean (scenes n) (first_statement (section_at n) lines) names here >>= λ ms.
    Ok (map (as_put mean maps) (reported (binding_of script) here ms))

in_section : (P : Line → Type 0) (section : Section) (ls : List Line) → EachIs P ls → EachIs P (lines_in section ls)
in_section P section [] each = tt
in_section P section (l ∷ ls) each = by (is_in section l.section) (in_section P section ls each.1)
  where
    by : (b : Bool) → EachIs P (lines_in section ls) → EachIs P (cond b (l ∷ lines_in section ls) (lines_in section ls))
    by true rest = (each.0, rest)
    by false rest = rest

-- what a script's statements report at a step, by the first places of ids over averages or by means
pub step_same : (mean : Bool) (script : Script) (lines : List Line) (scenes : Scenes) (maps : List WholeMap) (n : ℕ) → maps ≡ (scenes n).inputs → EachIs (IsSampledLine mean (scenes n)) lines →
    (script_reports script lines scenes n >>= λ rs. Ok (map (as_put false maps) rs)) ≡ reports_over mean script lines scenes maps n
step_same mean script lines scenes maps zero is each =
    ap (λ ms. script_reports script lines scenes 0 >>= λ rs. Ok (map (as_put false ms) rs)) is
    ∙ section_same mean (binding_of script) (scenes 0) (lines_in Initial lines) (in_section (IsSampledLine mean (scenes 0)) Initial lines each) (first_statement Initial lines) no_names
    ∙ ap (λ ms. reports_over mean script lines scenes ms 0) (sym is)
step_same mean script lines scenes maps (suc n) is each =
    ap (λ ms. script_reports script lines scenes (suc n) >>= λ rs. Ok (map (as_put false ms) rs)) is
    ∙ by (after_steps lines scenes n)
    ∙ ap (λ ms. reports_over mean script lines scenes ms (suc n)) (sym is)
  where
    here : List Line
    here = lines_in Dynamic lines

    bound : Bound
    bound = binding_of script

    scene : Scene
    scene = scenes (suc n)

    by : (r : Result After OverAt) →
        (((r >>= λ before. section_after Dynamic lines scene before.names) >>= λ after. Ok (reported bound here after.maps)) >>= λ rs. Ok (map (as_put false scene.inputs) rs))
        ≡ ((r >>= λ before. Ok before.names) >>= λ names. put_maps mean bound scene (first_statement Dynamic lines) names here)
    by (Err over) = refl
    by (Ok before) = section_same mean bound scene here (in_section (IsSampledLine mean (scenes (suc n))) Dynamic lines each) (first_statement Dynamic lines) before.names
