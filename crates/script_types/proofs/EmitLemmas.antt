-- That the operations which are written of an expression compute it and are well formed: leaf by leaf, operand by operand, call
-- by call.
use Rattle.std.proofs.Common.{◌≡◌, Bool, not, if◌then◌else◌, ℕ, zero, suc, ◌+◌, ◌-◌, ◌<◌, ◌≤◌, true, false, ℤ, int_le, ◌≤ℤ◌, List, [], ◌∷◌, ◌++◌, length, map, refl, sym, ap, subst, ◌∙◌, Ok, Err, Result, arith, append_assoc, append-nil, length-append}
use Rattle.std.specs.Prelude.{◌&&◌, Some, slice_get, slice_index_or, option_map}
use Rattle.std.specs.List.{list_all}
use Rattle.std.proofs.lemmas.Int.{ints}
use Rattle.std.proofs.lemmas.List.{length-map, map-append}
use Rattle.std.proofs.Math.Seq.{get_or-append_seam}
use Rattle.text_base.specs.Results.{◌>>=◌}
use Rattle.cell_values.specs.declared.kind.Kind.{Kind}
use Rattle.cell_values.specs.declared.kind.Kind.TheVariants.{Ldd}
use Rattle.cell_values.specs.declared.cell.Cell.{Cell}
use Rattle.cell_values.specs.declared.cell.Cell.TheVariants.{Mv, Val}
use Rattle.cell_values.specs.Kinds.{IsValue, greatest, is_value, least}
use Rattle.map_meaning.specs.declared.known.OverAt.{OverAt}
use Rattle.map_meaning.specs.declared.op.Op.{Op}
use Rattle.map_meaning.specs.declared.program.Operand.{Operand}
use Rattle.map_meaning.specs.declared.program.Operand.TheVariants as from
use Rattle.map_meaning.specs.declared.program.Operation.{Operation}
use Rattle.map_meaning.specs.declared.program.Program.{Program}
use Rattle.map_meaning.specs.declared.program.Role.TheVariants.{Grid, Stack}
use Rattle.map_meaning.specs.declared.tree.Tree.{Tree}
use Rattle.map_meaning.specs.declared.tree.Tree.TheVariants as tree
use Rattle.map_meaning.specs.Evaluation.{Done, operand_map, operation_value, operation_values, with_map}
use Rattle.map_meaning.specs.Maps.{WholeMap, nth}
use Rattle.map_meaning.specs.Programs.{IsFileOf, IsInput, IsOperationOf, are_used_first, file_role, is_unused, kinds_of, operand_kind, operands_of, operation_kind}
use Rattle.map_meaning.specs.Scenes.{Scene, setting_at}
use Rattle.map_meaning.specs.Table.{HasKinds, goes_along_drains, is_focal, is_kind, is_window_length, map_row, row_of}
use Rattle.map_meaning.specs.Trees.{Environment, Site, TreeMeaning, applied_in, meaning_of, operations_in as count_in, values_from_left}
use Rattle.map_meaning.proofs.Callers.{meaning_of-Input, meaning_of-Name, meaning_of-Number, meaning_of-Stack, meaning_of-Time, operation_values-append, same_kind}
use Rattle.script_types.specs.declared.typed.Section.{Section}
use Rattle.script_types.specs.declared.typed.Section.TheVariants.{Initial, Dynamic}
use Rattle.script_types.specs.Statements.{is_dynamic, operations_of}
use Rattle.script_types.specs.inside.Drains.{IsDrainBelow, drain_named, drain_number, drain_numbers}
use Rattle.script_types.specs.inside.Fits.{Ground, fits, is_input_of}
use Rattle.script_types.specs.inside.Nodes.{IsCall, IsLeaf, first_map_place}
use Rattle.script_types.specs.inside.Sections.{HaveForm, Holder, HoldsMaps, IsGiven, MayRead, NamesBefore, Stands, maps_in, own_operand, span_in, with_maps}
use Rattle.script_types.specs.inside.Sound.{is_cell, is_sound}
use Rattle.script_types.specs.inside.Values.{AllBefore, AreDrainOperands, AreGiven, Emits, EmitsAll, HasOperands}
use Rattle.script_types.proofs.FitLemmas.{HasInput, both-left, both-right, fits-grid, fits-input-is, fits-name, fits-number-is, fits-stack, fits-stack-is, fits-time, not-true}
use Rattle.script_types.proofs.InputForms.{input-form, input-form-kind}
use Rattle.script_types.proofs.NodeLemmas.{CallFits, call-count, call-kind, call-meaning, call-sound}
use Rattle.script_types.proofs.SectionLemmas.{Adds, all-before-more, all-before-push, all-drains-push, all-given-more, all-given-push, before-more, drain-is, given-more, maps-with, operand-stays, own-before, own-drain, own-given, own-kind, own-map, read-before, stands-less, step-with, values-add}
use Rattle.script_types.proofs.SoundLemmas.{kind-of, kinds-of-row, sound-number}
use Rattle.script_types.proofs.ValueLemmas.{GoesAlong, along-drain, applied-is, four, kinds-are, values-push}

-- ---- lists

pub get-left : {A : Type 0} (xs ys : List A) (n : ℕ) → n < length xs → slice_get (xs ++ ys) n ≡ slice_get xs n
get-left [] ys n h = absurd (omega arith)
get-left (x ∷ xs) ys zero h = refl
get-left (x ∷ xs) ys (suc n) h = get-left xs ys n (omega arith)

pub get-seam : {A : Type 0} (xs : List A) (y : A) (ys : List A) → slice_get (xs ++ y ∷ ys) (length xs) ≡ Some y
get-seam [] y ys = refl
get-seam (x ∷ xs) y ys = get-seam xs y ys

in-push : (ms : List TreeMeaning) (m : TreeMeaning) → count_in (ms ++ m ∷ []) ≡ count_in ms + m.operations
in-push [] m = omega arith
in-push (x ∷ ms) m = let e = in-push ms m in omega (arith, e)

-- ---- maps

-- drain maps stay
pub drains-stay : (s : Section) (d : Done) (added : List WholeMap) → (with_maps s d added).drains ≡ d.drains
drains-stay Initial d added = refl
drains-stay Dynamic d added = refl

-- each name and each drain map of an input keeps its map where more is done
pub holds-more : (s : Section) (g : Ground) (holder : Holder) (first : ℕ) (program : Program) (new : List Operation) (scene : Scene) (names : Environment) (d : Done) (added : List WholeMap) → Stands s g holder first new program → first ≤ length (maps_in s d) → HoldsMaps g holder scene names d → HoldsMaps g holder scene names (with_maps s d added)
holds-more s g holder first program new scene names d added st hf h = record {
  named = λ name kind is. h.named name kind is ∙ sym (operand-stays s scene d added (holder name) (before-more s first (length (maps_in s d)) (holder name) hf (read-before program s first (holder name) (st.around.held name kind is).given.read)));
  drained = λ k is. h.drained k is ∙ ap (λ ds. nth ds (drain_number g.inputs k)) (sym (drains-stay s d added));
}

-- ---- forms

pub form-append : (program : Program) (s : Section) (n : ℕ) (xs ys : List Operation) → HaveForm program s n xs → HaveForm program s (n + length xs) ys → HaveForm program s n (xs ++ ys)
form-append program s n [] ys hx hy = let e : n + 0 ≡ n = omega arith in subst (λ k. HaveForm program s k ys) e hy
form-append program s n (x ∷ xs) ys hx hy = let e : n + suc (length xs) ≡ n + 1 + length xs = omega arith in (hx.0, form-append program s (n + 1) xs ys hx.1 (subst (λ k. HaveForm program s k ys) e hy))

test-le : (a b : ℤ) → int_le a b ≡ true → a ≤ℤ b
test-le a b h = grind (arith, ints)

is-value : (kind : Kind) (z : ℤ) → is_value kind z ≡ true → IsValue kind z
is-value kind z h = record { least = test-le (least kind) z (both-left (int_le (least kind) z) (int_le z (greatest kind)) h); greatest = test-le z (greatest kind) (both-right (int_le (least kind) z) (int_le z (greatest kind)) h) }

-- a number of its kind
given-number : (program : Program) (s : Section) (n : ℕ) (kind : Kind) (cell : Cell) → is_cell kind cell ≡ true → IsGiven program s n (from.Literal kind cell)
given-number program Initial n kind Mv h = record { read = tt; used = refl }
given-number program Initial n kind (Val z) h = record { read = is-value kind z h; used = refl }
given-number program Dynamic n kind Mv h = record { read = tt; used = refl }
given-number program Dynamic n kind (Val z) h = record { read = is-value kind z h; used = refl }

-- ---- leaves

before-literal : (s : Section) (n : ℕ) (kind : Kind) (cell : Cell) → NamesBefore s n (from.Literal kind cell)
before-literal Initial n kind cell = tt
before-literal Dynamic n kind cell = tt

before-time : (s : Section) (n : ℕ) → NamesBefore s n from.Time
before-time Initial n = tt
before-time Dynamic n = tt

before-input : (s : Section) (n k : ℕ) → NamesBefore s n (from.Input k)
before-input Initial n k = tt
before-input Dynamic n k = tt

before-stack : (s : Section) (n k : ℕ) → NamesBefore s n (from.Stack k)
before-stack Initial n k = tt
before-stack Dynamic n k = tt

pub before-drain : (s : Section) (n k : ℕ) → NamesBefore s n (from.Drain k)
before-drain Initial n k = tt
before-drain Dynamic n k = tt

given-time : (s : Section) (program : Program) (n : ℕ) → is_dynamic s ≡ true → IsGiven program s n from.Time
given-time Initial program n h = cc
given-time Dynamic program n h = record { read = tt; used = refl }

given-input : (s : Section) (program : Program) (n k : ℕ) → IsInput program Grid k → IsGiven program s n (from.Input k)
given-input Initial program n k h = record { read = h; used = refl }
given-input Dynamic program n k h = record { read = h; used = refl }

given-stack : (s : Section) (program : Program) (n k : ℕ) → is_dynamic s ≡ true → IsInput program Stack k → IsGiven program s n (from.Stack k)
given-stack Initial program n k hd h = cc
given-stack Dynamic program n k hd h = record { read = h; used = refl }

not-ldd : (kind : Kind) → not (is_kind Ldd kind) ≡ true → is_kind Ldd kind ≡ false
not-ldd kind h = not-true (is_kind Ldd kind) h

module _ (s : Section) (g : Ground) (holder : Holder) (numbers : List ℕ) (counted : numbers ≡ drain_numbers 0 g.inputs) (old : List Operation) (statement first : ℕ) (hf : first ≤ length old) where
  -- an operand alone, without operations
  leaf : (t : Tree) (x y : Operand) (m : TreeMeaning) → meaning_of t ≡ m → m.operations ≡ 0 → x ≡ y →
      ((program : Program) (st : Stands s g holder first old program) → operand_kind program y ≡ Some m.kind) →
      ((program : Program) (st : Stands s g holder first old program) → IsDrainBelow st.around.drains m.kind y) →
      ((program : Program) → Stands s g holder first old program → NamesBefore s (length old) y) →
      ((scene : Scene) (names : Environment) (done : Done) → HoldsMaps g holder scene names done → m.value (record { scene = scene; names = names; statement = statement }) (length old - first) ≡ Ok (operand_map scene done y)) →
      (is_sound t ≡ true → (program : Program) → Stands s g holder first old program → IsGiven program s (length old) y) →
      Emits s g holder old old statement first t x
  leaf t x y m hm none hx kind drain before value formed =
      let counted : operations_of t ≡ 0 = ap (λ (w : TreeMeaning). w.operations) hm ∙ none in
      subst (Emits s g holder old old statement first t) (sym hx) (record {
        added = [];
        appended = sym (append-nil old);
        count = sym counted;
        last = λ some. absurd (omega (arith, some, counted));
        last_kind = λ some. absurd (omega (arith, some, counted));
        kind = λ program st. kind program st ∙ ap (λ (w : TreeMeaning). Some w.kind) (sym hm);
        drain = λ program st. subst (λ k. IsDrainBelow st.around.drains k y) (ap (λ (w : TreeMeaning). w.kind) (sym hm)) (drain program st);
        before = before;
        value = λ sound program scene step names done st n h. ap (λ (w : TreeMeaning). w.value (record { scene = scene; names = names; statement = statement }) (length old - first)) hm ∙ value scene names done h;
        formed = λ sound program st. (formed sound program st, tt);
      })

  -- the grid of an input: a drain map, or another
  emits-input : (b : Bool) (kind : Kind) (n : ℕ) (x : Operand) → is_kind Ldd kind ≡ b → x ≡ (if b then from.Drain (slice_index_or numbers n 0) else from.Input n) → is_input_of g.inputs Grid kind n ≡ true → HasInput g.inputs Grid kind n → Emits s g holder old old statement first (tree.Input kind n) x
  emits-input true kind n x hb is f i =
      let same : Ldd ≡ kind = same_kind Ldd kind hb in
      let k : is_input_of g.inputs Grid Ldd n ≡ true = ap (λ j. is_input_of g.inputs Grid j n) same ∙ f in
      leaf (tree.Input kind n) x (from.Drain (drain_number g.inputs n)) _ (meaning_of-Input kind n) refl (is ∙ ap (λ ns. from.Drain (slice_index_or ns n 0)) counted)
      (λ program st. (st.around.drained n k).kind_is ∙ ap Some same)
      (λ program st. (st.around.drained n k).drain)
      (λ program st. before-drain s (length old) (drain_number g.inputs n))
      (λ scene names done h. ap Ok (h.drained n k))
      (λ sound program st. given-more program s first (length old) (from.Drain (drain_number g.inputs n)) hf (st.around.drained n k).given)
  emits-input false kind n x hb is f i =
      leaf (tree.Input kind n) x (from.Input n) _ (meaning_of-Input kind n) refl is
      (λ program st. input-form-kind program g.inputs Grid kind n st.around.inputs i)
      (λ program st. hb)
      (λ program st. before-input s (length old) n)
      (λ scene names done h. refl)
      (λ sound program st. given-input s program (length old) n (input-form program g.inputs Grid kind n st.around.inputs i))

  -- an operand that there is
  pub emits-leaf : (t : Tree) (x : Operand) → IsLeaf numbers holder t x → fits g t ≡ true → Emits s g holder old old statement first t x
  emits-leaf (tree.Number kind cell) x is f = leaf (tree.Number kind cell) x (from.Literal kind cell) _ (meaning_of-Number kind cell) refl is
      (λ program st. refl)
      (λ program st. not-ldd kind (sym (fits-number-is g kind cell) ∙ f))
      (λ program st. before-literal s (length old) kind cell)
      (λ scene names done h. refl)
      (λ sound program st. given-number program s (length old) kind cell (sym (sound-number kind cell) ∙ sound))
  emits-leaf tree.Time x is f = leaf tree.Time x from.Time _ meaning_of-Time refl is
      (λ program st. refl)
      (λ program st. refl)
      (λ program st. before-time s (length old))
      (λ scene names done h. refl)
      (λ sound program st. given-time s program (length old) (sym st.around.steps ∙ fits-time g tree.Time refl f))
  emits-leaf (tree.Input kind n) x is f = emits-input (is_kind Ldd kind) kind n x refl is (sym (fits-input-is g kind n) ∙ f) (fits-grid g (tree.Input kind n) kind n refl f)
  emits-leaf (tree.Stack kind n) x is f =
      let i = fits-stack g (tree.Stack kind n) kind n refl f in
      leaf (tree.Stack kind n) x (from.Stack n) _ (meaning_of-Stack kind n) refl is
      (λ program st. input-form-kind program g.inputs Stack kind n st.around.inputs i.1)
      (λ program st. not-ldd kind (both-right (g.in_steps && is_input_of g.inputs Stack kind n) (not (is_kind Ldd kind)) (sym (fits-stack-is g kind n) ∙ f)))
      (λ program st. before-stack s (length old) n)
      (λ scene names done h. refl)
      (λ sound program st. given-stack s program (length old) n (sym st.around.steps ∙ i.0) (input-form program g.inputs Stack kind n st.around.inputs i.1))
  emits-leaf (tree.Name kind name) x is f =
      let k = fits-name g (tree.Name kind name) kind name refl f in
      leaf (tree.Name kind name) x (holder name) _ (meaning_of-Name kind name) refl is
      (λ program st. (st.around.held name kind k).kind_is)
      (λ program st. (st.around.held name kind k).drain)
      (λ program st. before-more s first (length old) (holder name) hf (read-before program s first (holder name) (st.around.held name kind k).given.read))
      (λ scene names done h. ap Ok (h.named name kind k))
      (λ sound program st. given-more program s first (length old) (holder name) hf (st.around.held name kind k).given)
  emits-leaf (tree.Call' kind op shape operands) x is f = absurd is
  emits-leaf (tree.CallWith' kind op file window shape operands) x is f = absurd is
  emits-leaf (tree.Mask' shape operands) x is f = absurd is

-- ---- operands

-- no operands
pub emits-none : (s : Section) (g : Ground) (holder : Holder) (old : List Operation) (statement first : ℕ) → EmitsAll s g holder old old statement first [] []
emits-none s g holder old statement first = record {
  added = [];
  appended = sym (append-nil old);
  count = refl;
  as_many = refl;
  kinds = λ program st. refl;
  drains = λ program st. tt;
  before = λ program st. tt;
  values = λ sound program scene step names done st n h. refl;
  formed = λ sound program st. (tt, tt);
}

pub all-stay : (s : Section) (scene : Scene) (d : Done) (added : List WholeMap) (xs : List Operand) → AllBefore s (length (maps_in s d)) xs → map (operand_map scene (with_maps s d added)) xs ≡ map (operand_map scene d) xs
all-stay s scene d added [] b = refl
all-stay s scene d added (x ∷ xs) b = ap (λ v. v ∷ map (operand_map scene (with_maps s d added)) xs) (operand-stays s scene d added x b.0) ∙ ap (λ vs. operand_map scene d x ∷ vs) (all-stay s scene d added xs b.1)

-- how many maps are done
pub done-count : (s : Section) (d : Done) (ops : List Operation) (e : Done) → Adds s d ops e → length (maps_in s e) ≡ length (maps_in s d) + length ops
done-count s d ops e a = ap (λ x. length (maps_in s x)) a.is ∙ ap length (maps-with s d a.added) ∙ length-append (maps_in s d) a.added ∙ ap (λ n. length (maps_in s d) + n) a.count

-- two runs of operations, of which the second begins where the first ends
both-runs : (s : Section) (program : Program) (scene : Scene) (step : ℕ) (begun : Done) (ps qs : List Operation) (xs : List Operand) (x : Operand) (r : Result Done OverAt) (vs : Result (List WholeMap) OverAt) (m : Result WholeMap OverAt) → operation_values program scene (span_in s program step) begun ps ≡ r → AllBefore s (length (maps_in s begun) + length ps) xs → vs ≡ r >>= (λ d. Ok (map (operand_map scene d) xs)) → ((d : Done) → r ≡ Ok d → m ≡ operation_values program scene (span_in s program step) d qs >>= λ e. Ok (operand_map scene e x)) → vs >>= (λ ws. m >>= λ w. Ok (ws ++ w ∷ [])) ≡ (r >>= λ d. operation_values program scene (span_in s program step) d qs) >>= λ e. Ok (map (operand_map scene e) (xs ++ x ∷ []))
both-runs s program scene step begun ps qs xs x (Err f) vs m hr hb hv hm = ap (λ v. v >>= (λ ws. m >>= λ w. Ok (ws ++ w ∷ []))) hv
both-runs s program scene step begun ps qs xs x (Ok d) vs m hr hb hv hm =
    let n = done-count s begun ps d (values-add s program scene step ps begun d hr) in
    ap (λ v. v >>= (λ ws. m >>= λ w. Ok (ws ++ w ∷ []))) hv ∙ ap (λ v. v >>= λ w. Ok (map (operand_map scene d) xs ++ w ∷ [])) (hm d refl) ∙ second (operation_values program scene (span_in s program step) d qs) refl (subst (λ k. AllBefore s k xs) (sym n) hb)
  where
    second : (q : Result Done OverAt) → operation_values program scene (span_in s program step) d qs ≡ q → AllBefore s (length (maps_in s d)) xs → ((q >>= λ e. Ok (operand_map scene e x)) >>= λ w. Ok (map (operand_map scene d) xs ++ w ∷ [])) ≡ (q >>= λ e. Ok (map (operand_map scene e) (xs ++ x ∷ [])))
    second (Err f) hq b = refl
    second (Ok e) hq b =
        let a = values-add s program scene step qs d e hq in
        ap (λ vs. Ok (vs ++ operand_map scene e x ∷ [])) (sym (ap (λ y. map (operand_map scene y) xs) a.is ∙ all-stay s scene d a.added xs b)) ∙ ap Ok (sym (map-append (operand_map scene e) xs (x ∷ [])))

-- one more operand
pub emits-push : (s : Section) (g : Ground) (holder : Holder) (old mid new : List Operation) (statement first : ℕ) (ts : List Tree) (xs : List Operand) (t : Tree) (x : Operand) → first ≤ length old → EmitsAll s g holder old mid statement first ts xs → Emits s g holder mid new statement first t x → EmitsAll s g holder old new statement first (ts ++ t ∷ []) (xs ++ x ∷ [])
emits-push s g holder old mid new statement first ts xs t x hf a c =
    let joined = c.appended ∙ ap (λ ops. ops ++ c.added) a.appended ∙ append_assoc old a.added c.added in
    let ms = map-append meaning_of ts (t ∷ []) in
    let la = a.count in
    let lm : length mid ≡ length old + length a.added = ap length a.appended ∙ length-append old a.added in
    let ln : length new ≡ length mid + length c.added = ap length c.appended ∙ length-append mid c.added in
    let grown : length mid ≤ length new = omega (arith, ln) in
    let less : (program : Program) → Stands s g holder first new program → Stands s g holder first mid program = λ program st. stands-less s g holder first program mid new c.added c.appended st in
    record {
      added = a.added ++ c.added;
      appended = joined;
      count = length-append a.added c.added ∙ ap (λ n. n + length c.added) la ∙ ap (λ n. count_in (map meaning_of ts) + n) c.count ∙ sym (in-push (map meaning_of ts) (meaning_of t)) ∙ ap count_in (sym ms);
      as_many = length-append xs (x ∷ []) ∙ ap (λ n. n + 1) a.as_many ∙ sym (length-append ts (t ∷ []));
      kinds = λ program st. map-append (operand_kind program) xs (x ∷ []) ∙ ap (λ ks. ks ++ operand_kind program x ∷ []) (a.kinds program (less program st)) ∙ ap (λ k. map Some (map (λ m. m.kind) (map meaning_of ts)) ++ k ∷ []) (c.kind program st) ∙ sym (map-append Some (map (λ m. m.kind) (map meaning_of ts)) ((meaning_of t).kind ∷ [])) ∙ ap (map Some) (sym (map-append (λ m. m.kind) (map meaning_of ts) (meaning_of t ∷ []))) ∙ ap (λ ms. map Some (map (λ m. m.kind) ms)) (sym ms);
      drains = λ program st. subst (λ ks. AreDrainOperands st.around.drains ks (xs ++ x ∷ [])) (sym (map-append (λ (m : TreeMeaning). m.kind) (map meaning_of ts) (meaning_of t ∷ [])) ∙ ap (map (λ (m : TreeMeaning). m.kind)) (sym ms)) (all-drains-push st.around.drains (map (λ (m : TreeMeaning). m.kind) (map meaning_of ts)) xs (meaning_of t).kind x (a.as_many ∙ sym (length-map ts meaning_of) ∙ sym (length-map (map meaning_of ts) (λ (m : TreeMeaning). m.kind))) (a.drains program (less program st)) (c.drain program st));
      before = λ program st. all-before-push s (length new) xs x (all-before-more s (length mid) (length new) xs grown (a.before program (less program st))) (c.before program st);
      values = λ sound program scene step names done st n h.
          let both = pass-both ts t sound in
          let site : Site = record { scene = scene; names = names; statement = statement } in
          let b = length old - first in
          let at-mid : length mid - first ≡ b + count_in (map meaning_of ts) = omega (arith, lm, la, hf) in
          let sp = span_in s program step in
          ap (λ xs. values_from_left xs site b) ms ∙ values-push (map meaning_of ts) (meaning_of t) site b
          ∙ both-runs s program scene step done a.added c.added xs x (operation_values program scene sp done a.added) (values_from_left (map meaning_of ts) site b) ((meaning_of t).value site (b + count_in (map meaning_of ts))) refl (subst (λ k. AllBefore s k xs) (lm ∙ ap (λ k. k + length a.added) (sym n)) (a.before program (less program st))) (a.values both.0 program scene step names done (less program st) n h) (λ d is.
          let w = values-add s program scene step a.added done d is in
          ap ((meaning_of t).value site) (sym at-mid) ∙ c.value both.1 program scene step names d st (done-count s done a.added d w ∙ ap (λ k. k + length a.added) n ∙ sym lm) (subst (HoldsMaps g holder scene names) (sym w.is) (holds-more s g holder first program new scene names done w.added st (omega (arith, hf, n)) h)))
          ∙ ap (λ r. r >>= λ after. Ok (map (operand_map scene after) (xs ++ x ∷ []))) (sym (operation_values-append program scene sp done a.added c.added));
      formed = λ sound program st.
          let both = pass-both ts t sound in
          let fa = a.formed both.0 program (less program st) in
          let fc = c.formed both.1 program st in (
            all-given-push program s (length new) xs x (all-given-more program s (length mid) (length new) xs grown fa.0) fc.0,
            form-append program s (length old) a.added c.added fa.1 (subst (λ n. HaveForm program s n c.added) lm fc.1),
          );
    }
  where
    both-are : (a b : Bool) → a ≡ true → b ≡ true → (a && b) ≡ true
    both-are true b ha hb = hb
    both-are false b ha hb = ha

    pass-both : (ts : List Tree) (t : Tree) → list_all is_sound (ts ++ t ∷ []) ≡ true → (list_all is_sound ts ≡ true) × (is_sound t ≡ true)
    pass-both [] t h = (refl, both-left (is_sound t) true h)
    pass-both (u ∷ ts) t h = let r = pass-both ts t (both-right (is_sound u) (list_all is_sound (ts ++ t ∷ [])) h) in (both-are (is_sound u) (list_all is_sound ts) (both-left (is_sound u) (list_all is_sound (ts ++ t ∷ [])) h) r.0, r.1)

-- ---- a call

-- the operation behind those of its operands
last-run : (s : Section) (program : Program) (scene : Scene) (step : ℕ) (begun : Done) (ps : List Operation) (o : Operation) (n : ℕ) (r : Result Done OverAt) (vs : Result (List WholeMap) OverAt) (xs : List Operand) (own : List WholeMap → Result WholeMap OverAt) → operation_values program scene (span_in s program step) begun ps ≡ r → length (maps_in s begun) + length ps ≡ n → vs ≡ r >>= (λ d. Ok (map (operand_map scene d) xs)) → ((d : Done) → own (map (operand_map scene d) xs) ≡ operation_value program scene d o) → vs >>= own ≡ (r >>= λ d. operation_values program scene (span_in s program step) d (o ∷ [])) >>= λ e. Ok (operand_map scene e (own_operand s n))
last-run s program scene step begun ps o n (Err f) vs xs own hr hn hv ho = ap (λ v. v >>= own) hv
last-run s program scene step begun ps o n (Ok d) vs xs own hr hn hv ho =
    let k : length (maps_in s d) ≡ n = done-count s begun ps d (values-add s program scene step ps begun d hr) ∙ hn in
    ap (λ v. v >>= own) hv ∙ ho d ∙ told (operation_value program scene d o) k
  where
    told : (v : Result WholeMap OverAt) → length (maps_in s d) ≡ n → v ≡ (v >>= λ m. Ok (with_map (span_in s program step) d m)) >>= λ e. Ok (operand_map scene e (own_operand s n))
    told (Err f) k = refl
    told (Ok m) k = ap Ok (sym (
        ap (λ e. operand_map scene e (own_operand s n)) (step-with s program step d m)
        ∙ own-map s scene (with_maps s d (m ∷ [])) n
        ∙ ap (λ ms. nth ms n) (maps-with s d (m ∷ []))
        ∙ ap (λ j. nth (maps_in s d ++ m ∷ []) j) (sym k)
        ∙ get_or-append_seam (maps_in s d) m [] []
        ))

kinds-twice : (ts : List Tree) → map (λ (m : TreeMeaning). m.kind) (map meaning_of ts) ≡ map kind-of ts
kinds-twice [] = refl
kinds-twice (t ∷ ts) = ap (λ ks. kind-of t ∷ ks) (kinds-twice ts)

-- each of a list, and none behind it
read-none : (program : Program) (s : Section) (n : ℕ) → MayRead program s n from.Unused
read-none program Initial n = tt
read-none program Dynamic n = tt

read-at : (program : Program) (s : Section) (n : ℕ) (xs : List Operand) (i : ℕ) → AreGiven program s n xs → MayRead program s n (slice_index_or xs i from.Unused)
read-at program s n [] i a = read-none program s n
read-at program s n (x ∷ xs) zero a = a.0.read
read-at program s n (x ∷ xs) (suc i) a = read-at program s n xs i a.1

used-step : (x : Operand) (more : List Operand) → is_unused x ≡ false → are_used_first (x ∷ more) ≡ are_used_first more
used-step from.Unused more h = cc
used-step (from.Literal kind cell) more h = refl
used-step from.Time more h = refl
used-step (from.Input i) more h = refl
used-step (from.Stack i) more h = refl
used-step (from.Initial i) more h = refl
used-step (from.Now i) more h = refl
used-step (from.Last d i) more h = refl
used-step (from.Drain i) more h = refl

-- behind those that are used none is
used-four : (program : Program) (s : Section) (n : ℕ) (xs : List Operand) → AreGiven program s n xs → length xs ≤ 4 → are_used_first (four xs) ≡ true
used-four program s n [] a h = refl
used-four program s n (x ∷ []) a h = used-step x (from.Unused ∷ from.Unused ∷ from.Unused ∷ []) a.0.used
used-four program s n (x ∷ y ∷ []) a h = used-step x (y ∷ from.Unused ∷ from.Unused ∷ []) a.0.used ∙ used-step y (from.Unused ∷ from.Unused ∷ []) a.1.0.used
used-four program s n (x ∷ y ∷ z ∷ []) a h = used-step x (y ∷ z ∷ from.Unused ∷ []) a.0.used ∙ used-step y (z ∷ from.Unused ∷ []) a.1.0.used ∙ used-step z (from.Unused ∷ []) a.1.1.0.used
used-four program s n (x ∷ y ∷ z ∷ w ∷ []) a h = used-step x (y ∷ z ∷ w ∷ []) a.0.used ∙ used-step y (z ∷ w ∷ []) a.1.0.used ∙ used-step z (w ∷ []) a.1.1.0.used ∙ used-step w [] a.1.1.1.0.used
used-four program s n (x ∷ y ∷ z ∷ w ∷ v ∷ xs) a h = absurd (omega (arith, h))

-- the operands of an operation that goes along a drain map, and of another
used-along : (program : Program) (s : Section) (n : ℕ) (t : Bool) (o : Operation) (xs : List Operand) → o.a ≡ slice_index_or xs (if t then 1 else 0) from.Unused → o.b ≡ slice_index_or xs ((if t then 1 else 0) + 1) from.Unused → o.c ≡ slice_index_or xs ((if t then 1 else 0) + 2) from.Unused → o.d ≡ slice_index_or xs ((if t then 1 else 0) + 3) from.Unused → AreGiven program s n xs → length xs ≤ 4 → are_used_first (operands_of o) ≡ true
used-along program s n false o xs a b c d given h = ap are_used_first (in-places a b c d) ∙ used-four program s n xs given h
  where
    in-places : {x y z w : Operand} → o.a ≡ x → o.b ≡ y → o.c ≡ z → o.d ≡ w → operands_of o ≡ x ∷ y ∷ z ∷ w ∷ []
    in-places p q r t = cc
used-along program s n true o [] a b c d given h = ap are_used_first (in-places a b c d)
  where
    in-places : {x y z w : Operand} → o.a ≡ x → o.b ≡ y → o.c ≡ z → o.d ≡ w → operands_of o ≡ x ∷ y ∷ z ∷ w ∷ []
    in-places p q r t = cc
used-along program s n true o (x ∷ xs) a b c d given h = ap are_used_first (in-places a b c d) ∙ used-four program s n xs given.1 (omega (arith, h))
  where
    in-places : {x y z w : Operand} → o.a ≡ x → o.b ≡ y → o.c ≡ z → o.d ≡ w → operands_of o ≡ x ∷ y ∷ z ∷ w ∷ []
    in-places p q r t = cc

first-drain : (m : ℕ) (more : List Kind) (xs : List Operand) → length xs ≡ suc (length more) → AreDrainOperands m (Ldd ∷ more) xs → slice_index_or xs 0 from.Unused ≡ from.Drain (drain_named (slice_index_or xs 0 from.Unused))
first-drain m more [] e a = absurd (omega (arith, e))
first-drain m more (x ∷ xs) e a = (drain-is m x a.0).0

-- an operation on operands that are computed
pub emits-call : (s : Section) (g : Ground) (holder : Holder) (old mid : List Operation) (statement first : ℕ) (t : Tree) (kind : Kind) (op : Op) (file window : ℕ) (args : List Tree) (xs : List Operand) (o : Operation) → IsCall t kind op file window args → CallFits g kind op file window args → first ≤ length old → o.op ≡ op → o.kind ≡ kind → o.statement ≡ statement → o.number ≡ length mid - first + 1 → HasOperands o file window xs → EmitsAll s g holder old mid statement first args xs → Emits s g holder old (mid ++ o ∷ []) statement first t (own_operand s (length mid))
emits-call s g holder old mid statement first t kind op file window args xs o call fit hf ho hk hs hn has a =
    let la = a.count in
    let lm : length mid ≡ length old + length a.added = ap length a.appended ∙ length-append old a.added in
    let lo : length (mid ++ o ∷ []) ≡ length mid + 1 = length-append mid (o ∷ []) in
    let lx : length xs ≡ length args = a.as_many in
    let few : length xs ≤ 4 = (let f = fit.few in omega (arith, lx, f)) in
    let counted = call-count t kind op file window args call in
    let kinds = map (λ (m : TreeMeaning). m.kind) (map meaning_of args) in
    let many : length xs ≡ length kinds = a.as_many ∙ sym (length-map args meaning_of) ∙ sym (length-map (map meaning_of args) (λ (m : TreeMeaning). m.kind)) in
    let less : (program : Program) → Stands s g holder first (mid ++ o ∷ []) program → Stands s g holder first mid program = λ program st. stands-less s g holder first program mid (mid ++ o ∷ []) (o ∷ []) refl st in
    let has-kinds : is_sound t ≡ true → HasKinds (map_row (row_of o.op)) kinds kind = λ sound. subst (λ q. HasKinds (map_row (row_of q)) kinds kind) (sym ho) (subst (λ ks. HasKinds (map_row (row_of op)) ks kind) (sym (kinds-twice args)) (kinds-of-row (map_row (row_of op)) (map kind-of args) kind (call-sound t kind op file window args call sound).kinds)) in
    let goes : is_sound t ≡ true → (program : Program) → Stands s g holder first (mid ++ o ∷ []) program → GoesAlong o xs = λ sound program st e.
    let f = along-drain o.op kinds kind e (has-kinds sound) in
    first-drain st.around.drains f.0 xs (many ∙ ap length f.1) (subst (λ ks. AreDrainOperands st.around.drains ks xs) f.1 (a.drains program (stands-less s g holder first program mid (mid ++ o ∷ []) (o ∷ []) refl st))) in
    let same : is_sound t ≡ true → (program : Program) → Stands s g holder first (mid ++ o ∷ []) program → kinds_of program o ≡ kinds = λ sound program st. kinds-are (operand_kind program) o file window xs kinds has (goes sound program st) refl (a.kinds program (less program st)) few in
    let own-kinds : operation_kind (mid ++ o ∷ []) (length mid) ≡ Some (meaning_of t).kind = ap (option_map (λ (p : Operation). p.kind)) (get-seam mid o []) ∙ ap Some (hk ∙ sym (call-kind t kind op file window args call)) in
    record {
      added = a.added ++ o ∷ [];
      appended = ap (λ ops. ops ++ o ∷ []) a.appended ∙ append_assoc old a.added (o ∷ []);
      count = length-append a.added (o ∷ []) ∙ ap (λ n. n + 1) la ∙ sym counted;
      last = λ some. let e : length mid ≡ length (mid ++ o ∷ []) - 1 = omega (arith, lo) in ap (own_operand s) e;
      last_kind = λ some. let e : length (mid ++ o ∷ []) - 1 ≡ length mid = omega (arith, lo) in ap (operation_kind (mid ++ o ∷ [])) e ∙ own-kinds;
      kind = λ program st. own-kind s program (length mid) ∙ ap (λ ops. operation_kind ops (length mid)) (st.begins.is ∙ append_assoc mid (o ∷ []) st.begins.more) ∙ ap (option_map (λ (p : Operation). p.kind)) (get-seam mid o st.begins.more) ∙ ap Some (hk ∙ sym (call-kind t kind op file window args call));
      drain = λ program st. own-drain s st.around.drains (length mid) (meaning_of t).kind (ap (is_kind Ldd) (call-kind t kind op file window args call) ∙ fit.plain);
      before = λ program st. own-before s (length mid) (length (mid ++ o ∷ [])) (omega (arith, lo));
      value = λ sound program scene step names done st n h.
          let site : Site = record { scene = scene; names = names; statement = statement } in
          let own : Site = record { scene = scene; names = names; statement = o.statement } in
          let b = length old - first in
          let sp = span_in s program step in
          let cs = call-sound t kind op file window args call sound in
          let told = setting_at scene file window kinds in
          let number : b + count_in (map meaning_of args) + 1 ≡ o.number = (let z : b + count_in (map meaning_of args) + 1 ≡ length mid - first + 1 = omega (arith, lm, la, hf) in z ∙ sym hn) in
          ap (λ (m : TreeMeaning). m.value site b) (call-meaning t kind op file window args call)
          ∙ last-run s program scene step done a.added o (length mid) (operation_values program scene sp done a.added) (values_from_left (map meaning_of args) site b) xs (λ vs. applied_in site op told vs (b + count_in (map meaning_of args) + 1)) refl (ap (λ j. j + length a.added) n ∙ sym lm) (a.values cs.operands program scene step names done (less program st) n h) (λ d.
          ap (applied_in site op told (map (operand_map scene d) xs)) number
          ∙ ap (λ q. applied_in site q told (map (operand_map scene d) xs) o.number) (sym ho)
          ∙ ap (λ (w : Site). applied_in w o.op told (map (operand_map scene d) xs) o.number) (ap (λ k. site-of scene names k) (sym hs))
          ∙ applied-is program scene names d o file window kinds xs has (goes sound program st) (same sound program st))
          ∙ ap (λ r. r >>= λ after. Ok (operand_map scene after (own_operand s (length mid)))) (sym (operation_values-append program scene sp done a.added (o ∷ [])));
      formed = λ sound program st.
          let cs = call-sound t kind op file window args call sound in
          let fa = a.formed cs.operands program (less program st) in
          let given = fa.0 in
          let ks : kinds_of program o ≡ kinds = same sound program st in
          let m = length mid in
          let form : IsOperationOf program (MayRead program s m) o.kept o = record {
            a = subst (MayRead program s m) (sym has.a) (read-at program s m xs (first_map_place o.op) given);
            b = subst (MayRead program s m) (sym has.b) (read-at program s m xs (first_map_place o.op + 1) given);
            c = subst (MayRead program s m) (sym has.c) (read-at program s m xs (first_map_place o.op + 2) given);
            d = subst (MayRead program s m) (sym has.d) (read-at program s m xs (first_map_place o.op + 3) given);
            used = used-along program s m (goes_along_drains o.op) o xs has.a has.b has.c has.d given few;
            kinds = subst (λ js. HasKinds (map_row (row_of o.op)) js o.kind) (sym ks) (subst (HasKinds (map_row (row_of o.op)) kinds) (sym hk) (has-kinds sound));
            drain = λ e. subst (MayRead program s m) (goes sound program st e ∙ ap from.Drain (sym has.drain_is)) (read-at program s m xs 0 given);
            window = λ e. ap is_window_length has.window_is ∙ fit.window_fits (ap is_focal (sym ho) ∙ e);
            file =
                let count : length (kinds_of program o) ≡ length args = ap length ks ∙ sym many ∙ lx in
                let asked : file_role o.op (length (kinds_of program o)) ≡ file_role op (length args) = ap (λ p. file_role p (length (kinds_of program o))) ho ∙ ap (file_role op) count in
                subst (λ r. IsFileOf program r o.kind o.file) (sym asked) (subst (λ k. IsFileOf program (file_role op (length args)) k o.file) (sym hk) (subst (IsFileOf program (file_role op (length args)) kind) (sym has.file_is) (fit.file_fits program st.around.inputs)));
            kept = refl;
          } in (
            own-given s program m (length (mid ++ o ∷ [])) (omega (arith, lo)),
            form-append program s (length old) a.added (o ∷ []) fa.1 (subst (λ n. HaveForm program s n (o ∷ [])) lm (form, tt)),
          );
    }
  where
    site-of : Scene → Environment → ℕ → Site
    site-of scene names k = record { scene = scene; names = names; statement = k }
