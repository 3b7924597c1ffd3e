-- Two programs that differ in what is kept alone: they have the same kinds, values and forms.
use Rattle.std.proofs.Common.{◌≡◌, ℕ, zero, suc, ◌+◌, ◌-◌, ◌<◌, ◌≤◌, ◌&&◌, ◌||◌, nat_lt, Bool, List, [], ◌∷◌, length, map, filter, take, drop, refl, sym, ap, subst, ◌∙◌, Ok, Err, Result, arith}
use Rattle.std.specs.Prelude.{IfSome, None, Option, Some, option_map, slice_get}
use Rattle.std.specs.List.{filter_map, list_any}
use mathlib.Core.Path.{fun_ext}
use Rattle.text_base.specs.Results.{◌>>=◌}
use Rattle.cell_values.specs.declared.kind.Kind.{Kind}
use Rattle.cell_values.specs.declared.kind.Kind.TheVariants.{Ldd}
use Rattle.tile_map.specs.Parts.{part_of}
use Rattle.map_meaning.specs.declared.known.OverAt.{OverAt}
use Rattle.map_meaning.specs.declared.known.Span.{Span}
use Rattle.map_meaning.specs.declared.known.Span.TheVariants as span
use Rattle.map_meaning.specs.declared.program.DrainFrom.{DrainFrom}
use Rattle.map_meaning.specs.declared.program.DrainFrom.TheVariants as drain
use Rattle.map_meaning.specs.declared.program.DrainUse.{DrainUse}
use Rattle.map_meaning.specs.declared.program.Operand.{Operand}
use Rattle.map_meaning.specs.declared.program.Operand.TheVariants as from
use Rattle.map_meaning.specs.declared.program.Operation.{Operation}
use Rattle.map_meaning.specs.declared.program.Program.{Program}
use Rattle.map_meaning.specs.declared.program.Role.{Role}
use Rattle.map_meaning.specs.Evaluation.{Done, drain_codes, nothing_done, operand_cell, operation_part, operation_value, operation_values, staged_values, with_drain, with_map}
use Rattle.map_meaning.specs.Overs.{whole_or_over}
use Rattle.map_meaning.specs.Programs.{AreDrainUses, AreOperations, AreStepOperations, IsBelow, IsBelowNow, IsDueBy, IsFileOf, IsFrom, IsInput, IsOperationOf, all_operands, file_role, is_initial, is_kept_in_steps, is_kept_map, is_last, is_read_behind, kinds_of, operand_kind, operands_of, operation_kind, stage_begin}
use Rattle.map_meaning.specs.Rules.{outcome_of}
use Rattle.map_meaning.specs.Scenes.{Scene, place_count, setting_at}
use Rattle.map_meaning.specs.Spans.{done_next, step_span, whole_span}
use Rattle.map_meaning.specs.Table.{HasKinds, map_row, row_of}
use Rattle.script_types.specs.declared.typed.Section.TheVariants.{Initial, Dynamic}
use Rattle.script_types.specs.Lowered.{as_listed}
use Rattle.script_types.specs.Values.{Scenes, done_steps, is_output_of, program_codes, program_reports, section_at, written}
use Rattle.script_types.specs.inside.Kept.{is_now_or_last, kept_where, some_mask, some_operand, some_output}
use Rattle.script_types.specs.inside.Sections.{HaveForm}

-- ---- operations that are kept elsewhere

pub kind-where : (keep : ℕ → Bool) (k : ℕ) (ops : List Operation) (n : ℕ) → operation_kind (kept_where keep k ops) n ≡ operation_kind ops n
kind-where keep k [] n = refl
kind-where keep k (o ∷ ops) zero = refl
kind-where keep k (o ∷ ops) (suc n) = kind-where keep (k + 1) ops n

pub length-where : (keep : ℕ → Bool) (k : ℕ) (ops : List Operation) → length (kept_where keep k ops) ≡ length ops
length-where keep k [] = refl
length-where keep k (o ∷ ops) = ap suc (length-where keep (k + 1) ops)

pub listed-where : (keep : ℕ → Bool) (k : ℕ) (ops : List Operation) → map as_listed (kept_where keep k ops) ≡ map as_listed ops
listed-where keep k [] = refl
listed-where keep k (o ∷ ops) = ap (λ rest. as_listed o ∷ rest) (listed-where keep (k + 1) ops)

operand-where : (test : Operand → Bool) (keep : ℕ → Bool) (k : ℕ) (ops : List Operation) → some_operand test (kept_where keep k ops) ≡ some_operand test ops
operand-where test keep k [] = refl
operand-where test keep k (o ∷ ops) = ap (λ b. list_any test (operands_of o) || b) (operand-where test keep (k + 1) ops)

read-where : (ds : List DrainUse) (n i : ℕ) (keep : ℕ → Bool) (k : ℕ) (ops : List Operation) → is_read_behind ds n i (kept_where keep k ops) ≡ is_read_behind ds n i ops
read-where ds n i keep k [] = refl
read-where ds n i keep k (o ∷ ops) = ap (λ b. (list_any (is_initial n) (operands_of o) && nat_lt n (stage_begin ds i)) || b) (read-where ds n (i + 1) keep (k + 1) ops)

take-where : (keep : ℕ → Bool) (k n : ℕ) (ops : List Operation) → take n (kept_where keep k ops) ≡ kept_where keep k (take n ops)
take-where keep k zero ops = refl
take-where keep k (suc n) [] = refl
take-where keep k (suc n) (o ∷ ops) = ap (λ rest. record o { kept = keep k } ∷ rest) (take-where keep (k + 1) n ops)

drop-where : (keep : ℕ → Bool) (k n : ℕ) (ops : List Operation) → drop n (kept_where keep k ops) ≡ kept_where keep (k + n) (drop n ops)
drop-where keep k zero ops = let e : k ≡ k + 0 = omega arith in ap (λ i. kept_where keep i ops) e
drop-where keep k (suc n) [] = refl
drop-where keep k (suc n) (o ∷ ops) = let e : k + 1 + n ≡ k + suc n = omega arith in drop-where keep (k + 1) n ops ∙ ap (λ i. kept_where keep i (drop n ops)) e

-- ---- two programs

-- the first program is the second with its operations kept elsewhere
pub record IsKeptAs (p q : Program) : Type 0 where
  pub inputs : p.inputs ≡ q.inputs
  pub drains : p.drains ≡ q.drains
  pub outputs : p.outputs ≡ q.outputs
  pub keep : ℕ → Bool
  pub initial : p.initial ≡ kept_where keep 0 q.initial
  pub step_keep : ℕ → Bool
  pub dynamic : p.dynamic ≡ kept_where step_keep 0 q.dynamic

module _ (p q : Program) (same : IsKeptAs p q) where
  initial-kind : (n : ℕ) → operation_kind p.initial n ≡ operation_kind q.initial n
  initial-kind n = ap (λ ops. operation_kind ops n) same.initial ∙ kind-where same.keep 0 q.initial n

  dynamic-kind : (n : ℕ) → operation_kind p.dynamic n ≡ operation_kind q.dynamic n
  dynamic-kind n = ap (λ ops. operation_kind ops n) same.dynamic ∙ kind-where same.step_keep 0 q.dynamic n

  pub initial-count : length p.initial ≡ length q.initial
  initial-count = ap length same.initial ∙ length-where same.keep 0 q.initial

  pub dynamic-count : length p.dynamic ≡ length q.dynamic
  dynamic-count = ap length same.dynamic ∙ length-where same.step_keep 0 q.dynamic

  pub drain-count : length p.drains ≡ length q.drains
  drain-count = ap length same.drains

  -- operands have the same kinds
  pub operand-kind : (x : Operand) → operand_kind p x ≡ operand_kind q x
  operand-kind from.Unused = refl
  operand-kind (from.Literal kind cell) = refl
  operand-kind from.Time = refl
  operand-kind (from.Input n) = ap (λ inputs. option_map (λ i. i.kind) (slice_get inputs n)) same.inputs
  operand-kind (from.Stack n) = ap (λ inputs. option_map (λ i. i.kind) (slice_get inputs n)) same.inputs
  operand-kind (from.Initial n) = initial-kind n
  operand-kind (from.Now n) = dynamic-kind n
  operand-kind (from.Last d n) = dynamic-kind d
  operand-kind (from.Drain n) = ap (λ ds. option_map (λ (d : DrainUse). Ldd) (slice_get ds n)) same.drains

  same-kinds : (o : Operation) → kinds_of p o ≡ kinds_of q o
  same-kinds o = ap (λ f. filter_map f (all_operands o)) (fun_ext operand-kind)

  -- ---- values

  value-same : (scene : Scene) (d : Done) (o : Operation) (b : Bool) → operation_value p scene d (record o { kept = b }) ≡ operation_value q scene d o
  unfolding operation_part
  value-same scene d o b = ap (λ ks. whole_or_over scene o.statement o.number (part_of (outcome_of o.op (setting_at scene o.file o.window ks) (map (operand_cell scene d) (all_operands o))) (place_count scene))) (same-kinds o)

  bind-same : {A B : Type 0} (r s : Result A OverAt) (f g : A → Result B OverAt) → r ≡ s → ((m : A) → f m ≡ g m) → r >>= f ≡ s >>= g
  bind-same r (Ok m) f g e h = ap (λ x. x >>= f) e ∙ h m
  bind-same r (Err o) f g e h = ap (λ x. x >>= f) e

  values-where : (scene : Scene) (s : Span) (d : Done) (keep : ℕ → Bool) (k : ℕ) (ops : List Operation) → operation_values p scene s d (kept_where keep k ops) ≡ operation_values q scene s d ops
  values-where scene s d keep k [] = refl
  values-where scene s d keep k (o ∷ ops) = bind-same (operation_value p scene d (record o { kept = keep k })) (operation_value q scene d o) (λ m. operation_values p scene s (with_map s d m) (kept_where keep (k + 1) ops)) (λ m. operation_values q scene s (with_map s d m) ops) (value-same scene d o (keep k)) (λ m. values-where scene s (with_map s d m) keep (k + 1) ops)

  staged-where : (scene : Scene) (s : Span) (d : Done) (ds : List DrainUse) (keep : ℕ → Bool) (k : ℕ) (ops : List Operation) → staged_values p scene s d ds (kept_where keep k ops) ≡ staged_values q scene s d ds ops
  staged-where scene s d [] keep k ops = values-where scene s d keep k ops
  staged-where scene s d (u ∷ ds) keep k ops =
      let n = u.after - length d.initial in
      let with = λ (after : Done). with_drain after (drain_codes scene after u.from) in
      ap (λ os. operation_values p scene s d os >>= λ after. staged_values p scene s (with after) ds (drop n (kept_where keep k ops))) (take-where keep k n ops) ∙
      bind-same (operation_values p scene s d (kept_where keep k (take n ops))) (operation_values q scene s d (take n ops))
      (λ after. staged_values p scene s (with after) ds (drop n (kept_where keep k ops))) (λ after. staged_values q scene s (with after) ds (drop n ops))
      (values-where scene s d keep k (take n ops))
      (λ after. ap (staged_values p scene s (with after) ds) (drop-where keep k n ops) ∙ staged-where scene s (with after) ds keep (k + n) (drop n ops))

  -- what is done after `initial`
  initial-same : (scene : Scene) → staged_values p scene (whole_span p) nothing_done p.drains p.initial ≡ staged_values q scene (whole_span q) nothing_done q.drains q.initial
  initial-same scene =
      ap (λ ops. staged_values p scene (whole_span p) nothing_done p.drains ops) same.initial ∙
      staged-where scene (whole_span p) nothing_done p.drains same.keep 0 q.initial ∙
      ap (λ ds. staged_values q scene (whole_span p) nothing_done ds q.initial) same.drains ∙
      ap (λ k. staged_values q scene (span.Initial 0 k) nothing_done q.drains q.initial) initial-count

  done-same : (scenes : Scenes) (n : ℕ) → done_steps p scenes n ≡ done_steps q scenes n
  done-same scenes zero = initial-same (scenes 0)
  done-same scenes (suc n) = bind-same (done_steps p scenes n) (done_steps q scenes n)
      (λ done. operation_values p (scenes (suc n)) (step_span (suc n)) (done_next done) p.dynamic)
      (λ done. operation_values q (scenes (suc n)) (step_span (suc n)) (done_next done) q.dynamic)
      (done-same scenes n)
      (λ done. ap (operation_values p (scenes (suc n)) (step_span (suc n)) (done_next done)) same.dynamic ∙ values-where (scenes (suc n)) (step_span (suc n)) (done_next done) same.step_keep 0 q.dynamic)

  -- their drain maps have the same codes
  pub codes-same : (scene : Scene) → program_codes p scene ≡ program_codes q scene
  codes-same scene = ap (λ r. r >>= λ done. Ok done.drains) (initial-same scene)

  -- they write the same
  pub reports-same : (scenes : Scenes) (n : ℕ) → program_reports p scenes n ≡ program_reports q scenes n
  reports-same scenes n = ap (λ r. r >>= λ done. Ok (map (written (scenes n) done) (filter (is_output_of (section_at n)) p.outputs))) (done-same scenes n) ∙ ap (λ us. done_steps q scenes n >>= λ done. Ok (map (written (scenes n) done) (filter (is_output_of (section_at n)) us))) same.outputs

  -- ---- forms

  pub input-same : (role : Role) (n : ℕ) → IsInput q role n → IsInput p role n
  input-same role n h = record {
    within = subst (λ is. n < length is) (sym same.inputs) h.within;
    role = subst (λ is. IfSome (slice_get is n) (λ i. i.role ≡ role)) (sym same.inputs) h.role;
  }

  file-same : (o : Option Role) (kind : Kind) (n : ℕ) → IsFileOf q o kind n → IsFileOf p o kind n
  file-same None kind n h = tt
  file-same (Some role) kind n h = record { input = input-same role n h.input; kind_is = ap (λ inputs. option_map (λ i. i.kind) (slice_get inputs n)) same.inputs ∙ h.kind_is }

  due-same : (count n : ℕ) → IsDueBy q count n → IsDueBy p count n
  due-same count n h = record {
    within = subst (λ ds. n < length ds) (sym same.drains) h.within;
    after = subst (λ ds. IfSome (slice_get ds n) (λ d. d.after ≤ count)) (sym same.drains) h.after;
  }

  pub below-same : (n : ℕ) (x : Operand) → IsBelow q n x → IsBelow p n x
  below-same n from.Unused h = h
  below-same n (from.Literal kind cell) h = h
  below-same n from.Time h = h
  below-same n (from.Input k) h = input-same _ k h
  below-same n (from.Stack k) h = h
  below-same n (from.Initial k) h = h
  below-same n (from.Now k) h = h
  below-same n (from.Last d k) h = h
  below-same n (from.Drain k) h = due-same n k h

  pub now-same : (n : ℕ) (x : Operand) → IsBelowNow q n x → IsBelowNow p n x
  now-same n from.Unused h = h
  now-same n (from.Literal kind cell) h = h
  now-same n from.Time h = h
  now-same n (from.Input k) h = input-same _ k h
  now-same n (from.Stack k) h = input-same _ k h
  now-same n (from.Initial k) h = let e = initial-count in omega (arith, e, h)
  now-same n (from.Now k) h = h
  now-same n (from.Last d k) h =
      let a = h.of_dynamic in
      let b = h.of_initial in
      let e = initial-count in
      let f = dynamic-count in
      record { of_dynamic = omega (arith, a, f); of_initial = omega (arith, b, e); kind = dynamic-kind d ∙ h.kind ∙ sym (initial-kind k) }
  now-same n (from.Drain k) h = subst (λ ds. k < length ds) (sym same.drains) h

  -- an operation that is kept where it is to be
  form-same : (OfQ OfP : Operand → Type 0) (keep : Bool) (o : Operation) (b : Bool) → ((x : Operand) → OfQ x → OfP x) → b ≡ keep → IsOperationOf q OfQ o.kept o → IsOperationOf p OfP keep (record o { kept = b })
  form-same OfQ OfP keep o b read hb h = record {
    a = read o.a h.a;
    b = read o.b h.b;
    c = read o.c h.c;
    d = read o.d h.d;
    used = h.used;
    kinds = subst (λ ks. HasKinds (map_row (row_of o.op)) ks o.kind) (sym (same-kinds o)) h.kinds;
    drain = λ e. read (from.Drain o.drain) (h.drain e);
    window = h.window;
    file = subst (λ ks. IsFileOf p (file_role o.op (length ks)) o.kind o.file) (sym (same-kinds o)) (file-same (file_role o.op (length (kinds_of q o))) o.kind o.file h.file);
    kept = hb;
  }

  initial-forms : (keep : ℕ → Bool) (n : ℕ) (ops : List Operation) → ((i : ℕ) → n ≤ i → i < n + length ops → keep i ≡ is_kept_map p i) → HaveForm q Initial n ops → AreOperations p n (kept_where keep n ops)
  initial-forms keep n [] hk h = tt
  initial-forms keep n (o ∷ ops) hk h = (
    form-same (IsBelow q n) (IsBelow p n) (is_kept_map p n) o (keep n) (below-same n) (hk n (omega arith) (let e : n < n + suc (length ops) = omega arith in e)) h.0,
    initial-forms keep (n + 1) ops (λ i lo hi. (let a : n ≤ i = omega (arith, lo) in let b : i < n + suc (length ops) = omega (arith, hi) in hk i a b)) h.1,
  )

  dynamic-forms : (keep : ℕ → Bool) (n : ℕ) (ops : List Operation) → ((i : ℕ) → n ≤ i → i < n + length ops → keep i ≡ is_kept_in_steps p i) → HaveForm q Dynamic n ops → AreStepOperations p n (kept_where keep n ops)
  dynamic-forms keep n [] hk h = tt
  dynamic-forms keep n (o ∷ ops) hk h = (
    form-same (IsBelowNow q n) (IsBelowNow p n) (is_kept_in_steps p n) o (keep n) (now-same n) (hk n (omega arith) (let e : n < n + suc (length ops) = omega arith in e)) h.0,
    dynamic-forms keep (n + 1) ops (λ i lo hi. (let a : n ≤ i = omega (arith, lo) in let b : i < n + suc (length ops) = omega (arith, hi) in hk i a b)) h.1,
  )

  some-same : (test : Operand → Bool) → some_operand test p.dynamic ≡ some_operand test q.dynamic
  some-same test = ap (some_operand test) same.dynamic ∙ operand-where test same.step_keep 0 q.dynamic

  -- what is read, written and masked is the same
  map-same : (n : ℕ) → is_kept_map p n ≡ (some_operand (is_initial n) q.dynamic || some_output (is_initial n) q.outputs || some_mask (is_initial n) q.drains || is_read_behind q.drains n 0 q.initial)
  map-same n =
      ap (λ b. b || some_output (is_initial n) p.outputs || some_mask (is_initial n) p.drains || is_read_behind p.drains n 0 p.initial) (some-same (is_initial n)) ∙
      ap (λ us. some_operand (is_initial n) q.dynamic || some_output (is_initial n) us || some_mask (is_initial n) p.drains || is_read_behind p.drains n 0 p.initial) same.outputs ∙
      ap (λ ds. some_operand (is_initial n) q.dynamic || some_output (is_initial n) q.outputs || some_mask (is_initial n) ds || is_read_behind ds n 0 p.initial) same.drains ∙
      ap (λ b. some_operand (is_initial n) q.dynamic || some_output (is_initial n) q.outputs || some_mask (is_initial n) q.drains || b) (ap (is_read_behind q.drains n 0) same.initial ∙ read-where q.drains n 0 same.keep 0 q.initial)

  -- operations of `initial` that are kept exactly where their maps are read, written or masks
  pub operations-same : ((n : ℕ) → n < length q.initial → same.keep n ≡ (some_operand (is_initial n) q.dynamic || some_output (is_initial n) q.outputs || some_mask (is_initial n) q.drains || is_read_behind q.drains n 0 q.initial)) → HaveForm q Initial 0 q.initial → AreOperations p 0 p.initial
  operations-same hk h = subst (AreOperations p 0) (sym same.initial) (initial-forms same.keep 0 q.initial (λ i lo hi. hk i (omega (arith, hi)) ∙ sym (map-same i)) h)

  -- and operations of `dynamic`
  pub step-operations-same : ((n : ℕ) → n < length q.dynamic → same.step_keep n ≡ (some_operand (is_last n) q.dynamic || some_output (is_now_or_last n) q.outputs)) → HaveForm q Dynamic 0 q.dynamic → AreStepOperations p 0 p.dynamic
  step-operations-same hk h = subst (AreStepOperations p 0) (sym same.dynamic) (dynamic-forms same.step_keep 0 q.dynamic (λ i lo hi. hk i (omega (arith, hi)) ∙ ap (λ b. b || some_output (is_now_or_last i) q.outputs) (sym (some-same (is_last i))) ∙ ap (λ us. some_operand (is_last i) p.dynamic || some_output (is_now_or_last i) us) (sym same.outputs)) h)

  -- ---- drain maps

  from-same : (n after : ℕ) (d : DrainFrom) → IsFrom q n after d → IsFrom p n after d
  from-same n after (drain.Input k) h = (input-same _ k h.0, ap (λ inputs. option_map (λ i. i.kind) (slice_get inputs k)) same.inputs ∙ h.1, h.2)
  from-same n after (drain.Same k) h = h
  from-same n after (drain.Mask of by) h = (h.0, below-same after by h.1, operand-kind by ∙ h.2)

  uses-same : (n : ℕ) (ds : List DrainUse) → AreDrainUses q n ds → AreDrainUses p n ds
  uses-same n [] h = tt
  uses-same n (d ∷ ds) h = (record { from = from-same n d.after d.from h.0.from; within = (let a = h.0.within in let e = initial-count in omega (arith, a, e)) }, uses-same (n + 1) ds h.1)

  -- drain maps are such in both
  pub drains-same : AreDrainUses q 0 q.drains → AreDrainUses p 0 p.drains
  drains-same h = subst (AreDrainUses p 0) (sym same.drains) (uses-same 0 q.drains h)
