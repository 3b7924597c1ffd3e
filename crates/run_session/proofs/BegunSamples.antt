-- Time series that are begun.
use Rattle.std.proofs.Common.{◌≡◌, ℕ, ◌*◌, ◌≤◌, Bool, true, false, cond, List, [], ◌∷◌, ◌++◌, length, map, refl, sym, ap, subst, ◌∙◌, arith}
use Rattle.std.specs.Prelude.{IsSomeAnd, Some, slice_get}
use Rattle.std.specs.List.{AllZip, filter}
use Rattle.std.proofs.lemmas.List.{append-nil, append_assoc}
use Rattle.std.proofs.lemmas.List.Elements.{All-push, filter-append}
use Rattle.map_meaning.specs.declared.program.InputUse.{InputUse}
use Rattle.map_meaning.specs.declared.program.OutputKind.{OutputKind}
use Rattle.map_meaning.specs.declared.program.OutputKind.TheVariants.{InitialGrid, StackGrid, Sample as IsSampleKind}
use Rattle.map_meaning.specs.declared.program.OutputUse.{OutputUse}
use Rattle.map_meaning.specs.declared.program.Program.{Program}
use Rattle.map_meaning.specs.declared.program.Operand.{Operand}
use Rattle.map_meaning.specs.declared.program.Operand.TheVariants.{Unused, Literal, Time, Input, Initial, Now, Last, Drain}
use Rattle.map_meaning.specs.declared.program.Operand.TheVariants as from
use Rattle.map_meaning.specs.declared.program.Role.TheVariants.{Grid}
use Rattle.map_meaning.specs.Maps.{IsMapOf, WholeMap, nth}
use Rattle.map_meaning.specs.Programs.{IsBelowNow, IsOutputValue, IsWellFormed, is_grid_role}
use Rattle.map_meaning.specs.Spans.{at_inputs}
use Rattle.map_meaning.proofs.WholeMaps.{input_item, input_there}
use Rattle.script_types.specs.Lowered.{Shown, as_shown}
use Rattle.run_session.specs.declared.inputs.Inputs.{Inputs}
use Rattle.run_session.specs.declared.samples.Sample.{Sample}
use Rattle.run_session.specs.Samples.{Sampled, all_begun, begun, is_sample_form, sample_begun}
use Rattle.run_session.specs.inside.Outputs.{AreBegun, IsKeptFor, ids_of, SampleFits, operand_input}
use Rattle.run_session.specs.inside.Parts.{AreInputsOf}
use Rattle.run_session.specs.inside.Standings.{IsSample, sampled_of}
use Rattle.run_session.proofs.Lists.{zip_push}
use Rattle.run_session.proofs.StepReports.{output_at}

map_push : {A B : Type 0} (f : A → B) (xs : List A) (x : A) → map f (xs ++ x ∷ []) ≡ map f xs ++ f x ∷ []
map_push f [] x = refl
map_push f (y ∷ xs) x = ap (λ ys. f y ∷ ys) (map_push f xs x)

-- the time series of some outputs and one more
begun_push : (maps : List WholeMap) (shown : List Shown) (one : Shown) → all_begun maps (shown ++ one ∷ []) ≡ all_begun maps shown ++ begun maps one.form one
begun_push maps [] one = append-nil (begun maps one.form one)
begun_push maps (x ∷ shown) one = ap (λ ys. begun maps x.form x ++ ys) (begun_push maps shown one) ∙ sym (append_all (begun maps x.form x) (all_begun maps shown) (begun maps one.form one))
  where
    append_all : (xs ys zs : List Sampled) → xs ++ ys ++ zs ≡ xs ++ (ys ++ zs)
    append_all xs ys zs = append_assoc xs ys zs

module _ (places : ℕ) (uses : List InputUse) (maps : List WholeMap) (before : List OutputUse) (samples : List Sample) (output : OutputUse) (are : AreBegun places uses maps before samples) where
  abbrev is_sample : OutputUse → Bool
  is_sample o = is_sample_form o.kind

  abbrev inputs : List WholeMap
  inputs = at_inputs is_grid_role [] uses maps

  abbrev ids_by : OutputUse → WholeMap
  ids_by o = ids_of inputs o.kind

  -- one more time series
  pub sample_more : (ids : ℕ) (s : Sample) → output.kind ≡ IsSampleKind ids → sampled_of s ≡ sample_begun inputs ids (as_shown output) → IsKeptFor uses output s → IsSample places s → AreBegun places uses maps (before ++ output ∷ []) (samples ++ s ∷ [])
  sample_more ids s is seen kept sample =
      let last : filter is_sample (output ∷ []) ≡ output ∷ [] = ap (λ k. cond (is_sample_form k) (output ∷ []) []) is in
      let one : sampled_of s ∷ [] ≡ begun inputs (as_shown output).form (as_shown output) = ap (λ (x : Sampled). x ∷ []) seen ∙ ap (λ k. begun inputs k (as_shown output)) (sym is) in
      record {
        seen = map_push sampled_of samples s ∙ (ap (λ xs. xs ++ sampled_of s ∷ []) are.seen ∙ (ap (λ ys. all_begun inputs (map as_shown before) ++ ys) one ∙
            (sym (begun_push inputs (map as_shown before) (as_shown output)) ∙ ap (all_begun inputs) (sym (map_push as_shown before output)))));
        kept = subst (λ list. AllZip (IsKeptFor uses) list (samples ++ s ∷ [])) (sym (filter-append is_sample before (output ∷ []) ∙ ap (λ more. filter is_sample before ++ more) last)) (zip_push (IsKeptFor uses) (filter is_sample before) samples output s are.kept kept);
        ids_are = map_push (λ (x : Sample). x.ids) samples s ∙ (ap (λ xs. xs ++ s.ids ∷ []) are.ids_are ∙ (ap (λ x. map ids_by (filter is_sample before) ++ x ∷ []) (ap (λ (x : Sampled). x.ids) seen ∙ ap (ids_of inputs) (sym is)) ∙
            (sym (map_push ids_by (filter is_sample before) output) ∙ ap (map ids_by) (sym (filter-append is_sample before (output ∷ []) ∙ ap (λ more. filter is_sample before ++ more) last)))));
        each = All-push (IsSample places) samples s are.each sample;
      }

  -- an output that is none changes nothing
  pub other_more : is_sample_form output.kind ≡ false → AreBegun places uses maps (before ++ output ∷ []) samples
  other_more is =
      let last : filter is_sample (output ∷ []) ≡ [] = ap (λ b. cond b (output ∷ []) []) is in
      record {
        seen = are.seen ∙ (sym (append-nil (all_begun inputs (map as_shown before))) ∙ (ap (λ ys. all_begun inputs (map as_shown before) ++ ys) (sym (none output.kind is)) ∙
            (sym (begun_push inputs (map as_shown before) (as_shown output)) ∙ ap (all_begun inputs) (sym (map_push as_shown before output)))));
        kept = subst (λ list. AllZip (IsKeptFor uses) list samples) (sym (filter-append is_sample before (output ∷ []) ∙ (ap (λ more. filter is_sample before ++ more) last ∙ append-nil (filter is_sample before)))) are.kept;
        ids_are = are.ids_are ∙ ap (map ids_by) (sym (filter-append is_sample before (output ∷ []) ∙ (ap (λ more. filter is_sample before ++ more) last ∙ append-nil (filter is_sample before))));
        each = are.each;
      }
    where
      none : (k : OutputKind) → is_sample_form k ≡ false → begun inputs k (as_shown output) ≡ []
      none InitialGrid h = refl
      none StackGrid h = refl
      none (IsSampleKind ids) h = absurd (cc)

-- the number of an input is within the list
number_within : (program : Program) (v : Operand) → IsBelowNow program (length program.dynamic) v → operand_input v ≤ length program.inputs
number_within program Unused read = omega arith
number_within program (Literal kind cell) read = omega arith
number_within program Time read = omega arith
number_within program (Input k) read = omega (arith, read.within)
number_within program (from.Stack k) read = omega arith
number_within program (Initial k) read = omega arith
number_within program (Now k) read = omega arith
number_within program (Drain k) read = omega arith
number_within program (Last d i) read = omega arith

-- an output of a program that is a time series can be kept
pub sample_fits : (program : Program) (inputs : Inputs) → IsWellFormed program → AreInputsOf program.inputs inputs → (i ids : ℕ) (o : OutputUse) → slice_get program.outputs i ≡ Some o → o.kind ≡ IsSampleKind ids →
    SampleFits (inputs.frame.rows * inputs.frame.cols) program.inputs inputs.maps o ids
sample_fits program inputs formed are i ids o at is =
    let places = inputs.frame.rows * inputs.frame.cols in
    let output = output_at program formed i o at in
    let value : IsOutputValue program (IsSampleKind ids) o.value = subst (λ k. IsOutputValue program k o.value) is output.value in
    let found = input_there program Grid ids value.0.input in
    let whole : IsMapOf places found.0.kind (nth (at_inputs is_grid_role [] program.inputs inputs.maps) ids) =
    input_item is_grid_role [] (λ input m. IsMapOf places input.kind m) program.inputs inputs.maps ids found.0 are.maps found.1 (ap is_grid_role found.2) in
    record {
      grid = subst (λ x. IsSomeAnd x (λ (input : InputUse). is_grid_role input.role ≡ true)) (sym found.1) (ap is_grid_role found.2);
      within = number_within program o.value value.1;
      count = whole.count;
    }

-- an output that is no time series
pub not_sample : (k : OutputKind) → ((ids : ℕ) → k ≡ IsSampleKind ids → ⊥) → is_sample_form k ≡ false
not_sample InitialGrid other = refl
not_sample StackGrid other = refl
not_sample (IsSampleKind ids) other = absurd (other ids refl)
