-- What inputs that fit are in a program that has them.
use Rattle.std.proofs.Common.{◌≡◌, ◌<◌, ℕ, zero, suc, true, List, [], ◌∷◌, length, sym, ap, subst, ◌∙◌, arith}
use Rattle.std.specs.Prelude.{IfSome, Option, None, Some, option_map, slice_get}
use Rattle.cell_values.specs.declared.kind.Kind.{Kind}
use Rattle.map_meaning.specs.declared.program.InputUse.{InputUse}
use Rattle.map_meaning.specs.declared.program.Program.{Program}
use Rattle.map_meaning.specs.declared.program.Role.{Role}
use Rattle.map_meaning.specs.declared.program.Role.TheVariants.{Grid}
use Rattle.map_meaning.specs.Programs.{IsFileOf, IsIds, IsInput, input_kind, is_id_kind}
use Rattle.script_types.proofs.FitLemmas.{HasFile, HasIds, HasInput}

there-within : {A : Type 0} (xs : List A) (n : ℕ) (x : A) → slice_get xs n ≡ Some x → n < length xs
there-within [] n x h = absurd (let z = h in cc)
there-within (y ∷ xs) zero x h = omega arith
there-within (y ∷ xs) (suc n) x h = let k = there-within xs n x h in omega (arith, k)

-- what holds of what is there
pub at-some : {A : Type 0} (o : Option A) (P : A → Type 0) (x : A) → o ≡ Some x → P x → IfSome o P
at-some None P x e h = absurd (let z = e in cc)
at-some (Some y) P x e h = let z : y ≡ x = cc in subst P (sym z) h

pub there-input : (program : Program) (role : Role) (n : ℕ) (i : InputUse) → slice_get program.inputs n ≡ Some i → i.role ≡ role → IsInput program role n
there-input program role n i h hr = record { within = there-within program.inputs n i h; role = at-some (slice_get program.inputs n) (λ x. x.role ≡ role) i h hr }

-- an input of a role
pub input-form : (program : Program) (inputs : List InputUse) (role : Role) (kind : Kind) (n : ℕ) → program.inputs ≡ inputs → HasInput inputs role kind n → IsInput program role n
input-form program inputs role kind n e h = there-input program role n h.input (ap (λ is. slice_get is n) e ∙ h.there) h.role_is

-- its kind
pub input-form-kind : (program : Program) (inputs : List InputUse) (role : Role) (kind : Kind) (n : ℕ) → program.inputs ≡ inputs → HasInput inputs role kind n → input_kind program n ≡ Some kind
input-form-kind program inputs role kind n e h = ap (option_map (λ i. i.kind)) (ap (λ is. slice_get is n) e ∙ h.there) ∙ ap Some h.kind_is

-- a table or a series
pub file-form : (program : Program) (inputs : List InputUse) (asked : Option Role) (kind : Kind) (n : ℕ) → program.inputs ≡ inputs → HasFile inputs asked kind n → IsFileOf program asked kind n
file-form program inputs asked kind n e h = subst (λ o. IsFileOf program o kind n) (sym h.asked_is) (record { input = input-form program inputs h.role kind n e h.input; kind_is = input-form-kind program inputs h.role kind n e h.input })

-- a map of ids
pub ids-form : (program : Program) (inputs : List InputUse) (n : ℕ) → program.inputs ≡ inputs → HasIds inputs n → IsIds program n
ids-form program inputs n e h =
    let there = ap (λ is. slice_get is n) e ∙ h.there in
    record { input = there-input program Grid n h.input there h.role_is; kind = at-some (input_kind program n) (λ k. is_id_kind k ≡ true) h.input.kind (ap (option_map (λ i. i.kind)) there) h.id_kind }
