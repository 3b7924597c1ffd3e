use Rattle.std.proofs.Common.{◌≡◌, ℕ, zero, suc, List, [], ◌∷◌, map, None, refl, sym, ◌∙◌, ap, slice_index_or, slice_get}
use Rattle.std.specs.Option.{option_map}
use Rattle.std.proofs.lemmas.Option.{slice_get-map}
use Rattle.cell_values.specs.declared.kind.Kind.TheVariants.{Scalar}
use Rattle.map_meaning.specs.Table.{given_kind}
use Rattle.script_types.specs.Typing.{argument_kind}
use Rattle.script_types.proofs.operands.given_kind.Goals as goal

-- where a list has no element, the default stands for it
no_element : {A : Type 0} (xs : List A) (i : ℕ) (d : A) → slice_get xs i ≡ None → slice_index_or xs i d ≡ d
no_element [] i d h = refl
no_element (x ∷ xs) zero d h = cc
no_element (x ∷ xs) (suc i) d h = no_element xs i d h

pub returns-in-None : goal.returns-in-None
returns-in-None c =
    let xs = c.args.arguments.now in
    sym (ap (λ g. given_kind g c.args.agreed (map argument_kind xs)) c.in-Same.is ∙ no_element (map argument_kind xs) c.in-Same.at Scalar (slice_get-map argument_kind xs c.in-Same.at ∙ ap (option_map argument_kind) (sym c.in-None.ensures)))
