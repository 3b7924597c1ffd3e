-- What an answer says of a value, through the steps of a loop.
use Rattle.std.proofs.Common.{◌≡◌, List, [], ◌∷◌, Result, Ok, Err, sym, ◌∙◌, ap, subst}
use Rattle.std.specs.Result.{IsErr, IsErrAnd}
use Rattle.script_types.specs.declared.fault.MeaningKind.{MeaningKind}
use Rattle.script_types.specs.declared.end.KindEnd.{KindEnd}
use Rattle.script_types.specs.declared.end.KindEnd.TheVariants.{Meaning, Memory}
use Rattle.text_base.specs.Results.{◌>>=◌}
use Rattle.script_types.specs.inside.Scopes.{GivesKind}
use Rattle.script_types.proofs.Fronts.{with_front, front_stop, front_end}

-- an answer gives an equal value too
pub gives_same : {A : Type 0} (r : Result A KindEnd) {a b : Result A MeaningKind} → a ≡ b → GivesKind r a → GivesKind r b
gives_same r e h = subst (λ v. GivesKind r v) e h

-- The next of them is a fault.
pub gives_stop : {A B : Type 0} (end : KindEnd) (xs : List A) (r : Result A MeaningKind) (rs total : Result (List A) MeaningKind) (k : List A → Result B MeaningKind) → GivesKind {A = A} (Err end) r → with_front xs (r >>= λ y. rs >>= λ ys. Ok (y ∷ ys)) ≡ total → GivesKind {A = B} (Err end) (total >>= k)
gives_stop (Meaning m) xs r rs total k h e = ap (λ q. q >>= k) (sym e ∙ front_stop xs m r rs h)
gives_stop Memory xs r rs total k h e = tt

-- Nothing is left.
pub gives_end : {A B : Type 0} (r : Result B KindEnd) (xs : List A) (total : Result (List A) MeaningKind) (k : List A → Result B MeaningKind) → with_front xs (Ok []) ≡ total → GivesKind r (k xs) → GivesKind r (total >>= k)
gives_end r xs total k e h = subst (λ q. GivesKind r (q >>= k)) (sym (front_end xs) ∙ e) h

-- A fault is handed on as it is.
pub handed_on : {A : Type 0} (r : Result A KindEnd) (e : KindEnd) (v : Result A MeaningKind) → IsErr r × IsErrAnd r (λ x. x ≡ e) → GivesKind {A = A} (Err e) v → GivesKind r v
handed_on (Err x) e v h k = subst (λ q. GivesKind (Err q) v) (sym h.1) k
handed_on (Ok y) e v h k = absurd h.1
