use Rattle.std.proofs.Common.{◌≡◌, ℕ, List, ◌∷◌, true, false, ap, sym, subst, cond, ◌∙◌}
use Rattle.std.proofs.lemmas.Map.Text.{is_eq-slice_cmp}
use Rattle.std.specs.Prelude.{Some, bytes_eq}
use Rattle.std.specs.Ordering.{nat_cmp}
use Rattle.std.specs.Cmp.Lexicographic.{slice_cmp, nat_list_cmp_total}
use Rattle.std.specs.FinMap.{find, get-from_entries}
use Rattle.outside_io.specs.State.{PutPair}
use Rattle.outside_io.specs.CalmFolder.{pairs}
use Rattle.outside_io.proofs.calm_folder.find_bytes.Goals as goal

-- the first write has the name
hit : (name key bytes : List ℕ) (rest : List PutPair) → true ≡ bytes_eq name key → find (slice_cmp nat_cmp) name ((key, bytes) ∷ rest) ≡ Some bytes
hit name key bytes rest e = ap (λ b. cond b (Some bytes) (find (slice_cmp nat_cmp) name rest)) (is_eq-slice_cmp name key ∙ sym e)

-- the first write has another name
miss : (name key bytes : List ℕ) (rest : List PutPair) → false ≡ bytes_eq name key → find (slice_cmp nat_cmp) name ((key, bytes) ∷ rest) ≡ find (slice_cmp nat_cmp) name rest
miss name key bytes rest e = ap (λ b. cond b (Some bytes) (find (slice_cmp nat_cmp) name rest)) (is_eq-slice_cmp name key ∙ sym e)

pub loop-held-init : goal.loop-held-init
loop-held-init c = get-from_entries nat_list_cmp_total _ _ ∙ ap (λ helds. find (slice_cmp nat_cmp) c.args.name.now (pairs helds)) (sym c.into_iter-held-iterator.ensures.into_iter_gives.0)

pub returns-then-eq : goal.returns-then-eq
returns-then-eq c =
    let first = c.in-Some.held.now in
    ap Some c.as_slice-then-eq.ensures.value
    ∙ sym (c.loop-held.invariant ∙ (ap (λ helds. find (slice_cmp nat_cmp) c.args.name.now (pairs helds)) c.in-Some.ensures.steps
    ∙ hit c.args.name.now first.name.items first.bytes.items _ (subst (λ key. true ≡ bytes_eq c.args.name.now key) c.as_slice.ensures.value c.if-eq.ensures)))

pub loop-held-preserved : goal.loop-held-preserved
loop-held-preserved c =
    let first = c.in-Some.held.now in
    c.loop-held.invariant
    ∙ (ap (λ helds. find (slice_cmp nat_cmp) c.args.name.now (pairs helds)) c.in-Some.ensures.steps
    ∙ miss c.args.name.now first.name.items first.bytes.items _ (subst (λ key. false ≡ bytes_eq c.args.name.now key) c.as_slice.ensures.value c.if-eq.ensures))
