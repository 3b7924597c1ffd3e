-- That the operations which are written of a drain map compute what it comes from, and are well formed.
use Rattle.std.proofs.Common.{◌≡◌, inl, inr, ℕ, zero, suc, ◌-◌, ◌<◌, true, List, [], ◌∷◌, length, map, refl, sym, ap, subst, ◌∙◌, Ok, Err, Result}
use Rattle.std.specs.Prelude.{Some, slice_index_or}
use Rattle.std.specs.List.{list_all}
use Rattle.text_base.specs.Results.{◌>>=◌}
use Rattle.cell_values.specs.declared.kind.Kind.{Kind}
use Rattle.cell_values.specs.declared.kind.Kind.TheVariants.{Boolean, Ldd}
use Rattle.map_meaning.specs.declared.known.OverAt.{OverAt}
use Rattle.map_meaning.specs.declared.program.DrainFrom.TheVariants as drain
use Rattle.map_meaning.specs.declared.program.Operand.{Operand}
use Rattle.map_meaning.specs.declared.program.Operand.TheVariants as from
use Rattle.map_meaning.specs.declared.program.Operation.{Operation}
use Rattle.map_meaning.specs.declared.program.Program.{Program}
use Rattle.map_meaning.specs.declared.tree.Tree.{Tree, out-Tree, out-roll-Tree}
use Rattle.map_meaning.specs.declared.tree.Tree.TheVariants as tree
use Rattle.map_meaning.specs.declared.tree.Tree.TheOpen.{Tree-F}
use Rattle.map_meaning.specs.Evaluation.{Done, operand_map, operation_values}
use Rattle.map_meaning.specs.Maps.{nth}
use Rattle.map_meaning.specs.Programs.{IsBelow, operand_kind}
use Rattle.map_meaning.specs.Scenes.{Scene, masked_map}
use Rattle.map_meaning.specs.Trees.{TreeMeaning, meaning_of}
use Rattle.map_meaning.proofs.Callers.{meaning_of-Mask}
use Rattle.script_types.specs.declared.typed.Section.{Section}
use Rattle.script_types.specs.declared.typed.Section.TheVariants.{Initial}
use Rattle.script_types.specs.inside.Drains.{IsDrainBelow, drain_named}
use Rattle.script_types.specs.inside.Fits.{Ground, SideFits, fits}
use Rattle.script_types.specs.inside.Sections.{Holder, Stands, span_in}
use Rattle.script_types.specs.inside.Sound.{are_mask_kinds, is_sound}
use Rattle.script_types.specs.inside.Values.{AreDrainOperands, AreGiven, Emits, EmitsAll, EmitsDrain}
use Rattle.script_types.proofs.FitLemmas.{fits-mask-is}
use Rattle.script_types.proofs.NodeLemmas.{mask-is-sound}
use Rattle.script_types.proofs.SectionLemmas.{drain-is}
use Rattle.script_types.proofs.SoundLemmas.{kind-of}
use Rattle.script_types.proofs.TreeCounts.{none-more}

bind-same : {A B : Type 0} (r : Result A OverAt) (f g : A → Result B OverAt) → ((x : A) → f x ≡ g x) → (r >>= f) ≡ (r >>= g)
bind-same (Ok x) f g h = h x
bind-same (Err e) f g h = refl

-- ---- the same drain map

-- an expression that is a drain map
pub emits-same : (s : Section) (g : Ground) (holder : Holder) (old new : List Operation) (statement first : ℕ) (t : Tree) (x : Operand) → Emits s g holder old new statement first t x → EmitsDrain s g holder old new statement first t (drain.Same (drain_named x))
emits-same s g holder old new statement first t x e = record {
  added = e.added;
  appended = e.appended;
  count = e.count;
  value = λ sound ldd program scene step names done st n h.
      e.value sound program scene step names done st n h ∙ bind-same (operation_values program scene (span_in s program step) done e.added) _ _ (λ after. ap (λ y. Ok (operand_map scene after y)) (drain-is st.around.drains x (subst (λ k. IsDrainBelow st.around.drains k x) ldd (e.drain program st))).0);
  formed = λ sound ldd initial program st. ((drain-is st.around.drains x (subst (λ k. IsDrainBelow st.around.drains k x) ldd (e.drain program st))).1, (e.formed sound program st).1);
}

-- ---- a mask

-- its operands: a drain map and a boolean
record IsMasking (m : ℕ) (program : Program) (n : ℕ) (xs : List Operand) : Type 0 where
  of_is : slice_index_or xs 0 from.Unused ≡ from.Drain (drain_named (slice_index_or xs 0 from.Unused))
  below : drain_named (slice_index_or xs 0 from.Unused) < m
  by_kind : operand_kind program (slice_index_or xs 1 from.Unused) ≡ Some Boolean

mask-kinds : (ks : List Kind) → are_mask_kinds ks ≡ true → ks ≡ Ldd ∷ Boolean ∷ []
mask-kinds (Ldd ∷ Boolean ∷ []) h = refl
mask-kinds _ h = absurd (let z = h in cc)

kinds-twice : (ts : List Tree) → map (λ (m : TreeMeaning). m.kind) (map meaning_of ts) ≡ map kind-of ts
kinds-twice [] = refl
kinds-twice (t ∷ ts) = ap (λ ks. kind-of t ∷ ks) (kinds-twice ts)

masking : (m : ℕ) (program : Program) (n : ℕ) (xs : List Operand) (ks : List Kind) → ks ≡ Ldd ∷ Boolean ∷ [] → AreDrainOperands m ks xs → map (operand_kind program) xs ≡ map Some ks → IsMasking m program n xs
masking m program n xs ks e a h = two xs (subst (λ js. AreDrainOperands m js xs) e a) (h ∙ ap (map Some) e)
  where
    two : (xs : List Operand) → AreDrainOperands m (Ldd ∷ Boolean ∷ []) xs → map (operand_kind program) xs ≡ Some Ldd ∷ Some Boolean ∷ [] → IsMasking m program n xs
    two [] a h = absurd (let z = h in cc)
    two (x ∷ []) a h = absurd (let z = h in cc)
    two (x ∷ y ∷ ys) a h = let d = drain-is m x a.0 in record { of_is = d.0; below = d.1; by_kind = (let k : operand_kind program y ≡ Some Boolean = cc in k) }

second-given : (program : Program) (s : Section) (n : ℕ) (xs : List Operand) → s ≡ Initial → AreGiven program s n xs → IsBelow program n (slice_index_or xs 1 from.Unused)
second-given program s n xs e a = at-second xs (subst (λ u. AreGiven program u n xs) e a)
  where
    at-second : (xs : List Operand) → AreGiven program Initial n xs → IsBelow program n (slice_index_or xs 1 from.Unused)
    at-second [] a = tt
    at-second (x ∷ []) a = tt
    at-second (x ∷ y ∷ ys) a = a.1.0.read

nth-map : (scene : Scene) (done : Done) (xs : List Operand) (i : ℕ) → nth (map (operand_map scene done) xs) i ≡ operand_map scene done (slice_index_or xs i from.Unused)
nth-map scene done [] i = refl
nth-map scene done (x ∷ xs) zero = refl
nth-map scene done (x ∷ xs) (suc i) = nth-map scene done xs i

mask-value : (scene : Scene) (r : Result Done OverAt) (xs : List Operand) (d : ℕ) → slice_index_or xs 0 from.Unused ≡ from.Drain d → ((r >>= λ after. Ok (map (operand_map scene after) xs)) >>= λ maps. Ok (masked_map scene (nth maps 0) (nth maps 1))) ≡ (r >>= λ after. Ok (masked_map scene (nth after.drains d) (operand_map scene after (slice_index_or xs 1 from.Unused))))
mask-value scene (Err e) xs d h = refl
mask-value scene (Ok after) xs d h = ap (λ m. Ok (masked_map scene m (nth (map (operand_map scene after) xs) 1))) (nth-map scene after xs 0 ∙ ap (operand_map scene after) h) ∙ ap (λ m. Ok (masked_map scene (nth after.drains d) m)) (nth-map scene after xs 1)

-- a drain map and its mask
pub emits-mask : (s : Section) (g : Ground) (holder : Holder) (old new : List Operation) (statement first : ℕ) (t : Tree) (args : List Tree) (xs : List Operand) → t ≡ tree.Mask args → EmitsAll s g holder old new statement first args xs → EmitsDrain s g holder old new statement first t (drain.Mask (drain_named (slice_index_or xs 0 from.Unused)) (slice_index_or xs 1 from.Unused))
emits-mask s g holder old new statement first t args xs ht a = record {
  added = a.added;
  appended = a.appended;
  count = a.count ∙ sym (ap (λ u. (meaning_of u).operations) ht ∙ none-more args);
  value = λ sound ldd program scene step names done st n h.
      let m = is-masking sound program st in
      ap (λ (w : TreeMeaning). w.value (record { scene = scene; names = names; statement = statement }) (length old - first)) (ap meaning_of ht ∙ meaning_of-Mask args)
      ∙ ap (λ r. r >>= λ maps. Ok (masked_map scene (nth maps 0) (nth maps 1))) (a.values (mask-is-sound t args ht sound).operands program scene step names done st n h)
      ∙ mask-value scene (operation_values program scene (span_in s program step) done a.added) xs (drain_named (slice_index_or xs 0 from.Unused)) m.of_is;
  formed = λ sound ldd initial program st.
      let m = is-masking sound program st in
      let f = a.formed (mask-is-sound t args ht sound).operands program st in
      ((m.below, second-given program s (length new) xs initial f.0, m.by_kind), f.1);
}
  where
    is-masking : is_sound t ≡ true → (program : Program) (st : Stands s g holder first new program) → IsMasking st.around.drains program (length new) xs
    is-masking sound program st = masking st.around.drains program (length new) xs (map (λ (m : TreeMeaning). m.kind) (map meaning_of args)) (kinds-twice args ∙ mask-kinds (map kind-of args) (mask-is-sound t args ht sound).kinds) (a.drains program st) (a.kinds program st)

-- ---- by the right side

opened : (xs : List Tree) → out-Tree (tree.Mask xs) ≡ Tree-F.Mask xs
opened xs = ap out-Tree (sym (tree.rolls-Mask xs)) ∙ out-roll-Tree (Tree-F.Mask xs)

same-mask : (xs ys : List Tree) → tree.Mask xs ≡ tree.Mask ys → xs ≡ ys
same-mask xs ys h = let e : Tree-F.Mask xs ≡ Tree-F.Mask ys = sym (opened xs) ∙ ap out-Tree h ∙ opened ys in cc

-- the operands of a mask fit
pub mask-fits : (g : Ground) (t : Tree) (args : List Tree) → t ≡ tree.Mask args → SideFits g t → list_all (fits g) args ≡ true
mask-fits g t args h (inl f) = let z = sym (ap (fits g) h ∙ fits-mask-is g args) ∙ f in cc
mask-fits g t args h (inr m) = ap (list_all (fits g)) (same-mask args m.operands (sym h ∙ m.is)) ∙ m.fit
