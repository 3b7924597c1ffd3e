-- A write under one name leaves the files under all others.
use Rattle.std.proofs.Common.{◌≡◌, ◌≢◌, ℕ, List, ◌∷◌, false, ap, sym, subst, cond, ◌∙◌}
use Rattle.std.proofs.lemmas.Bool.{false_from_ne_true}
use Rattle.std.proofs.lemmas.Slice.Eq.{bytes_eq-Decides}
use Rattle.std.proofs.lemmas.Map.Text.{is_eq-slice_cmp}
use Rattle.std.specs.Prelude.{Some, Ok, Err, Result, MatchResult, IsErrAnd}
use Rattle.std.specs.Ordering.{is_eq, nat_cmp}
use Rattle.std.specs.Cmp.Lexicographic.{slice_cmp, nat_list_cmp_total}
use Rattle.std.specs.FinMap.{get, insert, get-insert}
use Rattle.outside_io.specs.State.{Files, FolderState, SameOthers, IsNotPut}
use Rattle.outside_io.specs.Refusals.{PutRefused}
use Rattle.outside_io.specs.CalmFolder.{held_files}
use Rattle.outside_io.specs.declared.calm_folder.Held.{Held}
use Rattle.outside_io.specs.declared.folder.PutEnd.{PutEnd}
use Rattle.outside_io.specs.declared.folder.PutEnd.TheVariants.{Memory}

-- the order of names tells apart what differs
pub other_name : (name other : List ℕ) → other ≢ name → is_eq (slice_cmp nat_cmp other name) ≡ false
other_name name other ne = is_eq-slice_cmp other name ∙ false_from_ne_true _ (λ e. ne ((bytes_eq-Decides other name).0 e))

same_others-insert : (files : Files) (name bytes : List ℕ) → SameOthers name (Some files) (Some (insert files name bytes))
same_others-insert files name bytes other ne =
    get-insert nat_list_cmp_total files name bytes other ∙ ap (λ b. cond b (Some bytes) (get files other)) (other_name name other ne)

-- one more write under that name
pub same_others-held : (file : Held) (rest new : List Held) (name : List ℕ) → file.name.items ≡ name → new ≡ file ∷ rest → SameOthers name (Some (held_files rest)) (Some (held_files new))
same_others-held file rest new name is front =
    subst (λ files. SameOthers name (Some (held_files rest)) (Some (held_files files))) (sym front)
    (subst (λ key. SameOthers key (Some (held_files rest)) (Some (insert (held_files rest) file.name.items file.bytes.items))) is (same_others-insert (held_files rest) file.name.items file.bytes.items))

-- want of memory, by what it leaves
pub no_memory : {T : Type 0} (Done : T → Type 0) (result : Result T PutEnd) (old new : FolderState) (name : List ℕ) → IsErrAnd result (λ end. end ≡ Memory) → IsNotPut old new name → MatchResult result Done (PutRefused old new name)
no_memory Done (Ok x) old new name is left = absurd is
no_memory Done (Err end) old new name is left = subst (PutRefused old new name) (sym is) left
