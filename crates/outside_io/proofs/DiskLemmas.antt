-- What the calls leave by which a file is written.
use Rattle.std.proofs.Common.{◌≡◌, ◌≢◌, ℕ, Bool, true, false, List, ◌++◌, refl, sym, ap, subst, cond, ◌∙◌}
use Rattle.std.proofs.lemmas.Slice.Eq.{bytes_eq-Decides}
use Rattle.std.proofs.lemmas.Map.Text.{is_eq-slice_cmp}
use Rattle.std.specs.Prelude.{None, Some, ⊤}
use Rattle.std.specs.Option.{option_map}
use Rattle.std.specs.declared.option.Option.{Option}
use Rattle.std.specs.Ordering.{is_eq, nat_cmp}
use Rattle.std.specs.Cmp.Lexicographic.{slice_cmp, nat_list_cmp_total}
use Rattle.std.specs.FinMap.{get, insert, get-insert, same_map, nat_cmp-IsAntisymmetric, slice_cmp-IsAntisymmetric}
use Rattle.outside_io.specs.State.{Files}
use Rattle.outside_io.proofs.CalmFolderLemmas.{other_name}
use Rattle.outside_io.specs.Disk.{DiskHolds, IsFileBegun, HasMoreBytes, KeepsOthers, LiesThere, PartOfFile, SameBut, with_file}

-- names of which one is not the other are told apart
other_names : (name other : List ℕ) → is_eq (slice_cmp nat_cmp other name) ≡ false → other ≢ name
other_names name other apart same = absurd (subst (λ (b : Bool). cond b ⊤ ⊥) (sym ((bytes_eq-Decides other name).1 same) ∙ (sym (is_eq-slice_cmp other name) ∙ apart)) tt)

-- files that differ in one name alone are the same once that name is set
insert_but : (old new : Files) (name bytes : List ℕ) → ((other : List ℕ) → other ≢ name → get new other ≡ get old other) → insert new name bytes ≡ insert old name bytes
insert_but old new name bytes others =
    same_map nat_list_cmp_total (slice_cmp-IsAntisymmetric nat_cmp-IsAntisymmetric) _ _
    (λ q. get-insert nat_list_cmp_total new name bytes q ∙ (chosen q (is_eq (slice_cmp nat_cmp q name)) refl ∙ sym (get-insert nat_list_cmp_total old name bytes q)))
  where
    chosen : (q : List ℕ) (b : Bool) → is_eq (slice_cmp nat_cmp q name) ≡ b → cond b (Some bytes) (get new q) ≡ cond b (Some bytes) (get old q)
    chosen q true is = refl
    chosen q false is = others q (other_names name q is)

-- two changes under one name are a change under that name
pub same_but_later : (name : List ℕ) (old mid new : Option DiskHolds) → SameBut name old mid → SameBut name mid new → SameBut name old new
same_but_later name None None new a b = b
same_but_later name None (Some m) new a b = absurd a
same_but_later name (Some o) None new a b = absurd a
same_but_later name (Some o) (Some m) None a b = absurd b
same_but_later name (Some o) (Some m) (Some n) a b = (λ other ne. b.0 other ne ∙ a.0 other ne, b.1 ∙ a.1)

-- what is done to a file that was begun under a name changes that name alone
pub begun_keeps : (name : List ℕ) (old mid new : Option DiskHolds) (part : Option PartOfFile) → IsFileBegun old name part → SameBut name old mid → KeepsOthers part mid new → SameBut name old new
begun_keeps name None None new None begun a b = subst (SameBut name None) (sym b) tt
begun_keeps name None None None (Some p) begun a b = tt
begun_keeps name None None (Some n) (Some p) begun a b = absurd b
begun_keeps name None (Some m) new part begun a b = absurd a
begun_keeps name (Some o) mid new part begun a b =
    same_but_later name (Some o) mid new a (subst (λ p. KeepsOthers p mid new) begun b)

-- a file that was given bytes keeps its name
pub given_keeps : (part more : Option PartOfFile) (bytes : List ℕ) (old mid new : Option DiskHolds) → HasMoreBytes part more bytes → KeepsOthers part old mid → KeepsOthers more mid new → KeepsOthers part old new
given_keeps None more bytes old mid new given a b = subst (λ p. KeepsOthers p mid new) given b ∙ a
given_keeps (Some p) more bytes old mid new given a b = same_but_later p.name old mid new a (subst (λ q. KeepsOthers q mid new) given b)

-- where it was begun, given bytes and closed, the disk has just these bytes under the name
pub put_whole : (name bytes : List ℕ) (old made wrote new : Option DiskHolds) (part more : Option PartOfFile) → IsFileBegun old name part → SameBut name old made → HasMoreBytes part more bytes → KeepsOthers part made wrote → LiesThere more wrote new → new ≡ with_file old name bytes
put_whole name bytes None None wrote new None more begun a given b lies = subst (λ p. LiesThere p wrote new) given lies ∙ b
put_whole name bytes None None None new (Some p) more begun a given b lies = subst (λ q. LiesThere q None new) given lies
put_whole name bytes None None (Some w) new (Some p) more begun a given b lies = absurd b
put_whole name bytes None (Some m) wrote new part more begun a given b lies = absurd a
put_whole name bytes (Some o) made wrote new part more begun a given b lies =
    lies_whole wrote (same_but_later name (Some o) made wrote a (subst (λ p. KeepsOthers p made wrote) begun b)) (subst (λ q. LiesThere q wrote new) (given ∙ ap (λ p. with_bytes p) begun) lies)
  where
    held : Files → (List ℕ → Bool) → Option DiskHolds
    held files others = Some (record { files = files; others = others })

    with_bytes : Option PartOfFile → Option PartOfFile
    with_bytes p = option_map {T = PartOfFile} (λ part. record part { bytes = part.bytes ++ bytes }) p

    lies_whole : (wrote : Option DiskHolds) → SameBut name (Some o) wrote → LiesThere (Some (record { name = name; bytes = bytes })) wrote new → new ≡ with_file (Some o) name bytes
    lies_whole None s lies = absurd s
    lies_whole (Some w) s lies =
        lies ∙ (ap (λ files. held files w.others) (insert_but o.files w.files name bytes s.0) ∙ ap (λ others. held (insert o.files name bytes) others) s.1)

-- setting a file under a name changes that name alone
pub set_keeps : (held : DiskHolds) (name bytes : List ℕ) → SameBut name (Some held) (with_file (Some held) name bytes)
set_keeps held name bytes = (λ other ne. get-insert nat_list_cmp_total held.files name bytes other ∙ ap (λ b. cond b (Some bytes) (get held.files other)) (other_name name other ne), refl)

-- the same, by what the calls that do it tell
pub set_later : (key name bytes : List ℕ) (old mid new : Option DiskHolds) (held : DiskHolds) → key ≡ name → old ≡ Some held → mid ≡ old → new ≡ with_file mid key bytes → SameBut name old new
set_later key name bytes old mid new held named is same set =
    subst (λ n. SameBut n old new) named (subst (λ h. SameBut key old h) (sym (set ∙ ap (λ h. with_file h key bytes) same)) (subst (λ h. SameBut key h (with_file h key bytes)) (sym is) (set_keeps held key bytes)))
