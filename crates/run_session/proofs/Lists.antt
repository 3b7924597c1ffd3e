-- Lists of inputs, maps and outputs.
use Rattle.std.proofs.lemmas.List.{get_or_default}
use Rattle.std.proofs.Common.{zero, suc, length-append, map, set, ◌≡◌, ℕ, ◌+◌, ◌<◌, ◌≤◌, Bool, true, false, List, [], ◌∷◌, ◌++◌, length, get_or, drop, take, sym, refl, ap, subst, ◌∙◌, add-one, drop-cons, arith, cond}
use Rattle.std.proofs.lemmas.Grind.{take_at_read}
use Rattle.std.proofs.lemmas.List.{append-nil}
use Rattle.std.proofs.lemmas.List.Elements.{filter-append}
use Rattle.std.specs.Prelude.{None, Option, Some, IfSome, slice_get}
use Rattle.std.specs.Option.{unwrap_or}
use Rattle.std.proofs.lemmas.Option.{unwrap_or-slice_get}
use Rattle.cell_values.specs.declared.cell.Cell.TheVariants.{Mv}
use Rattle.tile_map.specs.Cuts.{cell_at}
use Rattle.std.specs.List.{AllZip, filter}
use Rattle.cell_values.specs.declared.kind.Kind.TheVariants.{Scalar}
use Rattle.map_meaning.specs.declared.program.InputUse.{InputUse}
use Rattle.map_meaning.specs.declared.program.Role.{Role}
use Rattle.map_meaning.specs.declared.program.Role.TheVariants.{Grid}
use Rattle.map_meaning.specs.Maps.{WholeMap, nth}
use Rattle.map_meaning.specs.Spans.{AreOfInputs}
use Rattle.run_session.specs.Course.{numbered_input}
use Rattle.run_session.specs.declared.drains.Source.{Source}
use Rattle.run_session.specs.declared.frame.Frame.{Frame}
use Rattle.run_session.specs.inside.Parts.{HasAreaMap, IsSource}

-- the item at the loop's index stands in front of those that are left
pub item_here : {A : Type 0} (items : List A) (i : ℕ) (a : A) → i < length items → a ≡ get_or items i a → drop i items ≡ a ∷ drop (i + 1) items
item_here items i a below is = drop-cons items i a below ∙ (ap (λ b. b ∷ drop (suc i) items) (sym is) ∙ ap (λ k. a ∷ drop k items) (sym (add-one i)))

-- the items up to the loop's index end with it
pub taken_here : {A : Type 0} (items : List A) (i : ℕ) (a : A) → i < length items → a ≡ get_or items i a → take (i + 1) items ≡ take i items ++ a ∷ []
taken_here items i a below is = (take_at_read items i a below).1 ∙ ap (λ b. take i items ++ b ∷ []) (sym is)

-- one more item
pub one_more : {A : Type 0} (items : List A) (a : A) → length (items ++ a ∷ []) ≡ length items + 1
one_more items a = omega (arith, length-append items (a ∷ []))

-- an item within the list is what it gives
pub got : {A : Type 0} (items : List A) (i : ℕ) (a : A) → i < length items → a ≡ get_or items i a → slice_get items i ≡ Some a
got [] i a below is = absurd (omega (arith, below))
got (x ∷ items) zero a below is = ap Some (sym is)
got (x ∷ items) (suc i) a below is = got items i a (omega (arith, below)) is

-- all items were taken
pub all_taken : {A : Type 0} (items : List A) (i : ℕ) → length items ≤ i → take i items ≡ items
all_taken [] zero above = refl
all_taken [] (suc i) above = refl
all_taken (x ∷ items) zero above = absurd (omega (arith, above))
all_taken (x ∷ items) (suc i) above = ap (λ xs. x ∷ xs) (all_taken items i (omega (arith, above)))

-- no map where there is none
pub none_at : (maps : List WholeMap) (i place : ℕ) → slice_get maps i ≡ None → Mv ≡ cell_at (nth maps i) place
none_at maps i place is =
    let empty : WholeMap = [] in
    let same : empty ≡ nth maps i = ap (λ (o : Option WholeMap). unwrap_or o []) (sym is) ∙ unwrap_or-slice_get maps i [] in
    ap (λ m. cell_at m place) same

-- the items before a place are changed, and then the one at it
changed_here : {A : Type 0} (f : A → A) (old : List A) (i : ℕ) (x : A) → i < length old → x ≡ get_or (map f (take i old) ++ drop i old) i x →
    set (map f (take i old) ++ drop i old) i (f x) ≡ map f (take (i + 1) old) ++ drop (i + 1) old
changed_here f [] i x below is = absurd (omega (arith, below))
changed_here f (y ∷ ys) zero x below is = ap (λ z. f z ∷ ys) is
changed_here f (y ∷ ys) (suc i) x below is =
    let e : suc (i + 1) ≡ suc i + 1 = omega arith in
    ap (λ xs. f y ∷ xs) (changed_here f ys i x (omega (arith, below)) is) ∙ ap (λ k. map f (take k (y ∷ ys)) ++ drop k (y ∷ ys)) e

-- one more item is changed
pub mapped_set : {A : Type 0} (f : A → A) (old items : List A) (i : ℕ) (x : A) → i < length old → x ≡ get_or items i x → items ≡ map f (take i old) ++ drop i old →
    set items i (f x) ≡ map f (take (i + 1) old) ++ drop (i + 1) old
mapped_set f old items i x below is same =
    ap (λ xs. set xs i (f x)) same ∙ changed_here f old i x below (is ∙ ap (λ xs. get_or xs i x) same)

-- an input within the list is the one with its number
pub numbered : (list : List InputUse) (number : ℕ) (input : InputUse) → number < length list → input ≡ get_or list number input → input ≡ numbered_input list number
numbered list number input below is = is ∙ get_or_default list number input (record { file = []; role = Grid; kind = Scalar }) below

-- this is what the input with this number is
pub has_area : (frame : Frame) (number : ℕ) (list : List InputUse) (input : InputUse) (area : Source) → slice_get list number ≡ Some input → IsSource frame input area → HasAreaMap frame number list area
has_area frame number list input area is whole = subst (λ found. IfSome found (λ input. IsSource frame input area)) (sym is) whole

-- ---- what the inputs of a role give

pub zip_push : {A B : Type 0} (R : A → B → Type 0) (xs : List A) (ys : List B) (x : A) (y : B) → AllZip R xs ys → R x y → AllZip R (xs ++ x ∷ []) (ys ++ y ∷ [])
zip_push R [] [] x y all one = (one, tt)
zip_push R [] (b ∷ ys) x y all one = absurd all
zip_push R (a ∷ xs) [] x y all one = absurd all
zip_push R (a ∷ xs) (b ∷ ys) x y all one = (all.0, zip_push R xs ys x y all.1 one)

module _ {X : Type 0} (has : Role → Bool) (Suits : InputUse → X → Type 0) (list : List InputUse) (items : List X) (input : InputUse) where
  abbrev of_role : InputUse → Bool
  of_role input = has input.role

  -- one more input of the role has its item
  pub role_more : (item : X) → has input.role ≡ true → Suits input item → AreOfInputs has Suits list items → AreOfInputs has Suits (list ++ input ∷ []) (items ++ item ∷ [])
  role_more item is one all =
      let last : filter of_role (input ∷ []) ≡ input ∷ [] = ap (λ b. cond b (input ∷ []) []) is in
      subst (λ inputs. AllZip Suits inputs (items ++ item ∷ [])) (sym (filter-append of_role list (input ∷ []) ∙ ap (λ more. filter of_role list ++ more) last)) (zip_push Suits (filter of_role list) items input item all one)

  -- one more input of another role changes nothing
  pub role_same : has input.role ≡ false → AreOfInputs has Suits list items → AreOfInputs has Suits (list ++ input ∷ []) items
  role_same is all =
      let last : filter of_role (input ∷ []) ≡ [] = ap (λ b. cond b (input ∷ []) []) is in
      subst (λ inputs. AllZip Suits inputs items) (sym (filter-append of_role list (input ∷ []) ∙ (ap (λ more. filter of_role list ++ more) last ∙ append-nil (filter of_role list)))) all
