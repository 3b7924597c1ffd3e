-- Closing frames over a value, with their forms.
use Rattle.std.proofs.Common.{◌≡◌, ◌<◌, ◌≤◌, ℕ, Bool, true, false, List, [], ◌∷◌, refl, ◌∙◌, ap, arith, cond}
use Rattle.std.specs.Prelude.{nat_le}
use Rattle.std.proofs.lemmas.Bool.Decides.{nat_tests}
use Rattle.script_syntax.specs.declared.token.Token.{Token}
use Rattle.script_syntax.specs.declared.tree.Expr.{Expr}
use Rattle.script_syntax.specs.inside.Formulas.{frame_level, frame_hole, hole, top_level, closed, close}
use Rattle.script_syntax.proofs.Pieces.{Piece, piece_level, piece_on, piece_tree}
use Rattle.script_syntax.proofs.Rings.{Ring, frame_of, frames_of, rings_on, AreTight, joins, joins_is, frame_level-ring}

-- the rings that are left, and the piece that the others made of the operand
pub record Closes (k : ℕ) (rs : List Ring) (p : Piece) : Type 0 where
  pub rings : List Ring
  pub piece : Piece
  pub is : close k (piece_tree p) (frames_of rs) ≡ (piece_tree piece, frames_of rings)
  pub on : (rest : List Token) → rings_on rings (piece_on piece rest) ≡ rings_on rs (piece_on p rest)
  pub tight : AreTight rings
  pub fits : hole (frames_of rings) ≤ piece_level piece
  pub level : k ≤ piece_level piece
  pub top : top_level (frames_of rings) < k

cond_true : {A : Type 0} (b : Bool) (x y : A) → b ≡ true → cond b x y ≡ x
cond_true true x y e = refl
cond_true false x y e = absurd cc

cond_false : {A : Type 0} (b : Bool) (x y : A) → b ≡ false → cond b x y ≡ y
cond_false true x y e = absurd cc
cond_false false x y e = refl

level_above : (k n : ℕ) → nat_le k n ≡ true → k ≤ n
level_above k n e = grind (arith, nat_tests)

level_below : (k n : ℕ) → nat_le k n ≡ false → n < k
level_below k n e = grind (arith, nat_tests)

-- the innermost ring stays
stays : (k : ℕ) (r : Ring) (rs : List Ring) (p : Piece) → AreTight (r ∷ rs) → frame_hole (frame_of r) ≤ piece_level p → k ≤ piece_level p → nat_le k (frame_level (frame_of r)) ≡ false → Closes k (r ∷ rs) p
stays k r rs p t h l e = record {
  rings = r ∷ rs;
  piece = p;
  is = cond_false (nat_le k (frame_level (frame_of r))) (close k (closed (frame_of r) (piece_tree p)) (frames_of rs)) (piece_tree p, frames_of (r ∷ rs)) e;
  on = λ rest. refl;
  tight = t;
  fits = h;
  level = l;
  top = level_below k (frame_level (frame_of r)) e;
}

-- the innermost ring is closed, and then what is around it
goes : (k : ℕ) (r : Ring) (rs : List Ring) (p : Piece) → 0 < k → AreTight (r ∷ rs) → frame_hole (frame_of r) ≤ piece_level p → nat_le k (frame_level (frame_of r)) ≡ true → ((q : Piece) → hole (frames_of rs) ≤ piece_level q → k ≤ piece_level q → Closes k rs q) → Closes k (r ∷ rs) p
goes k r rs p some t h e next =
    let high : k ≤ frame_level (frame_of r) = level_above k (frame_level (frame_of r)) e in
    let above : 0 < frame_level (frame_of r) = omega arith in
    let j = joins_is r p above h in
    let same = frame_level-ring r above in
    let fits : hole (frames_of rs) ≤ piece_level (joins r p) = omega (arith, j.level, t.0) in
    let level : k ≤ piece_level (joins r p) = omega (arith, j.level, same) in
    let c = next (joins r p) fits level in
    record {
      rings = c.rings;
      piece = c.piece;
      is = cond_true (nat_le k (frame_level (frame_of r))) (close k (closed (frame_of r) (piece_tree p)) (frames_of rs)) (piece_tree p, frames_of (r ∷ rs)) e
          ∙ (ap (λ (v : Expr). close k v (frames_of rs)) j.tree ∙ c.is);
      on = λ rest. c.on rest ∙ ap (rings_on rs) (j.on rest);
      tight = c.tight;
      fits = c.fits;
      level = c.level;
      top = c.top;
    }

pub closes : (k : ℕ) (rs : List Ring) (p : Piece) → 0 < k → AreTight rs → hole (frames_of rs) ≤ piece_level p → k ≤ piece_level p → Closes k rs p
closes k [] p some t h l = record { rings = []; piece = p; is = refl; on = λ rest. refl; tight = t; fits = h; level = l; top = some }
closes k (r ∷ rs) p some t h l = by_test k r rs p some t h l (nat_le k (frame_level (frame_of r))) refl (λ q fits level. closes k rs q some t.1 fits level)
  where
    by_test : (k : ℕ) (r : Ring) (rs : List Ring) (p : Piece) → 0 < k → AreTight (r ∷ rs) → frame_hole (frame_of r) ≤ piece_level p → k ≤ piece_level p → (b : Bool) → nat_le k (frame_level (frame_of r)) ≡ b → ((q : Piece) → hole (frames_of rs) ≤ piece_level q → k ≤ piece_level q → Closes k rs q) → Closes k (r ∷ rs) p
    by_test k r rs p some t h l true e next = goes k r rs p some t h e next
    by_test k r rs p some t h l false e next = stays k r rs p t h l e
