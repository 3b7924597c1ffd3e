-- That settled statements stand in the order of their sections, one for each statement of the script.
use Rattle.std.proofs.Common.{◌≡◌, ℕ, suc, ◌+◌, Bool, true, false, List, [], ◌∷◌, ◌++◌, length, refl, sym, ap, subst, ◌∙◌, Ok, append_assoc, append-nil, if◌then◌else◌}
use Rattle.script_syntax.specs.declared.tree.Script.{Script}
use Rattle.script_syntax.specs.declared.tree.Statement.{Statement}
use Rattle.script_types.specs.declared.fault.Place.TheVariants as place
use Rattle.script_types.specs.declared.typed.Line.{Line}
use Rattle.script_types.specs.declared.typed.Section.{Section}
use Rattle.script_types.specs.declared.typed.Section.TheVariants.{Initial, Dynamic}
use Rattle.script_types.specs.Lowered.{lines_in}
use Rattle.script_types.specs.Meaning.{meaning}
use Rattle.script_types.specs.Statements.{all_lines, counts, is_in, line_read, lines_below, next_line, scope_at}
use Rattle.script_types.specs.Typing.{Scope}
use Rattle.script_types.specs.inside.FitLines.{Frame, LinesFit}
use Rattle.script_types.proofs.FitNodes.{value-before}
use Rattle.script_types.proofs.Pairwise.{Each}
use Rattle.script_types.proofs.SettledFits.{has-lines, line-parts, told-ok}

-- ---- one section

-- a settled statement has its scope's section
pub line-section : (s : Scope) (before : ℕ) (st : Statement) (l : Line) → line_read s before st ≡ Ok l → l.section ≡ s.section
line-section s before st l h = ap (λ (x : Line). x.section) (line-parts s before st l h).is

-- these lines of a section follow on those, one for each statement
pub record FollowIn (section : Section) (above lines : List Line) (count : ℕ) : Type 0 where
  pub rest : List Line
  pub split : lines ≡ above ++ rest
  pub within : Each (λ (l : Line). l.section ≡ section) rest
  pub many : length rest ≡ count

pub follow-in : (script : Script) (section : Section) (above lines : List Line) (ss : List Statement) → lines_below script section above ss ≡ Ok lines → FollowIn section above lines (length ss)
follow-in script section above lines [] h = let z : above ≡ lines = cc in record { rest = []; split = sym z ∙ sym (append-nil above); within = tt; many = refl }
follow-in script section above lines (s ∷ ss) h =
    let b = value-before (next_line script section above s) (λ l. lines_below script section (above ++ l ∷ []) ss) lines h in
    let read = told-ok (place.Statement (length above + 1)) (line_read (scope_at script section above) (counts section above) s) b.0 b.1 in
    let i = follow-in script section (above ++ b.0 ∷ []) lines ss b.2 in
    record {
      rest = b.0 ∷ i.rest;
      split = i.split ∙ append_assoc above (b.0 ∷ []) i.rest;
      within = (line-section (scope_at script section above) (counts section above) s b.0 read, i.within);
      many = ap suc i.many;
    }

-- ---- the lines of a section among all

take-step : (b : Bool) (l : Line) (xs ys : List Line) → b ≡ true → xs ≡ ys → (if b then l ∷ xs else xs) ≡ l ∷ ys
take-step true l xs ys hb h = ap (λ zs. l ∷ zs) h
take-step false l xs ys hb h = cc

pass-step : (b : Bool) (l : Line) (xs ys : List Line) → b ≡ false → xs ≡ ys → (if b then l ∷ xs else xs) ≡ ys
pass-step true l xs ys hb h = cc
pass-step false l xs ys hb h = h

section-itself : (section : Section) → is_in section section ≡ true
section-itself Initial = refl
section-itself Dynamic = refl

-- all statements of a section stand in it
all-in : (section : Section) (lines more : List Line) → Each (λ (l : Line). l.section ≡ section) lines → lines_in section (lines ++ more) ≡ lines ++ lines_in section more
all-in section [] more h = refl
all-in section (l ∷ ls) more h = take-step (is_in section l.section) l (lines_in section (ls ++ more)) (ls ++ lines_in section more) (ap (is_in section) h.0 ∙ section-itself section) (all-in section ls more h.1)

-- and none in the other
none-in : (section other : Section) (lines more : List Line) → is_in section other ≡ false → Each (λ (l : Line). l.section ≡ other) lines → lines_in section (lines ++ more) ≡ lines_in section more
none-in section other [] more hn h = refl
none-in section other (l ∷ ls) more hn h = pass-step (is_in section l.section) l (lines_in section (ls ++ more)) (lines_in section more) (ap (is_in section) h.0 ∙ hn) (none-in section other ls more hn h.1)

-- the lines stand in the order of their sections, as many as the statements
pub record HaveOrder (script : Script) (lines : List Line) : Type 0 where
  pub split : lines ≡ lines_in Initial lines ++ lines_in Dynamic lines
  pub in_initial : length (lines_in Initial lines) ≡ length script.initial
  pub in_dynamic : length (lines_in Dynamic lines) ≡ length script.dynamic

order-of : (script : Script) (lines xs ys : List Line) → lines ≡ xs ++ ys → Each (λ (l : Line). l.section ≡ Initial) xs → Each (λ (l : Line). l.section ≡ Dynamic) ys → length xs ≡ length script.initial → length ys ≡ length script.dynamic → HaveOrder script lines
order-of script lines xs ys e hx hy nx ny =
    let first : lines_in Initial lines ≡ xs = ap (lines_in Initial) e ∙ all-in Initial xs ys hx ∙ ap (λ zs. xs ++ zs) (ap (lines_in Initial) (sym (append-nil ys)) ∙ none-in Initial Dynamic ys [] refl hy) ∙ append-nil xs in
    let second : lines_in Dynamic lines ≡ ys = ap (lines_in Dynamic) e ∙ none-in Dynamic Initial xs ys refl hx ∙ ap (lines_in Dynamic) (sym (append-nil ys)) ∙ all-in Dynamic ys [] hy ∙ append-nil ys in
    record {
      split = e ∙ ap (λ zs. zs ++ ys) (sym first) ∙ ap (λ zs. lines_in Initial lines ++ zs) (sym second);
      in_initial = ap length first ∙ nx;
      in_dynamic = ap length second ∙ ny;
    }

pub all-order : (script : Script) (lines : List Line) → all_lines script ≡ Ok lines → HaveOrder script lines
all-order script lines h =
    let b = value-before (lines_below script Initial [] script.initial) (λ ls. lines_below script Dynamic ls script.dynamic) lines h in
    let i = follow-in script Initial [] b.0 script.initial b.1 in
    let j = follow-in script Dynamic b.0 lines script.dynamic b.2 in
    order-of script lines i.rest j.rest (j.split ∙ ap (λ zs. zs ++ j.rest) i.split) i.within j.within i.many j.many

-- the settled statements of a script without a fault stand in the order of their sections
pub lines-order : (script : Script) (lines : List Line) → meaning script ≡ Ok lines → HaveOrder script lines
lines-order script lines h = all-order script lines (has-lines script lines h).all

-- ---- parts of lines

kept-in : (section : Section) (b : Bool) (l : Line) (rest : List Line) → is_in section l.section ≡ b → Each (λ (x : Line). x.section ≡ section) rest → Each (λ (x : Line). x.section ≡ section) (if b then l ∷ rest else rest)
kept-in section false l rest hb h = h
kept-in section true l rest hb h = (same-section section l.section hb, h)
  where
    same-section : (a b : Section) → is_in a b ≡ true → b ≡ a
    same-section Initial Initial k = refl
    same-section Initial Dynamic k = cc
    same-section Dynamic Initial k = cc
    same-section Dynamic Dynamic k = refl

-- the lines of a section have that section
pub in-section : (section : Section) (lines : List Line) → Each (λ (l : Line). l.section ≡ section) (lines_in section lines)
in-section section [] = tt
in-section section (l ∷ ls) = kept-in section (is_in section l.section) l (lines_in section ls) refl (in-section section ls)

-- what fits fits in two parts
pub fit-split : (frame : Frame) (above xs ys : List Line) → LinesFit frame above (xs ++ ys) → LinesFit frame above xs × LinesFit frame (above ++ xs) ys
fit-split frame above [] ys h = (tt, subst (λ a. LinesFit frame a ys) (sym (append-nil above)) h)
fit-split frame above (x ∷ xs) ys h =
    let i = fit-split frame (above ++ x ∷ []) xs ys h.1 in
    ((h.0, i.0), subst (λ a. LinesFit frame a ys) (append_assoc above (x ∷ []) xs) i.1)

-- the statements of `initial` fit, and those of `dynamic` fit below them
pub sections-fit : (script : Script) (frame : Frame) (lines : List Line) → HaveOrder script lines → LinesFit frame [] lines → LinesFit frame [] (lines_in Initial lines) × LinesFit frame (lines_in Initial lines) (lines_in Dynamic lines)
sections-fit script frame lines ho h = fit-split frame [] (lines_in Initial lines) (lines_in Dynamic lines) (subst (LinesFit frame []) ho.split h)
