-- Operations in their order, each of them to its end: each gives what it gives over all that is done at the end.
use Rattle.std.proofs.Common.{◌≡◌, ℕ, ◌+◌, ◌<◌, Bool, true, false, if◌then◌else◌, ◌==◌, refl, sym, ap, ◌∙◌, arith}
use Rattle.std.proofs.Common.{List, [], ◌∷◌, ◌++◌, length, map, slice_get, Some}
use Rattle.std.proofs.lemmas.List.{append_assoc, append-nil, get_or-append-add, get_or-map, get_or_append_left, length-append}
use Rattle.std.proofs.lemmas.Option.{get_or_from_slice_get, slice_get_within}
use Rattle.tile_map.specs.Cuts.{cell_at}
use Rattle.tile_map.specs.Parts.{part_of}
use Rattle.tile_map.specs.declared.part.Part.{Part}
use Rattle.map_meaning.specs.declared.known.OverAt.{OverAt}
use Rattle.map_meaning.specs.declared.known.Span.{Span}
use Rattle.map_meaning.specs.declared.known.Span.TheVariants as span
use Rattle.map_meaning.specs.declared.program.Operand.{Operand}
use Rattle.map_meaning.specs.declared.program.Operand.TheVariants.{Unused, Literal, Time, Input, Stack, Initial, Now, Last, Drain}
use Rattle.map_meaning.specs.declared.program.Operation.{Operation}
use Rattle.map_meaning.specs.declared.program.Program.{Program}
use Rattle.map_meaning.specs.Evaluation.{Done, operand_cell, operation_part, section_maps, with_map}
use Rattle.map_meaning.specs.Maps.{CellAt, WholeMap, nth}
use Rattle.map_meaning.specs.Onward.{note_of, onward}
use Rattle.map_meaning.specs.Programs.{AreOperations, AreStepOperations, IsBelow, IsBelowNow, IsOperation, IsStepOperation, all_operands, kinds_of, operands_of}
use Rattle.map_meaning.specs.Rules.{outcome_of}
use Rattle.map_meaning.specs.Scenes.{Scene, place_count, setting_at}
use Rattle.map_meaning.specs.Table.{goes_along_drains}

-- ---- what goes on

-- the maps that an evaluation of the span leaves as they are: those of the other section
abbrev pub other_maps : Span → Done → List WholeMap
other_maps (span.Initial first end) done = done.dynamic
other_maps (span.Steps first last) done = done.initial

-- the second is the first with some more maps of the span's section
pub record GoesOn (s : Span) (d e : Done) : Type 0 where
  pub drains : e.drains ≡ d.drains
  pub last : e.last ≡ d.last
  pub others : other_maps s e ≡ other_maps s d
  pub more : List WholeMap
  pub section : section_maps s e ≡ section_maps s d ++ more

-- one more map
section_with_map : (s : Span) (d : Done) (m : WholeMap) → section_maps s (with_map s d m) ≡ section_maps s d ++ m ∷ []
section_with_map (span.Initial first end) d m = refl
section_with_map (span.Steps first last) d m = refl

goes_with_map : (s : Span) (d : Done) (m : WholeMap) → GoesOn s d (with_map s d m)
goes_with_map (span.Initial first end) d m = record { drains = refl; last = refl; others = refl; more = m ∷ []; section = refl }
goes_with_map (span.Steps first last) d m = record { drains = refl; last = refl; others = refl; more = m ∷ []; section = refl }

-- on and on
goes_both : (s : Span) (a b c : Done) → GoesOn s a b → GoesOn s b c → GoesOn s a c
goes_both s a b c x y = record {
  drains = y.drains ∙ x.drains;
  last = y.last ∙ x.last;
  others = y.others ∙ x.others;
  more = x.more ++ y.more;
  section = y.section ∙ ap (λ (l : List WholeMap). l ++ y.more) x.section ∙ append_assoc (section_maps s a) x.more y.more;
}

-- what operations add to
pub onward_keeps : (program : Program) (scene : Scene) (s : Span) (d : Done) (os : List Operation) → GoesOn s d (onward program scene s d os).done
onward_keeps program scene s d [] = record { drains = refl; last = refl; others = refl; more = []; section = sym (append-nil (section_maps s d)) }
onward_keeps program scene s d (o ∷ more) =
    let m = (operation_part program scene d o).cells in
    goes_both s d (with_map s d m) (onward program scene s (with_map s d m) more).done (goes_with_map s d m) (onward_keeps program scene s (with_map s d m) more)

-- ---- operands

-- the operand is one of the operation with this number of the span's section
abbrev pub IsReadBefore : Program → Span → ℕ → Operand → Type 0
IsReadBefore program (span.Initial first end) n operand = IsBelow program n operand
IsReadBefore program (span.Steps first last) n operand = IsBelowNow program n operand

-- the operation is the one with this number of the span's section
abbrev pub IsOfSection : Program → Span → ℕ → Operation → Type 0
IsOfSection program (span.Initial first end) n o = IsOperation program n o
IsOfSection program (span.Steps first last) n o = IsStepOperation program n o

-- the operations are those of the span's section from this number on
abbrev pub AreReadBefore : Program → Span → ℕ → List Operation → Type 0
AreReadBefore program (span.Initial first end) n os = AreOperations program n os
AreReadBefore program (span.Steps first last) n os = AreStepOperations program n os

first_read : (program : Program) (s : Span) (n : ℕ) (o : Operation) (os : List Operation) → AreReadBefore program s n (o ∷ os) → IsOfSection program s n o
first_read program (span.Initial first end) n o os r = r.0
first_read program (span.Steps first last) n o os r = r.0

rest_read : (program : Program) (s : Span) (n : ℕ) (o : Operation) (os : List Operation) → AreReadBefore program s n (o ∷ os) → AreReadBefore program s (n + 1) os
rest_read program (span.Initial first end) n o os r = r.1
rest_read program (span.Steps first last) n o os r = r.1

-- maps behind the first ones change none of those
nth_stays : (xs ys zs : List WholeMap) (k : ℕ) → ys ≡ xs ++ zs → k < length xs → nth ys k ≡ nth xs k
nth_stays xs ys zs k e lt = ap (λ (l : List WholeMap). nth l k) e ∙ get_or_append_left xs zs [] k lt

-- an operand that stands before stays as it is
pub operand_stays : (program : Program) (s : Span) (scene : Scene) (n : ℕ) (d e : Done) (operand : Operand) → GoesOn s d e → n ≡ length (section_maps s d) → IsReadBefore program s n operand → operand_cell scene e operand ≡ operand_cell scene d operand
operand_stays program (span.Initial first end) scene n d e Unused goes count reads = refl
operand_stays program (span.Initial first end) scene n d e (Literal kind cell) goes count reads = refl
operand_stays program (span.Initial first end) scene n d e Time goes count reads = refl
operand_stays program (span.Initial first end) scene n d e (Input k) goes count reads = refl
operand_stays program (span.Initial first end) scene n d e (Stack k) goes count reads = refl
operand_stays program (span.Initial first end) scene n d e (Initial k) goes count reads = ap cell_at (nth_stays d.initial e.initial goes.more k goes.section (omega arith))
operand_stays program (span.Initial first end) scene n d e (Now k) goes count reads = absurd reads
operand_stays program (span.Initial first end) scene n d e (Last k j) goes count reads = absurd reads
operand_stays program (span.Initial first end) scene n d e (Drain k) goes count reads = ap (λ (l : List WholeMap). cell_at (nth l k)) goes.drains
operand_stays program (span.Steps first last) scene n d e Unused goes count reads = refl
operand_stays program (span.Steps first last) scene n d e (Literal kind cell) goes count reads = refl
operand_stays program (span.Steps first last) scene n d e Time goes count reads = refl
operand_stays program (span.Steps first last) scene n d e (Input k) goes count reads = refl
operand_stays program (span.Steps first last) scene n d e (Stack k) goes count reads = refl
operand_stays program (span.Steps first last) scene n d e (Initial k) goes count reads = ap (λ (l : List WholeMap). cell_at (nth l k)) goes.others
operand_stays program (span.Steps first last) scene n d e (Now k) goes count reads = ap cell_at (nth_stays d.dynamic e.dynamic goes.more k goes.section (omega arith))
operand_stays program (span.Steps first last) scene n d e (Last k j) goes count reads =
    ap (λ (l : List WholeMap). cell_at (if scene.step == 1 then nth e.initial j else nth l k)) goes.last
    ∙ ap (λ (l : List WholeMap). cell_at (if scene.step == 1 then nth l j else nth d.last k)) goes.others
operand_stays program (span.Steps first last) scene n d e (Drain k) goes count reads = ap (λ (l : List WholeMap). cell_at (nth l k)) goes.drains

-- the drain map stays as it is
drain_stays : (s : Span) (scene : Scene) (d e : Done) (k : ℕ) → GoesOn s d e → operand_cell scene e (Drain k) ≡ operand_cell scene d (Drain k)
drain_stays s scene d e k goes = ap (λ (l : List WholeMap). cell_at (nth l k)) goes.drains

-- the operands that an operation may have
record ReadBefore (program : Program) (s : Span) (n : ℕ) (o : Operation) : Type 0 where
  a : IsReadBefore program s n o.a
  b : IsReadBefore program s n o.b
  c : IsReadBefore program s n o.c
  d : IsReadBefore program s n o.d

reads_before : (program : Program) (s : Span) (n : ℕ) (o : Operation) → IsOfSection program s n o → ReadBefore program s n o
reads_before program (span.Initial first end) n o is = record { a = is.a; b = is.b; c = is.c; d = is.d }
reads_before program (span.Steps first last) n o is = record { a = is.a; b = is.b; c = is.c; d = is.d }

-- with the drain map, or without it
with_drain_map : (f h : Operand → CellAt) (along : Bool) (drain : Operand) (os : List Operand) → f drain ≡ h drain → map f os ≡ map h os →
    map f (if along then drain ∷ os else os) ≡ map h (if along then drain ∷ os else os)
with_drain_map f h true drain os e r = cc
with_drain_map f h false drain os e r = r

operands_stay : (program : Program) (s : Span) (scene : Scene) (n : ℕ) (d e : Done) (o : Operation) → GoesOn s d e → n ≡ length (section_maps s d) → IsOfSection program s n o → map (operand_cell scene e) (all_operands o) ≡ map (operand_cell scene d) (all_operands o)
operands_stay program s scene n d e o goes count is =
    let r = reads_before program s n o is in
    let a = operand_stays program s scene n d e o.a goes count r.a in
    let b = operand_stays program s scene n d e o.b goes count r.b in
    let c = operand_stays program s scene n d e o.c goes count r.c in
    let z = operand_stays program s scene n d e o.d goes count r.d in
    with_drain_map (operand_cell scene e) (operand_cell scene d) (goes_along_drains o.op) (Drain o.drain) (operands_of o) (drain_stays s scene d e o.drain goes) (cc)

-- what an operation gives stays as it is
pub part_stays : (program : Program) (s : Span) (scene : Scene) (n : ℕ) (d e : Done) (o : Operation) → GoesOn s d e → n ≡ length (section_maps s d) → IsOfSection program s n o → operation_part program scene e o ≡ operation_part program scene d o
unfolding operation_part
part_stays program s scene n d e o goes count is =
    ap (λ (cells : List CellAt). part_of (outcome_of o.op (setting_at scene o.file o.window (kinds_of program o)) cells) (place_count scene)) (operands_stay program s scene n d e o goes count is)

-- ---- one step, or a stage

-- the maps of operations where this is done
abbrev pub maps_of : Program → Scene → Done → List Operation → List WholeMap
maps_of program scene e os = map (λ o. (operation_part program scene e o).cells) os

-- their notes
abbrev pub notes_of : Program → Scene → Done → List Operation → List OverAt
notes_of program scene e [] = []
notes_of program scene e (o ∷ more) = note_of scene o (operation_part program scene e o).over ++ notes_of program scene e more

-- behind one operation more
next_count : (s : Span) (d : Done) (m : WholeMap) (n : ℕ) → n ≡ length (section_maps s d) → n + 1 ≡ length (section_maps s (with_map s d m))
next_count s d m n count =
    let a = ap length (section_with_map s d m) in let b = length-append (section_maps s d) (m ∷ []) in omega arith

-- the maps of the section at the end are those that were there, and one of each operation
pub onward_section : (program : Program) (scene : Scene) (s : Span) (n : ℕ) (d : Done) (os : List Operation) → n ≡ length (section_maps s d) → AreReadBefore program s n os →
    section_maps s (onward program scene s d os).done ≡ section_maps s d ++ maps_of program scene (onward program scene s d os).done os
onward_section program scene s n d [] count reads = sym (append-nil (section_maps s d))
onward_section program scene s n d (o ∷ more) count reads =
    let m = (operation_part program scene d o).cells in
    let e = (onward program scene s (with_map s d m) more).done in
    let rest = onward_section program scene s (n + 1) (with_map s d m) more (next_count s d m n count) (rest_read program s n o more reads) in
    let same = ap (λ (p : Part). p.cells) (part_stays program s scene n d e o (onward_keeps program scene s d (o ∷ more)) count (first_read program s n o more reads)) in
    rest
    ∙ ap (λ (l : List WholeMap). l ++ maps_of program scene e more) (section_with_map s d m)
    ∙ append_assoc (section_maps s d) (m ∷ []) (maps_of program scene e more)
    ∙ ap (λ (c : WholeMap). section_maps s d ++ c ∷ maps_of program scene e more) (sym same)

-- and the notes are those of each operation
pub onward_notes : (program : Program) (scene : Scene) (s : Span) (n : ℕ) (d : Done) (os : List Operation) → n ≡ length (section_maps s d) → AreReadBefore program s n os →
    (onward program scene s d os).notes ≡ notes_of program scene (onward program scene s d os).done os
onward_notes program scene s n d [] count reads = refl
onward_notes program scene s n d (o ∷ more) count reads =
    let m = (operation_part program scene d o).cells in
    let e = (onward program scene s (with_map s d m) more).done in
    let same = ap (λ (p : Part). note_of scene o p.over) (part_stays program s scene n d e o (onward_keeps program scene s d (o ∷ more)) count (first_read program s n o more reads)) in
    ap (λ (l : List OverAt). note_of scene o (operation_part program scene d o).over ++ l) (onward_notes program scene s (n + 1) (with_map s d m) more (next_count s d m n count) (rest_read program s n o more reads))
    ∙ ap (λ (l : List OverAt). l ++ notes_of program scene e more) (sym same)

-- the map of the operation at this place behind those that were there
pub onward_map : (program : Program) (scene : Scene) (s : Span) (n : ℕ) (d : Done) (os : List Operation) (k : ℕ) (o : Operation) → n ≡ length (section_maps s d) → AreReadBefore program s n os → slice_get os k ≡ Some o →
    nth (section_maps s (onward program scene s d os).done) (n + k) ≡ (operation_part program scene (onward program scene s d os).done o).cells
onward_map program scene s n d os k o count reads there =
    let e = (onward program scene s d os).done in
    let lt = slice_get_within os k o there in
    ap (λ (l : List WholeMap). nth l (n + k)) (onward_section program scene s n d os count reads)
    ∙ ap (λ (j : ℕ). nth (section_maps s d ++ maps_of program scene e os) (j + k)) count
    ∙ get_or-append-add (section_maps s d) (maps_of program scene e os) k []
    ∙ get_or-map (λ (p : Operation). (operation_part program scene e p).cells) os k o [] lt
    ∙ ap (λ (p : Operation). (operation_part program scene e p).cells) (get_or_from_slice_get os k o o there)
