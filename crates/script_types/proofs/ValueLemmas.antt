-- The value of operations beside that of expressions: what a program's operation gives is what the tree's gives.
use Rattle.std.proofs.Common.{◌≡◌, ◌⊎◌, inl, inr, Bool, true, false, if◌then◌else◌, ℕ, zero, suc, ◌+◌, ◌<◌, ◌≤◌, List, [], ◌∷◌, ◌++◌, length, map, refl, sym, ap, ◌∙◌, Ok, Err, Result, arith, slice_index_or}
use Rattle.std.specs.Prelude.{◌&&◌, nat_le, Option, None, Some}
use Rattle.std.proofs.lemmas.Bool.Decides.{nat_tests}
use Rattle.std.specs.List.{filter_map, cons_option}
use Rattle.text_base.specs.Results.{◌>>=◌}
use Rattle.cell_values.specs.declared.cell.Cell.{Cell}
use Rattle.cell_values.specs.declared.kind.Kind.{Kind}
use Rattle.cell_values.specs.declared.kind.Kind.TheVariants.{Ldd}
use Rattle.drain_meaning.specs.declared.op.FlowOp.TheVariants as flow
use Rattle.drain_meaning.specs.declared.op.NearOp.TheVariants as near
use Rattle.tile_map.specs.Cuts.{cell_at}
use Rattle.tile_map.specs.Parts.{part_of}
use Rattle.tile_map.proofs.Callers.{is_part-part_of, part_of-same, tabulate-same}
use Rattle.map_meaning.specs.declared.known.OverAt.{OverAt}
use Rattle.map_meaning.specs.declared.program.Operand.{Operand}
use Rattle.map_meaning.specs.declared.program.Operand.TheVariants.{Unused, Literal, Time, Input, Initial, Now, Last}
use Rattle.map_meaning.specs.declared.program.Operand.TheVariants as from
use Rattle.map_meaning.specs.declared.program.Operation.{Operation}
use Rattle.map_meaning.specs.declared.program.Program.{Program}
use Rattle.map_meaning.specs.Evaluation.{Done, operand_cell, operand_map, operation_part, operation_value}
use Rattle.map_meaning.specs.Maps.{CellAt, WholeMap, step_cell}
use Rattle.map_meaning.specs.Overs.{whole_or_over}
use Rattle.map_meaning.specs.Programs.{all_operands, kinds_of, operands_of}
use Rattle.map_meaning.specs.Rules.{Focal, Global, Local, Near, Rule, Setting, Along, ZoneSize, Zonal, alike, by_rule, drain_by, kind_at, operand_at, outcome_of, reach_of, rule_of, setting_places, whole_by, zone_places}
use Rattle.map_meaning.specs.Scenes.{Scene, place_count, setting_at}
use Rattle.map_meaning.specs.Table.{HasKinds, allows, common_kind, goes_along_drains, has_count, map_row, row_of, table_rows}
use Rattle.map_meaning.specs.declared.op.Op.{Op}
use Rattle.map_meaning.specs.declared.op.Op.TheVariants as op
use Rattle.region_meaning.specs.declared.area.AreaOp.TheVariants as area
use Rattle.region_meaning.specs.AreaResults.{area_outcome}
use Rattle.region_meaning.specs.Areas.{AreaPlace}
use Rattle.region_meaning.specs.Windows.{window_outcome}
use Rattle.drain_meaning.specs.Equations.{transport_of}
use Rattle.drain_meaning.specs.Near.{near_outcome}
use Rattle.drain_meaning.specs.Transports.{transport_outcome}
use Rattle.map_meaning.specs.declared.row.Ask.TheVariants as ask
use Rattle.map_meaning.specs.declared.row.Row.{Row}
use Rattle.map_meaning.proofs.Callers.{same_kind}
use Rattle.map_meaning.specs.Trees.{Environment, Site, TreeMeaning, applied_in, operations_in, values_from_left}
use Rattle.script_types.specs.inside.Drains.{drain_named}
use Rattle.script_types.specs.inside.Values.{HasOperands}

-- ---- one operation

-- the cell of an operand's map
pub cell_at-operand_map : (scene : Scene) (done : Done) (x : Operand) (place : ℕ) → place < place_count scene → cell_at (operand_map scene done x) place ≡ operand_cell scene done x place
cell_at-operand_map scene done Unused place below = refl
cell_at-operand_map scene done (Literal kind cell) place below = (is_part-part_of (λ p. Ok cell) (place_count scene)).cells place below
cell_at-operand_map scene done Time place below = (is_part-part_of (λ p. Ok (step_cell scene.step)) (place_count scene)).cells place below
cell_at-operand_map scene done (Input n) place below = refl
cell_at-operand_map scene done (from.Stack n) place below = refl
cell_at-operand_map scene done (Initial n) place below = refl
cell_at-operand_map scene done (Now n) place below = refl
cell_at-operand_map scene done (Last d n) place below = refl
cell_at-operand_map scene done (from.Drain n) place below = refl

-- the operand at a place of a list
slot : (scene : Scene) (done : Done) (xs : List Operand) (i place : ℕ) → place < place_count scene → operand_at (map cell_at (map (operand_map scene done) xs)) i place ≡ operand_cell scene done (slice_index_or xs i Unused) place
slot scene done [] i place below = refl
slot scene done (x ∷ xs) zero place below = cell_at-operand_map scene done x place below
slot scene done (x ∷ xs) (suc i) place below = slot scene done xs i place below

slot-cell : (scene : Scene) (done : Done) (xs : List Operand) (i place : ℕ) → operand_at (map (operand_cell scene done) xs) i place ≡ operand_cell scene done (slice_index_or xs i Unused) place
slot-cell scene done [] i place = refl
slot-cell scene done (x ∷ xs) zero place = refl
slot-cell scene done (x ∷ xs) (suc i) place = slot-cell scene done xs i place

zones-same : (s : Setting) (f g h k : CellAt) → ((place : ℕ) → place < setting_places s → f place ≡ g place) → ((place : ℕ) → place < setting_places s → h place ≡ k place) → zone_places s f h ≡ zone_places s g k
zones-same s f g h k x y = tabulate-same (λ place. record { value = f place; area = h place }) (λ place. record { value = g place; area = k place }) (setting_places s) (λ place below. two (x place below) (y place below))
  where
    two : {a b c d : Cell} → a ≡ b → c ≡ d → let p : AreaPlace = record { value = a; area = c } in let q : AreaPlace = record { value = b; area = d } in p ≡ q
    two p q = cc

-- the operands of two lists are the same at each place
abbrev AreSameAt : Setting → List CellAt → List CellAt → ℕ → Type 0
AreSameAt s xs ys i = (place : ℕ) → place < setting_places s → operand_at xs i place ≡ operand_at ys i place

whole-same : (s : Setting) (xs ys : List CellAt) (i : ℕ) → AreSameAt s xs ys i → whole_by s (operand_at xs i) ≡ whole_by s (operand_at ys i)
whole-same s xs ys i h = tabulate-same (operand_at xs i) (operand_at ys i) (setting_places s) h

-- a rule looks at the first four operands alone
by_rule-same : (r : Rule) (s : Setting) (xs ys : List CellAt) (place : ℕ) → place < setting_places s → AreSameAt s xs ys 0 → AreSameAt s xs ys 1 → AreSameAt s xs ys 2 → AreSameAt s xs ys 3 → by_rule r s xs place ≡ by_rule r s ys place
by_rule-same (Local f) s xs ys place below a b c d =
    let x = a place below in
    let y = b place below in
    let z = c place below in
    let w = d place below in
    cc
by_rule-same (Focal o) s xs ys place below a b c d = ap (λ m. window_outcome o s.rows s.cols (reach_of s.window) m place) (whole-same s xs ys 0 a)
by_rule-same (Zonal o) s xs ys place below a b c d = ap (λ z. area_outcome o z (operand_at xs 1 place)) (zones-same s (operand_at xs 0) (operand_at ys 0) (operand_at xs 1) (operand_at ys 1) a b) ∙ ap (area_outcome o (zone_places s (operand_at ys 0) (operand_at ys 1))) (b place below)
by_rule-same ZoneSize s xs ys place below a b c d = ap (λ z. area_outcome area.Area z (operand_at xs 0 place)) (zones-same s (alike 0) (alike 0) (operand_at xs 0) (operand_at ys 0) (λ p h. refl) a) ∙ ap (area_outcome area.Area (zone_places s (alike 0) (operand_at ys 0))) (a place below)
by_rule-same (Global o) s xs ys place below a b c d = ap (λ z. area_outcome o z (alike 1 place)) (zones-same s (operand_at xs 0) (operand_at ys 0) (alike 1) (alike 1) a (λ p h. refl))
by_rule-same (Near o) s xs ys place below a b c d = ap (λ m. near_outcome o (record { rows = s.rows; cols = s.cols; codes = m }) (cell_at (whole_by s (operand_at xs 1))) place) (whole-same s xs ys 0 a) ∙ ap (λ m. near_outcome o (drain_by s (operand_at ys 0)) (cell_at m) place) (whole-same s xs ys 1 b)
by_rule-same (Along o) s xs ys place below a b c d =
    ap (λ m. transport_outcome (transport_of o) (kind_at s.kinds 1) (record { rows = s.rows; cols = s.cols; codes = m }) (cell_at (whole_by s (operand_at xs 1))) (cell_at (whole_by s (operand_at xs 2))) place) (whole-same s xs ys 0 a)
    ∙ ap (λ m. transport_outcome (transport_of o) (kind_at s.kinds 1) (drain_by s (operand_at ys 0)) (cell_at m) (cell_at (whole_by s (operand_at xs 2))) place) (whole-same s xs ys 1 b)
    ∙ ap (λ m. transport_outcome (transport_of o) (kind_at s.kinds 1) (drain_by s (operand_at ys 0)) (cell_at (whole_by s (operand_at ys 1))) (cell_at m) place) (whole-same s xs ys 2 c)

-- the first operand is the drain map that the operation goes along, where it does
abbrev pub GoesAlong : Operation → List Operand → Type 0
GoesAlong o xs = goes_along_drains o.op ≡ true → slice_index_or xs 0 Unused ≡ from.Drain (drain_named (slice_index_or xs 0 Unused))

-- the operands of an operation, by whether it goes along a drain map
abbrev along : Bool → Operation → List Operand
along b o = if b then from.Drain o.drain ∷ operands_of o else operands_of o

-- all operands are those of the list
record AreSlots (ys xs : List Operand) : Type 0 where
  a : slice_index_or ys 0 Unused ≡ slice_index_or xs 0 Unused
  b : slice_index_or ys 1 Unused ≡ slice_index_or xs 1 Unused
  c : slice_index_or ys 2 Unused ≡ slice_index_or xs 2 Unused
  d : slice_index_or ys 3 Unused ≡ slice_index_or xs 3 Unused

slots-along : (t : Bool) (o : Operation) (xs : List Operand) → (t ≡ true → slice_index_or xs 0 Unused ≡ from.Drain o.drain) → o.a ≡ slice_index_or xs (if t then 1 else 0) Unused → o.b ≡ slice_index_or xs ((if t then 1 else 0) + 1) Unused → o.c ≡ slice_index_or xs ((if t then 1 else 0) + 2) Unused → o.d ≡ slice_index_or xs ((if t then 1 else 0) + 3) Unused → AreSlots (along t o) xs
slots-along true o xs h a b c d = record { a = sym (h refl); b = a; c = b; d = c }
slots-along false o xs h a b c d = record { a = a; b = b; c = c; d = d }

drain-first : (o : Operation) (file window : ℕ) (xs : List Operand) → HasOperands o file window xs → GoesAlong o xs → goes_along_drains o.op ≡ true → slice_index_or xs 0 Unused ≡ from.Drain o.drain
drain-first o file window xs has h e = h e ∙ ap from.Drain (sym has.drain_is)

slots-are : (o : Operation) (file window : ℕ) (xs : List Operand) → HasOperands o file window xs → GoesAlong o xs → AreSlots (all_operands o) xs
slots-are o file window xs has h = slots-along (goes_along_drains o.op) o xs (drain-first o file window xs has h) has.a has.b has.c has.d

-- the program's operation gives what the tree's gives
pub applied-is : (program : Program) (scene : Scene) (names : Environment) (done : Done) (o : Operation) (file window : ℕ) (kinds : List Kind) (xs : List Operand) → HasOperands o file window xs → GoesAlong o xs → kinds_of program o ≡ kinds → applied_in (record { scene = scene; names = names; statement = o.statement }) o.op (setting_at scene file window kinds) (map (operand_map scene done) xs) o.number ≡ operation_value program scene done o
unfolding operation_part
applied-is program scene names done o file window kinds xs has ha hk =
    let at = setting_at scene o.file o.window (kinds_of program o) in
    let ys = all_operands o in
    let cells = map cell_at (map (operand_map scene done) xs) in
    let e = slots-are o file window xs has ha in
    let told : setting_at scene file window kinds ≡ at = ap (setting_at scene file window) (sym hk) ∙ ap (λ f. setting_at scene f window (kinds_of program o)) (sym has.file_is) ∙ ap (λ w. setting_at scene o.file w (kinds_of program o)) (sym has.window_is) in
    let at-slot = λ (i : ℕ) (k : slice_index_or ys i Unused ≡ slice_index_or xs i Unused) (place : ℕ) (below : place < place_count scene). slot scene done xs i place below ∙ ap (λ x. operand_cell scene done x place) (sym k) ∙ sym (slot-cell scene done ys i place) in
    ap (whole_or_over scene o.statement o.number) (ap (λ s. part_of (outcome_of o.op s cells) (place_count scene)) told ∙ part_of-same (outcome_of o.op at cells) (outcome_of o.op at (map (operand_cell scene done) ys)) (place_count scene) (λ place below.
    by_rule-same (rule_of o.op) at cells (map (operand_cell scene done) ys) place below (at-slot 0 e.a) (at-slot 1 e.b) (at-slot 2 e.c) (at-slot 3 e.d)))

-- ---- kinds

-- the operands of a list in four places
abbrev pub four : List Operand → List Operand
four xs = slice_index_or xs 0 Unused ∷ slice_index_or xs 1 Unused ∷ slice_index_or xs 2 Unused ∷ slice_index_or xs 3 Unused ∷ []

-- the kinds that there are of four
abbrev of-four : Option Kind → Option Kind → Option Kind → Option Kind → List Kind
of-four a b c d = cons_option a (cons_option b (cons_option c (cons_option d [])))

of-same : (a b c d x y z w : Option Kind) → a ≡ x → b ≡ y → c ≡ z → d ≡ w → of-four a b c d ≡ of-four x y z w
of-same a b c d x y z w p q r s = cc

-- the kinds of four operands are those of the list
pub kinds-four : (f : Operand → Option Kind) (xs : List Operand) (ks : List Kind) → f Unused ≡ None → map f xs ≡ map Some ks → length xs ≤ 4 → filter_map f (four xs) ≡ ks
kinds-four f [] [] hu h l = of-same (f Unused) (f Unused) (f Unused) (f Unused) None None None None hu hu hu hu
kinds-four f (x ∷ []) (k ∷ []) hu h l = of-same (f x) (f Unused) (f Unused) (f Unused) (Some k) None None None (let e : f x ≡ Some k = cc in e) hu hu hu
kinds-four f (x ∷ y ∷ []) (k ∷ j ∷ []) hu h l = of-same (f x) (f y) (f Unused) (f Unused) (Some k) (Some j) None None (let e : f x ≡ Some k = cc in e) (let e : f y ≡ Some j = cc in e) hu hu
kinds-four f (x ∷ y ∷ z ∷ []) (k ∷ j ∷ i ∷ []) hu h l = of-same (f x) (f y) (f z) (f Unused) (Some k) (Some j) (Some i) None (let e : f x ≡ Some k = cc in e) (let e : f y ≡ Some j = cc in e) (let e : f z ≡ Some i = cc in e) hu
kinds-four f (x ∷ y ∷ z ∷ w ∷ []) (k ∷ j ∷ i ∷ m ∷ []) hu h l = of-same (f x) (f y) (f z) (f w) (Some k) (Some j) (Some i) (Some m) (let e : f x ≡ Some k = cc in e) (let e : f y ≡ Some j = cc in e) (let e : f z ≡ Some i = cc in e) (let e : f w ≡ Some m = cc in e)
kinds-four f (x ∷ y ∷ z ∷ w ∷ v ∷ xs) ks hu h l = absurd (omega arith)
kinds-four f [] (k ∷ ks) hu h l = cc
kinds-four f (x ∷ xs) [] hu h l = cc
kinds-four f (x ∷ []) (k ∷ j ∷ ks) hu h l = cc
kinds-four f (x ∷ y ∷ xs) (k ∷ []) hu h l = cc
kinds-four f (x ∷ y ∷ []) (k ∷ j ∷ i ∷ ks) hu h l = cc
kinds-four f (x ∷ y ∷ z ∷ xs) (k ∷ j ∷ []) hu h l = cc
kinds-four f (x ∷ y ∷ z ∷ []) (k ∷ j ∷ i ∷ m ∷ ks) hu h l = cc
kinds-four f (x ∷ y ∷ z ∷ w ∷ xs) (k ∷ j ∷ i ∷ []) hu h l = cc
kinds-four f (x ∷ y ∷ z ∷ w ∷ []) (k ∷ j ∷ i ∷ m ∷ n ∷ ks) hu h l = cc

-- behind all operands there is none
behind : (xs : List Operand) (n : ℕ) → length xs ≤ n → slice_index_or xs n Unused ≡ Unused
behind [] n h = refl
behind (x ∷ xs) zero h = absurd (omega (arith, h))
behind (x ∷ xs) (suc n) h = behind xs n (omega (arith, h))

five-kinds : (a b c d e : Option Kind) → e ≡ None → cons_option a (cons_option b (cons_option c (cons_option d (cons_option e [])))) ≡ of-four a b c d
five-kinds a b c d e h = ap (λ r. cons_option a (cons_option b (cons_option c (cons_option d (cons_option r []))))) h

kinds-along : (t : Bool) (f : Operand → Option Kind) (o : Operation) (xs : List Operand) (ks : List Kind) → (t ≡ true → slice_index_or xs 0 Unused ≡ from.Drain o.drain) → o.a ≡ slice_index_or xs (if t then 1 else 0) Unused → o.b ≡ slice_index_or xs ((if t then 1 else 0) + 1) Unused → o.c ≡ slice_index_or xs ((if t then 1 else 0) + 2) Unused → o.d ≡ slice_index_or xs ((if t then 1 else 0) + 3) Unused → f Unused ≡ None → map f xs ≡ map Some ks → length xs ≤ 4 → filter_map f (along t o) ≡ ks
kinds-along true f o xs ks h a b c d hu hm hl =
    let z : f o.d ≡ None = ap f (d ∙ behind xs 4 hl) ∙ hu in
    five-kinds (f (from.Drain o.drain)) (f o.a) (f o.b) (f o.c) (f o.d) z ∙ of-same (f (from.Drain o.drain)) (f o.a) (f o.b) (f o.c) (f (slice_index_or xs 0 Unused)) (f (slice_index_or xs 1 Unused)) (f (slice_index_or xs 2 Unused)) (f (slice_index_or xs 3 Unused)) (ap f (sym (h refl))) (ap f a) (ap f b) (ap f c) ∙ kinds-four f xs ks hu hm hl
kinds-along false f o xs ks h a b c d hu hm hl = of-same (f o.a) (f o.b) (f o.c) (f o.d) (f (slice_index_or xs 0 Unused)) (f (slice_index_or xs 1 Unused)) (f (slice_index_or xs 2 Unused)) (f (slice_index_or xs 3 Unused)) (ap f a) (ap f b) (ap f c) (ap f d) ∙ kinds-four f xs ks hu hm hl

-- the kinds of an operation's operands are those of the list
pub kinds-are : (f : Operand → Option Kind) (o : Operation) (file window : ℕ) (xs : List Operand) (ks : List Kind) → HasOperands o file window xs → GoesAlong o xs → f Unused ≡ None → map f xs ≡ map Some ks → length xs ≤ 4 → filter_map f (all_operands o) ≡ ks
kinds-are f o file window xs ks has h hu hm hl = kinds-along (goes_along_drains o.op) f o xs ks (drain-first o file window xs has h) has.a has.b has.c has.d hu hm hl

-- ---- operations along drain maps

-- the row asks a drain map first, or allows nothing
record IsDrainRow (r : Row) : Type 0 where
  first : r.first ≡ ask.Only Ldd
  some : has_count r 0 ≡ false

no-more : (n : ℕ) → (nat_le 1 n && nat_le n 0) ≡ false
no-more n = grind (arith, nat_tests)

row-drain : (o : Op) → goes_along_drains o ≡ true → IsDrainRow (map_row (row_of o)) ⊎ ((n : ℕ) → has_count (map_row (row_of o)) n ≡ false)
unfolding row_of table_rows
row-drain (op.Near near.Upstream) h = inl (record { first = refl; some = refl })
row-drain (op.Near near.Downstream) h = inl (record { first = refl; some = refl })
row-drain (op.Flow flow.Accuflux) h = inl (record { first = refl; some = refl })
row-drain (op.Flow flow.ThresholdFlux) h = inl (record { first = refl; some = refl })
row-drain (op.Flow flow.ThresholdState) h = inl (record { first = refl; some = refl })
row-drain (op.Flow flow.Catchment) h = inl (record { first = refl; some = refl })
row-drain (op.Flow o) h = inr no-more
row-drain _ h = absurd (let z = h in cc)

first-kind : (row : Row) (ks : List Kind) (k : Kind) → IsDrainRow row → HasKinds row ks k → (more : List Kind) × (ks ≡ Ldd ∷ more)
first-kind row [] k h has = let z = sym h.some ∙ has.count in cc
first-kind row (j ∷ ks) k h has = (ks, ap (λ i. i ∷ ks) (sym (same_kind Ldd j (ap (λ a. allows (common_kind row (j ∷ ks)) a j) (sym h.first) ∙ has.each 0 (omega arith)))))

-- the first operand of such an operation is a drain map
pub along-drain : (o : Op) (ks : List Kind) (k : Kind) → goes_along_drains o ≡ true → HasKinds (map_row (row_of o)) ks k → (more : List Kind) × (ks ≡ Ldd ∷ more)
along-drain o ks k h has = by-row (row-drain o h)
  where
    by-row : IsDrainRow (map_row (row_of o)) ⊎ ((n : ℕ) → has_count (map_row (row_of o)) n ≡ false) → (more : List Kind) × (ks ≡ Ldd ∷ more)
    by-row (inl row) = first-kind (map_row (row_of o)) ks k row has
    by-row (inr none) = absurd (let z = sym (none (length ks)) ∙ has.count in cc)

-- ---- lists of operands

-- the values of operands and of one more
pub values-push : (ms : List TreeMeaning) (m : TreeMeaning) (at : Site) (before : ℕ) → values_from_left (ms ++ m ∷ []) at before ≡ values_from_left ms at before >>= λ vs. m.value at (before + operations_in ms) >>= λ v. Ok (vs ++ v ∷ [])
values-push [] m at before = let e : before ≡ before + 0 = omega arith in ap (λ n. m.value at n >>= λ v. Ok (v ∷ [])) e
values-push (x ∷ ms) m at before =
    let e : before + x.operations + operations_in ms ≡ before + operations_in (x ∷ ms) = omega arith in
    push-step (x.value at before) (λ first. values_from_left (ms ++ m ∷ []) at (before + x.operations) >>= λ rest. Ok (first ∷ rest)) (λ first. values_from_left ms at (before + x.operations) >>= λ rest. Ok (first ∷ rest)) (λ vs. m.value at (before + operations_in (x ∷ ms)) >>= λ v. Ok (vs ++ v ∷ [])) (λ first. ap (λ r. r >>= λ rest. Ok (first ∷ rest)) (values-push ms m at (before + x.operations)) ∙ regroup first (values_from_left ms at (before + x.operations)) (λ n. m.value at n) (before + x.operations + operations_in ms) (before + operations_in (x ∷ ms)) e)
  where
    push-step : (r : Result WholeMap OverAt) → (f h : WholeMap → Result (List WholeMap) OverAt) (k : List WholeMap → Result (List WholeMap) OverAt) → ((first : WholeMap) → f first ≡ h first >>= k) → (r >>= f) ≡ ((r >>= h) >>= k)
    push-step (Ok v) f h k same = same v
    push-step (Err e) f h k same = refl

    regroup : (first : WholeMap) (r : Result (List WholeMap) OverAt) (q : ℕ → Result WholeMap OverAt) (n k : ℕ) → n ≡ k → ((r >>= λ vs. q n >>= λ v. Ok (vs ++ v ∷ [])) >>= λ rest. Ok (first ∷ rest)) ≡ ((r >>= λ rest. Ok (first ∷ rest)) >>= λ vs. q k >>= λ v. Ok (vs ++ v ∷ []))
    regroup first (Err e) q n k h = refl
    regroup first (Ok vs) q n k h = ap (λ j. (q j >>= λ v. Ok (vs ++ v ∷ [])) >>= λ rest. Ok (first ∷ rest)) h ∙ last-step (q k)
      where
        last-step : (r : Result WholeMap OverAt) → ((r >>= λ v. Ok (vs ++ v ∷ [])) >>= λ rest. Ok (first ∷ rest)) ≡ (r >>= λ v. Ok (first ∷ (vs ++ v ∷ [])))
        last-step (Ok v) = refl
        last-step (Err e) = refl
