-- The laws of reading: a text is read exactly where it is a grid, and its first fault is told exactly where it has one.
use Rattle.std.proofs.Common.{◌≡◌, ℕ, ◌*◌, ◌≤◌, true, List, [], ◌∷◌, ◌++◌, length, None, Ok, Err, refl, sym, ap, subst, ◌∙◌, inl, inr, arith}
use Rattle.std.specs.Prelude.{is_some}
use Rattle.std.specs.declared.option.Option.{Option}
use Rattle.std.specs.List.{list_all}
use Rattle.std.proofs.lemmas.Bool.{and_parts, and_from}
use Rattle.cell_values.specs.declared.kind.Kind.{Kind}
use Rattle.cell_values.specs.declared.cell.Cell.{Cell}
use Rattle.grid_text.specs.declared.key.Key.{Key}
use Rattle.grid_text.specs.declared.grid.Grid.{Grid}
use Rattle.grid_text.specs.declared.grid.Head.{Head}
use Rattle.grid_text.specs.declared.fault.GridFault.{GridFault}
use Rattle.grid_text.specs.declared.fault.GridKind.TheVariants as kinds
use Rattle.text_base.specs.Tokens.{Token, tokens}
use Rattle.grid_text.specs.Key.{key_of}
use Rattle.grid_text.specs.Form.{Pair, tokens_of_pairs, may_stand, is_head_pair, ends_pairs, IsHead, Begins, IsGrid}
use Rattle.grid_text.specs.Faults.{fault_at, place_of, Lacking, CellFault, HasFault, InHead, InCells, IsFirstFault}
use Rattle.text_base.specs.Results.{◌>>=◌}
use Rattle.grid_text.specs.inside.Reading.{pairs_from, Heading, heading_of, cells_from, grid_of}
use Rattle.grid_text.specs.Reading.{GridsAreRead, FirstFaultsAreTold}
use Rattle.text_base.proofs.Callers.{InOrder, bind_fails, bind_gives, ok_is, option_cases, order_behind, result_cases, tokens_at-order}
use Rattle.grid_text.proofs.Pairs.{nothing_fine, Stops, pairs_read}
use Rattle.grid_text.proofs.Heads.{none_lacks, pairs_run, front_is, front_gives, front_lacks}
use Rattle.grid_text.proofs.HeadFaults.{Apart, Keyed, fails_at, head_first, read_lacks}
use Rattle.grid_text.proofs.CellFaults.{cells_are, cells_run, cells_fail, cells_right, cells_first}

-- pairs with values that their keys may have begin with key words
pub keyed_of : (pairs : List Pair) → list_all is_head_pair pairs ≡ true → Keyed pairs
keyed_of [] e = refl
keyed_of (p ∷ ps) e =
    let parts = and_parts (is_head_pair p) (list_all is_head_pair ps) e in
    let word : is_some (key_of p.word.bytes) ≡ true = option_cases (key_of p.word.bytes)
    (λ none. let bad : may_stand None p.value.bytes ≡ true = sym (ap (λ o. may_stand o p.value.bytes) none) ∙ parts.0 in absurd (cc))
    (λ key is. ap (λ (o : Option Key). is_some o) is) in
    and_from _ _ word (keyed_of ps parts.1)

-- ---- what is read is a grid

grid_made : (kind : Kind) (text : List ℕ) (pairs : List Pair) (rest : List Token) (front : Heading) (cells : List Cell) → Stops [] (tokens text) pairs rest → IsHead pairs front.rows front.cols front.head front.nodata → cells_from kind front.nodata (length text) (front.rows * front.cols) rest ≡ Ok cells
    → IsGrid kind text (record { rows = front.rows; cols = front.cols; head = front.head; cells = cells })
grid_made kind text pairs rest front cells stops head read =
    let are = cells_are kind front.nodata (length text) (front.rows * front.cols) rest cells read in
    record {
      pairs = pairs;
      cell_tokens = rest;
      nodata = front.nodata;
      parts = record { parts = stops.parts ∙ ap (λ ps. tokens_of_pairs ps ++ rest) (sym stops.joined); keyed = keyed_of pairs stops.fine.valued };
      ended = stops.ended;
      head = head;
      count = are.1;
      cells = are.0;
    }

pub is_grid : (kind : Kind) (text : List ℕ) (grid : Grid) → grid_of kind text ≡ Ok grid → IsGrid kind text grid
unfolding grid_of
is_grid kind text grid e =
    bind_gives (pairs_from (length text) [] (tokens text)) _ grid e (λ found ep e1.
    bind_gives (heading_of (fault_at kinds.Head (place_of (length text) found.1)) found.0) _ grid e1 (λ front ef e2.
    bind_gives (cells_from kind front.nodata (length text) (front.rows * front.cols) found.1) _ grid e2 (λ cells ec e3.
    let stops = pairs_read (length text) [] (tokens text) found.0 found.1 nothing_fine ep in
    subst (IsGrid kind text) (ok_is _ _ e3)
    (grid_made kind text found.0 found.1 front cells stops (front_gives _ found.0 front stops.fine ef) ec))))

-- ---- a grid is read

-- behind a head the cells decide
behind_head : (kind : Kind) (text : List ℕ) (pairs : List Pair) (cells : List Token) (rows cols : ℕ) (head : Head) (nodata : List ℕ) → Begins (tokens text) pairs cells → ends_pairs cells ≡ true → IsHead pairs rows cols head nodata
    → grid_of kind text ≡ (cells_from kind nodata (length text) (rows * cols) cells >>= λ all. Ok (record { rows = rows; cols = cols; head = head; cells = all }))
unfolding grid_of
behind_head kind text pairs cells rows cols head nodata begins ended h =
    let run : pairs_from (length text) [] (tokens text) ≡ Ok (pairs, cells) = ap (pairs_from (length text) []) begins.parts ∙ pairs_run (length text) [] pairs cells rows cols head nodata h ended in
    let front : heading_of (fault_at kinds.Head (place_of (length text) cells)) pairs ≡ Ok (record { rows = rows; cols = cols; head = head; nodata = nodata }) = front_is (fault_at kinds.Head (place_of (length text) cells)) pairs rows cols head nodata h in
    rw (run, front) refl

pub grid_is : (kind : Kind) (text : List ℕ) (grid : Grid) → IsGrid kind text grid → grid_of kind text ≡ Ok grid
grid_is kind text grid g =
    behind_head kind text g.pairs g.cell_tokens grid.rows grid.cols grid.head g.nodata g.parts g.ended g.head
    ∙ ap (λ r. r >>= λ all. Ok (record { rows = grid.rows; cols = grid.cols; head = grid.head; cells = all })) (cells_run kind g.nodata (length text) (grid.rows * grid.cols) g.cell_tokens grid.cells g.cells g.count)

pub grids_read : GridsAreRead
grids_read kind text grid = (is_grid kind text grid, grid_is kind text grid)

-- ---- the first fault

-- A fault, and any other stands behind it.
record IsLeast (kind : Kind) (text : List ℕ) (f : GridFault) : Type 0 where
  here : HasFault kind text f
  apart : (g : GridFault) → HasFault kind text g → Apart f g

order_of : (text : List ℕ) → InOrder 0 (length text) (tokens text)
order_of text = tokens_at-order 0 (length text) text (omega arith)

-- where the pairs fail
pairs_least : (kind : Kind) (text : List ℕ) (f : GridFault) → pairs_from (length text) [] (tokens text) ≡ Err f → IsLeast kind text f
pairs_least kind text f e =
    let at = fails_at (length text) [] (tokens text) f e in
    record {
      here = InHead at.more at.rest (record { parts = at.parts; keyed = at.keyed }) at.fault;
      apart = λ g other. other_apart g other;
    }
  where
    other_apart : (g : GridFault) → HasFault kind text g → Apart f g
    other_apart g (InHead pairs rest begins fault) = head_first (length text) 0 [] (tokens text) f pairs rest g (order_of text) e begins.parts fault
    other_apart g (InCells pairs cells rows cols head nodata begins ended h fault) =
        let run : pairs_from (length text) [] (tokens text) ≡ Ok (pairs, cells) = ap (pairs_from (length text) []) begins.parts ∙ pairs_run (length text) [] pairs cells rows cols head nodata h ended in
        absurd (cc)

-- where the pairs end and no head is read
front_least : (kind : Kind) (text : List ℕ) (pairs : List Pair) (rest : List Token) (f : GridFault) → pairs_from (length text) [] (tokens text) ≡ Ok (pairs, rest) → heading_of (fault_at kinds.Head (place_of (length text) rest)) pairs ≡ Err f → IsLeast kind text f
front_least kind text pairs rest f e bad =
    let stops = pairs_read (length text) [] (tokens text) pairs rest nothing_fine e in
    let lacks = front_lacks (fault_at kinds.Head (place_of (length text) rest)) f pairs stops.fine bad in
    record {
      here = InHead pairs rest (record { parts = stops.parts ∙ ap (λ ps. tokens_of_pairs ps ++ rest) (sym stops.joined); keyed = keyed_of pairs stops.fine.valued }) (Lacking lacks.key stops.ended lacks.needed lacks.none lacks.is);
      apart = λ g other. inr (lacks.is ∙ sym (other_is g other));
    }
  where
    other_is : (g : GridFault) → HasFault kind text g → g ≡ fault_at kinds.Head (place_of (length text) rest)
    other_is g (InHead more left begins fault) = (read_lacks (length text) [] (tokens text) pairs rest more left g e begins.parts begins.keyed fault).is
    other_is g (InCells others cells rows cols head nodata begins ended h fault) =
        let run : pairs_from (length text) [] (tokens text) ≡ Ok (others, cells) = ap (pairs_from (length text) []) begins.parts ∙ pairs_run (length text) [] others cells rows cols head nodata h ended in
        let same : ◌≡◌ {A = List Pair × List Token} (others, cells) (pairs, rest) = ok_is _ _ (sym run ∙ e) in
        let front : heading_of (fault_at kinds.Head (place_of (length text) rest)) pairs ≡ Ok (record { rows = rows; cols = cols; head = head; nodata = nodata }) =
        ap (heading_of (fault_at kinds.Head (place_of (length text) rest))) (ap (λ (x : List Pair × List Token). x.0) (sym same)) ∙ front_is (fault_at kinds.Head (place_of (length text) rest)) others rows cols head nodata h in
        absurd (cc)

-- behind a head a fault is one of the cells
only_cells : (kind : Kind) (text : List ℕ) (pairs : List Pair) (rest : List Token) (front : Heading) (g : GridFault) → pairs_from (length text) [] (tokens text) ≡ Ok (pairs, rest) → IsHead pairs front.rows front.cols front.head front.nodata → HasFault kind text g → CellFault kind (length text) (front.rows * front.cols) front.nodata rest g
only_cells kind text pairs rest front g e h (InHead more left begins fault) =
    let lacks = read_lacks (length text) [] (tokens text) pairs rest more left g e begins.parts begins.keyed fault in
    absurd (none_lacks pairs front.rows front.cols front.head front.nodata h lacks.key lacks.needed lacks.none)
only_cells kind text pairs rest front g e h (InCells others cells rows cols head nodata begins ended other_h fault) =
    let run : pairs_from (length text) [] (tokens text) ≡ Ok (others, cells) = ap (pairs_from (length text) []) begins.parts ∙ pairs_run (length text) [] others cells rows cols head nodata other_h ended in
    let same : (others, cells) ≡ (pairs, rest) = ok_is _ _ (sym run ∙ e) in
    let other : Heading = record { rows = rows; cols = cols; head = head; nodata = nodata } in
    let front_same : other ≡ front = ok_is _ _ (sym (ap (heading_of g) (ap (λ (x : List Pair × List Token). x.0) (sym same)) ∙ front_is g others rows cols head nodata other_h) ∙ front_is g pairs front.rows front.cols front.head front.nodata h) in
    let here : CellFault kind (length text) (rows * cols) nodata rest g = subst (λ (x : List Pair × List Token). CellFault kind (length text) (rows * cols) nodata x.1 g) same fault in
    subst (λ (x : Heading). CellFault kind (length text) (x.rows * x.cols) x.nodata rest g) front_same here

-- where the cells fail
cells_least : (kind : Kind) (text : List ℕ) (pairs : List Pair) (rest : List Token) (front : Heading) (f : GridFault) → pairs_from (length text) [] (tokens text) ≡ Ok (pairs, rest) → IsHead pairs front.rows front.cols front.head front.nodata → cells_from kind front.nodata (length text) (front.rows * front.cols) rest ≡ Err f → IsLeast kind text f
cells_least kind text pairs rest front f e h bad =
    let stops = pairs_read (length text) [] (tokens text) pairs rest nothing_fine e in
    let parts : tokens text ≡ tokens_of_pairs pairs ++ rest = stops.parts ∙ ap (λ ps. tokens_of_pairs ps ++ rest) (sym stops.joined) in
    let order : InOrder 0 (length text) rest = order_behind 0 (length text) (tokens_of_pairs pairs) rest (subst (InOrder 0 (length text)) parts (order_of text)) in
    record {
      here = InCells pairs rest front.rows front.cols front.head front.nodata (record { parts = parts; keyed = keyed_of pairs stops.fine.valued }) stops.ended h (cells_fail kind front.nodata (length text) (front.rows * front.cols) rest f bad);
      apart = λ g other. cells_first kind front.nodata (length text) 0 (front.rows * front.cols) rest f g order bad (only_cells kind text pairs rest front g e h other);
    }

least : (kind : Kind) (text : List ℕ) (f : GridFault) → grid_of kind text ≡ Err f → IsLeast kind text f
unfolding grid_of
least kind text f e =
    bind_fails (pairs_from (length text) [] (tokens text)) _ f e
    (λ bad. pairs_least kind text f bad)
    (λ found ep e1. bind_fails (heading_of (fault_at kinds.Head (place_of (length text) found.1)) found.0) _ f e1
    (λ bad. front_least kind text found.0 found.1 f ep bad)
    (λ front ef e2.
    let stops = pairs_read (length text) [] (tokens text) found.0 found.1 nothing_fine ep in
    bind_fails (cells_from kind front.nodata (length text) (front.rows * front.cols) found.1) _ f e2
    (λ bad. cells_least kind text found.0 found.1 front f ep (front_gives _ found.0 front stops.fine ef) bad)
    (λ cells ec e3. absurd (cc))))

-- a grid has no fault
no_fault : (kind : Kind) (text : List ℕ) (grid : Grid) (g : GridFault) → grid_of kind text ≡ Ok grid → HasFault kind text g → ⊥
unfolding grid_of
no_fault kind text grid g e fault =
    bind_gives (pairs_from (length text) [] (tokens text)) _ grid e (λ found ep e1.
    bind_gives (heading_of (fault_at kinds.Head (place_of (length text) found.1)) found.0) _ grid e1 (λ front ef e2.
    bind_gives (cells_from kind front.nodata (length text) (front.rows * front.cols) found.1) _ grid e2 (λ cells ec e3.
    let stops = pairs_read (length text) [] (tokens text) found.0 found.1 nothing_fine ep in
    cells_right kind front.nodata (length text) (front.rows * front.cols) found.1 cells g ec (only_cells kind text found.0 found.1 front g ep (front_gives _ found.0 front stops.fine ef) fault))))

apart_first : (f g : GridFault) → Apart f g → g.at ≤ f.at → f ≡ g
apart_first f g (inl before) first = absurd (omega arith)
apart_first f g (inr same) first = same

apart_not_behind : (f g : GridFault) → Apart f g → f.at ≤ g.at
apart_not_behind f g (inl before) = omega arith
apart_not_behind f g (inr same) = subst (λ (x : GridFault). f.at ≤ x.at) same (omega arith)

pub is_first : (kind : Kind) (text : List ℕ) (f : GridFault) → grid_of kind text ≡ Err f → IsFirstFault kind text f
is_first kind text f e = let l = least kind text f e in record { here = l.here; first = λ g other. apart_not_behind f g (l.apart g other) }

first_is : (kind : Kind) (text : List ℕ) (f : GridFault) → IsFirstFault kind text f → grid_of kind text ≡ Err f
first_is kind text f first =
    result_cases (grid_of kind text)
    (λ grid e. absurd (no_fault kind text grid f e first.here))
    (λ g e. let l = least kind text g e in e ∙ ap (λ (x : GridFault). Err x) (apart_first g f (l.apart f first.here) (first.first g l.here)))

pub first_faults_told : FirstFaultsAreTold
first_faults_told kind text f = (is_first kind text f, first_is kind text f)
