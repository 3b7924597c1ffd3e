-- A text is read by its pairs, its head and its cells in turn.
use Rattle.std.proofs.Common.{◌≡◌, ℕ, ◌*◌, true, List, [], ◌∷◌, length, map, Some, None, Result, Ok, Err, refl, sym, ap, subst, ◌∙◌}
use Rattle.std.specs.Prelude.{codes, IfOk, IfErr}
use Rattle.cell_values.specs.declared.kind.Kind.{Kind}
use Rattle.cell_values.specs.declared.cell.Cell.{Cell}
use Rattle.cell_values.specs.inside.Reading.{decimal_of}
use Rattle.grid_text.specs.declared.key.Key.TheVariants.{Nodata}
use Rattle.grid_text.specs.declared.grid.Grid.{Grid}
use Rattle.grid_text.specs.declared.fault.GridFault.{GridFault}
use Rattle.grid_text.specs.declared.fault.GridKind.TheVariants as kinds
use Rattle.grid_text.specs.declared.fault.ReadGrid.{ReadGrid}
use Rattle.grid_text.specs.declared.fault.ReadGrid.TheVariants.{Fault, Memory}
use Rattle.text_base.specs.Tokens.{tokens}
use Rattle.grid_text.specs.Key.{is_value_of, is_nodata}
use Rattle.grid_text.specs.Form.{Pair, pairs_of, values_of, nodata_of, IsHead, IsGrid}
use Rattle.grid_text.specs.Faults.{fault_at, place_of}
use Rattle.text_base.specs.Results.{◌>>=◌}
use Rattle.grid_text.specs.inside.Reading.{Heading, cells_from, grid_of}
use Rattle.grid_text.specs.Reading.{ReadsGrid, TellsFirst}
use Rattle.text_base.specs.Tokens.{tokens_left}
use Rattle.grid_text.specs.inside.Steps.{Fails, Values, heading_given, ReadsPairs}
use Rattle.text_base.proofs.Callers.{some_is}
use Rattle.grid_text.proofs.Pairs.{nothing_fine, pairs_read}
use Rattle.grid_text.proofs.Heads.{front_gives, value_is}
use Rattle.grid_text.proofs.GivenLaws.{front_values}
use Rattle.grid_text.proofs.Laws.{is_grid, grid_is, is_first}

default_nodata : is_nodata (codes "-9999") ≡ true
unfolding decimal_of
default_nodata = refl

head_nodata : (pairs : List Pair) (nodata : List ℕ) (ps : List Pair) → pairs_of Nodata pairs ≡ ps → nodata_of (values_of Nodata pairs) ≡ Some nodata → ((p : Pair) (qs : List Pair) → pairs_of Nodata pairs ≡ p ∷ qs → is_value_of Nodata p.value.bytes ≡ true) → is_nodata nodata ≡ true
head_nodata pairs nodata [] are e good =
    let is : codes "-9999" ≡ nodata = some_is _ _ (sym (ap (λ ps. nodata_of (map (λ (p : Pair). p.value.bytes) ps)) are) ∙ e) in
    subst (λ v. is_nodata v ≡ true) is default_nodata
head_nodata pairs nodata (p ∷ []) are e good =
    let is : p.value.bytes ≡ nodata = some_is _ _ (sym (ap (λ ps. nodata_of (map (λ (q : Pair). q.value.bytes) ps)) are) ∙ e) in
    subst (λ v. is_nodata v ≡ true) is (good p [] are)
head_nodata pairs nodata (p ∷ q ∷ ps) are e good =
    let bad : None ≡ Some nodata = sym (ap (λ us. nodata_of (map (λ (w : Pair). w.value.bytes) us)) are) ∙ e in absurd (cc)

-- ---- the parts in turn

module _ (kind : Kind) (text : List ℕ) (given : Values) (rest : List ℕ) (r : ReadsPairs text given rest) where
  -- the fault where a key lacks
  abbrev pub lacking : GridFault
  lacking = fault_at kinds.Head (place_of (length text) (tokens_left (length text) rest))

  behind_pairs : grid_of kind text ≡ (heading_given lacking given >>= λ front. cells_from kind front.nodata (length text) (front.rows * front.cols) (tokens_left (length text) rest) >>= λ cells. Ok (record { rows = front.rows; cols = front.cols; head = front.head; cells = cells }))
  unfolding grid_of
  behind_pairs = rw (r.read, front_values lacking r.pairs given r.values) refl

  pub front_fails : (e : ReadGrid) → Fails e (heading_given lacking given) → ReadsGrid (Err e) (grid_of kind text)
  front_fails (Fault f) told = behind_pairs ∙ ap (λ r. r >>= λ front. cells_from kind front.nodata (length text) (front.rows * front.cols) (tokens_left (length text) rest) >>= λ cells. Ok (record { rows = front.rows; cols = front.cols; head = front.head; cells = cells })) told
  front_fails Memory told = tt

  module _ (front : Heading) (is : heading_given lacking given ≡ Ok front) where
    behind_front : grid_of kind text ≡ (cells_from kind front.nodata (length text) (front.rows * front.cols) (tokens_left (length text) rest) >>= λ cells. Ok (record { rows = front.rows; cols = front.cols; head = front.head; cells = cells }))
    behind_front = behind_pairs ∙ ap (λ r. r >>= λ front. cells_from kind front.nodata (length text) (front.rows * front.cols) (tokens_left (length text) rest) >>= λ cells. Ok (record { rows = front.rows; cols = front.cols; head = front.head; cells = cells })) is

    pub cells_fail : (e : ReadGrid) → Fails e (cells_from kind front.nodata (length text) (front.rows * front.cols) (tokens_left (length text) rest)) → ReadsGrid (Err e) (grid_of kind text)
    cells_fail (Fault f) told = behind_front ∙ ap (λ r. r >>= λ cells. Ok (record { rows = front.rows; cols = front.cols; head = front.head; cells = cells })) told
    cells_fail Memory told = tt

    pub cells_give : (cells : List Cell) → cells_from kind front.nodata (length text) (front.rows * front.cols) (tokens_left (length text) rest) ≡ Ok cells → grid_of kind text ≡ Ok (record { rows = front.rows; cols = front.cols; head = front.head; cells = cells })
    cells_give cells told = behind_front ∙ ap (λ r. r >>= λ cells. Ok (record { rows = front.rows; cols = front.cols; head = front.head; cells = cells })) told

    head_of : IsHead r.pairs front.rows front.cols front.head front.nodata
    head_of = front_gives lacking r.pairs front (pairs_read (length text) [] (tokens text) r.pairs (tokens_left (length text) rest) nothing_fine r.read).fine (front_values lacking r.pairs given r.values ∙ is)

    -- the value of the head may stand for a missing cell
    pub nodata_good : is_nodata front.nodata ≡ true
    nodata_good = head_nodata r.pairs front.nodata (pairs_of Nodata r.pairs) refl head_of.has_nodata (λ p ps is. value_is Nodata r.pairs p ps head_of.valued is)

-- ---- what the answers mean

pub found : (kind : Kind) (text : List ℕ) (r : Result Grid ReadGrid) → ReadsGrid r (grid_of kind text) → IfOk r (IsGrid kind text)
found kind text (Ok grid) e = is_grid kind text grid e
found kind text (Err e) told = tt

pub only : (kind : Kind) (text : List ℕ) (r : Result Grid ReadGrid) → ReadsGrid r (grid_of kind text) → (grid : Grid) → IsGrid kind text grid → ReadsGrid r (Ok grid)
only kind text r reads grid is = subst (ReadsGrid r) (grid_is kind text grid is) reads

pub first : (kind : Kind) (text : List ℕ) (r : Result Grid ReadGrid) → ReadsGrid r (grid_of kind text) → IfErr r (TellsFirst kind text)
first kind text (Ok grid) e = tt
first kind text (Err (Fault f)) told = is_first kind text f told
first kind text (Err Memory) told = tt
