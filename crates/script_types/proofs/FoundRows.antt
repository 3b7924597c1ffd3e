-- The row that a word and a number of operands name.
use Rattle.std.proofs.Common.{◌≡◌, ◌∙◌, ◌<◌, ℕ, Bool, true, false, not, ◌&&◌, ◌||◌, List, [], ◌∷◌, refl, sym, ap, subst, if◌then◌else◌, arith}
use Rattle.std.specs.Prelude.{All, Some, ◌==◌, nat_le, nat_lt}
use Rattle.std.specs.List.{before_first, find, list_all}
use Rattle.std.specs.Str.{bytes_eq}
use Rattle.std.proofs.lemmas.List.Elements.{All-head, All-tail}
use Rattle.std.proofs.lemmas.Slice.Eq.{bytes_eq-Decides}
use Rattle.text_base.specs.Bytes.{space}
use Rattle.cell_values.specs.declared.kind.Kind.{Kind}
use Rattle.cell_values.specs.declared.kind.Kind.TheVariants.{Boolean, Scalar, Ldd}
use Rattle.map_meaning.specs.declared.op.Op.{Op}
use Rattle.map_meaning.specs.declared.op.Op.TheVariants as op
use Rattle.map_meaning.specs.declared.row.Row.{Row}
use Rattle.map_meaning.specs.declared.row.Kinds.{Kinds}
use Rattle.map_meaning.specs.declared.row.Ask.{Ask}
use Rattle.map_meaning.specs.declared.row.Ask.TheVariants as ask
use Rattle.map_meaning.specs.declared.row.Given.{Given}
use Rattle.map_meaning.specs.declared.row.Given.TheVariants as given
use Rattle.map_meaning.specs.declared.row.Meant.{Meant}
use Rattle.map_meaning.specs.declared.row.Meant.TheVariants as meant
use Rattle.map_meaning.specs.declared.row.Stands.{Stands}
use Rattle.map_meaning.specs.declared.row.Stands.TheVariants as stands
use Rattle.map_meaning.specs.declared.table.TheConstants.{MANY_OPERANDS}
use Rattle.map_meaning.specs.Laws.{IsItsRow}
use Rattle.map_meaning.specs.Table.{ask_at, behind_file, first_alike, is_alike, is_focal, is_kind, is_length, table_rows, takes}
use Rattle.map_meaning.proofs.Callers.{each_its_row}
use Rattle.script_types.specs.Table.{asks_drain, first_ask, is_spelled, is_window, row_for, stands_of, word_row}
use Rattle.script_types.proofs.FitLemmas.{both-left, both-right, not-true}
use Rattle.script_types.proofs.FoundInputs.{found-passes}

-- ---- rows that ask maps

-- the two tests say one
abbrev pub same-test : Bool → Bool → Bool
same-test true b = b
same-test false b = not b

-- the kinds are the same
abbrev pub same-kinds : Kinds → Kinds → Bool
same-kinds a b = same-test a.boolean b.boolean && same-test a.nominal b.nominal && same-test a.ordinal b.ordinal && same-test a.scalar b.scalar && same-test a.directional b.directional && same-test a.ldd b.ldd

-- The place asks for a map. Unless it asks a drain map alone, a number without a kind has one there that is no drain map's.
abbrev pub asks-map : Ask → Bool
asks-map (ask.Only kind) = true
asks-map (ask.One kinds) = kinds.scalar || kinds.nominal
asks-map (ask.Alike kinds) = kinds.scalar && not kinds.ldd
asks-map _ = false

-- the place asks for a map that is no drain map
abbrev pub asks-plain : Ask → Bool
asks-plain (ask.Only kind) = not (is_kind Ldd kind)
asks-plain (ask.One kinds) = not kinds.ldd
asks-plain (ask.Alike kinds) = not kinds.ldd
asks-plain _ = false

-- where the place asks for one of the kinds in which operands agree, it is one of these
abbrev pub alike-in : Kinds → Ask → Bool
alike-in kinds (ask.Alike others) = same-kinds kinds others
alike-in kinds _ = true

-- all places that ask to agree ask the same as this one
abbrev pub agrees-with : Ask → Row → Bool
agrees-with (ask.Alike kinds) row = alike-in kinds row.first && alike-in kinds row.second && alike-in kinds row.further
agrees-with _ row = true

-- the row gives its operands' common kind
abbrev pub is-common : Given → Bool
is-common given.Common = true
is-common _ = false

-- the kind that is given is no drain map's, and there is a common one where it is that
abbrev pub gives-map : Row → Given → Bool
gives-map row (given.Always kind) = not (is_kind Ldd kind)
gives-map row given.Common = is_alike (ask_at row (first_alike row))
gives-map row (given.Same i) = asks-plain (ask_at row i)

-- the row takes at most four operands, or it is nested: of two operands that agree, and it gives their kind
abbrev pub takes-few : Row → Bool
takes-few row = if nat_lt row.most MANY_OPERANDS then nat_le row.most 4 else (row.least == 2) && (is_alike row.first && (is_alike row.second && (is_alike row.further && is-common row.gives)))

-- the first place that asks to agree is below the least number of operands
abbrev pub has-alike : Row → Bool
has-alike row = not (is_alike (ask_at row (first_alike row))) || nat_lt (first_alike row) row.least

-- the row asks maps, which agree where they are asked to, and a drain map alone as its first operand at most
abbrev pub asks-maps : Row → Bool
asks-maps row = (asks-map row.first && (asks-map row.second && asks-map row.further)) && ((agrees-with row.first row && (agrees-with row.second row && agrees-with row.further row)) && (not (asks_drain row.second) && not (asks_drain row.further)))

-- it asks as many as an operation has, and gives a map that is no drain map
abbrev pub is-plain : Row → Bool
is-plain row = asks-maps row && (gives-map row row.gives && (takes-few row && has-alike row))

-- what holds of a row that asks maps
pub record AsksMaps (row : Row) : Type 0 where
  pub asks : (i : ℕ) → asks-map (ask_at row i) ≡ true
  pub agrees : (i : ℕ) → agrees-with (ask_at row i) row ≡ true
  pub drains : (i : ℕ) → 0 < i → asks_drain (ask_at row i) ≡ false

-- what holds of one that also takes this many, and gives a map
pub record IsPlain (count : ℕ) (row : Row) : Type 0 where
  pub takes : takes row count ≡ true
  pub maps : AsksMaps row
  pub gives : gives-map row row.gives ≡ true
  pub few : takes-few row ≡ true
  pub alike : has-alike row ≡ true

at-place : (p : Ask → Bool) (row : Row) (i : ℕ) → (p row.first && (p row.second && p row.further)) ≡ true → p (ask_at row i) ≡ true
at-place p row i h = let more = both-right (p row.first) (p row.second && p row.further) h in
    by-place (i == 0) (i == 1) (both-left (p row.first) (p row.second && p row.further) h) (both-left (p row.second) (p row.further) more) (both-right (p row.second) (p row.further) more)
  where
    by-place : (s t : Bool) → p row.first ≡ true → p row.second ≡ true → p row.further ≡ true → p (if s then row.first else if t then row.second else row.further) ≡ true
    by-place true t a b c = a
    by-place false true a b c = b
    by-place false false a b c = c

no-first : (i : ℕ) → 0 < i → (i == 0) ≡ true → ⊥
no-first i h e = grind (arith, h, e)

behind-first : (row : Row) (i : ℕ) → 0 < i → (not (asks_drain row.second) && not (asks_drain row.further)) ≡ true → asks_drain (ask_at row i) ≡ false
behind-first row i hi h = by-place (i == 0) (i == 1) refl
  where
    by-place : (s t : Bool) → (i == 0) ≡ s → asks_drain (if s then row.first else if t then row.second else row.further) ≡ false
    by-place true t e = absurd (no-first i hi e)
    by-place false true e = not-true (asks_drain row.second) (both-left (not (asks_drain row.second)) (not (asks_drain row.further)) h)
    by-place false false e = not-true (asks_drain row.further) (both-right (not (asks_drain row.second)) (not (asks_drain row.further)) h)

pub maps-asked : (row : Row) → asks-maps row ≡ true → AsksMaps row
maps-asked row h =
    let first = asks-map row.first && (asks-map row.second && asks-map row.further) in
    let second = agrees-with row.first row && (agrees-with row.second row && agrees-with row.further row) in
    let third = not (asks_drain row.second) && not (asks_drain row.further) in
    let rest = both-right first (second && third) h in
    record {
      asks = λ i. at-place asks-map row i (both-left first (second && third) h);
      agrees = λ i. at-place (λ a. agrees-with a row) row i (both-left second third rest);
      drains = λ i hi. behind-first row i hi (both-right second third rest);
    }

-- such a row, where it takes this many
pub plain-row : (count : ℕ) (row : Row) → takes row count ≡ true → is-plain row ≡ true → IsPlain count row
plain-row count row ht hp =
    let rest = both-right (asks-maps row) (gives-map row row.gives && (takes-few row && has-alike row)) hp in
    let more = both-right (gives-map row row.gives) (takes-few row && has-alike row) rest in
    record {
      takes = ht;
      maps = maps-asked row (both-left (asks-maps row) (gives-map row row.gives && (takes-few row && has-alike row)) hp);
      gives = both-left (gives-map row row.gives) (takes-few row && has-alike row) rest;
      few = both-left (takes-few row) (has-alike row) more;
      alike = both-right (takes-few row) (has-alike row) more;
    }

-- ---- rows of tables, series, stacks, the step and samples

-- the operation looks its results up in a table
abbrev pub is-table-op : Op → Bool
is-table-op op.LookupBoolean = true
is-table-op op.LookupNominal = true
is-table-op op.LookupOrdinal = true
is-table-op op.LookupScalar = true
is-table-op op.LookupDirectional = true
is-table-op _ = false

-- the operation looks its results up in a series
abbrev pub is-series-op : Op → Bool
is-series-op op.TimeInputBoolean = true
is-series-op op.TimeInputNominal = true
is-series-op op.TimeInputOrdinal = true
is-series-op op.TimeInputScalar = true
is-series-op op.TimeInputDirectional = true
is-series-op _ = false

-- the kind is the one that is given, and no drain map's
abbrev pub gives-kind : Given → Kind → Bool
gives-kind (given.Always given) kind = is_kind kind given && not (is_kind Ldd kind)
gives-kind _ kind = false

-- the place asks a table or a series, which the operation looks its results up in, and whose kind is given
abbrev pub asks-file : Ask → Given → Op → Bool
asks-file (ask.Table kind) gives o = gives-kind gives kind && is-table-op o
asks-file (ask.Series kind) gives o = gives-kind gives kind && is-series-op o
asks-file _ gives o = false

-- the row looks its results up: its first operand is a table or a series, and the others are maps
abbrev pub is-look-up : Op → Row → Bool
is-look-up o row = asks-file row.first row.gives o && ((nat_le 2 row.least && nat_le row.most 5) && (not (asks_drain row.second) && is-plain (behind_file row)))

-- the place asks a map of ids
abbrev pub asks-ids : Ask → Bool
asks-ids (ask.One kinds) = not kinds.scalar && (not kinds.directional && not kinds.ldd)
asks-ids _ = false

-- the place asks a stack
abbrev pub asks-stack : Ask → Bool
asks-stack ask.Stack = true
asks-stack _ = false

-- a scalar is given
abbrev pub gives-scalar : Given → Bool
gives-scalar (given.Always kind) = is_kind kind Scalar
gives-scalar _ = false

-- the kind of the operand at this place is given
abbrev pub gives-same : Given → ℕ → Bool
gives-same (given.Same i) n = i == n
gives-same _ n = false

-- the places in the script are the same
abbrev pub same-stands : Stands → Stands → Bool
same-stands stands.Anywhere stands.Anywhere = true
same-stands stands.Dynamic stands.Dynamic = true
same-stands stands.Sample stands.Sample = true
same-stands stands.Mask stands.Mask = true
same-stands _ _ = false

-- the row takes just so many operands
abbrev pub takes-just : ℕ → Row → Bool
takes-just n row = (row.least == n) && (row.most == n)

-- the place asks for one map that is no drain map and agrees with no other
abbrev pub asks-alone : Ask → Bool
asks-alone asked = asks-map asked && (asks-plain asked && not (is_alike asked))

-- the kind that is given is no drain map's, or that of the first operand
abbrev pub gives-alone : Given → Bool
gives-alone (given.Always kind) = not (is_kind Ldd kind)
gives-alone (given.Same i) = i == 0
gives-alone given.Common = false

-- the row looks at windows: its first operand is a map, and its second the length
abbrev pub is-windowed : Op → Row → Bool
is-windowed o row = (is_focal o && is_length row.second) && (takes-just 2 row && (asks-alone row.first && gives-alone row.gives))

-- the place asks for a map of this kind
abbrev pub asks-kind : Ask → Kind → Bool
asks-kind (ask.Only asked) kind = is_kind asked kind
asks-kind _ kind = false

-- a drain map is given
abbrev pub gives-drain : Given → Bool
gives-drain (given.Always kind) = is_kind Ldd kind
gives-drain _ = false

-- the row masks a drain map with a boolean
abbrev pub is-masking : Row → Bool
is-masking row = asks-maps row && ((asks-kind row.first Ldd && asks-kind row.second Boolean) && (takes-just 2 row && gives-drain row.gives))

-- what each row is, by what it stands for
abbrev pub is-as-meant : Meant → Row → Bool
is-as-meant (meant.Op o) row = is-plain row || (is-look-up o row || is-windowed o row)
is-as-meant meant.Step row = same-stands stands.Dynamic row.stands && (gives-scalar row.gives && asks-map row.first)
is-as-meant meant.Stack row = same-stands stands.Dynamic row.stands && (asks-stack row.first && (takes-just 1 row && gives-same row.gives 0))
is-as-meant meant.Sample row = same-stands stands.Sample row.stands && (is-plain row && (asks-ids row.first && (takes-just 2 row && asks-plain row.second)))
is-as-meant meant.Mask row = same-stands stands.Mask row.stands && is-masking row

all-as-meant : list_all (λ row. is-as-meant row.meant row) table_rows ≡ true
unfolding table_rows
all-as-meant = refl

-- ---- rows that are written alike

-- the place asks no table, no series and no stack
abbrev pub asks-no-file : Ask → Bool
asks-no-file (ask.Table k) = false
asks-no-file (ask.Series k) = false
asks-no-file ask.Stack = false
asks-no-file _ = true

-- both ask the same table, series or stack, or neither asks one
abbrev pub same-file : Ask → Ask → Bool
same-file (ask.Table j) (ask.Table k) = is_kind j k
same-file (ask.Series j) (ask.Series k) = is_kind j k
same-file ask.Stack ask.Stack = true
same-file a b = asks-no-file a && asks-no-file b

-- how a row is written
abbrev pub spelling : Row → List ℕ
spelling row = before_first (λ byte. byte == space) row.word

-- the rows stand at the same places, and ask the same table, series or stack, a drain map or a length where one does
abbrev pub are-one : Row → Row → Bool
are-one row other = (same-file row.first other.first && same-stands row.stands other.stands) && (same-test (asks_drain row.first) (asks_drain other.first) && same-test (is_length row.second) (is_length other.second))

-- rows that are written alike do
abbrev pub are-alike : Row → Row → Bool
are-alike row other = not (bytes_eq (spelling row) (spelling other)) || are-one row other

all-alike : list_all (λ row. list_all (are-alike row) table_rows) table_rows ≡ true
unfolding table_rows
all-alike = refl

pub same_stands : (a b : Stands) → same-stands a b ≡ true → a ≡ b
same_stands stands.Anywhere stands.Anywhere h = refl
same_stands stands.Anywhere stands.Dynamic h = cc
same_stands stands.Anywhere stands.Sample h = cc
same_stands stands.Anywhere stands.Mask h = cc
same_stands stands.Dynamic stands.Anywhere h = cc
same_stands stands.Dynamic stands.Dynamic h = refl
same_stands stands.Dynamic stands.Sample h = cc
same_stands stands.Dynamic stands.Mask h = cc
same_stands stands.Sample stands.Anywhere h = cc
same_stands stands.Sample stands.Dynamic h = cc
same_stands stands.Sample stands.Sample h = refl
same_stands stands.Sample stands.Mask h = cc
same_stands stands.Mask stands.Anywhere h = cc
same_stands stands.Mask stands.Dynamic h = cc
same_stands stands.Mask stands.Sample h = cc
same_stands stands.Mask stands.Mask h = refl

-- ---- the row that is found

-- what holds of a row that a word and so many operands name
pub record IsFound (word : List ℕ) (count : ℕ) (row : Row) : Type 0 where
  pub takes : takes row count ≡ true
  pub its : IsItsRow row
  pub as_meant : is-as-meant row.meant row ≡ true
  -- what the word's first row asks, and where the word may stand
  pub first : same-file row.first (first_ask (word_row word)) ≡ true
  pub stands : stands_of (word_row word) ≡ row.stands
  pub drain : asks_drain (first_ask (word_row word)) ≡ asks_drain row.first
  pub window : is_window (word_row word) ≡ is_length row.second

-- neither holds
pub neither-left : (a b : Bool) → (a || b) ≡ false → a ≡ false
neither-left false b h = refl
neither-left true b h = cc

pub neither-right : (a b : Bool) → (a || b) ≡ false → b ≡ false
neither-right false b h = h
neither-right true b h = cc

-- what is found has what all have
pub found-all : {A : Type 0} (p q : A → Bool) (xs : List A) (y : A) → list_all q xs ≡ true → find p xs ≡ Some y → q y ≡ true
found-all p q [] y ha h = cc
found-all p q (x ∷ xs) y ha h = by-test (p x) (both-left (q x) (list_all q xs) ha) (found-all p q xs y (both-right (q x) (list_all q xs) ha)) h
  where
    by-test : (t : Bool) → q x ≡ true → (find p xs ≡ Some y → q y ≡ true) → (if t then Some x else find p xs) ≡ Some y → q y ≡ true
    by-test true hq ih g = let e : x ≡ y = cc in sym (ap q e) ∙ hq
    by-test false hq ih g = ih g

found-its : (p : Row → Bool) (rows : List Row) (row : Row) → All IsItsRow rows → find p rows ≡ Some row → IsItsRow row
found-its p [] row ha h = cc
found-its p (r ∷ rs) row ha h = by-test (p r) (found-its p rs row (All-tail IsItsRow r rs ha)) h
  where
    by-test : (t : Bool) → (find p rs ≡ Some row → IsItsRow row) → (if t then Some r else find p rs) ≡ Some row → IsItsRow row
    by-test true ih g = let e : r ≡ row = cc in subst IsItsRow e (All-head IsItsRow r rs ha)
    by-test false ih g = ih g

-- what passes two tests passes the first, so something is found by it
found-one : {A : Type 0} (p q : A → Bool) (xs : List A) (y : A) → find (λ x. p x && q x) xs ≡ Some y → (x : A) × (find p xs ≡ Some x)
found-one p q [] y h = cc
found-one {A = A} p q (x ∷ xs) y h = by-test (p x) (q x) (found-one p q xs y) h
  where
    by-test : (s t : Bool) → (find (λ z. p z && q z) xs ≡ Some y → (z : A) × (find p xs ≡ Some z)) → (if s && t then Some x else find (λ z. p z && q z) xs) ≡ Some y → (z : A) × ((if s then Some x else find p xs) ≡ Some z)
    by-test true t ih g = (x, refl)
    by-test false t ih g = ih g

tests-same : (a b : Bool) → same-test a b ≡ true → b ≡ a
tests-same true b h = h
tests-same false b h = not-true b h

alike-of : (s t : Bool) → s ≡ true → (not s || t) ≡ true → t ≡ true
alike-of true t hs h = h
alike-of false t hs h = cc

same-spelling : (row other : Row) (word : List ℕ) → is_spelled row word ≡ true → is_spelled other word ≡ true → bytes_eq (spelling row) (spelling other) ≡ true
same-spelling row other word h g = (bytes_eq-Decides (spelling row) (spelling other)).1 ((bytes_eq-Decides (spelling row) word).0 h ∙ sym ((bytes_eq-Decides (spelling other) word).0 g))

-- the row of a call is one of the table, and takes as many operands
pub found-row : (word : List ℕ) (count : ℕ) (row : Row) → row_for word count ≡ Some row → IsFound word count row
unfolding row_for word_row
found-row word count row h =
    let asked = λ (r : Row). is_spelled r word && takes r count in
    let passes = found-passes asked table_rows row h in
    let spelled = both-left (is_spelled row word) (takes row count) passes in
    let first = found-one (λ r. is_spelled r word) (λ r. takes r count) table_rows row h in
    let other = first.0 in
    let alike = alike-of (bytes_eq (spelling row) (spelling other)) (are-one row other)
    (same-spelling row other word spelled (found-passes (λ r. is_spelled r word) table_rows other first.1))
    (found-all (λ r. is_spelled r word) (are-alike row) table_rows other (found-all asked (λ r. list_all (are-alike r) table_rows) table_rows row all-alike h) first.1) in
    let file = same-file row.first other.first in
    let at = same-stands row.stands other.stands in
    let drain = same-test (asks_drain row.first) (asks_drain other.first) in
    let length = same-test (is_length row.second) (is_length other.second) in
    let two = both-left (file && at) (drain && length) alike in
    let more = both-right (file && at) (drain && length) alike in
    record {
      takes = both-right (is_spelled row word) (takes row count) passes;
      its = found-its asked table_rows row each_its_row h;
      as_meant = found-all asked (λ r. is-as-meant r.meant r) table_rows row all-as-meant h;
      first = ap (λ o. same-file row.first (first_ask o)) first.1 ∙ both-left file at two;
      stands = ap stands_of first.1 ∙ sym (same_stands row.stands other.stands (both-right file at two));
      drain = ap (λ o. asks_drain (first_ask o)) first.1 ∙ tests-same (asks_drain row.first) (asks_drain other.first) (both-left drain length more);
      window = ap is_window first.1 ∙ tests-same (is_length row.second) (is_length other.second) (both-right drain length more);
    }
