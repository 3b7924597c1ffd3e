-- That operands at their places fit, and in which kind they agree.
use Rattle.std.proofs.Common.{◌≡◌, ◌<◌, ℕ, zero, suc, ◌+◌, Bool, true, false, not, ◌&&◌, ◌||◌, List, [], ◌∷◌, map, length, refl, sym, ap, subst, ◌∙◌, Ok, if◌then◌else◌, arith}
use Rattle.std.specs.Prelude.{⊤, Option, None, Some, slice_index_or, nat_le, ◌==◌}
use Rattle.std.specs.Option.{unwrap_or}
use Rattle.std.specs.List.{list_all}
use Rattle.text_base.specs.Results.{◌>>=◌}
use Rattle.cell_values.specs.declared.kind.Kind.{Kind}
use Rattle.cell_values.specs.declared.kind.Kind.TheVariants.{Boolean, Nominal, Ordinal, Scalar, Directional, Ldd}
use Rattle.map_meaning.specs.declared.row.Row.{Row}
use Rattle.map_meaning.specs.declared.row.Kinds.{Kinds}
use Rattle.map_meaning.specs.declared.row.Ask.{Ask}
use Rattle.map_meaning.specs.declared.row.Ask.TheVariants as ask
use Rattle.map_meaning.specs.declared.row.Given.{Given}
use Rattle.map_meaning.specs.declared.row.Given.TheVariants as given
use Rattle.map_meaning.specs.Table.{allows, ask_at, given_kind, has_kind, is_kind}
use Rattle.map_meaning.proofs.Callers.{same_kind}
use Rattle.script_types.specs.declared.fault.MeaningKind.TheVariants.{KindMismatch}
use Rattle.script_types.specs.declared.typed.Argument.{Argument}
use Rattle.script_types.specs.declared.typed.Argument.TheVariants as argument
use Rattle.script_types.specs.declared.typed.Typed.{Typed}
use Rattle.script_types.specs.declared.typed.Typed.TheVariants as typed
use Rattle.script_types.specs.declared.typed.UsedAs.{UsedAs}
use Rattle.script_types.specs.declared.typed.UsedAs.TheVariants as used
use Rattle.script_types.specs.Table.{asks_drain}
use Rattle.script_types.specs.Typing.{agreed_kind, argument_at, argument_kind, arguments_at, begins_free, bound_file_at, deciding, first_deciding, free_at, is_free, kind_of_free, maps_of, number_as, number_map, or_kind}
use Rattle.script_types.specs.inside.Fits.{Ground, fits}
use Rattle.script_types.specs.inside.Sound.{are_allowed, is_sound}
use Rattle.script_types.proofs.FitLemmas.{both-left, both-right, not-true}
use Rattle.script_types.proofs.FitNodes.{IsGood, IsGoodTyped, not-not, number-good, ok-one, passed-is, passed-test, value-before}
use Rattle.script_types.proofs.FoundRows.{AsksMaps, agrees-with, asks-map, asks-plain, gives-map}
use Rattle.script_types.proofs.RowKinds.{agreed-everywhere, alike-has, both-are, is-alike-of, kind-itself}
use Rattle.script_types.proofs.SoundLemmas.{kind-of}

-- all operands are good, the first in this role
abbrev pub AllGood : Ground → UsedAs → List Typed → Type 0
AllGood g role [] = ⊤
AllGood g role (t ∷ ts) = IsGoodTyped g role t × AllGood g used.Grid ts

-- the operand is a map that fits
abbrev pub IsGoodArgument : Ground → Argument → Type 0
IsGoodArgument g (argument.Map v) = IsGood g v.tree v.kind
IsGoodArgument g (argument.File kind n) = ⊥
IsGoodArgument g (argument.Length length) = ⊥

abbrev pub AllMaps : Ground → List Argument → Type 0
AllMaps g [] = ⊤
AllMaps g (x ∷ xs) = IsGoodArgument g x × AllMaps g xs

-- ---- operands

-- the operand is a map that fits, and is allowed at its place
pub record IsPlaced (g : Ground) (agreed : Kind) (asked : Ask) (x : Argument) : Type 0 where
  pub good : IsGoodArgument g x
  pub allowed : allows agreed asked (argument_kind x) ≡ true

map-good : (g : Ground) (agreed : Kind) (asked : Ask) (kind : Kind) (text : List ℕ) (x : Argument) → is_kind Ldd kind ≡ false → allows agreed asked kind ≡ true → number_map kind text ≡ Ok x → IsPlaced g agreed asked x
map-good g agreed asked kind text x hk ha h =
    let b = value-before (number_as kind text) (λ v. Ok (argument.Map v)) x h in
    let n = number-good g kind text b.0 hk b.1 in
    subst (IsPlaced g agreed asked) (ok-one b.2) (record { good = n.0; allowed = ap (allows agreed asked) (sym n.1) ∙ ha })

free-plain : (kinds : Kinds) → is_kind Ldd (kind_of_free kinds) ≡ false
free-plain kinds = by-test kinds.scalar
  where
    by-test : (b : Bool) → is_kind Ldd (if b then Scalar else Nominal) ≡ false
    by-test true = refl
    by-test false = refl

free-has : (kinds : Kinds) → (kinds.scalar || kinds.nominal) ≡ true → has_kind kinds (kind_of_free kinds) ≡ true
free-has kinds h = by-test kinds.scalar refl h
  where
    by-test : (b : Bool) → kinds.scalar ≡ b → (b || kinds.nominal) ≡ true → has_kind kinds (if b then Scalar else Nominal) ≡ true
    by-test true e g = e
    by-test false e g = g

-- a place that asks no drain map alone
only-plain : (kind : Kind) → asks_drain (ask.Only kind) ≡ false → is_kind Ldd kind ≡ false
only-plain Boolean h = refl
only-plain Nominal h = refl
only-plain Ordinal h = refl
only-plain Scalar h = refl
only-plain Directional h = refl
only-plain Ldd h = cc

free-good : (g : Ground) (agreed : Kind) (asked : Ask) (text : List ℕ) (x : Argument) → is_kind Ldd agreed ≡ false → asks-map asked ≡ true → asks_drain asked ≡ false → alike-has asked agreed ≡ true → free_at agreed asked text ≡ Ok x → IsPlaced g agreed asked x
free-good g agreed (ask.Only kind) text x hk ha hd hh h = map-good g agreed (ask.Only kind) kind text x (only-plain kind hd) (kind-itself kind) h
free-good g agreed (ask.One kinds) text x hk ha hd hh h = map-good g agreed (ask.One kinds) (kind_of_free kinds) text x (free-plain kinds) (free-has kinds ha) h
free-good g agreed (ask.Alike kinds) text x hk ha hd hh h = map-good g agreed (ask.Alike kinds) agreed text x hk (both-are (has_kind kinds agreed) (is_kind agreed agreed) hh (kind-itself agreed)) h
free-good g agreed (ask.Table kind) text x hk ha hd hh h = cc
free-good g agreed (ask.Series kind) text x hk ha hd hh h = cc
free-good g agreed ask.Stack text x hk ha hd hh h = cc
free-good g agreed ask.Length text x hk ha hd hh h = cc

off-true : (b : Bool) → (b && true) ≡ false → b ≡ false
off-true false h = refl
off-true true h = h

-- a table, a series or a stack stands at no such place
no-file-at : (asked : Ask) (t : Typed) (x : Argument) → asks-map asked ≡ true → bound_file_at asked t ≡ Ok x → ⊥
no-file-at (ask.Only kind) t x ha h = cc
no-file-at (ask.One kinds) t x ha h = cc
no-file-at (ask.Alike kinds) t x ha h = cc
no-file-at (ask.Table kind) t x ha h = cc
no-file-at (ask.Series kind) t x ha h = cc
no-file-at ask.Stack t x ha h = cc
no-file-at ask.Length t x ha h = cc

pub argument-good : (g : Ground) (role : UsedAs) (agreed : Kind) (asked : Ask) (t : Typed) (x : Argument) → is_kind Ldd agreed ≡ false → asks-map asked ≡ true → (asks_drain asked && is_free t) ≡ false → alike-has asked agreed ≡ true → IsGoodTyped g role t → argument_at agreed asked t ≡ Ok x → IsPlaced g agreed asked x
argument-good g role agreed asked (typed.Literal text) x hk ha hd hh ht h = free-good g agreed asked text x hk ha (off-true (asks_drain asked) hd) hh h
argument-good g role agreed asked (typed.Constant text) x hk ha hd hh ht h = free-good g agreed asked text x hk ha (off-true (asks_drain asked) hd) hh h
argument-good g role agreed asked (typed.Map v) x hk ha hd hh ht h = subst (IsPlaced g agreed asked) (passed-is ((KindMismatch, not (allows agreed asked v.kind)) ∷ []) (argument.Map v) x h) (record { good = ht; allowed = not-not (allows agreed asked v.kind) (passed-test (KindMismatch, not (allows agreed asked v.kind)) [] (argument.Map v) x h) })
argument-good g role agreed asked (typed.Table kind n) x hk ha hd hh ht h = absurd (no-file-at asked (typed.Table kind n) x ha h)
argument-good g role agreed asked (typed.Series kind n) x hk ha hd hh ht h = absurd (no-file-at asked (typed.Series kind n) x ha h)
argument-good g role agreed asked (typed.Stack kind n) x hk ha hd hh ht h = absurd (no-file-at asked (typed.Stack kind n) x ha h)
argument-good g role agreed asked (typed.Sample ids v) x hk ha hd hh ht h = absurd (no-file-at asked (typed.Sample ids v) x ha h)

-- no number without a kind stands where a drain map alone is asked
abbrev pub NoFreeDrain : Row → ℕ → List Typed → Type 0
NoFreeDrain row i [] = ⊤
NoFreeDrain row i (t ∷ ts) = ((asks_drain (ask_at row i) && is_free t) ≡ false) × NoFreeDrain row (i + 1) ts

no-free-behind : (row : Row) (i : ℕ) (ts : List Typed) → AsksMaps row → 0 < i → NoFreeDrain row i ts
no-free-behind row i [] hm hi = tt
no-free-behind row i (t ∷ ts) hm hi = (ap (λ b. b && is_free t) (hm.drains i hi), no-free-behind row (i + 1) ts hm (omega arith))

-- where the first operand is none
no-free-drain : (r : Row) (ts : List Typed) → AsksMaps r → (asks_drain r.first && begins_free ts) ≡ false → NoFreeDrain r 0 ts
no-free-drain r [] hm h = tt
no-free-drain r (t ∷ ts) hm h = (h, no-free-behind r 1 ts hm (omega arith))

-- operands at their places are maps, as many as there were, and allowed
pub record ArePlaced (g : Ground) (row : Row) (agreed : Kind) (i : ℕ) (ts : List Typed) (xs : List Argument) : Type 0 where
  pub maps : AllMaps g xs
  pub count : length xs ≡ length ts
  pub allowed : are_allowed row agreed i (map argument_kind xs) ≡ true

pub arguments-good : (g : Ground) (role : UsedAs) (row : Row) (agreed : Kind) (i : ℕ) (ts : List Typed) (xs : List Argument) → ((j : ℕ) → asks-map (ask_at row j) ≡ true) → NoFreeDrain row i ts → ((j : ℕ) → alike-has (ask_at row j) agreed ≡ true) → is_kind Ldd agreed ≡ false → AllGood g role ts → arguments_at row agreed i ts ≡ Ok xs → ArePlaced g row agreed i ts xs
arguments-good g role row agreed i [] xs hp hd hh hk ht h = subst (ArePlaced g row agreed i []) (ok-one h) (record { maps = tt; count = refl; allowed = refl })
arguments-good g role row agreed i (t ∷ ts) xs hp hd hh hk ht h =
    let b = value-before (argument_at agreed (ask_at row i) t) (λ x. arguments_at row agreed (i + 1) ts >>= λ ys. Ok (x ∷ ys)) xs h in
    let c = value-before (arguments_at row agreed (i + 1) ts) (λ ys. Ok (b.0 ∷ ys)) xs b.2 in
    let first = argument-good g role agreed (ask_at row i) t b.0 hk (hp i) hd.0 (hh i) ht.0 b.1 in
    let rest = arguments-good g used.Grid row agreed (i + 1) ts c.0 hp hd.1 hh hk ht.1 c.1 in
    subst (ArePlaced g row agreed i (t ∷ ts)) (ok-one c.2) (record {
      maps = (first.good, rest.maps);
      count = ap suc rest.count;
      allowed = both-are (allows agreed (ask_at row i) (argument_kind b.0)) (are_allowed row agreed (i + 1) (map argument_kind c.0)) first.allowed rest.allowed;
    })

-- the maps of operands fit, keep to the table, and have the kinds of the operands
pub record MapsFit (g : Ground) (xs : List Argument) : Type 0 where
  pub fit : list_all (fits g) (maps_of xs) ≡ true
  pub sound : list_all is_sound (maps_of xs) ≡ true
  pub count : length (maps_of xs) ≡ length xs
  pub kinds : map kind-of (maps_of xs) ≡ map argument_kind xs

pub maps-fit : (g : Ground) (xs : List Argument) → AllMaps g xs → MapsFit g xs
maps-fit g [] h = record { fit = refl; sound = refl; count = refl; kinds = refl }
maps-fit g (argument.Map v ∷ xs) h = let i = maps-fit g xs h.1 in record {
  fit = both-are (fits g v.tree) (list_all (fits g) (maps_of xs)) h.0.value i.fit;
  sound = both-are (is_sound v.tree) (list_all is_sound (maps_of xs)) h.0.sound i.sound;
  count = ap suc i.count;
  kinds = ap (λ k. k ∷ map kind-of (maps_of xs)) h.0.of_kind ∙ ap (λ ks. v.kind ∷ ks) i.kinds;
}
maps-fit g (argument.File kind n ∷ xs) h = absurd h.0
maps-fit g (argument.Length length ∷ xs) h = absurd h.0

-- ---- what operands agree in

-- a kind that decides is one that its place asks for
deciding-has : (row : Row) (agreed : Kind) (asked : Ask) (t : Typed) (x : Argument) (k : Kind) → deciding asked t ≡ Some k → argument_at agreed asked t ≡ Ok x → is-alike-of asked k ≡ true
deciding-has row agreed (ask.Alike kinds) (typed.Map v) x k hd h =
    let e : v.kind ≡ k = cc in
    ap (has_kind kinds) (sym e) ∙ both-left (has_kind kinds v.kind) (is_kind agreed v.kind) (not-not (allows agreed (ask.Alike kinds) v.kind) (passed-test (KindMismatch, not (allows agreed (ask.Alike kinds) v.kind)) [] (argument.Map v) x h))
deciding-has row agreed _ _ x k hd h = cc

-- the first that decides stands at such a place
first-has : (row : Row) (agreed : Kind) (i : ℕ) (ts : List Typed) (xs : List Argument) (k : Kind) → first_deciding row i ts ≡ Some k → arguments_at row agreed i ts ≡ Ok xs → (j : ℕ) × (is-alike-of (ask_at row j) k ≡ true)
first-has row agreed i [] xs k hd h = absurd (let z = hd in cc)
first-has row agreed i (t ∷ ts) xs k hd h =
    let b = value-before (argument_at agreed (ask_at row i) t) (λ x. arguments_at row agreed (i + 1) ts >>= λ ys. Ok (x ∷ ys)) xs h in
    let c = value-before (arguments_at row agreed (i + 1) ts) (λ ys. Ok (b.0 ∷ ys)) xs b.2 in
    by-first (deciding (ask_at row i) t) refl b.0 b.1 (λ z. first-has row agreed (i + 1) ts c.0 k z c.1) hd
  where
    by-first : (o : Option Kind) → deciding (ask_at row i) t ≡ o → (x : Argument) → argument_at agreed (ask_at row i) t ≡ Ok x → (first_deciding row (i + 1) ts ≡ Some k → (j : ℕ) × (is-alike-of (ask_at row j) k ≡ true)) → or_kind o (first_deciding row (i + 1) ts) ≡ Some k → (j : ℕ) × (is-alike-of (ask_at row j) k ≡ true)
    by-first None e x hx ih z = ih z
    by-first (Some m) e x hx ih z = (i, deciding-has row agreed (ask_at row i) t x k (e ∙ z) hx)

scalar-has : (asked : Ask) → asks-map asked ≡ true → alike-has asked Scalar ≡ true
scalar-has (ask.Alike kinds) h = both-left kinds.scalar (not kinds.ldd) h
scalar-has (ask.Only kind) h = refl
scalar-has (ask.One kinds) h = refl
scalar-has (ask.Table kind) h = refl
scalar-has (ask.Series kind) h = refl
scalar-has ask.Stack h = refl
scalar-has ask.Length h = refl

-- each place that asks to agree has what is agreed
pub agreed-has : (row : Row) (ts : List Typed) (xs : List Argument) → ((j : ℕ) → asks-map (ask_at row j) ≡ true) → ((j : ℕ) → agrees-with (ask_at row j) row ≡ true) → arguments_at row (agreed_kind row ts) 0 ts ≡ Ok xs → (i : ℕ) → alike-has (ask_at row i) (agreed_kind row ts) ≡ true
agreed-has row ts xs hp hg h i = by-first (first_deciding row (0) ts) (λ k e. first-has row (agreed_kind row ts) 0 ts xs k e h)
  where
    by-first : (o : Option Kind) → ((k : Kind) → o ≡ Some k → (j : ℕ) × (is-alike-of (ask_at row j) k ≡ true)) → alike-has (ask_at row i) (unwrap_or o Scalar) ≡ true
    by-first None f = scalar-has (ask_at row i) (hp i)
    by-first (Some k) f = let s = f k refl in agreed-everywhere row (ask_at row s.0) k i (hg s.0) s.1

-- a kind among some that have no drain map's is another
in-kinds : (kinds : Kinds) (k : Kind) → not kinds.ldd ≡ true → has_kind kinds k ≡ true → is_kind Ldd k ≡ false
in-kinds kinds Ldd hl g = let z = sym g ∙ not-true kinds.ldd hl in cc
in-kinds kinds Boolean hl g = refl
in-kinds kinds Nominal hl g = refl
in-kinds kinds Ordinal hl g = refl
in-kinds kinds Scalar hl g = refl
in-kinds kinds Directional hl g = refl

-- a kind in which operands agree is no drain map's
alike-plain : (asked : Ask) (k : Kind) → is-alike-of asked k ≡ true → asks-map asked ≡ true → is_kind Ldd k ≡ false
alike-plain (ask.Alike kinds) k h ha = in-kinds kinds k (both-right kinds.scalar (not kinds.ldd) ha) h
alike-plain (ask.Only j) k h ha = cc
alike-plain (ask.One kinds) k h ha = cc
alike-plain (ask.Table j) k h ha = cc
alike-plain (ask.Series j) k h ha = cc
alike-plain ask.Stack k h ha = cc
alike-plain ask.Length k h ha = cc

pub agreed-plain : (row : Row) (ts : List Typed) (xs : List Argument) → ((j : ℕ) → asks-map (ask_at row j) ≡ true) → arguments_at row (agreed_kind row ts) 0 ts ≡ Ok xs → is_kind Ldd (agreed_kind row ts) ≡ false
agreed-plain row ts xs hp h = by-first (first_deciding row (0) ts) (λ k e. first-has row (agreed_kind row ts) 0 ts xs k e h)
  where
    by-first : (o : Option Kind) → ((k : Kind) → o ≡ Some k → (j : ℕ) × (is-alike-of (ask_at row j) k ≡ true)) → is_kind Ldd (unwrap_or o Scalar) ≡ false
    by-first None f = refl
    by-first (Some k) f = let s = f k refl in alike-plain (ask_at row s.0) k s.1 (hp s.0)

-- what is allowed where a map is asked that is no drain map is none
pub allowed-plain : (asked : Ask) (agreed k : Kind) → asks-plain asked ≡ true → allows agreed asked k ≡ true → is_kind Ldd k ≡ false
allowed-plain (ask.Only a) agreed k hp h = ap (is_kind Ldd) (sym (same_kind a k h)) ∙ not-true (is_kind Ldd a) hp
allowed-plain (ask.One kinds) agreed k hp h = in-kinds kinds k hp h
allowed-plain (ask.Alike kinds) agreed k hp h = in-kinds kinds k hp (both-left (has_kind kinds k) (is_kind agreed k) h)
allowed-plain (ask.Table a) agreed k hp h = cc
allowed-plain (ask.Series a) agreed k hp h = cc
allowed-plain ask.Stack agreed k hp h = cc
allowed-plain ask.Length agreed k hp h = cc

place-plain : (row : Row) (agreed : Kind) (i n : ℕ) (ks : List Kind) → asks-plain (ask_at row (i + n)) ≡ true → are_allowed row agreed i ks ≡ true → is_kind Ldd (slice_index_or ks n Scalar) ≡ false
place-plain row agreed i n [] hp h = refl
place-plain row agreed i zero (k ∷ ks) hp h = let e : i + 0 ≡ i = omega arith in allowed-plain (ask_at row i) agreed k (ap (λ j. asks-plain (ask_at row j)) (sym e) ∙ hp) (both-left (allows agreed (ask_at row i) k) (are_allowed row agreed (i + 1) ks) h)
place-plain row agreed i (suc n) (k ∷ ks) hp h = let e : i + 1 + n ≡ i + suc n = omega arith in place-plain row agreed (i + 1) n ks (ap (λ j. asks-plain (ask_at row j)) e ∙ hp) (both-right (allows agreed (ask_at row i) k) (are_allowed row agreed (i + 1) ks) h)

pub given-plain : (row : Row) (gives : Given) (agreed : Kind) (ks : List Kind) → gives-map row gives ≡ true → is_kind Ldd agreed ≡ false → are_allowed row agreed 0 ks ≡ true → is_kind Ldd (given_kind gives agreed ks) ≡ false
given-plain row (given.Always kind) agreed ks hg hk h = not-true (is_kind Ldd kind) hg
given-plain row given.Common agreed ks hg hk h = hk
given-plain row (given.Same i) agreed ks hg hk h = let e : i ≡ 0 + i = omega arith in place-plain row agreed 0 i ks (ap (λ j. asks-plain (ask_at row j)) (sym e) ∙ hg) h

-- all operands of a row that asks maps
pub placed-all : (g : Ground) (role : UsedAs) (row : Row) (ts : List Typed) (xs : List Argument) → AsksMaps row → (asks_drain row.first && begins_free ts) ≡ false → AllGood g role ts → arguments_at row (agreed_kind row ts) 0 ts ≡ Ok xs → ArePlaced g row (agreed_kind row ts) 0 ts xs
placed-all g role row ts xs hm hd ht h = arguments-good g role row (agreed_kind row ts) 0 ts xs hm.asks (no-free-drain row ts hm hd) (agreed-has row ts xs hm.asks hm.agrees h) (agreed-plain row ts xs hm.asks h) ht h

-- a row that takes just so many takes as many
pub just-count : (least most n m : ℕ) → ((least == m) && (most == m)) ≡ true → (nat_le least n && nat_le n most) ≡ true → n ≡ m
just-count least most n m h k =
    let a = both-left (least == m) (most == m) h in
    let b = both-right (least == m) (most == m) h in
    let c = both-left (nat_le least n) (nat_le n most) k in
    let d = both-right (nat_le least n) (nat_le n most) k in
    grind (arith, a, b, c, d)
