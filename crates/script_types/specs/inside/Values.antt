-- What the operations that were written of an expression are: its value, and well formed.
use Rattle.std.specs.Prelude.{◌≡◌, ◌<◌, ◌+◌, ◌-◌, true, ℕ, List, [], ◌∷◌, ◌++◌, length, map, Some, Ok, slice_index_or, ⊤}
use Rattle.std.specs.List.{list_all}
use Rattle.text_base.specs.Results.{◌>>=◌}
use Rattle.cell_values.specs.declared.kind.Kind.{Kind}
use Rattle.cell_values.specs.declared.kind.Kind.TheVariants.{Ldd}
use Rattle.map_meaning.specs.declared.program.DrainFrom.{DrainFrom}
use Rattle.map_meaning.specs.declared.program.Operand.{Operand}
use Rattle.map_meaning.specs.declared.program.Operand.TheVariants.{Unused}
use Rattle.map_meaning.specs.declared.program.Operation.{Operation}
use Rattle.map_meaning.specs.declared.program.Program.{Program}
use Rattle.map_meaning.specs.declared.tree.Tree.{Tree}
use Rattle.map_meaning.specs.Evaluation.{Done, drain_codes, operand_map, operation_values}
use Rattle.map_meaning.specs.Programs.{IsFrom, operand_kind, operation_kind}
use Rattle.map_meaning.specs.Scenes.{Scene}
use Rattle.map_meaning.specs.Trees.{Environment, meaning_of, operations_in as count_in, values_from_left}
use Rattle.script_types.specs.declared.typed.Section.{Section}
use Rattle.script_types.specs.declared.typed.Section.TheVariants.{Initial}
use Rattle.script_types.specs.inside.Drains.{IsDrainBelow, drain_named}
use Rattle.script_types.specs.inside.Fits.{Ground}
use Rattle.script_types.specs.inside.Nodes.{first_map_place}
use Rattle.script_types.specs.inside.Sections.{HaveForm, Holder, HoldsMaps, IsGiven, NamesBefore, Stands, maps_in, own_operand, span_in}
use Rattle.script_types.specs.inside.Sound.{is_sound}

-- the operation is written with these operands, the first four of a list, of which the first is the drain map that it goes along
-- where it does, with this file and this window
pub record HasOperands (o : Operation) (file window : ℕ) (xs : List Operand) : Type 0 where
  pub a : o.a ≡ slice_index_or xs (first_map_place o.op) Unused
  pub b : o.b ≡ slice_index_or xs (first_map_place o.op + 1) Unused
  pub c : o.c ≡ slice_index_or xs (first_map_place o.op + 2) Unused
  pub d : o.d ≡ slice_index_or xs (first_map_place o.op + 3) Unused
  pub drain_is : o.drain ≡ drain_named (slice_index_or xs 0 Unused)
  pub file_is : o.file ≡ file
  pub window_is : o.window ≡ window

-- all operands name operations of the section before this one, or none of it
abbrev pub AllBefore : Section → ℕ → List Operand → Type 0
AllBefore section n [] = ⊤
AllBefore section n (x ∷ xs) = NamesBefore section n x × AllBefore section n xs

-- all of them may be operands of the operation with this number
abbrev pub AreGiven : Program → Section → ℕ → List Operand → Type 0
AreGiven program section n [] = ⊤
AreGiven program section n (x ∷ xs) = IsGiven program section n x × AreGiven program section n xs

-- The operations that were added compute an expression in every program that begins its section with them: the operand has
-- its kind, and is a drain map exactly where the kind is theirs; and where the expression keeps to the table, the operand has its
-- value, or they give its first Over, and they are well formed.
pub record Emits (section : Section) (g : Ground) (holder : Holder)
    (old new : List Operation) (statement first : ℕ) (t : Tree) (x : Operand) : Type 0 where
  pub added : List Operation
  pub appended : new ≡ old ++ added
  pub count : length added ≡ (meaning_of t).operations
  pub last : 0 < (meaning_of t).operations → x ≡ own_operand section (length new - 1)
  pub last_kind : 0 < (meaning_of t).operations → operation_kind new (length new - 1) ≡ Some (meaning_of t).kind
  pub kind : (program : Program) → Stands section g holder first new program → operand_kind program x ≡ Some (meaning_of t).kind
  pub drain : (program : Program) (st : Stands section g holder first new program) →
      IsDrainBelow st.around.drains (meaning_of t).kind x
  pub before : (program : Program) → Stands section g holder first new program → NamesBefore section (length new) x
  pub value : is_sound t ≡ true → (program : Program) (scene : Scene) (step : ℕ) (names : Environment) (done : Done) →
      Stands section g holder first new program → length (maps_in section done) ≡ length old → HoldsMaps g holder scene names done →
      (meaning_of t).value (record { scene = scene; names = names; statement = statement }) (length old - first) ≡
      operation_values program scene (span_in section program step) done added >>= λ after.
      Ok (operand_map scene after x)
  pub formed : is_sound t ≡ true → (program : Program) → Stands section g holder first new program →
      IsGiven program section (length new) x × HaveForm program section (length old) added

-- these operands are drain maps exactly where their kinds are those of drain maps
abbrev pub AreDrainOperands : ℕ → List Kind → List Operand → Type 0
AreDrainOperands m [] xs = ⊤
AreDrainOperands m (kind ∷ kinds) [] = ⊤
AreDrainOperands m (kind ∷ kinds) (x ∷ xs) = IsDrainBelow m kind x × AreDrainOperands m kinds xs

-- the same of some expressions, from the left
pub record EmitsAll (section : Section) (g : Ground) (holder : Holder)
    (old new : List Operation) (statement first : ℕ) (ts : List Tree) (xs : List Operand) : Type 0 where
  pub added : List Operation
  pub appended : new ≡ old ++ added
  pub count : length added ≡ count_in (map meaning_of ts)
  pub as_many : length xs ≡ length ts
  pub kinds : (program : Program) → Stands section g holder first new program →
      map (operand_kind program) xs ≡ map Some (map (λ m. m.kind) (map meaning_of ts))
  pub drains : (program : Program) (st : Stands section g holder first new program) →
      AreDrainOperands st.around.drains (map (λ m. m.kind) (map meaning_of ts)) xs
  pub before : (program : Program) → Stands section g holder first new program → AllBefore section (length new) xs
  pub values : list_all is_sound ts ≡ true →
      (program : Program) (scene : Scene) (step : ℕ) (names : Environment) (done : Done) →
      Stands section g holder first new program → length (maps_in section done) ≡ length old → HoldsMaps g holder scene names done →
      values_from_left (map meaning_of ts) (record { scene = scene; names = names; statement = statement }) (length old - first) ≡
      operation_values program scene (span_in section program step) done added >>= λ after.
      Ok (map (operand_map scene after) xs)
  pub formed : list_all is_sound ts ≡ true → (program : Program) → Stands section g holder first new program →
      AreGiven program section (length new) xs × HaveForm program section (length old) added

-- The operations that were added compute what a drain map comes from: with it, it has the codes that are the value of a right side,
-- or they give its first Over; and both are well formed, where the right side keeps to the table.
pub record EmitsDrain (section : Section) (g : Ground) (holder : Holder)
    (old new : List Operation) (statement first : ℕ) (t : Tree) (d : DrainFrom) : Type 0 where
  pub added : List Operation
  pub appended : new ≡ old ++ added
  pub count : length added ≡ (meaning_of t).operations
  pub value : is_sound t ≡ true → (meaning_of t).kind ≡ Ldd →
      (program : Program) (scene : Scene) (step : ℕ) (names : Environment) (done : Done) →
      Stands section g holder first new program → length (maps_in section done) ≡ length old → HoldsMaps g holder scene names done →
      (meaning_of t).value (record { scene = scene; names = names; statement = statement }) (length old - first) ≡
      operation_values program scene (span_in section program step) done added >>= λ after.
      Ok (drain_codes scene after d)
  pub formed : is_sound t ≡ true → (meaning_of t).kind ≡ Ldd → section ≡ Initial →
      (program : Program) (st : Stands section g holder first new program) →
      IsFrom program st.around.drains (length new) d × HaveForm program section (length old) added
