-- The chain of statements is a well-formed program.
use Rattle.std.proofs.Common.{◌≡◌, ℕ, zero, suc, ◌<◌, ◌≤◌, Bool, true, false, ◌&&◌, ◌||◌, List, [], ◌∷◌, refl, inl, inr, arith}
use Rattle.std.specs.Prelude.{All, AllPairs, IsTrue, pos, nat_lt, nat_le, ◌==◌}
use Rattle.std.specs.List.{list_all}
use Rattle.std.proofs.lemmas.Bool.{and_parts, eqb-true, leb-true, ltb-true, or_cases}
use Rattle.std.proofs.lemmas.List.Elements.{All-cons, All-nil}
use Rattle.std.proofs.lemmas.List.Kept.{AllPairs-cons}
use Rattle.cell_values.specs.declared.kind.Kind.{Kind}
use Rattle.cell_values.specs.declared.kind.Kind.TheVariants.{Boolean, Nominal, Scalar}
use Rattle.cell_values.proofs.Readings.{value-from_test}
use Rattle.map_meaning.specs.declared.op.Op.TheVariants as op
use Rattle.text_base.specs.Words.{is_file_word}
use Rattle.map_meaning.specs.declared.program.InputUse.{InputUse}
use Rattle.map_meaning.specs.declared.program.Operation.{Operation}
use Rattle.map_meaning.specs.declared.program.OutputUse.{OutputUse}
use Rattle.map_meaning.specs.declared.program.Role.{Role}
use Rattle.map_meaning.specs.declared.program.Role.TheVariants.{Grid, Stack, Table, Series}
use Rattle.map_meaning.specs.declared.row.Row.{Row}
use Rattle.map_meaning.specs.Rules.{kind_at}
use Rattle.map_meaning.specs.Programs.{AreOperations, IsInput, IsOutput, IsWellFormed, StandsBefore, SuitsRole, is_grid_role}
use Rattle.map_meaning.specs.Table.{HasKinds, allows, ask_at, common_kind, given_kind, has_count, map_row, row_of}
use Rattle.worked_models.specs.Chain.{chain_inputs, chain_operations, chain_outputs, chain_program}

-- ---- kinds

-- one operand
one_kind : (line : Row) (j kind : Kind) → has_count line 1 ≡ true → allows (common_kind line (j ∷ [])) (ask_at line 0) j ≡ true → given_kind line.gives (common_kind line (j ∷ [])) (j ∷ []) ≡ kind → HasKinds line (j ∷ []) kind
one_kind line j kind count first gives = record { count = count; each = each; gives = gives }
  where
    each : (i : ℕ) → i < 1 → allows (common_kind line (j ∷ [])) (ask_at line i) (kind_at (j ∷ []) i) ≡ true
    each zero below = first
    each (suc i) below = absurd (omega arith)

-- two operands
two_kinds : (line : Row) (j k kind : Kind) → has_count line 2 ≡ true → allows (common_kind line (j ∷ k ∷ [])) (ask_at line 0) j ≡ true → allows (common_kind line (j ∷ k ∷ [])) (ask_at line 1) k ≡ true →
    given_kind line.gives (common_kind line (j ∷ k ∷ [])) (j ∷ k ∷ []) ≡ kind → HasKinds line (j ∷ k ∷ []) kind
two_kinds line j k kind count first second gives = record { count = count; each = each; gives = gives }
  where
    each : (i : ℕ) → i < 2 → allows (common_kind line (j ∷ k ∷ [])) (ask_at line i) (kind_at (j ∷ k ∷ []) i) ≡ true
    each zero below = first
    each (suc zero) below = second
    each (suc (suc i)) below = absurd (omega arith)

-- three operands
three_kinds : (line : Row) (j k l kind : Kind) → has_count line 3 ≡ true → allows (common_kind line (j ∷ k ∷ l ∷ [])) (ask_at line 0) j ≡ true → allows (common_kind line (j ∷ k ∷ l ∷ [])) (ask_at line 1) k ≡ true →
    allows (common_kind line (j ∷ k ∷ l ∷ [])) (ask_at line 2) l ≡ true → given_kind line.gives (common_kind line (j ∷ k ∷ l ∷ [])) (j ∷ k ∷ l ∷ []) ≡ kind → HasKinds line (j ∷ k ∷ l ∷ []) kind
three_kinds line j k l kind count first second third gives = record { count = count; each = each; gives = gives }
  where
    each : (i : ℕ) → i < 3 → allows (common_kind line (j ∷ k ∷ l ∷ [])) (ask_at line i) (kind_at (j ∷ k ∷ l ∷ []) i) ≡ true
    each zero below = first
    each (suc zero) below = second
    each (suc (suc zero)) below = third
    each (suc (suc (suc i))) below = absurd (omega arith)

-- the rows
minimum : HasKinds (map_row (row_of op.Min)) (Scalar ∷ Scalar ∷ []) Scalar
unfolding row_of
minimum = two_kinds _ Scalar Scalar Scalar refl refl refl refl

to_boolean : HasKinds (map_row (row_of op.ToBoolean)) (Scalar ∷ []) Boolean
unfolding row_of
to_boolean = one_kind _ Scalar Boolean refl refl refl

choice : HasKinds (map_row (row_of op.IfElse)) (Boolean ∷ Scalar ∷ Scalar ∷ []) Scalar
unfolding row_of
choice = three_kinds _ Boolean Scalar Scalar Scalar refl refl refl refl refl

product : HasKinds (map_row (row_of op.Mul)) (Scalar ∷ Scalar ∷ []) Scalar
unfolding row_of
product = two_kinds _ Scalar Scalar Scalar refl refl refl refl

sum : HasKinds (map_row (row_of op.Add)) (Scalar ∷ Scalar ∷ []) Scalar
unfolding row_of
sum = two_kinds _ Scalar Scalar Scalar refl refl refl refl

to_nominal : HasKinds (map_row (row_of op.ToNominal)) (Scalar ∷ []) Nominal
unfolding row_of
to_nominal = one_kind _ Scalar Nominal refl refl refl

copy : HasKinds (map_row (row_of op.CopyOf)) (Scalar ∷ []) Scalar
unfolding row_of
copy = one_kind _ Scalar Scalar refl refl refl

negative : HasKinds (map_row (row_of op.Neg)) (Scalar ∷ []) Scalar
unfolding row_of
negative = one_kind _ Scalar Scalar refl refl refl

-- ---- lists

-- each item passes a test
all_from : {X : Type 0} (test : X → Bool) (P : X → Type 0) → ((x : X) → test x ≡ true → P x) → (xs : List X) → list_all test xs ≡ true → All P xs
all_from test P from [] passes = All-nil P
all_from test P from (x ∷ xs) passes = let parts = and_parts (test x) (list_all test xs) passes in All-cons P x xs (from x parts.0) (all_from test P from xs parts.1)

-- whether each item and each one behind it pass a test
abbrev pairs_pass : {X : Type 0} → (X → X → Bool) → List X → Bool
pairs_pass test [] = true
pairs_pass test (x ∷ xs) = list_all (test x) xs && pairs_pass test xs

pairs_from : {X : Type 0} (test : X → X → Bool) (R : X → X → Type 0) → ((x y : X) → test x y ≡ true → R x y) → (xs : List X) → pairs_pass test xs ≡ true → AllPairs R xs
pairs_from test R from [] passes = λ i j d less below. absurd (omega arith)
pairs_from test R from (x ∷ xs) passes =
    let parts = and_parts (list_all (test x) xs) (pairs_pass test xs) passes in AllPairs-cons R x xs (all_from (test x) (R x) (from x) xs parts.0) (pairs_from test R from xs parts.1)

-- ---- the program

-- an operation stands before another
abbrev stands_before : Operation → Operation → Bool
stands_before o p = nat_lt o.statement p.statement || ((o.statement == p.statement) && nat_lt o.number p.number)

before_from : (o p : Operation) → stands_before o p ≡ true → StandsBefore o p
before_from o p passes = elim (or_cases (nat_lt o.statement p.statement) ((o.statement == p.statement) && nat_lt o.number p.number) passes) [
  | inl less ↦ inl (ltb-true o.statement p.statement less)
  | inr both ↦ let parts = and_parts (o.statement == p.statement) (nat_lt o.number p.number) both in inr (eqb-true o.statement p.statement parts.0, ltb-true o.number p.number parts.1)
]

-- an input is a grid
input_is : (n : ℕ) → n < 2 → IsInput chain_program Grid n
input_is zero below = record { within = omega arith; role = refl }
input_is (suc zero) below = record { within = omega arith; role = refl }
input_is (suc (suc n)) below = absurd (omega arith)

-- what is false is not true
never : {X : Type 0} → false ≡ true → X
never is = absurd (cc)

-- the operations
operations_are : AreOperations chain_program 0 chain_operations
operations_are = (
  record { a = input_is 0 (omega arith); b = input_is 1 (omega arith); c = tt; d = tt; used = refl; kinds = minimum; drain = never; window = never; file = tt; kept = refl },
  (
    record { a = omega arith; b = value-from_test Scalar (pos 2000000) refl; c = tt; d = tt; used = refl; kinds = minimum; drain = never; window = never; file = tt; kept = refl },
    (
      record { a = omega arith; b = tt; c = tt; d = tt; used = refl; kinds = to_boolean; drain = never; window = never; file = tt; kept = refl },
      (
        record { a = omega arith; b = input_is 0 (omega arith); c = value-from_test Scalar (pos 7000000) refl; d = tt; used = refl; kinds = choice; drain = never; window = never; file = tt; kept = refl },
        (
          record { a = omega arith; b = input_is 1 (omega arith); c = tt; d = tt; used = refl; kinds = product; drain = never; window = never; file = tt; kept = refl },
          (
            record { a = omega arith; b = omega arith; c = tt; d = tt; used = refl; kinds = sum; drain = never; window = never; file = tt; kept = refl },
            (
              record { a = omega arith; b = tt; c = tt; d = tt; used = refl; kinds = to_nominal; drain = never; window = never; file = tt; kept = refl },
              (
                record { a = omega arith; b = tt; c = tt; d = tt; used = refl; kinds = copy; drain = never; window = never; file = tt; kept = refl },
                (
                  record { a = omega arith; b = tt; c = tt; d = tt; used = refl; kinds = negative; drain = never; window = never; file = tt; kept = refl },
                  tt,
                ),
              ),
            ),
          ),
        ),
      ),
    ),
  ),
)

-- the outputs
outputs_are : All (IsOutput chain_program) chain_outputs
outputs_are zero d below = record { value = omega arith; kind = refl; file = refl; statement = omega arith }
outputs_are (suc zero) d below = record { value = omega arith; kind = refl; file = refl; statement = omega arith }
outputs_are (suc (suc zero)) d below = record { value = omega arith; kind = refl; file = refl; statement = omega arith }
outputs_are (suc (suc (suc zero))) d below = record { value = omega arith; kind = refl; file = refl; statement = omega arith }
outputs_are (suc (suc (suc (suc zero)))) d below = record { value = omega arith; kind = refl; file = refl; statement = omega arith }
outputs_are (suc (suc (suc (suc (suc k))))) d below = absurd (omega arith)

-- a grid may be of any kind
grid_suits : (kind : Kind) (role : Role) → is_grid_role role ≡ true → SuitsRole kind role
grid_suits kind Grid is = tt
grid_suits kind Stack is = absurd (cc)
grid_suits kind (Table keys) is = absurd (cc)
grid_suits kind Series is = absurd (cc)

-- the whole
pub chain_formed : IsWellFormed chain_program
chain_formed = record {
  files = all_from (λ (i : InputUse). is_file_word i.file) (λ (i : InputUse). IsTrue (is_file_word i.file)) (λ i passes. passes) chain_inputs refl;
  roles = all_from (λ (i : InputUse). is_grid_role i.role) (λ (i : InputUse). SuitsRole i.kind i.role) (λ i. grid_suits i.kind i.role) chain_inputs refl;
  area = input_is 0 (omega arith);
  operations = operations_are;
  step_operations = tt;
  drains = tt;
  drain_order = λ i j d less below. absurd (omega arith);
  order = pairs_from stands_before StandsBefore before_from chain_operations refl;
  step_order = λ i j d less below. absurd (omega arith);
  outputs = outputs_are;
  reports = pairs_from (λ (x y : OutputUse). nat_lt x.statement y.statement) (λ (x y : OutputUse). x.statement < y.statement) (λ x y passes. ltb-true x.statement y.statement passes) chain_outputs refl;
  few_inputs = omega arith;
  few_operations = omega arith;
  few_step_operations = omega arith;
  few_statements = all_from (λ (o : Operation). nat_le o.statement 1000) (λ (o : Operation). o.statement ≤ 1000) (λ o passes. leb-true o.statement 1000 passes) chain_operations refl;
  few_step_statements = λ k d below. absurd (omega arith);
  few_drains = omega arith;
  few_outputs = omega arith;
  few_stacks = omega arith;
  few_stack_outputs = omega arith;
  few_steps = omega arith;
}
