-- The program of a script in which most statements read what those before them give:
--   report C = min(A, B, 2);  D = boolean(C);  report E = if(D then A else 7);  report F = E * B + C;
--   report G = nominal(F);  report H = C;  I = -F;
use Rattle.std.specs.Prelude.{pos, ℕ, Bool, true, false, ◌&&◌, ◌==◌, List, [], ◌∷◌, length}
use Rattle.std.specs.List.{list_all}
use Rattle.cell_values.specs.declared.cell.Cell.{Cell}
use Rattle.cell_values.specs.declared.cell.Cell.TheVariants.{Mv, Val}
use Rattle.cell_values.specs.declared.kind.Kind.{Kind}
use Rattle.cell_values.specs.declared.kind.Kind.TheVariants.{Boolean, Nominal, Scalar}
use Rattle.cell_values.specs.Kinds.{is_value}
use Rattle.map_meaning.specs.declared.op.Op.{Op}
use Rattle.map_meaning.specs.declared.op.Op.TheVariants as op
use Rattle.map_meaning.specs.declared.program.InputUse.{InputUse}
use Rattle.map_meaning.specs.declared.program.Operand.{Operand}
use Rattle.map_meaning.specs.declared.program.Operand.TheVariants.{Unused, Literal, Input, Initial}
use Rattle.map_meaning.specs.declared.program.Operation.{Operation}
use Rattle.map_meaning.specs.declared.program.OutputKind.TheVariants.{InitialGrid}
use Rattle.map_meaning.specs.declared.program.OutputUse.{OutputUse}
use Rattle.map_meaning.specs.declared.program.Program.{Program}
use Rattle.map_meaning.specs.declared.program.Role.TheVariants.{Grid}

-- two grids of scalars, `A` and `B`
abbrev pub chain_inputs : List InputUse
chain_inputs = record { file = 65 ∷ []; role = Grid; kind = Scalar } ∷ record { file = 66 ∷ []; role = Grid; kind = Scalar } ∷ []

-- an operation of a statement, with up to three operands
abbrev pub chain_operation : Op → Kind → Operand → Operand → Operand → ℕ → ℕ → Bool → Operation
chain_operation op kind a b c statement number kept =
    record {
      op = op;
      kind = kind;
      a = a;
      b = b;
      c = c;
      d = Unused;
      drain = 0;
      file = 0;
      window = 0;
      statement = statement;
      number = number;
      kept = kept;
    }

-- the operations of the script, in post-order
abbrev pub chain_operations : List Operation
chain_operations =
    chain_operation op.Min Scalar (Input 0) (Input 1) Unused 1 1 false
    ∷ chain_operation op.Min Scalar (Initial 0) (Literal Scalar (Val (pos 2000000))) Unused 1 2 true
    ∷ chain_operation op.ToBoolean Boolean (Initial 1) Unused Unused 2 1 false
    ∷ chain_operation op.IfElse Scalar (Initial 2) (Input 0) (Literal Scalar (Val (pos 7000000))) 3 1 true
    ∷ chain_operation op.Mul Scalar (Initial 3) (Input 1) Unused 4 1 false
    ∷ chain_operation op.Add Scalar (Initial 4) (Initial 1) Unused 4 2 true
    ∷ chain_operation op.ToNominal Nominal (Initial 5) Unused Unused 5 1 true
    ∷ chain_operation op.CopyOf Scalar (Initial 1) Unused Unused 6 1 true
    ∷ chain_operation op.Neg Scalar (Initial 5) Unused Unused 7 1 false
    ∷ []

-- the reports of the script, as `C` and `E` to `H`
abbrev pub chain_outputs : List OutputUse
chain_outputs =
    record { file = 67 ∷ []; kind = InitialGrid; value = Initial 1; cell_kind = Scalar; statement = 1 }
    ∷ record { file = 69 ∷ []; kind = InitialGrid; value = Initial 3; cell_kind = Scalar; statement = 3 }
    ∷ record { file = 70 ∷ []; kind = InitialGrid; value = Initial 5; cell_kind = Scalar; statement = 4 }
    ∷ record { file = 71 ∷ []; kind = InitialGrid; value = Initial 6; cell_kind = Nominal; statement = 5 }
    ∷ record { file = 72 ∷ []; kind = InitialGrid; value = Initial 7; cell_kind = Scalar; statement = 6 }
    ∷ []

-- the whole
abbrev pub chain_program : Program
chain_program =
    record {
      inputs = chain_inputs;
      initial = chain_operations;
      dynamic = [];
      drains = [];
      outputs = chain_outputs;
      area = 0;
      steps = 0;
    }

-- the cell is a scalar, or missing
abbrev pub is_scalar : Cell → Bool
is_scalar Mv = true
is_scalar (Val z) = is_value Scalar z

-- the cells are those of a map of scalars with two rows and three columns
abbrev pub is_input : List Cell → Bool
is_input cells = (length cells == 6) && list_all is_scalar cells
