use Rattle.std.proofs.Common.{[], ◌∷◌, w64, to_z, of_z}
use Rattle.lookup_table.proofs.Values.{kept_four, value_is, value_missing, cell_is}
use Rattle.lookup_table.proofs.table.Table.find.Goals as goal

pub returns-clause-value : goal.returns-clause-value
returns-clause-value c =
    value_is c.self.inside.keys c.self.inside.kind c.self.inside.rows.items c.args.self.now c.as_slice-rows.result.now (c.args.a ∷ c.args.b ∷ c.args.c ∷ c.args.d ∷ [])
    (to_z w64 (of_z w64 c.args.a) ∷ to_z w64 (of_z w64 c.args.b) ∷ to_z w64 (of_z w64 c.args.c) ∷ to_z w64 (of_z w64 c.args.d) ∷ []) _ c.cell_of.result
    c.self.view_is c.as_slice-rows.ensures.value (kept_four _ _ _ _ c.ranges.a c.ranges.b c.ranges.c c.ranges.d) c.find_row.ensures c.cell_of.ensures

pub returns-clause-missing : goal.returns-clause-missing
returns-clause-missing c = value_missing c.args.self.now (c.args.a ∷ c.args.b ∷ c.args.c ∷ c.args.d ∷ []) c.cell_of.result (returns-clause-value c)

pub returns-clause-cell : goal.returns-clause-cell
returns-clause-cell c = cell_is c.self.inside.keys c.self.inside.kind c.self.inside.rows.items c.args.self.now c.as_slice-rows.result.now _ _ c.cell_of.result c.self.view_is c.as_slice-rows.ensures.value c.self.invariant.values c.find_row.ensures c.cell_of.ensures
