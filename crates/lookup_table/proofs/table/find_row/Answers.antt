use Rattle.std.proofs.Common.{◌≡◌, [], ◌∷◌, ◌∙◌, subst}
use Rattle.std.specs.List.{find}
use Rattle.std.specs.Option.{option_copied}
use Rattle.std.proofs.Math.Facts.{to_z-of_z}
use Rattle.lookup_table.specs.Keys.{lies_in}
use Rattle.lookup_table.proofs.Values.{row_apart}
use Rattle.lookup_table.proofs.table.find_row.Goals as goal

pub returns-then-ascending : goal.returns-then-ascending
returns-then-ascending c =
    subst (λ z. option_copied c.find_apart.result ≡ find (λ row. lies_in row.a z) c.args.rows.now) (to_z-of_z c.ranges.a) c.find_apart.ensures
    ∙ row_apart c.args.keys c.args.rows.now c.args.a (c.args.b ∷ c.args.c ∷ c.args.d ∷ []) (c.requires.one c.if-ascending.true)
