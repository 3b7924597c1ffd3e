use Rattle.std.proofs.Common.{Some, if◌then◌else◌, ap, ◌∙◌}
use Rattle.std.specs.Str.{bytes_eq}
use Rattle.std.specs.Map.{lookup}
use Rattle.script_types.specs.inside.Look.{look}
use Rattle.script_types.proofs.NamesLemmas.{found-inserted}
use Rattle.script_types.proofs.names.Names.set.Goals as goal

-- src/lib.rt:36:5
pub returns : goal.returns
returns g c = λ other. ap (λ es. lookup (λ key. bytes_eq other key.items) es) c.in_ok-insert.ensures.entries ∙ found-inserted c.args.self.now.values.entries c.in_ok-key.key c.args.value other ∙ ap (λ text. if bytes_eq other text then Some c.args.value else look c.args.self.now.values other) c.in_ok-key.ensures.items
