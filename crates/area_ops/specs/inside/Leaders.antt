-- The leader of a class: its most frequent number, and how many different ones there are.
use Rattle.std.specs.Prelude.{◌≡◌, ◌+◌, ℕ, ℤ, pos, ◌*◌, List, [], ◌∷◌, Bool, ◌==◌, ◌&&◌, ◌||◌, nat_lt, int_lt, Option, Some, None, Ok}
use Rattle.std.specs.Prelude.{if◌then◌else◌, length}
use Rattle.std.specs.Option.{unwrap_or}
use Rattle.std.specs.Ordering.{int_eq}
use Rattle.std.specs.List.{All}
use Rattle.std.specs.Map.{lookup}
use Rattle.cell_values.specs.declared.kind.Kind.TheVariants.{Scalar}
use Rattle.cell_values.specs.declared.cell.Cell.{Cell}
use Rattle.cell_values.specs.declared.cell.Cell.TheVariants.{Mv, Val}
use Rattle.cell_values.specs.Kinds.{cell_of_number}
use Rattle.cell_values.specs.Units.{million}
use Rattle.tile_map.specs.Parts.{Outcome}
use Rattle.region_meaning.specs.declared.area.AreaOp.{AreaOp}
use Rattle.region_meaning.specs.declared.area.AreaOp.TheVariants.{Diversity}
use Rattle.area_ops.specs.declared.leader.Leader.{Leader}
use Rattle.area_ops.specs.declared.results.Known.{Known}
use Rattle.area_ops.specs.inside.Counts.{Member}
use Rattle.area_ops.specs.inside.Runs.{slots}

-- a number that stands so many times goes ahead of a leader: it is more frequent, or as frequent and less
abbrev pub takes_lead : Leader → ℤ → ℕ → Bool
takes_lead leader number count = nat_lt leader.count count || ((leader.count == count) && int_lt number leader.number)

-- the leader when one more number is known, that stands so many times
abbrev pub next_leader : Leader → ℤ → ℕ → Leader
next_leader leader number count =
    if takes_lead leader number count
    then record { different = leader.different + 1; number = number; count = count }
    else record { different = leader.different + 1; number = leader.number; count = leader.count }

-- the same, where there may be no leader yet
abbrev pub leader_with : Option Leader → ℤ → ℕ → Leader
leader_with None number count = record { different = 1; number = number; count = count }
leader_with (Some leader) number count = next_leader leader number count

-- how many different numbers are known of a class
abbrev pub different_of : Option Leader → ℕ
different_of None = 0
different_of (Some leader) = leader.different

-- a class's leader when the numbers of further entries are known
abbrev pub led_by_entries : ℤ → Option Leader → List (Member × ℕ) → Option Leader
led_by_entries class leader [] = leader
led_by_entries class leader (e ∷ es) =
    led_by_entries class (if int_eq e.0.0 class then Some (leader_with leader e.0.1 e.1) else leader) es

-- what the diversity or the majority is by a leader
abbrev pub led_result : AreaOp → Leader → Outcome
led_result Diversity leader = cell_of_number Scalar (pos (leader.different * million))
led_result op leader = Ok (Val leader.number)

-- the outcome of a class among entries, each of a class: a missing value where there is none
unfoldable pub class_result : List (ℤ × Outcome) → ℤ → Outcome
class_result entries class = unwrap_or (lookup (λ own. int_eq class own) entries) (Ok Mv)

-- what is known of the classes gives at a place of a class: a missing value where the class is missing
abbrev pub place_result : List (ℤ × Outcome) → Cell → Outcome
place_result entries Mv = Ok Mv
place_result entries (Val class) = class_result entries class

-- what is kept of the outcomes of classes is right, one of them at each slot
pub record AreKnown (entries : List (ℤ × Outcome)) (known : List Known) : Type 0 where
  pub size : length known ≡ slots
  pub right : All (λ k. k.outcome ≡ class_result entries k.class) known
