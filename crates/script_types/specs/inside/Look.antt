-- The value that a name has in a table of names.
use Rattle.std.specs.Prelude.{ℕ, List, Option}
use Rattle.std.specs.Str.{bytes_eq}
use Rattle.std.specs.Map.{lookup}
use Rattle.std.specs.HashMap.{HashMap}
use Rattle.std.specs.declared.vec.Vec.{Vec}
use Rattle.std.specs.declared.alloc.Global.{Global}

-- the value of a name, if it has one
abbrev pub look : {V S : Type 0} → HashMap (Vec ℕ Global) V S → List ℕ → Option V
look m name = lookup (λ key. bytes_eq name key.items) m.entries
