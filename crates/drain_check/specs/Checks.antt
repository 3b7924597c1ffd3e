-- Why a drain map is refused.
use Rattle.std.specs.Prelude.{⊤}
use Rattle.drain_check.specs.declared.check.CheckEnd.{CheckEnd}
use Rattle.drain_check.specs.declared.check.CheckEnd.TheVariants.{Unsound, Memory}
use Rattle.drain_meaning.specs.Drains.{DrainMap}
use Rattle.drain_meaning.specs.Paths.{IsFirstUnsound}

-- the map is refused with its first place whose path fails, or for want of memory
abbrev pub IsRefused : DrainMap → CheckEnd → Type 0
IsRefused m (Unsound place) = IsFirstUnsound m place
IsRefused m Memory = ⊤
