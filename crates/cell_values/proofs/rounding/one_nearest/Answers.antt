use Rattle.std.proofs.Common.{ℤ, pos, sym, subst}
use Rattle.cell_values.specs.Rounding.{IsNearest}
use Rattle.cell_values.proofs.Nearest.{nearest-IsNearest, nearest-unique}
use Rattle.cell_values.proofs.rounding.one_nearest.Goals as goal

pub returns : goal.returns
returns c n d q some = (nearest-unique n d q some, λ e. let P : ℤ → Type 0 = λ z. IsNearest n (pos d) z in subst P (sym e) (nearest-IsNearest n d some))
