-- Operands by their places.
use Rattle.std.proofs.Common.{◌≡◌, ℕ, ◌<◌, length, arith}
use Rattle.tile_map.specs.Args.{HasPlace, SpansPlaces}
use Rattle.tile_map.specs.declared.arg.Arg.{Arg}
use Rattle.tile_map.specs.declared.arg.Arg.TheVariants.{Unused, One, Cells}

-- an operand over so many places has each of them
pub has_place : (arg : Arg) (places place : ℕ) → SpansPlaces arg places → place < places → HasPlace arg place
has_place Unused places place spans below = tt
has_place (One cell) places place spans below = tt
has_place (Cells cells) places place spans below = let size : length cells.now ≡ places = spans in omega arith
