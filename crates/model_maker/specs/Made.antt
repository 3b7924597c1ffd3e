-- What contracts see of a made file.
use Rattle.std.specs.Prelude.{ℕ, List}
use Rattle.model_maker.specs.declared.files.Made.{Made}

-- its name and its bytes
abbrev pub file_made : Made → List ℕ × List ℕ
file_made made = (made.name, made.bytes.items)
