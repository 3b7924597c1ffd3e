-- What a folder that never fails tells.
use Rattle.std.specs.Prelude.{ℕ, List, [], map, Some}
use Rattle.std.specs.Option.{option_map}
use Rattle.std.specs.FinMap.{empty, from_entries, insert}
use Rattle.outside_io.specs.State.{Files, PutPair, FolderState}
use Rattle.outside_io.specs.declared.calm_folder.Held.{Held}
use Rattle.outside_io.specs.declared.calm_folder.CalmFolder.{CalmFolder}

-- each name with its bytes
abbrev pub pairs : List Held → List PutPair
pairs held = map (λ h. (h.name.items, h.bytes.items)) held

-- the files: of two writes of one name the newer counts, which stands in front
abbrev pub held_files : List Held → Files
held_files held = from_entries (pairs held)

-- It tells all, and has no faults.
abbrev pub calm_folder_state : CalmFolder → FolderState
calm_folder_state folder = record {
  holds = Some (held_files folder.files.items);
  puts = Some (pairs folder.puts.items);
  read_faults = 0;
  put_faults = 0;
  absents = folder.absents;
  overlongs = folder.overlongs;
}

-- a folder that holds nothing, to which nothing happened
abbrev pub untouched : FolderState
untouched = record { holds = Some empty; puts = Some []; read_faults = 0; put_faults = 0; absents = 0; overlongs = 0 }

-- the same folder, but that it holds these bytes under the name
abbrev pub holding : FolderState → List ℕ → List ℕ → FolderState
holding s name bytes = record s { holds = option_map (λ files. insert files name bytes) s.holds }
