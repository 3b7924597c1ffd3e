-- What a script's statements report at each step, over its inputs and the grids of stacks.
use Rattle.std.specs.Prelude.{ℕ, zero, suc, ◌+◌, Bool, ◌&&◌, List, [], ◌∷◌, map, Result, Ok, slice_index_or, if◌then◌else◌}
use Rattle.std.specs.Option.{is_some}
use Rattle.text_base.specs.Results.{◌>>=◌}
use Rattle.script_syntax.specs.declared.tree.Script.{Script}
use Rattle.map_meaning.specs.declared.known.Known.{Known}
use Rattle.map_meaning.specs.declared.known.OverAt.{OverAt}
use Rattle.map_meaning.specs.declared.known.StepMap.{StepMap}
use Rattle.map_meaning.specs.declared.program.InputUse.{InputUse}
use Rattle.map_meaning.specs.declared.tree.Tree.{Tree, out-Tree, roll-Tree}
use Rattle.map_meaning.specs.declared.tree.Tree.TheOpen.{Tree-F}
use Rattle.map_meaning.specs.Maps.{WholeMap}
use Rattle.map_meaning.specs.Programs.{is_grid_role}
use Rattle.map_meaning.specs.Scenes.{Scene}
use Rattle.map_meaning.specs.Sections.{with_name}
use Rattle.map_meaning.specs.Spans.{at_inputs, scene_of}
use Rattle.map_meaning.specs.Trees.{Environment, Site, value_of_tree}
use Rattle.script_types.specs.declared.typed.Line.{Line}
use Rattle.script_types.specs.Lowered.{first_statement, inputs_of, lines_in}
use Rattle.script_types.specs.Names.{binding_of}
use Rattle.script_types.specs.Values.{Scenes, Written, after_steps, no_names, reported, section_at}
use Rattle.run_session.specs.declared.inputs.Inputs.{Inputs}
use Rattle.run_session.specs.Samples.{as_put}

-- what is known of the inputs, where these are grids of stacks
abbrev pub known_of : Inputs → List StepMap → Known
known_of inputs grids = record {
  rows = inputs.frame.rows;
  cols = inputs.frame.cols;
  maps = inputs.maps;
  tables = inputs.tables;
  series = inputs.series;
  drains = [];
  stacks = grids;
  initial = [];
  last = [];
}

-- the grids of stacks of a step, of those that were read from step 1 on; step 0 has none
abbrev pub grids_at : List (List StepMap) → ℕ → List StepMap
grids_at grids zero = []
grids_at grids (suc n) = slice_index_or grids n []

-- the scene of each step over these inputs, where these grids of stacks were read from step 1 on
abbrev pub scenes_over : List InputUse → Inputs → List (List StepMap) → Scenes
scenes_over list inputs grids n = scene_of list (known_of inputs (grids_at grids n)) n

-- ---- what is sampled

-- the first operand of an operation, and each other expression as it is
abbrev pub first_operand : Tree-F Tree → Tree
first_operand (Tree-F.Call kind op (t ∷ more)) = t
first_operand other = roll-Tree other

-- what is reported of a statement: its value; of a time series by the mean the map whose averages are its value
abbrev pub reported_tree : Bool → Line → Tree
reported_tree mean l = if mean && is_some l.sample then first_operand (out-Tree l.statement.value) else l.statement.value

-- the maps that are reported of some statements, of which the first has this number, evaluated one after the other
abbrev pub reported_maps : Bool → Scene → ℕ → Environment → List Line → Result (List WholeMap) OverAt
reported_maps mean scene number names [] = Ok []
reported_maps mean scene number names (l ∷ ls) =
    let at : Site = record { scene = scene; names = names; statement = number } in
    value_of_tree at l.statement.value >>= λ m.
    value_of_tree at (reported_tree mean l) >>= λ shown.
    reported_maps mean scene (number + 1) (with_name names l.statement.target m) ls >>= λ more. Ok (shown ∷ more)

-- the names before a step, where `initial` and the steps before it are evaluated
abbrev pub names_before : List Line → Scenes → ℕ → Result Environment OverAt
names_before lines scenes zero = Ok no_names
names_before lines scenes (suc n) = after_steps lines scenes n >>= λ before. Ok before.names

-- ---- reports

-- the maps of the inputs that are read once, by their numbers
abbrev pub input_maps : List InputUse → Inputs → List WholeMap
input_maps list inputs = at_inputs is_grid_role [] list inputs.maps

-- What a script's settled statements report at each step, evaluated one after the other from `initial` on, or their first
-- Over, where these grids of stacks were read from step 1 on: maps, and of a time series the cells of its row.
abbrev pub reports_of : Script → List Line → Inputs → List (List StepMap) → ℕ → Result (List Written) OverAt
reports_of script lines inputs grids n =
    let scenes = scenes_over (inputs_of script) inputs grids in
    let here = lines_in (section_at n) lines in
    names_before lines scenes n >>= λ names.
    reported_maps script.mean (scenes n) (first_statement (section_at n) lines) names here >>= λ maps.
    Ok (map (as_put script.mean (input_maps (inputs_of script) inputs)) (reported (binding_of script) here maps))
