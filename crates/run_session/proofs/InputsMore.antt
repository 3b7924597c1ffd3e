-- One more input that is read.
use Rattle.std.proofs.Common.{◌≡◌, ◌*◌, ℕ, List, [], ◌∷◌, ◌++◌, ap}
use Rattle.lookup_table.specs.Form.{TableValue}
use Rattle.time_series.specs.Form.{SeriesValue}
use Rattle.map_meaning.specs.declared.program.InputUse.{InputUse}
use Rattle.map_meaning.specs.declared.program.Role.TheVariants.{Grid, Stack, Table, Series}
use Rattle.map_meaning.specs.Maps.{IsMapOf, WholeMap}
use Rattle.map_meaning.specs.Programs.{is_grid_role, is_series_role, is_table_role}
use Rattle.map_meaning.specs.Spans.{HasSeriesKind, HasTableKind, IsTableOf}
use Rattle.run_session.specs.declared.inputs.Inputs.{Inputs}
use Rattle.run_session.specs.inside.Parts.{AreInputsOf}
use Rattle.run_session.proofs.Lists.{role_more, role_same}

module _ (before : List InputUse) (inputs : Inputs) (input : InputUse) (are : AreInputsOf before inputs) where
  abbrev places : ℕ
  places = inputs.frame.rows * inputs.frame.cols

  -- a map
  pub map_more : (m : WholeMap) → input.role ≡ Grid → IsMapOf places input.kind m →
      AreInputsOf (before ++ input ∷ []) (record { frame = inputs.frame; maps = inputs.maps ++ m ∷ []; tables = inputs.tables; series = inputs.series })
  map_more m is whole = record {
    size = are.size;
    maps = role_more is_grid_role (λ input m. IsMapOf places input.kind m) before inputs.maps input m (ap is_grid_role is) whole are.maps;
    tables = role_same is_table_role IsTableOf before inputs.tables input (ap is_table_role is) are.tables;
    series = role_same is_series_role (λ input series. HasSeriesKind input.kind series) before inputs.series input (ap is_series_role is) are.series;
  }

  -- a table
  pub table_more : (keys : ℕ) (table : TableValue) → input.role ≡ Table keys → table.keys ≡ keys → HasTableKind input.kind table →
      AreInputsOf (before ++ input ∷ []) (record { frame = inputs.frame; maps = inputs.maps; tables = inputs.tables ++ table ∷ []; series = inputs.series })
  table_more keys table is count values =
      let asked : input.role ≡ Table table.keys = cc in
      record {
        size = are.size;
        maps = role_same is_grid_role (λ input m. IsMapOf places input.kind m) before inputs.maps input (ap is_grid_role is) are.maps;
        tables = role_more is_table_role IsTableOf before inputs.tables input table (ap is_table_role is) (record { keys = asked; cells = values }) are.tables;
        series = role_same is_series_role (λ input series. HasSeriesKind input.kind series) before inputs.series input (ap is_series_role is) are.series;
      }

  -- a series
  pub series_more : (series : SeriesValue) → input.role ≡ Series → HasSeriesKind input.kind series →
      AreInputsOf (before ++ input ∷ []) (record { frame = inputs.frame; maps = inputs.maps; tables = inputs.tables; series = inputs.series ++ series ∷ [] })
  series_more series is values = record {
    size = are.size;
    maps = role_same is_grid_role (λ input m. IsMapOf places input.kind m) before inputs.maps input (ap is_grid_role is) are.maps;
    tables = role_same is_table_role IsTableOf before inputs.tables input (ap is_table_role is) are.tables;
    series = role_more is_series_role (λ input series. HasSeriesKind input.kind series) before inputs.series input series (ap is_series_role is) values are.series;
  }

  -- a stack, which is not read here
  pub stack_more : input.role ≡ Stack → AreInputsOf (before ++ input ∷ []) inputs
  stack_more is = record {
    size = are.size;
    maps = role_same is_grid_role (λ input m. IsMapOf places input.kind m) before inputs.maps input (ap is_grid_role is) are.maps;
    tables = role_same is_table_role IsTableOf before inputs.tables input (ap is_table_role is) are.tables;
    series = role_same is_series_role (λ input series. HasSeriesKind input.kind series) before inputs.series input (ap is_series_role is) are.series;
  }
