-- What stands after one more step.
use Rattle.std.proofs.Common.{◌≡◌, ℕ, suc, ◌-◌, ◌*◌, ◌≤◌, List, [], ◌∷◌, ◌++◌, length, map, refl, sym, ap, subst, ◌∙◌, Ok, Result, arith}
use Rattle.std.specs.List.{filter}
use Rattle.std.proofs.lemmas.List.{length_push}
use Rattle.text_base.specs.Results.{◌>>=◌}
use Rattle.map_meaning.specs.declared.known.Known.{Known}
use Rattle.map_meaning.specs.declared.known.OverAt.{OverAt}
use Rattle.map_meaning.specs.declared.known.StepMap.{StepMap}
use Rattle.map_meaning.specs.declared.program.Program.{Program}
use Rattle.map_meaning.specs.Evaluation.{Done}
use Rattle.map_meaning.specs.Programs.{IsWellFormed}
use Rattle.map_meaning.specs.Spans.{kept_maps, step_span}
use Rattle.script_types.specs.Values.{Scenes, Written, done_steps, is_output_of, section_at}
use Rattle.run_session.specs.declared.inputs.Inputs.{Inputs}
use Rattle.run_session.specs.declared.samples.Sample.{Sample}
use Rattle.run_session.specs.declared.stages.StageMaps.{StageMaps}
use Rattle.run_session.specs.Asked.{HasDone, IsRunOf}
use Rattle.run_session.specs.Evaluation.{input_maps, scenes_over}
use Rattle.run_session.specs.Steps.{Standing, stacks_among}
use Rattle.run_session.specs.inside.Parts.{AreInputsOf}
use Rattle.run_session.specs.inside.Running.{IsStanding}
use Rattle.run_session.specs.inside.Standings.{AreGridsOf, known_at, outputs_over, put_by, with_held_row}
use Rattle.run_session.proofs.StepOutputs.{row_ids, row_kept, row_samples, step_reports, step_rows}
use Rattle.run_session.proofs.StepRuns.{standing_after}
use Rattle.run_session.proofs.StepStages.{done_front, grids_last, step_drains, step_knows, step_start, step_whole}

module _ (program : Program) (formed : IsWellFormed program) (inputs : Inputs) (are : AreInputsOf program.inputs inputs)
    (step n : ℕ) (e : step ≡ suc n) (some : 1 ≤ step) (there_is : step ≤ program.steps) (s : Standing) (left : StageMaps) (last : List StepMap) (samples : List Sample) (is : IsStanding program inputs n s left last samples)
    (g : List StepMap) (grids : AreGridsOf (inputs.frame.rows * inputs.frame.cols) step (stacks_among 0 program.inputs) g) where
  abbrev places : ℕ
  places = inputs.frame.rows * inputs.frame.cols

  abbrev all_grids : List (List StepMap)
  all_grids = s.grids ++ g ∷ []

  abbrev scenes : Scenes
  scenes = scenes_over program.inputs inputs all_grids

  abbrev known : Known
  known = known_at inputs left g last

  -- what was done before is done
  before_done : HasDone program inputs all_grids n is.done
  before_done = done_front program inputs s.grids g n (let c : length s.grids ≡ n = is.count in omega (arith, c)) ∙ is.is_done

  start_done : HasDone program inputs all_grids 0 is.start
  start_done = done_front program inputs s.grids g 0 (omega arith) ∙ is.is_start

  module _ (y : Done) (done : done_steps program scenes step ≡ Ok y) where
    abbrev reports : List Written
    reports = step_reports program formed inputs are step n e some there_is s left last samples is g grids y done

    -- what the program reports at the step
    pub step_reported : outputs_over program inputs all_grids step ≡ Ok reports
    step_reported =
        ap (λ r. r >>= λ done. Ok (map (put_by (input_maps program.inputs inputs) (scenes step) done) (filter (is_output_of (section_at step)) program.outputs))) done ∙
        (let P : List Written → Result (List Written) OverAt = λ xs. Ok xs in ap (λ k. P (map (put_by (input_maps program.inputs inputs) (scenes step) y) (filter (is_output_of (section_at k)) program.outputs))) e)

    -- what stands after the step
    pub stands_after : (maps : List StepMap) → maps ≡ kept_maps step y.dynamic 0 program.dynamic →
        IsStanding program inputs step (standing_after s step g reports) left maps (map (with_held_row known maps step) samples)
    stands_after maps kept =
        let P : List StepMap → Type 0 = λ maps. IsStanding program inputs step (standing_after s step g reports) left maps (map (with_held_row known maps step) samples) in
        subst P (sym kept)
        (record {
          count = length_push s.grids g ∙ (let c : length s.grids ≡ n = is.count in omega (arith, c, e));
          start = is.start;
          is_start = start_done;
          first = is.first;
          done = y;
          is_done = done;
          same_start = step_start program formed inputs are step n e some there_is s left last samples is g grids y done;
          same_drains = step_drains program formed inputs are step n e some there_is s left last samples is g grids y done;
          whole = λ behind. step_whole program formed inputs are step n e some there_is s left last samples is g grids y done;
          last_is = λ behind. refl;
          none = λ none. absurd (omega (arith, none, some));
          samples_are = step_rows program formed inputs are step n e some there_is s left last samples is g grids y done;
          each = row_samples places known (kept_maps step y.dynamic 0 program.dynamic) step samples is.each;
          kept_for = row_kept program.inputs known (kept_maps step y.dynamic 0 program.dynamic) step _ samples is.kept_for;
          ids_are = row_ids known (kept_maps step y.dynamic 0 program.dynamic) step samples ∙ is.ids_are;
        })

  -- the run that the runner was asked for
  pub step_asked : IsRunOf program inputs all_grids (step_span step) (record { program = program; span = step_span step; known = known })
  step_asked =
      let less : n ≡ step - 1 = omega (arith, e) in
      record {
        program_same = refl;
        span_same = refl;
        knows = step_knows program formed inputs are step n e some there_is s left last samples is g grids;
        rows = refl;
        cols = refl;
        maps = refl;
        tables = refl;
        series = refl;
        stacks = sym (grids_last s.grids g step n e is.count);
        before = record {
          start = is.start;
          is_start = start_done;
          initial = is.first.kept;
          drains = is.first.codes;
          before = is.done;
          is_before = subst (λ k. HasDone program inputs all_grids k is.done) less before_done;
          last = λ more. subst (λ k. last ≡ kept_maps k is.done.dynamic 0 program.dynamic) less (is.last_is (omega (arith, more, e)));
        };
      }
