use Rattle.std.proofs.Common.{ap, ◌∙◌, None}
use Rattle.std.specs.Prelude.{option_map}
use Rattle.std.proofs.lemmas.Result.{IfOk-weaker}
use Rattle.area_ops.specs.inside.Leaders.{led_by_entries, led_result}
use Rattle.area_ops.proofs.LeaderLemmas.{led-result}
use Rattle.area_ops.proofs.PlaceLemmas.{result_found}
use Rattle.area_ops.proofs.results.counted.Goals as goal

pub returns : goal.returns
returns c = IfOk-weaker c.led.result _ _ (λ results h class numbers counts.
    result_found results.entries class (option_map (led_result c.args.op) (led_by_entries class None c.args.counts.now.entries))
    (h class ∙ ap (option_map (led_result c.args.op)) (c.in_ok-leaders.ensures.leaders class))
    ∙ led-result c.args.op class numbers c.args.counts.now.entries c.requires.op c.in_ok-leaders.ensures.ordered counts c.requires.sound.some) c.led.ensures
