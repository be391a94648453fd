use Rattle.std.proofs.Common.{◌≡◌, ap, ◌∙◌, rules}
use Rattle.std.specs.Prelude.{Some, option_map}
use Rattle.tracing_tree_time.specs.Clock.{local_timer}
use Rattle.tracing_tree_c.specs.Settings.{offset_of}
use Rattle.tracing_tree_c.proofs.settings.local_clock.Goals as goal

pub returns : goal.returns
returns c =
    let found : Some c.in_ok-offset.offset.seconds ≡ offset_of c.args.seconds = search rules in
    ap Some c.with_offset.ensures.timer
    ∙ ap (option_map (λ offset. local_timer c.args.higher_precision (λ nanos. offset))) found
