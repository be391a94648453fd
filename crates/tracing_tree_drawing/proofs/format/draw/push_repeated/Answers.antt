use Rattle.std.proofs.Common.{string_bytes}
use Rattle.tracing_tree_base.proofs.Extended.{extended_twice}
use Rattle.tracing_tree_drawing.proofs.FrameTexts.{repeated-step}
use Rattle.tracing_tree_drawing.proofs.format.draw.push_repeated.Goals as goal

pub loop-preserved : goal.loop-preserved
loop-preserved c =
    let old = string_bytes c.loop.out in
    let new = string_bytes c.push_str.new.self in
    let pushed = c.in_ok-push_str.ensures.bytes in (
      repeated-step (string_bytes c.reserve.new.self) old new c.args.text.now c.loop.counter c.loop.invariant.0 pushed,
      extended_twice (string_bytes c.reserve.new.self) old new c.loop.invariant.1 (record { front = c.args.text.now; appended = pushed }),
    )
