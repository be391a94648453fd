use Rattle.std.proofs.Common.{◌≡◌, ◌-◌, ◌≤◌}
use denote.Text.{Utf8}
use denote.Shadow.{shadow}
use Rattle.std.specs.List.{repeat}
use Rattle.tracing_tree_drawing.specs.Rows.Line.{after_front}
use Rattle.tracing_tree_drawing.proofs.rows.text.after_repeated.Given as goal

abbrev pub invariant-loop-done : goal.invariant-loop-done
invariant-loop-done l =
    shadow (Utf8 l.rest) × (l.done ≤ l.fn.count)
    × (after_front (repeat l.fn.count l.fn.piece) l.fn.text ≡ after_front (repeat (l.fn.count - l.done) l.fn.piece) l.rest)
