-- The timer of a tree, as contracts see it.
use Rattle.std.specs.Prelude.{Some}
use Rattle.tracing_tree_time.specs.Clock.{Timer, clock_timer}
use Rattle.tracing_tree_c.specs.declared.timer.TreeTimer.{TreeTimer}
use Rattle.tracing_tree_c.specs.declared.timer.TreeTimer.TheVariants.{Library, Own}

-- what a tree's timer shows: what one of the library's does, or these strings whatever the time is
abbrev pub tree_timer : TreeTimer → Timer
tree_timer (Library clock) = clock_timer clock
tree_timer (Own written) = record {
  moment_text = λ moment. Some written.moment;
  elapsed_text = λ ansi nanos. Some written.elapsed;
}
