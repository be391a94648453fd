use Rattle.std.proofs.Common.{◌≡◌, ◌≤◌, ◌+◌, ◌++◌, List, length, vec_len}
use Rattle.std.specs.Prelude.{vec_capacity}
use Rattle.tracing_tree_layer.specs.Layered.Headline.{AreAnswered}
use Rattle.tracing_tree_layer.specs.Layer.Layers.{seen}
use Rattle.tracing_tree_layer.specs.declared.call.Call.{Call}
use Rattle.tracing_tree_layer.proofs.layered.Layered.run.Given as goal

-- the calls so far are answered, and what is left of them isn't looked at again; there is space for
-- the answers to the rest
abbrev pub invariant-loop-call : goal.invariant-loop-call
invariant-loop-call g l =
    (done taken rest : List Call) × (l.initial.call-items ≡ done ++ rest) × (l.call-items ≡ taken ++ rest)
    × (length taken ≡ l.call-index)
    × AreAnswered (seen g.FT.FormatTime g.W.Output) done l.answers.items l.fn.self l.self
    × (vec_len l.answers + length rest ≤ vec_capacity l.answers)
