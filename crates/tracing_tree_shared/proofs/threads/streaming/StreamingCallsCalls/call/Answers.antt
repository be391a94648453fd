use Rattle.std.proofs.Common.{rules}
use Rattle.tracing_tree_shared.proofs.ThreadCalls.{streaming_answered}
use Rattle.tracing_tree_shared.proofs.threads.streaming.StreamingCallsCalls.call.Goals as goal

pub returns-clause-answered : goal.returns-clause-answered
returns-clause-answered g c =
    streaming_answered g.FT.FormatTime g.W.Output c.in_ok-draft.draft.call c.args.call (search rules) c.submit.result c.answer.result c.answer.ensures
    c.submit.ensures.applied c.args.self.now
