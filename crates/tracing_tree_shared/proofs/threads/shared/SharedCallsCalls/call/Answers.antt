use Rattle.std.proofs.Common.{rules}
use Rattle.tracing_tree_shared.proofs.ThreadCalls.{shared_answered}
use Rattle.tracing_tree_shared.proofs.threads.shared.SharedCallsCalls.call.Goals as goal

pub returns-clause-answered : goal.returns-clause-answered
returns-clause-answered g c =
    shared_answered g.FT.FormatTime c.in_ok-draft.draft.call c.args.call (search rules) c.submit.result c.answer.result c.answer.ensures
    c.self.inside.layer.now c.self.inside.pass c.submit.new.pass
    c.submit.ensures.ok c.submit.ensures.err c.submit.ensures.answered
    c.args.self.now c.self.view_is
