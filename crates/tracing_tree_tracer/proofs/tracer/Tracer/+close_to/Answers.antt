use Rattle.std.proofs.Common.{rules}
use Rattle.tracing_tree_tracer.proofs.Closes.{closed-more, closed-none}
use Rattle.tracing_tree_tracer.proofs.tracer.Tracer.+close_to.Goals as goal

pub returns-in_err-close : goal.returns-in_err-close
returns-in_err-close g t c =
    closed-none g.C.Calls.answers g.N.Now.reads c.args.depth c.args.self.now _
    _ c.in_err-close.field-0.0 (search rules) _ (search rules) (search rules) c.close.ensures

pub returns : goal.returns
returns g t c =
    closed-more g.C.Calls.answers g.N.Now.reads c.args.depth c.args.self.now _ _
    _ c.in_ok-close.field-0 (search rules) _ (search rules) c.close.ensures c.close_to.ensures
