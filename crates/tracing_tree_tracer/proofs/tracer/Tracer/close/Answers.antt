use Rattle.std.proofs.Common.{rules, Ok, Err}
use Rattle.tracing_tree_layer.specs.declared.call.Reply.TheVariants.{Closed}
use Rattle.tracing_tree_tracer.specs.Tracers.{after_close, close_call, current_of}
use Rattle.tracing_tree_tracer.proofs.Made.{closed_as, made_at, leaves_refused}
use Rattle.tracing_tree_tracer.proofs.tracer.Tracer.close.Goals as goal

pub returns-in_err-was_removed : goal.returns-in_err-was_removed
returns-in_err-was_removed g c =
    let self = c.args.self.now in
    closed_as g.C.Calls.answers g.N.Now.reads (current_of self.spans) c.in-Some.id (search rules) _ self _
    (leaves_refused _ _ (after_close self.spans) (λ went. Closed went) self _ c.in_err-was_removed.field-0.0
    c.from_residual-in_err-was_removed.result (search rules)
    (made_at g.C.Calls.answers (g.N.Now.reads self.clock)
    (close_call self.emitter self.spans c.in-Some.id)
    c.in_ok-moment.moment (search rules) _ (search rules)
    _ (Err c.in_err-was_removed.field-0.0) (search rules)
    _ self.layered _ (search rules) c.close.ensures)
    (search rules))

pub returns : goal.returns
returns g c =
    let self = c.args.self.now in
    closed_as g.C.Calls.answers g.N.Now.reads (current_of self.spans) c.in-Some.id (search rules) _ self _
    (record {
      made = made_at g.C.Calls.answers (g.N.Now.reads self.clock)
          (close_call self.emitter self.spans c.in-Some.id)
          c.in_ok-moment.moment (search rules) _ (search rules)
          _ (Ok (Closed c.in_ok-was_removed.was_removed)) (search rules)
          _ self.layered _ (search rules) c.close.ensures;
      left = search rules;
    })
