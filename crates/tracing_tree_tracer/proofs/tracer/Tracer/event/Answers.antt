use Rattle.std.proofs.Common.{rules, Ok, Err}
use Rattle.tracing_tree_layer.specs.declared.call.Reply.TheVariants.{Done}
use Rattle.tracing_tree_tracer.specs.Values.{fields_of}
use Rattle.tracing_tree_tracer.specs.Tracers.{done, event_call}
use Rattle.tracing_tree_tracer.proofs.Made.{made_at, leaves_refused}
use Rattle.tracing_tree_tracer.proofs.tracer.Tracer.event.Goals as goal

pub returns-in_err-event-2 : goal.returns-in_err-event-2
returns-in_err-event-2 g c =
    let self = c.args.self.now in
    leaves_refused _ _ (λ result. self.spans) done self _ c.in_err-event-2.field-0.0 c.from_residual-in_err-event-2.result (search rules)
    (made_at g.C.Calls.answers (g.N.Now.reads self.clock)
    (event_call self.emitter self.spans c.args.level c.args.message.now (fields_of c.args.fields.now))
    c.in_ok-moment.moment (search rules) _ (search rules)
    _ (Err c.in_err-event-2.field-0.0) (search rules)
    _ self.layered _ (search rules) c.event-2.ensures)
    (search rules)

pub returns : goal.returns
returns g c =
    let self = c.args.self.now in
    record {
      made = made_at g.C.Calls.answers (g.N.Now.reads self.clock)
          (event_call self.emitter self.spans c.args.level c.args.message.now (fields_of c.args.fields.now))
          c.in_ok-moment.moment (search rules) _ (search rules)
          _ (Ok Done) (search rules)
          _ self.layered _ (search rules) c.event-2.ensures;
      left = search rules;
    }
