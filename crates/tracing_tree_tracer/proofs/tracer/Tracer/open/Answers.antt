use Rattle.std.proofs.Common.{rules, Ok, Err}
use Rattle.tracing_tree_layer.specs.declared.call.Reply.TheVariants.{Span}
use Rattle.tracing_tree_tracer.specs.Values.{fields_of}
use Rattle.tracing_tree_tracer.specs.Tracers.{after_open, open_call}
use Rattle.tracing_tree_tracer.proofs.Made.{made_at, leaves_refused}
use Rattle.tracing_tree_tracer.proofs.tracer.Tracer.open.Goals as goal

pub returns-in_err-id : goal.returns-in_err-id
returns-in_err-id g c =
    let self = c.args.self.now in
    leaves_refused _ _ (after_open self.spans) (λ id. Span id) self _ c.in_err-id.field-0.0 c.from_residual-in_err-id.result (search rules)
    (made_at g.C.Calls.answers (g.N.Now.reads self.clock)
    (open_call self.emitter self.spans c.args.name.now (fields_of c.args.fields.now))
    c.in_ok-moment.moment (search rules) _ (search rules)
    _ (Err c.in_err-id.field-0.0) (search rules)
    _ self.layered _ (search rules) c.new_span.ensures)
    (search rules)

pub returns : goal.returns
returns g c =
    let self = c.args.self.now in
    record {
      made = made_at g.C.Calls.answers (g.N.Now.reads self.clock)
          (open_call self.emitter self.spans c.args.name.now (fields_of c.args.fields.now))
          c.in_ok-moment.moment (search rules) _ (search rules)
          _ (Ok (Span c.in_ok-id.id)) (search rules)
          _ self.layered _ (search rules) c.new_span.ensures;
      left = search rules;
    }
