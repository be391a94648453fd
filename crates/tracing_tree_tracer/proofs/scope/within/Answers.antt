use Rattle.std.proofs.Common.{rules, Ok, Err}
use Rattle.std.specs.Fn.{FnOnceReturnsAtMut}
use Rattle.tracing_tree_tracer.specs.Values.{fields_of}
use Rattle.tracing_tree_tracer.proofs.Scopes.{done-within, joins-ok, joins-fault, joins-error}
use Rattle.tracing_tree_tracer.proofs.scope.within.Goals as goal

pub returns-in-Ok-Ok : goal.returns-in-Ok-Ok
returns-in-Ok-Ok g c =
    done-within g.E.From.from_gives g.S.Spans (FnOnceReturnsAtMut g.F.FnOnce c.args.body) c.args.name.now (fields_of c.args.fields.now)
    (Ok c.in-Ok-Ok.value) _ _ _ _
    _ c.in_ok-open.field-0 (search rules) c.open.ensures c.body-answer.result (search rules)
    _ (search rules) _ c.close_to-closed.ensures
    (joins-ok g.E.From.from_gives c.body-answer.result _ c.in-Ok-Ok.value tt (search rules) (search rules))

pub returns-in-Ok-Err : goal.returns-in-Ok-Err
returns-in-Ok-Err g c =
    done-within g.E.From.from_gives g.S.Spans (FnOnceReturnsAtMut g.F.FnOnce c.args.body) c.args.name.now (fields_of c.args.fields.now)
    (Err c.from.result) _ _ _ _
    _ c.in_ok-open.field-0 (search rules) c.open.ensures c.body-answer.result (search rules)
    _ (search rules) _ c.close_to-closed.ensures
    (joins-fault g.E.From.from_gives c.body-answer.result _ c.in-Ok-Err.field-0-0 c.in-Ok-Err.fault c.from.result (search rules) (search rules) (search rules))

pub returns-in-Err-default : goal.returns-in-Err-default
returns-in-Err-default g c =
    done-within g.E.From.from_gives g.S.Spans (FnOnceReturnsAtMut g.F.FnOnce c.args.body) c.args.name.now (fields_of c.args.fields.now)
    (Err c.in-Err-default.error) _ _ _ _
    _ c.in_ok-open.field-0 (search rules) c.open.ensures c.body-answer.result (search rules)
    _ (search rules) _ c.close_to-closed.ensures
    (joins-error g.E.From.from_gives c.body-answer.result _ c.in-Err-default.error (search rules))
