use Rattle.std.proofs.Common.{inr, Ok, Err, sym, subst}
use Rattle.std.proofs.lemmas.Result.{err_from_is_err_and}
use Rattle.tracing_tree_layer.specs.declared.call.Reply.{Reply}
use Rattle.tracing_tree_shared.specs.Books.{IsAnsweredOnSome}
use Rattle.tracing_tree_shared.proofs.Replays.{answered_on_some}
use Rattle.tracing_tree_shared.proofs.pass.SharedLayer.submit.Goals as goal

pub returns-in_err-receipt-clause-answered : goal.returns-in_err-receipt-clause-answered
returns-in_err-receipt-clause-answered g c =
    let cause = c.in_err-receipt.field-0.0.cause in
    let given : IsAnsweredOnSome g.FT.FormatTime c.args.draft.call (Err cause) = answered_on_some c.in_err-receipt.ensures.applied in
    let p = err_from_is_err_and c.from_residual.result c.from_residual.ensures.1 in
    inr (rw (p.1, p.2) given)

pub returns-clause-answered : goal.returns-clause-answered
returns-clause-answered g c =
    let P : Reply → Type 0 = λ reply. IsAnsweredOnSome g.FT.FormatTime c.args.draft.call (Ok reply) in
    inr (subst P (sym c.reply-reply.ensures) (answered_on_some c.in_ok-receipt.ensures.applied))
