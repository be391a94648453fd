use Rattle.std.proofs.Common.{◌≡◌, [], ◌∷◌, ◌++◌, ◌<◌, length, refl, sym, ap, subst, ◌∙◌, arith, append_assoc, append-nil, length-append}
use Rattle.tracing_tree_layer.specs.Layer.Layers.{seen, Changes}
use Rattle.tracing_tree_layer.specs.Layered.Answered.{IsAnswered}
use Rattle.tracing_tree_layer.proofs.Runs.{is_run, answered_more, next_item, none_left}
use Rattle.tracing_tree_layer.proofs.layered.Layered.run.Goals as goal

pub loop-call-init : goal.loop-call-init
loop-call-init g c =
    let none = c.in_ok-answers.ensures.items in
    let given = c.deref_mut-call-items.ensures.value in (
      [],
      [],
      c.deref_mut-call-items.result.now,
      refl,
      refl,
      refl,
      rw none refl,
      omega (arith, c.in_ok-answers.ensures.len, c.in_ok-answers.ensures.capacity, c.len.ensures, ap length given),
    )

pub push_reserved-requires : goal.push_reserved-requires
push_reserved-requires g c =
    let (done, taken, rest, split, left, place, answers, room) = c.loop-call.invariant in
    omega (arith, room, place, c.loop-call-test.true, c.loop-call.auto.call-items, ap length left, length-append taken rest)

pub loop-call-preserved : goal.loop-call-preserved
loop-call-preserved g c =
    let (done, taken, rest, split, left, place, answers, room) = c.loop-call.invariant in
    let d = c.call-item.result in
    let less : c.loop-call.call-index < length c.loop-call.call-items = omega (arith, c.loop-call-test.true, c.loop-call.auto.call-items) in
    let (others, first, put) = next_item c.loop-call.call-items taken rest c.loop-call.call-index d left place less in
    let see = seen g.FT.FormatTime g.W.Output in
    let answered = subst (λ call. Changes see (IsAnswered call c.take_call-answer.result) c.loop-call.self c.take_call-answer.new.self) (sym c.call-item.is) c.take_call-answer.ensures in
    let pushed = c.push_reserved.ensures in (
      done ++ c.call-item.result ∷ [],
      taken ++ c.take_call-answer.new.call ∷ [],
      others,
      split ∙ ap (λ all. done ++ all) (first ∙ ap (λ call. call ∷ others) (sym c.call-item.is)) ∙ sym (append_assoc done (c.call-item.result ∷ []) others),
      put c.take_call-answer.new.call,
      omega (arith, place, length-append taken (c.take_call-answer.new.call ∷ [])),
      rw pushed.items (answered_more see done c.loop-call.answers.items c.call-item.result c.take_call-answer.result
          c.args.self.now c.loop-call.self c.take_call-answer.new.self answers answered),
      omega (arith, room, pushed.len, pushed.capacity, ap length first),
    )

pub returns-clause-answered : goal.returns-clause-answered
returns-clause-answered g c =
    let (done, taken, rest, split, left, place, answers, room) = c.loop-call.invariant in
    let none : rest ≡ [] = none_left rest (omega (arith, place, c.loop-call-test.false, c.loop-call.auto.call-items, ap length left, length-append taken rest)) in
    let all : done ≡ c.args.calls.items = sym (sym c.deref_mut-call-items.ensures.value ∙ split ∙ ap (λ others. done ++ others) none ∙ append-nil done) in
    rw all at answers

pub returns-clause-run : goal.returns-clause-run
returns-clause-run g c =
    let see = seen g.FT.FormatTime g.W.Output in
    is_run see c.args.calls.items c.loop-call.answers.items c.args.self.now c.loop-call.self (returns-clause-answered g c)
