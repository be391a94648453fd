use Rattle.std.specs.Prelude.{IfOk}
use Rattle.std.proofs.Common.{◌≡◌, false, Some, Result, Ok, Err, sym, ap, subst, ◌∙◌}
use Rattle.std.specs.Result.{result_ok}
use Rattle.tracing_tree_output.specs.contracts.output.TapeOutput.TheImpl.{ghosts as tape}
use Rattle.tracing_tree_layer.specs.Layer.Layers.{seen}
use Rattle.tracing_tree_laws.proofs.AcceptedCalls.{all_accepted, one_answer_each}
use Rattle.tracing_tree_laws.proofs.reading_back.read_events.Goals as goal

-- what holds of an answer that is there
of_answer : {A E : Type 0} (P : A → Type 0) (result : Result A E) (answer : A) → result_ok result ≡ Some answer → IfOk result P → P answer
of_answer P (Ok value) answer is h =
    let same : value ≡ answer = cc in
    subst P same h
of_answer P (Err error) answer is h = absurd (cc)

pub returns-clause-each : goal.returns-clause-each
returns-clause-each g c =
    let there = sym c.ok.ensures.value ∙ c.in_ok-answers.was in
    one_answer_each (seen g.FT.FormatTime tape) c.args.calls.items c.in_ok-answers.answers.items c.args.layered.now c.run.new.self
    (of_answer _ c.run.result c.in_ok-answers.answers there c.run.ensures.answered)

pub returns-clause-accepted : goal.returns-clause-accepted
returns-clause-accepted g c = λ first empty.
    let see = seen g.FT.FormatTime tape in
    let there = sym c.ok.ensures.value ∙ c.in_ok-answers.was in
    let sound : c.run.new.self.layer.failed ≡ false =
    ap (λ l. l.failed) (sym c.layer-else-amount-lt2.ensures) ∙ sym c.failed.ensures.failed ∙ c.if-failed.false in
    all_accepted see c.args.calls.items c.in_ok-answers.answers.items c.args.layered.now c.run.new.self first
    (λ i. record { forest = empty.no_span i; last = empty.no_last i; failed = empty.sound i }) sound
    (of_answer _ c.run.result c.in_ok-answers.answers there c.run.ensures.run).changed
    (of_answer _ c.run.result c.in_ok-answers.answers there c.run.ensures.answered)
