use Rattle.std.proofs.Common.{arith, rules, ◌∙◌, sym, ◌≡◌, ◌%◌, ◌==◌, false, ◌++◌, ap, List, ℕ}
use Rattle.tracing_tree_time.proofs.Numbers.{fraction-step, fraction-under, fraction-one, fraction-whole}
use Rattle.tracing_tree_time.proofs.civil.push_fraction.Goals as goal
use Rattle.tracing_tree_time.proofs.civil.push_fraction.Goals.{then-loop-places-test+else-number-eq0, else-loop-places-test}

pub loop-places-preserved : goal.loop-places-preserved
loop-places-preserved c =
    let now = c.loop-places in
    let i = now.invariant in
    let more = c.loop-places-test.true in (
      fraction-step now.places now.number (omega arith) now.auto.number-fits.fits c.if-number-eq0.true ∙ i.0,
      omega arith,
      omega arith,
      fraction-under now.places now.number (omega arith) i.3,
    )

pub returns-clause-text : goal.returns-clause-text
returns-clause-text c =
    let now = c.loop-places in
    let i = now.invariant in
    let before = λ (text : List ℕ). c.args.text.now ++ text in
    elim c.loop-places-test.branch [
      | then-loop-places-test+else-number-eq0 w ↦
          let other : (now.number % 10 == 0) ≡ false = grind (arith, rules, w.if-number-eq0.false) in
          let more = w.loop-places-test.true in
          c.push_digits.ensures.text
          ∙ ap before
          (sym (fraction-whole now.places now.number (omega arith) now.auto.number-fits.fits other) ∙ i.0)
      | else-loop-places-test w ↦
          let few = w.loop-places-test.false in
          c.push_digits.ensures.text
          ∙ ap before (sym (fraction-one now.places now.number (omega arith) i.3) ∙ i.0)
    ]
