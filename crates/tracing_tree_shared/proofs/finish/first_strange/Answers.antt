use Rattle.std.proofs.Common.{◌≡◌, ◌⊎◌, ◌∙◌, sym, subst, length, arith, ℕ, inl, inr}
use Rattle.std.proofs.lemmas.Bool.{cases_eq}
use Rattle.tracing_tree_shared.specs.History.{slips_at}
use Rattle.tracing_tree_shared.proofs.Receipts.{rises, before_end, walked, first_uncounted, all_misplaced}
use Rattle.tracing_tree_shared.proofs.finish.first_strange.Goals as goal

pub count_at-requires : goal.count_at-requires
count_at-requires g c =
    rises c.args.history.now c.loop-place.place c.args.passes.now
    (before_end c.first_misplaced-misplaced.result (length c.args.history.now) c.loop-place.place c.up_to-end.result
    (all_misplaced c.args.history.now c.args.passes.now) (sym c.first_misplaced-misplaced.ensures) c.up_to-end.ensures c.loop-place-test.true).1

pub returns-then-count_at-ne1-clause-some : goal.returns-then-count_at-ne1-clause-some
returns-then-count_at-ne1-clause-some g c =
    let b = before_end c.first_misplaced-misplaced.result (length c.args.history.now) c.loop-place.place c.up_to-end.result
    (all_misplaced c.args.history.now c.args.passes.now) (sym c.first_misplaced-misplaced.ensures) c.up_to-end.ensures c.loop-place-test.true in
    first_uncounted c.args.history.now c.args.passes.now c.loop-place.place b.0 (λ e. c.if-count_at-ne1.true (c.count_at.ensures ∙ e)) c.loop-place.invariant
    (λ other h. omega (arith, b.1 other h))

pub loop-place-preserved : goal.loop-place-preserved
loop-place-preserved g c other lt = by_place (cases_eq other c.loop-place.place)
  where
    one : slips_at c.args.passes.now c.loop-place.place ≡ 1
    one = sym c.count_at.ensures ∙ c.if-count_at-ne1.false

    by_place : (other ≡ c.loop-place.place) ⊎ (other ≡ c.loop-place.place → ⊥) → slips_at c.args.passes.now other ≡ 1
    by_place (inl e) = subst (λ (p : ℕ). slips_at c.args.passes.now p ≡ 1) (sym e) one
    by_place (inr ne) = c.loop-place.invariant other (omega (arith, lt, ne))

pub returns-clause-some : goal.returns-clause-some
returns-clause-some g c =
    (walked c.args.history.now c.args.passes.now c.first_misplaced-misplaced.result c.up_to-end.result (sym c.first_misplaced-misplaced.ensures) c.up_to-end.ensures (λ other lt. c.loop-place.invariant other (omega (arith, lt, c.loop-place-test.false)))).0

pub returns-clause-none : goal.returns-clause-none
returns-clause-none g c =
    (walked c.args.history.now c.args.passes.now c.first_misplaced-misplaced.result c.up_to-end.result (sym c.first_misplaced-misplaced.ensures) c.up_to-end.ensures (λ other lt. c.loop-place.invariant other (omega (arith, lt, c.loop-place-test.false)))).1
