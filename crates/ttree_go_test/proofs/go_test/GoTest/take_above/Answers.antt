use Rattle.std.proofs.Common.{◌≡◌, true, false, not, bytes_eq, ap, sym, ◌∙◌, subst, rules}
use Rattle.std.specs.Prelude.{IfOk, ◌||◌}
use Rattle.ttree_source.specs.Marks.{is_empty}
use Rattle.ttree_go_test.specs.GoTest.{GoState, Held, above_held, held_test, holds, left_one}
use Rattle.ttree_go_test.specs.declared.go_test.tally.Ending.TheVariants.{Unfinished}
use Rattle.ttree_go_test.proofs.go_test.GoTest.take_above.Goals as goal

pub returns : goal.returns
unfolding above_held
returns c =
    let path = c.args.path.now in
    let test = c.args.test.now in
    let first : Held = held_test path test c.args.self.now in
    let same : (is_empty test || not (bytes_eq c.in_ok-owner.owner.test test)) ≡ false = search rules in
    let named : (is_empty test || not (bytes_eq first.one.test test)) ≡ false = ap (λ (h : Held). is_empty test || not (bytes_eq h.one.test test)) (sym c.in_ok-owner.ensures) ∙ same in
    let left : c.leave_one.new.self ≡ left_one Unfinished first.one first.state = c.in_ok-leave_one.ensures ∙ ap (λ (h : Held). left_one Unfinished h.one h.state) c.in_ok-owner.ensures in
    let again : GoState → Type 0 = λ s. IfOk c.take_owner-2.result (λ one. holds one c.take_owner-2.new.self ≡ held_test path test s) in
    rw named (subst again left c.take_owner-2.ensures)

pub returns-then-is_empty : goal.returns-then-is_empty
unfolding above_held
returns-then-is_empty c =
    let path = c.args.path.now in
    let test = c.args.test.now in
    let first : Held = held_test path test c.args.self.now in
    let apart : (is_empty test || not (bytes_eq c.in_ok-owner.owner.test test)) ≡ true = search rules in
    let named : (is_empty test || not (bytes_eq first.one.test test)) ≡ true = ap (λ (h : Held). is_empty test || not (bytes_eq h.one.test test)) (sym c.in_ok-owner.ensures) ∙ apart in
    rw named c.in_ok-owner.ensures
