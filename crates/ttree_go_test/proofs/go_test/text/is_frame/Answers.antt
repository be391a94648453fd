use Rattle.std.proofs.Common.{rules, ◌≡◌, ◌∙◌, ℕ, Bool, true, false, List, sym, ap, if◌then◌else◌}
use Rattle.ttree_source.specs.Marks.{is_empty}
use Rattle.ttree_go_test.specs.Texts.{is_frame, is_summary, is_test_frame, without_spaces}
use Rattle.ttree_go_test.proofs.go_test.text.is_frame.Goals as goal

by_name : (test line : List ℕ) (b : Bool) → is_empty test ≡ b → is_frame test line ≡ (if b then is_summary line else is_test_frame test (without_spaces line))
unfolding is_frame
by_name test line b e = ap (λ b. if b then is_summary line else is_test_frame test (without_spaces line)) e

pub returns-then-is_empty : goal.returns-then-is_empty
returns-then-is_empty c =
    let none : is_empty c.args.test.now ≡ true = search rules in
    c.is_summary.ensures ∙ sym (by_name c.args.test.now c.args.line.now true none)

pub returns : goal.returns
returns c =
    let full : is_empty c.args.test.now ≡ false = search rules in
    let line : c.without_spaces.result.now ≡ without_spaces c.args.line.now = c.without_spaces.ensures ∙ ap without_spaces c.as_bytes-2.ensures.value in
    c.is_test_frame.ensures ∙ ap (λ t. is_test_frame t c.without_spaces.result.now) c.as_bytes.ensures.value ∙ ap (is_test_frame c.args.test.now) line
    ∙ sym (by_name c.args.test.now c.args.line.now false full)
