use Rattle.std.proofs.Common.{◌≡◌, List, ℕ, Some, None, option_map, codes, false, sym, ap, ◌∙◌, subst}
use Rattle.std.specs.Prelude.{OnOk}
use Rattle.tracing_tree_lines.specs.Lines.Spelled.{is_skipped}
use Rattle.ttree_source.specs.Marks.{after_mark}
use Rattle.ttree_go_test.specs.GoTest.{GoState, package_ended}
use Rattle.ttree_go_test.specs.Texts.{up_to_space}
use Rattle.ttree_go_test.specs.declared.go_test.tally.Ending.TheVariants.{Failed}
use Rattle.ttree_go_test.proofs.go_test.GoTest.take_text.Goals as goal

pub returns-in-Some-after_mark : goal.returns-in-Some-after_mark
returns-in-Some-after_mark c =
    let line = c.args.line.now in
    let heading : after_mark (codes "# ") line ≡ None =
    sym c.after_mark.ensures ∙ ap (option_map (λ s. s.now)) c.in_default.is in
    let failure : after_mark (codes "FAIL\t") line ≡ Some c.in-Some-after_mark.rest.now =
    sym c.after_mark-2.ensures ∙ ap (option_map (λ s. s.now)) c.in-Some-after_mark.is in
    let named : List ℕ → Type 0 = λ path. OnOk c.end_package.result (c.end_package.new.self ≡ package_ended Failed path None c.set_building.new.self) in
    let done : GoState → Type 0 = λ s. OnOk c.end_package.result (c.end_package.new.self ≡ package_ended Failed (up_to_space c.in-Some-after_mark.rest.now) None s) in
    let text : is_skipped line ≡ false = ap is_skipped (sym c.as_bytes.ensures.value) ∙ sym c.is_skipped.ensures ∙ c.if-is_skipped.false in
    rw (text, heading, failure)
    (subst done c.in_ok-set_building.ensures (subst named c.up_to_space.ensures c.end_package.ensures))
