use Rattle.std.proofs.Common.{ℕ, List, false, bytes_eq, sym, ap, ◌∙◌}
use Rattle.std.specs.Prelude.{◌&&◌, not, if◌then◌else◌}
use Rattle.std.specs.BTreeSet.{contains_text}
use Rattle.std.proofs.lemmas.Map.Text.{btree_set_updates_text}
use Rattle.ttree_go_test.proofs.FailedLines.{and-removed}
use Rattle.ttree_go_test.proofs.failed.forget_bad.Goals as goal

pub returns-then-is_bad : goal.returns-then-is_bad
returns-then-is_bad c = λ test.
    let old = c.args.over.now in
    let name = c.args.one.now.test in
    btree_set_updates_text c.as_str.result.now old c.remove.new.self false c.remove.ensures.updates test
    ∙ ap (λ (t : List ℕ). if bytes_eq t test then false else contains_text old test) c.as_str.ensures
    ∙ and-removed (bytes_eq name test) (contains_text old test)
    ∙ ap (λ bad. contains_text old test && not (bad && bytes_eq name test)) (sym c.if-is_bad.true ∙ c.is_bad.ensures)
