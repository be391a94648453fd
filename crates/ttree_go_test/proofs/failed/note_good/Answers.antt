use Rattle.std.proofs.Common.{◌≡◌, ℕ, List, true, bytes_eq, string_bytes, sym, ap, ◌∙◌}
use Rattle.std.specs.Prelude.{◌||◌, ◌&&◌, if◌then◌else◌}
use Rattle.std.specs.BTreeSet.{contains_text}
use Rattle.std.proofs.lemmas.Map.Text.{btree_set_updates_text}
use Rattle.ttree_go_test.proofs.FailedLines.{or-added}
use Rattle.ttree_go_test.proofs.failed.note_good.Goals as goal

pub returns-in_ok-insert : goal.returns-in_ok-insert
returns-in_ok-insert c = λ test.
    let old = c.args.good.now in
    let key = c.in_ok-from_str.field-0 in
    let name = c.args.one.now.test in
    let is : string_bytes key ≡ name = c.in_ok-from_str.ensures.ok ∙ c.as_str.ensures in
    btree_set_updates_text (string_bytes key) old c.insert.new.self true c.in_ok-insert.ensures.updates test
    ∙ ap (λ (t : List ℕ). if bytes_eq t test then true else contains_text old test) is
    ∙ or-added (bytes_eq name test) (contains_text old test)
    ∙ ap (λ good. contains_text old test || (good && bytes_eq name test)) (sym c.if-is_good.true ∙ c.is_good.ensures)
