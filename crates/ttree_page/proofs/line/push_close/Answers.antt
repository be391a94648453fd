use Rattle.std.proofs.Common.{◌≡◌, ◌++◌, OnOk, string_bytes, List, ℕ, subst}
use Rattle.ttree_page.specs.Steps.{stamp_of}
use Rattle.ttree_page.proofs.Appended.{close-pushed, on_ok}
use Rattle.ttree_page.proofs.line.push_close.Goals as goal

pub returns-clause-ok : goal.returns-clause-ok
returns-clause-ok c =
    close-pushed c.push_str.result c.args.form (stamp_of c.args.context.now) c.args.id.0 (string_bytes c.args.out.now) (string_bytes c.push_start.new.out)
    (string_bytes c.push_number.new.out) (string_bytes c.push_str.new.self) c.in_ok-push_start.ensures.ok c.in_ok-push_number.ensures.ok
    (subst (λ (text : List ℕ). OnOk c.push_str.result (string_bytes c.push_str.new.self ≡ string_bytes c.push_number.new.out ++ text)) c.line_end.ensures
    (on_ok c.push_str.result _ _ _ c.push_str.ensures.bytes))
