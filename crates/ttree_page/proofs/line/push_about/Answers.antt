use Rattle.std.proofs.Common.{◌≡◌, ◌++◌, ap, ◌∙◌, OnOk, string_bytes, List, ℕ, subst}
use Rattle.ttree_page.proofs.Appended.{about-pushed, on_ok}
use Rattle.ttree_page.proofs.line.push_about.Goals as goal

pub returns-clause-ok : goal.returns-clause-ok
returns-clause-ok c =
    about-pushed c.push_str-2.result c.args.form c.args.title.now (string_bytes c.args.out.now) (string_bytes c.push_str.new.self)
    (string_bytes c.push_string.new.out) (string_bytes c.push_str-2.new.self)
    (c.in_ok-push_str.ensures.bytes ∙ ap (λ text. string_bytes c.args.out.now ++ text) c.start_text.ensures) c.in_ok-push_string.ensures.ok
    (subst (λ (text : List ℕ). OnOk c.push_str-2.result (string_bytes c.push_str-2.new.self ≡ string_bytes c.push_string.new.out ++ text)) c.line_end.ensures
    (on_ok c.push_str-2.result _ _ _ c.push_str-2.ensures.bytes))
