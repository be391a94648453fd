use Rattle.std.proofs.Common.{◌++◌, ap, ◌∙◌, string_bytes}
use Rattle.ttree_page.proofs.Appended.{record-pushed}
use Rattle.ttree_page.proofs.line.push_record.Goals as goal

pub returns-clause-ok : goal.returns-clause-ok
returns-clause-ok c =
    record-pushed c.push_end.result c.args.form c.args.id.0 c.args.fields.now (string_bytes c.args.out.now) (string_bytes c.push_str.new.self)
    (string_bytes c.push_number.new.out) (string_bytes c.push_end.new.out)
    (c.in_ok-push_str.ensures.bytes ∙ ap (λ text. string_bytes c.args.out.now ++ text) c.start_text.ensures) c.in_ok-push_number.ensures.ok c.push_end.ensures.ok
