use Rattle.std.proofs.Common.{string_bytes}
use Rattle.ttree_page.proofs.Appended.{object-pushed, on_ok}
use Rattle.ttree_page.proofs.part.push_field_object.Goals as goal

pub returns-clause-ok : goal.returns-clause-ok
returns-clause-ok c =
    object-pushed c.push_str-2.result c.args.fields.now (string_bytes c.args.out.now) (string_bytes c.push_str.new.self)
    (string_bytes c.push_pairs.new.out) (string_bytes c.push_str-2.new.self) c.in_ok-push_str.ensures.bytes c.in_ok-push_pairs.ensures.ok
    (on_ok c.push_str-2.result _ _ _ c.push_str-2.ensures.bytes)
