use Rattle.std.proofs.Common.{◌≡◌, ◌++◌, arith, ap, ◌∙◌, string_bytes}
use Rattle.ttree_page.specs.Lines.{after_comma, in_quotes}
use Rattle.ttree_page.proofs.Appended.{one-more-field}
use Rattle.ttree_page.proofs.part.push_names_and_values.Goals as goal

pub loop-field-preserved : goal.loop-field-preserved
loop-field-preserved c =
    let field = c.field-item.result in
    let old = string_bytes c.loop-field.out in
    let mid = string_bytes c.push_after_comma.new.out in
    let new = string_bytes c.push_after_comma-in-loop-field.new.out in
    let name : mid ≡ old ++ after_comma (in_quotes field.name) = c.in_ok-push_after_comma.ensures.ok ∙ ap (λ text. old ++ after_comma (in_quotes text)) c.as_str.ensures in
    let value : new ≡ mid ++ after_comma (in_quotes field.value) =
    c.in_ok-push_after_comma-2.ensures.ok ∙ ap (λ text. mid ++ after_comma (in_quotes text)) c.as_str-in-loop-field.ensures in
    one-more-field (string_bytes c.args.out.now) old mid new c.args.fields.now c.loop-field.field-index field (omega arith) c.field-item.is c.loop-field.invariant name value
