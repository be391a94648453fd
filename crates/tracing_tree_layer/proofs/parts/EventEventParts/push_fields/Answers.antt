use Rattle.std.proofs.Common.{◌≡◌, ◌++◌, [], arith, drop, sym, ap, ◌∙◌, append-nil, string_bytes}
use Rattle.std.proofs.lemmas.Grind.{common_steps}
use Rattle.tracing_tree_drawing.specs.Format.Texts.{event_fields}
use Rattle.tracing_tree_layer.proofs.FieldTexts.{added_fields-false}
use Rattle.tracing_tree_layer.proofs.parts.EventEventParts.push_fields.Goals as goal

pub returns : goal.returns
returns c =
    let fields = c.as_slice-field-items.result.now in
    let none : drop c.loop-field.field-index fields ≡ [] = grind (arith, common_steps) in
    let same : fields ≡ c.args.self.now.fields = search in
    sym (append-nil _) ∙ (rw none at c.loop-field.invariant)
    ∙ ap (λ text. string_bytes c.args.out.now ++ text) (added_fields-false fields ∙ ap event_fields same)
