use Rattle.std.proofs.Common.{◌≡◌, ◌++◌, [], arith, drop, sym, ap, ap₂, ◌∙◌, append-nil, string_bytes}
use Rattle.std.proofs.lemmas.Grind.{common_steps}
use Rattle.tracing_tree_base.specs.Field.{rendered_field}
use Rattle.tracing_tree_drawing.specs.Format.Texts.{comma_after, event_field, event_fields}
use Rattle.tracing_tree_layer.proofs.FieldTexts.{added_fields-false}
use Rattle.tracing_tree_c.specs.Foreign.{foreign_fields}
use Rattle.tracing_tree_c.proofs.Fields.{no_field, pushed, tail_of}
use Rattle.tracing_tree_c.proofs.Makes.{head_of}
use Rattle.tracing_tree_c.proofs.foreign.EventTextsEventParts.push_fields.Goals as goal

pub texts-requires : goal.texts-requires
texts-requires c = head_of c.self.inside.fields.now c.loop-field.field-index no_field c.loop-field-test.true c.loop-field.invariant.1

pub loop-field-preserved : goal.loop-field-preserved
loop-field-preserved c =
    let given = c.self.inside.fields.now in
    let same = ap₂ rendered_field c.texts.ensures.name c.texts.ensures.value in (
      pushed (string_bytes c.loop-field.out) (string_bytes c.push_event_texts.new.out) _ c.loop-field.comma c.push_event_texts.new.comma
          given c.loop-field.field-index no_field c.loop-field-test.true c.loop-field.invariant.0
          (c.in_ok-push_event_texts.ensures.text ∙ ap (λ field. string_bytes c.loop-field.out ++ event_field c.loop-field.comma field) same)
          (c.in_ok-push_event_texts.ensures.comma ∙ ap (comma_after c.loop-field.comma) same),
      tail_of given c.loop-field.field-index no_field c.loop-field-test.true c.loop-field.invariant.1,
    )

pub returns : goal.returns
returns c =
    let given = c.self.inside.fields.now in
    let none : drop c.loop-field.field-index given ≡ [] = grind (arith, common_steps) in
    let same : foreign_fields given ≡ c.args.self.now.fields = search in
    sym (append-nil _) ∙ (rw none at c.loop-field.invariant.0)
    ∙ ap (λ text. string_bytes c.args.out.now ++ text) (added_fields-false (foreign_fields given) ∙ ap event_fields same)
