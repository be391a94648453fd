use Rattle.std.proofs.Common.{◌≡◌, ◌++◌, OnOk, refl, arith, string_bytes}
use Rattle.std.proofs.lemmas.Grind.{common_steps}
use Rattle.tracing_tree_base.specs.Field.{rendered_field}
use Rattle.tracing_tree_base.specs.declared.field.Field.{Field}
use Rattle.tracing_tree_drawing.specs.Format.Texts.{event_field}
use Rattle.tracing_tree_drawing.proofs.format.event.push_event_texts.Goals as goal

-- shown for a field with a known name and value, since the search unfolds a field that is written
-- out
pub returns-clause-text : goal.returns-clause-text
returns-clause-text c =
    let shown : (field : Field) → field.name ≡ c.args.name.now → field.value ≡ c.args.value.now
    → OnOk c.push_str-2.result (string_bytes c.push_str-2.new.self ≡ string_bytes c.args.out.now ++ event_field c.args.comma.now field)
    = λ field name value. grind (arith, common_steps) in
    shown (rendered_field c.args.name.now c.args.value.now) refl refl
