use Rattle.tracing_tree_c.proofs.Fields.{no_field}
use Rattle.tracing_tree_c.proofs.Makes.{head_of}
use Rattle.tracing_tree_c.proofs.foreign.are_texts.Goals as goal

pub returns-then-not-is_text : goal.returns-then-not-is_text
returns-then-not-is_text c = (
  (λ never. cc),
  (λ all. c.if-not-is_text.ensures.1 (head_of c.args.fields.now c.loop-field.field-index no_field c.loop-field-test.true (c.loop-field.invariant.1 all))),
)
