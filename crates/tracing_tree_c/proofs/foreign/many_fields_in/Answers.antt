use Rattle.std.proofs.Common.{◌≡◌, List}
use Rattle.std.specs.Prelude.{slice_index_or, [], ⊤}
use Rattle.tracing_tree_base.specs.declared.field.Field.{Field}
use Rattle.tracing_tree_c.specs.Foreign.{IsUtf8Field, IsUtf8Fields, HasNoFields, IsSmallField, foreign_field, foreign_fields}
use Rattle.tracing_tree_c.specs.declared.foreign.FieldRef.{FieldRef}
use Rattle.tracing_tree_c.proofs.Makes.{carried, head_of, not_empty}
use Rattle.tracing_tree_c.proofs.foreign.many_fields_in.Goals as goal

pub returns-in-Err : goal.returns-in-Err
returns-in-Err c =
    let given : List FieldRef = c.args.given.now in
    let none : FieldRef = record { name = record { ref_ptr = (0, 0); now = [] }; value = record { ref_ptr = (0, 0); now = [] } } in
    let at : FieldRef = slice_index_or given c.loop-field.field-index none in
    carried Field (List Field) ⊤ (IsUtf8Field at) (IsSmallField at) (IsUtf8Fields given) (HasNoFields given) (λ field. field ≡ foreign_field at) (λ fields. fields ≡ foreign_fields given) c.in-Err.fault
    (λ all. head_of given c.loop-field.field-index none c.loop-field-test.true (c.loop-field.invariant.2 all))
    (λ none_given. absurd (not_empty given c.loop-field.field-index c.loop-field-test.true none_given)) c.in-Err.ensures

-- if all can be read for sure, so can the current one
pub field_in-requires : goal.field_in-requires
field_in-requires c =
    let given : List FieldRef = c.args.given.now in
    let none : FieldRef = record { name = record { ref_ptr = (0, 0); now = [] }; value = record { ref_ptr = (0, 0); now = [] } } in
    λ sure. head_of given c.loop-field.field-index none c.loop-field-test.true (c.loop-field.invariant.2 (c.requires sure))
