-- Calls whose spans take one row are unchanged.
use Rattle.std.proofs.Common.{◌≡◌, false, ℕ, List, [], ◌∷◌, map, refl}
use Rattle.std.specs.List.{list_any}
use Rattle.tracing_tree_base.specs.declared.field.Field.{Field}
use Rattle.tracing_tree_layer.specs.declared.call.Call.{Call}
use Rattle.tracing_tree_layer.specs.declared.call.Call.TheVariants.{New, Clone, Record, Event, Close}
use Rattle.ttree_adapters.specs.OneRow.{has_line_end, has_lines, is_lined, one_row_call, one_row_field, one_row_text}
use Rattle.ttree_adapters.proofs.LongValues.{either}

same_text : (text : List ℕ) → has_line_end text ≡ false → one_row_text text ≡ text
same_text text none = rw none refl

same_field : (field : Field) → is_lined field ≡ false → one_row_field field ≡ field
same_field field none =
    let both = either (has_line_end field.name) (has_line_end field.value) none in
    (λ i. record { name = same_text field.name both.0 i; value = same_text field.value both.1 i })

same_fields : (fields : List Field) → list_any is_lined fields ≡ false → map one_row_field fields ≡ fields
same_fields [] none = refl
same_fields (field ∷ others) none =
    let both = either (is_lined field) (list_any is_lined others) none in
    (λ i. same_field field both.0 i ∷ same_fields others both.1 i)

pub same_call : (call : Call) → has_lines call ≡ false → one_row_call call ≡ call
same_call (New attributes context) none =
    let both = either (has_line_end attributes.name) (list_any is_lined attributes.fields) none in
    (λ i. New (record attributes { name = same_text attributes.name both.0 i; fields = same_fields attributes.fields both.1 i }) context)
same_call (Event event context) none = refl
same_call (Record id record_of_it) none = (λ i. Record id (record { fields = same_fields record_of_it.fields none i }))
same_call (Clone id) none = refl
same_call (Close id context) none = refl

pub unchanged : (calls : List Call) → list_any has_lines calls ≡ false → map one_row_call calls ≡ calls
unchanged [] none = refl
unchanged (call ∷ others) none =
    let both = either (has_lines call) (list_any has_lines others) none in
    (λ i. same_call call both.0 i ∷ unchanged others both.1 i)
