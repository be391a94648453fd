-- Calls without a long value are unchanged.
use Rattle.std.proofs.Common.{◌≡◌, ◌||◌, Bool, true, false, List, [], ◌∷◌, map, refl}
use Rattle.std.specs.List.{list_any}
use Rattle.tracing_tree_base.specs.declared.field.Field.{Field}
use Rattle.tracing_tree_layer.specs.declared.call.Call.{Call}
use Rattle.tracing_tree_layer.specs.declared.call.Call.TheVariants.{New, Clone, Record, Event, Close}
use Rattle.ttree_adapters.specs.Short.{has_long, is_cut_field, short_call, short_field}

pub either : (a b : Bool) → (a || b) ≡ false → (a ≡ false) × (b ≡ false)
either true b none = cc
either false b none = (refl, none)

same_field : (field : Field) → is_cut_field field ≡ false → short_field field ≡ field
same_field field none = rw none refl

same_fields : (fields : List Field) → list_any is_cut_field fields ≡ false → map short_field fields ≡ fields
same_fields [] none = refl
same_fields (field ∷ others) none =
    let both = either (is_cut_field field) (list_any is_cut_field others) none in
    (λ i. same_field field both.0 i ∷ same_fields others both.1 i)

same_call : (call : Call) → has_long call ≡ false → short_call call ≡ call
same_call (New attributes context) none = (λ i. New (record attributes { fields = same_fields attributes.fields none i }) context)
same_call (Event event context) none = (λ i. Event (record event { fields = same_fields event.fields none i }) context)
same_call (Record id record_of_it) none = (λ i. Record id (record { fields = same_fields record_of_it.fields none i }))
same_call (Clone id) none = refl
same_call (Close id context) none = refl

pub unchanged : (calls : List Call) → list_any has_long calls ≡ false → map short_call calls ≡ calls
unchanged [] none = refl
unchanged (call ∷ others) none =
    let both = either (has_long call) (list_any has_long others) none in
    (λ i. same_call call both.0 i ∷ unchanged others both.1 i)
