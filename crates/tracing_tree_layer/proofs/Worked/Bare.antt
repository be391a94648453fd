-- Worked examples of bare calls on a layer.
use Rattle.std.specs.Prelude.{◌≡◌, ℕ, List, [], ◌∷◌, ◌++◌, Some, None, true, false, refl, codes, encode_utf8_all}
use Rattle.std.specs.Char.{encode_utf8}
use Rattle.tracing_tree_spans.specs.Registry.Ids.{id_of}
use Rattle.tracing_tree_base.specs.Field.{rendered_field}
use Rattle.tracing_tree_time.specs.Clock.{no_timer}
use Rattle.tracing_tree_spans.specs.Registry.Forest.{new_span, add_span, empty_forest}
use Rattle.tracing_tree_base.specs.declared.context.Refusal.TheVariants.{NotHeld, Failed}
use Rattle.tracing_tree_spans.specs.declared.registry.Parent.TheVariants.{Root}
use Rattle.tracing_tree_layer.specs.Layered.State.{State}
use Rattle.tracing_tree_layer.specs.Layer.Bare.{BareCall, on_new_span, on_record, on_close, bare_text, bare_state_after, bare_cause_of}
use Rattle.tracing_tree_layer.proofs.WorkedCalls.{lined, outside}

-- the root `a` in a registry, unknown to the layer
abbrev pub pending : State
pending = record {
  forest = add_span (new_span (id_of 1) (record { name = codes "a"; target = []; parent = Root; fields = [] }) None 0) (empty_forest (id_of 1));
  last = None;
  failed = false;
}

-- what bare calls write, one after another
abbrev pub bare_texts : State → List BareCall → List ℕ
bare_texts state [] = []
bare_texts state (call ∷ calls) = bare_text lined no_timer state call ++ bare_texts (bare_state_after lined no_timer state call) calls

pub emitted_of_root : bare_texts pending (on_new_span (id_of 1) outside ∷ []) ≡ encode_utf8_all (codes "┐a \n")
unfolding encode_utf8
emitted_of_root = refl

-- a bare close keeps the span
pub closed_twice : bare_texts pending (on_close (id_of 1) outside ∷ on_close (id_of 1) outside ∷ []) ≡ encode_utf8_all (codes "┘\n┘\n")
unfolding encode_utf8
closed_twice = refl

-- an unknown id
pub unknown_close : bare_cause_of lined no_timer pending (on_close (id_of 9) outside) ≡ Some (NotHeld (id_of 9))
unknown_close = refl

pub unknown_new : bare_cause_of lined no_timer pending (on_new_span (id_of 9) outside) ≡ Some (NotHeld (id_of 9))
unknown_new = refl

-- is accepted in a record, which changes nothing
pub unknown_record : bare_cause_of lined no_timer pending (on_record (id_of 9) (record { fields = rendered_field [] [] ∷ [] })) ≡ None
unknown_record = refl

pub nothing_recorded : bare_state_after lined no_timer pending (on_record (id_of 9) (record { fields = rendered_field [] [] ∷ [] })) ≡ pending
nothing_recorded = refl

-- on a layer that has failed each call is refused
pub failed_before : bare_cause_of lined no_timer (record pending { failed = true }) (on_record (id_of 9) (record { fields = [] })) ≡ Some Failed
failed_before = refl
