-- Beside the lines of what failed, the calls are those from the least level on, in their order.
use Rattle.std.proofs.Common.{◌≡◌, ◌∙◌, ◌++◌, ◌∷◌, [], ℕ, nat_le, Bool, true, false, if◌then◌else◌, List, Option, Some, None, IfSome, unwrap_or, ap, refl, sym}
use Rattle.std.specs.BTreeMap.{is_at}
use Rattle.std.specs.List.{All}
use Rattle.std.specs.Map.{lookup, values_of}
use Rattle.std.specs.Ordering.{nat_cmp}
use Rattle.std.proofs.lemmas.List.Elements.{All-nil, filter-append}
use Rattle.std.proofs.lemmas.Map.Views.{All-map-remove_entry, All-values-insert_entry, IfSome-lookup_from_All}
use Rattle.tracing_tree_base.specs.declared.context.Context.{Context}
use Rattle.tracing_tree_base.specs.declared.context.Id.{Id}
use Rattle.tracing_tree_layer.specs.declared.call.Call.{Call}
use Rattle.tracing_tree_layer.specs.declared.call.Call.TheVariants.{New, Clone, Record, Event, Close}
use Rattle.ttree_source.specs.Levels.{is_shown, rank, shown_calls}
use Rattle.tracing_tree_spans.specs.declared.registry.Event.{Event as EventParts}
use Rattle.tracing_tree_base.specs.declared.style.Level.{Level}
use Rattle.ttree_adapters.specs.Mapping.{Made}
use Rattle.ttree_adapters.specs.Failures.{FailuresState, all_kept, alone, call_kept, event_left_out, failed, is_end, is_failure_level, lines_of, no_lines, with_held_line, with_line_in, without_lines}

module _ (min_level : Level) where
  -- none of these calls is shown
  abbrev AreBelow : List Call → Type 0
  AreBelow lines = shown_calls min_level lines ≡ []

  -- no span holds a call that is shown
  record HoldsBelow (s : FailuresState) : Type 0 where
    pub least_is : s.min_level ≡ min_level
    pub below : All AreBelow (values_of s.held)

  -- of what a call becomes, that call is shown if it is one of those
  record Keeps (call : Call) (made : Made FailuresState) : Type 0 where
    pub shown : shown_calls min_level made.calls ≡ shown_calls min_level (call ∷ [])
    pub holds : HoldsBelow made.mapping

  below_found : (found : Option (List Call)) → IfSome found AreBelow → AreBelow (unwrap_or found [])
  below_found (Some lines) below = below
  below_found None below = refl

  lines_below : (span : ℕ) (s : FailuresState) → HoldsBelow s → AreBelow (lines_of span s)
  lines_below span s holds =
      below_found (lookup (is_at (nat_cmp span)) s.held)
      (IfSome-lookup_from_All AreBelow (is_at (nat_cmp span)) s.held holds.below)

  without_below : (span : ℕ) (s : FailuresState) → HoldsBelow s → HoldsBelow (without_lines span s)
  without_below span s holds = record {
    least_is = holds.least_is;
    below = All-map-remove_entry (is_at (nat_cmp span)) (λ e. e.1) AreBelow s.held holds.below;
  }

  one_below : (line : Call) → is_shown min_level line ≡ false → AreBelow (line ∷ [])
  one_below line hidden = rw hidden refl

  more_below : (lines : List Call) (line : Call) → AreBelow lines → is_shown min_level line ≡ false → AreBelow (lines ++ line ∷ [])
  more_below lines line below hidden =
      filter-append (is_shown min_level) lines (line ∷ [])
      ∙ ap (λ (l : List Call). l ++ shown_calls min_level (line ∷ [])) below
      ∙ one_below line hidden

  with_below : (span : ℕ) (line : Call) (s : FailuresState) → is_shown min_level line ≡ false → HoldsBelow s → HoldsBelow (with_held_line span line s)
  with_below span line s hidden holds = record {
    least_is = holds.least_is;
    below = All-values-insert_entry nat_cmp span (lines_of span s ++ line ∷ []) AreBelow
        (without_lines span s).held (without_below span s holds).below
        (more_below (lines_of span s) line (lines_below span s holds) hidden);
  }

  with_below_in : (span : Option Id) (line : Call) (s : FailuresState) → is_shown min_level line ≡ false → HoldsBelow s → HoldsBelow (with_line_in span line s)
  with_below_in (Some span) line s hidden holds = with_below span.0 line s hidden holds
  with_below_in None line s hidden holds = holds

  failed_keeps : (span : Option Id) (call : Call) (s : FailuresState) → HoldsBelow s → Keeps call (failed span call s)
  failed_keeps (Some span) call s holds = record {
    shown = filter-append (is_shown min_level) (lines_of span.0 s) (call ∷ [])
        ∙ ap (λ (l : List Call). l ++ shown_calls min_level (call ∷ [])) (lines_below span.0 s holds);
    holds = without_below span.0 s holds;
  }
  failed_keeps None call s holds = record { shown = refl; holds = holds }

  alone_keeps : (call : Call) (s : FailuresState) → HoldsBelow s → Keeps call (alone call s)
  alone_keeps call s holds = record { shown = refl; holds = holds }

  left_keeps : (ends : Bool) (span : Option Id) (call : Call) (s : FailuresState) → is_shown min_level call ≡ false → HoldsBelow s →
      Keeps call (record { calls = []; mapping = if ends then s else with_line_in span call s })
  left_keeps true span call s hidden holds = record { shown = sym (one_below call hidden); holds = holds }
  left_keeps false span call s hidden holds = record {
    shown = sym (one_below call hidden);
    holds = with_below_in span call s hidden holds;
  }

  below_keeps : (reaches : Bool) (event : EventParts) (context : Context) (s : FailuresState) → HoldsBelow s → nat_le (rank s.min_level) (rank event.level) ≡ reaches →
      Keeps (Event event context)
      (if reaches then alone (Event event context) s else event_left_out event.fields context.current (Event event context) s)
  below_keeps true event context s holds is = alone_keeps (Event event context) s holds
  below_keeps false event context s holds is =
      left_keeps (is_end event.fields) context.current (Event event context) s
      (ap (λ (level : Level). nat_le (rank level) (rank event.level)) (sym holds.least_is) ∙ is) holds

  event_keeps : (fails : Bool) (event : EventParts) (context : Context) (s : FailuresState) → HoldsBelow s →
      Keeps (Event event context)
      (if fails then failed context.current (Event event context) s
      else if nat_le (rank s.min_level) (rank event.level) then alone (Event event context) s
      else event_left_out event.fields context.current (Event event context) s)
  event_keeps true event context s holds = failed_keeps context.current (Event event context) s holds
  event_keeps false event context s holds =
      below_keeps (nat_le (rank s.min_level) (rank event.level)) event context s holds refl

  keeps : (call : Call) (s : FailuresState) → HoldsBelow s → Keeps call (call_kept call s)
  keeps (Event event context) s holds =
      event_keeps (is_failure_level event.level) event context s holds
  keeps (Close id context) s holds = alone_keeps (Close id context) (without_lines id.0 s) (without_below id.0 s holds)
  keeps (New attributes context) s holds = alone_keeps (New attributes context) s holds
  keeps (Clone id) s holds = alone_keeps (Clone id) s holds
  keeps (Record id record_of_it) s holds = alone_keeps (Record id record_of_it) s holds

  shown_of_all : (calls : List Call) (s : FailuresState) → HoldsBelow s → shown_calls min_level (all_kept calls s).calls ≡ shown_calls min_level calls
  shown_of_all [] s holds = refl
  shown_of_all (call ∷ others) s holds =
      let first = keeps call s holds in
      let next = (call_kept call s).mapping in
      filter-append (is_shown min_level) (call_kept call s).calls (all_kept others next).calls
      ∙ ap (λ (l : List Call). l ++ shown_calls min_level (all_kept others next).calls) first.shown
      ∙ ap (λ (l : List Call). shown_calls min_level (call ∷ []) ++ l) (shown_of_all others next first.holds)
      ∙ sym (filter-append (is_shown min_level) (call ∷ []) others)

  -- Whatever is held, the calls that aren't events below the least level are all made, in their order.
  pub shown : (calls : List Call) → shown_calls min_level (all_kept calls (no_lines min_level)).calls ≡ shown_calls min_level calls
  shown calls = shown_of_all calls (no_lines min_level) (record { least_is = refl; below = All-nil AreBelow })
