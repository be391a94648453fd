-- What a line reports.
use Rattle.std.specs.Prelude.{if◌then◌else◌, codes}
use Rattle.std.proofs.Common.{◌≡◌, Bool, true, false, List, [], ◌∷◌, refl}
use Rattle.tracing_tree_base.specs.declared.field.Field.{Field}
use Rattle.ttree_tracing.specs.TracingLine.{is_message_with, kind_by_message}
use Rattle.ttree_tracing.specs.declared.tracing.line.Kind.{Kind}
use Rattle.ttree_tracing.specs.declared.tracing.line.Kind.TheVariants.{Event as AnEvent, Enter}

by_enter : (enter : Bool) (other : Kind) → (if enter then Enter else other) ≡ AnEvent → (if enter then Enter else AnEvent) ≡ AnEvent
by_enter true other h = h
by_enter false other h = refl

-- A line that is an event if its current span isn't the last one listed is one anyway.
pub event_anyway : (fields : List Field) (current : Bool) → kind_by_message fields false ≡ AnEvent → kind_by_message fields current ≡ AnEvent
event_anyway fields false h = h
event_anyway [] true h = refl
event_anyway (message ∷ []) true h = by_enter (is_message_with message (codes "enter")) _ h
event_anyway (message ∷ other ∷ more) true h = refl
