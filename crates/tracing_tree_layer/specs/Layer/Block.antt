-- The blocks of rows: their text.
use Rattle.std.specs.Prelude.{ℕ, false, if◌then◌else◌, List, [], ◌∷◌, ◌++◌, Option, Some, None, unwrap_or, codes}
use Rattle.tracing_tree_drawing.specs.Format.Settings.{Settings}
use Rattle.tracing_tree_base.specs.Style.{styled, shown_level}
use Rattle.tracing_tree_drawing.specs.Format.Texts.{label, span_fields, event_fields}
use Rattle.tracing_tree_time.specs.Clock.{Timer}
use Rattle.tracing_tree_base.specs.declared.style.Style.TheVariants.{Dimmed, BoldGreen}
use Rattle.tracing_tree_drawing.specs.declared.format.SpanMode.{SpanMode}
use Rattle.tracing_tree_drawing.specs.declared.format.SpanMode.TheVariants.{Close}
use Rattle.tracing_tree_spans.specs.declared.registry.Event.{Event}
use Rattle.tracing_tree_base.specs.declared.field.Field.{Field}
use Rattle.tracing_tree_base.specs.declared.context.Moment.{Moment}

-- a string and a space, or nothing if it is empty
abbrev pub spaced : List ℕ → List ℕ
spaced [] = []
spaced (first ∷ rest) = (first ∷ rest) ++ codes " "

module _ (settings : Settings) where
  -- ---- spans

  -- the label, if labels are on
  abbrev pub shown_label : SpanMode → List ℕ
  shown_label mode = if settings.span_modes then label mode else []

  -- a brace round the fields, or its replacement without braces
  abbrev pub shown_brace : List ℕ → List ℕ → List ℕ
  shown_brace brace plain =
      if settings.bracketed_fields then styled settings.ansi BoldGreen brace else plain

  -- target, name and fields of a span
  abbrev pub span_text : List ℕ → List ℕ → List Field → List ℕ
  span_text target name fields =
      (if settings.targets then styled settings.ansi Dimmed target ++ codes "::" else [])
      ++ styled settings.ansi BoldGreen name
      ++ shown_brace (codes "{") (codes " ") ++ span_fields fields ++ shown_brace (codes "}") []

  -- a label, and target, name and fields of a span; a plain close has only its label
  abbrev pub span_block : SpanMode → List ℕ → List ℕ → List Field → List ℕ
  span_block (Close false) target name fields = shown_label (Close false)
  span_block mode target name fields = shown_label mode ++ span_text target name fields

  -- ---- events

  -- level, target and fields
  abbrev pub event_tail : Event → List ℕ
  event_tail event =
      shown_level settings.ansi event.level
      ++ (if settings.targets then 32 ∷ styled settings.ansi Dimmed event.target else [])
      ++ event_fields event.fields

  -- the timer's string for an elapsed time and a space, even if that string is empty; nothing if
  -- there is no elapsed time
  abbrev pub elapsed_part : Timer → Option ℕ → List ℕ
  elapsed_part timer None = []
  elapsed_part timer (Some nanos) = unwrap_or (timer.elapsed_text settings.ansi nanos) [] ++ 32 ∷ []

  -- The timer's strings for the moment and for the time since a start, and then the event. An event
  -- at which the timer faults is refused, so nothing depends on its string here.
  abbrev pub event_block : Timer → Moment → Option ℕ → Event → List ℕ
  event_block timer at since event =
      spaced (unwrap_or (timer.moment_text at) []) ++ elapsed_part timer since ++ event_tail event
