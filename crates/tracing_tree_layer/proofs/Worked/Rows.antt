-- The definitions result in the text of the worked examples: each is computed from its settings and
-- its list of calls.
use Rattle.std.specs.Prelude.{◌≡◌, true, false, [], ◌∷◌, Some, Ok, Err, refl, codes, pos, encode_utf8_all}
use Rattle.std.specs.Char.{encode_utf8}
use Rattle.std.specs.Fmt.{digits}
use Rattle.tracing_tree_spans.specs.Registry.Ids.{id_of}
use Rattle.tracing_tree_base.specs.Field.{text_field, whole_field, rendered_field}
use Rattle.tracing_tree_time.specs.Clock.{no_timer, uptime_timer, uptime_text, lower_elapsed_text, higher_elapsed_text}
use Rattle.tracing_tree_base.specs.declared.context.Refusal.TheVariants.{NotHeld, TooWide, TooMany}
use Rattle.tracing_tree_spans.specs.declared.registry.Parent.TheVariants.{Of}
use Rattle.tracing_tree_base.specs.declared.style.Level.TheVariants.{Info}
use Rattle.tracing_tree_layer.specs.Layered.State.{opening_state}
use Rattle.tracing_tree_layer.specs.Layered.Run.{text_of, answers_of}
use Rattle.tracing_tree_layer.specs.declared.call.Call.TheVariants.{Record}
use Rattle.tracing_tree_layer.specs.declared.call.Reply.TheVariants.{Span, Closed}
use Rattle.tracing_tree_layer.proofs.WorkedCalls.{plain, lined, outside, inside, made_with, made, emitted, informed, warned, closed, written, left_by, written_after, root_and_child, two_roots, written_after_root, at_mono}

-- a tree of two spans with an event
pub a_tree : written lined (made (codes "a") outside ∷ made (codes "b") (inside 1) ∷ warned (codes "x") (inside 2) ∷ closed 2 ∷ closed 1 ∷ [])
    ≡ encode_utf8_all (codes "┐a \n└─┐b \n  ├─ WARN x\n┌─┘\n┘\n")
unfolding encode_utf8
a_tree = refl

-- fields in brackets, without lines
pub bracketed : written (record plain { bracketed_fields = true }) (made_with (text_field (codes "host") (codes "localhost") ∷ whole_field (codes "port") (pos 8080) ∷ []) (codes "server") outside ∷ [])
    ≡ encode_utf8_all (codes " server{host=\"localhost\", port=8080}\n")
unfolding encode_utf8 digits
bracketed = refl

-- an event in a root, without lines
pub event_without_lines : written plain (made (codes "a") outside ∷ informed (codes "starting") (inside 1) ∷ [])
    ≡ encode_utf8_all (codes " a \n  INFO starting\n")
unfolding encode_utf8
event_without_lines = refl

-- the parent is shown again when its child is made; only the two last lines count here
pub verbose_entry : written_after_root (record lined { indent_amount = 4; verbose_entry = true }) (made (codes "b") (inside 1) ∷ [])
    ≡ encode_utf8_all (codes "└─┐a \n  └─┐b \n")
unfolding encode_utf8
verbose_entry = refl

-- each level is the first
pub wraps_at_one : written_after_root (record lined { wraparound = 1 }) (made (codes "b") (inside 1) ∷ [])
    ≡ encode_utf8_all (codes "┐b \n┘\n")
unfolding encode_utf8
wraps_at_one = refl

-- two levels
pub wraps_at_two : written_after_root (record lined { wraparound = 2 }) (made (codes "b") (inside 1) ∷ [])
    ≡ encode_utf8_all (codes "└─┐b \n──┘\n")
unfolding encode_utf8
wraps_at_two = refl

-- no indent
pub amount_zero : written_after_root (record lined { indent_amount = 0 }) (made (codes "b") (inside 1) ∷ [])
    ≡ encode_utf8_all (codes "b \n")
unfolding encode_utf8
amount_zero = refl

-- a block of two lines
pub root_of_two_lines : written lined (made_with (rendered_field (codes "k") (codes "1\n2") ∷ []) (codes "a") outside ∷ [])
    ≡ encode_utf8_all (codes "┐a k=1\n┐2\n")
unfolding encode_utf8
root_of_two_lines = refl

-- spans that wait for an event
pub deferred : written (record lined { deferred_spans = true }) (made (codes "a") outside ∷ made (codes "b") (inside 1) ∷ made (codes "c") (inside 2) ∷ informed (codes "x") (inside 2) ∷ closed 3 ∷ [])
    ≡ encode_utf8_all (codes "┐a \n└─┐b \n  ├─ INFO x\n")
unfolding encode_utf8
deferred = refl

-- a root without an event
pub deferred_and_silent : written (record lined { deferred_spans = true }) (made (codes "a") outside ∷ closed 1 ∷ [])
    ≡ encode_utf8_all (codes "")
unfolding encode_utf8
deferred_and_silent = refl

-- two roots in turn
pub retraced_roots : written (record lined { span_retrace = true }) (made (codes "a") outside ∷ made (codes "b") outside ∷ informed (codes "x") (inside 1) ∷ informed (codes "y") (inside 2) ∷ [])
    ≡ encode_utf8_all (codes "┐a \n┐b \n┐a \n├─ INFO x\n┐b \n├─ INFO y\n")
unfolding encode_utf8
retraced_roots = refl

-- a parent without handles stays until its child closes
pub closes_in_turn : answers_of lined no_timer (left_by lined root_and_child) (closed 1 ∷ closed 1 ∷ closed 2 ∷ [])
    ≡ Ok (Closed false) ∷ Err (NotHeld (id_of 1)) ∷ Ok (Closed true) ∷ []
closes_in_turn = refl

-- and both closes are drawn then
pub writes_in_turn : written_after lined root_and_child (closed 1 ∷ closed 1 ∷ closed 2 ∷ [])
    ≡ encode_utf8_all (codes "┌─┘\n┘\n")
unfolding encode_utf8
writes_in_turn = refl

-- the parent is shown again after its child
pub verbose_exit : written_after (record lined { indent_amount = 4; verbose_exit = true }) root_and_child (closed 1 ∷ closed 1 ∷ closed 2 ∷ [])
    ≡ encode_utf8_all (codes "  ┌─┘b \n┌─┘a \n┘a \n")
unfolding encode_utf8
verbose_exit = refl

-- a close off the current branch
pub close_off_the_path : written (record lined { span_retrace = true }) (made (codes "a") outside ∷ made (codes "b") (inside 1) ∷ made (codes "c") outside ∷ closed 2 ∷ informed (codes "x") (inside 1) ∷ [])
    ≡ encode_utf8_all (codes "┐a \n└─┐b \n┐c \n┌─┘\n├─ INFO x\n")
unfolding encode_utf8
close_off_the_path = refl

-- after the greatest id there is no other
pub last_id : answers_of lined no_timer (opening_state (Some (id_of 18_446_744_073_709_551_615))) two_roots
    ≡ Ok (Span (id_of 18_446_744_073_709_551_615)) ∷ Err TooMany ∷ []
last_id = refl

-- a level of 2 is too wide at this amount
pub too_wide : answers_of (record plain { deferred_spans = true; indent_amount = 9_223_372_036_854_775_808 }) no_timer (left_by (record plain { deferred_spans = true; indent_amount = 9_223_372_036_854_775_808 }) (made (codes "a") outside ∷ made (codes "b") (inside 1) ∷ made (codes "c") (inside 2) ∷ [])) (emitted Info (Of (id_of 3)) [] outside ∷ [])
    ≡ Err TooWide ∷ []
too_wide = refl

-- and nothing is written
pub too_wide_writes_nothing : written_after (record plain { deferred_spans = true; indent_amount = 9_223_372_036_854_775_808 }) (made (codes "a") outside ∷ made (codes "b") (inside 1) ∷ made (codes "c") (inside 2) ∷ []) (emitted Info (Of (id_of 3)) [] outside ∷ []) ≡ []
too_wide_writes_nothing = refl

-- milliseconds
pub under_a_second : lower_elapsed_text false 999000000 ≡ encode_utf8_all (codes "999ms")
unfolding encode_utf8 digits
under_a_second = refl

-- seconds
pub a_second : lower_elapsed_text false 1000000000 ≡ encode_utf8_all (codes "  1s ")
unfolding encode_utf8 digits
a_second = refl

-- minutes
pub a_minute : lower_elapsed_text false 60000000000 ≡ encode_utf8_all (codes "  1m ")
unfolding encode_utf8 digits
a_minute = refl

-- milliseconds with decimals
pub one_and_a_half_milliseconds : higher_elapsed_text false 1500000 ≡ encode_utf8_all (codes " 1.50ms")
unfolding encode_utf8 digits
one_and_a_half_milliseconds = refl

-- microseconds that are rounded up
pub almost_a_millisecond : higher_elapsed_text false 999999 ≡ encode_utf8_all (codes " 1000.00μs")
unfolding encode_utf8 digits
almost_a_millisecond = refl

-- a tie is rounded to the even count
pub five_nanoseconds : higher_elapsed_text false 5 ≡ encode_utf8_all (codes " 0.00μs")
unfolding encode_utf8 digits
five_nanoseconds = refl

-- upward too
pub fifteen_nanoseconds : higher_elapsed_text false 15 ≡ encode_utf8_all (codes " 0.02μs")
unfolding encode_utf8 digits
fifteen_nanoseconds = refl

-- an eager span that retraces has the label of a retrace
pub labelled_retrace : written (record lined { span_modes = true; span_retrace = true }) (made (codes "a") outside ∷ [])
    ≡ encode_utf8_all (codes "┐retrace: a \n")
unfolding encode_utf8
labelled_retrace = refl

-- a verbose root
pub labelled_open : written (record lined { span_modes = true; verbose_entry = true }) (made (codes "a") outside ∷ [])
    ≡ encode_utf8_all (codes "┐open(v): a \n")
unfolding encode_utf8
labelled_open = refl

-- the time since an epoch
pub uptime_in_places : uptime_text 0 3_000_042_000 ≡ codes "   3.000042s"
unfolding digits
uptime_in_places = refl

pub long_uptime : uptime_text 0 12_345_000_000_000 ≡ codes "12345.000000s"
unfolding digits
long_uptime = refl

pub early_uptime : uptime_text 5 3 ≡ codes "   0.000000s"
unfolding digits
early_uptime = refl

-- both strings of a timer
pub timed_event : text_of lined (uptime_timer false 0) (opening_state (Some (id_of 1)))
    (made (codes "a") (at_mono 1_000_000_000 outside) ∷ informed (codes "x") (at_mono 3_000_042_000 (inside 1)) ∷ [])
    ≡ encode_utf8_all (codes "┐a \n├─   3.000042s   2s  INFO x\n")
unfolding encode_utf8 digits
timed_event = refl

pub timed_event_with_decimals : text_of lined (uptime_timer true 0) (opening_state (Some (id_of 1)))
    (made (codes "a") (at_mono 1_000_000_000 outside) ∷ informed (codes "x") (at_mono 3_000_042_000 (inside 1)) ∷ [])
    ≡ encode_utf8_all (codes "┐a \n├─   3.000042s  2.00s  INFO x\n")
unfolding encode_utf8 digits
timed_event_with_decimals = refl

-- the number and the name of a thread
pub named_thread : written (record lined { render_thread_ids = true; render_thread_names = true }) (made (codes "a") (record outside { thread_id = 7; thread_name = Some (codes "main") }) ∷ [])
    ≡ encode_utf8_all (codes "7:main┐a \n")
unfolding encode_utf8 digits
named_thread = refl

pub numbered_thread : written (record lined { render_thread_ids = true; render_thread_names = true }) (made (codes "a") (record outside { thread_id = 7 }) ∷ [])
    ≡ encode_utf8_all (codes "7┐a \n")
unfolding encode_utf8 digits
numbered_thread = refl

-- colours
pub coloured : written (record lined { ansi = true }) (made (codes "a") outside ∷ informed (codes "x") outside ∷ [])
    ≡ encode_utf8_all (codes "┐\u{1b}[1;32ma\u{1b}[0m \n\u{1b}[1;32m INFO\u{1b}[0m x\n")
unfolding encode_utf8
coloured = refl

-- deferred spans, with the parent shown again
pub deferred_verbose : written (record lined { indent_amount = 4; deferred_spans = true; verbose_entry = true }) (made (codes "a") outside ∷ made (codes "b") (inside 1) ∷ informed (codes "x") (inside 1) ∷ informed (codes "y") (inside 2) ∷ [])
    ≡ encode_utf8_all (codes "┐a \n├─── INFO x\n└─┐a \n  └─┐b \n    ├─── INFO y\n")
unfolding encode_utf8
deferred_verbose = refl

-- an event of two lines
pub event_of_two_lines : written lined (made (codes "a") outside ∷ informed (codes "x\ny") (inside 1) ∷ [])
    ≡ encode_utf8_all (codes "┐a \n├─ INFO x\n│  y\n")
unfolding encode_utf8
event_of_two_lines = refl

-- an event at the root
pub event_outside : written lined (informed (codes "x") outside ∷ [])
    ≡ encode_utf8_all (codes "INFO x\n")
unfolding encode_utf8
event_outside = refl

-- fields that come before the span is shown
pub recorded_late : written (record lined { deferred_spans = true }) (made (codes "a") outside ∷ Record (id_of 1) (record { fields = rendered_field (codes "k") (codes "1") ∷ [] }) ∷ Record (id_of 9) (record { fields = [] }) ∷ informed (codes "x") (inside 1) ∷ [])
    ≡ encode_utf8_all (codes "┐a k=1\n├─ INFO x\n")
unfolding encode_utf8
recorded_late = refl

-- number and unit are dimmed each by itself
pub dimmed_time : lower_elapsed_text true 999_000_000 ≡ codes "\u{1b}[2m999\u{1b}[0m\u{1b}[2mms\u{1b}[0m"
unfolding digits
dimmed_time = refl

-- a name that looks like a drawing
pub odd_name : written lined (made (encode_utf8_all (codes "┐")) outside ∷ []) ≡ encode_utf8_all (codes "┐┐ \n")
unfolding encode_utf8
odd_name = refl

pub odd_lines : written lined (made (encode_utf8_all (codes "a\n┐b")) outside ∷ []) ≡ encode_utf8_all (codes "┐a\n┐┐b \n")
unfolding encode_utf8
odd_lines = refl

-- a quoted string
pub quoted_field : (text_field (codes "k") (codes "a\"\\\t\n\r\0\u{1b}\u{7f}z")).value ≡ codes "\"a\\\"\\\\\\t\\n\\r\\0\\u{1b}\\u{7f}z\""
unfolding digits
quoted_field = refl
