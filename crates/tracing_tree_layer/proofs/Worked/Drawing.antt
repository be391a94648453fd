-- Worked examples of styles, labels, amounts, wrap marks and lines.
use Rattle.std.specs.Prelude.{◌≡◌, true, [], ◌∷◌, Some, None, refl, codes, encode_utf8_all}
use Rattle.std.specs.Char.{encode_utf8}
use Rattle.std.specs.Fmt.{digits}
use Rattle.tracing_tree_base.specs.Field.{rendered_field}
use Rattle.tracing_tree_spans.specs.declared.registry.Parent.TheVariants.{Current}
use Rattle.tracing_tree_base.specs.declared.style.Level.TheVariants.{Info, Warn}
use Rattle.tracing_tree_layer.specs.declared.call.Call.TheVariants.{New, Event}
use Rattle.tracing_tree_drawing.specs.Format.Picture.{is_too_wide}
use Rattle.tracing_tree_drawing.specs.declared.format.SpanMode.TheVariants.{PostClose}
use Rattle.tracing_tree_drawing.specs.declared.format.SpanMode.TheVariants.{Event as EventMode}
use Rattle.tracing_tree_layer.proofs.WorkedCalls.{plain, lined, outside, inside, made_with, made, message, emitted, informed, closed, written, written_after, root_and_child, written_after_root}

-- labels and targets
pub labels_and_targets : written (record lined { span_modes = true; targets = true }) (New (record { name = codes "a"; target = codes "t"; parent = Current; fields = [] }) outside ∷ Event (record { level = Info; target = codes "u"; parent = Current; fields = message (codes "x") ∷ [] }) (inside 1) ∷ closed 1 ∷ [])
    ≡ encode_utf8_all (codes "┐open: t::a \n├─ INFO u x\n┘close: \n")
unfolding encode_utf8
labels_and_targets = refl

-- without lines a close shows its label
pub labelled_close : written_after_root (record plain { span_modes = true }) (closed 1 ∷ [])
    ≡ encode_utf8_all (codes " close: \n")
unfolding encode_utf8
labelled_close = refl

-- or nothing
pub silent_close : written_after_root plain (closed 1 ∷ [])
    ≡ encode_utf8_all (codes "")
unfolding encode_utf8
silent_close = refl

-- brackets are painted by themselves
pub coloured_brackets : written (record plain { ansi = true; bracketed_fields = true }) (made (codes "a") outside ∷ [])
    ≡ encode_utf8_all (codes " \u{1b}[1;32ma\u{1b}[0m\u{1b}[1;32m{\u{1b}[0m\u{1b}[1;32m}\u{1b}[0m\n")
unfolding encode_utf8
coloured_brackets = refl

-- a field of a log record is skipped
pub skipped_field : written plain (emitted Warn Current (rendered_field (codes "k") (codes "1") ∷ rendered_field (codes "log.file") (codes "f") ∷ message (codes "m") ∷ []) outside ∷ [])
    ≡ encode_utf8_all (codes " WARN k=1, m\n")
unfolding encode_utf8
skipped_field = refl

-- a span's message shows only its value, but only in the first place
pub second_message : written plain (made_with (message (codes "m") ∷ rendered_field (codes "k") (codes "1") ∷ message (codes "n") ∷ []) (codes "a") outside ∷ [])
    ≡ encode_utf8_all (codes " a m, k=1, message=n\n")
unfolding encode_utf8
second_message = refl

-- a prefix without lines
pub prefix_without_lines : written (record plain { render_thread_ids = true; render_thread_names = true }) (made (codes "a") (record outside { thread_id = 7; thread_name = Some (codes "main") }) ∷ [])
    ≡ encode_utf8_all (codes "7:main a \n")
unfolding encode_utf8 digits
prefix_without_lines = refl

-- an odd amount
pub amount_three : written_after_root (record lined { indent_amount = 3; verbose_entry = true }) (made (codes "b") (inside 1) ∷ [])
    ≡ encode_utf8_all (codes "└┐a \n └─┐b \n")
unfolding encode_utf8
amount_three = refl

-- an amount of 1
pub amount_one : written_after_root (record lined { indent_amount = 1; verbose_entry = true }) (made (codes "b") (inside 1) ∷ [])
    ≡ encode_utf8_all (codes "└┐a \n  b \n")
unfolding encode_utf8
amount_one = refl

-- a wrap mark before a verbose close
pub mark_before_close : written_after (record lined { wraparound = 2; verbose_exit = true }) root_and_child (closed 2 ∷ [])
    ≡ encode_utf8_all (codes "──┐\n ┌┘b \n┌┘a \n")
unfolding encode_utf8
mark_before_close = refl

-- a wrap mark after a parent that is shown again
pub mark_after_parent : written_after (record lined { wraparound = 2; verbose_entry = true }) root_and_child (made (codes "c") (inside 2) ∷ [])
    ≡ encode_utf8_all (codes "  └┐b \n──┘\n┐c \n")
unfolding encode_utf8
mark_after_parent = refl

-- a second line of a child
pub child_of_two_lines : written_after_root lined (made_with (rendered_field (codes "k") (codes "1\n2") ∷ []) (codes "b") (inside 1) ∷ [])
    ≡ encode_utf8_all (codes "└─┐b k=1\n  │  2\n")
unfolding encode_utf8
child_of_two_lines = refl

-- and of its verbose close
pub close_of_two_lines : written_after (record lined { verbose_exit = true }) (made (codes "a") outside ∷ made_with (rendered_field (codes "k") (codes "1\n2") ∷ []) (codes "b") (inside 1) ∷ []) (closed 2 ∷ [])
    ≡ encode_utf8_all (codes " ┌┘b k=1\n │  2\n┌┘a \n")
unfolding encode_utf8
close_of_two_lines = refl

-- a second line without lines
pub two_lines_without_lines : written plain (made_with (rendered_field (codes "k") (codes "1\n2") ∷ []) (codes "b") outside ∷ [])
    ≡ encode_utf8_all (codes " b k=1\n   2\n")
unfolding encode_utf8
two_lines_without_lines = refl

-- with lines a carriage return at the end of a line is dropped
pub dropped_carriage_return : written lined (informed (codes "x\r") outside ∷ [])
    ≡ encode_utf8_all (codes "INFO x\n")
unfolding encode_utf8
dropped_carriage_return = refl

-- without lines the last line keeps it
pub kept_carriage_return : written plain (informed (codes "x\r") outside ∷ [])
    ≡ encode_utf8_all (codes " INFO x\r\n")
unfolding encode_utf8
kept_carriage_return = refl

-- a carriage return before a line end
pub carriage_return_inside : written_after_root lined (informed (codes "x\r\ny") (inside 1) ∷ [])
    ≡ encode_utf8_all (codes "├─ INFO x\n│  y\n")
unfolding encode_utf8
carriage_return_inside = refl

-- rows whose width overflows a number
pub wide_event : is_too_wide (record plain { indent_amount = 9_223_372_036_854_775_808 })
    (record { mode = EventMode; span = None; level = 2; block = []; prefix = [] }) ≡ true
wide_event = refl

pub wide_parent : is_too_wide (record lined { indent_amount = 9_223_372_036_854_775_808 })
    (record { mode = PostClose; span = None; level = 1; block = []; prefix = [] }) ≡ true
wide_parent = refl
