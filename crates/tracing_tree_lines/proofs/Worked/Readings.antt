-- Worked examples of drawings that are read back.
use Rattle.std.specs.Prelude.{◌≡◌, ℕ, true, false, List, [], ◌∷◌, Some, None, refl, codes, encode_utf8_all}
use Rattle.std.specs.Char.{encode_utf8}
use Rattle.tracing_tree_spans.specs.Registry.Ids.{id_of}
use Rattle.tracing_tree_time.specs.Clock.{no_timer}
use Rattle.tracing_tree_layer.specs.Layered.State.{opening_state}
use Rattle.tracing_tree_layer.specs.Layered.Run.{run}
use Rattle.tracing_tree_layer.specs.declared.call.Call.{Call}
use Rattle.tracing_tree_drawing.specs.Rows.RowText.{TextRow, AreTextRows, rows_text, is_text_row, made_row, is_row_too_wide, first_lines, event_paths}
use Rattle.tracing_tree_drawing.specs.Rows.DrawRows.{are_too_wide}
use Rattle.tracing_tree_drawing.specs.Rows.Paths.{place_at}
use Rattle.tracing_tree_drawing.specs.Rows.Readable.{IsReadable, text_rows}
use Rattle.tracing_tree_layer.specs.Laws.Reading.{run_is_on_path, latest, rows_of}
use Rattle.tracing_tree_drawing.specs.declared.rows.row.Shape.{Shape}
use Rattle.tracing_tree_drawing.specs.declared.rows.row.Shape.TheVariants.{PreOpen, OpenRoot, Open, CloseRoot, Close, Event}
use Rattle.tracing_tree_layer.proofs.WorkedCalls.{lined, outside, inside, made, informed, warned, closed}

abbrev pub row : Shape → ℕ → List (List ℕ) → TextRow
row shape level lines = record { shape = shape; level = level; lines = lines }

-- the rows of a tree of two spans with an event
abbrev pub five_rows : List TextRow
five_rows = row OpenRoot 0 (codes "a " ∷ []) ∷ row (Open false) 1 (codes "b " ∷ []) ∷ row Event 2 (codes " WARN x" ∷ []) ∷ row (Close false) 1 ([] ∷ []) ∷ row CloseRoot 0 ([] ∷ []) ∷ []

pub five_rows_are_rows : AreTextRows five_rows
unfolding encode_utf8
five_rows_are_rows = refl

-- their text is that of the run
pub five_rows_text : rows_text 2 five_rows ≡ encode_utf8_all (codes "┐a \n└─┐b \n  ├─ WARN x\n┌─┘\n┘\n")
unfolding encode_utf8
five_rows_text = refl

-- a run's rows are read back as these
pub five_rows_of_run : text_rows (run lined no_timer (opening_state (Some (id_of 1)))
    (made (codes "a") outside ∷ made (codes "b") (inside 1) ∷ warned (codes "x") (inside 2) ∷ closed 2 ∷ closed 1 ∷ [])).rows ≡ five_rows
five_rows_of_run = refl

-- and its drawing is readable
pub five_rows_readable : IsReadable lined (run lined no_timer (opening_state (Some (id_of 1)))
    (made (codes "a") outside ∷ made (codes "b") (inside 1) ∷ warned (codes "x") (inside 2) ∷ closed 2 ∷ closed 1 ∷ [])).rows
unfolding encode_utf8
five_rows_readable = refl

-- a parent that is shown again, and a verbose open
pub parent_and_verbose : rows_text 2 (row PreOpen 0 (codes "a " ∷ []) ∷ row (Open true) 1 (codes "b " ∷ []) ∷ [])
    ≡ encode_utf8_all (codes "└┐a \n └┐b \n")
unfolding encode_utf8
parent_and_verbose = refl

-- a second line
pub two_lines : rows_text 2 (row (Open false) 1 (codes "b " ∷ codes "2" ∷ []) ∷ [])
    ≡ encode_utf8_all (codes "└─┐b \n  │  2\n")
unfolding encode_utf8
two_lines = refl

-- an event of two lines
pub event_lines : rows_text 2 (row Event 1 (codes "x" ∷ codes "y" ∷ []) ∷ [])
    ≡ encode_utf8_all (codes "├─x\n│  y\n")
unfolding encode_utf8
event_lines = refl

-- an event at the edge
pub bare_event : rows_text 2 (row Event 0 (codes " x" ∷ []) ∷ [])
    ≡ encode_utf8_all (codes " x\n")
unfolding encode_utf8
bare_event = refl

-- a row doesn't consist of only a drawing character
pub no_bare_corner : is_text_row (record { shape = Event; level = 0; lines = encode_utf8_all (codes "┐") ∷ [] }) ≡ false
unfolding encode_utf8
no_bare_corner = refl

pub no_bare_spaces : is_text_row (record { shape = Event; level = 0; lines = codes "   " ∷ [] }) ≡ false
no_bare_spaces = refl

-- a row is made of valid parts
pub makes_no_open_at_the_edge : made_row (row (Open false) 0 (codes "a" ∷ [])) ≡ None
makes_no_open_at_the_edge = refl

pub makes_no_row_without_lines : made_row (row Event 1 []) ≡ None
makes_no_row_without_lines = refl

pub makes_a_parent_of_two_lines : made_row (row PreOpen 0 (codes "a" ∷ codes "b" ∷ [])) ≡ Some (row PreOpen 0 (codes "a" ∷ codes "b" ∷ []))
makes_a_parent_of_two_lines = refl

-- rows that are too wide to be drawn
pub wide_open : is_row_too_wide 2 (row (Open false) 9_223_372_036_854_775_808 []) ≡ true
wide_open = refl

pub wide_parent_row : is_row_too_wide 2 (row PreOpen 18_446_744_073_709_551_615 []) ≡ true
wide_parent_row = refl

pub one_of_them_wide : are_too_wide 2 (row OpenRoot 0 [] ∷ row PreOpen 9_223_372_036_854_775_807 [] ∷ []) ≡ true
one_of_them_wide = refl

-- the first lines of a string
pub first_two_lines : first_lines 2 (codes "a\nb\nc") ≡ codes "a\nb\n"
first_two_lines = refl

pub first_three_lines : first_lines 3 (codes "a\nb\nc") ≡ codes "a\nb\nc"
first_three_lines = refl

-- the ancestors of the event
pub ancestors_of_five : event_paths five_rows ≡ record { event = 2; ancestors = Some 0 ∷ Some 1 ∷ [] } ∷ []
ancestors_of_five = refl

-- a close that retraced
pub ancestors_after_retrace : event_paths (row OpenRoot 0 (codes "a " ∷ []) ∷ row (Open false) 1 (codes "b " ∷ []) ∷ row OpenRoot 0 (codes "c " ∷ []) ∷ row OpenRoot 0 (codes "a " ∷ []) ∷ row (Open false) 1 (codes "b " ∷ []) ∷ row (Close false) 1 ([] ∷ []) ∷ row Event 1 (codes " INFO x" ∷ []) ∷ []) ≡ record { event = 6; ancestors = Some 3 ∷ [] } ∷ []
ancestors_after_retrace = refl

-- a close that didn't retrace: the event seems to be in another root
pub stranger : event_paths (row OpenRoot 0 (codes "a " ∷ []) ∷ row (Open false) 1 (codes "b " ∷ []) ∷ row OpenRoot 0 (codes "c " ∷ []) ∷ row (Close false) 1 ([] ∷ []) ∷ row Event 1 (codes " INFO x" ∷ []) ∷ []) ≡ record { event = 4; ancestors = Some 2 ∷ [] } ∷ []
stranger = refl

-- an event without the rows above it
pub no_ancestors : event_paths (row Event 2 (codes "x" ∷ []) ∷ []) ≡ record { event = 0; ancestors = None ∷ None ∷ [] } ∷ []
no_ancestors = refl

-- an event at the edge
pub no_entries : event_paths (row Event 0 (codes "INFO x" ∷ []) ∷ []) ≡ record { event = 0; ancestors = [] } ∷ []
no_entries = refl

-- a nearer row of another level isn't an ancestor
pub none_nearer : event_paths (row OpenRoot 0 (codes "a" ∷ []) ∷ row Event 2 (codes "x" ∷ []) ∷ []) ≡ record { event = 1; ancestors = Some 0 ∷ None ∷ [] } ∷ []
none_nearer = refl

-- a parent that is shown again isn't an ancestor either
pub none_shown_again : event_paths (row PreOpen 0 (codes "a " ∷ []) ∷ row Event 1 (codes "x" ∷ []) ∷ []) ≡ record { event = 1; ancestors = None ∷ [] } ∷ []
none_shown_again = refl

-- the place that is kept for a level
pub kept_place : place_at (Some 3 ∷ None ∷ []) 0 ≡ Some 3
kept_place = refl

pub no_kept_place : place_at (Some 3 ∷ None ∷ []) 1 ≡ None
no_kept_place = refl

pub place_past_all : place_at (Some 3 ∷ None ∷ []) 2 ≡ None
place_past_all = refl

-- the premise on closes fails if a close leaves the current branch
pub leaves_the_path : run_is_on_path (record lined { span_retrace = true }) no_timer (opening_state (Some (id_of 1)))
    (made (codes "a") outside ∷ made (codes "b") (inside 1) ∷ made (codes "c") outside ∷ closed 2 ∷ []) ≡ false
leaves_the_path = refl

pub stays_on_the_path : run_is_on_path (record lined { span_retrace = true }) no_timer (opening_state (Some (id_of 1)))
    (made (codes "a") outside ∷ made (codes "b") (inside 1) ∷ informed (codes "x") (inside 2) ∷ closed 2 ∷ closed 1 ∷ []) ≡ true
stays_on_the_path = refl

-- an event after a close off the current branch: its root is the last one opened only if closes
-- retrace
abbrev pub close_off_path : List Call
close_off_path = made (codes "a") outside ∷ made (codes "b") (inside 1) ∷ made (codes "c") outside ∷ closed 2 ∷ informed (codes "x") (inside 1) ∷ []

pub stranger_above : latest (rows_of (record lined { span_retrace = true }) no_timer (Some (id_of 1)) close_off_path) 4 0 ≡ Some (id_of 3)
stranger_above = refl

pub root_above : latest (rows_of (record lined { span_retrace = true; close_retrace = true }) no_timer (Some (id_of 1)) close_off_path) 6 0 ≡ Some (id_of 1)
root_above = refl
