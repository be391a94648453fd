-- What tests print, line by line, and the events that show it.
use Rattle.std.specs.Prelude.{◌≡◌, ℕ, ◌&&◌, Bool, not, if◌then◌else◌, List, [], ◌∷◌, ◌++◌, flat_map, Option, Some, None, option_and_then, codes, bytes_eq}
use Rattle.std.specs.Str.{is_utf8}
use Rattle.json.specs.Json.{Json, document}
use Rattle.tracing_tree_base.specs.declared.field.Field.{Field}
use Rattle.tracing_tree_layer.specs.declared.call.Call.{Call}
use Rattle.tracing_tree_layer.specs.declared.call.Call.TheVariants.{New, Clone, Record, Event, Close}
use Rattle.tracing_tree_lines.specs.Lines.Spelled.{is_skipped}
use Rattle.ttree_source.specs.Marks.{begins}
use Rattle.ttree_source.specs.Source.{interpret_line}
use Rattle.ttree_source.specs.Calls.{shown_text}
use Rattle.ttree_source.specs.Values.{text_at}
use Rattle.ttree_go_test.specs.declared.go_test.running.Kind.{Kind}
use Rattle.ttree_go_test.specs.declared.go_test.tally.Ending.{Ending}
use Rattle.ttree_go_test.specs.GoTest.{GoState, go_takes, is_framing, output_kind, owner, package_of, test_of, tests_of, ending_word, without_heading}
use Rattle.ttree_go_test.specs.Texts.{is_frame, without_line_end, is_package_frame}

-- ---- what is printed

-- a string that a line says a test printed, or with an empty name its package
pub record Print : Type 0 where
  pub path : List ℕ
  pub test : List ℕ
  pub kind : Kind
  pub string : List ℕ

abbrev pub print_with : Option (List ℕ) → Option (List ℕ) → Option (List ℕ) → Json
    → Option Print
print_with (Some action) (Some path) (Some string) value =
    if bytes_eq action (codes "output")
    then Some (record {
      path = path;
      test = test_of value;
      kind = output_kind value;
      string = string;
    })
    else None
print_with (Some action) (Some path) None value = None
print_with (Some action) None string value = None
print_with None path string value = None

-- the string of a line whose action is `output`
abbrev pub print_in : Json → Option Print
print_in value =
    print_with (text_at (codes "Action") value) (package_of value)
    (text_at (codes "Output") value) value

abbrev pub print_of : List ℕ → Option Print
print_of line = if is_utf8 line then option_and_then print_in (document line) else None

-- text of a test, or with an empty name of its package
pub record Printed : Type 0 where
  pub path : List ℕ
  pub test : List ℕ
  pub text : List ℕ

-- The text that a string adds: to the test with the longest prefix of its name that runs, or to the
-- package. A frame adds none.
abbrev pub text_added : GoState → Option Print → List Printed
text_added s None = []
text_added s (Some print) =
    let test : List ℕ = owner (tests_of print.path s) print.test in
    if is_framing print.kind test print.string then []
    else record { path = print.path; test = test; text = print.string } ∷ []

-- the text that lines add, one after the other
abbrev pub texts_added : GoState → List (List ℕ) → List Printed
texts_added s [] = []
texts_added s (line ∷ lines) =
    text_added s (print_of line) ++ texts_added (interpret_line go_takes s line).source lines

-- what is of this test
abbrev pub text_by : List ℕ → List ℕ → Printed → List ℕ
text_by path test one =
    if bytes_eq path one.path && bytes_eq test one.test then one.text else []

-- all text of a test, in order
abbrev pub test_text : List ℕ → List ℕ → List Printed → List ℕ
test_text path test texts = flat_map (text_by path test) texts

-- ---- what is shown

-- What an event shows: a printed line; the end of a test or a package, which is named if it has no
-- span; a string that the build of this package printed; or a line that isn't JSON.
pub data Shown : Type 0 where
  Line : Printed → Shown
  End : Ending → Shown
  NamedEnd : Ending → List ℕ → Shown
  Built : List ℕ → List ℕ → Shown
  Plain : List ℕ → Shown

-- a line is shown, unless it is blank or only frames
abbrev pub is_shown : Printed → Bool
is_shown one =
    let line = without_line_end one.text in not (is_skipped line) && not (is_frame one.test line)

-- the message of a line, unless it is blank
abbrev pub unless_blank : List ℕ → List (List ℕ)
unless_blank line = if is_skipped line then [] else shown_text line ∷ []

-- the message of its event
abbrev pub shown_message : Shown → List (List ℕ)
shown_message (Line one) = if is_shown one then shown_text (without_line_end one.text) ∷ [] else []
shown_message (End ending) = shown_text (ending_word ending) ∷ []
shown_message (NamedEnd ending name) = shown_text (ending_word ending ++ codes " " ++ name) ∷ []
shown_message (Built path string) = unless_blank (without_line_end (without_heading string))
shown_message (Plain line) = unless_blank line

abbrev pub shown_messages : List Shown → List (List ℕ)
shown_messages items = flat_map shown_message items

abbrev pub line_in : Shown → List Printed
line_in (Line one) = one ∷ []
line_in (End ending) = []
line_in (NamedEnd ending name) = []
line_in (Built path string) = []
line_in (Plain line) = []

-- the printed lines among what is shown
abbrev pub lines_in : List Shown → List Printed
lines_in items = flat_map line_in items

-- the strings among what is shown that the build of this package printed
abbrev pub built_by : List ℕ → Shown → List (List ℕ)
built_by path (Line one) = []
built_by path (End ending) = []
built_by path (NamedEnd ending name) = []
built_by path (Built of string) = if bytes_eq path of then string ∷ [] else []
built_by path (Plain line) = []

abbrev pub built_of : List ℕ → List Shown → List (List ℕ)
built_of path items = flat_map (built_by path) items

-- the lines among what is shown that aren't JSON
abbrev pub plain_in : Shown → List (List ℕ)
plain_in (Line one) = []
plain_in (End ending) = []
plain_in (NamedEnd ending name) = []
plain_in (Built path string) = []
plain_in (Plain line) = line ∷ []

abbrev pub plains_in : List Shown → List (List ℕ)
plains_in items = flat_map plain_in items

abbrev pub field_message : List Field → List (List ℕ)
field_message [] = []
field_message (field ∷ others) =
    if bytes_eq field.name (codes "message") then field.value ∷ [] else field_message others

abbrev pub call_message : Call → List (List ℕ)
call_message (New attributes context) = []
call_message (Clone id) = []
call_message (Record id fields) = []
call_message (Event event context) = field_message event.fields
call_message (Close id context) = []

-- the messages of the events among calls
abbrev pub messages : List Call → List (List ℕ)
messages calls = flat_map call_message calls

-- ---- builds, and lines that aren't JSON

-- a string that the build of a package prints
pub record BuildPrint : Type 0 where
  pub path : List ℕ
  pub string : List ℕ

abbrev pub build_prints_with : Option (List ℕ) → Option (List ℕ) → Option (List ℕ)
    → List BuildPrint
build_prints_with (Some action) (Some path) (Some string) =
    if bytes_eq action (codes "build-output") then record { path = path; string = string } ∷ []
    else []
build_prints_with (Some action) (Some path) None = []
build_prints_with (Some action) None string = []
build_prints_with None path string = []

-- the string of a line whose action is `build-output`
abbrev pub build_prints_in : Option Json → List BuildPrint
build_prints_in None = []
build_prints_in (Some value) =
    build_prints_with (text_at (codes "Action") value) (package_of value)
    (text_at (codes "Output") value)

abbrev pub build_prints : List ℕ → List BuildPrint
build_prints line = if is_utf8 line then build_prints_in (document line) else []

-- what the build of this package printed
abbrev pub print_by : List ℕ → BuildPrint → List (List ℕ)
print_by path one = if bytes_eq path one.path then one.string ∷ [] else []

abbrev pub strings_of : List ℕ → List BuildPrint → List (List ℕ)
strings_of path prints = flat_map (print_by path) prints

-- a line that isn't JSON is an event, unless it is blank, names a package or only frames
abbrev pub is_plain : List ℕ → Bool
is_plain line =
    not (is_skipped line) && not (begins (codes "# ") line) && not (is_package_frame line)

abbrev pub plain_of : List ℕ → Option Json → List (List ℕ)
plain_of line (Some value) = []
plain_of line None = if is_plain line then line ∷ [] else []

abbrev pub plain_line : List ℕ → List (List ℕ)
plain_line line = if is_utf8 line then plain_of line (document line) else []

-- ---- the law

-- The events show printed lines, ends, the strings of builds and lines that aren't JSON, and
-- nothing else. The lines of a test, joined, are its text: each byte that it prints is in one line.
-- Each string of a build and each other line is there once.
pub record ShowsEachLine (texts : List Printed) (builds : List BuildPrint)
    (plains : List (List ℕ)) (calls : List Call) : Type 0 where
  pub items : List Shown
  pub events : messages calls ≡ shown_messages items
  pub printed_once : (path test : List ℕ) →
      test_text path test (lines_in items) ≡ test_text path test texts
  pub built_once : (path : List ℕ) → built_of path items ≡ strings_of path builds
  pub plain_once : plains_in items ≡ plains
