-- Printed lines as rows.
use Rattle.std.specs.Prelude.{ℕ, zero, suc, ◌==◌, ◌||◌, nat_lt, Bool, if◌then◌else◌, List, [], ◌∷◌, ◌++◌, length, Option, Some, None, is_some, not, codes, bytes_eq}
use Rattle.std.specs.List.{position_or_len, before_first, after_first}
use Rattle.std.specs.Str.{trim}
use Rattle.tracing_tree_base.specs.declared.style.Level.TheVariants.{Info}
use Rattle.ttree_source.specs.Blanks.{first_byte}
use Rattle.ttree_junit.specs.declared.lines.Row.{Row}

abbrev pub is_line_end : ℕ → Bool
is_line_end byte = byte == 10

abbrev pub has_line_end : List ℕ → Bool
has_line_end text = nat_lt (position_or_len is_line_end text) (length text)

-- the first line of a string, and what comes after it
abbrev pub text_first_line : List ℕ → List ℕ
text_first_line text = if has_line_end text then before_first is_line_end text else text

abbrev pub after_line : List ℕ → List ℕ
after_line text = if has_line_end text then after_first is_line_end text else []

abbrev pub is_blank_text : List ℕ → Bool
is_blank_text text = not (is_some (first_byte text))

-- pytest writes this line before what it captured
abbrev pub is_separator : List ℕ → Bool
is_separator line =
    bytes_eq line
    (codes "--------------------------------- Captured Log ---------------------------------")
    || bytes_eq line
    (codes "--------------------------------- Captured Out ---------------------------------")
    || bytes_eq line
    (codes "--------------------------------- Captured Err ---------------------------------")

abbrev pub info_row : List ℕ → Row
info_row text = record { level = Info; text = text }

abbrev pub kept_row : Option (List ℕ) → List Row
kept_row (Some separator) = info_row separator ∷ []
kept_row None = []

-- a line is a row, after the separator before it; a blank one isn't shown
abbrev pub line_rows : Option (List ℕ) → List ℕ → List Row
line_rows kept line =
    if is_blank_text line then []
    else if is_separator line then []
    else kept_row kept ++ info_row line ∷ []

-- the separator that isn't shown until a line comes after it
abbrev pub kept_after : Option (List ℕ) → List ℕ → Option (List ℕ)
kept_after kept line =
    if is_blank_text line then kept else if is_separator line then Some line else None

abbrev pub rows_within : ℕ → Option (List ℕ) → List ℕ → List Row
rows_within zero kept text = []
rows_within (suc turns) kept text =
    if length text == 0 then []
    else line_rows kept (text_first_line text)
    ++ rows_within turns (kept_after kept (text_first_line text)) (after_line text)

-- The lines of a string that are shown. Each turn reads a byte or more.
abbrev pub printed_rows : List ℕ → List Row
printed_rows text = rows_within (length text) None text

-- what a failure is drawn as: the first line of its message, or the name of its element
abbrev pub head_of : List ℕ → List ℕ → List ℕ
head_of message name =
    if is_blank_text (text_first_line message) then name else text_first_line message

-- why a case was skipped: the message, otherwise the element's contents
abbrev pub reason_of : List ℕ → List ℕ → List ℕ
reason_of message body = if is_blank_text message then trim body else message
