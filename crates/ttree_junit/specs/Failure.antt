-- What a failure is drawn as.
use Rattle.std.specs.Prelude.{ℕ, zero, suc, ◌==◌, Bool, true, false, if◌then◌else◌, List, [], ◌∷◌, ◌++◌, length, Option, Some, None}
use Rattle.std.specs.Str.{trim}
use Rattle.tracing_tree_base.specs.declared.style.Level.{Level}
use Rattle.ttree_source.specs.Marks.{after_mark}
use Rattle.ttree_junit.specs.Lines.{after_line, head_of, is_blank_text, printed_rows, text_first_line}
use Rattle.ttree_junit.specs.States.{PartState}
use Rattle.ttree_junit.specs.declared.lines.Row.{Row}

abbrev pub found_or : Option (List ℕ) → Option (List ℕ) → Option (List ℕ)
found_or (Some rest) later = Some rest
found_or None later = later

-- what follows the first place at which a string has this mark
abbrev pub after_found : List ℕ → List ℕ → Option (List ℕ)
after_found mark [] = None
after_found mark (byte ∷ others) =
    found_or (after_mark mark (byte ∷ others)) (after_found mark others)

-- What follows a line in a body, without the blanks around the line. A blank line is anywhere.
abbrev pub after_line_in : List ℕ → List ℕ → Option (List ℕ)
after_line_in line body = if is_blank_text line then Some body else after_found (trim line) body

abbrev pub and_then_has : Option (List ℕ) → (List ℕ → Bool) → Bool
and_then_has (Some rest) others = others rest
and_then_has None others = false

abbrev pub has_lines_within : ℕ → List ℕ → List ℕ → Bool
has_lines_within zero text body = true
has_lines_within (suc turns) text body =
    if length text == 0 then true
    else and_then_has (after_line_in (text_first_line text) body)
    (λ rest. has_lines_within turns (after_line text) rest)

-- A body has the lines of a string, one after another. Each turn reads a byte or more.
abbrev pub has_lines : List ℕ → List ℕ → Bool
has_lines text body = has_lines_within (length text) text body

-- the lines of a message after its first, unless the body has them
abbrev pub message_rows : PartState → List Row
message_rows part =
    if has_lines (after_line part.message) part.body then []
    else printed_rows (after_line part.message)

-- a failure is the first line of its message, the lines that the body doesn't have, and the body
abbrev pub failure_rows : Level → PartState → List Row
failure_rows level part =
    (record { level = level; text = head_of part.message part.name }) ∷ []
    ++ message_rows part ++ printed_rows part.body
