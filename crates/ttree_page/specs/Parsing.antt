-- How a reader parses the lines of a page.
use Rattle.std.specs.Prelude.{ℕ, zero, suc, ◌+◌, ◌*◌, ◌-◌, nat_le, ◌==◌, ◌&&◌, Bool, false, if◌then◌else◌, ℤ, pos, neg_ℤ, ◌+ℤ◌, ◌*ℤ◌, List, [], ◌∷◌, length, map, Option, Some, None, option_map, option_and_then}
use Rattle.tracing_tree_base.specs.declared.field.Field.{Field}
use Rattle.tracing_tree_base.specs.declared.style.Level.{Level}
use Rattle.tracing_tree_base.specs.declared.style.Level.TheVariants as Levels
use Rattle.ttree_page.specs.Steps.{Stamp, Step, About, New, Record, Event, Close, End}
use Rattle.ttree_page.specs.Strings.{Plain, read_text}

-- ---- the parts of a line

-- a number or a string
pub data Part : Type 0 where
  Number : (value : ℤ) → Part
  Text : (text : List ℕ) → Part

-- what was read and the bytes after it, if the bytes begin with it
abbrev pub Parsed : Type 0 → Type 0
Parsed A = Option (A × List ℕ)

abbrev pub is_digit : ℕ → Bool
is_digit byte = nat_le 48 byte && nat_le byte 57

-- a number up to its last digit, after digits with this value
abbrev pub read_digits : ℕ → List ℕ → ℕ × List ℕ
read_digits value [] = (value, [])
read_digits value (byte ∷ rest) =
    if is_digit byte then read_digits (value * 10 + (byte - 48)) rest else (value, byte ∷ rest)

-- a number, which has one digit at least
abbrev pub read_number : List ℕ → Parsed ℕ
read_number [] = None
read_number (byte ∷ rest) = if is_digit byte then Some (read_digits 0 (byte ∷ rest)) else None

abbrev pub as_text : List ℕ × List ℕ → Part × List ℕ
as_text read = (Text read.0, read.1)

abbrev pub as_number : ℕ × List ℕ → Part × List ℕ
as_number read = (Number (pos read.0), read.1)

abbrev pub as_negative : ℕ × List ℕ → Part × List ℕ
as_negative read = (Number (neg_ℤ (pos read.0)), read.1)

-- a string in quotes, a number after a sign, or a number
abbrev pub read_part : List ℕ → Parsed Part
read_part [] = None
read_part (byte ∷ rest) =
    if byte == 34 then option_map as_text (read_text Plain rest)
    else (if byte == 45 then option_map as_negative (read_number rest)
    else option_map as_number (read_number (byte ∷ rest)))

abbrev pub put_part : Part → List Part × List ℕ → List Part × List ℕ
put_part part read = (part ∷ read.0, read.1)

-- after a part: a comma and other parts, or the closing bracket
abbrev pub read_on : (List ℕ → Parsed (List Part)) → Part → List ℕ → Parsed (List Part)
read_on others part [] = None
read_on others part (byte ∷ rest) =
    if byte == 44 then option_map (put_part part) (others rest)
    else (if byte == 93 then Some (part ∷ [], rest) else None)

abbrev pub after_part : (List ℕ → Parsed (List Part)) → Parsed Part → Parsed (List Part)
after_part others None = None
after_part others (Some read) = read_on others read.0 read.1

-- the parts up to the closing bracket, if there are at most this many
abbrev pub read_parts : ℕ → List ℕ → Parsed (List Part)
read_parts zero bytes = None
read_parts (suc most) bytes = after_part (λ rest. read_parts most rest) (read_part bytes)

abbrev pub is_only_line_end : List ℕ → Bool
is_only_line_end [] = false
is_only_line_end (byte ∷ []) = byte == 10
is_only_line_end bytes = false

-- the parts, if the line ends after them
abbrev pub parts_if_ended : List Part × List ℕ → Option (List Part)
parts_if_ended read = if is_only_line_end read.1 then Some read.0 else None

-- the parts of a whole line; there are fewer than bytes
abbrev pub parts_in : List ℕ → Option (List Part)
parts_in [] = None
parts_in (byte ∷ rest) =
    if byte == 91 then option_and_then parts_if_ended (read_parts (length rest) rest) else None

-- ---- the step of a line

abbrev pub fields_in : List Part → Option (List Field)
fields_in [] = Some []
fields_in (Text name ∷ Text value ∷ parts) =
    option_map (λ fields. record { name = name; value = value } ∷ fields) (fields_in parts)
fields_in parts = None

abbrev pub level_from_number : ℕ → Option Level
level_from_number number =
    if number == 0 then Some Levels.Trace
    else (if number == 1 then Some Levels.Debug
    else (if number == 2 then Some Levels.Info
    else (if number == 3 then Some Levels.Warn
    else (if number == 4 then Some Levels.Error else None))))

abbrev pub stamp_from : (second nano : ℕ) (ahead part : ℤ) (thread : List ℕ) → Stamp
stamp_from second nano ahead part thread = record {
  mono = second * 1_000_000_000 + nano;
  ahead = ahead *ℤ pos 1_000_000_000 +ℤ part;
  thread = thread;
}

-- a stamp, and then a step of it from the other parts
abbrev pub with_stamp : (Stamp → List Part → Option Step) → List Part → Option Step
with_stamp step
    (Number (pos second) ∷ Number (pos nano) ∷ Number ahead ∷ Number part ∷ Text thread ∷ parts) =
    step (stamp_from second nano ahead part thread) parts
with_stamp step parts = None

abbrev pub about_in : List Part → Option Step
about_in (Number (pos version) ∷ Text title ∷ []) =
    if version == 2 then Some (About title) else None
about_in parts = None

abbrev pub new_in : Stamp → List Part → Option Step
new_in stamp (Number (pos id) ∷ Number (pos parent) ∷ Text name ∷ Text target ∷ parts) =
    option_map (New stamp id parent name target) (fields_in parts)
new_in stamp parts = None

abbrev pub record_in : List Part → Option Step
record_in (Number (pos id) ∷ parts) = option_map (Record id) (fields_in parts)
record_in parts = None

abbrev pub event_in : Stamp → List Part → Option Step
event_in stamp
    (Number (pos parent) ∷ Number (pos current) ∷ Number (pos level) ∷ Text target ∷ parts) =
    option_and_then
    (λ level. option_map (Event stamp parent current level target) (fields_in parts))
    (level_from_number level)
event_in stamp parts = None

abbrev pub close_in : Stamp → List Part → Option Step
close_in stamp (Number (pos id) ∷ []) = Some (Close stamp id)
close_in stamp parts = None

abbrev pub end_in : List Part → Option Step
end_in [] = Some End
end_in parts = None

-- the step of a kind from the parts after it
abbrev pub step_of_kind : ℕ → List Part → Option Step
step_of_kind kind parts =
    if kind == 0 then about_in parts
    else (if kind == 1 then with_stamp new_in parts
    else (if kind == 2 then record_in parts
    else (if kind == 3 then with_stamp event_in parts
    else (if kind == 4 then with_stamp close_in parts
    else (if kind == 5 then end_in parts else None)))))

abbrev pub step_in : List Part → Option Step
step_in (Number (pos kind) ∷ parts) = step_of_kind kind parts
step_in parts = None

-- the step of a whole line, with its line end
abbrev pub read_line : List ℕ → Option Step
read_line line = option_and_then step_in (parts_in line)

-- ---- the lines of a file

-- whole lines, each with its line end, and the bytes after the last of them
abbrev pub Split : Type 0
Split = List (List ℕ) × List ℕ

abbrev pub begin_line : ℕ → Split → Split
begin_line byte ([], rest) = ([], byte ∷ rest)
begin_line byte (line ∷ lines, rest) = ((byte ∷ line) ∷ lines, rest)

abbrev pub put_before : ℕ → Split → Split
put_before byte split =
    if byte == 10 then ((10 ∷ []) ∷ split.0, split.1) else begin_line byte split

abbrev pub split_lines : List ℕ → Split
split_lines [] = ([], [])
split_lines (byte ∷ rest) = put_before byte (split_lines rest)

-- the steps of the whole lines, and what is left
abbrev pub read_lines : List ℕ → List (Option Step) × List ℕ
read_lines bytes = (map read_line (split_lines bytes).0, (split_lines bytes).1)
