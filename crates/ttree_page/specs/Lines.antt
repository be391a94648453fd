-- The lines of steps.
use Rattle.std.specs.Prelude.{◌≡◌, ℕ, ◌/◌, ◌%◌, nat_lt, nat_le, ◌==◌, ◌&&◌, ◌||◌, not, Bool, IsTrue, ℤ, pos, false, if◌then◌else◌, List, [], ◌∷◌, ◌++◌, flat_map, decimal, codes}
use Rattle.std.specs.Int.{int_div_euclid, int_rem_euclid}
use Rattle.std.specs.Fmt.{digit_glyph, signed_decimal}
use Rattle.std.specs.List.{list_all}
use Rattle.tracing_tree_base.specs.declared.field.Field.{Field}
use Rattle.tracing_tree_base.specs.declared.style.Level.{Level}
use Rattle.tracing_tree_base.specs.declared.style.Level.TheVariants as Levels
use Rattle.ttree_page.specs.declared.form.LineForm.{LineForm}
use Rattle.ttree_page.specs.declared.form.LineForm.TheVariants.{Arrays, Objects}
use Rattle.ttree_page.specs.declared.form.Kind.{Kind}
use Rattle.ttree_page.specs.declared.form.Kind.TheVariants as Kinds
use Rattle.ttree_page.specs.Steps.{Stamp, Step, About, New, Record, Event, Close, End}

-- ---- strings

-- a byte as two hexadecimal digits
abbrev pub hex_pair : ℕ → List ℕ
hex_pair byte = digit_glyph false (byte / 16) ∷ digit_glyph false (byte % 16) ∷ []

-- a byte that is an escape between quotes
abbrev pub is_escaped : ℕ → Bool
is_escaped byte = (byte == 34) || ((byte == 92) || ((byte == 60) || nat_lt byte 32))

-- a byte of a string between quotes
abbrev pub escaped_byte : ℕ → List ℕ
escaped_byte byte =
    if (byte == 34) || (byte == 92) then 92 ∷ byte ∷ []
    else (if nat_lt byte 32 || (byte == 60) then codes "\\u00" ++ hex_pair byte else byte ∷ [])

-- a string in quotes
abbrev pub in_quotes : List ℕ → List ℕ
in_quotes text = 34 ∷ flat_map escaped_byte text ++ 34 ∷ []

-- ---- parts

-- a part of a line, after the part before it
abbrev pub after_comma : List ℕ → List ℕ
after_comma part = 44 ∷ part

-- the key of a part, if the lines have keys
abbrev pub key_text : LineForm → List ℕ → List ℕ
key_text Arrays key = []
key_text Objects key = 34 ∷ (key ++ codes "\":")

-- a part with its key
abbrev pub keyed_part : LineForm → List ℕ → List ℕ → List ℕ
keyed_part form key value = key_text form key ++ value

-- a duration in nanoseconds as seconds, rounded down, and the nanoseconds that are left
abbrev pub ahead_parts : LineForm → ℤ → List (List ℕ)
ahead_parts form time =
    keyed_part form (codes "ahead_seconds")
    (signed_decimal (int_div_euclid time (pos 1_000_000_000)))
    ∷ keyed_part form (codes "ahead_nanos")
    (signed_decimal (int_rem_euclid time (pos 1_000_000_000)))
    ∷ []

abbrev pub stamp_parts : LineForm → Stamp → List (List ℕ)
stamp_parts form stamp =
    keyed_part form (codes "seconds") (decimal (stamp.mono / 1_000_000_000))
    ∷ keyed_part form (codes "nanos") (decimal (stamp.mono % 1_000_000_000))
    ∷ ahead_parts form stamp.ahead ++ keyed_part form (codes "thread") (in_quotes stamp.thread) ∷ []

-- ---- fields

abbrev pub name_and_value : Field → List (List ℕ)
name_and_value field = in_quotes field.name ∷ in_quotes field.value ∷ []

-- the field in an object
abbrev pub pair : Field → List ℕ
pair field = in_quotes field.name ++ 58 ∷ in_quotes field.value

abbrev pub later_pair : Field → List ℕ
later_pair field = after_comma (pair field)

abbrev pub pairs : List Field → List ℕ
pairs [] = []
pairs (field ∷ fields) = pair field ++ flat_map later_pair fields

-- fields: names and values one after another, or one object
abbrev pub field_parts : LineForm → List Field → List (List ℕ)
field_parts Arrays fields = flat_map name_and_value fields
field_parts Objects fields = (codes "\"fields\":{" ++ (pairs fields ++ codes "}")) ∷ []

-- ---- lines

-- a level: its number from 0 to 4, or its name
abbrev pub level_text : LineForm → Level → List ℕ
level_text Arrays Levels.Trace = codes "0"
level_text Arrays Levels.Debug = codes "1"
level_text Arrays Levels.Info = codes "2"
level_text Arrays Levels.Warn = codes "3"
level_text Arrays Levels.Error = codes "4"
level_text Objects Levels.Trace = codes "\"trace\""
level_text Objects Levels.Debug = codes "\"debug\""
level_text Objects Levels.Info = codes "\"info\""
level_text Objects Levels.Warn = codes "\"warn\""
level_text Objects Levels.Error = codes "\"error\""

abbrev pub step_kind : Step → Kind
step_kind (About title) = Kinds.About
step_kind (New stamp id parent name target fields) = Kinds.New
step_kind (Record id fields) = Kinds.Record
step_kind (Event stamp parent current level target fields) = Kinds.Event
step_kind (Close stamp id) = Kinds.Close
step_kind End = Kinds.End

-- the start of a line; that of the first line has the version of the format, 2
abbrev pub start_text : LineForm → Kind → List ℕ
start_text Arrays Kinds.About = codes "[0,2"
start_text Arrays Kinds.New = codes "[1"
start_text Arrays Kinds.Record = codes "[2"
start_text Arrays Kinds.Event = codes "[3"
start_text Arrays Kinds.Close = codes "[4"
start_text Arrays Kinds.End = codes "[5"
start_text Objects Kinds.About = codes "{\"step\":\"about\",\"version\":2"
start_text Objects Kinds.New = codes "{\"step\":\"new\""
start_text Objects Kinds.Record = codes "{\"step\":\"record\""
start_text Objects Kinds.Event = codes "{\"step\":\"event\""
start_text Objects Kinds.Close = codes "{\"step\":\"close\""
start_text Objects Kinds.End = codes "{\"step\":\"end\""

-- the parts after the start
abbrev pub step_parts : LineForm → Step → List (List ℕ)
step_parts form (About title) = keyed_part form (codes "title") (in_quotes title) ∷ []
step_parts form (New stamp id parent name target fields) =
    stamp_parts form stamp ++ keyed_part form (codes "id") (decimal id)
    ∷ keyed_part form (codes "parent") (decimal parent)
    ∷ keyed_part form (codes "name") (in_quotes name)
    ∷ keyed_part form (codes "target") (in_quotes target) ∷ field_parts form fields
step_parts form (Record id fields) =
    keyed_part form (codes "id") (decimal id) ∷ field_parts form fields
step_parts form (Event stamp parent current level target fields) =
    stamp_parts form stamp ++ keyed_part form (codes "parent") (decimal parent)
    ∷ keyed_part form (codes "current") (decimal current)
    ∷ keyed_part form (codes "level") (level_text form level)
    ∷ keyed_part form (codes "target") (in_quotes target) ∷ field_parts form fields
step_parts form (Close stamp id) =
    stamp_parts form stamp ++ keyed_part form (codes "id") (decimal id) ∷ []
step_parts form End = []

-- the closing bracket
abbrev pub bracket : LineForm → List ℕ
bracket Arrays = codes "]"
bracket Objects = codes "}"

-- the end of a line
abbrev pub step_end : LineForm → List ℕ
step_end form = bracket form ++ codes "\n"

abbrev pub step_line : LineForm → Step → List ℕ
step_line form step =
    start_text form (step_kind step) ++ flat_map after_comma (step_parts form step) ++ step_end form

-- ---- what no input can write

-- a byte other than `<` and control characters: from it, no HTML element can begin or end
abbrev pub is_harmless : ℕ → Bool
is_harmless byte = nat_le 32 byte && not (byte == 60)

-- a line with one line end, at its end, whose other bytes are harmless
pub record IsHarmless (line : List ℕ) : Type 0 where
  pub front : List ℕ
  pub ended : line ≡ front ++ 10 ∷ []
  pub harmless : IsTrue (list_all is_harmless front)
