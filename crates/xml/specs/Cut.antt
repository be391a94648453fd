-- Pieces of a document.
use Rattle.std.specs.Prelude.{ℕ, ◌-◌, ◌==◌, ◌||◌, Bool, not, if◌then◌else◌, List, length, take, drop, Option, Some, None}
use Rattle.std.specs.List.{ends_with, position_or_len, starts_with}
use Rattle.xml.specs.declared.cut.Until.{Until}
use Rattle.xml.specs.declared.cut.Until.TheVariants.{Markup, Greater, Name, AttributeName, DoubleQuote, SingleQuote, Doctype, Subset, Reference, Verbatim, Content, Value}

-- a space, a tab, a line end or a return
abbrev pub is_blank : ℕ → Bool
is_blank byte = (byte == 32) || (byte == 9) || (byte == 10) || (byte == 13)

-- a piece of this kind ends at this byte
abbrev pub ends_at : Until → ℕ → Bool
ends_at Markup byte = byte == 60
ends_at Greater byte = byte == 62
ends_at Name byte = (byte == 62) || (byte == 47) || is_blank byte
ends_at AttributeName byte = (byte == 62) || (byte == 61) || is_blank byte
ends_at DoubleQuote byte = byte == 34
ends_at SingleQuote byte = byte == 39
ends_at Doctype byte = (byte == 62) || (byte == 91) || (byte == 34) || (byte == 39)
ends_at Subset byte = (byte == 60) || (byte == 93) || (byte == 34) || (byte == 39)
ends_at Reference byte = (byte == 59) || (byte == 38) || is_blank byte
ends_at Verbatim byte = byte == 13
ends_at Content byte = (byte == 38) || (byte == 13)
ends_at Value byte = (byte == 38) || (byte == 13) || (byte == 10) || (byte == 9)

-- a string up to where its first piece of this kind ends, and what comes after it
abbrev pub piece : Until → List ℕ → List ℕ
piece until text = take (position_or_len (ends_at until) text) text

abbrev pub after_piece : Until → List ℕ → List ℕ
after_piece until text = drop (position_or_len (ends_at until) text) text

-- the count of blanks at the front, and what comes after them
abbrev pub blank_count : List ℕ → ℕ
blank_count text = position_or_len (λ byte. not (is_blank byte)) text

abbrev pub after_blanks : List ℕ → List ℕ
after_blanks text = drop (blank_count text) text

-- what comes after this mark at the front of a string
abbrev pub after_mark : List ℕ → List ℕ → Option (List ℕ)
after_mark mark text =
    if starts_with (λ a b. a == b) text mark then Some (drop (length mark) text) else None

-- a string without this mark at its end
abbrev pub without_end : List ℕ → List ℕ → Option (List ℕ)
without_end mark text =
    if ends_with (λ a b. a == b) text mark then Some (take (length text - length mark) text) else
    None
