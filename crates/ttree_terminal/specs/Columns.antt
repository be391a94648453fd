-- Lines that are cut at a terminal's width.
use Rattle.std.specs.Prelude.{ℕ, ◌==◌, ◌&&◌, Bool, if◌then◌else◌, List, [], ◌∷◌, ◌++◌, codes}
use Rattle.std.specs.List.{list_any}
use Rattle.std.specs.Str.{chars, encode_utf8_all, is_utf8}
use Rattle.ttree_columns.specs.Columns.{fitting, is_wider, start}

-- Whether there is such a byte.
abbrev pub has_byte : ℕ → List ℕ → Bool
has_byte byte bytes = list_any (λ other. other == byte) bytes

-- `…`, the mark of a line that was cut
abbrev pub cut_mark : List ℕ
cut_mark = 226 ∷ 128 ∷ 166 ∷ []

-- what switches off colours that were switched on
abbrev pub reset : List ℕ → List ℕ
reset kept = if has_byte 27 kept then 27 ∷ codes "[0m" else []

-- the line end, if there is one
abbrev pub kept_line_end : List ℕ → List ℕ
kept_line_end line = if has_byte 10 line then 10 ∷ [] else []

-- the first characters of a line, which leave a column for the mark
abbrev pub kept_columns : ℕ → List ℕ → List ℕ
kept_columns width line = encode_utf8_all (fitting width start (chars line))

-- A line cut at this many columns. A line that isn't UTF-8 isn't cut.
abbrev pub cut_at : ℕ → List ℕ → List ℕ
cut_at width line =
    if is_utf8 line && is_wider width start (chars line)
    then kept_columns width line ++ cut_mark ++ reset (kept_columns width line)
    ++ kept_line_end line else line
