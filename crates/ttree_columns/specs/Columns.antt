-- The columns that characters take on a terminal.
use Rattle.std.specs.Prelude.{ℕ, ◌+◌, ◌-◌, ◌%◌, ◌==◌, ◌||◌, not, nat_lt, Bool, false, if◌then◌else◌, List, [], ◌∷◌}
use Rattle.std.specs.Option.{unwrap_or}
use Rattle.unicode_width.specs.Width.{char_width}
use Rattle.ttree_columns.specs.declared.columns.Place.{Place}

-- How many columns a character takes here. A tab reaches the next multiple of 8. The sequences that
-- switch colours, from ESC (27) to m (109), take no column.
abbrev pub columns : Place → ℕ → ℕ
columns place c =
    if place.is_in_escape || (c == 27) then 0
    else if c == 9 then 8 - place.column % 8 else unwrap_or (char_width false c) 0

-- the place after a character
abbrev pub past : Place → ℕ → Place
past place c = record {
  column = place.column + columns place c;
  is_in_escape = if place.is_in_escape then not (c == 109) else c == 27;
}

-- the place before a line
abbrev pub start : Place
start = record { column = 0; is_in_escape = false }

-- characters from this place on reach beyond this many columns
abbrev pub is_wider : ℕ → Place → List ℕ → Bool
is_wider width place [] = false
is_wider width place (c ∷ cs) =
    nat_lt width (past place c).column || is_wider width (past place c) cs

-- the first of these characters, as many as reach fewer columns than that
abbrev pub fitting : ℕ → Place → List ℕ → List ℕ
fitting width place [] = []
fitting width place (c ∷ cs) =
    if nat_lt (past place c).column width then c ∷ fitting width (past place c) cs else []

-- the column that these characters reach
abbrev pub column_after : Place → List ℕ → ℕ
column_after place [] = place.column
column_after place (c ∷ cs) = column_after (past place c) cs
