-- The results of drawing rows.
use Rattle.std.specs.Prelude.{◌≡◌, ℕ, true, false, List, Bool, Result, Ok, Err, String, string_bytes}
use Rattle.std.specs.Global.{Global}
use Rattle.std.specs.List.{list_any}
use Rattle.tracing_tree_drawing.specs.Rows.RowText.{TextRow, IsReading, is_row_too_wide}
use Rattle.tracing_tree_drawing.specs.declared.rows.draw.DrawFault.{DrawFault}
use Rattle.tracing_tree_drawing.specs.declared.rows.draw.DrawFault.TheVariants.{TooWide, Memory}

abbrev pub are_too_wide : ℕ → List TextRow → Bool
are_too_wide amount rows = list_any (is_row_too_wide amount) rows

-- the text of the rows, or that one of them is too wide
abbrev pub AnswersText : ℕ → List TextRow → Result (String Global) DrawFault → Type 0
AnswersText amount rows (Ok text) =
    (are_too_wide amount rows ≡ false) × IsReading amount (string_bytes text) rows
AnswersText amount rows (Err TooWide) = are_too_wide amount rows ≡ true
AnswersText amount rows (Err Memory) = are_too_wide amount rows ≡ false
