-- Worked examples of rows as JSON.
use Rattle.std.specs.Prelude.{◌≡◌, ◌++◌, true, false, [], ◌∷◌, Some, None, refl, codes}
use Rattle.std.specs.Fmt.{digits}
use Rattle.serde_json.proofs.OnLiterals.{serde_json_on_literals}
use Rattle.tracing_tree_lines.specs.Rows.Json.{all_but_last, json_lines, row_json}
use Rattle.tracing_tree_drawing.specs.declared.rows.row.Shape.TheVariants.{PreOpen, OpenRoot, Open, Close, Event}
use Rattle.tracing_tree_lines.proofs.Worked.Readings.{row, five_rows}

-- a row of each kind of members
pub open_row : row_json (row (Open true) 1 (codes "a" ∷ [])) None
    ≡ codes "{\"shape\":\"Open\",\"verbose\":true,\"level\":1,\"lines\":[\"a\"]}"
unfolding digits serde_json_on_literals
open_row = refl

pub event_row : row_json (row Event 2 (codes "x" ∷ codes "y" ∷ [])) (Some (record { event = 12; ancestors = Some 0 ∷ None ∷ [] }))
    ≡ codes "{\"shape\":\"Event\",\"level\":2,\"lines\":[\"x\",\"y\"],\"ancestors\":[0,null]}"
unfolding digits serde_json_on_literals
event_row = refl

-- what JSON escapes is escaped
pub quoted_row : row_json (row OpenRoot 0 (codes "\"\\\t" ∷ [])) None
    ≡ codes "{\"shape\":\"OpenRoot\",\"level\":0,\"lines\":[\"\\\"\\\\\\t\"]}"
unfolding digits serde_json_on_literals
quoted_row = refl

-- the rows of a tree of two spans with an event
pub five_lines : json_lines five_rows
    ≡ codes "{\"shape\":\"OpenRoot\",\"level\":0,\"lines\":[\"a \"]}\n"
    ++ codes "{\"shape\":\"Open\",\"verbose\":false,\"level\":1,\"lines\":[\"b \"]}\n"
    ++ codes "{\"shape\":\"Event\",\"level\":2,\"lines\":[\" WARN x\"],\"ancestors\":[0,1]}\n"
    ++ codes "{\"shape\":\"Close\",\"verbose\":false,\"level\":1,\"lines\":[\"\"]}\n"
    ++ codes "{\"shape\":\"CloseRoot\",\"level\":0,\"lines\":[\"\"]}\n"
unfolding digits serde_json_on_literals
five_lines = refl

-- no row opens the level of an event
pub lone_lines : json_lines (row PreOpen 0 (codes "a" ∷ []) ∷ row (Close true) 1 ([] ∷ []) ∷ row Event 1 (codes "x" ∷ []) ∷ [])
    ≡ codes "{\"shape\":\"PreOpen\",\"level\":0,\"lines\":[\"a\"]}\n"
    ++ codes "{\"shape\":\"Close\",\"verbose\":true,\"level\":1,\"lines\":[\"\"]}\n"
    ++ codes "{\"shape\":\"Event\",\"level\":1,\"lines\":[\"x\"],\"ancestors\":[null]}\n"
unfolding digits serde_json_on_literals
lone_lines = refl

-- an event at the root has an empty array
pub rootless : json_lines (row Event 0 (codes "x" ∷ []) ∷ []) ≡ codes "{\"shape\":\"Event\",\"level\":0,\"lines\":[\"x\"],\"ancestors\":[]}\n"
unfolding digits serde_json_on_literals
rootless = refl

pub but_last : all_but_last five_rows ≡ row OpenRoot 0 (codes "a " ∷ []) ∷ row (Open false) 1 (codes "b " ∷ []) ∷ row Event 2 (codes " WARN x" ∷ []) ∷ row (Close false) 1 ([] ∷ []) ∷ []
but_last = refl
