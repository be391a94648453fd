-- Rows whose calls are made one row after another.
use Rattle.std.specs.Prelude.{◌≡◌, ◌<◌, ℕ, ◌+◌, Bool, true, false, if◌then◌else◌, List, [], ◌++◌, length, Option, Some, None}
use Rattle.tracing_tree_layer.specs.declared.call.Call.{Call}
use Rattle.ttree_otlp.specs.Draw.{TreeState, rows_drawn, rows_finished}
use Rattle.ttree_otlp.specs.declared.walk.Row.{Row}

-- what is open, the rows that are left, and whether the calls after the last row were returned
pub record TreeView : Type 0 where
  pub state : TreeState
  pub rows : List Row
  pub is_ended : Bool

-- the calls that are left
abbrev pub calls_of_tree : TreeView → List Call
calls_of_tree tree =
    if tree.is_ended then [] else (rows_finished (rows_drawn tree.rows tree.state)).calls

-- how many times calls are returned
abbrev pub steps_left : TreeView → ℕ
steps_left tree = if tree.is_ended then 0 else length tree.rows + 1

-- The first of the calls that are left, and the others stay. At the end nothing changes.
abbrev pub ReturnsCalls : Option (List Call) → TreeView → TreeView → Type 0
ReturnsCalls None old new = (calls_of_tree old ≡ []) × (new ≡ old)
ReturnsCalls (Some calls) old new =
    (calls_of_tree old ≡ calls ++ calls_of_tree new) × (steps_left new < steps_left old)
