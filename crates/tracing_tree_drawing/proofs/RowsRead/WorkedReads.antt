-- Worked strings, and how they are read.
use Rattle.std.proofs.Common.{◌≡◌, ℕ, List, [], ◌∷◌, Some, None, true, false, refl}
use Rattle.std.specs.Char.{encode_utf8}
use Rattle.std.specs.Prelude.{encode_utf8_all}
use Rattle.tracing_tree_drawing.proofs.Characters.{horizontal, vertical, branch, corner_down_left, corner_up_left, corner_up_right, corner_down_right}
use Rattle.tracing_tree_drawing.specs.Rows.RowText.{TextRow}
use Rattle.tracing_tree_drawing.specs.declared.rows.row.Shape.{Shape}
use Rattle.tracing_tree_drawing.specs.declared.rows.row.Shape.TheVariants.{PreOpen, OpenRoot, Open, CloseRoot, Close, Event}
use Rattle.tracing_tree_drawing.specs.Rows.Line.{read_lines}

abbrev row : Shape → ℕ → List (List ℕ) → TextRow
row shape level lines = record { shape = shape; level = level; lines = lines }

abbrev line : List ℕ → List ℕ
line characters = encode_utf8_all characters

abbrev a : ℕ
a = 97

abbrev b : ℕ
b = 98

abbrev x : ℕ
x = 120

abbrev y : ℕ
y = 121

-- `┐a `, `└─┐b `, `  ├─x`, `┌─┘`, `┘`
whole : read_lines 2 (line (corner_down_left ∷ a ∷ 32 ∷ []) ∷ line (corner_up_right ∷ horizontal ∷ corner_down_left ∷ b ∷ 32 ∷ [])
    ∷ line (32 ∷ 32 ∷ branch ∷ horizontal ∷ x ∷ []) ∷ line (corner_down_right ∷ horizontal ∷ corner_up_left ∷ []) ∷ line (corner_up_left ∷ []) ∷ [])
    ≡ Some (row OpenRoot 0 ((a ∷ 32 ∷ []) ∷ []) ∷ row (Open false) 1 ((b ∷ 32 ∷ []) ∷ []) ∷ row Event 2 ((x ∷ []) ∷ []) ∷ row (Close false) 1 ([] ∷ []) ∷ row CloseRoot 0 ([] ∷ []) ∷ [])
unfolding encode_utf8
whole = refl

-- `└┐a `, ` └┐b `
parents : read_lines 2 (line (corner_up_right ∷ corner_down_left ∷ a ∷ 32 ∷ []) ∷ line (32 ∷ corner_up_right ∷ corner_down_left ∷ b ∷ 32 ∷ []) ∷ [])
    ≡ Some (row PreOpen 0 ((a ∷ 32 ∷ []) ∷ []) ∷ row (Open true) 1 ((b ∷ 32 ∷ []) ∷ []) ∷ [])
unfolding encode_utf8
parents = refl

-- `└─┐b `, `  │  2`
later : read_lines 2 (line (corner_up_right ∷ horizontal ∷ corner_down_left ∷ b ∷ 32 ∷ []) ∷ line (32 ∷ 32 ∷ vertical ∷ 32 ∷ 32 ∷ 50 ∷ []) ∷ [])
    ≡ Some (row (Open false) 1 ((b ∷ 32 ∷ []) ∷ (50 ∷ []) ∷ []) ∷ [])
unfolding encode_utf8
later = refl

-- `├─x`, `│  y`
event : read_lines 2 (line (branch ∷ horizontal ∷ x ∷ []) ∷ line (vertical ∷ 32 ∷ 32 ∷ y ∷ []) ∷ []) ≡ Some (row Event 1 ((x ∷ []) ∷ (y ∷ []) ∷ []) ∷ [])
unfolding encode_utf8
event = refl

-- ` x`
bare : read_lines 2 (line (32 ∷ x ∷ []) ∷ []) ≡ Some (row Event 0 ((32 ∷ x ∷ []) ∷ []) ∷ [])
unfolding encode_utf8
bare = refl

-- `└──┐b `
long : read_lines 2 (line (corner_up_right ∷ horizontal ∷ horizontal ∷ corner_down_left ∷ b ∷ 32 ∷ []) ∷ []) ≡ None
unfolding encode_utf8
long = refl

-- `┐a`, `│  y`
root : read_lines 2 (line (corner_down_left ∷ a ∷ []) ∷ line (vertical ∷ 32 ∷ 32 ∷ y ∷ []) ∷ []) ≡ None
unfolding encode_utf8
root = refl

-- three spaces, and nothing
blanks : read_lines 2 (line (32 ∷ 32 ∷ 32 ∷ []) ∷ []) ≡ None
unfolding encode_utf8
blanks = refl

empty : read_lines 2 ([] ∷ []) ≡ None
unfolding encode_utf8
empty = refl

-- an event's text may begin with the line of its branch, and with spaces
dashes : read_lines 3 (line (branch ∷ horizontal ∷ horizontal ∷ horizontal ∷ 32 ∷ x ∷ []) ∷ []) ≡ Some (row Event 1 (line (horizontal ∷ 32 ∷ x ∷ []) ∷ []) ∷ [])
unfolding encode_utf8
dashes = refl

-- amount 3: a parent's row, a plain one and a verbose one
three : read_lines 3 (line (corner_up_right ∷ corner_down_left ∷ []) ∷ line (corner_up_right ∷ horizontal ∷ horizontal ∷ corner_down_left ∷ [])
    ∷ line (32 ∷ corner_up_right ∷ horizontal ∷ corner_down_left ∷ []) ∷ [])
    ≡ Some (row PreOpen 0 ([] ∷ []) ∷ row (Open false) 1 ([] ∷ []) ∷ row (Open true) 1 ([] ∷ []) ∷ [])
unfolding encode_utf8
three = refl

-- a later line's text may look like a frame
framed : read_lines 2 (line (corner_up_right ∷ horizontal ∷ corner_down_left ∷ b ∷ []) ∷ line (32 ∷ 32 ∷ vertical ∷ 32 ∷ 32 ∷ corner_up_right ∷ horizontal ∷ corner_down_left ∷ x ∷ []) ∷ [])
    ≡ Some (row (Open false) 1 ((b ∷ []) ∷ line (corner_up_right ∷ horizontal ∷ corner_down_left ∷ x ∷ []) ∷ []) ∷ [])
unfolding encode_utf8
framed = refl

-- a later line one column off, or with one space too few after its bar, isn't one
off : read_lines 2 (line (branch ∷ horizontal ∷ x ∷ []) ∷ line (32 ∷ vertical ∷ 32 ∷ 32 ∷ y ∷ []) ∷ []) ≡ None
unfolding encode_utf8
off = refl

narrow : read_lines 2 (line (branch ∷ horizontal ∷ x ∷ []) ∷ line (vertical ∷ 32 ∷ y ∷ []) ∷ []) ≡ None
unfolding encode_utf8
narrow = refl
