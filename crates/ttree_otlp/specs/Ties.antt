-- Inputs whose lines can be in any order: rows of different lines don't tie.
use Rattle.std.specs.Prelude.{◌≡◌, ◌==◌, Bool, false, ℕ, List, map, All, AllPairs}
use Rattle.std.specs.List.{list_any}
use Rattle.ttree_otlp.specs.Gather.{lines_taken, nothing_gathered, otlp_line_taken, resolved}
use Rattle.ttree_otlp.specs.declared.item.Item.{Item}
use Rattle.ttree_otlp.specs.Walk.{key_in}

-- a row without its number in the input
abbrev pub unnumbered : Item → Item
unnumbered row = record row { place = record row.place { index = 0 } }

-- If these rows tie, they are the same. Rows tie if they are in one span and at one place but for
-- their numbers in the input.
abbrev pub TieAlike : Item → Item → Type 0
TieAlike a b =
    key_in a ≡ key_in b → (unnumbered a).place ≡ (unnumbered b).place → unnumbered a ≡ unnumbered b

-- the rows of a line in an input with these traces and spans, each with its span
abbrev pub rows_of_line : List (List ℕ × ℕ) → List ℕ → List Item
rows_of_line known line = map (resolved known) (otlp_line_taken line nothing_gathered).items

-- no row of the one line ties with a row of the other line, unless they are the same
abbrev pub DontTie : List (List ℕ × ℕ) → List ℕ → List ℕ → Type 0
DontTie known one other =
    All (λ a. All (TieAlike a) (rows_of_line known other)) (rows_of_line known one)

-- rows of different lines don't tie
abbrev pub HaveNoTies : List (List ℕ) → Type 0
HaveNoTies lines = AllPairs (DontTie (lines_taken lines nothing_gathered).known) lines

abbrev pub is_space : ℕ → Bool
is_space byte = byte == 32

abbrev pub has_space : List ℕ → Bool
has_space id = list_any is_space id

-- no trace's id has a space
abbrev pub HaveNoSpaces : List (List ℕ) → Type 0
HaveNoSpaces lines =
    All (λ row. has_space row.trace ≡ false) (lines_taken lines nothing_gathered).items
