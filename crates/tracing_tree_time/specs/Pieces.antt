-- Strings that are built from pieces.
use Rattle.std.specs.Prelude.{◌≡◌, ℕ, ◌-◌, List, ◌++◌, length, flat_map, replicate, decimal, Bool}
use Rattle.std.specs.Borrow.{Bor}
use Rattle.tracing_tree_time.specs.Numbers.{right_in, digits_in}
use Rattle.tracing_tree_time.specs.Clock.{lower_elapsed_text, higher_elapsed_text, dimmed_pair, hundredths_text}
use Rattle.tracing_tree_time.specs.declared.pieces.Piece.{Piece}
use Rattle.tracing_tree_time.specs.declared.pieces.Piece.TheVariants.{Text, Digits, Right}

-- a string right-aligned in `places` places, filled with this character
abbrev pub filled_in : ℕ → ℕ → List ℕ → List ℕ
filled_in fill places text = replicate (places - length text) fill ++ text

abbrev pub piece_text : Piece → List ℕ
piece_text (Text text) = text.now
piece_text (Digits number places) = digits_in places number
piece_text (Right number places) = right_in places (decimal number)

abbrev pub pieces_text : List Piece → List ℕ
pieces_text pieces = flat_map piece_text pieces

abbrev pub groups_text : List (Bor (List Piece)) → List ℕ
groups_text groups = flat_map (λ pieces. pieces_text pieces.now) groups

-- ---- elapsed times

-- a number and a unit that lower precision shows of an elapsed time
abbrev pub ShowsWhole : ℕ → ℕ → List ℕ → Type 0
ShowsWhole nanos number unit =
    (ansi : Bool) →
    lower_elapsed_text ansi nanos ≡ dimmed_pair ansi (right_in 3 (decimal number)) unit

-- a count of hundredths and a unit that higher precision shows of an elapsed time
abbrev pub ShowsHundredths : ℕ → ℕ → List ℕ → Type 0
ShowsHundredths nanos count unit =
    (ansi : Bool) → higher_elapsed_text ansi nanos ≡ dimmed_pair ansi (hundredths_text count) unit
