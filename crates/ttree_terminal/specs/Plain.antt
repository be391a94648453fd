-- Bytes that move no terminal's cursor and change no colour.
use Rattle.std.specs.Prelude.{◌≡◌, ℕ, ◌==◌, ◌||◌, ◌&&◌, not, nat_lt, nat_le, Bool, true, false, if◌then◌else◌, List, [], ◌∷◌, ◌++◌, Option}
use Rattle.std.specs.Io.KnownBytes.{Appends}

-- a byte below 32, except a tab (9) and a line end (10), or the byte 127
abbrev pub is_control : ℕ → Bool
is_control byte =
    if (byte == 9) || (byte == 10) then false else nat_lt byte 32 || (byte == 127)

-- A byte from 128 to 159 after a byte 194: in UTF-8 the C1 controls, U+0080 to U+009F, are these
-- pairs of bytes.
abbrev pub is_c1 : ℕ → ℕ → Bool
is_c1 before byte = (before == 194) && nat_le 128 byte && nat_le byte 159

-- a printable character of ASCII, which is no part of a control
abbrev pub is_printable : ℕ → Bool
is_printable byte = nat_le 32 byte && nat_le byte 126

-- bytes have no control after this byte
abbrev pub plain_after : ℕ → List ℕ → Bool
plain_after before [] = true
plain_after before (byte ∷ bytes) =
    not (is_control byte) && not (is_c1 before byte) && plain_after byte bytes

-- Plain bytes: none is below 32, except tabs and line ends, none is 127, and none from 128 to 159
-- follows a byte 194.
abbrev pub IsPlain : List ℕ → Type 0
IsPlain bytes = plain_after 0 bytes ≡ true

-- Known bytes grow by plain bytes. They stay plain if they were.
abbrev pub GrowsPlain : Option (List ℕ) → Option (List ℕ) → Type 0
GrowsPlain old new =
    (bytes : List ℕ) × Appends old new bytes
    × ((before : List ℕ) → IsPlain before → IsPlain (before ++ bytes))
