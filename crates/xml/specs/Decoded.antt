-- What strings of a document mean.
use Rattle.std.specs.Prelude.{ℕ, zero, suc, ◌+◌, ◌-◌, ◌*◌, ◌==◌, ◌&&◌, ◌||◌, nat_lt, nat_le, Bool, if◌then◌else◌, List, [], ◌∷◌, ◌++◌, length, Option, Some, None, option_and_then, codes, bytes_eq}
use Rattle.std.specs.Char.{encode_utf8}
use Rattle.xml.specs.Cut.{after_mark, after_piece, piece}
use Rattle.xml.specs.declared.cut.Until.{Until}
use Rattle.xml.specs.declared.cut.Until.TheVariants.{Reference, Verbatim, Content, Value}

-- the value of a digit; 16 if it isn't a digit
abbrev pub digit_of : ℕ → ℕ
digit_of byte =
    if nat_le 48 byte && nat_le byte 57 then byte - 48
    else if nat_le 97 byte && nat_le byte 102 then byte - 97 + 10
    else if nat_le 65 byte && nat_le byte 70 then byte - 65 + 10
    else 16

-- the number that digits write, after those that wrote this number
abbrev pub number_from : ℕ → ℕ → List ℕ → Option ℕ
number_from radix number [] = Some number
number_from radix number (digit ∷ digits) =
    if nat_le radix (digit_of digit) || nat_lt 0x10FFFF number then None
    else number_from radix (number * radix + digit_of digit) digits

-- the number that digits write, one or more
abbrev pub number_of : ℕ → List ℕ → Option ℕ
number_of radix digits = if length digits == 0 then None else number_from radix 0 digits

-- the character of a number
abbrev pub char_of : ℕ → Option ℕ
char_of number =
    if nat_lt number 0xD800 || (nat_le 0xE000 number && nat_le number 0x10FFFF)
    then Some number else None

abbrev pub decimal_of : Option (List ℕ) → Option ℕ
decimal_of (Some digits) = option_and_then char_of (number_of 10 digits)
decimal_of None = None

abbrev pub hexadecimal_or_decimal : List ℕ → Option (List ℕ) → Option ℕ
hexadecimal_or_decimal name (Some digits) = option_and_then char_of (number_of 16 digits)
hexadecimal_or_decimal name None = decimal_of (after_mark (codes "#") name)

-- the character of a number, as `#65` or `#x41`
abbrev pub numbered : List ℕ → Option ℕ
numbered name = hexadecimal_or_decimal name (after_mark (codes "#x") name)

-- the character that a reference of this name means
abbrev pub entity : List ℕ → Option ℕ
entity name =
    if bytes_eq name (codes "lt") then Some 60
    else if bytes_eq name (codes "gt") then Some 62
    else if bytes_eq name (codes "amp") then Some 38
    else if bytes_eq name (codes "quot") then Some 34
    else if bytes_eq name (codes "apos") then Some 39
    else numbered name

abbrev pub known_or_written : List ℕ → List ℕ → Option ℕ → List ℕ × List ℕ
known_or_written text rest (Some character) = (encode_utf8 character, rest)
known_or_written text rest None = (codes "&", text)

abbrev pub ended_or_written : List ℕ → List ℕ → Option (List ℕ) → List ℕ × List ℕ
ended_or_written text name (Some rest) = known_or_written text rest (entity name)
ended_or_written text name None = (codes "&", text)

-- what a reference means, whose `&` comes before this string, and what comes after it
abbrev pub reference : List ℕ → List ℕ × List ℕ
reference text =
    ended_or_written text (piece Reference text) (after_mark (codes ";") (after_piece Reference
    text))

-- a line end is a space in an attribute
abbrev pub line_end : Until → List ℕ
line_end Value = codes " "
line_end _ = codes "\n"

abbrev pub at_tab : Option (List ℕ) → List ℕ × List ℕ
at_tab (Some rest) = (codes " ", rest)
at_tab None = ([], [])

abbrev pub at_line_end : Until → List ℕ → Option (List ℕ) → List ℕ × List ℕ
at_line_end until text (Some rest) = (line_end until, rest)
at_line_end until text None = at_tab (after_mark (codes "\t") text)

abbrev pub at_return : Until → List ℕ → Option (List ℕ) → List ℕ × List ℕ
at_return until text (Some rest) = (line_end until, rest)
at_return until text None = at_line_end until text (after_mark (codes "\n") text)

abbrev pub at_return_and_line_end : Until → List ℕ → Option (List ℕ) → List ℕ × List ℕ
at_return_and_line_end until text (Some rest) = (line_end until, rest)
at_return_and_line_end until text None = at_return until text (after_mark (codes "\r") text)

abbrev pub at_reference : Until → List ℕ → Option (List ℕ) → List ℕ × List ℕ
at_reference until text (Some rest) = reference rest
at_reference until text None = at_return_and_line_end until text (after_mark (codes "\r\n") text)

-- what the mark at the front means, and what comes after it
abbrev pub special : Until → List ℕ → List ℕ × List ℕ
special until text = at_reference until text (after_mark (codes "&") text)

-- a piece as it is written, then what its mark means, then what comes after that
abbrev pub decoded_then : Until → List ℕ → (List ℕ → List ℕ) → List ℕ
decoded_then until text others =
    piece until text ++ (special until (after_piece until text)).0
    ++ others (special until (after_piece until text)).1

abbrev pub decoded_within : ℕ → Until → List ℕ → List ℕ
decoded_within zero until text = []
decoded_within (suc turns) until text =
    if length text == 0 then [] else decoded_then until text (λ rest. decoded_within turns until
    rest)

-- What a string means. Each turn reads a byte or more.
abbrev pub decoded : Until → List ℕ → List ℕ
decoded until text = decoded_within (length text) until text

-- a run of characters, the value of an attribute, and a part of a CDATA section
abbrev pub text_decoded : List ℕ → List ℕ
text_decoded run = decoded Content run

abbrev pub attribute_decoded : List ℕ → List ℕ
attribute_decoded value = decoded Value value

abbrev pub cdata_decoded : List ℕ → List ℕ
cdata_decoded part = decoded Verbatim part
