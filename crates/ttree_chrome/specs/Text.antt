-- The elements that a string has as a trace.
use Rattle.std.specs.Prelude.{◌≡◌, ℕ, ◌+◌, ◌==◌, ◌||◌, Bool, true, false, if◌then◌else◌, List, [], ◌∷◌, ◌++◌, length, take, drop, flat_map, Option, Some, None, option_and_then, bytes_eq, codes}
use Rattle.json.specs.Find.{InItems, InMembers, as_array, as_object, get_member}
use Rattle.json.specs.Json.{Json, null, boolean, number, string, array, object, Items, Members, no_members, member}
use Rattle.json.specs.Token.{Token}
use Rattle.ttree_source.specs.Blanks.{first_byte, is_blank}
use Rattle.ttree_source.specs.Values.{array_at}
use Rattle.ttree_chrome.specs.declared.text.Opening.{Opening}
use Rattle.ttree_chrome.specs.declared.text.Opening.TheVariants.{Array, Object, Other}
use Rattle.ttree_chrome.specs.declared.text.Bracket.{Bracket}
use Rattle.ttree_chrome.specs.declared.text.Bracket.TheVariants.{Square, Curly}

-- ---- values

-- the items of an array, or of the array that an object has under this key
abbrev pub elements_in : Json → Option Items
elements_in null = None
elements_in (boolean _) = None
elements_in (number _) = None
elements_in (string _) = None
elements_in (array items) = Some items
elements_in (object members) = array_at (codes "traceEvents") (object members)

-- ---- the tokens of the elements

-- what follows the first token of a value
abbrev pub Opens : Json → Opening → List Token → Type 0
Opens value Array tokens = (items : Items) × (value ≡ array items) × InItems tokens items
Opens value Object tokens = (members : Members) × (value ≡ object members) × InMembers tokens members
Opens value Other tokens = (as_array value ≡ None) × (as_object value ≡ None)

-- the tokens that follow are these elements, if there are any
abbrev pub Lists : Option Items → Option (List Token) → Type 0
Lists elements None = elements ≡ None
Lists elements (Some tokens) = (items : Items) × (elements ≡ Some items) × InItems tokens items

-- the same of a value that may not be a list of elements
abbrev pub IsAtList : Option Json → Bool → List Token → Type 0
IsAtList value true tokens = Lists (option_and_then as_array value) (Some tokens)
IsAtList value false tokens = Lists (option_and_then as_array value) None

abbrev pub is_list_key : List ℕ → Bool
is_list_key key = bytes_eq key (codes "traceEvents")

-- how many members have the key of the elements
abbrev pub lists_among : Members → ℕ
lists_among no_members = 0
lists_among (member key value others) =
    (if is_list_key key then 1 else 0) + lists_among others

-- the last of them
abbrev pub list_among : Members → Option Json
list_among members = get_member (codes "traceEvents") members

abbrev pub lists_in : Json → ℕ
lists_in null = 0
lists_in (boolean _) = 0
lists_in (number _) = 0
lists_in (string _) = 0
lists_in (array _) = 0
lists_in (object members) = lists_among members

abbrev pub list_count : Option Json → ℕ
list_count None = 0
list_count (Some value) = lists_in value

-- ---- the part of a string that is read

pub record ScanState : Type 0 where
  -- the brackets that are open, the innermost first
  pub brackets : List Bracket
  -- whether the next byte is inside a string of JSON
  pub in_text : Bool
  -- whether a backslash precedes it there
  pub is_escaped : Bool
  -- the count of bytes up to the last place between two elements
  pub place : ℕ
  -- those that were open there, the innermost first
  pub left_open : List Bracket

abbrev pub nothing_read : ScanState
nothing_read = record {
  brackets = [];
  in_text = false;
  is_escaped = false;
  place = 0;
  left_open =
      [];
}

abbrev pub bracket_opened : Bracket → ScanState → ScanState
bracket_opened bracket s = record s { brackets = bracket ∷ s.brackets }

-- a bracket that closes nothing is ignored
abbrev pub bracket_closed : ScanState → ScanState
bracket_closed s = record s { brackets = drop 1 s.brackets }

-- this many bytes in, a place with exactly `level` open brackets
abbrev pub place_noted : ℕ → ℕ → ScanState → ScanState
place_noted level at s =
    if length s.brackets == level then record s { place = at; left_open = s.brackets } else s

abbrev pub read_in_text : ℕ → ScanState → ScanState
read_in_text byte s =
    if s.is_escaped then record s { is_escaped = false }
    else if byte == 92 then record s { is_escaped = true }
    else if byte == 34 then record s { in_text = false }
    else s

abbrev pub read_outside : ℕ → ℕ → ℕ → ScanState → ScanState
read_outside level at byte s =
    if byte == 34 then record s { in_text = true }
    else if byte == 91 then place_noted level at (bracket_opened Square s)
    else if byte == 123 then place_noted level at (bracket_opened Curly s)
    else if (byte == 93) || (byte == 125) then place_noted level at (bracket_closed s)
    else s

abbrev pub byte_read : ℕ → ℕ → ℕ → ScanState → ScanState
byte_read level at byte s =
    if s.in_text then read_in_text byte s else read_outside level at byte s

-- the bytes from the place `at` on
abbrev pub scan_from : ℕ → ℕ → List ℕ → ScanState → ScanState
scan_from level at [] s = s
scan_from level at (byte ∷ others) s =
    scan_from level (at + 1) others (byte_read level (at + 1) byte s)

-- ---- the string mended

abbrev pub level_by : Option ℕ → ℕ
level_by None = 2
level_by (Some byte) = if byte == 91 then 1 else 2

-- the count of open brackets between two elements: the list's, and that of an object around it
abbrev pub element_depth : List ℕ → ℕ
element_depth text = level_by (first_byte text)

abbrev pub scan_of : List ℕ → ScanState
scan_of text = scan_from (element_depth text) 0 text nothing_read

abbrev pub closer : Bracket → List ℕ
closer Square = codes "]"
closer Curly = codes "}"

-- the string up to the last place between two elements, with what is open there closed
abbrev pub mended : List ℕ → List ℕ
mended text = take (scan_of text).place text ++ flat_map closer (scan_of text).left_open

-- a byte may follow the last element of a list: a blank, a comma, or a closing bracket
abbrev pub is_closing : ℕ → Bool
is_closing byte = is_blank byte || (byte == 44) || (byte == 93) || (byte == 125)

-- whether anything else follows there
abbrev pub has_more : List ℕ → Bool
has_more [] = false
has_more (byte ∷ others) = if is_closing byte then has_more others else true

-- whether more than its end is lost
abbrev pub is_cut : List ℕ → Bool
is_cut text = has_more (drop (scan_of text).place text)
