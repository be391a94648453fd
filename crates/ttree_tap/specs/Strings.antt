-- Parts of strings.
use Rattle.std.specs.Prelude.{ℕ, ◌+◌, ◌-◌, ◌^◌, ◌==◌, ◌&&◌, ◌||◌, nat_lt, Bool, false, not, if◌then◌else◌, List, [], ◌∷◌, ◌++◌, length, take, Option, Some, None, unwrap_or, codes}
use Rattle.std.specs.Char.{encode_utf8}
use Rattle.std.specs.List.{ends_with, list_any, position_or_len, before_first, after_first}
use Rattle.std.specs.Str.{all_ascii_digits, chars, str_eq_ignore_ascii_case}
use Rattle.std.specs.Str.Parse.{digits_value}
use Rattle.ttree_source.specs.Marks.{after_mark, is_empty}

-- what follows this mark at the front, or nothing
abbrev pub rest_after : List ℕ → List ℕ → List ℕ
rest_after mark text = unwrap_or (after_mark mark text) []

-- what comes before this mark at the end
abbrev pub before_mark : List ℕ → List ℕ → Option (List ℕ)
before_mark mark text =
    if ends_with (λ a b. a == b) text mark then Some (take (length text - length mark) text) else
    None

abbrev pub without_end : List ℕ → List ℕ → List ℕ
without_end mark text = unwrap_or (before_mark mark text) text

-- a string from its first byte on that isn't this one
abbrev pub without_leading : ℕ → List ℕ → List ℕ
without_leading mark [] = []
without_leading mark (byte ∷ rest) = if byte == mark then without_leading mark rest else byte ∷ rest

-- a string without its first spaces, up to column `limit`; `place` of them are removed already
abbrev pub without_margin_from : ℕ → ℕ → List ℕ → List ℕ
without_margin_from place limit [] = []
without_margin_from place limit (byte ∷ rest) =
    if nat_lt place limit && (byte == 32) then without_margin_from (place + 1) limit rest
    else byte ∷ rest

abbrev pub without_margin : ℕ → List ℕ → List ℕ
without_margin limit text = without_margin_from 0 limit text

-- what comes before the first of these bytes
abbrev pub first_part : ℕ → List ℕ → List ℕ
first_part mark text =
    if nat_lt (position_or_len (λ b. b == mark) text) (length text)
    then before_first (λ b. b == mark) text else text

abbrev pub is_space : ℕ → Bool
is_space byte = byte == 32

abbrev pub has_space : List ℕ → Bool
has_space text = nat_lt (position_or_len is_space text) (length text)

abbrev pub first_word : List ℕ → List ℕ
first_word text = if has_space text then before_first is_space text else text

-- what comes after the first space and those that follow it
abbrev pub after_word : List ℕ → List ℕ
after_word text = if has_space text then without_leading 32 (after_first is_space text) else []

-- two words are equal, except for the case of their letters
unfoldable pub same_word : List ℕ → List ℕ → Bool
same_word word other = str_eq_ignore_ascii_case word other

-- one digit or more, and only digits
abbrev pub is_digits : List ℕ → Bool
is_digits text = not (is_empty text) && all_ascii_digits text

-- the number that digits write, if a u64 holds it
abbrev pub whole_of : List ℕ → Option ℕ
whole_of text =
    if is_digits text && nat_lt (digits_value 10 text) (2 ^ 64)
    then Some (digits_value 10 text) else None

-- ---- escapes: `\#` means `#`, and `\\` means `\`

abbrev pub is_escape : ℕ → Bool
is_escape c = (c == 35) || (c == 92)

-- a character after a backslash; the backslash is removed only in an escape
abbrev pub end_of_escape : ℕ → List ℕ
end_of_escape c = (if is_escape c then [] else codes "\\") ++ encode_utf8 c

abbrev pub unescaped_char : Bool → ℕ → List ℕ
unescaped_char is_escaped c =
    if is_escaped then end_of_escape c else if c == 92 then [] else encode_utf8 c

abbrev pub past_escape : Bool → ℕ → Bool
past_escape is_escaped c = not is_escaped && (c == 92)

-- a backslash at the end escapes nothing
abbrev pub last_escape : Bool → List ℕ
last_escape is_escaped = if is_escaped then codes "\\" else []

-- characters as they are shown; the first follows a backslash or not
abbrev pub unescaped_from : Bool → List ℕ → List ℕ
unescaped_from is_escaped [] = last_escape is_escaped
unescaped_from is_escaped (c ∷ rest) =
    unescaped_char is_escaped c ++ unescaped_from (past_escape is_escaped c) rest

abbrev pub unescaped : List ℕ → List ℕ
unescaped text = unescaped_from false (chars text)

abbrev pub has_backslash : List ℕ → Bool
has_backslash text = list_any (λ byte. byte == 92) text

-- a description without the dash before it
abbrev pub dashless : List ℕ → List ℕ
dashless text = if_dash (after_mark (codes "- ") text) where
  if_dash : Option (List ℕ) → List ℕ
  if_dash (Some rest) = without_leading 32 rest
  if_dash None = text
