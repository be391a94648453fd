-- What the prefix of a line is, and where it ends.
use Rattle.std.specs.Prelude.{ℕ, ◌+◌, ◌-◌, ◌==◌, ◌&&◌, ◌||◌, nat_le, nat_lt, not, Bool, true, false, if◌then◌else◌, List, [], ◌∷◌, take, drop, Option, Some, None, option_map, codes, get_or, length}
use Rattle.std.specs.List.{ends_with}
use Rattle.std.specs.Str.{trim_end}
use Rattle.ttree_source.specs.Marks.{after_mark, begins, is_empty}
use Rattle.ttree_source.specs.Traces.{begins_trace, is_digit}
use Rattle.ttree_prefix.specs.Color.{uncolored}
use Rattle.ttree_prefix.specs.declared.mark.Mark.{Mark}
use Rattle.ttree_prefix.specs.declared.mark.Mark.TheVariants.{Bar, Bracket, Job, Time, Tab, Colon, DateTime, Pod, Stamp}

-- the string that a prefix ends at
abbrev pub mark_text : Mark → List ℕ
mark_text Bar = codes "|"
mark_text Bracket = codes "]"
mark_text Job = codes " "
mark_text Time = codes " "
mark_text Tab = codes "\t"
mark_text Colon = codes ": "
mark_text DateTime = codes " "
mark_text Pod = codes " "
mark_text Stamp = codes " "

-- what is between the parts of a prefix: a tab after a job and a step, a blank otherwise
abbrev pub part_separator : Mark → ℕ
part_separator Bar = 32
part_separator Bracket = 32
part_separator Job = 9
part_separator Time = 32
part_separator Tab = 32
part_separator Colon = 32
part_separator DateTime = 32
part_separator Pod = 32
part_separator Stamp = 32

-- how many separators come before the last part: a job, a step and a time have two, and so have a
-- month, a day and a time; a date and a time have one, and so have a pod and a container
abbrev pub separators : Mark → ℕ
separators Bar = 0
separators Bracket = 0
separators Job = 2
separators Time = 0
separators Tab = 0
separators Colon = 0
separators DateTime = 1
separators Pod = 1
separators Stamp = 2

-- how many separators are left after this byte
abbrev pub left_after : ℕ → ℕ → ℕ → ℕ
left_after between left byte = if byte == between then left - 1 else left

abbrev pub ends_here : ℕ → List ℕ → List ℕ → Bool
ends_here left end line = (left == 0) && begins end line

-- the place of the first such end after this many separators
abbrev pub place_after : ℕ → ℕ → List ℕ → List ℕ → Option ℕ
place_after between left end [] = None
place_after between left end (byte ∷ rest) =
    if ends_here left end (byte ∷ rest)
    then Some 0
    else option_map (λ place. place + 1) (place_after between (left_after between left byte) end
    rest)

-- the place where a prefix ends
abbrev pub prefix_end : Mark → List ℕ → Option ℕ
prefix_end mark line = place_after (part_separator mark) (separators mark) (mark_text mark) line

-- a line at its mark: what comes before it and after it
abbrev pub at_mark : Mark → List ℕ → Option (List ℕ × List ℕ)
at_mark mark line = parts (prefix_end mark line) where
  parts : Option ℕ → Option (List ℕ × List ℕ)
  parts None = None
  parts (Some place) =
      option_map (λ rest. (take place line, rest)) (after_mark (mark_text mark) (drop place line))

abbrev pub begins_with_digit : List ℕ → Bool
begins_with_digit [] = false
begins_with_digit (byte ∷ rest) = is_digit byte

-- a name isn't empty and doesn't begin with a blank or a tab
abbrev pub is_name : List ℕ → Bool
is_name [] = false
is_name (byte ∷ rest) = nat_lt 32 byte

-- a lowercase letter, a digit, `-` or `.` (45, 46): a character of Kubernetes names
abbrev pub is_of_name : ℕ → Bool
is_of_name byte =
    is_digit byte || (nat_le 97 byte && nat_le byte 122) || (byte == 45) || (byte == 46)

abbrev pub begins_with_name : List ℕ → Bool
begins_with_name [] = false
begins_with_name (byte ∷ rest) = is_of_name byte

-- what comes after the name at the front
abbrev pub after_name : List ℕ → List ℕ
after_name [] = []
after_name (byte ∷ others) = if is_of_name byte then after_name others else byte ∷ others

-- a blank and a name
abbrev pub is_second_name : List ℕ → Bool
is_second_name [] = false
is_second_name (byte ∷ rest) =
    (byte == 32) && begins_with_name rest && is_empty (after_name rest)

-- the name of a pod, a blank and the name of a container
abbrev pub are_names : List ℕ → Bool
are_names prefix = begins_with_name prefix && is_second_name (after_name prefix)

-- a month, a day and a time have 15 characters, the first a capital, with a `:` (58) after the hour
abbrev pub is_stamp : List ℕ → Bool
is_stamp [] = false
is_stamp (byte ∷ rest) =
    (length (byte ∷ rest) == 15) && (nat_le 65 byte && nat_le byte 90)
    && (get_or (byte ∷ rest) 9 0 == 58)

-- What comes before the mark is a prefix: a line with a time begins with a digit, and after a step
-- a time ends with a `Z`. A line that begins a panic has no name before its colon.
abbrev pub is_prefix : Mark → List ℕ → List ℕ → Bool
is_prefix Bar line prefix = true
is_prefix Bracket line prefix = true
is_prefix Job line prefix = ends_with (λ a b. a == b) prefix (codes "Z")
is_prefix Time line prefix = begins_with_digit line
is_prefix Tab line prefix = is_name prefix
is_prefix Colon line prefix = is_name prefix && not (begins_trace line)
is_prefix DateTime line prefix = begins_with_digit line
is_prefix Pod line prefix = are_names prefix
is_prefix Stamp line prefix = is_stamp prefix

abbrev pub without_bracket : List ℕ → List ℕ
without_bracket prefix = after (after_mark (codes "[") prefix) where
  after : Option (List ℕ) → List ℕ
  after (Some rest) = rest
  after None = prefix

-- a prefix without the blanks at its end, or without the bracket at its front
abbrev pub trimmed : Mark → List ℕ → List ℕ
trimmed Bar prefix = trim_end prefix
trimmed Bracket prefix = without_bracket prefix
trimmed Job prefix = trim_end prefix
trimmed Time prefix = trim_end prefix
trimmed Tab prefix = trim_end prefix
trimmed Colon prefix = trim_end prefix
trimmed DateTime prefix = trim_end prefix
trimmed Pod prefix = trim_end prefix
trimmed Stamp prefix = trim_end prefix

-- what a line at its mark is split into, if what comes before the mark is a prefix
abbrev pub chosen : Mark → List ℕ → List ℕ × List ℕ → Option (List ℕ × List ℕ)
chosen mark line parts =
    if is_prefix mark line parts.0 then Some (trimmed mark parts.0, parts.1) else None

-- a line is split at its mark, without the blank and the colours there
abbrev pub split : Mark → List ℕ → Option (List ℕ × List ℕ)
split mark line = parts (at_mark mark line) where
  parts : Option (List ℕ × List ℕ) → Option (List ℕ × List ℕ)
  parts None = None
  parts (Some both) = chosen mark line (uncolored mark both)
