-- The string of a trace by its bytes.
use Rattle.std.specs.Prelude.{ℕ, ◌-◌, ◌==◌, if◌then◌else◌, List, [], ◌∷◌, length, take, drop, Option, Some, None, is_none}
use Rattle.std.specs.List.{ends_with}
use Rattle.std.specs.Str.{is_utf8}
use Rattle.std.specs.Str.Lossy.{utf8_valid_len, utf8_error_len}

-- The string of these bytes, without a truncated character at their end. `None` if they otherwise
-- aren't UTF-8.
abbrev pub whole_text : List ℕ → Option (List ℕ)
whole_text bytes =
    if is_utf8 bytes then Some bytes
    else if is_none (utf8_error_len (drop (utf8_valid_len bytes) bytes))
    then Some (take (utf8_valid_len bytes) bytes) else None

-- the same without a line end, whose byte is 10, at the end
abbrev pub whole_characters : List ℕ → Option (List ℕ)
whole_characters bytes =
    if ends_with (λ a b. a == b) bytes (10 ∷ []) then whole_text (take (length bytes - 1) bytes)
    else whole_text bytes
