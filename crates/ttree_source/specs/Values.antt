-- What JSON values hold.
use Rattle.std.specs.Prelude.{ℕ, List, Option, option_and_then}
use Rattle.json.specs.Json.{Json, Items}
use Rattle.json.specs.Find.{get, as_array, as_str}

-- the string at a key
abbrev pub text_at : List ℕ → Json → Option (List ℕ)
text_at key value = option_and_then as_str (get key value)

-- the items of the array at a key
abbrev pub array_at : List ℕ → Json → Option Items
array_at key value = option_and_then as_array (get key value)
