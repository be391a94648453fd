-- The numbers of keys, in the order of the keys' bytes.
use Rattle.std.specs.Prelude.{ℕ, List, [], ◌∷◌, length, Option, Some, None, Vec}
use Rattle.std.specs.Global.{Global}
use Rattle.std.specs.Map.{lookup}
use Rattle.std.specs.BTreeMap.{insert_entry, is_at}
use Rattle.std.specs.Cmp.Lexicographic.{slice_cmp}
use Rattle.std.specs.Ordering.{nat_cmp}

abbrev pub Keys : Type 0
Keys = List (List ℕ × ℕ)

abbrev pub found_key : List ℕ → Keys → Option ℕ
found_key key keys = lookup (is_at (slice_cmp nat_cmp key)) keys

abbrev pub number_or : Option ℕ → ℕ → ℕ
number_or (Some number) next = number
number_or None next = next

-- the number of a key: a new one gets the next
abbrev pub key_number : List ℕ → Keys → ℕ
key_number key keys = number_or (found_key key keys) (length keys)

abbrev pub key_added : List ℕ → ℕ → Keys → Keys
key_added key number keys = insert_entry (slice_cmp nat_cmp) keys key number

abbrev pub added_if : Option ℕ → List ℕ → Keys → Keys
added_if (Some number) key keys = keys
added_if None key keys = key_added key (length keys) keys

-- the keys, and this one
abbrev pub with_key : List ℕ → Keys → Keys
with_key key keys = added_if (found_key key keys) key keys

-- each key as its bytes
abbrev pub by_bytes : List (Vec ℕ Global × ℕ) → Keys
by_bytes [] = []
by_bytes (e ∷ es) = (e.0.items, e.1) ∷ by_bytes es
