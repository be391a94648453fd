-- Lists by names, in the order of the names' bytes.
use Rattle.std.specs.Prelude.{ℕ, List, [], ◌∷◌, Option, None, Some, Bool, true, false, not, is_some, option_map, Box, Vec}
use Rattle.std.specs.Global.{Global}
use Rattle.std.specs.Map.{lookup, remove_entry}
use Rattle.std.specs.BTreeMap.{insert_entry, is_at}
use Rattle.std.specs.Str.{bytes_eq}
use Rattle.std.specs.Cmp.Lexicographic.{slice_cmp}
use Rattle.std.specs.Ordering.{nat_cmp}
use Rattle.ttree_go_test.specs.declared.names.Recent.{Recent}

module _ {X : Type 0} where
  -- what has this name
  abbrev pub named : List ℕ → List (List ℕ × X) → Option X
  named name list = lookup (is_at (slice_cmp nat_cmp name)) list

  -- all but what has this name
  abbrev pub without : List ℕ → List (List ℕ × X) → List (List ℕ × X)
  without name list = remove_entry (is_at (slice_cmp nat_cmp name)) list

  -- with this entry under this name
  abbrev pub put : List ℕ → X → List (List ℕ × X) → List (List ℕ × X)
  put name one list = insert_entry (slice_cmp nat_cmp) list name one

  -- each name as its bytes
  abbrev pub by_bytes : List (Vec ℕ Global × X) → List (List ℕ × X)
  by_bytes [] = []
  by_bytes (e ∷ es) = (e.0.items, e.1) ∷ by_bytes es

  -- with this value under this name, if there is one
  abbrev pub with_value : List ℕ → Option X → List (List ℕ × X) → List (List ℕ × X)
  with_value name None list = list
  with_value name (Some one) list = put name one list

  -- with the value that was used last
  abbrev pub with_recent : Option (Recent X) → List (List ℕ × X) → List (List ℕ × X)
  with_recent None list = list
  with_recent (Some recent) list = with_value recent.name.items recent.one list

  -- whether the name that was used last isn't in the list
  abbrev pub is_apart : Option (Recent X) → List (List ℕ × X) → Bool
  is_apart None list = true
  is_apart (Some recent) list = not (is_some (named recent.name.items list))

  -- ---- the name that was used last, and its value

  abbrev pub unboxed : Option (Box (Recent X) Global) → Option (Recent X)
  unboxed recent = option_map (λ (b : Box (Recent X) Global). b.value) recent

  -- whether it is this name
  abbrev pub is_recent : List ℕ → Option (Recent X) → Bool
  is_recent name None = false
  is_recent name (Some recent) = bytes_eq recent.name.items name

  abbrev pub value_of : Option (Recent X) → Option X
  value_of None = None
  value_of (Some recent) = recent.one

  -- without its value
  abbrev pub emptied : Option (Recent X) → Option (Recent X)
  emptied None = None
  emptied (Some recent) = Some (record recent { one = None })

  -- with this value
  abbrev pub filled : X → Option (Recent X) → Option (Recent X)
  filled one None = None
  filled one (Some recent) = Some (record recent { one = Some one })
