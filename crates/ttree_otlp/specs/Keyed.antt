-- What is kept by trace and span: the earliest time of each, and the rows nested in each.
use Rattle.std.specs.Prelude.{ℕ, min, Bool, true, false, List, [], ◌∷◌, ◌++◌, Option, Some, None, Vec, codes}
use Rattle.std.specs.Global.{Global}
use Rattle.std.specs.Map.{lookup, remove_entry}
use Rattle.std.specs.BTreeMap.{insert_entry, is_at}
use Rattle.std.specs.Cmp.Lexicographic.{slice_cmp}
use Rattle.std.specs.Ordering.{nat_cmp}
use Rattle.ttree_otlp.specs.declared.item.Item.{Item}

-- a span and its trace; without a span it is the trace, and without either the root
abbrev pub key_of : List ℕ → List ℕ → List ℕ
key_of trace span = span ++ codes " " ++ trace

module _ {V : Type 0} where
  -- what is kept at this key
  abbrev pub kept_at : List ℕ → List (List ℕ × V) → Option V
  kept_at key entries = lookup (is_at (slice_cmp nat_cmp key)) entries

  -- with this at this key
  abbrev pub with_kept : List ℕ → V → List (List ℕ × V) → List (List ℕ × V)
  with_kept key value entries = insert_entry (slice_cmp nat_cmp) entries key value

  -- without what is kept at this key
  abbrev pub without_kept : List ℕ → List (List ℕ × V) → List (List ℕ × V)
  without_kept key entries = remove_entry (is_at (slice_cmp nat_cmp key)) entries

  -- each key as its bytes
  abbrev pub by_bytes : List (Vec ℕ Global × V) → List (List ℕ × V)
  by_bytes [] = []
  by_bytes (e ∷ es) = (e.0.items, e.1) ∷ by_bytes es

  abbrev pub first_kept : List (List ℕ × V) → Option V
  first_kept [] = None
  first_kept (e ∷ es) = Some e.1

  abbrev pub after_first : List (List ℕ × V) → List (List ℕ × V)
  after_first [] = []
  after_first (e ∷ es) = es

abbrev pub lowered_as : Option ℕ → List ℕ → ℕ → List (List ℕ × ℕ) → List (List ℕ × ℕ)
lowered_as (Some earliest) key time known = with_kept key (min earliest time) known
lowered_as None key time known = known

-- the time at a key is this one, if this one is earlier
abbrev pub lowered : List ℕ → ℕ → List (List ℕ × ℕ) → List (List ℕ × ℕ)
lowered key time known = lowered_as (kept_at key known) key time known

module _ {T : Type 0} where
  abbrev pub has_none : List T → Bool
  has_none [] = true
  has_none (x ∷ xs) = false

  abbrev pub head_of : List T → Option T
  head_of [] = None
  head_of (x ∷ xs) = Some x

  abbrev pub tail_of : List T → List T
  tail_of [] = []
  tail_of (x ∷ xs) = xs

-- the trace of the first of these rows
abbrev pub trace_of : List Item → List ℕ
trace_of [] = []
trace_of (x ∷ xs) = x.trace

-- the time of the first of these rows
abbrev pub first_time : List Item → ℕ
first_time [] = 0
first_time (x ∷ xs) = x.time
