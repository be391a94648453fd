-- The spans of groups by the groups' keys, in the order of the keys' bytes.
use Rattle.std.specs.Prelude.{◌≡◌, ℕ, ⊤, if◌then◌else◌, List, [], ◌∷◌, Option, None, Some, Vec}
use Rattle.std.specs.Global.{Global}
use Rattle.std.specs.Map.{lookup}
use Rattle.std.specs.BTreeMap.{insert_entry, is_at}
use Rattle.std.specs.Cmp.Lexicographic.{slice_cmp}
use Rattle.std.specs.Ordering.{nat_cmp}
use Rattle.std.specs.Str.{bytes_eq}
use Rattle.tracing_tree_base.specs.declared.context.Id.{Id}
use Rattle.ttree_logs.specs.declared.groups.Found.{Found}

-- the span of the group with this key
abbrev pub group_span : List ℕ → List (List ℕ × Id) → Option Id
group_span key groups = lookup (is_at (slice_cmp nat_cmp key)) groups

-- with this span for the group with this key
abbrev pub with_group_span : List ℕ → Id → List (List ℕ × Id) → List (List ℕ × Id)
with_group_span key id groups = insert_entry (slice_cmp nat_cmp) groups key id

-- each key as its bytes
abbrev pub by_bytes : List (Vec ℕ Global × Id) → List (List ℕ × Id)
by_bytes [] = []
by_bytes (e ∷ es) = (e.0.items, e.1) ∷ by_bytes es

-- ---- the group that was found last

-- its span, if it has this key
abbrev pub span_if_last : List ℕ → Option Found → Option Id
span_if_last key None = None
span_if_last key (Some last) = if bytes_eq last.key.items key then Some last.span else None

-- it is one of the groups
abbrev pub Holds : Option Found → List (List ℕ × Id) → Type 0
Holds None groups = ⊤
Holds (Some last) groups = group_span last.key.items groups ≡ Some last.span
