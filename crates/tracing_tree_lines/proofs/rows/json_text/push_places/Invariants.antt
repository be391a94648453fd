use Rattle.std.proofs.Common.{◌≡◌, ◌++◌, false, not, drop, string_bytes}
use Rattle.serde_json.specs.Written.{items_text}
use Rattle.tracing_tree_lines.specs.Rows.Json.{place_items}
use Rattle.tracing_tree_lines.proofs.rows.json_text.push_places.Given as goal

-- what is appended and what is left are the whole array
abbrev pub invariant-loop-place : goal.invariant-loop-place
invariant-loop-place l =
    string_bytes l.out ++ items_text (not l.first) (place_items (drop l.place-index l.place-items))
    ≡ string_bytes l.initial.out ++ items_text false (place_items l.place-items)
