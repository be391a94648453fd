use Rattle.std.proofs.Common.{◌≡◌, ◌++◌, false, not, drop, map, string_bytes}
use Rattle.serde_json.specs.Written.{items_text}
use Rattle.tracing_tree_lines.specs.Rows.Json.{text_items}
use Rattle.tracing_tree_lines.proofs.rows.json_text.push_texts.Given as goal

-- what is appended and what is left are the whole array
abbrev pub invariant-loop-text : goal.invariant-loop-text
invariant-loop-text l =
    string_bytes l.out ++ items_text (not l.first) (text_items (map (λ s. string_bytes s) (drop l.text-index l.fn.texts)))
    ≡ string_bytes l.initial.out ++ items_text false (text_items (map (λ s. string_bytes s) l.fn.texts))
