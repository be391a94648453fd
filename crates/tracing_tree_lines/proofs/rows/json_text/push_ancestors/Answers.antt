use Rattle.std.proofs.Common.{◌∙◌, ◌++◌, ap, sym, false, codes, string_bytes, append_assoc}
use Rattle.serde_json.specs.Written.{items_text}
use Rattle.tracing_tree_lines.specs.Rows.Json.{place_items}
use Rattle.tracing_tree_lines.specs.Rows.JsonSteps.{ancestors_text}
use Rattle.tracing_tree_lines.proofs.rows.json_text.push_ancestors.Goals as goal

pub returns-in_ok-push_places : goal.returns-in_ok-push_places
returns-in_ok-push_places c =
    let start = string_bytes c.args.out.now in
    let places = items_text false (place_items c.in-Some.path.ancestors) in
    c.in_ok-push_places.ensures ∙ ap (λ t. t ++ places) c.in_ok-push_str.ensures.bytes
    ∙ append_assoc start (codes ",\"ancestors\":[") places ∙ ap (λ path. start ++ ancestors_text path) (sym c.in-Some.is)
