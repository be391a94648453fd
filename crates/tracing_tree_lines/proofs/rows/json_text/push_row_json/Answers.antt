use Rattle.std.proofs.Common.{◌≡◌, ◌∙◌, ◌++◌, List, ℕ, ap, refl, subst, OnOk, false, string_bytes, codes}
use Rattle.serde_json.specs.Written.{items_text}
use Rattle.tracing_tree_lines.specs.Rows.Json.{text_items}
use Rattle.tracing_tree_lines.specs.Rows.JsonSteps.{shape_text, level_json}
use Rattle.tracing_tree_lines.proofs.RowsRead.JsonTexts.{on_ok, row-pushed}
use Rattle.tracing_tree_lines.proofs.rows.json_text.push_row_json.Goals as goal

pub returns : goal.returns
returns c =
    let start = string_bytes c.args.out.now in
    let row = c.args.row.now in
    let shape : string_bytes c.push_shape.new.out ≡ start ++ shape_text row.shape =
    c.in_ok-push_shape.ensures ∙ ap (λ s. start ++ shape_text s) c.shape.ensures.shape in
    let level : string_bytes c.push_level_json.new.out ≡ string_bytes c.push_shape.new.out ++ level_json row.level =
    c.in_ok-push_level_json.ensures ∙ ap (λ n. string_bytes c.push_shape.new.out ++ level_json n) c.level.ensures in
    let texts : string_bytes c.push_texts.new.out ≡ string_bytes c.push_level_json.new.out ++ items_text false (text_items row.lines) =
    c.in_ok-push_texts.ensures ∙ ap (λ ls. string_bytes c.push_level_json.new.out ++ items_text false (text_items ls)) (c.as_slice.ensures ∙ c.lines.ensures.lines) in
    let whole = row-pushed row c.args.path.now start _ _ _ _ (string_bytes c.push_ancestors.new.out ++ codes "}\n") shape level texts c.in_ok-push_ancestors.ensures refl in
    subst (λ (t : List ℕ). OnOk c.push_str.result (string_bytes c.push_str.new.self ≡ t)) whole (on_ok c.push_str.result _ _ _ c.push_str.ensures.bytes)
