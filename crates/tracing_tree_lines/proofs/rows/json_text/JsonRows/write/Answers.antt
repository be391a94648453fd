use Rattle.std.proofs.Common.{◌≡◌, ◌∙◌, ◌+◌, ◌++◌, ◌∷◌, [], ap, arith, length}
use Rattle.tracing_tree_lines.specs.Rows.Json.{row_json}
use Rattle.tracing_tree_lines.proofs.RowsRead.JsonRuns.{next-written}
use Rattle.tracing_tree_lines.proofs.rows.json_text.JsonRows.write.Goals as goal

pub returns : goal.returns
returns g c start rows room h =
    let row = c.args.row.now in
    let path = c.in_ok-path.path in
    let place : c.saturating_add-self.result ≡ length rows + 1 = let n = c.saturating_add-self.ensures in let m = h.counted in omega arith in
    let text : c.as_bytes.result.now ≡ row_json row path ++ 10 ∷ [] =
    c.as_bytes.ensures.value ∙ c.in_ok-push_row_json.ensures ∙ ap (λ t. t ++ (row_json row path ++ 10 ∷ [])) c.clear.ensures.bytes in
    next-written start rows row c.args.self.now _ path _ _ c.as_bytes.result.now c.write_text.result h (c.in_ok-path.ensures rows h.counted h.last) place text c.write_text.ensures
