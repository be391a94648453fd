use Rattle.std.proofs.Common.{sym, string_bytes}
use Rattle.serde_json.proofs.FreeTexts.{text_of_str}
use Rattle.tracing_tree_lines.proofs.RowsRead.JsonTexts.{on_ok}
use Rattle.tracing_tree_lines.proofs.rows.json_text.push_text.Goals as goal

pub returns : goal.returns
returns c =
    let sent = c.in-Ok.ensures.events in
    let is = text_of_str c.args.text.now sent.0 (string_bytes c.in-Ok.quoted) sent.1 sent.2 in
    rw (sym is) (rw (sym c.as_str.ensures.value) (on_ok c.push_str.result _ _ _ c.push_str.ensures.bytes))
