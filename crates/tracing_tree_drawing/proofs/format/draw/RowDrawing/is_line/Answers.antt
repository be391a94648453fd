use Rattle.std.proofs.Common.{◌≡◌, ◌∙◌, true, false, sym, subst, arith}
use Rattle.std.proofs.lemmas.Str.Pattern.{ends_char}
use Rattle.tracing_tree_drawing.proofs.LineLaws.{IsUnbroken, line-lined, line-unlined, no-end}
use Rattle.tracing_tree_drawing.proofs.format.draw.RowDrawing.is_line.Goals as goal

pub returns-then-indent_lines : goal.returns-then-indent_lines
returns-then-indent_lines c = λ stays.
    let block = c.args.block.now in
    let lined : c.args.self.now.config.now.indent_lines ≡ true = sym c.indent_lines.ensures ∙ c.if-indent_lines.true in
    let unbroken : IsUnbroken block = subst IsUnbroken c.as_bytes.ensures.value
    (no-end c.as_bytes.result.now c.memchr.result c.memchr.ensures (sym c.is_some.ensures ∙ c.if-is_some.false)) in
    let returns = ends_char 13 block c.ends_with.result c.ends_with.ensures.cases (omega arith) in
    rw lined (line-lined block c.ends_with.result unbroken stays returns.1)

pub returns : goal.returns
returns c = λ filled.
    let block = c.args.block.now in
    let unlined : c.args.self.now.config.now.indent_lines ≡ false = sym c.indent_lines.ensures ∙ c.if-indent_lines.false in
    let unbroken : IsUnbroken block = subst IsUnbroken c.as_bytes.ensures.value
    (no-end c.as_bytes.result.now c.memchr.result c.memchr.ensures (sym c.is_some.ensures ∙ c.if-is_some.false)) in
    rw unlined (line-unlined block c.is_empty.result unbroken filled c.is_empty.ensures)
