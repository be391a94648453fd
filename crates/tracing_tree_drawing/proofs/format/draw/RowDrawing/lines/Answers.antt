use Rattle.std.proofs.Common.{rules, arith, ◌≡◌, ◌∙◌, ◌++◌, ◌∷◌, [], ℕ, List, ap, sym, true, false, string_bytes}
use Rattle.std.proofs.lemmas.Str.Pattern.{split_parts}
use Rattle.tracing_tree_drawing.specs.Format.Frames.{pushed_text, row_of}
use Rattle.tracing_tree_drawing.specs.Format.Picture.{picture}
use Rattle.tracing_tree_drawing.specs.Format.Texts.{prefix_text}
use Rattle.tracing_tree_base.proofs.Extended.{extended_twice}
use Rattle.tracing_tree_drawing.proofs.LineLaws.{drawing-step, lined-last, unlined-last}
use Rattle.tracing_tree_drawing.proofs.format.draw.RowDrawing.lines.Goals as goal

pub loop-line-preserved : goal.loop-line-preserved
loop-line-preserved c =
    let self = c.args.self.now in
    let settings = self.config.now in
    let prefix = prefix_text settings self.context.now in
    let row = row_of self c.args.block.now in
    let line = c.in-Some.line.now in
    let frame = pushed_text c.loop-line.frame in
    let text = string_bytes c.loop-line.out in
    let parts = split_parts 10 c.loop-line.rest.now c.split_once.result c.split_once.ensures.cases (omega arith) in
    let cut = rw c.in-Some.is at parts in (
      search rules,
      drawing-step settings row (string_bytes c.args.out.now ++ picture settings row) text (string_bytes c.line.new.out)
          c.loop-line.rest.now frame (pushed_text c.frame-frame-in-Some.result) line c.in-Some.others.now
          c.loop-line.invariant.1 cut.0 cut.1
          (c.in_ok-line.ensures.ok ∙ ap (λ (here : List ℕ). text ++ (prefix ++ frame ++ here ++ 10 ∷ [])) c.without_return.ensures)
          c.frame-frame-in-Some.ensures,
      extended_twice (string_bytes c.args.out.now) text (string_bytes c.line.new.out) c.loop-line.invariant.2 c.line.ensures.extended,
    )

pub returns-then-indent_lines-clause-ok : goal.returns-then-indent_lines-clause-ok
returns-then-indent_lines-clause-ok c =
    let self = c.args.self.now in
    let settings = self.config.now in
    let row = row_of self c.args.block.now in
    let parts = split_parts 10 c.loop-line.rest.now c.split_once.result c.split_once.ensures.cases (omega arith) in
    let unbroken = rw c.in_default.is at parts in
    let lined : settings.indent_lines ≡ true = sym c.indent_lines.ensures ∙ c.if-indent_lines.true in
    lined-last c.line-then-indent_lines.result settings row (string_bytes c.args.out.now ++ picture settings row)
    (string_bytes c.loop-line.out) (string_bytes c.line-then-indent_lines.new.out) c.loop-line.rest.now (pushed_text c.loop-line.frame)
    c.without_return-then-indent_lines.result.now c.loop-line.invariant.1 lined unbroken c.without_return-then-indent_lines.ensures
    c.line-then-indent_lines.ensures.ok

pub returns-clause-ok : goal.returns-clause-ok
returns-clause-ok c =
    let self = c.args.self.now in
    let settings = self.config.now in
    let row = row_of self c.args.block.now in
    let parts = split_parts 10 c.loop-line.rest.now c.split_once.result c.split_once.ensures.cases (omega arith) in
    let unbroken = rw c.in_default.is at parts in
    let unlined : settings.indent_lines ≡ false = sym c.indent_lines.ensures ∙ c.if-indent_lines.false in
    let filled = sym c.is_empty.ensures ∙ c.if-is_empty.false in
    unlined-last c.line-2.result settings row (string_bytes c.args.out.now ++ picture settings row)
    (string_bytes c.loop-line.out) (string_bytes c.line-2.new.out) c.loop-line.rest.now (pushed_text c.loop-line.frame)
    c.loop-line.invariant.1 unlined unbroken filled c.line-2.ensures.ok
