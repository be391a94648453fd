use Rattle.std.proofs.Common.{◌≡◌, ◌==◌, ◌∙◌, ◌+◌, ◌++◌, ◌∷◌, [], ◌<◌, List, ℕ, String, Global, ap, sym, map, length, take, string_bytes, arith, ne_eqb, if◌then◌else◌}
use Rattle.std.proofs.lemmas.List.{take_more, take_all, map-append, length-map, length-take-le}
use Rattle.tracing_tree_drawing.specs.Format.Picture.{lined_frame}
use Rattle.tracing_tree_drawing.specs.Rows.RowText.{ended, mode_of}
use Rattle.tracing_tree_drawing.proofs.RowsRead.RowLines.{framed_lines, row_text-lines}
use Rattle.tracing_tree_drawing.proofs.RowsRead.DrawnRows.{line-pushed}
use Rattle.tracing_tree_drawing.proofs.rows.draw.draw_row.Goals as goal

pub loop-line-preserved : goal.loop-line-preserved
loop-line-preserved c =
    let shape = c.args.row.now.shape in
    let level = c.args.row.now.level in
    let items : List (String Global) = c.as_slice-line-items.result.now in
    let i : ℕ = c.loop-line.line-index in
    let within : i < length items = c.loop-line-test.true in
    let before : List (List ℕ) = map (λ s. string_bytes s) (take i items) in
    let text : List ℕ = string_bytes c.line-item.result in
    let count : length before ≡ i = length-map (take i items) (λ s. string_bytes s) ∙ length-take-le i items (omega arith) in
    let more : map (λ s. string_bytes s) (take (i + 1) items) ≡ before ++ text ∷ [] =
    ap (map (λ s. string_bytes s)) (take_more items i c.line-item.result within)
    ∙ map-append (λ s. string_bytes s) (take i items) _
    ∙ ap (λ (s : String Global). before ++ string_bytes s ∷ []) (sym c.line-item.is) in
    let frame : List ℕ = lined_frame (mode_of shape) c.args.amount level (if c.loop-line.first then 0 else 1) in
    let place : ℕ = if c.loop-line.first then 0 else 1 in
    let mode : c.mode_of-mode.result ≡ mode_of shape = c.mode_of-mode.ensures ∙ ap mode_of c.shape.ensures.shape in
    let framed : string_bytes c.push_frame.new.out ≡ string_bytes c.loop-line.out ++ frame =
    c.in_ok-push_frame.ensures.ok
    ∙ ap (λ m. string_bytes c.loop-line.out ++ lined_frame m c.args.amount c.level-level.result place) mode
    ∙ ap (λ n. string_bytes c.loop-line.out ++ lined_frame (mode_of shape) c.args.amount n place) c.level-level.ensures in
    let start : List ℕ = string_bytes c.args.out.now in
    let whole : string_bytes c.push_str-in-loop-line.new.self
    ≡ (((start ++ ended (framed_lines c.args.amount shape level before)) ++ frame) ++ text) ++ 10 ∷ [] =
    c.in_ok-push_str-2.ensures.bytes ∙ ap (λ t. t ++ 10 ∷ [])
    (c.in_ok-push_str.ensures.bytes ∙ ap (λ t. string_bytes c.push_frame.new.out ++ t) c.as_str.ensures.value
    ∙ ap (λ t. t ++ text) (framed ∙ ap (λ t. t ++ frame) c.loop-line.invariant.0)) in (
      line-pushed c.args.amount shape level before text start (string_bytes c.push_str-in-loop-line.new.self) c.loop-line.first
          (c.loop-line.invariant.1 ∙ ap (λ (n : ℕ). n == 0) (sym count)) whole
          ∙ ap (λ ls. start ++ ended (framed_lines c.args.amount shape level ls)) (sym more),
      sym (ne_eqb (i + 1) 0 (λ e. omega arith)),
    )

pub returns-clause-text : goal.returns-clause-text
returns-clause-text c =
    let items : List (String Global) = c.as_slice-line-items.result.now in
    let row = c.args.row.now in
    c.loop-line.invariant.0
    ∙ ap (λ ls. string_bytes c.args.out.now ++ ended (framed_lines c.args.amount row.shape row.level (map (λ s. string_bytes s) ls))) (take_all c.loop-line.line-index items c.loop-line-test.false)
    ∙ ap (λ ls. string_bytes c.args.out.now ++ ended (framed_lines c.args.amount row.shape row.level ls)) (c.as_slice-line-items.ensures ∙ c.lines.ensures.lines)
    ∙ ap (λ t. string_bytes c.args.out.now ++ t) (sym (row_text-lines c.args.amount row))
