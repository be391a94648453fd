use Rattle.std.proofs.Common.{◌≡◌, ◌++◌, ◌∙◌, Some, List, ℕ, position, sym, ap, take}
use Rattle.tracing_tree_lines.proofs.LineEnds.{is_end, takes_held}
use Rattle.tracing_tree_lines.proofs.lines.input.read_held.Goals as goal

pub returns : goal.returns
returns g c =
    let remaining = g.L.LineInput.remaining in
    let held = g.L.LineInput.held c.args.lines.now in
    let end = c.in-Some.end in
    let found : position is_end held ≡ Some end = sym (ap (position is_end) c.held.ensures.held) ∙ sym c.line_end.ensures ∙ c.in-Some.is in
    let line : c.extend_from_slice.new.self.items ≡ take end held =
    c.in_ok-extend_from_slice.ensures.items ∙ ap (λ (l : List ℕ). l ++ take end c.held-2.result.now) c.clear.ensures.items ∙ ap (take end) c.held-2.ensures.held in
    takes_held (remaining c.args.lines.now) (remaining c.consume.new.self) held c.extend_from_slice.new.self.items end c.held.ensures.front found c.consume.ensures line
