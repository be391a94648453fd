use Rattle.std.proofs.Common.{◌∙◌, ap, refl, arith, Bor, List, ℕ}
use Rattle.std.proofs.lemmas.Str.Pattern.{strip_suffix_char}
use Rattle.tracing_tree_drawing.proofs.LineLaws.{strip-by}
use Rattle.tracing_tree_drawing.proofs.format.draw.without_return.Goals as goal

pub returns : goal.returns
returns c =
    let line = c.args.line in
    let found = strip_suffix_char 13 line.now c.strip_suffix.result c.strip_suffix.ensures.cases (omega arith) in
    ap (λ (text : Bor (List ℕ)). text.now) c.unwrap_or.ensures ∙ strip-by line.now c.strip_suffix.result line refl found
