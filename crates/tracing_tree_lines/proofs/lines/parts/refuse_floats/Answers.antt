use Rattle.std.proofs.Common.{◌≡◌, true, rules}
use Rattle.tracing_tree_lines.proofs.LineParts.{floats_refused, whole_parts}
use Rattle.tracing_tree_lines.proofs.lines.parts.refuse_floats.Goals as goal

pub returns-then-parts : goal.returns-then-parts
returns-then-parts c =
    let whole : c.args.parts.now.is_whole ≡ true = search rules in
    whole_parts c.args.line.now c.args.parts.now c.requires whole

pub returns : goal.returns
returns c = floats_refused c.args.line.now c.args.parts.now c.refuse_float.result c.requires c.refuse_float.ensures
