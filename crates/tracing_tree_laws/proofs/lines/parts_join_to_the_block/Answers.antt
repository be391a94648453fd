use Rattle.tracing_tree_drawing.proofs.PartsLaws.{parts_of-are_parts, parts_of-only}
use Rattle.tracing_tree_laws.proofs.lines.parts_join_to_the_block.Goals as goal

pub returns-clause-parts : goal.returns-clause-parts
returns-clause-parts c = parts_of-are_parts

pub returns-clause-only : goal.returns-clause-only
returns-clause-only c = parts_of-only
