use Rattle.std.proofs.Common.{rules}
use Rattle.tracing_tree_c.proofs.foreign.new_in.Goals as goal

pub returns : goal.returns
returns c = (
  search rules,
  record { name = search rules; target = search rules; fields_too = search rules; context = search rules },
  record { parent = c.in_ok-parent.parent; context = c.in_ok-context.context; is_parent = search rules; is_context = search rules; is_call = search rules },
)
