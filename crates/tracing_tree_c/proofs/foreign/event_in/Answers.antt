use Rattle.std.proofs.Common.{rules}
use Rattle.tracing_tree_c.proofs.foreign.event_in.Goals as goal

pub returns : goal.returns
returns c = (
  (search rules, search rules),
  record { target = search rules; fields_too = search rules; context = search rules },
  record { level = c.in_ok-level.level; parent = c.in_ok-parent.parent; context = c.in_ok-context.context; is_level = search rules; is_parent = search rules; is_context = search rules; is_call = search rules },
)
