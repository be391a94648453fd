use Rattle.std.proofs.Common.{ap, ◌∙◌}
use Rattle.ttree_logs.specs.Groups.{by_bytes, with_group_span}
use Rattle.ttree_logs.proofs.GroupLists.{inserted}
use Rattle.ttree_logs.proofs.groups.Groups.put.Goals as goal

pub returns : goal.returns
returns c =
    ap by_bytes c.in_ok-insert.ensures.entries ∙ inserted c.self.inside.entries.entries c.args.key c.args.span ∙ ap (with_group_span c.args.key.items c.args.span) c.self.view_is
