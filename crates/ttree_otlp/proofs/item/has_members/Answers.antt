use Rattle.std.proofs.Common.{◌≤◌, length, arith}
use Rattle.ttree_otlp.proofs.Inner.{with_members}
use Rattle.ttree_otlp.proofs.item.has_members.Goals as goal

pub returns-in-len1-up : goal.returns-in-len1-up
returns-in-len1-up c =
    let some : 1 ≤ length c.args.members.now.items = omega (arith, c.in-len1-up.len_at_least, c.as_slice.ensures.len) in
    with_members c.args.members.now.items some
