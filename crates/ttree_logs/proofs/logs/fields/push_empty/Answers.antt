use Rattle.std.proofs.Common.{◌≤◌, ◌++◌, length, sym, ap, ◌∙◌, arith, append-nil}
use Rattle.ttree_logs.proofs.Inner.{has_members}
use Rattle.ttree_logs.proofs.logs.fields.push_empty.Goals as goal

pub returns-in-len1-up : goal.returns-in-len1-up
returns-in-len1-up c =
    let fields = c.args.fields.now.items in
    let some : 1 ≤ length c.args.members.now.items = omega (arith, c.in-len1-up.len_at_least, c.as_slice.ensures.len) in
    sym (ap (λ more. fields ++ more) (has_members c.args.name.now c.args.members.now.items some) ∙ append-nil fields)
