use Rattle.std.proofs.Common.{◌≡◌, ◌++◌, drop}
use Rattle.json.specs.Value.{members_view}
use Rattle.ttree_logs.specs.LogFields.{members_fields}
use Rattle.ttree_logs.proofs.logs.fields.push_members.Given as goal

-- what is read of all is what was read, and then what is read of the rest
abbrev pub invariant-loop-member : goal.invariant-loop-member
invariant-loop-member l =
    l.fn.fields.items ++ members_fields l.fn.used (members_view l.member-items)
    ≡ l.fields.items ++ members_fields l.fn.used (members_view (drop l.member-index l.member-items))
