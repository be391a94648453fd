use Rattle.std.proofs.Common.{◌≡◌, ◌++◌, drop}
use Rattle.json.specs.Value.{members_view}
use Rattle.ttree_logs.specs.LogFields.{inner_fields}
use Rattle.ttree_logs.proofs.logs.fields.+value.Given as goal

-- what is read of all is what was read, and then what is read of the rest
abbrev pub invariant-push_inner-loop-member : goal.invariant-push_inner-loop-member
invariant-push_inner-loop-member l =
    l.fn.fields.items ++ inner_fields l.fn.name (members_view l.member-items)
    ≡ l.fields.items ++ inner_fields l.fn.name (members_view (drop l.member-index l.member-items))
