use Rattle.std.proofs.Common.{◌≡◌, ◌++◌, drop, map}
use Rattle.json.specs.Value.{members_view}
use Rattle.ttree_source.specs.Fields.{members_fields}
use Rattle.ttree_source.proofs.fields.members_fields.Given as goal

-- what is read of all is what was read, and then what is read of the rest
abbrev pub invariant-loop-member : goal.invariant-loop-member
invariant-loop-member l =
    members_fields (map (λ key. key.now) l.fn.keys) (members_view l.member-items)
    ≡ l.fields.items ++ members_fields (map (λ key. key.now) l.fn.keys) (members_view (drop l.member-index l.member-items))
