use Rattle.std.proofs.Common.{◌≡◌, ◌++◌, true, drop, string_bytes}
use Rattle.json.specs.Value.{items_view, members_view}
use Rattle.ttree_source.specs.JsonText.{items_text, members_text}
use Rattle.ttree_source.proofs.json_text.+json.Given as goal

-- what is written, and then what is left to write, are all
abbrev pub invariant-push_items-loop-item : goal.invariant-push_items-loop-item
invariant-push_items-loop-item l =
    string_bytes l.fn.out ++ items_text true (items_view l.item-items)
    ≡ string_bytes l.out ++ items_text l.is_first (items_view (drop l.item-index l.item-items))

abbrev pub invariant-push_members-loop-member : goal.invariant-push_members-loop-member
invariant-push_members-loop-member l =
    string_bytes l.fn.out ++ members_text true (members_view l.member-items)
    ≡ string_bytes l.out ++ members_text l.is_first (members_view (drop l.member-index l.member-items))
