use Rattle.std.proofs.Common.{◌≡◌, ◌++◌, true, drop, string_bytes}
use Rattle.json.specs.Value.{items_view, members_view}
use Rattle.ttree_otlp.specs.AnyValue.{entry_json, items_json, values_json, variant_json}
use Rattle.ttree_otlp.proofs.any.+json.Given as goal

-- what is written, and then what is left to write, are all
abbrev pub invariant-push_items-loop-item : goal.invariant-push_items-loop-item
invariant-push_items-loop-item l =
    string_bytes l.fn.out ++ items_json l.with_keys true (items_view l.item-items)
    ≡ string_bytes l.out ++ items_json l.with_keys l.is_first (items_view (drop l.item-index l.item-items))

-- the member is among those that are left
abbrev pub invariant-push_entry-loop-member : goal.invariant-push_entry-loop-member
invariant-push_entry-loop-member l =
    string_bytes l.fn.out ++ entry_json (members_view l.member-items)
    ≡ string_bytes l.out ++ entry_json (members_view (drop l.member-index l.member-items))

abbrev pub invariant-push_variant-loop-member : goal.invariant-push_variant-loop-member
invariant-push_variant-loop-member l =
    string_bytes l.fn.out ++ variant_json (members_view l.member-items)
    ≡ string_bytes l.out ++ variant_json (members_view (drop l.member-index l.member-items))

abbrev pub invariant-push_values-loop-member : goal.invariant-push_values-loop-member
invariant-push_values-loop-member l =
    string_bytes l.fn.out ++ values_json l.with_keys (members_view l.member-items)
    ≡ string_bytes l.out ++ values_json l.with_keys (members_view (drop l.member-index l.member-items))
