use Rattle.std.proofs.Common.{◌≡◌, ◌+◌, ◌++◌, ◌∷◌, drop, map, ap, sym, ◌∙◌, arith, rules, append_assoc}
use Rattle.std.proofs.lemmas.List.{drop_more}
use Rattle.json.specs.Value.{members_view, value_view}
use Rattle.ttree_source.specs.Fields.{member_fields, members_fields}
use Rattle.ttree_source.proofs.fields.members_fields.Goals as goal

pub loop-member-preserved : goal.loop-member-preserved
loop-member-preserved c =
    let l = c.loop-member in
    let keys = map (λ key. key.now) c.args.keys.now in
    let xs = c.deref-member-items.result.now in
    let x = c.member-item.result in
    let others = drop (l.member-index + 1) xs in
    let here : drop l.member-index xs ≡ x ∷ others = drop_more xs l.member-index x (omega arith) ∙ ap (λ y. y ∷ others) (sym c.member-item.is) in
    let done = l.fields.items in
    let fields = member_fields keys x.0.now (value_view x.1) in
    let pushed : c.push_member.new.fields.items ≡ done ++ fields = search rules in
    l.invariant
    ∙ ap (λ vs. done ++ members_fields keys (members_view vs)) here
    ∙ sym (append_assoc done fields (members_fields keys (members_view others)))
    ∙ ap (λ front. front ++ members_fields keys (members_view others)) (sym pushed)
