use Rattle.std.proofs.Common.{◌≡◌, IfOk, rules}
use Rattle.json.specs.Value.{value_view}
use Rattle.ttree_adapters.specs.LineFields.{all_with, found_fields}
use Rattle.ttree_adapters.proofs.line_fields.LineFieldsMapping.map.Goals as goal

pub returns : goal.returns
returns c =
    let calls = all_with (found_fields (value_view c.in-Some.value.now) c.args.self.now) c.args.calls.items in
    let made : IfOk c.with_members.result (λ made. made.items ≡ calls) = search rules in
    rw c.in-Some.is (search rules)
