use Rattle.std.proofs.Common.{◌≡◌, ◌∙◌, true, rules}
use Rattle.ttree_logs.specs.LogTime.{is_digits}
use Rattle.ttree_logs.proofs.Numbers.{whole_parsed}
use Rattle.ttree_logs.proofs.logs.time.whole_of.Goals as goal

pub returns : goal.returns
returns c =
    let is : is_digits c.args.text.now ≡ true = search rules in
    c.ok.ensures.value ∙ whole_parsed c.args.text.now c.parse.result c.parse.ensures.value.0 is
