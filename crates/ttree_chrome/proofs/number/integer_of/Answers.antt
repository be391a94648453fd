use Rattle.std.proofs.Common.{◌∙◌}
use Rattle.ttree_chrome.proofs.Numbers.{integer_parsed}
use Rattle.ttree_chrome.proofs.number.integer_of.Goals as goal

pub returns : goal.returns
returns c = c.ok.ensures.value ∙ integer_parsed c.args.text.now c.parse.result c.parse.ensures.value.0
