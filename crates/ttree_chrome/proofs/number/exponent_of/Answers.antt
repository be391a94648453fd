use Rattle.std.proofs.Common.{◌∙◌}
use Rattle.ttree_chrome.proofs.Numbers.{exponent_parsed}
use Rattle.ttree_chrome.proofs.number.exponent_of.Goals as goal

pub returns : goal.returns
returns c = c.ok.ensures.value ∙ exponent_parsed c.args.text.now c.parse.result c.parse.ensures.value.0
