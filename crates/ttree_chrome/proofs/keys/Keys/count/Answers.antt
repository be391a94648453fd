use Rattle.std.proofs.Common.{ap, length, ◌∙◌}
use Rattle.ttree_chrome.proofs.KeyLists.{as_many}
use Rattle.ttree_chrome.proofs.keys.Keys.count.Goals as goal

pub returns : goal.returns
returns c = c.len.ensures.len ∙ as_many c.self.inside.entries.entries ∙ ap length c.self.view_is
