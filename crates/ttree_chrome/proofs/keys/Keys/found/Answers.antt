use Rattle.std.proofs.Common.{ap, ◌∙◌}
use Rattle.ttree_chrome.specs.Keys.{found_key}
use Rattle.ttree_chrome.proofs.KeyLists.{looked_up}
use Rattle.ttree_chrome.proofs.keys.Keys.found.Goals as goal

pub returns : goal.returns
returns c =
    let key = c.args.key.now in
    c.copied.ensures ∙ c.get.ensures.value ∙ looked_up key c.self.inside.entries.entries ∙ ap (found_key key) c.self.view_is
