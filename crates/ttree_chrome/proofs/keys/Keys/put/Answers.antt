use Rattle.std.proofs.Common.{ap, ◌∙◌}
use Rattle.ttree_chrome.specs.Keys.{by_bytes, key_added}
use Rattle.ttree_chrome.proofs.KeyLists.{inserted}
use Rattle.ttree_chrome.proofs.keys.Keys.put.Goals as goal

pub returns : goal.returns
returns c =
    ap by_bytes c.in_ok-insert.ensures.entries ∙ inserted c.self.inside.entries.entries c.args.key c.args.number ∙ ap (key_added c.args.key.items c.args.number) c.self.view_is
