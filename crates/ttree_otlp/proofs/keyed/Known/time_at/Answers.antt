use Rattle.std.proofs.Common.{ap, ◌∙◌}
use Rattle.ttree_otlp.specs.Keyed.{kept_at}
use Rattle.ttree_otlp.proofs.Kept.{looked_up}
use Rattle.ttree_otlp.proofs.keyed.Known.time_at.Goals as goal

pub returns : goal.returns
returns c =
    let key = c.args.key.now in
    c.copied.ensures ∙ c.get.ensures.value ∙ looked_up key c.self.inside.entries.entries ∙ ap (kept_at key) c.self.view_is
