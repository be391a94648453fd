use Rattle.std.proofs.Common.{ap, ◌∙◌}
use Rattle.ttree_otlp.specs.Keyed.{by_bytes, kept_at, without_kept}
use Rattle.ttree_otlp.proofs.Kept.{looked_up, removed}
use Rattle.ttree_otlp.proofs.keyed.Groups.take.Goals as goal

pub returns-clause-group : goal.returns-clause-group
returns-clause-group c =
    let key = c.args.key.now in
    c.remove.ensures.value ∙ looked_up key c.self.inside.entries.entries ∙ ap (kept_at key) c.self.view_is

pub returns-clause-rest : goal.returns-clause-rest
returns-clause-rest c =
    let key = c.args.key.now in
    ap by_bytes c.remove.ensures.entries ∙ removed key c.self.inside.entries.entries ∙ ap (without_kept key) c.self.view_is
