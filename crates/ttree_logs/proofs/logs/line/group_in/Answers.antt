use Rattle.std.proofs.Common.{ap, sym, ◌∙◌, option_map}
use Rattle.json.specs.Value.{value_view}
use Rattle.ttree_logs.specs.LogLine.{group_at, group_in}
use Rattle.ttree_logs.proofs.logs.line.group_in.Goals as goal

pub returns-in-None : goal.returns-in-None
returns-in-None c =
    let v = value_view c.args.value.now in
    c.group_at.ensures ∙ ap (λ key. group_at key v) c.first_key.ensures
    ∙ ap (λ asked. group_in (option_map (λ k. k.now) asked) v) (sym c.in-None.is)
