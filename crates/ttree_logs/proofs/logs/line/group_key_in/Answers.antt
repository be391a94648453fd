use Rattle.std.proofs.Common.{ap, sym, ◌∙◌, option_map}
use Rattle.json.specs.Value.{value_view}
use Rattle.ttree_logs.specs.LogLine.{first_key, keys_of_groups}
use Rattle.ttree_logs.proofs.logs.line.group_key_in.Goals as goal

pub returns-in-None : goal.returns-in-None
returns-in-None c =
    c.first_key.ensures
    ∙ ap (λ asked. first_key (keys_of_groups (option_map (λ k. k.now) asked)) (value_view c.args.value.now)) (sym c.in-None.is)
