use Rattle.std.proofs.Common.{◌≡◌, bytes_eq, map}
use Rattle.std.specs.List.{list_any, list_all}
use Rattle.serde_json.specs.View.{members_view}
use Rattle.tracing_tree_lines.specs.Lines.Spelled.{present_keys}
use Rattle.tracing_tree_lines.proofs.lines.settings.timer.are_among.Given as goal

-- what holds of the rest holds of all
abbrev pub invariant-loop-key : goal.invariant-loop-key
invariant-loop-key l =
    list_all (λ key. list_any (bytes_eq key) (map (λ key. key.now) l.keys)) (present_keys (members_view l.members.entries))
    ≡ list_all (λ key. list_any (bytes_eq key) (map (λ key. key.now) l.keys)) (present_keys (members_view l.key-iterator))
