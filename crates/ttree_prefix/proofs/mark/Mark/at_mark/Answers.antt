use Rattle.std.proofs.Common.{ap, sym, ◌∙◌}
use Rattle.ttree_prefix.specs.Mark.{prefix_end}
use Rattle.ttree_prefix.proofs.Places.{boundary}
use Rattle.ttree_prefix.proofs.mark.Mark.at_mark.Goals as goal

pub split_at-requires : goal.split_at-requires
split_at-requires c =
    boundary c.args.self c.args.line.now c.in_ok-place.place
    (ap (λ line. prefix_end c.args.self line) (sym c.as_bytes.ensures.value)
    ∙ sym c.place_of.ensures
    ∙ c.in_ok-place.was)
