use Rattle.std.proofs.Common.{◌≡◌, sym, ap, subst, ◌∙◌, IsCharBoundary}
use Rattle.std.specs.List.{position_or_len}
use Rattle.xml.specs.Cut.{ends_at}
use Rattle.xml.proofs.Pieces.{piece_ends}
use Rattle.xml.proofs.cut.cut.Goals as goal

pub split_at-requires : goal.split_at-requires
split_at-requires c =
    let same : c.length_until.result ≡ position_or_len (ends_at c.args.until) c.args.text.now =
    c.length_until.ensures ∙ ap (λ t. position_or_len (ends_at c.args.until) t) c.as_bytes.ensures.value in
    subst (IsCharBoundary c.args.text.now) (sym same) (piece_ends c.args.until c.args.text.now)
