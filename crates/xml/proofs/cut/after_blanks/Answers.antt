use Rattle.std.proofs.Common.{◌≡◌, sym, ap, subst, ◌∙◌, IsCharBoundary}
use Rattle.xml.specs.Cut.{blank_count}
use Rattle.xml.proofs.Pieces.{blanks_end}
use Rattle.xml.proofs.cut.after_blanks.Goals as goal

pub split_at-requires : goal.split_at-requires
split_at-requires c =
    let same : c.blank_count.result ≡ blank_count c.args.text.now = c.blank_count.ensures ∙ ap blank_count c.as_bytes.ensures.value in
    subst (IsCharBoundary c.args.text.now) (sym same) (blanks_end c.args.text.now c.utf8.text)
