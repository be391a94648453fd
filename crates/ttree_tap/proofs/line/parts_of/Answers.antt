use Rattle.std.proofs.Common.{sym, subst}
use Rattle.std.specs.Str.{IsCharBoundary}
use Rattle.ttree_tap.proofs.Places.{note_boundary}
use Rattle.ttree_tap.proofs.line.parts_of.Goals as goal

pub split_at-requires : goal.split_at-requires
split_at-requires c =
    let text = c.args.text.now in
    subst (IsCharBoundary text) (sym c.note_place.ensures.value) (note_boundary text c.utf8.text)
