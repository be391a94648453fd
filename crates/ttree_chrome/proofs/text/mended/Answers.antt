use Rattle.std.proofs.Common.{◌≡◌, sym, ap, subst, ◌∙◌, IsCharBoundary}
use Rattle.ttree_chrome.specs.Text.{ScanState, scan_of}
use Rattle.ttree_chrome.proofs.Places.{place_is_boundary}
use Rattle.ttree_chrome.proofs.text.mended.Goals as goal

pub range-requires-clause-end_boundary : goal.range-requires-clause-end_boundary
range-requires-clause-end_boundary c =
    let text = c.args.text.now in
    let same : c.scan.inside.place ≡ (scan_of text).place =
    ap (λ (s : ScanState). s.place) (c.scan.view_is ∙ c.in_ok-scan.ensures) ∙ ap (λ t. (scan_of t).place) c.as_bytes.ensures.value in
    subst (IsCharBoundary text) (sym same) (place_is_boundary text c.utf8.text)
