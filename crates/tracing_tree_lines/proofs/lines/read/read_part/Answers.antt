use Rattle.std.proofs.Common.{◌+◌, length, take, sym, subst, ◌∙◌, arith, append-nil, take_all, le_refl}
use Rattle.std.specs.Io.KnownBytes.{Consumes}
use Rattle.std.specs.Io.BufRead.{FillKeeps}
use Rattle.std.proofs.BufReadLemmas.{Consumes_shown}
use Rattle.tracing_tree_lines.proofs.LineEnds.{ends_at, has_no_end}
use Rattle.tracing_tree_lines.proofs.lines.read.read_part.Goals as goal

pub returns-in_ok-extend_from_slice-in-Some : goal.returns-in_ok-extend_from_slice-in-Some
returns-in_ok-extend_from_slice-in-Some g c =
    let held = c.in-Ok.held.now in
    let e = ends_at held c.in-Some.end (sym c.line_end.ensures ∙ c.in-Some.is) in
    let rested = c.fill_buf.follows.lender-at-none in
    let filled = subst (FillKeeps _ (g.B.Read.remaining rested) (g.B.BufRead.consumable_len rested)) c.in-Ok.is c.fill_buf.follows.holds-at-none in
    let moved = Consumes_shown _ _ _ _ held (c.in-Some.end + 1) (omega (arith, e.inside)) c.in-Ok.ensures.front c.in-Ok.ensures.end filled.0 filled.1 c.consume.ensures.bytes in
    record {
      part = take c.in-Some.end held;
      within = e.clean;
      added = c.in_ok-extend_from_slice-in-Some.ensures.items;
      taken = subst (Consumes _ _) e.through moved.0;
    }

pub returns-in_ok-extend_from_slice-in-None : goal.returns-in_ok-extend_from_slice-in-None
returns-in_ok-extend_from_slice-in-None g c =
    let held = c.in-Ok.held.now in
    let rested = c.fill_buf.follows.lender-at-none in
    let filled = subst (FillKeeps _ (g.B.Read.remaining rested) (g.B.BufRead.consumable_len rested)) c.in-Ok.is c.fill_buf.follows.holds-at-none in
    let moved = Consumes_shown _ _ _ _ held (length held) (le_refl _) c.in-Ok.ensures.front c.in-Ok.ensures.end filled.0 filled.1 c.consume-in-None.ensures.bytes in
    record {
      part = held;
      within = has_no_end held (sym c.line_end.ensures ∙ c.in-None.is);
      added = c.in_ok-extend_from_slice-in-None.ensures.items;
      taken = subst (Consumes _ _) (take_all (length held) held (le_refl _) ∙ sym (append-nil held)) moved.0;
    }
