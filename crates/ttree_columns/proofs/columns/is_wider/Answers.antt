use Rattle.std.proofs.Common.{◌-◌, ◌≤◌, arith, sym, ap, ◌∙◌}
use Rattle.std.proofs.lemmas.Str.{IsUtf8-past_char, chars_past_char}
use Rattle.std.proofs.StrCases.{chars_of_empty}
use Rattle.ttree_columns.specs.Columns.{is_wider}
use Rattle.ttree_columns.proofs.Fitted.{moved, wider_here, wider_later}
use Rattle.ttree_columns.proofs.columns.is_wider.Goals as goal

pub returns-then-taken-width : goal.returns-then-taken-width
returns-then-taken-width c =
    let (text, within, same) = c.loop-c.invariant in
    let parts = c.in-Some.ensures.steps.0 in
    let width = c.args.width in
    let place = c.loop-c.place in
    sym (wider_here width place c.in-Some.c _ _ c.columns-taken.ensures within (omega (arith, c.if-taken-width.true)))
    ∙ ap (is_wider width place) (sym (chars_past_char _ _ c.in-Some.c text parts)) ∙ same

pub loop-c-preserved : goal.loop-c-preserved
loop-c-preserved c =
    let (text, within, same) = c.loop-c.invariant in
    let parts = c.in-Some.ensures.steps.0 in
    let width = c.args.width in
    let place = c.loop-c.place in
    let less : c.columns-taken.result ≤ width - place.column = omega (arith, c.if-taken-width.false) in (
      IsUtf8-past_char _ _ c.in-Some.c text parts,
      omega (arith, within, less, moved place _ c.in-Some.c _ c.past-place.ensures c.columns-taken.ensures),
      wider_later width place _ c.in-Some.c _ _ c.past-place.ensures c.columns-taken.ensures within less
          ∙ ap (is_wider width place) (sym (chars_past_char _ _ c.in-Some.c text parts)) ∙ same,
    )

pub returns : goal.returns
returns c =
    let (text, within, same) = c.loop-c.invariant in
    ap (is_wider c.args.width c.loop-c.place) (sym (chars_of_empty _ c.in-None.ensures.steps.0.0)) ∙ same
