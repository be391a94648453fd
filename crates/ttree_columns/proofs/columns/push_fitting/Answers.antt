use Rattle.std.proofs.Common.{◌-◌, ◌<◌, ◌++◌, arith, sym, ap, ◌∙◌, append_assoc, append-nil, string_bytes}
use Rattle.std.proofs.lemmas.Str.{IsUtf8-past_char, chars_past_char}
use Rattle.std.proofs.StrCases.{chars_of_empty}
use Rattle.std.specs.Char.{encode_utf8}
use Rattle.std.specs.Str.{encode_utf8_all}
use Rattle.ttree_columns.specs.Columns.{column_after, fitting}
use Rattle.ttree_columns.proofs.Fitted.{moved, fits_none, fits_one, reached_later}
use Rattle.ttree_columns.proofs.columns.push_fitting.Goals as goal

pub loop-c-preserved : goal.loop-c-preserved
loop-c-preserved c =
    let (text, within, same, reached) = c.loop-c.invariant in
    let parts = c.in-Some.ensures.steps.0 in
    let width = c.args.width in
    let place = c.loop-c.place in
    let out = string_bytes c.loop-c.out in
    let less : c.columns-taken.result < width - place.column = omega (arith, c.if-taken-width.false) in
    let more = encode_utf8_all (fitting width c.past-place.result _) in
    let whole = chars_past_char _ _ c.in-Some.c text parts in (
      IsUtf8-past_char _ _ c.in-Some.c text parts,
      omega (arith, within, less, moved place _ c.in-Some.c _ c.past-place.ensures c.columns-taken.ensures),
      ap (λ l. l ++ more) c.in_ok-push.ensures.bytes ∙ append_assoc out (encode_utf8 c.in-Some.c) more
          ∙ ap (λ cs. out ++ encode_utf8_all cs)
          (fits_one width place _ c.in-Some.c _ _ c.past-place.ensures c.columns-taken.ensures within less
          ∙ ap (fitting width place) (sym whole)) ∙ same,
      reached_later width place _ c.in-Some.c _ _ c.past-place.ensures c.columns-taken.ensures within less
          ∙ ap (λ cs. column_after place (fitting width place cs)) (sym whole) ∙ reached,
    )

pub returns-then-taken-width-clause-text : goal.returns-then-taken-width-clause-text
returns-then-taken-width-clause-text c =
    let (text, within, same, reached) = c.loop-c.invariant in
    let parts = c.in-Some.ensures.steps.0 in
    let width = c.args.width in
    let place = c.loop-c.place in
    let out = string_bytes c.loop-c.out in
    sym (append-nil out)
    ∙ ap (λ cs. out ++ encode_utf8_all cs)
    (sym (fits_none width place c.in-Some.c _ _ c.columns-taken.ensures within (omega (arith, c.if-taken-width.true)))
    ∙ ap (fitting width place) (sym (chars_past_char _ _ c.in-Some.c text parts))) ∙ same

pub returns-then-taken-width-clause-column : goal.returns-then-taken-width-clause-column
returns-then-taken-width-clause-column c =
    let (text, within, same, reached) = c.loop-c.invariant in
    let parts = c.in-Some.ensures.steps.0 in
    let width = c.args.width in
    let place = c.loop-c.place in
    ap (column_after place)
    (sym (fits_none width place c.in-Some.c _ _ c.columns-taken.ensures within (omega (arith, c.if-taken-width.true)))
    ∙ ap (fitting width place) (sym (chars_past_char _ _ c.in-Some.c text parts))) ∙ reached

pub returns-clause-text : goal.returns-clause-text
returns-clause-text c =
    let (text, within, same, reached) = c.loop-c.invariant in
    let out = string_bytes c.loop-c.out in
    sym (append-nil out)
    ∙ ap (λ cs. out ++ encode_utf8_all (fitting c.args.width c.loop-c.place cs))
    (sym (chars_of_empty _ c.in-None.ensures.steps.0.0)) ∙ same

pub returns-clause-column : goal.returns-clause-column
returns-clause-column c =
    let (text, within, same, reached) = c.loop-c.invariant in
    let place = c.loop-c.place in
    ap (λ cs. column_after place (fitting c.args.width place cs))
    (sym (chars_of_empty _ c.in-None.ensures.steps.0.0)) ∙ reached
