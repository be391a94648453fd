use Rattle.std.proofs.Common.{◌≡◌, ◌==◌, drop, slice_index, true, false, None, option_and_then, sym, ap, ◌∙◌, arith, rules, take_all, length-drop}
use Rattle.fast_float.specs.Text.{scan}
use Rattle.serde_json.specs.Find.{as_i64, as_u64}
use Rattle.serde_json.specs.Read.{number_from, number_of}
use Rattle.tracing_tree_lines.proofs.BorrowedTrees.{minus_text, plain_text}
use Rattle.tracing_tree_lines.proofs.NumberParts.{negative_read, whole_read, negative_unread, whole_unread, negative_part, whole_part, no_part}
use Rattle.tracing_tree_lines.proofs.lines.number.number_part.Goals as goal

pub returns-in_err-number : goal.returns-in_err-number
returns-in_err-number c =
    let s = c.as_bytes-bytes.result.now in
    let minus : (slice_index s 0 == 45) ≡ true = sym c.if-has_minus.ensures.value in
    let parts : c.scan.result ≡ scan (drop 1 s) = c.scan.ensures.parts ∙ ap scan (take_all _ (drop 1 s) (omega (arith, length-drop 1 s))) in
    let none : option_and_then as_i64 (number_from true c.scan.result) ≡ None = search rules in
    let is : number_of s ≡ _ = minus_text s minus ∙ ap (number_from true) (sym parts) in
    let given = no_part s _ is (negative_unread c.scan.result none) in
    search (rules, given)

pub returns-then-has_minus : goal.returns-then-has_minus
returns-then-has_minus c =
    let s = c.as_bytes-bytes.result.now in
    let minus : (slice_index s 0 == 45) ≡ true = sym c.if-has_minus.ensures.value in
    let parts : c.scan.result ≡ scan (drop 1 s) = c.scan.ensures.parts ∙ ap scan (take_all _ (drop 1 s) (omega (arith, length-drop 1 s))) in
    let read : number_from true c.scan.result ≡ _ = negative_read c.scan.result c.in_ok-number.number (search rules) in
    let is : number_of s ≡ _ = minus_text s minus ∙ ap (number_from true) (sym parts) ∙ read in
    search (rules, negative_part, is)

pub returns-in_err-number-2 : goal.returns-in_err-number-2
returns-in_err-number-2 c =
    let s = c.as_bytes-bytes.result.now in
    let plain : (slice_index s 0 == 45) ≡ false = sym c.if-has_minus.ensures.value in
    let none : option_and_then as_u64 (number_from false c.scan-2.result) ≡ None = search rules in
    let is : number_of s ≡ _ = plain_text s plain ∙ ap (number_from false) (sym c.scan-2.ensures.parts) in
    let given = no_part s _ is (whole_unread c.scan-2.result none) in
    search (rules, given)

pub returns : goal.returns
returns c =
    let s = c.as_bytes-bytes.result.now in
    let plain : (slice_index s 0 == 45) ≡ false = sym c.if-has_minus.ensures.value in
    let read = whole_read c.scan-2.result c.in_ok-number-2.number (search rules) in
    let is = plain_text s plain ∙ ap (number_from false) (sym c.scan-2.ensures.parts) ∙ read in
    search (rules, whole_part, is)
