use Rattle.std.proofs.Common.{◌≡◌, ℕ, ◌*◌, ◌+◌, ◌-◌, ◌^◌, ◌≤◌, List, ◌++◌, length, take, sym, ap, ◌∙◌, arith}
use Rattle.std.specs.Prelude.{min}
use Rattle.std.proofs.lemmas.List.{take_min}
use Rattle.ttree_chrome.specs.Number.{digits_after, if_fits, moved_right}
use Rattle.ttree_chrome.proofs.Digits.{front_within, if_none, if_some, joined, too_large, whole_within}
use Rattle.ttree_chrome.proofs.number.moved_right.Goals as goal

pub returns-in_err-digits_from : goal.returns-in_err-digits_from
returns-in_err-digits_from c =
    let before = c.args.before.now in
    let after = c.args.after.now in
    let front = digits_after 0 before in
    c.from_residual.ensures
    ∙ too_large front (moved_right c.args.count before after) (if_none front c.in_err-digits_from.ensures)
    (front_within c.args.count before after)

pub returns-in_err-number : goal.returns-in_err-number
returns-in_err-number c =
    let before = c.args.before.now in
    let after = c.args.after.now in
    let front = digits_after 0 before in
    let same : c.in_ok-digits_from.field-0 ≡ front = if_some _ front c.in_ok-digits_from.ensures in
    let part : take c.min-taken.result after ≡ take c.args.count after = ap (λ n. take n after) c.min-taken.ensures ∙ take_min c.args.count after in
    let all = digits_after front (take c.args.count after) in
    let here : digits_after c.in_ok-digits_from.field-0 (take c.min-taken.result after) ≡ all = ap (λ n. digits_after n (take c.min-taken.result after)) same ∙ ap (digits_after front) part in
    c.from_residual-in_err-number.ensures
    ∙ too_large all (moved_right c.args.count before after)
    (if_none all (c.in_err-number.ensures ∙ ap if_fits here)) (whole_within c.args.count before after)

pub returns : goal.returns
returns c =
    let before = c.args.before.now in
    let after = c.args.after.now in
    let count = c.args.count in
    let front = digits_after 0 before in
    let same : c.in_ok-digits_from.field-0 ≡ front = if_some _ front c.in_ok-digits_from.ensures in
    let part : take c.min-taken.result after ≡ take count after = ap (λ n. take n after) c.min-taken.ensures ∙ take_min count after in
    let all = digits_after front (take count after) in
    let here : digits_after c.in_ok-digits_from.field-0 (take c.min-taken.result after) ≡ all = ap (λ n. digits_after n (take c.min-taken.result after)) same ∙ ap (digits_after front) part in
    let number : c.in_ok-number.number ≡ digits_after 0 (before ++ take count after) = if_some _ _ (c.in_ok-number.ensures ∙ ap if_fits here) ∙ sym (joined 0 before (take count after)) in
    let zeros : count - c.min-taken.result ≡ count - length after = omega (arith, c.min-taken.ensures) in
    c.with_zeros.ensures
    ∙ ap if_fits (ap (λ n. n * 10 ^ (count - c.min-taken.result)) number
    ∙ ap (λ k. digits_after 0 (before ++ take count after) * 10 ^ k) zeros)
