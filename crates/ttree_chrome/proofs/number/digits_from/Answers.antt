use Rattle.std.proofs.Common.{◌≡◌, ◌*◌, ◌+◌, ◌^◌, ◌≤◌, ◌<◌, length, get_or, sym, ap, ◌∙◌, arith}
use Rattle.ttree_chrome.specs.Number.{digit_in, digits_after, if_fits}
use Rattle.ttree_chrome.proofs.Digits.{fits, none_left, step, too_large}
use Rattle.ttree_chrome.proofs.number.digits_from.Goals as goal

pub returns-in_err-checked_mul : goal.returns-in_err-checked_mul
returns-in_err-checked_mul c =
    let n = c.loop-rest.number in
    let rest = c.loop-rest.rest.now in
    let some : 0 < length rest = omega (arith, c.in-len1-up.len_at_least) in
    let large : 2 ^ 64 ≤ n * 10 = omega (arith, c.in_err-checked_mul.ensures) in
    let more : n * 10 ≤ digits_after n rest = omega (arith, step n rest some) in
    c.from_residual.ensures ∙ too_large (n * 10) (digits_after n rest) large more
    ∙ ap if_fits (sym c.loop-rest.invariant.same)

pub returns-in_err-number : goal.returns-in_err-number
returns-in_err-number c =
    let n = c.loop-rest.number in
    let rest = c.loop-rest.rest.now in
    let some : 0 < length rest = omega (arith, c.in-len1-up.len_at_least) in
    let sum = n * 10 + digit_in (get_or rest 0 0) in
    let large : 2 ^ 64 ≤ sum = omega (arith, c.in_err-number.ensures, c.in_ok-checked_mul.ensures.1, c.digit_in.ensures) in
    c.from_residual-in_err-number.ensures ∙ too_large sum (digits_after n rest) large (step n rest some)
    ∙ ap if_fits (sym c.loop-rest.invariant.same)

pub returns : goal.returns
returns c =
    let n = c.loop-rest.number in
    let rest = c.loop-rest.rest.now in
    fits n c.loop-rest.invariant.fits
    ∙ ap if_fits (none_left n rest c.in_default.len_below ∙ sym c.loop-rest.invariant.same)
