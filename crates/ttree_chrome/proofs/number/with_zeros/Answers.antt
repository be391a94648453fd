use Rattle.std.proofs.Common.{◌≡◌, ◌*◌, ◌+◌, ◌^◌, ◌≤◌, ap, ◌∙◌, arith}
use Rattle.ttree_chrome.specs.Number.{if_fits}
use Rattle.ttree_chrome.proofs.Digits.{fits, more_zeros, one_zero_more, too_large}
use Rattle.ttree_chrome.proofs.number.with_zeros.Goals as goal

pub returns-in_err-number : goal.returns-in_err-number
returns-in_err-number c =
    let n = c.args.number in
    let i = c.loop-zero._zero in
    let m = c.loop-zero.number in
    let large : 2 ^ 64 ≤ m * 10 = omega (arith, c.in_err-number.ensures) in
    let same : m * 10 ≡ n * 10 ^ (i + 1) = one_zero_more m n i c.loop-zero.invariant.same in
    let more : n * 10 ^ (i + 1) ≤ n * 10 ^ c.args.count = more_zeros n (i + 1) c.args.count (omega (arith, c.loop-zero-test.true)) in
    c.from_residual.ensures ∙ too_large (m * 10) (n * 10 ^ c.args.count) large (omega (arith, same, more))

pub loop-zero-preserved : goal.loop-zero-preserved
loop-zero-preserved c =
    let m = c.loop-zero.number in
    record {
      same = c.in_ok-number.ensures.1 ∙ one_zero_more m c.args.number c.loop-zero._zero c.loop-zero.invariant.same;
      fits = omega (arith, c.in_ok-number.ensures.0, c.in_ok-number.ensures.1);
    }

pub returns : goal.returns
returns c =
    let all : c.loop-zero._zero ≡ c.args.count = omega (arith, c.loop-zero-test.false, c.loop-zero.auto._zero-end) in
    fits c.loop-zero.number c.loop-zero.invariant.fits
    ∙ ap if_fits (c.loop-zero.invariant.same ∙ ap (λ k. c.args.number * 10 ^ k) all)
