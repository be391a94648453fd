use Rattle.std.proofs.Common.{arith, ◌++◌, ◌%◌, ◌/◌, ◌-◌, ◌∙◌, sym, ap, append_assoc, List, ℕ}
use Rattle.tracing_tree_time.specs.Numbers.{digits_in}
use Rattle.tracing_tree_time.proofs.Numbers.{digits-alone, digits-two, digits_in-pair, digits-under}
use Rattle.tracing_tree_time.proofs.short.ShortText.+push_digits.Goals as goal
use Rattle.tracing_tree_time.proofs.short.ShortText.+push_digits.Goals.{then-places-gt2, else-places-gt2}

pub returns-then-places-eq1-clause-text : goal.returns-then-places-eq1-clause-text
returns-then-places-eq1-clause-text t c =
    c.push.ensures.text
    ∙ ap (λ (text : List ℕ). c.args.self.now ++ text)
    (sym (digits-alone c.args.places c.args.number (omega arith) c.requires.below))

pub push_digits-requires : goal.push_digits-requires
push_digits-requires t c = (
  omega arith,
  (
    omega arith,
    (digits-under c.args.places c.args.number (omega arith) c.requires.below, omega arith),
  ),
)

pub returns-clause-text : goal.returns-clause-text
returns-clause-text t c =
    let old = c.args.self.now in
    let places = c.args.places in
    let n = c.args.number in
    let last = digits_in 2 (n % 100) in
    elim c.if-places-gt2.branch [
      | then-places-gt2 w ↦
          c.push_pair.ensures.text
          ∙ ap (λ (text : List ℕ). text ++ last) (w.self-is ∙ w.push_digits.ensures.text)
          ∙ append_assoc old (digits_in (places - 2) (n / 100)) last
          ∙ ap (λ (text : List ℕ). old ++ text)
          (sym (digits_in-pair places n (omega arith) c.ranges.number.fits))
      | else-places-gt2 w ↦
          c.push_pair.ensures.text
          ∙ ap (λ (text : List ℕ). text ++ last) w.self-is
          ∙ ap (λ (text : List ℕ). old ++ text) (sym (digits-two places n (omega arith) c.requires.below))
    ]
