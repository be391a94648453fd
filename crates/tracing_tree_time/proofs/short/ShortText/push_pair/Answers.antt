use Rattle.std.proofs.Common.{◌++◌, ◌∷◌, [], ◌+◌, ◌/◌, ◌%◌, ◌∙◌, sym, ap, append_assoc, List, ℕ}
use Rattle.tracing_tree_time.proofs.Numbers.{digits_pair}
use Rattle.tracing_tree_time.proofs.short.ShortText.push_pair.Goals as goal

pub returns-clause-text : goal.returns-clause-text
returns-clause-text c =
    let old = c.args.self.now in
    let n = c.args.number in
    c.push-2.ensures.text
    ∙ ap (λ (t : List ℕ). t ++ (48 + n % 10) ∷ []) c.push.ensures.text
    ∙ append_assoc old ((48 + n / 10) ∷ []) ((48 + n % 10) ∷ [])
    ∙ ap (λ (t : List ℕ). old ++ t) (sym (digits_pair n c.requires.below))
