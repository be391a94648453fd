use Rattle.std.proofs.Common.{◌≡◌, false, if◌then◌else◌, length, take, drop, Some, None, sym, ap, ◌∙◌}
use Rattle.std.proofs.lemmas.Cmp.{nat_list_eq_equiv}
use Rattle.ttree_source.specs.Marks.{begins}
use Rattle.ttree_junit.proofs.failure.after_bytes.Goals as goal

pub returns-in-None : goal.returns-in-None
returns-in-None c =
    let mark = c.args.mark.now in
    let text = c.args.text.now in
    let other : begins mark text ≡ false = nat_list_eq_equiv.symm mark (take (length mark) text) ∙ c.in-None.ensures.cases in
    ap (λ b. if b then Some (drop (length mark) text) else None) (sym other)
