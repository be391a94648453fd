use Rattle.std.proofs.Common.{refl, sym, ap, ◌∙◌}
use Rattle.ttree_logs.specs.Groups.{by_bytes, group_span}
use Rattle.ttree_logs.proofs.GroupLists.{looked_up}
use Rattle.ttree_logs.proofs.groups.Groups.find.Goals as goal

pub returns-in_default-copied-clause-missing : goal.returns-in_default-copied-clause-missing
returns-in_default-copied-clause-missing c =
    let key = c.args.key.items in
    let entries = c.self.inside.entries.entries in (
      ap (group_span key) (sym c.self.view_is) ∙ ap (λ key. group_span key (by_bytes entries)) (sym c.as_slice-2.ensures.value)
          ∙ sym (c.copied.ensures ∙ c.get.ensures.value ∙ looked_up c.as_slice-2.result.now entries) ∙ c.in_default-copied.is,
      refl,
    )

pub invariant_of-self : goal.invariant_of-self
invariant_of-self c =
    let entries = c.self.inside.entries.entries in
    ap (λ key. group_span key (by_bytes entries)) (sym c.as_slice-2.ensures.value)
    ∙ sym (c.copied.ensures ∙ c.get.ensures.value ∙ looked_up c.as_slice-2.result.now entries) ∙ c.in-Some-copied.is

pub returns-clause-found : goal.returns-clause-found
returns-clause-found c =
    let key = c.args.key.items in
    let entries = c.self.inside.entries.entries in
    ap (group_span key) (sym c.self.view_is) ∙ ap (λ key. group_span key (by_bytes entries)) (sym c.as_slice-2.ensures.value)
    ∙ sym (c.copied.ensures ∙ c.get.ensures.value ∙ looked_up c.as_slice-2.result.now entries) ∙ c.in-Some-copied.is
